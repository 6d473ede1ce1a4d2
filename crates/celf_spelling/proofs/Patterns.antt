-- The text of a pattern spells its binders.
use Rattle.std.proofs.Common.{ℕ, ◌≡◌, ◌+◌, ◌<◌, ◌≤◌, ◌^◌, ◌==◌, suc, false, refl, sym, List, [], ◌∷◌, ◌++◌, length, append_assoc, append-nil, Some, codes, arith}
use Rattle.std.proofs.lemmas.Bool.{lt-ltb, ne_eqb}
use Rattle.clf_syntax.specs.declared.tree.Mode.{Mode}
use Rattle.celf_lexer.specs.declared.token.TokenKind.TheVariants as kind
use Rattle.celf_lexer.specs.Tokens.{Lexeme}
use Rattle.celf_lexer.proofs.Spelling.{BeginsWith}
use Rattle.celf_surface.specs.declared.surface.SMode.{SMode}
use Rattle.celf_surface.specs.Surface.{WrittenPattern, pattern_one, pattern_entry, pattern_list, patterns_of}
use Rattle.celf_grammar.specs.State.{State, Takes, TakesName, TakesOne}
use Rattle.celf_grammar.specs.Grammar.{IsPattern, pat_one, pat_entry, pat_list, IsPatterns, pats_first, pats_more, binder_named}
use Rattle.celf_sugar.specs.declared.plain.PBinder.{PBinder}
use Rattle.celf_sugar.specs.Sugar.{binders, all_binders}
use Rattle.clf_printer.specs.Text.{listed, mark_text, new_variable_text, binder_text, binders_text, pattern_text}
use Rattle.celf_spelling.specs.Printed.{mark_for, printed_binders}
use Rattle.celf_spelling.proofs.Signs.{tokens-one}
use Rattle.celf_spelling.proofs.Variables.{variable-declarable}
use Rattle.celf_spelling.proofs.Standing.{state, behind, end_of, taken, taken-first, opening-behind, opening-first, IsRead, Stands}
use Rattle.celf_spelling.proofs.ObjectSpelled.{BinderFirst, binder-first}
use Rattle.celf_spelling.proofs.Sequences.{SpellsPart, IsSequence, part-map, spells-one, spells-more, spells-brackets}

patterns-cons : {s u v w : State} {p : WrittenPattern} {ps : List WrittenPattern} → IsPattern s p u → Takes kind.Comma u v → IsPatterns v ps w → IsPatterns s (p ∷ ps) w
patterns-cons a c (pats_first b) = pats_more (pats_first a) c b
patterns-cons a c (pats_more bs d b) = pats_more (patterns-cons a c bs) d b

-- several patterns in brackets
abbrev list_of : List WrittenPattern → WrittenPattern
list_of ps = pattern_list (patterns_of ps)

pattern_sequence : IsSequence IsPattern IsPatterns list_of
pattern_sequence = record { one = λ a. pats_first a; more = λ a c b. patterns-cons a c b; brackets = λ l a ends r. pat_list l a ends r }

-- The pattern binds these.
abbrev pub Binds : List PBinder → WrittenPattern → Type 0
Binds bs p = binders p ≡ bs

abbrev BindAll : List PBinder → List WrittenPattern → Type 0
BindAll bs ps = all_binders (patterns_of ps) ≡ bs

abbrev binder : ℕ → Mode → PBinder
binder level m = record { mode = mark_for m; name = Some (new_variable_text level) }

binder-stands : (mark : SMode) (name : List ℕ) (ts : List Lexeme) (rest : List ℕ) (b : BinderFirst mark name ts rest) → Stands IsPattern (λ p. p ≡ pattern_entry mark (Some name)) ts b.others
binder-stands mark name ts rest b = record { depth = 0; opened = 0; fits = omega (arith, b.marked.fits, opening-behind b.token b.others); read = read }
  where
    read : (m e : ℕ) → 0 ≤ m → IsRead IsPattern (λ p. p ≡ pattern_entry mark (Some name)) (state ts (0 + m) e) b.others m
    read m e h =
        let name_taken : TakesName (state (b.token ∷ b.others) m (b.marked.end e)) name (behind b.token b.others m) =
        record { token = b.token; capital = b.capital; taken = taken b.token b.others m m (b.marked.end e); kind = b.kind_is; spelled = sym b.spelled } in
        let none : 0 + m ≡ m = omega arith in
        rw none (record { tree = pattern_entry mark (Some name); has = refl; end = end_of b.token; parse = pat_entry (b.marked.read m e) (binder_named name_taken) })

abbrev IsBinder : ℕ → Mode → WrittenPattern → Type 0
IsBinder level m p = p ≡ pattern_entry (mark_for m) (Some (new_variable_text level))

binder-spelled : (level : ℕ) (m : Mode) → level + 1 < 2 ^ 64 → SpellsPart (Stands IsPattern (IsBinder level m)) (binder_text level m)
binder-spelled level m small rest ts ends follows tokens =
    let b = binder-first m (new_variable_text level) rest ts (variable-declarable (level + 1) small) ends (rw (append_assoc (mark_text m) (new_variable_text level) rest) at tokens) in
    record { others = b.others; rest_tokens = b.rest_tokens; stands = binder-stands (mark_for m) (new_variable_text level) ts rest b }

binders-last : (level : ℕ) (m : Mode) (p : WrittenPattern) → IsBinder level m p → BindAll (printed_binders level (m ∷ [])) (p ∷ [])
binders-last level m p is = rw is refl

binders-more : (level : ℕ) (m : Mode) (ms : List Mode) (p : WrittenPattern) (ps : List WrittenPattern) → IsBinder level m p → BindAll (printed_binders (level + 1) ms) ps
    → BindAll (printed_binders level (m ∷ ms)) (p ∷ ps)
binders-more level m ms p ps is are = rw (is, are) refl

binders-spelled : (level : ℕ) (m : Mode) (ms : List Mode) → level + length (m ∷ ms) < 2 ^ 64
    → SpellsPart (Stands IsPatterns (BindAll (printed_binders level (m ∷ ms)))) (binders_text level (m ∷ ms))
binders-spelled level m [] small =
    rw (append-nil (binder_text level m), append-nil (binder_text level m))
    (spells-one IsPattern IsPatterns list_of pattern_sequence (IsBinder level m) (BindAll (printed_binders level (m ∷ []))) (binder_text level m) (binders-last level m) (binder-spelled level m (omega arith)))
binders-spelled level m (n ∷ ms) small =
    spells-more IsPattern IsPatterns list_of pattern_sequence (IsBinder level m) (BindAll (printed_binders (level + 1) (n ∷ ms))) (BindAll (printed_binders level (m ∷ n ∷ ms)))
    (binder_text level m) (binders_text (level + 1) (n ∷ ms)) (binder-spelled level m (omega arith)) (binders-spelled (level + 1) n ms (omega arith)) (binders-more level m (n ∷ ms))

-- ---- what stands around several

-- a text of several parts is in brackets
pub listed-several : (n : ℕ) (text : List ℕ) → listed (suc (suc n)) text ≡ codes "[" ++ text ++ codes "]"
listed-several n text =
    let some : (suc (suc n) == 0) ≡ false = ne_eqb (suc (suc n)) 0 (λ e. omega (arith, e)) in
    rw (some, lt-ltb 1 (suc (suc n)) (omega arith)) refl

one-stands : (rest : List ℕ) (ts : List Lexeme) (b : BeginsWith kind.Number (codes "1") rest ts) → Stands IsPattern (Binds []) ts b.others
one-stands rest ts b = record { depth = 0; opened = 0; fits = omega (arith, opening-first b); read = read }
  where
    read : (m e : ℕ) → 0 ≤ m → IsRead IsPattern (Binds []) (state ts (0 + m) e) b.others m
    read m e h =
        let none : 0 + m ≡ m = omega arith in
        let one : TakesOne (state ts m e) (behind b.first b.others m) = record { token = b.first; taken = taken-first b m m e; kind = b.kind_is; spelled = b.spelled } in
        rw none (record { tree = pattern_one; has = refl; end = end_of b.first; parse = pat_one one })

-- The text of no binders spells a pattern.
none-spelled : SpellsPart (Stands IsPattern (Binds [])) (codes "1")
none-spelled rest ts ends follows tokens =
    let b = tokens-one rest ts ends tokens in
    record { others = b.others; rest_tokens = b.rest_tokens; stands = one-stands rest ts b }

one-binds : (level : ℕ) (m : Mode) (ts us : List Lexeme) → Stands IsPattern (IsBinder level m) ts us → Stands IsPattern (Binds (printed_binders level (m ∷ []))) ts us
one-binds level m ts us a = record {
  depth = a.depth;
  opened = a.opened;
  fits = a.fits;
  read = λ n e h. let part = a.read n e h in record { tree = part.tree; has = rw part.has refl; end = part.end; parse = part.parse };
}

-- The text of a pattern spells it.
pub pattern-spelled : (level : ℕ) (ms : List Mode) → level + length ms < 2 ^ 64 → SpellsPart (Stands IsPattern (Binds (printed_binders level ms))) (pattern_text level ms)
pattern-spelled level [] small = none-spelled
pattern-spelled level (m ∷ []) small =
    let x : List ℕ = binder_text level m in
    rw (append-nil (x ++ [] ++ []), append-nil (x ++ []), append-nil x)
    (part-map (Stands IsPattern (IsBinder level m)) (Stands IsPattern (Binds (printed_binders level (m ∷ [])))) x (one-binds level m) (binder-spelled level m (omega arith)))
pattern-spelled level (m ∷ n ∷ ms) small =
    let text : List ℕ = binders_text level (m ∷ n ∷ ms) in
    rw (listed-several (length ms) text)
    (spells-brackets IsPattern IsPatterns list_of pattern_sequence (BindAll (printed_binders level (m ∷ n ∷ ms))) (Binds (printed_binders level (m ∷ n ∷ ms))) text (λ ps are. are) (binders-spelled level m (n ∷ ms) small))
