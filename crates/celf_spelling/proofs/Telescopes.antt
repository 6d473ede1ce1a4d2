-- Texts that spell telescopes.
use Rattle.std.proofs.Common.{ℕ, ◌≡◌, ◌+◌, ◌-◌, ◌<◌, ◌≤◌, ◌^◌, suc, true, false, refl, ◌∙◌, List, [], ◌∷◌, ◌++◌, append_assoc, Some, None, codes, arith}
use Rattle.clf_syntax.specs.declared.tree.Mode.{Mode}
use Rattle.clf_syntax.specs.declared.tree.Mode.TheVariants.{Persistent, Affine, Linear}
use Rattle.celf_lexer.specs.declared.token.TokenKind.TheVariants as kind
use Rattle.celf_lexer.specs.Tokens.{Lexeme}
use Rattle.celf_lexer.proofs.Spelling.{AreTokens, BeginsWith, ends_word, tokens-blank}
use Rattle.celf_surface.specs.Surface.{exists, tensor, marked, one, braced}
use Rattle.celf_grammar.specs.State.{next_kind, Opens, TakesOne}
use Rattle.celf_grammar.specs.Grammar.{is_forward, is_backward, is_star, type_all, back_first, forward_alone, IsSync, sync_exists, sync_alone, sync_product, IsFactor, factor_persistent, factor_affine, factor_bare, with_alone, IsTypeAtom, atomty_one, atomty_braces}
use Rattle.celf_sugar.specs.PlainTree as plain
use Rattle.clf_printer.specs.declared.place.Place.TheVariants.{Whole as whole, Operand as operand, Factor as factor}
use Rattle.clf_printer.specs.Text.{mark_text, new_variable_text, named_text}
use Rattle.celf_spelling.specs.Printed.{nowhere}
use Rattle.celf_spelling.proofs.Signs.{tokens-bang, tokens-at, tokens-star, tokens-one, tokens-exists, tokens-left_brace, tokens-right_brace}
use Rattle.celf_spelling.proofs.Standing.{state, behind, end_of, taken-first, takes-first, opens-first, closes-first, opening-first, IsRead, Stands, StandsFirst}
use Rattle.celf_spelling.proofs.WrittenTypes.{IsWrittenType, AreWrittenBindings, IsWrittenFactor, written-marked, written-linear, written-no_bindings, written-last_binding, written-more_bindings, written-named_binding, written-braced}
use Rattle.celf_spelling.proofs.TypeParts.{CanFollow, TypeStands, SpellsType, NamedFirst, named-first, named-read, named-opening}

-- The text spells one entry without a name.
abbrev SpellsFactor : Mode → plain.DesugaredType → List ℕ → Type 0
SpellsFactor m a text = (rest : List ℕ) (ts : List Lexeme) → ends_word rest ≡ true → CanFollow operand rest → AreTokens ts (text ++ rest) → StandsFirst (Stands IsFactor (IsWrittenFactor m a)) ts rest

bang-stands : (a : plain.DesugaredType) (rest : List ℕ) (ts us : List Lexeme) (b : BeginsWith kind.Bang (codes "!") rest ts) → TypeStands operand (IsWrittenType a) b.others us → Stands IsFactor (IsWrittenFactor Persistent a) ts us
bang-stands a rest ts us b t = record { depth = t.stands.depth; opened = t.stands.opened; fits = omega (arith, t.stands.fits, opening-first b); read = read }
  where
    read : (m e : ℕ) → t.stands.depth ≤ m → IsRead IsFactor (IsWrittenFactor Persistent a) (state ts (t.stands.opened + m) e) us m
    read m e h =
        let part = t.stands.read m (end_of b.first) h in
        record { tree = marked _ Persistent part.tree; has = written-marked Persistent a _ part.tree part.has; end = part.end; parse = factor_persistent (takes-first b (t.stands.opened + m) e) part.parse }

at-stands : (a : plain.DesugaredType) (rest : List ℕ) (ts us : List Lexeme) (b : BeginsWith kind.AtSign (codes "@") rest ts) → TypeStands operand (IsWrittenType a) b.others us → Stands IsFactor (IsWrittenFactor Affine a) ts us
at-stands a rest ts us b t = record { depth = t.stands.depth; opened = t.stands.opened; fits = omega (arith, t.stands.fits, opening-first b); read = read }
  where
    read : (m e : ℕ) → t.stands.depth ≤ m → IsRead IsFactor (IsWrittenFactor Affine a) (state ts (t.stands.opened + m) e) us m
    read m e h =
        let part = t.stands.read m (end_of b.first) h in
        record { tree = marked _ Affine part.tree; has = written-marked Affine a _ part.tree part.has; end = part.end; parse = factor_affine (takes-first b (t.stands.opened + m) e) part.parse }

bare-stands : (a : plain.DesugaredType) (ts us : List Lexeme) → TypeStands operand (IsWrittenType a) ts us → Stands IsFactor (IsWrittenFactor Linear a) ts us
bare-stands a ts us t = record { depth = t.stands.depth; opened = t.stands.opened; fits = t.stands.fits; read = read }
  where
    read : (m e : ℕ) → t.stands.depth ≤ m → IsRead IsFactor (IsWrittenFactor Linear a) (state ts (t.stands.opened + m) e) us m
    read m e h =
        let part = t.stands.read m e h in
        record { tree = part.tree; has = written-linear a part.tree part.has; end = part.end; parse = factor_bare part.parse }

pub factor-spelled : (m : Mode) (a : plain.DesugaredType) (x : List ℕ) → SpellsType operand (IsWrittenType a) x → SpellsFactor m a (mark_text m ++ x)
factor-spelled Persistent a x s rest ts ends follows tokens =
    let b = tokens-bang (x ++ rest) ts tokens in
    let part = s rest b.others ends follows b.rest_tokens in
    record { others = part.others; rest_tokens = part.rest_tokens; stands = bang-stands a (x ++ rest) ts part.others b part.stands }
factor-spelled Affine a x s rest ts ends follows tokens =
    let b = tokens-at (x ++ rest) ts tokens in
    let part = s rest b.others ends follows b.rest_tokens in
    record { others = part.others; rest_tokens = part.rest_tokens; stands = at-stands a (x ++ rest) ts part.others b part.stands }
factor-spelled Linear a x s rest ts ends follows tokens =
    let part = s rest ts ends follows tokens in
    record { others = part.others; rest_tokens = part.rest_tokens; stands = bare-stands a ts part.others part.stands }

-- ---- telescopes, which end with a brace

-- The text spells the entries in front of a brace.
abbrev pub SpellsTelescope : plain.DesugaredTelescope → List ℕ → Type 0
SpellsTelescope d text = (rest : List ℕ) (ts : List Lexeme) → AreTokens ts (text ++ 125 ∷ rest) → StandsFirst (Stands IsSync (AreWrittenBindings d)) ts (125 ∷ rest)

brace-follows : (rest : List ℕ) → CanFollow whole (125 ∷ rest)
brace-follows rest us tokens =
    let b = tokens-right_brace rest us tokens in
    rw (b.is, b.kind_is) (refl, refl, refl, refl, refl)

brace-follows_operand : (rest : List ℕ) → CanFollow operand (125 ∷ rest)
brace-follows_operand rest us tokens = let next = brace-follows rest us tokens in (next.0, next.1)

one-stands : (rest : List ℕ) (ts : List Lexeme) (b : BeginsWith kind.Number (codes "1") (125 ∷ rest) ts) → Stands IsSync (AreWrittenBindings plain.end) ts b.others
one-stands rest ts b = record { depth = 0; opened = 0; fits = omega (arith, opening-first b); read = read }
  where
    read : (m e : ℕ) → 0 ≤ m → IsRead IsSync (AreWrittenBindings plain.end) (state ts (0 + m) e) b.others m
    read m e h =
        let none : 0 + m ≡ m = omega arith in
        let next = brace-follows rest b.others b.rest_tokens in
        let taken : TakesOne (state ts m e) (behind b.first b.others m) = record { token = b.first; taken = taken-first b m m e; kind = b.kind_is; spelled = b.spelled } in
        rw none (record { tree = one _; has = written-no_bindings _; end = end_of b.first; parse = sync_alone (factor_bare (with_alone (atomty_one taken) next.1)) next.2 })

pub no_bindings-spelled : SpellsTelescope plain.end (codes "1")
no_bindings-spelled rest ts tokens =
    let b = tokens-one (125 ∷ rest) ts refl tokens in
    record { others = b.others; rest_tokens = b.rest_tokens; stands = one-stands rest ts b }

last-stands : (m : Mode) (a : plain.DesugaredType) (ts us : List Lexeme) → Stands IsFactor (IsWrittenFactor m a) ts us → is_star (next_kind us) ≡ false → Stands IsSync (AreWrittenBindings (plain.binding m None a plain.end)) ts us
last-stands m a ts us t ends = record { depth = t.depth; opened = t.opened; fits = t.fits; read = read }
  where
    read : (n e : ℕ) → t.depth ≤ n → IsRead IsSync (AreWrittenBindings (plain.binding m None a plain.end)) (state ts (t.opened + n) e) us n
    read n e h =
        let part = t.read n e h in
        record { tree = part.tree; has = written-last_binding m a part.tree part.has; end = part.end; parse = sync_alone part.parse ends }

pub last-spelled : (m : Mode) (a : plain.DesugaredType) (x : List ℕ) → SpellsType operand (IsWrittenType a) x → SpellsTelescope (plain.binding m None a plain.end) (mark_text m ++ x)
last-spelled m a x s rest ts tokens =
    let part = factor-spelled m a x s (125 ∷ rest) ts refl (brace-follows_operand rest) tokens in
    let next = brace-follows rest part.others part.rest_tokens in
    record { others = part.others; rest_tokens = part.rest_tokens; stands = last-stands m a ts part.others part.stands next.2 }

more-stands : (m : Mode) (a : plain.DesugaredType) (d : plain.DesugaredTelescope) (rest : List ℕ) (ts us vs : List Lexeme) → Stands IsFactor (IsWrittenFactor m a) ts us → (b : BeginsWith kind.Star (codes "*") rest us)
    → Stands IsSync (AreWrittenBindings d) b.others vs → Stands IsSync (AreWrittenBindings (plain.binding m None a d)) ts vs
more-stands m a d rest ts us vs l b r = record { depth = l.depth + r.depth; opened = l.opened + r.opened; fits = omega (arith, l.fits, r.fits, opening-first b); read = read }
  where
    read : (n e : ℕ) → l.depth + r.depth ≤ n → IsRead IsSync (AreWrittenBindings (plain.binding m None a d)) (state ts (l.opened + r.opened + n) e) vs n
    read n e h =
        let room : l.opened + r.opened + n ≡ l.opened + (r.opened + n) = omega arith in
        let left = l.read (r.opened + n) e (omega arith) in
        let right = r.read n (end_of b.first) (omega arith) in
        rw room (record {
          tree = tensor _ left.tree right.tree;
          has = written-more_bindings m a d _ left.tree right.tree left.has right.has;
          end = right.end;
          parse = sync_product left.parse (takes-first b (r.opened + n) left.end) right.parse;
        })

star-first : (rest : List ℕ) (ts : List Lexeme) → AreTokens ts (codes " * " ++ rest) → BeginsWith kind.Star (codes "*") (32 ∷ rest) ts
star-first rest ts tokens = tokens-star (32 ∷ rest) ts (tokens-blank 32 _ ts refl tokens)

pub more-spelled : (m : Mode) (a : plain.DesugaredType) (d : plain.DesugaredTelescope) (x y : List ℕ) → SpellsType operand (IsWrittenType a) x → SpellsTelescope d y
    → SpellsTelescope (plain.binding m None a d) (((mark_text m ++ x) ++ codes " * ") ++ y)
more-spelled m a d x y s t rest ts tokens =
    let texts : (((mark_text m ++ x) ++ codes " * ") ++ y) ++ 125 ∷ rest ≡ (mark_text m ++ x) ++ (codes " * " ++ (y ++ 125 ∷ rest)) =
    append_assoc ((mark_text m ++ x) ++ codes " * ") y (125 ∷ rest) ∙ append_assoc (mark_text m ++ x) (codes " * ") (y ++ 125 ∷ rest) in
    let part = factor-spelled m a x s (codes " * " ++ (y ++ 125 ∷ rest)) ts refl (λ us u. let b = star-first (y ++ 125 ∷ rest) us u in rw (b.is, b.kind_is) (refl, refl)) (rw texts at tokens) in
    let b = star-first (y ++ 125 ∷ rest) part.others part.rest_tokens in
    let others = t rest b.others (tokens-blank 32 (y ++ 125 ∷ rest) b.others refl b.rest_tokens) in
    record { others = others.others; rest_tokens = others.rest_tokens; stands = more-stands m a d (32 ∷ (y ++ 125 ∷ rest)) ts part.others others.others part.stands b others.stands }

exists-stands : (name : List ℕ) (a : plain.DesugaredType) (d : plain.DesugaredTelescope) (rest : List ℕ) (ts us : List Lexeme) (f : NamedFirst kind.KwExists name a ts rest)
    → Stands IsSync (AreWrittenBindings d) f.stop.others us → Stands IsSync (AreWrittenBindings (plain.binding Persistent (Some name) a d)) ts us
exists-stands name a d rest ts us f r = record { depth = f.domain.stands.depth + r.depth; opened = suc (f.domain.stands.opened + r.opened); fits = omega (arith, named-opening kind.KwExists name a ts rest f, r.fits); read = read }
  where
    read : (m e : ℕ) → f.domain.stands.depth + r.depth ≤ m → IsRead IsSync (AreWrittenBindings (plain.binding Persistent (Some name) a d)) (state ts (suc (f.domain.stands.opened + r.opened) + m) e) us m
    read m e h =
        let room : suc (f.domain.stands.opened + r.opened) + m ≡ suc (f.domain.stands.opened + (r.opened + m)) = omega arith in
        let left = named-read kind.KwExists name a ts rest f (r.opened + m) e (omega arith) in
        let right = r.read m (end_of f.stop.first) (omega arith) in
        rw room (record {
          tree = exists _ name left.tree right.tree;
          has = written-named_binding name a d _ left.tree right.tree left.has right.has;
          end = right.end;
          parse = sync_exists left.opened left.named left.colon left.domain left.stop right.parse;
        })

pub exists-spelled : (level : ℕ) (a : plain.DesugaredType) (d : plain.DesugaredTelescope) (x y : List ℕ) → level + 1 < 2 ^ 64 → SpellsType whole (IsWrittenType a) x → SpellsTelescope d y
    → SpellsTelescope (plain.binding Persistent (Some (new_variable_text level)) a d) ((codes "Exists " ++ named_text level x) ++ y)
exists-spelled level a d x y small s t rest ts tokens =
    let texts : ((codes "Exists " ++ named_text level x) ++ y) ++ 125 ∷ rest ≡ codes "Exists " ++ (named_text level x ++ (y ++ 125 ∷ rest)) =
    append_assoc (codes "Exists " ++ named_text level x) y (125 ∷ rest) ∙ append_assoc (codes "Exists ") (named_text level x) (y ++ 125 ∷ rest) in
    let f = named-first kind.KwExists (codes "Exists") level a x (y ++ 125 ∷ rest) ts small (λ after us u. tokens-exists after us u) s (rw texts at tokens) in
    let others = t rest f.stop.others (tokens-blank 32 (y ++ 125 ∷ rest) f.stop.others refl f.stop.rest_tokens) in
    record { others = others.others; rest_tokens = others.rest_tokens; stands = exists-stands (new_variable_text level) a d (y ++ 125 ∷ rest) ts others.others f others.stands }

-- ---- in braces

monad-stands : (d : plain.DesugaredTelescope) (x y : List ℕ) (ts us : List Lexeme) (l : BeginsWith kind.LeftBrace (codes "{") x ts) → Stands IsSync (AreWrittenBindings d) l.others us
    → (r : BeginsWith kind.RightBrace (codes "}") y us) → TypeStands factor (IsWrittenType (plain.monad nowhere d)) ts r.others
monad-stands d x y ts us l a r = record { begins = rw (l.is, l.kind_is) refl; stands = record { depth = suc (a.opened + a.depth); opened = 0; fits = omega (arith, a.fits, opening-first l, opening-first r); read = read } }
  where
    read : (m e : ℕ) → suc (a.opened + a.depth) ≤ m → IsRead IsTypeAtom (IsWrittenType (plain.monad nowhere d)) (state ts (0 + m) e) r.others m
    read m e h =
        let inner : ℕ = m - suc a.opened in
        let room : suc (a.opened + inner) ≡ m = omega arith in
        let none : 0 + m ≡ m = omega arith in
        let part = a.read inner (end_of l.first) (omega arith) in
        let opened : Opens kind.LeftBrace (state ts m e) (behind l.first l.others (a.opened + inner)) = rw room at (opens-first l (a.opened + inner) e) in
        let no_forward : is_forward (next_kind us) ≡ false = rw (r.is, r.kind_is) refl in
        let no_backward : is_backward (next_kind us) ≡ false = rw (r.is, r.kind_is) refl in
        rw none (record {
          tree = braced _ part.tree;
          has = written-braced d _ part.tree part.has;
          end = end_of r.first;
          parse = atomty_braces opened (type_all (back_first (forward_alone part.parse no_forward)) no_backward) (closes-first r inner m part.end);
        })

pub monad-spelled : (d : plain.DesugaredTelescope) (x : List ℕ) → SpellsTelescope d x → SpellsType factor (IsWrittenType (plain.monad nowhere d)) (codes "{" ++ x ++ codes "}")
monad-spelled d x s rest ts ends follows tokens =
    let l = tokens-left_brace (x ++ 125 ∷ rest) ts (rw (append_assoc x (125 ∷ []) rest) at tokens) in
    let part = s rest l.others l.rest_tokens in
    let r = tokens-right_brace rest part.others part.rest_tokens in
    record { others = r.others; rest_tokens = r.rest_tokens; stands = monad-stands d (x ++ 125 ∷ rest) rest ts part.others l part.stands r }
