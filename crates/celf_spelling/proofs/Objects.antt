-- The text of an object spells the tree that it is printed as.
use Rattle.std.proofs.Common.{ℕ, ◌≡◌, ◌+◌, ◌-◌, ◌<◌, ◌^◌, suc, Bool, true, false, not, if◌then◌else◌, nat_lt, refl, List, [], ◌∷◌, ◌++◌, length, append-nil, codes, arith, slice_get, Some}
use Rattle.clf_syntax.specs.declared.tree.Head.{Head}
use Rattle.clf_syntax.specs.declared.tree.Head.TheVariants.{Const, Var, Meta}
use Rattle.clf_syntax.specs.Tree.{PlainObject, lam, pair, unit, monadic, atomic, hole, PlainNeutral, head_alone, app, fst, snd, PlainExpression, step, done, PlainTuple, empty, entry}
use Rattle.clf_sig.specs.Entry.{PlainEntry, PlainSignature}
use Rattle.celf_surface.specs.declared.surface.SMode.{SMode}
use Rattle.celf_surface.specs.Surface.{WrittenObject}
use Rattle.celf_grammar.specs.Grammar.{IsTuples}
use Rattle.clf_printer.specs.Text.{when, has_dollar, place_text, used_variable_text, head_text, grouped, is_application, is_atom, tuple_entry_text, tuple_text, object_text, neutral_text, expression_text, pattern_text, listed, width}
use Rattle.clf_printer.specs.Depth.{scope_depth, neutral_depth, expression_depth, tuple_depth}
use Rattle.celf_spelling.specs.Printable.{IsPrintablePlace, IsPrintableHead, HasNames, NeutralHasNames, ExpressionHasNames, TupleHasNames}
use Rattle.celf_spelling.specs.Printed.{mark_for, spelled, entry_name, place_name, head_name, printed_binders, printed_head, printed_object, printed_acts, printed_steps, printed_result, printed_tuple}
use Rattle.celf_spelling.proofs.Variables.{variable-declarable}
use Rattle.celf_spelling.proofs.PairSign.{place_text-entry, object-stays}
use Rattle.celf_spelling.proofs.Standing.{Stands}
use Rattle.celf_spelling.proofs.ObjectStanding.{AtomStands}
use Rattle.celf_spelling.proofs.ObjectSpelled.{Spells, SpellsNeutral, SpellsAs, spells-name, spells-constant, spells-unit, spells-hole, spells-pair, spells-first, spells-second, spells-applied, spells-lambda, neutral-chain, neutral-atom, neutral-as, as-object, as-atom}
use Rattle.celf_spelling.proofs.Sequences.{SpellsPart}
use Rattle.celf_spelling.proofs.Patterns.{pattern-spelled, listed-several}
use Rattle.celf_spelling.proofs.Tuples.{TupleStands, entry-spelled, last-spelled, more-spelled, no_entries-spelled, one_entry-spelled, entries-spelled}
use Rattle.celf_spelling.proofs.Expressions.{ExpressionStands, done-spelled, step-spelled, braces-spelled}
use Rattle.celf_spelling.proofs.Written.{IsWritten, IsWrittenNeutral, written-name, written-first, written-second, written-applied, written-whole, written-atomic, written-unit, written-hole, written-pair, written-lambda, IsWrittenTuple, AreWrittenEntries}

-- the name of a place that has this entry
pub place_name-entry : (sig : PlainSignature) (k : ℕ) (e : List ℕ × PlainEntry) → slice_get sig k ≡ Some e → place_name sig k ≡ entry_name e
place_name-entry sig k e found = rw found

abbrev HasEntries : PlainTuple → Type 0
HasEntries empty = ⊥
HasEntries (entry m n t) = Unit {0}

module _ (sig : PlainSignature) (metas : List ℕ) where
  -- ---- heads

  constant-spelled : (c : ℕ) → IsPrintablePlace sig c → Spells (AtomStands (λ x. IsWrittenNeutral (place_name sig c) [] x [])) (place_text sig c)
  constant-spelled c h = rw (place_text-entry sig c h.0 h.1, place_name-entry sig c h.0 h.1) (go (has_dollar h.0.0 h.0.1))
    where
      go : (dollar : Bool) → Spells (AtomStands (λ x. IsWrittenNeutral (spelled h.0.0 dollar) [] x [])) (when dollar (codes "$") ++ h.0.0)
      go true = spells-constant (λ x. IsWrittenNeutral (spelled h.0.0 true) [] x []) h.0.0 h.2 (λ s. written-name s h.0.0 true)
      go false = spells-name (λ x. IsWrittenNeutral (spelled h.0.0 false) [] x []) h.0.0 h.2 (λ s. written-name s h.0.0 false)

  -- the number in the name of a variable
  number-fits : (level i : ℕ) → level < 2 ^ 64 → (if nat_lt i level then level - i else 0) < 2 ^ 64
  number-fits level i small = go (nat_lt i level)
    where
      go : (b : Bool) → (if b then level - i else 0) < 2 ^ 64
      go true = omega arith
      go false = omega arith

  head-spelled : (level : ℕ) (h : Head) → level < 2 ^ 64 → IsPrintableHead sig h → Spells (AtomStands (λ x. IsWrittenNeutral (head_name sig level h) [] x [])) (head_text sig metas level h)
  head-spelled level (Const c) small h = constant-spelled c h
  head-spelled level (Var i) small h =
      spells-name (λ x. IsWrittenNeutral (spelled (used_variable_text level i) false) [] x []) (used_variable_text level i)
      (variable-declarable (if nat_lt i level then level - i else 0) (number-fits level i small)) (λ s. written-name s (used_variable_text level i) false)
  head-spelled level (Meta k) small h = absurd h

  -- ---- objects

  abbrev IsNeutral : ℕ → PlainNeutral → WrittenObject → List (SMode × WrittenObject) → Type 0
  IsNeutral level r = IsWrittenNeutral (printed_head sig level r) (printed_acts sig level r)

  abbrev IsObject : ℕ → PlainObject → WrittenObject → Type 0
  IsObject level n = IsWritten (printed_object sig level n)

  mutual
    pub neutral-spelled : (r : PlainNeutral) (level : ℕ) → level + neutral_depth r < 2 ^ 64 → NeutralHasNames sig r → SpellsNeutral (is_application r) (IsNeutral level r) (neutral_text sig metas level r)
    neutral-spelled (head_alone h) level small p = head-spelled level h (omega arith) p
    neutral-spelled (app m r n) level small p =
        let x : List ℕ = neutral_text sig metas level r in
        let y : List ℕ = object_text sig metas level n in
        let q = neutral-spelled r level (omega arith) p.0 in
        let o = object-spelled n level (omega arith) p.1 in
        spells-applied (IsNeutral level r) (IsNeutral level (app m r n)) (IsObject level n) m x (grouped (not (is_atom n)) y) (neutral-chain (is_application r) (IsNeutral level r) x q)
        (as-atom (is_atom n) (IsObject level n) y o) (λ tree a xs. written-applied (printed_head sig level r) (printed_acts sig level r) m (printed_object sig level n) tree a xs)
    neutral-spelled (fst r) level small p =
        let x : List ℕ = neutral_text sig metas level r in
        let h = printed_head sig level r in
        let es = printed_acts sig level r in
        spells-first (λ a. IsNeutral level r a []) (λ a. IsNeutral level (fst r) a []) (grouped (is_application r) x)
        (neutral-atom (is_application r) (IsNeutral level r) x (λ s tree xs. written-whole h es s tree xs) (neutral-spelled r level small p)) (λ s tree. written-first h es s tree)
    neutral-spelled (snd r) level small p =
        let x : List ℕ = neutral_text sig metas level r in
        let h = printed_head sig level r in
        let es = printed_acts sig level r in
        spells-second (λ a. IsNeutral level r a []) (λ a. IsNeutral level (snd r) a []) (grouped (is_application r) x)
        (neutral-atom (is_application r) (IsNeutral level r) x (λ s tree xs. written-whole h es s tree xs) (neutral-spelled r level small p)) (λ s tree. written-second h es s tree)

    pub object-spelled : (n : PlainObject) (level : ℕ) → level + scope_depth n < 2 ^ 64 → HasNames sig n → SpellsAs (is_atom n) (IsObject level n) (object_text sig metas level n)
    object-spelled (lam m b) level small p =
        let y : List ℕ = object_text sig metas (level + 1) b in
        let body = as-object (is_atom b) (IsObject (level + 1) b) y (object-spelled b (level + 1) (omega arith) p) in
        spells-lambda (IsObject (level + 1) b) (IsObject level (lam m b)) m level y (omega arith) body (λ s tree. written-lambda (mark_for m) _ (printed_object sig (level + 1) b) s tree)
    object-spelled (pair l r) level small p =
        let x : List ℕ = object_text sig metas level l in
        let y : List ℕ = object_text sig metas level r in
        let left = as-object (is_atom l) (IsObject level l) x (object-spelled l level (omega arith) p.0) in
        let right = as-object (is_atom r) (IsObject level r) y (object-spelled r level (omega arith) p.1) in
        spells-pair (IsObject level l) (IsObject level r) (IsObject level (pair l r)) x y (λ rest. object-stays sig metas l level (44 ∷ rest) p.0 refl) left right
        (λ s a b. written-pair (printed_object sig level l) (printed_object sig level r) s a b)
    object-spelled unit level small p = spells-unit (IsObject level unit) (λ s. written-unit s)
    object-spelled (monadic e) level small p = braces-spelled (printed_steps sig level e) (printed_result sig level e) (expression_text sig metas level e) (expression-spelled e level small p)
    object-spelled (atomic r) level small p =
        let h = printed_head sig level r in
        let es = printed_acts sig level r in
        neutral-as (is_application r) (IsNeutral level r) (IsObject level (atomic r)) (neutral_text sig metas level r) (λ s tree xs. written-whole h es s tree xs)
        (λ tree. written-atomic h es tree) (neutral-spelled r level small p)
    object-spelled hole level small p = spells-hole (IsObject level hole) (λ s. written-hole s)

    pub expression-spelled : (e : PlainExpression) (level : ℕ) → level + expression_depth e < 2 ^ 64 → ExpressionHasNames sig e
        → SpellsPart (ExpressionStands (printed_steps sig level e) (printed_result sig level e)) (expression_text sig metas level e)
    expression-spelled (step ms r e) level small p =
        let y : List ℕ = neutral_text sig metas level r in
        let q = neutral-chain (is_application r) (IsNeutral level r) y (neutral-spelled r level (omega arith) p.0) in
        let others = expression-spelled e (level + length ms) (omega arith) p.1 in
        step-spelled level (pattern_text level ms) (printed_binders level ms) (printed_head sig level r) (printed_acts sig level r) (printed_steps sig (level + length ms) e) (printed_result sig (level + length ms) e)
        y (expression_text sig metas (level + length ms) e) (pattern-spelled level ms (omega arith)) q others
    expression-spelled (done t) level small p = done-spelled (printed_tuple sig level t) (listed (width t) (tuple_text sig metas level t)) (tuple-spelled t level small p)

    pub tuple-spelled : (t : PlainTuple) (level : ℕ) → level + tuple_depth t < 2 ^ 64 → TupleHasNames sig t
        → SpellsPart (TupleStands (IsWrittenTuple (printed_tuple sig level t))) (listed (width t) (tuple_text sig metas level t))
    tuple-spelled empty level small p = no_entries-spelled
    tuple-spelled (entry m n empty) level small p =
        let x : List ℕ = tuple_entry_text m (is_atom n) (object_text sig metas level n) in
        let o = entry-spelled m (is_atom n) (printed_object sig level n) (object_text sig metas level n) (object-spelled n level (omega arith) p.0) in
        rw (append-nil (x ++ [] ++ []), append-nil (x ++ []), append-nil x) (one_entry-spelled m (printed_object sig level n) x o)
    tuple-spelled (entry m n (entry l o t)) level small p =
        let text : List ℕ = tuple_text sig metas level (entry m n (entry l o t)) in
        let x : List ℕ = tuple_entry_text m (is_atom n) (object_text sig metas level n) in
        let s = entry-spelled m (is_atom n) (printed_object sig level n) (object_text sig metas level n) (object-spelled n level (omega arith) p.0) in
        let others = entries-spelled_in (entry l o t) level (omega arith) p.1 in
        let all = more-spelled m (printed_object sig level n) (printed_tuple sig level (entry l o t)) x (tuple_text sig metas level (entry l o t)) s (others tt) in
        let several : width (entry m n (entry l o t)) ≡ suc (suc (width t)) = omega arith in
        rw (several, listed-several (width t) text) (entries-spelled (printed_tuple sig level (entry m n (entry l o t))) text all)

    -- the entries of several, without brackets
    entries-spelled_in : (t : PlainTuple) (level : ℕ) → level + tuple_depth t < 2 ^ 64 → TupleHasNames sig t
        → HasEntries t → SpellsPart (Stands IsTuples (AreWrittenEntries (printed_tuple sig level t))) (tuple_text sig metas level t)
    entries-spelled_in empty level small p some = absurd some
    entries-spelled_in (entry m n empty) level small p some =
        let x : List ℕ = tuple_entry_text m (is_atom n) (object_text sig metas level n) in
        let o = entry-spelled m (is_atom n) (printed_object sig level n) (object_text sig metas level n) (object-spelled n level (omega arith) p.0) in
        rw (append-nil (x ++ []), append-nil x) (last-spelled m (printed_object sig level n) x o)
    entries-spelled_in (entry m n (entry l o t)) level small p some =
        let x : List ℕ = tuple_entry_text m (is_atom n) (object_text sig metas level n) in
        let s = entry-spelled m (is_atom n) (printed_object sig level n) (object_text sig metas level n) (object-spelled n level (omega arith) p.0) in
        let others = entries-spelled_in (entry l o t) level (omega arith) p.1 tt in
        more-spelled m (printed_object sig level n) (printed_tuple sig level (entry l o t)) x (tuple_text sig metas level (entry l o t)) s others
