-- Whether a marked local occurs, along a spine.
use Rattle.std.specs.Prelude.{ℕ, ◌≡◌, ◌+◌, ◌<◌, ◌||◌, Bool, true, false, List, [], ◌∷◌, map, length, drop, get_or, refl}
use Rattle.std.specs.List.{list_any}
use Rattle.std.proofs.Common.{ap, sym, ◌∙◌}
use Rattle.clf_syntax.specs.declared.tree.TupleEntry.{TupleEntry}
use Rattle.clf_syntax.specs.declared.tree.Step.{Step, out-Step}
use Rattle.clf_syntax.specs.Plain.{plain_obj, plain_neutral, plain_step, plain_entry, plain-step-rhs, plain-step-modes, plain-entry-obj}
use Rattle.clf_syntax.specs.Tree.{PlainNeutral, PlainExpression, PlainElimination, arg, first, second, eliminated, spine_on, steps_on, tuple_of}
use Rattle.clf_syntax.proofs.Next.{dropped}
use Rattle.reach_walk.specs.Marks.{marked_in, marked_in_neutral, marked_in_expression, marked_in_tuple, marked_in_elimination}

or_same : (a b c : Bool) → (a || b) || c ≡ a || (b || c)
or_same true b c = refl
or_same false b c = refl

or_nothing : (a : Bool) → a || false ≡ a
or_nothing true = refl
or_nothing false = refl

marked-eliminated : (bs : List Bool) (d : ℕ) (e : PlainElimination) (r : PlainNeutral) → marked_in_neutral bs d (eliminated e r) ≡ marked_in_neutral bs d r || marked_in_elimination bs d e
marked-eliminated bs d (arg m n) r = refl
marked-eliminated bs d first r = sym (or_nothing (marked_in_neutral bs d r))
marked-eliminated bs d second r = sym (or_nothing (marked_in_neutral bs d r))

pub marked-spine : (bs : List Bool) (d : ℕ) (es : List PlainElimination) (r : PlainNeutral) → marked_in_neutral bs d (spine_on es r) ≡ marked_in_neutral bs d r || list_any (marked_in_elimination bs d) es
marked-spine bs d [] r = sym (or_nothing (marked_in_neutral bs d r))
marked-spine bs d (e ∷ es) r =
    marked-spine bs d es (eliminated e r)
    ∙ ap (λ b. b || list_any (marked_in_elimination bs d) es) (marked-eliminated bs d e r)
    ∙ or_same (marked_in_neutral bs d r) (marked_in_elimination bs d e) (list_any (marked_in_elimination bs d) es)

pub ruleset marked_laws = (marked-spine)

pub marked_tuple-next : (bs : List Bool) (d i : ℕ) (t : TupleEntry) (xs : List TupleEntry) → i < length xs → t ≡ get_or xs i t
    → marked_in_tuple bs d (tuple_of (map plain_entry (drop i xs))) ≡ marked_in bs d (plain_obj t.obj) || marked_in_tuple bs d (tuple_of (map plain_entry (drop (i + 1) xs)))
marked_tuple-next bs d i t xs h e =
    ap (λ ts. marked_in_tuple bs d (tuple_of (map plain_entry ts))) (dropped xs i t h e)
    ∙ ap (λ n. marked_in bs d n || marked_in_tuple bs d (tuple_of (map plain_entry (drop (i + 1) xs)))) (plain-entry-obj t)

pub marked_steps-next : (bs : List Bool) (d i : ℕ) (s : Step) (xs : List Step) (r : PlainExpression) → i < length xs → s ≡ get_or xs i s
    → marked_in_expression bs d (steps_on (map plain_step (drop i xs)) r) ≡ marked_in_neutral bs d (plain_neutral (out-Step s).rhs) || marked_in_expression bs (d + length s.modes) (steps_on (map plain_step (drop (i + 1) xs)) r)
marked_steps-next bs d i s xs r h e =
    let later = steps_on (map plain_step (drop (i + 1) xs)) r in
    ap (λ ss. marked_in_expression bs d (steps_on (map plain_step ss) r)) (dropped xs i s h e)
    ∙ ap (λ n. marked_in_neutral bs d n || marked_in_expression bs (d + length (plain_step s).0) later) (plain-step-rhs s)
    ∙ ap (λ ms. marked_in_neutral bs d (plain_neutral (out-Step s).rhs) || marked_in_expression bs (d + length ms) later) (plain-step-modes s)
