-- What a neutral mentions, along its spine, and steps and tuples from one place on.
use Rattle.std.specs.Prelude.{ℕ, ◌≡◌, ◌+◌, ◌<◌, ◌||◌, Bool, true, false, List, [], ◌∷◌, map, length, drop, get_or, refl}
use Rattle.std.specs.List.{list_any}
use Rattle.std.proofs.Common.{ap, sym, ◌∙◌}
use Rattle.clf_syntax.specs.declared.tree.TupleEntry.{TupleEntry}
use Rattle.clf_syntax.specs.declared.tree.Step.{Step, out-Step}
use Rattle.clf_syntax.specs.Plain.{plain_obj, plain_neutral, plain_step, plain_entry, plain-step-rhs, plain-entry-obj}
use Rattle.clf_syntax.specs.Tree.{PlainNeutral, PlainExpression, PlainElimination, arg, first, second, eliminated, spine_on, steps_on, tuple_of}
use Rattle.clf_syntax.proofs.Next.{dropped}
use Rattle.store_laws.specs.Mentions.{mentions, mentions_neutral, mentions_expression, mentions_tuple}
use Rattle.celf_constraints.specs.Parts.{mentions_elimination}

or_same : (a b c : Bool) → (a || b) || c ≡ a || (b || c)
or_same true b c = refl
or_same false b c = refl

or_nothing : (a : Bool) → a || false ≡ a
or_nothing true = refl
or_nothing false = refl

mentions-eliminated : (k : ℕ) (e : PlainElimination) (r : PlainNeutral) → mentions_neutral k (eliminated e r) ≡ mentions_neutral k r || mentions_elimination k e
mentions-eliminated k (arg m n) r = refl
mentions-eliminated k first r = sym (or_nothing (mentions_neutral k r))
mentions-eliminated k second r = sym (or_nothing (mentions_neutral k r))

pub mentions-spine : (k : ℕ) (es : List PlainElimination) (r : PlainNeutral) → mentions_neutral k (spine_on es r) ≡ mentions_neutral k r || list_any (mentions_elimination k) es
mentions-spine k [] r = sym (or_nothing (mentions_neutral k r))
mentions-spine k (e ∷ es) r =
    mentions-spine k es (eliminated e r)
    ∙ ap (λ b. b || list_any (mentions_elimination k) es) (mentions-eliminated k e r)
    ∙ or_same (mentions_neutral k r) (mentions_elimination k e) (list_any (mentions_elimination k) es)

pub ruleset mentions_laws = (mentions-spine)

pub mentions_tuple-next : (k i : ℕ) (t : TupleEntry) (xs : List TupleEntry) → i < length xs → t ≡ get_or xs i t
    → mentions_tuple k (tuple_of (map plain_entry (drop i xs))) ≡ mentions k (plain_obj t.obj) || mentions_tuple k (tuple_of (map plain_entry (drop (i + 1) xs)))
mentions_tuple-next k i t xs h e =
    ap (λ ts. mentions_tuple k (tuple_of (map plain_entry ts))) (dropped xs i t h e)
    ∙ ap (λ n. mentions k n || mentions_tuple k (tuple_of (map plain_entry (drop (i + 1) xs)))) (plain-entry-obj t)

pub mentions_steps-next : (k i : ℕ) (s : Step) (xs : List Step) (r : PlainExpression) → i < length xs → s ≡ get_or xs i s
    → mentions_expression k (steps_on (map plain_step (drop i xs)) r) ≡ mentions_neutral k (plain_neutral (out-Step s).rhs) || mentions_expression k (steps_on (map plain_step (drop (i + 1) xs)) r)
mentions_steps-next k i s xs r h e =
    ap (λ ss. mentions_expression k (steps_on (map plain_step ss) r)) (dropped xs i s h e)
    ∙ ap (λ n. mentions_neutral k n || mentions_expression k (steps_on (map plain_step (drop (i + 1) xs)) r)) (plain-step-rhs s)
