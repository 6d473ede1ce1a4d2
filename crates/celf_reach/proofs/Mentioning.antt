-- What a neutral mentions along its spine, and steps and tuples from one place on; and that a tree mentions a metavariable exactly where it mentions one of some number.
use Rattle.std.specs.Prelude.{ℕ, ◌≡◌, ◌+◌, ◌<◌, ◌||◌, ◌⊎◌, Bool, true, false, List, [], ◌∷◌, map, length, drop, get_or, refl}
use Rattle.std.specs.List.{list_any}
use Rattle.std.proofs.Common.{ap, sym, ◌∙◌, ⊎_elim, inl, inr}
use Rattle.clf_syntax.specs.declared.tree.TupleEntry.{TupleEntry}
use Rattle.clf_syntax.specs.declared.tree.Step.{Step, out-Step}
use Rattle.clf_syntax.specs.declared.tree.Head.{Head}
use Rattle.clf_syntax.specs.declared.tree.Head.TheVariants.{Const, Var, Meta}
use Rattle.clf_syntax.specs.Plain.{plain_obj, plain_neutral, plain_step, plain_entry, plain-step-rhs, plain-entry-obj}
use Rattle.clf_syntax.specs.Tree.{PlainObject, lam, pair, unit, monadic, atomic, hole, PlainNeutral, head_alone, app, fst, snd, PlainExpression, step, done, PlainTuple, empty, entry, PlainElimination, arg, first, second, eliminated, spine_on, steps_on, tuple_of}
use Rattle.clf_syntax.proofs.Next.{dropped}
use Rattle.clf_syntax.proofs.OccursLaws.{or_first, or_second, own_number}
use Rattle.hered_subst.specs.TypedEnvironments.{is_metavariable}
use Rattle.store_laws.specs.Mentions.{is_meta, mentions, mentions_neutral, mentions_expression, mentions_tuple}
use Rattle.celf_reach.specs.Mentioned.{mentions_some, mentions_some_neutral, mentions_some_expression, mentions_some_tuple, mentions_some_elimination}

or_same : (a b c : Bool) → (a || b) || c ≡ a || (b || c)
or_same true b c = refl
or_same false b c = refl

or_nothing : (a : Bool) → a || false ≡ a
or_nothing true = refl
or_nothing false = refl

some-eliminated : (e : PlainElimination) (r : PlainNeutral) → mentions_some_neutral (eliminated e r) ≡ mentions_some_neutral r || mentions_some_elimination e
some-eliminated (arg m n) r = refl
some-eliminated first r = sym (or_nothing (mentions_some_neutral r))
some-eliminated second r = sym (or_nothing (mentions_some_neutral r))

pub some-spine : (es : List PlainElimination) (r : PlainNeutral) → mentions_some_neutral (spine_on es r) ≡ mentions_some_neutral r || list_any mentions_some_elimination es
some-spine [] r = sym (or_nothing (mentions_some_neutral r))
some-spine (e ∷ es) r =
    some-spine es (eliminated e r)
    ∙ ap (λ b. b || list_any mentions_some_elimination es) (some-eliminated e r)
    ∙ or_same (mentions_some_neutral r) (mentions_some_elimination e) (list_any mentions_some_elimination es)

pub ruleset mentioning_laws = (some-spine)

pub some_tuple-next : (i : ℕ) (t : TupleEntry) (xs : List TupleEntry) → i < length xs → t ≡ get_or xs i t
    → mentions_some_tuple (tuple_of (map plain_entry (drop i xs))) ≡ mentions_some (plain_obj t.obj) || mentions_some_tuple (tuple_of (map plain_entry (drop (i + 1) xs)))
some_tuple-next i t xs h e =
    ap (λ ts. mentions_some_tuple (tuple_of (map plain_entry ts))) (dropped xs i t h e)
    ∙ ap (λ n. mentions_some n || mentions_some_tuple (tuple_of (map plain_entry (drop (i + 1) xs)))) (plain-entry-obj t)

pub some_steps-next : (i : ℕ) (s : Step) (xs : List Step) (r : PlainExpression) → i < length xs → s ≡ get_or xs i s
    → mentions_some_expression (steps_on (map plain_step (drop i xs)) r) ≡ mentions_some_neutral (plain_neutral (out-Step s).rhs) || mentions_some_expression (steps_on (map plain_step (drop (i + 1) xs)) r)
some_steps-next i s xs r h e =
    ap (λ ss. mentions_some_expression (steps_on (map plain_step ss) r)) (dropped xs i s h e)
    ∙ ap (λ n. mentions_some_neutral n || mentions_some_expression (steps_on (map plain_step (drop (i + 1) xs)) r)) (plain-step-rhs s)

-- ---- a number of a metavariable that is mentioned

or_cases : (a b : Bool) → a || b ≡ true → (a ≡ true) ⊎ (b ≡ true)
or_cases true b e = inl refl
or_cases false b e = inr e

-- one of two parts mentions it
in_either : (f g : ℕ → Bool) → ((k : ℕ) × (f k ≡ true)) ⊎ ((k : ℕ) × (g k ≡ true)) → (k : ℕ) × (f k || g k ≡ true)
in_either f g (inl p) = (p.0, or_first (f p.0) (g p.0) p.1)
in_either f g (inr p) = (p.0, or_second (f p.0) (g p.0) p.1)

head_number : (h : Head) → is_metavariable h ≡ true → (k : ℕ) × (is_meta k h ≡ true)
head_number (Const c) e = absurd (cc)
head_number (Var i) e = absurd (cc)
head_number (Meta m) e = (m, own_number m)

mutual
  pub number_in : (x : PlainObject) → mentions_some x ≡ true → (k : ℕ) × (mentions k x ≡ true)
  number_in (lam m b) e = number_in b e
  number_in (pair l r) e = in_either (λ k. mentions k l) (λ k. mentions k r) (⊎_elim (λ h. inl (number_in l h)) (λ h. inr (number_in r h)) (or_cases (mentions_some l) (mentions_some r) e))
  number_in unit e = absurd (cc)
  number_in (monadic f) e = number_in_expression f e
  number_in (atomic n) e = number_in_neutral n e
  number_in hole e = absurd (cc)

  number_in_neutral : (n : PlainNeutral) → mentions_some_neutral n ≡ true → (k : ℕ) × (mentions_neutral k n ≡ true)
  number_in_neutral (head_alone h) e = head_number h e
  number_in_neutral (app m r n) e = in_either (λ k. mentions_neutral k r) (λ k. mentions k n) (⊎_elim (λ h. inl (number_in_neutral r h)) (λ h. inr (number_in n h)) (or_cases (mentions_some_neutral r) (mentions_some n) e))
  number_in_neutral (fst r) e = number_in_neutral r e
  number_in_neutral (snd r) e = number_in_neutral r e

  number_in_expression : (f : PlainExpression) → mentions_some_expression f ≡ true → (k : ℕ) × (mentions_expression k f ≡ true)
  number_in_expression (step ms r f) e =
      in_either (λ k. mentions_neutral k r) (λ k. mentions_expression k f) (⊎_elim (λ h. inl (number_in_neutral r h)) (λ h. inr (number_in_expression f h)) (or_cases (mentions_some_neutral r) (mentions_some_expression f) e))
  number_in_expression (done t) e = number_in_tuple t e

  number_in_tuple : (t : PlainTuple) → mentions_some_tuple t ≡ true → (k : ℕ) × (mentions_tuple k t ≡ true)
  number_in_tuple empty e = absurd (cc)
  number_in_tuple (entry m n t) e = in_either (λ k. mentions k n) (λ k. mentions_tuple k t) (⊎_elim (λ h. inl (number_in n h)) (λ h. inr (number_in_tuple t h)) (or_cases (mentions_some n) (mentions_some_tuple t) e))

-- ---- and back

-- What each of two parts mentions, both mention.
from_either : (a b c d : Bool) → (a ≡ true → c ≡ true) → (b ≡ true → d ≡ true) → a || b ≡ true → c || d ≡ true
from_either a b c d f g e = ⊎_elim (λ h. or_first c d (f h)) (λ h. or_second c d (g h)) (or_cases a b e)

some_head : (k : ℕ) (h : Head) → is_meta k h ≡ true → is_metavariable h ≡ true
some_head k (Const c) e = absurd (cc)
some_head k (Var i) e = absurd (cc)
some_head k (Meta m) e = refl

mutual
  pub some_in : (k : ℕ) (x : PlainObject) → mentions k x ≡ true → mentions_some x ≡ true
  some_in k (lam m b) e = some_in k b e
  some_in k (pair l r) e = from_either (mentions k l) (mentions k r) (mentions_some l) (mentions_some r) (some_in k l) (some_in k r) e
  some_in k unit e = absurd (cc)
  some_in k (monadic f) e = some_in_expression k f e
  some_in k (atomic n) e = some_in_neutral k n e
  some_in k hole e = absurd (cc)

  some_in_neutral : (k : ℕ) (n : PlainNeutral) → mentions_neutral k n ≡ true → mentions_some_neutral n ≡ true
  some_in_neutral k (head_alone h) e = some_head k h e
  some_in_neutral k (app m r n) e = from_either (mentions_neutral k r) (mentions k n) (mentions_some_neutral r) (mentions_some n) (some_in_neutral k r) (some_in k n) e
  some_in_neutral k (fst r) e = some_in_neutral k r e
  some_in_neutral k (snd r) e = some_in_neutral k r e

  some_in_expression : (k : ℕ) (f : PlainExpression) → mentions_expression k f ≡ true → mentions_some_expression f ≡ true
  some_in_expression k (step ms r f) e = from_either (mentions_neutral k r) (mentions_expression k f) (mentions_some_neutral r) (mentions_some_expression f) (some_in_neutral k r) (some_in_expression k f) e
  some_in_expression k (done t) e = some_in_tuple k t e

  some_in_tuple : (k : ℕ) (t : PlainTuple) → mentions_tuple k t ≡ true → mentions_some_tuple t ≡ true
  some_in_tuple k empty e = absurd (cc)
  some_in_tuple k (entry m n t) e = from_either (mentions k n) (mentions_tuple k t) (mentions_some n) (mentions_some_tuple t) (some_in k n) (some_in_tuple k t) e
