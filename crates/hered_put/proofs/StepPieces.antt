-- What comes in the place of a step, by what its right side becomes, and how it stands in front of the rest.
use Rattle.std.specs.Prelude.{ℕ, ◌+◌, ◌≡◌, Bool, List, [], ◌∷◌, ◌++◌, map, length, refl}
use Rattle.std.proofs.Common.{ap, ◌∙◌, ◌<◌, drop, get_or}
use Rattle.clf_syntax.specs.declared.tree.Mode.{Mode}
use Rattle.clf_syntax.specs.declared.tree.Head.{Head}
use Rattle.clf_syntax.specs.declared.tree.Head.TheVariants.{Const, Var, Meta}
use Rattle.clf_syntax.specs.Tree.{PlainObject, lam, pair, unit, monadic, atomic, hole, PlainNeutral, head_alone, app, fst, snd, PlainExpression, step, PlainElimination, arg, first, second, spine_on, head_of}
use Rattle.clf_syntax.specs.declared.tree.Neutral.{Neutral}
use Rattle.clf_syntax.specs.declared.tree.Step.{Step}
use Rattle.clf_syntax.specs.Plain.{plain_neutral, plain_elim, plain_step, plain-neutral, plain-step-modes}
use Rattle.hered_subst.specs.TypedEnvironments.{is_metavariable}
use Rattle.clf_syntax.proofs.Next.{dropped}
use Rattle.hered_subst.specs.Substitution.{Environment}
use Rattle.hered_put.specs.Function.{Answer, made, untyped, too_far, after, Outcome, kept, value, stays_if}
use Rattle.hered_put.specs.Pieces.{value_answer, neutral_answer, neutral_of, flattened_of, Coming, staying, giving, coming_by, coming_answer, step_of, join_of, join_all, joined_of, binders_of}

-- ---- steps

pub coming-kept : (ms : List Mode) (n : PlainNeutral) → coming_answer ms (kept n) ≡ made (staying ms n)
unfolding coming_answer
coming-kept ms n = refl

pub coming-value : (ms : List Mode) (o : PlainObject) → coming_answer ms (value o) ≡ value_answer ms o
unfolding value_answer
coming-value ms o = refl

pub value-monadic : (ms : List Mode) (e : PlainExpression) → value_answer ms (monadic e) ≡ made (giving (length ms) e)
unfolding value_answer coming_answer
value-monadic ms e = refl

pub value-atomic : (ms : List Mode) (n : PlainNeutral) → value_answer ms (atomic n) ≡ neutral_answer ms n
unfolding value_answer neutral_answer
value-atomic ms n = refl

pub value-lam : (ms : List Mode) (m : Mode) (b : PlainObject) → value_answer ms (lam m b) ≡ untyped
unfolding value_answer coming_answer
value-lam ms m b = refl

pub value-pair : (ms : List Mode) (l r : PlainObject) → value_answer ms (pair l r) ≡ untyped
unfolding value_answer coming_answer
value-pair ms l r = refl

pub value-unit : (ms : List Mode) → value_answer ms unit ≡ untyped
unfolding value_answer coming_answer
value-unit ms = refl

pub value-hole : (ms : List Mode) → value_answer ms hole ≡ untyped
unfolding value_answer coming_answer
value-hole ms = refl

-- a metavariable may stand at a monad
abbrev pub meta_stays : List Mode → Bool → PlainNeutral → Answer Coming
meta_stays ms b n = after (stays_if b n) (λ p. made (coming_by ms p))

pub neutral-by : (ms : List Mode) (n : PlainNeutral) (h : Head) → head_of n ≡ h → neutral_answer ms n ≡ meta_stays ms (is_metavariable h) n
unfolding neutral_answer coming_answer
neutral-by ms n h e = ap (λ g. meta_stays ms (is_metavariable g) n) e

pub neutral-meta : (ms : List Mode) (n : PlainNeutral) (m : ℕ) → head_of n ≡ Meta m → neutral_answer ms n ≡ made (staying ms n)
neutral-meta ms n m e = neutral-by ms n (Meta m) e

pub neutral-const : (ms : List Mode) (n : PlainNeutral) (c : ℕ) → head_of n ≡ Const c → neutral_answer ms n ≡ untyped
neutral-const ms n c e = neutral-by ms n (Const c) e

pub neutral-var : (ms : List Mode) (n : PlainNeutral) (i : ℕ) → head_of n ≡ Var i → neutral_answer ms n ≡ untyped
neutral-var ms n i e = neutral-by ms n (Var i) e

pub head-spine : (es : List PlainElimination) (r : PlainNeutral) → head_of (spine_on es r) ≡ head_of r
head-spine [] r = refl
head-spine (arg m o ∷ es) r = head-spine es (app m r o)
head-spine (first ∷ es) r = head-spine es (fst r)
head-spine (second ∷ es) r = head-spine es (snd r)

pub head-plain : (n : Neutral) → head_of (plain_neutral n) ≡ n.head
head-plain n = ap head_of (plain-neutral n) ∙ head-spine (map plain_elim n.spine) (head_alone n.head)

pub ruleset coming_laws = (coming-kept, coming-value, value-monadic, value-atomic, value-lam, value-pair, value-unit, value-hole, neutral-meta, neutral-const, neutral-var, head-plain)

pub binders-next : (i : ℕ) (s : Step) (xs : List Step) → i < length xs → s ≡ get_or xs i s → binders_of (map plain_step (drop i xs)) ≡ length s.modes + binders_of (map plain_step (drop (i + 1) xs))
binders-next i s xs h e = ap (λ ss. binders_of (map plain_step ss)) (dropped xs i s h e) ∙ ap (λ ms. length ms + binders_of (map plain_step (drop (i + 1) xs))) (plain-step-modes s)

pub ruleset binders_laws = (binders-next)

-- ---- steps in front of the rest

pub join_all-more : (k : ℕ) (cs : List Coming) (c : Coming) (f : PlainExpression) → join_all k (cs ++ c ∷ []) (made f) ≡ join_all k cs (join_of k c f)
join_all-more k [] c f = refl
join_all-more k (x ∷ cs) c f = ap (λ a. after a (λ g. join_of k x g)) (join_all-more k cs c f)

pub join_all-untyped : (k : ℕ) (cs : List Coming) → join_all k cs untyped ≡ untyped
join_all-untyped k [] = refl
join_all-untyped k (c ∷ cs) = ap (λ a. after a (λ f. join_of k c f)) (join_all-untyped k cs)

pub join_all-too_far : (k : ℕ) (cs : List Coming) → join_all k cs too_far ≡ too_far
join_all-too_far k [] = refl
join_all-too_far k (c ∷ cs) = ap (λ a. after a (λ f. join_of k c f)) (join_all-too_far k cs)

-- a step and then the rest
unfoldable pub join_next : ℕ → Answer Coming → Answer PlainExpression → Answer PlainExpression
join_next k a b = after a (λ c. after b (λ f. join_of k c f))

pub join_next-untyped : (k : ℕ) (cs : List Coming) (b : Answer PlainExpression) → join_all k cs (join_next k untyped b) ≡ untyped
unfolding join_next
join_next-untyped k cs b = join_all-untyped k cs

pub join_next-too_far : (k : ℕ) (cs : List Coming) (b : Answer PlainExpression) → join_all k cs (join_next k too_far b) ≡ too_far
unfolding join_next
join_next-too_far k cs b = join_all-too_far k cs

pub join_next-made : (k : ℕ) (cs : List Coming) (c : Coming) (b : Answer PlainExpression) → join_all k cs (join_next k (made c) b) ≡ join_all k (cs ++ c ∷ []) b
unfolding join_next
join_next-made k [] c b = refl
join_next-made k (x ∷ cs) c b = ap (λ a. after a (λ g. join_of k x g)) (join_next-made k cs c b)

pub join-giving : (k n : ℕ) (g f : PlainExpression) → join_of k (giving n g) f ≡ flattened_of k n g f
unfolding join_of flattened_of
join-giving k n g f = refl

pub join-staying : (k : ℕ) (ms : List Mode) (n : PlainNeutral) (f : PlainExpression) → join_of k (staying ms n) f ≡ made (step ms n f)
unfolding join_of
join-staying k ms n f = refl

pub joined-all : (k : ℕ) (cs : List Coming) (f : PlainExpression) → joined_of k cs f ≡ join_all k cs (made f)
unfolding joined_of
joined-all k cs f = refl

pub ruleset join_laws = (join-giving, join-staying, join_all-more, join_all-untyped, join_all-too_far)

-- what comes in the place of a step, by what its right side becomes
unfoldable pub comings : List Mode → Answer Outcome → Answer Coming
comings ms a = after a (λ v. coming_answer ms v)

pub step-by : (k : ℕ) (s : Environment) (r : List Mode × PlainNeutral) → step_of k s r ≡ comings r.0 (neutral_of k s r.1)
unfolding step_of comings neutral_of
step-by k s r = refl

pub comings-made : (ms : List Mode) (v : Outcome) → comings ms (made v) ≡ coming_answer ms v
unfolding comings
comings-made ms v = refl

pub comings-untyped : (ms : List Mode) → comings ms untyped ≡ untyped
unfolding comings
comings-untyped ms = refl

pub comings-too_far : (ms : List Mode) → comings ms too_far ≡ too_far
unfolding comings
comings-too_far ms = refl

pub ruleset step_laws = (step-by, comings-made, comings-untyped, comings-too_far)
