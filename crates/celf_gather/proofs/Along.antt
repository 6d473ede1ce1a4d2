-- Gathering along the lists that trees in memory have.
use Rattle.std.proofs.Common.{◌≡◌, ℕ, suc, ◌<◌, List, [], ◌∷◌, length, map, drop, get_or, refl, sym, ap, subst, ◌∙◌}
use Rattle.std.proofs.Math.Seq.{drop-cons}
use Rattle.clf_syntax.specs.declared.tree.Neutral.{Neutral}
use Rattle.clf_syntax.specs.Tree.{PlainNeutral, head_alone, PlainElimination, arg, first, second, spine_on}
use Rattle.clf_syntax.specs.Plain.{plain_neutral, plain_elim, plain-neutral}
use Rattle.use_contexts.specs.Context.{Context}
use Rattle.hered_put.specs.Function.{Answer, made, untyped, too_far, after}
use Rattle.pattern_laws.specs.Equations.{Equation}
use Rattle.celf_gather.specs.declared.stop.Stop.{Stop}
use Rattle.celf_gather.specs.Scene.{Scene, head_type}
use Rattle.celf_gather.specs.Gathered.{inferred, with_type, each_after, elimination_after}
use Rattle.celf_gather.specs.Stops.{Stops}
use Rattle.celf_gather.proofs.Stopping.{then_stops}

pub then_made : {A : Type 0} (w : Answer A) → after w (λ x. made x) ≡ w
then_made (made x) = refl
then_made untyped = refl
then_made too_far = refl

pub then_then : {A B C : Type 0} (w : Answer A) (f : A → Answer B) (h : B → Answer C) → after (after w f) h ≡ after w (λ x. after (f x) h)
then_then (made x) f h = refl
then_then untyped f h = refl
then_then too_far f h = refl

pub then_same : {A B : Type 0} (w : Answer A) {f h : A → Answer B} → ((x : A) → f x ≡ h x) → after w f ≡ after w h
then_same (made x) e = e x
then_same untyped e = refl
then_same too_far e = refl

-- ---- one step along a list
module _ {E P X : Type 0} (f : P → X → Answer X) (plain : E → P) (xs : List E) (i : ℕ) (e : E) (l : i < length xs) (q : e ≡ get_or xs i e) where
  from_here : map plain (drop i xs) ≡ plain e ∷ map plain (drop (suc i) xs)
  from_here = ap (map plain) (drop-cons xs i e l ∙ ap (λ y. y ∷ drop (suc i) xs) (sym q))

  pub each_stops : (x : X) (s : Stop) → Stops (f (plain e) x) s → Stops (each_after f (map plain (drop i xs)) x) s
  each_stops x s p = subst (λ es. Stops (each_after f es x) s) (sym from_here) (then_stops (f (plain e) x) (each_after f (map plain (drop (suc i) xs))) s p)

-- ---- spines
module _ (k : Scene) (g : Context) where
  spine_after : (es : List PlainElimination) (r : PlainNeutral) (p : List Equation) → inferred k g (spine_on es r) p ≡ after (inferred k g r p) (each_after (elimination_after k g) es)
  spine_after [] r p = sym (then_made (inferred k g r p))
  spine_after (arg m n ∷ es) r p = spine_after es _ p ∙ then_then (inferred k g r p) (elimination_after k g (arg m n)) (each_after (elimination_after k g) es)
  spine_after (first ∷ es) r p = spine_after es _ p ∙ then_then (inferred k g r p) (elimination_after k g first) (each_after (elimination_after k g) es)
  spine_after (second ∷ es) r p = spine_after es _ p ∙ then_then (inferred k g r p) (elimination_after k g second) (each_after (elimination_after k g) es)

  pub neutral_after : (n : Neutral) (p : List Equation) → inferred k g (plain_neutral n) p ≡ after (with_type (head_type k g n.head) p) (each_after (elimination_after k g) (map plain_elim n.spine))
  neutral_after n p = ap (λ x. inferred k g x p) (plain-neutral n) ∙ spine_after (map plain_elim n.spine) (head_alone n.head) p
