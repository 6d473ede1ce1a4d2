-- A neutral's type, elimination by elimination from the head on.
use Rattle.std.proofs.Common.{◌≡◌, ℕ, suc, ◌+◌, ◌<◌, List, [], ◌∷◌, length, map, drop, get_or, sym, ap, subst, ◌∙◌, add-one}
use Rattle.std.proofs.Math.Seq.{drop-cons}
use Rattle.clf_syntax.specs.declared.tree.Elim.{Elim}
use Rattle.clf_syntax.specs.declared.tree.Neutral.{Neutral}
use Rattle.clf_syntax.specs.Tree.{PlainNeutral, head_alone, PlainElimination, arg, first, second, spine_on}
use Rattle.clf_syntax.specs.Plain.{plain_neutral, plain_elim, plain-neutral}
use Rattle.clf_syntax.specs.TypeTree.{PlainType}
use Rattle.use_contexts.specs.Context.{Context}
use Rattle.use_contexts.specs.Holding.{Holding}
use Rattle.clf_sig.specs.Entry.{PlainSignature}
use Rattle.clf_rules.specs.Refusal.{eliminations}
use Rattle.clf_decision.specs.Outcome.{passed, and_then}
use Rattle.use_contexts.specs.Rows.{Leftover}
use Rattle.clf_decision.specs.Checking.{head_left, inferred}
use Rattle.clf_decision.specs.Hereditary.{hereditary}
use Rattle.clf_decision.proofs.Outcomes.{then_passed, then_then}
use Rattle.clf_kernel.specs.declared.refusal.Stop.{Stop}
use Rattle.clf_kernel.specs.Spine.{elimination_left, spine_left}
use Rattle.clf_kernel.specs.Stops.{Stops}
use Rattle.clf_kernel.proofs.Stops.{then_stops}

module _ (sig : PlainSignature) (g : Context) (h : Holding) where
  spine_inferred : (es : List PlainElimination) (r : PlainNeutral) → inferred hereditary sig g h (spine_on es r) ≡ and_then (inferred hereditary sig g h r) (spine_left hereditary sig g (eliminations r) es)
  spine_inferred [] r = sym (then_passed (inferred hereditary sig g h r))
  spine_inferred (arg m n ∷ es) r = spine_inferred es _ ∙ then_then (inferred hereditary sig g h r) (elimination_left hereditary sig g (eliminations r) (arg m n)) (spine_left hereditary sig g (suc (eliminations r)) es)
  spine_inferred (first ∷ es) r = spine_inferred es _ ∙ then_then (inferred hereditary sig g h r) (elimination_left hereditary sig g (eliminations r) first) (spine_left hereditary sig g (suc (eliminations r)) es)
  spine_inferred (second ∷ es) r = spine_inferred es _ ∙ then_then (inferred hereditary sig g h r) (elimination_left hereditary sig g (eliminations r) second) (spine_left hereditary sig g (suc (eliminations r)) es)

  pub neutral_inferred : (n : Neutral) → inferred hereditary sig g h (plain_neutral n) ≡ and_then (head_left sig g h n.head) (spine_left hereditary sig g 0 (map plain_elim n.spine))
  neutral_inferred n = ap (inferred hereditary sig g h) (plain-neutral n) ∙ spine_inferred (map plain_elim n.spine) (head_alone n.head)

-- ---- one step along a spine
module _ (sig : PlainSignature) (g : Context) (spine : List Elim) (i : ℕ) (x : Elim) (l : i < length spine) (e : x ≡ get_or spine i x) where
  from_here : map plain_elim (drop i spine) ≡ plain_elim x ∷ map plain_elim (drop (suc i) spine)
  from_here = ap (map plain_elim) (drop-cons spine i x l ∙ ap (λ y. y ∷ drop (suc i) spine) (sym e))

  pub spine_more : (f k : PlainType × Leftover) → elimination_left hereditary sig g i (plain_elim x) f ≡ passed k
      → spine_left hereditary sig g i (map plain_elim (drop i spine)) f ≡ spine_left hereditary sig g (i + 1) (map plain_elim (drop (i + 1) spine)) k
  spine_more f k p = rw (from_here, add-one) (ap (λ w. and_then w (spine_left hereditary sig g (suc i) (map plain_elim (drop (suc i) spine)))) p)

  pub spine_stops : (f : PlainType × Leftover) (s : Stop) → Stops (elimination_left hereditary sig g i (plain_elim x) f) s → Stops (spine_left hereditary sig g i (map plain_elim (drop i spine)) f) s
  spine_stops f s p = subst (λ es. Stops (spine_left hereditary sig g i es f) s) (sym from_here) (then_stops (elimination_left hereditary sig g i (plain_elim x) f) (spine_left hereditary sig g (suc i) (map plain_elim (drop (suc i) spine))) s p)

pub ruleset spine_laws = (neutral_inferred)
