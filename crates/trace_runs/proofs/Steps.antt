-- Single steps: the one that a neutral's type and leftover give, that it leads to one state, and that a check may start from there.
use Rattle.std.proofs.Common.{◌≡◌, ◌∙◌, List, refl, sym, ap, subst}
use Rattle.clf_syntax.specs.declared.tree.Mode.{Mode}
use Rattle.clf_syntax.specs.Tree.{PlainNeutral}
use Rattle.clf_syntax.specs.TypeTree.{PlainTelescope, monad}
use Rattle.use_contexts.specs.Context.{modes, telescope_modes}
use Rattle.use_contexts.specs.Holding.{Split, WellMarked}
use Rattle.use_contexts.specs.Rows.{Leftover}
use Rattle.clf_sig.specs.Entry.{PlainSignature}
use Rattle.clf_rules.specs.Explained.{MaySynthesize}
use Rattle.clf_rules.specs.Typing.{Synthesizes}
use Rattle.clf_rules.proofs.OneType.{type_is_one}
use Rattle.clf_rules.proofs.UsedParts.{used_of, used-part}
use Rattle.clf_decision.specs.Laws.{InferredIs}
use Rattle.clf_decision.specs.Starts.{Starts}
use Rattle.clf_decision.proofs.Explanations.{rest-starts}
use Rattle.trace_runs.specs.Run.{PlainState, TakesStep, state_after}
use Rattle.trace_runs.proofs.LeastParts.{first-part, second-part, splits-off, taken-within, within_both, rest-is-one}

pub the-entries : {u v : PlainTelescope} → monad u ≡ monad v → u ≡ v
the-entries e = cc

module _ (sig : PlainSignature) (ms : List Mode) (r : PlainNeutral) (s : PlainState) where
  -- What the check of a right side leaves is what the step leaves.
  pub step-of : (u : PlainTelescope) (x : Leftover) → WellMarked (modes s.context) s.holding → InferredIs sig s.context s.holding r (monad u, x) → telescope_modes u ≡ ms
      → TakesStep sig ms r s (state_after s.context x.0 u)
  step-of u x w found m = record {
    entries = u;
    taken = used_of (modes s.context) s.holding x.0;
    left = x.0;
    split = splits-off (modes s.context) s.holding x.0 w found.0.0;
    right = (used-part (modes s.context) s.holding x (λ p. Synthesizes sig s.context p r (monad u)) found.0).1;
    least = λ p q a split has.
        taken-within (modes s.context) s.holding x.0 x.1 p
        (found.0.1 p (first-part (modes s.context) s.holding p q w split) (subst (λ b. Synthesizes sig s.context p r b) (found.1 p a has) has));
    pattern = m;
    state = refl;
  }

  module _ (a : PlainState) (x : TakesStep sig ms r s a) where
    pub step-is-one : (b : PlainState) → TakesStep sig ms r s b → a ≡ b
    step-is-one b y =
        let taken : x.taken ≡ y.taken = within_both x.taken y.taken (x.least y.taken y.left (monad y.entries) y.split y.right) (y.least x.taken x.left (monad x.entries) x.split x.right) in
        let left = rest-is-one (modes s.context) s.holding x.taken x.left y.left x.split (subst (λ t. Split (modes s.context) s.holding t y.left) (sym taken) y.split) in
        let entries = the-entries (type_is_one sig s.context x.taken y.taken r (monad x.entries) (monad y.entries) x.right y.right) in
        x.state ∙ ap (λ l. state_after s.context l x.entries) left ∙ ap (λ u. state_after s.context y.left u) entries ∙ sym y.state

    pub step-keeps-starts : Starts sig s.context s.holding → Starts sig a.context a.holding
    step-keeps-starts w =
        let may : MaySynthesize sig s.context s.holding r (monad x.entries) = (x.taken, first-part (modes s.context) s.holding x.taken x.left w.marked x.split, x.right) in
        subst (λ (b : PlainState). Starts sig b.context b.holding) (sym x.state)
        (rest-starts sig s.context s.holding r x.entries x.left (telescope_modes x.entries) w (second-part (modes s.context) s.holding x.taken x.left w.marked x.split) may refl)
