use Rattle.std.proofs.Common.{◌≡◌, length, map, reverse, refl, ap, sym, subst, ◌∙◌, arith}
use Rattle.std.proofs.lemmas.List.{length-append}
use Rattle.clf_syntax.specs.declared.tree.Tele.{out-Tele}
use Rattle.clf_syntax.specs.PlainTypes.{plain_ty, plain_tele, plain_tele_entry, plain-Monad}
use Rattle.use_contexts.specs.Marks.{marks}
use Rattle.clf_decision.specs.Outcome.{passed}
use Rattle.clf_decision.specs.Checking.{pattern_left}
use Rattle.clf_kernel.proofs.Growing.{entries_of, entries_length}
use Rattle.clf_kernel.proofs.Entering.{entered_context, pattern_width}
use Rattle.clf_kernel.proofs.Held.{length-all_held}
use Rattle.clf_kernel.proofs.judge.Judge.enter_step.Goals as goal

pub returns-in_ok-copy-in-Monad-clause-outcome : goal.returns-in_ok-copy-in-Monad-clause-outcome
returns-in_ok-copy-in-Monad-clause-outcome c =
    record {
      entries = plain_tele c.in-Monad.tele;
      type = ap plain_ty c.in-Monad.is ∙ plain-Monad c.in-Monad.tele;
      pattern = subst (λ ms. pattern_left ms (plain_tele c.in-Monad.tele) ≡ passed tt) c.as_slice.ensures c.in_default.ensures;
      context = ap (λ es. reverse (map plain_tele_entry es)) c.in_ok-enter_entries-in-Monad.ensures.entries.entries ∙ entered_context (entries_of c.args.self.now) c.in-Monad.tele;
      held = c.in_ok-row-in-Monad.ensures c.args.modes.now (sym c.len.ensures);
      modes = c.in_ok-copy-in-Monad.ensures;
      slack = refl;
    }

pub returns-in_ok-copy-in-Monad-clause-marked : goal.returns-in_ok-copy-in-Monad-clause-marked
returns-in_ok-copy-in-Monad-clause-marked c =
    let q : pattern_left c.args.modes.now (plain_tele c.in-Monad.tele) ≡ passed tt = subst (λ ms. pattern_left ms (plain_tele c.in-Monad.tele) ≡ passed tt) c.as_slice.ensures c.in_default.ensures in
    let w = pattern_width c.args.modes.now c.in-Monad.tele q in
    let n = ap length c.in_ok-enter_entries-in-Monad.ensures.entries.entries ∙ length-append (entries_of c.args.self.now) (out-Tele c.in-Monad.tele).entries in
    let k = entries_length c.enter_entries.new.self.ctx in
    let o = entries_length c.args.self.now.ctx in
    let m = ap length (c.in_ok-row-in-Monad.ensures c.args.modes.now (sym c.len.ensures)) ∙ length-all_held c.args.modes.now (marks c.args.found.left.row) in
    let r = c.requires.marked in
    omega (arith, w, n, k, o, m, r)
