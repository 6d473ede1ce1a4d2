use Rattle.std.proofs.Common.{◌∙◌, sym, ap, length, ◌+◌}
use Rattle.use_contexts.specs.Marks.{marks}
use Rattle.use_contexts.proofs.Lookups.{half_joined, joined_more, length-kept}
use Rattle.use_contexts.proofs.join.left_in_both.Goals as goal

pub loop-var-preserved : goal.loop-var-preserved
loop-var-preserved c = record {
  same_length = ap length c.keep_if.ensures ∙ length-kept (marks c.loop-var.row) c.loop-var.var c.holds.result ∙ c.loop-var.invariant.same_length;
  joined =
      c.loop-var.invariant.joined
      ∙ joined_more (marks c.loop-var.row) (marks c.args.second.now) c.loop-var.var c.holds.result c.loop-var.invariant.same_length c.holds.ensures
      ∙ ap (λ r. half_joined (c.loop-var.var + 1) r (marks c.args.second.now)) (sym c.keep_if.ensures);
}
