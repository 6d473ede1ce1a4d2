use Rattle.std.proofs.Common.{◌∙◌, ap, sym, length, arith}
use Rattle.use_contexts.specs.Marks.{marks}
use Rattle.clf_kernel.proofs.RowSteps.{difference_within, length_in_both}
use Rattle.clf_kernel.specs.Judge.{context_of}
use Rattle.clf_kernel.proofs.judge.Judge.join.Goals as goal

pub level-requires : goal.level-requires
level-requires c =
    let l = difference_within (context_of c.args.self.now) (marks c.args.first.row) c.args.first.slack (marks c.args.second.row) c.args.second.slack _ c.in-Err.ensures.differ in
    record { there = omega (arith, l) }

pub returns-in-Ok-clause-marked : goal.returns-in-Ok-clause-marked
returns-in-Ok-clause-marked c =
    ap length c.in-Ok.ensures.row ∙ length_in_both (marks c.args.first.row) (marks c.args.second.row) (c.requires.first_marked ∙ sym c.requires.second_marked) ∙ c.requires.first_marked
