use Rattle.std.proofs.Common.{ap, ◌∙◌}
use Rattle.clf_syntax.specs.PlainSimple.{plain_simple}
use Rattle.reach_walk.specs.Marks.{is_marked}
use Rattle.celf_reach.proofs.Situations.{so_far_head}
use Rattle.celf_reach.proofs.scan.scan_head.Goals as goal

pub returns : goal.returns
returns c e f = so_far_head c.args.sought.now c.args.types.now c.args.head (plain_simple c.args.ty.now) c.is_marked-foreign.result
    (c.is_marked-foreign.ensures ∙ ap (λ d. is_marked c.args.sought.now.marks.now d c.args.head) c.depth.ensures) e f
