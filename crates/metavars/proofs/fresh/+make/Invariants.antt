-- The types get smaller.
use Rattle.std.proofs.Common.{◌+◌, ◌*◌}
use Rattle.clf_syntax.specs.PlainSimple.{plain_simple}
use Rattle.hered_subst.proofs.SimpleTyping.{rank}
use Rattle.metavars.proofs.fresh.+make.Given as goal

abbrev pub decreases-make : goal.decreases-make
decreases-make l = rank (plain_simple l.ty.now) * 2

abbrev pub decreases-make_pair : goal.decreases-make_pair
decreases-make_pair l = (rank (plain_simple l.left.now) + rank (plain_simple l.right.now)) * 2 + 1
