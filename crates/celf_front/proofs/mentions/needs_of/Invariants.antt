use Rattle.std.proofs.Common.{map}
use Rattle.clf_syntax.specs.PlainTypes.{plain_ty}
use Rattle.celf_front.specs.Marking.{AreRows}
use Rattle.celf_front.proofs.mentions.needs_of.Given as goal

abbrev pub invariant-loop-binder : goal.invariant-loop-binder
invariant-loop-binder l = AreRows l.first (map plain_ty l.types) l.binders l.binder-index l.rows
