-- What is done is what becomes of the front of the list.
use Rattle.std.proofs.Common.{take, map}
use Rattle.clf_syntax.specs.PlainTypes.{plain_ty}
use Rattle.metavars.specs.Becoming.{Each}
use Rattle.metavars.specs.Stored.{additions}
use Rattle.celf_solve.specs.Puts.{TypeBecomes}
use Rattle.celf_solve.proofs.put.types_in.Given as goal

abbrev pub invariant-loop-ty : goal.invariant-loop-ty
invariant-loop-ty l = Each (TypeBecomes (additions l.store)) (map plain_ty (take l.ty-index l.types)) (map plain_ty l.put)
