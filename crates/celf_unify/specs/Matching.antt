-- Inner: what contracts see of two spines that were gone along.
use Rattle.std.specs.Prelude.{List, map}
use Rattle.clf_syntax.specs.TypeTree.{SimpleType}
use Rattle.clf_syntax.specs.PlainSimple.{plain_simple}
use Rattle.pattern_laws.specs.Equations.{Equation}
use Rattle.celf_constraints.specs.Equated.{plain_equation}
use Rattle.celf_unify.specs.declared.spines.Matching.{Matching}

-- the type of the neutral so far, and the equations of the arguments
abbrev pub plain_matching : Matching → SimpleType × List Equation
plain_matching m = (plain_simple m.ty.now, map plain_equation m.parts.items)
