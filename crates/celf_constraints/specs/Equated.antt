-- What contracts see of an equation in memory, whose oldest local comes first.
use Rattle.std.specs.Prelude.{List, map, reverse}
use Rattle.std.specs.List.{slice_get}
use Rattle.clf_syntax.specs.declared.tree.Simple.{Simple}
use Rattle.clf_syntax.specs.declared.tree.SimpleEntry.{SimpleEntry}
use Rattle.clf_syntax.specs.Plain.{plain_obj}
use Rattle.clf_syntax.specs.PlainSimple.{plain_simple, plain_simple_entry}
use Rattle.clf_syntax.specs.Simple.{Assignment}
use Rattle.pattern_laws.specs.Instantiations.{Types, closed}
use Rattle.pattern_laws.specs.Equations.{Locals, scoped, Equation as PlainEquation}
use Rattle.celf_constraints.specs.declared.equation.Equation.{Equation}
use Rattle.celf_constraints.specs.declared.equation.Equations.{Equations}

-- the locals, the newest first
abbrev pub plain_locals : List SimpleEntry → Locals
plain_locals es = map plain_simple_entry (reverse es)

-- the assignment of constants, of metavariables by number, and of the locals
abbrev pub assigned_in : Types → List Simple → List SimpleEntry → Assignment
assigned_in constants metas locals = scoped (plain_locals locals) (closed constants (slice_get (map plain_simple metas)))

abbrev pub plain_equation : Equation → PlainEquation
plain_equation e = record { locals = plain_locals e.locals.items; left = plain_obj e.left; right = plain_obj e.right; type = plain_simple e.ty }

abbrev pub equations_in : Equations → List PlainEquation
equations_in s = map plain_equation s.items.items
