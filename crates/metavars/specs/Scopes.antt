-- Inner: scopes in memory, the oldest variable first, as plain scopes.
use Rattle.std.specs.Prelude.{ℕ, if◌then◌else◌, List, map, reverse}
use Rattle.clf_syntax.specs.declared.tree.Head.TheVariants.{Var}
use Rattle.clf_syntax.specs.Tree.{PlainNeutral, head_alone, app}
use Rattle.clf_syntax.specs.TypeTree.{SimpleType, arrow}
use Rattle.clf_syntax.specs.PlainSimple.{plain_simple}
use Rattle.eta_laws.specs.Eta.{eta}
use Rattle.metavars.specs.declared.fresh.Local.{Local as DeclaredLocal}
use Rattle.metavars.specs.Fresh.{Local, Scope}

abbrev pub plain_local : DeclaredLocal → Local
plain_local l = record { mode = l.mode; type = plain_simple l.ty.now; applied = l.applied }

abbrev pub plain_scope : List DeclaredLocal → Scope
plain_scope ls = map plain_local (reverse ls)

-- a function of one variable, where it is used
abbrev pub function_by : Local → SimpleType → SimpleType
function_by l t = if l.applied then arrow l.mode l.type t else t

-- a neutral applied to one variable of a number, where it is used
abbrev pub applied_by : Local → ℕ → PlainNeutral → PlainNeutral
applied_by l i r = if l.applied then app l.mode r (eta l.type (head_alone (Var i))) else r
