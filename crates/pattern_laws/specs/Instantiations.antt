-- Metavariables by number: their simple types and solutions, and instantiations over parameters.
use Rattle.std.specs.Prelude.{ℕ, ◌≡◌, Option, Some, None}
use Rattle.clf_syntax.specs.declared.tree.Head.TheVariants.{Const, Var, Meta}
use Rattle.clf_syntax.specs.Tree.{PlainObject}
use Rattle.clf_syntax.specs.TypeTree.{SimpleType}
use Rattle.clf_syntax.specs.Simple.{Assignment, SimplyTyped}
use Rattle.hered_subst.specs.Substitution.{under, Substituted}
use Rattle.trace_equal.specs.Exchange.{Joined}
use Rattle.subst_laws.specs.Environments.{Instantiation, instant}

-- simple types by number: of constants, of metavariables, of parameters
abbrev pub Types : Type 0
Types = ℕ → Option SimpleType

-- the assignment of constants and metavariables, without variables
abbrev pub closed : Types → Types → Assignment
closed constants metas (Const c) = constants c
closed constants metas (Var i) = None
closed constants metas (Meta m) = metas m

-- the assignment of constants and parameters, without metavariables
abbrev pub over : Types → Types → Assignment
over constants parameters (Const c) = constants c
over constants parameters (Var i) = parameters i
over constants parameters (Meta m) = None

-- Instantiated n t o x: x is o with the objects of t put for metavariables, under n locals. The parameters are the variables after the locals.
abbrev pub Instantiated : ℕ → Instantiation → PlainObject → PlainObject → Type 0
Instantiated n t o x = Substituted (under n (instant t)) o x

-- An instantiation over parameters gives each metavariable an object of its simple type, in which the parameters are the only free variables.
-- No metavariable has a type there, so the objects have none, and no hole is typed. It is closed where there are no parameters.
abbrev pub Instantiates : Types → Types → Types → Instantiation → Type 0
Instantiates constants metas parameters t = (m : ℕ) (a : SimpleType) → metas m ≡ Some a → (o : PlainObject) × (t m ≡ Some o) × SimplyTyped (over constants parameters) o a

-- t agrees with solutions where it joins each solved metavariable with its solution.
abbrev pub Agrees : Instantiation → Instantiation → Type 0
Agrees t given = (m : ℕ) (s : PlainObject) → given m ≡ Some s → (o x : PlainObject) × (t m ≡ Some o) × Substituted (instant t) s x × Joined o x
