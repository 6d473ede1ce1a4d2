-- That something with a property stands at a rigid place of an object.
use Rattle.std.specs.Prelude.{ℕ, ◌≡◌, ◌⊎◌, List, ◌++◌, length}
use Rattle.clf_syntax.specs.declared.tree.Head.TheVariants.{Var}
use Rattle.clf_syntax.specs.Tree.{PlainObject, PlainNeutral, head_of}
use Rattle.clf_syntax.specs.TypeTree.{SimpleType}
use Rattle.clf_syntax.specs.Simple.{Assignment}
use Rattle.pattern_laws.specs.Equations.{Locals, scoped}
use Rattle.pattern_laws.specs.Patterns.{Place, OnDistinct, Foreign}
use Rattle.reach_laws.specs.Reach.{Standing, StandingBelow}

-- Some neutral with the property P stands at a rigid place of the object of type t, under the binders ds and the locals ls. P is of all binders on the way, the newest first, of the neutral and of its type.
abbrev pub Somewhere : (Locals → PlainNeutral → SimpleType → Type 0) → Assignment → Locals → Locals → PlainObject → SimpleType → Type 0
Somewhere P g ls ds x t = (es : Locals) × (q : PlainNeutral) × (c : SimpleType) × Standing (scoped (ds ++ ls) g) es q c x t × P (es ++ ds) q c

-- The same in one of the arguments of a neutral.
abbrev pub SomewhereBelow : (Locals → PlainNeutral → SimpleType → Type 0) → Assignment → Locals → Locals → PlainNeutral → Type 0
SomewhereBelow P g ls ds n = (es : Locals) × (q : PlainNeutral) × (c : SimpleType) × StandingBelow (scoped (ds ++ ls) g) es q c n × P (es ++ ds) q c

-- The head is a foreign local.
abbrev pub ForeignHead : Locals → List Place → Locals → PlainNeutral → Type 0
ForeignHead ls ps ds q = (w : ℕ) × (head_of q ≡ Var w) × Foreign (length ls) ps (length ds) w

-- The neutral is metavariable m on distinct locals.
abbrev pub IsItself : Assignment → Locals → ℕ → Locals → PlainNeutral → SimpleType → Type 0
IsItself g ls m ds q c = (zs : List Place) × OnDistinct (scoped (ds ++ ls) g) q m zs c

-- One of both: then no instantiation joins the object and metavariable m on distinct locals at the places ps.
abbrev pub Clashing : Assignment → Locals → ℕ → List Place → Locals → PlainNeutral → SimpleType → Type 0
Clashing g ls m ps ds q c = ForeignHead ls ps ds q ⊎ IsItself g ls m ds q c
