-- Items of which nothing is unknown, and items of which nothing is gathered.
use Rattle.std.specs.Prelude.{List, [], ◌∷◌}
use Rattle.clf_syntax.specs.Tree.{PlainObject}
use Rattle.clf_syntax.specs.TypeTree.{PlainType, family, function, both, top, monad, PlainTelescope, end, binding, PlainKind}
use Rattle.clf_sig.specs.Entry.{PlainClass, family_of, constant_of, PlainSignature}
use Rattle.clf_sig.specs.Core.{PlainCore, declares, queries, traces, equates, checks}
use Rattle.pattern_laws.specs.Equations.{Equation}
use Rattle.gathering.specs.Setting.{Setting}
use Rattle.gathering.specs.Complete.{HasNoHole}
use Rattle.gathering.specs.Instances.{FormedSetting, FormedKinds}
use Rattle.celf_elaboration.specs.Items.{CoreGathers}

abbrev pub EachHasNoHole : List PlainObject → Type 0
EachHasNoHole [] = Unit {0}
EachHasNoHole (n ∷ ns) = HasNoHole n × EachHasNoHole ns

-- No hole stands in the type, the telescope, the kind, the core.
abbrev mutual
  pub TypeHasNoHole : PlainType → Type 0
  TypeHasNoHole (family f ns) = EachHasNoHole ns
  TypeHasNoHole (function m a b) = TypeHasNoHole a × TypeHasNoHole b
  TypeHasNoHole (both a b) = TypeHasNoHole a × TypeHasNoHole b
  TypeHasNoHole top = Unit {0}
  TypeHasNoHole (monad s) = TelescopeHasNoHole s

  pub TelescopeHasNoHole : PlainTelescope → Type 0
  TelescopeHasNoHole end = Unit {0}
  TelescopeHasNoHole (binding m a s) = TypeHasNoHole a × TelescopeHasNoHole s

abbrev pub KindHasNoHole : PlainKind → Type 0
KindHasNoHole [] = Unit {0}
KindHasNoHole (a ∷ k) = TypeHasNoHole a × KindHasNoHole k

abbrev pub ClassHasNoHole : PlainClass → Type 0
ClassHasNoHole (family_of k) = KindHasNoHole k
ClassHasNoHole (constant_of a) = TypeHasNoHole a

abbrev pub CoreHasNoHole : PlainCore → Type 0
CoreHasNoHole (declares name e) = ClassHasNoHole e.class
CoreHasNoHole (queries a) = TypeHasNoHole a
CoreHasNoHole (traces s) = TelescopeHasNoHole s
CoreHasNoHole (equates m n a) = TypeHasNoHole a × HasNoHole m × HasNoHole n
CoreHasNoHole (checks n a) = TypeHasNoHole a × HasNoHole n

-- Nothing is gathered of a core without holes, where the setting is formed.
abbrev pub GathersNothing : PlainSignature → Setting → PlainCore → Type 0
GathersNothing sig z c = FormedSetting z → FormedKinds sig z → CoreHasNoHole c → (q : List Equation) → CoreGathers sig z c q → ⊥
