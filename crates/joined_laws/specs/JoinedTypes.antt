-- Types, telescopes and kinds that are joined: the same but for their indices, which are joined place by place.
use Rattle.std.specs.Prelude.{ℕ, List, [], ◌∷◌}
use Rattle.clf_syntax.specs.declared.tree.Mode.{Mode}
use Rattle.clf_syntax.specs.Tree.{PlainObject}
use Rattle.clf_syntax.specs.TypeTree.{PlainType, family, function, both, top, monad, PlainTelescope, end, binding, PlainKind}
use Rattle.trace_equal.specs.Exchange.{JoinedEach}

mutual
  pub data JoinedType : PlainType → PlainType → Type 0 where
    joined_family : {f : ℕ} {ns os : List PlainObject} → JoinedEach ns os → JoinedType (family f ns) (family f os)
    joined_function : {m : Mode} {a b c d : PlainType} → JoinedType a c → JoinedType b d → JoinedType (function m a b) (function m c d)
    joined_both : {a b c d : PlainType} → JoinedType a c → JoinedType b d → JoinedType (both a b) (both c d)
    joined_top : JoinedType top top
    joined_monad : {s u : PlainTelescope} → JoinedTelescope s u → JoinedType (monad s) (monad u)

  pub data JoinedTelescope : PlainTelescope → PlainTelescope → Type 0 where
    joined_end : JoinedTelescope end end
    joined_binding : {m : Mode} {a b : PlainType} {s u : PlainTelescope} → JoinedType a b → JoinedTelescope s u → JoinedTelescope (binding m a s) (binding m b u)

pub data JoinedKind : PlainKind → PlainKind → Type 0 where
  joined_no_argument : JoinedKind [] []
  joined_argument : {a b : PlainType} {k l : PlainKind} → JoinedType a b → JoinedKind k l → JoinedKind (a ∷ k) (b ∷ l)
