-- Gathering of types, telescopes and kinds as they are written: nothing is passed over, and each index is gathered at its argument's type.
use Rattle.std.specs.Prelude.{◌≡◌, List, [], ◌∷◌, ◌++◌, Some}
use Rattle.clf_syntax.specs.declared.tree.Mode.TheVariants.{Persistent}
use Rattle.clf_syntax.specs.Tree.{PlainObject}
use Rattle.clf_syntax.specs.TypeTree.{PlainType, family, function, both, top, monad, PlainTelescope, end, binding, PlainKind}
use Rattle.use_contexts.specs.Context.{Context}
use Rattle.hered_subst.specs.Substitution.{single, SubstitutedKind}
use Rattle.clf_sig.specs.Entry.{PlainSignature, family_kind}
use Rattle.pattern_laws.specs.Equations.{Equation}
use Rattle.gathering.specs.Shape.{Shape, unmarked_shape}
use Rattle.gathering.specs.Setting.{Setting}
use Rattle.gathering.specs.Gather.{Gathers}

-- An index: its equations at the argument's type, and then those of the later ones, after it is put for the argument in the kind.
pub record IndexGathers (n : PlainObject) (k : PlainKind) (q : List Equation) (Index : List Equation → Type 0) (Later : PlainKind → List Equation → Type 0) : Type 0 where
  pub after_put : PlainKind
  pub of_index : List Equation
  pub of_later : List Equation
  pub index : Index of_index
  pub put : SubstitutedKind (single n 0) k after_put
  pub later : Later after_put of_later
  pub equations : q ≡ of_index ++ of_later

-- Two parts, one after the other.
pub record InOrder (q : List Equation) (First Second : List Equation → Type 0) : Type 0 where
  pub of_first : List Equation
  pub of_second : List Equation
  pub first : First of_first
  pub second : Second of_second
  pub equations : q ≡ of_first ++ of_second

module _ (sig : PlainSignature) (z : Setting) where
  -- as many objects as the kind has arguments
  abbrev pub IndicesGather : Context → List Shape → List PlainObject → PlainKind → List Equation → Type 0
  IndicesGather g w [] [] q = q ≡ []
  IndicesGather g w (n ∷ ns) (a ∷ k) q = IndexGathers n k q (λ p. Gathers z g w n a (unmarked_shape a) p) (λ l p. IndicesGather g w ns l p)
  IndicesGather g w [] (a ∷ k) q = ⊥
  IndicesGather g w (n ∷ ns) [] q = ⊥

  abbrev mutual
    pub TypeGathers : Context → List Shape → PlainType → List Equation → Type 0
    TypeGathers g w (family f ns) q = (k : PlainKind) × (family_kind sig f ≡ Some k) × IndicesGather g w ns k q
    TypeGathers g w (function m a b) q = InOrder q (λ p. TypeGathers g w a p) (λ p. TypeGathers ((m, a) ∷ g) (unmarked_shape a ∷ w) b p)
    TypeGathers g w (both a b) q = InOrder q (λ p. TypeGathers g w a p) (λ p. TypeGathers g w b p)
    TypeGathers g w top q = q ≡ []
    TypeGathers g w (monad s) q = TelescopeGathers g w s q

    pub TelescopeGathers : Context → List Shape → PlainTelescope → List Equation → Type 0
    TelescopeGathers g w end q = q ≡ []
    TelescopeGathers g w (binding m a s) q = InOrder q (λ p. TypeGathers g w a p) (λ p. TelescopeGathers ((m, a) ∷ g) (unmarked_shape a ∷ w) s p)

  abbrev pub KindGathers : Context → List Shape → PlainKind → List Equation → Type 0
  KindGathers g w [] q = q ≡ []
  KindGathers g w (a ∷ k) q = InOrder q (λ p. TypeGathers g w a p) (λ p. KindGathers ((Persistent, a) ∷ g) (unmarked_shape a ∷ w) k p)
