-- What an object that is unknown in part uses of a holding: the rules of typing, without types. What is passed over uses nothing.
use Rattle.std.specs.Prelude.{ℕ, ◌≡◌, ◌⊎◌, Bool, true, false, List, [], ◌∷◌, Some}
use Rattle.std.specs.List.{slice_get}
use Rattle.clf_syntax.specs.declared.tree.Mode.{Mode}
use Rattle.clf_syntax.specs.declared.tree.Head.{Head}
use Rattle.clf_syntax.specs.declared.tree.Head.TheVariants.{Const, Var, Meta}
use Rattle.clf_syntax.specs.Tree.{PlainObject, lam, pair, unit, monadic, atomic, hole, PlainNeutral, head_alone, app, fst, snd, PlainExpression, step, done, PlainTuple, empty, entry, head_of}
use Rattle.clf_syntax.specs.TypeTree.{PlainType}
use Rattle.use_contexts.specs.Context.{Context, modes}
use Rattle.use_contexts.specs.Holding.{Holding, Split, is_weak, may_use, Uses, all_held}
use Rattle.pattern_laws.specs.Equations.{Equation}
use Rattle.gathering.specs.Shape.{Shape, at_function, at_both, at_monad, EntryShapes, an_entry, with_shapes}
use Rattle.gathering.specs.Setting.{Setting}
use Rattle.gathering.specs.Gather.{Gathers}

-- the modes of the variables in scope, with those of a pattern, the last one the newest
abbrev pub with_modes : List Mode → List Mode → List Mode
with_modes [] k = k
with_modes (m ∷ ms) k = with_modes ms (m ∷ k)

-- Lambda: its body uses what is held, with the new variable.
pub record LambdaSpends (o : Shape) (Body : Shape → Shape → Type 0) : Type 0 where
  pub passed : Bool
  pub domain_shape : Shape
  pub range_shape : Shape
  pub shape : o ≡ at_function passed domain_shape range_shape
  pub body : Body domain_shape range_shape

-- Pair: both parts use what is held.
pub record PairSpends (o : Shape) (Left Right : Shape → Type 0) : Type 0 where
  pub left_shape : Shape
  pub right_shape : Shape
  pub shape : o ≡ at_both left_shape right_shape
  pub left : Left left_shape
  pub right : Right right_shape

-- Application: what is held is split. What the argument may use is as its mode says, and one that is passed over uses nothing.
pub record ApplicationSpends (k : List Mode) (h : Holding) (m : Mode) (o : Shape) (Function Argument : Holding → Shape → Type 0) : Type 0 where
  pub passed : Bool
  pub domain_shape : Shape
  pub for_function : Holding
  pub for_argument : Holding
  pub split : Split k h for_function for_argument
  pub applied : Function for_function (at_function passed domain_shape o)
  pub usable : may_use m k for_argument ≡ true
  pub argument : (passed ≡ true) ⊎ ((passed ≡ false) × Argument for_argument domain_shape)

-- Step: what is held is split between the right side and the rest.
pub record StepSpends (k : List Mode) (h : Holding) (Right : Holding → Shape → Type 0) (Rest : EntryShapes → Holding → Type 0) : Type 0 where
  pub entry_shapes : EntryShapes
  pub for_right : Holding
  pub for_rest : Holding
  pub split : Split k h for_right for_rest
  pub right : Right for_right (at_monad entry_shapes)
  pub rest : Rest entry_shapes for_rest

-- Entry of a tuple: what is held is split between it and the later ones.
pub record EntrySpends (k : List Mode) (h : Holding) (m : Mode) (v : EntryShapes) (First : Holding → Shape → Type 0) (Later : Holding → EntryShapes → Type 0) : Type 0 where
  pub passed : Bool
  pub first_shape : Shape
  pub later_shapes : EntryShapes
  pub for_first : Holding
  pub for_later : Holding
  pub shape : v ≡ an_entry passed first_shape later_shapes
  pub split : Split k h for_first for_later
  pub usable : may_use m k for_first ≡ true
  pub first : (passed ≡ true) ⊎ ((passed ≡ false) × First for_first first_shape)
  pub later : Later for_later later_shapes

module _ (z : Setting) where
  abbrev pub HeadSpends : List Shape → List Mode → Holding → Head → Shape → Type 0
  HeadSpends w k h (Const c) o = (is_weak k h ≡ true) × (a : PlainType) × (z.given c ≡ Some a) × (o ≡ z.shape a)
  HeadSpends w k h (Var i) o = Uses k h i × (slice_get w i ≡ Some o)
  HeadSpends w k h (Meta m) o = (is_weak k h ≡ true) × (a : PlainType) × (z.implicit m ≡ Some a) × (o ≡ z.shape a)

  abbrev mutual
    -- Spends w k h n o: the object n, at a type of the shape o, uses exactly what is held, up to what may be left over.
    -- The shapes of the variables are w, their modes k. Units and holes, and what is to be filled in, use whatever is held.
    pub Spends : List Shape → List Mode → Holding → PlainObject → Shape → Type 0
    Spends w k h (lam m b) o = LambdaSpends o (λ u v. Spends (u ∷ w) (m ∷ k) (true ∷ h) b v)
    Spends w k h (pair l r) o = PairSpends o (λ u. Spends w k h l u) (λ v. Spends w k h r v)
    Spends w k h unit o = Unit {0}
    Spends w k h (monadic e) o = (v : EntryShapes) × (o ≡ at_monad v) × ExpressionSpends w k h e v
    Spends w k h (atomic n) o = ((u : Shape) × NeutralSpends w k h n u) ⊎ ((i : ℕ) × (z.fills ≡ true) × (head_of n ≡ Meta i))
    Spends w k h hole o = Unit {0}

    pub NeutralSpends : List Shape → List Mode → Holding → PlainNeutral → Shape → Type 0
    NeutralSpends w k h (head_alone x) o = HeadSpends w k h x o
    NeutralSpends w k h (app m r n) o = ApplicationSpends k h m o (λ p u. NeutralSpends w k p r u) (λ p u. Spends w k p n u)
    NeutralSpends w k h (fst r) o = (v : Shape) × NeutralSpends w k h r (at_both o v)
    NeutralSpends w k h (snd r) o = (u : Shape) × NeutralSpends w k h r (at_both u o)

    pub ExpressionSpends : List Shape → List Mode → Holding → PlainExpression → EntryShapes → Type 0
    ExpressionSpends w k h (step ms r e) v = StepSpends k h (λ p u. NeutralSpends w k p r u) (λ x p. ExpressionSpends (with_shapes x w) (with_modes ms k) (all_held ms p) e v)
    ExpressionSpends w k h (done t) v = TupleSpends w k h t v

    pub TupleSpends : List Shape → List Mode → Holding → PlainTuple → EntryShapes → Type 0
    TupleSpends w k h empty v = is_weak k h ≡ true
    TupleSpends w k h (entry m n t) v = EntrySpends k h m v (λ p u. Spends w k p n u) (λ p x. TupleSpends w k p t x)

-- Gathering with a holding: under it the object may have the type, of the shape, where the equations are solved.
abbrev pub GathersUnder : Setting → Context → List Shape → Holding → PlainObject → PlainType → Shape → List Equation → Type 0
GathersUnder z g w h n a o q = Gathers z g w n a o q × Spends z w (modes g) h n o
