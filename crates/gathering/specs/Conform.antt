-- What conforms to a simple type and a shape: gathering without indices. The first place that does not conform is what is wrong with an item
-- before any equation is looked at.
use Rattle.std.specs.Prelude.{ℕ, ◌≡◌, ◌⊎◌, Bool, true, false, List, ◌∷◌, Some, None}
use Rattle.std.specs.List.{slice_get}
use Rattle.clf_syntax.specs.declared.tree.Mode.{Mode}
use Rattle.clf_syntax.specs.declared.tree.Head.{Head}
use Rattle.clf_syntax.specs.declared.tree.Head.TheVariants.{Const, Var, Meta}
use Rattle.clf_syntax.specs.Tree.{PlainObject, lam, pair, unit, monadic, atomic, hole, PlainNeutral, head_alone, app, fst, snd, PlainExpression, step, done, PlainTuple, empty, entry, head_of}
use Rattle.clf_syntax.specs.TypeTree.{PlainType, SimpleType, base, arrow, simple_with, simple_top, lax, SimpleTelescope, simple_end, simple_binding}
use Rattle.clf_syntax.specs.Simple.{Assignment, extended, extended_by, simple_modes, SimplyTyped}
use Rattle.gathering.specs.Shape.{Shape, at_function, at_both, at_monad, EntryShapes, an_entry, with_shapes}
use Rattle.gathering.specs.Setting.{Setting}

pub record LambdaConforms (m : Mode) (t : SimpleType) (o : Shape) (Body : SimpleType → SimpleType → Shape → Shape → Type 0) : Type 0 where
  pub domain : SimpleType
  pub range : SimpleType
  pub passed : Bool
  pub domain_shape : Shape
  pub range_shape : Shape
  pub type : t ≡ arrow m domain range
  pub shape : o ≡ at_function passed domain_shape range_shape
  pub body : Body domain range domain_shape range_shape

pub record PairConforms (t : SimpleType) (o : Shape) (Left Right : SimpleType → Shape → Type 0) : Type 0 where
  pub left_type : SimpleType
  pub right_type : SimpleType
  pub left_shape : Shape
  pub right_shape : Shape
  pub type : t ≡ simple_with left_type right_type
  pub shape : o ≡ at_both left_shape right_shape
  pub left : Left left_type left_shape
  pub right : Right right_type right_shape

pub record MonadicConforms (t : SimpleType) (o : Shape) (Body : SimpleTelescope → EntryShapes → Type 0) : Type 0 where
  pub entries : SimpleTelescope
  pub entry_shapes : EntryShapes
  pub type : t ≡ lax entries
  pub shape : o ≡ at_monad entry_shapes
  pub body : Body entries entry_shapes

-- at a family
pub record LeafConforms (t : SimpleType) (Neutral : SimpleType → Shape → Type 0) : Type 0 where
  pub number : ℕ
  pub found_shape : Shape
  pub type : t ≡ base number
  pub neutral : Neutral t found_shape

-- an object to be filled in
pub record FilledConforms (z : Setting) (b : Assignment) (n : PlainNeutral) (t : SimpleType) : Type 0 where
  pub number : ℕ
  pub fills : z.fills ≡ true
  pub head : head_of n ≡ Meta number
  pub not_implicit : z.implicit number ≡ None
  pub typed : SimplyTyped b (atomic n) t

-- an implicit variable of a directive at a monad
pub record ImplicitConforms (z : Setting) (n : PlainNeutral) (t : SimpleType) (Neutral : SimpleType → Shape → Type 0) : Type 0 where
  pub number : ℕ
  pub entries : SimpleTelescope
  pub found_shape : Shape
  pub read : PlainType
  pub head : head_of n ≡ Meta number
  pub implicit : z.implicit number ≡ Some read
  pub type : t ≡ lax entries
  pub neutral : Neutral t found_shape

-- An argument or an entry. One that is passed over must only be simply typed.
abbrev pub PartConforms : Assignment → Bool → PlainObject → SimpleType → Type 0 → Type 0
PartConforms b d n a Searched = ((d ≡ true) × SimplyTyped b n a) ⊎ ((d ≡ false) × Searched)

pub record ApplicationConforms (b : Assignment) (m : Mode) (n : PlainObject) (t : SimpleType) (o : Shape) (Function Argument : SimpleType → Shape → Type 0) : Type 0 where
  pub domain : SimpleType
  pub passed : Bool
  pub domain_shape : Shape
  pub applied : Function (arrow m domain t) (at_function passed domain_shape o)
  pub argument : PartConforms b passed n domain (Argument domain domain_shape)

pub record StepConforms (ms : List Mode) (Right : SimpleType → Shape → Type 0) (Rest : SimpleTelescope → EntryShapes → Type 0) : Type 0 where
  pub entries : SimpleTelescope
  pub entry_shapes : EntryShapes
  pub right : Right (lax entries) (at_monad entry_shapes)
  pub pattern : simple_modes entries ≡ ms
  pub rest : Rest entries entry_shapes

pub record EntryConforms (b : Assignment) (m : Mode) (n : PlainObject) (s : SimpleTelescope) (v : EntryShapes) (First : SimpleType → Shape → Type 0) (Later : SimpleTelescope → EntryShapes → Type 0) : Type 0 where
  pub first_type : SimpleType
  pub later_types : SimpleTelescope
  pub passed : Bool
  pub first_shape : Shape
  pub later_shapes : EntryShapes
  pub type : s ≡ simple_binding m first_type later_types
  pub shape : v ≡ an_entry passed first_shape later_shapes
  pub first : PartConforms b passed n first_type (First first_type first_shape)
  pub later : Later later_types later_shapes

module _ (z : Setting) where
  abbrev pub HeadConforms : List Shape → Head → Shape → Type 0
  HeadConforms w (Const c) o = (a : PlainType) × (z.given c ≡ Some a) × (o ≡ z.shape a)
  HeadConforms w (Var i) o = slice_get w i ≡ Some o
  HeadConforms w (Meta k) o = (a : PlainType) × (z.implicit k ≡ Some a) × (o ≡ z.shape a)

  abbrev mutual
    -- Conforms w b n t o: over variables of the shapes w, and heads of the simple types b, the object n conforms to the simple type t of the shape o.
    pub Conforms : List Shape → Assignment → PlainObject → SimpleType → Shape → Type 0
    Conforms w b (lam m n) t o = LambdaConforms m t o (λ a c u v. Conforms (u ∷ w) (extended a b) n c v)
    Conforms w b (pair l r) t o = PairConforms t o (λ a u. Conforms w b l a u) (λ a u. Conforms w b r a u)
    Conforms w b unit t o = t ≡ simple_top
    Conforms w b (monadic e) t o = MonadicConforms t o (λ s v. ExpressionConforms w b e s v)
    Conforms w b (atomic n) t o = LeafConforms t (λ a u. NeutralConforms w b n a u) ⊎ (FilledConforms z b n t ⊎ ImplicitConforms z n t (λ a u. NeutralConforms w b n a u))
    Conforms w b hole t o = ⊥

    pub NeutralConforms : List Shape → Assignment → PlainNeutral → SimpleType → Shape → Type 0
    NeutralConforms w b (head_alone x) t o = (b x ≡ Some t) × HeadConforms w x o
    NeutralConforms w b (app m r n) t o = ApplicationConforms b m n t o (λ a u. NeutralConforms w b r a u) (λ a u. Conforms w b n a u)
    NeutralConforms w b (fst r) t o = (c : SimpleType) × (v : Shape) × NeutralConforms w b r (simple_with t c) (at_both o v)
    NeutralConforms w b (snd r) t o = (a : SimpleType) × (u : Shape) × NeutralConforms w b r (simple_with a t) (at_both u o)

    pub ExpressionConforms : List Shape → Assignment → PlainExpression → SimpleTelescope → EntryShapes → Type 0
    ExpressionConforms w b (step ms r e) s v = StepConforms ms (λ a u. NeutralConforms w b r a u) (λ t x. ExpressionConforms (with_shapes x w) (extended_by t b) e s v)
    ExpressionConforms w b (done t) s v = TupleConforms w b t s v

    pub TupleConforms : List Shape → Assignment → PlainTuple → SimpleTelescope → EntryShapes → Type 0
    TupleConforms w b empty s v = s ≡ simple_end
    TupleConforms w b (entry m n t) s v = EntryConforms b m n s v (λ a u. Conforms w b n a u) (λ c x. TupleConforms w b t c x)
