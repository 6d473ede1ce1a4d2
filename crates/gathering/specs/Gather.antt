-- Gathering: the rules of typing without holdings, where objects may be unknown in part. In place of the comparison of indices
-- the pairs of indices go into a list of equations.
--
-- A rule with several premises is a record with a field for each, over any judgments of its parts, as in the rules of typing.
use Rattle.std.specs.Prelude.{ℕ, ◌≡◌, ◌⊎◌, Bool, true, false, List, [], ◌∷◌, ◌++◌, length, Some, None}
use Rattle.std.specs.List.{slice_get}
use Rattle.clf_syntax.specs.declared.tree.Mode.{Mode}
use Rattle.clf_syntax.specs.declared.tree.Head.{Head}
use Rattle.clf_syntax.specs.declared.tree.Head.TheVariants.{Const, Var, Meta}
use Rattle.clf_syntax.specs.Tree.{PlainObject, lam, pair, unit, monadic, atomic, hole, PlainNeutral, head_alone, app, fst, snd, PlainExpression, step, done, PlainTuple, empty, entry, head_of}
use Rattle.clf_syntax.specs.TypeTree.{PlainType, family, function, both, top, monad, PlainTelescope, end, binding, SimpleType}
use Rattle.clf_syntax.specs.Simple.{erase, extended_over, SimplyTyped}
use Rattle.clf_syntax.specs.Renaming.{ren_telescope, up}
use Rattle.use_contexts.specs.Context.{Context, HasVariable, telescope_modes, with_entries}
use Rattle.hered_subst.specs.Substitution.{single, SubstitutedType, SubstitutedTelescope}
use Rattle.pattern_laws.specs.Equations.{Equation}
use Rattle.gathering.specs.Shape.{Shape, at_function, at_both, at_monad, EntryShapes, an_entry, with_shapes}
use Rattle.gathering.specs.Setting.{Setting, simple_locals, Pairs}
use Rattle.gathering.specs.LongForm.{LongFormGathers}

-- Lambda: it stands at a function of its mode, and what is gathered of its body is gathered of it.
pub record LambdaGathers (m : Mode) (t : PlainType) (o : Shape) (Body : PlainType → PlainType → Shape → Shape → Type 0) : Type 0 where
  pub domain : PlainType
  pub range : PlainType
  pub passed : Bool
  pub domain_shape : Shape
  pub range_shape : Shape
  pub type : t ≡ function m domain range
  pub shape : o ≡ at_function passed domain_shape range_shape
  pub body : Body domain range domain_shape range_shape

-- Pair: first the equations of the left part, then those of the right one.
pub record PairGathers (t : PlainType) (o : Shape) (q : List Equation) (Left Right : PlainType → Shape → List Equation → Type 0) : Type 0 where
  pub left_type : PlainType
  pub right_type : PlainType
  pub left_shape : Shape
  pub right_shape : Shape
  pub of_left : List Equation
  pub of_right : List Equation
  pub type : t ≡ both left_type right_type
  pub shape : o ≡ at_both left_shape right_shape
  pub left : Left left_type left_shape of_left
  pub right : Right right_type right_shape of_right
  pub equations : q ≡ of_left ++ of_right

-- Monadic object: it stands at a monad.
pub record MonadicGathers (t : PlainType) (o : Shape) (Body : PlainTelescope → EntryShapes → Type 0) : Type 0 where
  pub entries : PlainTelescope
  pub entry_shapes : EntryShapes
  pub type : t ≡ monad entries
  pub shape : o ≡ at_monad entry_shapes
  pub body : Body entries entry_shapes

-- Leaf: a neutral at a family. Its own type is of the same family; after the neutral's equations comes one for each pair of indices.
pub record LeafGathers (z : Setting) (g : Context) (t : PlainType) (q : List Equation) (Neutral : PlainType → Shape → List Equation → Type 0) : Type 0 where
  pub number : ℕ
  pub wanted : List PlainObject
  pub found : List PlainObject
  pub types : List SimpleType
  pub found_shape : Shape
  pub of_neutral : List Equation
  pub of_indices : List Equation
  pub type : t ≡ family number wanted
  pub neutral : Neutral (family number found) found_shape of_neutral
  pub arguments : z.arguments number ≡ Some types
  pub pairs : Pairs (simple_locals g) types found wanted of_indices
  pub equations : q ≡ of_neutral ++ of_indices

-- An object to be filled in: its head is a metavariable that is no implicit variable. Nothing is gathered of it.
pub record FilledIn (z : Setting) (g : Context) (n : PlainNeutral) (t : PlainType) (q : List Equation) : Type 0 where
  pub number : ℕ
  pub fills : z.fills ≡ true
  pub head : head_of n ≡ Meta number
  pub not_implicit : z.implicit number ≡ None
  pub typed : SimplyTyped (extended_over g z.simple) (atomic n) (erase t)
  pub equations : q ≡ []

-- An implicit variable of a directive at a monad: it stays as it is, and what is gathered is what its eta-long form gathers.
pub record ImplicitAtMonad (z : Setting) (g : Context) (n : PlainNeutral) (t : PlainType) (q : List Equation) (Neutral : PlainType → Shape → List Equation → Type 0) : Type 0 where
  pub number : ℕ
  pub entries : PlainTelescope
  pub found : PlainType
  pub found_shape : Shape
  pub of_neutral : List Equation
  pub of_entries : List Equation
  pub read : PlainType
  pub head : head_of n ≡ Meta number
  pub implicit : z.implicit number ≡ Some read
  pub type : t ≡ monad entries
  pub neutral : Neutral found found_shape of_neutral
  pub long : LongFormGathers z.arguments g (erase t) found t of_entries
  pub equations : q ≡ of_neutral ++ of_entries

-- An argument or an entry. One that is passed over must only be simply typed.
abbrev pub PartGathers : Setting → Context → Bool → PlainObject → PlainType → List Equation → Type 0 → Type 0
PartGathers z g d n a q Searched = ((d ≡ true) × SimplyTyped (extended_over g z.simple) n (erase a) × (q ≡ [])) ⊎ ((d ≡ false) × Searched)

-- Application: first the equations of the function, then those of the argument, which is put for the variable in the function's range.
pub record ApplicationGathers (z : Setting) (g : Context) (m : Mode) (n : PlainObject) (t : PlainType) (o : Shape) (q : List Equation)
    (Function Argument : PlainType → Shape → List Equation → Type 0) : Type 0 where
  pub domain : PlainType
  pub range : PlainType
  pub passed : Bool
  pub domain_shape : Shape
  pub of_function : List Equation
  pub of_argument : List Equation
  pub applied : Function (function m domain range) (at_function passed domain_shape o) of_function
  pub argument : PartGathers z g passed n domain of_argument (Argument domain domain_shape of_argument)
  pub type : SubstitutedType (single n 0) range t
  pub equations : q ≡ of_function ++ of_argument

-- Step: first the equations of the right side, then those of the rest.
pub record StepGathers (ms : List Mode) (q : List Equation) (Right : PlainType → Shape → List Equation → Type 0) (Rest : PlainTelescope → EntryShapes → List Equation → Type 0) : Type 0 where
  pub entries : PlainTelescope
  pub entry_shapes : EntryShapes
  pub of_right : List Equation
  pub of_rest : List Equation
  pub right : Right (monad entries) (at_monad entry_shapes) of_right
  pub pattern : telescope_modes entries ≡ ms
  pub rest : Rest entries entry_shapes of_rest
  pub equations : q ≡ of_right ++ of_rest

-- Entry of a tuple: first its equations, then those of the later ones, in whose types it is put for its variable.
pub record EntryGathers (z : Setting) (g : Context) (m : Mode) (n : PlainObject) (s : PlainTelescope) (v : EntryShapes) (q : List Equation)
    (First : PlainType → Shape → List Equation → Type 0) (Later : PlainTelescope → EntryShapes → List Equation → Type 0) : Type 0 where
  pub first_type : PlainType
  pub later_types : PlainTelescope
  pub after_put : PlainTelescope
  pub passed : Bool
  pub first_shape : Shape
  pub later_shapes : EntryShapes
  pub of_first : List Equation
  pub of_later : List Equation
  pub type : s ≡ binding m first_type later_types
  pub shape : v ≡ an_entry passed first_shape later_shapes
  pub first : PartGathers z g passed n first_type of_first (First first_type first_shape of_first)
  pub put : SubstitutedTelescope (single n 0) later_types after_put
  pub later : Later after_put later_shapes of_later
  pub equations : q ≡ of_first ++ of_later

module _ (z : Setting) where
  -- A constant has its type, and a variable that of its entry. An implicit variable has the type that is read for it. No other metavariable is a head.
  abbrev pub HeadGathers : Context → List Shape → Head → PlainType → Shape → Type 0
  HeadGathers g w (Const c) a o = (z.given c ≡ Some a) × (o ≡ z.shape a)
  HeadGathers g w (Var i) a o = HasVariable g i a × (slice_get w i ≡ Some o)
  HeadGathers g w (Meta k) a o = (z.implicit k ≡ Some a) × (o ≡ z.shape a)

  abbrev mutual
    -- Gathers g w n a o q: the object n may have the type a, of the shape o, where the equations q are solved. The variables' types are g, their shapes w.
    pub Gathers : Context → List Shape → PlainObject → PlainType → Shape → List Equation → Type 0
    Gathers g w (lam m b) t o q = LambdaGathers m t o (λ a c u v. Gathers ((m, a) ∷ g) (u ∷ w) b c v q)
    Gathers g w (pair l r) t o q = PairGathers t o q (λ a u p. Gathers g w l a u p) (λ a u p. Gathers g w r a u p)
    Gathers g w unit t o q = (t ≡ top) × (q ≡ [])
    Gathers g w (monadic e) t o q = MonadicGathers t o (λ s v. ExpressionGathers g w e s v q)
    Gathers g w (atomic n) t o q = LeafGathers z g t q (λ a u p. NeutralGathers g w n a u p)
        ⊎ (FilledIn z g n t q ⊎ ImplicitAtMonad z g n t q (λ a u p. NeutralGathers g w n a u p))
    -- A hole is accepted at every type.
    Gathers g w hole t o q = q ≡ []

    -- NeutralGathers g w n a o q: the neutral n synthesizes the type a, of the shape o, where the equations q are solved.
    pub NeutralGathers : Context → List Shape → PlainNeutral → PlainType → Shape → List Equation → Type 0
    NeutralGathers g w (head_alone x) t o q = HeadGathers g w x t o × (q ≡ [])
    NeutralGathers g w (app m r n) t o q = ApplicationGathers z g m n t o q (λ a u p. NeutralGathers g w r a u p) (λ a u p. Gathers g w n a u p)
    NeutralGathers g w (fst r) t o q = (c : PlainType) × (v : Shape) × NeutralGathers g w r (both t c) (at_both o v) q
    NeutralGathers g w (snd r) t o q = (a : PlainType) × (u : Shape) × NeutralGathers g w r (both a t) (at_both u o) q

    -- ExpressionGathers g w e s v q: the expression e may have a result of the telescope s, of the shapes v, where the equations q are solved.
    pub ExpressionGathers : Context → List Shape → PlainExpression → PlainTelescope → EntryShapes → List Equation → Type 0
    ExpressionGathers g w (step ms r e) s v q = StepGathers ms q (λ a u p. NeutralGathers g w r a u p)
        (λ t x p. ExpressionGathers (with_entries t g) (with_shapes x w) e (ren_telescope (up (length ms)) s) v p)
    ExpressionGathers g w (done t) s v q = TupleGathers g w t s v q

    pub TupleGathers : Context → List Shape → PlainTuple → PlainTelescope → EntryShapes → List Equation → Type 0
    TupleGathers g w empty s v q = (s ≡ end) × (q ≡ [])
    TupleGathers g w (entry m n t) s v q = EntryGathers z g m n s v q (λ a u p. Gathers g w n a u p) (λ b x p. TupleGathers g w t b x p)
