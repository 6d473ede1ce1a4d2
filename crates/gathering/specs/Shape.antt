-- The shape of a written type: what it is made of, and which arguments and entries in it are dependent.
use Rattle.std.specs.Prelude.{ℕ, Bool, true, false, ◌≡◌, ◌&&◌, List, [], ◌∷◌}
use Rattle.clf_syntax.specs.declared.tree.Mode.{Mode}
use Rattle.clf_syntax.specs.TypeTree.{PlainType, family, function, both, top, monad, PlainTelescope, end, binding, SimpleType, base, arrow, simple_with, simple_top, lax, SimpleTelescope, simple_end, simple_binding}
use Rattle.clf_syntax.specs.Simple.{erase}
use Rattle.clf_syntax.specs.Occurs.{occurs_type, occurs_telescope}
use Rattle.use_contexts.specs.Context.{Context}
use Rattle.use_contexts.specs.Holding.{is_persistent}

mutual
  pub data Shape : Type 0 where
    -- a family, by its place in the signature
    at_family : ℕ → Shape
    -- a function, with a mark: its argument is passed over
    at_function : Bool → Shape → Shape → Shape
    at_both : Shape → Shape → Shape
    at_top : Shape
    at_monad : EntryShapes → Shape

  pub data EntryShapes : Type 0 where
    no_entry : EntryShapes
    -- an entry, with a mark: its object is passed over
    an_entry : Bool → Shape → EntryShapes → EntryShapes

-- The shape of a type as it is written. An argument is dependent where it is persistent and its variable occurs in the rest of the type,
-- an entry where it is persistent and its variable occurs in a later one: these are passed over. The others are searched.
-- The shape is made of the written type once and goes along with the type, so that nothing that is put or solved later changes a mark.
abbrev mutual
  pub written_shape : PlainType → Shape
  written_shape (family f ns) = at_family f
  written_shape (function m a b) = at_function (is_persistent m && occurs_type 0 b) (written_shape a) (written_shape b)
  written_shape (both a b) = at_both (written_shape a) (written_shape b)
  written_shape top = at_top
  written_shape (monad s) = at_monad (written_entries s)

  pub written_entries : PlainTelescope → EntryShapes
  written_entries end = no_entry
  written_entries (binding m a s) = an_entry (is_persistent m && occurs_telescope 0 s) (written_shape a) (written_entries s)

-- The shape in which nothing is passed over.
abbrev mutual
  pub unmarked_shape : PlainType → Shape
  unmarked_shape (family f ns) = at_family f
  unmarked_shape (function m a b) = at_function false (unmarked_shape a) (unmarked_shape b)
  unmarked_shape (both a b) = at_both (unmarked_shape a) (unmarked_shape b)
  unmarked_shape top = at_top
  unmarked_shape (monad s) = at_monad (unmarked_entries s)

  pub unmarked_entries : PlainTelescope → EntryShapes
  unmarked_entries end = no_entry
  unmarked_entries (binding m a s) = an_entry false (unmarked_shape a) (unmarked_entries s)

-- the shapes of the variables in scope, the newest first, with those of a telescope's entries
abbrev pub with_shapes : EntryShapes → List Shape → List Shape
with_shapes no_entry w = w
with_shapes (an_entry d u x) w = with_shapes x (u ∷ w)

-- a function of a simple type, with its shape
pub record FunctionShape (d : Bool) (t : SimpleType) (Domain Range : SimpleType → Type 0) : Type 0 where
  pub mode : Mode
  pub domain : SimpleType
  pub range : SimpleType
  pub type : t ≡ arrow mode domain range
  -- a persistent argument alone is passed over
  pub marked : d ≡ true → is_persistent mode ≡ true
  pub domain_shape : Domain domain
  pub range_shape : Range range

-- an entry of a simple telescope, with its shape
pub record EntryShape (d : Bool) (s : SimpleTelescope) (First : SimpleType → Type 0) (Later : SimpleTelescope → Type 0) : Type 0 where
  pub mode : Mode
  pub first : SimpleType
  pub later : SimpleTelescope
  pub type : s ≡ simple_binding mode first later
  pub marked : d ≡ true → is_persistent mode ≡ true
  pub first_shape : First first
  pub later_shapes : Later later

-- The shape is made as the simple type is, and passes over persistent arguments and entries alone.
abbrev mutual
  pub IsShapeOf : Shape → SimpleType → Type 0
  IsShapeOf (at_family f) t = t ≡ base f
  IsShapeOf (at_function d u v) t = FunctionShape d t (λ a. IsShapeOf u a) (λ c. IsShapeOf v c)
  IsShapeOf (at_both u v) t = (a c : SimpleType) × (t ≡ simple_with a c) × IsShapeOf u a × IsShapeOf v c
  IsShapeOf at_top t = t ≡ simple_top
  IsShapeOf (at_monad x) t = (s : SimpleTelescope) × (t ≡ lax s) × AreEntriesOf x s

  pub AreEntriesOf : EntryShapes → SimpleTelescope → Type 0
  AreEntriesOf no_entry s = s ≡ simple_end
  AreEntriesOf (an_entry d u x) s = EntryShape d s (λ a. IsShapeOf u a) (λ c. AreEntriesOf x c)

-- the shapes of a context's variables
abbrev pub AreShapesOf : List Shape → Context → Type 0
AreShapesOf [] [] = Unit {0}
AreShapesOf (u ∷ w) (e ∷ g) = IsShapeOf u (erase e.1) × AreShapesOf w g
AreShapesOf [] (e ∷ g) = ⊥
AreShapesOf (u ∷ w) [] = ⊥

-- By the shape nothing is passed over.
abbrev mutual
  pub PassesNone : Shape → Type 0
  PassesNone (at_family f) = Unit {0}
  PassesNone (at_function d u v) = (d ≡ false) × PassesNone u × PassesNone v
  PassesNone (at_both u v) = PassesNone u × PassesNone v
  PassesNone at_top = Unit {0}
  PassesNone (at_monad x) = PassesNoEntry x

  pub PassesNoEntry : EntryShapes → Type 0
  PassesNoEntry no_entry = Unit {0}
  PassesNoEntry (an_entry d u x) = (d ≡ false) × PassesNone u × PassesNoEntry x

abbrev pub EachPassesNone : List Shape → Type 0
EachPassesNone [] = Unit {0}
EachPassesNone (u ∷ w) = PassesNone u × EachPassesNone w
