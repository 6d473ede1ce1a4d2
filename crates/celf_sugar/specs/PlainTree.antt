-- Plain trees without sugar: what contracts see of the trees of this crate.
use Rattle.std.specs.Prelude.{ℕ, List, [], ◌∷◌, Option}
use Rattle.clf_syntax.specs.declared.tree.Mode.{Mode}
use Rattle.celf_surface.specs.declared.surface.SMode.{SMode}
use Rattle.celf_surface.specs.declared.surface.Span.{Span}
use Rattle.celf_sugar.specs.declared.plain.PName.{PName}
use Rattle.celf_sugar.specs.declared.plain.PBinder.{PBinder}

-- Objects, each with the bytes that it covers. A name None is _.
mutual
  pub data DesugaredObject : Type 0 where
    lam : Span → SMode → Option (List ℕ) → DesugaredObject → DesugaredObject
    pair : Span → DesugaredObject → DesugaredObject → DesugaredObject
    unit : Span → DesugaredObject
    monadic : Span → DesugaredSteps → DesugaredTuple → DesugaredObject
    atomic : Span → PName → DesugaredSpine → DesugaredObject
    hole : Span → DesugaredObject

  -- what is done to a head, the first thing first
  pub data DesugaredSpine : Type 0 where
    end_of_spine : DesugaredSpine
    and_then : DesugaredAct → DesugaredSpine → DesugaredSpine

  pub data DesugaredAct : Type 0 where
    argument : SMode → DesugaredObject → DesugaredAct
    first : DesugaredAct
    second : DesugaredAct

  -- let {pattern} = head spine in
  pub data DesugaredSteps : Type 0 where
    no_steps : DesugaredSteps
    step : List PBinder → PName → DesugaredSpine → DesugaredSteps → DesugaredSteps

  pub data DesugaredTuple : Type 0 where
    end_of_tuple : DesugaredTuple
    entry : SMode → DesugaredObject → DesugaredTuple → DesugaredTuple

-- Types, each with the bytes that it covers. A name None binds nothing.
mutual
  pub data DesugaredType : Type 0 where
    family : Span → PName → List DesugaredObject → DesugaredType
    function : Span → Mode → Option (List ℕ) → DesugaredType → DesugaredType → DesugaredType
    both : Span → DesugaredType → DesugaredType → DesugaredType
    top : Span → DesugaredType
    monad : Span → DesugaredTelescope → DesugaredType

  pub data DesugaredTelescope : Type 0 where
    end : DesugaredTelescope
    binding : Mode → Option (List ℕ) → DesugaredType → DesugaredTelescope → DesugaredTelescope

-- an entry of a telescope: its mode, its name and its type
abbrev pub DesugaredEntry : Type 0
DesugaredEntry = Mode × Option (List ℕ) × DesugaredType

-- lists as parts of a tree
abbrev pub spine_of : List DesugaredAct → DesugaredSpine
spine_of [] = end_of_spine
spine_of (a ∷ as_) = and_then a (spine_of as_)

abbrev pub steps_of : List (List PBinder × PName × DesugaredSpine) → DesugaredSteps
steps_of [] = no_steps
steps_of (s ∷ ss) = step s.0 s.1 s.2 (steps_of ss)

abbrev pub tuple_of : List (SMode × DesugaredObject) → DesugaredTuple
tuple_of [] = end_of_tuple
tuple_of (e ∷ es) = entry e.0 e.1 (tuple_of es)

abbrev pub telescope_of : List DesugaredEntry → DesugaredTelescope
telescope_of [] = end
telescope_of (e ∷ es) = binding e.0 e.1 e.2 (telescope_of es)

-- a declaration is of a family, by its arguments, or of a constant, by its type
pub data DesugaredClass : Type 0 where
  of_family : DesugaredTelescope → DesugaredClass
  of_constant : DesugaredType → DesugaredClass

-- What an item says. A number None is *.
pub data DesugaredBody : Type 0 where
  declare : List ℕ → ℕ → DesugaredClass → DesugaredBody
  query : Option ℕ → Option ℕ → Option ℕ → Option ℕ → DesugaredType → DesugaredBody
  trace : Option ℕ → DesugaredTelescope → DesugaredBody
  equal : DesugaredObject → DesugaredObject → DesugaredType → DesugaredBody
  check : DesugaredObject → DesugaredType → DesugaredBody

-- an item, with the bytes that it covers
pub record DesugaredItem : Type 0 where
  pub span : Span
  pub body : DesugaredBody
