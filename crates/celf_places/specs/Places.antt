-- What a place wants, and what the parts of an object at this place want.
use Rattle.std.specs.Prelude.{List, [], ◌∷◌, Option, Some, None}
use Rattle.clf_syntax.specs.declared.tree.Mode.{Mode}
use Rattle.clf_syntax.specs.declared.tree.Mode.TheVariants.{Persistent, Affine, Linear}
use Rattle.clf_syntax.specs.TypeTree.{SimpleType, arrow, simple_with, lax, SimpleTelescope, simple_end, simple_binding}
use Rattle.celf_surface.specs.declared.surface.SMode.{SMode}
use Rattle.celf_surface.specs.declared.surface.SMode.TheVariants.{Bare, Persistent as WrittenPersistent, Affine as WrittenAffine, Linear as WrittenLinear}
use Rattle.celf_sugar.specs.PlainTree.{DesugaredSpine, end_of_spine, and_then, DesugaredAct, argument, first, second}

-- A place wants a simple type, or it is not known which.
abbrev pub Place : Type 0
Place = Option SimpleType

-- A bare part takes the mode of its place; a written mode stays.
abbrev pub marked : SMode → Mode → Mode
marked Bare m = m
marked WrittenPersistent m = Persistent
marked WrittenAffine m = Affine
marked WrittenLinear m = Linear

-- what a place says of a function: its mode, and what its argument and its result want
pub record FunctionParts : Type 0 where
  pub mode : Mode
  pub domain : Place
  pub codomain : Place

-- Where no function is wanted, a bare part is linear.
abbrev pub no_function : FunctionParts
no_function = record { mode = Linear; domain = None; codomain = None }

abbrev pub function_parts : Place → FunctionParts
function_parts (Some (arrow m d c)) = record { mode = m; domain = Some d; codomain = Some c }
function_parts t = no_function

-- what a place says of a pair: what its parts want
pub record PairParts : Type 0 where
  pub left : Place
  pub right : Place

abbrev pub no_pair : PairParts
no_pair = record { left = None; right = None }

abbrev pub pair_parts : Place → PairParts
pair_parts (Some (simple_with a b)) = record { left = Some a; right = Some b }
pair_parts t = no_pair

-- the entries of a monad, in order
abbrev pub entries_of : SimpleTelescope → List (Mode × SimpleType)
entries_of simple_end = []
entries_of (simple_binding m t s) = (m, t) ∷ entries_of s

abbrev pub entries_at : Place → List (Mode × SimpleType)
entries_at (Some (lax s)) = entries_of s
entries_at t = []

-- What is wanted of the next one of several parts, and of those after it. Beyond the last wanted one nothing is, and a bare part is linear.
pub record NextPart : Type 0 where
  pub mode : Mode
  pub place : Place
  pub later : List (Mode × SimpleType)

abbrev pub next_part : List (Mode × SimpleType) → NextPart
next_part [] = record { mode = Linear; place = None; later = [] }
next_part (e ∷ es) = record { mode = e.0; place = Some e.1; later = es }

-- the simple type of what goes on by an argument or a projection, and by a whole spine
abbrev pub behind_act : Place → DesugaredAct → Place
behind_act t (argument m o) = (function_parts t).codomain
behind_act t first = (pair_parts t).left
behind_act t second = (pair_parts t).right

abbrev pub behind_spine : Place → DesugaredSpine → Place
behind_spine t end_of_spine = t
behind_spine t (and_then a es) = behind_spine (behind_act t a) es
