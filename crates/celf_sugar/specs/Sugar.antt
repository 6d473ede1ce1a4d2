-- The plain form of what is written, row by row. A part at fault has no plain form; for it some part stands that no answer shows.
use Rattle.std.specs.Prelude.{ℕ, ◌-◌, ◌^◌, min, Bool, true, false, List, [], ◌∷◌, ◌++◌, map, Option, None, Some}
use Rattle.clf_syntax.specs.declared.tree.Mode.{Mode}
use Rattle.clf_syntax.specs.declared.tree.Mode.TheVariants.{Persistent, Affine, Linear}
use Rattle.celf_surface.specs.declared.surface.Arrow.TheVariants.{To, Back, Lolli, BackLolli, Affine as AffineArrow}
use Rattle.celf_surface.specs.declared.surface.Bound.{Bound}
use Rattle.celf_surface.specs.declared.surface.Bound.TheVariants.{Number, Star}
use Rattle.celf_surface.specs.declared.surface.SMode.{SMode}
use Rattle.celf_surface.specs.declared.surface.SMode.TheVariants.{Bare, Persistent as MarkedPersistent, Affine as MarkedAffine, Linear as MarkedLinear}
use Rattle.celf_surface.specs.declared.surface.Span.{Span}
use Rattle.celf_surface.specs.Surface as written
use Rattle.celf_sugar.specs.declared.plain.PName.{PName}
use Rattle.celf_sugar.specs.declared.plain.PBinder.{PBinder}
use Rattle.celf_sugar.specs.PlainTree.{DesugaredObject, lam, pair, unit, monadic, atomic, hole, DesugaredAct, argument, first, second, DesugaredSteps, no_steps, step, spine_of, tuple_of, DesugaredType, family, function, both, top, monad, DesugaredEntry, telescope_of, DesugaredClass, of_family, of_constant, DesugaredBody, declare, query, trace, equal, check, DesugaredItem}

-- a name without bytes, where a head is wanted and none is written
abbrev pub no_name : Span → PName
no_name s = record { name = []; dollar = false; span = s }

-- [p, q] and 1: a flat list of entries
abbrev mutual
  pub binders : written.WrittenPattern → List PBinder
  binders written.pattern_one = []
  binders (written.pattern_entry m n) = record { mode = m; name = n } ∷ []
  binders (written.pattern_list ps) = all_binders ps

  pub all_binders : written.WrittenPatterns → List PBinder
  all_binders written.no_patterns = []
  all_binders (written.patterns_and p ps) = binders p ++ all_binders ps

-- the head of an object that is applied or projected
abbrev pub head : written.WrittenObject → PName
head (written.lam s m n b) = no_name s
head (written.app s h as_) = head h
head (written.named s n d) = record { name = n; dollar = d; span = s }
head (written.hole s) = no_name s
head (written.unit s) = no_name s
head (written.pair s l r) = no_name s
head (written.braces s ss t) = no_name s
head (written.first s b) = head b
head (written.second s b) = head b

-- the mark of an entry of a tuple
abbrev pub mark : Mode → SMode
mark Persistent = MarkedPersistent
mark Affine = MarkedAffine
mark Linear = MarkedLinear

abbrev mutual
  pub object : written.WrittenObject → DesugaredObject
  object (written.lam s m n b) = lam s m n (object b)
  object (written.app s h as_) = atomic s (head h) (spine_of (acts h ++ arguments as_))
  object (written.named s n d) = atomic s (record { name = n; dollar = d; span = s }) (spine_of [])
  object (written.hole s) = hole s
  object (written.unit s) = unit s
  object (written.pair s l r) = pair s (object l) (object r)
  object (written.braces s ss t) = monadic s (steps ss) (tuple_of (entries_of_tuple t))
  object (written.first s b) = atomic s (head b) (spine_of (acts b ++ first ∷ []))
  object (written.second s b) = atomic s (head b) (spine_of (acts b ++ second ∷ []))

  -- what is done to the head
  pub acts : written.WrittenObject → List DesugaredAct
  acts (written.lam s m n b) = []
  acts (written.app s h as_) = acts h ++ arguments as_
  acts (written.named s n d) = []
  acts (written.hole s) = []
  acts (written.unit s) = []
  acts (written.pair s l r) = []
  acts (written.braces s ss t) = []
  acts (written.first s b) = acts b ++ first ∷ []
  acts (written.second s b) = acts b ++ second ∷ []

  pub arguments : written.WrittenArguments → List DesugaredAct
  arguments written.no_arguments = []
  arguments (written.argument m o as_) = argument m (object o) ∷ arguments as_

  pub steps : written.WrittenSteps → DesugaredSteps
  steps written.no_steps = no_steps
  steps (written.step p o ss) = step (binders p) (head o) (spine_of (acts o)) (steps ss)

  -- [M, N] and 1: a flat list of entries
  pub entries_of_tuple : written.WrittenTuple → List (SMode × DesugaredObject)
  entries_of_tuple written.tuple_one = []
  entries_of_tuple (written.tuple_list ts) = entries_of_tuples ts
  entries_of_tuple (written.tuple_marked m o) = (mark m, object o) ∷ []
  entries_of_tuple (written.tuple_bare o) = (Bare, object o) ∷ []

  pub entries_of_tuples : written.WrittenTuples → List (SMode × DesugaredObject)
  entries_of_tuples written.no_tuples = []
  entries_of_tuples (written.tuples_and t ts) = entries_of_tuple t ++ entries_of_tuples ts

-- One function for each entry, in order, and then a type. Each covers the bytes s.
abbrev pub functions : Span → List DesugaredEntry → DesugaredType → DesugaredType
functions s [] b = b
functions s (e ∷ es) b = function s e.0 e.1 e.2 (functions s es b)

-- what a written type is: as a type, and as the entries of a telescope
pub record Reading : Type 0 where
  pub as_type : DesugaredType
  pub as_entries : List DesugaredEntry

-- A in a telescope: a linear entry
abbrev pub alone : DesugaredType → Reading
alone t = record { as_type = t; as_entries = (Linear, None, t) ∷ [] }

-- a synchronous type has its entries alone
abbrev pub synchronous : Span → List DesugaredEntry → Reading
synchronous s es = record { as_type = top s; as_entries = es }

abbrev pub reading : written.WrittenType → Reading
-- Pi x: A. B: a persistent function that binds x
reading (written.pi s n d r) = alone (function s Persistent (Some n) (reading d).as_type (reading r).as_type)
-- Exists x: A. S: a persistent entry that binds x, then those of S
reading (written.exists s n d r) = synchronous s ((Persistent, Some n, (reading d).as_type) ∷ (reading r).as_entries)
-- A -> B and B <- A: a persistent function, its variable unnamed
reading (written.arrow s To l r) = alone (function s Persistent None (reading l).as_type (reading r).as_type)
reading (written.arrow s Back l r) = alone (function s Persistent None (reading r).as_type (reading l).as_type)
-- S -o B and B o- S: one function for each entry of S, in order, each with its mode; for a type that is not synchronous one linear function
reading (written.arrow s Lolli l r) = alone (functions s (reading l).as_entries (reading r).as_type)
reading (written.arrow s BackLolli l r) = alone (functions s (reading r).as_entries (reading l).as_type)
-- A -@ B: an affine function
reading (written.arrow s AffineArrow l r) = alone (function s Affine None (reading l).as_type (reading r).as_type)
-- S1 * S2: the entries of S1, then those of S2
reading (written.tensor s l r) = synchronous s ((reading l).as_entries ++ (reading r).as_entries)
-- !A and @A: a persistent and an affine entry
reading (written.marked s m b) = synchronous s ((m, None, (reading b).as_type) ∷ [])
reading (written.both s l r) = alone (both s (reading l).as_type (reading r).as_type)
reading (written.type_word s) = alone (top s)
reading (written.family s n d a is) = alone (family s (record { name = n; dollar = d; span = a }) (map object is))
reading (written.top s) = alone (top s)
-- 1: no entry
reading (written.one s) = synchronous s []
-- {S}: the monad of the telescope of S
reading (written.braced s b) = alone (monad s (telescope_of (reading b).as_entries))

-- whether a kind is written: persistent arguments and the word type at the end
abbrev pub is_kind : written.WrittenType → Bool
is_kind (written.pi s n d r) = is_kind r
is_kind (written.exists s n d r) = false
is_kind (written.arrow s To l r) = is_kind r
is_kind (written.arrow s Back l r) = is_kind l
is_kind (written.arrow s Lolli l r) = false
is_kind (written.arrow s BackLolli l r) = false
is_kind (written.arrow s AffineArrow l r) = false
is_kind (written.tensor s l r) = false
is_kind (written.marked s m b) = false
is_kind (written.both s l r) = false
is_kind (written.type_word s) = true
is_kind (written.family s n d a is) = false
is_kind (written.top s) = false
is_kind (written.one s) = false
is_kind (written.braced s b) = false

-- the arguments of a kind
abbrev pub kind_arguments : written.WrittenType → List DesugaredEntry
kind_arguments (written.pi s n d r) = (Persistent, Some n, (reading d).as_type) ∷ kind_arguments r
kind_arguments (written.exists s n d r) = []
kind_arguments (written.arrow s To l r) = (Persistent, None, (reading l).as_type) ∷ kind_arguments r
kind_arguments (written.arrow s Back l r) = (Persistent, None, (reading r).as_type) ∷ kind_arguments l
kind_arguments (written.arrow s Lolli l r) = []
kind_arguments (written.arrow s BackLolli l r) = []
kind_arguments (written.arrow s AffineArrow l r) = []
kind_arguments (written.tensor s l r) = []
kind_arguments (written.marked s m b) = []
kind_arguments (written.both s l r) = []
kind_arguments (written.type_word s) = []
kind_arguments (written.family s n d a is) = []
kind_arguments (written.top s) = []
kind_arguments (written.one s) = []
kind_arguments (written.braced s b) = []

abbrev pub class_by : Bool → written.WrittenType → DesugaredClass
class_by true t = of_family (telescope_of (kind_arguments t))
class_by false t = of_constant (reading t).as_type

-- what a declaration declares
abbrev pub class : written.WrittenType → DesugaredClass
class t = class_by (is_kind t) t

-- the type of a trace, without the braces around the whole
abbrev pub unbraced : written.WrittenType → written.WrittenType
unbraced (written.pi s n d r) = written.pi s n d r
unbraced (written.exists s n d r) = written.exists s n d r
unbraced (written.arrow s k l r) = written.arrow s k l r
unbraced (written.tensor s l r) = written.tensor s l r
unbraced (written.marked s m b) = written.marked s m b
unbraced (written.both s l r) = written.both s l r
unbraced (written.type_word s) = written.type_word s
unbraced (written.family s n d a is) = written.family s n d a is
unbraced (written.top s) = written.top s
unbraced (written.one s) = written.one s
unbraced (written.braced s b) = unbraced b

-- a number is its value, and * is None; a number past 4,294,967,295 is at fault wherever it stands
abbrev pub number : Bound → Option ℕ
number (Number v s) = Some (min v (2 ^ 32 - 1))
number Star = None

-- the number of implicit arguments, 0 where none is written
abbrev pub implicit : Option Bound → ℕ
implicit None = 0
implicit (Some (Number v s)) = min v (2 ^ 32 - 1)
implicit (Some Star) = 0

abbrev pub body : written.WrittenBody → DesugaredBody
body (written.declare n i t) = declare n (implicit i) (class t)
body (written.query d e l a t) = query (number d) (number e) (number l) (number a) (reading t).as_type
-- #trace n {S}. is read as #trace n S.
body (written.trace n t) = trace (number n) (telescope_of (reading (unbraced t)).as_entries)
body (written.equal l r t) = equal (object l) (object r) (reading t).as_type
body (written.check o t) = check (object o) (reading t).as_type

-- the plain item of an item
abbrev pub desugared : written.WrittenItem → DesugaredItem
desugared i = record { span = i.span; body = body i.body }
