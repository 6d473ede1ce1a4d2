-- The faults of what is written, each with the bytes of the part at fault.
use Rattle.std.specs.Prelude.{ℕ, ◌+◌, ◌-◌, ◌^◌, nat_le, ◌&&◌, Bool, true, false, if◌then◌else◌, List, [], ◌∷◌, ◌++◌, map, Option, None, Some}
use Rattle.std.specs.List.{flat_map}
use Rattle.clf_syntax.specs.declared.tree.Mode.TheVariants.{Persistent, Affine, Linear}
use Rattle.celf_surface.specs.declared.surface.Arrow.TheVariants.{To, Back, Lolli, BackLolli, Affine as AffineArrow}
use Rattle.celf_surface.specs.declared.surface.Bound.{Bound}
use Rattle.celf_surface.specs.declared.surface.Bound.TheVariants.{Number, Star}
use Rattle.celf_surface.specs.declared.surface.Span.{Span}
use Rattle.celf_surface.specs.Surface.{WrittenObject, lam, app, named, hole, unit, pair, braces, first, second, WrittenArguments, no_arguments, argument, WrittenSteps, no_steps, step, WrittenTuple, tuple_one, tuple_list, tuple_marked, tuple_bare, WrittenTuples, no_tuples, tuples_and, WrittenType, pi, exists, arrow, tensor, marked, both, type_word, family, top, one, braced, WrittenBody, declare, query, trace, equal, check, WrittenItem}
use Rattle.celf_sugar.specs.declared.fault.SugarFault.{SugarFault}
use Rattle.celf_sugar.specs.declared.limits.TheConstants.{MOST_STEPS, MOST_ATTEMPTS, MOST_IMPLICIT}
use Rattle.celf_sugar.specs.declared.fault.SugarFault.TheVariants.{KindPlace, NotAsync, Redex, OutOfRange, BadImplicit, NoMemory}
use Rattle.celf_sugar.specs.PlainTree as plain
use Rattle.celf_sugar.specs.Sugar.{reading}
use Rattle.celf_sugar.specs.Earliest.{earliest}

-- The words `type` that stand elsewhere than at the end of a declaration's kind. The Bool tells that the type ends a declaration's type, with no arrow before it but -> and <- and Pi.
abbrev pub kind_places : Bool → WrittenType → List Span
kind_places ends (pi s n d r) = kind_places false d ++ kind_places ends r
kind_places ends (exists s n d r) = kind_places false d ++ kind_places false r
kind_places ends (arrow s To l r) = kind_places false l ++ kind_places ends r
kind_places ends (arrow s Back l r) = kind_places ends l ++ kind_places false r
kind_places ends (arrow s Lolli l r) = kind_places false l ++ kind_places false r
kind_places ends (arrow s BackLolli l r) = kind_places false l ++ kind_places false r
kind_places ends (arrow s AffineArrow l r) = kind_places false l ++ kind_places false r
kind_places ends (tensor s l r) = kind_places false l ++ kind_places false r
kind_places ends (marked s m b) = kind_places false b
kind_places ends (both s l r) = kind_places false l ++ kind_places false r
kind_places ends (type_word s) = if ends then [] else s ∷ []
kind_places ends (family s n d a is) = []
kind_places ends (top s) = []
kind_places ends (one s) = []
kind_places ends (braced s b) = kind_places false b

-- a synchronous type, where none may stand
abbrev pub misplaced : Bool → Span → List Span
misplaced true s = []
misplaced false s = s ∷ []

-- The synchronous types that are misplaced: a product, 1, an Exists, !A or @A. The Bool tells that one may stand here: in braces, as the operand of #trace, on the left of -o, on the right of o-, as a factor and as the body of an Exists.
abbrev pub not_async : Bool → WrittenType → List Span
not_async may (pi s n d r) = not_async false d ++ not_async false r
not_async may (exists s n d r) = misplaced may s ++ (not_async false d ++ not_async true r)
not_async may (arrow s To l r) = not_async false l ++ not_async false r
not_async may (arrow s Back l r) = not_async false l ++ not_async false r
not_async may (arrow s Lolli l r) = not_async true l ++ not_async false r
not_async may (arrow s BackLolli l r) = not_async false l ++ not_async true r
not_async may (arrow s AffineArrow l r) = not_async false l ++ not_async false r
not_async may (tensor s l r) = misplaced may s ++ (not_async true l ++ not_async true r)
not_async may (marked s m b) = misplaced may s ++ not_async false b
not_async may (both s l r) = not_async false l ++ not_async false r
not_async may (type_word s) = []
not_async may (family s n d a is) = []
not_async may (top s) = []
not_async may (one s) = misplaced may s
not_async may (braced s b) = not_async true b

-- a lambda, a pair, <>, braces or _, where a head is wanted
abbrev pub headless : WrittenObject → List Span
headless (lam s m n b) = s ∷ []
headless (app s h as_) = []
headless (named s n d) = []
headless (hole s) = s ∷ []
headless (unit s) = s ∷ []
headless (pair s l r) = s ∷ []
headless (braces s ss t) = s ∷ []
headless (first s b) = []
headless (second s b) = []

-- the objects without a head that are applied, are projected or are the right side of a let
abbrev mutual
  pub redexes : WrittenObject → List Span
  redexes (lam s m n b) = redexes b
  redexes (app s h as_) = (headless h ++ redexes h) ++ argument_redexes as_
  redexes (named s n d) = []
  redexes (hole s) = []
  redexes (unit s) = []
  redexes (pair s l r) = redexes l ++ redexes r
  redexes (braces s ss t) = step_redexes ss ++ tuple_redexes t
  redexes (first s b) = headless b ++ redexes b
  redexes (second s b) = headless b ++ redexes b

  pub argument_redexes : WrittenArguments → List Span
  argument_redexes no_arguments = []
  argument_redexes (argument m o as_) = redexes o ++ argument_redexes as_

  pub step_redexes : WrittenSteps → List Span
  step_redexes no_steps = []
  step_redexes (step p o ss) = (headless o ++ redexes o) ++ step_redexes ss

  pub tuple_redexes : WrittenTuple → List Span
  tuple_redexes tuple_one = []
  tuple_redexes (tuple_list ts) = tuples_redexes ts
  tuple_redexes (tuple_marked m o) = redexes o
  tuple_redexes (tuple_bare o) = redexes o

  pub tuples_redexes : WrittenTuples → List Span
  tuples_redexes no_tuples = []
  tuples_redexes (tuples_and t ts) = tuple_redexes t ++ tuples_redexes ts

-- those in the indices of a type
abbrev pub type_redexes : WrittenType → List Span
type_redexes (pi s n d r) = type_redexes d ++ type_redexes r
type_redexes (exists s n d r) = type_redexes d ++ type_redexes r
type_redexes (arrow s k l r) = type_redexes l ++ type_redexes r
type_redexes (tensor s l r) = type_redexes l ++ type_redexes r
type_redexes (marked s m b) = type_redexes b
type_redexes (both s l r) = type_redexes l ++ type_redexes r
type_redexes (type_word s) = []
type_redexes (family s n d a is) = flat_map redexes is
type_redexes (top s) = []
type_redexes (one s) = []
type_redexes (braced s b) = type_redexes b

-- a number outside a range
abbrev pub outside : ℕ → ℕ → Bound → List Span
outside low high (Number v s) = if nat_le low v && nat_le v high then [] else s ∷ []
outside low high Star = []

-- how many persistent functions a type begins with
abbrev pub leading : plain.DesugaredType → ℕ
leading (plain.family s h is) = 0
leading (plain.function s Persistent n a b) = leading b + 1
leading (plain.function s Affine n a b) = 0
leading (plain.function s Linear n a b) = 0
leading (plain.both s a b) = 0
leading (plain.top s) = 0
leading (plain.monad s t) = 0

-- a number of implicit arguments that is greater than that of the persistent functions or arguments that the type or kind begins with
abbrev pub too_many : Option Bound → WrittenType → List Span
too_many None t = []
too_many (Some (Number v s)) t = if nat_le v (leading (reading t).as_type) then [] else s ∷ []
too_many (Some Star) t = []

abbrev pub implicit_outside : Option Bound → List Span
implicit_outside None = []
implicit_outside (Some n) = outside 0 MOST_IMPLICIT n

-- the misplaced words `type` of an item
abbrev pub kind_places_of : WrittenBody → List Span
kind_places_of (declare n i t) = kind_places true t
kind_places_of (query d e l a t) = kind_places false t
kind_places_of (trace n t) = kind_places false t
kind_places_of (equal l r t) = kind_places false t
kind_places_of (check o t) = kind_places false t

-- the misplaced synchronous types of an item
abbrev pub not_async_of : WrittenBody → List Span
not_async_of (declare n i t) = not_async false t
not_async_of (query d e l a t) = not_async false t
not_async_of (trace n t) = not_async true t
not_async_of (equal l r t) = not_async false t
not_async_of (check o t) = not_async false t

-- the objects of an item that stand where a head is wanted and have none
abbrev pub redexes_of : WrittenBody → List Span
redexes_of (declare n i t) = type_redexes t
redexes_of (query d e l a t) = type_redexes t
redexes_of (trace n t) = type_redexes t
redexes_of (equal l r t) = redexes l ++ (redexes r ++ type_redexes t)
redexes_of (check o t) = redexes o ++ type_redexes t

-- the numbers of an item that are outside their ranges
abbrev pub out_of_range_of : WrittenBody → List Span
out_of_range_of (declare n i t) = implicit_outside i
out_of_range_of (query d e l a t) = outside 0 MOST_STEPS d ++ (outside 0 MOST_STEPS e ++ (outside 0 MOST_STEPS l ++ outside 1 MOST_ATTEMPTS a))
out_of_range_of (trace n t) = outside 0 MOST_STEPS n
out_of_range_of (equal l r t) = []
out_of_range_of (check o t) = []

-- the numbers of implicit arguments of an item that are too great for its type
abbrev pub bad_implicits_of : WrittenBody → List Span
bad_implicits_of (declare n i t) = too_many i t
bad_implicits_of (query d e l a t) = []
bad_implicits_of (trace n t) = []
bad_implicits_of (equal l r t) = []
bad_implicits_of (check o t) = []

-- all faults of an item: one kind after the other
abbrev pub faults : WrittenBody → List SugarFault
faults b = map KindPlace (kind_places_of b) ++ (map NotAsync (not_async_of b) ++ (map Redex (redexes_of b) ++ (map OutOfRange (out_of_range_of b) ++ map BadImplicit (bad_implicits_of b))))

-- where a part begins
abbrev pub start : Span → ℕ
start s = s.start

-- where a fault begins
abbrev pub fault_start : SugarFault → ℕ
fault_start (KindPlace s) = s.start
fault_start (NotAsync s) = s.start
fault_start (Redex s) = s.start
fault_start (OutOfRange s) = s.start
fault_start (BadImplicit s) = s.start
fault_start NoMemory = 0

-- the fault with the least start, and at equal starts the first of the kinds as they are listed
abbrev pub first_of : WrittenBody → Option SugarFault
first_of b = earliest fault_start (faults b)

-- the first fault of an item
abbrev pub first_fault : WrittenItem → Option SugarFault
first_fault i = first_of i.body
