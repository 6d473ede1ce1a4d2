-- Some items with their implicit variables, worked out by hand, over these entries, by their places:
--   0 nat : type.  1 z : nat.  2 s : nat -> nat.  3 p : nat -> type.  4 f : (nat -> nat) -> type.  5 q : ((nat -> nat) -> nat) -> type.
--   6 plus : nat -> nat -> nat -> type.
use Rattle.std.specs.Prelude.{ℕ, ◌≡◌, false, List, [], ◌∷◌, map, None, Some, codes}
use Rattle.clf_syntax.specs.declared.tree.Mode.{Mode}
use Rattle.clf_syntax.specs.declared.tree.Mode.TheVariants.{Persistent, Affine, Linear}
use Rattle.clf_syntax.specs.TypeTree as core_type
use Rattle.clf_syntax.specs.TypeTree.{SimpleType, base, arrow}
use Rattle.clf_sig.specs.Entry.{PlainEntry, family_of, constant_of, PlainSignature}
use Rattle.celf_surface.specs.declared.surface.SMode.TheVariants.{Bare, Affine as WrittenAffine}
use Rattle.celf_surface.specs.declared.surface.Span.{Span}
use Rattle.celf_sugar.specs.declared.plain.PName.{PName}
use Rattle.celf_sugar.specs.PlainTree.{DesugaredObject, lam, monadic, atomic, DesugaredAct, argument, first, spine_of, no_steps, step, end_of_tuple, entry, DesugaredType, family, function, top, monad, end, binding, of_constant, DesugaredBody, declare, check}
use Rattle.celf_places.specs.Places.{Place}
use Rattle.celf_implicit.specs.declared.variable.Argument.{Argument}
use Rattle.celf_implicit.specs.Variables.{PlainImplicit}
use Rattle.celf_implicit.specs.Rounds.{determined, undetermined}
use Rattle.celf_implicit.specs.Appearance.{IsByAppearance}

abbrev pub nat : core_type.PlainType
nat = core_type.family 0 []

abbrev pub to : core_type.PlainType → core_type.PlainType → core_type.PlainType
to a b = core_type.function Persistent a b

abbrev pub of : core_type.PlainType → PlainEntry
of a = record { implicit = 0; class = constant_of a }

abbrev pub signature : PlainSignature
signature =
    (codes "nat", record { implicit = 0; class = family_of [] }) ∷ (codes "z", of nat) ∷ (codes "s", of (to nat nat))
    ∷ (codes "p", record { implicit = 0; class = family_of (nat ∷ []) }) ∷ (codes "f", record { implicit = 0; class = family_of (to nat nat ∷ []) })
    ∷ (codes "q", record { implicit = 0; class = family_of (to (to nat nat) nat ∷ []) }) ∷ (codes "plus", record { implicit = 0; class = family_of (nat ∷ nat ∷ nat ∷ []) }) ∷ []

-- ---- simple types

abbrev pub number : SimpleType
number = base 0

abbrev pub numbers : SimpleType
numbers = arrow Persistent number number

-- ---- what is written; only where names stand matters

abbrev pub at_byte : ℕ → Span
at_byte k = record { start = k; end = k }

abbrev pub name : List ℕ → ℕ → PName
name n k = record { name = n; dollar = false; span = at_byte k }

abbrev pub on_acts : List ℕ → ℕ → List DesugaredAct → DesugaredObject
on_acts n k es = atomic (at_byte k) (name n k) (spine_of es)

abbrev pub bare : DesugaredObject → DesugaredAct
bare o = argument Bare o

-- a name at bare arguments
abbrev pub applied : List ℕ → ℕ → List DesugaredObject → DesugaredObject
applied n k os = on_acts n k (map bare os)

abbrev pub word : List ℕ → ℕ → DesugaredObject
word n k = applied n k []

abbrev pub under_name : List ℕ → DesugaredObject → DesugaredObject
under_name n o = lam (at_byte 0) Bare (Some n) o

abbrev pub family_at : List ℕ → List DesugaredObject → DesugaredType
family_at n os = family (at_byte 0) (name n 0) os

abbrev pub from : DesugaredType → DesugaredType → DesugaredType
from a b = function (at_byte 0) Persistent None a b

-- c : A.
abbrev pub constant : DesugaredType → DesugaredBody
constant a = declare (codes "c") 0 (of_constant a)

-- ---- what is answered

abbrev pub X : List ℕ
X = codes "X"

abbrev pub W : List ℕ
W = codes "W"

abbrev pub y : DesugaredObject
y = word (codes "y") 0

abbrev pub one : Mode → List Argument
one m = record { mode = m; number = 0 } ∷ []

-- a variable that the occurrence at a byte determines
abbrev pub at : List ℕ → ℕ → List Argument → Place → PlainImplicit
at n k as_ t = record { name = n; start = k; arguments = as_; place = t }

abbrev pub IsFound : DesugaredBody → List PlainImplicit → Type 0
IsFound body xs = determined signature body ≡ xs

abbrev pub IsLacking : DesugaredBody → List ℕ → ℕ → Type 0
IsLacking body n k = undetermined signature body ≡ Some (record { name = n; span = at_byte k })

pub record WorkedVariables : Type 0 where
  -- q (\y. X y): at a local, in the mode of that or in the mode that is written
  pub at_a_local : IsFound (constant (family_at (codes "q") (under_name (codes "y") (applied X 10 (y ∷ [])) ∷ []))) (at X 10 (one Persistent) (Some (arrow Persistent numbers number)) ∷ [])
  pub in_a_written_mode : IsFound (constant (family_at (codes "q") (under_name (codes "y") (on_acts X 10 (argument WrittenAffine y ∷ [])) ∷ []))) (at X 10 (one Affine) (Some (arrow Affine numbers number)) ∷ [])
  pub none_is_left : undetermined signature (constant (family_at (codes "q") (under_name (codes "y") (applied X 10 (y ∷ [])) ∷ []))) ≡ None
  -- q (\y. X (\u. y u)): the long form of a local is none
  pub at_a_long_form : IsLacking (constant (family_at (codes "q") (under_name (codes "y") (applied X 10 (under_name (codes "u") (applied (codes "y") 0 (word (codes "u") 0 ∷ [])) ∷ [])) ∷ []))) X 10
  -- q (\y. X y y), p (X z), p (#1 X)
  pub at_one_local_twice : IsLacking (constant (family_at (codes "q") (under_name (codes "y") (applied X 10 (y ∷ y ∷ [])) ∷ []))) X 10
  pub at_a_constant : IsLacking (constant (family_at (codes "p") (applied X 10 (word (codes "z") 0 ∷ []) ∷ []))) X 10
  pub projected : IsLacking (constant (family_at (codes "p") (on_acts X 10 (first ∷ []) ∷ []))) X 10
  -- f (\y. X y) -> p (X W): W is determined under X
  pub under_another : IsFound (constant (from (family_at (codes "f") (under_name (codes "y") (applied X 10 (y ∷ [])) ∷ [])) (family_at (codes "p") (applied X 18 (word W 20 ∷ []) ∷ []))))
      (at X 10 (one Persistent) (Some numbers) ∷ at W 20 [] (Some number) ∷ [])
  -- p (X W): in an argument of X, which is not determined
  pub in_an_argument : IsFound (constant (family_at (codes "p") (applied X 10 (word W 12 ∷ []) ∷ []))) []
  pub first_left_out : IsLacking (constant (family_at (codes "p") (applied X 10 (word W 12 ∷ []) ∷ []))) X 10
  -- {let {u} = X in W} : {nat}: after a `let` of X, which is not determined
  pub after_a_let : IsFound (check (monadic (at_byte 0) (step (record { mode = Bare; name = Some (codes "u") } ∷ []) (name X 10) (spine_of []) no_steps) (entry Bare (word W 20) end_of_tuple)) (monad (at_byte 0) (binding Linear None (family_at (codes "nat") []) end))) []
  -- s X : <T>: what is dropped there determines all the same
  pub in_a_dropped_one : IsFound (check (applied (codes "s") 0 (word X 10 ∷ [])) (top (at_byte 0))) (at X 10 [] (Some number) ∷ [])
  -- z X : nat: at a place without a simple type
  pub without_a_simple_type : IsFound (check (applied (codes "z") 0 (word X 10 ∷ [])) (family_at (codes "nat") [])) (at X 10 [] None ∷ [])
  -- p X <- p X, and p (X z) <- p (W z): the first in the text comes last in the tree
  pub first_in_the_text : IsFound (constant (from (family_at (codes "p") (word X 20 ∷ [])) (family_at (codes "p") (word X 10 ∷ [])))) (at X 10 [] (Some number) ∷ [])
  pub first_left_in_the_text : IsLacking (constant (from (family_at (codes "p") (applied W 20 (word (codes "z") 0 ∷ []) ∷ [])) (family_at (codes "p") (applied X 10 (word (codes "z") 0 ∷ []) ∷ [])))) X 10
  -- p (X W) -> f (\y. X y) -> p W: one round determines both, so W is read at byte 30, where it is checked in that round
  pub in_one_round : IsFound (constant (from (family_at (codes "p") (applied X 10 (word W 12 ∷ []) ∷ [])) (from (family_at (codes "f") (under_name (codes "y") (applied X 20 (y ∷ [])) ∷ [])) (family_at (codes "p") (word W 30 ∷ [])))))
      (at X 20 (one Persistent) (Some numbers) ∷ at W 30 [] (Some number) ∷ [])
  -- f (\X. X): a local is no implicit variable
  pub bound : undetermined signature (constant (family_at (codes "f") (under_name X (word X 10) ∷ []))) ≡ None

-- ---- the order in which variables first appear

abbrev pub successor : DesugaredObject → DesugaredObject
successor o = applied (codes "s") 0 (o ∷ [])

abbrev pub plus_at : DesugaredObject → DesugaredObject → DesugaredObject → DesugaredType
plus_at m n k = family_at (codes "plus") (m ∷ n ∷ k ∷ [])

-- ps : plus (s M) N (s P) <- plus M N P.
abbrev pub sum_of_successor : DesugaredBody
sum_of_successor = constant (from (plus_at (word (codes "M") 32) (word (codes "N") 34) (word (codes "P") 36)) (plus_at (successor (word (codes "M") 13)) (word (codes "N") 16) (successor (word (codes "P") 21))))

-- c : p W <- p X.
abbrev pub conclusion_first : DesugaredBody
conclusion_first = constant (from (family_at (codes "p") (word X 20 ∷ [])) (family_at (codes "p") (word W 10 ∷ [])))

-- The numbers are those of the variables as they are determined: in one round by their places in the tree, where a premise comes before its conclusion.
pub record WorkedOrders : Type 0 where
  pub found_in_sum : IsFound sum_of_successor (at (codes "M") 13 [] (Some number) ∷ at (codes "N") 16 [] (Some number) ∷ at (codes "P") 21 [] (Some number) ∷ [])
  pub order_in_sum : IsByAppearance signature sum_of_successor 3 (0 ∷ 1 ∷ 2 ∷ [])
  pub found_in_premise : IsFound conclusion_first (at X 20 [] (Some number) ∷ at W 10 [] (Some number) ∷ [])
  pub conclusion_appears_first : IsByAppearance signature conclusion_first 2 (1 ∷ 0 ∷ [])
