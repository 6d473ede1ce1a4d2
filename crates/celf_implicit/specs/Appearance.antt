-- The order in which the implicit variables of an item first appear in its text.
use Rattle.std.specs.Prelude.{ℕ, ◌≡◌, ◌≢◌, ◌<◌, ◌≤◌, Bool, List, [], Option, Some, Contains, AllPairs, option_map, option_and_then, slice_get}
use Rattle.std.specs.List.{filter}
use Rattle.clf_syntax.specs.Word.{same_bytes}
use Rattle.clf_sig.specs.Entry.{PlainSignature}
use Rattle.celf_sugar.specs.Earliest.{earliest}
use Rattle.celf_sugar.specs.PlainTree.{DesugaredBody}
use Rattle.celf_implicit.specs.Variables.{PlainImplicit}
use Rattle.celf_implicit.specs.Occurrences.{Occurrence, occurrences}
use Rattle.celf_implicit.specs.Rounds.{determined}

-- an occurrence is one of the variable of this name
abbrev pub is_of : List ℕ → Occurrence → Bool
is_of name o = same_bytes name o.name.name

-- the byte at which an occurrence stands
abbrev pub byte : Occurrence → ℕ
byte o = o.name.span.start

module _ (sig : PlainSignature) (body : DesugaredBody) where
  -- The first byte of a variable is the least at which an occurrence of it stands. Where they stand does not depend on what is determined.
  abbrev pub first_byte : PlainImplicit → Option ℕ
  first_byte x = option_map byte (earliest byte (filter (is_of x.name) (occurrences sig [] body)))

  -- the first byte of the variable with this number: its place among those that are determined
  abbrev pub first_byte_of : ℕ → Option ℕ
  first_byte_of i = option_and_then first_byte (slice_get (determined sig body) i)

  -- Both have a first byte, and that of the one is not after that of the other.
  pub record AppearsBefore (i j : ℕ) : Type 0 where
    pub one : ℕ
    pub other : ℕ
    pub first_one : first_byte_of i ≡ Some one
    pub first_other : first_byte_of j ≡ Some other
    pub before : one ≤ other

  -- The order has the numbers below the count, each once, by first bytes.
  pub record IsByAppearance (count : ℕ) (order : List ℕ) : Type 0 where
    pub numbers : (i : ℕ) → Contains order i → i < count
    pub all : (i : ℕ) → i < count → Contains order i
    pub once : AllPairs (λ i j. i ≢ j) order
    pub by_bytes : AllPairs AppearsBefore order
