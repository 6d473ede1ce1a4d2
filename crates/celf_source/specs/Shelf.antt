-- What a shelf tells of its files, and what its calls do to the file that is open.
use Rattle.std.specs.Prelude.{ℕ, ◌≡◌, ◌<◌, ◌≤◌, List, length, take, drop, Option, Some, ⊤}
use Rattle.celf_source.specs.Count.{Rose}

-- What a shelf tells of a name: nothing, that it has no file of that name, or the bytes of the file.
pub data Told : Type 0 where
  untold : Told
  lacking : Told
  holding : List ℕ → Told

-- The shelf has the file, and where it tells the bytes, they are what is left to be read.
abbrev pub IsOpened : Told → Option (List ℕ) → Type 0
IsOpened untold left = ⊤
IsOpened lacking left = ⊥
IsOpened (holding bytes) left = left ≡ Some bytes

-- The lacks rise where the shelf tells that it lacks the name, and stay as they were else.
abbrev pub CountsLack : Told → ℕ → ℕ → Type 0
CountsLack untold old new = new ≡ old
CountsLack lacking old new = Rose old new
CountsLack (holding bytes) old new = new ≡ old

-- A read that answered `count` put the next bytes of `rest` in front of the buffer, and the bytes after them are left.
pub record ReadsNext (count : ℕ) (buffer rest : List ℕ) (left : Option (List ℕ)) : Type 0 where
  pub within : count ≤ length rest
  pub next : take count buffer ≡ take count rest
  pub behind : left ≡ Some (drop count rest)

-- `bytes` are the whole file, where the shelf tells the file, and the shelf does not tell that it lacks it.
abbrev pub IsWhole : Told → List ℕ → Type 0
IsWhole untold bytes = ⊤
IsWhole lacking bytes = ⊥
IsWhole (holding file) bytes = bytes ≡ file

-- The file has more bytes than the limit, where the shelf tells the file.
abbrev pub IsLonger : Told → ℕ → Type 0
IsLonger untold limit = ⊤
IsLonger lacking limit = ⊥
IsLonger (holding file) limit = limit < length file

-- The shelf stands after the first `taken` bytes of the file, where it tells the file.
abbrev pub StandsBehind : Told → ℕ → Option (List ℕ) → Type 0
StandsBehind untold taken left = ⊤
StandsBehind lacking taken left = ⊥
StandsBehind (holding file) taken left = (taken ≤ length file) × (left ≡ Some (drop taken file))
