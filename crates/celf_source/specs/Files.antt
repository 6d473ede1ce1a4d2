-- Files in memory, and the shelves that hold them.
use Rattle.std.specs.Prelude.{ℕ, zero, suc, ◌≡◌, ◌<◌, ◌≤◌, List, [], ◌∷◌, length, drop, Bool, true, false, if◌then◌else◌, Option, Some, None, bytes_eq}
use Rattle.celf_source.specs.Count.{next_count}
use Rattle.celf_source.specs.Calls.{Calls, no_calls}
use Rattle.celf_source.specs.Shelf.{Told, untold, lacking, holding}

-- a file and its name
pub record NamedFile : Type 0 where
  pub name : List ℕ
  pub bytes : List ℕ

-- what files tell of a name: the first file of that name is the one that counts
abbrev pub told_in : List NamedFile → List ℕ → Told
told_in [] name = lacking
told_in (file ∷ files) name = if bytes_eq file.name name then holding file.bytes else told_in files name

-- There is a file of the name.
abbrev pub is_held : Told → Bool
is_held untold = false
is_held lacking = false
is_held (holding bytes) = true

-- the bytes of the file at a place
abbrev pub bytes_at : List NamedFile → ℕ → List ℕ
bytes_at [] place = []
bytes_at (file ∷ files) zero = file.bytes
bytes_at (file ∷ files) (suc place) = bytes_at files place

-- one file under every name, and what is left of it
pub record OneFile : Type 0 where
  pub bytes : List ℕ
  pub left : List ℕ

-- files by name, what is left of the opened one, and the counts
pub record ManyFiles : Type 0 where
  pub files : List NamedFile
  pub left : List ℕ
  pub lacks : ℕ
  pub calls : Calls

-- Files of which none was opened yet: nothing is left, and nothing was counted.
abbrev pub unopened : List NamedFile → List ℕ → ManyFiles
unopened files failing = record { files = files; left = []; lacks = 0; calls = no_calls failing }

-- what is left of the opened file after the bytes taken: nothing, where none was opened
abbrev pub left_in : List NamedFile → Option ℕ → ℕ → List ℕ
left_in files None taken = []
left_in files (Some place) taken = drop taken (bytes_at files place)

-- The opened file is one of these, and has the bytes taken.
abbrev pub IsOpenedIn : List NamedFile → Option ℕ → ℕ → Type 0
IsOpenedIn files None taken = taken ≡ 0
IsOpenedIn files (Some place) taken = (place < length files) × (taken ≤ length (bytes_at files place))

-- the lacks after a name was opened of which this is said
abbrev pub lacks_after : Told → ℕ → ℕ
lacks_after untold lacks = lacks
lacks_after lacking lacks = next_count lacks
lacks_after (holding bytes) lacks = lacks
