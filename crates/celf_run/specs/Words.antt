-- The words of the command line.
use Rattle.std.specs.Prelude.{ℕ, ◌==◌, if◌then◌else◌, List, [], ◌∷◌, Option, Some, None}

-- a file's name: any word that is not empty and does not begin with -
abbrev pub file_name : List ℕ → Option (List ℕ)
file_name [] = None
file_name (b ∷ bs) = if b == 45 then None else Some (b ∷ bs)

-- The words are the program's name and a file's name.
abbrev pub file_word : List (List ℕ) → Option (List ℕ)
file_word [] = None
file_word (program ∷ []) = None
file_word (program ∷ file ∷ []) = file_name file
file_word (program ∷ file ∷ more ∷ rest) = None
