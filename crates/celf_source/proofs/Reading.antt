-- What a reader of a whole file has: the file's first bytes, with the others left to be read.
use Rattle.std.proofs.Common.{ℕ, ◌≡◌, ◌≤◌, ◌+◌, List, ◌++◌, length, Option, Some, IfSome, arith, length-append}
use Rattle.std.specs.Prelude.{⊤}
use Rattle.std.proofs.Math.Seq.{drop-append-add}
use Rattle.celf_source.specs.Shelf.{Told, untold, lacking, holding, ReadsNext, StandsBehind}

-- The bytes are first in the file, and the others are left, where the shelf tells the file.
abbrev pub Began : Told → List ℕ → Option (List ℕ) → Type 0
Began untold bytes left = ⊤
Began lacking bytes left = ⊥
Began (holding file) bytes left = (rest : List ℕ) × (left ≡ Some rest) × (file ≡ bytes ++ rest)

-- After a read the shelf stands after the bytes that it gave.
pub Began-taken : (t : Told) (bytes : List ℕ) (left : Option (List ℕ)) (count : ℕ) (buffer : List ℕ) (after : Option (List ℕ)) →
    Began t bytes left → IfSome left (λ rest. ReadsNext count buffer rest after) → StandsBehind t (length bytes + count) after
Began-taken untold bytes left count buffer after began reads = tt
Began-taken lacking bytes left count buffer after began reads = began
Began-taken (holding file) bytes left count buffer after (rest, is_left, makes) reads =
    let r : ReadsNext count buffer rest after = rw is_left at reads in
    let fits : count ≤ length rest = r.within in
    (rw makes (omega (arith, length-append bytes rest)), rw (makes, drop-append-add) r.behind)
