-- What the calls of a sink do to what was written.
use Rattle.std.specs.Prelude.{ℕ, ◌≡◌, ◌≤◌, List, ◌++◌, length, take, Option, Some, None, ⊤}

-- Where the sink tells what was written: it is followed by these bytes.
abbrev pub Appends : List ℕ → Option (List ℕ) → Option (List ℕ) → Type 0
Appends bytes None new = ⊤
Appends bytes (Some old) new = new ≡ Some (old ++ bytes)

-- Some first bytes of these, maybe none, were written, and no others.
abbrev pub AppendsPrefix : List ℕ → Option (List ℕ) → Option (List ℕ) → Type 0
AppendsPrefix bytes old new = (count : ℕ) × (count ≤ length bytes) × Appends (take count bytes) old new
