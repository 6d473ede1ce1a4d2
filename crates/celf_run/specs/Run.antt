-- A whole run, by how it ends and by what the shelf tells of its files.
use Rattle.std.specs.Prelude.{ℕ, ◌≡◌, ◌<◌, ◌⊎◌, List, [], length, Option, Some, None}
use Rattle.clf_rules.specs.WellFormed.{WellFormedSignature}
use Rattle.celf_lexer.specs.Tokens.{size_limit}
use Rattle.celf_source.specs.Shelf.{Told, untold, lacking, holding}
use Rattle.celf_source.specs.Sink.{Appends}
use Rattle.celf_run.specs.declared.options.Options.{Options}
use Rattle.celf_run.specs.declared.status.Status.{Status}
use Rattle.celf_run.specs.declared.status.Status.TheVariants.{Done, Refused, BadWords, ReadFault, WriteFault, NoMemory, TooLarge, TooFar}
use Rattle.celf_run.specs.Source.{Source}
use Rattle.celf_run.specs.Allowed.{Held, holding as holds}
use Rattle.celf_run.specs.Transcript.{Transcribes, Begun}

-- the three ways in which a run ends: its transcript is written, or a front of it, or nothing
pub data Way : Type 0 where
  whole : Way
  cut : Way
  silent : Way

abbrev pub way : Status → Way
way Done = whole
way Refused = whole
way WriteFault = cut
way NoMemory = cut
way (TooFar w) = cut
way BadWords = silent
way ReadFault = silent
way TooLarge = silent

-- What is written by a run that ends this way. The signature at the end of a transcript is well formed.
abbrev pub Ends : Way → Options → Source → Held → Status → List ℕ → Type 0
Ends whole options source held status written = (last : Held) × Transcribes options source held written status last × WellFormedSignature last.signature
Ends cut options source held status written = Begun options source held written
Ends silent options source held status written = written ≡ []

abbrev pub Outcome : Options → Source → Held → Status → List ℕ → Type 0
Outcome options source held status written = Ends (way status) options source held status written

-- what a run begins with
abbrev pub start : List ℕ → Source
start text = record { text = text; at = 0 }

abbrev pub nothing_held : Held
nothing_held = holds []

-- lack of memory or of numbers, to which every exact end yields
abbrev pub IsWant : Status → Type 0
IsWant NoMemory = Unit {0}
IsWant (TooFar w) = Unit {0}
IsWant Done = ⊥
IsWant Refused = ⊥
IsWant WriteFault = ⊥
IsWant BadWords = ⊥
IsWant ReadFault = ⊥
IsWant TooLarge = ⊥

-- Of a file past the limit nothing is written, whatever ends its reading. No other is called too large.
pub record LimitsSize (text : List ℕ) (status : Status) (written : List ℕ) : Type 0 where
  pub past : size_limit < length text → (written ≡ []) × ((status ≡ TooLarge) ⊎ ((status ≡ ReadFault) ⊎ IsWant status))
  pub within : status ≡ TooLarge → size_limit < length text

-- What is written of a file: nothing where there is none, which is a fault of reading.
abbrev pub FileOutcome : Options → Option (List ℕ) → Status → List ℕ → Type 0
FileOutcome options None status written = (status ≡ ReadFault) × (written ≡ [])
FileOutcome options (Some text) status written = Outcome options (start text) nothing_held status written × LimitsSize text status written

-- the bytes of each name; none where there is no such file
abbrev pub Files : Type 0
Files = List ℕ → Option (List ℕ)

abbrev pub AgreesOn : Told → Option (List ℕ) → Type 0
AgreesOn untold file = Unit {0}
AgreesOn lacking file = file ≡ None
AgreesOn (holding bytes) file = file ≡ Some bytes

-- The files are what the shelf tells of them, where it tells.
abbrev pub Agrees : (List ℕ → Told) → Files → Type 0
Agrees told files = (name : List ℕ) → AgreesOn (told name) (files name)

-- Run options name told status old new: there are files, such as the shelf tells them, of which the run is an outcome. What is not told is some text all the same.
abbrev pub Run : Options → List ℕ → (List ℕ → Told) → Status → Option (List ℕ) → Option (List ℕ) → Type 0
Run options name told status old new = (files : Files) × Agrees told files × (written : List ℕ) × Appends written old new × FileOutcome options (files name) status written
