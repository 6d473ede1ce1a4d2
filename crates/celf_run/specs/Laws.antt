-- Laws of the definitions of a run, as statements.
use Rattle.std.specs.Prelude.{ℕ, ◌≡◌, List, ◌++◌}
use Rattle.celf_parser.specs.Place.{HasDeclarableName}
use Rattle.clf_rules.specs.WellFormed.{WellFormedSignature}
use Rattle.celf_replies.specs.Reply.{PlainReply}
use Rattle.celf_replies.specs.Text.{IsNumbered}
use Rattle.celf_run.specs.declared.options.Options.{Options}
use Rattle.celf_run.specs.declared.status.Status.{Status}
use Rattle.celf_run.specs.Source.{Source, Task, written, faulty, Next, IsOver}
use Rattle.celf_run.specs.Allowed.{Held, Allowed, AsksForNothing}
use Rattle.celf_run.specs.Transcript.{ReadsBack, Transcribes, over, goes_on, stops}

-- Over a well-formed signature the lines of each allowed reply read back, where the numbers of its variables are written whole.
abbrev pub PrintedLinesReadBack : Type 0
PrintedLinesReadBack = (options : Options) (old new : Held) (task : Task) (reply : PlainReply) → WellFormedSignature old.signature
    → Allowed options old task reply new → IsNumbered new.signature reply → ReadsBack options old reply new

-- a task as it comes of a text: a declared name is one that may be declared
abbrev pub IsTaskOfText : Task → Type 0
IsTaskOfText (written item) = HasDeclarableName item.body
IsTaskOfText (faulty refusal) = Unit {0}

-- Over a well-formed signature each task has an allowed reply, where nothing is to be found.
abbrev pub EachTaskHasReply : Type 0
EachTaskHasReply = (options : Options) (held : Held) (task : Task) → WellFormedSignature held.signature → IsTaskOfText task → AsksForNothing held task → (reply : PlainReply) × (new : Held) × Allowed options held task reply new

-- Over a well-formed signature a task has one allowed reply, with one thing held after it, where nothing is to be found.
abbrev pub ReplyIsOne : Type 0
ReplyIsOne = (options : Options) (held new other : Held) (task : Task) (reply further : PlainReply) → WellFormedSignature held.signature → AsksForNothing held task
    → Allowed options held task reply new → Allowed options held task further other → (reply ≡ further) × (new ≡ other)

-- What comes next is one task, with one source after it, and none where nothing but blanks and comments is left.
abbrev pub NextIsOne : Type 0
NextIsOne = (source behind other : Source) (task further : Task) → Next source task behind → Next source further other → (task ≡ further) × (behind ≡ other)

abbrev pub NothingIsNext : Type 0
NothingIsNext = (source behind : Source) (task : Task) → IsOver source → Next source task behind → ⊥

-- Nothing is to be found for any task of a transcript.
abbrev pub NeverAsks : (options : Options) (source : Source) (held last : Held) (bytes : List ℕ) (status : Status) → Transcribes options source held bytes status last → Type 0
NeverAsks options source held last bytes status (over h) = Unit {0}
NeverAsks options source held last bytes status (goes_on {behind = behind} {new = new} {rest = rest} turn e t) = AsksForNothing held turn.task × NeverAsks options behind new last rest status t
NeverAsks options source held last bytes status (stops turn e) = AsksForNothing held turn.task

-- What is answered over a well-formed signature is determined where nothing is to be found, so a source has no other transcript over it than one in which
-- nothing is, with one status and one thing held at its end.
abbrev pub TranscriptIsOne : Type 0
TranscriptIsOne = (options : Options) (source : Source) (held last end : Held) (bytes others : List ℕ) (status because : Status) → WellFormedSignature held.signature
    → (transcript : Transcribes options source held bytes status last) → NeverAsks options source held last bytes status transcript
    → Transcribes options source held others because end
    → (bytes ≡ others) × (status ≡ because) × (last ≡ end)
