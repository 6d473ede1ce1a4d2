-- Inner: one turn of a run: what comes next is answered, the reply is written, and the run goes on or ends.
use Rattle.std.specs.Prelude.{ℕ, ◌≡◌, ◌⊎◌, true, false, List, [], ◌++◌, take, Option}
use Rattle.celf_source.specs.Sink.{Appends}
use Rattle.clf_syntax.specs.declared.fault.Want.{Want}
use Rattle.clf_syntax.specs.declared.fault.Want.TheVariants.{NoMemory as no_memory, TooFar as too_far}
use Rattle.clf_syntax.specs.Wide.{IsWide}
use Rattle.celf_replies.specs.Reply.{PlainReply, entry, checked, equal, different, refused, is_refusal}
use Rattle.celf_replies.specs.Text.{reply_text, IsNumbered}
use Rattle.clf_sig.specs.Entry.{PlainSignature}
use Rattle.celf_run.specs.declared.options.Options.{Options}
use Rattle.celf_run.specs.declared.status.Status.{Status}
use Rattle.celf_run.specs.declared.status.Status.TheVariants.{Done, Refused, BadWords, ReadFault, WriteFault, NoMemory, TooLarge, TooFar}
use Rattle.celf_run.specs.declared.turn.Turn.{Turn as Ended}
use Rattle.celf_run.specs.declared.turn.Turn.TheVariants.{Next as GoesOn, Ended as Ends}
use Rattle.celf_run.specs.Source.{Source, Task, Next}
use Rattle.celf_run.specs.Allowed.{Held, Allowed}
use Rattle.celf_run.specs.Transcript.{told, Turn}
use Rattle.celf_run.specs.Run.{Way, whole, cut, silent, way, Ends as EndsSo, start, nothing_held}

-- where the answering of a text stands
abbrev pub place_in : List ℕ → ℕ → Source
place_in text at = record { text = text; at = at }

-- What comes next has this reply, and this source and this are after it.
pub record Answers (options : Options) (source : Source) (old : Held) (reply : PlainReply) (behind : Source) (new : Held) : Type 0 where
  pub task : Task
  pub next : Next source task behind
  pub allowed : Allowed options old task reply new

-- A front of the reply's lines was written, or nothing.
pub record WritesFront (sig : PlainSignature) (reply : PlainReply) (before after : Option (List ℕ)) : Type 0 where
  pub written : List ℕ
  pub appends : Appends written before after
  pub is_front : (written ≡ []) ⊎ (IsNumbered sig reply × (n : ℕ) × (written ≡ take n (reply_text sig reply)))

-- The lines of the reply were written.
pub record WritesWhole (sig : PlainSignature) (reply : PlainReply) (before after : Option (List ℕ)) : Type 0 where
  pub numbered : IsNumbered sig reply
  pub appends : Appends (reply_text sig reply) before after

-- What was written of a reply, by how the turn ends.
abbrev pub Writes : PlainSignature → PlainReply → ℕ → Option (List ℕ) → Option (List ℕ) → Ended → Type 0
Writes sig reply end before after (GoesOn e) = (e ≡ end) × (is_refusal reply ≡ false) × WritesWhole sig reply before after
Writes sig reply end before after (Ends Refused) = (is_refusal reply ≡ true) × WritesWhole sig reply before after
Writes sig reply end before after (Ends WriteFault) = WritesFront sig reply before after
Writes sig reply end before after (Ends NoMemory) = WritesFront sig reply before after
Writes sig reply end before after (Ends (TooFar w)) = WritesFront sig reply before after
Writes sig reply end before after (Ends Done) = ⊥
Writes sig reply end before after (Ends BadWords) = ⊥
Writes sig reply end before after (Ends ReadFault) = ⊥
Writes sig reply end before after (Ends TooLarge) = ⊥

-- The reply to a task was written and is no refusal, and the run goes on after it.
pub record TakesOn (options : Options) (source : Source) (old : Held) (behind : Source) (new : Held) (before after : Option (List ℕ)) : Type 0 where
  pub reply : PlainReply
  pub turn : Turn options source old reply behind new
  pub taken : is_refusal reply ≡ false
  pub told : Appends (told options new reply) before after

-- What a run over a text comes to: it does not end without a word.
abbrev pub TextEnds : Way → Options → Source → Held → Status → List ℕ → Type 0
TextEnds whole options source held status written = EndsSo whole options source held status written
TextEnds cut options source held status written = EndsSo cut options source held status written
TextEnds silent options source held status written = ⊥

abbrev pub TextOutcome : Options → Source → Held → Status → List ℕ → Type 0
TextOutcome options source held status written = TextEnds (way status) options source held status written

-- What ends a run from here, with what is written then.
abbrev pub Finishes : Options → Source → Held → Option (List ℕ) → Option (List ℕ) → Status → Type 0
Finishes options source held before after status = (written : List ℕ) × Appends written before after × TextOutcome options source held status written

-- What one turn comes to.
abbrev pub Turns : Options → List ℕ → ℕ → Held → Held → Option (List ℕ) → Option (List ℕ) → Ended → Type 0
Turns options text at old new before after (GoesOn end) = TakesOn options (place_in text at) old (place_in text end) new before after
Turns options text at old new before after (Ends status) = Finishes options (place_in text at) old before after status

-- How far a run has come: what was written so far, and then what ends it from here, is what ends it from the start.
pub record Reached (options : Options) (text : List ℕ) (at : ℕ) (held : Held) (before now : Option (List ℕ)) : Type 0 where
  pub so_far : List ℕ
  pub appends : Appends so_far before now
  pub goes : (status : Status) (rest : List ℕ) → TextOutcome options (place_in text at) held status rest → TextOutcome options (start text) nothing_held status (so_far ++ rest)

-- how a turn ends whose reply is written
abbrev pub turn_behind : PlainReply → ℕ → Ended
turn_behind (entry k) end = GoesOn end
turn_behind (checked n a) end = GoesOn end
turn_behind equal end = GoesOn end
turn_behind different end = GoesOn end
turn_behind (refused r) end = Ends Refused

-- how a run ends that is given up
abbrev pub status_of : Want → Status
status_of no_memory = NoMemory
status_of (too_far w) = TooFar w

-- The status of a number past its range keeps the long list that was counted.
abbrev pub KeepsWide : Status → Type 0
KeepsWide (TooFar w) = IsWide w
KeepsWide Done = Unit {0}
KeepsWide Refused = Unit {0}
KeepsWide BadWords = Unit {0}
KeepsWide ReadFault = Unit {0}
KeepsWide WriteFault = Unit {0}
KeepsWide NoMemory = Unit {0}
KeepsWide TooLarge = Unit {0}

abbrev pub EndsWide : Ended → Type 0
EndsWide (GoesOn end) = Unit {0}
EndsWide (Ends status) = KeepsWide status
