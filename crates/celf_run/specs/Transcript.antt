-- A run, task after task: what is written, how it ends, and what is held then.
use Rattle.std.specs.Prelude.{ℕ, ◌≡◌, true, false, List, [], ◌∷◌, ◌++◌, take, codes}
use Rattle.clf_sig.specs.Entry.{PlainEntry}
use Rattle.clf_sig.specs.Core.{declares, checks}
use Rattle.celf_meaning.specs.ReadingBack.{ReadsAs}
use Rattle.celf_replies.specs.Reply.{PlainReply, entry, checked, equal, different, refused, is_refusal}
use Rattle.clf_printer.specs.Judgment.{judgment_text}
use Rattle.celf_replies.specs.Text.{reply_text}
use Rattle.celf_run.specs.declared.options.Options.{Options}
use Rattle.celf_run.specs.declared.status.Status.{Status}
use Rattle.celf_run.specs.declared.status.Status.TheVariants.{Done, Refused}
use Rattle.celf_run.specs.Source.{Source, Task, Next, IsOver}
use Rattle.celf_run.specs.Allowed.{Held, Allowed}

-- what is written of a reply, over what is held after it
abbrev pub told : Options → Held → PlainReply → List ℕ
told options new reply = reply_text new.signature reply

-- The line of an accepted declaration reads back, over the entries before it, as its entry; what the line of a typed object says reads back, after
-- #check, as the object and its type. The other lines repeat nothing.
abbrev pub ReadsBack : Options → Held → PlainReply → Held → Type 0
ReadsBack options old (entry k) new = (name : List ℕ) × (e : PlainEntry) × (new.signature ≡ old.signature ++ (name, e) ∷ []) × ReadsAs old.signature (told options new (entry k)) (declares name e)
ReadsBack options old (checked n a) new = ReadsAs old.signature (codes "#check " ++ (judgment_text new.signature n a ++ codes ".\n")) (checks n a)
ReadsBack options old equal new = Unit {0}
ReadsBack options old different new = Unit {0}
ReadsBack options old (refused r) new = Unit {0}

-- how a run ends where nothing is left
abbrev pub finished : Held → Status
finished held = Done

-- One task is answered.
pub record Turn (options : Options) (source : Source) (old : Held) (reply : PlainReply) (behind : Source) (new : Held) : Type 0 where
  pub task : Task
  pub next : Next source task behind
  pub allowed : Allowed options old task reply new
  pub reads_back : ReadsBack options old reply new

-- Transcribes options source held written status last: from this source, and with this held, these bytes are written, with this status at the
-- end, and this is held then. A refusal ends a run.
pub data Transcribes (options : Options) : Source → Held → List ℕ → Status → Held → Type 0 where
  over : {source : Source} {held : Held} → IsOver source → Transcribes options source held [] (finished held) held
  goes_on : {source behind : Source} {held new last : Held} {reply : PlainReply} {rest : List ℕ} {status : Status}
      → Turn options source held reply behind new → is_refusal reply ≡ false → Transcribes options behind new rest status last
      → Transcribes options source held (told options new reply ++ rest) status last
  stops : {source behind : Source} {held new : Held} {reply : PlainReply}
      → Turn options source held reply behind new → is_refusal reply ≡ true → Transcribes options source held (told options new reply) Refused new

-- A run that was given up: the bytes are the replies to some tasks that come first, and the front of the next one's.
pub data Begun (options : Options) : Source → Held → List ℕ → Type 0 where
  nothing : {source : Source} {held : Held} → Begun options source held []
  front : {source behind : Source} {held new : Held} {reply : PlainReply} (n : ℕ)
      → Turn options source held reply behind new → Begun options source held (take n (told options new reply))
  beyond : {source behind : Source} {held new : Held} {reply : PlainReply} {rest : List ℕ}
      → Turn options source held reply behind new → is_refusal reply ≡ false → Begun options behind new rest → Begun options source held (told options new reply ++ rest)
