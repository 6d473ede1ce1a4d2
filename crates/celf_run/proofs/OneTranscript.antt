-- A source has one transcript.
use Rattle.std.proofs.Common.{◌≡◌, true, false, refl, sym, ap, ◌∙◌, subst, Bool}
use Rattle.clf_rules.specs.WellFormed.{WellFormedSignature}
use Rattle.clf_rules.proofs.Signatures.{extended}
use Rattle.clf_sig.specs.Core.{PlainCore, declares, queries, traces, equates, checks}
use Rattle.celf_sugar.specs.PlainTree.{DesugaredItem}
use Rattle.celf_replies.specs.Reply.{PlainReply, is_refusal}
use Rattle.celf_run.specs.declared.options.Options.{Options}
use Rattle.celf_run.specs.Source.{Source, Task}
use Rattle.celf_run.specs.Allowed.{Held, Fits, accepted, typed, same, differing, PlainAllowed, barred, declined, answered, Allowed, at_fault, sugar_fault, plainly, AsksForNothing}
use Rattle.celf_run.specs.Transcript.{Turn, Transcribes, over, goes_on, stops}
use Rattle.celf_run.specs.Laws.{TranscriptIsOne}
use Rattle.celf_run.proofs.OneReply.{reply_is_one}
use Rattle.celf_run.proofs.OneTask.{next_is_one, nothing_is_next}

fits-formed : (options : Options) (held new : Held) (core : PlainCore) (reply : PlainReply) → WellFormedSignature held.signature → Fits options held core reply new → WellFormedSignature new.signature
fits-formed options held new (declares name e) reply w (accepted may) = extended held.signature (name, e) w may
fits-formed options held new (checks n a) reply w (typed t) = w
fits-formed options held new (equates n o a) reply w (same t u j) = w
fits-formed options held new (equates n o a) reply w (differing t u j) = w
fits-formed options held new (queries a) reply w x = elim x [ ]
fits-formed options held new (traces t) reply w x = elim x [ ]

plain-formed : (options : Options) (held new : Held) (item : DesugaredItem) (reply : PlainReply) → WellFormedSignature held.signature
    → PlainAllowed options held item reply new → WellFormedSignature new.signature
plain-formed options held new item reply w (barred x) = w
plain-formed options held new item reply w (declined p x) = w
plain-formed options held new item reply w (answered {core = core} p c f) = fits-formed options held new core reply w f

-- What is held after an allowed reply is well formed where what was held before it is.
allowed-formed : (options : Options) (held new : Held) (task : Task) (reply : PlainReply) → WellFormedSignature held.signature
    → Allowed options held task reply new → WellFormedSignature new.signature
allowed-formed options held new task reply w at_fault = w
allowed-formed options held new task reply w (sugar_fault x) = w
allowed-formed options held new task reply w (plainly {item = item} clean p) = plain-formed options held new _ reply w p

-- a turn is one
record SameTurn (behind other : Source) (new further : Held) (reply because : PlainReply) : Type 0 where
  source : behind ≡ other
  held : new ≡ further
  told : reply ≡ because

turn-one : (options : Options) (source behind other : Source) (held new further : Held) (reply because : PlainReply) → WellFormedSignature held.signature
    → (t : Turn options source held reply behind new) → AsksForNothing held t.task → Turn options source held because other further → SameTurn behind other new further reply because
turn-one options source behind other held new further reply because b t all u =
    let next = next_is_one source behind other t.task u.task t.next u.next in
    let one = reply_is_one options held new further t.task reply because b all t.allowed (subst (λ (k : Task). Allowed options held k because further) (sym next.0) u.allowed) in
    record { source = next.1; held = one.1; told = one.0 }

different : (b : Bool) → b ≡ false → b ≡ true → ⊥
different b e f = cc

pub transcript_is_one : TranscriptIsOne
transcript_is_one options source held last end bytes others status because b (over x) all (over y) = (refl, refl, refl)
transcript_is_one options source held last end bytes others status because b (over x) all (goes_on {behind = behind} t r g) = absurd (nothing_is_next source behind t.task x t.next)
transcript_is_one options source held last end bytes others status because b (over x) all (stops {behind = behind} t r) = absurd (nothing_is_next source behind t.task x t.next)
transcript_is_one options source held last end bytes others status because b (goes_on {behind = behind} t r g) all (over x) = absurd (nothing_is_next source behind t.task x t.next)
transcript_is_one options source held last end bytes others status because b (stops {behind = behind} t r) all (over x) = absurd (nothing_is_next source behind t.task x t.next)
transcript_is_one options source held last end bytes others status because b (goes_on {behind = behind} {new = new} {reply = reply} t r g) all (stops {behind = behind'} {new = new'} {reply = reply'} u s) =
    let same = turn-one options source behind behind' held new new' reply reply' b t all.0 u in
    absurd (different (is_refusal reply) r (ap is_refusal same.told ∙ s))
transcript_is_one options source held last end bytes others status because b (stops {behind = behind} {new = new} {reply = reply} t r) all (goes_on {behind = behind'} {new = new'} {reply = reply'} u s g) =
    let same = turn-one options source behind behind' held new new' reply reply' b t all u in
    absurd (different (is_refusal reply) (ap is_refusal same.told ∙ s) r)
transcript_is_one options source held last end bytes others status because b (stops {behind = behind} {new = new} {reply = reply} t r) all (stops {behind = behind'} {new = new'} {reply = reply'} u s) =
    let same = turn-one options source behind behind' held new new' reply reply' b t all u in
    let held_is = same.held in
    let reply_is = same.told in
    rw (held_is, reply_is) (refl, refl, refl)
transcript_is_one options source held last end bytes others status because b (goes_on {behind = behind} {new = new} {reply = reply} {rest = rest} t r g) all (goes_on {behind = behind'} {new = new'} {reply = reply'} {rest = rest'} u s h) =
    let same = turn-one options source behind behind' held new new' reply reply' b t all.0 u in
    let there = subst (λ (x : Source). Transcribes options x new' rest' because end) (sym same.source) h in
    let here = subst (λ (x : Held). Transcribes options behind x rest' because end) (sym same.held) there in
    let more = transcript_is_one options behind new last end rest rest' status because (allowed-formed options held new t.task reply b t.allowed) g all.1 here in
    let held_is = same.held in
    let reply_is = same.told in
    let rest_is = more.0 in
    (rw (held_is, reply_is, rest_is) refl, more.1, more.2)
