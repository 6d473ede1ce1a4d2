-- How a turn ends, and how a run goes on from it.
use Rattle.std.proofs.Common.{ℕ, ◌≡◌, false, refl, ap, sym, ◌∙◌, subst, Option, Some, None, List, [], ◌++◌, take, append_assoc, append-nil, ◌⊎◌, inl, inr}
use Rattle.clf_syntax.specs.declared.fault.Want.{Want}
use Rattle.clf_syntax.specs.declared.fault.Want.TheVariants.{NoMemory as no_memory, TooFar as too_far}
use Rattle.clf_sig.specs.Entry.{PlainSignature}
use Rattle.celf_source.specs.Sink.{Appends}
use Rattle.clf_rules.specs.WellFormed.{WellFormedSignature}
use Rattle.celf_replies.specs.Reply.{PlainReply, is_refusal}
use Rattle.celf_replies.specs.Text.{reply_text, IsNumbered}
use Rattle.celf_run.specs.declared.options.Options.{Options}
use Rattle.celf_run.specs.declared.status.Status.{Status}
use Rattle.celf_run.specs.declared.status.Status.TheVariants.{Done, Refused, BadWords, ReadFault, WriteFault, NoMemory, TooLarge, TooFar}
use Rattle.celf_run.specs.declared.turn.Turn.{Turn as Ended}
use Rattle.celf_run.specs.declared.turn.Turn.TheVariants.{Next as GoesOn, Ended as Ends}
use Rattle.celf_run.specs.Source.{Source, IsOver}
use Rattle.celf_run.specs.Allowed.{Held, holding}
use Rattle.celf_run.specs.Transcript.{told, Turn, over, goes_on, stops, Begun, nothing, front, beyond}
use Rattle.celf_run.specs.Run.{Way, whole, cut, silent, way, start, nothing_held}
use Rattle.celf_run.specs.Turning.{place_in, Answers, WritesFront, Writes, TakesOn, TextEnds, TextOutcome, Finishes, Turns, Reached, status_of}
use Rattle.celf_run.proofs.Replies.{allowed-reads_back}

pub appends-nothing : (x y : Option (List ℕ)) → y ≡ x → Appends [] x y
appends-nothing None y e = tt
appends-nothing (Some x) y e = e ∙ ap Some (sym (append-nil x))

-- What is appended in two parts.
appends-twice : (a b : List ℕ) (x y z : Option (List ℕ)) → Appends a x y → Appends b y z → Appends (a ++ b) x z
appends-twice a b None y z p q = tt
appends-twice a b (Some x) None z p q = cc
appends-twice a b (Some x) (Some y) z p q =
    let y_is : y ≡ x ++ a = cc in
    q ∙ ap (λ l. Some (l ++ b)) y_is ∙ ap Some (append_assoc x a b)

-- ---- what is written of a reply

-- Nothing is left.
pub finishes-over : (options : Options) (source : Source) (sig : PlainSignature) (before : Option (List ℕ)) → WellFormedSignature sig → IsOver source
    → Finishes options source (holding sig) before before Done
finishes-over options source sig before w h = ([], appends-nothing before before refl, (holding sig, over h, w))

-- Nothing was written before the run was given up.
pub finishes-given_up : (options : Options) (source : Source) (held : Held) (before : Option (List ℕ)) (want : Want)
    → Finishes options source held before before (status_of want)
finishes-given_up options source held before no_memory = ([], appends-nothing before before refl, nothing)
finishes-given_up options source held before (too_far w) = ([], appends-nothing before before refl, nothing)

module _ (options : Options) (source : Source) (old : PlainSignature) (reply : PlainReply) (behind : Source) (new : PlainSignature) (formed : WellFormedSignature old) (formed_behind : WellFormedSignature new) (a : Answers options source (holding old) reply behind (holding new)) where
  -- A reply that is printed makes a turn.
  turn-of : IsNumbered new reply → Turn options source (holding old) reply behind (holding new)
  turn-of n = record { task = a.task; next = a.next; allowed = a.allowed; reads_back = allowed-reads_back options (holding old) (holding new) a.task reply formed a.allowed n }

  -- The front of a reply is written.
  front-begun : (before after : Option (List ℕ)) → WritesFront new reply before after
      → (written : List ℕ) × Appends written before after × Begun options source (holding old) written
  front-begun before after w = (w.written, w.appends, go w.is_front)
    where
      go : (w.written ≡ []) ⊎ (IsNumbered new reply × (n : ℕ) × (w.written ≡ take n (reply_text new reply))) → Begun options source (holding old) w.written
      go (inl e) = subst (Begun options source (holding old)) (sym e) nothing
      go (inr (n, k, e)) = subst (Begun options source (holding old)) (sym e) (front k (turn-of n))

  written-turns : (before after : Option (List ℕ)) (text : List ℕ) (at end : ℕ) → source ≡ place_in text at → behind ≡ place_in text end → (r : Ended)
      → Writes new reply end before after r → Turns options text at (holding old) (holding new) before after r
  written-turns before after text at end s_is b_is (GoesOn e) (e_is, on, w) =
      let P : Source → Source → Type 0 = λ s b. Turn options s (holding old) reply b (holding new) in
      let behind_is : behind ≡ place_in text e = b_is ∙ ap (place_in text) (sym e_is) in
      record { reply = reply; turn = subst (λ b. P (place_in text at) b) behind_is (subst (λ s. P s behind) s_is (turn-of w.numbered)); taken = on; told = w.appends }
  written-turns before after text at end s_is b_is (Ends Refused) (over_is, w) =
      subst (λ s. Finishes options s (holding old) before after Refused) s_is
      (told options (holding new) reply, w.appends, (holding new, stops (turn-of w.numbered) over_is, formed_behind))
  written-turns before after text at end s_is b_is (Ends WriteFault) w = subst (λ s. Finishes options s (holding old) before after WriteFault) s_is (front-begun before after w)
  written-turns before after text at end s_is b_is (Ends NoMemory) w = subst (λ s. Finishes options s (holding old) before after NoMemory) s_is (front-begun before after w)
  written-turns before after text at end s_is b_is (Ends (TooFar x)) w = subst (λ s. Finishes options s (holding old) before after (TooFar x)) s_is (front-begun before after w)
  written-turns before after text at end s_is b_is (Ends Done) w = absurd w
  written-turns before after text at end s_is b_is (Ends BadWords) w = absurd w
  written-turns before after text at end s_is b_is (Ends ReadFault) w = absurd w
  written-turns before after text at end s_is b_is (Ends TooLarge) w = absurd w

-- What was told of a reply comes to a turn.
pub turns : (options : Options) (text : List ℕ) (at end : ℕ) (old new : PlainSignature) (reply : PlainReply) (before after : Option (List ℕ)) (r : Ended)
    → WellFormedSignature old → WellFormedSignature new → Answers options (place_in text at) (holding old) reply (place_in text end) (holding new)
    → Writes new reply end before after r → Turns options text at (holding old) (holding new) before after r
turns options text at end old new reply before after r b c a w =
    written-turns options (place_in text at) old reply (place_in text end) new b c a before after text at end refl refl r w

-- A turn that takes on goes on with what ends the run after it.
onward : (w : Way) (options : Options) (source behind : Source) (old new : Held) (reply : PlainReply) (rest : List ℕ) (status : Status)
    → Turn options source old reply behind new → is_refusal reply ≡ false → TextEnds w options behind new status rest
    → TextEnds w options source old status (told options new reply ++ rest)
onward whole options source behind old new reply rest status t r (last, goes, formed) = (last, goes_on t r goes, formed)
onward cut options source behind old new reply rest status t r begun = beyond t r begun
onward silent options source behind old new reply rest status t r none = none

pub reached-onward : (options : Options) (text : List ℕ) (at end : ℕ) (old new : Held) (before now after : Option (List ℕ)) → Reached options text at old before now
    → TakesOn options (place_in text at) old (place_in text end) new now after → Reached options text end new before after
reached-onward options text at end old new before now after r t =
    let line : List ℕ = told options new t.reply in
    let on : (status : Status) (rest : List ℕ) → TextOutcome options (place_in text end) new status rest → TextOutcome options (start text) nothing_held status ((r.so_far ++ line) ++ rest) =
    λ status rest o.
    subst (λ (l : List ℕ). TextOutcome options (start text) nothing_held status l) (sym (append_assoc r.so_far line rest))
    (r.goes status (line ++ rest) (onward (way status) options (place_in text at) (place_in text end) old new t.reply rest status t.turn t.taken o)) in
    record { so_far = r.so_far ++ line; appends = appends-twice r.so_far line before now after r.appends t.told; goes = on }

pub reached-finishes : (options : Options) (text : List ℕ) (at : ℕ) (held : Held) (before now after : Option (List ℕ)) (status : Status) → Reached options text at held before now
    → Finishes options (place_in text at) held now after status → Finishes options (start text) nothing_held before after status
reached-finishes options text at held before now after status r (rest, appended, o) =
    (r.so_far ++ rest, appends-twice r.so_far rest before now after r.appends appended, r.goes status rest o)
