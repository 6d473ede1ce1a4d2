-- What is written of a file, by how its reading ends.
use Rattle.std.proofs.Common.{ℕ, ◌≡◌, ◌≤◌, ◌<◌, zero, suc, refl, ap, subst, arith, Option, Some, None, List, [], ◌∷◌, length, inl, inr}
use Rattle.celf_lexer.specs.Tokens.{size_limit}
use Rattle.celf_source.specs.Shelf.{Told, untold, lacking, holding, IsWhole, IsLonger, StandsBehind}
use Rattle.celf_source.specs.Sink.{Appends}
use Rattle.celf_run.specs.declared.options.Options.{Options}
use Rattle.celf_run.specs.declared.status.Status.{Status}
use Rattle.celf_run.specs.declared.status.Status.TheVariants.{ReadFault, NoMemory, TooLarge}
use Rattle.celf_run.specs.Transcript.{nothing}
use Rattle.celf_run.specs.Run.{Way, whole, cut, silent, way, Ends, start, nothing_held, FileOutcome, AgreesOn, Run}
use Rattle.celf_run.specs.Turning.{TextEnds, TextOutcome, Finishes}
use Rattle.celf_run.proofs.Turns.{appends-nothing}

-- what a shelf tells of a file, and this where it tells nothing
abbrev file_of : Option (List ℕ) → Told → Option (List ℕ)
file_of other untold = other
file_of other lacking = None
file_of other (holding bytes) = Some bytes

file_of-agrees : (other : Option (List ℕ)) (t : Told) → AgreesOn t (file_of other t)
file_of-agrees other untold = tt
file_of-agrees other lacking = refl
file_of-agrees other (holding bytes) = refl

-- A run over files that are this where the shelf tells nothing.
run-of : (options : Options) (other : Option (List ℕ)) (name : List ℕ) (told : List ℕ → Told) (status : Status) (old new : Option (List ℕ)) (written : List ℕ)
    → Appends written old new → FileOutcome options (file_of other (told name)) status written → Run options name told status old new
run-of options other name told status old new written a o = ((λ n. file_of other (told n)), (λ n. file_of-agrees other (told n)), written, a, o)

-- What a run over a text comes to is an outcome.
outcome : (w : Way) (options : Options) (text written : List ℕ) (status : Status) → TextEnds w options (start text) nothing_held status written → Ends w options (start text) nothing_held status written
outcome whole options text written status o = o
outcome cut options text written status o = o
outcome silent options text written status o = absurd o

-- A run over a text does not say that it is too large.
text-not_large : (options : Options) (text written : List ℕ) (status : Status) → TextOutcome options (start text) nothing_held status written → status ≡ TooLarge → ⊥
text-not_large options text written status o e = subst (λ s. TextOutcome options (start text) nothing_held s written) e o

whole-outcome : (options : Options) (bytes written : List ℕ) (status : Status) → length bytes ≤ size_limit
    → TextOutcome options (start bytes) nothing_held status written → FileOutcome options (Some bytes) status written
whole-outcome options bytes written status within o =
    (outcome (way status) options bytes written status o, record { past = λ more. absurd (omega arith); within = λ e. absurd (text-not_large options bytes written status o e) })

whole-file : (options : Options) (t : Told) (bytes written : List ℕ) (status : Status) → IsWhole t bytes → length bytes ≤ size_limit
    → TextOutcome options (start bytes) nothing_held status written → FileOutcome options (file_of (Some bytes) t) status written
whole-file options untold bytes written status is within o = whole-outcome options bytes written status within o
whole-file options lacking bytes written status is within o = absurd is
whole-file options (holding file) bytes written status is within o =
    subst (λ (f : List ℕ). FileOutcome options (Some f) status written) is (whole-outcome options bytes written status within o)

pub run-whole : (options : Options) (name : List ℕ) (told : List ℕ → Told) (bytes : List ℕ) (status : Status) (old new : Option (List ℕ)) → IsWhole (told name) bytes
    → length bytes ≤ size_limit → Finishes options (start bytes) nothing_held old new status → Run options name told status old new
run-whole options name told bytes status old new is within (written, appended, o) =
    run-of options (Some bytes) name told status old new written appended (whole-file options (told name) bytes written status is within o)

fault-file : (options : Options) (t : Told) → FileOutcome options (file_of None t) ReadFault []
fault-file options untold = (refl, refl)
fault-file options lacking = (refl, refl)
fault-file options (holding file) = (refl, record { past = λ more. (refl, inr (inl refl)); within = λ e. absurd (cc) })

pub run-read_fault : (options : Options) (name : List ℕ) (told : List ℕ → Told) (w : Option (List ℕ)) → Run options name told ReadFault w w
run-read_fault options name told w = run-of options None name told ReadFault w w [] (appends-nothing w w refl) (fault-file options (told name))

-- a text of so many bytes
long-text : (n : ℕ) → (text : List ℕ) × (length text ≡ n)
long-text zero = ([], refl)
long-text (suc n) = let shorter = long-text n in (0 ∷ shorter.0, ap suc shorter.1)

large-file : (options : Options) (t : Told) (text : List ℕ) → size_limit < length text → IsLonger t size_limit → FileOutcome options (file_of (Some text) t) TooLarge []
large-file options untold text long is = (refl, record { past = λ more. (refl, inl refl); within = λ e. long })
large-file options lacking text long is = absurd is
large-file options (holding file) text long is = (refl, record { past = λ more. (refl, inl refl); within = λ e. is })

run-large : (options : Options) (name : List ℕ) (told : List ℕ → Told) (w : Option (List ℕ)) (text : List ℕ) → size_limit < length text
    → IsLonger (told name) size_limit → Run options name told TooLarge w w
run-large options name told w text long is =
    run-of options (Some text) name told TooLarge w w [] (appends-nothing w w refl) (large-file options (told name) text long is)

a-long-text : (limit : ℕ) → (text : List ℕ) × (limit < length text)
a-long-text limit = let text = long-text (suc limit) in (text.0, omega (arith, text.1))

pub run-too_large : (options : Options) (name : List ℕ) (told : List ℕ → Told) (w : Option (List ℕ)) → IsLonger (told name) size_limit → Run options name told TooLarge w w
run-too_large options name told w is = let text = a-long-text size_limit in run-large options name told w text.0 text.1 is

unread-file : (options : Options) (t : Told) (taken : ℕ) (left : Option (List ℕ)) → StandsBehind t taken left → FileOutcome options (file_of (Some []) t) NoMemory []
unread-file options untold taken left is = (nothing, record { past = λ more. (refl, inr (inr tt)); within = λ e. absurd (cc) })
unread-file options lacking taken left is = absurd is
unread-file options (holding file) taken left is = (nothing, record { past = λ more. (refl, inr (inr tt)); within = λ e. absurd (cc) })

pub run-no_memory : (options : Options) (name : List ℕ) (told : List ℕ → Told) (w left : Option (List ℕ)) (taken : ℕ) → StandsBehind (told name) taken left
    → Run options name told NoMemory w w
run-no_memory options name told w left taken is =
    run-of options (Some []) name told NoMemory w w [] (appends-nothing w w refl) (unread-file options (told name) taken left is)
