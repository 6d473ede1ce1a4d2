-- The lines of the replies that a task may have read back.
use Rattle.std.proofs.Common.{ℕ, ◌≡◌, ◌<◌, ◌^◌, refl, sym, ap, subst, Some, List, [], ◌∷◌, ◌++◌, length}
use Rattle.std.specs.Option.{option_map}
use Rattle.clf_sig.specs.Entry.{Declaration, PlainEntry, PlainSignature}
use Rattle.clf_sig.specs.Core.{PlainCore, declares, queries, traces, equates, checks}
use Rattle.clf_rules.specs.WellFormed.{WellFormedSignature}
use Rattle.clf_printer.specs.Depth.{class_depth}
use Rattle.clf_printer.specs.Metas.{appearing_class}
use Rattle.celf_surface.specs.Surface.{WrittenItem}
use Rattle.celf_sugar.specs.PlainTree.{DesugaredBody}
use Rattle.celf_sugar.specs.Sugar.{desugared}
use Rattle.celf_explicit.specs.Explicit.{explicit}
use Rattle.celf_meaning.specs.ReadingBack.{ReadsAs}
use Rattle.celf_reading.proofs.Named.{class-formed-printable}
use Rattle.celf_reading.proofs.LinesBack.{entry_reads_back, check_lines_read_back}
use Rattle.celf_replies.specs.Reply.{PlainReply, entry, checked, equal, different, refused}
use Rattle.celf_replies.specs.Text.{IsNumbered}
use Rattle.celf_reconstruct.specs.Reconstructed.{Reconstructs, found_check, found_declaration}
use Rattle.celf_run.specs.declared.options.Options.{Options}
use Rattle.celf_run.specs.Source.{Task}
use Rattle.celf_run.specs.Allowed.{Held, HasCore, is_explicit, is_found, Fits, accepted, typed, same, differing, PlainAllowed, barred, declined, answered, Allowed, at_fault, sugar_fault, plainly}
use Rattle.celf_run.specs.Transcript.{ReadsBack}
use Rattle.celf_run.proofs.Cores.{declared-small}
use Rattle.celf_run.proofs.Lines.{get-behind, entry-line}

-- what is said of the new entry
numbered-entry : (sig : PlainSignature) (name : List ℕ) (e : PlainEntry) → IsNumbered (sig ++ (name, e) ∷ []) (entry (length sig)) → class_depth e.class < 2 ^ 64
numbered-entry sig name e n = n e (ap (option_map (λ (d : Declaration). d.1)) (get-behind sig (name, e)))

-- A declared entry has fewer than 2 ^ 32 implicit arguments.
abbrev IsSmall : PlainCore → Type 0
IsSmall (declares name e) = e.implicit < 2 ^ 32
IsSmall (queries a) = Unit {0}
IsSmall (traces t) = Unit {0}
IsSmall (equates n o a) = Unit {0}
IsSmall (checks n a) = Unit {0}

explicit-small : (sig : PlainSignature) (item : WrittenItem) (core : PlainCore) → explicit sig (desugared item) ≡ Some core → IsSmall core
explicit-small sig item (declares name e) h = declared-small sig item name e h
explicit-small sig item (queries a) h = tt
explicit-small sig item (traces t) h = tt
explicit-small sig item (equates n o a) h = tt
explicit-small sig item (checks n a) h = tt

found-small : (sig : PlainSignature) (body : DesugaredBody) (core : PlainCore) → Reconstructs sig body core → IsSmall core
found-small sig body (declares name e) (found_check c f n) = absurd c
found-small sig body (declares name e) (found_declaration f n b d) = d.counted
found-small sig body (queries a) r = tt
found-small sig body (traces t) r = tt
found-small sig body (equates n o a) r = tt
found-small sig body (checks n a) r = tt

core-small : (sig : PlainSignature) (item : WrittenItem) (core : PlainCore) → HasCore sig (desugared item) core → IsSmall core
core-small sig item core (is_explicit h) = explicit-small sig item core h
core-small sig item core (is_found hidden r) = found-small sig (desugared item).body core r

fits-reads_back : (options : Options) (held new : Held) (item : WrittenItem) (core : PlainCore) (reply : PlainReply) → WellFormedSignature held.signature
    → IsSmall core → Fits options held core reply new → IsNumbered new.signature reply → ReadsBack options held reply new
fits-reads_back options held new item (declares name e) (entry k) w h (accepted may) n =
    let sig = held.signature in
    let small = numbered-entry sig name e n in
    let back = entry_reads_back sig (appearing_class [] e.class) name e w may.0 may.2 h small in
    (name, e, refl, subst (λ (l : List ℕ). ReadsAs sig l (declares name e)) (sym (entry-line sig name e (class-formed-printable sig w e.class small may.2.0))) back)
fits-reads_back options held new item (checks o a) (checked o' a') w h (typed t) n = check_lines_read_back held.signature o a w t.formed t.has n.0 n.1
fits-reads_back options held new item (equates o p a) reply w h (same t u j) n = tt
fits-reads_back options held new item (equates o p a) reply w h (differing t u j) n = tt
fits-reads_back options held new item (declares name e) (checked o a) w h x n = elim x [ ]
fits-reads_back options held new item (declares name e) (refused r) w h x n = elim x [ ]
fits-reads_back options held new item (declares name e) equal w h x n = elim x [ ]
fits-reads_back options held new item (declares name e) different w h x n = elim x [ ]
fits-reads_back options held new item (queries a) reply w h x n = elim x [ ]
fits-reads_back options held new item (traces t) reply w h x n = elim x [ ]
fits-reads_back options held new item (checks o a) (entry k) w h x n = elim x [ ]
fits-reads_back options held new item (checks o a) (refused r) w h x n = elim x [ ]
fits-reads_back options held new item (checks o a) equal w h x n = elim x [ ]
fits-reads_back options held new item (checks o a) different w h x n = elim x [ ]

plain-reads_back : (options : Options) (held new : Held) (item : WrittenItem) (reply : PlainReply) → WellFormedSignature held.signature
    → PlainAllowed options held (desugared item) reply new → IsNumbered new.signature reply → ReadsBack options held reply new
plain-reads_back options held new item reply w (barred x) n = tt
plain-reads_back options held new item reply w (declined p x) n = tt
plain-reads_back options held new item reply w (answered {core = core} p c f) n = fits-reads_back options held new item core reply w (core-small held.signature item core c) f n

-- Over a well-formed signature the lines of an allowed reply read back, where the numbers of its variables are written whole.
pub allowed-reads_back : (options : Options) (held new : Held) (task : Task) (reply : PlainReply) → WellFormedSignature held.signature
    → Allowed options held task reply new → IsNumbered new.signature reply → ReadsBack options held reply new
allowed-reads_back options held new task reply w at_fault n = tt
allowed-reads_back options held new task reply w (sugar_fault x) n = tt
allowed-reads_back options held new task reply w (plainly {item = item} clean p) n = plain-reads_back options held new item reply w p n
