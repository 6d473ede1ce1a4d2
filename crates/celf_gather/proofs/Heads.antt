-- The types of variables.
use Rattle.std.proofs.Common.{◌≡◌, ◌+◌, ℕ, Some, Result, Ok, Err, IfOk, IfErr, ap, sym, ◌∙◌}
use Rattle.std.specs.List.{slice_get}
use Rattle.clf_syntax.specs.declared.tree.Mode.{Mode}
use Rattle.clf_syntax.specs.TypeTree.{PlainType}
use Rattle.clf_syntax.specs.declared.tree.Ty.{Ty}
use Rattle.clf_syntax.specs.declared.tree.TeleEntry.{TeleEntry, out-TeleEntry}
use Rattle.clf_syntax.specs.PlainTypes.{plain_ty, plain_tele_entry, plain-tele-entry}
use Rattle.clf_syntax.specs.Renaming.{ren_type, up}
use Rattle.hered_put.specs.Function.{made}
use Rattle.celf_gather.specs.declared.stop.Stop.{Stop}
use Rattle.celf_gather.specs.declared.walk.Walk.{Walk}
use Rattle.celf_gather.specs.Scene.{entry_type}
use Rattle.celf_gather.specs.Gathered.{with_type}
use Rattle.celf_gather.specs.Stops.{Gives, IsShort}
use Rattle.celf_gather.specs.Walks.{context_of, found_of}
use Rattle.celf_gather.proofs.Stopping.{short_stops}

pub variable_gives : (w : Walk) (i : ℕ) (e : TeleEntry) {by : ℕ} (r : Result Ty Stop) → slice_get (context_of w) i ≡ Some (plain_tele_entry e) → by ≡ i + 1
    → IfOk r (λ t. plain_ty t ≡ ren_type (up by) (plain_ty (out-TeleEntry e).ty)) → IfErr r IsShort
    → Gives (λ t. (plain_ty t, found_of w)) (with_type (entry_type i (slice_get (context_of w) i)) (found_of w)) r
variable_gives w i e (Ok t) p q o s = ap (λ x. with_type (entry_type i x) (found_of w)) p ∙ ap (λ (x : Mode × PlainType). with_type (Some (ren_type (up (i + 1)) x.1)) (found_of w)) (plain-tele-entry e)
    ∙ ap (λ n. made (ren_type (up n) (plain_ty (out-TeleEntry e).ty), found_of w)) (sym q) ∙ ap (λ a. made (a, found_of w)) (sym o)
variable_gives w i e (Err stop) p q o s = short_stops _ stop s
