-- A shift from variable 0 on, as what contracts say of it.
use Rattle.std.proofs.Common.{◌≡◌, ℕ, ap, ◌∙◌}
use Rattle.clf_syntax.specs.TypeTree.{PlainType, PlainTelescope}
use Rattle.clf_syntax.specs.Renaming.{ren_type, ren_telescope, up}
use Rattle.clf_syntax.specs.Shift.{shift_type, shift_telescope}
use Rattle.clf_syntax.proofs.ShiftLaws.{shift-ren_type, shift-ren_telescope}
use Rattle.typing_laws.proofs.ContextLaws.{raise_all}

pub type_raised : (by : ℕ) (a : PlainType) → shift_type by 0 a ≡ ren_type (up by) a
type_raised by a = shift-ren_type by 0 a ∙ ap (λ r. ren_type r a) (raise_all by)

pub telescope_raised : (by : ℕ) (s : PlainTelescope) → shift_telescope by 0 s ≡ ren_telescope (up by) s
telescope_raised by s = shift-ren_telescope by 0 s ∙ ap (λ r. ren_telescope r s) (raise_all by)

pub ruleset raised_laws = (type_raised, telescope_raised)
