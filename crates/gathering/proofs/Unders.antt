-- An environment past binders.
use Rattle.std.specs.Prelude.{ℕ}
use Rattle.clf_syntax.specs.Renaming.{ren_telescope, ren_type, up}
use Rattle.clf_syntax.specs.TypeTree.{PlainTelescope, PlainType}
use Rattle.hered_subst.proofs.Types.{renamed_telescope, renamed_type}
use Rattle.hered_subst.specs.Substitution.{Environment, SubstitutedTelescope, SubstitutedType, under}
use Rattle.subst_laws.proofs.Before.{fits_up}

pub past_type : (n : ℕ) (s : Environment) {a b : PlainType} → SubstitutedType s a b → SubstitutedType (under n s) (ren_type (up n) a) (ren_type (up n) b)
past_type n s p = renamed_type (up n) (up n) (under n s) (fits_up n s) p

pub past_telescope : (n : ℕ) (s : Environment) {a b : PlainTelescope} → SubstitutedTelescope s a b → SubstitutedTelescope (under n s) (ren_telescope (up n) a) (ren_telescope (up n) b)
past_telescope n s p = renamed_telescope (up n) (up n) (under n s) (fits_up n s) p
