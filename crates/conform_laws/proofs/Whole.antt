-- What fits gathers; and so where nothing is gathered there is a misfit.
use Rattle.std.proofs.Common.{subst}
use Rattle.std.specs.List.{slice_get}
use Rattle.std.specs.Option.{option_map}
use Rattle.std.specs.Prelude.{List, None, Option, Some, [], refl, ◌≡◌}
use Rattle.clf_syntax.specs.Simple.{Assignment, erase}
use Rattle.clf_syntax.specs.TypeTree.{PlainType, SimpleType}
use Rattle.clf_sig.specs.Entry.{PlainSignature}
use Rattle.pattern_laws.specs.Instantiations.{Types}
use Rattle.typing_laws.specs.SimpleTyping.{families_of}
use Rattle.elaboration_laws.proofs.InFronts.{kinds, setting_formed}
use Rattle.elaboration_laws.specs.ItemSetting.{given_type, item_setting}
use Rattle.celf_conform.specs.Fits.{CoreFits}
use Rattle.conform_laws.proofs.FitsConforms.{IsKnown}
use Rattle.conform_laws.proofs.Gathered.{core_gathers}
use Rattle.conform_laws.proofs.Heads.{heads_same}
use Rattle.conform_laws.specs.Laws.{FitsGathers, GathersNothingMisfits}

of_option : (x : Option PlainType) (t : SimpleType) → option_map erase x ≡ Some t → (a : PlainType) × (x ≡ Some a) × (erase a ≡ t)
of_option None t e = absurd (cc)
of_option (Some a) t e = (a, refl, cc)

no_type : {t : SimpleType} → None ≡ Some t → ⊥
no_type e = cc

pub item_is_known : (sig : PlainSignature) (xs : List PlainType) (metas : Types) → IsKnown (item_setting sig xs metas) [] (item_setting sig xs metas).simple
item_is_known sig xs metas = record { constants = λ c t e. of_option (given_type sig xs c) t e; variables = λ i t e. absurd (no_type e) }

pub fits_gathers : FitsGathers
fits_gathers sig xs metas formed read core p = core_gathers sig xs (slice_get metas) (setting_formed sig xs (slice_get metas) formed read) (kinds sig xs (slice_get metas) formed read)
    (item_is_known sig xs (slice_get metas)) core (subst (λ (b : Assignment). CoreFits (families_of sig) b core) (heads_same sig xs metas) p)

pub gathers_nothing_misfits : GathersNothingMisfits
gathers_nothing_misfits sig xs metas formed read core none p = let (q, x) = fits_gathers sig xs metas formed read core p in none q x
