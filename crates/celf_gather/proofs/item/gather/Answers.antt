use Rattle.std.proofs.Common.{map}
use Rattle.clf_syntax.specs.PlainTypes.{plain_ty}
use Rattle.clf_sig.specs.Core.{plain_core}
use Rattle.clf_sig.specs.Signature.{plain_signature}
use Rattle.store_laws.specs.Additions.{meta_types}
use Rattle.metavars.specs.Stored.{constants, additions}
use Rattle.celf_gather.proofs.CompleteItems.{core_ungathered}
use Rattle.celf_gather.proofs.Stopping.{misfit_stops}
use Rattle.celf_gather.proofs.SoundItems.{core_gathered}
use Rattle.celf_gather.proofs.item.gather.Goals as goal

pub returns-in-Ok-clause-gathered : goal.returns-in-Ok-clause-gathered
returns-in-Ok-clause-gathered c =
    core_gathered (plain_signature c.args.sig.now) (map plain_ty c.args.variables.now) (constants c.args.store.now) (meta_types (additions c.args.store.now)) (plain_core c.args.core.now) _ _
    c.requires.constants c.new.ensures c.in-Ok.ensures.outcome

pub returns-in-Err-Misfit-clause-refused : goal.returns-in-Err-Misfit-clause-refused
returns-in-Err-Misfit-clause-refused c = λ e.
    core_ungathered (plain_signature c.args.sig.now) (map plain_ty c.args.variables.now) (constants c.args.store.now) (meta_types (additions c.args.store.now)) (plain_core c.args.core.now) _
    c.requires.constants (misfit_stops _ c.in-Err-Misfit.field-0-is c.in-Err-Misfit.ensures.outcome)
