use Rattle.subst_laws.proofs.Environs.{under_binders, under_context, under_renames, under_goes_over, over_keeps}
use Rattle.subst_laws.proofs.Results.{single_goes_over}
use Rattle.subst_laws.proofs.Variables.{inserted_under}
use Rattle.subst_laws.proofs.laws.under_binders.Goals as goal

pub returns-clause-binders : goal.returns-clause-binders
returns-clause-binders c = under_binders

pub returns-clause-context : goal.returns-clause-context
returns-clause-context c = under_context

pub returns-clause-renamed : goal.returns-clause-renamed
returns-clause-renamed c = under_renames

pub returns-clause-over : goal.returns-clause-over
returns-clause-over c = under_goes_over

pub returns-clause-one_over : goal.returns-clause-one_over
returns-clause-one_over c = single_goes_over

pub returns-clause-typed_over : goal.returns-clause-typed_over
returns-clause-typed_over c = over_keeps

pub returns-clause-inserted : goal.returns-clause-inserted
returns-clause-inserted c = inserted_under
