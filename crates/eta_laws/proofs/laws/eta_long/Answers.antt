use Rattle.eta_laws.proofs.EtaTyped.{eta_is_typed, eta_renames, eta_renames_no_more}
use Rattle.eta_laws.proofs.Expanding.{typed_is_eta_long, eta_expands, eta_commutes}
use Rattle.eta_laws.proofs.Expansions.{expansion_laws}
use Rattle.eta_laws.proofs.FormsWorked.{forms_worked}
use Rattle.eta_laws.proofs.laws.eta_long.Goals as goal

pub returns-clause-typed : goal.returns-clause-typed
returns-clause-typed c = eta_is_typed

pub returns-clause-renames : goal.returns-clause-renames
returns-clause-renames c = eta_renames

pub returns-clause-counterexample : goal.returns-clause-counterexample
returns-clause-counterexample c = eta_renames_no_more

pub returns-clause-no_metavariables : goal.returns-clause-no_metavariables
returns-clause-no_metavariables c = typed_is_eta_long

pub returns-clause-expands : goal.returns-clause-expands
returns-clause-expands c = eta_expands

pub returns-clause-commutes : goal.returns-clause-commutes
returns-clause-commutes c = eta_commutes

pub returns-clause-expansion : goal.returns-clause-expansion
returns-clause-expansion c = expansion_laws

pub returns-clause-worked : goal.returns-clause-worked
returns-clause-worked c = forms_worked
