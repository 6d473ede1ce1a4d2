use Rattle.typing_laws.proofs.Erased.{typed_is_simply_typed}
use Rattle.typing_laws.proofs.FormedTypes.{well_formed_is_simply_formed, synthesized_is_simply_formed}
use Rattle.typing_laws.proofs.laws.simple_typing.Goals as goal

pub returns-clause-typed : goal.returns-clause-typed
returns-clause-typed c = typed_is_simply_typed

pub returns-clause-formed : goal.returns-clause-formed
returns-clause-formed c = well_formed_is_simply_formed

pub returns-clause-synthesized : goal.returns-clause-synthesized
returns-clause-synthesized c = synthesized_is_simply_formed
