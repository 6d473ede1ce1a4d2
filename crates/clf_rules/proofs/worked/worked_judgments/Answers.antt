use Rattle.clf_rules.proofs.FormedExamples.{type_examples, signature_examples}
use Rattle.clf_rules.proofs.TypedExamples.{head_examples, object_examples, neutral_examples, expression_examples, tuple_examples, type_is_presupposed}
use Rattle.clf_rules.proofs.worked.worked_judgments.Goals as goal

pub returns-clause-heads : goal.returns-clause-heads
returns-clause-heads c = head_examples

pub returns-clause-objects : goal.returns-clause-objects
returns-clause-objects c = object_examples

pub returns-clause-neutrals : goal.returns-clause-neutrals
returns-clause-neutrals c = neutral_examples

pub returns-clause-expressions : goal.returns-clause-expressions
returns-clause-expressions c = expression_examples

pub returns-clause-tuples : goal.returns-clause-tuples
returns-clause-tuples c = tuple_examples

pub returns-clause-presupposed : goal.returns-clause-presupposed
returns-clause-presupposed c = type_is_presupposed

pub returns-clause-types : goal.returns-clause-types
returns-clause-types c = type_examples

pub returns-clause-signatures : goal.returns-clause-signatures
returns-clause-signatures c = signature_examples
