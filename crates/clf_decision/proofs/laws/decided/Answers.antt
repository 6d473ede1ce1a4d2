use Rattle.clf_decision.proofs.Decisions.{objects_are_decided, neutrals_are_decided, expressions_are_decided, types_are_decided, kinds_are_decided, entries_are_decided}
use Rattle.clf_decision.proofs.Hereditary.{are_puts}
use Rattle.clf_decision.specs.Hereditary.{hereditary}
use Rattle.clf_decision.proofs.laws.decided.Goals as goal

pub returns-clause-objects : goal.returns-clause-objects
returns-clause-objects c = objects_are_decided hereditary are_puts

pub returns-clause-neutrals : goal.returns-clause-neutrals
returns-clause-neutrals c = neutrals_are_decided hereditary are_puts

pub returns-clause-expressions : goal.returns-clause-expressions
returns-clause-expressions c = expressions_are_decided hereditary are_puts

pub returns-clause-types : goal.returns-clause-types
returns-clause-types c = types_are_decided hereditary are_puts

pub returns-clause-kinds : goal.returns-clause-kinds
returns-clause-kinds c = kinds_are_decided hereditary are_puts

pub returns-clause-entries : goal.returns-clause-entries
returns-clause-entries c = entries_are_decided hereditary are_puts
