use borrow.Author.Tests.{tests}
use Rattle.std.proofs.Common.{rules}
use Rattle.celf_grammar.specs.Grammar.{index_bare, index_banged}
use Rattle.celf_cursor.proofs.Faulty.{passed, refused, taken-missed}
use Rattle.celf_objects.proofs.ObjectFaults.{index_banged-fault, index_bare-fault}
use Rattle.celf_objects.proofs.arguments.index_at.Goals as goal

pub returns-in_ok-take-in-Bang-clause-read : goal.returns-in_ok-take-in-Bang-clause-read
returns-in_ok-take-in-Bang-clause-read c = search (tests, rules, index_banged)

pub returns-in_ok-take-in-Bang-clause-fault : goal.returns-in_ok-take-in-Bang-clause-fault
returns-in_ok-take-in-Bang-clause-fault c = search (tests, rules, index_banged-fault)

pub returns-in_err-take-in-Bang-clause-fault : goal.returns-in_err-take-in-Bang-clause-fault
returns-in_err-take-in-Bang-clause-fault c = passed _ c.from_residual.result c.from_residual.ensures.1 (λ k. search (tests, rules, taken-missed))

pub returns-in_default : goal.returns-in_default
returns-in_default c = search (tests, rules, index_bare, index_bare-fault)

pub returns-in_err-take-in-Bang-clause-read : goal.returns-in_err-take-in-Bang-clause-read
returns-in_err-take-in-Bang-clause-read c = refused _ _ c.from_residual.result c.from_residual.ensures.1

pub returns-in_err-take-in-Bang-clause-cursor : goal.returns-in_err-take-in-Bang-clause-cursor
returns-in_err-take-in-Bang-clause-cursor c = refused _ _ c.from_residual.result c.from_residual.ensures.1

pub returns-in_err-take-in-Bang-clause-further : goal.returns-in_err-take-in-Bang-clause-further
returns-in_err-take-in-Bang-clause-further c = refused _ _ c.from_residual.result c.from_residual.ensures.1
