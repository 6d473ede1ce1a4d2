use borrow.Author.Tests.{tests}
use Rattle.std.proofs.Common.{rules}
use Rattle.std.proofs.lemmas.List.{map-append}
use Rattle.celf_cursor.specs.Faults.{fault_memory}
use Rattle.celf_cursor.proofs.Faulty.{passed, refused}
use Rattle.celf_objects.proofs.Reading.{indices_none-read, indices_more-read}
use Rattle.celf_objects.proofs.ObjectFaults.{indices-fault}
use Rattle.celf_objects.proofs.arguments.indices_at.Goals as goal

pub loop-alloc-init : goal.loop-alloc-init
loop-alloc-init c = search (tests, rules, indices_none-read)

pub loop-alloc-preserved : goal.loop-alloc-preserved
loop-alloc-preserved c = search (tests, rules, indices_more-read, map-append)

pub returns-in_err-index-clause-fault : goal.returns-in_err-index-clause-fault
returns-in_err-index-clause-fault c = passed _ c.from_residual.result c.from_residual.ensures.1 (λ k. search (tests, rules, indices-fault))

pub returns-in_err-push-clause-fault : goal.returns-in_err-push-clause-fault
returns-in_err-push-clause-fault c = passed _ c.from_residual-in_err-push.result c.from_residual-in_err-push.ensures.1 (λ k. fault_memory)

pub returns-in_err-index-clause-read : goal.returns-in_err-index-clause-read
returns-in_err-index-clause-read c = refused _ _ c.from_residual.result c.from_residual.ensures.1

pub returns-in_err-index-clause-ends : goal.returns-in_err-index-clause-ends
returns-in_err-index-clause-ends c = refused _ _ c.from_residual.result c.from_residual.ensures.1

pub returns-in_err-index-clause-cursor : goal.returns-in_err-index-clause-cursor
returns-in_err-index-clause-cursor c = refused _ _ c.from_residual.result c.from_residual.ensures.1

pub returns-in_err-index-clause-further : goal.returns-in_err-index-clause-further
returns-in_err-index-clause-further c = refused _ _ c.from_residual.result c.from_residual.ensures.1

pub returns-in_err-push-clause-read : goal.returns-in_err-push-clause-read
returns-in_err-push-clause-read c = refused _ _ c.from_residual-in_err-push.result c.from_residual-in_err-push.ensures.1

pub returns-in_err-push-clause-ends : goal.returns-in_err-push-clause-ends
returns-in_err-push-clause-ends c = refused _ _ c.from_residual-in_err-push.result c.from_residual-in_err-push.ensures.1

pub returns-in_err-push-clause-cursor : goal.returns-in_err-push-clause-cursor
returns-in_err-push-clause-cursor c = refused _ _ c.from_residual-in_err-push.result c.from_residual-in_err-push.ensures.1

pub returns-in_err-push-clause-further : goal.returns-in_err-push-clause-further
returns-in_err-push-clause-further c = refused _ _ c.from_residual-in_err-push.result c.from_residual-in_err-push.ensures.1
