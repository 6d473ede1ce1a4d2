use borrow.Author.Tests.{tests}
use Rattle.std.proofs.Common.{rules}
use Rattle.std.proofs.lemmas.List.{map-append}
use Rattle.celf_lexer.specs.declared.token.TokenKind.TheVariants as token
use Rattle.celf_surface.specs.Surface.{pattern-One, pattern-List}
use Rattle.celf_cursor.specs.Faults.{fault_memory}
use Rattle.celf_cursor.proofs.Faulty.{passed, refused, close-missed}
use Rattle.celf_objects.proofs.Reading.{pattern_one-read, pattern_list-read, patterns_first-read, patterns_more-read}
use Rattle.celf_objects.proofs.PatternFaults.{pattern_one-fault, pattern_opening-fault, pattern_inside-fault, pattern_closing-fault, patterns_next-fault}
use Rattle.celf_objects.proofs.pattern.+patterns.Goals as goal

pub pattern_at-returns-in_ok-behind-in-Number-clause-read : goal.pattern_at-returns-in_ok-behind-in-Number-clause-read
pattern_at-returns-in_ok-behind-in-Number-clause-read t c = search (tests, rules, pattern_one-read, pattern-One)

pub pattern_at-returns-in_err-behind-in-Number-clause-fault : goal.pattern_at-returns-in_err-behind-in-Number-clause-fault
pattern_at-returns-in_err-behind-in-Number-clause-fault t c =
    passed _ c.from_residual.result c.from_residual.ensures.1 (λ k. search (tests, rules, pattern_one-fault))

pub pattern_list_at-returns-clause-read : goal.pattern_list_at-returns-clause-read
pattern_list_at-returns-clause-read t c = search (tests, rules, pattern_list-read, pattern-List)

pub pattern_list_at-returns-in_err-opened-clause-fault : goal.pattern_list_at-returns-in_err-opened-clause-fault
pattern_list_at-returns-in_err-opened-clause-fault t c =
    passed _ c.from_residual.result c.from_residual.ensures.1 (λ k. pattern_opening-fault _ _ k _ c.requires.cursor c.requires.kind c.in_err-opened.ensures.missed)

pub pattern_list_at-returns-in_err-patterns-clause-fault : goal.pattern_list_at-returns-in_err-patterns-clause-fault
pattern_list_at-returns-in_err-patterns-clause-fault t c =
    passed _ c.from_residual-in_err-patterns.result c.from_residual-in_err-patterns.ensures.1 (λ k. pattern_inside-fault c.in_ok-opened.ensures.opened c.in_err-patterns.ensures.fault)

pub pattern_list_at-returns-in_err-behind-clause-fault : goal.pattern_list_at-returns-in_err-behind-clause-fault
pattern_list_at-returns-in_err-behind-clause-fault t c =
    passed _ c.from_residual-in_err-behind.result c.from_residual-in_err-behind.ensures.1 (λ k. pattern_closing-fault c.in_ok-opened.ensures.opened c.in_ok-patterns.ensures.read c.in_ok-patterns.ensures.ends
    (close-missed _ _ token.RightBracket _ _ _ c.in_ok-patterns.ensures.cursor c.in_err-behind.ensures.missed))

pub patterns_at-loop-alloc-init : goal.patterns_at-loop-alloc-init
patterns_at-loop-alloc-init t c = search (tests, rules, patterns_first-read, map-append)

pub patterns_at-loop-alloc-preserved : goal.patterns_at-loop-alloc-preserved
patterns_at-loop-alloc-preserved t c = search (tests, rules, patterns_more-read, map-append)

pub patterns_at-returns-in_err-push-clause-fault : goal.patterns_at-returns-in_err-push-clause-fault
patterns_at-returns-in_err-push-clause-fault t c =
    passed _ c.from_residual-in_err-push.result c.from_residual-in_err-push.ensures.1 (λ k. fault_memory)

pub patterns_at-returns-in_err-push-2-clause-fault : goal.patterns_at-returns-in_err-push-2-clause-fault
patterns_at-returns-in_err-push-2-clause-fault t c =
    passed _ c.from_residual-in_err-push-2.result c.from_residual-in_err-push-2.ensures.1 (λ k. fault_memory)

pub patterns_at-returns-in_err-pattern-clause-fault : goal.patterns_at-returns-in_err-pattern-clause-fault
patterns_at-returns-in_err-pattern-clause-fault t c = search (tests, rules, patterns_next-fault)

pub pattern_at-returns-in_err-behind-in-Number-clause-read : goal.pattern_at-returns-in_err-behind-in-Number-clause-read
pattern_at-returns-in_err-behind-in-Number-clause-read t c = refused _ _ c.from_residual.result c.from_residual.ensures.1

pub pattern_at-returns-in_err-behind-in-Number-clause-cursor : goal.pattern_at-returns-in_err-behind-in-Number-clause-cursor
pattern_at-returns-in_err-behind-in-Number-clause-cursor t c = refused _ _ c.from_residual.result c.from_residual.ensures.1

pub pattern_at-returns-in_err-behind-in-Number-clause-further : goal.pattern_at-returns-in_err-behind-in-Number-clause-further
pattern_at-returns-in_err-behind-in-Number-clause-further t c = refused _ _ c.from_residual.result c.from_residual.ensures.1

pub pattern_list_at-returns-in_err-opened-clause-read : goal.pattern_list_at-returns-in_err-opened-clause-read
pattern_list_at-returns-in_err-opened-clause-read t c = refused _ _ c.from_residual.result c.from_residual.ensures.1

pub pattern_list_at-returns-in_err-opened-clause-cursor : goal.pattern_list_at-returns-in_err-opened-clause-cursor
pattern_list_at-returns-in_err-opened-clause-cursor t c = refused _ _ c.from_residual.result c.from_residual.ensures.1

pub pattern_list_at-returns-in_err-opened-clause-further : goal.pattern_list_at-returns-in_err-opened-clause-further
pattern_list_at-returns-in_err-opened-clause-further t c = refused _ _ c.from_residual.result c.from_residual.ensures.1

pub pattern_list_at-returns-in_err-patterns-clause-read : goal.pattern_list_at-returns-in_err-patterns-clause-read
pattern_list_at-returns-in_err-patterns-clause-read t c = refused _ _ c.from_residual-in_err-patterns.result c.from_residual-in_err-patterns.ensures.1

pub pattern_list_at-returns-in_err-patterns-clause-cursor : goal.pattern_list_at-returns-in_err-patterns-clause-cursor
pattern_list_at-returns-in_err-patterns-clause-cursor t c = refused _ _ c.from_residual-in_err-patterns.result c.from_residual-in_err-patterns.ensures.1

pub pattern_list_at-returns-in_err-patterns-clause-further : goal.pattern_list_at-returns-in_err-patterns-clause-further
pattern_list_at-returns-in_err-patterns-clause-further t c = refused _ _ c.from_residual-in_err-patterns.result c.from_residual-in_err-patterns.ensures.1

pub pattern_list_at-returns-in_err-behind-clause-read : goal.pattern_list_at-returns-in_err-behind-clause-read
pattern_list_at-returns-in_err-behind-clause-read t c = refused _ _ c.from_residual-in_err-behind.result c.from_residual-in_err-behind.ensures.1

pub pattern_list_at-returns-in_err-behind-clause-cursor : goal.pattern_list_at-returns-in_err-behind-clause-cursor
pattern_list_at-returns-in_err-behind-clause-cursor t c = refused _ _ c.from_residual-in_err-behind.result c.from_residual-in_err-behind.ensures.1

pub pattern_list_at-returns-in_err-behind-clause-further : goal.pattern_list_at-returns-in_err-behind-clause-further
pattern_list_at-returns-in_err-behind-clause-further t c = refused _ _ c.from_residual-in_err-behind.result c.from_residual-in_err-behind.ensures.1

pub patterns_at-returns-in_err-first-clause-read : goal.patterns_at-returns-in_err-first-clause-read
patterns_at-returns-in_err-first-clause-read t c = refused _ _ c.from_residual.result c.from_residual.ensures.1

pub patterns_at-returns-in_err-first-clause-ends : goal.patterns_at-returns-in_err-first-clause-ends
patterns_at-returns-in_err-first-clause-ends t c = refused _ _ c.from_residual.result c.from_residual.ensures.1

pub patterns_at-returns-in_err-first-clause-cursor : goal.patterns_at-returns-in_err-first-clause-cursor
patterns_at-returns-in_err-first-clause-cursor t c = refused _ _ c.from_residual.result c.from_residual.ensures.1

pub patterns_at-returns-in_err-first-clause-further : goal.patterns_at-returns-in_err-first-clause-further
patterns_at-returns-in_err-first-clause-further t c = refused _ _ c.from_residual.result c.from_residual.ensures.1

pub patterns_at-returns-in_err-push-clause-read : goal.patterns_at-returns-in_err-push-clause-read
patterns_at-returns-in_err-push-clause-read t c = refused _ _ c.from_residual-in_err-push.result c.from_residual-in_err-push.ensures.1

pub patterns_at-returns-in_err-push-clause-ends : goal.patterns_at-returns-in_err-push-clause-ends
patterns_at-returns-in_err-push-clause-ends t c = refused _ _ c.from_residual-in_err-push.result c.from_residual-in_err-push.ensures.1

pub patterns_at-returns-in_err-push-clause-cursor : goal.patterns_at-returns-in_err-push-clause-cursor
patterns_at-returns-in_err-push-clause-cursor t c = refused _ _ c.from_residual-in_err-push.result c.from_residual-in_err-push.ensures.1

pub patterns_at-returns-in_err-push-clause-further : goal.patterns_at-returns-in_err-push-clause-further
patterns_at-returns-in_err-push-clause-further t c = refused _ _ c.from_residual-in_err-push.result c.from_residual-in_err-push.ensures.1

pub patterns_at-returns-in_err-next-clause-read : goal.patterns_at-returns-in_err-next-clause-read
patterns_at-returns-in_err-next-clause-read t c = refused _ _ c.from_residual-in_err-next.result c.from_residual-in_err-next.ensures.1

pub patterns_at-returns-in_err-next-clause-ends : goal.patterns_at-returns-in_err-next-clause-ends
patterns_at-returns-in_err-next-clause-ends t c = refused _ _ c.from_residual-in_err-next.result c.from_residual-in_err-next.ensures.1

pub patterns_at-returns-in_err-next-clause-cursor : goal.patterns_at-returns-in_err-next-clause-cursor
patterns_at-returns-in_err-next-clause-cursor t c = refused _ _ c.from_residual-in_err-next.result c.from_residual-in_err-next.ensures.1

pub patterns_at-returns-in_err-next-clause-further : goal.patterns_at-returns-in_err-next-clause-further
patterns_at-returns-in_err-next-clause-further t c = refused _ _ c.from_residual-in_err-next.result c.from_residual-in_err-next.ensures.1

pub patterns_at-returns-in_err-pattern-clause-read : goal.patterns_at-returns-in_err-pattern-clause-read
patterns_at-returns-in_err-pattern-clause-read t c = refused _ _ c.from_residual-in_err-pattern.result c.from_residual-in_err-pattern.ensures.1

pub patterns_at-returns-in_err-pattern-clause-ends : goal.patterns_at-returns-in_err-pattern-clause-ends
patterns_at-returns-in_err-pattern-clause-ends t c = refused _ _ c.from_residual-in_err-pattern.result c.from_residual-in_err-pattern.ensures.1

pub patterns_at-returns-in_err-pattern-clause-cursor : goal.patterns_at-returns-in_err-pattern-clause-cursor
patterns_at-returns-in_err-pattern-clause-cursor t c = refused _ _ c.from_residual-in_err-pattern.result c.from_residual-in_err-pattern.ensures.1

pub patterns_at-returns-in_err-pattern-clause-further : goal.patterns_at-returns-in_err-pattern-clause-further
patterns_at-returns-in_err-pattern-clause-further t c = refused _ _ c.from_residual-in_err-pattern.result c.from_residual-in_err-pattern.ensures.1

pub patterns_at-returns-in_err-push-2-clause-read : goal.patterns_at-returns-in_err-push-2-clause-read
patterns_at-returns-in_err-push-2-clause-read t c = refused _ _ c.from_residual-in_err-push-2.result c.from_residual-in_err-push-2.ensures.1

pub patterns_at-returns-in_err-push-2-clause-ends : goal.patterns_at-returns-in_err-push-2-clause-ends
patterns_at-returns-in_err-push-2-clause-ends t c = refused _ _ c.from_residual-in_err-push-2.result c.from_residual-in_err-push-2.ensures.1

pub patterns_at-returns-in_err-push-2-clause-cursor : goal.patterns_at-returns-in_err-push-2-clause-cursor
patterns_at-returns-in_err-push-2-clause-cursor t c = refused _ _ c.from_residual-in_err-push-2.result c.from_residual-in_err-push-2.ensures.1

pub patterns_at-returns-in_err-push-2-clause-further : goal.patterns_at-returns-in_err-push-2-clause-further
patterns_at-returns-in_err-push-2-clause-further t c = refused _ _ c.from_residual-in_err-push-2.result c.from_residual-in_err-push-2.ensures.1
