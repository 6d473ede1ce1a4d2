use borrow.Author.Tests.{tests}
use Rattle.std.proofs.Common.{rules, refl, ap}
use Rattle.std.proofs.lemmas.List.{map-append}
use Rattle.celf_surface.specs.Surface.{WrittenSteps, WrittenTuple, argument-of, step-of, tuple-One, tuple-List, tuple-Marked, tuple-Bare}
use Rattle.celf_lexer.specs.declared.token.TokenKind.TheVariants as token
use Rattle.celf_cursor.specs.Faults.{fault_memory}
use Rattle.celf_cursor.proofs.Faulty.{passed, refused, expect-missed, close-missed, taken-missed}
use Rattle.celf_grammar.specs.Grammar.{obj_app, atom_group}
use Rattle.celf_objects.proofs.PatternFaults.{memory-fault}
use Rattle.celf_objects.proofs.Reading.{expression-read, lambda-read, application-read, arguments_none-read, arguments_more-read, pair-read, braces-read, first-read, second-read, steps_none-read, steps_more-read, step-read, tuple_one-read, tuple_list-read, persistent-read, affine-read, bare-read, tuples_first-read, tuples_more-read}
use Rattle.celf_objects.proofs.ObjectFaults.{argument_mark-fault, argument_atom-fault, atom-fault, step-fault, applied-fault, tuple_one-fault, tuples_next-fault, lambda_opening-fault, lambda_mark-fault, lambda_binder-fault, lambda_stop-fault, lambda_body-fault, head-fault, called-fault, atom_opening-fault, pair_left-fault, pair_comma-fault, pair_right-fault, pair_closing-fault, braces_inside-fault, braces_closing-fault, group_inside-fault, group_closing-fault, first-fault, second-fault, result-fault, tuple_opening-fault, tuple_inside-fault, tuple_closing-fault, persistent-fault, affine-fault, bare-fault, let-fault, let_opening-fault, let_pattern-fault, let_closing-fault, let_equals-fault, let_right-fault, let_in-fault}
use Rattle.celf_objects.proofs.+objects.Goals as goal

pub expression::expression_at-returns-clause-read : goal.expression::expression_at-returns-clause-read
expression::expression_at-returns-clause-read t c =
    expression-read c.in_ok-steps.ensures.read c.in_ok-steps.ensures.ends c.in_ok-tuple.ensures.read
    (ap (λ (e : WrittenSteps × WrittenTuple). e.0) c.expression.ensures) (ap (λ (e : WrittenSteps × WrittenTuple). e.1) c.expression.ensures)

pub arguments::arguments_at-loop-alloc-init : goal.arguments::arguments_at-loop-alloc-init
arguments::arguments_at-loop-alloc-init t c = search (tests, rules, arguments_none-read)

pub arguments::arguments_at-loop-alloc-preserved : goal.arguments::arguments_at-loop-alloc-preserved
arguments::arguments_at-loop-alloc-preserved t c = search (tests, rules, arguments_more-read, map-append, argument-of)

pub arguments::arguments_at-returns-in_err-mode-clause-fault : goal.arguments::arguments_at-returns-in_err-mode-clause-fault
arguments::arguments_at-returns-in_err-mode-clause-fault t c = search (tests, rules, argument_mark-fault)

pub arguments::arguments_at-returns-in_err-obj-clause-fault : goal.arguments::arguments_at-returns-in_err-obj-clause-fault
arguments::arguments_at-returns-in_err-obj-clause-fault t c = search (tests, rules, argument_atom-fault)

pub arguments::arguments_at-returns-in_err-push-clause-fault : goal.arguments::arguments_at-returns-in_err-push-clause-fault
arguments::arguments_at-returns-in_err-push-clause-fault t c = search (tests, rules, memory-fault)

pub atom::atom_at-returns-in_default : goal.atom::atom_at-returns-in_default
atom::atom_at-returns-in_default t c = search (tests, rules, atom-fault)

pub atom::braces_at-returns-clause-read : goal.atom::braces_at-returns-clause-read
atom::braces_at-returns-clause-read t c = search (tests, rules, braces-read)

pub atom::first_at-returns-clause-read : goal.atom::first_at-returns-clause-read
atom::first_at-returns-clause-read t c = search (tests, rules, first-read)

pub atom::group_at-returns-in-Ok-clause-read : goal.atom::group_at-returns-in-Ok-clause-read
atom::group_at-returns-in-Ok-clause-read t c = atom_group c.in_ok-opened.ensures.opened c.in_ok-inside.ensures.read c.in-Ok.ensures.closed

pub atom::pair_at-returns-clause-read : goal.atom::pair_at-returns-clause-read
atom::pair_at-returns-clause-read t c = search (tests, rules, pair-read)

pub atom::second_at-returns-clause-read : goal.atom::second_at-returns-clause-read
atom::second_at-returns-clause-read t c = search (tests, rules, second-read)

pub expression::step_at-returns-in-Ok-clause-read : goal.expression::step_at-returns-in-Ok-clause-read
expression::step_at-returns-in-Ok-clause-read t c = search (tests, rules, step-read, step-of)

pub expression::steps_at-loop-alloc-init : goal.expression::steps_at-loop-alloc-init
expression::steps_at-loop-alloc-init t c = search (tests, rules, steps_none-read)

pub expression::steps_at-loop-alloc-preserved : goal.expression::steps_at-loop-alloc-preserved
expression::steps_at-loop-alloc-preserved t c = search (tests, rules, steps_more-read, map-append)

pub expression::steps_at-returns-in_err-push-clause-fault : goal.expression::steps_at-returns-in_err-push-clause-fault
expression::steps_at-returns-in_err-push-clause-fault t c = search (tests, rules, memory-fault)

pub expression::steps_at-returns-in_err-step-clause-fault : goal.expression::steps_at-returns-in_err-step-clause-fault
expression::steps_at-returns-in_err-step-clause-fault t c = search (tests, rules, step-fault)

pub object::application_at-returns-in_ok-applied-in-Ok-clause-read : goal.object::application_at-returns-in_ok-applied-in-Ok-clause-read
object::application_at-returns-in_ok-applied-in-Ok-clause-read t c = application-read c.in_ok-head.ensures.read c.in-Ok.ensures.read c.in-Ok.ensures.ends c.span_from-span.ensures c.in_ok-applied-in-Ok.ensures

pub object::applied_object_at-returns-clause-fault : goal.object::applied_object_at-returns-clause-fault
object::applied_object_at-returns-clause-fault t c = search (tests, rules, applied-fault)

pub object::applied_object_at-returns-clause-read : goal.object::applied_object_at-returns-clause-read
object::applied_object_at-returns-clause-read t c = search (tests, rules, obj_app)

pub object::lambda_at-returns-clause-read : goal.object::lambda_at-returns-clause-read
object::lambda_at-returns-clause-read t c = search (tests, rules, lambda-read)

pub tuple::affine_at-returns-clause-read : goal.tuple::affine_at-returns-clause-read
tuple::affine_at-returns-clause-read t c = search (tests, rules, affine-read, tuple-Marked)

pub tuple::bare_at-returns-clause-read : goal.tuple::bare_at-returns-clause-read
tuple::bare_at-returns-clause-read t c = search (tests, rules, bare-read, tuple-Bare)

pub tuple::persistent_at-returns-clause-read : goal.tuple::persistent_at-returns-clause-read
tuple::persistent_at-returns-clause-read t c = search (tests, rules, persistent-read, tuple-Marked)

pub tuple::tuple_at-returns-in_err-behind-in-Number-clause-fault : goal.tuple::tuple_at-returns-in_err-behind-in-Number-clause-fault
tuple::tuple_at-returns-in_err-behind-in-Number-clause-fault t c = search (tests, rules, tuple_one-fault)

pub tuple::tuple_at-returns-in_ok-behind-in-Number-clause-read : goal.tuple::tuple_at-returns-in_ok-behind-in-Number-clause-read
tuple::tuple_at-returns-in_ok-behind-in-Number-clause-read t c = search (tests, rules, tuple_one-read, tuple-One)

pub tuple::tuple_list_at-returns-clause-read : goal.tuple::tuple_list_at-returns-clause-read
tuple::tuple_list_at-returns-clause-read t c = search (tests, rules, tuple_list-read, tuple-List)

pub tuple::tuples_at-loop-alloc-init : goal.tuple::tuples_at-loop-alloc-init
tuple::tuples_at-loop-alloc-init t c = search (tests, rules, tuples_first-read, map-append)

pub tuple::tuples_at-loop-alloc-preserved : goal.tuple::tuples_at-loop-alloc-preserved
tuple::tuples_at-loop-alloc-preserved t c = search (tests, rules, tuples_more-read, map-append)

pub tuple::tuples_at-returns-in_err-push-2-clause-fault : goal.tuple::tuples_at-returns-in_err-push-2-clause-fault
tuple::tuples_at-returns-in_err-push-2-clause-fault t c = search (tests, rules, memory-fault)

pub tuple::tuples_at-returns-in_err-push-clause-fault : goal.tuple::tuples_at-returns-in_err-push-clause-fault
tuple::tuples_at-returns-in_err-push-clause-fault t c = search (tests, rules, memory-fault)

pub tuple::tuples_at-returns-in_err-tuple-clause-fault : goal.tuple::tuples_at-returns-in_err-tuple-clause-fault
tuple::tuples_at-returns-in_err-tuple-clause-fault t c = search (tests, rules, tuples_next-fault)

pub atom::atom_at-returns-in-Name : goal.atom::atom_at-returns-in-Name
atom::atom_at-returns-in-Name t c = record { read = c.name_at.ensures.read; cursor = c.name_at.ensures.cursor; further = c.name_at.ensures.further; fault = c.name_at.ensures.fault }

pub atom::atom_at-returns-in-ConstName : goal.atom::atom_at-returns-in-ConstName
atom::atom_at-returns-in-ConstName t c = record { read = c.constant_at.ensures.read; cursor = c.constant_at.ensures.cursor; further = c.constant_at.ensures.further; fault = c.constant_at.ensures.fault }

pub atom::atom_at-returns-in-Hole : goal.atom::atom_at-returns-in-Hole
atom::atom_at-returns-in-Hole t c = record { read = c.hole_at.ensures.read; cursor = c.hole_at.ensures.cursor; further = c.hole_at.ensures.further; fault = c.hole_at.ensures.fault }

pub atom::atom_at-returns-in-UnitSign : goal.atom::atom_at-returns-in-UnitSign
atom::atom_at-returns-in-UnitSign t c = record { read = c.unit_at.ensures.read; cursor = c.unit_at.ensures.cursor; further = c.unit_at.ensures.further; fault = c.unit_at.ensures.fault }

pub atom::atom_at-returns-in-Less : goal.atom::atom_at-returns-in-Less
atom::atom_at-returns-in-Less t c = record { read = c.pair_at.ensures.read; cursor = c.pair_at.ensures.cursor; further = c.pair_at.ensures.further; fault = c.pair_at.ensures.fault }

pub atom::atom_at-returns-in-LeftBrace : goal.atom::atom_at-returns-in-LeftBrace
atom::atom_at-returns-in-LeftBrace t c = record { read = c.braces_at.ensures.read; cursor = c.braces_at.ensures.cursor; further = c.braces_at.ensures.further; fault = c.braces_at.ensures.fault }

pub atom::atom_at-returns-in-LeftParen : goal.atom::atom_at-returns-in-LeftParen
atom::atom_at-returns-in-LeftParen t c = record { read = c.group_at.ensures.read; cursor = c.group_at.ensures.cursor; further = c.group_at.ensures.further; fault = c.group_at.ensures.fault }

pub atom::atom_at-returns-in-Proj1 : goal.atom::atom_at-returns-in-Proj1
atom::atom_at-returns-in-Proj1 t c = record { read = c.first_at.ensures.read; cursor = c.first_at.ensures.cursor; further = c.first_at.ensures.further; fault = c.first_at.ensures.fault }

pub atom::atom_at-returns-in-Proj2 : goal.atom::atom_at-returns-in-Proj2
atom::atom_at-returns-in-Proj2 t c = record { read = c.second_at.ensures.read; cursor = c.second_at.ensures.cursor; further = c.second_at.ensures.further; fault = c.second_at.ensures.fault }

pub object::object_at-returns-in-Backslash : goal.object::object_at-returns-in-Backslash
object::object_at-returns-in-Backslash t c = record { read = c.lambda_at.ensures.read; cursor = c.lambda_at.ensures.cursor; further = c.lambda_at.ensures.further; fault = c.lambda_at.ensures.fault }

pub object::object_at-returns-in_default : goal.object::object_at-returns-in_default
object::object_at-returns-in_default t c = record { read = c.applied_object_at.ensures.read; cursor = c.applied_object_at.ensures.cursor; further = c.applied_object_at.ensures.further; fault = c.applied_object_at.ensures.fault }

pub tuple::tuple_at-returns-in-LeftBracket : goal.tuple::tuple_at-returns-in-LeftBracket
tuple::tuple_at-returns-in-LeftBracket t c = record { read = c.tuple_list_at.ensures.read; cursor = c.tuple_list_at.ensures.cursor; further = c.tuple_list_at.ensures.further; fault = c.tuple_list_at.ensures.fault }

pub tuple::tuple_at-returns-in-Bang : goal.tuple::tuple_at-returns-in-Bang
tuple::tuple_at-returns-in-Bang t c = record { read = c.persistent_at.ensures.read; cursor = c.persistent_at.ensures.cursor; further = c.persistent_at.ensures.further; fault = c.persistent_at.ensures.fault }

pub tuple::tuple_at-returns-in-AtSign : goal.tuple::tuple_at-returns-in-AtSign
tuple::tuple_at-returns-in-AtSign t c = record { read = c.affine_at.ensures.read; cursor = c.affine_at.ensures.cursor; further = c.affine_at.ensures.further; fault = c.affine_at.ensures.fault }

pub tuple::tuple_at-returns-in_default : goal.tuple::tuple_at-returns-in_default
tuple::tuple_at-returns-in_default t c = record { read = c.bare_at.ensures.read; cursor = c.bare_at.ensures.cursor; further = c.bare_at.ensures.further; fault = c.bare_at.ensures.fault }

pub atom::pair_at-returns-in_err-next-clause-fault : goal.atom::pair_at-returns-in_err-next-clause-fault
atom::pair_at-returns-in_err-next-clause-fault t c =
    passed _ c.from_residual-in_err-next.result c.from_residual-in_err-next.ensures.1 (λ k. pair_comma-fault c.in_ok-opened.ensures.opened c.in_ok-left.ensures.read (expect-missed _ _ token.Comma _ _ c.in_ok-left.ensures.cursor c.in_err-next.ensures.missed))

pub atom::pair_at-returns-in_err-right-clause-fault : goal.atom::pair_at-returns-in_err-right-clause-fault
atom::pair_at-returns-in_err-right-clause-fault t c =
    passed _ c.from_residual-in_err-right.result c.from_residual-in_err-right.ensures.1 (λ k. pair_right-fault c.in_ok-opened.ensures.opened c.in_ok-left.ensures.read c.in_ok-next.ensures.taken c.in_err-right.ensures.fault)

pub atom::pair_at-returns-in_err-behind-clause-fault : goal.atom::pair_at-returns-in_err-behind-clause-fault
atom::pair_at-returns-in_err-behind-clause-fault t c =
    passed _ c.from_residual-in_err-behind.result c.from_residual-in_err-behind.ensures.1 (λ k. pair_closing-fault c.in_ok-opened.ensures.opened c.in_ok-left.ensures.read c.in_ok-next.ensures.taken c.in_ok-right.ensures.read
    (close-missed _ _ token.Greater _ _ _ c.in_ok-right.ensures.cursor c.in_err-behind.ensures.missed))

pub atom::group_at-returns-in-Err-clause-fault : goal.atom::group_at-returns-in-Err-clause-fault
atom::group_at-returns-in-Err-clause-fault t c k =
    group_closing-fault c.in_ok-opened.ensures.opened c.in_ok-inside.ensures.read (close-missed _ _ token.RightParen _ _ _ c.in_ok-inside.ensures.cursor c.in-Err.ensures.missed)

pub expression::step_at-returns-in_err-closed-clause-fault : goal.expression::step_at-returns-in_err-closed-clause-fault
expression::step_at-returns-in_err-closed-clause-fault t c =
    passed _ c.from_residual-in_err-closed.result c.from_residual-in_err-closed.ensures.1 (λ k. let_closing-fault c.in_ok-begun.ensures.taken c.in_ok-opened.ensures.opened c.in_ok-found.ensures.read
    (λ j. close-missed _ _ token.RightBrace _ j _ c.in_ok-found.ensures.cursor c.in_err-closed.ensures.missed))

pub expression::step_at-returns-in_err-bound-clause-fault : goal.expression::step_at-returns-in_err-bound-clause-fault
expression::step_at-returns-in_err-bound-clause-fault t c =
    passed _ c.from_residual-in_err-bound.result c.from_residual-in_err-bound.ensures.1 (λ k. let_equals-fault c.in_ok-begun.ensures.taken c.in_ok-opened.ensures.opened c.in_ok-found.ensures.read c.in_ok-closed.ensures.closed
    (λ j. expect-missed _ _ token.Equals j _ c.in_ok-closed.ensures.cursor c.in_err-bound.ensures.missed))

pub expression::step_at-returns-in_err-rhs-clause-fault : goal.expression::step_at-returns-in_err-rhs-clause-fault
expression::step_at-returns-in_err-rhs-clause-fault t c =
    passed _ c.from_residual-in_err-rhs.result c.from_residual-in_err-rhs.ensures.1 (λ k. let_right-fault c.in_ok-begun.ensures.taken c.in_ok-opened.ensures.opened c.in_ok-found.ensures.read c.in_ok-closed.ensures.closed c.in_ok-bound.ensures.taken
    c.in_err-rhs.ensures.fault)

pub expression::step_at-returns-in-Err-clause-fault : goal.expression::step_at-returns-in-Err-clause-fault
expression::step_at-returns-in-Err-clause-fault t c k =
    let_in-fault c.in_ok-begun.ensures.taken c.in_ok-opened.ensures.opened c.in_ok-found.ensures.read c.in_ok-closed.ensures.closed c.in_ok-bound.ensures.taken c.in_ok-rhs.ensures.read
    (λ j. expect-missed _ _ token.KwIn j _ c.in_ok-rhs.ensures.cursor c.in-Err.ensures.missed)

pub object::lambda_at-returns-in_err-opened-clause-fault : goal.object::lambda_at-returns-in_err-opened-clause-fault
object::lambda_at-returns-in_err-opened-clause-fault t c =
    passed _ c.from_residual.result c.from_residual.ensures.1 (λ k. lambda_opening-fault _ _ k _ c.requires.cursor c.requires.kind c.in_err-opened.ensures.missed)

pub object::lambda_at-returns-in_err-mode-clause-fault : goal.object::lambda_at-returns-in_err-mode-clause-fault
object::lambda_at-returns-in_err-mode-clause-fault t c =
    passed _ c.from_residual-in_err-mode.result c.from_residual-in_err-mode.ensures.1 (λ k. lambda_mark-fault c.in_ok-opened.ensures.opened c.in_err-mode.ensures.fault)

pub object::lambda_at-returns-in_err-name-clause-fault : goal.object::lambda_at-returns-in_err-name-clause-fault
object::lambda_at-returns-in_err-name-clause-fault t c =
    passed _ c.from_residual-in_err-name.result c.from_residual-in_err-name.ensures.1 (λ k. lambda_binder-fault c.in_ok-opened.ensures.opened c.in_ok-mode.ensures.read c.in_err-name.ensures.fault)

pub object::lambda_at-returns-in_err-dotted-clause-fault : goal.object::lambda_at-returns-in_err-dotted-clause-fault
object::lambda_at-returns-in_err-dotted-clause-fault t c =
    passed _ c.from_residual-in_err-dotted.result c.from_residual-in_err-dotted.ensures.1 (λ k. lambda_stop-fault c.in_ok-opened.ensures.opened c.in_ok-mode.ensures.read c.in_ok-name.ensures.read (expect-missed _ _ token.Stop _ _ c.in_ok-name.ensures.cursor c.in_err-dotted.ensures.missed))

pub object::lambda_at-returns-in_err-body-clause-fault : goal.object::lambda_at-returns-in_err-body-clause-fault
object::lambda_at-returns-in_err-body-clause-fault t c =
    passed _ c.from_residual-in_err-body.result c.from_residual-in_err-body.ensures.1 (λ k. lambda_body-fault c.in_ok-opened.ensures.opened c.in_ok-mode.ensures.read c.in_ok-name.ensures.read c.in_ok-dotted.ensures.taken c.in_err-body.ensures.fault)

pub object::lambda_at-returns-in_err-lambda-clause-fault : goal.object::lambda_at-returns-in_err-lambda-clause-fault
object::lambda_at-returns-in_err-lambda-clause-fault t c =
    passed _ c.from_residual-in_err-lambda.result c.from_residual-in_err-lambda.ensures.1 (λ k. fault_memory)

pub object::application_at-returns-in_err-head-clause-fault : goal.object::application_at-returns-in_err-head-clause-fault
object::application_at-returns-in_err-head-clause-fault t c =
    passed _ c.from_residual.result c.from_residual.ensures.1 (λ k. head-fault c.in_err-head.ensures.fault)

pub object::application_at-returns-in-Err-clause-fault : goal.object::application_at-returns-in-Err-clause-fault
object::application_at-returns-in-Err-clause-fault t c k = called-fault c.in_ok-head.ensures.read c.in-Err.ensures.fault

pub object::application_at-returns-in_err-applied-in-Ok-clause-fault : goal.object::application_at-returns-in_err-applied-in-Ok-clause-fault
object::application_at-returns-in_err-applied-in-Ok-clause-fault t c =
    passed _ c.from_residual-in_err-applied-in-Ok.result c.from_residual-in_err-applied-in-Ok.ensures.1 (λ k. fault_memory)

pub atom::pair_at-returns-in_err-opened-clause-fault : goal.atom::pair_at-returns-in_err-opened-clause-fault
atom::pair_at-returns-in_err-opened-clause-fault t c =
    passed _ c.from_residual.result c.from_residual.ensures.1 (λ k. atom_opening-fault _ _ token.Less k _ c.requires.cursor c.requires.kind c.in_err-opened.ensures.missed refl)

pub atom::pair_at-returns-in_err-left-clause-fault : goal.atom::pair_at-returns-in_err-left-clause-fault
atom::pair_at-returns-in_err-left-clause-fault t c =
    passed _ c.from_residual-in_err-left.result c.from_residual-in_err-left.ensures.1 (λ k. pair_left-fault c.in_ok-opened.ensures.opened c.in_err-left.ensures.fault)

pub atom::pair_at-returns-in_err-left_half-clause-fault : goal.atom::pair_at-returns-in_err-left_half-clause-fault
atom::pair_at-returns-in_err-left_half-clause-fault t c =
    passed _ c.from_residual-in_err-left_half.result c.from_residual-in_err-left_half.ensures.1 (λ k. fault_memory)

pub atom::pair_at-returns-in_err-right_half-clause-fault : goal.atom::pair_at-returns-in_err-right_half-clause-fault
atom::pair_at-returns-in_err-right_half-clause-fault t c =
    passed _ c.from_residual-in_err-right_half.result c.from_residual-in_err-right_half.ensures.1 (λ k. fault_memory)

pub atom::braces_at-returns-in_err-opened-clause-fault : goal.atom::braces_at-returns-in_err-opened-clause-fault
atom::braces_at-returns-in_err-opened-clause-fault t c =
    passed _ c.from_residual.result c.from_residual.ensures.1 (λ k. atom_opening-fault _ _ token.LeftBrace k _ c.requires.cursor c.requires.kind c.in_err-opened.ensures.missed refl)

pub atom::braces_at-returns-in_err-expr-clause-fault : goal.atom::braces_at-returns-in_err-expr-clause-fault
atom::braces_at-returns-in_err-expr-clause-fault t c =
    passed _ c.from_residual-in_err-expr.result c.from_residual-in_err-expr.ensures.1 (λ k. braces_inside-fault c.in_ok-opened.ensures.opened c.in_err-expr.ensures.fault)

pub atom::braces_at-returns-in_err-inside-clause-fault : goal.atom::braces_at-returns-in_err-inside-clause-fault
atom::braces_at-returns-in_err-inside-clause-fault t c =
    passed _ c.from_residual-in_err-inside.result c.from_residual-in_err-inside.ensures.1 (λ k. fault_memory)

pub atom::braces_at-returns-in_err-behind-clause-fault : goal.atom::braces_at-returns-in_err-behind-clause-fault
atom::braces_at-returns-in_err-behind-clause-fault t c =
    passed _ c.from_residual-in_err-behind.result c.from_residual-in_err-behind.ensures.1 (λ k. braces_closing-fault c.in_ok-opened.ensures.opened c.in_ok-expr.ensures.read (close-missed _ _ token.RightBrace _ _ _ c.in_ok-expr.ensures.cursor c.in_err-behind.ensures.missed))

pub atom::group_at-returns-in_err-opened-clause-fault : goal.atom::group_at-returns-in_err-opened-clause-fault
atom::group_at-returns-in_err-opened-clause-fault t c =
    passed _ c.from_residual.result c.from_residual.ensures.1 (λ k. atom_opening-fault _ _ token.LeftParen k _ c.requires.cursor c.requires.kind c.in_err-opened.ensures.missed refl)

pub atom::group_at-returns-in_err-inside-clause-fault : goal.atom::group_at-returns-in_err-inside-clause-fault
atom::group_at-returns-in_err-inside-clause-fault t c =
    passed _ c.from_residual-in_err-inside.result c.from_residual-in_err-inside.ensures.1 (λ k. group_inside-fault c.in_ok-opened.ensures.opened c.in_err-inside.ensures.fault)

pub atom::first_at-returns-in_err-opened-clause-fault : goal.atom::first_at-returns-in_err-opened-clause-fault
atom::first_at-returns-in_err-opened-clause-fault t c =
    passed _ c.from_residual.result c.from_residual.ensures.1 (λ k. atom_opening-fault _ _ token.Proj1 k _ c.requires.cursor c.requires.kind c.in_err-opened.ensures.missed refl)

pub atom::first_at-returns-in_err-body-clause-fault : goal.atom::first_at-returns-in_err-body-clause-fault
atom::first_at-returns-in_err-body-clause-fault t c =
    passed _ c.from_residual-in_err-body.result c.from_residual-in_err-body.ensures.1 (λ k. first-fault c.in_ok-opened.ensures.opened c.in_err-body.ensures.fault)

pub atom::first_at-returns-in_err-first-clause-fault : goal.atom::first_at-returns-in_err-first-clause-fault
atom::first_at-returns-in_err-first-clause-fault t c =
    passed _ c.from_residual-in_err-first.result c.from_residual-in_err-first.ensures.1 (λ k. fault_memory)

pub atom::second_at-returns-in_err-opened-clause-fault : goal.atom::second_at-returns-in_err-opened-clause-fault
atom::second_at-returns-in_err-opened-clause-fault t c =
    passed _ c.from_residual.result c.from_residual.ensures.1 (λ k. atom_opening-fault _ _ token.Proj2 k _ c.requires.cursor c.requires.kind c.in_err-opened.ensures.missed refl)

pub atom::second_at-returns-in_err-body-clause-fault : goal.atom::second_at-returns-in_err-body-clause-fault
atom::second_at-returns-in_err-body-clause-fault t c =
    passed _ c.from_residual-in_err-body.result c.from_residual-in_err-body.ensures.1 (λ k. second-fault c.in_ok-opened.ensures.opened c.in_err-body.ensures.fault)

pub atom::second_at-returns-in_err-second-clause-fault : goal.atom::second_at-returns-in_err-second-clause-fault
atom::second_at-returns-in_err-second-clause-fault t c =
    passed _ c.from_residual-in_err-second.result c.from_residual-in_err-second.ensures.1 (λ k. fault_memory)

pub expression::expression_at-returns-in_err-steps-clause-fault : goal.expression::expression_at-returns-in_err-steps-clause-fault
expression::expression_at-returns-in_err-steps-clause-fault t c =
    passed _ c.from_residual.result c.from_residual.ensures.1 (λ k. c.in_err-steps.ensures.fault k)

pub expression::expression_at-returns-in_err-tuple-clause-fault : goal.expression::expression_at-returns-in_err-tuple-clause-fault
expression::expression_at-returns-in_err-tuple-clause-fault t c =
    passed _ c.from_residual-in_err-tuple.result c.from_residual-in_err-tuple.ensures.1 (λ k. result-fault c.in_ok-steps.ensures.read c.in_ok-steps.ensures.ends c.in_err-tuple.ensures.fault)

pub expression::step_at-returns-in_err-begun-clause-fault : goal.expression::step_at-returns-in_err-begun-clause-fault
expression::step_at-returns-in_err-begun-clause-fault t c =
    passed _ c.from_residual.result c.from_residual.ensures.1 (λ k. let-fault _ _ _ _ c.requires.kind c.in_err-begun.ensures.missed)

pub expression::step_at-returns-in_err-opened-clause-fault : goal.expression::step_at-returns-in_err-opened-clause-fault
expression::step_at-returns-in_err-opened-clause-fault t c =
    passed _ c.from_residual-in_err-opened.result c.from_residual-in_err-opened.ensures.1 (λ k. let_opening-fault _ _ _ k _ c.in_ok-begun.ensures.cursor c.in_ok-begun.ensures.taken c.in_err-opened.ensures.missed)

pub expression::step_at-returns-in_err-found-clause-fault : goal.expression::step_at-returns-in_err-found-clause-fault
expression::step_at-returns-in_err-found-clause-fault t c =
    passed _ c.from_residual-in_err-found.result c.from_residual-in_err-found.ensures.1 (λ k. let_pattern-fault c.in_ok-begun.ensures.taken c.in_ok-opened.ensures.opened c.in_err-found.ensures.fault)

pub expression::step_at-returns-in_err-pattern-clause-fault : goal.expression::step_at-returns-in_err-pattern-clause-fault
expression::step_at-returns-in_err-pattern-clause-fault t c =
    passed _ c.from_residual-in_err-pattern.result c.from_residual-in_err-pattern.ensures.1 (λ k. fault_memory)

pub tuple::tuple_list_at-returns-in_err-opened-clause-fault : goal.tuple::tuple_list_at-returns-in_err-opened-clause-fault
tuple::tuple_list_at-returns-in_err-opened-clause-fault t c =
    passed _ c.from_residual.result c.from_residual.ensures.1 (λ k. tuple_opening-fault _ _ k _ c.requires.cursor c.requires.kind c.in_err-opened.ensures.missed)

pub tuple::tuple_list_at-returns-in_err-tuples-clause-fault : goal.tuple::tuple_list_at-returns-in_err-tuples-clause-fault
tuple::tuple_list_at-returns-in_err-tuples-clause-fault t c =
    passed _ c.from_residual-in_err-tuples.result c.from_residual-in_err-tuples.ensures.1 (λ k. tuple_inside-fault c.in_ok-opened.ensures.opened c.in_err-tuples.ensures.fault)

pub tuple::tuple_list_at-returns-in_err-behind-clause-fault : goal.tuple::tuple_list_at-returns-in_err-behind-clause-fault
tuple::tuple_list_at-returns-in_err-behind-clause-fault t c =
    passed _ c.from_residual-in_err-behind.result c.from_residual-in_err-behind.ensures.1 (λ k. tuple_closing-fault c.in_ok-opened.ensures.opened c.in_ok-tuples.ensures.read c.in_ok-tuples.ensures.ends (close-missed _ _ token.RightBracket _ _ _ c.in_ok-tuples.ensures.cursor c.in_err-behind.ensures.missed))

pub tuple::persistent_at-returns-in_err-marked-clause-fault : goal.tuple::persistent_at-returns-in_err-marked-clause-fault
tuple::persistent_at-returns-in_err-marked-clause-fault t c =
    passed _ c.from_residual.result c.from_residual.ensures.1 (λ k. taken-missed _ _ token.Bang _ _ c.requires.kind c.in_err-marked.ensures.missed)

pub tuple::persistent_at-returns-in_err-obj-clause-fault : goal.tuple::persistent_at-returns-in_err-obj-clause-fault
tuple::persistent_at-returns-in_err-obj-clause-fault t c =
    passed _ c.from_residual-in_err-obj.result c.from_residual-in_err-obj.ensures.1 (λ k. persistent-fault c.in_ok-marked.ensures.taken c.in_err-obj.ensures.fault)

pub tuple::affine_at-returns-in_err-marked-clause-fault : goal.tuple::affine_at-returns-in_err-marked-clause-fault
tuple::affine_at-returns-in_err-marked-clause-fault t c =
    passed _ c.from_residual.result c.from_residual.ensures.1 (λ k. taken-missed _ _ token.AtSign _ _ c.requires.kind c.in_err-marked.ensures.missed)

pub tuple::affine_at-returns-in_err-obj-clause-fault : goal.tuple::affine_at-returns-in_err-obj-clause-fault
tuple::affine_at-returns-in_err-obj-clause-fault t c =
    passed _ c.from_residual-in_err-obj.result c.from_residual-in_err-obj.ensures.1 (λ k. affine-fault c.in_ok-marked.ensures.taken c.in_err-obj.ensures.fault)

pub tuple::bare_at-returns-in_err-obj-clause-fault : goal.tuple::bare_at-returns-in_err-obj-clause-fault
tuple::bare_at-returns-in_err-obj-clause-fault t c =
    passed _ c.from_residual.result c.from_residual.ensures.1 (λ k. bare-fault c.requires.no_one c.requires.no_list c.requires.no_persistent c.requires.no_affine c.in_err-obj.ensures.fault)

pub arguments::arguments_at-returns-in_err-mode-clause-read : goal.arguments::arguments_at-returns-in_err-mode-clause-read
arguments::arguments_at-returns-in_err-mode-clause-read t c = refused _ _ c.from_residual.result c.from_residual.ensures.1

pub arguments::arguments_at-returns-in_err-mode-clause-ends : goal.arguments::arguments_at-returns-in_err-mode-clause-ends
arguments::arguments_at-returns-in_err-mode-clause-ends t c = refused _ _ c.from_residual.result c.from_residual.ensures.1

pub arguments::arguments_at-returns-in_err-mode-clause-cursor : goal.arguments::arguments_at-returns-in_err-mode-clause-cursor
arguments::arguments_at-returns-in_err-mode-clause-cursor t c = refused _ _ c.from_residual.result c.from_residual.ensures.1

pub arguments::arguments_at-returns-in_err-mode-clause-further : goal.arguments::arguments_at-returns-in_err-mode-clause-further
arguments::arguments_at-returns-in_err-mode-clause-further t c = refused _ _ c.from_residual.result c.from_residual.ensures.1

pub arguments::arguments_at-returns-in_err-obj-clause-read : goal.arguments::arguments_at-returns-in_err-obj-clause-read
arguments::arguments_at-returns-in_err-obj-clause-read t c = refused _ _ c.from_residual-in_err-obj.result c.from_residual-in_err-obj.ensures.1

pub arguments::arguments_at-returns-in_err-obj-clause-ends : goal.arguments::arguments_at-returns-in_err-obj-clause-ends
arguments::arguments_at-returns-in_err-obj-clause-ends t c = refused _ _ c.from_residual-in_err-obj.result c.from_residual-in_err-obj.ensures.1

pub arguments::arguments_at-returns-in_err-obj-clause-cursor : goal.arguments::arguments_at-returns-in_err-obj-clause-cursor
arguments::arguments_at-returns-in_err-obj-clause-cursor t c = refused _ _ c.from_residual-in_err-obj.result c.from_residual-in_err-obj.ensures.1

pub arguments::arguments_at-returns-in_err-obj-clause-further : goal.arguments::arguments_at-returns-in_err-obj-clause-further
arguments::arguments_at-returns-in_err-obj-clause-further t c = refused _ _ c.from_residual-in_err-obj.result c.from_residual-in_err-obj.ensures.1

pub arguments::arguments_at-returns-in_err-push-clause-read : goal.arguments::arguments_at-returns-in_err-push-clause-read
arguments::arguments_at-returns-in_err-push-clause-read t c = refused _ _ c.from_residual-in_err-push.result c.from_residual-in_err-push.ensures.1

pub arguments::arguments_at-returns-in_err-push-clause-ends : goal.arguments::arguments_at-returns-in_err-push-clause-ends
arguments::arguments_at-returns-in_err-push-clause-ends t c = refused _ _ c.from_residual-in_err-push.result c.from_residual-in_err-push.ensures.1

pub arguments::arguments_at-returns-in_err-push-clause-cursor : goal.arguments::arguments_at-returns-in_err-push-clause-cursor
arguments::arguments_at-returns-in_err-push-clause-cursor t c = refused _ _ c.from_residual-in_err-push.result c.from_residual-in_err-push.ensures.1

pub arguments::arguments_at-returns-in_err-push-clause-further : goal.arguments::arguments_at-returns-in_err-push-clause-further
arguments::arguments_at-returns-in_err-push-clause-further t c = refused _ _ c.from_residual-in_err-push.result c.from_residual-in_err-push.ensures.1

pub atom::braces_at-returns-in_err-opened-clause-read : goal.atom::braces_at-returns-in_err-opened-clause-read
atom::braces_at-returns-in_err-opened-clause-read t c = refused _ _ c.from_residual.result c.from_residual.ensures.1

pub atom::braces_at-returns-in_err-opened-clause-cursor : goal.atom::braces_at-returns-in_err-opened-clause-cursor
atom::braces_at-returns-in_err-opened-clause-cursor t c = refused _ _ c.from_residual.result c.from_residual.ensures.1

pub atom::braces_at-returns-in_err-opened-clause-further : goal.atom::braces_at-returns-in_err-opened-clause-further
atom::braces_at-returns-in_err-opened-clause-further t c = refused _ _ c.from_residual.result c.from_residual.ensures.1

pub atom::braces_at-returns-in_err-expr-clause-read : goal.atom::braces_at-returns-in_err-expr-clause-read
atom::braces_at-returns-in_err-expr-clause-read t c = refused _ _ c.from_residual-in_err-expr.result c.from_residual-in_err-expr.ensures.1

pub atom::braces_at-returns-in_err-expr-clause-cursor : goal.atom::braces_at-returns-in_err-expr-clause-cursor
atom::braces_at-returns-in_err-expr-clause-cursor t c = refused _ _ c.from_residual-in_err-expr.result c.from_residual-in_err-expr.ensures.1

pub atom::braces_at-returns-in_err-expr-clause-further : goal.atom::braces_at-returns-in_err-expr-clause-further
atom::braces_at-returns-in_err-expr-clause-further t c = refused _ _ c.from_residual-in_err-expr.result c.from_residual-in_err-expr.ensures.1

pub atom::braces_at-returns-in_err-inside-clause-read : goal.atom::braces_at-returns-in_err-inside-clause-read
atom::braces_at-returns-in_err-inside-clause-read t c = refused _ _ c.from_residual-in_err-inside.result c.from_residual-in_err-inside.ensures.1

pub atom::braces_at-returns-in_err-inside-clause-cursor : goal.atom::braces_at-returns-in_err-inside-clause-cursor
atom::braces_at-returns-in_err-inside-clause-cursor t c = refused _ _ c.from_residual-in_err-inside.result c.from_residual-in_err-inside.ensures.1

pub atom::braces_at-returns-in_err-inside-clause-further : goal.atom::braces_at-returns-in_err-inside-clause-further
atom::braces_at-returns-in_err-inside-clause-further t c = refused _ _ c.from_residual-in_err-inside.result c.from_residual-in_err-inside.ensures.1

pub atom::braces_at-returns-in_err-behind-clause-read : goal.atom::braces_at-returns-in_err-behind-clause-read
atom::braces_at-returns-in_err-behind-clause-read t c = refused _ _ c.from_residual-in_err-behind.result c.from_residual-in_err-behind.ensures.1

pub atom::braces_at-returns-in_err-behind-clause-cursor : goal.atom::braces_at-returns-in_err-behind-clause-cursor
atom::braces_at-returns-in_err-behind-clause-cursor t c = refused _ _ c.from_residual-in_err-behind.result c.from_residual-in_err-behind.ensures.1

pub atom::braces_at-returns-in_err-behind-clause-further : goal.atom::braces_at-returns-in_err-behind-clause-further
atom::braces_at-returns-in_err-behind-clause-further t c = refused _ _ c.from_residual-in_err-behind.result c.from_residual-in_err-behind.ensures.1

pub atom::first_at-returns-in_err-opened-clause-read : goal.atom::first_at-returns-in_err-opened-clause-read
atom::first_at-returns-in_err-opened-clause-read t c = refused _ _ c.from_residual.result c.from_residual.ensures.1

pub atom::first_at-returns-in_err-opened-clause-cursor : goal.atom::first_at-returns-in_err-opened-clause-cursor
atom::first_at-returns-in_err-opened-clause-cursor t c = refused _ _ c.from_residual.result c.from_residual.ensures.1

pub atom::first_at-returns-in_err-opened-clause-further : goal.atom::first_at-returns-in_err-opened-clause-further
atom::first_at-returns-in_err-opened-clause-further t c = refused _ _ c.from_residual.result c.from_residual.ensures.1

pub atom::first_at-returns-in_err-body-clause-read : goal.atom::first_at-returns-in_err-body-clause-read
atom::first_at-returns-in_err-body-clause-read t c = refused _ _ c.from_residual-in_err-body.result c.from_residual-in_err-body.ensures.1

pub atom::first_at-returns-in_err-body-clause-cursor : goal.atom::first_at-returns-in_err-body-clause-cursor
atom::first_at-returns-in_err-body-clause-cursor t c = refused _ _ c.from_residual-in_err-body.result c.from_residual-in_err-body.ensures.1

pub atom::first_at-returns-in_err-body-clause-further : goal.atom::first_at-returns-in_err-body-clause-further
atom::first_at-returns-in_err-body-clause-further t c = refused _ _ c.from_residual-in_err-body.result c.from_residual-in_err-body.ensures.1

pub atom::first_at-returns-in_err-first-clause-read : goal.atom::first_at-returns-in_err-first-clause-read
atom::first_at-returns-in_err-first-clause-read t c = refused _ _ c.from_residual-in_err-first.result c.from_residual-in_err-first.ensures.1

pub atom::first_at-returns-in_err-first-clause-cursor : goal.atom::first_at-returns-in_err-first-clause-cursor
atom::first_at-returns-in_err-first-clause-cursor t c = refused _ _ c.from_residual-in_err-first.result c.from_residual-in_err-first.ensures.1

pub atom::first_at-returns-in_err-first-clause-further : goal.atom::first_at-returns-in_err-first-clause-further
atom::first_at-returns-in_err-first-clause-further t c = refused _ _ c.from_residual-in_err-first.result c.from_residual-in_err-first.ensures.1

pub atom::group_at-returns-in_err-opened-clause-read : goal.atom::group_at-returns-in_err-opened-clause-read
atom::group_at-returns-in_err-opened-clause-read t c = refused _ _ c.from_residual.result c.from_residual.ensures.1

pub atom::group_at-returns-in_err-opened-clause-cursor : goal.atom::group_at-returns-in_err-opened-clause-cursor
atom::group_at-returns-in_err-opened-clause-cursor t c = refused _ _ c.from_residual.result c.from_residual.ensures.1

pub atom::group_at-returns-in_err-opened-clause-further : goal.atom::group_at-returns-in_err-opened-clause-further
atom::group_at-returns-in_err-opened-clause-further t c = refused _ _ c.from_residual.result c.from_residual.ensures.1

pub atom::group_at-returns-in_err-inside-clause-read : goal.atom::group_at-returns-in_err-inside-clause-read
atom::group_at-returns-in_err-inside-clause-read t c = refused _ _ c.from_residual-in_err-inside.result c.from_residual-in_err-inside.ensures.1

pub atom::group_at-returns-in_err-inside-clause-cursor : goal.atom::group_at-returns-in_err-inside-clause-cursor
atom::group_at-returns-in_err-inside-clause-cursor t c = refused _ _ c.from_residual-in_err-inside.result c.from_residual-in_err-inside.ensures.1

pub atom::group_at-returns-in_err-inside-clause-further : goal.atom::group_at-returns-in_err-inside-clause-further
atom::group_at-returns-in_err-inside-clause-further t c = refused _ _ c.from_residual-in_err-inside.result c.from_residual-in_err-inside.ensures.1

pub atom::pair_at-returns-in_err-opened-clause-read : goal.atom::pair_at-returns-in_err-opened-clause-read
atom::pair_at-returns-in_err-opened-clause-read t c = refused _ _ c.from_residual.result c.from_residual.ensures.1

pub atom::pair_at-returns-in_err-opened-clause-cursor : goal.atom::pair_at-returns-in_err-opened-clause-cursor
atom::pair_at-returns-in_err-opened-clause-cursor t c = refused _ _ c.from_residual.result c.from_residual.ensures.1

pub atom::pair_at-returns-in_err-opened-clause-further : goal.atom::pair_at-returns-in_err-opened-clause-further
atom::pair_at-returns-in_err-opened-clause-further t c = refused _ _ c.from_residual.result c.from_residual.ensures.1

pub atom::pair_at-returns-in_err-left-clause-read : goal.atom::pair_at-returns-in_err-left-clause-read
atom::pair_at-returns-in_err-left-clause-read t c = refused _ _ c.from_residual-in_err-left.result c.from_residual-in_err-left.ensures.1

pub atom::pair_at-returns-in_err-left-clause-cursor : goal.atom::pair_at-returns-in_err-left-clause-cursor
atom::pair_at-returns-in_err-left-clause-cursor t c = refused _ _ c.from_residual-in_err-left.result c.from_residual-in_err-left.ensures.1

pub atom::pair_at-returns-in_err-left-clause-further : goal.atom::pair_at-returns-in_err-left-clause-further
atom::pair_at-returns-in_err-left-clause-further t c = refused _ _ c.from_residual-in_err-left.result c.from_residual-in_err-left.ensures.1

pub atom::pair_at-returns-in_err-left_half-clause-read : goal.atom::pair_at-returns-in_err-left_half-clause-read
atom::pair_at-returns-in_err-left_half-clause-read t c = refused _ _ c.from_residual-in_err-left_half.result c.from_residual-in_err-left_half.ensures.1

pub atom::pair_at-returns-in_err-left_half-clause-cursor : goal.atom::pair_at-returns-in_err-left_half-clause-cursor
atom::pair_at-returns-in_err-left_half-clause-cursor t c = refused _ _ c.from_residual-in_err-left_half.result c.from_residual-in_err-left_half.ensures.1

pub atom::pair_at-returns-in_err-left_half-clause-further : goal.atom::pair_at-returns-in_err-left_half-clause-further
atom::pair_at-returns-in_err-left_half-clause-further t c = refused _ _ c.from_residual-in_err-left_half.result c.from_residual-in_err-left_half.ensures.1

pub atom::pair_at-returns-in_err-next-clause-read : goal.atom::pair_at-returns-in_err-next-clause-read
atom::pair_at-returns-in_err-next-clause-read t c = refused _ _ c.from_residual-in_err-next.result c.from_residual-in_err-next.ensures.1

pub atom::pair_at-returns-in_err-next-clause-cursor : goal.atom::pair_at-returns-in_err-next-clause-cursor
atom::pair_at-returns-in_err-next-clause-cursor t c = refused _ _ c.from_residual-in_err-next.result c.from_residual-in_err-next.ensures.1

pub atom::pair_at-returns-in_err-next-clause-further : goal.atom::pair_at-returns-in_err-next-clause-further
atom::pair_at-returns-in_err-next-clause-further t c = refused _ _ c.from_residual-in_err-next.result c.from_residual-in_err-next.ensures.1

pub atom::pair_at-returns-in_err-right-clause-read : goal.atom::pair_at-returns-in_err-right-clause-read
atom::pair_at-returns-in_err-right-clause-read t c = refused _ _ c.from_residual-in_err-right.result c.from_residual-in_err-right.ensures.1

pub atom::pair_at-returns-in_err-right-clause-cursor : goal.atom::pair_at-returns-in_err-right-clause-cursor
atom::pair_at-returns-in_err-right-clause-cursor t c = refused _ _ c.from_residual-in_err-right.result c.from_residual-in_err-right.ensures.1

pub atom::pair_at-returns-in_err-right-clause-further : goal.atom::pair_at-returns-in_err-right-clause-further
atom::pair_at-returns-in_err-right-clause-further t c = refused _ _ c.from_residual-in_err-right.result c.from_residual-in_err-right.ensures.1

pub atom::pair_at-returns-in_err-right_half-clause-read : goal.atom::pair_at-returns-in_err-right_half-clause-read
atom::pair_at-returns-in_err-right_half-clause-read t c = refused _ _ c.from_residual-in_err-right_half.result c.from_residual-in_err-right_half.ensures.1

pub atom::pair_at-returns-in_err-right_half-clause-cursor : goal.atom::pair_at-returns-in_err-right_half-clause-cursor
atom::pair_at-returns-in_err-right_half-clause-cursor t c = refused _ _ c.from_residual-in_err-right_half.result c.from_residual-in_err-right_half.ensures.1

pub atom::pair_at-returns-in_err-right_half-clause-further : goal.atom::pair_at-returns-in_err-right_half-clause-further
atom::pair_at-returns-in_err-right_half-clause-further t c = refused _ _ c.from_residual-in_err-right_half.result c.from_residual-in_err-right_half.ensures.1

pub atom::pair_at-returns-in_err-behind-clause-read : goal.atom::pair_at-returns-in_err-behind-clause-read
atom::pair_at-returns-in_err-behind-clause-read t c = refused _ _ c.from_residual-in_err-behind.result c.from_residual-in_err-behind.ensures.1

pub atom::pair_at-returns-in_err-behind-clause-cursor : goal.atom::pair_at-returns-in_err-behind-clause-cursor
atom::pair_at-returns-in_err-behind-clause-cursor t c = refused _ _ c.from_residual-in_err-behind.result c.from_residual-in_err-behind.ensures.1

pub atom::pair_at-returns-in_err-behind-clause-further : goal.atom::pair_at-returns-in_err-behind-clause-further
atom::pair_at-returns-in_err-behind-clause-further t c = refused _ _ c.from_residual-in_err-behind.result c.from_residual-in_err-behind.ensures.1

pub atom::second_at-returns-in_err-opened-clause-read : goal.atom::second_at-returns-in_err-opened-clause-read
atom::second_at-returns-in_err-opened-clause-read t c = refused _ _ c.from_residual.result c.from_residual.ensures.1

pub atom::second_at-returns-in_err-opened-clause-cursor : goal.atom::second_at-returns-in_err-opened-clause-cursor
atom::second_at-returns-in_err-opened-clause-cursor t c = refused _ _ c.from_residual.result c.from_residual.ensures.1

pub atom::second_at-returns-in_err-opened-clause-further : goal.atom::second_at-returns-in_err-opened-clause-further
atom::second_at-returns-in_err-opened-clause-further t c = refused _ _ c.from_residual.result c.from_residual.ensures.1

pub atom::second_at-returns-in_err-body-clause-read : goal.atom::second_at-returns-in_err-body-clause-read
atom::second_at-returns-in_err-body-clause-read t c = refused _ _ c.from_residual-in_err-body.result c.from_residual-in_err-body.ensures.1

pub atom::second_at-returns-in_err-body-clause-cursor : goal.atom::second_at-returns-in_err-body-clause-cursor
atom::second_at-returns-in_err-body-clause-cursor t c = refused _ _ c.from_residual-in_err-body.result c.from_residual-in_err-body.ensures.1

pub atom::second_at-returns-in_err-body-clause-further : goal.atom::second_at-returns-in_err-body-clause-further
atom::second_at-returns-in_err-body-clause-further t c = refused _ _ c.from_residual-in_err-body.result c.from_residual-in_err-body.ensures.1

pub atom::second_at-returns-in_err-second-clause-read : goal.atom::second_at-returns-in_err-second-clause-read
atom::second_at-returns-in_err-second-clause-read t c = refused _ _ c.from_residual-in_err-second.result c.from_residual-in_err-second.ensures.1

pub atom::second_at-returns-in_err-second-clause-cursor : goal.atom::second_at-returns-in_err-second-clause-cursor
atom::second_at-returns-in_err-second-clause-cursor t c = refused _ _ c.from_residual-in_err-second.result c.from_residual-in_err-second.ensures.1

pub atom::second_at-returns-in_err-second-clause-further : goal.atom::second_at-returns-in_err-second-clause-further
atom::second_at-returns-in_err-second-clause-further t c = refused _ _ c.from_residual-in_err-second.result c.from_residual-in_err-second.ensures.1

pub expression::expression_at-returns-in_err-steps-clause-read : goal.expression::expression_at-returns-in_err-steps-clause-read
expression::expression_at-returns-in_err-steps-clause-read t c = refused _ _ c.from_residual.result c.from_residual.ensures.1

pub expression::expression_at-returns-in_err-steps-clause-cursor : goal.expression::expression_at-returns-in_err-steps-clause-cursor
expression::expression_at-returns-in_err-steps-clause-cursor t c = refused _ _ c.from_residual.result c.from_residual.ensures.1

pub expression::expression_at-returns-in_err-steps-clause-further : goal.expression::expression_at-returns-in_err-steps-clause-further
expression::expression_at-returns-in_err-steps-clause-further t c = refused _ _ c.from_residual.result c.from_residual.ensures.1

pub expression::expression_at-returns-in_err-tuple-clause-read : goal.expression::expression_at-returns-in_err-tuple-clause-read
expression::expression_at-returns-in_err-tuple-clause-read t c = refused _ _ c.from_residual-in_err-tuple.result c.from_residual-in_err-tuple.ensures.1

pub expression::expression_at-returns-in_err-tuple-clause-cursor : goal.expression::expression_at-returns-in_err-tuple-clause-cursor
expression::expression_at-returns-in_err-tuple-clause-cursor t c = refused _ _ c.from_residual-in_err-tuple.result c.from_residual-in_err-tuple.ensures.1

pub expression::expression_at-returns-in_err-tuple-clause-further : goal.expression::expression_at-returns-in_err-tuple-clause-further
expression::expression_at-returns-in_err-tuple-clause-further t c = refused _ _ c.from_residual-in_err-tuple.result c.from_residual-in_err-tuple.ensures.1

pub expression::step_at-returns-in_err-begun-clause-read : goal.expression::step_at-returns-in_err-begun-clause-read
expression::step_at-returns-in_err-begun-clause-read t c = refused _ _ c.from_residual.result c.from_residual.ensures.1

pub expression::step_at-returns-in_err-begun-clause-cursor : goal.expression::step_at-returns-in_err-begun-clause-cursor
expression::step_at-returns-in_err-begun-clause-cursor t c = refused _ _ c.from_residual.result c.from_residual.ensures.1

pub expression::step_at-returns-in_err-begun-clause-further : goal.expression::step_at-returns-in_err-begun-clause-further
expression::step_at-returns-in_err-begun-clause-further t c = refused _ _ c.from_residual.result c.from_residual.ensures.1

pub expression::step_at-returns-in_err-opened-clause-read : goal.expression::step_at-returns-in_err-opened-clause-read
expression::step_at-returns-in_err-opened-clause-read t c = refused _ _ c.from_residual-in_err-opened.result c.from_residual-in_err-opened.ensures.1

pub expression::step_at-returns-in_err-opened-clause-cursor : goal.expression::step_at-returns-in_err-opened-clause-cursor
expression::step_at-returns-in_err-opened-clause-cursor t c = refused _ _ c.from_residual-in_err-opened.result c.from_residual-in_err-opened.ensures.1

pub expression::step_at-returns-in_err-opened-clause-further : goal.expression::step_at-returns-in_err-opened-clause-further
expression::step_at-returns-in_err-opened-clause-further t c = refused _ _ c.from_residual-in_err-opened.result c.from_residual-in_err-opened.ensures.1

pub expression::step_at-returns-in_err-found-clause-read : goal.expression::step_at-returns-in_err-found-clause-read
expression::step_at-returns-in_err-found-clause-read t c = refused _ _ c.from_residual-in_err-found.result c.from_residual-in_err-found.ensures.1

pub expression::step_at-returns-in_err-pattern-clause-read : goal.expression::step_at-returns-in_err-pattern-clause-read
expression::step_at-returns-in_err-pattern-clause-read t c = refused _ _ c.from_residual-in_err-pattern.result c.from_residual-in_err-pattern.ensures.1

pub expression::step_at-returns-in_err-found-clause-cursor : goal.expression::step_at-returns-in_err-found-clause-cursor
expression::step_at-returns-in_err-found-clause-cursor t c = refused _ _ c.from_residual-in_err-found.result c.from_residual-in_err-found.ensures.1

pub expression::step_at-returns-in_err-pattern-clause-cursor : goal.expression::step_at-returns-in_err-pattern-clause-cursor
expression::step_at-returns-in_err-pattern-clause-cursor t c = refused _ _ c.from_residual-in_err-pattern.result c.from_residual-in_err-pattern.ensures.1

pub expression::step_at-returns-in_err-found-clause-further : goal.expression::step_at-returns-in_err-found-clause-further
expression::step_at-returns-in_err-found-clause-further t c = refused _ _ c.from_residual-in_err-found.result c.from_residual-in_err-found.ensures.1

pub expression::step_at-returns-in_err-pattern-clause-further : goal.expression::step_at-returns-in_err-pattern-clause-further
expression::step_at-returns-in_err-pattern-clause-further t c = refused _ _ c.from_residual-in_err-pattern.result c.from_residual-in_err-pattern.ensures.1

pub expression::step_at-returns-in_err-closed-clause-read : goal.expression::step_at-returns-in_err-closed-clause-read
expression::step_at-returns-in_err-closed-clause-read t c = refused _ _ c.from_residual-in_err-closed.result c.from_residual-in_err-closed.ensures.1

pub expression::step_at-returns-in_err-closed-clause-cursor : goal.expression::step_at-returns-in_err-closed-clause-cursor
expression::step_at-returns-in_err-closed-clause-cursor t c = refused _ _ c.from_residual-in_err-closed.result c.from_residual-in_err-closed.ensures.1

pub expression::step_at-returns-in_err-closed-clause-further : goal.expression::step_at-returns-in_err-closed-clause-further
expression::step_at-returns-in_err-closed-clause-further t c = refused _ _ c.from_residual-in_err-closed.result c.from_residual-in_err-closed.ensures.1

pub expression::step_at-returns-in_err-bound-clause-read : goal.expression::step_at-returns-in_err-bound-clause-read
expression::step_at-returns-in_err-bound-clause-read t c = refused _ _ c.from_residual-in_err-bound.result c.from_residual-in_err-bound.ensures.1

pub expression::step_at-returns-in_err-bound-clause-cursor : goal.expression::step_at-returns-in_err-bound-clause-cursor
expression::step_at-returns-in_err-bound-clause-cursor t c = refused _ _ c.from_residual-in_err-bound.result c.from_residual-in_err-bound.ensures.1

pub expression::step_at-returns-in_err-bound-clause-further : goal.expression::step_at-returns-in_err-bound-clause-further
expression::step_at-returns-in_err-bound-clause-further t c = refused _ _ c.from_residual-in_err-bound.result c.from_residual-in_err-bound.ensures.1

pub expression::step_at-returns-in_err-rhs-clause-read : goal.expression::step_at-returns-in_err-rhs-clause-read
expression::step_at-returns-in_err-rhs-clause-read t c = refused _ _ c.from_residual-in_err-rhs.result c.from_residual-in_err-rhs.ensures.1

pub expression::step_at-returns-in_err-rhs-clause-cursor : goal.expression::step_at-returns-in_err-rhs-clause-cursor
expression::step_at-returns-in_err-rhs-clause-cursor t c = refused _ _ c.from_residual-in_err-rhs.result c.from_residual-in_err-rhs.ensures.1

pub expression::step_at-returns-in_err-rhs-clause-further : goal.expression::step_at-returns-in_err-rhs-clause-further
expression::step_at-returns-in_err-rhs-clause-further t c = refused _ _ c.from_residual-in_err-rhs.result c.from_residual-in_err-rhs.ensures.1

pub expression::steps_at-returns-in_err-step-clause-read : goal.expression::steps_at-returns-in_err-step-clause-read
expression::steps_at-returns-in_err-step-clause-read t c = refused _ _ c.from_residual.result c.from_residual.ensures.1

pub expression::steps_at-returns-in_err-step-clause-ends : goal.expression::steps_at-returns-in_err-step-clause-ends
expression::steps_at-returns-in_err-step-clause-ends t c = refused _ _ c.from_residual.result c.from_residual.ensures.1

pub expression::steps_at-returns-in_err-step-clause-cursor : goal.expression::steps_at-returns-in_err-step-clause-cursor
expression::steps_at-returns-in_err-step-clause-cursor t c = refused _ _ c.from_residual.result c.from_residual.ensures.1

pub expression::steps_at-returns-in_err-step-clause-further : goal.expression::steps_at-returns-in_err-step-clause-further
expression::steps_at-returns-in_err-step-clause-further t c = refused _ _ c.from_residual.result c.from_residual.ensures.1

pub expression::steps_at-returns-in_err-push-clause-read : goal.expression::steps_at-returns-in_err-push-clause-read
expression::steps_at-returns-in_err-push-clause-read t c = refused _ _ c.from_residual-in_err-push.result c.from_residual-in_err-push.ensures.1

pub expression::steps_at-returns-in_err-push-clause-ends : goal.expression::steps_at-returns-in_err-push-clause-ends
expression::steps_at-returns-in_err-push-clause-ends t c = refused _ _ c.from_residual-in_err-push.result c.from_residual-in_err-push.ensures.1

pub expression::steps_at-returns-in_err-push-clause-cursor : goal.expression::steps_at-returns-in_err-push-clause-cursor
expression::steps_at-returns-in_err-push-clause-cursor t c = refused _ _ c.from_residual-in_err-push.result c.from_residual-in_err-push.ensures.1

pub expression::steps_at-returns-in_err-push-clause-further : goal.expression::steps_at-returns-in_err-push-clause-further
expression::steps_at-returns-in_err-push-clause-further t c = refused _ _ c.from_residual-in_err-push.result c.from_residual-in_err-push.ensures.1

pub object::application_at-returns-in_err-head-clause-read : goal.object::application_at-returns-in_err-head-clause-read
object::application_at-returns-in_err-head-clause-read t c = refused _ _ c.from_residual.result c.from_residual.ensures.1

pub object::application_at-returns-in_err-head-clause-cursor : goal.object::application_at-returns-in_err-head-clause-cursor
object::application_at-returns-in_err-head-clause-cursor t c = refused _ _ c.from_residual.result c.from_residual.ensures.1

pub object::application_at-returns-in_err-head-clause-further : goal.object::application_at-returns-in_err-head-clause-further
object::application_at-returns-in_err-head-clause-further t c = refused _ _ c.from_residual.result c.from_residual.ensures.1

pub object::application_at-returns-in_err-applied-in-Ok-clause-read : goal.object::application_at-returns-in_err-applied-in-Ok-clause-read
object::application_at-returns-in_err-applied-in-Ok-clause-read t c = refused _ _ c.from_residual-in_err-applied-in-Ok.result c.from_residual-in_err-applied-in-Ok.ensures.1

pub object::application_at-returns-in_err-applied-in-Ok-clause-cursor : goal.object::application_at-returns-in_err-applied-in-Ok-clause-cursor
object::application_at-returns-in_err-applied-in-Ok-clause-cursor t c = refused _ _ c.from_residual-in_err-applied-in-Ok.result c.from_residual-in_err-applied-in-Ok.ensures.1

pub object::application_at-returns-in_err-applied-in-Ok-clause-further : goal.object::application_at-returns-in_err-applied-in-Ok-clause-further
object::application_at-returns-in_err-applied-in-Ok-clause-further t c = refused _ _ c.from_residual-in_err-applied-in-Ok.result c.from_residual-in_err-applied-in-Ok.ensures.1

pub object::lambda_at-returns-in_err-opened-clause-read : goal.object::lambda_at-returns-in_err-opened-clause-read
object::lambda_at-returns-in_err-opened-clause-read t c = refused _ _ c.from_residual.result c.from_residual.ensures.1

pub object::lambda_at-returns-in_err-opened-clause-cursor : goal.object::lambda_at-returns-in_err-opened-clause-cursor
object::lambda_at-returns-in_err-opened-clause-cursor t c = refused _ _ c.from_residual.result c.from_residual.ensures.1

pub object::lambda_at-returns-in_err-opened-clause-further : goal.object::lambda_at-returns-in_err-opened-clause-further
object::lambda_at-returns-in_err-opened-clause-further t c = refused _ _ c.from_residual.result c.from_residual.ensures.1

pub object::lambda_at-returns-in_err-mode-clause-read : goal.object::lambda_at-returns-in_err-mode-clause-read
object::lambda_at-returns-in_err-mode-clause-read t c = refused _ _ c.from_residual-in_err-mode.result c.from_residual-in_err-mode.ensures.1

pub object::lambda_at-returns-in_err-mode-clause-cursor : goal.object::lambda_at-returns-in_err-mode-clause-cursor
object::lambda_at-returns-in_err-mode-clause-cursor t c = refused _ _ c.from_residual-in_err-mode.result c.from_residual-in_err-mode.ensures.1

pub object::lambda_at-returns-in_err-mode-clause-further : goal.object::lambda_at-returns-in_err-mode-clause-further
object::lambda_at-returns-in_err-mode-clause-further t c = refused _ _ c.from_residual-in_err-mode.result c.from_residual-in_err-mode.ensures.1

pub object::lambda_at-returns-in_err-name-clause-read : goal.object::lambda_at-returns-in_err-name-clause-read
object::lambda_at-returns-in_err-name-clause-read t c = refused _ _ c.from_residual-in_err-name.result c.from_residual-in_err-name.ensures.1

pub object::lambda_at-returns-in_err-name-clause-cursor : goal.object::lambda_at-returns-in_err-name-clause-cursor
object::lambda_at-returns-in_err-name-clause-cursor t c = refused _ _ c.from_residual-in_err-name.result c.from_residual-in_err-name.ensures.1

pub object::lambda_at-returns-in_err-name-clause-further : goal.object::lambda_at-returns-in_err-name-clause-further
object::lambda_at-returns-in_err-name-clause-further t c = refused _ _ c.from_residual-in_err-name.result c.from_residual-in_err-name.ensures.1

pub object::lambda_at-returns-in_err-dotted-clause-read : goal.object::lambda_at-returns-in_err-dotted-clause-read
object::lambda_at-returns-in_err-dotted-clause-read t c = refused _ _ c.from_residual-in_err-dotted.result c.from_residual-in_err-dotted.ensures.1

pub object::lambda_at-returns-in_err-dotted-clause-cursor : goal.object::lambda_at-returns-in_err-dotted-clause-cursor
object::lambda_at-returns-in_err-dotted-clause-cursor t c = refused _ _ c.from_residual-in_err-dotted.result c.from_residual-in_err-dotted.ensures.1

pub object::lambda_at-returns-in_err-dotted-clause-further : goal.object::lambda_at-returns-in_err-dotted-clause-further
object::lambda_at-returns-in_err-dotted-clause-further t c = refused _ _ c.from_residual-in_err-dotted.result c.from_residual-in_err-dotted.ensures.1

pub object::lambda_at-returns-in_err-body-clause-read : goal.object::lambda_at-returns-in_err-body-clause-read
object::lambda_at-returns-in_err-body-clause-read t c = refused _ _ c.from_residual-in_err-body.result c.from_residual-in_err-body.ensures.1

pub object::lambda_at-returns-in_err-body-clause-cursor : goal.object::lambda_at-returns-in_err-body-clause-cursor
object::lambda_at-returns-in_err-body-clause-cursor t c = refused _ _ c.from_residual-in_err-body.result c.from_residual-in_err-body.ensures.1

pub object::lambda_at-returns-in_err-body-clause-further : goal.object::lambda_at-returns-in_err-body-clause-further
object::lambda_at-returns-in_err-body-clause-further t c = refused _ _ c.from_residual-in_err-body.result c.from_residual-in_err-body.ensures.1

pub object::lambda_at-returns-in_err-lambda-clause-read : goal.object::lambda_at-returns-in_err-lambda-clause-read
object::lambda_at-returns-in_err-lambda-clause-read t c = refused _ _ c.from_residual-in_err-lambda.result c.from_residual-in_err-lambda.ensures.1

pub object::lambda_at-returns-in_err-lambda-clause-cursor : goal.object::lambda_at-returns-in_err-lambda-clause-cursor
object::lambda_at-returns-in_err-lambda-clause-cursor t c = refused _ _ c.from_residual-in_err-lambda.result c.from_residual-in_err-lambda.ensures.1

pub object::lambda_at-returns-in_err-lambda-clause-further : goal.object::lambda_at-returns-in_err-lambda-clause-further
object::lambda_at-returns-in_err-lambda-clause-further t c = refused _ _ c.from_residual-in_err-lambda.result c.from_residual-in_err-lambda.ensures.1

pub tuple::affine_at-returns-in_err-marked-clause-read : goal.tuple::affine_at-returns-in_err-marked-clause-read
tuple::affine_at-returns-in_err-marked-clause-read t c = refused _ _ c.from_residual.result c.from_residual.ensures.1

pub tuple::affine_at-returns-in_err-marked-clause-cursor : goal.tuple::affine_at-returns-in_err-marked-clause-cursor
tuple::affine_at-returns-in_err-marked-clause-cursor t c = refused _ _ c.from_residual.result c.from_residual.ensures.1

pub tuple::affine_at-returns-in_err-marked-clause-further : goal.tuple::affine_at-returns-in_err-marked-clause-further
tuple::affine_at-returns-in_err-marked-clause-further t c = refused _ _ c.from_residual.result c.from_residual.ensures.1

pub tuple::affine_at-returns-in_err-obj-clause-read : goal.tuple::affine_at-returns-in_err-obj-clause-read
tuple::affine_at-returns-in_err-obj-clause-read t c = refused _ _ c.from_residual-in_err-obj.result c.from_residual-in_err-obj.ensures.1

pub tuple::affine_at-returns-in_err-obj-clause-cursor : goal.tuple::affine_at-returns-in_err-obj-clause-cursor
tuple::affine_at-returns-in_err-obj-clause-cursor t c = refused _ _ c.from_residual-in_err-obj.result c.from_residual-in_err-obj.ensures.1

pub tuple::affine_at-returns-in_err-obj-clause-further : goal.tuple::affine_at-returns-in_err-obj-clause-further
tuple::affine_at-returns-in_err-obj-clause-further t c = refused _ _ c.from_residual-in_err-obj.result c.from_residual-in_err-obj.ensures.1

pub tuple::bare_at-returns-in_err-obj-clause-read : goal.tuple::bare_at-returns-in_err-obj-clause-read
tuple::bare_at-returns-in_err-obj-clause-read t c = refused _ _ c.from_residual.result c.from_residual.ensures.1

pub tuple::bare_at-returns-in_err-obj-clause-cursor : goal.tuple::bare_at-returns-in_err-obj-clause-cursor
tuple::bare_at-returns-in_err-obj-clause-cursor t c = refused _ _ c.from_residual.result c.from_residual.ensures.1

pub tuple::bare_at-returns-in_err-obj-clause-further : goal.tuple::bare_at-returns-in_err-obj-clause-further
tuple::bare_at-returns-in_err-obj-clause-further t c = refused _ _ c.from_residual.result c.from_residual.ensures.1

pub tuple::persistent_at-returns-in_err-marked-clause-read : goal.tuple::persistent_at-returns-in_err-marked-clause-read
tuple::persistent_at-returns-in_err-marked-clause-read t c = refused _ _ c.from_residual.result c.from_residual.ensures.1

pub tuple::persistent_at-returns-in_err-marked-clause-cursor : goal.tuple::persistent_at-returns-in_err-marked-clause-cursor
tuple::persistent_at-returns-in_err-marked-clause-cursor t c = refused _ _ c.from_residual.result c.from_residual.ensures.1

pub tuple::persistent_at-returns-in_err-marked-clause-further : goal.tuple::persistent_at-returns-in_err-marked-clause-further
tuple::persistent_at-returns-in_err-marked-clause-further t c = refused _ _ c.from_residual.result c.from_residual.ensures.1

pub tuple::persistent_at-returns-in_err-obj-clause-read : goal.tuple::persistent_at-returns-in_err-obj-clause-read
tuple::persistent_at-returns-in_err-obj-clause-read t c = refused _ _ c.from_residual-in_err-obj.result c.from_residual-in_err-obj.ensures.1

pub tuple::persistent_at-returns-in_err-obj-clause-cursor : goal.tuple::persistent_at-returns-in_err-obj-clause-cursor
tuple::persistent_at-returns-in_err-obj-clause-cursor t c = refused _ _ c.from_residual-in_err-obj.result c.from_residual-in_err-obj.ensures.1

pub tuple::persistent_at-returns-in_err-obj-clause-further : goal.tuple::persistent_at-returns-in_err-obj-clause-further
tuple::persistent_at-returns-in_err-obj-clause-further t c = refused _ _ c.from_residual-in_err-obj.result c.from_residual-in_err-obj.ensures.1

pub tuple::tuple_at-returns-in_err-behind-in-Number-clause-read : goal.tuple::tuple_at-returns-in_err-behind-in-Number-clause-read
tuple::tuple_at-returns-in_err-behind-in-Number-clause-read t c = refused _ _ c.from_residual.result c.from_residual.ensures.1

pub tuple::tuple_at-returns-in_err-behind-in-Number-clause-cursor : goal.tuple::tuple_at-returns-in_err-behind-in-Number-clause-cursor
tuple::tuple_at-returns-in_err-behind-in-Number-clause-cursor t c = refused _ _ c.from_residual.result c.from_residual.ensures.1

pub tuple::tuple_at-returns-in_err-behind-in-Number-clause-further : goal.tuple::tuple_at-returns-in_err-behind-in-Number-clause-further
tuple::tuple_at-returns-in_err-behind-in-Number-clause-further t c = refused _ _ c.from_residual.result c.from_residual.ensures.1

pub tuple::tuple_list_at-returns-in_err-opened-clause-read : goal.tuple::tuple_list_at-returns-in_err-opened-clause-read
tuple::tuple_list_at-returns-in_err-opened-clause-read t c = refused _ _ c.from_residual.result c.from_residual.ensures.1

pub tuple::tuple_list_at-returns-in_err-opened-clause-cursor : goal.tuple::tuple_list_at-returns-in_err-opened-clause-cursor
tuple::tuple_list_at-returns-in_err-opened-clause-cursor t c = refused _ _ c.from_residual.result c.from_residual.ensures.1

pub tuple::tuple_list_at-returns-in_err-opened-clause-further : goal.tuple::tuple_list_at-returns-in_err-opened-clause-further
tuple::tuple_list_at-returns-in_err-opened-clause-further t c = refused _ _ c.from_residual.result c.from_residual.ensures.1

pub tuple::tuple_list_at-returns-in_err-tuples-clause-read : goal.tuple::tuple_list_at-returns-in_err-tuples-clause-read
tuple::tuple_list_at-returns-in_err-tuples-clause-read t c = refused _ _ c.from_residual-in_err-tuples.result c.from_residual-in_err-tuples.ensures.1

pub tuple::tuple_list_at-returns-in_err-tuples-clause-cursor : goal.tuple::tuple_list_at-returns-in_err-tuples-clause-cursor
tuple::tuple_list_at-returns-in_err-tuples-clause-cursor t c = refused _ _ c.from_residual-in_err-tuples.result c.from_residual-in_err-tuples.ensures.1

pub tuple::tuple_list_at-returns-in_err-tuples-clause-further : goal.tuple::tuple_list_at-returns-in_err-tuples-clause-further
tuple::tuple_list_at-returns-in_err-tuples-clause-further t c = refused _ _ c.from_residual-in_err-tuples.result c.from_residual-in_err-tuples.ensures.1

pub tuple::tuple_list_at-returns-in_err-behind-clause-read : goal.tuple::tuple_list_at-returns-in_err-behind-clause-read
tuple::tuple_list_at-returns-in_err-behind-clause-read t c = refused _ _ c.from_residual-in_err-behind.result c.from_residual-in_err-behind.ensures.1

pub tuple::tuple_list_at-returns-in_err-behind-clause-cursor : goal.tuple::tuple_list_at-returns-in_err-behind-clause-cursor
tuple::tuple_list_at-returns-in_err-behind-clause-cursor t c = refused _ _ c.from_residual-in_err-behind.result c.from_residual-in_err-behind.ensures.1

pub tuple::tuple_list_at-returns-in_err-behind-clause-further : goal.tuple::tuple_list_at-returns-in_err-behind-clause-further
tuple::tuple_list_at-returns-in_err-behind-clause-further t c = refused _ _ c.from_residual-in_err-behind.result c.from_residual-in_err-behind.ensures.1

pub tuple::tuples_at-returns-in_err-first-clause-read : goal.tuple::tuples_at-returns-in_err-first-clause-read
tuple::tuples_at-returns-in_err-first-clause-read t c = refused _ _ c.from_residual.result c.from_residual.ensures.1

pub tuple::tuples_at-returns-in_err-first-clause-ends : goal.tuple::tuples_at-returns-in_err-first-clause-ends
tuple::tuples_at-returns-in_err-first-clause-ends t c = refused _ _ c.from_residual.result c.from_residual.ensures.1

pub tuple::tuples_at-returns-in_err-first-clause-cursor : goal.tuple::tuples_at-returns-in_err-first-clause-cursor
tuple::tuples_at-returns-in_err-first-clause-cursor t c = refused _ _ c.from_residual.result c.from_residual.ensures.1

pub tuple::tuples_at-returns-in_err-first-clause-further : goal.tuple::tuples_at-returns-in_err-first-clause-further
tuple::tuples_at-returns-in_err-first-clause-further t c = refused _ _ c.from_residual.result c.from_residual.ensures.1

pub tuple::tuples_at-returns-in_err-push-clause-read : goal.tuple::tuples_at-returns-in_err-push-clause-read
tuple::tuples_at-returns-in_err-push-clause-read t c = refused _ _ c.from_residual-in_err-push.result c.from_residual-in_err-push.ensures.1

pub tuple::tuples_at-returns-in_err-push-clause-ends : goal.tuple::tuples_at-returns-in_err-push-clause-ends
tuple::tuples_at-returns-in_err-push-clause-ends t c = refused _ _ c.from_residual-in_err-push.result c.from_residual-in_err-push.ensures.1

pub tuple::tuples_at-returns-in_err-push-clause-cursor : goal.tuple::tuples_at-returns-in_err-push-clause-cursor
tuple::tuples_at-returns-in_err-push-clause-cursor t c = refused _ _ c.from_residual-in_err-push.result c.from_residual-in_err-push.ensures.1

pub tuple::tuples_at-returns-in_err-push-clause-further : goal.tuple::tuples_at-returns-in_err-push-clause-further
tuple::tuples_at-returns-in_err-push-clause-further t c = refused _ _ c.from_residual-in_err-push.result c.from_residual-in_err-push.ensures.1

pub tuple::tuples_at-returns-in_err-next-clause-read : goal.tuple::tuples_at-returns-in_err-next-clause-read
tuple::tuples_at-returns-in_err-next-clause-read t c = refused _ _ c.from_residual-in_err-next.result c.from_residual-in_err-next.ensures.1

pub tuple::tuples_at-returns-in_err-next-clause-ends : goal.tuple::tuples_at-returns-in_err-next-clause-ends
tuple::tuples_at-returns-in_err-next-clause-ends t c = refused _ _ c.from_residual-in_err-next.result c.from_residual-in_err-next.ensures.1

pub tuple::tuples_at-returns-in_err-next-clause-cursor : goal.tuple::tuples_at-returns-in_err-next-clause-cursor
tuple::tuples_at-returns-in_err-next-clause-cursor t c = refused _ _ c.from_residual-in_err-next.result c.from_residual-in_err-next.ensures.1

pub tuple::tuples_at-returns-in_err-next-clause-further : goal.tuple::tuples_at-returns-in_err-next-clause-further
tuple::tuples_at-returns-in_err-next-clause-further t c = refused _ _ c.from_residual-in_err-next.result c.from_residual-in_err-next.ensures.1

pub tuple::tuples_at-returns-in_err-tuple-clause-read : goal.tuple::tuples_at-returns-in_err-tuple-clause-read
tuple::tuples_at-returns-in_err-tuple-clause-read t c = refused _ _ c.from_residual-in_err-tuple.result c.from_residual-in_err-tuple.ensures.1

pub tuple::tuples_at-returns-in_err-tuple-clause-ends : goal.tuple::tuples_at-returns-in_err-tuple-clause-ends
tuple::tuples_at-returns-in_err-tuple-clause-ends t c = refused _ _ c.from_residual-in_err-tuple.result c.from_residual-in_err-tuple.ensures.1

pub tuple::tuples_at-returns-in_err-tuple-clause-cursor : goal.tuple::tuples_at-returns-in_err-tuple-clause-cursor
tuple::tuples_at-returns-in_err-tuple-clause-cursor t c = refused _ _ c.from_residual-in_err-tuple.result c.from_residual-in_err-tuple.ensures.1

pub tuple::tuples_at-returns-in_err-tuple-clause-further : goal.tuple::tuples_at-returns-in_err-tuple-clause-further
tuple::tuples_at-returns-in_err-tuple-clause-further t c = refused _ _ c.from_residual-in_err-tuple.result c.from_residual-in_err-tuple.ensures.1

pub tuple::tuples_at-returns-in_err-push-2-clause-read : goal.tuple::tuples_at-returns-in_err-push-2-clause-read
tuple::tuples_at-returns-in_err-push-2-clause-read t c = refused _ _ c.from_residual-in_err-push-2.result c.from_residual-in_err-push-2.ensures.1

pub tuple::tuples_at-returns-in_err-push-2-clause-ends : goal.tuple::tuples_at-returns-in_err-push-2-clause-ends
tuple::tuples_at-returns-in_err-push-2-clause-ends t c = refused _ _ c.from_residual-in_err-push-2.result c.from_residual-in_err-push-2.ensures.1

pub tuple::tuples_at-returns-in_err-push-2-clause-cursor : goal.tuple::tuples_at-returns-in_err-push-2-clause-cursor
tuple::tuples_at-returns-in_err-push-2-clause-cursor t c = refused _ _ c.from_residual-in_err-push-2.result c.from_residual-in_err-push-2.ensures.1

pub tuple::tuples_at-returns-in_err-push-2-clause-further : goal.tuple::tuples_at-returns-in_err-push-2-clause-further
tuple::tuples_at-returns-in_err-push-2-clause-further t c = refused _ _ c.from_residual-in_err-push-2.result c.from_residual-in_err-push-2.ensures.1
