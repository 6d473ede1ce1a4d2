-- What has been read, and how far. Each call goes to a later byte, or to a production further down.
use Rattle.std.proofs.Common.{◌+◌, ◌-◌, ◌*◌, ◌≤◌, ◌<◌, length, map}
use Rattle.celf_surface.specs.Surface.{argument_tree, step_tree, tuple_tree}
use Rattle.celf_grammar.specs.Grammar.{IsArguments, IsSteps, IsTuples}
use Rattle.celf_cursor.specs.Cursor.{IsCursorOf, state_of}
use Rattle.celf_objects.proofs.+objects.Given as goal

abbrev pub decreases-tuple::tuples_at : goal.decreases-tuple::tuples_at
decreases-tuple::tuples_at l = (length l.bytes.now - l.cursor.end) * 11 + 10

abbrev pub decreases-expression::expression_at : goal.decreases-expression::expression_at
decreases-expression::expression_at l = (length l.bytes.now - l.cursor.end) * 11 + 10

abbrev pub decreases-expression::steps_at : goal.decreases-expression::steps_at
decreases-expression::steps_at l = (length l.bytes.now - l.cursor.end) * 11 + 9

abbrev pub decreases-expression::step_at : goal.decreases-expression::step_at
decreases-expression::step_at l = (length l.bytes.now - l.cursor.end) * 11 + 8

abbrev pub decreases-tuple::tuple_at : goal.decreases-tuple::tuple_at
decreases-tuple::tuple_at l = (length l.bytes.now - l.cursor.end) * 11 + 7

abbrev pub decreases-tuple::tuple_list_at : goal.decreases-tuple::tuple_list_at
decreases-tuple::tuple_list_at l = (length l.bytes.now - l.cursor.end) * 11 + 6

abbrev pub decreases-tuple::persistent_at : goal.decreases-tuple::persistent_at
decreases-tuple::persistent_at l = (length l.bytes.now - l.cursor.end) * 11 + 6

abbrev pub decreases-tuple::affine_at : goal.decreases-tuple::affine_at
decreases-tuple::affine_at l = (length l.bytes.now - l.cursor.end) * 11 + 6

abbrev pub decreases-tuple::bare_at : goal.decreases-tuple::bare_at
decreases-tuple::bare_at l = (length l.bytes.now - l.cursor.end) * 11 + 6

abbrev pub decreases-object::object_at : goal.decreases-object::object_at
decreases-object::object_at l = (length l.bytes.now - l.cursor.end) * 11 + 5

abbrev pub decreases-object::lambda_at : goal.decreases-object::lambda_at
decreases-object::lambda_at l = (length l.bytes.now - l.cursor.end) * 11 + 4

abbrev pub decreases-object::applied_object_at : goal.decreases-object::applied_object_at
decreases-object::applied_object_at l = (length l.bytes.now - l.cursor.end) * 11 + 4

abbrev pub decreases-object::application_at : goal.decreases-object::application_at
decreases-object::application_at l = (length l.bytes.now - l.cursor.end) * 11 + 3

abbrev pub decreases-arguments::arguments_at : goal.decreases-arguments::arguments_at
decreases-arguments::arguments_at l = (length l.bytes.now - l.cursor.end) * 11 + 2

abbrev pub decreases-atom::atom_at : goal.decreases-atom::atom_at
decreases-atom::atom_at l = (length l.bytes.now - l.cursor.end) * 11 + 1

abbrev pub decreases-atom::pair_at : goal.decreases-atom::pair_at
decreases-atom::pair_at l = (length l.bytes.now - l.cursor.end) * 11

abbrev pub decreases-atom::braces_at : goal.decreases-atom::braces_at
decreases-atom::braces_at l = (length l.bytes.now - l.cursor.end) * 11

abbrev pub decreases-atom::group_at : goal.decreases-atom::group_at
decreases-atom::group_at l = (length l.bytes.now - l.cursor.end) * 11

abbrev pub decreases-atom::first_at : goal.decreases-atom::first_at
decreases-atom::first_at l = (length l.bytes.now - l.cursor.end) * 11

abbrev pub decreases-atom::second_at : goal.decreases-atom::second_at
decreases-atom::second_at l = (length l.bytes.now - l.cursor.end) * 11

abbrev pub invariant-arguments::arguments_at-loop-alloc : goal.invariant-arguments::arguments_at-loop-alloc
invariant-arguments::arguments_at-loop-alloc l =
    IsArguments (state_of l.bytes l.fn.cursor) (map argument_tree l.args) (state_of l.bytes l.last)
    × IsCursorOf l.bytes l.last × (l.fn.cursor.end ≤ l.last.end)

abbrev pub decreases-arguments::arguments_at-loop-alloc : goal.decreases-arguments::arguments_at-loop-alloc
decreases-arguments::arguments_at-loop-alloc l = length l.bytes - l.last.end

abbrev pub invariant-expression::steps_at-loop-alloc : goal.invariant-expression::steps_at-loop-alloc
invariant-expression::steps_at-loop-alloc l =
    IsSteps (state_of l.bytes l.fn.cursor) (map step_tree l.steps) (state_of l.bytes l.last)
    × IsCursorOf l.bytes l.last × (l.fn.cursor.end ≤ l.last.end)

abbrev pub decreases-expression::steps_at-loop-alloc : goal.decreases-expression::steps_at-loop-alloc
decreases-expression::steps_at-loop-alloc l = length l.bytes - l.last.end

abbrev pub invariant-tuple::tuples_at-loop-alloc : goal.invariant-tuple::tuples_at-loop-alloc
invariant-tuple::tuples_at-loop-alloc l =
    IsTuples (state_of l.bytes l.fn.cursor) (map tuple_tree l.tuples) (state_of l.bytes l.last)
    × IsCursorOf l.bytes l.last × (l.fn.cursor.end < l.last.end)

abbrev pub decreases-tuple::tuples_at-loop-alloc : goal.decreases-tuple::tuples_at-loop-alloc
decreases-tuple::tuples_at-loop-alloc l = length l.bytes - l.last.end
