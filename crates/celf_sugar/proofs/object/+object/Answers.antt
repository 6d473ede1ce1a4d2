-- One call for each goal: what is tried before it closes none of these.
use Rattle.std.proofs.Common.{arith}
use Rattle.std.proofs.lemmas.Grind.{common_steps}
use Rattle.celf_sugar.specs.Plain.{elim_laws, form_laws, expression_laws, marked_laws, object_laws, step_laws}
use Rattle.celf_sugar.specs.SugarLists.{written_object_laws, written_part_laws, written_tuple_laws, sugar_laws}
use Rattle.celf_sugar.proofs.object.+object.Goals as goal

pub argument-returns : goal.argument-returns
argument-returns t c = grind (arith, written_part_laws, elim_laws)

pub arguments-loop-arg-preserved : goal.arguments-loop-arg-preserved
arguments-loop-arg-preserved t c = grind (arith, common_steps)

pub arguments-returns : goal.arguments-returns
arguments-returns t c = grind (arith, common_steps)

pub expression-returns : goal.expression-returns
expression-returns t c = grind (arith, expression_laws, sugar_laws)

pub marked-returns : goal.marked-returns
marked-returns t c = grind (arith, marked_laws)

pub object-returns : goal.object-returns
object-returns t c = grind (arith, object_laws)

pub steps-loop-written-preserved : goal.steps-loop-written-preserved
steps-loop-written-preserved t c = grind (arith, common_steps)

pub steps-returns : goal.steps-returns
steps-returns t c = grind (arith, common_steps)

pub tuples-loop-part-preserved : goal.tuples-loop-part-preserved
tuples-loop-part-preserved t c = grind (arith, common_steps)

pub tuples-returns : goal.tuples-returns
tuples-returns t c = grind (arith, common_steps)

pub step-returns : goal.step-returns
step-returns t c = grind (arith, written_part_laws, step_laws)

pub object_form-returns-in-Hole : goal.object_form-returns-in-Hole
object_form-returns-in-Hole t c = grind (arith, written_object_laws, form_laws)

pub object_form-returns-in-Unit : goal.object_form-returns-in-Unit
object_form-returns-in-Unit t c = grind (arith, written_object_laws, form_laws)

pub object_form-returns-in_ok-expression-in-Braces : goal.object_form-returns-in_ok-expression-in-Braces
object_form-returns-in_ok-expression-in-Braces t c = grind (arith, written_object_laws, form_laws)

pub object_form-returns-in_ok-spine_of_head-in-App : goal.object_form-returns-in_ok-spine_of_head-in-App
object_form-returns-in_ok-spine_of_head-in-App t c = grind (arith, written_object_laws, form_laws)

pub object_form-returns-in_ok-right-in-Pair : goal.object_form-returns-in_ok-right-in-Pair
object_form-returns-in_ok-right-in-Pair t c = grind (arith, written_object_laws, form_laws)

pub spine_of_head-returns-in-Named : goal.spine_of_head-returns-in-Named
spine_of_head-returns-in-Named t c = grind (arith, written_object_laws, elim_laws, sugar_laws)

pub spine_of_head-returns-in_ok-arguments-in-App : goal.spine_of_head-returns-in_ok-arguments-in-App
spine_of_head-returns-in_ok-arguments-in-App t c = grind (arith, written_object_laws, elim_laws, sugar_laws)

pub spine_of_head-returns-in_ok-spine_of_head-in-First : goal.spine_of_head-returns-in_ok-spine_of_head-in-First
spine_of_head-returns-in_ok-spine_of_head-in-First t c = grind (arith, written_object_laws, elim_laws, sugar_laws)

pub spine_of_head-returns-in_ok-spine_of_head-in-Second : goal.spine_of_head-returns-in_ok-spine_of_head-in-Second
spine_of_head-returns-in_ok-spine_of_head-in-Second t c = grind (arith, written_object_laws, elim_laws, sugar_laws)

pub tuple-returns-in-Bare : goal.tuple-returns-in-Bare
tuple-returns-in-Bare t c = grind (arith, written_tuple_laws, sugar_laws)

pub tuple-returns-in-List : goal.tuple-returns-in-List
tuple-returns-in-List t c = grind (arith, written_tuple_laws, sugar_laws)

pub tuple-returns-in-Marked : goal.tuple-returns-in-Marked
tuple-returns-in-Marked t c = grind (arith, written_tuple_laws, sugar_laws)

pub tuple-returns-in-One : goal.tuple-returns-in-One
tuple-returns-in-One t c = grind (arith, written_tuple_laws, sugar_laws)
