use Rattle.std.proofs.Common.{arith}
use Rattle.celf_surface.specs.Surface.{argument_tree, step_tree, tuple_tree}
use Rattle.celf_sugar.specs.Faults.{start, tuple_redexes}
use Rattle.celf_sugar.specs.FaultLists.{of_argument, of_step}
use Rattle.celf_sugar.proofs.EarliestLaws.{one_more}
use Rattle.celf_sugar.proofs.redex.+redex.Goals as goal

pub redex_in_arguments-loop-arg-preserved : goal.redex_in_arguments-loop-arg-preserved
redex_in_arguments-loop-arg-preserved t c = let e = one_more start argument_tree of_argument c.args.args.now c.loop-arg.arg-index c.arg-item.result (omega arith) c.arg-item.is in cc

pub redex_in_steps-loop-step-preserved : goal.redex_in_steps-loop-step-preserved
redex_in_steps-loop-step-preserved t c = let e = one_more start step_tree of_step c.args.steps.now c.loop-step.step-index c.step-item.result (omega arith) c.step-item.is in cc

pub redex_in_tuples-loop-tuple-preserved : goal.redex_in_tuples-loop-tuple-preserved
redex_in_tuples-loop-tuple-preserved t c = let e = one_more start tuple_tree tuple_redexes c.args.tuples.now c.loop-tuple.tuple-index c.tuple-item.result (omega arith) c.tuple-item.is in cc
