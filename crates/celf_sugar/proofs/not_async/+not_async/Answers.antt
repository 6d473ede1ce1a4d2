use Rattle.std.proofs.Common.{arith}
use Rattle.std.proofs.lemmas.Grind.{common_steps}
use Rattle.celf_surface.specs.declared.surface.SType.{the_lemmas}
use Rattle.celf_sugar.specs.SugarLists.{written_type_laws}
use Rattle.celf_sugar.proofs.EarliestLaws.{earliest_laws}
use Rattle.celf_sugar.proofs.not_async.+not_async.Goals as goal

pub not_async_in_factors-loop-rest-preserved : goal.not_async_in_factors-loop-rest-preserved
not_async_in_factors-loop-rest-preserved t c = (grind (arith, common_steps, the_lemmas), grind (arith, common_steps, written_type_laws, earliest_laws))
