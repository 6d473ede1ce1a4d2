use Rattle.std.proofs.Common.{arith}
use Rattle.std.proofs.lemmas.Grind.{common_steps}
use Rattle.celf_surface.specs.declared.surface.SType.{the_lemmas}
use Rattle.celf_sugar.specs.SugarLists.{written_type_laws}
use Rattle.celf_sugar.proofs.EarliestLaws.{earliest_laws}
use Rattle.celf_sugar.proofs.redex.+type_redex.Goals as goal

pub type_redex_in_factors-loop-rest-preserved : goal.type_redex_in_factors-loop-rest-preserved
type_redex_in_factors-loop-rest-preserved t c = (grind (arith, common_steps, the_lemmas), grind (arith, common_steps, written_type_laws, earliest_laws))
