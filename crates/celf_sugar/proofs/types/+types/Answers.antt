use Rattle.std.proofs.Common.{arith, append_assoc}
use Rattle.std.proofs.lemmas.Grind.{common_steps}
use Rattle.celf_surface.specs.declared.surface.SType.{the_lemmas}
use Rattle.celf_sugar.specs.SugarLists.{written_type_laws}
use Rattle.celf_sugar.proofs.types.+types.Goals as goal

pub entries_of_factors-loop-rest-preserved : goal.entries_of_factors-loop-rest-preserved
entries_of_factors-loop-rest-preserved t c = (grind (arith, common_steps, the_lemmas), grind (arith, common_steps, written_type_laws, append_assoc))

-- one call for each form: what is tried before it closes none of these
pub entries-returns-in-One : goal.entries-returns-in-One
entries-returns-in-One t c = grind (arith, written_type_laws)

pub entries-returns-in_ok-dom-in-Exists : goal.entries-returns-in_ok-dom-in-Exists
entries-returns-in_ok-dom-in-Exists t c = grind (arith, written_type_laws)

pub entries-returns-in_ok-first-in-Tensor : goal.entries-returns-in_ok-first-in-Tensor
entries-returns-in_ok-first-in-Tensor t c = grind (arith, written_type_laws)

pub entries-returns-in_ok-ty-in-Marked : goal.entries-returns-in_ok-ty-in-Marked
entries-returns-in_ok-ty-in-Marked t c = grind (arith, written_type_laws)

pub entries-returns-in_ok-ty-in-Pi : goal.entries-returns-in_ok-ty-in-Pi
entries-returns-in_ok-ty-in-Pi t c = grind (arith, written_type_laws)

pub plain_type_of-returns-in-Family : goal.plain_type_of-returns-in-Family
plain_type_of-returns-in-Family t c = grind (arith, written_type_laws)

pub plain_type_of-returns-in-Top : goal.plain_type_of-returns-in-Top
plain_type_of-returns-in-Top t c = grind (arith, written_type_laws)

pub plain_type_of-returns-in_ok-dom-in-Affine : goal.plain_type_of-returns-in_ok-dom-in-Affine
plain_type_of-returns-in_ok-dom-in-Affine t c = grind (arith, written_type_laws)

pub plain_type_of-returns-in_ok-dom-in-Back : goal.plain_type_of-returns-in_ok-dom-in-Back
plain_type_of-returns-in_ok-dom-in-Back t c = grind (arith, written_type_laws)

pub plain_type_of-returns-in_ok-dom-in-Pi : goal.plain_type_of-returns-in_ok-dom-in-Pi
plain_type_of-returns-in_ok-dom-in-Pi t c = grind (arith, written_type_laws)

pub plain_type_of-returns-in_ok-dom-in-To : goal.plain_type_of-returns-in_ok-dom-in-To
plain_type_of-returns-in_ok-dom-in-To t c = grind (arith, written_type_laws)

pub plain_type_of-returns-in_ok-doms-in-BackLolli : goal.plain_type_of-returns-in_ok-doms-in-BackLolli
plain_type_of-returns-in_ok-doms-in-BackLolli t c = grind (arith, written_type_laws)

pub plain_type_of-returns-in_ok-doms-in-Lolli : goal.plain_type_of-returns-in_ok-doms-in-Lolli
plain_type_of-returns-in_ok-doms-in-Lolli t c = grind (arith, written_type_laws)

pub plain_type_of-returns-in_ok-entries-in-Braces : goal.plain_type_of-returns-in_ok-entries-in-Braces
plain_type_of-returns-in_ok-entries-in-Braces t c = grind (arith, written_type_laws)

pub plain_type_of-returns-in_ok-left-in-With : goal.plain_type_of-returns-in_ok-left-in-With
plain_type_of-returns-in_ok-left-in-With t c = grind (arith, written_type_laws)
