-- One call for each form: what is tried before it closes none of these.
use Rattle.std.proofs.Common.{arith}
use Rattle.celf_sugar.specs.SugarLists.{written_type_laws}
use Rattle.celf_sugar.proofs.types.+is_kind.Goals as goal

pub returns-in-Pi : goal.returns-in-Pi
returns-in-Pi t c = grind (arith, written_type_laws)

pub returns-in-To : goal.returns-in-To
returns-in-To t c = grind (arith, written_type_laws)

pub returns-in-Back : goal.returns-in-Back
returns-in-Back t c = grind (arith, written_type_laws)

pub returns-in-TypeWord : goal.returns-in-TypeWord
returns-in-TypeWord t c = grind (arith, written_type_laws)

pub returns-in-Lolli : goal.returns-in-Lolli
returns-in-Lolli t c = grind (arith, written_type_laws)

pub returns-in-Lolli-2 : goal.returns-in-Lolli-2
returns-in-Lolli-2 t c = grind (arith, written_type_laws)

pub returns-in-Lolli-3 : goal.returns-in-Lolli-3
returns-in-Lolli-3 t c = grind (arith, written_type_laws)

pub returns-in-Exists : goal.returns-in-Exists
returns-in-Exists t c = grind (arith, written_type_laws)

pub returns-in-Exists-2 : goal.returns-in-Exists-2
returns-in-Exists-2 t c = grind (arith, written_type_laws)

pub returns-in-Exists-3 : goal.returns-in-Exists-3
returns-in-Exists-3 t c = grind (arith, written_type_laws)

pub returns-in-Exists-4 : goal.returns-in-Exists-4
returns-in-Exists-4 t c = grind (arith, written_type_laws)

pub returns-in-Exists-5 : goal.returns-in-Exists-5
returns-in-Exists-5 t c = grind (arith, written_type_laws)

pub returns-in-Exists-6 : goal.returns-in-Exists-6
returns-in-Exists-6 t c = grind (arith, written_type_laws)

pub returns-in-Exists-7 : goal.returns-in-Exists-7
returns-in-Exists-7 t c = grind (arith, written_type_laws)

pub returns-in-Exists-8 : goal.returns-in-Exists-8
returns-in-Exists-8 t c = grind (arith, written_type_laws)
