use Rattle.celf_explicit.proofs.SimpleTypeOfCore.{simple_type_of_core}
use Rattle.celf_explicit.proofs.laws.simple_type_of_core.Goals as goal

pub returns : goal.returns
returns c = simple_type_of_core
