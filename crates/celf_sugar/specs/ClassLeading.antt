-- Inner: the persistent functions or arguments that a declaration's class begins with.
use Rattle.std.specs.Prelude.{ℕ, ◌+◌}
use Rattle.celf_sugar.specs.PlainTree.{DesugaredTelescope, end, binding, DesugaredClass, of_family, of_constant}
use Rattle.celf_sugar.specs.Faults.{leading}

-- how many entries a telescope has
abbrev pub telescope_length : DesugaredTelescope → ℕ
telescope_length end = 0
telescope_length (binding m n a t) = telescope_length t + 1

-- those of a family's kind, or of a constant's type
abbrev pub class_leading : DesugaredClass → ℕ
class_leading (of_family t) = telescope_length t
class_leading (of_constant a) = leading a
