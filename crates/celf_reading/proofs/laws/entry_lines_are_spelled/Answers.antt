use Rattle.celf_reading.proofs.WellFormedLines.{entry_lines_are_spelled}
use Rattle.celf_reading.proofs.laws.entry_lines_are_spelled.Goals as goal

pub returns : goal.returns
returns c = entry_lines_are_spelled
