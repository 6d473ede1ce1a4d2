use Rattle.celf_reading.proofs.WellFormedLines.{check_lines_are_spelled}
use Rattle.celf_reading.proofs.laws.check_lines_are_spelled.Goals as goal

pub returns : goal.returns
returns c = check_lines_are_spelled
