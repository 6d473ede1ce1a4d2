use Rattle.celf_reading.proofs.LinesBack.{check_lines_read_back}
use Rattle.celf_reading.proofs.laws.check_lines_read_back.Goals as goal

pub returns : goal.returns
returns c = check_lines_read_back
