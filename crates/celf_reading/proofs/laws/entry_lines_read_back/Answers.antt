use Rattle.celf_reading.proofs.LinesBack.{entry_lines_read_back}
use Rattle.celf_reading.proofs.laws.entry_lines_read_back.Goals as goal

pub returns : goal.returns
returns c = entry_lines_read_back
