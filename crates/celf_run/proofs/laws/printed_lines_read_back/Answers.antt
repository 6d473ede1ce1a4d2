use Rattle.celf_run.proofs.Replies.{allowed-reads_back}
use Rattle.celf_run.proofs.laws.printed_lines_read_back.Goals as goal

pub returns : goal.returns
returns c = allowed-reads_back
