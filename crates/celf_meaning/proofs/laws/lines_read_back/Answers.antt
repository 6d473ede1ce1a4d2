use Rattle.celf_meaning.proofs.LinesRead.{printable_entries_read_back, printable_checks_read_back}
use Rattle.celf_meaning.proofs.laws.lines_read_back.Goals as goal

pub returns-clause-entries : goal.returns-clause-entries
returns-clause-entries c = printable_entries_read_back

pub returns-clause-checks : goal.returns-clause-checks
returns-clause-checks c = printable_checks_read_back
