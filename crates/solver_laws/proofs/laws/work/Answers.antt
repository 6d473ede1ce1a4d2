use Rattle.solver_laws.proofs.Works.{work_starts, work_begins, work_takes, work_assigns, work_narrows, work_reduces, work_ends, work_clashes}
use Rattle.solver_laws.proofs.Reducing.{work_is_reduced}
use Rattle.solver_laws.proofs.laws.work.Goals as goal

pub returns-clause-starts : goal.returns-clause-starts
returns-clause-starts c = work_starts

pub returns-clause-begins : goal.returns-clause-begins
returns-clause-begins c = work_begins

pub returns-clause-takes : goal.returns-clause-takes
returns-clause-takes c = work_takes

pub returns-clause-assigns : goal.returns-clause-assigns
returns-clause-assigns c = work_assigns

pub returns-clause-narrows : goal.returns-clause-narrows
returns-clause-narrows c = work_narrows

pub returns-clause-reduces : goal.returns-clause-reduces
returns-clause-reduces c = work_reduces

pub returns-clause-ends : goal.returns-clause-ends
returns-clause-ends c = work_ends

pub returns-clause-clashes : goal.returns-clause-clashes
returns-clause-clashes c = work_clashes

pub returns-clause-is_reduced : goal.returns-clause-is_reduced
returns-clause-is_reduced c = work_is_reduced
