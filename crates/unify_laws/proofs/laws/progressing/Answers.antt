use Rattle.unify_laws.proofs.Preserved.{progress_start, progress_assign, progress_narrow}
use Rattle.unify_laws.proofs.laws.progressing.Goals as goal

pub returns-clause-progress_starts : goal.returns-clause-progress_starts
returns-clause-progress_starts c = progress_start

pub returns-clause-assign_progresses : goal.returns-clause-assign_progresses
returns-clause-assign_progresses c = progress_assign

pub returns-clause-narrow_progresses : goal.returns-clause-narrow_progresses
returns-clause-narrow_progresses c = progress_narrow
