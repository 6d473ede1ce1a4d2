use Rattle.reach_laws.proofs.Again.{put_in_again}
use Rattle.reach_laws.proofs.PartsUnder.{parts_stay}
use Rattle.reach_laws.proofs.Down.{down_further_law}
use Rattle.reach_laws.proofs.laws.putting_in.Goals as goal

pub returns-clause-put_in_again : goal.returns-clause-put_in_again
returns-clause-put_in_again c = put_in_again

pub returns-clause-parts_stay : goal.returns-clause-parts_stay
returns-clause-parts_stay c = parts_stay

pub returns-clause-down_further : goal.returns-clause-down_further
returns-clause-down_further c = down_further_law
