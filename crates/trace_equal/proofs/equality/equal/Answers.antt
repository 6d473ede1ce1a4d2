use Rattle.std.proofs.Common.{◌∙◌, ap}
use Rattle.clf_syntax.specs.Plain.{plain_obj}
use Rattle.trace_equal.specs.declared.tables.Tables.{Tables}
use Rattle.trace_equal.specs.Comparing.{compared}
use Rattle.trace_equal.proofs.Comparing.{objects_joined}
use Rattle.trace_equal.proofs.equality.equal.Goals as goal

pub returns : goal.returns
returns c = objects_joined (plain_obj c.args.one.now) (plain_obj c.args.other.now) c.in_ok-joined.joined
    (c.in_ok-joined.ensures.answer ∙ ap (λ (s : Tables). compared s (plain_obj c.args.one.now) (plain_obj c.args.other.now)) c.empty-tables.ensures)
