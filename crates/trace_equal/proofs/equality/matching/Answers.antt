use Rattle.std.proofs.Common.{◌∙◌, ap}
use Rattle.clf_syntax.specs.Plain.{plain_expr}
use Rattle.trace_equal.specs.declared.tables.Tables.{Tables}
use Rattle.trace_equal.specs.Comparing.{first_under}
use Rattle.trace_equal.proofs.Comparing.{expressions_matched}
use Rattle.trace_equal.proofs.equality.matching.Goals as goal

pub returns : goal.returns
returns c = expressions_matched (plain_expr c.args.left.now) (plain_expr c.args.right.now) c.in_ok-places.places
    (c.in_ok-places.ensures.found ∙ ap (λ (s : Tables). first_under s (plain_expr c.args.left.now) (plain_expr c.args.right.now)) c.empty-tables.ensures)
