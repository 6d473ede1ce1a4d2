use Rattle.std.proofs.Common.{◌∙◌, ap, sym, arith, ◌<◌, length}
use Rattle.clf_syntax.specs.TypeTree.{PlainTelescope}
use Rattle.clf_syntax.specs.Plain.{plain_expr, plain-Mon}
use Rattle.run_printer.specs.Runs.{run_object}
use Rattle.run_printer.proofs.Binding.{none_left, bound_lambda}
use Rattle.run_printer.proofs.text.+bound_object.Goals as goal

pub returns-then-at-entries : goal.returns-then-at-entries
returns-then-at-entries t c =
    plain-Mon c.in_ok-expr.expr ∙ ap (λ e. run_object PlainTelescope.end (plain_expr e)) (c.in_ok-expr.ensures ∙ c.in_ok-copy.ensures)
    ∙ ap (λ s. run_object s (plain_expr c.args.run.now)) (sym (none_left c.args.entries.now c.args.at c.if-at-entries.true))

pub bound_object-requires : goal.bound_object-requires
bound_object-requires t c = (omega (arith, c.requires, c.if-at-entries.false), omega (arith, c.requires, c.if-at-entries.false))

pub returns : goal.returns
returns t c =
    let more : c.args.at < length c.args.entries.now = omega (arith, c.requires, c.if-at-entries.false) in
    bound_lambda c.args.entries.now c.args.at c.index-entries-at.result more c.index-entries-at.is (plain_expr c.args.run.now) c.in_ok-body.body c.in_ok-bound_object.field-0
    c.in_ok-body.ensures c.in_ok-bound_object.ensures
