use Rattle.std.proofs.Common.{◌∙◌, ap, sym, arith, ◌<◌, length}
use Rattle.clf_syntax.specs.TypeTree.{PlainTelescope}
use Rattle.clf_syntax.specs.PlainTypes.{plain_tele, plain-Monad}
use Rattle.run_printer.specs.Runs.{run_type}
use Rattle.run_printer.proofs.Binding.{none_left, bound_function}
use Rattle.run_printer.proofs.text.+bound_type.Goals as goal

pub returns-then-at-entries : goal.returns-then-at-entries
returns-then-at-entries t c =
    plain-Monad c.in_ok-copy.field-0 ∙ ap (λ s. run_type PlainTelescope.end (plain_tele s)) c.in_ok-copy.ensures
    ∙ ap (λ s. run_type s (plain_tele c.args.finish.now)) (sym (none_left c.args.entries.now c.args.at c.if-at-entries.true))

pub bound_type-requires : goal.bound_type-requires
bound_type-requires t c = (omega (arith, c.requires, c.if-at-entries.false), omega (arith, c.requires, c.if-at-entries.false))

pub returns : goal.returns
returns t c =
    let more : c.args.at < length c.args.entries.now = omega (arith, c.requires, c.if-at-entries.false) in
    bound_function c.args.entries.now c.args.at c.index-entries-at.result more c.index-entries-at.is (plain_tele c.args.finish.now) c.in_ok-dom.dom c.in_ok-cod.cod c.in_ok-bound_type.field-0
    (c.in_ok-dom.ensures ∙ c.in_ok-copy-2.ensures) c.in_ok-cod.ensures c.in_ok-bound_type.ensures
