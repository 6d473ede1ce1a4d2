use Rattle.std.proofs.Common.{◌+◌, ◌++◌, map, drop, ◌∙◌, ap, arith, length}
use Rattle.clf_syntax.specs.PlainSimple.{plain_simple_entry}
use Rattle.clf_syntax.specs.PlainTypes.{plain_tele_entry}
use Rattle.celf_gather.specs.Walks.{erased_entry}
use Rattle.celf_gather.proofs.Lists.{made_more, made_all, locals_made, in_items}
use Rattle.celf_gather.proofs.locals.simple_locals.Goals as goal

pub loop-entry-init : goal.loop-entry-init
loop-entry-init c = ap (λ xs. map plain_simple_entry xs ++ map (λ e. erased_entry (plain_tele_entry e)) c.args.ctx.now.entries) c.new-locals.ensures.items

pub loop-entry-preserved : goal.loop-entry-preserved
loop-entry-preserved c =
    let e = c.as_slice-entry-items.ensures in
    ap (λ xs. map plain_simple_entry xs ++ map (λ e. erased_entry (plain_tele_entry e)) (drop (c.loop-entry.entry-index + 1) c.args.ctx.now.entries)) c.in_ok-push.ensures.items
    ∙ made_more plain_simple_entry (λ e. erased_entry (plain_tele_entry e)) c.loop-entry.locals.items c.args.ctx.now.entries c.loop-entry.entry-index c.in_ok-simple_entry.field-0 c.entry-item.result
    (omega (arith, c.loop-entry-test.true, ap length e)) (in_items e c.loop-entry.entry-index c.entry-item.is) c.in_ok-simple_entry.ensures
    ∙ c.loop-entry.invariant

pub returns : goal.returns
returns c =
    let e = c.as_slice-entry-items.ensures in
    locals_made c.loop-entry.locals.items c.args.ctx.now.entries
    (made_all plain_simple_entry (λ e. erased_entry (plain_tele_entry e)) c.loop-entry.locals.items c.args.ctx.now.entries c.loop-entry.entry-index (omega (arith, c.loop-entry-test.false, ap length e)) c.loop-entry.invariant)
