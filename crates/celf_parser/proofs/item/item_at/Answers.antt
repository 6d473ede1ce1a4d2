use Rattle.std.proofs.Common.{arith, sym, subst, ◌∷◌}
use Rattle.celf_grammar.specs.Machine.{Item}
use Rattle.celf_cursor.specs.Cursor.{state_of}
use Rattle.celf_parser.specs.Fault.{IsItemFault}
use Rattle.celf_parser.proofs.BodyFaults.{item_stop-fault}
use Rattle.celf_parser.proofs.Items.{item-read, span-end}
use Rattle.celf_parser.proofs.item.item_at.Goals as goal

pub returns-in-Ok-clause-read : goal.returns-in-Ok-clause-read
returns-in-Ok-clause-read c =
    item-read c.args.bytes.now _ _ c.in-Ok.end _ _ c.in-Ok.ensures.cursor c.in_ok-body.ensures.read c.in-Ok.ensures.taken c.span_from-span.ensures

pub returns-in-Ok-clause-behind : goal.returns-in-Ok-clause-behind
returns-in-Ok-clause-behind c =
    let e = span-end c.args.bytes.now (state_of c.args.bytes.now c.args.cursor) c.in-Ok.end c.span_from-span.result c.span_from-span.ensures in
    let a = c.in_ok-body.ensures.further in
    let b = c.in-Ok.ensures.further in
    let w = c.in-Ok.ensures.cursor.within in
    (omega arith, omega arith)

pub returns-in-Err-clause-fault : goal.returns-in-Err-clause-fault
returns-in-Err-clause-fault c k =
    subst (IsItemFault c.args.bytes.now (Item ∷ k) (state_of c.args.bytes.now c.args.cursor)) (sym c.from.ensures)
    (item_stop-fault _ _ _ _ k _ c.in_ok-body.ensures.read c.in_ok-body.ensures.cursor c.in-Err.ensures.missed)
