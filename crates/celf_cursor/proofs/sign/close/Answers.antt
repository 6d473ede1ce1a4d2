use Rattle.std.proofs.Common.{sym, subst}
use Rattle.celf_grammar.specs.State.{State, Closes}
use Rattle.celf_cursor.specs.Cursor.{state_of}
use Rattle.celf_cursor.proofs.Cursors.{closes}
use Rattle.celf_cursor.proofs.sign.close.Goals as goal

pub returns-clause-closed : goal.returns-clause-closed
returns-clause-closed c =
    let before = state_of c.args.bytes.now c.args.before in
    let here = state_of c.args.bytes.now c.args.cursor in
    subst (λ (u : State). Closes c.args.kind before.room here u) (sym c.with_stars.ensures.state)
    (closes c.args.bytes.now c.args.before c.advance-behind.ensures.taken c.in_ok-token.ensures.found.1)
