use Rattle.std.proofs.Common.{inr, ◌∙◌}
use Rattle.celf_cursor.proofs.Cursors.{opens, kind_next-token}
use Rattle.celf_cursor.proofs.sign.open.Goals as goal

pub returns-clause-opened : goal.returns-clause-opened
returns-clause-opened c = opens c.args.bytes.now c.args.cursor c.advance.ensures.taken c.if-cursor-eq0.false c.in_ok-token.ensures.found.1

pub returns-then-cursor-eq0-clause-missed : goal.returns-then-cursor-eq0-clause-missed
returns-then-cursor-eq0-clause-missed c =
    inr (c.too_deep.ensures, kind_next-token c.args.bytes.now c.args.cursor _ c.in_ok-token.ensures.found.0 ∙ c.in_ok-token.ensures.found.1, c.if-cursor-eq0.true)
