use Rattle.std.proofs.Common.{sym, ◌∙◌}
use Rattle.celf_cursor.proofs.Cursors.{spelling_next-token}
use Rattle.celf_cursor.proofs.Words.{takes_word}
use Rattle.celf_cursor.proofs.word.take_word.Goals as goal

pub returns-then-is_spelled-clause-taken : goal.returns-then-is_spelled-clause-taken
returns-then-is_spelled-clause-taken c =
    takes_word c.args.bytes.now c.args.cursor c.advance.ensures.taken c.in_ok-token.ensures.found.1 (sym c.bytes_of.ensures ∙ c.is_spelled.ensures.0 c.if-is_spelled.true)

pub returns-else-is_spelled-clause-missed : goal.returns-else-is_spelled-clause-missed
returns-else-is_spelled-clause-missed c =
    let spelled = spelling_next-token c.args.bytes.now c.args.cursor _ c.in_ok-token.ensures.found.0 in
    (c.unexpected.ensures, λ _ e. cc (c.if-is_spelled.false, c.is_spelled.ensures.1 (c.bytes_of.ensures ∙ sym spelled ∙ e)))
