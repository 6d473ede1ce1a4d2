use Rattle.celf_cursor.proofs.Words.{takes_constant}
use Rattle.celf_cursor.proofs.word.take_constant.Goals as goal

pub returns-clause-taken : goal.returns-clause-taken
returns-clause-taken c = takes_constant c.args.bytes.now c.args.cursor c.advance.ensures.taken c.in_ok-token.ensures.found.1 c.in_ok-name.ensures
