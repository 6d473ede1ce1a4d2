use Rattle.celf_cursor.proofs.Cursors.{takes}
use Rattle.celf_cursor.proofs.sign.take.Goals as goal

pub returns-clause-taken : goal.returns-clause-taken
returns-clause-taken c = takes c.args.bytes.now c.args.cursor c.advance.ensures.taken c.in_ok-token.ensures.found.1
