use Rattle.celf_cursor.specs.Cursor.{state_of}
use Rattle.celf_cursor.proofs.Cursors.{next-taken}
use Rattle.celf_cursor.proofs.cursor.advance.Goals as goal

pub returns-clause-taken : goal.returns-clause-taken
unfolding state_of
returns-clause-taken c = next-taken c.args.bytes.now c.args.cursor c.args.token c.args.room _ c.requires.cursor c.requires.next c.requires.kind c.cursor_at-behind.ensures.state
