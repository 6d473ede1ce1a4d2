use Rattle.std.proofs.Common.{sym, ap, ◌∙◌}
use Rattle.celf_lexer.specs.Tokens.{next_token}
use Rattle.celf_parser.proofs.Items.{end-gap}
use Rattle.celf_cursor.proofs.Faulty.{passed, refused}
use Rattle.celf_parser.proofs.Places.{placed-fault, lost-fault}
use Rattle.celf_parser.proofs.item.next_item.Goals as goal

pub returns-in-End-clause-none : goal.returns-in-End-clause-none
returns-in-End-clause-none c =
    let first = ap (next_token c.args.bytes.now) (sym c.cursor_at-cursor.ensures.end) ∙ sym c.cursor_at-cursor.ensures.cursor.next ∙ c.in-Ok.is in
    end-gap c.args.bytes.now c.args.at c.in-Ok.token c.requires.place first c.in-End.is

pub returns-in_err-item_at-in_default : goal.returns-in_err-item_at-in_default
returns-in_err-item_at-in_default c =
    let r = c.from_residual.result in
    let e = c.from_residual.ensures.1 in
    let at = c.cursor_at-cursor.ensures in
    record {
      item = refused _ _ r e;
      behind = refused _ _ r e;
      name = refused _ _ r e;
      none = refused _ _ r e;
      fault = passed _ r e (placed-fault c.args.bytes.now c.args.at c.cursor_at-cursor.result c.in-Ok.token _ c.requires.place at.cursor at.end at.state c.in-Ok.is c.in_default.not-End
          c.in_err-item_at-in_default.ensures.fault);
    }

pub returns-in-Err-clause-fault : goal.returns-in-Err-clause-fault
returns-in-Err-clause-fault c =
    let at = c.cursor_at-cursor.ensures in
    λ m. lost-fault c.args.bytes.now c.args.at c.cursor_at-cursor.result c.in-Err.fault at.cursor at.end c.in-Err.is
