use Rattle.std.proofs.Common.{◌∙◌}
use Rattle.celf_lexer.specs.declared.token.TokenKind.TheVariants as token
use Rattle.celf_surface.specs.Surface.{form-Unit}
use Rattle.celf_cursor.proofs.Faulty.{passed, refused, taken-missed}
use Rattle.celf_objects.proofs.Reading.{unit-read}
use Rattle.celf_objects.proofs.atom.unit_at.Goals as goal

pub returns-clause-read : goal.returns-clause-read
returns-clause-read c = unit-read c.in_ok-behind.ensures.taken c.span_from.ensures (c.leaf.ensures ∙ form-Unit _)

pub returns-in_err-behind-clause-fault : goal.returns-in_err-behind-clause-fault
returns-in_err-behind-clause-fault c = passed _ c.from_residual.result c.from_residual.ensures.1 (λ k. taken-missed _ _ token.UnitSign _ _ c.requires.kind c.in_err-behind.ensures.missed)

pub returns-in_err-behind-clause-read : goal.returns-in_err-behind-clause-read
returns-in_err-behind-clause-read c = refused _ _ c.from_residual.result c.from_residual.ensures.1

pub returns-in_err-behind-clause-cursor : goal.returns-in_err-behind-clause-cursor
returns-in_err-behind-clause-cursor c = refused _ _ c.from_residual.result c.from_residual.ensures.1

pub returns-in_err-behind-clause-further : goal.returns-in_err-behind-clause-further
returns-in_err-behind-clause-further c = refused _ _ c.from_residual.result c.from_residual.ensures.1
