use Rattle.std.proofs.Common.{◌∙◌}
use Rattle.celf_surface.specs.Surface.{form-Named}
use Rattle.celf_cursor.proofs.Faulty.{passed, refused, name-missed}
use Rattle.celf_objects.proofs.Reading.{name-read}
use Rattle.celf_objects.proofs.atom.name_at.Goals as goal

pub returns-clause-read : goal.returns-clause-read
returns-clause-read c = name-read c.in_ok-name.ensures.taken c.span_from.ensures (c.leaf.ensures ∙ form-Named _ _ _)

pub returns-in_err-name-clause-fault : goal.returns-in_err-name-clause-fault
returns-in_err-name-clause-fault c = passed _ c.from_residual.result c.from_residual.ensures.1 (λ k. name-missed _ _ _ _ c.requires.kind c.in_err-name.ensures.missed)

pub returns-in_err-name-clause-read : goal.returns-in_err-name-clause-read
returns-in_err-name-clause-read c = refused _ _ c.from_residual.result c.from_residual.ensures.1

pub returns-in_err-name-clause-cursor : goal.returns-in_err-name-clause-cursor
returns-in_err-name-clause-cursor c = refused _ _ c.from_residual.result c.from_residual.ensures.1

pub returns-in_err-name-clause-further : goal.returns-in_err-name-clause-further
returns-in_err-name-clause-further c = refused _ _ c.from_residual.result c.from_residual.ensures.1
