use Rattle.celf_surface.specs.Surface.{pattern-Entry}
use Rattle.celf_cursor.proofs.Faulty.{passed, refused}
use Rattle.celf_objects.proofs.Reading.{pattern_entry-read}
use Rattle.celf_objects.proofs.PatternFaults.{pattern_mark-fault, pattern_entry-fault}
use Rattle.celf_objects.proofs.pattern.pattern_entry_at.Goals as goal

pub returns-clause-read : goal.returns-clause-read
returns-clause-read c = pattern_entry-read c.in_ok-mode.ensures.read c.in_ok-name.ensures.read (pattern-Entry _ _)

pub returns-in_err-mode-clause-fault : goal.returns-in_err-mode-clause-fault
returns-in_err-mode-clause-fault c = passed _ c.from_residual.result c.from_residual.ensures.1 (λ k. pattern_mark-fault c.requires.not_one c.requires.no_list c.in_err-mode.ensures.fault)

pub returns-in_err-name-clause-fault : goal.returns-in_err-name-clause-fault
returns-in_err-name-clause-fault c = passed _ c.from_residual-in_err-name.result c.from_residual-in_err-name.ensures.1 (λ k. pattern_entry-fault c.requires.not_one c.requires.no_list c.in_ok-mode.ensures.read (c.in_err-name.ensures.fault k))

pub returns-in_err-mode-clause-read : goal.returns-in_err-mode-clause-read
returns-in_err-mode-clause-read c = refused _ _ c.from_residual.result c.from_residual.ensures.1

pub returns-in_err-mode-clause-cursor : goal.returns-in_err-mode-clause-cursor
returns-in_err-mode-clause-cursor c = refused _ _ c.from_residual.result c.from_residual.ensures.1

pub returns-in_err-mode-clause-further : goal.returns-in_err-mode-clause-further
returns-in_err-mode-clause-further c = refused _ _ c.from_residual.result c.from_residual.ensures.1

pub returns-in_err-name-clause-read : goal.returns-in_err-name-clause-read
returns-in_err-name-clause-read c = refused _ _ c.from_residual-in_err-name.result c.from_residual-in_err-name.ensures.1

pub returns-in_err-name-clause-cursor : goal.returns-in_err-name-clause-cursor
returns-in_err-name-clause-cursor c = refused _ _ c.from_residual-in_err-name.result c.from_residual-in_err-name.ensures.1

pub returns-in_err-name-clause-further : goal.returns-in_err-name-clause-further
returns-in_err-name-clause-further c = refused _ _ c.from_residual-in_err-name.result c.from_residual-in_err-name.ensures.1
