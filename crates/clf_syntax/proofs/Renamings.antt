-- The laws of renaming that the crate's function states.
use Rattle.clf_syntax.specs.Laws.{ShiftIsRenaming, RenamingsCompose, RenamingAndOccurrence}
use Rattle.clf_syntax.proofs.RenamingLaws.{composed, identity}
use Rattle.clf_syntax.proofs.TypeRenaming.{composed_type, identity_type}
use Rattle.clf_syntax.proofs.ShiftLaws.{shift-ren, shift-ren_neutral, shift-ren_expression, shift-ren_type}
use Rattle.clf_syntax.proofs.OccursLaws.{agreeing, source}

pub shift_is_renaming : ShiftIsRenaming
shift_is_renaming by from = (shift-ren by from, shift-ren_neutral by from, shift-ren_expression by from, shift-ren_type by from)

pub renamings_compose : RenamingsCompose
renamings_compose = (composed, identity, composed_type, identity_type)

pub renaming_and_occurrence : RenamingAndOccurrence
renaming_and_occurrence = (agreeing, source)
