-- How the text of a path is written, number by number.
use Rattle.std.proofs.Common.{append_assoc, append-nil}

pub ruleset path_laws = (append_assoc, append-nil)
