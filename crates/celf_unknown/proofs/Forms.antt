-- The laws of one kind of list or scope alone, which are sooner tried than all.
use Rattle.std.proofs.Math.Seq.{take-append_seam}
use Rattle.celf_sugar.proofs.EarliestLaws.{earliest-append}
use Rattle.celf_unknown.specs.UnknownLists.{spine-listed, telescope-listed}

-- the first name of two parts
pub ruleset joined_laws = (earliest-append)

-- the parts of one list
pub ruleset spine_laws = (spine-listed)

pub ruleset telescope_list_laws = (telescope-listed)

-- the names that were bound before
pub ruleset scope_laws = (take-append_seam)
