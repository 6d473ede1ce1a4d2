-- The laws of one kind of core tree alone, which are sooner tried than all.
use Rattle.clf_syntax.specs.Plain as core
use Rattle.clf_syntax.specs.PlainTypes as core_type

-- the core trees without parts
pub ruleset core_object_laws = (core.plain-Unit)

pub ruleset core_elim_laws = (core.plain-First, core.plain-Second)

pub ruleset core_type_laws = (core_type.plain-Top)

-- a telescope of its entries
pub ruleset telescope_made = (core_type.plain-Tele, core_type.plain-tele)
