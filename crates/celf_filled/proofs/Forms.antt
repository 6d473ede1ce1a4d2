-- The laws of one kind of core tree alone, which are sooner tried than all.
use Rattle.clf_syntax.specs.PlainTypes as core_type

-- a telescope of its entries
pub ruleset telescope_made = (core_type.plain-Tele, core_type.plain-tele)
