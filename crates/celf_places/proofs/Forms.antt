-- The laws of one form alone, which are sooner tried than all.
use Rattle.clf_syntax.specs.PlainSimple as simple

-- the simple type without parts
pub ruleset simple_top_laws = (simple.plain-SimpleTop)
