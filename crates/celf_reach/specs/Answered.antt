-- What the answers mean.
use Rattle.std.specs.Prelude.{List, map}
use Rattle.std.specs.List.{slice_get}
use Rattle.clf_syntax.specs.declared.tree.Simple.{Simple}
use Rattle.clf_syntax.specs.Tree.{PlainObject}
use Rattle.clf_syntax.specs.TypeTree.{SimpleType}
use Rattle.clf_syntax.specs.PlainSimple.{plain_simple}
use Rattle.clf_syntax.specs.Simple.{Assignment}
use Rattle.pattern_laws.specs.Instantiations.{Types, closed}
use Rattle.pattern_laws.specs.Equations.{Locals}
use Rattle.reach_laws.specs.Reach.{Reaches}
use Rattle.celf_constraints.specs.Reading.{plain_places, own_places}
use Rattle.reach_walk.specs.Answers.{IsClash, IsSame, IsPrune, IsAssign}
use Rattle.celf_reach.specs.declared.answer.Reach.{Reach}
use Rattle.celf_reach.specs.declared.answer.Reach.TheVariants.{No, Clash, Same, Prune, Assign}

-- the simple types of a table, by number
abbrev pub types_in : List Simple → Types
types_in ts = slice_get (map plain_simple ts)

-- the assignment of constants and metavariables
abbrev pub heads_of : List Simple → List Simple → Assignment
heads_of consts metas = closed (types_in consts) (types_in metas)

-- No comes exactly where the equation does not reach; what each other answer says holds only where it does.
abbrev pub Answers : Assignment → Locals → SimpleType → PlainObject → PlainObject → Reach → Type 0
Answers g ls a side other No = Reaches g ls a side other → ⊥
Answers g ls a side other Clash = IsClash g ls a side other
Answers g ls a side other (Same mask) = IsSame g ls a side other mask.items
Answers g ls a side other (Prune k mask) = IsPrune g ls a side other k mask.items
Answers g ls a side other (Assign p) = IsAssign g ls a side other p.meta (plain_places p) (own_places p)
