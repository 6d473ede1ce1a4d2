-- Inner: what contracts see of what is sought in the other side.
use Rattle.std.specs.Prelude.{◌≡◌, List, ◌++◌, length, map, Option, Some, None}
use Rattle.std.specs.List.{slice_get}
use Rattle.std.specs.Borrow.{Bor}
use Rattle.clf_syntax.specs.declared.tree.Head.{Head}
use Rattle.clf_syntax.specs.declared.tree.Head.TheVariants.{Const, Var, Meta}
use Rattle.clf_syntax.specs.declared.tree.Simple.{Simple}
use Rattle.clf_syntax.specs.TypeTree.{SimpleType, base, arrow, simple_with, simple_top, lax}
use Rattle.clf_syntax.specs.PlainSimple.{plain_simple}
use Rattle.clf_syntax.specs.Simple.{Assignment}
use Rattle.clf_simple.specs.Scope.{scope}
use Rattle.pattern_laws.specs.Equations.{Locals}
use Rattle.pattern_laws.specs.Patterns.{Place}
use Rattle.reach_walk.specs.Marks.{MarksForeign}
use Rattle.celf_reach.specs.declared.tables.Sought.{Sought}
use Rattle.celf_reach.specs.declared.tables.Parts.{Parts}
use Rattle.celf_reach.specs.Answered.{heads_of}

-- the type of a constant or a variable
abbrev pub head_type_in : List Simple → List SimpleType → Head → Option SimpleType
head_type_in consts vs (Const c) = slice_get (map plain_simple consts) c
head_type_in consts vs (Var i) = slice_get vs i
head_type_in consts vs (Meta m) = None

abbrev pub sought_heads : Sought → Assignment
sought_heads s = heads_of s.consts.now s.metas.now

-- The locals ls are around the equation, and the marked ones of them are foreign; the binders ds are on the way; and the list has the types of all.
pub record Situated (s : Sought) (types : List (Bor Simple)) (ls ds : Locals) (ps : List Place) : Type 0 where
  pub count : length ls ≡ s.count
  pub marks : MarksForeign (length ls) ps s.marks.now
  pub scoped : scope types ≡ map (λ l. l.1) (ds ++ ls)

-- the parts of a function type and of a pair type
abbrev pub function_parts : SimpleType → Option (SimpleType × SimpleType)
function_parts (base a) = None
function_parts (arrow m d c) = Some (d, c)
function_parts (simple_with c d) = None
function_parts simple_top = None
function_parts (lax ts) = None

abbrev pub pair_parts : SimpleType → Option (SimpleType × SimpleType)
pair_parts (base a) = None
pair_parts (arrow m d c) = None
pair_parts (simple_with c d) = Some (c, d)
pair_parts simple_top = None
pair_parts (lax ts) = None

abbrev pub plain_parts : Parts → SimpleType × SimpleType
plain_parts p = (plain_simple p.first.now, plain_simple p.second.now)
