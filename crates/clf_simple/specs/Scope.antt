-- What contracts see of the types in scope, which stand after references and have the newest variable last.
use Rattle.std.specs.Prelude.{List, map, reverse}
use Rattle.std.specs.Borrow.{Bor}
use Rattle.clf_syntax.specs.declared.tree.Simple.{Simple}
use Rattle.clf_syntax.specs.TypeTree.{SimpleType}
use Rattle.clf_syntax.specs.PlainSimple.{plain_simple}
use Rattle.clf_simple.specs.declared.scope.Heads.{Heads}
use Rattle.clf_simple.specs.Decision.{HeadTypes}

abbrev pub head_types : Heads → HeadTypes
head_types h = record { constants = map plain_simple h.consts.now; metavariables = map plain_simple h.metas.now }

-- the newest variable first
abbrev pub scope : List (Bor Simple) → List SimpleType
scope ls = reverse (map (λ t. plain_simple t.now) ls)
