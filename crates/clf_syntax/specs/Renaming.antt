-- Renaming: free variables get other numbers, by a function on numbers.
use Rattle.std.specs.Prelude.{ℕ, ◌+◌, ◌-◌, nat_lt, nat_le, if◌then◌else◌, List, [], ◌∷◌, map, length, unwrap_or}
use Rattle.std.specs.List.{slice_get}
use Rattle.clf_syntax.specs.declared.tree.Head.{Head}
use Rattle.clf_syntax.specs.declared.tree.Head.TheVariants.{Const, Var, Meta}
use Rattle.clf_syntax.specs.Tree.{PlainObject, lam, pair, unit, monadic, atomic, hole, PlainNeutral, head_alone, app, fst, snd, PlainExpression, step, done, PlainTuple, empty, entry}
use Rattle.clf_syntax.specs.TypeTree.{PlainType, family, function, both, top, monad, PlainTelescope, end, binding, PlainKind}

-- what becomes of each variable's number
abbrev pub Renumbering : Type 0
Renumbering = ℕ → ℕ

-- Under n binders the bound variables keep their numbers.
abbrev pub lifted : ℕ → Renumbering → Renumbering
lifted n r i = if nat_lt i n then i else r (i - n) + n

abbrev pub ren_head : Renumbering → Head → Head
ren_head r (Const c) = Const c
ren_head r (Var i) = Var (r i)
ren_head r (Meta m) = Meta m

abbrev mutual
  pub ren : Renumbering → PlainObject → PlainObject
  ren r (lam m b) = lam m (ren (lifted 1 r) b)
  ren r (pair x y) = pair (ren r x) (ren r y)
  ren r unit = unit
  ren r (monadic e) = monadic (ren_expression r e)
  ren r (atomic n) = atomic (ren_neutral r n)
  ren r hole = hole

  pub ren_neutral : Renumbering → PlainNeutral → PlainNeutral
  ren_neutral r (head_alone h) = head_alone (ren_head r h)
  ren_neutral r (app m x n) = app m (ren_neutral r x) (ren r n)
  ren_neutral r (fst x) = fst (ren_neutral r x)
  ren_neutral r (snd x) = snd (ren_neutral r x)

  pub ren_expression : Renumbering → PlainExpression → PlainExpression
  ren_expression r (step ms x e) = step ms (ren_neutral r x) (ren_expression (lifted (length ms) r) e)
  ren_expression r (done t) = done (ren_tuple r t)

  pub ren_tuple : Renumbering → PlainTuple → PlainTuple
  ren_tuple r empty = empty
  ren_tuple r (entry m n t) = entry m (ren r n) (ren_tuple r t)

abbrev pub ren_objects : Renumbering → List PlainObject → List PlainObject
ren_objects r ns = map (ren r) ns

abbrev mutual
  pub ren_type : Renumbering → PlainType → PlainType
  ren_type r (family f ns) = family f (ren_objects r ns)
  ren_type r (function m a b) = function m (ren_type r a) (ren_type (lifted 1 r) b)
  ren_type r (both a b) = both (ren_type r a) (ren_type r b)
  ren_type r top = top
  ren_type r (monad s) = monad (ren_telescope r s)

  pub ren_telescope : Renumbering → PlainTelescope → PlainTelescope
  ren_telescope r end = end
  ren_telescope r (binding m a s) = binding m (ren_type r a) (ren_telescope (lifted 1 r) s)

abbrev pub ren_kind : Renumbering → PlainKind → PlainKind
ren_kind r [] = []
ren_kind r (a ∷ k) = ren_type r a ∷ ren_kind (lifted 1 r) k

-- past n new variables, and back
abbrev pub up : ℕ → Renumbering
up n i = i + n

abbrev pub down : ℕ → Renumbering
down n i = i - n

-- The variables from a number on rise.
abbrev pub raise : ℕ → ℕ → Renumbering
raise by from i = if nat_le from i then i + by else i

-- Two blocks of variables change places: first p, then the newer q.
abbrev pub crossed : ℕ → ℕ → Renumbering
crossed p q i = if nat_lt i q then i + p else (if nat_lt i (q + p) then i - q else i)

-- Variable i becomes the image at place i, where there is such a place; the others follow from `rest` on.
abbrev pub renumbering : List ℕ → ℕ → Renumbering
renumbering images rest i = unwrap_or (slice_get images i) (i - length images + rest)
