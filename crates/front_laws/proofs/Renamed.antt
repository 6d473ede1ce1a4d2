-- A tree whose heads are replaced, renamed, is the tree with other replacements of its heads.
use Rattle.std.specs.Prelude.{ℕ, ◌+◌, ◌≡◌, List, [], ◌∷◌, ◌++◌, map, length, refl, Contains}
use Rattle.std.specs.List.{flat_map}
use Rattle.std.proofs.Common.{ap, ◌∙◌, arith}
use Rattle.std.proofs.lemmas.List.Elements.{Contains-append_left, Contains-append_right}
use Rattle.clf_syntax.specs.declared.tree.Head.{Head}
use Rattle.clf_syntax.specs.Tree.{PlainObject, lam, pair, unit, monadic, atomic, hole, PlainNeutral, head_alone, app, fst, snd, PlainExpression, step, done, PlainTuple, empty, entry}
use Rattle.clf_syntax.specs.TypeTree.{PlainType, family, function, both, top, monad, PlainTelescope, end, binding}
use Rattle.clf_syntax.specs.Renaming.{Renumbering, ren_type}
use Rattle.clf_syntax.specs.Renumbered.{renumber, renumber_neutral, renumber_expression, renumber_tuple, renumber_type, renumber_telescope}
use Rattle.clf_syntax.proofs.RenamingLaws.{pairs, apps, binds, entries}
use Rattle.clf_syntax.proofs.TypeRenaming.{functions, boths, bindings}
use Rattle.clf_syntax.proofs.Renumbered.{renamed-type}
use Rattle.celf_front.specs.Replaced.{replaced, replaced_neutral, replaced_expression, replaced_tuple, replaced_type, replaced_telescope}
use Rattle.celf_front.specs.Occurring.{heads_in, heads_in_neutral, heads_in_expression, heads_in_tuple, heads_in_type, heads_in_telescope}
use Rattle.front_laws.specs.Replacements.{Renames}

left : (f g : ℕ → Head → Head) (r : Renumbering) (hs is : List Head) → Renames f g r (hs ++ is) → Renames f g r hs
left f g r hs is n h has = n h (Contains-append_left hs is h has)

right : (f g : ℕ → Head → Head) (r : Renumbering) (hs is : List Head) → Renames f g r (hs ++ is) → Renames f g r is
right f g r hs is n h has = n h (Contains-append_right hs is h has)

here : (h : Head) → Contains (h ∷ []) h
here h = (0, omega arith, refl)

mutual
  pub moved : (f g : ℕ → Head → Head) (r : Renumbering) (d : ℕ) (o : PlainObject) → Renames f g r (heads_in o) → replaced f d o ≡ renumber r d (replaced g d o)
  moved f g r d (lam m b) n = ap (lam m) (moved f g r (d + 1) b n)
  moved f g r d (pair x y) n = pairs (moved f g r d x (left f g r (heads_in x) (heads_in y) n)) (moved f g r d y (right f g r (heads_in x) (heads_in y) n))
  moved f g r d unit n = refl
  moved f g r d (monadic e) n = ap monadic (moved_expression f g r d e n)
  moved f g r d (atomic x) n = ap atomic (moved_neutral f g r d x n)
  moved f g r d hole n = refl

  pub moved_neutral : (f g : ℕ → Head → Head) (r : Renumbering) (d : ℕ) (o : PlainNeutral) → Renames f g r (heads_in_neutral o) → replaced_neutral f d o ≡ renumber_neutral r d (replaced_neutral g d o)
  moved_neutral f g r d (head_alone h) n = ap head_alone (n h (here h) d)
  moved_neutral f g r d (app m x o) n = apps m (moved_neutral f g r d x (left f g r (heads_in_neutral x) (heads_in o) n)) (moved f g r d o (right f g r (heads_in_neutral x) (heads_in o) n))
  moved_neutral f g r d (fst x) n = ap fst (moved_neutral f g r d x n)
  moved_neutral f g r d (snd x) n = ap snd (moved_neutral f g r d x n)

  pub moved_expression : (f g : ℕ → Head → Head) (r : Renumbering) (d : ℕ) (o : PlainExpression) → Renames f g r (heads_in_expression o) → replaced_expression f d o ≡ renumber_expression r d (replaced_expression g d o)
  moved_expression f g r d (step ms x e) n = binds ms (moved_neutral f g r d x (left f g r (heads_in_neutral x) (heads_in_expression e) n)) (moved_expression f g r (d + length ms) e (right f g r (heads_in_neutral x) (heads_in_expression e) n))
  moved_expression f g r d (done t) n = ap done (moved_tuple f g r d t n)

  pub moved_tuple : (f g : ℕ → Head → Head) (r : Renumbering) (d : ℕ) (o : PlainTuple) → Renames f g r (heads_in_tuple o) → replaced_tuple f d o ≡ renumber_tuple r d (replaced_tuple g d o)
  moved_tuple f g r d empty n = refl
  moved_tuple f g r d (entry m o t) n = entries m (moved f g r d o (left f g r (heads_in o) (heads_in_tuple t) n)) (moved_tuple f g r d t (right f g r (heads_in o) (heads_in_tuple t) n))

moved_each : (f g : ℕ → Head → Head) (r : Renumbering) (d : ℕ) (ns : List PlainObject) → Renames f g r (flat_map heads_in ns) → map (replaced f d) ns ≡ map (renumber r d) (map (replaced g d) ns)
moved_each f g r d [] n = refl
moved_each f g r d (o ∷ ns) n = objects (moved f g r d o (left f g r (heads_in o) (flat_map heads_in ns) n)) (moved_each f g r d ns (right f g r (heads_in o) (flat_map heads_in ns) n))
  where
    objects : {x y : PlainObject} {xs ys : List PlainObject} → x ≡ y → xs ≡ ys → x ∷ xs ≡ y ∷ ys
    objects p q = cc

mutual
  pub moved_type : (f g : ℕ → Head → Head) (r : Renumbering) (d : ℕ) (o : PlainType) → Renames f g r (heads_in_type o) → replaced_type f d o ≡ renumber_type r d (replaced_type g d o)
  moved_type f g r d (family a ns) n = ap (family a) (moved_each f g r d ns n)
  moved_type f g r d (function m a b) n = functions m (moved_type f g r d a (left f g r (heads_in_type a) (heads_in_type b) n)) (moved_type f g r (d + 1) b (right f g r (heads_in_type a) (heads_in_type b) n))
  moved_type f g r d (both a b) n = boths (moved_type f g r d a (left f g r (heads_in_type a) (heads_in_type b) n)) (moved_type f g r d b (right f g r (heads_in_type a) (heads_in_type b) n))
  moved_type f g r d top n = refl
  moved_type f g r d (monad s) n = ap monad (moved_telescope f g r d s n)

  pub moved_telescope : (f g : ℕ → Head → Head) (r : Renumbering) (d : ℕ) (o : PlainTelescope) → Renames f g r (heads_in_telescope o) → replaced_telescope f d o ≡ renumber_telescope r d (replaced_telescope g d o)
  moved_telescope f g r d end n = refl
  moved_telescope f g r d (binding m a s) n = bindings m (moved_type f g r d a (left f g r (heads_in_type a) (heads_in_telescope s) n)) (moved_telescope f g r (d + 1) s (right f g r (heads_in_type a) (heads_in_telescope s) n))

pub renamed_type : (f g : ℕ → Head → Head) (r : Renumbering) (a : PlainType) → Renames f g r (heads_in_type a) → replaced_type f 0 a ≡ ren_type r (replaced_type g 0 a)
renamed_type f g r a n = moved_type f g r 0 a n ∙ renamed-type r (replaced_type g 0 a)
