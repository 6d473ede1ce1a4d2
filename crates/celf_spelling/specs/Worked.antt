-- Some cores with the trees that they are printed as, worked out by hand.
use Rattle.std.specs.Prelude.{ℕ, ◌≡◌, Bool, true, false, List, [], ◌∷◌, Some, None, codes}
use Rattle.clf_syntax.specs.declared.tree.Mode.TheVariants.{Persistent, Affine, Linear}
use Rattle.clf_syntax.specs.Tree as core
use Rattle.clf_syntax.specs.TypeTree as types
use Rattle.clf_sig.specs.Entry.{family_of}
use Rattle.celf_surface.specs.declared.surface.SMode.TheVariants.{Bare, Persistent as PersistentMark, Affine as AffineMark}
use Rattle.celf_sugar.specs.PlainTree.{DesugaredObject, lam, pair, unit, monadic, atomic, hole, end_of_spine, and_then, argument, first, second, no_steps, step, end_of_tuple, entry, DesugaredType, family, function, both, top, monad, end, binding, of_family, declare}
use Rattle.clf_printer.specs.Worked.{a, variable, f, signature}
use Rattle.celf_spelling.specs.Printed.{nowhere, spelled, printed_object, printed_type, printed_entry}

-- the family a, a variable, and the head f as they are written
abbrev pub plain_a : DesugaredType
plain_a = family nowhere (spelled (codes "a") false) []

abbrev pub alone : List ℕ → Bool → DesugaredObject
alone name dollar = atomic nowhere (spelled name dollar) end_of_spine

-- The type, the object, is printed as this tree.
abbrev pub IsTypeTree : types.PlainType → DesugaredType → Type 0
IsTypeTree t tree = printed_type signature 0 t ≡ tree

abbrev pub IsObjectTree : core.PlainObject → DesugaredObject → Type 0
IsObjectTree n tree = printed_object signature 0 n ≡ tree

pub record WorkedTrees : Type 0 where
  pub linear : IsTypeTree (types.function Linear a (types.family 1 [])) (function nowhere Linear None plain_a (family nowhere (spelled (codes "x1") true) []))
  pub dependent : IsTypeTree (types.function Persistent a (types.family 0 (variable 0 ∷ [])))
      (function nowhere Persistent (Some (codes "x1")) plain_a (family nowhere (spelled (codes "a") false) (alone (codes "x1") false ∷ [])))
  pub unnamed : IsTypeTree (types.function Persistent a a) (function nowhere Persistent None plain_a plain_a)
  pub pair_of_types : IsTypeTree (types.both a types.top) (both nowhere plain_a (top nowhere))
  pub no_entry : IsTypeTree (types.monad types.end) (monad nowhere end)
  pub entries : IsTypeTree (types.monad (types.binding Linear a (types.binding Affine a types.end))) (monad nowhere (binding Linear None plain_a (binding Affine None plain_a end)))
  pub named_entry : IsTypeTree (types.monad (types.binding Persistent a (types.binding Linear (types.family 0 (variable 0 ∷ [])) types.end)))
      (monad nowhere (binding Persistent (Some (codes "x1")) plain_a (binding Linear None (family nowhere (spelled (codes "a") false) (alone (codes "x1") false ∷ [])) end)))
  pub binders_and_arguments : IsObjectTree
      (core.lam Linear (core.lam Affine (core.atomic (core.app Affine (core.app Linear f (variable 1)) (variable 0)))))
      (lam nowhere Bare (Some (codes "x1")) (lam nowhere AffineMark (Some (codes "x2"))
      (atomic nowhere (spelled (codes "f") true) (and_then (argument Bare (alone (codes "x1") false)) (and_then (argument AffineMark (alone (codes "x2") false)) end_of_spine)))))
  pub projected : IsObjectTree (core.atomic (core.snd (core.fst (core.app Linear f core.unit))))
      (atomic nowhere (spelled (codes "f") true) (and_then (argument Bare (unit nowhere)) (and_then first (and_then second end_of_spine))))
  pub pair_of_objects : IsObjectTree (core.pair core.unit core.hole) (pair nowhere (unit nowhere) (hole nowhere))
  pub step_with_entries : IsObjectTree
      (core.monadic (core.step (Linear ∷ Persistent ∷ []) f (core.done (core.entry Linear (variable 1) (core.entry Persistent (variable 0) core.empty)))))
      (monadic nowhere
      (step (record { mode = Bare; name = Some (codes "x1") } ∷ record { mode = PersistentMark; name = Some (codes "x2") } ∷ []) (spelled (codes "f") true) end_of_spine no_steps)
      (entry Bare (alone (codes "x1") false) (entry PersistentMark (alone (codes "x2") false) end_of_tuple)))
  pub kind : printed_entry signature (codes "b") (record { implicit = 1; class = family_of (a ∷ types.family 0 (variable 0 ∷ []) ∷ []) })
      ≡ declare (codes "b") 1 (of_family (binding Persistent (Some (codes "x1")) plain_a
      (binding Persistent None (family nowhere (spelled (codes "a") false) (alone (codes "x1") false ∷ [])) end)))
