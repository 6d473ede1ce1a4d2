-- The explicit reading of objects: the core tree of an object, where all of it is written and each of its names has a meaning.
-- A neutral is read as its eta-long form at the simple type that its place wants, whatever its own type is.
use Rattle.std.specs.Prelude.{List, [], ◌∷◌, Option, Some, None, option_map}
use Rattle.clf_syntax.specs.declared.tree.Mode.{Mode}
use Rattle.clf_syntax.specs.Tree as core
use Rattle.clf_syntax.specs.TypeTree.{SimpleType}
use Rattle.eta_laws.specs.Eta.{expansion}
use Rattle.clf_sig.specs.Entry.{PlainSignature}
use Rattle.celf_sugar.specs.declared.plain.PName.{PName}
use Rattle.celf_sugar.specs.declared.plain.PBinder.{PBinder}
use Rattle.celf_sugar.specs.PlainTree.{DesugaredObject, lam, pair, unit, monadic, atomic, hole, DesugaredSpine, end_of_spine, and_then, DesugaredAct, argument, first, second, DesugaredSteps, no_steps, step, DesugaredTuple, end_of_tuple, entry}
use Rattle.celf_places.specs.Places.{Place, marked, function_parts, pair_parts, entries_at, next_part, behind_act, behind_spine}
use Rattle.celf_places.specs.Heads.{Local, Typed, place_of_head, head}
use Rattle.celf_places.specs.Combined.{combined, with_mode}

-- a neutral at a place: where nothing is known to be wanted, as it is
abbrev pub long_at : Place → core.PlainNeutral → core.PlainObject
long_at None n = core.atomic n
long_at (Some t) n = expansion t n

-- a head under the eliminations of a spine
abbrev pub under_spine : Typed → List core.PlainElimination → core.PlainNeutral
under_spine h es = core.spine_on es (core.head_alone h.0)

-- the entries of the monad that the right side of a step has
abbrev pub step_entries : PlainSignature → List Local → PName → DesugaredSpine → List (Mode × SimpleType)
step_entries sig ls h es = entries_at (behind_spine (place_of_head (head sig ls h)) es)

-- the modes of a pattern, and its binders as locals
abbrev pub pattern_modes : List (Mode × SimpleType) → List PBinder → List Mode
pattern_modes ps [] = []
pattern_modes ps (b ∷ bs) = marked b.mode (next_part ps).mode ∷ pattern_modes (next_part ps).later bs

abbrev pub with_pattern : List Local → List (Mode × SimpleType) → List PBinder → List Local
with_pattern ls ps [] = ls
with_pattern ls ps (b ∷ bs) = with_pattern ((b.name, (next_part ps).place) ∷ ls) (next_part ps).later bs

-- the locals after some steps
abbrev pub with_steps : PlainSignature → List Local → DesugaredSteps → List Local
with_steps sig ls no_steps = ls
with_steps sig ls (step p h es ss) = with_steps sig (with_pattern ls (step_entries sig ls h es) p) ss

-- steps, and then a tuple
abbrev pub expression_of : List (List Mode × core.PlainNeutral) → List (Mode × core.PlainObject) → core.PlainObject
expression_of ss es = core.monadic (core.steps_on ss (core.done (core.tuple_of es)))

-- The object that is written, over these locals, the newest first, at a place. A bare part has the mode of its place.
-- None where something would have to be found, or a name has no meaning.
abbrev mutual
  pub read_object : PlainSignature → List Local → Place → DesugaredObject → Option core.PlainObject
  read_object sig ls t (lam s m n b) = option_map (core.lam (marked m (function_parts t).mode)) (read_object sig ((n, (function_parts t).domain) ∷ ls) (function_parts t).codomain b)
  read_object sig ls t (pair s l r) = combined core.pair (read_object sig ls (pair_parts t).left l) (read_object sig ls (pair_parts t).right r)
  read_object sig ls t (unit s) = Some core.unit
  read_object sig ls t (monadic s ss u) = combined expression_of (read_steps sig ls ss) (read_tuple sig (with_steps sig ls ss) (entries_at t) u)
  read_object sig ls t (atomic s h es) = option_map (long_at t) (combined under_spine (head sig ls h) (read_spine sig ls (place_of_head (head sig ls h)) es))
  read_object sig ls t (hole s) = None

  -- the eliminations of a head of this simple type
  pub read_spine : PlainSignature → List Local → Place → DesugaredSpine → Option (List core.PlainElimination)
  read_spine sig ls t end_of_spine = Some []
  read_spine sig ls t (and_then a es) = combined (◌∷◌) (read_act sig ls t a) (read_spine sig ls (behind_act t a) es)

  pub read_act : PlainSignature → List Local → Place → DesugaredAct → Option core.PlainElimination
  read_act sig ls t (argument m o) = option_map (core.arg (marked m (function_parts t).mode)) (read_object sig ls (function_parts t).domain o)
  read_act sig ls t first = Some core.first
  read_act sig ls t second = Some core.second

  -- A step binds in the later ones and in the tuple. Its right side stays a neutral.
  pub read_steps : PlainSignature → List Local → DesugaredSteps → Option (List (List Mode × core.PlainNeutral))
  read_steps sig ls no_steps = Some []
  read_steps sig ls (step p h es ss) =
      combined (◌∷◌) (option_map (with_mode (pattern_modes (step_entries sig ls h es) p)) (combined under_spine (head sig ls h) (read_spine sig ls (place_of_head (head sig ls h)) es)))
      (read_steps sig (with_pattern ls (step_entries sig ls h es) p) ss)

  pub read_tuple : PlainSignature → List Local → List (Mode × SimpleType) → DesugaredTuple → Option (List (Mode × core.PlainObject))
  read_tuple sig ls ps end_of_tuple = Some []
  read_tuple sig ls ps (entry m o u) =
      combined (◌∷◌) (option_map (with_mode (marked m (next_part ps).mode)) (read_object sig ls (next_part ps).place o)) (read_tuple sig ls (next_part ps).later u)
