-- Inner: what a walk makes of types and telescopes: their trees, and the state that it leaves.
use Rattle.std.specs.Prelude.{ℕ, zero, suc, ◌≡◌, Bool, List, [], ◌∷◌, ◌++◌, Option, None, Some, refl}
use Rattle.clf_syntax.specs.declared.tree.Mode.{Mode}
use Rattle.clf_syntax.specs.Tree.{PlainObject, hole}
use Rattle.clf_syntax.specs.TypeTree as core
use Rattle.clf_syntax.specs.TypeTree.{SimpleType, PlainType}
use Rattle.clf_sig.specs.Entry.{PlainSignature, entry_at}
use Rattle.celf_sugar.specs.PlainTree.{DesugaredObject, DesugaredType, family, function, both, top, monad, DesugaredTelescope, end, binding, DesugaredEntry, telescope_of}
use Rattle.celf_names.specs.Names.{family_named}
use Rattle.celf_places.specs.Places.{Place, next_part}
use Rattle.celf_places.specs.Heads.{arguments_of}
use Rattle.celf_places.specs.SimpleTypes.{simple_type}
use Rattle.celf_places.specs.Along.{left_along}
use Rattle.celf_elaboration.specs.Fillings.{Scoped}
use Rattle.celf_filled.specs.Scopes.{Named, implicit_after}
use Rattle.celf_filled.specs.States.{State, not_whole}
use Rattle.celf_filled.specs.Walk.{fill_place, fill_object}

-- the indices so far, and what is wanted of those that are left
pub record Indices : Type 0 where
  pub objects : List PlainObject
  pub wanted : List (Mode × SimpleType)

abbrev pub no_indices_yet : List (Mode × SimpleType) → Indices
no_indices_yet ps = record { objects = []; wanted = ps }

abbrev pub with_index : Indices → PlainObject × State → Indices × State
with_index w v = (record { objects = w.objects ++ v.0 ∷ []; wanted = (next_part w.wanted).later }, v.1)

-- one index that is filled in, and so many of them
abbrev pub fill_index : List Scoped → Indices × State → Indices × State
fill_index ls w = with_index w.0 (fill_place ls (next_part w.0.wanted).place w.1)

abbrev pub fill_first : List Scoped → ℕ → Indices × State → Indices × State
fill_first ls zero w = w
fill_first ls (suc i) w = fill_first ls i (fill_index ls w)

-- what stands for a type whose family has no meaning
abbrev pub nothing_typed : PlainType
nothing_typed = core.family 0 (hole ∷ [])

abbrev pub family_at : ℕ → List PlainObject → PlainType
family_at f os = core.family f os

abbrev pub in_family : ℕ → Indices × State → PlainType × State
in_family f v = (core.family f v.0.objects, v.1)

abbrev pub in_function : Mode → PlainType → PlainType × State → PlainType × State
in_function m a v = (core.function m a v.0, v.1)

abbrev pub in_both : PlainType → PlainType × State → PlainType × State
in_both a v = (core.both a v.0, v.1)

-- the entries so far, and the locals after them
pub record Bindings : Type 0 where
  pub entries : List (Mode × PlainType)
  pub locals : List Scoped

abbrev pub no_bindings_yet : List Scoped → Bindings
no_bindings_yet ls = record { entries = []; locals = ls }

abbrev pub in_monad : Bindings × State → PlainType × State
in_monad v = (core.monad (core.telescope_of v.0.entries), v.1)

-- what a function or an entry binds
abbrev pub bound_local : Mode → Option (List ℕ) → Place → Scoped
bound_local m n t = record { mode = m; name = n; place = t }

abbrev pub bound_under : Scoped → List Scoped → List Scoped
bound_under l ls = l ∷ ls

abbrev pub entry_with : Mode → PlainType × State → (Mode × PlainType) × State
entry_with m v = ((m, v.0), v.1)

abbrev pub with_binding : Bindings → Scoped → (Mode × PlainType) × State → Bindings × State
with_binding w l v = (record { entries = w.entries ++ v.0 ∷ []; locals = l ∷ w.locals }, v.1)

module _ (sig : PlainSignature) (xs : List Named) where
  abbrev pub written_index : List Scoped → Indices × State → DesugaredObject → Indices × State
  written_index ls w o = with_index w.0 (fill_object sig xs ls (next_part w.0.wanted).place o w.1)

  abbrev pub fill_indices : List Scoped → ℕ → List (Mode × SimpleType) → List DesugaredObject → State → Indices × State
  fill_indices ls i ps is s = left_along (written_index ls) (fill_first ls i (no_indices_yet ps, s)) is

  abbrev pub fill_family : List Scoped → Bool → List DesugaredObject → Option ℕ → State → PlainType × State
  fill_family ls dollar is None s = (nothing_typed, not_whole s)
  fill_family ls dollar is (Some f) s = in_family f (fill_indices ls (implicit_after dollar (entry_at sig f)) (arguments_of sig f) is s)

  abbrev mutual
    pub fill_type : List Scoped → DesugaredType → State → PlainType × State
    fill_type ls (family p h is) s = fill_family ls h.dollar is (family_named sig h.name) s
    fill_type ls (function p m n a b) s = in_function m (fill_type ls a s).0 (fill_type (bound_local m n (simple_type sig a) ∷ ls) b (fill_type ls a s).1)
    fill_type ls (both p a b) s = in_both (fill_type ls a s).0 (fill_type ls b (fill_type ls a s).1)
    fill_type ls (top p) s = (core.top, s)
    fill_type ls (monad p t) s = in_monad (fill_telescope (no_bindings_yet ls, s) t)

    pub fill_telescope : Bindings × State → DesugaredTelescope → Bindings × State
    fill_telescope w end = w
    fill_telescope w (binding m n a t) = fill_telescope (with_binding w.0 (bound_local m n (simple_type sig a)) (entry_with m (fill_type w.0.locals a w.1))) t

  -- ---- the list of a telescope's entries

  abbrev pub entry_typed : List Scoped → DesugaredEntry → State → (Mode × PlainType) × State
  entry_typed ls e s = entry_with e.0 (fill_type ls e.2 s)

  abbrev pub fill_binding : Bindings × State → DesugaredEntry → Bindings × State
  fill_binding w e = with_binding w.0 (bound_local e.0 e.1 (simple_type sig e.2)) (entry_typed w.0.locals e w.1)

  pub telescope-along : (w : Bindings × State) (es : List DesugaredEntry) → fill_telescope w (telescope_of es) ≡ left_along fill_binding w es
  telescope-along w [] = refl
  telescope-along w (e ∷ es) = telescope-along (fill_binding w e) es

-- the place of what an entry binds
abbrev pub entry_place : PlainSignature → DesugaredEntry → Place
entry_place sig e = simple_type sig e.2
