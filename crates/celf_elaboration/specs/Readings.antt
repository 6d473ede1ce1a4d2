-- Readings of a text with fillings: its core tree, with objects filled in for implicit arguments and for `_`.
-- Where nothing is left to be found there are no fillings, and this is the explicit reading. With new metavariables as fillings it is the tree of which
-- equations are gathered; with objects that mention persistent locals alone it is an elaboration.
use Rattle.std.specs.Prelude.{ℕ, zero, suc, ◌≡◌, Bool, true, false, if◌then◌else◌, List, [], ◌∷◌, ◌++◌, map, Option, Some, None}
use Rattle.clf_syntax.specs.declared.tree.Mode.{Mode}
use Rattle.clf_syntax.specs.declared.tree.Head.{Head}
use Rattle.clf_syntax.specs.declared.tree.Head.TheVariants.{Var}
use Rattle.clf_syntax.specs.Tree as core
use Rattle.clf_syntax.specs.Tree.{PlainObject, PlainNeutral}
use Rattle.clf_syntax.specs.TypeTree as core_type
use Rattle.clf_syntax.specs.TypeTree.{PlainType, PlainTelescope, PlainKind, SimpleType, arrow}
use Rattle.clf_syntax.specs.Simple.{erase}
use Rattle.eta_laws.specs.Eta.{expansion}
use Rattle.pattern_laws.specs.Equations.{Locals}
use Rattle.pattern_laws.specs.Patterns.{blank}
use Rattle.clf_sig.specs.Entry.{PlainSignature, entry_at, family_kind}
use Rattle.celf_surface.specs.declared.surface.SMode.{SMode}
use Rattle.celf_surface.specs.declared.surface.Span.{Span}
use Rattle.celf_sugar.specs.declared.plain.PName.{PName}
use Rattle.celf_sugar.specs.declared.plain.PBinder.{PBinder}
use Rattle.celf_sugar.specs.PlainTree.{DesugaredObject, lam, pair, unit, monadic, atomic, hole, DesugaredSpine, end_of_spine, and_then, argument, first, second, DesugaredSteps, no_steps, step, DesugaredTuple, end_of_tuple, entry, DesugaredType, family, function, both, top, monad, DesugaredTelescope, end, binding}
use Rattle.celf_names.specs.Names.{family_named}
use Rattle.celf_places.specs.Places.{Place, marked, function_parts, pair_parts, entries_at, next_part}
use Rattle.celf_explicit.specs.Objects.{long_at, pattern_modes, expression_of}
use Rattle.celf_elaboration.specs.Fillings.{Filling, Fillings, Scoped, KnownLocals}
use Rattle.celf_elaboration.specs.Names.{ImplicitVariable, Meaning, meaning, implicit_arguments}

-- A place whose type has one object alone: no neutral stands there in its eta-long form.
abbrev pub blank_at : Place → Bool
blank_at None = false
blank_at (Some t) = blank t

-- the locals after a pattern
abbrev pub with_pattern : List Scoped → List (Mode × SimpleType) → List PBinder → List Scoped
with_pattern ls ps [] = ls
with_pattern ls ps (b ∷ bs) = with_pattern (record { mode = marked b.mode (next_part ps).mode; name = b.name; place = (next_part ps).place } ∷ ls) (next_part ps).later bs

-- what a lambda binds, at a place
abbrev pub lambda_local : Place → SMode → Option (List ℕ) → Scoped
lambda_local t m n = record { mode = marked m (function_parts t).mode; name = n; place = (function_parts t).domain }

-- what a function or an entry of a telescope binds
abbrev pub type_local : Mode → Option (List ℕ) → PlainType → Scoped
type_local m n a = record { mode = m; name = n; place = Some (erase a) }

-- Over a signature and implicit variables, of which `heads` says what head each is.
module _ (sig : PlainSignature) (heads : ℕ → Head) (vs : List ImplicitVariable) where
  -- a head with so many implicit arguments, all of them filled in
  pub data ReadsImplicit : List Scoped → ℕ → PlainNeutral → Place → Fillings → PlainNeutral → Place → Type 0 where
    implicit_none : {ls : List Scoped} {r : PlainNeutral} {p : Place} → ReadsImplicit ls zero r p [] r p
    implicit_next : {ls : List Scoped} {i : ℕ} {r x : PlainNeutral} {m : Mode} {d c : SimpleType} {u : Place} {l : Locals} {o : PlainObject} {fs : Fillings}
        → KnownLocals ls l → ReadsImplicit ls i (core.app m r o) (Some c) fs x u
        → ReadsImplicit ls (suc i) r (Some (arrow m d c)) (record { locals = l; type = d; object = o } ∷ fs) x u

  pub data ReadsHead : List Scoped → PName → Fillings → PlainNeutral → Place → Type 0 where
    reads_head : {ls : List Scoped} {n : PName} {m : Meaning} {fs : Fillings} {r : PlainNeutral} {p : Place}
        → meaning sig heads vs ls n ≡ Some m → ReadsImplicit ls m.implicit (core.head_alone m.head) m.place fs r p → ReadsHead ls n fs r p

  mutual
    -- ReadsObject ls t o fs n: over these locals, the newest first, at a place, the written object o is read as n, with these fillings in order.
    pub data ReadsObject : List Scoped → Place → DesugaredObject → Fillings → PlainObject → Type 0 where
      reads_lam : {ls : List Scoped} {t : Place} {s : Span} {m : SMode} {x : Option (List ℕ)} {b : DesugaredObject} {fs : Fillings} {n : PlainObject}
          → ReadsObject (lambda_local t m x ∷ ls) (function_parts t).codomain b fs n → ReadsObject ls t (lam s m x b) fs (core.lam (marked m (function_parts t).mode) n)
      reads_pair : {ls : List Scoped} {t : Place} {s : Span} {l r : DesugaredObject} {fs gs hs : Fillings} {n o : PlainObject}
          → ReadsObject ls (pair_parts t).left l fs n → ReadsObject ls (pair_parts t).right r gs o → hs ≡ fs ++ gs → ReadsObject ls t (pair s l r) hs (core.pair n o)
      reads_unit : {ls : List Scoped} {t : Place} {s : Span} → ReadsObject ls t (unit s) [] core.unit
      reads_monadic : {ls ks : List Scoped} {t : Place} {s : Span} {ss : DesugaredSteps} {u : DesugaredTuple} {fs gs hs : Fillings} {xs : List (List Mode × PlainNeutral)} {es : List (Mode × PlainObject)}
          → ReadsSteps ls ss fs xs ks → ReadsTuple ks (entries_at t) u gs es → hs ≡ fs ++ gs → ReadsObject ls t (monadic s ss u) hs (expression_of xs es)
      -- A neutral stands in its eta-long form.
      reads_atomic : {ls : List Scoped} {t p u : Place} {s : Span} {h : PName} {es : DesugaredSpine} {fs gs hs : Fillings} {r x : PlainNeutral}
          → blank_at t ≡ false → ReadsHead ls h fs r p → ReadsSpine ls r p es gs x u → hs ≡ fs ++ gs → ReadsObject ls t (atomic s h es) hs (long_at t x)
      -- Where the place has one object alone, that object stands there, and the neutral is dropped with all that would be filled in. (Its names have a
      -- meaning, as all names of an item that is read.)
      reads_dropped : {ls : List Scoped} {t : SimpleType} {s : Span} {h : PName} {es : DesugaredSpine}
          → blank t ≡ true → ReadsObject ls (Some t) (atomic s h es) [] (expansion t (core.head_alone (Var 0)))
      reads_hole : {ls : List Scoped} {t : SimpleType} {s : Span} {l : Locals} {o : PlainObject}
          → KnownLocals ls l → ReadsObject ls (Some t) (hole s) (record { locals = l; type = t; object = o } ∷ []) o

    -- what is done to a head of a simple type
    pub data ReadsSpine : List Scoped → PlainNeutral → Place → DesugaredSpine → Fillings → PlainNeutral → Place → Type 0 where
      spine_end : {ls : List Scoped} {r : PlainNeutral} {p : Place} → ReadsSpine ls r p end_of_spine [] r p
      spine_argument : {ls : List Scoped} {r x : PlainNeutral} {p u : Place} {m : SMode} {o : DesugaredObject} {es : DesugaredSpine} {fs gs hs : Fillings} {n : PlainObject}
          → ReadsObject ls (function_parts p).domain o fs n → ReadsSpine ls (core.app (marked m (function_parts p).mode) r n) (function_parts p).codomain es gs x u → hs ≡ fs ++ gs
          → ReadsSpine ls r p (and_then (argument m o) es) hs x u
      spine_first : {ls : List Scoped} {r x : PlainNeutral} {p u : Place} {es : DesugaredSpine} {fs : Fillings}
          → ReadsSpine ls (core.fst r) (pair_parts p).left es fs x u → ReadsSpine ls r p (and_then first es) fs x u
      spine_second : {ls : List Scoped} {r x : PlainNeutral} {p u : Place} {es : DesugaredSpine} {fs : Fillings}
          → ReadsSpine ls (core.snd r) (pair_parts p).right es fs x u → ReadsSpine ls r p (and_then second es) fs x u

    -- steps, with the locals after them
    pub data ReadsSteps : List Scoped → DesugaredSteps → Fillings → List (List Mode × PlainNeutral) → List Scoped → Type 0 where
      steps_none : {ls : List Scoped} → ReadsSteps ls no_steps [] [] ls
      steps_next : {ls ks : List Scoped} {p u : Place} {b : List PBinder} {h : PName} {es : DesugaredSpine} {ss : DesugaredSteps} {fs gs ks' hs : Fillings} {r x : PlainNeutral} {xs : List (List Mode × PlainNeutral)}
          → ReadsHead ls h fs r p → ReadsSpine ls r p es gs x u → ReadsSteps (with_pattern ls (entries_at u) b) ss ks' xs ks → hs ≡ (fs ++ gs) ++ ks'
          → ReadsSteps ls (step b h es ss) hs ((pattern_modes (entries_at u) b, x) ∷ xs) ks

    pub data ReadsTuple : List Scoped → List (Mode × SimpleType) → DesugaredTuple → Fillings → List (Mode × PlainObject) → Type 0 where
      tuple_end : {ls : List Scoped} {ps : List (Mode × SimpleType)} → ReadsTuple ls ps end_of_tuple [] []
      tuple_entry : {ls : List Scoped} {ps : List (Mode × SimpleType)} {m : SMode} {o : DesugaredObject} {u : DesugaredTuple} {fs gs hs : Fillings} {n : PlainObject} {es : List (Mode × PlainObject)}
          → ReadsObject ls (next_part ps).place o fs n → ReadsTuple ls (next_part ps).later u gs es → hs ≡ fs ++ gs
          → ReadsTuple ls ps (entry m o u) hs ((marked m (next_part ps).mode, n) ∷ es)

  -- the first indices of a family, so many, all of them filled in; and what is wanted of those that are written
  pub data ReadsFilled : List Scoped → ℕ → List SimpleType → Fillings → List PlainObject → List SimpleType → Type 0 where
    filled_none : {ls : List Scoped} {ts : List SimpleType} → ReadsFilled ls zero ts [] [] ts
    filled_next : {ls : List Scoped} {i : ℕ} {t : SimpleType} {ts us : List SimpleType} {l : Locals} {o : PlainObject} {fs : Fillings} {ns : List PlainObject}
        → KnownLocals ls l → ReadsFilled ls i ts fs ns us → ReadsFilled ls (suc i) (t ∷ ts) (record { locals = l; type = t; object = o } ∷ fs) (o ∷ ns) us

  -- the indices that are written; beyond the last one that is wanted nothing is
  pub data ReadsIndices : List Scoped → List SimpleType → List DesugaredObject → Fillings → List PlainObject → Type 0 where
    indices_none : {ls : List Scoped} {ts : List SimpleType} → ReadsIndices ls ts [] [] []
    indices_next : {ls : List Scoped} {t : SimpleType} {ts : List SimpleType} {o : DesugaredObject} {os : List DesugaredObject} {fs gs hs : Fillings} {n : PlainObject} {ns : List PlainObject}
        → ReadsObject ls (Some t) o fs n → ReadsIndices ls ts os gs ns → hs ≡ fs ++ gs → ReadsIndices ls (t ∷ ts) (o ∷ os) hs (n ∷ ns)
    indices_beyond : {ls : List Scoped} {o : DesugaredObject} {os : List DesugaredObject} {fs gs hs : Fillings} {n : PlainObject} {ns : List PlainObject}
        → ReadsObject ls None o fs n → ReadsIndices ls [] os gs ns → hs ≡ fs ++ gs → ReadsIndices ls [] (o ∷ os) hs (n ∷ ns)

  -- how many indices of a family are implicit under a name; after `$` all are written
  abbrev pub implicit_indices : PName → ℕ → ℕ
  implicit_indices n f = if n.dollar then 0 else implicit_arguments (entry_at sig f)

  mutual
    pub data ReadsType : List Scoped → DesugaredType → Fillings → PlainType → Type 0 where
      reads_family : {ls : List Scoped} {s : Span} {h : PName} {is : List DesugaredObject} {f : ℕ} {k : PlainKind} {ts : List SimpleType} {fs gs hs : Fillings} {ns os : List PlainObject}
          → family_named sig h.name ≡ Some f → family_kind sig f ≡ Some k → ReadsFilled ls (implicit_indices h f) (map erase k) fs ns ts → ReadsIndices ls ts is gs os → hs ≡ fs ++ gs
          → ReadsType ls (family s h is) hs (core_type.family f (ns ++ os))
      reads_function : {ls : List Scoped} {s : Span} {m : Mode} {n : Option (List ℕ)} {a b : DesugaredType} {fs gs hs : Fillings} {c d : PlainType}
          → ReadsType ls a fs c → ReadsType (type_local m n c ∷ ls) b gs d → hs ≡ fs ++ gs → ReadsType ls (function s m n a b) hs (core_type.function m c d)
      reads_both : {ls : List Scoped} {s : Span} {a b : DesugaredType} {fs gs hs : Fillings} {c d : PlainType}
          → ReadsType ls a fs c → ReadsType ls b gs d → hs ≡ fs ++ gs → ReadsType ls (both s a b) hs (core_type.both c d)
      reads_top : {ls : List Scoped} {s : Span} → ReadsType ls (top s) [] core_type.top
      reads_monad : {ls : List Scoped} {s : Span} {t : DesugaredTelescope} {fs : Fillings} {u : PlainTelescope} → ReadsTelescope ls t fs u → ReadsType ls (monad s t) fs (core_type.monad u)

    pub data ReadsTelescope : List Scoped → DesugaredTelescope → Fillings → PlainTelescope → Type 0 where
      reads_end : {ls : List Scoped} → ReadsTelescope ls end [] core_type.end
      reads_binding : {ls : List Scoped} {m : Mode} {n : Option (List ℕ)} {a : DesugaredType} {t : DesugaredTelescope} {fs gs hs : Fillings} {c : PlainType} {u : PlainTelescope}
          → ReadsType ls a fs c → ReadsTelescope (type_local m n c ∷ ls) t gs u → hs ≡ fs ++ gs → ReadsTelescope ls (binding m n a t) hs (core_type.binding m c u)
