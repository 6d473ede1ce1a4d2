-- Where the walk over an object leaves a whole state, its tree is read with the new metavariables as fillings.
use Rattle.std.specs.Prelude.{ℕ, zero, suc, ◌+◌, ◌≡◌, Bool, true, false, if◌then◌else◌, List, [], ◌∷◌, ◌++◌, map, Option, None, Some, refl}
use Rattle.std.proofs.Common.{ap, sym, ◌∙◌, append_assoc, append-nil}
use Rattle.clf_syntax.specs.declared.tree.Mode.{Mode}
use Rattle.clf_syntax.specs.declared.tree.Head.{Head}
use Rattle.clf_syntax.specs.declared.tree.Head.TheVariants.{Var}
use Rattle.clf_syntax.specs.Tree as core
use Rattle.clf_syntax.specs.Tree.{PlainObject, PlainNeutral}
use Rattle.clf_syntax.specs.TypeTree.{SimpleType, base, arrow, simple_with, simple_top, lax}
use Rattle.clf_sig.specs.Entry.{PlainSignature}
use Rattle.pattern_laws.specs.Equations.{Locals}
use Rattle.celf_surface.specs.declared.surface.Span.{Span}
use Rattle.celf_sugar.specs.declared.plain.PName.{PName}
use Rattle.celf_sugar.specs.PlainTree.{DesugaredObject, lam, pair, unit, monadic, atomic, hole, DesugaredSpine, end_of_spine, and_then, argument, first, second, DesugaredSteps, no_steps, step, DesugaredTuple, end_of_tuple, entry}
use Rattle.celf_places.specs.Places.{Place, marked, function_parts, pair_parts, entries_at, next_part}
use Rattle.celf_explicit.specs.Objects.{long_at, pattern_modes, expression_of}
use Rattle.celf_elaboration.specs.Fillings.{Fillings, Scoped, KnownLocals}
use Rattle.celf_elaboration.specs.Names.{ImplicitVariable, Meaning, meaning, implicit_from}
use Rattle.celf_elaboration.specs.Declarations.{declared_heads}
use Rattle.celf_elaboration.specs.Readings.{blank_at, lambda_local, ReadsImplicit, implicit_none, implicit_next, ReadsHead, reads_head, ReadsObject, reads_lam, reads_pair, reads_unit, reads_monadic, reads_atomic, reads_dropped, reads_hole, ReadsSpine, spine_end, spine_argument, spine_first, spine_second, ReadsSteps, steps_none, steps_next, ReadsTuple, tuple_end, tuple_entry}
use Rattle.celf_filled.specs.Scopes.{with_known_type, variable_from, meaning_of}
use Rattle.celf_filled.specs.States.{State}
use Rattle.celf_filled.specs.Whole.{IsRead}
use Rattle.celf_filled.specs.Walk.{fill_place, Headed, first_of, second_of, fill_argument, fill_arguments, fill_implicit, fill_meaning, fill_head, fill_object, fill_spine, fill_act, in_long_form, Steps, fill_steps, step_with, with_step, no_steps_yet, Entries, fill_tuple, marked_with, with_entry, no_entries_yet}
use Rattle.celf_filled.proofs.WholeObjects.{read_alone, read_by, read_then, IsFilling, place_read}

pub variables_same : (heads : ℕ → Head) (k : ℕ) (name : List ℕ) (vs : List ImplicitVariable) → variable_from heads k name (map with_known_type vs) ≡ implicit_from heads k name vs
variables_same heads k name [] = refl
variables_same heads k name (v ∷ vs) = rw (variables_same heads (k + 1) name vs) refl

module _ (sig : PlainSignature) (vs : List ImplicitVariable) where
  meanings_same : (ls : List Scoped) (n : PName) → meaning_of sig (map with_known_type vs) ls n ≡ meaning sig (declared_heads sig) vs ls n
  meanings_same ls n = rw (variables_same (declared_heads sig) 0 n.name vs) refl

  implicit_step : (ls : List Scoped) (i : ℕ) (r x : PlainNeutral) (o : PlainObject) (l : Locals) (fs : Fillings) (w p : Place) (u : SimpleType) → (function_parts p).domain ≡ Some u → KnownLocals ls l
      → ReadsImplicit sig (declared_heads sig) vs ls i (core.app (function_parts p).mode r o) (function_parts p).codomain fs x w
      → ReadsImplicit sig (declared_heads sig) vs ls (suc i) r p (record { locals = l; type = u; object = o } ∷ fs) x w
  implicit_step ls i r x o l fs w None u e k q = absurd (cc)
  implicit_step ls i r x o l fs w (Some (base f)) u e k q = absurd (cc)
  implicit_step ls i r x o l fs w (Some (arrow m d c)) u e k q = let same : d ≡ u = cc in rw (← same) (implicit_next k q)
  implicit_step ls i r x o l fs w (Some (simple_with a b)) u e k q = absurd (cc)
  implicit_step ls i r x o l fs w (Some simple_top) u e k q = absurd (cc)
  implicit_step ls i r x o l fs w (Some (lax ts)) u e k q = absurd (cc)

  implicit_joined : (ls : List Scoped) (i : ℕ) (r x : PlainNeutral) (o : PlainObject) (fs gs : Fillings) (w p : Place) → IsFilling ls (function_parts p).domain fs o
      → ReadsImplicit sig (declared_heads sig) vs ls i (core.app (function_parts p).mode r o) (function_parts p).codomain gs x w → ReadsImplicit sig (declared_heads sig) vs ls (suc i) r p (fs ++ gs) x w
  implicit_joined ls i r x o fs gs w p (u, l, e, k, q) b = rw q (implicit_step ls i r x o l gs w p u e k b)

  arguments_read : (ls : List Scoped) (i : ℕ) (h : Headed) (s : State)
      → IsRead s (fill_arguments ls i (h, s)) (λ fs x. ReadsImplicit sig (declared_heads sig) vs ls i h.neutral h.place fs x.neutral x.place)
  arguments_read ls zero h s = read_alone s h _ implicit_none
  arguments_read ls (suc i) h s =
      let o = fill_place ls (function_parts h.place).domain s in
      let next = fill_argument ls (h, s) in
      let rest = fill_arguments ls i next in
      read_then s o rest rest.0 (IsFilling ls (function_parts h.place).domain) (λ gs x. ReadsImplicit sig (declared_heads sig) vs ls i next.0.neutral next.0.place gs x.neutral x.place)
      (λ fs x. ReadsImplicit sig (declared_heads sig) vs ls (suc i) h.neutral h.place fs x.neutral x.place)
      (λ fs gs a b. implicit_joined ls i h.neutral rest.0.neutral o.0 fs gs rest.0.place h.place a b)
      (place_read ls (function_parts h.place).domain s) (arguments_read ls i next.0 o.1)

  head_read : (ls : List Scoped) (n : PName) (s : State) → IsRead s (fill_head sig (map with_known_type vs) ls n s) (λ fs x. ReadsHead sig (declared_heads sig) vs ls n fs x.neutral x.place)
  head_read ls n s = meant (meaning_of sig (map with_known_type vs) ls n) refl
    where
      meant : (m : Option Meaning) → meaning_of sig (map with_known_type vs) ls n ≡ m → IsRead s (fill_meaning ls m s) (λ fs x. ReadsHead sig (declared_heads sig) vs ls n fs x.neutral x.place)
      meant None e = record { fillings = []; grows = record { new_ones = tt; constants_kept = refl; added = sym (append-nil s.added) }; reads = λ w. absurd (cc) }
      meant (Some m) e =
          read_by s (fill_implicit ls m s) (λ x. x) (λ fs x. ReadsImplicit sig (declared_heads sig) vs ls m.implicit (core.head_alone m.head) m.place fs x.neutral x.place)
          (λ fs x. ReadsHead sig (declared_heads sig) vs ls n fs x.neutral x.place) (λ fs a. reads_head (sym (meanings_same ls n) ∙ e) a)
          (arguments_read ls m.implicit (record { neutral = core.head_alone m.head; place = m.place }) s)

  dropped_read : (ls : List Scoped) (t : Place) (p : Span) (h : PName) (es : DesugaredSpine) (s : State) → blank_at t ≡ true
      → ReadsObject sig (declared_heads sig) vs ls t (atomic p h es) [] (long_at t (core.head_alone (Var 0)))
  dropped_read ls None p h es s e = absurd (cc)
  dropped_read ls (Some t) p h es s e = reads_dropped e

  atomic_read : (ls : List Scoped) (t : Place) (p : Span) (h : PName) (es : DesugaredSpine) (s : State) (b : Bool) → blank_at t ≡ b
      → IsRead (fill_head sig (map with_known_type vs) ls h s).1 (fill_spine sig (map with_known_type vs) ls (fill_head sig (map with_known_type vs) ls h s) es)
      (λ fs x. ReadsSpine sig (declared_heads sig) vs ls (fill_head sig (map with_known_type vs) ls h s).0.neutral (fill_head sig (map with_known_type vs) ls h s).0.place es fs x.neutral x.place)
      → IsRead s (if b then (long_at t (core.head_alone (Var 0)), s) else in_long_form t (fill_spine sig (map with_known_type vs) ls (fill_head sig (map with_known_type vs) ls h s) es))
      (λ fs n. ReadsObject sig (declared_heads sig) vs ls t (atomic p h es) fs n)
  atomic_read ls t p h es s true e r = read_alone s (long_at t (core.head_alone (Var 0))) _ (dropped_read ls t p h es s e)
  atomic_read ls t p h es s false e r =
      let head = fill_head sig (map with_known_type vs) ls h s in
      let whole = fill_spine sig (map with_known_type vs) ls head es in
      read_then s head whole (long_at t whole.0.neutral) (λ fs x. ReadsHead sig (declared_heads sig) vs ls h fs x.neutral x.place)
      (λ gs x. ReadsSpine sig (declared_heads sig) vs ls head.0.neutral head.0.place es gs x.neutral x.place) (λ fs n. ReadsObject sig (declared_heads sig) vs ls t (atomic p h es) fs n)
      (λ fs gs a b. reads_atomic e a b refl) (head_read ls h s) r

  hole_read : (ls : List Scoped) (t : Place) (p : Span) (fs : Fillings) (o : PlainObject) → IsFilling ls t fs o → ReadsObject sig (declared_heads sig) vs ls t (hole p) fs o
  hole_read ls t p fs o (u, l, e, k, q) = rw (e, q) (reads_hole k)

  mutual
    pub object_read : (ls : List Scoped) (t : Place) (o : DesugaredObject) (s : State) → IsRead s (fill_object sig (map with_known_type vs) ls t o s) (λ fs n. ReadsObject sig (declared_heads sig) vs ls t o fs n)
    object_read ls t (lam p m x b) s =
        read_by s (fill_object sig (map with_known_type vs) (lambda_local t m x ∷ ls) (function_parts t).codomain b s) (core.lam (marked m (function_parts t).mode))
        (λ fs n. ReadsObject sig (declared_heads sig) vs (lambda_local t m x ∷ ls) (function_parts t).codomain b fs n) (λ fs n. ReadsObject sig (declared_heads sig) vs ls t (lam p m x b) fs n)
        (λ fs a. reads_lam a) (object_read (lambda_local t m x ∷ ls) (function_parts t).codomain b s)
    object_read ls t (pair p l r) s =
        let left = fill_object sig (map with_known_type vs) ls (pair_parts t).left l s in
        let right = fill_object sig (map with_known_type vs) ls (pair_parts t).right r left.1 in
        read_then s left right (core.pair left.0 right.0) (λ fs n. ReadsObject sig (declared_heads sig) vs ls (pair_parts t).left l fs n) (λ fs n. ReadsObject sig (declared_heads sig) vs ls (pair_parts t).right r fs n)
        (λ fs n. ReadsObject sig (declared_heads sig) vs ls t (pair p l r) fs n) (λ fs gs a b. reads_pair a b refl) (object_read ls (pair_parts t).left l s) (object_read ls (pair_parts t).right r left.1)
    object_read ls t (unit p) s = read_alone s core.unit _ reads_unit
    object_read ls t (monadic p ss u) s =
        let steps = fill_steps sig (map with_known_type vs) (no_steps_yet ls, s) ss in
        let tuple = fill_tuple sig (map with_known_type vs) steps.0.locals (no_entries_yet (entries_at t), steps.1) u in
        read_then s steps tuple (expression_of steps.0.steps tuple.0.entries) (λ fs x. (ys : List (List Mode × PlainNeutral)) × (x.steps ≡ ys) × ReadsSteps sig (declared_heads sig) vs ls ss fs ys x.locals)
        (λ gs y. (zs : List (Mode × PlainObject)) × (y.entries ≡ zs) × ReadsTuple sig (declared_heads sig) vs steps.0.locals (entries_at t) u gs zs)
        (λ fs n. ReadsObject sig (declared_heads sig) vs ls t (monadic p ss u) fs n)
        (λ fs gs a b. rw (a.1, b.1) (reads_monadic a.2 b.2 refl)) (steps_read (no_steps_yet ls) s ss) (tuple_read steps.0.locals (no_entries_yet (entries_at t)) steps.1 u)
    object_read ls t (atomic p h es) s = atomic_read ls t p h es s (blank_at t) refl (spine_read ls (fill_head sig (map with_known_type vs) ls h s).0 (fill_head sig (map with_known_type vs) ls h s).1 es)
    object_read ls t (hole p) s =
        read_by s (fill_place ls t s) (λ o. o) (IsFilling ls t) (λ fs n. ReadsObject sig (declared_heads sig) vs ls t (hole p) fs n) (λ fs a. hole_read ls t p fs (fill_place ls t s).0 a) (place_read ls t s)

    pub spine_read : (ls : List Scoped) (h : Headed) (s : State) (es : DesugaredSpine)
        → IsRead s (fill_spine sig (map with_known_type vs) ls (h, s) es) (λ fs x. ReadsSpine sig (declared_heads sig) vs ls h.neutral h.place es fs x.neutral x.place)
    spine_read ls h s end_of_spine = read_alone s h _ spine_end
    spine_read ls h s (and_then (argument m o) es) =
        let n = fill_object sig (map with_known_type vs) ls (function_parts h.place).domain o s in
        let next = fill_act sig (map with_known_type vs) ls (h, s) (argument m o) in
        let rest = fill_spine sig (map with_known_type vs) ls next es in
        read_then s n rest rest.0 (λ fs x. ReadsObject sig (declared_heads sig) vs ls (function_parts h.place).domain o fs x)
        (λ gs x. ReadsSpine sig (declared_heads sig) vs ls next.0.neutral next.0.place es gs x.neutral x.place)
        (λ fs x. ReadsSpine sig (declared_heads sig) vs ls h.neutral h.place (and_then (argument m o) es) fs x.neutral x.place)
        (λ fs gs a b. spine_argument a b refl) (object_read ls (function_parts h.place).domain o s) (spine_read ls next.0 n.1 es)
    spine_read ls h s (and_then first es) =
        read_by s (fill_spine sig (map with_known_type vs) ls (first_of h, s) es) (λ x. x) (λ fs x. ReadsSpine sig (declared_heads sig) vs ls (first_of h).neutral (first_of h).place es fs x.neutral x.place)
        (λ fs x. ReadsSpine sig (declared_heads sig) vs ls h.neutral h.place (and_then first es) fs x.neutral x.place) (λ fs a. spine_first a) (spine_read ls (first_of h) s es)
    spine_read ls h s (and_then second es) =
        read_by s (fill_spine sig (map with_known_type vs) ls (second_of h, s) es) (λ x. x) (λ fs x. ReadsSpine sig (declared_heads sig) vs ls (second_of h).neutral (second_of h).place es fs x.neutral x.place)
        (λ fs x. ReadsSpine sig (declared_heads sig) vs ls h.neutral h.place (and_then second es) fs x.neutral x.place) (λ fs a. spine_second a) (spine_read ls (second_of h) s es)

    pub steps_read : (w : Steps) (s : State) (ss : DesugaredSteps)
        → IsRead s (fill_steps sig (map with_known_type vs) (w, s) ss) (λ fs x. (ys : List (List Mode × PlainNeutral)) × (x.steps ≡ w.steps ++ ys) × ReadsSteps sig (declared_heads sig) vs w.locals ss fs ys x.locals)
    steps_read w s no_steps = read_alone s w _ ([], sym (append-nil w.steps), steps_none)
    steps_read w s (step b h es ss) =
        let head = fill_head sig (map with_known_type vs) w.locals h s in
        let right = fill_spine sig (map with_known_type vs) w.locals head es in
        let next = with_step w (step_with w.locals b right) in
        let rest = fill_steps sig (map with_known_type vs) next ss in
        read_then s right rest rest.0
        (λ fs x. (f g : Fillings) × (fs ≡ f ++ g) × ReadsHead sig (declared_heads sig) vs w.locals h f head.0.neutral head.0.place × ReadsSpine sig (declared_heads sig) vs w.locals head.0.neutral head.0.place es g x.neutral x.place)
        (λ gs x. (ys : List (List Mode × PlainNeutral)) × (x.steps ≡ next.0.steps ++ ys) × ReadsSteps sig (declared_heads sig) vs next.0.locals ss gs ys x.locals)
        (λ fs x. (ys : List (List Mode × PlainNeutral)) × (x.steps ≡ w.steps ++ ys) × ReadsSteps sig (declared_heads sig) vs w.locals (step b h es ss) fs ys x.locals)
        (λ fs gs a c. ((pattern_modes (entries_at right.0.place) b, right.0.neutral) ∷ c.0, c.1 ∙ append_assoc w.steps ((pattern_modes (entries_at right.0.place) b, right.0.neutral) ∷ []) c.0, steps_next a.3 a.4 c.2 (ap (λ x. x ++ gs) a.2)))
        (read_then s head right right.0 (λ fs x. ReadsHead sig (declared_heads sig) vs w.locals h fs x.neutral x.place)
        (λ gs x. ReadsSpine sig (declared_heads sig) vs w.locals head.0.neutral head.0.place es gs x.neutral x.place)
        (λ fs x. (f g : Fillings) × (fs ≡ f ++ g) × ReadsHead sig (declared_heads sig) vs w.locals h f head.0.neutral head.0.place × ReadsSpine sig (declared_heads sig) vs w.locals head.0.neutral head.0.place es g x.neutral x.place)
        (λ fs gs a c. (fs, gs, refl, a, c)) (head_read w.locals h s) (spine_read w.locals head.0 head.1 es))
        (steps_read next.0 next.1 ss)

    pub tuple_read : (ls : List Scoped) (w : Entries) (s : State) (u : DesugaredTuple)
        → IsRead s (fill_tuple sig (map with_known_type vs) ls (w, s) u) (λ fs y. (zs : List (Mode × PlainObject)) × (y.entries ≡ w.entries ++ zs) × ReadsTuple sig (declared_heads sig) vs ls w.wanted u fs zs)
    tuple_read ls w s end_of_tuple = read_alone s w _ ([], sym (append-nil w.entries), tuple_end)
    tuple_read ls w s (entry m o u) =
        let n = fill_object sig (map with_known_type vs) ls (next_part w.wanted).place o s in
        let next = with_entry w (marked_with (marked m (next_part w.wanted).mode) n) in
        let rest = fill_tuple sig (map with_known_type vs) ls next u in
        read_then s n rest rest.0 (λ fs x. ReadsObject sig (declared_heads sig) vs ls (next_part w.wanted).place o fs x)
        (λ gs y. (zs : List (Mode × PlainObject)) × (y.entries ≡ next.0.entries ++ zs) × ReadsTuple sig (declared_heads sig) vs ls next.0.wanted u gs zs)
        (λ fs y. (zs : List (Mode × PlainObject)) × (y.entries ≡ w.entries ++ zs) × ReadsTuple sig (declared_heads sig) vs ls w.wanted (entry m o u) fs zs)
        (λ fs gs a c. ((marked m (next_part w.wanted).mode, n.0) ∷ c.0, c.1 ∙ append_assoc w.entries ((marked m (next_part w.wanted).mode, n.0) ∷ []) c.0, tuple_entry a c.2 refl))
        (object_read ls (next_part w.wanted).place o s) (tuple_read ls next.0 n.1 u)
