-- Where an object has a reading, the walk over it fills in all.
use Rattle.std.proofs.Common.{ℕ, zero, suc, ◌+◌, ◌≡◌, ◌∙◌, Bool, true, false, if◌then◌else◌, refl, sym, ap, subst, List, [], ◌∷◌, map, Option, Some, None}
use Rattle.clf_syntax.specs.Tree as core
use Rattle.clf_syntax.specs.Tree.{PlainObject, PlainNeutral}
use Rattle.clf_syntax.specs.TypeTree.{SimpleType, arrow}
use Rattle.clf_syntax.specs.declared.tree.Mode.{Mode}
use Rattle.clf_sig.specs.Entry.{PlainSignature}
use Rattle.pattern_laws.specs.Equations.{Locals}
use Rattle.celf_sugar.specs.declared.plain.PName.{PName}
use Rattle.celf_sugar.specs.PlainTree.{DesugaredObject, DesugaredSpine, argument, DesugaredSteps, DesugaredTuple}
use Rattle.celf_places.specs.Places.{Place, function_parts, pair_parts, entries_at, next_part}
use Rattle.celf_places.specs.Combined.{combined}
use Rattle.celf_elaboration.specs.Fillings.{Fillings, Scoped, KnownLocals}
use Rattle.celf_elaboration.specs.Names.{ImplicitVariable, Meaning, meaning}
use Rattle.celf_elaboration.specs.Declarations.{declared_heads}
use Rattle.celf_elaboration.specs.Readings.{blank_at, lambda_local, with_pattern, ReadsImplicit, implicit_none, implicit_next, ReadsHead, reads_head, ReadsObject, reads_lam, reads_pair, reads_unit, reads_monadic, reads_atomic, reads_dropped, reads_hole, ReadsSpine, spine_end, spine_argument, spine_first, spine_second, ReadsSteps, steps_none, steps_next, ReadsTuple, tuple_end, tuple_entry}
use Rattle.celf_filled.specs.Scopes.{with_known_type, known_local, known_locals, meaning_of}
use Rattle.celf_filled.specs.States.{State}
use Rattle.celf_filled.specs.Walk.{fill_known, fill_place, Headed, first_of, second_of, fill_argument, fill_arguments, fill_meaning, fill_head, fill_object, fill_spine, fill_act, Steps, fill_steps, step_with, with_step, no_steps_yet, Entries, fill_tuple, with_entry, marked_with, no_entries_yet}
use Rattle.celf_filled.proofs.WholeReadings.{variables_same}

abbrev pub IsWhole : State → Type 0
IsWhole s = s.whole ≡ true

locals_known : (ls : List Scoped) (l : Locals) → KnownLocals ls l → known_locals ls ≡ Some l
locals_known [] l e = ap (λ (k : Locals). Some k) (sym e)
locals_known (x ∷ ls) l h =
    let (t, k, place, is, rest) = h in
    let later : known_locals ls ≡ Some k = locals_known ls k rest in
    let both : combined (known_local x.mode) x.place (known_locals ls) ≡ Some ((x.mode, t) ∷ k) = rw (place, later) refl in
    both ∙ ap (λ (k : Locals). Some k) (sym is)

pub place_whole : (ls : List Scoped) (t : SimpleType) (l : Locals) → KnownLocals ls l → (s : State) → IsWhole s → IsWhole (fill_place ls (Some t) s).1
place_whole ls t l k s w = subst (λ (o : Option Locals). IsWhole (fill_known o t s).1) (sym (locals_known ls l k)) w

module _ (sig : PlainSignature) (vs : List ImplicitVariable) where
  abbrev xs : List (List ℕ × Place)
  xs = map with_known_type vs

  -- what is left is whole, and the simple type is the one read
  abbrev LeftAt : Headed × State → Place → Type 0
  LeftAt v p = IsWhole v.1 × (v.0.place ≡ p)

  arguments_whole : {ls : List Scoped} {i : ℕ} {r x : PlainNeutral} {p u : Place} {fs : Fillings} → ReadsImplicit sig (declared_heads sig) vs ls i r p fs x u
      → (h : Headed) → h.place ≡ p → (s : State) → IsWhole s → LeftAt (fill_arguments ls i (h, s)) u
  arguments_whole implicit_none h e s w = (w, e)
  arguments_whole (implicit_next {ls = ls} {i = i} {m = m} {d = d} {c = c} {l = l} k q) h e s w =
      let next = fill_argument ls (h, s) in
      arguments_whole q next.0 (ap (λ p. (function_parts p).codomain) e) next.1 (subst (λ p. IsWhole (fill_place ls (function_parts p).domain s).1) (sym e) (place_whole ls d l k s w))

  meanings_same : (ls : List Scoped) (n : PName) → meaning_of sig xs ls n ≡ meaning sig (declared_heads sig) vs ls n
  meanings_same ls n = rw (variables_same (declared_heads sig) 0 n.name vs) refl

  head_whole : {ls : List Scoped} {n : PName} {fs : Fillings} {r : PlainNeutral} {p : Place} → ReadsHead sig (declared_heads sig) vs ls n fs r p → (s : State) → IsWhole s → LeftAt (fill_head sig xs ls n s) p
  head_whole (reads_head {ls = ls} {n = n} {m = m} {p = p} e i) s w =
      subst (λ (o : Option Meaning). LeftAt (fill_meaning ls o s) p) (sym (meanings_same ls n ∙ e)) (arguments_whole i (record { neutral = core.head_alone m.head; place = m.place }) refl s w)

  mutual
    pub object_whole : {ls : List Scoped} {t : Place} {o : DesugaredObject} {fs : Fillings} {n : PlainObject} → ReadsObject sig (declared_heads sig) vs ls t o fs n → (s : State) → IsWhole s → IsWhole (fill_object sig xs ls t o s).1
    object_whole (reads_lam q) s w = object_whole q s w
    object_whole (reads_pair p q e) s w = object_whole q _ (object_whole p s w)
    object_whole reads_unit s w = w
    object_whole (reads_monadic {ls = ls} {ks = ks} {t = t} {ss = ss} {u = u} p q e) s w =
        let steps = fill_steps sig xs (no_steps_yet ls, s) ss in
        let there = steps_whole p (no_steps_yet ls) refl s w in
        subst (λ (k : List Scoped). IsWhole (fill_tuple sig xs k (no_entries_yet (entries_at t), steps.1) u).1) (sym there.1) (tuple_whole q (no_entries_yet (entries_at t)) refl steps.1 there.0)
    object_whole (reads_atomic {ls = ls} {t = t} {s = p} {h = h} {es = es} b r q e) s w =
        let head = head_whole r s w in
        let spine = spine_whole q (fill_head sig xs ls h s).0 head.1 (fill_head sig xs ls h s).1 head.0 in
        rw b spine.0
    object_whole (reads_dropped b) s w = rw b w
    object_whole (reads_hole {ls = ls} {t = t} {l = l} k) s w = place_whole ls t l k s w

    spine_whole : {ls : List Scoped} {r x : PlainNeutral} {p u : Place} {es : DesugaredSpine} {fs : Fillings} → ReadsSpine sig (declared_heads sig) vs ls r p es fs x u
        → (h : Headed) → h.place ≡ p → (s : State) → IsWhole s → LeftAt (fill_spine sig xs ls (h, s) es) u
    spine_whole spine_end h e s w = (w, e)
    spine_whole (spine_argument {ls = ls} {m = m} {o = o} q r i) h e s w =
        let next = fill_act sig xs ls (h, s) (argument m o) in
        spine_whole r next.0 (ap (λ p. (function_parts p).codomain) e) next.1 (subst (λ p. IsWhole (fill_object sig xs ls (function_parts p).domain o s).1) (sym e) (object_whole q s w))
    spine_whole (spine_first r) h e s w = spine_whole r (first_of h) (ap (λ p. (pair_parts p).left) e) s w
    spine_whole (spine_second r) h e s w = spine_whole r (second_of h) (ap (λ p. (pair_parts p).right) e) s w

    steps_whole : {ls ks : List Scoped} {ss : DesugaredSteps} {fs : Fillings} {ys : List (List Mode × PlainNeutral)} → ReadsSteps sig (declared_heads sig) vs ls ss fs ys ks
        → (v : Steps) → v.locals ≡ ls → (s : State) → IsWhole s → IsWhole (fill_steps sig xs (v, s) ss).1 × ((fill_steps sig xs (v, s) ss).0.locals ≡ ks)
    steps_whole steps_none v e s w = (w, e)
    steps_whole (steps_next {ls = ls} {u = u} {b = b} {h = h} {es = es} r q rest i) v e s w =
        let head = head_whole r s w in
        let there : LeftAt (fill_spine sig xs ls (fill_head sig xs ls h s) es) u = spine_whole q (fill_head sig xs ls h s).0 head.1 (fill_head sig xs ls h s).1 head.0 in
        let here : LeftAt (fill_spine sig xs v.locals (fill_head sig xs v.locals h s) es) u = subst (λ (k : List Scoped). LeftAt (fill_spine sig xs k (fill_head sig xs k h s) es) u) (sym e) there in
        let next = with_step v (step_with v.locals b (fill_spine sig xs v.locals (fill_head sig xs v.locals h s) es)) in
        steps_whole rest next.0 (ap (λ p. with_pattern v.locals (entries_at p) b) here.1 ∙ ap (λ (k : List Scoped). with_pattern k (entries_at u) b) e) next.1 here.0

    tuple_whole : {ls : List Scoped} {ps : List (Mode × SimpleType)} {u : DesugaredTuple} {fs : Fillings} {es : List (Mode × PlainObject)} → ReadsTuple sig (declared_heads sig) vs ls ps u fs es
        → (v : Entries) → v.wanted ≡ ps → (s : State) → IsWhole s → IsWhole (fill_tuple sig xs ls (v, s) u).1
    tuple_whole tuple_end v e s w = w
    tuple_whole (tuple_entry {ls = ls} {m = m} {o = o} q rest i) v e s w =
        let next = with_entry v (marked_with _ (fill_object sig xs ls (next_part v.wanted).place o s)) in
        tuple_whole rest next.0 (ap (λ ps. (next_part ps).later) e) next.1 (subst (λ ps. IsWhole (fill_object sig xs ls (next_part ps).place o s).1) (sym e) (object_whole q s w))
