-- The explicit reading of an object is its one reading with fillings, of which there are none.
use Rattle.std.specs.Prelude.{ℕ, zero, suc, ◌+◌, ◌≡◌, ◌&&◌, ◌||◌, Bool, true, false, if◌then◌else◌, List, [], ◌∷◌, ◌++◌, map, Option, Some, None, option_map, option_and_then, refl, slice_get}
use Rattle.std.specs.Option.{option_or}
use Rattle.std.proofs.Common.{ap, subst, sym, ◌∙◌}
use Rattle.clf_syntax.specs.declared.tree.Mode.{Mode}
use Rattle.clf_syntax.specs.declared.tree.Head.{Head}
use Rattle.clf_syntax.specs.declared.tree.Head.TheVariants.{Const, Var}
use Rattle.clf_syntax.specs.Tree as core
use Rattle.clf_syntax.specs.Tree.{PlainElimination, PlainNeutral, PlainObject, head_alone, spine_on}
use Rattle.clf_syntax.specs.TypeTree.{SimpleType, base, arrow, simple_with, simple_top, lax}
use Rattle.clf_syntax.specs.Renaming.{ren_neutral, up}
use Rattle.eta_laws.specs.Eta.{eta, expansion}
use Rattle.pattern_laws.specs.Patterns.{blank}
use Rattle.clf_sig.specs.Entry.{PlainEntry, PlainSignature, entry_at, family_of, simple_types}
use Rattle.celf_surface.specs.declared.surface.Span.{Span}
use Rattle.celf_sugar.specs.declared.plain.PName.{PName}
use Rattle.celf_sugar.specs.declared.plain.PBinder.{PBinder}
use Rattle.celf_sugar.specs.PlainTree.{DesugaredObject, lam, pair, unit, monadic, atomic, hole, DesugaredSpine, end_of_spine, and_then, argument, first, second, DesugaredSteps, no_steps, step, DesugaredTuple, end_of_tuple, entry}
use Rattle.celf_names.specs.Names.{constant_named}
use Rattle.celf_places.specs.Combined.{combined, with_mode}
use Rattle.celf_places.specs.Heads.{Local, Typed, all_written, constant_typed, has_no_implicit, head, is_named, local_from, place_of_head}
use Rattle.celf_places.specs.Places.{Place, behind_spine, entries_at, function_parts, marked, next_part, pair_parts}
use Rattle.celf_explicit.specs.Objects.{expression_of, long_at, pattern_modes, read_act, read_object, read_spine, read_steps, read_tuple, step_entries, under_spine, with_pattern as locals_after, with_steps}
use Rattle.celf_elaboration.specs.Fillings.{Fillings, Scoped}
use Rattle.celf_elaboration.specs.Names.{ImplicitVariable, Meaning, all_arguments, as_local, constant_meaning, implicit_arguments, implicit_from, meaning}
use Rattle.celf_elaboration.specs.Readings.{blank_at, lambda_local, with_pattern, ReadsImplicit, implicit_none, ReadsHead, reads_head, ReadsObject, reads_lam, reads_pair, reads_unit, reads_monadic, reads_atomic, reads_dropped, ReadsSpine, spine_end, spine_argument, spine_first, spine_second, ReadsSteps, steps_none, steps_next, ReadsTuple, tuple_end, tuple_entry}
use Rattle.reconstruction_laws.proofs.Meanings.{the_meaning}

pub nothing : {A : Type 0} {x : A} → None ≡ Some x → ⊥
nothing e = cc

pub same_some : {A : Type 0} {x y : A} → Some x ≡ Some y → x ≡ y
same_some e = cc

pub from_combined : {A B C : Type 0} (f : A → B → C) (a : Option A) (b : Option B) (c : C) → combined f a b ≡ Some c → (x : A) × (y : B) × (a ≡ Some x) × (b ≡ Some y) × (f x y ≡ c)
from_combined f None b c e = absurd (nothing e)
from_combined f (Some x) None c e = absurd (nothing e)
from_combined f (Some x) (Some y) c e = (x, y, refl, refl, same_some e)

pub from_map : {A B : Type 0} (f : A → B) (a : Option A) (b : B) → option_map f a ≡ Some b → (x : A) × (a ≡ Some x) × (f x ≡ b)
from_map f None b e = absurd (nothing e)
from_map f (Some x) b e = (x, refl, same_some e)

pub from_and_then : {A B : Type 0} (f : A → Option B) (a : Option A) (b : B) → option_and_then f a ≡ Some b → (x : A) × (a ≡ Some x) × (f x ≡ Some b)
from_and_then f None b e = absurd (nothing e)
from_and_then f (Some x) b e = (x, refl, e)

pub none_both : (fs gs hs : Fillings) → fs ≡ [] → gs ≡ [] → hs ≡ fs ++ gs → hs ≡ []
none_both fs gs hs i j k = k ∙ ap (λ v. v ++ gs) i ∙ j

-- The locals of the explicit reading are those of the text, save that a place without a name may be unknown.
abbrev pub Seen : List Local → List Scoped → Type 0
Seen [] [] = Unit {0}
Seen (l ∷ ls) (s ∷ ss) = (l.0 ≡ s.name) × ((n : List ℕ) → s.name ≡ Some n → l.1 ≡ s.place) × Seen ls ss
Seen [] (s ∷ ss) = ⊥
Seen (l ∷ ls) [] = ⊥

seen_from : (k : ℕ) (name : List ℕ) (ls : List Local) (ss : List Scoped) → Seen ls ss → local_from k name ls ≡ local_from k name (map as_local ss)
seen_from k name [] [] p = refl
seen_from k name [] (s ∷ ss) p = absurd p
seen_from k name (l ∷ ls) [] p = absurd p
seen_from k name (l ∷ ls) (s ∷ ss) p = ap (λ v. if is_named name v then Some (Var k, l.1) else local_from (k + 1) name ls) p.0 ∙ by_name (seen_from (k + 1) name ls ss p.2) s.name p.1
  where
    by_name : local_from (k + 1) name ls ≡ local_from (k + 1) name (map as_local ss) → (v : Option (List ℕ)) → ((n : List ℕ) → v ≡ Some n → l.1 ≡ s.place)
        → (if is_named name v then Some (Var k, l.1) else local_from (k + 1) name ls) ≡ (if is_named name v then Some (Var k, s.place) else local_from (k + 1) name (map as_local ss))
    by_name later None f = later
    by_name later (Some n) f = ap (λ q. if is_named name (Some n) then Some (Var k, q) else local_from (k + 1) name ls) (f n refl) ∙ ap (λ q. if is_named name (Some n) then Some (Var k, s.place) else q) later

seen_pattern : (ps : List (Mode × SimpleType)) (bs : List PBinder) (ls : List Local) (ss : List Scoped) → Seen ls ss → Seen (locals_after ls ps bs) (with_pattern ss ps bs)
seen_pattern ps [] ls ss p = p
seen_pattern ps (b ∷ bs) ls ss p = seen_pattern (next_part ps).later bs ((b.name, (next_part ps).place) ∷ ls) (record { mode = marked b.mode (next_part ps).mode; name = b.name; place = (next_part ps).place } ∷ ss) (refl, (λ n e. refl), p)

-- a blank type has one object
blank_same : (t : SimpleType) (r q : PlainNeutral) → blank t ≡ true → expansion t r ≡ expansion t q
blank_same (base a) r q e = absurd (cc)
blank_same (arrow m d c) r q e = ap (core.lam m) (blank_same c (core.app m (ren_neutral (up 1) r) (eta d (head_alone (Var 0)))) (core.app m (ren_neutral (up 1) q) (eta d (head_alone (Var 0)))) e)
blank_same (simple_with c d) r q e = ap (λ x. core.pair x (expansion d (core.snd r))) (blank_same c (core.fst r) (core.fst q) (both (blank c) (blank d) e).0)
    ∙ ap (core.pair (expansion c (core.fst q))) (blank_same d (core.snd r) (core.snd q) (both (blank c) (blank d) e).1)
  where
    both : (a b : Bool) → a && b ≡ true → (a ≡ true) × (b ≡ true)
    both true b e = (refl, e)
    both false b e = absurd (cc)
blank_same simple_top r q e = refl
blank_same (lax ts) r q e = absurd (cc)

-- no implicit argument
pub written_all : (sig : PlainSignature) (dollar : Bool) (c k : ℕ) → all_written sig dollar c ≡ Some k → (c ≡ k) × ((if dollar then 0 else implicit_arguments (entry_at sig c)) ≡ 0)
written_all sig true c k e = (same_some e, refl)
written_all sig false c k e = at (entry_at sig c) e
  where
    zero_of : (n : ℕ) → (if (false || has_no_implicit (Some (record { implicit = n; class = family_of [] }))) then Some c else None) ≡ Some k → (c ≡ k) × (n ≡ 0)
    zero_of zero e = (same_some e, refl)
    zero_of (suc n) e = absurd (nothing e)

    at : (o : Option PlainEntry) → (if (false || has_no_implicit o) then Some c else None) ≡ Some k → (c ≡ k) × (implicit_arguments o ≡ 0)
    at None e = (same_some e, refl)
    at (Some x) e = zero_of x.implicit e

module _ (sig : PlainSignature) (heads : ℕ → Head) (vs : List ImplicitVariable) where
  abbrev counted : ℕ → ℕ → Meaning
  counted c i = record { head = Const c; place = slice_get (simple_types sig) c; implicit = i }

  meaning_at : (c k i j : ℕ) → c ≡ k → i ≡ j → counted c i ≡ counted k j
  meaning_at c k i j e f = ap (λ v. counted v i) e ∙ ap (counted k) f

  of_constant : (dollar : Bool) (c : Option ℕ) (h : Typed) → option_map (constant_typed sig) (option_and_then (all_written sig dollar) c) ≡ Some h → option_map (constant_meaning sig dollar) c ≡ Some (all_arguments h)
  of_constant dollar None h e = absurd (nothing e)
  of_constant dollar (Some c) h e = let (k, i, j) = from_map (constant_typed sig) (all_written sig dollar c) h e in let (l, m) = written_all sig dollar c k i in
      ap (λ x. Some x) (meaning_at c k (if dollar then 0 else implicit_arguments (entry_at sig c)) 0 l m ∙ ap all_arguments j)

  explicit_meaning : (ls : List Local) (ss : List Scoped) (n : PName) (h : Typed) → Seen ls ss → head sig ls n ≡ Some h → meaning sig heads vs ss n ≡ Some (all_arguments h)
  explicit_meaning ls ss n h p e = at n.dollar e
    where
      unmarked : (x : Option Typed) → option_or x (option_map (constant_typed sig) (option_and_then (all_written sig false) (constant_named sig n.name))) ≡ Some h
          → option_or (option_map all_arguments x) (option_or (option_map (constant_meaning sig false) (constant_named sig n.name)) (implicit_from heads 0 n.name vs)) ≡ Some (all_arguments h)
      unmarked None e = ap (λ o. option_or o (implicit_from heads 0 n.name vs)) (of_constant false (constant_named sig n.name) h e)
      unmarked (Some t) e = ap (λ x. Some (all_arguments x)) (same_some e)

      at : (d : Bool) → (if d then option_map (constant_typed sig) (option_and_then (all_written sig d) (constant_named sig n.name))
          else option_or (local_from 0 n.name ls) (option_map (constant_typed sig) (option_and_then (all_written sig d) (constant_named sig n.name)))) ≡ Some h
          → (if d then option_map (constant_meaning sig true) (constant_named sig n.name)
          else option_or (option_map all_arguments (local_from 0 n.name (map as_local ss))) (option_or (option_map (constant_meaning sig false) (constant_named sig n.name)) (implicit_from heads 0 n.name vs))) ≡ Some (all_arguments h)
      at true e = of_constant true (constant_named sig n.name) h e
      at false e = unmarked (local_from 0 n.name (map as_local ss))
          (ap (λ x. option_or x (option_map (constant_typed sig) (option_and_then (all_written sig false) (constant_named sig n.name)))) (sym (seen_from 0 n.name ls ss p)) ∙ e)

  -- The text is read so, without fillings, and in no other way.
  pub record OneObject (ss : List Scoped) (t : Place) (o : DesugaredObject) (n : PlainObject) : Type 0 where
    pub reads : ReadsObject sig heads vs ss t o [] n
    pub only : (fs : Fillings) (m : PlainObject) → ReadsObject sig heads vs ss t o fs m → (fs ≡ []) × (m ≡ n)

  record OneNeutral (Reads : Fillings → PlainNeutral → Place → Type 0) (r : PlainNeutral) (p : Place) : Type 0 where
    reads : Reads [] r p
    only : (fs : Fillings) (x : PlainNeutral) (u : Place) → Reads fs x u → (fs ≡ []) × (x ≡ r) × (u ≡ p)

  record OneSteps (ls : List Local) (ss : List Scoped) (text : DesugaredSteps) (xs : List (List Mode × PlainNeutral)) : Type 0 where
    after : List Scoped
    seen : Seen (with_steps sig ls text) after
    reads : ReadsSteps sig heads vs ss text [] xs after
    only : (fs : Fillings) (ys : List (List Mode × PlainNeutral)) (ks : List Scoped) → ReadsSteps sig heads vs ss text fs ys ks → (fs ≡ []) × (ys ≡ xs) × (ks ≡ after)

  record OneTuple (ss : List Scoped) (ps : List (Mode × SimpleType)) (u : DesugaredTuple) (es : List (Mode × PlainObject)) : Type 0 where
    reads : ReadsTuple sig heads vs ss ps u [] es
    only : (fs : Fillings) (ds : List (Mode × PlainObject)) → ReadsTuple sig heads vs ss ps u fs ds → (fs ≡ []) × (ds ≡ es)

  no_implicit_left : {ss : List Scoped} {r x : PlainNeutral} {p u : Place} {fs : Fillings} → ReadsImplicit sig heads vs ss zero r p fs x u → (fs ≡ []) × (x ≡ r) × (u ≡ p)
  no_implicit_left implicit_none = (refl, refl, refl)

  one_head : (ls : List Local) (ss : List Scoped) (n : PName) (h : Typed) → Seen ls ss → head sig ls n ≡ Some h → OneNeutral (λ fs r p. ReadsHead sig heads vs ss n fs r p) (head_alone h.0) h.1
  one_head ls ss n h p e = record { reads = reads_head (explicit_meaning ls ss n h p e) implicit_none; only = λ fs x u r. other fs x u r }
    where
      other : (fs : Fillings) (x : PlainNeutral) (u : Place) → ReadsHead sig heads vs ss n fs x u → (fs ≡ []) × (x ≡ head_alone h.0) × (u ≡ h.1)
      other fs x u (reads_head {m = m} i q) =
          no_implicit_left (subst (λ (m : Meaning). ReadsImplicit sig heads vs ss m.implicit (head_alone m.head) m.place fs x u) (the_meaning (sym i ∙ explicit_meaning ls ss n h p e)) q)

  -- a neutral at a place, after its head and spine
  one_atomic : (ss : List Scoped) (t : Place) (s : Span) (n : PName) (es : DesugaredSpine) (r x : PlainNeutral) (p u : Place) → OneNeutral (λ fs r p. ReadsHead sig heads vs ss n fs r p) r p
      → OneNeutral (λ fs x u. ReadsSpine sig heads vs ss r p es fs x u) x u → OneObject ss t (atomic s n es) (long_at t x)
  one_atomic ss t s n es r x p u a b = at t
    where
      by_parts : (t : Place) (fs gs hs : Fillings) (r' x' : PlainNeutral) (p' u' : Place) → ReadsHead sig heads vs ss n fs r' p' → ReadsSpine sig heads vs ss r' p' es gs x' u' → hs ≡ fs ++ gs → (hs ≡ []) × (long_at t x' ≡ long_at t x)
      by_parts t fs gs hs r' x' p' u' f g i = let (j, k, l) = a.only fs r' p' f in
          let (j', k', l') = b.only gs x' u' (subst (λ (v : Place). ReadsSpine sig heads vs ss r v es gs x' u') l (subst (λ (v : PlainNeutral). ReadsSpine sig heads vs ss v p' es gs x' u') k g)) in
          (none_both fs gs hs j j' i, ap (long_at t) k')

      dropped : (c : SimpleType) → blank c ≡ true → (fs : Fillings) (m : PlainObject) → ReadsObject sig heads vs ss (Some c) (atomic s n es) fs m → (fs ≡ []) × (m ≡ expansion c x)
      dropped c b fs m (reads_atomic d f g i) = absurd (cc)
      dropped c b fs m (reads_dropped d) = (refl, blank_same c (head_alone (Var 0)) x b)

      stays : (t : Place) → blank_at t ≡ false → (fs : Fillings) (m : PlainObject) → ReadsObject sig heads vs ss t (atomic s n es) fs m → (fs ≡ []) × (m ≡ long_at t x)
      stays t d fs m (reads_atomic {p = p'} {u = u'} {fs = gs} {gs = hs} {r = r'} {x = x'} e f g i) = by_parts t gs hs fs r' x' p' u' f g i
      stays t d fs m (reads_dropped e) = absurd (cc)

      by_blank : (c : SimpleType) (b : Bool) → blank c ≡ b → OneObject ss (Some c) (atomic s n es) (expansion c x)
      by_blank c true i = record { reads = subst (λ (m : PlainObject). ReadsObject sig heads vs ss (Some c) (atomic s n es) [] m) (blank_same c (head_alone (Var 0)) x i) (reads_dropped i); only = dropped c i }
      by_blank c false i = record { reads = reads_atomic i a.reads b.reads refl; only = stays (Some c) i }

      at : (t : Place) → OneObject ss t (atomic s n es) (long_at t x)
      at None = record { reads = reads_atomic refl a.reads b.reads refl; only = stays None refl }
      at (Some c) = by_blank c (blank c) refl

  mutual
    pub one_object : (o : DesugaredObject) (ls : List Local) (ss : List Scoped) (t : Place) (n : PlainObject) → Seen ls ss → read_object sig ls t o ≡ Some n → OneObject ss t o n
    one_object (lam s m x b) ls ss t n p e = let (c, i, j) = from_map (core.lam (marked m (function_parts t).mode)) (read_object sig ((x, (function_parts t).domain) ∷ ls) (function_parts t).codomain b) n e in
        let a = one_object b ((x, (function_parts t).domain) ∷ ls) (lambda_local t m x ∷ ss) (function_parts t).codomain c (refl, (λ n e. refl), p) i in
        subst (λ (v : PlainObject). OneObject ss t (lam s m x b) v) j (record { reads = reads_lam a.reads; only = λ fs v r. under t c a fs v r })
      where
        under : (t : Place) (c : PlainObject) → OneObject (lambda_local t m x ∷ ss) (function_parts t).codomain b c → (fs : Fillings) (v : PlainObject) → ReadsObject sig heads vs ss t (lam s m x b) fs v
            → (fs ≡ []) × (v ≡ core.lam (marked m (function_parts t).mode) c)
        under t c a fs v (reads_lam {n = d} r) = let (i, j) = a.only fs d r in (i, ap (core.lam (marked m (function_parts t).mode)) j)
    one_object (pair s l r) ls ss t n p e = let (x, y, i, j, k) = from_combined core.pair (read_object sig ls (pair_parts t).left l) (read_object sig ls (pair_parts t).right r) n e in
        let a = one_object l ls ss (pair_parts t).left x p i in let b = one_object r ls ss (pair_parts t).right y p j in
        subst (λ (v : PlainObject). OneObject ss t (pair s l r) v) k (record { reads = reads_pair a.reads b.reads refl; only = λ fs v q. parts t x y a b fs v q })
      where
        parts : (t : Place) (x y : PlainObject) → OneObject ss (pair_parts t).left l x → OneObject ss (pair_parts t).right r y → (fs : Fillings) (v : PlainObject) → ReadsObject sig heads vs ss t (pair s l r) fs v → (fs ≡ []) × (v ≡ core.pair x y)
        parts t x y a b fs v (reads_pair {fs = f} {gs = g} {n = c} {o = d} q w i) = let (j, k) = a.only f c q in let (l, m) = b.only g d w in (none_both f g fs j l i, ap (λ z. core.pair z d) k ∙ ap (core.pair x) m)
    one_object (unit s) ls ss t n p e = subst (λ (v : PlainObject). OneObject ss t (unit s) v) (same_some e) (record { reads = reads_unit; only = λ fs v r. alone t fs v r })
      where
        alone : (t : Place) (fs : Fillings) (v : PlainObject) → ReadsObject sig heads vs ss t (unit s) fs v → (fs ≡ []) × (v ≡ core.unit)
        alone t fs v reads_unit = (refl, refl)
    one_object (monadic s text u) ls ss t n p e = let (x, y, i, j, k) = from_combined expression_of (read_steps sig ls text) (read_tuple sig (with_steps sig ls text) (entries_at t) u) n e in
        let a = one_steps text ls ss x p i in let b = one_tuple u (with_steps sig ls text) a.after (entries_at t) y a.seen j in
        subst (λ (v : PlainObject). OneObject ss t (monadic s text u) v) k (record { reads = reads_monadic a.reads b.reads refl; only = λ fs v q. parts t x y a b fs v q })
      where
        parts : (t : Place) (x : List (List Mode × PlainNeutral)) (y : List (Mode × PlainObject)) (a : OneSteps ls ss text x) → OneTuple a.after (entries_at t) u y → (fs : Fillings) (v : PlainObject)
            → ReadsObject sig heads vs ss t (monadic s text u) fs v → (fs ≡ []) × (v ≡ expression_of x y)
        parts t x y a b fs v (reads_monadic {ks = ks} {fs = f} {gs = g} {xs = xs} {es = es} q w i) = let (j, k, l) = a.only f xs ks q in
            let (m, o) = b.only g es (subst (λ v. ReadsTuple sig heads vs v (entries_at t) u g es) l w) in (none_both f g fs j m i, ap (λ z. expression_of z es) k ∙ ap (expression_of x) o)
    one_object (atomic s h es) ls ss t n p e = let (x, i, j) = from_map (long_at t) (combined under_spine (head sig ls h) (read_spine sig ls (place_of_head (head sig ls h)) es)) n e in
        let (a, y, k, l, m) = from_combined under_spine (head sig ls h) (read_spine sig ls (place_of_head (head sig ls h)) es) x i in
        subst (λ (v : PlainObject). OneObject ss t (atomic s h es) v) (ap (long_at t) m ∙ j)
        (one_atomic ss t s h es (head_alone a.0) (spine_on y (head_alone a.0)) a.1 (behind_spine a.1 es) (one_head ls ss h a p k)
        (one_spine es ls ss (head_alone a.0) a.1 y p (ap (λ v. read_spine sig ls (place_of_head v) es) (sym k) ∙ l)))
    one_object (hole s) ls ss t n p e = absurd (nothing e)

    one_spine : (es : DesugaredSpine) (ls : List Local) (ss : List Scoped) (r : PlainNeutral) (p : Place) (ys : List PlainElimination) → Seen ls ss → read_spine sig ls p es ≡ Some ys
        → OneNeutral (λ fs x u. ReadsSpine sig heads vs ss r p es fs x u) (spine_on ys r) (behind_spine p es)
    one_spine end_of_spine ls ss r p ys seen e = subst (λ y. OneNeutral (λ fs x u. ReadsSpine sig heads vs ss r p end_of_spine fs x u) (spine_on y r) p) (same_some e) (record { reads = spine_end; only = λ fs x u q. ended fs x u q })
      where
        ended : (fs : Fillings) (x : PlainNeutral) (u : Place) → ReadsSpine sig heads vs ss r p end_of_spine fs x u → (fs ≡ []) × (x ≡ r) × (u ≡ p)
        ended fs x u spine_end = (refl, refl, refl)
    one_spine (and_then (argument m o) es) ls ss r p ys seen e =
        let (z, zs, i, j, k) = from_combined (◌∷◌) (read_act sig ls p (argument m o)) (read_spine sig ls (function_parts p).codomain es) ys e in
        let (n, i', k') = from_map (core.arg (marked m (function_parts p).mode)) (read_object sig ls (function_parts p).domain o) z i in
        let a = one_object o ls ss (function_parts p).domain n seen i' in let b = one_spine es ls ss (core.app (marked m (function_parts p).mode) r n) (function_parts p).codomain zs seen j in
        subst (λ y. OneNeutral (λ fs x u. ReadsSpine sig heads vs ss r p (and_then (argument m o) es) fs x u) (spine_on y r) (behind_spine (function_parts p).codomain es)) (ap (λ v. v ∷ zs) k' ∙ k)
        (record { reads = spine_argument a.reads b.reads refl; only = λ fs x u q. parts n zs a b fs x u q })
      where
        parts : (n : PlainObject) (zs : List PlainElimination) → OneObject ss (function_parts p).domain o n
            → OneNeutral (λ fs x u. ReadsSpine sig heads vs ss (core.app (marked m (function_parts p).mode) r n) (function_parts p).codomain es fs x u) (spine_on zs (core.app (marked m (function_parts p).mode) r n)) (behind_spine (function_parts p).codomain es)
            → (fs : Fillings) (x : PlainNeutral) (u : Place) → ReadsSpine sig heads vs ss r p (and_then (argument m o) es) fs x u
            → (fs ≡ []) × (x ≡ spine_on zs (core.app (marked m (function_parts p).mode) r n)) × (u ≡ behind_spine (function_parts p).codomain es)
        parts n zs a b fs x u (spine_argument {fs = f} {gs = g} {n = c} q w i) = let (j, k) = a.only f c q in
            let (l, v, t) = b.only g x u (subst (λ (z : PlainObject). ReadsSpine sig heads vs ss (core.app (marked m (function_parts p).mode) r z) (function_parts p).codomain es g x u) k w) in (none_both f g fs j l i, v, t)
    one_spine (and_then first es) ls ss r p ys seen e = let (z, zs, i, j, k) = from_combined (◌∷◌) (Some core.first) (read_spine sig ls (pair_parts p).left es) ys e in
        let b = one_spine es ls ss (core.fst r) (pair_parts p).left zs seen j in
        subst (λ y. OneNeutral (λ fs x u. ReadsSpine sig heads vs ss r p (and_then first es) fs x u) (spine_on y r) (behind_spine (pair_parts p).left es)) (ap (λ v. v ∷ zs) (same_some i) ∙ k)
        (record { reads = spine_first b.reads; only = λ fs x u q. b.only fs x u (inner fs x u q) })
      where
        inner : (fs : Fillings) (x : PlainNeutral) (u : Place) → ReadsSpine sig heads vs ss r p (and_then first es) fs x u → ReadsSpine sig heads vs ss (core.fst r) (pair_parts p).left es fs x u
        inner fs x u (spine_first q) = q
    one_spine (and_then second es) ls ss r p ys seen e = let (z, zs, i, j, k) = from_combined (◌∷◌) (Some core.second) (read_spine sig ls (pair_parts p).right es) ys e in
        let b = one_spine es ls ss (core.snd r) (pair_parts p).right zs seen j in
        subst (λ y. OneNeutral (λ fs x u. ReadsSpine sig heads vs ss r p (and_then second es) fs x u) (spine_on y r) (behind_spine (pair_parts p).right es)) (ap (λ v. v ∷ zs) (same_some i) ∙ k)
        (record { reads = spine_second b.reads; only = λ fs x u q. b.only fs x u (inner fs x u q) })
      where
        inner : (fs : Fillings) (x : PlainNeutral) (u : Place) → ReadsSpine sig heads vs ss r p (and_then second es) fs x u → ReadsSpine sig heads vs ss (core.snd r) (pair_parts p).right es fs x u
        inner fs x u (spine_second q) = q

    one_steps : (text : DesugaredSteps) (ls : List Local) (ss : List Scoped) (xs : List (List Mode × PlainNeutral)) → Seen ls ss → read_steps sig ls text ≡ Some xs → OneSteps ls ss text xs
    one_steps no_steps ls ss xs seen e = subst (λ v. OneSteps ls ss no_steps v) (same_some e) (record { after = ss; seen = seen; reads = steps_none; only = λ fs ys ks q. ended fs ys ks q })
      where
        ended : (fs : Fillings) (ys : List (List Mode × PlainNeutral)) (ks : List Scoped) → ReadsSteps sig heads vs ss no_steps fs ys ks → (fs ≡ []) × (ys ≡ []) × (ks ≡ ss)
        ended fs ys ks steps_none = (refl, refl, refl)
    one_steps (step bs h es text) ls ss xs seen e =
        let (z, zs, i, j, k) = from_combined (◌∷◌) (option_map (with_mode (pattern_modes (step_entries sig ls h es) bs)) (combined under_spine (head sig ls h) (read_spine sig ls (place_of_head (head sig ls h)) es)))
        (read_steps sig (locals_after ls (step_entries sig ls h es) bs) text) xs e in
        let (x, i', k') = from_map (with_mode (pattern_modes (step_entries sig ls h es) bs)) (combined under_spine (head sig ls h) (read_spine sig ls (place_of_head (head sig ls h)) es)) z i in
        let (a, y, l, m, o) = from_combined under_spine (head sig ls h) (read_spine sig ls (place_of_head (head sig ls h)) es) x i' in
        let place : behind_spine (place_of_head (head sig ls h)) es ≡ behind_spine a.1 es = ap (λ v. behind_spine (place_of_head v) es) l in
        let f = one_head ls ss h a seen l in
        let g = one_spine es ls ss (head_alone a.0) a.1 y seen (ap (λ v. read_spine sig ls (place_of_head v) es) (sym l) ∙ m) in
        let seen_after = seen_pattern (step_entries sig ls h es) bs ls ss seen in
        let rest = one_steps text (locals_after ls (step_entries sig ls h es) bs) (with_pattern ss (step_entries sig ls h es) bs) zs seen_after j in
        subst (λ v. OneSteps ls ss (step bs h es text) v) (ap (λ v. (pattern_modes (step_entries sig ls h es) bs, v) ∷ zs) o ∙ ap (λ v. v ∷ zs) k' ∙ k)
        (whole a y zs f g place rest)
      where
        whole : (a : Typed) (y : List PlainElimination) (zs : List (List Mode × PlainNeutral)) → OneNeutral (λ fs r p. ReadsHead sig heads vs ss h fs r p) (head_alone a.0) a.1
            → OneNeutral (λ fs x u. ReadsSpine sig heads vs ss (head_alone a.0) a.1 es fs x u) (spine_on y (head_alone a.0)) (behind_spine a.1 es)
            → behind_spine (place_of_head (head sig ls h)) es ≡ behind_spine a.1 es
            → OneSteps (locals_after ls (step_entries sig ls h es) bs) (with_pattern ss (step_entries sig ls h es) bs) text zs
            → OneSteps ls ss (step bs h es text) ((pattern_modes (step_entries sig ls h es) bs, spine_on y (head_alone a.0)) ∷ zs)
        whole a y zs f g place rest = record {
          after = rest.after;
          seen = rest.seen;
          reads = subst (λ w. ReadsSteps sig heads vs ss (step bs h es text) [] ((pattern_modes (entries_at w) bs, spine_on y (head_alone a.0)) ∷ zs) rest.after) (sym place)
              (steps_next f.reads g.reads (subst (λ w. ReadsSteps sig heads vs (with_pattern ss (entries_at w) bs) text [] zs rest.after) place rest.reads) refl);
          only = other;
        }
          where
            other : (fs : Fillings) (ys : List (List Mode × PlainNeutral)) (ks : List Scoped) → ReadsSteps sig heads vs ss (step bs h es text) fs ys ks
                → (fs ≡ []) × (ys ≡ (pattern_modes (step_entries sig ls h es) bs, spine_on y (head_alone a.0)) ∷ zs) × (ks ≡ rest.after)
            other fs ys ks (steps_next {p = p'} {u = u'} {fs = f1} {gs = f2} {ks' = f3} {r = r'} {x = x'} {xs = ws} q1 q2 q3 i) =
                let (i1, i2, i3) = f.only f1 r' p' q1 in
                let (j1, j2, j3) = g.only f2 x' u' (subst (λ (v : Place). ReadsSpine sig heads vs ss (head_alone a.0) v es f2 x' u') i3 (subst (λ (v : PlainNeutral). ReadsSpine sig heads vs ss v p' es f2 x' u') i2 q2)) in
                let at = j3 ∙ sym place in
                let (k1, k2, k3) = rest.only f3 ws ks (subst (λ (v : Place). ReadsSteps sig heads vs (with_pattern ss (entries_at v) bs) text f3 ws ks) at q3) in (
                  none_both (f1 ++ f2) f3 fs (ap (λ v. v ++ f2) i1 ∙ j1) k1 i,
                  ap (λ (v : Place). (pattern_modes (entries_at v) bs, x') ∷ ws) at
                      ∙ ap (λ v. (pattern_modes (step_entries sig ls h es) bs, v) ∷ ws) j2 ∙ ap (λ v. (pattern_modes (step_entries sig ls h es) bs, spine_on y (head_alone a.0)) ∷ v) k2,
                  k3,
                )

    one_tuple : (u : DesugaredTuple) (ls : List Local) (ss : List Scoped) (ps : List (Mode × SimpleType)) (es : List (Mode × PlainObject)) → Seen ls ss → read_tuple sig ls ps u ≡ Some es → OneTuple ss ps u es
    one_tuple end_of_tuple ls ss ps es seen e = subst (λ v. OneTuple ss ps end_of_tuple v) (same_some e) (record { reads = tuple_end; only = λ fs ds q. ended fs ds q })
      where
        ended : (fs : Fillings) (ds : List (Mode × PlainObject)) → ReadsTuple sig heads vs ss ps end_of_tuple fs ds → (fs ≡ []) × (ds ≡ [])
        ended fs ds tuple_end = (refl, refl)
    one_tuple (entry m o u) ls ss ps es seen e =
        let (z, zs, i, j, k) = from_combined (◌∷◌) (option_map (with_mode (marked m (next_part ps).mode)) (read_object sig ls (next_part ps).place o)) (read_tuple sig ls (next_part ps).later u) es e in
        let (n, i', k') = from_map (with_mode (marked m (next_part ps).mode)) (read_object sig ls (next_part ps).place o) z i in
        let a = one_object o ls ss (next_part ps).place n seen i' in let b = one_tuple u ls ss (next_part ps).later zs seen j in
        subst (λ v. OneTuple ss ps (entry m o u) v) (ap (λ v. v ∷ zs) k' ∙ k) (record { reads = tuple_entry a.reads b.reads refl; only = λ fs ds q. parts n zs a b fs ds q })
      where
        parts : (n : PlainObject) (zs : List (Mode × PlainObject)) → OneObject ss (next_part ps).place o n → OneTuple ss (next_part ps).later u zs → (fs : Fillings) (ds : List (Mode × PlainObject))
            → ReadsTuple sig heads vs ss ps (entry m o u) fs ds → (fs ≡ []) × (ds ≡ (marked m (next_part ps).mode, n) ∷ zs)
        parts n zs a b fs ds (tuple_entry {fs = f} {gs = g} {n = c} {es = cs} q w i) = let (j, k) = a.only f c q in let (l, v) = b.only g cs w in
            (none_both f g fs j l i, ap (λ z. (marked m (next_part ps).mode, z) ∷ cs) k ∙ ap (λ z. (marked m (next_part ps).mode, n) ∷ z) v)
