-- The tables of a store stay tables, and tell the list of additions.
use Rattle.std.specs.Prelude.{ℕ, zero, suc, ◌+◌, ◌<◌, ◌≤◌, ◌≡◌, ◌≢◌, ◌⊎◌, nat_eq, Bool, true, false, if◌then◌else◌, List, [], ◌∷◌, ◌++◌, length, map, take, drop, Option, Some, None, MatchOption, slice_get, slice_set, refl}
use Rattle.std.proofs.Common.{ap, sym, subst, inl, inr, ⊎_elim, ◌∙◌, arith}
use Rattle.std.specs.Option.{option_map}
use Rattle.std.proofs.Math.Seq.{take-append_seam, take-length}
use Rattle.std.proofs.lemmas.List.{length-append, take-append-le, take-append-drop, length-set, length-map}
use Rattle.std.proofs.lemmas.Bool.{eq-eqb, eqb-true}
use Rattle.std.proofs.lemmas.Option.{slice_get_within}
use Rattle.clf_syntax.specs.declared.tree.Simple.{Simple}
use Rattle.clf_syntax.specs.declared.tree.Obj.{Obj}
use Rattle.clf_syntax.specs.Plain.{plain_obj}
use Rattle.clf_syntax.specs.PlainSimple.{plain_simple}
use Rattle.clf_syntax.proofs.OccursLaws.{not_both}
use Rattle.metavars.specs.declared.tables.Addition.{Addition}
use Rattle.metavars.specs.declared.tables.Addition.TheVariants.{New, Solved}
use Rattle.metavars.specs.declared.tables.Tables.{Tables}
use Rattle.store_laws.specs.Additions.{given, meta_types}
use Rattle.metavars.specs.Stored.{Stored, Added, added_new, added_solved, plain_added}
use Rattle.metavars.specs.Tables.{told, listed, new_ones, AreTables, with_new, with_solved, place_in, inner_place, object_in, object_of}
use Rattle.clf_syntax.proofs.Lists.{get-front}
use Rattle.metavars.proofs.Gets.{get-last, get-split, get-set_same, get-set_other, slice_get_none, take-take}

-- ---- counts

new_ones-append : (xs ys : List Addition) → new_ones (xs ++ ys) ≡ new_ones xs + new_ones ys
new_ones-append [] ys = omega arith
new_ones-append (New ∷ xs) ys = omega (arith, new_ones-append xs ys)
new_ones-append (Solved m o ∷ xs) ys = new_ones-append xs ys

new_ones-take : (p : ℕ) (xs : List Addition) → new_ones (take p xs) ≤ new_ones xs
new_ones-take p xs = omega (arith, ap new_ones (take-append-drop p xs), new_ones-append (take p xs) (drop p xs))

-- ---- the list that they tell

told-new : (xs : List Addition) (ts : List Simple) (t : Simple) → length ts ≡ new_ones xs → told (xs ++ New ∷ []) (ts ++ t ∷ []) ≡ told xs ts ++ added_new t ∷ []
told-new [] [] t h = refl
told-new [] (u ∷ ts) t h = absurd (omega arith)
told-new (New ∷ xs) [] t h = absurd (omega arith)
told-new (New ∷ xs) (u ∷ ts) t h = ap (λ l. added_new u ∷ l) (told-new xs ts t (omega arith))
told-new (Solved m o ∷ xs) ts t h = ap (λ l. added_solved m o ∷ l) (told-new xs ts t h)

told-solved : (xs : List Addition) (ts : List Simple) (m : ℕ) (o : Obj) → length ts ≡ new_ones xs → told (xs ++ Solved m o ∷ []) ts ≡ told xs ts ++ added_solved m o ∷ []
told-solved [] ts m o h = refl
told-solved (New ∷ xs) [] m o h = absurd (omega arith)
told-solved (New ∷ xs) (u ∷ ts) m o h = ap (λ l. added_new u ∷ l) (told-solved xs ts m o (omega arith))
told-solved (Solved k u ∷ xs) ts m o h = ap (λ l. added_solved k u ∷ l) (told-solved xs ts m o h)

told-length : (xs : List Addition) (ts : List Simple) → length ts ≡ new_ones xs → length (told xs ts) ≡ length xs
told-length [] ts h = refl
told-length (New ∷ xs) [] h = absurd (omega arith)
told-length (New ∷ xs) (u ∷ ts) h = ap suc (told-length xs ts (omega arith))
told-length (Solved k u ∷ xs) ts h = ap suc (told-length xs ts h)

pub listed-length : (t : Tables) → AreTables t → length (listed t) ≡ length t.added
listed-length t h = told-length t.added t.metas h.typed

pub listed-new : (t : Tables) (ty : Simple) → AreTables t → listed (with_new t ty) ≡ listed t ++ added_new ty ∷ []
listed-new t ty h = told-new t.added t.metas ty h.typed

pub listed-solved : (t : Tables) (m : ℕ) (o : Obj) → AreTables t → listed (with_solved t m o) ≡ listed t ++ added_solved m o ∷ []
listed-solved t m o h = told-solved t.added t.metas m o h.typed

-- ---- additions

not_new : {m : ℕ} {o : Obj} → New ≡ Solved m o → ⊥
not_new e = cc

pub new-tables : (t : Tables) (ty : Simple) → AreTables t → AreTables (with_new t ty)
new-tables t ty h = record { typed = typed; placed = placed; there = there; before = before; solving = solving }
  where
    typed : length (t.metas ++ ty ∷ []) ≡ new_ones (t.added ++ New ∷ [])
    typed = omega (arith, length-append t.metas (ty ∷ []), new_ones-append t.added (New ∷ []), h.typed)

    placed : length (t.solved_at ++ None ∷ []) ≡ length (t.metas ++ ty ∷ [])
    placed = omega (arith, length-append t.metas (ty ∷ []), length-append t.solved_at (None ∷ []), h.placed)

    there : (p m : ℕ) (o : Obj) → slice_get (t.added ++ New ∷ []) p ≡ Some (Solved m o) → slice_get (t.solved_at ++ None ∷ []) m ≡ Some (Some p)
    there p m o e = ⊎_elim (λ f. get-front t.solved_at (None ∷ []) m (Some p) (h.there p m o f)) (λ f. absurd (not_new f.1)) (get-split t.added New p (Solved m o) e)

    before : (p m : ℕ) (o : Obj) → slice_get (t.added ++ New ∷ []) p ≡ Some (Solved m o) → m < new_ones (take p (t.added ++ New ∷ []))
    before p m o e = ⊎_elim (λ f. let within : p ≤ length t.added = omega (arith, slice_get_within t.added p (Solved m o) f) in subst (λ l. m < new_ones l) (sym (take-append-le p t.added (New ∷ []) within)) (h.before p m o f))
        (λ f. absurd (not_new f.1)) (get-split t.added New p (Solved m o) e)

    solving : (m p : ℕ) → slice_get (t.solved_at ++ None ∷ []) m ≡ Some (Some p) → (o : Obj) × (slice_get (t.added ++ New ∷ []) p ≡ Some (Solved m o))
    solving m p e = ⊎_elim (λ f. let (o, g) = h.solving m p f in (o, get-front t.added (New ∷ []) p (Solved m o) g)) (λ f. absurd (cc (f.1))) (get-split t.solved_at None m (Some p) e)

number_cases : (i j : ℕ) → (i ≡ j) ⊎ (i ≢ j)
number_cases zero zero = inl refl
number_cases zero (suc j) = inr (λ e. absurd (omega arith))
number_cases (suc i) zero = inr (λ e. absurd (omega arith))
number_cases (suc i) (suc j) = ⊎_elim (λ e. inl (ap suc e)) (λ n. inr (λ e. n (omega arith))) (number_cases i j)

place_of : {p q : ℕ} → Some (Some p) ≡ Some (Some q) → p ≡ q
place_of e = cc

unplaced : {q : ℕ} → Some None ≡ Some (Some q) → ⊥
unplaced e = cc

pub solved-tables : (t : Tables) (m : ℕ) (o : Obj) → AreTables t → slice_get t.solved_at m ≡ Some None → AreTables (with_solved t m o)
solved-tables t m o h free = record { typed = typed; placed = length-set t.solved_at m (Some (length t.added)) ∙ h.placed; there = there; before = before; solving = solving }
  where
    inside : m < length t.solved_at
    inside = slice_get_within t.solved_at m None free

    typed : length t.metas ≡ new_ones (t.added ++ Solved m o ∷ [])
    typed = omega (arith, new_ones-append t.added (Solved m o ∷ []), h.typed)

    there : (p k : ℕ) (u : Obj) → slice_get (t.added ++ Solved m o ∷ []) p ≡ Some (Solved k u) → slice_get (slice_set t.solved_at m (Some (length t.added))) k ≡ Some (Some p)
    there p k u e = ⊎_elim (λ f. let old = h.there p k u f in get-set_other t.solved_at m k (Some (length t.added)) (λ i. unplaced (sym free ∙ ap (slice_get t.solved_at) (sym i) ∙ old)) ∙ old)
        (λ f. let same : m ≡ k = cc (f.1) in subst (λ j. slice_get (slice_set t.solved_at m (Some (length t.added))) j ≡ Some (Some p)) same (get-set_same t.solved_at m (Some (length t.added)) inside ∙ ap (λ j. Some (Some j)) (sym f.0)))
        (get-split t.added (Solved m o) p (Solved k u) e)

    before : (p k : ℕ) (u : Obj) → slice_get (t.added ++ Solved m o ∷ []) p ≡ Some (Solved k u) → k < new_ones (take p (t.added ++ Solved m o ∷ []))
    before p k u e = ⊎_elim (λ f. let within : p ≤ length t.added = omega (arith, slice_get_within t.added p (Solved k u) f) in subst (λ l. k < new_ones l) (sym (take-append-le p t.added (Solved m o ∷ []) within)) (h.before p k u f))
        (λ f. let same : m ≡ k = cc (f.1) in subst (λ l. k < new_ones l) (sym (whole p f.0)) (omega (arith, same, inside, h.placed, h.typed)))
        (get-split t.added (Solved m o) p (Solved k u) e)
      where
        whole : (p : ℕ) → p ≡ length t.added → take p (t.added ++ Solved m o ∷ []) ≡ t.added
        whole p e = ap (λ j. take j (t.added ++ Solved m o ∷ [])) e ∙ take-append_seam t.added (Solved m o ∷ [])

    solving : (k p : ℕ) → slice_get (slice_set t.solved_at m (Some (length t.added))) k ≡ Some (Some p) → (u : Obj) × (slice_get (t.added ++ Solved m o ∷ []) p ≡ Some (Solved k u))
    solving k p e = ⊎_elim
        (λ i. let q : length t.added ≡ p = place_of (sym (get-set_same t.solved_at m (Some (length t.added)) inside) ∙ ap (slice_get (slice_set t.solved_at m (Some (length t.added)))) (sym i) ∙ e) in
        (o, subst (λ j. slice_get (t.added ++ Solved m o ∷ []) j ≡ Some (Solved k o)) q (get-last t.added (Solved m o) ∙ ap (λ j. Some (Solved j o)) (sym i))))
        (λ i. let (u, g) = h.solving k p (sym (get-set_other t.solved_at m k (Some (length t.added)) i) ∙ e) in (u, get-front t.added (Solved m o ∷ []) p (Solved k u) g)) (number_cases k m)

-- ---- additions that are taken back

un-new : (xs : List Addition) (ts : List Simple) (u : Simple) (rs : List (Option ℕ)) (q : Option ℕ)
    → AreTables (record { added = xs ++ New ∷ []; metas = ts ++ u ∷ []; solved_at = rs ++ q ∷ [] }) → AreTables (record { added = xs; metas = ts; solved_at = rs })
un-new xs ts u rs q h = record { typed = typed; placed = placed; there = there; before = before; solving = solving }
  where
    typed : length ts ≡ new_ones xs
    typed = omega (arith, length-append ts (u ∷ []), new_ones-append xs (New ∷ []), h.typed)

    placed : length rs ≡ length ts
    placed = omega (arith, length-append ts (u ∷ []), length-append rs (q ∷ []), h.placed)

    before : (p m : ℕ) (o : Obj) → slice_get xs p ≡ Some (Solved m o) → m < new_ones (take p xs)
    before p m o e = let within : p ≤ length xs = omega (arith, slice_get_within xs p (Solved m o) e) in
        subst (λ l. m < new_ones l) (take-append-le p xs (New ∷ []) within) (h.before p m o (get-front xs (New ∷ []) p (Solved m o) e))

    there : (p m : ℕ) (o : Obj) → slice_get xs p ≡ Some (Solved m o) → slice_get rs m ≡ Some (Some p)
    there p m o e = ⊎_elim (λ f. f) (λ f. absurd (omega (arith, f.0, placed, typed, before p m o e, new_ones-take p xs))) (get-split rs q m (Some p) (h.there p m o (get-front xs (New ∷ []) p (Solved m o) e)))

    solving : (m p : ℕ) → slice_get rs m ≡ Some (Some p) → (o : Obj) × (slice_get xs p ≡ Some (Solved m o))
    solving m p e = let (o, g) = h.solving m p (get-front rs (q ∷ []) m (Some p) e) in ⊎_elim (λ f. (o, f)) (λ f. absurd (not_new f.1)) (get-split xs New p (Solved m o) g)

un-solved : (xs : List Addition) (m : ℕ) (o : Obj) (ts : List Simple) (rs : List (Option ℕ))
    → AreTables (record { added = xs ++ Solved m o ∷ []; metas = ts; solved_at = rs }) → AreTables (record { added = xs; metas = ts; solved_at = slice_set rs m None })
un-solved xs m o ts rs h = record { typed = typed; placed = length-set rs m None ∙ h.placed; there = there; before = before; solving = solving }
  where
    last : slice_get rs m ≡ Some (Some (length xs))
    last = h.there (length xs) m o (get-last xs (Solved m o))

    typed : length ts ≡ new_ones xs
    typed = omega (arith, new_ones-append xs (Solved m o ∷ []), h.typed)

    before : (p k : ℕ) (u : Obj) → slice_get xs p ≡ Some (Solved k u) → k < new_ones (take p xs)
    before p k u e = let within : p ≤ length xs = omega (arith, slice_get_within xs p (Solved k u) e) in
        subst (λ l. k < new_ones l) (take-append-le p xs (Solved m o ∷ []) within) (h.before p k u (get-front xs (Solved m o ∷ []) p (Solved k u) e))

    there : (p k : ℕ) (u : Obj) → slice_get xs p ≡ Some (Solved k u) → slice_get (slice_set rs m None) k ≡ Some (Some p)
    there p k u e = let old = h.there p k u (get-front xs (Solved m o ∷ []) p (Solved k u) e) in
        get-set_other rs m k None (λ i. let q : length xs ≡ p = place_of (sym last ∙ ap (slice_get rs) (sym i) ∙ old) in omega (arith, q, slice_get_within xs p (Solved k u) e)) ∙ old

    solving : (k p : ℕ) → slice_get (slice_set rs m None) k ≡ Some (Some p) → (u : Obj) × (slice_get xs p ≡ Some (Solved k u))
    solving k p e = ⊎_elim
        (λ i. absurd (unplaced (sym (get-set_same rs m None (slice_get_within rs m (Some (length xs)) last)) ∙ ap (slice_get (slice_set rs m None)) (sym i) ∙ e)))
        (λ i. let (u, g) = h.solving k p (sym (get-set_other rs m k None i) ∙ e) in ⊎_elim (λ f. (u, f)) (λ f. absurd (i (cc (f.1)))) (get-split xs (Solved m o) p (Solved k u) g))
        (number_cases k m)

-- what is said, and what is said after the last addition was taken back
pub record IsBack (old new : Tables) : Type 0 where
  pub tables : AreTables new
  pub one : length old.added ≡ length new.added + 1
  pub listed : listed new ≡ take (length new.added) (listed old)

module _ (t : Tables) (h : AreTables t) (xs : List Addition) where
  pub back-new : (ts : List Simple) (u : Simple) (rs : List (Option ℕ)) (q : Option ℕ) → t.added ≡ xs ++ New ∷ [] → t.metas ≡ ts ++ u ∷ [] → t.solved_at ≡ rs ++ q ∷ []
      → IsBack t (record { added = xs; metas = ts; solved_at = rs })
  back-new ts u rs q e f g =
      let whole : AreTables (record { added = xs ++ New ∷ []; metas = ts ++ u ∷ []; solved_at = rs ++ q ∷ [] }) =
      subst (λ c. AreTables (record { added = xs ++ New ∷ []; metas = ts ++ u ∷ []; solved_at = c })) g
      (subst (λ b. AreTables (record { added = xs ++ New ∷ []; metas = b; solved_at = t.solved_at })) f
      (subst (λ a. AreTables (record { added = a; metas = t.metas; solved_at = t.solved_at })) e h)) in
      let less = un-new xs ts u rs q whole in
      record {
        tables = less;
        one = ap length e ∙ length-append xs (New ∷ []);
        listed = sym (ap (take (length xs)) (ap (λ a. told a t.metas) e ∙ ap (told (xs ++ New ∷ [])) f ∙ told-new xs ts u less.typed) ∙ ap (λ n. take n (told xs ts ++ added_new u ∷ [])) (sym (told-length xs ts less.typed)) ∙ take-append_seam (told xs ts) (added_new u ∷ []));
      }

  pub back-solved : (m : ℕ) (o : Obj) → t.added ≡ xs ++ Solved m o ∷ [] → IsBack t (record { added = xs; metas = t.metas; solved_at = slice_set t.solved_at m None })
  back-solved m o e =
      let whole : AreTables (record { added = xs ++ Solved m o ∷ []; metas = t.metas; solved_at = t.solved_at }) = subst (λ a. AreTables (record { added = a; metas = t.metas; solved_at = t.solved_at })) e h in
      let less = un-solved xs m o t.metas t.solved_at whole in
      record {
        tables = less;
        one = ap length e ∙ length-append xs (Solved m o ∷ []);
        listed = sym (ap (take (length xs)) (ap (λ a. told a t.metas) e ∙ told-solved xs t.metas m o less.typed) ∙ ap (λ n. take n (told xs t.metas ++ added_solved m o ∷ [])) (sym (told-length xs t.metas less.typed)) ∙ take-append_seam (told xs t.metas) (added_solved m o ∷ []));
      }

  -- the last rows are there
  pub back-popped : (ts : List Simple) (rs : List (Option ℕ)) → t.added ≡ xs ++ New ∷ [] → (u : Option Simple) → MatchOption u ((t.metas ≡ []) × (ts ≡ [])) (λ v. t.metas ≡ ts ++ v ∷ [])
      → (q : Option (Option ℕ)) → MatchOption q ((t.solved_at ≡ []) × (rs ≡ [])) (λ v. t.solved_at ≡ rs ++ v ∷ []) → IsBack t (record { added = xs; metas = ts; solved_at = rs })
  back-popped ts rs e None f q g = absurd (omega (arith, h.typed, ap length f.0, ap new_ones e, new_ones-append xs (New ∷ [])))
  back-popped ts rs e (Some u) f None g = absurd (omega (arith, h.typed, h.placed, ap length g.0, ap new_ones e, new_ones-append xs (New ∷ [])))
  back-popped ts rs e (Some u) f (Some q) g = back-new ts u rs q e f g

  -- so the last row is there
  pub solved-within : (m : ℕ) (o : Obj) → t.added ≡ xs ++ Solved m o ∷ [] → m < length t.solved_at
  solved-within m o e = slice_get_within t.solved_at m (Some (length xs)) (h.there (length xs) m o (ap (λ a. slice_get a (length xs)) e ∙ get-last xs (Solved m o)))

-- ---- solutions

no_solution : (xs : List Addition) (ts : List Simple) (m : ℕ) → length ts ≡ new_ones xs → ((p : ℕ) (o : Obj) → slice_get xs p ≡ Some (Solved m o) → ⊥) → given (map plain_added (told xs ts)) m ≡ None
no_solution [] ts m h n = refl
no_solution (New ∷ xs) [] m h n = absurd (omega arith)
no_solution (New ∷ xs) (u ∷ ts) m h n = no_solution xs ts m (omega arith) (λ p o e. n (suc p) o e)
no_solution (Solved k u ∷ xs) ts m h n = picked (nat_eq m k) refl (no_solution xs ts m h (λ p o f. n (suc p) o f))
  where
    picked : (b : Bool) → nat_eq m k ≡ b → given (map plain_added (told xs ts)) m ≡ None → (if b then Some (plain_obj u) else given (map plain_added (told xs ts)) m) ≡ None
    picked true e f = absurd (n 0 u (ap (λ j. Some (Solved j u)) (sym (eqb-true m k e))))
    picked false e f = f

no_such : {m : ℕ} {o : Obj} → Some New ≡ Some (Solved m o) → ⊥
no_such e = cc

one_solution : (xs : List Addition) (ts : List Simple) (m p : ℕ) (o : Obj) → length ts ≡ new_ones xs → slice_get xs p ≡ Some (Solved m o) → ((q : ℕ) (u : Obj) → slice_get xs q ≡ Some (Solved m u) → q ≡ p)
    → given (map plain_added (told xs ts)) m ≡ Some (plain_obj o)
one_solution [] ts m p o h e n = absurd (cc)
one_solution (New ∷ xs) [] m p o h e n = absurd (omega arith)
one_solution (New ∷ xs) (u ∷ ts) m zero o h e n = absurd (no_such e)
one_solution (New ∷ xs) (u ∷ ts) m (suc p) o h e n = one_solution xs ts m p o (omega arith) e (λ q v f. omega (arith, n (suc q) v f))
one_solution (Solved k u ∷ xs) ts m zero o h e n = picked (nat_eq m k) refl
  where
    picked : (b : Bool) → nat_eq m k ≡ b → (if b then Some (plain_obj u) else given (map plain_added (told xs ts)) m) ≡ Some (plain_obj o)
    picked true f = ap (λ v. Some (plain_obj v)) (cc (e))
    picked false f = let same : k ≡ m = cc (e) in absurd (not_both (eq-eqb m k (sym same)) f)
one_solution (Solved k u ∷ xs) ts m (suc p) o h e n = picked (nat_eq m k) refl (one_solution xs ts m p o h e (λ q v g. omega (arith, n (suc q) v g)))
  where
    picked : (b : Bool) → nat_eq m k ≡ b → given (map plain_added (told xs ts)) m ≡ Some (plain_obj o) → (if b then Some (plain_obj u) else given (map plain_added (told xs ts)) m) ≡ Some (plain_obj o)
    picked true f g = absurd (omega (arith, n 0 u (ap (λ j. Some (Solved j u)) (sym (eqb-true m k f)))))
    picked false f g = g

inner : (x : Option (Option ℕ)) (p : ℕ) → inner_place x ≡ Some p → x ≡ Some (Some p)
inner None p e = absurd (cc)
inner (Some q) p e = ap Some e

not_inner : (x : Option (Option ℕ)) (p : ℕ) → inner_place x ≡ None → x ≡ Some (Some p) → ⊥
not_inner None p e f = cc
not_inner (Some q) p e f = cc

module _ (t : Tables) (h : AreTables t) (m : ℕ) where
  pub not-placed : place_in t.solved_at m ≡ None → given (map plain_added (listed t)) m ≡ None
  not-placed e = no_solution t.added t.metas m h.typed (λ p o f. not_inner (slice_get t.solved_at m) p e (h.there p m o f))

  pub placed-at : (p : ℕ) → place_in t.solved_at m ≡ Some p → given (map plain_added (listed t)) m ≡ option_map plain_obj (object_in t.added p)
  placed-at p e = let there = inner (slice_get t.solved_at m) p e in
      let (o, g) = h.solving m p there in
      one_solution t.added t.metas m p o h.typed g (λ q u f. place_of (sym (h.there q m u f) ∙ there)) ∙ sym (ap (λ a. option_map plain_obj (object_of a)) g)

  -- where there is none, the row is empty
  pub row-empty : m < length t.solved_at → given (map plain_added (listed t)) m ≡ None → slice_get t.solved_at m ≡ Some None
  row-empty i e = row (slice_get t.solved_at m) refl
    where
      row : (x : Option (Option ℕ)) → slice_get t.solved_at m ≡ x → slice_get t.solved_at m ≡ Some None
      row None f = absurd (omega (arith, slice_get_none t.solved_at m f))
      row (Some None) f = f
      row (Some (Some p)) f = let (o, g) = h.solving m p f in absurd (cc (e, one_solution t.added t.metas m p o h.typed g (λ q u k. place_of (sym (h.there q m u k) ∙ f))))

-- ---- the simple types

pub told-types : (xs : List Addition) (ts : List Simple) → length ts ≡ new_ones xs → meta_types (map plain_added (told xs ts)) ≡ map plain_simple ts
told-types [] [] h = refl
told-types [] (u ∷ ts) h = absurd (omega arith)
told-types (New ∷ xs) [] h = absurd (omega arith)
told-types (New ∷ xs) (u ∷ ts) h = ap (λ l. plain_simple u ∷ l) (told-types xs ts (omega arith))
told-types (Solved k u ∷ xs) ts h = told-types xs ts h

pub types-count : (t : Tables) → AreTables t → length (meta_types (map plain_added (listed t))) ≡ length t.metas
types-count t h = ap length (told-types t.added t.metas h.typed) ∙ simp length-map

-- what is seen of a store
abbrev pub seen : List Simple → List Added → Stored
seen c l = record { constants = c; added = l }

pub listed-types : (t : Tables) → AreTables t → meta_types (map plain_added (listed t)) ≡ map plain_simple t.metas
listed-types t h = told-types t.added t.metas h.typed

-- ---- the front of what was told

pub record IsFront (least : ℕ) (old new : Tables) : Type 0 where
  pub tables : AreTables new
  pub count : least ≤ length new.added
  pub within : length new.added ≤ length old.added
  pub listed : listed new ≡ take (length new.added) (listed old)

pub front-all : (count : ℕ) (t : Tables) → AreTables t → count ≤ length t.added → IsFront count t t
front-all count t h le = record { tables = h; count = le; within = omega arith; listed = sym (ap (λ n. take n (listed t)) (sym (listed-length t h)) ∙ take-length (listed t)) }

pub front-less : (count : ℕ) (old now new : Tables) → IsFront count old now → AreTables new → length now.added ≡ length new.added + 1 → count < length now.added → listed new ≡ take (length new.added) (listed now) → IsFront count old new
front-less count old now new f h one less e = record { tables = h; count = omega (arith, one, less); within = omega (arith, f.within, one); listed = e ∙ ap (take (length new.added)) f.listed ∙ take-take (length new.added) (length now.added) (listed old) (omega (arith, one)) }

pub front-done : (count : ℕ) (old new : Tables) → IsFront count old new → length new.added ≤ count → listed new ≡ take count (listed old)
front-done count old new f le = f.listed ∙ ap (λ n. take n (listed old)) (same f.count le)
  where
    same : count ≤ length new.added → length new.added ≤ count → length new.added ≡ count
    same a b = omega arith
