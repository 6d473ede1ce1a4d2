-- From what is found to the answer, and from the answer to reach.
use Rattle.std.specs.Prelude.{ℕ, Bool, true, false, ◌≡◌, List, [], ◌∷◌, ◌++◌, length, Some, None, refl}
use Rattle.std.proofs.Common.{ap, sym, subst, ◌∙◌, inl, inr, ⊎_elim}
use Rattle.std.proofs.lemmas.List.{append-nil}
use Rattle.clf_syntax.specs.declared.tree.Head.TheVariants.{Const, Var, Meta}
use Rattle.clf_syntax.specs.Tree.{PlainObject, atomic, PlainNeutral, head_alone, app, fst, snd, head_of}
use Rattle.clf_syntax.specs.TypeTree.{SimpleType}
use Rattle.clf_syntax.specs.Simple.{Assignment, SimplyTyped}
use Rattle.clf_syntax.proofs.OccursLaws.{or_first, not_both, own_number}
use Rattle.hered_subst.specs.TypedEnvironments.{is_metavariable}
use Rattle.store_laws.specs.Mentions.{mentions, mentions_neutral}
use Rattle.pattern_laws.specs.Instantiations.{Types, closed}
use Rattle.pattern_laws.specs.Equations.{scoped, Locals}
use Rattle.pattern_laws.specs.Patterns.{Place, IsFinal, on, local_at, OnDistinct, OnLocals, LacksMisfits, SameTypes, Foreign, NoCircle, Ends, ends_here, ends_later}
use Rattle.pattern_laws.proofs.Owning.{on_locals}
use Rattle.pattern_laws.proofs.Places.{covers}
use Rattle.pattern_laws.proofs.Spines.{head_on}
use Rattle.reach_laws.specs.Reach.{Standing, standing_below, InReach, same_reach, head_reach, inside_reach, free_reach, Reaches}
use Rattle.reach_walk.specs.Answers.{IsPattern, IsClash, IsSame, IsPrune, IsAssign}
use Rattle.reach_walk.specs.Marks.{MarksForeign}
use Rattle.reach_walk.specs.Walked.{Found, IsPruned, Walked}
use Rattle.reach_walk.proofs.OneReading.{Alike, alike_local, alike_lacks, turned, one_reading_on}
use Rattle.reach_walk.proofs.Standings.{of_atomic}
use Rattle.reach_walk.proofs.StandingTyped.{standing_cases}

same_neutral : {r n : PlainNeutral} → atomic r ≡ atomic n → r ≡ n
same_neutral e = cc

no_length : (es : Locals) → length (es ++ []) ≡ length es
no_length es = ap length (append-nil es)

pub head_of_pattern : (z : Assignment) (r : PlainNeutral) (m : ℕ) (ps qs : List Place) (t : SimpleType) → OnLocals z r m ps qs t → head_of r ≡ Meta m
head_of_pattern z r m ps qs t o = ap head_of o.neutral ∙ head_on qs (head_alone (Meta m))

pub head_mentions : (m : ℕ) (n : PlainNeutral) → head_of n ≡ Meta m → mentions_neutral m n ≡ true
head_mentions m (head_alone (Const c)) e = absurd (cc)
head_mentions m (head_alone (Var i)) e = absurd (cc)
head_mentions m (head_alone (Meta k)) e = same k m e
  where
    number : {k m : ℕ} → Meta k ≡ Meta m → k ≡ m
    number e = cc

    same : (k m : ℕ) → Meta k ≡ Meta m → mentions_neutral m (head_alone (Meta k)) ≡ true
    same k m e = subst (λ j. mentions_neutral j (head_alone (Meta k)) ≡ true) (number e) (own_number k)
head_mentions m (app k r o) e = or_first (mentions_neutral m r) (mentions m o) (head_mentions m r e)
head_mentions m (fst r) e = head_mentions m r e
head_mentions m (snd r) e = head_mentions m r e

rigid_meta : (n : PlainNeutral) (m : ℕ) → head_of n ≡ Meta m → is_metavariable (head_of n) ≡ false → ⊥
rigid_meta n m e f = not_both (ap is_metavariable e) f

variable_meta : (n : PlainNeutral) (w m : ℕ) → head_of n ≡ Var w → head_of n ≡ Meta m → ⊥
variable_meta n w m e f = cc

pub ends_same : {ps zs ps' zs' : List Place} → ((i : ℕ) → local_at ps i ≡ local_at ps' i) → ((i : ℕ) → local_at zs i ≡ local_at zs' i) → {j : ℕ} → Ends ps zs j → Ends ps' zs' j
ends_same f h (ends_here {j = j} {v = v} e k) = ends_here (sym (f j) ∙ e) (λ i l. k i (h i ∙ l))
ends_same f h (ends_later {j = j} {i = i} {v = v} e k n) = ends_later (sym (f j) ∙ e) (sym (h i) ∙ k) (ends_same f h n)

pub circle_same : {ps zs ps' zs' : List Place} → ((i : ℕ) → local_at ps i ≡ local_at ps' i) → ((i : ℕ) → local_at zs i ≡ local_at zs' i) → NoCircle ps zs → NoCircle ps' zs'
circle_same f h c j v e = ⊎_elim (λ k. inl (sym (h j) ∙ k)) (λ k. inr (ends_same f h k)) (c j v (f j ∙ e))

pub marks_same : (n : ℕ) (ps ps' : List Place) (bs : List Bool) → ((i : ℕ) → local_at ps i ≡ local_at ps' i) → MarksForeign n ps bs → MarksForeign n ps' bs
marks_same n ps ps' bs f k = (
  λ v e. let (l, h) = k.0 v e in (l, λ i p. h i (f i ∙ p)),
  λ v l h. k.1 v l (λ i p. h i (sym (f i) ∙ p)),
)

module _ (constants metas : Types) (ls : Locals) (a : SimpleType) where
  -- ---- no

  pub unread_no : (r : PlainNeutral) (x : PlainObject) → ((m : ℕ) (ps qs : List Place) → OnLocals (scoped ls (closed constants metas)) r m ps qs a → ⊥) → Reaches (closed constants metas) ls a (atomic r) x → ⊥
  unread_no r x h c = h c.meta c.places c.own (subst (λ n. OnLocals (scoped ls (closed constants metas)) n c.meta c.places c.own a) (sym (same_neutral c.is_neutral)) c.on_locals)

  read_as : (r : PlainNeutral) (m : ℕ) (ps qs : List Place) (x : PlainObject) → IsFinal a → OnLocals (scoped ls (closed constants metas)) r m ps qs a
      → (c : Reaches (closed constants metas) ls a (atomic r) x) → (m ≡ c.meta) × SameTypes ps c.places × Alike ps qs c.places c.own
  read_as r m ps qs x f o c = one_reading_on (scoped ls (closed constants metas)) r m c.meta ps qs c.places c.own a f o
      (subst (λ n. OnLocals (scoped ls (closed constants metas)) n c.meta c.places c.own a) (sym (same_neutral c.is_neutral)) c.on_locals)

  pub misfit_no : (r : PlainNeutral) (m : ℕ) (ps qs : List Place) (x : PlainObject) → IsFinal a → OnLocals (scoped ls (closed constants metas)) r m ps qs a → (LacksMisfits ps qs x → ⊥)
      → Reaches (closed constants metas) ls a (atomic r) x → ⊥
  misfit_no r m ps qs x f o h c = let (e, s, k) = read_as r m ps qs x f o c in h (alike_lacks (turned k) x c.lacks)

  -- the other side has the same metavariable as its head
  same_alone : (r n : PlainNeutral) (m : ℕ) (ps : List Place) → head_of n ≡ Meta m → {x : PlainObject} → x ≡ atomic n → InReach (closed constants metas) ls r m ps a x
      → (zs ws : List Place) × OnLocals (scoped ls (closed constants metas)) n m zs ws a × LacksMisfits zs ws (atomic r) × NoCircle ps zs
  same_alone r n m ps e h (same_reach {n = n'} zs ws o l s k) = (zs, ws, subst (λ y. OnLocals (scoped ls (closed constants metas)) y m zs ws a) (same_neutral h) o, l, k)
  same_alone r n m ps e h (head_reach {x = x} ds q c w s i f) = absurd (of_head ds q c w h s i)
    where
      of_head : {x : PlainObject} (ds : Locals) (q : PlainNeutral) (c : SimpleType) (w : ℕ) → x ≡ atomic n → Standing (scoped ls (closed constants metas)) ds q c x a → head_of q ≡ Var w → ⊥
      of_head ds q c w h s i = ⊎_elim
          (λ u. variable_meta n w m (ap head_of (sym u.1) ∙ i) e)
          (λ u. rigid_meta n m e u.0)
          (of_atomic (subst (λ y. Standing (scoped ls (closed constants metas)) ds q c y a) h s))
  same_alone r n m ps e h (inside_reach {n = n'} ds q zs c i s d) = absurd (rigid_meta n m e (ap (λ y. is_metavariable (head_of y)) (sym (same_neutral h)) ∙ i))
  same_alone r n m ps e h (free_reach {x = x} i p) = absurd (not_both (ap (mentions m) h ∙ head_mentions m n e) i)

  pub same_unread_no : (r n : PlainNeutral) (m : ℕ) (ps qs : List Place) → IsFinal a → OnLocals (scoped ls (closed constants metas)) r m ps qs a → head_of n ≡ Meta m
      → ((k : ℕ) (zs ws : List Place) → OnLocals (scoped ls (closed constants metas)) n k zs ws a → ⊥) → Reaches (closed constants metas) ls a (atomic r) (atomic n) → ⊥
  same_unread_no r n m ps qs f o e h c = let (i, s, k) = read_as r m ps qs (atomic n) f o c in
      let (zs, ws, d, l, u) = same_alone c.neutral n c.meta c.places (e ∙ ap (λ j. Meta j) i) refl c.in_reach in h c.meta zs ws d

  pub same_misfit_no : (r n : PlainNeutral) (m : ℕ) (ps qs : List Place) (k : ℕ) (zs ws : List Place) → IsFinal a → OnLocals (scoped ls (closed constants metas)) r m ps qs a → head_of n ≡ Meta m
      → OnLocals (scoped ls (closed constants metas)) n k zs ws a → (LacksMisfits zs ws (atomic r) → ⊥) → Reaches (closed constants metas) ls a (atomic r) (atomic n) → ⊥
  same_misfit_no r n m ps qs k zs ws f o e d h c = let (i, s, j) = read_as r m ps qs (atomic n) f o c in
      let (zs', ws', d', l, u) = same_alone c.neutral n c.meta c.places (e ∙ ap (λ j. Meta j) i) refl c.in_reach in
      let (i', s', j') = one_reading_on (scoped ls (closed constants metas)) n k c.meta zs ws zs' ws' a f d d' in
      h (alike_lacks (turned j') (atomic r) (subst (λ y. LacksMisfits zs' ws' (atomic y)) (sym (same_neutral c.is_neutral)) l))

  pub circle_no : (r n : PlainNeutral) (m : ℕ) (ps qs : List Place) (k : ℕ) (zs ws : List Place) → IsFinal a → OnLocals (scoped ls (closed constants metas)) r m ps qs a → head_of n ≡ Meta m
      → OnLocals (scoped ls (closed constants metas)) n k zs ws a → (NoCircle ps zs → ⊥) → Reaches (closed constants metas) ls a (atomic r) (atomic n) → ⊥
  circle_no r n m ps qs k zs ws f o e d h c = let (i, s, j) = read_as r m ps qs (atomic n) f o c in
      let (zs', ws', d', l, u) = same_alone c.neutral n c.meta c.places (e ∙ ap (λ j. Meta j) i) refl c.in_reach in
      let (i', s', j') = one_reading_on (scoped ls (closed constants metas)) n k c.meta zs ws zs' ws' a f d d' in
      h (circle_same (λ y. sym (alike_local j y)) (λ y. sym (alike_local j' y)) u)

  -- the other side has another head
  other_cases : (r : PlainNeutral) (m : ℕ) (ps : List Place) {x : PlainObject} → ((n : PlainNeutral) → x ≡ atomic n → head_of n ≡ Meta m → ⊥) → InReach (closed constants metas) ls r m ps a x → (f : Found) → Walked (closed constants metas) ls m ps [] x a f
      → f.clash ≡ false → f.free ≡ false → ⊥
  other_cases r m ps h (same_reach {n = n} zs ws o l s k) f w c i = h n refl (head_of_pattern (scoped ls (closed constants metas)) n m zs ws a o)
  other_cases r m ps h (head_reach {x = x} ds q d v s e u) f w c i = not_both (w.clash.1 (ds, q, d, s, inl (v, e, subst (λ j. Foreign (length ls) ps j v) (sym (no_length ds)) u))) c
  other_cases r m ps h (inside_reach {n = n} ds q zs d e s o) f w c i =
      not_both (w.clash.1 (ds, q, d, standing_below e s, inr (zs, subst (λ l. OnDistinct (scoped (l ++ ls) (closed constants metas)) q m zs d) (sym (append-nil ds)) o))) c
  other_cases r m ps h (free_reach {x = x} e p) f w c i = not_both (w.free.1 (e, p)) i

  pub other_no : (r : PlainNeutral) (m : ℕ) (ps qs : List Place) (x : PlainObject) (bs : List Bool) (f : Found) → IsFinal a → OnLocals (scoped ls (closed constants metas)) r m ps qs a → MarksForeign (length ls) ps bs
      → ((n : PlainNeutral) → x ≡ atomic n → head_of n ≡ Meta m → ⊥) → ((ps' : List Place) → MarksForeign (length ls) ps' bs → Walked (closed constants metas) ls m ps' [] x a f)
      → f.clash ≡ false → f.free ≡ false → Reaches (closed constants metas) ls a (atomic r) x → ⊥
  other_no r m ps qs x bs f fin o k h w c i u = let (e, s, j) = read_as r m ps qs x fin o u in
      other_cases u.neutral u.meta u.places (λ n p q. h n p (q ∙ ap (λ y. Meta y) (sym e))) u.in_reach f
      (subst (λ y. Walked (closed constants metas) ls y u.places [] x a f) e (w u.places (marks_same (length ls) ps u.places bs (alike_local j) k))) c i

  -- ---- the other answers

  pub is_pattern : (r : PlainNeutral) (m : ℕ) (ps qs : List Place) (x : PlainObject) → OnLocals (scoped ls (closed constants metas)) r m ps qs a → LacksMisfits ps qs x → IsPattern (closed constants metas) ls a (atomic r) m ps qs x
  is_pattern r m ps qs x o l = record { neutral = r; is_neutral = refl; on_locals = o; lacks = l }

  pub is_clash : (r : PlainNeutral) (m : ℕ) (ps qs : List Place) (x : PlainObject) (f : Found) → OnLocals (scoped ls (closed constants metas)) r m ps qs a → LacksMisfits ps qs x
      → ((n : PlainNeutral) → x ≡ atomic n → head_of n ≡ Meta m → ⊥) → Walked (closed constants metas) ls m ps [] x a f → f.clash ≡ true → IsClash (closed constants metas) ls a (atomic r) x
  is_clash r m ps qs x f o l h w c = record {
    meta = m;
    places = ps;
    own = qs;
    pattern = is_pattern r m ps qs x o l;
    differs = λ n zs ws e d. h n e (head_of_pattern (scoped ls (closed constants metas)) n m zs ws a d);
    clashing = w.clash.0 c;
  }

  pub is_prune : (r : PlainNeutral) (m : ℕ) (ps qs : List Place) (x : PlainObject) (f : Found) (k : ℕ) (bs : List Bool) → OnLocals (scoped ls (closed constants metas)) r m ps qs a → LacksMisfits ps qs x
      → Walked (closed constants metas) ls m ps [] x a f → f.free ≡ true → f.prune ≡ Some (k, bs) → IsPrune (closed constants metas) ls a (atomic r) x k bs
  is_prune r m ps qs x f k bs o l w c e = record {
    meta = m;
    places = ps;
    own = qs;
    pattern = is_pattern r m ps qs x o l;
    free = (w.free.0 c).0;
    prunable = (w.free.0 c).1;
    taken = subst (IsPruned (closed constants metas) ls ps [] x a) e (w.pruned c);
  }

  pub is_assign : (r : PlainNeutral) (m : ℕ) (ps qs : List Place) (x : PlainObject) (f : Found) → OnLocals (scoped ls (closed constants metas)) r m ps qs a → LacksMisfits ps qs x
      → SimplyTyped (scoped ls (closed constants metas)) x a → Walked (closed constants metas) ls m ps [] x a f → f.free ≡ true → f.prune ≡ None → IsAssign (closed constants metas) ls a (atomic r) x m ps qs
  is_assign r m ps qs x f o l t w c e = record {
    pattern = is_pattern r m ps qs x o l;
    free = (w.free.0 c).0;
    prunable = (w.free.0 c).1;
    covers = covers constants metas ls ps x a t (subst (IsPruned (closed constants metas) ls ps [] x a) e (w.pruned c));
  }

  -- ---- each of them only in reach

  reached : (side other : PlainObject) (m : ℕ) (ps qs : List Place) → (p : IsPattern (closed constants metas) ls a side m ps qs other) → InReach (closed constants metas) ls p.neutral m ps a other → Reaches (closed constants metas) ls a side other
  reached side other m ps qs p i = record { neutral = p.neutral; meta = m; places = ps; own = qs; is_neutral = p.is_neutral; on_locals = p.on_locals; lacks = p.lacks; in_reach = i }

  pub clash_reaches : (side other : PlainObject) → IsFinal a → IsClash (closed constants metas) ls a side other → Reaches (closed constants metas) ls a side other
  clash_reaches side other f c = let (es, q, d, s, h) = c.clashing in reached side other c.meta c.places c.own c.pattern (⊎_elim
      (λ u. head_reach es q d u.0 s u.1 (subst (λ j. Foreign (length ls) c.places j u.0) (no_length es) u.2))
      (λ u. ⊎_elim
      (λ k. absurd (c.differs q u.0 u.0 k.0 (on_locals (scoped ls (closed constants metas)) q c.meta u.0 a (own es q d u.0 u.1 k.1 k.2))))
      (λ k. subst (InReach (closed constants metas) ls c.pattern.neutral c.meta c.places a) (sym k.1)
      (inside_reach es q u.0 d k.2 k.3 (subst (λ l. OnDistinct (scoped (l ++ ls) (closed constants metas)) q c.meta u.0 d) (append-nil es) u.1)))
      (standing_cases s f)) h)
    where
      own : (es : Locals) (q : PlainNeutral) (d : SimpleType) (zs : List Place) → OnDistinct (scoped ((es ++ []) ++ ls) (closed constants metas)) q c.meta zs d → es ≡ [] → d ≡ a → OnDistinct (scoped ls (closed constants metas)) q c.meta zs a
      own es q d zs o e h = subst (λ l. OnDistinct (scoped ((l ++ []) ++ ls) (closed constants metas)) q c.meta zs a) e (subst (OnDistinct (scoped ((es ++ []) ++ ls) (closed constants metas)) q c.meta zs) h o)

  pub same_reaches : (side other : PlainObject) (bs : List Bool) → IsSame (closed constants metas) ls a side other bs → Reaches (closed constants metas) ls a side other
  same_reaches side other bs c = reached side other c.meta c.places c.own c.pattern
      (subst (InReach (closed constants metas) ls c.pattern.neutral c.meta c.places a) (sym c.back.is_neutral)
      (same_reach c.others c.others_own c.back.on_locals (subst (LacksMisfits c.others c.others_own) c.pattern.is_neutral c.back.lacks) c.types c.no_circle))

  pub prune_reaches : (side other : PlainObject) (k : ℕ) (bs : List Bool) → IsPrune (closed constants metas) ls a side other k bs → Reaches (closed constants metas) ls a side other
  prune_reaches side other k bs c = reached side other c.meta c.places c.own c.pattern (free_reach c.free c.prunable)

  pub assign_reaches : (side other : PlainObject) (m : ℕ) (ps qs : List Place) → IsAssign (closed constants metas) ls a side other m ps qs → Reaches (closed constants metas) ls a side other
  assign_reaches side other m ps qs c = reached side other m ps qs c.pattern (free_reach c.free c.prunable)
