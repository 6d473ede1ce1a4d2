-- Each answer gives the premise of its step.
use Rattle.std.specs.Prelude.{ℕ, Bool, true, false, zero, suc, ◌+◌, ◌≡◌, ◌<◌, ◌≤◌, ◌⊎◌, if◌then◌else◌, List, [], ◌∷◌, ◌++◌, length, Some, None, refl}
use Rattle.std.proofs.Common.{ap, sym, subst, ◌∙◌, arith, inl, inr, ⊎_elim}
use Rattle.std.proofs.lemmas.List.{append-nil, length-append}
use Rattle.clf_syntax.specs.declared.tree.Mode.{Mode}
use Rattle.clf_syntax.specs.declared.tree.Head.TheVariants.{Var, Meta}
use Rattle.clf_syntax.specs.Tree.{PlainObject, atomic, PlainNeutral, head_alone, app, head_of}
use Rattle.clf_syntax.specs.TypeTree.{SimpleType}
use Rattle.clf_syntax.specs.Simple.{Assignment, SimplyTyped}
use Rattle.clf_syntax.proofs.OccursLaws.{not_both}
use Rattle.hered_subst.specs.TypedEnvironments.{is_metavariable}
use Rattle.hered_subst.proofs.SimpleTyping.{to_typed}
use Rattle.subst_laws.specs.Environments.{Instantiation}
use Rattle.eta_laws.specs.Eta.{eta}
use Rattle.store_laws.specs.Mentions.{mentions, mentions_neutral}
use Rattle.pattern_laws.specs.Instantiations.{Types, closed}
use Rattle.pattern_laws.specs.Equations.{scoped, Locals, Equation}
use Rattle.pattern_laws.specs.Patterns.{Place, IsFinal, on, blank, local_at, OwnPlace, OwnPlaces, OnDistinct, LacksMisfits, SameTypes, Foreign, masked, mask_at}
use Rattle.pattern_laws.proofs.Instances.{scoped_meta}
use Rattle.pattern_laws.proofs.Inverse.{local_within}
use Rattle.pattern_laws.proofs.Owning.{on_locals}
use Rattle.pattern_laws.proofs.Places.{same_types}
use Rattle.unify_laws.specs.Problems.{Consequence, HasNone}
use Rattle.unify_laws.proofs.PruneStep.{head_clash_step, inside_clash_step}
use Rattle.reach_laws.specs.Reach.{Standing, StandingBelow}
use Rattle.reach_laws.proofs.Reached.{stands, stands_in}
use Rattle.reach_walk.specs.Answers.{IsPattern, IsClash, IsSame, TakesForeign, IsPrune}
use Rattle.reach_walk.specs.Premises.{Pruning}
use Rattle.reach_walk.proofs.Fitted.{one_blank}
use Rattle.reach_walk.proofs.OneReading.{stands_final}
use Rattle.reach_walk.proofs.Reaching.{head_mentions, head_of_pattern}
use Rattle.reach_walk.proofs.StandingTyped.{standing_typed, standing_cases, below_typed, standing_mentions}

-- ---- masks

masked_at_most : (i : ℕ) (bs : List Bool) (zs : List Place) → length (masked i bs zs) ≤ length zs
masked_at_most i [] zs = omega arith
masked_at_most i (b ∷ bs) [] = omega arith
masked_at_most i (true ∷ bs) (z ∷ zs) = omega (arith, masked_at_most (suc i) bs zs)
masked_at_most i (false ∷ bs) (z ∷ zs) = omega (arith, masked_at_most (suc i) bs zs)

-- A mask that leaves out a place leaves fewer.
pub masked_fewer : (i : ℕ) (bs : List Bool) (zs : List Place) (u : ℕ) → u < length zs → mask_at bs u ≡ false → length (masked i bs zs) < length zs
masked_fewer i bs [] u h e = absurd (omega arith)
masked_fewer i [] (z ∷ zs) u h e = omega arith
masked_fewer i (true ∷ bs) (z ∷ zs) zero h e = absurd (cc)
masked_fewer i (false ∷ bs) (z ∷ zs) zero h e = omega (arith, masked_at_most (suc i) bs zs)
masked_fewer i (true ∷ bs) (z ∷ zs) (suc u) h e = let k = masked_fewer (suc i) bs zs u (omega arith) e in omega (arith, k)
masked_fewer i (false ∷ bs) (z ∷ zs) (suc u) h e = let k = masked_fewer (suc i) bs zs u (omega arith) e in omega (arith, k)

number_of : {m k : ℕ} → Meta m ≡ Meta k → m ≡ k
number_of e = cc

one_type : {c d : SimpleType} → Some c ≡ Some d → c ≡ d
one_type e = cc

distinct_mentions : (z : Assignment) (q : PlainNeutral) (k : ℕ) (zs : List Place) (c : SimpleType) → OnDistinct z q k zs c → mentions_neutral k q ≡ true
distinct_mentions z q k zs c d = head_mentions k q (head_of_pattern z q k zs zs c (on_locals z q k zs c d))

module _ (constants metas : Types) (ls : Locals) (a : SimpleType) where
  pub pruning : (side other : PlainObject) (k : ℕ) (bs : List Bool) → SimplyTyped (scoped ls (closed constants metas)) other a → (c : IsPrune (closed constants metas) ls a side other k bs) → Pruning constants metas ls c.places other k bs
  pruning side other k bs t c = let (es, q, d, s, zs, o, m) = taken in record {
    inner = (es ++ []) ++ ls;
    depth = length es;
    neutral = q;
    places = zs;
    result = d;
    deeper = longer es;
    on_distinct = o;
    stands = stands s;
    foreign = λ u w e. ⊎_elim (λ h. inl (subst (λ j. Foreign (length ls) c.places j w) (ap length (append-nil es)) h.0)) (λ h. inr h.1) (m.sorts u w e);
    final = stands_final (scoped es (scoped ls (closed constants metas))) q d (standing_typed s t);
    type = sym (scoped_meta ((es ++ []) ++ ls) (closed constants metas) k) ∙ o.type;
    fewer = masked_fewer 0 bs zs m.takes.0 (local_within zs m.takes.0 m.takes.1 m.takes.2) (left_out m.takes.0 m.takes.1 (length (es ++ [])) (m.sorts m.takes.0 m.takes.1 m.takes.2) m.takes.3);
    mentioned = standing_mentions k s (distinct_mentions (scoped ((es ++ []) ++ ls) (closed constants metas)) q k zs d o);
  }
    where
      taken : (es : Locals) × (q : PlainNeutral) × (d : SimpleType) × Standing (scoped ls (closed constants metas)) es q d other a × (zs : List Place) × OnDistinct (scoped ((es ++ []) ++ ls) (closed constants metas)) q k zs d
          × TakesForeign (length ls) c.places (length (es ++ [])) zs bs
      taken = let (es, q, d, s, h) = c.taken in (es, q, d, s, h.0, h.1, h.2)

      longer : (es : Locals) → length ((es ++ []) ++ ls) ≡ length ls + length es
      longer es = ap (λ l. length (l ++ ls)) (append-nil es) ∙ length-append es ls ∙ about (length es) (length ls)
        where
          about : (n k : ℕ) → n + k ≡ k + n
          about n k = omega arith

      left_out : (u w n : ℕ) → (Foreign (length ls) c.places n w × (mask_at bs u ≡ false)) ⊎ ((Foreign (length ls) c.places n w → ⊥) × (mask_at bs u ≡ true)) → Foreign (length ls) c.places n w → mask_at bs u ≡ false
      left_out u w n h f = ⊎_elim (λ k. k.1) (λ k. absurd (k.0 f)) h

  pub clash_none : (given : Instantiation) (es : List Equation) (side other : PlainObject) → IsFinal a → SimplyTyped (scoped ls (closed constants metas)) other a
      → Consequence constants (record { metas = metas; given = given; equations = es }) (record { locals = ls; left = side; right = other; type = a })
      → IsClash (closed constants metas) ls a side other → HasNone constants (record { metas = metas; given = given; equations = es })
  clash_none given es side other f t con c = let (fs, q, d, s, h) = c.clashing in ⊎_elim
      (λ u. head_clash_step constants metas given es ls c.pattern.neutral c.meta c.places c.own a other from_neutral c.pattern.on_locals c.pattern.lacks (length fs) q u.0 (stands s) u.1
      (subst (λ j. Foreign (length ls) c.places j u.0) (ap length (append-nil fs)) u.2))
      (λ u. ⊎_elim
      (λ k. absurd (c.differs q u.0 u.0 k.0 (on_locals (scoped ls (closed constants metas)) q c.meta u.0 a (own fs q d u.0 u.1 k.1 k.2))))
      (λ k. inside fs q d u.0 u.1 k.0 k.1 k.2 k.3)
      (standing_cases s f)) h
    where
      from_neutral : Consequence constants (record { metas = metas; given = given; equations = es }) (record { locals = ls; left = atomic c.pattern.neutral; right = other; type = a })
      from_neutral = subst (λ l. Consequence constants (record { metas = metas; given = given; equations = es }) (record { locals = ls; left = l; right = other; type = a })) c.pattern.is_neutral con

      own : (fs : Locals) (q : PlainNeutral) (d : SimpleType) (zs : List Place) → OnDistinct (scoped ((fs ++ []) ++ ls) (closed constants metas)) q c.meta zs d → fs ≡ [] → d ≡ a → OnDistinct (scoped ls (closed constants metas)) q c.meta zs a
      own fs q d zs o e h = subst (λ l. OnDistinct (scoped ((l ++ []) ++ ls) (closed constants metas)) q c.meta zs a) e (subst (OnDistinct (scoped ((fs ++ []) ++ ls) (closed constants metas)) q c.meta zs) h o)

      inside : (fs : Locals) (q : PlainNeutral) (d : SimpleType) (zs : List Place) → OnDistinct (scoped ((fs ++ []) ++ ls) (closed constants metas)) q c.meta zs d
          → (n : PlainNeutral) → other ≡ atomic n → is_metavariable (head_of n) ≡ false → StandingBelow (scoped ls (closed constants metas)) fs q d n → HasNone constants (record { metas = metas; given = given; equations = es })
      inside fs q d zs o n e i s =
          let typed : SimplyTyped (scoped ls (closed constants metas)) (atomic n) a = subst (λ y. SimplyTyped (scoped ls (closed constants metas)) y a) e t in
          let (k, j) = same_types c.places zs a d f (stands_final (scoped fs (scoped ls (closed constants metas))) q d (below_typed s a typed.1))
          (one_type (sym c.pattern.on_locals.type ∙ scoped_meta ls (closed constants metas) c.meta ∙ sym (scoped_meta ((fs ++ []) ++ ls) (closed constants metas) c.meta) ∙ o.type)) in
          inside_clash_step constants metas given es ls c.pattern.neutral c.meta c.places c.own a n
          (subst (λ y. Consequence constants (record { metas = metas; given = given; equations = es }) (record { locals = ls; left = atomic c.pattern.neutral; right = y; type = a })) e from_neutral)
          c.pattern.on_locals (subst (LacksMisfits c.places c.own) e c.pattern.lacks) ((fs ++ []) ++ ls) (length fs) q zs (longer fs) (subst (OnDistinct (scoped ((fs ++ []) ++ ls) (closed constants metas)) q c.meta zs) (sym j) o) k i (stands_in s)
        where
          longer : (fs : Locals) → length ((fs ++ []) ++ ls) ≡ length ls + length fs
          longer fs = ap (λ l. length (l ++ ls)) (append-nil fs) ∙ length-append fs ls ∙ about (length fs) (length ls)
            where
              about : (n k : ℕ) → n + k ≡ k + n
              about n k = omega arith

-- ---- the same metavariable on both sides

cases_of : (b : Bool) → (b ≡ true) ⊎ (b ≡ false)
cases_of true = inl refl
cases_of false = inr refl

applied : {m k : Mode} {r s : PlainNeutral} {o u : PlainObject} → m ≡ k → r ≡ s → o ≡ u → app m r o ≡ app k s u
applied e f h = cc

shown : (b : Bool) (v : ℕ) → b ≡ false → (if b then None else Some v) ≡ Some v
shown true v e = absurd (cc)
shown false v e = refl

module _ (z : Assignment) where
  own_type : (p q : Place) → OwnPlace z p q → blank p.1 ≡ false → z (Var q.2) ≡ Some q.1
  own_type p q o e = ⊎_elim (λ h. h) (λ h. absurd (not_both h e)) o.own

  -- With the same locals at each place both neutrals are one.
  identical : (ps qs zs ws : List Place) (r : PlainNeutral) → OwnPlaces z ps qs → OwnPlaces z zs ws → SameTypes ps zs → ((u w : ℕ) → local_at ps u ≡ Some w → local_at zs u ≡ Some w) → on qs r ≡ on ws r
  identical [] [] [] [] r o k s f = refl
  identical [] [] [] (w ∷ ws) r o k s f = absurd k
  identical [] [] (y ∷ zs) ws r o k s f = absurd s
  identical [] (q ∷ qs) zs ws r o k s f = absurd o
  identical (p ∷ ps) [] zs ws r o k s f = absurd o
  identical (p ∷ ps) (q ∷ qs) [] ws r o k s f = absurd s
  identical (p ∷ ps) (q ∷ qs) (y ∷ zs) [] r o k s f = absurd k
  identical (p ∷ ps) (q ∷ qs) (y ∷ zs) (w ∷ ws) r o k s f = applied (sym o.0.mode ∙ s.0 ∙ k.0.mode) (identical ps qs zs ws r o.1 k.1 s.2 (λ u. f (suc u))) (⊎_elim hidden local (cases_of (blank p.1)))
    where
      hidden : blank p.1 ≡ true → eta q.1 (head_alone (Var q.2)) ≡ eta w.1 (head_alone (Var w.2))
      hidden b = sym (one_blank z p.1 (eta q.1 (head_alone (Var q.2))) b (to_typed true z (eta q.1 (head_alone (Var q.2))) p.1 o.0.typed) (head_alone (Var 0)))
          ∙ one_blank z p.1 (eta w.1 (head_alone (Var w.2))) b (to_typed true z (eta w.1 (head_alone (Var w.2))) p.1 (subst (SimplyTyped z (eta w.1 (head_alone (Var w.2)))) (sym s.1) k.0.typed)) (head_alone (Var 0))

      one_number : {i j : ℕ} → Some i ≡ Some j → i ≡ j
      one_number e = cc

      local : blank p.1 ≡ false → eta q.1 (head_alone (Var q.2)) ≡ eta w.1 (head_alone (Var w.2))
      local b =
          let c : blank y.1 ≡ false = ap blank (sym s.1) ∙ b in
          let e : y.2 ≡ p.2 = one_number (sym (shown (blank y.1) y.2 c) ∙ f zero p.2 (shown (blank p.1) p.2 b)) in
          let v : q.2 ≡ w.2 = sym o.0.local ∙ sym e ∙ k.0.local in
          let t : q.1 ≡ w.1 = one_type (sym (own_type p q o.0 b) ∙ ap (λ j. z (Var j)) v ∙ own_type y w k.0 c) in
          ap (λ u. eta u (head_alone (Var q.2))) t ∙ ap (λ j. eta w.1 (head_alone (Var j))) v

-- a mask keeps all of the first places, or leaves one out
left_out_or_not : (n : ℕ) (bs : List Bool) → ((u : ℕ) × (u < n) × (mask_at bs u ≡ false)) ⊎ ((u : ℕ) → u < n → mask_at bs u ≡ true)
left_out_or_not zero bs = inr (λ u h. absurd (omega arith))
left_out_or_not (suc n) bs = ⊎_elim
    (λ h. inl (h.0, omega (arith, h.1), h.2))
    (λ h. ⊎_elim (λ k. inr (λ u l. ⊎_elim (λ m. h u m) (λ e. subst (λ j. mask_at bs j ≡ true) (sym e) k) (last u n l))) (λ k. inl (n, omega arith, k)) (cases_of (mask_at bs n)))
    (left_out_or_not n bs)
  where
    last : (u n : ℕ) → u < suc n → (u < n) ⊎ (u ≡ n)
    last u n l = grind arith

pub same_fewer : (constants metas : Types) (ls : Locals) (a : SimpleType) (side other : PlainObject) (bs : List Bool) → (c : IsSame (closed constants metas) ls a side other bs) → (side ≡ other → ⊥) → length (masked 0 bs c.places) < length c.places
same_fewer constants metas ls a side other bs c differ = ⊎_elim
    (λ h. masked_fewer 0 bs c.places h.0 h.1 h.2)
    (λ h. absurd (differ (c.pattern.is_neutral ∙ ap atomic (c.pattern.on_locals.neutral ∙ identical (scoped ls (closed constants metas)) c.places c.own c.others c.others_own (head_alone (Meta c.meta)) c.pattern.on_locals.places c.back.on_locals.places c.types
    (λ u w e. ⊎_elim (λ k. k.0) (λ k. absurd (not_both (h u (local_within c.places u w e)) k.2)) (c.keeps.2 u w e)) ∙ sym c.back.on_locals.neutral) ∙ sym c.back.is_neutral)))
    (left_out_or_not (length c.places) bs)

-- Each side that is a metavariable on distinct locals mentions it.
pub pattern_mentions : (g : Assignment) (ls : Locals) (a : SimpleType) (side : PlainObject) (m : ℕ) (ps qs : List Place) (other : PlainObject) → IsPattern g ls a side m ps qs other → mentions m side ≡ true
pattern_mentions g ls a side m ps qs other p = ap (mentions m) p.is_neutral ∙ head_mentions m p.neutral (head_of_pattern (scoped ls g) p.neutral m ps qs a p.on_locals)
