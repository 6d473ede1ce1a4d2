-- A matching, step by step: the variables of the left side so far go to numbers of the right side's wide steps.
use Rattle.std.specs.Prelude.{ℕ, zero, suc, ◌+◌, ◌-◌, ◌≡◌, ◌<◌, ◌≤◌, ◌↔◌, List, [], ◌∷◌, length, map, refl}
use Rattle.std.proofs.Common.{ap, sym, subst, ◌∙◌, arith, ⊎_elim}
use Rattle.clf_syntax.proofs.RenamingLaws.{composed_neutral, composed_tuple, cut, ext, lift_in, lift_out}
use Rattle.clf_syntax.specs.Renaming.{Renumbering, lifted, ren_expression, ren_neutral, ren_tuple, up}
use Rattle.clf_syntax.specs.Tree.{PlainExpression, PlainNeutral, PlainTuple, done, step}
use Rattle.clf_syntax.specs.declared.tree.Mode.{Mode}
use Rattle.trace_equal.proofs.Bijections.{own_from, wide_length_ren}
use Rattle.trace_equal.proofs.WideSteps.{map_idle, own_to, size_ren}
use Rattle.trace_equal.specs.Bijection.{AgreeAt, Distinct, IsMatching, Paired}
use Rattle.trace_equal.specs.Exchange.{JoinedTuple}
use Rattle.trace_equal.specs.Places.{entered}
use Rattle.trace_equal.specs.Steps.{WideStep, below, ren_wide_step, result_of, size, wide_step, wide_steps}

pub entered_in : (n a : ℕ) (r : Renumbering) (i : ℕ) → i < n → entered n a r i ≡ i + a
entered_in n a r i h = grind arith

pub entered_out : (n a : ℕ) (r : Renumbering) (i : ℕ) → n ≤ i → entered n a r i ≡ r (i - n)
entered_out n a r i h = grind arith

pub entered_past : (n a : ℕ) (r : Renumbering) (i : ℕ) → entered n a r (i + n) ≡ r i
entered_past n a r i = entered_out n a r (i + n) (omega arith) ∙ ap r (fall)
  where
    fall : i + n - n ≡ i
    fall = omega arith

-- the same variables from two numbers on
pub entered_one : (n a b : ℕ) (r : Renumbering) → map (up a) (below n) ≡ map (up b) (below n) → entered n a r ≡ entered n b r
entered_one n a b r e = ext (λ i. ⊎_elim (λ h. entered_in n a r i h ∙ own_from (λ x. x) (λ x. x) a b n (idle a ∙ e ∙ sym (idle b)) i h ∙ sym (entered_in n b r i h)) (λ h. entered_out n a r i h ∙ sym (entered_out n b r i h)) (cut i n))
  where
    idle : (c : ℕ) → map (λ (x : ℕ). x) (map (up c) (below n)) ≡ map (up c) (below n)
    idle c = map_idle (λ x. x) (map (up c) (below n)) (λ x. refl)

-- The list m gives each left step its step among the wide steps ys. The left steps stand over variables that the renumbering takes to
-- numbers of ys, and each step that is matched enters its variables. The tuples are joined at the end.
abbrev pub Fits : List WideStep → PlainTuple → Renumbering → PlainExpression → List ℕ → Type 0
Fits ys u r (done t) [] = JoinedTuple (ren_tuple r t) u
Fits ys u r (done t) (j ∷ m) = ⊥
Fits ys u r (step p n e) [] = ⊥
Fits ys u r (step p n e) (j ∷ m) = (a : ℕ) × AgreeAt j (wide_step (map (up a) (below (length p))) p (ren_neutral r n)) ys × Fits ys u (entered (length p) a r) e m

-- each of the steps has its variables from some number on
abbrev pub EachNumbered : List WideStep → Type 0
EachNumbered [] = Unit {0}
EachNumbered (wide_step vs ms n ∷ ys) = ((a : ℕ) × (vs ≡ map (up a) (below (length ms)))) × EachNumbered ys

pub wide_numbered : (e : PlainExpression) → EachNumbered (wide_steps e)
wide_numbered (step ms r e) = ((size e, refl), wide_numbered e)
wide_numbered (done t) = tt

numbered_at : (i : ℕ) (vs : List ℕ) (ms : List Mode) (n : PlainNeutral) (ys : List WideStep) → EachNumbered ys → AgreeAt i (wide_step vs ms n) ys → (a : ℕ) × (vs ≡ map (up a) (below (length ms)))
numbered_at i vs ms n [] h g = absurd g
numbered_at zero vs ms n (wide_step us ns v ∷ ys) ((a, e), h) (f, k, j) = (a, f ∙ e ∙ ap (λ l. map (up a) (below (length l))) (sym k))
numbered_at (suc i) vs ms n (wide_step us ns v ∷ ys) (e, h) g = numbered_at i vs ms n ys h g

agree_along : (i : ℕ) {vs us : List ℕ} (ms : List Mode) {n r : PlainNeutral} (ys : List WideStep) → vs ≡ us → n ≡ r → AgreeAt i (wide_step vs ms n) ys → AgreeAt i (wide_step us ms r) ys
agree_along i {vs = vs} {us = us} ms {n = n} {r = r} ys e f h = subst (λ k. AgreeAt i (wide_step us ms k) ys) f (subst (λ k. AgreeAt i (wide_step k ms n) ys) e h)

module _ (ys : List WideStep) (u : PlainTuple) (numbered : EachNumbered ys) where
  -- from a matching: s is its renumbering, p takes the left expression to where s is read, and r is both in turn
  pub fits_from : (s p r : Renumbering) (e : PlainExpression) (m : List ℕ) → ((i : ℕ) → s (p i + size e) ≡ r i)
      → Paired m (map (ren_wide_step s) (wide_steps (ren_expression p e))) ys → JoinedTuple (ren_tuple s (result_of (ren_expression p e))) u → Fits ys u r e m
  fits_from s p r (done t) [] h g j = subst (λ (k : PlainTuple). JoinedTuple k u) (composed_tuple s p t ∙ ap (λ k. ren_tuple k t) (ext (λ i. ap s (sum i) ∙ h i))) j
    where
      sum : (i : ℕ) → p i ≡ p i + 0
      sum i = omega arith
  fits_from s p r (done t) (i ∷ m) h g j = g
  fits_from s p r (step ms n e) [] h g j = g
  fits_from s p r (step ms n e) (i ∷ m) h (g, gs) j =
      (numbers.0, agree_along i ms ys numbers.1 side g, fits_from s (lifted (length ms) p) (entered (length ms) numbers.0 r) e m over gs j)
    where
      k : ℕ
      k = size (ren_expression (lifted (length ms) p) e)

      same : k ≡ size e
      same = size_ren (lifted (length ms) p) e

      numbers : (a : ℕ) × (map s (map (up k) (below (length ms))) ≡ map (up a) (below (length ms)))
      numbers = numbered_at i (map s (map (up k) (below (length ms)))) ms (ren_neutral s (ren_neutral (up (k + length ms)) (ren_neutral p n))) ys numbered g

      side : ren_neutral s (ren_neutral (up (k + length ms)) (ren_neutral p n)) ≡ ren_neutral r n
      side = ap (ren_neutral s) (composed_neutral (up (k + length ms)) p n) ∙ composed_neutral s (λ i. up (k + length ms) (p i)) n ∙ ap (λ f. ren_neutral f n) (ext (λ i. ap (λ l. s (p i + (l + length ms))) same ∙ h i))

      over : (x : ℕ) → s (lifted (length ms) p x + size e) ≡ entered (length ms) numbers.0 r x
      over x = ⊎_elim
          (λ l. ap (λ y. s (y + size e)) (lift_in (length ms) p x l) ∙ ap (λ y. s (x + y)) (sym same) ∙ own_from s (λ y. y) k numbers.0 (length ms) (numbers.1 ∙ sym (map_idle (λ y. y) (map (up numbers.0) (below (length ms))) (λ y. refl))) x l
          ∙ sym (entered_in (length ms) numbers.0 r x l))
          (λ l. ap (λ y. s (y + size e)) (lift_out (length ms) p x l) ∙ ap s (sum (p (x - length ms))) ∙ h (x - length ms) ∙ sym (entered_out (length ms) numbers.0 r x l))
          (cut x (length ms))
        where
          sum : (y : ℕ) → y + length ms + size e ≡ y + (size e + length ms)
          sum y = omega arith

  -- the renumbering k with the variables of all steps entered, as the list enters them
  abbrev pub ending : (k r : Renumbering) (e : PlainExpression) (m : List ℕ) → Fits ys u r e m → Renumbering
  ending k r (done t) [] h = k
  ending k r (done t) (i ∷ m) h = k
  ending k r (step p n e) [] h = k
  ending k r (step p n e) (j ∷ m) (a, g, h) = ending (entered (length p) a k) (entered (length p) a r) e m h

  ending_past : (k r : Renumbering) (e : PlainExpression) (m : List ℕ) (h : Fits ys u r e m) (i : ℕ) → ending k r e m h (i + size e) ≡ k i
  ending_past k r (done t) [] h i = ap k (sum)
    where
      sum : i + 0 ≡ i
      sum = omega arith
  ending_past k r (done t) (j ∷ m) h i = absurd h
  ending_past k r (step p n e) [] h i = absurd h
  ending_past k r (step p n e) (j ∷ m) (a, g, h) i =
      ap (ending (entered (length p) a k) (entered (length p) a r) e m h) (sum (size e) (length p)) ∙ ending_past (entered (length p) a k) (entered (length p) a r) e m h (i + length p) ∙ entered_past (length p) a k i
    where
      sum : (x y : ℕ) → i + (x + y) ≡ i + y + x
      sum x y = omega arith

  fits_length : (r : Renumbering) (e : PlainExpression) (m : List ℕ) → Fits ys u r e m → length (wide_steps e) ≡ length m
  fits_length r (done t) [] h = refl
  fits_length r (done t) (j ∷ m) h = absurd h
  fits_length r (step p n e) [] h = absurd h
  fits_length r (step p n e) (j ∷ m) (a, g, h) = ap suc (fits_length (entered (length p) a r) e m h)

  -- Back to a matching: s is the renumbering at the end, p takes the left expression to where s is read, and r is k after p.
  paired_back : (s p k r : Renumbering) (e : PlainExpression) (m : List ℕ) → ((i : ℕ) → k (p i) ≡ r i) → (h : Fits ys u r e m) → ((i : ℕ) → s i ≡ ending k r e m h i)
      → Paired m (map (ren_wide_step s) (wide_steps (ren_expression p e))) ys × JoinedTuple (ren_tuple s (result_of (ren_expression p e))) u
  paired_back s p k r (done t) [] f h g = (tt, subst (λ (x : PlainTuple). JoinedTuple x u) (sym (composed_tuple s p t ∙ ap (λ x. ren_tuple x t) (ext (λ i. g (p i) ∙ f i)))) h)
  paired_back s p k r (done t) (j ∷ m) f h g = absurd h
  paired_back s p k r (step ms n e) [] f h g = absurd h
  paired_back s p k r (step ms n e) (j ∷ m) f (a, x, h) g =
      let rest = paired_back s (lifted (length ms) p) (entered (length ms) a k) (entered (length ms) a r) e m over h g in
      ((agree_along j ms ys (sym names) (sym side) x, rest.0), rest.1)
    where
      l : ℕ
      l = size (ren_expression (lifted (length ms) p) e)

      same : l ≡ size e
      same = size_ren (lifted (length ms) p) e

      inner : (i : ℕ) → s (i + size e) ≡ entered (length ms) a k i
      inner i = g (i + size e) ∙ ending_past (entered (length ms) a k) (entered (length ms) a r) e m h i

      names : map s (map (up l) (below (length ms))) ≡ map (up a) (below (length ms))
      names = own_to s l a (length ms) (λ c b. ap (λ y. s (c + y)) same ∙ inner c ∙ entered_in (length ms) a k c b)

      side : ren_neutral s (ren_neutral (up (l + length ms)) (ren_neutral p n)) ≡ ren_neutral r n
      side = ap (ren_neutral s) (composed_neutral (up (l + length ms)) p n) ∙ composed_neutral s (λ i. up (l + length ms) (p i)) n
          ∙ ap (λ z. ren_neutral z n) (ext (λ i. ap (λ y. s (p i + (y + length ms))) same ∙ ap s (sum (p i)) ∙ inner (p i + length ms) ∙ entered_past (length ms) a k (p i) ∙ f i))
        where
          sum : (y : ℕ) → y + (size e + length ms) ≡ y + length ms + size e
          sum y = omega arith

      over : (i : ℕ) → entered (length ms) a k (lifted (length ms) p i) ≡ entered (length ms) a r i
      over i = ⊎_elim
          (λ b. ap (entered (length ms) a k) (lift_in (length ms) p i b) ∙ entered_in (length ms) a k i b ∙ sym (entered_in (length ms) a r i b))
          (λ b. ap (entered (length ms) a k) (lift_out (length ms) p i b) ∙ entered_past (length ms) a k (p (i - length ms)) ∙ f (i - length ms) ∙ sym (entered_out (length ms) a r i b))
          (cut i (length ms))

-- A list is a matching exactly where it fits, has each place once and as many as there are steps on the right.
pub matching_fits : (p : Renumbering) (e f : PlainExpression) (m : List ℕ)
    → IsMatching m (ren_expression p e) f ↔ (Fits (wide_steps f) (result_of f) (λ i. p i + size f) e m × Distinct m × (length m ≡ length (wide_steps f)))
matching_fits p e f m = (there, back)
  where
    k : size (ren_expression p e) ≡ size e
    k = size_ren p e

    steps : length (wide_steps (ren_expression p e)) ≡ length (wide_steps e)
    steps = wide_length_ren p e

    there : IsMatching m (ren_expression p e) f → Fits (wide_steps f) (result_of f) (λ i. p i + size f) e m × Distinct m × (length m ≡ length (wide_steps f))
    there (s, out, len, dis, pairs, tup) =
        let h = fits_from (wide_steps f) (result_of f) (wide_numbered f) s p (λ i. p i + size f) e m (λ i. ap (λ l. s (p i + l)) (sym k) ∙ out (p i)) pairs tup in
        (h, dis, sym (fits_length (wide_steps f) (result_of f) (wide_numbered f) (λ i. p i + size f) e m h) ∙ sym steps ∙ len)

    back : Fits (wide_steps f) (result_of f) (λ i. p i + size f) e m × Distinct m × (length m ≡ length (wide_steps f)) → IsMatching m (ren_expression p e) f
    back (h, dis, len) =
        let s = ending (wide_steps f) (result_of f) (wide_numbered f) (up (size f)) (λ i. p i + size f) e m h in
        let pairs = paired_back (wide_steps f) (result_of f) (wide_numbered f) s p (up (size f)) (λ i. p i + size f) e m (λ i. refl) h (λ i. refl) in (
          s,
          λ i. ap (λ l. s (i + l)) k ∙ ending_past (wide_steps f) (result_of f) (wide_numbered f) (up (size f)) (λ i. p i + size f) e m h i,
          steps ∙ fits_length (wide_steps f) (result_of f) (wide_numbered f) (λ i. p i + size f) e m h ∙ len,
          dis,
          pairs.0,
          pairs.1,
        )
