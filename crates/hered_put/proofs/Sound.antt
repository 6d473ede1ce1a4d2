-- What the function makes is what the rules of substitution relate, and it goes too far only where a number passes.
use Rattle.std.specs.Prelude.{ℕ, zero, suc, ◌+◌, ◌==◌, ◌≡◌, if◌then◌else◌, Bool, true, false, List, [], ◌∷◌, length, refl}
use Rattle.std.proofs.Common.{ap, sym, subst, ◌∙◌, arith}
use Rattle.std.proofs.lemmas.Bool.{eqb-true}
use Rattle.clf_syntax.specs.declared.tree.Mode.{Mode}
use Rattle.clf_syntax.specs.declared.tree.Mode.TheVariants.{Persistent, Affine, Linear}
use Rattle.clf_syntax.specs.declared.tree.Head.{Head}
use Rattle.clf_syntax.specs.declared.tree.Head.TheVariants.{Const, Var, Meta}
use Rattle.clf_syntax.specs.Tree.{PlainObject, lam, pair, unit, monadic, atomic, hole, PlainNeutral, head_alone, app, fst, snd, PlainExpression, step, done, PlainTuple, empty, entry, head_of}
use Rattle.clf_syntax.specs.TypeTree.{PlainType, family, function, both, top, monad, PlainTelescope, end, binding, PlainKind}
use Rattle.clf_syntax.specs.Renaming.{lifted, up, ren_head, ren_expression}
use Rattle.clf_syntax.specs.Written.{fits, fits_head}
use Rattle.clf_syntax.proofs.RenamingLaws.{ext, composed_expression, identity_expression}
use Rattle.hered_subst.specs.Substitution.{Image, keep, put, Environment, under, single, among, putting, objects, Substituted, through_lam, through_pair, through_unit, through_hole, through_monadic, through_kept, through_value, KeepsHead, kept_bare, kept_app, kept_fst, kept_snd, HasValue, value_bare, value_app, value_fst, value_snd, SubstitutedExpression, through_done, step_kept, step_value, step_meta, Flattened, flat_step, flat_done, SubstitutedTuple, through_empty, through_entry, SubstitutedEach, each_none, each_next, SubstitutedType, in_family, in_function, in_both, in_top, in_monad, SubstitutedTelescope, in_end, in_binding, SubstitutedKind, in_no_argument, in_argument}
use Rattle.hered_subst.specs.TypedEnvironments.{is_metavariable}
use Rattle.hered_subst.specs.Laws.{Fits}
use Rattle.hered_subst.proofs.Renamed.{renamed_expression}
use Rattle.hered_subst.proofs.SimpleTyping.{image_idle}
use Rattle.hered_subst.proofs.Total.{meta_of}
use Rattle.hered_put.specs.Tupled.{among_raised, tupled}
use Rattle.clf_syntax.specs.Modes.{same_mode}
use Rattle.hered_put.specs.Function.{Answer, made, untyped, too_far, after, Outcome, kept, value, as_object, written, Again, stays_if, stepped, argued, projected_first, projected_second, flattened, combined, standing, free, run_by, run_neutral_by, run_expression_by, run_tuple_by, nested, nested_freely, run_each_by, run_type_by, run_telescope_by, run_kind_by}
use Rattle.hered_put.specs.Laws.{Meets}
use Rattle.hered_put.specs.Passes.{Passes, passes_body, passes_left, passes_right, passes_monadic, passes_atomic, PassesNeutral, passes_kept, passes_put, passes_function, passes_argument, passes_value, passes_fst, passes_snd, PassesExpression, passes_step, passes_rest, passes_flattened, passes_tuple, PassesFlattened, passes_behind, passes_there, PassesTuple, passes_entry, passes_later, PassesEach, passes_one, passes_others, PassesType, passes_indices, passes_domain, passes_codomain, passes_left_type, passes_right_type, passes_monad, PassesTelescope, passes_binding, passes_later_binding, PassesKind, passes_first_argument, passes_later_argument}

then-meets : {X Y : Type 0} (r : Answer X) (k : X → Answer Y) (P : X → Type 0) (F : Type 0) (Q : Y → Type 0) (G : Type 0)
    → Meets r P F → ((x : X) → P x → Meets (k x) Q G) → (F → G) → Meets (after r k) Q G
then-meets (made x) k P F Q G m h g = h x m
then-meets untyped k P F Q G m h g = tt
then-meets too_far k P F Q G m h g = g m

abbrev pub IsSound : Again → Type 0
IsSound again = (s : Environment) → ((o : PlainObject) → Meets (again.object s o) (Substituted s o) (Passes s o)) × ((e : PlainExpression) → Meets (again.expression s e) (SubstitutedExpression s e) (PassesExpression s e))

-- what a neutral became
abbrev pub Became : Environment → PlainNeutral → Outcome → Type 0
Became s r (kept x) = KeepsHead s r x
Became s r (value o) = HasValue s r o

kept-meets : (s : Environment) (h j : Head) (b : Bool) → s h ≡ keep j → fits_head j ≡ b → Meets (if b then made (kept (head_alone j)) else too_far) (Became s (head_alone h)) (PassesNeutral s (head_alone h))
kept-meets s h j true e f = kept_bare e
kept-meets s h j false e f = passes_kept e f

put-meets : (s : Environment) (h : Head) (n : PlainObject) (b : Bool) → s h ≡ put n → fits n ≡ b → Meets (if b then made (value n) else too_far) (Became s (head_alone h)) (PassesNeutral s (head_alone h))
put-meets s h n true e f = value_bare e
put-meets s h n false e f = passes_put e f

written-meets : (s : Environment) (h : Head) (i : Image) → s h ≡ i → Meets (written i) (Became s (head_alone h)) (PassesNeutral s (head_alone h))
written-meets s h (keep j) e = kept-meets s h j (fits_head j) e refl
written-meets s h (put n) e = put-meets s h n (fits n) e refl

-- a tuple for the newest variables, and the others past some binders, is the tuple after a renaming
raised_among : (p : ℕ) (ns : List PlainObject) (i : ℕ) → among ns (lifted (length ns) (up p) i) ≡ among_raised p ns i
raised_among p [] i = ap (λ j. keep (Var j)) (none i)
  where
    none : (i : ℕ) → lifted 0 (up p) i ≡ i + p
    none i = grind arith
raised_among p (n ∷ ns) zero = ap (among (n ∷ ns)) (here (length ns))
  where
    here : (k : ℕ) → lifted (suc k) (up p) 0 ≡ 0
    here k = grind arith
raised_among p (n ∷ ns) (suc i) = ap (among (n ∷ ns)) (there (length ns)) ∙ raised_among p ns i
  where
    there : (k : ℕ) → lifted (suc k) (up p) (suc i) ≡ suc (lifted k (up p) i)
    there k = grind arith

pub tupled-put : (p : ℕ) (ns : List PlainObject) (h : Head) → putting ns (ren_head (lifted (length ns) (up p)) h) ≡ tupled ns p h
tupled-put p ns (Const c) = refl
tupled-put p ns (Var i) = raised_among p ns i
tupled-put p ns (Meta m) = refl

tupled-fits : (p : ℕ) (ns : List PlainObject) → Fits (lifted (length ns) (up p)) (λ i. i) (tupled ns p) (putting ns)
tupled-fits p ns h = tupled-put p ns h ∙ sym (image_idle (tupled ns p h))

tupled-flat : (n p : ℕ) (t : PlainTuple) (f h : PlainExpression) → length (objects t) ≡ n → SubstitutedExpression (tupled (objects t) p) f h → Flattened n (done t) (ren_expression (lifted n (up p)) f) h
tupled-flat n p t f h e q = flat_done e (subst (λ m. SubstitutedExpression (putting (objects t)) (ren_expression (lifted m (up p)) f) h) e
    (subst (λ x. SubstitutedExpression (putting (objects t)) (ren_expression (lifted (length (objects t)) (up p)) f) x) (identity_expression h)
    (renamed_expression (lifted (length (objects t)) (up p)) (λ i. i) (putting (objects t)) (tupled-fits p (objects t)) q)))

past_more : (n p q : ℕ) (f : PlainExpression) → ren_expression (lifted n (up (p + q))) f ≡ ren_expression (lifted n (up q)) (ren_expression (lifted n (up p)) f)
past_more n p q f = ap (λ r. ren_expression r f) (ext (λ i. more i)) ∙ sym (composed_expression (lifted n (up q)) (lifted n (up p)) f)
  where
    more : (i : ℕ) → lifted n (up (p + q)) i ≡ lifted n (up q) (lifted n (up p) i)
    more i = grind arith

pub past_none : (n : ℕ) (f : PlainExpression) → ren_expression (lifted n (up 0)) f ≡ f
past_none n f = ap (λ r. ren_expression r f) (ext (λ i. none i)) ∙ identity_expression f
  where
    none : (i : ℕ) → lifted n (up 0) i ≡ i
    none i = grind arith

pub same-mode : (m k : Mode) → same_mode m k ≡ true → m ≡ k
same-mode Persistent Persistent e = refl
same-mode Persistent Affine e = absurd (cc)
same-mode Persistent Linear e = absurd (cc)
same-mode Affine Persistent e = absurd (cc)
same-mode Affine Affine e = refl
same-mode Affine Linear e = absurd (cc)
same-mode Linear Persistent e = absurd (cc)
same-mode Linear Affine e = absurd (cc)
same-mode Linear Linear e = refl

at_mode : (s : Environment) (r : PlainNeutral) (b : PlainObject) (m k : Mode) → same_mode m k ≡ true → HasValue s r (lam k b) → HasValue s r (lam m b)
at_mode s r b m k e p = subst (λ j. HasValue s r (lam j b)) (sym (same-mode m k e)) p

module _ (again : Again) (sound : IsSound again) where
  lambda-meets : (s : Environment) (m k : Mode) (r : PlainNeutral) (o y b : PlainObject) (yes : Bool) → same_mode m k ≡ yes → HasValue s r (lam k b) → Substituted s o y
      → Meets (after (if yes then again.object (single y 0) b else untyped) (λ x. made (value x))) (Became s (app m r o)) (PassesNeutral s (app m r o))
  lambda-meets s m k r o y b true e p q =
      then-meets (again.object (single y 0) b) (λ x. made (value x)) (Substituted (single y 0) b) (Passes (single y 0) b) (Became s (app m r o)) (PassesNeutral s (app m r o))
      ((sound (single y 0)).0 b) (λ x t. value_app (at_mode s r b m k e p) q t) (λ f. passes_value (at_mode s r b m k e p) q f)
  lambda-meets s m k r o y b false e p q = tt

  argued-meets : (s : Environment) (m : Mode) (r : PlainNeutral) (o y : PlainObject) (v : Outcome) → Became s r v → Substituted s o y → Meets (argued again m v y) (Became s (app m r o)) (PassesNeutral s (app m r o))
  argued-meets s m r o y (kept n) p q = kept_app p q
  argued-meets s m r o y (value (lam k b)) p q = lambda-meets s m k r o y b (same_mode m k) refl p q
  argued-meets s m r o y (value (pair a b)) p q = tt
  argued-meets s m r o y (value unit) p q = tt
  argued-meets s m r o y (value (monadic e)) p q = tt
  argued-meets s m r o y (value (atomic n)) p q = tt
  argued-meets s m r o y (value hole) p q = tt

  first-meets : (s : Environment) (r : PlainNeutral) (v : Outcome) → Became s r v → Meets (projected_first again v) (Became s (fst r)) (PassesNeutral s (fst r))
  first-meets s r (kept n) p = kept_fst p
  first-meets s r (value (pair a b)) p = value_fst p
  first-meets s r (value (lam k b)) p = tt
  first-meets s r (value unit) p = tt
  first-meets s r (value (monadic e)) p = tt
  first-meets s r (value (atomic n)) p = tt
  first-meets s r (value hole) p = tt

  second-meets : (s : Environment) (r : PlainNeutral) (v : Outcome) → Became s r v → Meets (projected_second again v) (Became s (snd r)) (PassesNeutral s (snd r))
  second-meets s r (kept n) p = kept_snd p
  second-meets s r (value (pair a b)) p = value_snd p
  second-meets s r (value (lam k b)) p = tt
  second-meets s r (value unit) p = tt
  second-meets s r (value (monadic e)) p = tt
  second-meets s r (value (atomic n)) p = tt
  second-meets s r (value hole) p = tt

  here-meets : (p n : ℕ) (t : PlainTuple) (f : PlainExpression) (b : Bool) → (length (objects t) == n) ≡ b
      → Meets (if b then again.expression (tupled (objects t) p) f else untyped) (Flattened n (done t) (ren_expression (lifted n (up p)) f)) (PassesFlattened p (done t) f)
  here-meets p n t f true e = weaker (again.expression (tupled (objects t) p) f) ((sound (tupled (objects t) p)).1 f)
    where
      weaker : (a : Answer PlainExpression) → Meets a (SubstitutedExpression (tupled (objects t) p) f) (PassesExpression (tupled (objects t) p) f) → Meets a (Flattened n (done t) (ren_expression (lifted n (up p)) f)) (PassesFlattened p (done t) f)
      weaker (made h) q = tupled-flat n p t f h (eqb-true (length (objects t)) n e) q
      weaker untyped q = tt
      weaker too_far q = passes_there q
  here-meets p n t f false e = tt

  pub flattened-meets : (p n : ℕ) (g f : PlainExpression) → Meets (flattened again p n g f) (Flattened n g (ren_expression (lifted n (up p)) f)) (PassesFlattened p g f)
  flattened-meets p n (step ms r g) f =
      then-meets (flattened again (p + length ms) n g f) (λ h. made (step ms r h)) (Flattened n g (ren_expression (lifted n (up (p + length ms))) f)) (PassesFlattened (p + length ms) g f)
      (Flattened n (step ms r g) (ren_expression (lifted n (up p)) f)) (PassesFlattened p (step ms r g) f)
      (flattened-meets (p + length ms) n g f) (λ h q. flat_step (subst (λ x. Flattened n g x h) (past_more n p (length ms) f) q)) (λ q. passes_behind q)
  flattened-meets p n (done t) f = here-meets p n t f (length (objects t) == n) refl

  -- what a step becomes
  module _ (s : Environment) (ms : List Mode) (r : PlainNeutral) (e : PlainExpression) (rest : Answer PlainExpression) (q : Meets rest (SubstitutedExpression (under (length ms) s) e) (PassesExpression (under (length ms) s) e)) where
    flat-meets : (g f : PlainExpression) → HasValue s r (monadic g) → SubstitutedExpression (under (length ms) s) e f → (a : Answer PlainExpression) → Meets a (Flattened (length ms) g (ren_expression (lifted (length ms) (up 0)) f)) (PassesFlattened 0 g f)
        → Meets a (SubstitutedExpression s (step ms r e)) (PassesExpression s (step ms r e))
    flat-meets g f p k (made h) m = step_value p k (subst (λ x. Flattened (length ms) g x h) (past_none (length ms) f) m)
    flat-meets g f p k untyped m = tt
    flat-meets g f p k too_far m = passes_flattened p k m

    stays-meets : (n : PlainNeutral) (b : Bool) → is_metavariable (head_of n) ≡ b → HasValue s r (atomic n) → Meets (after (stays_if b n) (λ p. combined again ms p rest)) (SubstitutedExpression s (step ms r e)) (PassesExpression s (step ms r e))
    stays-meets n true i p = then-meets rest (λ f. made (step ms n f)) (SubstitutedExpression (under (length ms) s) e) (PassesExpression (under (length ms) s) e) (SubstitutedExpression s (step ms r e)) (PassesExpression s (step ms r e))
        q (λ f k. step_meta p (meta_of (head_of n) i).1 k) (λ k. passes_rest k)
    stays-meets n false i p = tt

    stepped-meets : (v : Outcome) → Became s r v → Meets (after (stepped v) (λ p. combined again ms p rest)) (SubstitutedExpression s (step ms r e)) (PassesExpression s (step ms r e))
    stepped-meets (kept n) p = then-meets rest (λ f. made (step ms n f)) (SubstitutedExpression (under (length ms) s) e) (PassesExpression (under (length ms) s) e) (SubstitutedExpression s (step ms r e)) (PassesExpression s (step ms r e))
        q (λ f k. step_kept p k) (λ k. passes_rest k)
    stepped-meets (value (monadic g)) p = then-meets rest (λ f. flattened again 0 (length ms) g f) (SubstitutedExpression (under (length ms) s) e) (PassesExpression (under (length ms) s) e) (SubstitutedExpression s (step ms r e)) (PassesExpression s (step ms r e))
        q (λ f k. flat-meets g f p k (flattened again 0 (length ms) g f) (flattened-meets 0 (length ms) g f)) (λ k. passes_rest k)
    stepped-meets (value (atomic n)) p = stays-meets n (is_metavariable (head_of n)) refl p
    stepped-meets (value (lam k b)) p = tt
    stepped-meets (value (pair a b)) p = tt
    stepped-meets (value unit) p = tt
    stepped-meets (value hole) p = tt

  object-of : (s : Environment) (n : PlainNeutral) (v : Outcome) → Became s n v → Substituted s (atomic n) (as_object v)
  object-of s n (kept x) p = through_kept p
  object-of s n (value o) p = through_value p

  -- what stands for heads is written in such a way
  module _ (write : Image → Answer Outcome) (writes : (s : Environment) (h : Head) → Meets (write (s h)) (Became s (head_alone h)) (PassesNeutral s (head_alone h))) where
    mutual
      pub run-meets : (s : Environment) (o : PlainObject) → Meets (run_by write again s o) (Substituted s o) (Passes s o)
      run-meets s (lam m b) = then-meets (run_by write again (under 1 s) b) (λ x. made (lam m x)) (Substituted (under 1 s) b) (Passes (under 1 s) b) (Substituted s (lam m b)) (Passes s (lam m b))
          (run-meets (under 1 s) b) (λ x p. through_lam p) (λ p. passes_body p)
      run-meets s (pair l r) = then-meets (run_by write again s l) (λ x. after (run_by write again s r) (λ y. made (pair x y))) (Substituted s l) (Passes s l) (Substituted s (pair l r)) (Passes s (pair l r))
          (run-meets s l) (λ x p. then-meets (run_by write again s r) (λ y. made (pair x y)) (Substituted s r) (Passes s r) (Substituted s (pair l r)) (Passes s (pair l r)) (run-meets s r) (λ y q. through_pair p q) (λ q. passes_right q)) (λ p. passes_left p)
      run-meets s unit = through_unit
      run-meets s (monadic e) = then-meets (run_expression_by write again s e) (λ f. made (monadic f)) (SubstitutedExpression s e) (PassesExpression s e) (Substituted s (monadic e)) (Passes s (monadic e))
          (run_expression-meets s e) (λ x p. through_monadic p) (λ p. passes_monadic p)
      run-meets s (atomic n) = then-meets (run_neutral_by write again s n) (λ v. made (as_object v)) (Became s n) (PassesNeutral s n) (Substituted s (atomic n)) (Passes s (atomic n))
          (run_neutral-meets s n) (λ v p. object-of s n v p) (λ p. passes_atomic p)
      run-meets s hole = through_hole

      pub run_neutral-meets : (s : Environment) (n : PlainNeutral) → Meets (run_neutral_by write again s n) (Became s n) (PassesNeutral s n)
      run_neutral-meets s (head_alone h) = writes s h
      run_neutral-meets s (app m r o) = then-meets (run_neutral_by write again s r) (λ v. after (run_by write again s o) (λ y. argued again m v y)) (Became s r) (PassesNeutral s r) (Became s (app m r o)) (PassesNeutral s (app m r o))
          (run_neutral-meets s r)
          (λ v p. then-meets (run_by write again s o) (λ y. argued again m v y) (Substituted s o) (Passes s o) (Became s (app m r o)) (PassesNeutral s (app m r o)) (run-meets s o) (λ y q. argued-meets s m r o y v p q) (λ q. passes_argument q))
          (λ p. passes_function p)
      run_neutral-meets s (fst r) = then-meets (run_neutral_by write again s r) (λ v. projected_first again v) (Became s r) (PassesNeutral s r) (Became s (fst r)) (PassesNeutral s (fst r)) (run_neutral-meets s r) (λ v p. first-meets s r v p) (λ p. passes_fst p)
      run_neutral-meets s (snd r) = then-meets (run_neutral_by write again s r) (λ v. projected_second again v) (Became s r) (PassesNeutral s r) (Became s (snd r)) (PassesNeutral s (snd r)) (run_neutral-meets s r) (λ v p. second-meets s r v p) (λ p. passes_snd p)

      pub run_expression-meets : (s : Environment) (e : PlainExpression) → Meets (run_expression_by write again s e) (SubstitutedExpression s e) (PassesExpression s e)
      run_expression-meets s (step ms r e) = then-meets (run_neutral_by write again s r) (λ v. after (stepped v) (λ p. combined again ms p (run_expression_by write again (under (length ms) s) e))) (Became s r) (PassesNeutral s r) (SubstitutedExpression s (step ms r e)) (PassesExpression s (step ms r e))
          (run_neutral-meets s r) (λ v p. stepped-meets s ms r e (run_expression_by write again (under (length ms) s) e) (run_expression-meets (under (length ms) s) e) v p) (λ p. passes_step p)
      run_expression-meets s (done t) = then-meets (run_tuple_by write again s t) (λ u. made (done u)) (SubstitutedTuple s t) (PassesTuple s t) (SubstitutedExpression s (done t)) (PassesExpression s (done t)) (run_tuple-meets s t) (λ u p. through_done p) (λ p. passes_tuple p)

      run_tuple-meets : (s : Environment) (t : PlainTuple) → Meets (run_tuple_by write again s t) (SubstitutedTuple s t) (PassesTuple s t)
      run_tuple-meets s empty = through_empty
      run_tuple-meets s (entry m o t) = then-meets (run_by write again s o) (λ x. after (run_tuple_by write again s t) (λ u. made (entry m x u))) (Substituted s o) (Passes s o) (SubstitutedTuple s (entry m o t)) (PassesTuple s (entry m o t))
          (run-meets s o) (λ x p. then-meets (run_tuple_by write again s t) (λ u. made (entry m x u)) (SubstitutedTuple s t) (PassesTuple s t) (SubstitutedTuple s (entry m o t)) (PassesTuple s (entry m o t)) (run_tuple-meets s t) (λ u q. through_entry p q) (λ q. passes_later q)) (λ p. passes_entry p)

    -- ---- types

    pub run_each-meets : (s : Environment) (ns : List PlainObject) → Meets (run_each_by write again s ns) (SubstitutedEach s ns) (PassesEach s ns)
    run_each-meets s [] = each_none
    run_each-meets s (n ∷ ns) = then-meets (run_by write again s n) (λ x. after (run_each_by write again s ns) (λ xs. made (x ∷ xs))) (Substituted s n) (Passes s n) (SubstitutedEach s (n ∷ ns)) (PassesEach s (n ∷ ns))
        (run-meets s n) (λ x p. then-meets (run_each_by write again s ns) (λ xs. made (x ∷ xs)) (SubstitutedEach s ns) (PassesEach s ns) (SubstitutedEach s (n ∷ ns)) (PassesEach s (n ∷ ns)) (run_each-meets s ns) (λ xs q. each_next p q) (λ q. passes_others q)) (λ p. passes_one p)

    mutual
      pub run_type-meets : (s : Environment) (a : PlainType) → Meets (run_type_by write again s a) (SubstitutedType s a) (PassesType s a)
      run_type-meets s (family f ns) = then-meets (run_each_by write again s ns) (λ xs. made (family f xs)) (SubstitutedEach s ns) (PassesEach s ns) (SubstitutedType s (family f ns)) (PassesType s (family f ns)) (run_each-meets s ns) (λ xs p. in_family p) (λ p. passes_indices p)
      run_type-meets s (function m a b) = then-meets (run_type_by write again s a) (λ x. after (run_type_by write again (under 1 s) b) (λ y. made (function m x y))) (SubstitutedType s a) (PassesType s a) (SubstitutedType s (function m a b)) (PassesType s (function m a b))
          (run_type-meets s a) (λ x p. then-meets (run_type_by write again (under 1 s) b) (λ y. made (function m x y)) (SubstitutedType (under 1 s) b) (PassesType (under 1 s) b) (SubstitutedType s (function m a b)) (PassesType s (function m a b)) (run_type-meets (under 1 s) b) (λ y q. in_function p q) (λ q. passes_codomain q)) (λ p. passes_domain p)
      run_type-meets s (both a b) = then-meets (run_type_by write again s a) (λ x. after (run_type_by write again s b) (λ y. made (both x y))) (SubstitutedType s a) (PassesType s a) (SubstitutedType s (both a b)) (PassesType s (both a b))
          (run_type-meets s a) (λ x p. then-meets (run_type_by write again s b) (λ y. made (both x y)) (SubstitutedType s b) (PassesType s b) (SubstitutedType s (both a b)) (PassesType s (both a b)) (run_type-meets s b) (λ y q. in_both p q) (λ q. passes_right_type q)) (λ p. passes_left_type p)
      run_type-meets s top = in_top
      run_type-meets s (monad t) = then-meets (run_telescope_by write again s t) (λ u. made (monad u)) (SubstitutedTelescope s t) (PassesTelescope s t) (SubstitutedType s (monad t)) (PassesType s (monad t)) (run_telescope-meets s t) (λ u p. in_monad p) (λ p. passes_monad p)

      pub run_telescope-meets : (s : Environment) (t : PlainTelescope) → Meets (run_telescope_by write again s t) (SubstitutedTelescope s t) (PassesTelescope s t)
      run_telescope-meets s end = in_end
      run_telescope-meets s (binding m a t) = then-meets (run_type_by write again s a) (λ x. after (run_telescope_by write again (under 1 s) t) (λ u. made (binding m x u))) (SubstitutedType s a) (PassesType s a) (SubstitutedTelescope s (binding m a t)) (PassesTelescope s (binding m a t))
          (run_type-meets s a) (λ x p. then-meets (run_telescope_by write again (under 1 s) t) (λ u. made (binding m x u)) (SubstitutedTelescope (under 1 s) t) (PassesTelescope (under 1 s) t) (SubstitutedTelescope s (binding m a t)) (PassesTelescope s (binding m a t)) (run_telescope-meets (under 1 s) t) (λ u q. in_binding p q) (λ q. passes_later_binding q)) (λ p. passes_binding p)

    pub run_kind-meets : (s : Environment) (k : PlainKind) → Meets (run_kind_by write again s k) (SubstitutedKind s k) (PassesKind s k)
    run_kind-meets s [] = in_no_argument
    run_kind-meets s (a ∷ k) = then-meets (run_type_by write again s a) (λ x. after (run_kind_by write again (under 1 s) k) (λ l. made (x ∷ l))) (SubstitutedType s a) (PassesType s a) (SubstitutedKind s (a ∷ k)) (PassesKind s (a ∷ k))
        (run_type-meets s a) (λ x p. then-meets (run_kind_by write again (under 1 s) k) (λ l. made (x ∷ l)) (SubstitutedKind (under 1 s) k) (PassesKind (under 1 s) k) (SubstitutedKind s (a ∷ k)) (PassesKind s (a ∷ k)) (run_kind-meets (under 1 s) k) (λ l q. in_argument p q) (λ q. passes_later_argument q)) (λ p. passes_first_argument p)

pub written-sound : (s : Environment) (h : Head) → Meets (written (s h)) (Became s (head_alone h)) (PassesNeutral s (head_alone h))
written-sound s h = written-meets s h (s h) refl

pub free-sound : (s : Environment) (h : Head) → Meets (free (s h)) (Became s (head_alone h)) (PassesNeutral s (head_alone h))
free-sound s h = by (s h) refl
  where
    by : (i : Image) → s h ≡ i → Became s (head_alone h) (standing i)
    by (keep j) e = kept_bare e
    by (put n) e = value_bare e

pub nested-sound : (k : ℕ) → IsSound (nested k)
unfolding nested
nested-sound zero = λ s. ((λ o. tt), (λ e. tt))
nested-sound (suc k) = λ s. ((λ o. run-meets (nested k) (nested-sound k) written written-sound s o), (λ e. run_expression-meets (nested k) (nested-sound k) written written-sound s e))

pub freely-sound : (k : ℕ) → IsSound (nested_freely k)
unfolding nested_freely
freely-sound zero = λ s. ((λ o. tt), (λ e. tt))
freely-sound (suc k) = λ s. ((λ o. run-meets (nested_freely k) (freely-sound k) free free-sound s o), (λ e. run_expression-meets (nested_freely k) (freely-sound k) free free-sound s e))
