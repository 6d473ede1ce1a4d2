-- Where what is written need not fit, the function makes what the rules relate, and answers as where it has to fit.
use Rattle.std.specs.Prelude.{ℕ, zero, suc, ◌+◌, ◌==◌, if◌then◌else◌, Bool, true, false, List, [], ◌∷◌, length, refl}
use Rattle.std.proofs.Common.{ap, sym, subst}
use Rattle.clf_syntax.specs.declared.tree.Mode.{Mode}
use Rattle.clf_syntax.specs.Tree.{PlainObject, lam, pair, unit, monadic, atomic, hole, PlainNeutral, head_alone, app, fst, snd, PlainExpression, step, done, PlainTuple, empty, entry}
use Rattle.clf_syntax.specs.TypeTree.{PlainType, family, function, both, top, monad, PlainTelescope, end, binding, PlainKind}
use Rattle.clf_syntax.specs.Written.{fits, fits_head}
use Rattle.hered_subst.specs.Substitution.{Image, keep, put, Environment, under, single, objects, SubstitutedType, SubstitutedTelescope, SubstitutedKind}
use Rattle.hered_subst.specs.Laws.{inserted}
use Rattle.hered_subst.proofs.SimpleTyping.{rank, to_typed}
use Rattle.hered_put.specs.Tupled.{tupled}
use Rattle.clf_syntax.specs.Modes.{same_mode}
use Rattle.hered_put.specs.Function.{Answer, made, untyped, too_far, after, Outcome, kept, value, as_object, written, free, Again, Stepped, stays, gives, stepped, applied, argued, projected_first, projected_second, flattened, combined, run_by, run_neutral_by, run_expression_by, run_tuple_by, nested, nested_freely, run_each_by, run_type_by, run_telescope_by, run_kind_by}
use Rattle.hered_put.specs.Passes.{PassesType, PassesTelescope, PassesKind}
use Rattle.hered_put.specs.Laws.{Meets, FineUnless, Makes, AnswersAs, FreelyMakes, FreelyAnswersAs}
use Rattle.hered_put.proofs.Sound.{freely-sound, free-sound, run_type-meets, run_telescope-meets, run_kind-meets}
use Rattle.hered_put.proofs.Typed.{freely-fine, free-writes, type-fine, telescope-fine, kind-fine}
use Rattle.hered_put.proofs.Results.{ranked_single}

-- ---- something is made
makes : {X : Type 0} (a : Answer X) (P R : X → Type 0) (F : Type 0) → FineUnless ⊥ a P → Meets a R F → Makes a R
makes (made x) P R F p m = (x, refl, m)
makes untyped P R F p m = absurd p
makes too_far P R F p m = absurd p

pub freely_makes : FreelyMakes
freely_makes c z k n u p =
    let again = nested_freely (rank u) in
    let lower = freely-fine true (rank u) in
    let ranked = ranked_single z k n u (to_typed true z n u p) in (
      (λ a q. makes (run_type_by free again (single n k) a) (λ x. Unit {0}) (SubstitutedType (single n k) a) (PassesType (single n k) a)
          (type-fine ⊥ true (rank u) again lower free free-writes c (inserted k u z) z (single n k) ranked a q)
          (run_type-meets again (freely-sound (rank u)) free free-sound (single n k) a)),
      (λ t q. makes (run_telescope_by free again (single n k) t) (λ x. Unit {0}) (SubstitutedTelescope (single n k) t) (PassesTelescope (single n k) t)
          (telescope-fine ⊥ true (rank u) again lower free free-writes c (inserted k u z) z (single n k) ranked t q)
          (run_telescope-meets again (freely-sound (rank u)) free free-sound (single n k) t)),
      (λ l q. makes (run_kind_by free again (single n k) l) (λ x. Unit {0}) (SubstitutedKind (single n k) l) (PassesKind (single n k) l)
          (kind-fine ⊥ true (rank u) again lower free free-writes c (inserted k u z) z (single n k) ranked l q)
          (run_kind-meets again (freely-sound (rank u)) free free-sound (single n k) l)),
    )

-- ---- it answers as where numbers have to fit
itself-as : {X : Type 0} (a : Answer X) → AnswersAs a a
itself-as (made x) = refl
itself-as untyped = refl
itself-as too_far = tt

then-as : {X Y : Type 0} (a b : Answer X) (f g : X → Answer Y) → AnswersAs a b → ((x : X) → AnswersAs (f x) (g x)) → AnswersAs (after a f) (after b g)
then-as (made x) b f g e h = subst (λ c. AnswersAs (f x) (after c g)) (sym e) (h x)
then-as untyped b f g e h = ap (λ c. after c g) e
then-as too_far b f g e h = tt

-- the same is done with what is made
next-as : {X Y : Type 0} (a b : Answer X) (f : X → Answer Y) → AnswersAs a b → AnswersAs (after a f) (after b f)
next-as a b f e = then-as a b f f e (λ x. itself-as (f x))

written-as : (i : Image) → AnswersAs (written i) (free i)
written-as (keep h) = by (fits_head h)
  where
    by : (b : Bool) → AnswersAs (if b then made (kept (head_alone h)) else too_far) (made (kept (head_alone h)))
    by true = refl
    by false = tt
written-as (put n) = by (fits n)
  where
    by : (b : Bool) → AnswersAs (if b then made (value n) else too_far) (made (value n))
    by true = refl
    by false = tt

abbrev AgainAs : Again → Again → Type 0
AgainAs again freely = (s : Environment) → ((o : PlainObject) → AnswersAs (again.object s o) (freely.object s o)) × ((e : PlainExpression) → AnswersAs (again.expression s e) (freely.expression s e))

module _ (again freely : Again) (same : AgainAs again freely) where
  applied-as : (m : Mode) (v y : PlainObject) → AnswersAs (applied again m v y) (applied freely m v y)
  applied-as m (lam k b) y = by (same_mode m k)
    where
      by : (c : Bool) → AnswersAs (if c then again.object (single y 0) b else untyped) (if c then freely.object (single y 0) b else untyped)
      by true = (same (single y 0)).0 b
      by false = refl
  applied-as m (pair l r) y = refl
  applied-as m unit y = refl
  applied-as m (monadic e) y = refl
  applied-as m (atomic n) y = refl
  applied-as m hole y = refl

  argued-as : (m : Mode) (v : Outcome) (y : PlainObject) → AnswersAs (argued again m v y) (argued freely m v y)
  argued-as m (kept n) y = refl
  argued-as m (value o) y = next-as (applied again m o y) (applied freely m o y) (λ x. made (value x)) (applied-as m o y)

  first-as : (v : Outcome) → AnswersAs (projected_first again v) (projected_first freely v)
  first-as (kept n) = refl
  first-as (value (pair l r)) = refl
  first-as (value (lam m b)) = refl
  first-as (value unit) = refl
  first-as (value (monadic e)) = refl
  first-as (value (atomic n)) = refl
  first-as (value hole) = refl

  second-as : (v : Outcome) → AnswersAs (projected_second again v) (projected_second freely v)
  second-as (kept n) = refl
  second-as (value (pair l r)) = refl
  second-as (value (lam m b)) = refl
  second-as (value unit) = refl
  second-as (value (monadic e)) = refl
  second-as (value (atomic n)) = refl
  second-as (value hole) = refl

  flattened-as : (p n : ℕ) (g f : PlainExpression) → AnswersAs (flattened again p n g f) (flattened freely p n g f)
  flattened-as p n (step ms r g) f =
      next-as (flattened again (p + length ms) n g f) (flattened freely (p + length ms) n g f) (λ h. made (step ms r h)) (flattened-as (p + length ms) n g f)
  flattened-as p n (done t) f = by (length (objects t) == n)
    where
      by : (c : Bool) → AnswersAs (if c then again.expression (tupled (objects t) p) f else untyped) (if c then freely.expression (tupled (objects t) p) f else untyped)
      by true = (same (tupled (objects t) p)).1 f
      by false = refl

  combined-as : (ms : List Mode) (p : Stepped) (a b : Answer PlainExpression) → AnswersAs a b → AnswersAs (combined again ms p a) (combined freely ms p b)
  combined-as ms (stays n) a b e = next-as a b (λ f. made (step ms n f)) e
  combined-as ms (gives g) a b e = then-as a b (λ f. flattened again 0 (length ms) g f) (λ f. flattened freely 0 (length ms) g f) e (λ f. flattened-as 0 (length ms) g f)

  mutual
    run-as : (s : Environment) (o : PlainObject) → AnswersAs (run_by written again s o) (run_by free freely s o)
    run-as s (lam m b) = next-as (run_by written again (under 1 s) b) (run_by free freely (under 1 s) b) (λ x. made (lam m x)) (run-as (under 1 s) b)
    run-as s (pair l r) =
        then-as (run_by written again s l) (run_by free freely s l) (λ x. after (run_by written again s r) (λ y. made (pair x y))) (λ x. after (run_by free freely s r) (λ y. made (pair x y))) (run-as s l)
        (λ x. next-as (run_by written again s r) (run_by free freely s r) (λ y. made (pair x y)) (run-as s r))
    run-as s unit = refl
    run-as s (monadic e) = next-as (run_expression_by written again s e) (run_expression_by free freely s e) (λ f. made (monadic f)) (run_expression-as s e)
    run-as s (atomic n) = next-as (run_neutral_by written again s n) (run_neutral_by free freely s n) (λ v. made (as_object v)) (run_neutral-as s n)
    run-as s hole = refl

    run_neutral-as : (s : Environment) (n : PlainNeutral) → AnswersAs (run_neutral_by written again s n) (run_neutral_by free freely s n)
    run_neutral-as s (head_alone h) = written-as (s h)
    run_neutral-as s (app m r o) =
        then-as (run_neutral_by written again s r) (run_neutral_by free freely s r) (λ v. after (run_by written again s o) (λ y. argued again m v y)) (λ v. after (run_by free freely s o) (λ y. argued freely m v y))
        (run_neutral-as s r)
        (λ v. then-as (run_by written again s o) (run_by free freely s o) (λ y. argued again m v y) (λ y. argued freely m v y) (run-as s o) (λ y. argued-as m v y))
    run_neutral-as s (fst r) =
        then-as (run_neutral_by written again s r) (run_neutral_by free freely s r) (λ v. projected_first again v) (λ v. projected_first freely v) (run_neutral-as s r) (λ v. first-as v)
    run_neutral-as s (snd r) =
        then-as (run_neutral_by written again s r) (run_neutral_by free freely s r) (λ v. projected_second again v) (λ v. projected_second freely v) (run_neutral-as s r) (λ v. second-as v)

    run_expression-as : (s : Environment) (e : PlainExpression) → AnswersAs (run_expression_by written again s e) (run_expression_by free freely s e)
    run_expression-as s (step ms r e) =
        let a = run_expression_by written again (under (length ms) s) e in
        let b = run_expression_by free freely (under (length ms) s) e in
        then-as (run_neutral_by written again s r) (run_neutral_by free freely s r) (λ v. after (stepped v) (λ p. combined again ms p a)) (λ v. after (stepped v) (λ p. combined freely ms p b)) (run_neutral-as s r)
        (λ v. then-as (stepped v) (stepped v) (λ p. combined again ms p a) (λ p. combined freely ms p b) (itself-as (stepped v)) (λ p. combined-as ms p a b (run_expression-as (under (length ms) s) e)))
    run_expression-as s (done t) = next-as (run_tuple_by written again s t) (run_tuple_by free freely s t) (λ u. made (done u)) (run_tuple-as s t)

    run_tuple-as : (s : Environment) (t : PlainTuple) → AnswersAs (run_tuple_by written again s t) (run_tuple_by free freely s t)
    run_tuple-as s empty = refl
    run_tuple-as s (entry m o t) =
        then-as (run_by written again s o) (run_by free freely s o) (λ x. after (run_tuple_by written again s t) (λ u. made (entry m x u))) (λ x. after (run_tuple_by free freely s t) (λ u. made (entry m x u)))
        (run-as s o) (λ x. next-as (run_tuple_by written again s t) (run_tuple_by free freely s t) (λ u. made (entry m x u)) (run_tuple-as s t))

  run_each-as : (s : Environment) (ns : List PlainObject) → AnswersAs (run_each_by written again s ns) (run_each_by free freely s ns)
  run_each-as s [] = refl
  run_each-as s (n ∷ ns) =
      then-as (run_by written again s n) (run_by free freely s n) (λ x. after (run_each_by written again s ns) (λ xs. made (x ∷ xs))) (λ x. after (run_each_by free freely s ns) (λ xs. made (x ∷ xs))) (run-as s n)
      (λ x. next-as (run_each_by written again s ns) (run_each_by free freely s ns) (λ xs. made (x ∷ xs)) (run_each-as s ns))

  mutual
    run_type-as : (s : Environment) (a : PlainType) → AnswersAs (run_type_by written again s a) (run_type_by free freely s a)
    run_type-as s (family f ns) = next-as (run_each_by written again s ns) (run_each_by free freely s ns) (λ xs. made (family f xs)) (run_each-as s ns)
    run_type-as s (function m a b) =
        then-as (run_type_by written again s a) (run_type_by free freely s a) (λ x. after (run_type_by written again (under 1 s) b) (λ y. made (function m x y)))
        (λ x. after (run_type_by free freely (under 1 s) b) (λ y. made (function m x y))) (run_type-as s a)
        (λ x. next-as (run_type_by written again (under 1 s) b) (run_type_by free freely (under 1 s) b) (λ y. made (function m x y)) (run_type-as (under 1 s) b))
    run_type-as s (both a b) =
        then-as (run_type_by written again s a) (run_type_by free freely s a) (λ x. after (run_type_by written again s b) (λ y. made (both x y))) (λ x. after (run_type_by free freely s b) (λ y. made (both x y))) (run_type-as s a)
        (λ x. next-as (run_type_by written again s b) (run_type_by free freely s b) (λ y. made (both x y)) (run_type-as s b))
    run_type-as s top = refl
    run_type-as s (monad t) = next-as (run_telescope_by written again s t) (run_telescope_by free freely s t) (λ u. made (monad u)) (run_telescope-as s t)

    run_telescope-as : (s : Environment) (t : PlainTelescope) → AnswersAs (run_telescope_by written again s t) (run_telescope_by free freely s t)
    run_telescope-as s end = refl
    run_telescope-as s (binding m a t) =
        then-as (run_type_by written again s a) (run_type_by free freely s a) (λ x. after (run_telescope_by written again (under 1 s) t) (λ u. made (binding m x u)))
        (λ x. after (run_telescope_by free freely (under 1 s) t) (λ u. made (binding m x u))) (run_type-as s a)
        (λ x. next-as (run_telescope_by written again (under 1 s) t) (run_telescope_by free freely (under 1 s) t) (λ u. made (binding m x u)) (run_telescope-as (under 1 s) t))

  run_kind-as : (s : Environment) (k : PlainKind) → AnswersAs (run_kind_by written again s k) (run_kind_by free freely s k)
  run_kind-as s [] = refl
  run_kind-as s (a ∷ k) =
      then-as (run_type_by written again s a) (run_type_by free freely s a) (λ x. after (run_kind_by written again (under 1 s) k) (λ l. made (x ∷ l))) (λ x. after (run_kind_by free freely (under 1 s) k) (λ l. made (x ∷ l)))
      (run_type-as s a) (λ x. next-as (run_kind_by written again (under 1 s) k) (run_kind_by free freely (under 1 s) k) (λ l. made (x ∷ l)) (run_kind-as (under 1 s) k))

nested-as : (k : ℕ) → AgainAs (nested k) (nested_freely k)
unfolding nested nested_freely
nested-as zero = λ s. ((λ o. refl), (λ e. refl))
nested-as (suc k) = λ s. ((λ o. run-as (nested k) (nested_freely k) (nested-as k) s o), (λ e. run_expression-as (nested k) (nested_freely k) (nested-as k) s e))

pub freely_answers_as : FreelyAnswersAs
freely_answers_as k s = (
  (λ o. run-as (nested k) (nested_freely k) (nested-as k) s o),
  (λ e. run_expression-as (nested k) (nested_freely k) (nested-as k) s e),
  (λ ns. run_each-as (nested k) (nested_freely k) (nested-as k) s ns),
  (λ a. run_type-as (nested k) (nested_freely k) (nested-as k) s a),
  (λ t. run_telescope-as (nested k) (nested_freely k) (nested-as k) s t),
  (λ l. run_kind-as (nested k) (nested_freely k) (nested-as k) s l),
)
