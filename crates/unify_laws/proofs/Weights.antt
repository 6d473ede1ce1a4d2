-- Each step makes the weight smaller.
use Rattle.store_laws.proofs.Numbers.{set_there, set_else}
use Rattle.std.specs.Prelude.{ℕ, false, zero, suc, ◌+◌, ◌≡◌, ◌<◌, ◌≤◌, ◌⊎◌, nat_eq, Option, Some, None, refl}
use Rattle.std.proofs.Common.{ap, sym, ◌∙◌, arith, ⊎_elim}
use Rattle.clf_syntax.specs.Tree.{PlainObject}
use Rattle.clf_syntax.specs.TypeTree.{SimpleType}
use Rattle.subst_laws.specs.Environments.{Instantiation}
use Rattle.store_laws.specs.Additions.{set}
use Rattle.pattern_laws.specs.Instantiations.{Types}
use Rattle.pattern_laws.specs.Patterns.{functions}
use Rattle.unify_laws.specs.Weight.{weight_of, weight}
use Rattle.unify_laws.specs.Laws.{AssignIsLighter, NarrowIsLighter}

other_number : (m n : ℕ) → m < n → nat_eq m n ≡ false
other_number m n h = grind arith

other_way : (m n : ℕ) → m < n → nat_eq n m ≡ false
other_way m n h = grind arith

weights : {x y : Option SimpleType} {o u : Option PlainObject} → x ≡ y → o ≡ u → weight_of x o ≡ weight_of y u
weights {x = x} {u = u} e f = ap (weight_of x) f ∙ ap (λ z. weight_of z u) e

-- numbers above are not looked at
unchanged : (metas : Types) (given : Instantiation) (m : ℕ) (s : PlainObject) (n : ℕ) → n ≤ m → weight metas (set m s given) n ≡ weight metas given n
unchanged metas given m s zero h = refl
unchanged metas given m s (suc n) h = sums (weights refl (set_else m n s given (other_number n m (omega arith)))) (unchanged metas given m s n (omega arith))
  where
    sums : {a b c d : ℕ} → a ≡ b → c ≡ d → a + c ≡ b + d
    sums e f = omega arith

unchanged_types : (metas : Types) (given : Instantiation) (k : ℕ) (a : SimpleType) (n : ℕ) → n ≤ k → weight (set k a metas) given n ≡ weight metas given n
unchanged_types metas given k a zero h = refl
unchanged_types metas given k a (suc n) h = sums (weights (set_else k n a metas (other_number n k (omega arith))) refl) (unchanged_types metas given k a n (omega arith))
  where
    sums : {a b c d : ℕ} → a ≡ b → c ≡ d → a + c ≡ b + d
    sums e f = omega arith

-- A solved metavariable takes away its weight.
pub weight_solved : (metas : Types) (given : Instantiation) (m : ℕ) (s : PlainObject) (a : SimpleType) → metas m ≡ Some a → given m ≡ None → (n : ℕ) → m < n → weight metas (set m s given) n + suc (functions a) ≡ weight metas given n
weight_solved metas given m s a e f zero h = absurd (omega arith)
weight_solved metas given m s a e f (suc n) h = ⊎_elim
    (λ i. here i) (λ c. ⊎_elim (λ i. past i (weight_solved metas given m s a e f n i)) (λ i. absurd (omega arith)) c) (cut m n)
  where
    cut : (i j : ℕ) → (i ≡ j) ⊎ ((i < j) ⊎ (j < i))
    cut i j = grind arith

    same : (i : m ≡ n) → weight_of (metas n) (set m s given n) ≡ 0
    same i = weights (sym (ap metas i) ∙ e) (sym (ap (set m s given) i) ∙ set_there m s given)

    full : (i : m ≡ n) → weight_of (metas n) (given n) ≡ suc (functions a)
    full i = weights (sym (ap metas i) ∙ e) (sym (ap given i) ∙ f)

    here : m ≡ n → weight metas (set m s given) (suc n) + suc (functions a) ≡ weight metas given (suc n)
    here i = let p = same i in let q = full i in let r = unchanged metas given m s n (omega arith) in omega (arith, p, q, r)

    past : m < n → weight metas (set m s given) n + suc (functions a) ≡ weight metas given n → weight metas (set m s given) (suc n) + suc (functions a) ≡ weight metas given (suc n)
    past i p = let q = weights {x = metas n} refl (set_else m n s given (other_way m n i)) in omega (arith, p, q)

-- The step that gives a solution makes the weight smaller.
pub weight_assign : AssignIsLighter
weight_assign metas given m s a n e f h = let p = weight_solved metas given m s a e f n h in omega (arith, p)

-- The step that takes arguments, at least one, makes the weight smaller.
pub weight_narrow : NarrowIsLighter
weight_narrow metas given k s a b n e f g h l = let p = weight_solved metas given k s a e f n h in
    let q = weights (set_there n b metas) (set_else k n s given (other_way k n h) ∙ g) in
    let r = unchanged_types metas (set k s given) n b n (omega arith) in omega (arith, p, q, r, l)
