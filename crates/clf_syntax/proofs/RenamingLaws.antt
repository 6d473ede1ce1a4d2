-- Laws of renaming.
use Rattle.std.specs.Prelude.{ℕ, ◌+◌, ◌-◌, ◌≡◌, ◌<◌, ◌≤◌, ◌⊎◌, List, length, refl}
use Rattle.std.proofs.Common.{ap, sym, ◌∙◌, subst, arith, ⊎_elim}
use Rattle.clf_syntax.specs.declared.tree.Mode.{Mode}
use Rattle.clf_syntax.specs.declared.tree.Head.TheVariants.{Const, Var, Meta}
use Rattle.clf_syntax.specs.Tree.{PlainObject, lam, pair, unit, monadic, atomic, hole, PlainNeutral, head_alone, app, fst, snd, PlainExpression, step, done, PlainTuple, empty, entry}
use Rattle.clf_syntax.specs.Renaming.{Renumbering, lifted, ren, ren_neutral, ren_expression, ren_tuple, up, down, crossed}

pub ext : {A B : Type 0} {f g : A → B} → ((x : A) → f x ≡ g x) → f ≡ g
ext h = λ i x. h x i

pub lift_id : (n : ℕ) → lifted n (λ i. i) ≡ (λ i. i)
lift_id n = ext (λ i. grind arith)

pub lift_comp : (n : ℕ) (r s : Renumbering) → (λ i. lifted n r (lifted n s i)) ≡ lifted n (λ i. r (s i))
lift_comp n r s = ext (λ i. grind arith)

pub pairs : {a b c d : PlainObject} → a ≡ b → c ≡ d → pair a c ≡ pair b d
pairs e f = cc

pub apps : (m : Mode) {a b : PlainNeutral} {c d : PlainObject} → a ≡ b → c ≡ d → app m a c ≡ app m b d
apps m e f = cc

pub binds : (ms : List Mode) {a b : PlainNeutral} {c d : PlainExpression} → a ≡ b → c ≡ d → step ms a c ≡ step ms b d
binds ms e f = cc

pub entries : (m : Mode) {a b : PlainObject} {c d : PlainTuple} → a ≡ b → c ≡ d → entry m a c ≡ entry m b d
entries m e f = cc

mutual
  pub composed : (r s : Renumbering) (o : PlainObject) → ren r (ren s o) ≡ ren (λ i. r (s i)) o
  composed r s (lam m b) = ap (lam m) (composed (lifted 1 r) (lifted 1 s) b ∙ ap (λ f. ren f b) (lift_comp 1 r s))
  composed r s (pair x y) = pairs (composed r s x) (composed r s y)
  composed r s unit = refl
  composed r s (monadic e) = ap monadic (composed_expression r s e)
  composed r s (atomic n) = ap atomic (composed_neutral r s n)
  composed r s hole = refl

  pub composed_neutral : (r s : Renumbering) (n : PlainNeutral) → ren_neutral r (ren_neutral s n) ≡ ren_neutral (λ i. r (s i)) n
  composed_neutral r s (head_alone (Const c)) = refl
  composed_neutral r s (head_alone (Var i)) = refl
  composed_neutral r s (head_alone (Meta m)) = refl
  composed_neutral r s (app m x o) = apps m (composed_neutral r s x) (composed r s o)
  composed_neutral r s (fst x) = ap fst (composed_neutral r s x)
  composed_neutral r s (snd x) = ap snd (composed_neutral r s x)

  pub composed_expression : (r s : Renumbering) (e : PlainExpression) → ren_expression r (ren_expression s e) ≡ ren_expression (λ i. r (s i)) e
  composed_expression r s (step ms x e) = binds ms (composed_neutral r s x) (composed_expression (lifted (length ms) r) (lifted (length ms) s) e ∙ ap (λ f. ren_expression f e) (lift_comp (length ms) r s))
  composed_expression r s (done t) = ap done (composed_tuple r s t)

  pub composed_tuple : (r s : Renumbering) (t : PlainTuple) → ren_tuple r (ren_tuple s t) ≡ ren_tuple (λ i. r (s i)) t
  composed_tuple r s empty = refl
  composed_tuple r s (entry m o t) = entries m (composed r s o) (composed_tuple r s t)

mutual
  pub identity : (o : PlainObject) → ren (λ i. i) o ≡ o
  identity (lam m b) = ap (lam m) (ap (λ f. ren f b) (lift_id 1) ∙ identity b)
  identity (pair x y) = pairs (identity x) (identity y)
  identity unit = refl
  identity (monadic e) = ap monadic (identity_expression e)
  identity (atomic n) = ap atomic (identity_neutral n)
  identity hole = refl

  pub identity_neutral : (n : PlainNeutral) → ren_neutral (λ i. i) n ≡ n
  identity_neutral (head_alone (Const c)) = refl
  identity_neutral (head_alone (Var i)) = refl
  identity_neutral (head_alone (Meta m)) = refl
  identity_neutral (app m x o) = apps m (identity_neutral x) (identity o)
  identity_neutral (fst x) = ap fst (identity_neutral x)
  identity_neutral (snd x) = ap snd (identity_neutral x)

  pub identity_expression : (e : PlainExpression) → ren_expression (λ i. i) e ≡ e
  identity_expression (step ms x e) = binds ms (identity_neutral x) (ap (λ f. ren_expression f e) (lift_id (length ms)) ∙ identity_expression e)
  identity_expression (done t) = ap done (identity_tuple t)

  pub identity_tuple : (t : PlainTuple) → ren_tuple (λ i. i) t ≡ t
  identity_tuple empty = refl
  identity_tuple (entry m o t) = entries m (identity o) (identity_tuple t)

-- two ways round a square of renamings
pub square_neutral : (r s t u : Renumbering) → ((i : ℕ) → r (s i) ≡ t (u i)) → (n : PlainNeutral) → ren_neutral r (ren_neutral s n) ≡ ren_neutral t (ren_neutral u n)
square_neutral r s t u h n = composed_neutral r s n ∙ ap (λ f. ren_neutral f n) (ext h) ∙ sym (composed_neutral t u n)

pub square_expression : (r s t u : Renumbering) → ((i : ℕ) → r (s i) ≡ t (u i)) → (e : PlainExpression) → ren_expression r (ren_expression s e) ≡ ren_expression t (ren_expression u e)
square_expression r s t u h e = composed_expression r s e ∙ ap (λ f. ren_expression f e) (ext h) ∙ sym (composed_expression t u e)

-- one renaming undoes another
pub undone_neutral : (r s : Renumbering) → ((i : ℕ) → r (s i) ≡ i) → (n : PlainNeutral) → ren_neutral r (ren_neutral s n) ≡ n
undone_neutral r s h n = composed_neutral r s n ∙ ap (λ f. ren_neutral f n) (ext h) ∙ identity_neutral n

pub undone_expression : (r s : Renumbering) → ((i : ℕ) → r (s i) ≡ i) → (e : PlainExpression) → ren_expression r (ren_expression s e) ≡ e
undone_expression r s h e = composed_expression r s e ∙ ap (λ f. ren_expression f e) (ext h) ∙ identity_expression e

pub lift_up : (n : ℕ) (r : Renumbering) (i : ℕ) → lifted n r (up n i) ≡ up n (r i)
lift_up n r i = grind arith

pub down_up : (n i : ℕ) → down n (up n i) ≡ i
down_up n i = omega arith

pub cut : (a b : ℕ) → (a < b) ⊎ (b ≤ a)
cut a b = grind arith

cut3 : (p q i : ℕ) → (i < q) ⊎ ((q ≤ i) × (i < q + p)) ⊎ (q + p ≤ i)
cut3 p q i = grind arith

pub lift_in : (n : ℕ) (r : Renumbering) (i : ℕ) → i < n → lifted n r i ≡ i
lift_in n r i h = grind arith

pub lift_out : (n : ℕ) (r : Renumbering) (i : ℕ) → n ≤ i → lifted n r i ≡ r (i - n) + n
lift_out n r i h = grind arith

pub cross_new : (p q i : ℕ) → i < q → crossed p q i ≡ i + p
cross_new p q i h = grind arith

pub cross_old : (p q i : ℕ) → q ≤ i → i < q + p → crossed p q i ≡ i - q
cross_old p q i h k = grind arith

pub cross_out : (p q i : ℕ) → q + p ≤ i → crossed p q i ≡ i
cross_out p q i h = grind arith

lift_cross1 : (p q : ℕ) (r : Renumbering) (i : ℕ) → i < q → lifted p (lifted q r) (crossed p q i) ≡ crossed p q (lifted q (lifted p r) i)
lift_cross1 p q r i h = grind arith

lift_cross2 : (p q : ℕ) (r : Renumbering) (i : ℕ) → q ≤ i → i < q + p → lifted p (lifted q r) (crossed p q i) ≡ crossed p q (lifted q (lifted p r) i)
lift_cross2 p q r i h k = grind arith

lift_cross3 : (p q : ℕ) (r : Renumbering) (i : ℕ) → q + p ≤ i → lifted p (lifted q r) (crossed p q i) ≡ crossed p q (lifted q (lifted p r) i)
lift_cross3 p q r i h = rw (cross_out p q i h) (grind arith)

pub lift_cross : (p q : ℕ) (r : Renumbering) (i : ℕ) → lifted p (lifted q r) (crossed p q i) ≡ crossed p q (lifted q (lifted p r) i)
lift_cross p q r i = ⊎_elim (lift_cross1 p q r i) (λ h. ⊎_elim (λ k. lift_cross2 p q r i k.0 k.1) (lift_cross3 p q r i) h) (cut3 p q i)

pub cross_cross : (p q i : ℕ) → crossed q p (crossed p q i) ≡ i
cross_cross p q i = grind arith

pub cross_up : (p q i : ℕ) → crossed p q (up q (up p i)) ≡ up p (up q i)
cross_up p q i = grind arith

walk : (h g f : Renumbering) (i x y z : ℕ) → f i ≡ x → g x ≡ y → h y ≡ z → h (g (f i)) ≡ z
walk h g f i x y z p q r = ap h (ap g p) ∙ ap h q ∙ r

-- what each renaming gives, with numbers that omega compares
lift_gives : (n : ℕ) (r : Renumbering) (i j k v : ℕ) → r j ≡ k → i ≡ j + n → v ≡ k + n → lifted n r i ≡ v
lift_gives n r i j k v p e f = ap (lifted n r) e ∙ lift_up n r j ∙ ap (up n) p ∙ sym f

old_gives : (p q : ℕ) {i v : ℕ} → i < q + p → i ≡ v + q → crossed p q i ≡ v
old_gives p q {i} {v} h e = cross_old p q i (omega arith) h ∙ omega arith

braid1 : (a b c i : ℕ) → i < a → lifted b (crossed c a) (crossed b a (lifted a (crossed b c) i)) ≡ crossed b c (lifted c (crossed b a) (crossed c a i))
braid1 a b c i h = walk (lifted b (crossed c a)) (crossed b a) (lifted a (crossed b c)) i i (i + b) (i + b + c)
    (lift_in a (crossed b c) i h) (cross_new b a i h) (lift_gives b (crossed c a) _ _ _ _ (cross_new c a i h) refl (omega arith))
    ∙ sym (walk (crossed b c) (lifted c (crossed b a)) (crossed c a) i (i + c) (i + b + c) (i + b + c)
    (cross_new c a i h) (lift_gives c (crossed b a) _ _ _ _ (cross_new b a i h) refl refl) (cross_out b c (i + b + c) (omega arith)))

braid2 : (a b c j : ℕ) → j < c → lifted b (crossed c a) (crossed b a (lifted a (crossed b c) (j + a))) ≡ crossed b c (lifted c (crossed b a) (crossed c a (j + a)))
braid2 a b c j h = walk (lifted b (crossed c a)) (crossed b a) (lifted a (crossed b c)) (j + a) (j + b + a) (j + b + a) (j + b)
    (lift_gives a (crossed b c) _ _ _ _ (cross_new b c j h) refl refl) (cross_out b a (j + b + a) (omega arith)) (lift_gives b (crossed c a) (j + b + a) (j + a) j (j + b) (old_gives c a (omega arith) refl) (omega arith) refl)
    ∙ sym (walk (crossed b c) (lifted c (crossed b a)) (crossed c a) (j + a) j j (j + b)
    (old_gives c a (omega arith) refl) (lift_in c (crossed b a) j h) (cross_new b c j h))

braid3 : (a b c k : ℕ) → k < b → lifted b (crossed c a) (crossed b a (lifted a (crossed b c) (k + c + a))) ≡ crossed b c (lifted c (crossed b a) (crossed c a (k + c + a)))
braid3 a b c k h = walk (lifted b (crossed c a)) (crossed b a) (lifted a (crossed b c)) (k + c + a) (k + a) k k
    (lift_gives a (crossed b c) (k + c + a) (k + c) k (k + a) (old_gives b c (omega arith) refl) refl refl) (old_gives b a (omega arith) refl) (lift_in b (crossed c a) k h)
    ∙ sym (walk (crossed b c) (lifted c (crossed b a)) (crossed c a) (k + c + a) (k + c + a) (k + c) k
    (cross_out c a (k + c + a) (omega arith)) (lift_gives c (crossed b a) (k + c + a) (k + a) k (k + c) (old_gives b a (omega arith) refl) (omega arith) refl) (old_gives b c (omega arith) refl))

braid4 : (a b c m : ℕ) → lifted b (crossed c a) (crossed b a (lifted a (crossed b c) (m + b + c + a))) ≡ crossed b c (lifted c (crossed b a) (crossed c a (m + b + c + a)))
braid4 a b c m = walk (lifted b (crossed c a)) (crossed b a) (lifted a (crossed b c)) (m + b + c + a) (m + b + c + a) (m + b + c + a) (m + b + c + a)
    (lift_gives a (crossed b c) _ _ _ _ (cross_out b c (m + b + c) (omega arith)) refl refl) (cross_out b a (m + b + c + a) (omega arith)) (lift_gives b (crossed c a) (m + b + c + a) (m + c + a) (m + c + a) (m + b + c + a) (cross_out c a (m + c + a) (omega arith)) (omega arith) (omega arith))
    ∙ sym (walk (crossed b c) (lifted c (crossed b a)) (crossed c a) (m + b + c + a) (m + b + c + a) (m + b + c + a) (m + b + c + a)
    (cross_out c a (m + b + c + a) (omega arith)) (lift_gives c (crossed b a) (m + b + c + a) (m + b + a) (m + b + a) (m + b + c + a) (cross_out b a (m + b + a) (omega arith)) (omega arith) (omega arith)) (cross_out b c (m + b + c + a) (omega arith)))

abbrev Braided : ℕ → ℕ → ℕ → ℕ → Type 0
Braided a b c i = lifted b (crossed c a) (crossed b a (lifted a (crossed b c) i)) ≡ crossed b c (lifted c (crossed b a) (crossed c a i))

pub braid : (a b c i : ℕ) → Braided a b c i
braid a b c i = ⊎_elim (braid1 a b c i) (λ h. ⊎_elim
    (λ k. subst (Braided a b c) (back2 k) (braid2 a b c (i - a) (omega arith)))
    (λ k. ⊎_elim (λ l. subst (Braided a b c) (back3 k) (braid3 a b c (i - a - c) (omega arith)))
    (λ l. subst (Braided a b c) (back4 k l) (braid4 a b c (i - a - c - b))) (cut (i - a - c) b))
    h) (cut3 c a i)
  where
    back2 : (a ≤ i) × (i < a + c) → i - a + a ≡ i
    back2 k = omega arith

    back3 : a + c ≤ i → i - a - c + c + a ≡ i
    back3 k = omega arith

    back4 : a + c ≤ i → b ≤ i - a - c → i - a - c - b + b + c + a ≡ i
    back4 k l = omega arith
