-- Linear and affine variables are used at most once, and linear ones occur where no <> stands.
use Rattle.std.specs.Prelude.{ℕ, zero, suc, ◌+◌, ◌≡◌, ◌≤◌, nat_le, nat_eq, Bool, true, false, ◌&&◌, ◌||◌, if◌then◌else◌, List, [], ◌∷◌, None, Some, refl, length}
use Rattle.std.specs.List.{slice_get}
use Rattle.std.proofs.Common.{ap, sym, subst, ◌∙◌, arith, add-one}
use Rattle.clf_syntax.specs.declared.tree.Mode.{Mode}
use Rattle.clf_syntax.specs.declared.tree.Mode.TheVariants.{Persistent, Affine, Linear}
use Rattle.clf_syntax.specs.declared.tree.Head.{Head}
use Rattle.clf_syntax.specs.declared.tree.Head.TheVariants.{Const, Var, Meta}
use Rattle.clf_syntax.specs.Tree.{PlainObject, lam, pair, unit, monadic, atomic, hole, PlainNeutral, head_alone, app, fst, snd, PlainExpression, step, done, PlainTuple, empty, entry}
use Rattle.clf_syntax.specs.TypeTree.{PlainType, family, function, both, monad, PlainTelescope, end, binding}
use Rattle.clf_syntax.specs.Renaming.{ren_telescope, up}
use Rattle.clf_syntax.specs.Occurs.{is_variable, occurs, occurs_neutral, occurs_expression, occurs_tuple}
use Rattle.use_contexts.specs.Context.{Context, modes, telescope_modes, with_entries}
use Rattle.use_contexts.specs.Holding.{Holding, SplitEntry, Split, all_held, is_persistent, is_weak, without}
use Rattle.clf_sig.specs.Entry.{PlainSignature}
use Rattle.clf_rules.specs.Typing.{HeadHasType, HasType, Synthesizes, ExpressionHasType, TupleHasType}
use Rattle.typing_laws.specs.Uses.{one_if, uses, uses_neutral, uses_expression, uses_tuple, without_units, neutral_without_units, expression_without_units, tuple_without_units, UsedAtMostOnce, LinearOccurs}

tf : true ≡ false → ⊥
tf e = cc

the_value : {a b : Bool} → Some a ≡ Some b → a ≡ b
the_value e = cc

the_mode : {m k : Mode} → Some m ≡ Some k → m ≡ k
the_mode e = cc

no_mode : {m : Mode} → None ≡ Some m → ⊥
no_mode e = cc

-- the shares of an entry that is not persistent
shares : (m : Mode) (x a b : Bool) → is_persistent m ≡ false → SplitEntry m x a b → (x ≡ a || b) × (a && b ≡ false)
shares Persistent x a b e s = absurd (tf e)
shares Affine x a b e s = s
shares Linear x a b e s = s

split_at : (ms : List Mode) (h a b : Holding) (i : ℕ) (m : Mode) (x : Bool) → Split ms h a b → slice_get ms i ≡ Some m → is_persistent m ≡ false → slice_get h i ≡ Some x
    → (y z : Bool) × (slice_get a i ≡ Some y) × (slice_get b i ≡ Some z) × (x ≡ y || z) × (y && z ≡ false)
split_at (k ∷ ms) (x ∷ h) (y ∷ a) (z ∷ b) zero m w s e f g =
    let (u, v) = shares k x y z (subst (λ j. is_persistent j ≡ false) (sym (the_mode e)) f) s.0 in (y, z, refl, refl, sym (the_value g) ∙ u, v)
split_at (k ∷ ms) (x ∷ h) (y ∷ a) (z ∷ b) (suc i) m w s e f g = split_at ms h a b i m w s.1 e f g
split_at [] [] [] [] i m x s e f g = absurd (no_mode e)
split_at _ _ _ _ i m x s e f g = absurd s

-- ---- at most once
both_shares : (p q : ℕ) (x y z : Bool) → x ≡ y || z → y && z ≡ false → p ≤ one_if y → q ≤ one_if z → p + q ≤ one_if x
both_shares p q x true true e f g h = absurd (tf f)
both_shares p q x true false e f g h = subst (λ b. p + q ≤ one_if b) (sym e) (sum p q g h)
  where
    sum : (p q : ℕ) → p ≤ 1 → q ≤ 0 → p + q ≤ 1
    sum p q g h = omega arith
both_shares p q x false true e f g h = subst (λ b. p + q ≤ one_if b) (sym e) (sum p q g h)
  where
    sum : (p q : ℕ) → p ≤ 0 → q ≤ 1 → p + q ≤ 1
    sum p q g h = omega arith
both_shares p q x false false e f g h = subst (λ b. p + q ≤ one_if b) (sym e) (sum p q g h)
  where
    sum : (p q : ℕ) → p ≤ 0 → q ≤ 0 → p + q ≤ 0
    sum p q g h = omega arith

pick : (b : Bool) (m n k : ℕ) → m ≤ k → n ≤ k → (if b then n else m) ≤ k
pick true m n k e f = f
pick false m n k e f = e

no_use : (k : ℕ) → 0 ≤ k
no_use k = omega arith

pub entered : (m : Mode) (ms : List Mode) (i : ℕ) (k : Mode) → slice_get ms i ≡ Some k → slice_get (m ∷ ms) (i + 1) ≡ Some k
entered m ms i k e = ap (slice_get (m ∷ ms)) (add-one i) ∙ e

held_in : (h : Holding) (i : ℕ) (b : Bool) → slice_get h i ≡ Some b → slice_get (true ∷ h) (i + 1) ≡ Some b
held_in h i b e = ap (slice_get (true ∷ h)) (add-one i) ∙ e

next_place : (i n : ℕ) → (i + 1) + n ≡ i + suc n
next_place i n = omega arith

here_place : (i : ℕ) → i ≡ i + 0
here_place i = omega arith

pub modes_behind : (u : PlainTelescope) (g : Context) (i : ℕ) (k : Mode) → slice_get (modes g) i ≡ Some k → slice_get (modes (with_entries u g)) (i + length (telescope_modes u)) ≡ Some k
modes_behind end g i k e = ap (slice_get (modes g)) (sym (here_place i)) ∙ e
modes_behind (binding m a s) g i k e = subst (λ j. slice_get (modes (with_entries s ((m, a) ∷ g))) j ≡ Some k) (next_place i (length (telescope_modes s))) (modes_behind s ((m, a) ∷ g) (i + 1) k (entered m (modes g) i k e))

held_behind : (ms : List Mode) (h : Holding) (i : ℕ) (b : Bool) → slice_get h i ≡ Some b → slice_get (all_held ms h) (i + length ms) ≡ Some b
held_behind [] h i b e = ap (slice_get h) (sym (here_place i)) ∙ e
held_behind (m ∷ ms) h i b e = subst (λ j. slice_get (all_held ms (true ∷ h)) j ≡ Some b) (next_place i (length ms)) (held_behind ms (true ∷ h) (i + 1) b (held_in h i b e))

same_number : (v i : ℕ) → nat_eq v i ≡ true → v ≡ i
same_number v i e = grind arith

variable_once : (x b : Bool) → (x ≡ true → b ≡ true) → one_if x ≤ one_if b
variable_once true b f = subst (λ c. 1 ≤ one_if c) (sym (f refl)) (omega arith)
variable_once false b f = no_use (one_if b)

head_once : (sig : PlainSignature) (g : Context) (h : Holding) (x : Head) (a : PlainType) → HeadHasType sig g h x a → (i : ℕ) (b : Bool) → slice_get h i ≡ Some b → one_if (is_variable i x) ≤ one_if b
head_once sig g h (Const c) a p i b e = no_use (one_if b)
head_once sig g h (Var v) a p i b e = variable_once (nat_eq v i) b (λ k. the_value (sym e ∙ ap (slice_get h) (sym (same_number v i k)) ∙ p.0.0))
head_once sig g h (Meta k) a p i b e = absurd p

mutual
  once : (sig : PlainSignature) (g : Context) (h : Holding) (n : PlainObject) (a : PlainType) → HasType sig g h n a
      → (i : ℕ) (m : Mode) (b : Bool) → slice_get (modes g) i ≡ Some m → is_persistent m ≡ false → slice_get h i ≡ Some b → uses i n ≤ one_if b
  once sig g h (lam m b) a p i k x e f q = once sig ((m, p.domain) ∷ g) (true ∷ h) b p.range p.body (i + 1) k x (entered m (modes g) i k e) f (held_in h i x q)
  once sig g h (pair l r) a p i k x e f q = pick (nat_le (uses i l) (uses i r)) (uses i l) (uses i r) (one_if x) (once sig g h l p.left_type p.left i k x e f q) (once sig g h r p.right_type p.right i k x e f q)
  once sig g h unit a p i k x e f q = no_use (one_if x)
  once sig g h (monadic y) a p i k x e f q = let (s, t, u) = p in once_expression sig g h y s u i k x e f q
  once sig g h (atomic n) a p i k x e f q = once_neutral sig g h n (family p.number p.found) p.neutral i k x e f q
  once sig g h hole a p i k x e f q = no_use (one_if x)

  once_neutral : (sig : PlainSignature) (g : Context) (h : Holding) (n : PlainNeutral) (a : PlainType) → Synthesizes sig g h n a
      → (i : ℕ) (m : Mode) (b : Bool) → slice_get (modes g) i ≡ Some m → is_persistent m ≡ false → slice_get h i ≡ Some b → uses_neutral i n ≤ one_if b
  once_neutral sig g h (head_alone y) a p i k x e f q = head_once sig g h y a p i x q
  once_neutral sig g h (app m r n) a p i k x e f q = let (y1, y2, q1, q2, j, l) = split_at (modes g) h p.for_function p.for_argument i k x p.split e f q in
      both_shares (uses_neutral i r) (uses i n) x y1 y2 j l (once_neutral sig g p.for_function r (function m p.domain p.range) p.applied i k y1 e f q1) (once sig g p.for_argument n p.domain p.argument i k y2 e f q2)
  once_neutral sig g h (fst r) a p i k x e f q = once_neutral sig g h r (both a p.0) p.1 i k x e f q
  once_neutral sig g h (snd r) a p i k x e f q = once_neutral sig g h r (both p.0 a) p.1 i k x e f q

  once_expression : (sig : PlainSignature) (g : Context) (h : Holding) (y : PlainExpression) (s : PlainTelescope) → ExpressionHasType sig g h y s
      → (i : ℕ) (m : Mode) (b : Bool) → slice_get (modes g) i ≡ Some m → is_persistent m ≡ false → slice_get h i ≡ Some b → uses_expression i y ≤ one_if b
  once_expression sig g h (step ms r y) s p i k x e f q = let (y1, y2, q1, q2, j, l) = split_at (modes g) h p.for_right p.for_rest i k x p.split e f q in
      both_shares (uses_neutral i r) (uses_expression (i + length ms) y) x y1 y2 j l (once_neutral sig g p.for_right r (monad p.entries) p.right i k y1 e f q1)
      (once_expression sig (with_entries p.entries g) (all_held ms p.for_rest) y (ren_telescope (up (length ms)) s) p.rest (i + length ms) k y2
      (subst (λ ns. slice_get (modes (with_entries p.entries g)) (i + length ns) ≡ Some k) p.pattern (modes_behind p.entries g i k e)) f (held_behind ms p.for_rest i y2 q2))
  once_expression sig g h (done t) s p i k x e f q = once_tuple sig g h t s p i k x e f q

  once_tuple : (sig : PlainSignature) (g : Context) (h : Holding) (t : PlainTuple) (s : PlainTelescope) → TupleHasType sig g h t s
      → (i : ℕ) (m : Mode) (b : Bool) → slice_get (modes g) i ≡ Some m → is_persistent m ≡ false → slice_get h i ≡ Some b → uses_tuple i t ≤ one_if b
  once_tuple sig g h empty s p i k x e f q = no_use (one_if x)
  once_tuple sig g h (entry m n t) s p i k x e f q = let (y1, y2, q1, q2, j, l) = split_at (modes g) h p.for_first p.for_later i k x p.split e f q in
      both_shares (uses i n) (uses_tuple i t) x y1 y2 j l (once sig g p.for_first n p.first_type p.first i k y1 e f q1) (once_tuple sig g p.for_later t p.after_put p.later i k y2 e f q2)

pub used_at_most_once : UsedAtMostOnce
used_at_most_once = once

-- ---- at least once
or_left : (a b : Bool) → a ≡ true → a || b ≡ true
or_left true b e = refl
or_left false b e = cc

or_right : (a b : Bool) → b ≡ true → a || b ≡ true
or_right true b e = refl
or_right false b e = e

and_left : (a b : Bool) → a && b ≡ true → a ≡ true
and_left true b e = refl
and_left false b e = e

and_right : (a b : Bool) → a && b ≡ true → b ≡ true
and_right true b e = e
and_right false b e = cc

-- where nothing linear is held, this is not
weak_at : (ms : List Mode) (h : Holding) (i : ℕ) → is_weak ms h ≡ true → slice_get ms i ≡ Some Linear → slice_get h i ≡ Some true → ⊥
weak_at [] h i w e q = no_mode e
weak_at (m ∷ ms) [] i w e q = none q
  where
    none : None ≡ Some true → ⊥
    none q = cc
weak_at (Linear ∷ ms) (true ∷ h) zero w e q = tf (sym w)
weak_at (Linear ∷ ms) (false ∷ h) zero w e q = tf (sym (the_value q))
weak_at (Persistent ∷ ms) (x ∷ h) zero w e q = other (the_mode e)
  where
    other : Persistent ≡ Linear → ⊥
    other e = cc
weak_at (Affine ∷ ms) (x ∷ h) zero w e q = other (the_mode e)
  where
    other : Affine ≡ Linear → ⊥
    other e = cc
weak_at (m ∷ ms) (x ∷ h) (suc i) w e q = weak_at ms h i (and_right _ (is_weak ms h) w) e q

other_held : (h : Holding) (v i : ℕ) → nat_eq v i ≡ false → slice_get h i ≡ Some true → slice_get (without v h) i ≡ Some true
other_held [] v i n q = q
other_held (x ∷ h) zero zero n q = absurd (tf (sym (same_zero) ∙ n))
  where
    same_zero : nat_eq 0 0 ≡ true
    same_zero = refl
other_held (x ∷ h) zero (suc i) n q = q
other_held (x ∷ h) (suc v) zero n q = q
other_held (x ∷ h) (suc v) (suc i) n q = other_held h v i (older v i n) q
  where
    older : (v i : ℕ) → nat_eq (suc v) (suc i) ≡ false → nat_eq v i ≡ false
    older v i n = grind arith

or_else : (b : Bool) → (b ≡ false → ⊥) → b ≡ true
or_else true f = refl
or_else false f = absurd (f refl)

-- a tree that a linear variable goes into: it goes to one side
sides : (y z a b : Bool) → true ≡ y || z → (y ≡ true → a ≡ true) → (z ≡ true → b ≡ true) → a || b ≡ true
sides true z a b e f g = or_left a b (f refl)
sides false true a b e f g = or_right a b (g refl)
sides false false a b e f g = absurd (tf e)

head_occurs : (sig : PlainSignature) (g : Context) (h : Holding) (x : Head) (a : PlainType) → HeadHasType sig g h x a → (i : ℕ) → slice_get (modes g) i ≡ Some Linear → slice_get h i ≡ Some true → is_variable i x ≡ true
head_occurs sig g h (Const c) a p i e q = absurd (weak_at (modes g) h i p.1 e q)
head_occurs sig g h (Var v) a p i e q = or_else (nat_eq v i) (λ n. weak_at (modes g) (without v h) i p.0.1 e (other_held h v i n q))
head_occurs sig g h (Meta k) a p i e q = absurd p

mutual
  found : (sig : PlainSignature) (g : Context) (h : Holding) (n : PlainObject) (a : PlainType) → HasType sig g h n a → without_units n ≡ true
      → (i : ℕ) → slice_get (modes g) i ≡ Some Linear → slice_get h i ≡ Some true → occurs i n ≡ true
  found sig g h (lam m b) a p o i e q = found sig ((m, p.domain) ∷ g) (true ∷ h) b p.range p.body o (i + 1) (entered m (modes g) i Linear e) (held_in h i true q)
  found sig g h (pair l r) a p o i e q = or_left (occurs i l) (occurs i r) (found sig g h l p.left_type p.left (and_left (without_units l) (without_units r) o) i e q)
  found sig g h unit a p o i e q = absurd (tf (sym o))
  found sig g h (monadic y) a p o i e q = let (s, t, u) = p in found_expression sig g h y s u o i e q
  found sig g h (atomic n) a p o i e q = found_neutral sig g h n (family p.number p.found) p.neutral o i e q
  found sig g h hole a p o i e q = absurd p

  found_neutral : (sig : PlainSignature) (g : Context) (h : Holding) (n : PlainNeutral) (a : PlainType) → Synthesizes sig g h n a → neutral_without_units n ≡ true
      → (i : ℕ) → slice_get (modes g) i ≡ Some Linear → slice_get h i ≡ Some true → occurs_neutral i n ≡ true
  found_neutral sig g h (head_alone y) a p o i e q = head_occurs sig g h y a p i e q
  found_neutral sig g h (app m r n) a p o i e q = let (y1, y2, q1, q2, j, l) = split_at (modes g) h p.for_function p.for_argument i Linear true p.split e refl q in
      sides y1 y2 (occurs_neutral i r) (occurs i n) j
      (λ f. found_neutral sig g p.for_function r (function m p.domain p.range) p.applied (and_left (neutral_without_units r) (without_units n) o) i e (q1 ∙ ap (λ b. Some b) f))
      (λ f. found sig g p.for_argument n p.domain p.argument (and_right (neutral_without_units r) (without_units n) o) i e (q2 ∙ ap (λ b. Some b) f))
  found_neutral sig g h (fst r) a p o i e q = found_neutral sig g h r (both a p.0) p.1 o i e q
  found_neutral sig g h (snd r) a p o i e q = found_neutral sig g h r (both p.0 a) p.1 o i e q

  found_expression : (sig : PlainSignature) (g : Context) (h : Holding) (y : PlainExpression) (s : PlainTelescope) → ExpressionHasType sig g h y s → expression_without_units y ≡ true
      → (i : ℕ) → slice_get (modes g) i ≡ Some Linear → slice_get h i ≡ Some true → occurs_expression i y ≡ true
  found_expression sig g h (step ms r y) s p o i e q = let (y1, y2, q1, q2, j, l) = split_at (modes g) h p.for_right p.for_rest i Linear true p.split e refl q in
      sides y1 y2 (occurs_neutral i r) (occurs_expression (i + length ms) y) j
      (λ f. found_neutral sig g p.for_right r (monad p.entries) p.right (and_left (neutral_without_units r) (expression_without_units y) o) i e (q1 ∙ ap (λ b. Some b) f))
      (λ f. found_expression sig (with_entries p.entries g) (all_held ms p.for_rest) y (ren_telescope (up (length ms)) s) p.rest (and_right (neutral_without_units r) (expression_without_units y) o) (i + length ms)
      (subst (λ ns. slice_get (modes (with_entries p.entries g)) (i + length ns) ≡ Some Linear) p.pattern (modes_behind p.entries g i Linear e)) (held_behind ms p.for_rest i true (q2 ∙ ap (λ b. Some b) f)))
  found_expression sig g h (done t) s p o i e q = found_tuple sig g h t s p o i e q

  found_tuple : (sig : PlainSignature) (g : Context) (h : Holding) (t : PlainTuple) (s : PlainTelescope) → TupleHasType sig g h t s → tuple_without_units t ≡ true
      → (i : ℕ) → slice_get (modes g) i ≡ Some Linear → slice_get h i ≡ Some true → occurs_tuple i t ≡ true
  found_tuple sig g h empty s p o i e q = absurd (weak_at (modes g) h i p.1 e q)
  found_tuple sig g h (entry m n t) s p o i e q = let (y1, y2, q1, q2, j, l) = split_at (modes g) h p.for_first p.for_later i Linear true p.split e refl q in
      sides y1 y2 (occurs i n) (occurs_tuple i t) j
      (λ f. found sig g p.for_first n p.first_type p.first (and_left (without_units n) (tuple_without_units t) o) i e (q1 ∙ ap (λ b. Some b) f))
      (λ f. found_tuple sig g p.for_later t p.after_put p.later (and_right (without_units n) (tuple_without_units t) o) i e (q2 ∙ ap (λ b. Some b) f))

pub linear_occurs : LinearOccurs
linear_occurs = found
