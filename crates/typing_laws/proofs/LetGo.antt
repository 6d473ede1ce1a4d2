-- An entry that is not persistent, and that nothing mentions, need not be held.
use Rattle.std.specs.Prelude.{ℕ, zero, suc, ◌+◌, ◌≡◌, ◌&&◌, ◌||◌, not, nat_eq, Bool, true, false, List, [], ◌∷◌, length, Some, refl}
use Rattle.std.specs.List.{slice_get}
use Rattle.std.proofs.Common.{ap, subst, ◌∙◌, arith, add-one}
use Rattle.clf_syntax.specs.declared.tree.Mode.{Mode}
use Rattle.clf_syntax.specs.declared.tree.Mode.TheVariants.{Persistent, Affine, Linear}
use Rattle.clf_syntax.specs.declared.tree.Head.{Head}
use Rattle.clf_syntax.specs.declared.tree.Head.TheVariants.{Const, Var, Meta}
use Rattle.clf_syntax.specs.Tree.{PlainObject, lam, pair, unit, monadic, atomic, hole, PlainNeutral, head_alone, app, fst, snd, PlainExpression, step, done, PlainTuple, empty, entry}
use Rattle.clf_syntax.specs.TypeTree.{PlainType, family, function, both, monad, PlainTelescope}
use Rattle.clf_syntax.specs.Renaming.{ren_telescope, up}
use Rattle.clf_syntax.specs.Occurs.{is_variable, occurs, occurs_neutral, occurs_expression, occurs_tuple}
use Rattle.use_contexts.specs.Context.{Context, modes, with_entries}
use Rattle.use_contexts.specs.Holding.{Holding, SplitEntry, Split, is_linear, is_persistent, is_weak, is_unrestricted, may_use, Uses, without, all_held}
use Rattle.clf_sig.specs.Entry.{PlainSignature}
use Rattle.clf_rules.specs.Typing.{HeadHasType, HasType, Synthesizes, ExpressionHasType, TupleHasType}
use Rattle.typing_laws.proofs.Carried.{and_left, and_right, and_both}
use Rattle.typing_laws.proofs.Counted.{entered, modes_behind}
use Rattle.typing_laws.specs.Held.{LettingGo}

neither : (a b : Bool) → a || b ≡ false → (a ≡ false) × (b ≡ false)
neither true b e = cc
neither false b e = (refl, e)

the_mode : {m k : Mode} → Some m ≡ Some k → m ≡ k
the_mode e = cc

-- ---- holdings without the entry

unmarked_weak : (m : Mode) → not (is_linear m && false) ≡ true
unmarked_weak Persistent = refl
unmarked_weak Affine = refl
unmarked_weak Linear = refl

unmarked_unrestricted : (m : Mode) → not (not (is_persistent m) && false) ≡ true
unmarked_unrestricted Persistent = refl
unmarked_unrestricted Affine = refl
unmarked_unrestricted Linear = refl

weak_without : (ms : List Mode) (h : Holding) (i : ℕ) → is_weak ms h ≡ true → is_weak ms (without i h) ≡ true
weak_without [] h i e = refl
weak_without (m ∷ ms) [] i e = refl
weak_without (m ∷ ms) (x ∷ h) zero e = and_both (not (is_linear m && false)) (is_weak ms h) (unmarked_weak m) (and_right (not (is_linear m && x)) (is_weak ms h) e)
weak_without (m ∷ ms) (x ∷ h) (suc i) e =
    and_both (not (is_linear m && x)) (is_weak ms (without i h)) (and_left (not (is_linear m && x)) (is_weak ms h) e) (weak_without ms h i (and_right (not (is_linear m && x)) (is_weak ms h) e))

unrestricted_without : (ms : List Mode) (h : Holding) (i : ℕ) → is_unrestricted ms h ≡ true → is_unrestricted ms (without i h) ≡ true
unrestricted_without [] h i e = refl
unrestricted_without (m ∷ ms) [] i e = refl
unrestricted_without (m ∷ ms) (x ∷ h) zero e =
    and_both (not (not (is_persistent m) && false)) (is_unrestricted ms h) (unmarked_unrestricted m) (and_right (not (not (is_persistent m) && x)) (is_unrestricted ms h) e)
unrestricted_without (m ∷ ms) (x ∷ h) (suc i) e =
    and_both (not (not (is_persistent m) && x)) (is_unrestricted ms (without i h)) (and_left (not (not (is_persistent m) && x)) (is_unrestricted ms h) e)
    (unrestricted_without ms h i (and_right (not (not (is_persistent m) && x)) (is_unrestricted ms h) e))

usable_without : (m : Mode) (ms : List Mode) (h : Holding) (i : ℕ) → may_use m ms h ≡ true → may_use m ms (without i h) ≡ true
usable_without Persistent ms h i e = unrestricted_without ms h i e
usable_without Affine ms h i e = weak_without ms h i e
usable_without Linear ms h i e = refl

no_share : (m : Mode) → is_persistent m ≡ false → SplitEntry m false false false
no_share Persistent e = cc
no_share Affine e = (refl, refl)
no_share Linear e = (refl, refl)

split_without : (ms : List Mode) (h a b : Holding) (i : ℕ) (m : Mode) → slice_get ms i ≡ Some m → is_persistent m ≡ false → Split ms h a b → Split ms (without i h) (without i a) (without i b)
split_without (k ∷ ms) (x ∷ h) (y ∷ a) (z ∷ b) zero m e f s = (no_share k (ap is_persistent (the_mode e) ∙ f), s.1)
split_without (k ∷ ms) (x ∷ h) (y ∷ a) (z ∷ b) (suc i) m e f s = (s.0, split_without ms h a b i m e f s.1)
split_without [] [] [] [] i m e f s = tt
split_without _ _ _ _ i m e f s = absurd s

without_twice : (h : Holding) (i v : ℕ) → without v (without i h) ≡ without i (without v h)
without_twice [] i v = refl
without_twice (x ∷ h) zero zero = refl
without_twice (x ∷ h) zero (suc v) = refl
without_twice (x ∷ h) (suc i) zero = refl
without_twice (x ∷ h) (suc i) (suc v) = ap (λ (l : Holding). x ∷ l) (without_twice h i v)

still_held : (h : Holding) (i v : ℕ) → (v ≡ i → ⊥) → slice_get h v ≡ Some true → slice_get (without i h) v ≡ Some true
still_held [] i v n e = e
still_held (x ∷ h) zero zero n e = absurd (n refl)
still_held (x ∷ h) zero (suc v) n e = e
still_held (x ∷ h) (suc i) zero n e = e
still_held (x ∷ h) (suc i) (suc v) n e = still_held h i v (λ q. n (ap suc q)) e

uses_without : (ms : List Mode) (h : Holding) (i v : ℕ) → (v ≡ i → ⊥) → Uses ms h v → Uses ms (without i h) v
uses_without ms h i v n u = (still_held h i v n u.0, ap (is_weak ms) (without_twice h i v) ∙ weak_without ms (without v h) i u.1)

without_next : (h : Holding) (i : ℕ) → without (i + 1) (true ∷ h) ≡ true ∷ without i h
without_next h i = ap (λ j. without j (true ∷ h)) (add-one i)

next_place : (i n : ℕ) → i + suc n ≡ (i + 1) + n
next_place i n = omega arith

here_place : (i : ℕ) → i + 0 ≡ i
here_place i = omega arith

without_behind : (ms : List Mode) (h : Holding) (i : ℕ) → without (i + length ms) (all_held ms h) ≡ all_held ms (without i h)
without_behind [] h i = ap (λ j. without j h) (here_place i)
without_behind (m ∷ ms) h i =
    ap (λ j. without j (all_held ms (true ∷ h))) (next_place i (length ms)) ∙ without_behind ms (true ∷ h) (i + 1) ∙ ap (all_held ms) (without_next h i)

-- ---- judgments

other : (v i : ℕ) → nat_eq v i ≡ false → v ≡ i → ⊥
other v i e q = absurd (differ e (subst (λ j. nat_eq v j ≡ true) q (same v)))
  where
    same : (n : ℕ) → nat_eq n n ≡ true
    same n = grind arith

    differ : {b : Bool} → b ≡ false → b ≡ true → ⊥
    differ e f = cc

head_without : (sig : PlainSignature) (g : Context) (h : Holding) (x : Head) (a : PlainType) (i : ℕ) → is_variable i x ≡ false → HeadHasType sig g h x a → HeadHasType sig g (without i h) x a
head_without sig g h (Const c) a i o p = (p.0, weak_without (modes g) h i p.1)
head_without sig g h (Var v) a i o p = (uses_without (modes g) h i v (other v i o) p.0, p.1)
head_without sig g h (Meta k) a i o p = absurd p

mutual
  object : (sig : PlainSignature) (g : Context) (h : Holding) (n : PlainObject) (a : PlainType) (i : ℕ) (k : Mode) → slice_get (modes g) i ≡ Some k → is_persistent k ≡ false
      → occurs i n ≡ false → HasType sig g h n a → HasType sig g (without i h) n a
  object sig g h (lam m b) a i k e f o p = record {
    domain = p.domain;
    range = p.range;
    type = p.type;
    body = subst (λ l. HasType sig ((m, p.domain) ∷ g) l b p.range) (without_next h i) (object sig ((m, p.domain) ∷ g) (true ∷ h) b p.range (i + 1) k (entered m (modes g) i k e) f o p.body);
  }
  object sig g h (pair l r) a i k e f o p = let (u, v) = neither (occurs i l) (occurs i r) o in record {
    left_type = p.left_type;
    right_type = p.right_type;
    type = p.type;
    left = object sig g h l p.left_type i k e f u p.left;
    right = object sig g h r p.right_type i k e f v p.right;
  }
  object sig g h unit a i k e f o p = p
  object sig g h (monadic x) a i k e f o p = let (s, q, u) = p in (s, q, expression sig g h x s i k e f o u)
  object sig g h (atomic n) a i k e f o p = record {
    number = p.number;
    wanted = p.wanted;
    found = p.found;
    type = p.type;
    neutral = neutral sig g h n (family p.number p.found) i k e f o p.neutral;
    indices = p.indices;
  }
  object sig g h hole a i k e f o p = p

  neutral : (sig : PlainSignature) (g : Context) (h : Holding) (n : PlainNeutral) (a : PlainType) (i : ℕ) (k : Mode) → slice_get (modes g) i ≡ Some k → is_persistent k ≡ false
      → occurs_neutral i n ≡ false → Synthesizes sig g h n a → Synthesizes sig g (without i h) n a
  neutral sig g h (head_alone x) a i k e f o p = head_without sig g h x a i o p
  neutral sig g h (app m r n) a i k e f o p = let (u, v) = neither (occurs_neutral i r) (occurs i n) o in record {
    domain = p.domain;
    range = p.range;
    for_function = without i p.for_function;
    for_argument = without i p.for_argument;
    split = split_without (modes g) h p.for_function p.for_argument i k e f p.split;
    applied = neutral sig g p.for_function r (function m p.domain p.range) i k e f u p.applied;
    usable = usable_without m (modes g) p.for_argument i p.usable;
    argument = object sig g p.for_argument n p.domain i k e f v p.argument;
    type = p.type;
  }
  neutral sig g h (fst r) a i k e f o p = (p.0, neutral sig g h r (both a p.0) i k e f o p.1)
  neutral sig g h (snd r) a i k e f o p = (p.0, neutral sig g h r (both p.0 a) i k e f o p.1)

  expression : (sig : PlainSignature) (g : Context) (h : Holding) (x : PlainExpression) (s : PlainTelescope) (i : ℕ) (k : Mode) → slice_get (modes g) i ≡ Some k → is_persistent k ≡ false
      → occurs_expression i x ≡ false → ExpressionHasType sig g h x s → ExpressionHasType sig g (without i h) x s
  expression sig g h (step ms r x) s i k e f o p = let (u, v) = neither (occurs_neutral i r) (occurs_expression (i + length ms) x) o in record {
    entries = p.entries;
    for_right = without i p.for_right;
    for_rest = without i p.for_rest;
    split = split_without (modes g) h p.for_right p.for_rest i k e f p.split;
    right = neutral sig g p.for_right r (monad p.entries) i k e f u p.right;
    pattern = p.pattern;
    rest = subst (λ l. ExpressionHasType sig (with_entries p.entries g) l x (ren_telescope (up (length ms)) s)) (without_behind ms p.for_rest i)
        (expression sig (with_entries p.entries g) (all_held ms p.for_rest) x (ren_telescope (up (length ms)) s) (i + length ms) k
        (subst (λ ns. slice_get (modes (with_entries p.entries g)) (i + length ns) ≡ Some k) p.pattern (modes_behind p.entries g i k e)) f v p.rest);
  }
  expression sig g h (done t) s i k e f o p = tuple sig g h t s i k e f o p

  tuple : (sig : PlainSignature) (g : Context) (h : Holding) (t : PlainTuple) (s : PlainTelescope) (i : ℕ) (k : Mode) → slice_get (modes g) i ≡ Some k → is_persistent k ≡ false
      → occurs_tuple i t ≡ false → TupleHasType sig g h t s → TupleHasType sig g (without i h) t s
  tuple sig g h empty s i k e f o p = (p.0, weak_without (modes g) h i p.1)
  tuple sig g h (entry m n t) s i k e f o p = let (u, v) = neither (occurs i n) (occurs_tuple i t) o in record {
    first_type = p.first_type;
    later_types = p.later_types;
    after_put = p.after_put;
    for_first = without i p.for_first;
    for_later = without i p.for_later;
    type = p.type;
    split = split_without (modes g) h p.for_first p.for_later i k e f p.split;
    usable = usable_without m (modes g) p.for_first i p.usable;
    first = object sig g p.for_first n p.first_type i k e f u p.first;
    put = p.put;
    later = tuple sig g p.for_later t p.after_put i k e f v p.later;
  }

pub letting_go : LettingGo
letting_go sig g h i n = record {
  objects = λ o a f p. object sig g h o a i n.0 n.1 n.2 f p;
  neutrals = λ r a f p. neutral sig g h r a i n.0 n.1 n.2 f p;
  expressions = λ x s f p. expression sig g h x s i n.0 n.1 n.2 f p;
  tuples = λ t s f p. tuple sig g h t s i n.0 n.1 n.2 f p;
}
