-- Affine weakening.
use Rattle.std.specs.Prelude.{ℕ, zero, suc, ◌≡◌, ◌&&◌, ◌||◌, not, Bool, true, false, List, [], ◌∷◌, Some, refl}
use Rattle.std.specs.List.{slice_get}
use Rattle.std.proofs.Common.{ap, sym, ◌∙◌}
use Rattle.clf_syntax.specs.declared.tree.Mode.{Mode}
use Rattle.clf_syntax.specs.declared.tree.Mode.TheVariants.{Persistent, Affine, Linear}
use Rattle.clf_syntax.specs.declared.tree.Head.{Head}
use Rattle.clf_syntax.specs.declared.tree.Head.TheVariants.{Const, Var, Meta}
use Rattle.clf_syntax.specs.Tree.{PlainObject, lam, pair, unit, monadic, atomic, hole, PlainNeutral, head_alone, app, fst, snd, PlainExpression, step, done, PlainTuple, empty, entry}
use Rattle.clf_syntax.specs.TypeTree.{PlainType, family, function, both, monad, PlainTelescope}
use Rattle.use_contexts.specs.Context.{Context, modes}
use Rattle.use_contexts.specs.Holding.{Holding, Split, is_weak, without}
use Rattle.clf_sig.specs.Entry.{PlainSignature}
use Rattle.clf_rules.specs.Typing.{HeadHasType, HasType, Synthesizes, ExpressionHasType, TupleHasType}
use Rattle.typing_laws.proofs.SplitLaws.{split_commutes}
use Rattle.typing_laws.specs.Held.{MoreAffine, AffineWeakening}

same_and : (b : Bool) {c d : Bool} → c ≡ d → (b && c) ≡ (b && d)
same_and b e = ap (λ x. b && x) e

-- what is linear is as it was
same_weak : (ms : List Mode) (h k : Holding) → MoreAffine ms h k → is_weak ms h ≡ is_weak ms k
same_weak [] [] [] p = refl
same_weak (Affine ∷ ms) (x ∷ h) (y ∷ k) p = same_weak ms h k p.1
same_weak (Persistent ∷ ms) (x ∷ h) (y ∷ k) p = same_weak ms h k p.1
same_weak (Linear ∷ ms) (x ∷ h) (y ∷ k) p = ap (λ z. not z && is_weak ms h) p.0 ∙ same_and (not y) (same_weak ms h k p.1)
same_weak _ _ _ p = absurd p

same_without : (ms : List Mode) (h k : Holding) (i : ℕ) → MoreAffine ms h k → is_weak ms (without i h) ≡ is_weak ms (without i k)
same_without [] [] [] i p = refl
same_without (Affine ∷ ms) (x ∷ h) (y ∷ k) zero p = same_weak ms h k p.1
same_without (Persistent ∷ ms) (x ∷ h) (y ∷ k) zero p = same_weak ms h k p.1
same_without (Linear ∷ ms) (x ∷ h) (y ∷ k) zero p = same_weak ms h k p.1
same_without (Affine ∷ ms) (x ∷ h) (y ∷ k) (suc i) p = same_without ms h k i p.1
same_without (Persistent ∷ ms) (x ∷ h) (y ∷ k) (suc i) p = same_without ms h k i p.1
same_without (Linear ∷ ms) (x ∷ h) (y ∷ k) (suc i) p = ap (λ z. not z && is_weak ms (without i h)) p.0 ∙ same_and (not y) (same_without ms h k i p.1)
same_without _ _ _ i p = absurd p

the_value : {a b : Bool} → Some a ≡ Some b → a ≡ b
the_value e = cc

still : (ms : List Mode) (h k : Holding) (i : ℕ) → MoreAffine ms h k → slice_get h i ≡ Some true → slice_get k i ≡ Some true
still [] [] [] i p e = e
still (Affine ∷ ms) (x ∷ h) (y ∷ k) zero p e = ap (λ z. Some z) (p.0 (the_value e))
still (Persistent ∷ ms) (x ∷ h) (y ∷ k) zero p e = ap (λ z. Some z) (sym p.0 ∙ the_value e)
still (Linear ∷ ms) (x ∷ h) (y ∷ k) zero p e = ap (λ z. Some z) (sym p.0 ∙ the_value e)
still (Affine ∷ ms) (x ∷ h) (y ∷ k) (suc i) p e = still ms h k i p.1 e
still (Persistent ∷ ms) (x ∷ h) (y ∷ k) (suc i) p e = still ms h k i p.1 e
still (Linear ∷ ms) (x ∷ h) (y ∷ k) (suc i) p e = still ms h k i p.1 e
still _ _ _ i p e = absurd p

-- the share of the first side, with the new affine entries; the second side stays
entry_more : (x a b y : Bool) → (x ≡ a || b) × (a && b ≡ false) → (x ≡ true → y ≡ true) → (c : Bool) × (a ≡ true → c ≡ true) × (y ≡ c || b) × (c && b ≡ false)
entry_more x true true y s e = absurd (no s.1)
  where
    no : true ≡ false → ⊥
    no e = cc
entry_more x true false y s e = (y, (λ z. e s.0), or_false y, and_false y)
  where
    or_false : (y : Bool) → y ≡ y || false
    or_false true = refl
    or_false false = refl

    and_false : (y : Bool) → y && false ≡ false
    and_false true = refl
    and_false false = refl
entry_more x false true y s e = (false, (λ z. absurd (no z)), e s.0, refl)
  where
    no : false ≡ true → ⊥
    no e = cc
entry_more x false false y s e = (y, (λ z. absurd (no z)), or_false y, and_false y)
  where
    no : false ≡ true → ⊥
    no e = cc

    or_false : (y : Bool) → y ≡ y || false
    or_false true = refl
    or_false false = refl

    and_false : (y : Bool) → y && false ≡ false
    and_false true = refl
    and_false false = refl

pub more_first : (ms : List Mode) (h k a b : Holding) → MoreAffine ms h k → Split ms h a b → (c : Holding) × MoreAffine ms a c × Split ms k c b
more_first [] [] [] [] [] p s = ([], tt, tt)
more_first (Affine ∷ ms) (x ∷ h) (y ∷ k) (u ∷ a) (v ∷ b) p s = let (c, q, r) = more_first ms h k a b p.1 s.1 in let (w, d, e, f) = entry_more x u v y s.0 p.0 in (w ∷ c, (d, q), ((e, f), r))
more_first (Persistent ∷ ms) (x ∷ h) (y ∷ k) (u ∷ a) (v ∷ b) p s = let (c, q, r) = more_first ms h k a b p.1 s.1 in (u ∷ c, (refl, q), ((sym p.0 ∙ s.0.0, s.0.1, s.0.2), r))
more_first (Linear ∷ ms) (x ∷ h) (y ∷ k) (u ∷ a) (v ∷ b) p s = let (c, q, r) = more_first ms h k a b p.1 s.1 in (u ∷ c, (refl, q), ((sym p.0 ∙ s.0.0, s.0.1), r))
more_first [] [] [] (u ∷ a) b p s = absurd s
more_first [] [] [] [] (v ∷ b) p s = absurd s
more_first (m ∷ ms) (x ∷ h) (y ∷ k) [] b p s = absurd s
more_first (m ∷ ms) (x ∷ h) (y ∷ k) (u ∷ a) [] p s = absurd s
more_first [] (x ∷ h) k a b p s = absurd p
more_first [] [] (y ∷ k) a b p s = absurd p
more_first (Affine ∷ ms) [] k a b p s = absurd p
more_first (Persistent ∷ ms) [] k a b p s = absurd p
more_first (Linear ∷ ms) [] k a b p s = absurd p
more_first (Affine ∷ ms) (x ∷ h) [] a b p s = absurd p
more_first (Persistent ∷ ms) (x ∷ h) [] a b p s = absurd p
more_first (Linear ∷ ms) (x ∷ h) [] a b p s = absurd p

more_second : (ms : List Mode) (h k a b : Holding) → MoreAffine ms h k → Split ms h a b → (c : Holding) × MoreAffine ms b c × Split ms k a c
more_second ms h k a b p s = let (c, q, r) = more_first ms h k b a p (split_commutes ms h a b s) in (c, q, split_commutes ms k c a r)

under_entry : (m : Mode) (ms : List Mode) (h k : Holding) → MoreAffine ms h k → MoreAffine (m ∷ ms) (true ∷ h) (true ∷ k)
under_entry Persistent ms h k p = (refl, p)
under_entry Affine ms h k p = ((λ e. e), p)
under_entry Linear ms h k p = (refl, p)

head : (sig : PlainSignature) (g : Context) (h k : Holding) (x : Head) (a : PlainType) → MoreAffine (modes g) h k → HeadHasType sig g h x a → HeadHasType sig g k x a
head sig g h k (Const c) a f p = (p.0, sym (same_weak (modes g) h k f) ∙ p.1)
head sig g h k (Var i) a f p = ((still (modes g) h k i f p.0.0, sym (same_without (modes g) h k i f) ∙ p.0.1), p.1)
head sig g h k (Meta c) a f p = absurd p

mutual
  object : (sig : PlainSignature) (g : Context) (h k : Holding) (n : PlainObject) (a : PlainType) → MoreAffine (modes g) h k → HasType sig g h n a → HasType sig g k n a
  object sig g h k (lam m b) a f p = record {
    domain = p.domain;
    range = p.range;
    type = p.type;
    body = object sig ((m, p.domain) ∷ g) (true ∷ h) (true ∷ k) b p.range (under_entry m (modes g) h k f) p.body;
  }
  object sig g h k (pair l r) a f p = record {
    left_type = p.left_type;
    right_type = p.right_type;
    type = p.type;
    left = object sig g h k l p.left_type f p.left;
    right = object sig g h k r p.right_type f p.right;
  }
  object sig g h k unit a f p = p
  object sig g h k (monadic x) a f p = let (s, q, u) = p in (s, q, expression sig g h k x s f u)
  object sig g h k (atomic n) a f p = record {
    number = p.number;
    wanted = p.wanted;
    found = p.found;
    type = p.type;
    neutral = neutral sig g h k n (family p.number p.found) f p.neutral;
    indices = p.indices;
  }
  object sig g h k hole a f p = p

  neutral : (sig : PlainSignature) (g : Context) (h k : Holding) (n : PlainNeutral) (a : PlainType) → MoreAffine (modes g) h k → Synthesizes sig g h n a → Synthesizes sig g k n a
  neutral sig g h k (head_alone x) a f p = head sig g h k x a f p
  neutral sig g h k (app m r n) a f p = let (j, e, t) = more_first (modes g) h k p.for_function p.for_argument f p.split in record {
    domain = p.domain;
    range = p.range;
    for_function = j;
    for_argument = p.for_argument;
    split = t;
    applied = neutral sig g p.for_function j r (function m p.domain p.range) e p.applied;
    usable = p.usable;
    argument = p.argument;
    type = p.type;
  }
  neutral sig g h k (fst r) a f p = (p.0, neutral sig g h k r (both a p.0) f p.1)
  neutral sig g h k (snd r) a f p = (p.0, neutral sig g h k r (both p.0 a) f p.1)

  expression : (sig : PlainSignature) (g : Context) (h k : Holding) (x : PlainExpression) (s : PlainTelescope) → MoreAffine (modes g) h k → ExpressionHasType sig g h x s → ExpressionHasType sig g k x s
  expression sig g h k (step ms r x) s f p = let (j, e, t) = more_first (modes g) h k p.for_right p.for_rest f p.split in record {
    entries = p.entries;
    for_right = j;
    for_rest = p.for_rest;
    split = t;
    right = neutral sig g p.for_right j r (monad p.entries) e p.right;
    pattern = p.pattern;
    rest = p.rest;
  }
  expression sig g h k (done t) s f p = tuple sig g h k t s f p

  tuple : (sig : PlainSignature) (g : Context) (h k : Holding) (t : PlainTuple) (s : PlainTelescope) → MoreAffine (modes g) h k → TupleHasType sig g h t s → TupleHasType sig g k t s
  tuple sig g h k empty s f p = (p.0, sym (same_weak (modes g) h k f) ∙ p.1)
  tuple sig g h k (entry m n t) s f p = let (j, e, l) = more_second (modes g) h k p.for_first p.for_later f p.split in record {
    first_type = p.first_type;
    later_types = p.later_types;
    after_put = p.after_put;
    for_first = p.for_first;
    for_later = j;
    type = p.type;
    split = l;
    usable = p.usable;
    first = p.first;
    put = p.put;
    later = tuple sig g p.for_later j t p.after_put e p.later;
  }

pub affine_weakening : AffineWeakening
affine_weakening sig g h k f = ((λ n a p. object sig g h k n a f p), (λ r a p. neutral sig g h k r a f p), (λ e s p. expression sig g h k e s f p))
