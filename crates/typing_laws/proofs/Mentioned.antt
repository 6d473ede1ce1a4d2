-- Typed objects mention held variables alone, and what is well formed is clean.
use Rattle.std.specs.Prelude.{ℕ, zero, suc, ◌+◌, ◌≡◌, ◌||◌, nat_eq, Bool, true, false, List, [], ◌∷◌, length, Some, refl}
use Rattle.std.specs.List.{slice_get}
use Rattle.std.proofs.Common.{ap, sym, subst, ◌∙◌, arith, add-one}
use Rattle.clf_syntax.specs.declared.tree.Mode.{Mode}
use Rattle.clf_syntax.specs.declared.tree.Mode.TheVariants.{Persistent, Affine, Linear}
use Rattle.clf_syntax.specs.declared.tree.Head.{Head}
use Rattle.clf_syntax.specs.declared.tree.Head.TheVariants.{Const, Var, Meta}
use Rattle.clf_syntax.specs.Tree.{PlainObject, lam, pair, unit, monadic, atomic, hole, PlainNeutral, head_alone, app, fst, snd, PlainExpression, step, done, PlainTuple, empty, entry}
use Rattle.clf_syntax.specs.TypeTree.{PlainType, family, function, both, monad, PlainTelescope}
use Rattle.clf_syntax.specs.Renaming.{ren_telescope, up}
use Rattle.clf_syntax.specs.Occurs.{occurs, occurs_neutral, occurs_expression, occurs_tuple}
use Rattle.clf_syntax.proofs.OccursLaws.{not_true}
use Rattle.use_contexts.specs.Context.{Context, modes, with_entries}
use Rattle.use_contexts.specs.Holding.{Holding, SplitEntry, Split, all_held}
use Rattle.clf_sig.specs.Entry.{PlainSignature}
use Rattle.clf_rules.specs.Typing.{HeadHasType, HasType, Synthesizes, ExpressionHasType, TupleHasType}
use Rattle.typing_laws.specs.Held.{MentionsHeldAlone}

pub none_of : (a b : Bool) → a ≡ false → b ≡ false → a || b ≡ false
none_of false b e f = f
none_of true b e f = cc

the_value : {a b : Bool} → Some a ≡ Some b → a ≡ b
the_value e = cc

left_true : (a b : Bool) → a ≡ true → a || b ≡ true
left_true true b e = refl
left_true false b e = cc

right_true : (a b : Bool) → b ≡ true → a || b ≡ true
right_true true b e = refl
right_true false b e = e

-- the parts of a split do not hold what is not held
split_entry : (m : Mode) (h a b : Bool) → SplitEntry m h a b → (h ≡ true → ⊥) → (a ≡ true → ⊥) × (b ≡ true → ⊥)
split_entry Persistent h a b p e = absurd (e p.0)
split_entry Affine h a b p e = ((λ q. e (p.0 ∙ left_true a b q)), (λ q. e (p.0 ∙ right_true a b q)))
split_entry Linear h a b p e = ((λ q. e (p.0 ∙ left_true a b q)), (λ q. e (p.0 ∙ right_true a b q)))

abbrev Unheld : Holding → ℕ → Type 0
Unheld h i = slice_get h i ≡ Some true → ⊥

split_unheld : (ms : List Mode) (h a b : Holding) (i : ℕ) → Split ms h a b → Unheld h i → Unheld a i × Unheld b i
split_unheld (m ∷ ms) (x ∷ h) (y ∷ a) (z ∷ b) zero p e = let (u, v) = split_entry m x y z p.0 (λ q. e (ap (λ w. Some w) q)) in ((λ q. u (the_value q)), (λ q. v (the_value q)))
split_unheld (m ∷ ms) (x ∷ h) (y ∷ a) (z ∷ b) (suc i) p e = split_unheld ms h a b i p.1 e
split_unheld [] [] [] [] i p e = (e, e)
split_unheld _ _ _ _ i p e = absurd p

under_one : (h : Holding) (i : ℕ) → Unheld h i → Unheld (true ∷ h) (i + 1)
under_one h i e = subst (λ j. slice_get (true ∷ h) j ≡ Some true → ⊥) (sym (add-one i)) e

under_all : (ms : List Mode) (h : Holding) (i : ℕ) → Unheld h i → Unheld (all_held ms h) (i + length ms)
under_all [] h i e = subst (λ j. slice_get h j ≡ Some true → ⊥) (same i) e
  where
    same : (i : ℕ) → i ≡ i + 0
    same i = omega arith
under_all (m ∷ ms) h i e = subst (λ j. slice_get (all_held ms (true ∷ h)) j ≡ Some true → ⊥) (same i (length ms)) (under_all ms (true ∷ h) (suc i) e)
  where
    same : (i n : ℕ) → suc i + n ≡ i + suc n
    same i n = omega arith

pub same_number : (i v : ℕ) → nat_eq i v ≡ true → i ≡ v
same_number i v e = grind arith

unheld_head : (sig : PlainSignature) (g : Context) (h : Holding) (x : Head) (a : PlainType) → HeadHasType sig g h x a → (i : ℕ) → Unheld h i → occurs_neutral i (head_alone x) ≡ false
unheld_head sig g h (Const c) a p i e = refl
unheld_head sig g h (Var v) a p i e = not_true (nat_eq v i) (λ k. e (sym (ap (slice_get h) (same_number v i k)) ∙ p.0.0))
unheld_head sig g h (Meta k) a p i e = refl

mutual
  pub unheld_object : (sig : PlainSignature) (g : Context) (h : Holding) (n : PlainObject) (a : PlainType) → HasType sig g h n a → (i : ℕ) → (slice_get h i ≡ Some true → ⊥) → occurs i n ≡ false
  unheld_object sig g h (lam m b) a p i e = unheld_object sig ((m, p.domain) ∷ g) (true ∷ h) b p.range p.body (i + 1) (under_one h i e)
  unheld_object sig g h (pair l r) a p i e = none_of (occurs i l) (occurs i r) (unheld_object sig g h l p.left_type p.left i e) (unheld_object sig g h r p.right_type p.right i e)
  unheld_object sig g h unit a p i e = refl
  unheld_object sig g h (monadic x) a p i e = let (s, q, u) = p in unheld_expression sig g h x s u i e
  unheld_object sig g h (atomic n) a p i e = unheld_neutral sig g h n (family p.number p.found) p.neutral i e
  unheld_object sig g h hole a p i e = refl

  pub unheld_neutral : (sig : PlainSignature) (g : Context) (h : Holding) (n : PlainNeutral) (a : PlainType) → Synthesizes sig g h n a → (i : ℕ) → (slice_get h i ≡ Some true → ⊥) → occurs_neutral i n ≡ false
  unheld_neutral sig g h (head_alone x) a p i e = unheld_head sig g h x a p i e
  unheld_neutral sig g h (app m r n) a p i e = let (e1, e2) = split_unheld (modes g) h p.for_function p.for_argument i p.split e in
      none_of (occurs_neutral i r) (occurs i n) (unheld_neutral sig g p.for_function r (function m p.domain p.range) p.applied i e1) (unheld_object sig g p.for_argument n p.domain p.argument i e2)
  unheld_neutral sig g h (fst r) a p i e = unheld_neutral sig g h r (both a p.0) p.1 i e
  unheld_neutral sig g h (snd r) a p i e = unheld_neutral sig g h r (both p.0 a) p.1 i e

  pub unheld_expression : (sig : PlainSignature) (g : Context) (h : Holding) (x : PlainExpression) (s : PlainTelescope) → ExpressionHasType sig g h x s → (i : ℕ) → (slice_get h i ≡ Some true → ⊥) → occurs_expression i x ≡ false
  unheld_expression sig g h (step ms r x) s p i e = let (e1, e2) = split_unheld (modes g) h p.for_right p.for_rest i p.split e in
      none_of (occurs_neutral i r) (occurs_expression (i + length ms) x) (unheld_neutral sig g p.for_right r (monad p.entries) p.right i e1)
      (unheld_expression sig (with_entries p.entries g) (all_held ms p.for_rest) x (ren_telescope (up (length ms)) s) p.rest (i + length ms) (under_all ms p.for_rest i e2))
  unheld_expression sig g h (done t) s p i e = unheld_tuple sig g h t s p i e

  pub unheld_tuple : (sig : PlainSignature) (g : Context) (h : Holding) (t : PlainTuple) (s : PlainTelescope) → TupleHasType sig g h t s → (i : ℕ) → (slice_get h i ≡ Some true → ⊥) → occurs_tuple i t ≡ false
  unheld_tuple sig g h empty s p i e = refl
  unheld_tuple sig g h (entry m n t) s p i e = let (e1, e2) = split_unheld (modes g) h p.for_first p.for_later i p.split e in
      none_of (occurs i n) (occurs_tuple i t) (unheld_object sig g p.for_first n p.first_type p.first i e1) (unheld_tuple sig g p.for_later t p.after_put p.later i e2)

pub mentions_held_alone : MentionsHeldAlone
mentions_held_alone = unheld_object
