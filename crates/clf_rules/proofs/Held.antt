-- Typed objects mention no variable that is marked as not held, and what is well formed is clean.
use Rattle.std.specs.Prelude.{ℕ, zero, suc, ◌+◌, ◌≡◌, ◌||◌, nat_eq, Bool, true, false, List, [], ◌∷◌, length, Some, refl, option_map}
use Rattle.std.specs.List.{slice_get, list_any}
use Rattle.std.proofs.Common.{ap, sym, subst, ◌∙◌, arith, add-one}
use Rattle.std.proofs.lemmas.Option.{slice_get-map}
use Rattle.clf_syntax.specs.declared.tree.Mode.{Mode}
use Rattle.clf_syntax.specs.declared.tree.Mode.TheVariants.{Persistent, Affine, Linear}
use Rattle.clf_syntax.specs.declared.tree.Head.{Head}
use Rattle.clf_syntax.specs.declared.tree.Head.TheVariants.{Const, Var, Meta}
use Rattle.clf_syntax.specs.Tree.{PlainObject, lam, pair, unit, monadic, atomic, hole, PlainNeutral, head_alone, app, fst, snd, PlainExpression, step, done, PlainTuple, empty, entry}
use Rattle.clf_syntax.specs.TypeTree.{PlainType, family, function, both, top, monad, PlainTelescope, end, binding, PlainKind}
use Rattle.clf_syntax.specs.Renaming.{ren_telescope, up}
use Rattle.clf_syntax.specs.Occurs.{occurs, occurs_neutral, occurs_expression, occurs_tuple, occurs_type, occurs_telescope}
use Rattle.clf_syntax.proofs.OccursLaws.{not_true}
use Rattle.use_contexts.specs.Context.{Context, modes, with_entries}
use Rattle.use_contexts.specs.Holding.{Holding, SplitEntry, Split, all_held, is_persistent, persistent_alone}
use Rattle.clf_sig.specs.Entry.{PlainSignature}
use Rattle.clf_rules.specs.Typing.{HeadHasType, HasType, Synthesizes, ExpressionHasType, TupleHasType}
use Rattle.clf_rules.specs.WellFormed.{IndicesHaveTypes, WellFormedType, WellFormedTelescope, WellFormedContext}
use Rattle.clf_rules.specs.Clean.{IsNotPersistent, CleanType, CleanTelescope, CleanContext}
use Rattle.clf_rules.specs.Laws.{MentionsNothingUnheld, WellFormedIsClean}

neither : (a b : Bool) → false ≡ a || b → (a ≡ false) × (b ≡ false)
neither false b e = (refl, sym e)
neither true b e = absurd (cc)

pub none_of : (a b : Bool) → a ≡ false → b ≡ false → a || b ≡ false
none_of false b e f = f
none_of true b e f = cc

not_false : true ≡ false → ⊥
not_false e = cc

the_value : {a b : Bool} → Some a ≡ Some b → a ≡ b
the_value e = cc

-- the parts of a split do not hold what is not held
split_entry : (m : Mode) (h a b : Bool) → SplitEntry m h a b → h ≡ false → (a ≡ false) × (b ≡ false)
split_entry Persistent h a b p e = absurd (not_false (sym p.0 ∙ e))
split_entry Affine h a b p e = neither a b (sym e ∙ p.0)
split_entry Linear h a b p e = neither a b (sym e ∙ p.0)

abbrev Unheld : Holding → ℕ → Type 0
Unheld h i = slice_get h i ≡ Some false

split_unheld : (ms : List Mode) (h a b : Holding) (i : ℕ) → Split ms h a b → Unheld h i → Unheld a i × Unheld b i
split_unheld (m ∷ ms) (x ∷ h) (y ∷ a) (z ∷ b) zero p e = let (u, v) = split_entry m x y z p.0 (the_value e) in (ap (λ w. Some w) u, ap (λ w. Some w) v)
split_unheld (m ∷ ms) (x ∷ h) (y ∷ a) (z ∷ b) (suc i) p e = split_unheld ms h a b i p.1 e
split_unheld [] [] [] [] i p e = (e, e)
split_unheld _ _ _ _ i p e = absurd p

under_one : (h : Holding) (i : ℕ) → Unheld h i → Unheld (true ∷ h) (i + 1)
under_one h i e = subst (λ j. slice_get (true ∷ h) j ≡ Some false) (sym (add-one i)) e

under_all : (ms : List Mode) (h : Holding) (i : ℕ) → Unheld h i → Unheld (all_held ms h) (i + length ms)
under_all [] h i e = subst (λ j. slice_get h j ≡ Some false) (same i) e
  where
    same : (i : ℕ) → i ≡ i + 0
    same i = omega arith
under_all (m ∷ ms) h i e = subst (λ j. slice_get (all_held ms (true ∷ h)) j ≡ Some false) (same i (length ms)) (under_all ms (true ∷ h) (suc i) e)
  where
    same : (i n : ℕ) → suc i + n ≡ i + suc n
    same i n = omega arith

pub same_number : (i v : ℕ) → nat_eq i v ≡ true → i ≡ v
same_number i v e = grind arith

unheld_head : (sig : PlainSignature) (g : Context) (h : Holding) (x : Head) (a : PlainType) → HeadHasType sig g h x a → (i : ℕ) → Unheld h i → occurs_neutral i (head_alone x) ≡ false
unheld_head sig g h (Const c) a p i e = refl
unheld_head sig g h (Var v) a p i e = not_true (nat_eq v i) (λ k. not_false (the_value (sym p.0.0 ∙ ap (slice_get h) (same_number v i k) ∙ e)))
unheld_head sig g h (Meta k) a p i e = refl

mutual
  pub unheld_object : (sig : PlainSignature) (g : Context) (h : Holding) (n : PlainObject) (a : PlainType) → HasType sig g h n a → (i : ℕ) → slice_get h i ≡ Some false → occurs i n ≡ false
  unheld_object sig g h (lam m b) a p i e = unheld_object sig ((m, p.domain) ∷ g) (true ∷ h) b p.range p.body (i + 1) (under_one h i e)
  unheld_object sig g h (pair l r) a p i e = none_of (occurs i l) (occurs i r) (unheld_object sig g h l p.left_type p.left i e) (unheld_object sig g h r p.right_type p.right i e)
  unheld_object sig g h unit a p i e = refl
  unheld_object sig g h (monadic x) a p i e = let (s, q, u) = p in unheld_expression sig g h x s u i e
  unheld_object sig g h (atomic n) a p i e = unheld_neutral sig g h n (family p.number p.found) p.neutral i e
  unheld_object sig g h hole a p i e = refl

  pub unheld_neutral : (sig : PlainSignature) (g : Context) (h : Holding) (n : PlainNeutral) (a : PlainType) → Synthesizes sig g h n a → (i : ℕ) → slice_get h i ≡ Some false → occurs_neutral i n ≡ false
  unheld_neutral sig g h (head_alone x) a p i e = unheld_head sig g h x a p i e
  unheld_neutral sig g h (app m r n) a p i e = let (e1, e2) = split_unheld (modes g) h p.for_function p.for_argument i p.split e in
      none_of (occurs_neutral i r) (occurs i n) (unheld_neutral sig g p.for_function r (function m p.domain p.range) p.applied i e1)
      (unheld_object sig g p.for_argument n p.domain p.argument i e2)
  unheld_neutral sig g h (fst r) a p i e = unheld_neutral sig g h r (both a p.0) p.1 i e
  unheld_neutral sig g h (snd r) a p i e = unheld_neutral sig g h r (both p.0 a) p.1 i e

  pub unheld_expression : (sig : PlainSignature) (g : Context) (h : Holding) (x : PlainExpression) (s : PlainTelescope) → ExpressionHasType sig g h x s → (i : ℕ) → slice_get h i ≡ Some false → occurs_expression i x ≡ false
  unheld_expression sig g h (step ms r x) s p i e = let (e1, e2) = split_unheld (modes g) h p.for_right p.for_rest i p.split e in
      none_of (occurs_neutral i r) (occurs_expression (i + length ms) x) (unheld_neutral sig g p.for_right r (monad p.entries) p.right i e1)
      (unheld_expression sig (with_entries p.entries g) (all_held ms p.for_rest) x (ren_telescope (up (length ms)) s) p.rest (i + length ms) (under_all ms p.for_rest i e2))
  unheld_expression sig g h (done t) s p i e = unheld_tuple sig g h t s p i e

  pub unheld_tuple : (sig : PlainSignature) (g : Context) (h : Holding) (t : PlainTuple) (s : PlainTelescope) → TupleHasType sig g h t s → (i : ℕ) → slice_get h i ≡ Some false → occurs_tuple i t ≡ false
  unheld_tuple sig g h empty s p i e = refl
  unheld_tuple sig g h (entry m n t) s p i e = let (e1, e2) = split_unheld (modes g) h p.for_first p.for_later i p.split e in
      none_of (occurs i n) (occurs_tuple i t) (unheld_object sig g p.for_first n p.first_type p.first i e1) (unheld_tuple sig g p.for_later t p.after_put p.later i e2)

pub mentions_nothing_unheld : MentionsNothingUnheld
mentions_nothing_unheld = unheld_object

unheld_persistent : (g : Context) (i : ℕ) → IsNotPersistent g i → Unheld (persistent_alone (modes g)) i
unheld_persistent g i p = slice_get-map is_persistent (modes g) i ∙ ap (option_map is_persistent) p.1 ∙ ap (λ b. Some b) p.2

under_entry : (m : Mode) (a : PlainType) (g : Context) (i : ℕ) → IsNotPersistent g i → IsNotPersistent ((m, a) ∷ g) (i + 1)
under_entry m a g i p = (p.0, ap (slice_get (m ∷ modes g)) (add-one i) ∙ p.1, p.2)

absent_each : (sig : PlainSignature) (g : Context) (ns : List PlainObject) (k : PlainKind) → IndicesHaveTypes sig g ns k → (i : ℕ) → IsNotPersistent g i → list_any (occurs i) ns ≡ false
absent_each sig g [] k p i e = refl
absent_each sig g (n ∷ ns) (a ∷ k) p i e = none_of (occurs i n) (list_any (occurs i) ns) (unheld_object sig g (persistent_alone (modes g)) n a p.index i (unheld_persistent g i e))
    (absent_each sig g ns p.after_put p.later i e)
absent_each sig g (n ∷ ns) [] p i e = absurd p

mutual
  absent_type : (sig : PlainSignature) (g : Context) (a : PlainType) → WellFormedType sig g a → (i : ℕ) → IsNotPersistent g i → occurs_type i a ≡ false
  absent_type sig g (family f ns) p i e = absent_each sig g ns p.0 p.2 i e
  absent_type sig g (function m a b) p i e = none_of (occurs_type i a) (occurs_type (i + 1) b) (absent_type sig g a p.0 i e) (absent_type sig ((m, a) ∷ g) b p.1 (i + 1) (under_entry m a g i e))
  absent_type sig g (both a b) p i e = none_of (occurs_type i a) (occurs_type i b) (absent_type sig g a p.0 i e) (absent_type sig g b p.1 i e)
  absent_type sig g top p i e = refl
  absent_type sig g (monad s) p i e = absent_telescope sig g s p i e

  absent_telescope : (sig : PlainSignature) (g : Context) (s : PlainTelescope) → WellFormedTelescope sig g s → (i : ℕ) → IsNotPersistent g i → occurs_telescope i s ≡ false
  absent_telescope sig g end p i e = refl
  absent_telescope sig g (binding m a s) p i e = none_of (occurs_type i a) (occurs_telescope (i + 1) s) (absent_type sig g a p.0 i e) (absent_telescope sig ((m, a) ∷ g) s p.1 (i + 1) (under_entry m a g i e))

mutual
  clean_type : (sig : PlainSignature) (g : Context) (a : PlainType) → WellFormedType sig g a → CleanType a
  clean_type sig g (family f ns) p = tt
  clean_type sig g (function m a b) p = (clean_type sig g a p.0, (λ e. absent_type sig ((m, a) ∷ g) b p.1 0 (m, refl, e)), clean_type sig ((m, a) ∷ g) b p.1)
  clean_type sig g (both a b) p = (clean_type sig g a p.0, clean_type sig g b p.1)
  clean_type sig g top p = tt
  clean_type sig g (monad s) p = clean_telescope sig g s p

  clean_telescope : (sig : PlainSignature) (g : Context) (s : PlainTelescope) → WellFormedTelescope sig g s → CleanTelescope s
  clean_telescope sig g end p = tt
  clean_telescope sig g (binding m a s) p = (clean_type sig g a p.0, (λ e. absent_telescope sig ((m, a) ∷ g) s p.1 0 (m, refl, e)), clean_telescope sig ((m, a) ∷ g) s p.1)

clean_context : (sig : PlainSignature) (g : Context) → WellFormedContext sig g → CleanContext g
clean_context sig [] p = tt
clean_context sig (e ∷ g) p = (clean_type sig g e.1 p.0, absent_type sig g e.1 p.0, clean_context sig g p.1)

pub well_formed_is_clean : WellFormedIsClean
well_formed_is_clean sig g = ((λ a p. (clean_type sig g a p, absent_type sig g a p)), (λ s p. (clean_telescope sig g s p, absent_telescope sig g s p)), clean_context sig g)

pub ruleset clean_laws = (mentions_nothing_unheld, well_formed_is_clean)
