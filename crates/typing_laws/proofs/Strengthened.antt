-- An entry that nothing mentions may go, whether it is held or not.
use Rattle.std.specs.Prelude.{ℕ, zero, suc, ◌≡◌, ◌≤◌, true, false, [], ◌∷◌, length, Some, refl}
use Rattle.std.specs.List.{slice_get}
use Rattle.std.proofs.Common.{ap, sym, subst, ◌∙◌, arith}
use Rattle.clf_syntax.specs.declared.tree.Mode.{Mode}
use Rattle.clf_syntax.specs.declared.tree.Mode.TheVariants.{Persistent, Affine, Linear}
use Rattle.clf_syntax.specs.TypeTree.{PlainType}
use Rattle.clf_syntax.specs.Renaming.{ren, ren_neutral, ren_expression, ren_tuple, ren_type, ren_telescope, raise}
use Rattle.clf_syntax.specs.Occurs.{occurs, occurs_neutral, occurs_expression, occurs_tuple}
use Rattle.clf_syntax.proofs.OccursLaws.{not_true, source, source_neutral, source_expression, source_tuple}
use Rattle.use_contexts.specs.Context.{Context, modes}
use Rattle.use_contexts.specs.Holding.{Holding, is_persistent, without}
use Rattle.clf_sig.specs.Entry.{PlainSignature}
use Rattle.clf_rules.specs.Typing.{HasType, Synthesizes, ExpressionHasType, TupleHasType}
use Rattle.clf_rules.specs.WellFormed.{WellFormedSignature}
use Rattle.typing_laws.specs.Contexts.{with_mark, with_entry, AreBroughtBack, ContextStrengthening}
use Rattle.typing_laws.proofs.LetGo.{letting_go}
use Rattle.typing_laws.proofs.Returned.{strengthened}

-- the new entry, no longer held
unmarked : (k : ℕ) (h : Holding) → without k (with_mark k true h) ≡ with_mark k false h
unmarked zero h = refl
unmarked (suc k) (x ∷ h) = ap (λ (l : Holding). x ∷ l) (unmarked k h)
unmarked (suc k) [] = refl

entry-there : (k : ℕ) (m : Mode) (b : PlainType) (g : Context) → k ≤ length g → slice_get (modes (with_entry k (m, b) g)) k ≡ Some m
entry-there zero m b g e = refl
entry-there (suc k) m b (d ∷ g) e = entry-there k m b g (omega arith)
entry-there (suc k) m b [] e = absurd (omega arith)

-- what is renumbered past a variable does not mention it
passed : (k j : ℕ) → raise 1 k j ≡ k → ⊥
passed k j e = grind arith

-- an entry that is not persistent, and held
held-goes : (sig : PlainSignature) (g : Context) (h : Holding) (k : ℕ) (m : Mode) (b : PlainType) → WellFormedSignature sig → k ≤ length g → is_persistent m ≡ false
    → AreBroughtBack sig (raise 1 k) g (with_entry k (m, b) g) h (with_mark k true h)
held-goes sig g h k m b w e f =
    let big = with_entry k (m, b) g in
    let marks = with_mark k true h in
    let without_it : with_mark k false h ≡ with_mark k (is_persistent m) h = ap (λ x. with_mark k x h) (sym f) in
    let same : without k marks ≡ with_mark k (is_persistent m) h = unmarked k h ∙ without_it in
    let gone = letting_go sig big marks k (m, entry-there k m b g e, f) in
    let back = strengthened sig g h k m b w e in
    record {
      objects = λ n a p. back.objects n a (subst (λ l. HasType sig big l (ren (raise 1 k) n) (ren_type (raise 1 k) a)) same
          (gone.objects (ren (raise 1 k) n) (ren_type (raise 1 k) a) (not_true (occurs k (ren (raise 1 k) n)) (λ o. let s = source (raise 1 k) n k o in passed k s.0 s.1)) p));
      neutrals = λ n t p. back.neutrals n t (subst (λ l. Synthesizes sig big l (ren_neutral (raise 1 k) n) t) same
          (gone.neutrals (ren_neutral (raise 1 k) n) t (not_true (occurs_neutral k (ren_neutral (raise 1 k) n)) (λ o. let s = source_neutral (raise 1 k) n k o in passed k s.0 s.1)) p));
      expressions = λ x s p. back.expressions x s (subst (λ l. ExpressionHasType sig big l (ren_expression (raise 1 k) x) (ren_telescope (raise 1 k) s)) same
          (gone.expressions (ren_expression (raise 1 k) x) (ren_telescope (raise 1 k) s) (not_true (occurs_expression k (ren_expression (raise 1 k) x)) (λ o. let s = source_expression (raise 1 k) x k o in passed k s.0 s.1)) p));
      tuples = λ t s p. back.tuples t s (subst (λ l. TupleHasType sig big l (ren_tuple (raise 1 k) t) (ren_telescope (raise 1 k) s)) same
          (gone.tuples (ren_tuple (raise 1 k) t) (ren_telescope (raise 1 k) s) (not_true (occurs_tuple k (ren_tuple (raise 1 k) t)) (λ o. let s = source_tuple (raise 1 k) t k o in passed k s.0 s.1)) p));
    }

pub context_strengthening : ContextStrengthening
context_strengthening sig g h k Persistent b true w e f = strengthened sig g h k Persistent b w e
context_strengthening sig g h k Persistent b false w e f = absurd (no (f refl))
  where
    no : false ≡ true → ⊥
    no q = cc
context_strengthening sig g h k Affine b false w e f = strengthened sig g h k Affine b w e
context_strengthening sig g h k Linear b false w e f = strengthened sig g h k Linear b w e
context_strengthening sig g h k Affine b true w e f = held-goes sig g h k Affine b w e refl
context_strengthening sig g h k Linear b true w e f = held-goes sig g h k Linear b w e refl
