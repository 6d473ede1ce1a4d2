-- The calls answer as the function does, from what the inner functions answer.
use Rattle.std.specs.Prelude.{ℕ, suc, ◌+◌, ◌≡◌, ◌==◌, List, [], ◌∷◌, length, map, Result, refl}
use Rattle.std.proofs.Common.{ap, subst, ◌∙◌, add-one}
use Rattle.std.proofs.lemmas.Bool.{eq-eqb, eqb-true}
use Rattle.std.proofs.lemmas.List.{length-map}
use Rattle.clf_syntax.specs.declared.tree.Mode.{Mode}
use Rattle.clf_syntax.specs.declared.tree.SimpleEntry.{SimpleEntry}
use Rattle.clf_syntax.specs.Tree.{PlainObject, PlainExpression, done, PlainTuple}
use Rattle.clf_syntax.specs.TypeTree.{PlainType, PlainTelescope, PlainKind, SimpleType}
use Rattle.clf_syntax.specs.PlainSimple.{plain_simple_entry, simple_telescope_of}
use Rattle.clf_syntax.specs.Simple.{simple_modes}
use Rattle.hered_subst.specs.Substitution.{Environment, objects}
use Rattle.hered_put.specs.declared.fault.PutFault.{PutFault}
use Rattle.hered_put.specs.Function.{untyped, nested, run, run_expression, run_type, run_telescope, run_kind, flattened}
use Rattle.hered_put.specs.Tupled.{tupled}
use Rattle.hered_put.specs.Answers.{Answers}
use Rattle.hered_put.specs.Pieces.{object_of, expression_of, flattened_of}
use Rattle.hered_put.specs.TypePieces.{type_of, tele_of, kind_of}
use Rattle.hered_put.proofs.FlatPieces.{flat_if, not_true}

module _ {X : Type 0} (k j : ℕ) (s z : Environment) (r : Result X PutFault) (e : k ≡ j) (f : s ≡ z) where
  pub object-called : (plain : X → PlainObject) (o : PlainObject) → Answers plain (object_of k s o) r → Answers plain (run (nested j) z o) r
  unfolding object_of
  object-called plain o h = subst (λ x. Answers plain (run (nested x) z o) r) e (subst (λ y. Answers plain (run (nested k) y o) r) f h)

  pub expression-called : (plain : X → PlainExpression) (o : PlainExpression) → Answers plain (expression_of k s o) r → Answers plain (run_expression (nested j) z o) r
  unfolding expression_of
  expression-called plain o h = subst (λ x. Answers plain (run_expression (nested x) z o) r) e (subst (λ y. Answers plain (run_expression (nested k) y o) r) f h)

  pub type-called : (plain : X → PlainType) (o : PlainType) → Answers plain (type_of k s o) r → Answers plain (run_type (nested j) z o) r
  unfolding type_of
  type-called plain o h = subst (λ x. Answers plain (run_type (nested x) z o) r) e (subst (λ y. Answers plain (run_type (nested k) y o) r) f h)

  pub telescope-called : (plain : X → PlainTelescope) (o : PlainTelescope) → Answers plain (tele_of k s o) r → Answers plain (run_telescope (nested j) z o) r
  unfolding tele_of
  telescope-called plain o h = subst (λ x. Answers plain (run_telescope (nested x) z o) r) e (subst (λ y. Answers plain (run_telescope (nested k) y o) r) f h)

  pub kind-called : (plain : X → PlainKind) (o : PlainKind) → Answers plain (kind_of k s o) r → Answers plain (run_kind (nested j) z o) r
  unfolding kind_of
  kind-called plain o h = subst (λ x. Answers plain (run_kind (nested x) z o) r) e (subst (λ y. Answers plain (run_kind (nested k) y o) r) f h)

pub flattened-called : {X : Type 0} (k j n m : ℕ) (g h f : PlainExpression) (plain : X → PlainExpression) (r : Result X PutFault) → k ≡ j → n ≡ m → g ≡ h → Answers plain (flattened_of k n g f) r → Answers plain (flattened (nested j) 0 m h f) r
unfolding flattened_of
flattened-called k j n m g h f plain r e l q a = subst (λ x. Answers plain (flattened (nested x) 0 m h f) r) e (subst (λ i. Answers plain (flattened (nested k) 0 i h f) r) l (subst (λ y. Answers plain (flattened (nested k) 0 n y f) r) q a))

-- a tuple as an expression without steps
pub tuple-flat : (j n : ℕ) (t : PlainTuple) (f : PlainExpression) → length (objects t) ≡ n → flattened (nested (j + 1)) 0 n (done t) f ≡ run_expression (nested j) (tupled (objects t) 0) f
unfolding nested
tuple-flat j n t f h = ap (λ i. flattened (nested i) 0 n (done t) f) (add-one j) ∙ ap (λ b. flat_if (suc j) b t 0 f) (eq-eqb (length (objects t)) n h)

pub tuple-other : (k n : ℕ) (t : PlainTuple) (f : PlainExpression) → (length (objects t) ≡ n → ⊥) → flattened (nested k) 0 n (done t) f ≡ untyped
tuple-other k n t f h = ap (λ b. flat_if k b t 0 f) (not_true (length (objects t) == n) (λ q. h (eqb-true (length (objects t)) n q)))

-- as many modes as entries
pub modes-length : (es : List (Mode × SimpleType)) → length (simple_modes (simple_telescope_of es)) ≡ length es
modes-length [] = refl
modes-length (e ∷ es) = ap suc (modes-length es)

pub entries-length : (es : List SimpleEntry) → length (simple_modes (simple_telescope_of (map plain_simple_entry es))) ≡ length es
entries-length es = modes-length (map plain_simple_entry es) ∙ simp length-map
