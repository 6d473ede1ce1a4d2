-- What fits conforms, where nothing is passed over and no metavariable is an implicit variable.
use Rattle.std.proofs.Common.{ap, inl, inr, sym, ⊎_elim, ◌∙◌}
use Rattle.std.specs.List.{slice_get}
use Rattle.std.specs.Prelude.{List, Some, false, refl, suc, true, zero, ℕ, ◌∷◌, ◌≡◌}
use Rattle.clf_syntax.specs.Simple.{Assignment, erase, extended, extended_by}
use Rattle.clf_syntax.specs.Tree.{PlainExpression, PlainNeutral, PlainObject, PlainTuple, app, atomic, done, empty, entry, fst, head_alone, hole, lam, monadic, pair, snd, step, unit}
use Rattle.clf_syntax.specs.TypeTree.{PlainType, SimpleTelescope, SimpleType, arrow, lax, simple_binding, simple_end, simple_with}
use Rattle.clf_syntax.specs.declared.tree.Head.{Head}
use Rattle.clf_syntax.specs.declared.tree.Head.TheVariants.{Const, Meta, Var}
use Rattle.gathering.proofs.Parts.{to_application_conforms, to_entry_conforms, to_filled_conforms, to_lambda_conforms, to_leaf_conforms, to_monadic_conforms, to_pair_conforms, to_step_conforms}
use Rattle.gathering.specs.Conform.{Conforms, ExpressionConforms, HeadConforms, NeutralConforms, TupleConforms}
use Rattle.gathering.specs.Setting.{NoImplicit, Setting}
use Rattle.gathering.specs.Shape.{Shape, unmarked_shape, with_shapes}
use Rattle.celf_conform.specs.Fits.{ExpressionFits, Fits, HeadFits, NeutralFits, TupleFits}
use Rattle.conform_laws.proofs.Shapes.{simple_entries, simple_shape, unmarked_is_simple}

-- The constants of the assignment are given by the setting, and its variables have their shapes.
pub record IsKnown (z : Setting) (w : List Shape) (b : Assignment) : Type 0 where
  pub constants : (c : ℕ) (t : SimpleType) → b (Const c) ≡ Some t → (a : PlainType) × (z.given c ≡ Some a) × (erase a ≡ t)
  pub variables : (i : ℕ) (t : SimpleType) → b (Var i) ≡ Some t → slice_get w i ≡ Some (simple_shape t)

pub known_next : (z : Setting) (w : List Shape) (b : Assignment) (d : SimpleType) → IsKnown z w b → IsKnown z (simple_shape d ∷ w) (extended d b)
known_next z w b d k = record { constants = k.constants; variables = at }
  where
    newest : (t : SimpleType) → Some d ≡ Some t → Some (simple_shape d) ≡ Some (simple_shape t)
    newest t e = let i : d ≡ t = cc in ap (λ u. Some (simple_shape u)) i

    at : (i : ℕ) (t : SimpleType) → extended d b (Var i) ≡ Some t → slice_get (simple_shape d ∷ w) i ≡ Some (simple_shape t)
    at zero t e = newest t e
    at (suc i) t e = k.variables i t e

pub known_after : (z : Setting) (s : SimpleTelescope) (w : List Shape) (b : Assignment) → IsKnown z w b → IsKnown z (with_shapes (simple_entries s) w) (extended_by s b)
known_after z simple_end w b k = k
known_after z (simple_binding m d s) w b k = known_after z s (simple_shape d ∷ w) (extended d b) (known_next z w b d k)

module _ (z : Setting) (fills : z.fills ≡ true) (none : NoImplicit z) (unmarked : (a : PlainType) → z.shape a ≡ unmarked_shape a) where
  head_conforms : (h : Head) (w : List Shape) (b : Assignment) (t : SimpleType) → IsKnown z w b → HeadFits b h t → (b h ≡ Some t) × HeadConforms z w h (simple_shape t)
  head_conforms (Const c) w b t k e = let (a, g, i) = k.constants c t e in (e, (a, g, sym (unmarked a ∙ unmarked_is_simple a ∙ ap simple_shape i)))
  head_conforms (Var i) w b t k e = (e, k.variables i t e)
  head_conforms (Meta m) w b t k e = absurd e

  mutual
    pub fits_conforms : (n : PlainObject) (w : List Shape) (b : Assignment) (t : SimpleType) → IsKnown z w b → Fits b n t → Conforms z w b n t (simple_shape t)
    fits_conforms (lam m n) w b t k p = let (d, c, e, q) = p in
        to_lambda_conforms (d, c, false, simple_shape d, simple_shape c, e, ap simple_shape e, fits_conforms n (simple_shape d ∷ w) (extended d b) c (known_next z w b d k) q)
    fits_conforms (pair l r) w b t k p = let (c, d, e, q, x) = p in
        to_pair_conforms (c, d, simple_shape c, simple_shape d, e, ap simple_shape e, fits_conforms l w b c k q, fits_conforms r w b d k x)
    fits_conforms unit w b t k p = p
    fits_conforms (monadic e) w b t k p = let (s, i, q) = p in to_monadic_conforms (s, simple_entries s, i, ap simple_shape i, expression_conforms e w b s k q)
    fits_conforms (atomic n) w b t k p = ⊎_elim (λ q. inl (to_leaf_conforms (q.0, simple_shape t, q.1, neutral_conforms n w b t k q.2)))
        (λ q. inr (inl (to_filled_conforms (q.number, fills, q.head, none q.number, q.typed)))) p
    fits_conforms hole w b t k p = absurd p

    pub neutral_conforms : (n : PlainNeutral) (w : List Shape) (b : Assignment) (t : SimpleType) → IsKnown z w b → NeutralFits b n t → NeutralConforms z w b n t (simple_shape t)
    neutral_conforms (head_alone h) w b t k p = head_conforms h w b t k p
    neutral_conforms (app m r n) w b t k p = let (d, q, x) = p in
        to_application_conforms (d, false, simple_shape d, neutral_conforms r w b (arrow m d t) k q, inr (refl, fits_conforms n w b d k x))
    neutral_conforms (fst r) w b t k p = let (d, q) = p in (d, simple_shape d, neutral_conforms r w b (simple_with t d) k q)
    neutral_conforms (snd r) w b t k p = let (c, q) = p in (c, simple_shape c, neutral_conforms r w b (simple_with c t) k q)

    expression_conforms : (e : PlainExpression) (w : List Shape) (b : Assignment) (s : SimpleTelescope) → IsKnown z w b → ExpressionFits b e s → ExpressionConforms z w b e s (simple_entries s)
    expression_conforms (step ms r e) w b s k p = let (u, q, m, x) = p in
        to_step_conforms (u, simple_entries u, neutral_conforms r w b (lax u) k q, m, expression_conforms e (with_shapes (simple_entries u) w) (extended_by u b) s (known_after z u w b k) x)
    expression_conforms (done t) w b s k p = tuple_conforms t w b s k p

    tuple_conforms : (t : PlainTuple) (w : List Shape) (b : Assignment) (s : SimpleTelescope) → IsKnown z w b → TupleFits b t s → TupleConforms z w b t s (simple_entries s)
    tuple_conforms empty w b s k p = p
    tuple_conforms (entry m n t) w b s k p = let (d, u, e, q, x) = p in
        to_entry_conforms (d, u, false, simple_shape d, simple_entries u, e, ap simple_entries e, inr (refl, fits_conforms n w b d k q), tuple_conforms t w b u k x)
