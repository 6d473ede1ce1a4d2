-- What a list of steps or entries gives from one place on.
use Rattle.std.proofs.Common.{◌≡◌, ℕ, suc, ◌+◌, ◌<◌, ◌||◌, List, ◌∷◌, map, length, drop, get_or, drop-cons, add-one, sym, ap, ◌∙◌}
use Rattle.clf_syntax.specs.declared.tree.Mode.{Mode}
use Rattle.clf_syntax.specs.declared.tree.TupleEntry.{TupleEntry}
use Rattle.clf_syntax.specs.declared.tree.Step.{Step, out-Step}
use Rattle.clf_syntax.specs.declared.tree.TeleEntry.{TeleEntry, out-TeleEntry}
use Rattle.clf_syntax.specs.declared.tree.Ty.{Ty}
use Rattle.clf_syntax.specs.Tree.{PlainExpression, steps_on, tuple_of}
use Rattle.clf_syntax.specs.TypeTree.{PlainType, telescope_of}
use Rattle.clf_syntax.specs.Plain.{plain_obj, plain_neutral, plain_step, plain_entry, plain-step-modes, plain-step-rhs, plain-entry-obj}
use Rattle.clf_syntax.specs.PlainTypes.{plain_ty, plain_tele_entry, plain-tele-entry}
use Rattle.clf_syntax.specs.Occurs.{occurs, occurs_neutral, occurs_expression, occurs_tuple, occurs_type, occurs_telescope, occurs_kind}

pub dropped : {X : Type 0} (xs : List X) (i : ℕ) (x : X) → i < length xs → x ≡ get_or xs i x → drop i xs ≡ x ∷ drop (i + 1) xs
dropped xs i x h e = rw (add-one, drop-cons xs i x) (ap (λ y. y ∷ drop (suc i) xs) (sym e))

-- ---- occurrences

pub occurs_tuple-next : (v i : ℕ) (t : TupleEntry) (xs : List TupleEntry) → i < length xs → t ≡ get_or xs i t
    → occurs_tuple v (tuple_of (map plain_entry (drop i xs))) ≡ occurs v (plain_obj t.obj) || occurs_tuple v (tuple_of (map plain_entry (drop (i + 1) xs)))
occurs_tuple-next v i t xs h e =
    ap (λ ts. occurs_tuple v (tuple_of (map plain_entry ts))) (dropped xs i t h e)
    ∙ ap (λ n. occurs v n || occurs_tuple v (tuple_of (map plain_entry (drop (i + 1) xs)))) (plain-entry-obj t)

pub occurs_steps-next : (v i : ℕ) (s : Step) (xs : List Step) (r : PlainExpression) → i < length xs → s ≡ get_or xs i s
    → occurs_expression v (steps_on (map plain_step (drop i xs)) r) ≡ occurs_neutral v (plain_neutral (out-Step s).rhs) || occurs_expression (v + length s.modes) (steps_on (map plain_step (drop (i + 1) xs)) r)
occurs_steps-next v i s xs r h e =
    let later = steps_on (map plain_step (drop (i + 1) xs)) r in
    ap (λ ss. occurs_expression v (steps_on (map plain_step ss) r)) (dropped xs i s h e)
    ∙ ap (λ n. occurs_neutral v n || occurs_expression (v + length (plain_step s).0) later) (plain-step-rhs s)
    ∙ ap (λ ms. occurs_neutral v (plain_neutral (out-Step s).rhs) || occurs_expression (v + length ms) later) (plain-step-modes s)

pub occurs_telescope-next : (v i : ℕ) (t : TeleEntry) (xs : List TeleEntry) → i < length xs → t ≡ get_or xs i t
    → occurs_telescope v (telescope_of (map plain_tele_entry (drop i xs))) ≡ occurs_type v (plain_ty (out-TeleEntry t).ty) || occurs_telescope (v + 1) (telescope_of (map plain_tele_entry (drop (i + 1) xs)))
occurs_telescope-next v i t xs h e =
    ap (λ ts. occurs_telescope v (telescope_of (map plain_tele_entry ts))) (dropped xs i t h e)
    ∙ ap (λ (p : Mode × PlainType). occurs_type v p.1 || occurs_telescope (v + 1) (telescope_of (map plain_tele_entry (drop (i + 1) xs)))) (plain-tele-entry t)

pub occurs_kind-next : (v i : ℕ) (t : Ty) (xs : List Ty) → i < length xs → t ≡ get_or xs i t
    → occurs_kind v (map plain_ty (drop i xs)) ≡ occurs_type v (plain_ty t) || occurs_kind (v + 1) (map plain_ty (drop (i + 1) xs))
occurs_kind-next v i t xs h e = ap (λ ts. occurs_kind v (map plain_ty ts)) (dropped xs i t h e)
