-- What a list of steps or entries gives from one place on.
use Rattle.std.proofs.Common.{◌≡◌, ℕ, suc, ◌+◌, ◌-◌, ◌<◌, ◌≤◌, ◌&&◌, ◌++◌, Bool, true, not, nat_lt, List, [], ◌∷◌, map, length, drop, get_or, append_assoc, length-drop, refl, sym, ap, ◌∙◌, arith, codes}
use Rattle.std.proofs.lemmas.Grind.{common_steps}
use Rattle.clf_syntax.specs.declared.tree.Mode.{Mode}
use Rattle.clf_syntax.specs.declared.tree.TupleEntry.{TupleEntry}
use Rattle.clf_syntax.specs.declared.tree.Step.{Step, out-Step}
use Rattle.clf_syntax.specs.declared.tree.TeleEntry.{TeleEntry, out-TeleEntry}
use Rattle.clf_syntax.specs.Tree.{PlainExpression, done, steps_on, tuple_of}
use Rattle.clf_syntax.specs.TypeTree.{PlainType, telescope_of}
use Rattle.clf_syntax.specs.Plain.{plain_obj, plain_neutral, plain_step, plain_entry, plain-step-modes, plain-step-rhs, plain-entry-obj}
use Rattle.clf_syntax.specs.PlainTypes.{plain_ty, plain_tele_entry, plain-tele-entry}
use Rattle.clf_syntax.specs.Occurs.{occurs_telescope}
use Rattle.clf_sig.specs.Entry.{PlainSignature}
use Rattle.clf_printer.specs.declared.place.Place.TheVariants.{Whole, Operand}
use Rattle.clf_printer.specs.Metas.{appearing, appearing_neutral, appearing_expression, appearing_tuple, appearing_type, appearing_telescope}
use Rattle.clf_printer.specs.Text.{when, listed, width, step_text, neutral_text, expression_text, tuple_text, tuple_comma, tuple_entry_text, is_atom, object_text, is_persistent, is_end, tele_entry_text, type_text, telescope_text}
use Rattle.clf_syntax.proofs.Next.{dropped}

-- ---- metavariables

pub appearing_tuple-next : (metas : List ℕ) (i : ℕ) (t : TupleEntry) (xs : List TupleEntry) → i < length xs → t ≡ get_or xs i t
    → appearing_tuple metas (tuple_of (map plain_entry (drop i xs))) ≡ appearing_tuple (appearing metas (plain_obj t.obj)) (tuple_of (map plain_entry (drop (i + 1) xs)))
appearing_tuple-next metas i t xs h e =
    ap (λ ts. appearing_tuple metas (tuple_of (map plain_entry ts))) (dropped xs i t h e)
    ∙ ap (λ n. appearing_tuple (appearing metas n) (tuple_of (map plain_entry (drop (i + 1) xs)))) (plain-entry-obj t)

pub appearing_steps-next : (metas : List ℕ) (i : ℕ) (s : Step) (xs : List Step) (r : PlainExpression) → i < length xs → s ≡ get_or xs i s
    → appearing_expression metas (steps_on (map plain_step (drop i xs)) r) ≡ appearing_expression (appearing_neutral metas (plain_neutral (out-Step s).rhs)) (steps_on (map plain_step (drop (i + 1) xs)) r)
appearing_steps-next metas i s xs r h e =
    ap (λ ss. appearing_expression metas (steps_on (map plain_step ss) r)) (dropped xs i s h e)
    ∙ ap (λ n. appearing_expression (appearing_neutral metas n) (steps_on (map plain_step (drop (i + 1) xs)) r)) (plain-step-rhs s)

pub appearing_telescope-next : (metas : List ℕ) (i : ℕ) (t : TeleEntry) (xs : List TeleEntry) → i < length xs → t ≡ get_or xs i t
    → appearing_telescope metas (telescope_of (map plain_tele_entry (drop i xs))) ≡ appearing_telescope (appearing_type metas (plain_ty (out-TeleEntry t).ty)) (telescope_of (map plain_tele_entry (drop (i + 1) xs)))
appearing_telescope-next metas i t xs h e =
    ap (λ ts. appearing_telescope metas (telescope_of (map plain_tele_entry ts))) (dropped xs i t h e)
    ∙ ap (λ (p : Mode × PlainType). appearing_telescope (appearing_type metas p.1) (telescope_of (map plain_tele_entry (drop (i + 1) xs)))) (plain-tele-entry t)

-- ---- texts

positive : (n : ℕ) → nat_lt 0 (suc n) ≡ true
positive n = grind arith

module _ (sig : PlainSignature) (metas : List ℕ) where
  -- a step, and the binders after it
  pub step-appended : (level n i : ℕ) (s : Step) (xs : List Step) (r : PlainExpression) (o p : List ℕ) → i < length xs → s ≡ get_or xs i s → n ≡ level + length s.modes
      → p ≡ o ++ step_text level (plain_step s).0 (neutral_text sig metas level (plain_step s).1)
      → p ++ expression_text sig metas n (steps_on (map plain_step (drop (i + 1) xs)) r) ≡ o ++ expression_text sig metas level (steps_on (map plain_step (drop i xs)) r)
  step-appended level n i s xs r o p h e k w =
      let later = steps_on (map plain_step (drop (i + 1) xs)) r in
      let text = step_text level (plain_step s).0 (neutral_text sig metas level (plain_step s).1) in
      let deeper : n ≡ level + length (plain_step s).0 = k ∙ ap (λ ms. level + length ms) (sym (plain-step-modes s)) in
      let next : expression_text sig metas level (steps_on (map plain_step (drop i xs)) r) ≡ text ++ expression_text sig metas (level + length (plain_step s).0) later =
      ap (λ ss. expression_text sig metas level (steps_on (map plain_step ss) r)) (dropped xs i s h e) in
      ap (λ l. l ++ expression_text sig metas n later) w
      ∙ append_assoc o text (expression_text sig metas n later)
      ∙ ap (λ m. o ++ (text ++ expression_text sig metas m later)) deeper
      ∙ ap (λ l. o ++ l) (sym next)

  width-entries : (ts : List TupleEntry) → width (tuple_of (map plain_entry ts)) ≡ length ts
  width-entries [] = refl
  width-entries (t ∷ ts) = rw (width-entries ts) (omega arith)

  -- no step is left
  pub steps-ended : (level i : ℕ) (xs : List Step) (ts : List TupleEntry) → length xs ≤ i
      → expression_text sig metas level (steps_on (map plain_step (drop i xs)) (done (tuple_of (map plain_entry ts)))) ≡ listed (length ts) (tuple_text sig metas level (tuple_of (map plain_entry ts)))
  steps-ended level i xs ts h =
      let none : drop i xs ≡ [] = grind (arith, common_steps) in
      ap (λ ss. expression_text sig metas level (steps_on (map plain_step ss) (done (tuple_of (map plain_entry ts))))) none
      ∙ ap (λ n. listed n (tuple_text sig metas level (tuple_of (map plain_entry ts)))) (width-entries ts)

  comma-entries : (ts : List TupleEntry) → when (nat_lt 0 (length ts)) (codes ", ") ≡ tuple_comma (tuple_of (map plain_entry ts))
  comma-entries [] = refl
  comma-entries (t ∷ ts) = ap (λ b. when b (codes ", ")) (positive (length ts))

  -- an entry of a tuple, and the comma after it
  pub entry-appended : (level i left : ℕ) (t : TupleEntry) (xs : List TupleEntry) (o p q : List ℕ) → i < length xs → t ≡ get_or xs i t → left ≡ length xs - (i + 1)
      → p ≡ o ++ tuple_entry_text (plain_entry t).0 (is_atom (plain_entry t).1) (object_text sig metas level (plain_entry t).1)
      → q ≡ p ++ when (nat_lt 0 left) (codes ", ")
      → q ++ tuple_text sig metas level (tuple_of (map plain_entry (drop (i + 1) xs))) ≡ o ++ tuple_text sig metas level (tuple_of (map plain_entry (drop i xs)))
  entry-appended level i left t xs o p q h e k w v =
      let later = drop (i + 1) xs in
      let rest = tuple_text sig metas level (tuple_of (map plain_entry later)) in
      let text = tuple_entry_text (plain_entry t).0 (is_atom (plain_entry t).1) (object_text sig metas level (plain_entry t).1) in
      let sign = when (nat_lt 0 left) (codes ", ") in
      let comma : sign ≡ tuple_comma (tuple_of (map plain_entry later)) = ap (λ n. when (nat_lt 0 n) (codes ", ")) (k ∙ sym (length-drop (i + 1) xs)) ∙ comma-entries later in
      let next : tuple_text sig metas level (tuple_of (map plain_entry (drop i xs))) ≡ (text ++ tuple_comma (tuple_of (map plain_entry later))) ++ rest =
      ap (λ ts. tuple_text sig metas level (tuple_of (map plain_entry ts))) (dropped xs i t h e) in
      ap (λ l. l ++ rest) (v ∙ ap (λ l. l ++ sign) w)
      ∙ ap (λ l. l ++ rest) (append_assoc o text sign)
      ∙ append_assoc o (text ++ sign) rest
      ∙ ap (λ l. o ++ ((text ++ l) ++ rest)) comma
      ∙ ap (λ l. o ++ l) (sym next)

  pub goes_on-entries : (ts : List TeleEntry) → nat_lt 0 (length ts) ≡ not (is_end (telescope_of (map plain_tele_entry ts)))
  goes_on-entries [] = refl
  goes_on-entries (t ∷ ts) = positive (length ts)

  -- an entry of a telescope, in front of the rest
  pub tele_entry-appended : (level n i left : ℕ) (named : Bool) (t : TeleEntry) (xs : List TeleEntry) (o p : List ℕ) → i < length xs → t ≡ get_or xs i t → n ≡ level + 1 → left ≡ length xs - (i + 1)
      → named ≡ is_persistent (plain_tele_entry t).0 && occurs_telescope 0 (telescope_of (map plain_tele_entry (drop (i + 1) xs)))
      → p ≡ o ++ tele_entry_text (plain_tele_entry t).0 named (nat_lt 0 left) level (type_text sig metas level Whole (plain_tele_entry t).1) (type_text sig metas level Operand (plain_tele_entry t).1)
      → p ++ telescope_text sig metas n (telescope_of (map plain_tele_entry (drop (i + 1) xs))) ≡ o ++ telescope_text sig metas level (telescope_of (map plain_tele_entry (drop i xs)))
  tele_entry-appended level n i left named t xs o p h e d k m w =
      let later = drop (i + 1) xs in
      let shown : Bool → Bool → List ℕ = λ b g. tele_entry_text (plain_tele_entry t).0 b g level (type_text sig metas level Whole (plain_tele_entry t).1) (type_text sig metas level Operand (plain_tele_entry t).1) in
      let whether = is_persistent (plain_tele_entry t).0 && occurs_telescope 0 (telescope_of (map plain_tele_entry later)) in
      let more : nat_lt 0 left ≡ not (is_end (telescope_of (map plain_tele_entry later))) = ap (λ l. nat_lt 0 l) (k ∙ sym (length-drop (i + 1) xs)) ∙ goes_on-entries later in
      let same : shown named (nat_lt 0 left) ≡ shown whether (not (is_end (telescope_of (map plain_tele_entry later)))) = ap (λ b. shown b (nat_lt 0 left)) m ∙ ap (λ g. shown whether g) more in
      let next : telescope_text sig metas level (telescope_of (map plain_tele_entry (drop i xs))) ≡ shown whether (not (is_end (telescope_of (map plain_tele_entry later)))) ++ telescope_text sig metas (level + 1) (telescope_of (map plain_tele_entry later)) =
      ap (λ ts. telescope_text sig metas level (telescope_of (map plain_tele_entry ts))) (dropped xs i t h e) in
      ap (λ l. l ++ telescope_text sig metas n (telescope_of (map plain_tele_entry later))) (w ∙ ap (λ l. o ++ l) same)
      ∙ append_assoc o (shown whether (not (is_end (telescope_of (map plain_tele_entry later))))) (telescope_text sig metas n (telescope_of (map plain_tele_entry later)))
      ∙ ap (λ l. o ++ (shown whether (not (is_end (telescope_of (map plain_tele_entry later)))) ++ telescope_text sig metas l (telescope_of (map plain_tele_entry later)))) d
      ∙ ap (λ l. o ++ l) (sym next)
