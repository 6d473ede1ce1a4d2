-- An exchange keeps simple types.
use Rattle.clf_syntax.proofs.RenamingLaws.{cross_new, cross_old, cross_out, cut}
use Rattle.clf_syntax.specs.Renaming.{crossed, ren_expression, ren_head, ren_neutral, up}
use Rattle.clf_syntax.specs.Simple.{Assignment, extended, extended_by, simple_modes}
use Rattle.clf_syntax.specs.Tree.{PlainExpression, PlainNeutral, PlainObject, PlainTuple, head_of}
use Rattle.clf_syntax.specs.TypeTree.{SimpleTelescope, SimpleType, lax, simple_binding, simple_end}
use Rattle.clf_syntax.specs.declared.tree.Head.{Head}
use Rattle.clf_syntax.specs.declared.tree.Head.TheVariants.{Const, Meta, Var}
use Rattle.std.proofs.Common.{ap, arith, subst, sym, ⊎_elim, ◌∙◌}
use Rattle.std.specs.Prelude.{Bool, length, refl, suc, ℕ, ◌+◌, ◌-◌, ◌<◌, ◌≡◌, ◌≤◌, ◌⊎◌}
use Rattle.trace_equal.specs.Exchange.{Exchanged, ExchangedExpression, ExchangedNeutral, ExchangedTuple, Joined, exchange, in_argument, in_atomic, in_done, in_entry, in_fst, in_function, in_lam, in_later_entry, in_later_steps, in_left, in_monadic, in_right, in_right_side, in_snd, next, stop}
use Rattle.hered_subst.proofs.SimpleTyping.{Typed, TypedExpression, TypedNeutral, TypedTuple, extended_out, renamed_typed_expression, renamed_typed_neutral, typed_app, typed_atomic, typed_done, typed_entry, typed_fst, typed_lam, typed_metavariable, typed_monadic, typed_pair, typed_snd, typed_step}
use Rattle.hered_subst.proofs.Total.{extended_constant, extended_metavariable, raised_all}
use Rattle.subst_laws.proofs.TypedBack.{typed_back_neutral}

less_or : (i n : ℕ) → i < suc n → (i < n) ⊎ (i ≡ n)
less_or i n h = grind arith

extended_in : (ts : SimpleTelescope) (g k : Assignment) (i : ℕ) → i < length (simple_modes ts) → extended_by ts g (Var i) ≡ extended_by ts k (Var i)
extended_in simple_end g k i h = absurd (omega arith)
extended_in (simple_binding m t ts) g k i h = ⊎_elim (λ e. old (extended_in ts (extended t g) (extended t k) i e)) (λ e. ap (λ j. extended_by ts (extended t g) (Var j)) (e ∙ plain_sum (length (simple_modes ts))) ∙ extended_out ts (extended t g) 0 ∙ sym (ap (λ j. extended_by ts (extended t k) (Var j)) (e ∙ plain_sum (length (simple_modes ts))) ∙ extended_out ts (extended t k) 0)) (less_or i (length (simple_modes ts)) h)
  where
    old : extended_by ts (extended t g) (Var i) ≡ extended_by ts (extended t k) (Var i) → extended_by (simple_binding m t ts) g (Var i) ≡ extended_by (simple_binding m t ts) k (Var i)
    old e = e

    plain_sum : (n : ℕ) → n ≡ 0 + n
    plain_sum n = omega arith

cross_types : (ps qs : SimpleTelescope) (g : Assignment) (h : Head) → extended_by ps (extended_by qs g) (ren_head (crossed (length (simple_modes ps)) (length (simple_modes qs))) h) ≡ extended_by qs (extended_by ps g) h
cross_types ps qs g (Const c) = extended_constant ps (extended_by qs g) c ∙ extended_constant qs g c ∙ sym (extended_constant qs (extended_by ps g) c ∙ extended_constant ps g c)
cross_types ps qs g (Meta c) = extended_metavariable ps (extended_by qs g) c ∙ extended_metavariable qs g c ∙ sym (extended_metavariable qs (extended_by ps g) c ∙ extended_metavariable ps g c)
cross_types ps qs g (Var i) = ⊎_elim new (λ h. ⊎_elim (old h) out (cut i (length (simple_modes qs) + length (simple_modes ps)))) (cut i (length (simple_modes qs)))
  where
    a : ℕ
    a = length (simple_modes ps)

    b : ℕ
    b = length (simple_modes qs)

    Goal : ℕ → Type 0
    Goal j = extended_by ps (extended_by qs g) (Var (crossed a b j)) ≡ extended_by qs (extended_by ps g) (Var j)

    new : i < b → Goal i
    new h = ap (λ j. extended_by ps (extended_by qs g) (Var j)) (cross_new a b i h) ∙ extended_out ps (extended_by qs g) i ∙ extended_in qs g (extended_by ps g) i h

    old : b ≤ i → i < b + a → Goal i
    old h k = ap (λ j. extended_by ps (extended_by qs g) (Var j)) (cross_old a b i h k) ∙ extended_in ps (extended_by qs g) g (i - b) (less h k) ∙ sym (ap (λ j. extended_by qs (extended_by ps g) (Var j)) (back h) ∙ extended_out qs (extended_by ps g) (i - b))
      where
        less : b ≤ i → i < b + a → i - b < a
        less h k = omega arith

        back : b ≤ i → i ≡ i - b + b
        back h = omega arith

    out : b + a ≤ i → Goal i
    out h = ap (λ j. extended_by ps (extended_by qs g) (Var j)) (cross_out a b i h ∙ first_case h) ∙ extended_out ps (extended_by qs g) (i - b - a + b) ∙ extended_out qs g (i - b - a)
        ∙ sym (ap (λ j. extended_by qs (extended_by ps g) (Var j)) (second_case h) ∙ extended_out qs (extended_by ps g) (i - b - a + a) ∙ extended_out ps g (i - b - a))
      where
        first_case : b + a ≤ i → i ≡ i - b - a + b + a
        first_case h = omega arith

        second_case : b + a ≤ i → i ≡ i - b - a + a + b
        second_case h = omega arith

same_head_after : {a b : PlainNeutral} → ExchangedNeutral a b → head_of b ≡ head_of a
same_head_after (in_function x) = same_head_after x
same_head_after (in_argument x) = refl
same_head_after (in_fst x) = same_head_after x
same_head_after (in_snd x) = same_head_after x

mutual
  pub exchanged_typed : (w : Bool) {g : Assignment} {a b : PlainObject} {t : SimpleType} → Exchanged a b → Typed w g a t → Typed w g b t
  exchanged_typed w (in_lam x) (typed_lam p) = typed_lam (exchanged_typed w x p)
  exchanged_typed w (in_left x) (typed_pair p q) = typed_pair (exchanged_typed w x p) q
  exchanged_typed w (in_right x) (typed_pair p q) = typed_pair p (exchanged_typed w x q)
  exchanged_typed w (in_monadic x) (typed_monadic p) = typed_monadic (exchanged_typed_expression w x p)
  exchanged_typed w (in_atomic x) (typed_atomic p) = typed_atomic (exchanged_typed_neutral w x p)
  exchanged_typed w (in_atomic x) (typed_metavariable j p e) = typed_metavariable j (exchanged_typed_neutral w x p) (same_head_after x ∙ e)

  pub exchanged_typed_neutral : (w : Bool) {g : Assignment} {a b : PlainNeutral} {t : SimpleType} → ExchangedNeutral a b → TypedNeutral w g a t → TypedNeutral w g b t
  exchanged_typed_neutral w (in_function x) (typed_app p q) = typed_app (exchanged_typed_neutral w x p) q
  exchanged_typed_neutral w (in_argument x) (typed_app p q) = typed_app p (exchanged_typed w x q)
  exchanged_typed_neutral w (in_fst x) (typed_fst p) = typed_fst (exchanged_typed_neutral w x p)
  exchanged_typed_neutral w (in_snd x) (typed_snd p) = typed_snd (exchanged_typed_neutral w x p)

  pub exchanged_typed_expression : (w : Bool) {g : Assignment} {a b : PlainExpression} {ts : SimpleTelescope} → ExchangedExpression a b → TypedExpression w g a ts → TypedExpression w g b ts
  exchanged_typed_expression w (in_right_side x) (typed_step p m q) = typed_step (exchanged_typed_neutral w x p) m q
  exchanged_typed_expression w (in_later_steps x) (typed_step p m q) = typed_step p m (exchanged_typed_expression w x q)
  exchanged_typed_expression w (in_done x) (typed_done p) = typed_done (exchanged_typed_tuple w x p)
  exchanged_typed_expression w {g = g} (exchange {p = p} {q = q} {r = r} {s = s} {v = v} {w = x} {e = e} {f = f} h k l) (typed_step {ts = ps} pr m (typed_step {ts = qs} {us = us} px n pe)) =
      typed_step (typed_back_neutral w (extended_by ps g) (up (length (simple_modes ps))) g (raised_all ps g) v (subst (λ (o : PlainNeutral). TypedNeutral w (extended_by ps g) o (lax qs)) (h ∙ ap (λ i. ren_neutral (up i) v) (ap length m)) px)) n
      (typed_step (subst (λ (o : PlainNeutral). TypedNeutral w (extended_by qs g) o (lax ps)) (sym (k ∙ ap (λ i. ren_neutral (up i) r) (ap length n))) (renamed_typed_neutral (extended_by qs g) (up (length (simple_modes qs))) pr (raised_all qs g))) m
      (subst (λ (o : PlainExpression). TypedExpression w (extended_by ps (extended_by qs g)) o us) (sym (l ∙ ap (λ i. ren_expression (crossed i (length q)) e) (ap length m) ∙ ap (λ i. ren_expression (crossed (length (simple_modes ps)) i) e) (ap length n)))
      (renamed_typed_expression (extended_by ps (extended_by qs g)) (crossed (length (simple_modes ps)) (length (simple_modes qs))) pe (cross_types ps qs g))))

  pub exchanged_typed_tuple : (w : Bool) {g : Assignment} {a b : PlainTuple} {ts : SimpleTelescope} → ExchangedTuple a b → TypedTuple w g a ts → TypedTuple w g b ts
  exchanged_typed_tuple w (in_entry x) (typed_entry p q) = typed_entry (exchanged_typed w x p) q
  exchanged_typed_tuple w (in_later_entry x) (typed_entry p q) = typed_entry p (exchanged_typed_tuple w x q)

pub joined_typed : (w : Bool) {g : Assignment} {a b : PlainObject} {t : SimpleType} → Joined a b → Typed w g a t → Typed w g b t
joined_typed w stop p = p
joined_typed w (next x j) p = joined_typed w j (exchanged_typed w x p)
