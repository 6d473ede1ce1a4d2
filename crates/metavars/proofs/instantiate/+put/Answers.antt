use Rattle.std.proofs.Common.{ap, sym, subst, ◌∙◌, ◌≡◌, ◌<◌, ◌+◌, ◌-◌, List, ◌∷◌, [], ◌≤◌, map, length, take, drop, arith, ⊎_elim, None}
use Rattle.clf_syntax.specs.declared.tree.Head.TheVariants.{Meta}
use Rattle.clf_syntax.specs.declared.tree.Elim.{Elim}
use Rattle.clf_syntax.specs.declared.tree.Step.{Step}
use Rattle.clf_syntax.specs.declared.tree.TupleEntry.{TupleEntry}
use Rattle.clf_syntax.specs.declared.tree.Expr.{out-Expr}
use Rattle.clf_syntax.specs.Tree.{PlainNeutral, PlainExpression, lam, pair, monadic, atomic, arg, first, second, eliminated, head_alone, spine_on, step, steps_on, done, tuple_of}
use Rattle.clf_syntax.specs.Plain.{plain_obj, plain_neutral, plain_elim, plain_expr, plain_step, plain_entry, plain-Lam, plain-Pair, plain-Mon, plain-At, plain-Arg, plain-First, plain-Second, plain-neutral, plain-expr, plain-step, plain-entry}
use Rattle.hered_put.specs.declared.step.Rest.{Rest}
use Rattle.hered_put.specs.Outcomes.{plain_rest}
use Rattle.std.specs.List.{slice_get}
use Rattle.store_laws.specs.Additions.{meta_types}
use Rattle.metavars.specs.declared.value.Outcome.{Outcome}
use Rattle.metavars.specs.Becoming as becoming
use Rattle.metavars.specs.Stored.{additions}
use Rattle.metavars.specs.Outcomes.{BecomesOutcome, IsSolvedAt, UnderArgument, NotUnderArgument, UnderFirst, UnderSecond, NotProjected, InFront, NotInFront, plain_value}
use Rattle.metavars.proofs.Rests.{spine-next, spine-split, spine-whole, steps-none}
use Rattle.metavars.proofs.Values.{refused-by, gives-more}
use Rattle.metavars.proofs.Becomings.{under-argument, under-first, under-second, not-under-argument, not-under-first, not-under-second, no-argument, outcome-kept, outcome-solved, kept-const, kept-var, kept-meta, no-solution, no-type, step-in-front, not-in-front, no-right-side, no-rest, no-step, no-done, object-value, no-entry, no-entry-done, no-spine, no-lam, no-left, no-right, no-monadic, no-atomic, expression-done, each-next}
use Rattle.metavars.proofs.instantiate.+put.Goals as goal

-- ---- objects

pub put_object-returns-in_err-body-in-Lam : goal.put_object-returns-in_err-body-in-Lam
put_object-returns-in_err-body-in-Lam t c =
    let store = c.args.looking.now.store.now in
    let b = plain_obj c.get.result.now in
    let is : plain_obj c.args.obj.now ≡ lam c.in-Lam.mode b = cc (plain-Lam c.in-Lam.mode c.in-Lam.body, c.get.ensures) in
    let same : c.in_ok-inside.inside.store.now ≡ store = cc (c.in_ok-inside.ensures.store) in
    refused-by _ _ _ _ _ c.from_residual-in_err-body-in-Lam.ensures.1 (λ h. subst (becoming.NoObject store) (sym is) (no-lam store c.in-Lam.mode b (subst (λ w. becoming.NoObject w b) same h))) c.in_err-body-in-Lam.ensures

pub put_object-returns-in_err-left-in-Pair : goal.put_object-returns-in_err-left-in-Pair
put_object-returns-in_err-left-in-Pair t c =
    let store = c.args.looking.now.store.now in
    let b = plain_obj c.get-in-Pair.result.now in
    let r = plain_obj c.in-Pair.right in
    let is : plain_obj c.args.obj.now ≡ pair b r = cc (plain-Pair c.in-Pair.left c.in-Pair.right, c.get-in-Pair.ensures) in
    let same : c.in_ok-inside.inside.store.now ≡ store = cc (c.in_ok-inside.ensures.store) in
    refused-by _ _ _ _ _ c.from_residual-in_err-left-in-Pair.ensures.1 (λ h. subst (becoming.NoObject store) (sym is) (no-left store b r (subst (λ w. becoming.NoObject w b) same h))) c.in_err-left-in-Pair.ensures

pub put_object-returns-in_err-right-in-Pair : goal.put_object-returns-in_err-right-in-Pair
put_object-returns-in_err-right-in-Pair t c =
    let store = c.args.looking.now.store.now in
    let l = plain_obj c.in-Pair.left in
    let b = plain_obj c.get-in-Pair-2.result.now in
    let is : plain_obj c.args.obj.now ≡ pair l b = cc (plain-Pair c.in-Pair.left c.in-Pair.right, c.get-in-Pair-2.ensures) in
    let same : c.in_ok-inside.inside.store.now ≡ store = cc (c.in_ok-inside.ensures.store) in
    refused-by _ _ _ _ _ c.from_residual-in_err-right-in-Pair.ensures.1 (λ h. subst (becoming.NoObject store) (sym is) (no-right store l b (subst (λ w. becoming.NoObject w b) same h))) c.in_err-right-in-Pair.ensures

pub put_object-returns-in_err-expr-in-Mon : goal.put_object-returns-in_err-expr-in-Mon
put_object-returns-in_err-expr-in-Mon t c =
    let store = c.args.looking.now.store.now in
    let b = plain_expr c.get-in-Mon.result.now in
    let is : plain_obj c.args.obj.now ≡ monadic b = cc (plain-Mon c.in-Mon.expr, c.get-in-Mon.ensures) in
    let same : c.in_ok-inside.inside.store.now ≡ store = cc (c.in_ok-inside.ensures.store) in
    refused-by _ _ _ _ _ c.from_residual-in_err-expr-in-Mon.ensures.1 (λ h. subst (becoming.NoObject store) (sym is) (no-monadic store b (subst (λ w. becoming.NoExpression w b) same h))) c.in_err-expr-in-Mon.ensures

pub put_object-returns-in_err-neutral-in-At : goal.put_object-returns-in_err-neutral-in-At
put_object-returns-in_err-neutral-in-At t c =
    let store = c.args.looking.now.store.now in
    let b = plain_neutral c.in-At.neutral in
    let is : plain_obj c.args.obj.now ≡ atomic b = cc (plain-At c.in-At.neutral) in
    let same : c.in_ok-inside.inside.store.now ≡ store = cc (c.in_ok-inside.ensures.store) in
    refused-by _ _ _ _ _ c.from_residual-in_err-neutral-in-At.ensures.1 (λ h. subst (becoming.NoObject store) (sym is) (no-atomic store b (subst (λ w. becoming.NoNeutral w b) same h))) c.in_err-neutral-in-At.ensures

pub put_object-returns-in-Solved : goal.put_object-returns-in-Solved
put_object-returns-in-Solved t c =
    let store = c.args.looking.now.store.now in
    let n = plain_neutral c.in-At.neutral in
    let v = plain_value c.in-Solved.value in
    let is : plain_obj c.args.obj.now ≡ atomic n = cc (plain-At c.in-At.neutral) in
    let same : c.in_ok-inside.inside.store.now ≡ store = cc (c.in_ok-inside.ensures.store) in
    let becomes = subst (λ o. BecomesOutcome c.in_ok-inside.inside.store.now n o) c.in-Solved.is c.in_ok-neutral-in-At.ensures in
    subst (λ o. becoming.Object store o v.0) (sym is) (object-value store n v (subst (λ w. becoming.Value w n v) same becomes))

pub put_entry-returns-in_err-put_object : goal.put_entry-returns-in_err-put_object
put_entry-returns-in_err-put_object t c =
    let store = c.args.looking.now.store.now in
    refused-by _ _ _ _ _ c.from_residual.ensures.1 (λ h. subst (becoming.NoEntry store) (sym (plain-entry c.args.entry.now)) (no-entry-done store c.args.entry.now.mode (plain_obj c.args.entry.now.obj) h)) c.in_err-put_object.ensures

-- ---- eliminations

pub eliminate-returns-in_err-argument-in-Arg : goal.eliminate-returns-in_err-argument-in-Arg
eliminate-returns-in_err-argument-in-Arg t c =
    let store = c.args.looking.now.store.now in
    let o = plain_obj c.in-Arg.obj in
    let is : plain_elim c.args.act.now ≡ arg c.in-Arg.mode o = cc (plain-Arg c.in-Arg.mode c.in-Arg.obj) in
    refused-by _ _ _ _ _ c.from_residual.ensures.1 (λ h n b. subst (λ e. becoming.NoNeutral store (eliminated e n)) (sym is) (no-argument store c.in-Arg.mode n o h)) c.in_err-argument-in-Arg.ensures

pub eliminate-returns-in_ok-argument-in-Arg : goal.eliminate-returns-in_ok-argument-in-Arg
eliminate-returns-in_ok-argument-in-Arg t c =
    let store = c.args.looking.now.store.now in
    let o = plain_obj c.in-Arg.obj in
    let y = plain_obj c.in_ok-argument-in-Arg.argument in
    let is : plain_elim c.args.act.now ≡ arg c.in-Arg.mode o = cc (plain-Arg c.in-Arg.mode c.in-Arg.obj) in
    gives-more (NotUnderArgument c.in-Arg.mode y c.args.outcome) ((n : PlainNeutral) → BecomesOutcome store n c.args.outcome → becoming.NoNeutral store (eliminated (plain_elim c.args.act.now) n)) (λ (x : Outcome). UnderArgument c.in-Arg.mode y c.args.outcome x)
    (λ (x : Outcome). (n : PlainNeutral) → BecomesOutcome store n c.args.outcome → BecomesOutcome store (eliminated (plain_elim c.args.act.now) n) x) c.under_argument.result
    (λ h n b. subst (λ e. becoming.NoNeutral store (eliminated e n)) (sym is) (not-under-argument store c.in-Arg.mode n o y c.args.outcome b c.in_ok-argument-in-Arg.ensures h))
    (λ x h n b. subst (λ e. BecomesOutcome store (eliminated e n) x) (sym is) (under-argument store c.in-Arg.mode n o y c.args.outcome x b c.in_ok-argument-in-Arg.ensures h))
    c.under_argument.ensures

pub eliminate-returns-in-First : goal.eliminate-returns-in-First
eliminate-returns-in-First t c =
    let store = c.args.looking.now.store.now in
    let is : plain_elim c.args.act.now ≡ first = cc (plain-First) in
    gives-more (NotProjected c.args.outcome) ((n : PlainNeutral) → BecomesOutcome store n c.args.outcome → becoming.NoNeutral store (eliminated (plain_elim c.args.act.now) n)) (λ (x : Outcome). UnderFirst c.args.outcome x)
    (λ (x : Outcome). (n : PlainNeutral) → BecomesOutcome store n c.args.outcome → BecomesOutcome store (eliminated (plain_elim c.args.act.now) n) x) c.under_first.result
    (λ h n b. subst (λ e. becoming.NoNeutral store (eliminated e n)) (sym is) (not-under-first store n c.args.outcome b h))
    (λ x h n b. subst (λ e. BecomesOutcome store (eliminated e n) x) (sym is) (under-first store n c.args.outcome x b h))
    c.under_first.ensures

pub eliminate-returns-in-Second : goal.eliminate-returns-in-Second
eliminate-returns-in-Second t c =
    let store = c.args.looking.now.store.now in
    let is : plain_elim c.args.act.now ≡ second = cc (plain-Second) in
    gives-more (NotProjected c.args.outcome) ((n : PlainNeutral) → BecomesOutcome store n c.args.outcome → becoming.NoNeutral store (eliminated (plain_elim c.args.act.now) n)) (λ (x : Outcome). UnderSecond c.args.outcome x)
    (λ (x : Outcome). (n : PlainNeutral) → BecomesOutcome store n c.args.outcome → BecomesOutcome store (eliminated (plain_elim c.args.act.now) n) x) c.under_second.result
    (λ h n b. subst (λ e. becoming.NoNeutral store (eliminated e n)) (sym is) (not-under-second store n c.args.outcome b h))
    (λ x h n b. subst (λ e. BecomesOutcome store (eliminated e n) x) (sym is) (under-second store n c.args.outcome x b h))
    c.under_second.ensures

-- ---- heads

pub put_head-returns-in-Const : goal.put_head-returns-in-Const
put_head-returns-in-Const t c =
    let store = c.args.looking.now.store.now in
    outcome-kept store (head_alone c.args.head) c.kept_head.result c.kept_head.ensures (⊎_elim
    (λ h. subst (λ j. becoming.Kept store (head_alone j) (head_alone j)) (sym h.1) (kept-const store h.0))
    (λ h. subst (λ j. becoming.Kept store (head_alone j) (head_alone j)) (sym h.1) (kept-var store h.0))
    c.in-Const.is)

pub put_meta-returns-in-None : goal.put_meta-returns-in-None
put_meta-returns-in-None t c =
    let store = c.args.looking.now.store.now in
    outcome-kept store (head_alone (Meta c.args.meta)) c.kept_head.result c.kept_head.ensures (kept-meta store c.args.meta (sym c.in-None.ensures))

pub put_meta-returns-in_err-obj-in-Some : goal.put_meta-returns-in_err-obj-in-Some
put_meta-returns-in_err-obj-in-Some t c =
    let store = c.args.looking.now.store.now in
    refused-by _ _ _ _ _ c.from_residual.ensures.1 (λ h. no-solution store c.args.meta (plain_obj c.in-Some.solution.now) (sym c.in-Some.ensures) h) c.in_err-obj-in-Some.ensures

pub put_meta-returns-in_ok-obj-in-Some : goal.put_meta-returns-in_ok-obj-in-Some
put_meta-returns-in_ok-obj-in-Some t c =
    let store = c.args.looking.now.store.now in
    let o = plain_obj c.in-Some.solution.now in
    let x = plain_obj c.in_ok-obj-in-Some.obj in
    gives-more (slice_get (meta_types (additions store)) c.args.meta ≡ None) (becoming.NoNeutral store (head_alone (Meta c.args.meta))) (λ (v : Outcome). IsSolvedAt x (slice_get (meta_types (additions store)) c.args.meta) v)
    (λ (v : Outcome). BecomesOutcome store (head_alone (Meta c.args.meta)) v) c.solved_head.result
    (λ h. no-type store c.args.meta o (sym c.in-Some.ensures) h)
    (λ v h. outcome-solved store c.args.meta o x v (sym c.in-Some.ensures) c.in_ok-obj-in-Some.ensures h)
    c.solved_head.ensures

-- ---- spines

pub put_neutral-returns-in_err-outcome : goal.put_neutral-returns-in_err-outcome
put_neutral-returns-in_err-outcome t c =
    let store = c.args.looking.now.store.now in
    let n = c.args.neutral.now in
    refused-by _ _ _ _ _ c.from_residual.ensures.1 (λ h. subst (becoming.NoNeutral store) (sym (plain-neutral n)) (no-spine store (map plain_elim n.spine) (head_alone n.head) h)) c.in_err-outcome.ensures

pub put_neutral-returns-in_err-outcome-2 : goal.put_neutral-returns-in_err-outcome-2
put_neutral-returns-in_err-outcome-2 t c =
    let store = c.args.looking.now.store.now in
    let n = c.args.neutral.now in
    let i = c.loop-act.act-index in
    let xs = c.as_slice-act-items.result.now in
    let lt : i < length xs = omega arith in
    let front = spine_on (map plain_elim (take (i + 1) xs)) (head_alone n.head) in
    let next = spine-next xs i c.act-item.result (head_alone n.head) lt c.act-item.is in
    let whole = spine-split xs (i + 1) (head_alone n.head) ∙ ap (λ (ys : List Elim). spine_on (map plain_elim ys) (head_alone n.head)) c.as_slice-act-items.ensures ∙ sym (plain-neutral n) in
    refused-by _ _ _ _ _ c.from_residual-in_err-outcome-2.ensures.1
    (λ h. subst (becoming.NoNeutral store) whole (no-spine store (map plain_elim (drop (i + 1) xs)) front (subst (becoming.NoNeutral store) (sym next) (h _ c.loop-act.invariant)))) c.in_err-outcome-2.ensures

pub put_neutral-loop-act-preserved : goal.put_neutral-loop-act-preserved
put_neutral-loop-act-preserved t c =
    let i = c.loop-act.act-index in
    let xs = c.as_slice-act-items.result.now in
    let lt : i < length xs = omega arith in
    subst (λ n. BecomesOutcome c.args.looking.now.store.now n c.in_ok-outcome-2.outcome) (sym (spine-next xs i c.act-item.result (head_alone c.args.neutral.now.head) lt c.act-item.is))
    (c.in_ok-outcome-2.ensures _ c.loop-act.invariant)

pub put_neutral-returns : goal.put_neutral-returns
put_neutral-returns t c =
    let i = c.loop-act.act-index in
    let e = c.as_slice-act-items.ensures in
    let done_all : length c.args.neutral.now.spine ≤ i = omega (arith, ap length e) in
    subst (λ n. BecomesOutcome c.args.looking.now.store.now n c.loop-act.outcome) (ap (λ (ys : List Elim). spine_on (map plain_elim (take i ys)) (head_alone c.args.neutral.now.head)) e ∙ spine-whole c.args.neutral.now i done_all) c.loop-act.invariant

-- ---- steps

pub put_expression-loop-left-init : goal.put_expression-loop-left-init
put_expression-loop-left-init t c =
    let store = c.args.looking.now.store.now in
    let steps = c.as_slice-steps.result.now in
    let past : length steps ≤ length steps = omega arith in
    let whole = (out-Expr c.args.expr.now).result in
    let parts = subst (λ (es : List TupleEntry). becoming.Each (becoming.Entry store) (map plain_entry es) (map plain_entry c.in_ok-tuple.tuple)) c.as_slice.ensures c.in_ok-tuple.ensures in (
      past,
      subst (λ r. becoming.Expression store (steps_on (map plain_step (drop (length steps) steps)) (done (tuple_of (map plain_entry whole)))) r) (sym c.of_tuple-rest.ensures)
          (subst (λ z. becoming.Expression store z (done (tuple_of (map plain_entry c.in_ok-tuple.tuple)))) (sym (steps-none steps (length steps) (done (tuple_of (map plain_entry whole))) past)) (expression-done store _ _ parts)),
    )

pub put_expression-returns-in_err-tuple : goal.put_expression-returns-in_err-tuple
put_expression-returns-in_err-tuple t c =
    let store = c.args.looking.now.store.now in
    let e = c.args.expr.now in
    let whole = map plain_entry (out-Expr e).result in
    refused-by _ _ _ _ _ c.from_residual.ensures.1
    (λ h. subst (becoming.NoExpression store) (sym (plain-expr e)) (no-rest store (map plain_step (out-Expr e).steps) (done (tuple_of whole)) (no-done store whole (subst (λ (es : List TupleEntry). becoming.NoTuple store (map plain_entry es)) c.as_slice.ensures h)))) c.in_err-tuple.ensures

pub put_expression-returns-in_err-rest : goal.put_expression-returns-in_err-rest
put_expression-returns-in_err-rest t c =
    let store = c.args.looking.now.store.now in
    let e = c.args.expr.now in
    let end : PlainExpression = done (tuple_of (map plain_entry (out-Expr e).result)) in
    let xs = c.as_slice-steps.result.now in
    let x = c.index-steps-left.result in
    let i = c.loop-left.left - 1 in
    let lt : i < length xs = omega (arith, c.loop-left.invariant.0) in
    let next : i + 1 ≡ c.loop-left.left = omega arith in
    let whole = ap (λ (ys : List Step). steps_on (map plain_step ys) end) c.as_slice-steps.ensures ∙ sym (plain-expr e) in
    refused-by _ _ _ _ _ c.from_residual-in_err-rest.ensures.1
    (λ h. subst (becoming.NoExpression store) whole (no-step store xs i x end lt c.index-steps-left.is
    (subst (λ k. becoming.NoExpression store (steps_on (plain_step x ∷ []) (steps_on (map plain_step (drop k xs)) end))) (sym next) (h _ c.loop-left.invariant.1)))) c.in_err-rest.ensures

pub put_step-returns-in_err-outcome : goal.put_step-returns-in_err-outcome
put_step-returns-in_err-outcome t c =
    let store = c.args.looking.now.store.now in
    let s = c.args.step.now in
    refused-by _ _ _ _ _ c.from_residual.ensures.1 (λ h e k. subst (λ p. becoming.NoExpression store (step p.0 p.1 e)) (sym (plain-step s)) (no-right-side store s.modes _ e h)) c.in_err-outcome.ensures

pub put_step-returns : goal.put_step-returns
put_step-returns t c =
    let store = c.args.looking.now.store.now in
    let o = c.in_ok-outcome.outcome in
    let f = plain_rest c.args.rest in
    gives-more (NotInFront c.args.step.now.modes o f) ((e : PlainExpression) → becoming.Expression store e f → becoming.NoExpression store (steps_on (plain_step c.args.step.now ∷ []) e))
    (λ (r : Rest). InFront c.args.step.now.modes o f (plain_rest r)) (λ (r : Rest). (e : PlainExpression) → becoming.Expression store e f → becoming.Expression store (steps_on (plain_step c.args.step.now ∷ []) e) (plain_rest r)) c.in_front.result
    (λ h e k. subst (λ p. becoming.NoExpression store (step p.0 p.1 e)) (sym (plain-step c.args.step.now)) (not-in-front store c.args.step.now.modes _ o e f c.in_ok-outcome.ensures k h))
    (λ r h e k. subst (λ p. becoming.Expression store (step p.0 p.1 e) (plain_rest r)) (sym (plain-step c.args.step.now)) (step-in-front store c.args.step.now.modes _ o e f (plain_rest r) c.in_ok-outcome.ensures k h))
    c.in_front.ensures

-- ---- tuples

pub put_tuple-returns-in_err-put_entry : goal.put_tuple-returns-in_err-put_entry
put_tuple-returns-in_err-put_entry t c =
    let store = c.args.looking.now.store.now in
    let i = c.loop-entry.entry-index in
    let xs = c.args.tuple.now in
    let lt : i < length xs = omega arith in
    refused-by _ _ _ _ _ c.from_residual.ensures.1 (λ h. no-entry store xs i c.entry-item.result lt c.entry-item.is h) c.in_err-put_entry.ensures

pub put_tuple-loop-entry-init : goal.put_tuple-loop-entry-init
put_tuple-loop-entry-init t c = subst (λ es. becoming.Each (becoming.Entry c.args.looking.now.store.now) [] (map plain_entry es)) (sym c.new-entries.ensures) becoming.none

pub put_tuple-loop-entry-preserved : goal.put_tuple-loop-entry-preserved
put_tuple-loop-entry-preserved t c =
    let i = c.loop-entry.entry-index in
    let xs = c.args.tuple.now in
    let lt : i < length xs = omega arith in
    subst (λ es. becoming.Each (becoming.Entry c.args.looking.now.store.now) (map plain_entry (take (i + 1) xs)) (map plain_entry es)) (sym c.in_ok-push.ensures.ok)
    (each-next plain_entry (becoming.Entry c.args.looking.now.store.now) xs i c.entry-item.result c.loop-entry.entries c.in_ok-put_entry.field-0 c.loop-entry.invariant lt c.entry-item.is c.in_ok-put_entry.ensures)
