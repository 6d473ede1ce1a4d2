-- The tree in memory whose plain tree this is: each object, neutral and expression comes back from its plain tree.
use Rattle.std.proofs.Common.{◌≡◌, ◌∙◌, List, [], ◌∷◌, ◌++◌, map, refl, sym, ap, subst}
use Rattle.clf_syntax.specs.declared.tree.Mode.{Mode}
use Rattle.clf_syntax.specs.declared.tree.Head.{Head}
use Rattle.clf_syntax.specs.declared.tree.Obj.{Obj, Lam, Pair, Unit as UnitObj, Mon, At, Hole, roll-Obj, map-Obj, ind-Obj}
use Rattle.clf_syntax.specs.declared.tree.Obj.TheVariants.{rolls-Lam, rolls-Pair, rolls-Unit, rolls-Mon, rolls-At, rolls-Hole}
use Rattle.clf_syntax.specs.declared.tree.Neutral.{Neutral, roll-Neutral, map-Neutral, ind-Neutral, fold-roll-Neutral}
use Rattle.clf_syntax.specs.declared.tree.Elim.{Elim, Arg, First, Second, roll-Elim, map-Elim}
use Rattle.clf_syntax.specs.declared.tree.Elim.TheVariants.{rolls-Arg, rolls-First, rolls-Second}
use Rattle.clf_syntax.specs.declared.tree.Expr.{Expr, roll-Expr, map-Expr, ind-Expr}
use Rattle.clf_syntax.specs.declared.tree.Step.{Step, roll-Step, map-Step, fold-roll-Step}
use Rattle.clf_syntax.specs.declared.tree.TupleEntry.{TupleEntry, roll-TupleEntry, map-TupleEntry, fold-roll-TupleEntry}
use Rattle.clf_syntax.specs.declared.tree.Elim.TheOpen as layer
use Rattle.clf_syntax.specs.Tree.{PlainObject, lam, pair, unit, monadic, atomic, hole, PlainNeutral, head_alone, app, fst, snd, PlainExpression, step, done, PlainTuple, empty, entry, PlainElimination, arg, first, second, eliminated, spine_on, steps_on, tuple_of, head_of}
use Rattle.clf_syntax.specs.Plain.{on_elim, on_obj, on_expr, on_neutral, on_step, on_entry, plain_obj, plain_elim, plain_expr, plain_neutral, plain_step, plain_entry, plain-Lam, plain-Pair, plain-Unit, plain-Mon, plain-At, plain-Hole, plain-Arg, plain-First, plain-Second, plain-Expr}

abbrev mutual
  pub object_back : PlainObject → Obj
  object_back (lam m b) = Lam m (object_back b)
  object_back (pair l r) = Pair (object_back l) (object_back r)
  object_back unit = UnitObj
  object_back (monadic e) = Mon (roll-Expr (record { steps = steps_back e; result = result_back e }))
  object_back (atomic n) = At (roll-Neutral (record { head = head_of n; spine = spine_back n [] }))
  object_back hole = Hole

  -- the spine of a neutral, before these eliminations
  spine_back : PlainNeutral → List Elim → List Elim
  spine_back (head_alone h) es = es
  spine_back (app m r o) es = spine_back r (Arg m (object_back o) ∷ es)
  spine_back (fst r) es = spine_back r (First ∷ es)
  spine_back (snd r) es = spine_back r (Second ∷ es)

  steps_back : PlainExpression → List Step
  steps_back (step ms r e) = roll-Step (record { modes = ms; rhs = roll-Neutral (record { head = head_of r; spine = spine_back r [] }) }) ∷ steps_back e
  steps_back (done t) = []

  result_back : PlainExpression → List TupleEntry
  result_back (step ms r e) = result_back e
  result_back (done t) = entries_back t

  entries_back : PlainTuple → List TupleEntry
  entries_back empty = []
  entries_back (entry m n t) = roll-TupleEntry (record { mode = m; obj = object_back n }) ∷ entries_back t

abbrev pub neutral_back : PlainNeutral → Neutral
neutral_back n = roll-Neutral (record { head = head_of n; spine = spine_back n [] })

abbrev pub expression_back : PlainExpression → Expr
expression_back e = roll-Expr (record { steps = steps_back e; result = result_back e })

abbrev elimination_back : PlainElimination → Elim
elimination_back (arg m o) = Arg m (object_back o)
elimination_back first = First
elimination_back second = Second

abbrev step_back : List Mode × PlainNeutral → Step
step_back s = roll-Step (record { modes = s.0; rhs = neutral_back s.1 })

abbrev entry_back : Mode × PlainObject → TupleEntry
entry_back t = roll-TupleEntry (record { mode = t.0; obj = object_back t.1 })

-- ---- lists of parts

head-spine : (es : List PlainElimination) (r : PlainNeutral) → head_of (spine_on es r) ≡ head_of r
head-spine [] r = refl
head-spine (arg m o ∷ es) r = head-spine es (app m r o)
head-spine (first ∷ es) r = head-spine es (fst r)
head-spine (second ∷ es) r = head-spine es (snd r)

spine-back : (es : List PlainElimination) (r : PlainNeutral) (more : List Elim) → spine_back (spine_on es r) more ≡ spine_back r (map elimination_back es ++ more)
spine-back [] r more = refl
spine-back (arg m o ∷ es) r more = spine-back es (app m r o) more
spine-back (first ∷ es) r more = spine-back es (fst r) more
spine-back (second ∷ es) r more = spine-back es (snd r) more

steps-back : (ss : List (List Mode × PlainNeutral)) (t : PlainTuple) → steps_back (steps_on ss (done t)) ≡ map step_back ss
steps-back [] t = refl
steps-back (s ∷ ss) t = ap (λ xs. step_back s ∷ xs) (steps-back ss t)

result-back : (ss : List (List Mode × PlainNeutral)) (t : PlainTuple) → result_back (steps_on ss (done t)) ≡ entries_back t
result-back [] t = refl
result-back (s ∷ ss) t = result-back ss t

entries-back : (ts : List (Mode × PlainObject)) → entries_back (tuple_of ts) ≡ map entry_back ts
entries-back [] = refl
entries-back (t ∷ ts) = ap (λ xs. entry_back t ∷ xs) (entries-back ts)

ends : {X : Type 0} (xs : List X) → xs ++ [] ≡ xs
ends [] = refl
ends (x ∷ xs) = ap (λ ys. x ∷ ys) (ends xs)

-- what comes back one by one comes back as a list
pub each-back : {X Y : Type 0} (plain : X → Y) (back : Y → X) (es : List ((x : X) × (back (plain x) ≡ x)))
    → map back (map plain (map (λ (e : (x : X) × (back (plain x) ≡ x)). e.0) es)) ≡ map (λ (e : (x : X) × (back (plain x) ≡ x)). e.0) es
each-back plain back [] = refl
each-back plain back (e ∷ es) = ap (λ x. x ∷ map back (map plain (map (λ e. e.0) es))) e.1 ∙ ap (λ xs. e.0 ∷ xs) (each-back plain back es)

-- ---- equations of the folds that have none by a variant

pub plain_neutral-made : (h : Head) (es : List Elim) → plain_neutral (roll-Neutral (record { head = h; spine = es })) ≡ spine_on (map plain_elim es) (head_alone h)
unfolding plain_obj plain_elim plain_expr plain_neutral plain_step plain_entry
plain_neutral-made h es = fold-roll-Neutral _ _ _ _ _ _ on_elim on_obj on_expr on_neutral on_step on_entry (record { head = h; spine = es })

plain_step-made : (ms : List Mode) (n : Neutral) → plain_step (roll-Step (record { modes = ms; rhs = n })) ≡ (ms, plain_neutral n)
unfolding plain_obj plain_elim plain_expr plain_neutral plain_step plain_entry
plain_step-made ms n = fold-roll-Step _ _ _ _ _ _ on_elim on_obj on_expr on_neutral on_step on_entry (record { modes = ms; rhs = n })

plain_entry-made : (m : Mode) (o : Obj) → plain_entry (roll-TupleEntry (record { mode = m; obj = o })) ≡ (m, plain_obj o)
unfolding plain_obj plain_elim plain_expr plain_neutral plain_step plain_entry
plain_entry-made m o = fold-roll-TupleEntry _ _ _ _ _ _ on_elim on_obj on_expr on_neutral on_step on_entry (record { mode = m; obj = o })

-- ---- claims

abbrev ElimBack : Elim → Type 0
ElimBack e = elimination_back (plain_elim e) ≡ e

abbrev pub ObjBack : Obj → Type 0
ObjBack o = object_back (plain_obj o) ≡ o

abbrev pub ExprBack : Expr → Type 0
ExprBack e = expression_back (plain_expr e) ≡ e

abbrev pub NeutralBack : Neutral → Type 0
NeutralBack n = neutral_back (plain_neutral n) ≡ n

abbrev StepBack : Step → Type 0
StepBack s = step_back (plain_step s) ≡ s

abbrev EntryBack : TupleEntry → Type 0
EntryBack t = entry_back (plain_entry t) ≡ t

-- parts that come back
abbrev E : Type 0
E = (e : Elim) × ElimBack e

abbrev O : Type 0
O = (o : Obj) × ObjBack o

abbrev X : Type 0
X = (e : Expr) × ExprBack e

abbrev N : Type 0
N = (n : Neutral) × NeutralBack n

abbrev S : Type 0
S = (s : Step) × StepBack s

abbrev T : Type 0
T = (t : TupleEntry) × EntryBack t

elim-made : (y : layer.Elim-F E O X N S T) → ElimBack (roll-Elim (map-Elim E O X N S T Elim Obj Expr Neutral Step TupleEntry (λ (e : E). e.0) (λ (e : O). e.0) (λ (e : X). e.0) (λ (e : N). e.0) (λ (e : S). e.0) (λ (e : T). e.0) y))
elim-made (layer.Arg m o) = subst ElimBack (sym (rolls-Arg m o.0)) (ap elimination_back (plain-Arg m o.0) ∙ ap (Arg m) o.1)
elim-made layer.First = subst ElimBack (sym rolls-First) (ap elimination_back plain-First)
elim-made layer.Second = subst ElimBack (sym rolls-Second) (ap elimination_back plain-Second)

obj-made : (y : layer.Obj-F E O X N S T) → ObjBack (roll-Obj (map-Obj E O X N S T Elim Obj Expr Neutral Step TupleEntry (λ (e : E). e.0) (λ (e : O). e.0) (λ (e : X). e.0) (λ (e : N). e.0) (λ (e : S). e.0) (λ (e : T). e.0) y))
obj-made (layer.Lam m b) = subst ObjBack (sym (rolls-Lam m b.0)) (ap object_back (plain-Lam m b.0) ∙ ap (Lam m) b.1)
obj-made (layer.Pair l r) = subst ObjBack (sym (rolls-Pair l.0 r.0)) (ap object_back (plain-Pair l.0 r.0) ∙ ap (λ x. Pair x (object_back (plain_obj r.0))) l.1 ∙ ap (Pair l.0) r.1)
obj-made layer.Unit = subst ObjBack (sym rolls-Unit) (ap object_back plain-Unit)
obj-made (layer.Mon e) = subst ObjBack (sym (rolls-Mon e.0)) (ap object_back (plain-Mon e.0) ∙ ap Mon e.1)
obj-made (layer.At n) = subst ObjBack (sym (rolls-At n.0)) (ap object_back (plain-At n.0) ∙ ap At n.1)
obj-made layer.Hole = subst ObjBack (sym rolls-Hole) (ap object_back plain-Hole)

expr-made : (y : layer.Expr-F E O X N S T) → ExprBack (roll-Expr (map-Expr E O X N S T Elim Obj Expr Neutral Step TupleEntry (λ (e : E). e.0) (λ (e : O). e.0) (λ (e : X). e.0) (λ (e : N). e.0) (λ (e : S). e.0) (λ (e : T). e.0) y))
expr-made y =
    let ss = map (λ (s : S). s.0) y.steps in
    let ts = map (λ (t : T). t.0) y.result in
    let steps : steps_back (steps_on (map plain_step ss) (done (tuple_of (map plain_entry ts)))) ≡ ss =
    steps-back (map plain_step ss) (tuple_of (map plain_entry ts)) ∙ each-back plain_step step_back y.steps in
    let result : result_back (steps_on (map plain_step ss) (done (tuple_of (map plain_entry ts)))) ≡ ts =
    result-back (map plain_step ss) (tuple_of (map plain_entry ts)) ∙ entries-back (map plain_entry ts) ∙ each-back plain_entry entry_back y.result in
    ap expression_back (plain-Expr ss ts)
    ∙ ap (λ xs. roll-Expr (record { steps = xs; result = result_back (steps_on (map plain_step ss) (done (tuple_of (map plain_entry ts)))) })) steps
    ∙ ap (λ xs. roll-Expr (record { steps = ss; result = xs })) result

neutral-made : (y : layer.Neutral-F E O X N S T) → NeutralBack (roll-Neutral (map-Neutral E O X N S T Elim Obj Expr Neutral Step TupleEntry (λ (e : E). e.0) (λ (e : O). e.0) (λ (e : X). e.0) (λ (e : N). e.0) (λ (e : S). e.0) (λ (e : T). e.0) y))
neutral-made y =
    let es = map (λ (e : E). e.0) y.spine in
    let spine : spine_back (spine_on (map plain_elim es) (head_alone y.head)) [] ≡ es =
    spine-back (map plain_elim es) (head_alone y.head) [] ∙ ends (map elimination_back (map plain_elim es)) ∙ each-back plain_elim elimination_back y.spine in
    ap neutral_back (plain_neutral-made y.head es)
    ∙ ap (λ h. roll-Neutral (record { head = h; spine = spine_back (spine_on (map plain_elim es) (head_alone y.head)) [] })) (head-spine (map plain_elim es) (head_alone y.head))
    ∙ ap (λ xs. roll-Neutral (record { head = y.head; spine = xs })) spine

step-made : (y : layer.Step-F E O X N S T) → StepBack (roll-Step (map-Step E O X N S T Elim Obj Expr Neutral Step TupleEntry (λ (e : E). e.0) (λ (e : O). e.0) (λ (e : X). e.0) (λ (e : N). e.0) (λ (e : S). e.0) (λ (e : T). e.0) y))
step-made y = ap step_back (plain_step-made y.modes y.rhs.0) ∙ ap (λ n. roll-Step (record { modes = y.modes; rhs = n })) y.rhs.1

entry-made : (y : layer.TupleEntry-F E O X N S T) → EntryBack (roll-TupleEntry (map-TupleEntry E O X N S T Elim Obj Expr Neutral Step TupleEntry (λ (e : E). e.0) (λ (e : O). e.0) (λ (e : X). e.0) (λ (e : N). e.0) (λ (e : S). e.0) (λ (e : T). e.0) y))
entry-made y = ap entry_back (plain_entry-made y.mode y.obj.0) ∙ ap (λ o. roll-TupleEntry (record { mode = y.mode; obj = o })) y.obj.1

pub object-back : (o : Obj) → ObjBack o
object-back = ind-Obj ElimBack ObjBack ExprBack NeutralBack StepBack EntryBack
    (λ x y is. subst (λ z. ElimBack (roll-Elim z)) is (elim-made y)) (λ x y is. subst (λ z. ObjBack (roll-Obj z)) is (obj-made y))
    (λ x y is. subst (λ z. ExprBack (roll-Expr z)) is (expr-made y)) (λ x y is. subst (λ z. NeutralBack (roll-Neutral z)) is (neutral-made y))
    (λ x y is. subst (λ z. StepBack (roll-Step z)) is (step-made y)) (λ x y is. subst (λ z. EntryBack (roll-TupleEntry z)) is (entry-made y))

pub expression-back : (e : Expr) → ExprBack e
expression-back = ind-Expr ElimBack ObjBack ExprBack NeutralBack StepBack EntryBack
    (λ x y is. subst (λ z. ElimBack (roll-Elim z)) is (elim-made y)) (λ x y is. subst (λ z. ObjBack (roll-Obj z)) is (obj-made y))
    (λ x y is. subst (λ z. ExprBack (roll-Expr z)) is (expr-made y)) (λ x y is. subst (λ z. NeutralBack (roll-Neutral z)) is (neutral-made y))
    (λ x y is. subst (λ z. StepBack (roll-Step z)) is (step-made y)) (λ x y is. subst (λ z. EntryBack (roll-TupleEntry z)) is (entry-made y))

pub neutral-back : (n : Neutral) → NeutralBack n
neutral-back = ind-Neutral ElimBack ObjBack ExprBack NeutralBack StepBack EntryBack
    (λ x y is. subst (λ z. ElimBack (roll-Elim z)) is (elim-made y)) (λ x y is. subst (λ z. ObjBack (roll-Obj z)) is (obj-made y))
    (λ x y is. subst (λ z. ExprBack (roll-Expr z)) is (expr-made y)) (λ x y is. subst (λ z. NeutralBack (roll-Neutral z)) is (neutral-made y))
    (λ x y is. subst (λ z. StepBack (roll-Step z)) is (step-made y)) (λ x y is. subst (λ z. EntryBack (roll-TupleEntry z)) is (entry-made y))
