-- What trees become with all solutions put in, one form of tree after the other, and that they stay typed. A solution has no free variable, so nothing changes under binders.
use Rattle.std.specs.Prelude.{ℕ, zero, suc, ◌+◌, ◌<◌, ◌≡◌, true, false, List, [], ◌∷◌, ◌++◌, length, map, take, drop, Option, Some, None, refl}
use Rattle.std.proofs.Common.{ap, sym, subst, ◌∙◌, arith, get_or, inl, inr, ⊎_elim}
use Rattle.std.proofs.lemmas.List.{map-append, take_more}
use Rattle.std.specs.List.{slice_get}
use Rattle.clf_syntax.specs.declared.tree.Mode.{Mode}
use Rattle.clf_syntax.specs.declared.tree.Head.{Head}
use Rattle.clf_syntax.specs.declared.tree.Head.TheVariants.{Const, Var, Meta}
use Rattle.clf_syntax.specs.declared.tree.Obj.{Obj}
use Rattle.clf_syntax.specs.declared.tree.TupleEntry.{TupleEntry}
use Rattle.clf_syntax.specs.declared.tree.TeleEntry.{TeleEntry}
use Rattle.clf_syntax.specs.Tree.{PlainObject, lam, pair, unit, monadic, atomic, hole, PlainNeutral, head_alone, app, fst, snd, PlainElimination, arg, first, second, spine_on, PlainExpression, step, steps_on, done, tuple_of, head_of}
use Rattle.clf_syntax.specs.TypeTree.{PlainType, family, function, both, top, monad, PlainTelescope, telescope_of, SimpleType, arrow, simple_with, lax, SimpleTelescope, simple_binding}
use Rattle.clf_syntax.specs.Simple.{Assignment, Families, erase, erase_telescope, extended, extended_by, no_holes, MayStand, SimplyTyped, SimplyTypedTuple, SimplyTypedEach, SimplyFormed, SimplyFormedTelescope}
use Rattle.clf_syntax.specs.Occurs.{occurs}
use Rattle.clf_syntax.specs.Renaming.{ren, up}
use Rattle.clf_syntax.specs.declared.tree.Step.{Step}
use Rattle.clf_syntax.specs.Plain.{plain_obj, plain_neutral, plain_step, plain_entry}
use Rattle.clf_syntax.specs.PlainTypes.{plain_tele_entry}
use Rattle.clf_syntax.specs.PlainSimple.{plain_simple}
use Rattle.clf_syntax.proofs.Next.{dropped}
use Rattle.clf_syntax.proofs.OccursLaws.{agreeing, not_both}
use Rattle.clf_syntax.proofs.RenamingLaws.{ext, identity}
use Rattle.hered_subst.specs.Substitution.{put, ren_image, under, Substituted, through_lam, through_pair, through_unit, through_hole, through_monadic, through_kept, through_value, kept_bare, kept_app, kept_fst, kept_snd, HasValue, value_bare, value_app, value_fst, value_snd, SubstitutedExpression, through_done, step_kept, step_value, step_meta, SubstitutedTuple, through_empty, through_entry, SubstitutedEach, each_none, each_next, SubstitutedType, in_family, in_function, in_both, in_top, in_monad, SubstitutedTelescope, in_end, in_binding}
use Rattle.hered_subst.proofs.Determined.{determined}
use Rattle.subst_laws.specs.Environments.{Instantiation, instant, image_or}
use Rattle.metavars.specs.declared.value.Outcome.{Outcome}
use Rattle.metavars.specs.declared.value.Outcome.TheVariants.{Kept as KeptOutcome, Solved}
use Rattle.store_laws.specs.Additions.{given, meta_types}
use Rattle.store_laws.specs.PutIn.{PutIn, IsClosed}
use Rattle.metavars.specs.Stored.{Stored, additions}
use Rattle.metavars.specs.Typed.{TypesStore}
use Rattle.metavars.specs.Becoming.{Object, NoObject, Kept, Value, NoNeutral, Expression, NoExpression, NoTuple, NoIndices, Typing, NoTyping, TelescopeOf, NoTelescope, Entry, NoEntry, TypingEntry, NoTypingEntry, Each, none, next}
use Rattle.metavars.specs.Outcomes.{plain_value, Applied, NotApplied, IsPair, NoPair, BecomesOutcome, IsKept, IsSolvedAt, UnderArgument, NotUnderArgument, UnderFirst, UnderSecond, NotProjected, ValueInFront, flat_in_front, meta_in_front, Front, NotFront, InFront, NotInFront}
use Rattle.metavars.proofs.Rests.{steps-split}
use Rattle.metavars.proofs.TypesStores.{types-extended, types-extended_by, solution-typed, one-type}

-- ---- under binders

closed-stays : (n : ℕ) (x : PlainObject) → ((v : ℕ) → occurs v x ≡ false) → ren (up n) x ≡ x
closed-stays n x h = agreeing (up n) (λ i. i) x (λ i e. absurd (not_both e (h i))) ∙ identity x

module _ (s : Instantiation) (h : IsClosed s) where
  stays-put : (n m : ℕ) (i : Option PlainObject) → s m ≡ i → ren_image (up n) (image_or (Meta m) i) ≡ image_or (Meta m) i
  stays-put n m None e = refl
  stays-put n m (Some x) e = ap put (closed-stays n x (h m x e))

  pub under-closed : (n : ℕ) → under n (instant s) ≡ instant s
  under-closed n = ext (λ j. at_head j)
    where
      at_head : (j : Head) → under n (instant s) j ≡ instant s j
      at_head (Const c) = refl
      at_head (Var i) = grind arith
      at_head (Meta m) = stays-put n m (s m) refl

-- ---- where neutrals stand

stands-still : (n x : PlainNeutral) (t : SimpleType) → head_of x ≡ head_of n → MayStand (no_holes true) n t → MayStand (no_holes true) x t
stands-still n x t e s = ⊎_elim (λ h. inl h) (λ h. inr (h.0, h.1, e ∙ h.2, h.3, h.4)) s

with_same : {a b c d : SimpleType} → simple_with a b ≡ simple_with c d → (a ≡ c) × (b ≡ d)
with_same e = (cc, cc)

-- the parts of a typed pair
parts-typed : (z : Assignment) (f : PlainObject) (l r : PlainObject) (lt rt c d : SimpleType) → f ≡ pair l r → simple_with lt rt ≡ simple_with c d → SimplyTyped z f (simple_with c d) → (SimplyTyped z l c × SimplyTyped z r d)
parts-typed z f l r lt rt c d e i p = let (a, b, j, q, w) = subst (λ o. SimplyTyped z o (simple_with c d)) e p in
    let k = with_same j in (subst (SimplyTyped z l) (sym k.0) q, subst (SimplyTyped z r) (sym k.1) w)

-- ---- objects

module _ (store : Stored) where
  pub object-lam : (m : Mode) (b x : PlainObject) → Object store b x → Object store (lam m b) (lam m x)
  unfolding Object
  object-lam m b x h = (
    (λ s p c. through_lam (subst (λ z. Substituted z b x) (sym (under-closed s c 1)) (h.0 s p c))),
    (λ z t w p. let (d, c, e, q) = p in (d, c, e, h.1 (extended d z) c (types-extended d z (additions store) w) q)),
  )

  pub no-lam : (m : Mode) (b : PlainObject) → NoObject store b → NoObject store (lam m b)
  unfolding NoObject
  no-lam m b h z t w p = let (d, c, e, q) = p in h (extended d z) c (types-extended d z (additions store) w) q

  pub object-pair : (l r x y : PlainObject) → Object store l x → Object store r y → Object store (pair l r) (pair x y)
  unfolding Object
  object-pair l r x y h k = (
    (λ s p c. through_pair (h.0 s p c) (k.0 s p c)),
    (λ z t w p. let (c, d, e, q, u) = p in (c, d, e, h.1 z c w q, k.1 z d w u)),
  )

  pub no-left : (l r : PlainObject) → NoObject store l → NoObject store (pair l r)
  unfolding NoObject
  no-left l r h z t w p = let (c, d, e, q, u) = p in h z c w q

  pub no-right : (l r : PlainObject) → NoObject store r → NoObject store (pair l r)
  unfolding NoObject
  no-right l r h z t w p = let (c, d, e, q, u) = p in h z d w u

  pub object-unit : Object store unit unit
  unfolding Object
  object-unit = ((λ s p c. through_unit), (λ z t w p. p))

  pub object-hole : Object store hole hole
  unfolding Object
  object-hole = ((λ s p c. through_hole), (λ z t w p. p))

  pub object-monadic : (e f : PlainExpression) → Expression store e f → Object store (monadic e) (monadic f)
  unfolding Object Expression
  object-monadic e f h = (
    (λ s p c. through_monadic (h.0 s p c)),
    (λ z t w p. let (ts, i, q) = p in (ts, i, h.1 z ts w q)),
  )

  pub no-monadic : (e : PlainExpression) → NoExpression store e → NoObject store (monadic e)
  unfolding NoObject NoExpression
  no-monadic e h z t w p = let (ts, i, q) = p in h z ts w q

  pub object-kept : (n x : PlainNeutral) → Kept store n x → Object store (atomic n) (atomic x)
  unfolding Object Kept
  object-kept n x h = (
    (λ s p c. through_kept (h.0 s p c)),
    (λ z t w p. (stands-still n x t h.1 p.0, h.2 z t w p.1)),
  )

  pub object-value : (n : PlainNeutral) (x : PlainObject × SimpleType) → Value store n x → Object store (atomic n) x.0
  unfolding Object Value
  object-value n x h = (
    (λ s p c. through_value (h.0 s p c)),
    (λ z t w p. (h.1 z t w p.1).1),
  )

  pub no-atomic : (n : PlainNeutral) → NoNeutral store n → NoObject store (atomic n)
  unfolding NoObject NoNeutral
  no-atomic n h z t w p = h z t w p.1

  -- ---- heads

  pub kept-const : (c : ℕ) → Kept store (head_alone (Const c)) (head_alone (Const c))
  unfolding Kept
  kept-const c = ((λ s p k. kept_bare refl), refl, (λ z t w p. p))

  pub kept-var : (i : ℕ) → Kept store (head_alone (Var i)) (head_alone (Var i))
  unfolding Kept
  kept-var i = ((λ s p c. kept_bare refl), refl, (λ z t w p. p))

  pub kept-meta : (m : ℕ) → given (additions store) m ≡ None → Kept store (head_alone (Meta m)) (head_alone (Meta m))
  unfolding Kept
  kept-meta m e = ((λ s p c. kept_bare (ap (image_or (Meta m)) (p.unsolved m e))), refl, (λ z t w p. p))

  pub value-meta : (m : ℕ) (o x : PlainObject) (u : SimpleType) → given (additions store) m ≡ Some o → slice_get (meta_types (additions store)) m ≡ Some u → Object store o x → Value store (head_alone (Meta m)) (x, u)
  unfolding Value Object
  value-meta m o x u e i h = (
    (λ s p c. let (y, f, q) = p.solved m o e in value_bare (ap (image_or (Meta m)) f ∙ ap put (determined q (h.0 s p c)))),
    (λ z t w p. (one-type (sym (w.metavariables m u i) ∙ p), h.1 z t w (solution-typed z (additions store) m o t w p e))),
  )

  pub no-solution : (m : ℕ) (o : PlainObject) → given (additions store) m ≡ Some o → NoObject store o → NoNeutral store (head_alone (Meta m))
  unfolding NoNeutral NoObject
  no-solution m o e h z t w p = h z t w (solution-typed z (additions store) m o t w p e)

  pub no-type : (m : ℕ) (o : PlainObject) → given (additions store) m ≡ Some o → slice_get (meta_types (additions store)) m ≡ None → NoNeutral store (head_alone (Meta m))
  unfolding NoNeutral
  no-type m o e i z t w p = let (u, j, q) = w.solutions m o e in absurd (cc (i, j))

  pub outcome-kept : (n : PlainNeutral) (o : Outcome) → IsKept n o → Kept store n n → BecomesOutcome store n o
  outcome-kept n (KeptOutcome x) e h = subst (Kept store n) (sym e) h
  outcome-kept n (Solved v) e h = absurd e

  pub outcome-solved : (m : ℕ) (o x : PlainObject) (v : Outcome) → given (additions store) m ≡ Some o → Object store o x → IsSolvedAt x (slice_get (meta_types (additions store)) m) v → BecomesOutcome store (head_alone (Meta m)) v
  outcome-solved m o x (KeptOutcome y) e h k = absurd k
  outcome-solved m o x (Solved v) e h k = subst (λ y. Value store (head_alone (Meta m)) (y, plain_simple v.ty.now)) (sym k.0) (value-meta m o x (plain_simple v.ty.now) e k.1 h)

  -- ---- eliminations

  kept-app : (m : Mode) (r x : PlainNeutral) (o y : PlainObject) → Kept store r x → Object store o y → Kept store (app m r o) (app m x y)
  unfolding Kept Object
  kept-app m r x o y h k = (
    (λ s p c. kept_app (h.0 s p c) (k.0 s p c)),
    h.1,
    (λ z t w p. let (d, q, u) = p in (d, h.2 z (arrow m d t) w q, k.1 z d w u)),
  )

  kept-fst : (r x : PlainNeutral) → Kept store r x → Kept store (fst r) (fst x)
  unfolding Kept
  kept-fst r x h = ((λ s p c. kept_fst (h.0 s p c)), h.1, (λ z t w p. let (d, q) = p in (d, h.2 z (simple_with t d) w q)))

  kept-snd : (r x : PlainNeutral) → Kept store r x → Kept store (snd r) (snd x)
  unfolding Kept
  kept-snd r x h = ((λ s p c. kept_snd (h.0 s p c)), h.1, (λ z t w p. let (d, q) = p in (d, h.2 z (simple_with d t) w q)))

  value-app : (m : Mode) (r : PlainNeutral) (f : PlainObject × SimpleType) (o y : PlainObject) (x : PlainObject × SimpleType) → Value store r f → Object store o y → Applied m f y x → Value store (app m r o) x
  unfolding Value Object Applied
  value-app m r f o y x h k a = (
    (λ s p c. let (b, e, q) = a.0 in value_app (subst (HasValue (instant s) r) e (h.0 s p c)) (k.0 s p c) q),
    (λ z t w p. let (d, q, u) = p in let (e, i) = h.1 z (arrow m d t) w q in a.1 z d t e i (k.1 z d w u)),
  )

  value-fst : (r : PlainNeutral) (f x y : PlainObject × SimpleType) → Value store r f → IsPair f x y → Value store (fst r) x
  unfolding Value
  value-fst r f x y h q = (
    (λ s p c. value_fst (subst (HasValue (instant s) r) q.0 (h.0 s p c))),
    (λ z t w p. let (d, u) = p in let (e, i) = h.1 z (simple_with t d) w u in let k : simple_with x.1 y.1 ≡ simple_with t d = sym q.1 ∙ e in
        ((with_same k).0, (parts-typed z f.0 x.0 y.0 x.1 y.1 t d q.0 k i).0)),
  )

  value-snd : (r : PlainNeutral) (f x y : PlainObject × SimpleType) → Value store r f → IsPair f x y → Value store (snd r) y
  unfolding Value
  value-snd r f x y h q = (
    (λ s p c. value_snd (subst (HasValue (instant s) r) q.0 (h.0 s p c))),
    (λ z t w p. let (d, u) = p in let (e, i) = h.1 z (simple_with d t) w u in let k : simple_with x.1 y.1 ≡ simple_with d t = sym q.1 ∙ e in
        ((with_same k).1, (parts-typed z f.0 x.0 y.0 x.1 y.1 d t q.0 k i).1)),
  )

  pub no-argument : (m : Mode) (r : PlainNeutral) (o : PlainObject) → NoObject store o → NoNeutral store (app m r o)
  unfolding NoNeutral NoObject
  no-argument m r o h z t w p = let (d, q, u) = p in h z d w u

  pub under-argument : (m : Mode) (r : PlainNeutral) (o y : PlainObject) (v w : Outcome) → BecomesOutcome store r v → Object store o y → UnderArgument m y v w → BecomesOutcome store (app m r o) w
  under-argument m r o y (KeptOutcome v) (KeptOutcome w) h k e = subst (Kept store (app m r o)) (sym e) (kept-app m r (plain_neutral v) o y h k)
  under-argument m r o y (Solved v) (Solved w) h k e = value-app m r (plain_value v) o y (plain_value w) h k e
  under-argument m r o y (KeptOutcome v) (Solved w) h k e = absurd e
  under-argument m r o y (Solved v) (KeptOutcome w) h k e = absurd e

  no-value-app : (m : Mode) (r : PlainNeutral) (f : PlainObject × SimpleType) (o y : PlainObject) → Value store r f → Object store o y → NotApplied m f y → NoNeutral store (app m r o)
  unfolding Value Object NotApplied NoNeutral
  no-value-app m r f o y h k a z t w p = let (d, q, u) = p in let (e, i) = h.1 z (arrow m d t) w q in a z d t e i (k.1 z d w u)

  pub not-under-argument : (m : Mode) (r : PlainNeutral) (o y : PlainObject) (v : Outcome) → BecomesOutcome store r v → Object store o y → NotUnderArgument m y v → NoNeutral store (app m r o)
  not-under-argument m r o y (KeptOutcome v) h k e = absurd e
  not-under-argument m r o y (Solved v) h k e = no-value-app m r (plain_value v) o y h k e

  pub under-first : (r : PlainNeutral) (v w : Outcome) → BecomesOutcome store r v → UnderFirst v w → BecomesOutcome store (fst r) w
  under-first r (KeptOutcome v) (KeptOutcome w) h e = subst (Kept store (fst r)) (sym e) (kept-fst r (plain_neutral v) h)
  under-first r (Solved v) (Solved w) h e = value-fst r (plain_value v) (plain_value w) e.0 h e.1
  under-first r (KeptOutcome v) (Solved w) h e = absurd e
  under-first r (Solved v) (KeptOutcome w) h e = absurd e

  pub under-second : (r : PlainNeutral) (v w : Outcome) → BecomesOutcome store r v → UnderSecond v w → BecomesOutcome store (snd r) w
  under-second r (KeptOutcome v) (KeptOutcome w) h e = subst (Kept store (snd r)) (sym e) (kept-snd r (plain_neutral v) h)
  under-second r (Solved v) (Solved w) h e = value-snd r (plain_value v) e.0 (plain_value w) h e.1
  under-second r (KeptOutcome v) (Solved w) h e = absurd e
  under-second r (Solved v) (KeptOutcome w) h e = absurd e

  no-value-fst : (r : PlainNeutral) (f : PlainObject × SimpleType) → Value store r f → NoPair f → NoNeutral store (fst r)
  unfolding Value NoPair NoNeutral
  no-value-fst r f h a z t w p = let (d, u) = p in let (e, i) = h.1 z (simple_with t d) w u in a z t d e i

  no-value-snd : (r : PlainNeutral) (f : PlainObject × SimpleType) → Value store r f → NoPair f → NoNeutral store (snd r)
  unfolding Value NoPair NoNeutral
  no-value-snd r f h a z t w p = let (d, u) = p in let (e, i) = h.1 z (simple_with d t) w u in a z d t e i

  pub not-under-first : (r : PlainNeutral) (v : Outcome) → BecomesOutcome store r v → NotProjected v → NoNeutral store (fst r)
  not-under-first r (KeptOutcome v) h e = absurd e
  not-under-first r (Solved v) h e = no-value-fst r (plain_value v) h e

  pub not-under-second : (r : PlainNeutral) (v : Outcome) → BecomesOutcome store r v → NotProjected v → NoNeutral store (snd r)
  not-under-second r (KeptOutcome v) h e = absurd e
  not-under-second r (Solved v) h e = no-value-snd r (plain_value v) h e

  -- ---- spines

  pub no-spine : (es : List PlainElimination) (r : PlainNeutral) → NoNeutral store r → NoNeutral store (spine_on es r)
  unfolding NoNeutral
  no-spine [] r h z t w p = h z t w p
  no-spine (arg m o ∷ es) r h z t w p = no-spine es (app m r o) (λ y u v q. let (d, a, b) = q in h y (arrow m d u) v a) z t w p
  no-spine (first ∷ es) r h z t w p = no-spine es (fst r) (λ y u v q. let (d, a) = q in h y (simple_with u d) v a) z t w p
  no-spine (second ∷ es) r h z t w p = no-spine es (snd r) (λ y u v q. let (d, a) = q in h y (simple_with d u) v a) z t w p

  -- ---- expressions

  entries : (s : Instantiation) → PutIn (given (additions store)) s → IsClosed s → {es xs : List (Mode × PlainObject)} → Each (Entry store) es xs → SubstitutedTuple (instant s) (tuple_of es) (tuple_of xs)
  unfolding Entry Object
  entries s p c none = through_empty
  entries s p c (next {x = x} {y = y} {xs = xs} {ys = ys} h hs) = subst (λ m. SubstitutedTuple (instant s) (tuple_of (x ∷ xs)) (tuple_of ((m, y.1) ∷ ys))) h.0 (through_entry (h.1.0 s p c) (entries s p c hs))

  entries-typed : (z : Assignment) → TypesStore z (additions store) → {es xs : List (Mode × PlainObject)} → Each (Entry store) es xs → (ts : SimpleTelescope) → SimplyTypedTuple z (tuple_of es) ts → SimplyTypedTuple z (tuple_of xs) ts
  unfolding Entry Object
  entries-typed z w none ts p = p
  entries-typed z w (next {x = x} {y = y} {xs = xs} {ys = ys} h hs) ts p = let (d, u, e, q, r) = p in
      (d, u, subst (λ m. ts ≡ simple_binding m d u) h.0 e, h.1.1 z d w q, entries-typed z w hs u r)

  pub expression-done : (es xs : List (Mode × PlainObject)) → Each (Entry store) es xs → Expression store (done (tuple_of es)) (done (tuple_of xs))
  unfolding Expression
  expression-done es xs h = ((λ s p c. through_done (entries s p c h)), (λ z ts w p. entries-typed z w h ts p))

  pub no-done : (es : List (Mode × PlainObject)) → NoTuple store es → NoExpression store (done (tuple_of es))
  unfolding NoTuple NoExpression
  no-done es h z ts w p = h z ts w p

  typed-at : (z : Assignment) (xs : List TupleEntry) (i : ℕ) (x : TupleEntry) (ts : SimpleTelescope) → i < length xs → SimplyTypedTuple z (tuple_of (map plain_entry xs)) ts → (u : SimpleType) × SimplyTyped z (plain_entry (get_or xs i x)).1 u
  typed-at z [] i x ts l p = absurd (omega arith)
  typed-at z (y ∷ xs) zero x ts l p = let (d, u, e, q, r) = p in (d, q)
  typed-at z (y ∷ xs) (suc i) x ts l p = let (d, u, e, q, r) = p in typed-at z xs i x u (omega arith) r

  pub no-entry : (xs : List TupleEntry) (i : ℕ) (x : TupleEntry) → i < length xs → x ≡ get_or xs i x → NoEntry store (plain_entry x) → NoTuple store (map plain_entry xs)
  unfolding NoTuple NoEntry NoObject
  no-entry xs i x l e h z ts w p = let (u, q) = typed-at z xs i x ts l p in h z u w (subst (λ y. SimplyTyped z (plain_entry y).1 u) (sym e) q)

  step-kept : (ms : List Mode) (r x : PlainNeutral) (e f : PlainExpression) → Kept store r x → Expression store e f → Expression store (step ms r e) (step ms x f)
  unfolding Kept Expression
  step-kept ms r x e f h k = (
    (λ s p c. step_kept (h.0 s p c) (subst (λ z. SubstitutedExpression z e f) (sym (under-closed s c (length ms))) (k.0 s p c))),
    (λ z ts w p. let (u, q, i, v) = p in (u, h.2 z (lax u) w q, i, k.1 (extended_by u z) ts (types-extended_by u z (additions store) w) v)),
  )

  step-value : (ms : List Mode) (r : PlainNeutral) (v : PlainObject × SimpleType) (e f x : PlainExpression) → Value store r v → Expression store e f → Front ms v f x → Expression store (step ms r e) x
  unfolding Value Expression Front
  step-value ms r v e f x h k q = (
    (λ s p c. through s v.0 x (h.0 s p c) (subst (λ z. SubstitutedExpression z e f) (sym (under-closed s c (length ms))) (k.0 s p c)) q.0),
    (λ z ts w p. let (u, a, i, b) = p in let (j, y) = h.1 z (lax u) w a in q.1 z u ts j i y (k.1 (extended_by u z) ts (types-extended_by u z (additions store) w) b)),
  )
    where
      through : (s : Instantiation) (o : PlainObject) (y : PlainExpression) → HasValue (instant s) r o → SubstitutedExpression (under (length ms) (instant s)) e f → ValueInFront ms o f y → SubstitutedExpression (instant s) (step ms r e) y
      through s o y a b (flat_in_front c) = step_value a b c
      through s o y a b (meta_in_front c) = step_meta a c b

  pub step-in-front : (ms : List Mode) (r : PlainNeutral) (o : Outcome) (e f x : PlainExpression) → BecomesOutcome store r o → Expression store e f → InFront ms o f x → Expression store (step ms r e) x
  step-in-front ms r (KeptOutcome n) e f x h k q = subst (Expression store (step ms r e)) (sym q) (step-kept ms r (plain_neutral n) e f h k)
  step-in-front ms r (Solved v) e f x h k q = step-value ms r (plain_value v) e f x h k q

  pub no-right-side : (ms : List Mode) (r : PlainNeutral) (e : PlainExpression) → NoNeutral store r → NoExpression store (step ms r e)
  unfolding NoNeutral NoExpression
  no-right-side ms r e h z ts w p = let (u, q, i, v) = p in h z (lax u) w q

  no-value-step : (ms : List Mode) (r : PlainNeutral) (v : PlainObject × SimpleType) (e f : PlainExpression) → Value store r v → Expression store e f → NotFront ms v f → NoExpression store (step ms r e)
  unfolding Value Expression NotFront NoExpression
  no-value-step ms r v e f h k n z ts w p = let (u, a, i, b) = p in let (j, y) = h.1 z (lax u) w a in n z u ts j i y (k.1 (extended_by u z) ts (types-extended_by u z (additions store) w) b)

  pub not-in-front : (ms : List Mode) (r : PlainNeutral) (o : Outcome) (e f : PlainExpression) → BecomesOutcome store r o → Expression store e f → NotInFront ms o f → NoExpression store (step ms r e)
  not-in-front ms r (KeptOutcome n) e f h k q = absurd q
  not-in-front ms r (Solved v) e f h k q = no-value-step ms r (plain_value v) e f h k q

  -- the rest after some steps
  pub no-rest : (xs : List (List Mode × PlainNeutral)) (e : PlainExpression) → NoExpression store e → NoExpression store (steps_on xs e)
  unfolding NoExpression
  no-rest [] e h z ts w p = h z ts w p
  no-rest (x ∷ xs) e h z ts w p = let (u, q, i, v) = p in no-rest xs e h (extended_by u z) ts (types-extended_by u z (additions store) w) v

  -- a step in front of the rest
  pub no-step : (xs : List Step) (i : ℕ) (x : Step) (e : PlainExpression) → i < length xs → x ≡ get_or xs i x → NoExpression store (steps_on (plain_step x ∷ []) (steps_on (map plain_step (drop (i + 1) xs)) e)) → NoExpression store (steps_on (map plain_step xs) e)
  no-step xs i x e l q h = subst (NoExpression store) (steps-split xs i e)
      (no-rest (map plain_step (take i xs)) (steps_on (map plain_step (drop i xs)) e) (subst (λ ys. NoExpression store (steps_on (map plain_step ys) e)) (sym (dropped xs i x l q)) h))

  -- ---- types

  indices : (s : Instantiation) → PutIn (given (additions store)) s → IsClosed s → {ns xs : List PlainObject} → Each (Object store) ns xs → SubstitutedEach (instant s) ns xs
  unfolding Object
  indices s p c none = each_none
  indices s p c (next h hs) = each_next (h.0 s p c) (indices s p c hs)

  indices-typed : (z : Assignment) → TypesStore z (additions store) → {ns xs : List PlainObject} → Each (Object store) ns xs → (ts : List SimpleType) → SimplyTypedEach z ns ts → SimplyTypedEach z xs ts
  unfolding Object
  indices-typed z w none ts p = p
  indices-typed z w (next h hs) [] p = absurd p
  indices-typed z w (next h hs) (t ∷ ts) p = (h.1 z t w p.0, indices-typed z w hs ts p.1)

  index-typed : (z : Assignment) (xs : List Obj) (i : ℕ) (x : Obj) (ts : List SimpleType) → i < length xs → SimplyTypedEach z (map plain_obj xs) ts → (u : SimpleType) × SimplyTyped z (plain_obj (get_or xs i x)) u
  index-typed z [] i x ts l p = absurd (omega arith)
  index-typed z (y ∷ xs) i x [] l p = absurd p
  index-typed z (y ∷ xs) zero x (t ∷ ts) l p = (t, p.0)
  index-typed z (y ∷ xs) (suc i) x (t ∷ ts) l p = index-typed z xs i x ts (omega arith) p.1

  pub no-index : (xs : List Obj) (i : ℕ) (x : Obj) → i < length xs → x ≡ get_or xs i x → NoObject store (plain_obj x) → NoIndices store (map plain_obj xs)
  unfolding NoIndices NoObject
  no-index xs i x l e h z ts w p = let (u, q) = index-typed z xs i x ts l p in h z u w (subst (λ y. SimplyTyped z (plain_obj y) u) (sym e) q)

  pub type-family : (f : ℕ) (ns xs : List PlainObject) → Each (Object store) ns xs → Typing store (family f ns) (family f xs)
  unfolding Typing
  type-family f ns xs h = ((λ s p c. in_family (indices s p c h)), refl, (λ a z w p. let (ts, e, q) = p in (ts, e, indices-typed z w h ts q)))

  pub no-family : (f : ℕ) (ns : List PlainObject) → NoIndices store ns → NoTyping store (family f ns)
  unfolding NoIndices NoTyping
  no-family f ns h a z w p = let (ts, e, q) = p in h z ts w q

  pub type-function : (m : Mode) (a b x y : PlainType) → Typing store a x → Typing store b y → Typing store (function m a b) (function m x y)
  unfolding Typing
  type-function m a b x y h k = (
    (λ s p c. in_function (h.0 s p c) (subst (λ z. SubstitutedType z b y) (sym (under-closed s c 1)) (k.0 s p c))),
    (ap (λ t. arrow m t (erase y)) h.1 ∙ ap (arrow m (erase a)) k.1),
    (λ f z w p. (h.2 f z w p.0, subst (λ t. SimplyFormed f (extended t z) y) (sym h.1) (k.2 f (extended (erase a) z) (types-extended (erase a) z (additions store) w) p.1))),
  )

  pub no-domain : (m : Mode) (a b : PlainType) → NoTyping store a → NoTyping store (function m a b)
  unfolding NoTyping
  no-domain m a b h f z w p = h f z w p.0

  pub no-codomain : (m : Mode) (a b : PlainType) → NoTyping store b → NoTyping store (function m a b)
  unfolding NoTyping
  no-codomain m a b h f z w p = h f (extended (erase a) z) (types-extended (erase a) z (additions store) w) p.1

  pub type-both : (a b x y : PlainType) → Typing store a x → Typing store b y → Typing store (both a b) (both x y)
  unfolding Typing
  type-both a b x y h k = (
    (λ s p c. in_both (h.0 s p c) (k.0 s p c)),
    (ap (λ t. simple_with t (erase y)) h.1 ∙ ap (simple_with (erase a)) k.1),
    (λ f z w p. (h.2 f z w p.0, k.2 f z w p.1)),
  )

  pub no-left-type : (a b : PlainType) → NoTyping store a → NoTyping store (both a b)
  unfolding NoTyping
  no-left-type a b h f z w p = h f z w p.0

  pub no-right-type : (a b : PlainType) → NoTyping store b → NoTyping store (both a b)
  unfolding NoTyping
  no-right-type a b h f z w p = h f z w p.1

  pub type-top : Typing store top top
  unfolding Typing
  type-top = ((λ s p c. in_top), refl, (λ f z w p. p))

  telescope : (s : Instantiation) → PutIn (given (additions store)) s → IsClosed s → {es xs : List (Mode × PlainType)} → Each (TypingEntry store) es xs → SubstitutedTelescope (instant s) (telescope_of es) (telescope_of xs)
  unfolding TypingEntry Typing
  telescope s p c none = in_end
  telescope s p c (next {x = x} {y = y} {xs = xs} {ys = ys} h hs) = subst (λ m. SubstitutedTelescope (instant s) (telescope_of (x ∷ xs)) (telescope_of ((m, y.1) ∷ ys))) h.0
      (in_binding (h.1.0 s p c) (subst (λ z. SubstitutedTelescope z (telescope_of xs) (telescope_of ys)) (sym (under-closed s c 1)) (telescope s p c hs)))

  telescope-erased : {es xs : List (Mode × PlainType)} → Each (TypingEntry store) es xs → erase_telescope (telescope_of xs) ≡ erase_telescope (telescope_of es)
  unfolding TypingEntry Typing
  telescope-erased none = refl
  telescope-erased (next {x = x} {y = y} {xs = xs} {ys = ys} h hs) = ap (λ m. simple_binding m (erase y.1) (erase_telescope (telescope_of ys))) (sym h.0)
      ∙ ap (λ t. simple_binding x.0 t (erase_telescope (telescope_of ys))) h.1.1 ∙ ap (simple_binding x.0 (erase x.1)) (telescope-erased hs)

  telescope-formed : (f : Families) (z : Assignment) → TypesStore z (additions store) → {es xs : List (Mode × PlainType)} → Each (TypingEntry store) es xs → SimplyFormedTelescope f z (telescope_of es) → SimplyFormedTelescope f z (telescope_of xs)
  unfolding TypingEntry Typing
  telescope-formed f z w none p = p
  telescope-formed f z w (next {x = x} {y = y} {xs = xs} {ys = ys} h hs) p = (
    h.1.2 f z w p.0,
    subst (λ t. SimplyFormedTelescope f (extended t z) (telescope_of ys)) (sym h.1.1) (telescope-formed f (extended (erase x.1) z) (types-extended (erase x.1) z (additions store) w) hs p.1),
  )

  pub telescope-entries : (es xs : List (Mode × PlainType)) → Each (TypingEntry store) es xs → TelescopeOf store (telescope_of es) (telescope_of xs)
  unfolding TelescopeOf
  telescope-entries es xs h = ((λ s p c. telescope s p c h), telescope-erased h, (λ f z w p. telescope-formed f z w h p))

  pub no-typing-entry : (xs : List TeleEntry) (i : ℕ) (x : TeleEntry) → i < length xs → x ≡ get_or xs i x → NoTypingEntry store (plain_tele_entry x) → NoTelescope store (telescope_of (map plain_tele_entry xs))
  unfolding NoTelescope NoTypingEntry NoTyping
  no-typing-entry [] i x l e h f z w p = absurd (omega arith)
  no-typing-entry (y ∷ xs) zero x l e h f z w p = h f z w (subst (λ u. SimplyFormed f z (plain_tele_entry u).1) (sym e) p.0)
  no-typing-entry (y ∷ xs) (suc i) x l e h f z w p = no-typing-entry xs i x (omega arith) e h f (extended (erase (plain_tele_entry y).1) z) (types-extended (erase (plain_tele_entry y).1) z (additions store) w) p.1

  pub type-monad : (t x : PlainTelescope) → TelescopeOf store t x → Typing store (monad t) (monad x)
  unfolding Typing TelescopeOf
  type-monad t x h = ((λ s p c. in_monad (h.0 s p c)), ap lax h.1, (λ f z w p. h.2 f z w p))

  pub no-monad : (t : PlainTelescope) → NoTelescope store t → NoTyping store (monad t)
  unfolding NoTyping NoTelescope
  no-monad t h f z w p = h f z w p

  -- ---- entries

  pub entry-done : (m : Mode) (o x : PlainObject) → Object store o x → Entry store (m, o) (m, x)
  unfolding Entry
  entry-done m o x h = (refl, h)

  pub no-entry-done : (m : Mode) (o : PlainObject) → NoObject store o → NoEntry store (m, o)
  unfolding NoEntry
  no-entry-done m o h = h

  pub typing-entry-done : (m : Mode) (a x : PlainType) → Typing store a x → TypingEntry store (m, a) (m, x)
  unfolding TypingEntry
  typing-entry-done m a x h = (refl, h)

  pub no-typing-entry-done : (m : Mode) (a : PlainType) → NoTyping store a → NoTypingEntry store (m, a)
  unfolding NoTypingEntry
  no-typing-entry-done m a h = h

-- ---- lists

pub each-more : {X : Type 0} {R : X → X → Type 0} {xs ys : List X} {x y : X} → Each R xs ys → R x y → Each R (xs ++ x ∷ []) (ys ++ y ∷ [])
each-more none r = next r none
each-more (next q qs) r = next q (each-more qs r)

pub each-next : {X P : Type 0} (v : X → P) (R : P → P → Type 0) (xs : List X) (i : ℕ) (x : X) (ys : List X) (y : X)
    → Each R (map v (take i xs)) (map v ys) → i < length xs → x ≡ get_or xs i x → R (v x) (v y) → Each R (map v (take (i + 1) xs)) (map v (ys ++ y ∷ []))
each-next v R xs i x ys y h l e r = subst (λ ps. Each R ps (map v (ys ++ y ∷ []))) (sym (ap (map v) (take_more xs i x l ∙ ap (λ z. take i xs ++ z ∷ []) (sym e)) ∙ map-append v (take i xs) (x ∷ [])))
    (subst (Each R (map v (take i xs) ++ v x ∷ [])) (sym (map-append v ys (y ∷ []))) (each-more h r))

pub ruleset becoming_laws = (object-lam, object-pair, object-unit, object-hole, object-monadic, object-kept, object-value, entry-done, expression-done, type-family, type-function, type-both, type-top, type-monad, telescope-entries, typing-entry-done)
