-- Parts of an equation are typed as it is, and stay its parts when solutions are put in.
use Rattle.std.specs.Prelude.{true, false, ◌≡◌, length, Some, None}
use Rattle.std.proofs.Common.{sym, subst, ◌∙◌, ⊎_elim}
use Rattle.clf_syntax.specs.declared.tree.Mode.{Mode}
use Rattle.clf_syntax.specs.declared.tree.Head.{Head}
use Rattle.clf_syntax.specs.Tree.{PlainObject, lam, pair, atomic, PlainNeutral, head_alone, app, fst, snd}
use Rattle.clf_syntax.specs.TypeTree.{SimpleType, base, arrow, simple_with}
use Rattle.clf_syntax.specs.Simple.{Assignment, Families, extended, no_holes, SimplyTyped, SimplyTypedNeutral}
use Rattle.hered_subst.specs.Substitution.{Image, keep, put, Environment, under, Substituted, through_lam, through_pair, through_kept, KeepsHead, kept_bare, kept_app, kept_fst, kept_snd}
use Rattle.hered_subst.specs.TypedEnvironments.{is_metavariable, TypedEnvironment}
use Rattle.hered_subst.proofs.Bounded.{Kept}
use Rattle.hered_subst.proofs.Determined.{determined}
use Rattle.hered_subst.proofs.SimpleTyping.{Typed, TypedNeutral, typed_bare, typed_app, typed_fst, typed_snd, to_neutral, of_neutral}
use Rattle.hered_subst.proofs.TypedEnvironments.{total_object, to_kept}
use Rattle.hered_subst.proofs.TypedResults.{typed_has_result, result_is_typed}
use Rattle.subst_laws.specs.Environments.{Instantiation, instant}
use Rattle.subst_laws.proofs.Environs.{instant_is_environment}
use Rattle.subst_laws.proofs.Variables.{neutral_has_one_type}
use Rattle.pattern_laws.specs.Instantiations.{Types, closed, Instantiated}
use Rattle.pattern_laws.specs.Equations.{Locals, scoped, Equation, TypedEquation}
use Rattle.pattern_laws.proofs.TypeParts.{from_type, to_type, first_type, second_type}
use Rattle.pattern_laws.proofs.Spines.{under_instant}
use Rattle.pattern_laws.proofs.Instances.{typed_scoped}
use Rattle.unify_laws.specs.Parts.{SameShape, shape_head, shape_app, shape_fst, shape_snd, PartAt, part_here, part_function, part_fst, part_snd}
use Rattle.unify_laws.proofs.RigidPlaces.{keeps_head, KeepsOthers, keeps_others}
use Rattle.unify_laws.proofs.Steps.{shape_heads}
use Rattle.reach_laws.specs.Laws.{PartsStay}
use Rattle.reach_laws.specs.Rest.{IsAssignment, EquationUnder, PartOf, part_itself, part_body, part_left, part_right, part_argument}

no_families : Families
no_families f = None

the_type : {t u : SimpleType} → Some t ≡ Some u → t ≡ u
the_type e = cc

-- Neutrals of one shape have one type.
pub one_shape : (g : Assignment) {r n : PlainNeutral} → SameShape r n → (a b : SimpleType) → SimplyTypedNeutral g r a → SimplyTypedNeutral g n b → a ≡ b
one_shape g (shape_head e) a b p q = the_type (sym p ∙ q)
one_shape g (shape_app {m = m} c) a b p q = sym (to_type (one_shape g c (arrow m p.0 a) (arrow m q.0 b) p.1 q.1))
one_shape g (shape_fst c) a b p q = sym (first_type (one_shape g c (simple_with a p.0) (simple_with b q.0) p.1 q.1))
one_shape g (shape_snd c) a b p q = sym (second_type (one_shape g c (simple_with p.0 a) (simple_with q.0 b) p.1 q.1))

function_shape : {m k : Mode} {r s : PlainNeutral} {o u : PlainObject} → SameShape (app m r o) (app k s u) → SameShape r s
function_shape (shape_app h) = h

first_shape : {r s : PlainNeutral} → SameShape (fst r) (fst s) → SameShape r s
first_shape (shape_fst h) = h

second_shape : {r s : PlainNeutral} → SameShape (snd r) (snd s) → SameShape r s
second_shape (shape_snd h) = h

-- So their arguments have the type that the first one asks for.
arguments_typed : (g : Assignment) {o u : PlainObject} {c : SimpleType} {r n : PlainNeutral} → PartAt g o u c r n → SameShape r n → (a b : SimpleType) → SimplyTypedNeutral g r a → SimplyTypedNeutral g n b → SimplyTyped g o c × SimplyTyped g u c
arguments_typed g {o = o} {u = u} {c = c} (part_here {m = m} {r = r} {s = n} e t) h a b p q = let i : p.0 ≡ c = from_type (neutral_has_one_type (no_holes true) g r (arrow m c e) (arrow m p.0 a) t p.1) in
    (subst (SimplyTyped g o) i p.2, subst (SimplyTyped g u) (from_type (one_shape g (function_shape h) (arrow m p.0 a) (arrow m q.0 b) p.1 q.1) ∙ i) q.2)
arguments_typed g (part_function {m = m} t) h a b p q = arguments_typed g t (function_shape h) (arrow m p.0 a) (arrow m q.0 b) p.1 q.1
arguments_typed g (part_fst t) h a b p q = arguments_typed g t (first_shape h) (simple_with a p.0) (simple_with b q.0) p.1 q.1
arguments_typed g (part_snd t) h a b p q = arguments_typed g t (second_shape h) (simple_with p.0 a) (simple_with q.0 b) p.1 q.1

body_typed : (g : Assignment) (m : Mode) (b : PlainObject) (d a : SimpleType) → SimplyTyped g (lam m b) (arrow m d a) → SimplyTyped (extended d g) b a
body_typed g m b d a t = subst (λ e. SimplyTyped (extended e g) b a) (from_type t.2) (subst (λ c. SimplyTyped (extended t.0 g) b c) (to_type t.2) t.3)

pub part_typed : (constants metas : Types) {e d : Equation} → PartOf constants metas e d → TypedEquation constants metas e → TypedEquation constants metas d
part_typed constants metas part_itself t = t
part_typed constants metas (part_body {ls = ls} {m = m} {b = b} {c = c} {d = d} {a = a} p) t = let (l, r) = part_typed constants metas p t in
    (body_typed (scoped ls (closed constants metas)) m b d a l, body_typed (scoped ls (closed constants metas)) m c d a r)
part_typed constants metas (part_left {ls = ls} {l = l} {k = k} r s d p) t = let (x, y) = part_typed constants metas p t in
    (subst (SimplyTyped (scoped ls (closed constants metas)) l) (first_type x.2) x.3, subst (SimplyTyped (scoped ls (closed constants metas)) k) (first_type y.2) y.3)
part_typed constants metas (part_right {ls = ls} {r = r} {s = s} l k c p) t = let (x, y) = part_typed constants metas p t in
    (subst (SimplyTyped (scoped ls (closed constants metas)) r) (second_type x.2) x.4, subst (SimplyTyped (scoped ls (closed constants metas)) s) (second_type y.2) y.4)
part_typed constants metas (part_argument {ls = ls} r n f p h q) t = let (x, y) = part_typed constants metas p t in
    arguments_typed (scoped ls (closed constants metas)) q h (base f) (base f) x.1 y.1

one_head : {i : Image} {a j : Head} → i ≡ keep a → i ≡ keep j → j ≡ a
one_head e f = cc

not_put : {i : Image} {j : Head} {n : PlainObject} → i ≡ keep j → i ≡ put n → ⊥
not_put e f = cc

-- A neutral whose head is kept stays typed.
pub kept_neutral : {s : Environment} {n x : PlainNeutral} → KeepsHead s n x → (g z : Assignment) → Kept true g z s → {t : SimpleType} → TypedNeutral true g n t → TypedNeutral true z x t
kept_neutral (kept_bare {h = h} e) g z f (typed_bare {t = t} p) = ⊎_elim (λ a. typed_bare (subst (λ j. z j ≡ Some t) (one_head e a.1) a.2)) (λ a. absurd (not_put e a.1)) (f h t p)
kept_neutral {s = s} (kept_app i k) g z f (typed_app {d = d} p q) = typed_app (kept_neutral i g z f p) (let (y, l, t) = total_object true g z s f q in subst (λ o. Typed true z o d) (determined l k) t)
kept_neutral (kept_fst i) g z f (typed_fst p) = typed_fst (kept_neutral i g z f p)
kept_neutral (kept_snd i) g z f (typed_snd p) = typed_snd (kept_neutral i g z f p)

pub shape_under : {r n : PlainNeutral} → SameShape r n → {s : Environment} {x y : PlainNeutral} → KeepsOthers s → KeepsHead s r x → KeepsHead s n y → SameShape x y
shape_under (shape_head {h = h} e) k (kept_bare {j = j} f) (kept_bare {j = i} g) = subst (λ c. SameShape (head_alone j) (head_alone c)) (one_head (k h e) f ∙ sym (one_head (k h e) g)) (shape_head (subst (λ c. is_metavariable c ≡ false) (sym (one_head (k h e) f)) e))
shape_under (shape_app a) k (kept_app p c) (kept_app q d) = shape_app (shape_under a k p q)
shape_under (shape_fst a) k (kept_fst p) (kept_fst q) = shape_fst (shape_under a k p q)
shape_under (shape_snd a) k (kept_snd p) (kept_snd q) = shape_snd (shape_under a k p q)

part_at_under : (g : Assignment) {o u : PlainObject} {c : SimpleType} {r n : PlainNeutral} → PartAt g o u c r n → {s : Environment} {x y : PlainNeutral} → Kept true g g s → KeepsHead s r x → KeepsHead s n y
    → (v w : PlainObject) → Substituted s o v → Substituted s u w → PartAt g v w c x y
part_at_under g {c = c} (part_here {m = m} {r = r} e t) f (kept_app {x = x} {y = a} p i) (kept_app {x = y} {y = b} q j) v w k l =
    subst (λ z. PartAt g v w c (app m x z) (app m y b)) (determined k i) (subst (λ z. PartAt g v w c (app m x v) (app m y z)) (determined l j) (part_here e (of_neutral (kept_neutral p g g f (to_neutral true g r (arrow m c e) t)))))
part_at_under g (part_function t) f (kept_app p i) (kept_app q j) v w k l = part_function (part_at_under g t f p q v w k l)
part_at_under g (part_fst t) f (kept_fst p) (kept_fst q) v w k l = part_fst (part_at_under g t f p q v w k l)
part_at_under g (part_snd t) f (kept_snd p) (kept_snd q) v w k l = part_snd (part_at_under g t f p q v w k l)

module _ (constants metas : Types) (s : Instantiation) (typed : IsAssignment constants metas s) where
  keeps : (ls : Locals) → TypedEnvironment true (scoped ls (closed constants metas)) (scoped ls (closed constants metas)) (under (length ls) (instant s))
  keeps = typed_scoped (closed constants metas) (closed constants metas) s ((instant_is_environment (closed constants metas)).0 (closed constants metas) s typed)

  pub some_result : (ls : Locals) (o : PlainObject) (a : SimpleType) → SimplyTyped (scoped ls (closed constants metas)) o a → (x : PlainObject) × Instantiated (length ls) s o x × SimplyTyped (scoped ls (closed constants metas)) x a
  some_result ls o a p = (typed_has_result true no_families (scoped ls (closed constants metas)) (scoped ls (closed constants metas)) (under (length ls) (instant s)) (keeps ls)).object o a p

  pub stays_typed : (ls : Locals) (o x : PlainObject) (a : SimpleType) → SimplyTyped (scoped ls (closed constants metas)) o a → Instantiated (length ls) s o x → SimplyTyped (scoped ls (closed constants metas)) x a
  stays_typed ls o x a p i = (result_is_typed true no_families (scoped ls (closed constants metas)) (scoped ls (closed constants metas)) (under (length ls) (instant s)) (keeps ls)).object o x a p i

  -- A part of an equation, with solutions put in, is a part of the equation with solutions put in.
  pub part_under : {e d : Equation} → PartOf constants metas e d → TypedEquation constants metas e → (v w : PlainObject) → Instantiated (length e.locals) s e.left v → Instantiated (length e.locals) s e.right w
      → (x y : PlainObject) → Instantiated (length d.locals) s d.left x → Instantiated (length d.locals) s d.right y
      → PartOf constants metas (record { locals = e.locals; left = v; right = w; type = e.type }) (record { locals = d.locals; left = x; right = y; type = d.type })
  part_under {e = e} part_itself t v w i k x y j l = subst (λ z. PartOf constants metas (record { locals = e.locals; left = v; right = w; type = e.type }) (record { locals = e.locals; left = z; right = y; type = e.type })) (determined i j)
      (subst (λ z. PartOf constants metas (record { locals = e.locals; left = v; right = w; type = e.type }) (record { locals = e.locals; left = v; right = z; type = e.type })) (determined k l) part_itself)
  part_under (part_body {ls = ls} {m = m} {b = b} {c = c} p) t v w i k x y j l = part_body (part_under p t v w i k (lam m x) (lam m y)
      (through_lam (subst (λ z. Substituted z b x) (sym (under_instant (length ls) s)) j)) (through_lam (subst (λ z. Substituted z c y) (sym (under_instant (length ls) s)) l)))
  part_under (part_left {ls = ls} r q d p) t v w i k x y j l = let (a, b) = part_typed constants metas p t in
      let (r', ir, _) = some_result ls r a.1 a.4 in let (q', iq, _) = some_result ls q b.1 b.4 in
      part_left r' q' d (part_under p t v w i k (pair x r') (pair y q') (through_pair j ir) (through_pair l iq))
  part_under (part_right {ls = ls} r q d p) t v w i k x y j l = let (a, b) = part_typed constants metas p t in
      let (r', ir, _) = some_result ls r a.0 a.3 in let (q', iq, _) = some_result ls q b.0 b.3 in
      part_right r' q' d (part_under p t v w i k (pair r' x) (pair q' y) (through_pair ir j) (through_pair iq l))
  part_under (part_argument {ls = ls} {o = o} {u = u} {c = c} r n f p h q) t v w i k x y j l = let (a, b) = part_typed constants metas p t in
      let (xr, ir, _) = some_result ls (atomic r) (base f) a in let (xn, iq, _) = some_result ls (atomic n) (base f) b in
      let (r', er, kr) = keeps_head (length ls) s (shape_heads h).0 ir in let (n', en, kn) = keeps_head (length ls) s (shape_heads h).1 iq in
      part_argument r' n' f (part_under p t v w i k (atomic r') (atomic n') (through_kept kr) (through_kept kn)) (shape_under h (keeps_others (length ls) s) kr kn)
      (part_at_under (scoped ls (closed constants metas)) q (to_kept true (scoped ls (closed constants metas)) (scoped ls (closed constants metas)) (under (length ls) (instant s)) (keeps ls)) kr kn x y j l)

pub parts_stay : PartsStay
parts_stay constants metas e d p t = (part_typed constants metas p t, (λ s f u v h k. of_under s f u v h k))
  where
    of_under : (s : Instantiation) → IsAssignment constants metas s → (u v : Equation) → EquationUnder s e u → EquationUnder s d v → PartOf constants metas u v
    of_under s f u v h k = renewed h.locals h.type k.locals k.type (part_under constants metas s f p t u.left u.right h.left h.right v.left v.right k.left k.right)
      where
        renewed : u.locals ≡ e.locals → u.type ≡ e.type → v.locals ≡ d.locals → v.type ≡ d.type
            → PartOf constants metas (record { locals = e.locals; left = u.left; right = u.right; type = e.type }) (record { locals = d.locals; left = v.left; right = v.right; type = d.type }) → PartOf constants metas u v
        renewed a b c g q = subst (λ ls. PartOf constants metas (record { locals = ls; left = u.left; right = u.right; type = u.type }) v) (sym a)
            (subst (λ y. PartOf constants metas (record { locals = e.locals; left = u.left; right = u.right; type = y }) v) (sym b)
            (subst (λ ls. PartOf constants metas (record { locals = e.locals; left = u.left; right = u.right; type = e.type }) (record { locals = ls; left = v.left; right = v.right; type = v.type })) (sym c)
            (subst (λ y. PartOf constants metas (record { locals = e.locals; left = u.left; right = u.right; type = e.type }) (record { locals = d.locals; left = v.left; right = v.right; type = y })) (sym g) q)))
