-- Parts of flat equations are flat; and nothing of flat equations is left.
use Rattle.std.specs.Prelude.{ℕ, true, false, ◌≡◌, List}
use Rattle.std.proofs.Common.{ap, subst, ◌∙◌, ⊎_elim}
use Rattle.std.specs.List.{slice_get}
use Rattle.clf_syntax.specs.declared.tree.Mode.{Mode}
use Rattle.clf_syntax.specs.declared.tree.Head.TheVariants.{Meta}
use Rattle.clf_syntax.specs.Tree.{PlainObject, lam, pair, atomic, PlainNeutral, head_alone, app, fst, snd, head_of}
use Rattle.clf_syntax.specs.TypeTree.{SimpleType, base, arrow, simple_with}
use Rattle.clf_syntax.specs.Simple.{Assignment, extended, no_holes}
use Rattle.clf_syntax.proofs.OccursLaws.{not_both}
use Rattle.hered_subst.specs.TypedEnvironments.{is_metavariable}
use Rattle.subst_laws.proofs.Variables.{neutral_has_one_type}
use Rattle.store_laws.specs.Additions.{meta_types}
use Rattle.pattern_laws.specs.Instantiations.{Types, closed}
use Rattle.pattern_laws.specs.Equations.{scoped, Equation}
use Rattle.pattern_laws.specs.Patterns.{Place, OnDistinct, Ordered}
use Rattle.pattern_laws.proofs.TypeParts.{from_type, to_type, first_type, second_type}
use Rattle.pattern_laws.proofs.Spines.{head_on}
use Rattle.unify_laws.specs.Parts.{SameShape, shape_app, shape_fst, shape_snd, PartAt, part_here, part_function, part_fst, part_snd}
use Rattle.unify_laws.proofs.Steps.{shape_heads}
use Rattle.reach_laws.specs.Rest.{PartOf, part_itself, part_body, part_left, part_right, part_argument}
use Rattle.reach_laws.proofs.PartsUnder.{one_shape}
use Rattle.flat_laws.specs.Flat.{Flat, FlatBelow}
use Rattle.solver_laws.proofs.Grown.{more_scoped}
use Rattle.flat_systems.specs.Systems.{FlatEquation}
use Rattle.flat_systems.specs.Laws.{FlatParts, FlatGrows}
use Rattle.flat_systems.proofs.Grown.{flat_more}

function_shape : {m k : Mode} {r s : PlainNeutral} {o u : PlainObject} → SameShape (app m r o) (app k s u) → SameShape r s
function_shape (shape_app h) = h

first_shape : {r s : PlainNeutral} → SameShape (fst r) (fst s) → SameShape r s
first_shape (shape_fst h) = h

second_shape : {r s : PlainNeutral} → SameShape (snd r) (snd s) → SameShape r s
second_shape (shape_snd h) = h

arguments_flat : (g : Assignment) {o u : PlainObject} {c : SimpleType} {r n : PlainNeutral} → PartAt g o u c r n → SameShape r n → FlatBelow g r → FlatBelow g n → Flat g o c × Flat g u c
arguments_flat g {o = o} {u = u} {c = c} (part_here {m = m} {r = r} {s = s} e t) h (_, (d, a, p, x)) (_, (k, b, q, y)) = (
  subst (Flat g o) (from_type (neutral_has_one_type (no_holes true) g r (arrow m c e) (arrow m d a) t p)) x,
  subst (Flat g u) (from_type (one_shape g (function_shape h) (arrow m c e) (arrow m k b) t q)) y,
)
arguments_flat g (part_function t) h (p, _) (q, _) = arguments_flat g t (function_shape h) p q
arguments_flat g (part_fst t) h p q = arguments_flat g t (first_shape h) p q
arguments_flat g (part_snd t) h p q = arguments_flat g t (second_shape h) p q

-- a metavariable as head
is_meta : (g : Assignment) (n : PlainNeutral) (k : ℕ) (zs : List Place) (t : SimpleType) → OnDistinct g n k zs t → is_metavariable (head_of n) ≡ true
is_meta g n k zs t d = ap (λ q. is_metavariable (head_of q)) d.neutral ∙ ap is_metavariable (head_on zs (head_alone (Meta k)))

flat_below : (g : Assignment) (n : PlainNeutral) (t : SimpleType) → Flat g (atomic n) t → is_metavariable (head_of n) ≡ false → FlatBelow g n
flat_below g n t f e = ⊎_elim (λ h. h.1) (λ h. absurd (not_both (is_meta g n h.0 h.1 t h.2) e)) f

pub flat_flexible : (g : Assignment) (n : PlainNeutral) (t : SimpleType) → Flat g (atomic n) t → is_metavariable (head_of n) ≡ true → (k : ℕ) × (zs : List Place) × OnDistinct g n k zs t × Ordered zs
flat_flexible g n t f e = ⊎_elim (λ h. absurd (not_both e h.0)) (λ h. h) f

flat_body : (g : Assignment) (m : Mode) (b : PlainObject) (d a : SimpleType) → Flat g (lam m b) (arrow m d a) → Flat (extended d g) b a
flat_body g m b d a (k, c, e, f) = subst (λ x. Flat (extended x g) b a) (from_type e) (subst (λ x. Flat (extended k g) b x) (to_type e) f)

flat_first : (g : Assignment) (l r : PlainObject) (c d : SimpleType) → Flat g (pair l r) (simple_with c d) → Flat g l c
flat_first g l r c d (k, n, e, f, h) = subst (Flat g l) (first_type e) f

flat_second : (g : Assignment) (l r : PlainObject) (c d : SimpleType) → Flat g (pair l r) (simple_with c d) → Flat g r d
flat_second g l r c d (k, n, e, f, h) = subst (Flat g r) (second_type e) h

pub part_flat : (constants metas : Types) {e d : Equation} → PartOf constants metas e d → FlatEquation constants metas e → FlatEquation constants metas d
part_flat constants metas part_itself f = f
part_flat constants metas (part_body {ls = ls} {m = m} {b = b} {c = c} {d = d} {a = a} p) f = let (l, r) = part_flat constants metas p f in
    (flat_body (scoped ls (closed constants metas)) m b d a l, flat_body (scoped ls (closed constants metas)) m c d a r)
part_flat constants metas (part_left {ls = ls} {l = l} {k = k} {c = c} r s d p) f = let (x, y) = part_flat constants metas p f in
    (flat_first (scoped ls (closed constants metas)) l r c d x, flat_first (scoped ls (closed constants metas)) k s c d y)
part_flat constants metas (part_right {ls = ls} {r = r} {s = s} {d = d} l k c p) f = let (x, y) = part_flat constants metas p f in
    (flat_second (scoped ls (closed constants metas)) l r c d x, flat_second (scoped ls (closed constants metas)) k s c d y)
part_flat constants metas (part_argument {ls = ls} r n a p h q) f = let (x, y) = part_flat constants metas p f in
    arguments_flat (scoped ls (closed constants metas)) q h
    (flat_below (scoped ls (closed constants metas)) r (base a) x (shape_heads h).0)
    (flat_below (scoped ls (closed constants metas)) n (base a) y (shape_heads h).1)

pub flat_parts : FlatParts
flat_parts constants zs es us ready flat f = record {
  store = flat.store;
  equations = (λ e l. let (d, k, p) = f e l in part_flat (slice_get constants) (slice_get (meta_types zs)) p (flat.equations d k));
}

pub flat_grows : FlatGrows
flat_grows constants zs more es flat grows store = record {
  store = store;
  equations = (λ e l. (side e e.left (flat.equations e l).0, side e e.right (flat.equations e l).1));
}
  where
    side : (e : Equation) (x : PlainObject) → Flat (scoped e.locals (closed (slice_get constants) (slice_get (meta_types zs)))) x e.type → Flat (scoped e.locals (closed (slice_get constants) (slice_get (meta_types more)))) x e.type
    side e x p = flat_more (scoped e.locals (closed (slice_get constants) (slice_get (meta_types zs)))) (scoped e.locals (closed (slice_get constants) (slice_get (meta_types more))))
        (more_scoped (slice_get constants) (slice_get (meta_types zs)) (slice_get (meta_types more)) e.locals grows) x e.type p
