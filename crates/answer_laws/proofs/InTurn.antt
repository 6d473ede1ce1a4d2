-- Rests in turn, and where metavariables came from in turn: several calls of unification one after the other.
use Rattle.std.specs.Prelude.{ℕ, true, ◌≡◌, ◌⊎◌, List, [], ◌∷◌, ◌++◌, length, refl}
use Rattle.std.proofs.Common.{sym, subst, ◌∙◌, inl, inr, ⊎_elim}
use Rattle.clf_syntax.specs.declared.tree.Mode.{Mode}
use Rattle.clf_syntax.specs.Tree.{PlainObject, lam, pair, atomic, PlainNeutral, app, fst, snd}
use Rattle.clf_syntax.specs.TypeTree.{SimpleType, base, arrow, simple_with}
use Rattle.clf_syntax.specs.Simple.{Assignment, no_holes, SimplyTyped, SimplyTypedNeutral}
use Rattle.hered_subst.specs.Substitution.{Image, keep, put, Environment, under, Substituted, KeepsHead, kept_app, kept_fst, kept_snd}
use Rattle.hered_subst.specs.TypedEnvironments.{TypedEnvironment}
use Rattle.hered_subst.proofs.Bounded.{Kept}
use Rattle.hered_subst.proofs.Determined.{determined}
use Rattle.hered_subst.proofs.SimpleTyping.{to_neutral, of_neutral}
use Rattle.hered_subst.proofs.TypedEnvironments.{to_kept}
use Rattle.subst_laws.specs.Environments.{Instantiation, instant}
use Rattle.subst_laws.proofs.Environs.{instant_is_environment}
use Rattle.subst_laws.proofs.Variables.{neutral_has_one_type}
use Rattle.trace_equal.specs.Exchange.{Joined, stop}
use Rattle.joined_laws.specs.Environments.{JoinedImage}
use Rattle.joined_laws.proofs.Results.{respects_all}
use Rattle.store_laws.proofs.Closing.{no_families}
use Rattle.pattern_laws.specs.Instantiations.{Types, closed, Instantiated}
use Rattle.pattern_laws.specs.Equations.{Locals, scoped, Equation, TypedEquation, Listed, listed_here, listed_later}
use Rattle.pattern_laws.specs.Patterns.{arrows, masked}
use Rattle.pattern_laws.proofs.TypeParts.{from_type}
use Rattle.pattern_laws.proofs.Spines.{under_instant, body}
use Rattle.pattern_laws.proofs.Instances.{typed_scoped}
use Rattle.unify_laws.specs.Parts.{PartAt, part_here, part_function, part_fst, part_snd}
use Rattle.unify_laws.specs.Progress.{CameFrom}
use Rattle.unify_laws.proofs.RigidPlaces.{parts, keeps_head, keeps_others}
use Rattle.unify_laws.proofs.Steps.{shape_heads}
use Rattle.answer_laws.specs.Laws.{RestsInTurn, TracedInTurn}
use Rattle.reach_laws.specs.Rest.{IsAssignment, ComesDown, down_joined, down_listed, down_lam, down_pair, down_neutral, PartOf, part_itself, part_body, part_left, part_right, part_argument, EquationUnder, EachUnder}
use Rattle.reach_laws.proofs.PartsUnder.{part_typed, parts_stay, kept_neutral, shape_under}
use Rattle.reach_laws.proofs.Rests.{typed_listed}

-- A part of a part is a part.
pub part_of_part : {constants metas : Types} {e d p : Equation} → PartOf constants metas d p → PartOf constants metas e d → PartOf constants metas e p
part_of_part part_itself q = q
part_of_part (part_body p) q = part_body (part_of_part p q)
part_of_part (part_left r s d p) q = part_left r s d (part_of_part p q)
part_of_part (part_right l k c p) q = part_right l k c (part_of_part p q)
part_of_part (part_argument r n f p h a) q = part_argument r n f (part_of_part p q) h a

-- the place of an equation in a list after an assignment
pub listed_under : (s : Instantiation) (e : Equation) {es : List Equation} → Listed e es → (ds : List Equation) → EachUnder s es ds → (d : Equation) × Listed d ds × EquationUnder s e d
listed_under s e listed_here [] u = absurd u
listed_under s e listed_here (d ∷ ds) u = (d, listed_here, u.0)
listed_under s e (listed_later l) [] u = absurd u
listed_under s e (listed_later l) (d ∷ ds) u = let (b, k, v) = listed_under s e l ds u.1 in (b, listed_later k, v)

pub listed_back : (s : Instantiation) (d : Equation) {ds : List Equation} → Listed d ds → (es : List Equation) → EachUnder s es ds → (e : Equation) × Listed e es × EquationUnder s e d
listed_back s d listed_here [] u = absurd u
listed_back s d listed_here (e ∷ es) u = (e, listed_here, u.0)
listed_back s d (listed_later l) [] u = absurd u
listed_back s d (listed_later l) (e ∷ es) u = let (b, k, v) = listed_back s d l es u.1 in (b, listed_later k, v)

pub listed_first : {e : Equation} {l : List Equation} → Listed e l → (k : List Equation) → Listed e (l ++ k)
listed_first listed_here k = listed_here
listed_first (listed_later m) k = listed_later (listed_first m k)

pub listed_second : (l : List Equation) {e : Equation} {k : List Equation} → Listed e k → Listed e (l ++ k)
listed_second [] m = m
listed_second (d ∷ l) m = listed_later (listed_second l m)

later_case : {e f : Equation} {l k m : List Equation} → Listed e (f ∷ m) → (Listed e m → Listed e l ⊎ Listed e k) → Listed e (f ∷ l) ⊎ Listed e k
later_case listed_here g = inl listed_here
later_case (listed_later n) g = ⊎_elim (λ a. inl (listed_later a)) (λ b. inr b) (g n)

pub listed_cases : (l k : List Equation) (e : Equation) → Listed e (l ++ k) → Listed e l ⊎ Listed e k
listed_cases [] k e m = inr m
listed_cases (d ∷ l) k e m = later_case m (λ n. listed_cases l k e n)

-- two equations after one assignment are one
pub one_under : (s : Instantiation) (e c d : Equation) → EquationUnder s e c → EquationUnder s e d → c ≡ d
one_under s e c d u v = whole (u.locals ∙ sym v.locals) (determined u.left v.left) (determined u.right v.right) (u.type ∙ sym v.type)
  where
    whole : c.locals ≡ d.locals → c.left ≡ d.left → c.right ≡ d.right → c.type ≡ d.type → c ≡ d
    whole a b f g = rw (a, b, f, g) refl

of_kept_app : {s : Environment} {r x : PlainNeutral} {m : Mode} {v : PlainObject} → KeepsHead s r (app m x v) → (q : PlainNeutral) × (o : PlainObject) × (r ≡ app m q o) × KeepsHead s q x × Substituted s o v
of_kept_app (kept_app {r = q} {o = o} k i) = (q, o, refl, k, i)

of_kept_fst : {s : Environment} {r x : PlainNeutral} → KeepsHead s r (fst x) → (q : PlainNeutral) × (r ≡ fst q) × KeepsHead s q x
of_kept_fst (kept_fst {r = q} k) = (q, refl, k)

of_kept_snd : {s : Environment} {r x : PlainNeutral} → KeepsHead s r (snd x) → (q : PlainNeutral) × (r ≡ snd q) × KeepsHead s q x
of_kept_snd (kept_snd {r = q} k) = (q, refl, k)

both_ends : (g : Assignment) (a b : PlainObject) (c : SimpleType) {r n q k : PlainNeutral} → r ≡ q → n ≡ k → PartAt g a b c q k → PartAt g a b c r n
both_ends g a b c {r = r} {k = k} e h p = subst (λ z. PartAt g a b c r z) (sym h) (subst (λ z. PartAt g a b c z k) (sym e) p)

-- the parts before an environment
part_before : (g : Assignment) {s : Environment} → Kept true g g s → {v w : PlainObject} {c : SimpleType} {x y : PlainNeutral} → PartAt g v w c x y → {r n : PlainNeutral} → KeepsHead s r x → KeepsHead s n y → (t : SimpleType) → SimplyTypedNeutral g r t
    → (o u : PlainObject) × PartAt g o u c r n × Substituted s o v × Substituted s u w
part_before g {s = s} f {c = c} (part_here {m = m} {r = x} e q) kr kn t p = let (r', o, er, kr', io) = of_kept_app kr in let (n', u, en, kn', iu) = of_kept_app kn in
    (o, u, both_ends g o u c er en (here r' n' o u kr' (subst (λ z. SimplyTypedNeutral g z t) er p)), io, iu)
  where
    here : (r' n' : PlainNeutral) (o u : PlainObject) → KeepsHead s r' x → SimplyTypedNeutral g (app m r' o) t → PartAt g o u c (app m r' o) (app m n' u)
    here r' n' o u k p = part_here t (subst (λ d. SimplyTypedNeutral g r' (arrow m d t)) (from_type (neutral_has_one_type (no_holes true) g x (arrow m c e) (arrow m p.0 t) q (of_neutral (kept_neutral k g g f (to_neutral true g r' (arrow m p.0 t) p.1))))) p.1)
part_before g f {c = c} (part_function {m = m} q) kr kn t p = let (r', o, er, kr', io) = of_kept_app kr in let (n', u, en, kn', iu) = of_kept_app kn in
    let p' = subst (λ z. SimplyTypedNeutral g z t) er p in let (a, b, q', ia, ib) = part_before g f q kr' kn' (arrow m p'.0 t) p'.1 in
    (a, b, both_ends g a b c er en (part_function q'), ia, ib)
part_before g f {c = c} (part_fst q) kr kn t p = let (r', er, kr') = of_kept_fst kr in let (n', en, kn') = of_kept_fst kn in
    let p' = subst (λ z. SimplyTypedNeutral g z t) er p in let (a, b, q', ia, ib) = part_before g f q kr' kn' (simple_with t p'.0) p'.1 in
    (a, b, both_ends g a b c er en (part_fst q'), ia, ib)
part_before g f {c = c} (part_snd q) kr kn t p = let (r', er, kr') = of_kept_snd kr in let (n', en, kn') = of_kept_snd kn in
    let p' = subst (λ z. SimplyTypedNeutral g z t) er p in let (a, b, q', ia, ib) = part_before g f q kr' kn' (simple_with p'.0 t) p'.1 in
    (a, b, both_ends g a b c er en (part_snd q'), ia, ib)

module _ (constants metas : Types) (s : Instantiation) (assigns : IsAssignment constants metas s) where
  keeps : (ls : Locals) → TypedEnvironment true (scoped ls (closed constants metas)) (scoped ls (closed constants metas)) (under (length ls) (instant s))
  keeps = typed_scoped (closed constants metas) (closed constants metas) s ((instant_is_environment (closed constants metas)).0 (closed constants metas) s assigns)

  joined_under : (ls : Locals) (o u x y : PlainObject) (a : SimpleType) → SimplyTyped (scoped ls (closed constants metas)) o a → Joined o u → Instantiated (length ls) s o x → Instantiated (length ls) s u y → Joined x y
  joined_under ls o u x y a p j i k = (respects_all no_families (scoped ls (closed constants metas)) (scoped ls (closed constants metas)) (under (length ls) (instant s)) (under (length ls) (instant s))
      (keeps ls) (keeps ls) (λ h t e. itself (under (length ls) (instant s) h))).object o u x y a p j i k
    where
      itself : (i : Image) → JoinedImage i i
      itself (keep h) = inl (h, refl, refl)
      itself (put n) = inr (n, n, refl, refl, stop)

  kept : (ls : Locals) → Kept true (scoped ls (closed constants metas)) (scoped ls (closed constants metas)) (under (length ls) (instant s))
  kept ls = to_kept true (scoped ls (closed constants metas)) (scoped ls (closed constants metas)) (under (length ls) (instant s)) (keeps ls)

  -- what comes down before an assignment comes down after it, where the equations that were left do
  down_under : (left final : List Equation)
      → ((e : Equation) → Listed e left → (x y : PlainObject) → Instantiated (length e.locals) s e.left x → Instantiated (length e.locals) s e.right y → ComesDown constants metas final (record { locals = e.locals; left = x; right = y; type = e.type }))
      → {e : Equation} → ComesDown constants metas left e → TypedEquation constants metas e → (x y : PlainObject) → Instantiated (length e.locals) s e.left x → Instantiated (length e.locals) s e.right y
      → ComesDown constants metas final (record { locals = e.locals; left = x; right = y; type = e.type })
  down_under left final f (down_joined {e = e} j) p x y i k = down_joined (joined_under e.locals e.left e.right x y e.type p.0 j i k)
  down_under left final f (down_listed {e = e} l) p x y i k = f e l x y i k
  down_under left final f (down_lam {ls = ls} {m = m} {b = b} {c = c} {d = d} {a = a} h) p x y i k = let (v, e, j) = body i in let (w, g, l) = body k in
      subst (λ z. ComesDown constants metas final (record { locals = ls; left = z; right = y; type = arrow m d a })) (sym e) (subst (λ z. ComesDown constants metas final (record { locals = ls; left = lam m v; right = z; type = arrow m d a })) (sym g)
      (down_lam (down_under left final f h (part_typed constants metas (part_body {ls = ls} {m = m} {b = b} {c = c} {d = d} {a = a} part_itself) p) v w
      (subst (λ z. Substituted z b v) (under_instant (length ls) s) j) (subst (λ z. Substituted z c w) (under_instant (length ls) s) l))))
  down_under left final f (down_pair {ls = ls} {l = l} {k = k} {r = r} {s = q} {c = c} {d = d} h g) p x y i j = let (v, v', e, iv, iv') = parts i in let (w, w', n, iw, iw') = parts j in
      subst (λ z. ComesDown constants metas final (record { locals = ls; left = z; right = y; type = simple_with c d })) (sym e) (subst (λ z. ComesDown constants metas final (record { locals = ls; left = pair v v'; right = z; type = simple_with c d })) (sym n)
      (down_pair (down_under left final f h (part_typed constants metas (part_left {ls = ls} {l = l} {k = k} {c = c} r q d part_itself) p) v w iv iw)
      (down_under left final f g (part_typed constants metas (part_right {ls = ls} {r = r} {s = q} {d = d} l k c part_itself) p) v' w' iv' iw')))
  down_under left final f (down_neutral {ls = ls} {r = r} {n = n} {f = a} h g) p x y i j = let (v, e, kr) = keeps_head (length ls) s (shape_heads h).0 i in let (w, l, kn) = keeps_head (length ls) s (shape_heads h).1 j in
      subst (λ z. ComesDown constants metas final (record { locals = ls; left = z; right = y; type = base a })) (sym e) (subst (λ z. ComesDown constants metas final (record { locals = ls; left = atomic v; right = z; type = base a })) (sym l)
      (down_neutral (shape_under h (keeps_others (length ls) s) kr kn)
      (λ o u c q. let (o', u', q', io, iu) = part_before (scoped ls (closed constants metas)) (kept ls) q kr kn (base a) p.0.1 in
      down_under left final f (g o' u' c q') (part_typed constants metas (part_argument {ls = ls} {o = o'} {u = u'} {c = c} r n a part_itself h q') p) o u io iu)))

-- an equation after an assignment, in words
renewed : (constants metas : Types) (s : Instantiation) (final : List Equation) (e d : Equation) → EquationUnder s e d → ComesDown constants metas final (record { locals = e.locals; left = d.left; right = d.right; type = e.type }) → ComesDown constants metas final d
renewed constants metas s final e d u c = subst (λ ls. ComesDown constants metas final (record { locals = ls; left = d.left; right = d.right; type = d.type })) (sym u.locals) (subst (λ t. ComesDown constants metas final (record { locals = e.locals; left = d.left; right = d.right; type = t })) (sym u.type) c)

pub rests_in_turn : RestsInTurn
rests_in_turn constants metas s assigns es us left more vs ws final typed first under_es under_left under_more second = record {
  down = (λ d l. ⊎_elim (of_first d) (of_more d) (listed_cases us ws d l));
  met = (λ d l. let (c, k, p) = second.met d l in ⊎_elim (met_first d c p) (met_more d c p) (listed_cases vs ws c k));
  stuck = second.stuck;
  unjoined = second.unjoined;
}
  where
    again : (e : Equation) → Listed e left → (x y : PlainObject) → Instantiated (length e.locals) s e.left x → Instantiated (length e.locals) s e.right y → ComesDown constants metas final (record { locals = e.locals; left = x; right = y; type = e.type })
    again e l x y i k = let (d, m, u) = listed_under s e l vs under_left in
        subst (ComesDown constants metas final) (one_under s e d (record { locals = e.locals; left = x; right = y; type = e.type }) u (record { locals = refl; type = refl; left = i; right = k })) (second.down d (listed_first m ws))

    of_first : (d : Equation) → Listed d us → ComesDown constants metas final d
    of_first d l = let (e, k, u) = listed_back s d l es under_es in
        renewed constants metas s final e d u (down_under constants metas s assigns left final again (first.down e k) (typed_listed constants metas e es k typed) d.left d.right u.left u.right)

    of_more : (d : Equation) → Listed d ws → ComesDown constants metas final d
    of_more d l = second.down d (listed_second vs l)

    met_first : (d c : Equation) → PartOf constants metas c d → Listed c vs → (e : Equation) × Listed e (us ++ ws) × PartOf constants metas e d
    met_first d c p l = let (e, k, u) = listed_back s c l left under_left in let (b, m, q) = first.met e k in let (a, n, v) = listed_under s b m us under_es in
        (a, listed_first n ws, part_of_part p ((parts_stay constants metas b e q (typed_listed constants metas b es m typed)).1 s assigns a c v u))

    met_more : (d c : Equation) → PartOf constants metas c d → Listed c ws → (e : Equation) × Listed e (us ++ ws) × PartOf constants metas e d
    met_more d c p l = (c, listed_second us l, p)

pub traced_in_turn : TracedInTurn
traced_in_turn start middle metas before given g f traced again k a e = ⊎_elim
    (λ u. ⊎_elim (λ v. inl v) (λ v. inr (v.0, later v.0 v.1)) (traced k u.0 u.1))
    (λ u. inr u) (again k a e)
  where
    later : (j : ℕ) → CameFrom middle before k j → CameFrom metas given k j
    later j c = record {
      places = c.places;
      mask = c.mask;
      result = c.result;
      before = c.before;
      final = c.final;
      older = g j (arrows c.places c.result) c.older;
      newer = g k (arrows (masked 0 c.mask c.places) c.result) c.newer;
      solution = f j _ c.solution;
    }
