-- Where a walk stands, and what is found there, step by step.
use Rattle.std.specs.Prelude.{ℕ, Bool, true, false, ◌+◌, ◌-◌, ◌≡◌, ◌↔◌, nat_eq, not, List, [], ◌∷◌, ◌++◌, length, map, Option, Some, None, refl}
use Rattle.std.specs.List.{slice_get}
use Rattle.std.specs.Borrow.{Bor}
use Rattle.std.proofs.Common.{ap, sym, subst, ◌∙◌, arith}
use Rattle.std.proofs.lemmas.List.{length-append, length-map, length-reverse}
use Rattle.clf_syntax.specs.declared.tree.Mode.{Mode}
use Rattle.clf_syntax.specs.declared.tree.Head.{Head}
use Rattle.clf_syntax.specs.declared.tree.Head.TheVariants.{Const, Var, Meta}
use Rattle.clf_syntax.specs.declared.tree.Simple.{Simple}
use Rattle.clf_syntax.specs.Tree.{PlainObject, lam, pair, unit, monadic, atomic, hole, PlainNeutral, head_alone, app, fst, snd, PlainExpression, head_of, PlainElimination, arg, first, second, eliminated, spine_on}
use Rattle.clf_syntax.specs.TypeTree.{SimpleType, arrow, simple_with}
use Rattle.clf_syntax.specs.PlainSimple.{plain_simple}
use Rattle.clf_syntax.specs.Simple.{Assignment, SimplyTyped, SimplyTypedNeutral}
use Rattle.hered_subst.specs.TypedEnvironments.{is_metavariable}
use Rattle.clf_simple.specs.Scope.{scope}
use Rattle.store_laws.specs.Mentions.{mentions}
use Rattle.pattern_laws.specs.Equations.{Locals, scoped}
use Rattle.pattern_laws.specs.Patterns.{Place, OnDistinct, OnLocals, NoForeign, Foreign}
use Rattle.pattern_laws.proofs.Owning.{on_locals}
use Rattle.pattern_laws.proofs.Instances.{scoped_meta}
use Rattle.celf_constraints.specs.declared.places.Places.{Places}
use Rattle.celf_constraints.specs.Reading.{HasTypes, plain_places, own_places}
use Rattle.celf_constraints.proofs.Meeting.{scoped_local}
use Rattle.reach_walk.specs.Marks.{marked_in, is_marked}
use Rattle.reach_walk.specs.Walked.{Found as PlainFound, nothing, both, Walked, WalkedBelow}
use Rattle.reach_walk.proofs.Finding.{walked_lam, walked_pair, walked_unit, walked_monadic, walked_undistinct, walked_distinct, walked_rigid, walked_constant, walked_variable, walked_app, walked_fst, walked_snd}
use Rattle.reach_walk.specs.Fits.{FitsOwn}
use Rattle.reach_walk.proofs.Fitted.{distinct_of, not_distinct}
use Rattle.reach_walk.proofs.OneReading.{stands_final}
use Rattle.reach_walk.proofs.Reaching.{head_of_pattern}
use Rattle.reach_walk.proofs.Marking.{none_marked, some_marked}
use Rattle.celf_reach.specs.Masks.{PrunesTo}
use Rattle.celf_reach.proofs.Pruned.{variable_marked, pruned_to}
use Rattle.celf_reach.specs.Answered.{types_in}
use Rattle.celf_reach.specs.declared.tables.Sought.{Sought}
use Rattle.celf_reach.specs.Sought.{Situated, head_type_in, sought_heads, function_parts, pair_parts}
use Rattle.celf_reach.specs.Scanned.{loose_found, Finds, FindsBelow, ReadAt, SoFar}

the_number : (i v : ℕ) → nat_eq i v ≡ true → i ≡ v
the_number i v e = grind arith

own_number : (i : ℕ) → nat_eq i i ≡ true
own_number i = grind arith

from_type : {m k : Mode} {d c e f : SimpleType} → arrow m d c ≡ arrow k e f → e ≡ d
from_type h = cc

to_type : {m k : Mode} {d c e f : SimpleType} → arrow m d c ≡ arrow k e f → f ≡ c
to_type h = cc

mode_of : {m k : Mode} {d c e f : SimpleType} → arrow m d c ≡ arrow k e f → k ≡ m
mode_of h = cc

first_type : {a b c d : SimpleType} → simple_with a b ≡ simple_with c d → c ≡ a
first_type h = cc

second_type : {a b c d : SimpleType} → simple_with a b ≡ simple_with c d → d ≡ b
second_type h = cc

no_some : {X : Type 0} {x : X} → None ≡ Some x → ⊥
no_some e = cc

the_first : {p q : SimpleType × SimpleType} → Some p ≡ Some q → p ≡ q
the_first e = cc

pub no_function : (t : SimpleType) → None ≡ function_parts t → (m : Mode) (d c : SimpleType) → t ≡ arrow m d c → ⊥
no_function t e m d c f = no_some (e ∙ ap function_parts f)

pub no_pair : (t : SimpleType) → None ≡ pair_parts t → (c d : SimpleType) → t ≡ simple_with c d → ⊥
no_pair t e c d f = no_some (e ∙ ap pair_parts f)

pub function_type : (t : SimpleType) (p : SimpleType × SimpleType) → Some p ≡ function_parts t → (m : Mode) (d c : SimpleType) → t ≡ arrow m d c → (p.0 ≡ d) × (p.1 ≡ c)
function_type t p e m d c f = let k = the_first (e ∙ ap function_parts f) in (ap (λ q. q.0) k, ap (λ q. q.1) k)

pub pair_type : (t : SimpleType) (p : SimpleType × SimpleType) → Some p ≡ pair_parts t → (c d : SimpleType) → t ≡ simple_with c d → (p.0 ≡ c) × (p.1 ≡ d)
pair_type t p e c d f = let k = the_first (e ∙ ap pair_parts f) in (ap (λ q. q.0) k, ap (λ q. q.1) k)

-- ---- where the walk stands

pub situated_more : (s : Sought) (types inner : List (Bor Simple)) (ls ds : Locals) (ps : List Place) (m : Mode) (d : SimpleType) → Situated s types ls ds ps → scope inner ≡ d ∷ scope types → Situated s inner ls ((m, d) ∷ ds) ps
situated_more s types inner ls ds ps m d h e = record { count = h.count; marks = h.marks; scoped = e ∙ ap (λ l. d ∷ l) h.scoped }

pub situated_depth : (s : Sought) (types : List (Bor Simple)) (ls ds : Locals) (ps : List Place) → Situated s types ls ds ps → length types - s.count ≡ length ds
situated_depth s types ls ds ps h = numbers (length types) s.count (length ds) (length ls) (sym (length-map types (λ (t : Bor Simple). plain_simple t.now)) ∙ sym (length-reverse (map (λ (t : Bor Simple). plain_simple t.now) types)) ∙ ap length h.scoped
    ∙ length-map (ds ++ ls) (λ (l : Mode × SimpleType). l.1) ∙ length-append ds ls) h.count
  where
    numbers : (n k d l : ℕ) → n ≡ d + l → l ≡ k → n - k ≡ d
    numbers n k d l e f = omega arith

pub situated_types : (s : Sought) (types : List (Bor Simple)) (ls ds : Locals) (ps : List Place) → Situated s types ls ds ps → HasTypes (scoped (ds ++ ls) (sought_heads s)) s.metas.now (scope types)
situated_types s types ls ds ps h = record {
  metavariables = λ m. scoped_meta (ds ++ ls) (sought_heads s) m;
  variables = λ i. scoped_local (types_in s.consts.now) (types_in s.metas.now) (ds ++ ls) i ∙ ap (λ l. slice_get l i) (sym h.scoped);
}

-- ---- the same told of equals

pub finds_as : (s : Sought) (types : List (Bor Simple)) (x y : PlainObject) (t : SimpleType) (f k : PlainFound) → x ≡ y → f ≡ k → Finds s types x t f → Finds s types y t k
finds_as s types x y t f k e h w = subst (λ o. Finds s types o t k) e (subst (Finds s types x t) h w)

pub so_far_as : (s : Sought) (types : List (Bor Simple)) (n r : PlainNeutral) (u : SimpleType) (f k : PlainFound) → n ≡ r → f ≡ k → SoFar s types n u f → SoFar s types r u k
so_far_as s types n r u f k e h w = subst (λ o. SoFar s types o u k) e (subst (SoFar s types n u) h w)

pub finds_loose : (s : Sought) (types : List (Bor Simple)) (x y : PlainObject) (t : SimpleType) (f : PlainFound) → x ≡ y → f ≡ loose_found (mentions s.meta x) (marked_in s.marks.now (length types - s.count) x)
    → Finds s types y t (loose_found (mentions s.meta y) (marked_in s.marks.now (length types - s.count) y)) → Finds s types x t f
finds_loose s types x y t f e h w = finds_as s types y x t (loose_found (mentions s.meta y) (marked_in s.marks.now (length types - s.count) y)) f (sym e)
    (ap (λ o. loose_found (mentions s.meta o) (marked_in s.marks.now (length types - s.count) o)) (sym e) ∙ sym h) w

-- ---- lambdas and pairs

pub finds_no_lam : (s : Sought) (types : List (Bor Simple)) (k : Mode) (b : PlainObject) (t : SimpleType) (f : PlainFound) → None ≡ function_parts t → Finds s types (lam k b) t f
finds_no_lam s types k b t f e ls ds ps h p = absurd (no_function t e k p.0 p.1 p.2)

pub finds_lam : (s : Sought) (types inner : List (Bor Simple)) (k : Mode) (b : PlainObject) (t : SimpleType) (q : SimpleType × SimpleType) (f : PlainFound) → Some q ≡ function_parts t → scope inner ≡ q.0 ∷ scope types
    → Finds s inner b q.1 f → Finds s types (lam k b) t f
finds_lam s types inner k b t q f e i w ls ds ps h p =
    let (u, v) = function_type t q e k p.0 p.1 p.2 in
    subst (λ y. Walked (sought_heads s) ls s.meta ps ds (lam k b) y f) (ap (λ y. arrow k y q.1) u ∙ ap (arrow k p.0) v ∙ sym p.2)
    (walked_lam (sought_heads s) ls s.meta ps ds k q.0 q.1 b f (w ls ((k, q.0) ∷ ds) ps (situated_more s types inner ls ds ps k q.0 h i)
    (subst (λ y. SimplyTyped (scoped ((k, y) ∷ (ds ++ ls)) (sought_heads s)) b q.1) (sym u) (subst (SimplyTyped (scoped ((k, p.0) ∷ (ds ++ ls)) (sought_heads s)) b) (sym v) p.3))))

pub finds_no_pair : (s : Sought) (types : List (Bor Simple)) (l r : PlainObject) (t : SimpleType) (f : PlainFound) → None ≡ pair_parts t → Finds s types (pair l r) t f
finds_no_pair s types l r t f e ls ds ps h p = absurd (no_pair t e p.0 p.1 p.2)

pub finds_pair : (s : Sought) (types : List (Bor Simple)) (l r : PlainObject) (t : SimpleType) (q : SimpleType × SimpleType) (f k : PlainFound) → Some q ≡ pair_parts t → Finds s types l q.0 f → Finds s types r q.1 k → Finds s types (pair l r) t (both f k)
finds_pair s types l r t q f k e a b ls ds ps h p =
    let (u, v) = pair_type t q e p.0 p.1 p.2 in
    subst (λ y. Walked (sought_heads s) ls s.meta ps ds (pair l r) y (both f k)) (ap (λ y. simple_with y q.1) u ∙ ap (simple_with p.0) v ∙ sym p.2)
    (walked_pair (sought_heads s) ls s.meta ps ds q.0 q.1 l r f k
    (a ls ds ps h (subst (SimplyTyped (scoped (ds ++ ls) (sought_heads s)) l) (sym u) p.3)) (b ls ds ps h (subst (SimplyTyped (scoped (ds ++ ls) (sought_heads s)) r) (sym v) p.4)))

-- whether a marked local occurs
marked_at : (s : Sought) (types : List (Bor Simple)) (ls ds : Locals) (ps : List Place) (x : PlainObject) → Situated s types ls ds ps
    → (marked_in s.marks.now (length types - s.count) x ≡ false → NoForeign (length ls) ps (length ds) x) × (NoForeign (length ls) ps (length ds) x → marked_in s.marks.now (length types - s.count) x ≡ false)
marked_at s types ls ds ps x h =
    let e = situated_depth s types ls ds ps h in (
      λ f. none_marked (length ls) ps s.marks.now h.marks (length ds) x (subst (λ d. marked_in s.marks.now d x ≡ false) e f),
      λ f. subst (λ d. marked_in s.marks.now d x ≡ false) (sym e) (some_marked (length ls) ps s.marks.now h.marks (length ds) x f),
    )

pub finds_monadic : (s : Sought) (types : List (Bor Simple)) (e : PlainExpression) (t : SimpleType) → Finds s types (monadic e) t (loose_found (mentions s.meta (monadic e)) (marked_in s.marks.now (length types - s.count) (monadic e)))
finds_monadic s types e t ls ds ps h p = let (a, b) = marked_at s types ls ds ps (monadic e) h in walked_monadic (sought_heads s) ls s.meta ps ds e t (marked_in s.marks.now (length types - s.count) (monadic e)) a b

-- a metavariable that is not on distinct locals
pub finds_undistinct : (s : Sought) (types : List (Bor Simple)) (n : PlainNeutral) (t : SimpleType) → is_metavariable (head_of n) ≡ true
    → ((ls ds : Locals) (ps : List Place) → Situated s types ls ds ps → SimplyTyped (scoped (ds ++ ls) (sought_heads s)) (atomic n) t → (k : ℕ) (zs : List Place) → OnDistinct (scoped (ds ++ ls) (sought_heads s)) n k zs t → ⊥)
    → Finds s types (atomic n) t (loose_found (mentions s.meta (atomic n)) (marked_in s.marks.now (length types - s.count) (atomic n)))
finds_undistinct s types n t e none ls ds ps h p = let (a, b) = marked_at s types ls ds ps (atomic n) h in
    walked_undistinct (sought_heads s) ls s.meta ps ds n t (marked_in s.marks.now (length types - s.count) (atomic n)) e (none ls ds ps h p) a b

-- ---- neutrals

pub so_far_fst : (s : Sought) (types : List (Bor Simple)) (n : PlainNeutral) (u : SimpleType) (f : PlainFound) (v : SimpleType) → SoFar s types n u f → ((c d : SimpleType) → u ≡ simple_with c d → v ≡ c) → SoFar s types (fst n) v f
so_far_fst s types n u f v w g ls ds ps h t p = let (e, k) = w ls ds ps h (simple_with t p.0) p.1 in (sym (g t p.0 (sym e)), walked_fst (sought_heads s) ls s.meta ps ds n f k)

pub so_far_snd : (s : Sought) (types : List (Bor Simple)) (n : PlainNeutral) (u : SimpleType) (f : PlainFound) (v : SimpleType) → SoFar s types n u f → ((c d : SimpleType) → u ≡ simple_with c d → v ≡ d) → SoFar s types (snd n) v f
so_far_snd s types n u f v w g ls ds ps h t p = let (e, k) = w ls ds ps h (simple_with p.0 t) p.1 in (sym (g p.0 t (sym e)), walked_snd (sought_heads s) ls s.meta ps ds n f k)

pub so_far_no_app : (s : Sought) (types : List (Bor Simple)) (n : PlainNeutral) (u : SimpleType) (f : PlainFound) (k : Mode) (x : PlainObject) (v : SimpleType) (j : PlainFound) → SoFar s types n u f → None ≡ function_parts u → SoFar s types (app k n x) v j
so_far_no_app s types n u f k x v j w e ls ds ps h t p = absurd (no_function u e k p.0 t (sym (w ls ds ps h (arrow k p.0 t) p.1).0))

pub so_far_app : (s : Sought) (types : List (Bor Simple)) (n : PlainNeutral) (u : SimpleType) (f : PlainFound) (k : Mode) (x : PlainObject) (q : SimpleType × SimpleType) (j : PlainFound) → SoFar s types n u f → Some q ≡ function_parts u
    → Finds s types x q.0 j → SoFar s types (app k n x) q.1 (both f j)
so_far_app s types n u f k x q j w e o ls ds ps h t p =
    let (a, b) = w ls ds ps h (arrow k p.0 t) p.1 in
    let (y, z) = function_type u q e k p.0 t (sym a) in (
      sym z,
      walked_app (sought_heads s) ls s.meta ps ds k n x p.0 t p.1 f j b
          (subst (λ d. Walked (sought_heads s) ls s.meta ps ds x d j) y (o ls ds ps h (subst (SimplyTyped (scoped (ds ++ ls) (sought_heads s)) x) (sym y) p.2))),
    )

-- Along a spine: what is left of it stands under what was walked.
pub record Along (s : Sought) (types : List (Bor Simple)) (es : List PlainElimination) (start : PlainNeutral) (left : List PlainElimination) (u : SimpleType) (f : PlainFound) : Type 0 where
  pub done : PlainNeutral
  pub so_far : SoFar s types done u f
  pub whole : spine_on left done ≡ spine_on es start

pub along_more : (s : Sought) (types : List (Bor Simple)) (es : List PlainElimination) (start : PlainNeutral) (e : PlainElimination) (left : List PlainElimination) (u v : SimpleType) (f k : PlainFound)
    → Along s types es start (e ∷ left) u f → ((n : PlainNeutral) → SoFar s types n u f → SoFar s types (eliminated e n) v k) → Along s types es start left v k
along_more s types es start e left u v f k a g = record { done = eliminated e a.done; so_far = g a.done a.so_far; whole = a.whole }

pub along_end : (s : Sought) (types : List (Bor Simple)) (es : List PlainElimination) (start : PlainNeutral) (left : List PlainElimination) (u : SimpleType) (f : PlainFound) → left ≡ [] → Along s types es start left u f → FindsBelow s types (spine_on es start) f
along_end s types es start left u f e a ls ds ps h t p =
    let same : a.done ≡ spine_on es start = ap (λ l. spine_on l a.done) (sym e) ∙ a.whole in
    subst (λ n. WalkedBelow (sought_heads s) ls s.meta ps ds n f) same (a.so_far ls ds ps h t (subst (λ n. SimplyTypedNeutral (scoped (ds ++ ls) (sought_heads s)) n t) (sym same) p)).1

-- ---- heads

no_meta : (h : Head) → is_metavariable h ≡ false → (m : ℕ) → h ≡ Meta m → ⊥
no_meta h e m f = true_false (sym (ap is_metavariable f) ∙ e)
  where
    true_false : true ≡ false → ⊥
    true_false e = cc

one_type : {c d : SimpleType} → Some c ≡ Some d → c ≡ d
one_type e = cc

-- The type of a constant or a variable in scope is the one that it has there.
pub head_typed : (s : Sought) (types : List (Bor Simple)) (ls ds : Locals) (ps : List Place) (h : Head) → Situated s types ls ds ps → is_metavariable h ≡ false → head_type_in s.consts.now (scope types) h ≡ scoped (ds ++ ls) (sought_heads s) h
head_typed s types ls ds ps (Const c) h e = sym (constant (ds ++ ls))
  where
    constant : (es : Locals) → scoped es (sought_heads s) (Const c) ≡ types_in s.consts.now c
    constant [] = refl
    constant (d ∷ es) = constant es
head_typed s types ls ds ps (Var i) h e = sym ((situated_types s types ls ds ps h).variables i)
head_typed s types ls ds ps (Meta m) h e = absurd (no_meta (Meta m) e m refl)

head_found : (s : Sought) (types : List (Bor Simple)) (ls ds : Locals) (ps : List Place) (h : Head) → Situated s types ls ds ps → is_metavariable h ≡ false
    → WalkedBelow (sought_heads s) ls s.meta ps ds (head_alone h) (record { clash = is_marked s.marks.now (length types - s.count) h; free = not (is_marked s.marks.now (length types - s.count) h); prune = None })
head_found s types ls ds ps (Const c) h e = walked_constant (sought_heads s) ls s.meta ps ds c
head_found s types ls ds ps (Var i) h e = walked_variable (sought_heads s) ls s.meta ps ds i (is_marked s.marks.now (length types - s.count) (Var i)) (subst (λ d. (is_marked s.marks.now d (Var i) ≡ true) ↔ Foreign (length ls) ps (length ds) i) (sym (situated_depth s types ls ds ps h))
    (variable_marked (length ls) ps s.marks.now h.marks (length ds) i))
head_found s types ls ds ps (Meta m) h e = absurd (no_meta (Meta m) e m refl)

pub so_far_head : (s : Sought) (types : List (Bor Simple)) (h : Head) (u : SimpleType) (b : Bool) → b ≡ is_marked s.marks.now (length types - s.count) h → is_metavariable h ≡ false → Some u ≡ head_type_in s.consts.now (scope types) h
    → SoFar s types (head_alone h) u (record { clash = b; free = not b; prune = None })
so_far_head s types h u b k e f ls ds ps w t p = (
  one_type (sym p ∙ sym (head_typed s types ls ds ps h w e) ∙ sym f),
  subst (λ y. WalkedBelow (sought_heads s) ls s.meta ps ds (head_alone h) (record { clash = y; free = not y; prune = None })) (sym k) (head_found s types ls ds ps h w e),
)

-- ---- atomic objects

pub finds_rigid : (s : Sought) (types : List (Bor Simple)) (n : PlainNeutral) (t : SimpleType) (f : PlainFound) → is_metavariable (head_of n) ≡ false → FindsBelow s types n f → Finds s types (atomic n) t f
finds_rigid s types n t f e w ls ds ps h p = walked_rigid (sought_heads s) ls s.meta ps ds n t f e
    (λ i. no_meta (head_of n) e s.meta (head_of_pattern (scoped (ds ++ ls) (sought_heads s)) n s.meta i.0 i.0 t (on_locals (scoped (ds ++ ls) (sought_heads s)) n s.meta i.0 t i.1)))
    (w ls ds ps h t p.1)

-- the type of what stands under a spine
pub inner_type : (z : Assignment) (es : List PlainElimination) (r : PlainNeutral) (t : SimpleType) → SimplyTypedNeutral z (spine_on es r) t → (u : SimpleType) × SimplyTypedNeutral z r u
inner_type z [] r t p = (t, p)
inner_type z (arg m o ∷ es) r t p = let (u, q) = inner_type z es (app m r o) t p in (arrow m q.0 u, q.1)
inner_type z (first ∷ es) r t p = let (u, q) = inner_type z es (fst r) t p in (simple_with u q.0, q.1)
inner_type z (second ∷ es) r t p = let (u, q) = inner_type z es (snd r) t p in (simple_with q.0 u, q.1)

pub finds_untyped : (s : Sought) (types : List (Bor Simple)) (h : Head) (es : List PlainElimination) (t : SimpleType) (f : PlainFound) → is_metavariable h ≡ false → None ≡ head_type_in s.consts.now (scope types) h → Finds s types (atomic (spine_on es (head_alone h))) t f
finds_untyped s types h es t f e k ls ds ps w p = let (u, q) = inner_type (scoped (ds ++ ls) (sought_heads s)) es (head_alone h) t p.1 in absurd (no_some (k ∙ head_typed s types ls ds ps h w e ∙ q))

-- a metavariable that was read
pub finds_unread : (s : Sought) (types : List (Bor Simple)) (n : PlainNeutral) (t : SimpleType) → is_metavariable (head_of n) ≡ true
    → ((z : Assignment) (u : SimpleType) → HasTypes z s.metas.now (scope types) → SimplyTypedNeutral z n u → (m : ℕ) (ps qs : List Place) → OnLocals z n m ps qs u → ⊥)
    → Finds s types (atomic n) t (loose_found (mentions s.meta (atomic n)) (marked_in s.marks.now (length types - s.count) (atomic n)))
finds_unread s types n t e none = finds_undistinct s types n t e (λ ls ds ps h p k zs d. none (scoped (ds ++ ls) (sought_heads s)) t (situated_types s types ls ds ps h) p.1 k zs zs (on_locals (scoped (ds ++ ls) (sought_heads s)) n k zs t d))

pub read_there : (s : Sought) (types : List (Bor Simple)) (n : PlainNeutral) (t : SimpleType) (p : Places)
    → ((z : Assignment) (u : SimpleType) → HasTypes z s.metas.now (scope types) → SimplyTypedNeutral z n u → OnLocals z n p.meta (plain_places p) (own_places p) u) → ReadAt s types n t p
read_there s types n t p r ls ds ps h k = r (scoped (ds ++ ls) (sought_heads s)) t (situated_types s types ls ds ps h) k

pub finds_misfit : (s : Sought) (types : List (Bor Simple)) (n : PlainNeutral) (t : SimpleType) (p : Places) → is_metavariable (head_of n) ≡ true → ReadAt s types n t p → (FitsOwn (plain_places p) (own_places p) → ⊥)
    → Finds s types (atomic n) t (loose_found (mentions s.meta (atomic n)) (marked_in s.marks.now (length types - s.count) (atomic n)))
finds_misfit s types n t p e r h = finds_undistinct s types n t e (λ ls ds ps w k m zs d.
    not_distinct (scoped (ds ++ ls) (sought_heads s)) n p.meta (plain_places p) (own_places p) t (stands_final (scoped (ds ++ ls) (sought_heads s)) n t k) (r ls ds ps w k.1) h m zs d)

pub finds_distinct : (s : Sought) (types : List (Bor Simple)) (n : PlainNeutral) (t : SimpleType) (p : Places) (u : Bool) (o : Option (ℕ × List Bool)) → is_metavariable (head_of n) ≡ true → ReadAt s types n t p → FitsOwn (plain_places p) (own_places p)
    → u ≡ nat_eq p.meta s.meta → PrunesTo s.marks.now (length types - s.count) p.meta (plain_places p) o
    → Finds s types (atomic n) t (record { clash = u; free = not (mentions s.meta (atomic n)); prune = o })
finds_distinct s types n t p u o e r f k w ls ds ps h q =
    let d = distinct_of (scoped (ds ++ ls) (sought_heads s)) n p.meta (plain_places p) (own_places p) t (r ls ds ps h q.1) f in
    walked_distinct (sought_heads s) ls s.meta ps ds n t p.meta (plain_places p) u o e d
    (λ c. the_number p.meta s.meta (sym k ∙ c))
    (λ i. k ∙ subst (λ j. nat_eq p.meta j ≡ true) (same_meta (sym (meta_of d) ∙ meta_of i.1)) (own_number p.meta))
    (pruned_to (sought_heads s) ls ps ds s.marks.now h.marks n p.meta (plain_places p) t d o (subst (λ y. PrunesTo s.marks.now y p.meta (plain_places p) o) (situated_depth s types ls ds ps h) w))
  where
    same_meta : {i j : ℕ} → Meta i ≡ Meta j → i ≡ j
    same_meta e = cc

    meta_of : {z : Assignment} {m : ℕ} {zs : List Place} → OnDistinct z n m zs t → head_of n ≡ Meta m
    meta_of {z} {m} {zs} d = head_of_pattern z n m zs zs t (on_locals z n m zs t d)
