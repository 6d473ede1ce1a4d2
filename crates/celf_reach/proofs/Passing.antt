-- Where a number goes too far in a part, it does so in the whole.
use Rattle.std.specs.Prelude.{◌≡◌, true, false, List, [], ◌∷◌, ◌++◌, length, map, Some, Result, Ok, Err}
use Rattle.std.specs.Borrow.{Bor}
use Rattle.std.specs.Result.{IfErr, IsErrAnd}
use Rattle.std.proofs.Common.{ap, sym, subst, ◌∙◌, inl, inr}
use Rattle.clf_syntax.specs.declared.fault.Or.{Or}
use Rattle.clf_syntax.specs.declared.fault.Or.TheVariants.{Fault, NoMemory}
use Rattle.clf_syntax.specs.declared.fault.TooFar.{TooFar}
use Rattle.clf_syntax.specs.declared.tree.Mode.{Mode}
use Rattle.clf_syntax.specs.declared.tree.Simple.{Simple}
use Rattle.clf_syntax.specs.Tree.{PlainObject, lam, pair, atomic, PlainNeutral, app, head_of, PlainElimination, arg, first, second, eliminated, spine_on}
use Rattle.clf_syntax.specs.TypeTree.{SimpleType, arrow, simple_with}
use Rattle.clf_syntax.specs.Simple.{SimplyTyped}
use Rattle.hered_subst.specs.TypedEnvironments.{is_metavariable}
use Rattle.clf_simple.specs.Scope.{scope}
use Rattle.pattern_laws.specs.Equations.{Locals, scoped}
use Rattle.pattern_laws.specs.Patterns.{Place}
use Rattle.reach_walk.specs.Marks.{MarksForeign}
use Rattle.reach_walk.specs.Somewhere.{Somewhere, SomewhereBelow}
use Rattle.reach_walk.specs.Walked.{Found as PlainFound}
use Rattle.reach_walk.proofs.Standings.{into_body, into_left, into_right, here, below, into_function, into_argument, into_fst, into_snd}
use Rattle.celf_constraints.specs.Equated.{plain_locals}
use Rattle.celf_constraints.specs.Reading.{FormTooFar}
use Rattle.celf_reach.specs.declared.tables.Sought.{Sought}
use Rattle.celf_reach.specs.declared.tables.Tables.{Tables}
use Rattle.celf_reach.specs.Answered.{heads_of}
use Rattle.celf_reach.specs.Limits.{IsTooFarAt}
use Rattle.celf_reach.specs.Passed.{PassesIn, PassesBelow, PassesFor}
use Rattle.celf_reach.specs.Scanned.{SoFar}
use Rattle.celf_reach.specs.Sought.{sought_heads, function_parts, pair_parts}
use Rattle.celf_reach.proofs.Composing.{locals_long}
use Rattle.celf_reach.proofs.Situations.{situated_more, function_type, pair_type, inner_type, Along}

-- What holds of an error holds of it where it is handed on.
pub carried : {T E : Type 0} (r : Result T E) (e : E) (P : E → Type 0) → IsErrAnd r (λ y. y ≡ e) → P e → IfErr r P
carried (Ok x) e P q w = absurd q
carried (Err y) e P q w = subst P (sym q) w

-- ---- lambdas and pairs

pub passes_lam : (s : Sought) (types inner : List (Bor Simple)) (k : Mode) (b : PlainObject) (t : SimpleType) (q : SimpleType × SimpleType) (e : Or TooFar) → Some q ≡ function_parts t → scope inner ≡ q.0 ∷ scope types
    → PassesIn s inner b q.1 e → PassesIn s types (lam k b) t e
passes_lam s types inner k b t q (Fault f) e i w = λ ls ds ps h p.
    let (u, v) = function_type t q e k p.0 p.1 p.2 in
    subst (Somewhere (IsTooFarAt ls (Fault f)) (sought_heads s) ls ds (lam k b)) (ap (λ y. arrow k y q.1) u ∙ ap (arrow k p.0) v ∙ sym p.2)
    (into_body (IsTooFarAt ls (Fault f)) (sought_heads s) ls ds k q.0 q.1 b (w ls ((k, q.0) ∷ ds) ps (situated_more s types inner ls ds ps k q.0 h i)
    (subst (λ y. SimplyTyped (scoped ((k, y) ∷ (ds ++ ls)) (sought_heads s)) b q.1) (sym u) (subst (SimplyTyped (scoped ((k, p.0) ∷ (ds ++ ls)) (sought_heads s)) b) (sym v) p.3))))
passes_lam s types inner k b t q NoMemory e i w = tt

pub passes_left : (s : Sought) (types : List (Bor Simple)) (l r : PlainObject) (t : SimpleType) (q : SimpleType × SimpleType) (e : Or TooFar) → Some q ≡ pair_parts t → PassesIn s types l q.0 e → PassesIn s types (pair l r) t e
passes_left s types l r t q (Fault f) e w = λ ls ds ps h p.
    let (u, v) = pair_type t q e p.0 p.1 p.2 in
    subst (Somewhere (IsTooFarAt ls (Fault f)) (sought_heads s) ls ds (pair l r)) (ap (λ y. simple_with y q.1) u ∙ ap (simple_with p.0) v ∙ sym p.2)
    (into_left (IsTooFarAt ls (Fault f)) (sought_heads s) ls ds q.0 q.1 l r (w ls ds ps h (subst (SimplyTyped (scoped (ds ++ ls) (sought_heads s)) l) (sym u) p.3)))
passes_left s types l r t q NoMemory e w = tt

pub passes_right : (s : Sought) (types : List (Bor Simple)) (l r : PlainObject) (t : SimpleType) (q : SimpleType × SimpleType) (e : Or TooFar) → Some q ≡ pair_parts t → PassesIn s types r q.1 e → PassesIn s types (pair l r) t e
passes_right s types l r t q (Fault f) e w = λ ls ds ps h p.
    let (u, v) = pair_type t q e p.0 p.1 p.2 in
    subst (Somewhere (IsTooFarAt ls (Fault f)) (sought_heads s) ls ds (pair l r)) (ap (λ y. simple_with y q.1) u ∙ ap (simple_with p.0) v ∙ sym p.2)
    (into_right (IsTooFarAt ls (Fault f)) (sought_heads s) ls ds q.0 q.1 l r (w ls ds ps h (subst (SimplyTyped (scoped (ds ++ ls) (sought_heads s)) r) (sym v) p.4)))
passes_right s types l r t q NoMemory e w = tt

-- ---- atomic objects

-- a metavariable that cannot be read
pub passes_flexible : (s : Sought) (types : List (Bor Simple)) (x : PlainObject) (n : PlainNeutral) (t : SimpleType) (e : Or TooFar) → x ≡ atomic n → is_metavariable (head_of n) ≡ true → FormTooFar (scope types) e → PassesIn s types x t e
passes_flexible s types x n t (Fault f) i m w = λ ls ds ps h p. subst (λ y. Somewhere (IsTooFarAt ls (Fault f)) (sought_heads s) ls ds y t) (sym i)
    (here (IsTooFarAt ls (Fault f)) (sought_heads s) ls ds n t (m, subst (λ vs. FormTooFar vs (Fault f)) h.scoped w))
passes_flexible s types x n t NoMemory i m w = tt

pub passes_rigid : (s : Sought) (types : List (Bor Simple)) (n : PlainNeutral) (t : SimpleType) (e : Or TooFar) → is_metavariable (head_of n) ≡ false → PassesBelow s types n e → PassesIn s types (atomic n) t e
passes_rigid s types n t (Fault f) i w = λ ls ds ps h p. below (IsTooFarAt ls (Fault f)) (sought_heads s) ls ds n t i (w ls ds ps h t p.1)
passes_rigid s types n t NoMemory i w = tt

-- ---- neutrals

pub passes_app : (s : Sought) (types : List (Bor Simple)) (n : PlainNeutral) (u : SimpleType) (g : PlainFound) (k : Mode) (x : PlainObject) (q : SimpleType × SimpleType) (e : Or TooFar) → Some q ≡ function_parts u
    → PassesIn s types x q.0 e → SoFar s types n u g → PassesBelow s types (app k n x) e
passes_app s types n u g k x q (Fault f) i w r = λ ls ds ps h t p.
    let (a, b) = r ls ds ps h (arrow k p.0 t) p.1 in
    let (y, z) = function_type u q i k p.0 t (sym a) in
    into_argument (IsTooFarAt ls (Fault f)) (sought_heads s) ls ds k n x p.0 t p.1
    (subst (Somewhere (IsTooFarAt ls (Fault f)) (sought_heads s) ls ds x) y (w ls ds ps h (subst (SimplyTyped (scoped (ds ++ ls) (sought_heads s)) x) (sym y) p.2)))
passes_app s types n u g k x q NoMemory i w r = tt

one_more : (s : Sought) (f : TooFar) (ls ds : Locals) (a : PlainElimination) (n : PlainNeutral) → SomewhereBelow (IsTooFarAt ls (Fault f)) (sought_heads s) ls ds n → SomewhereBelow (IsTooFarAt ls (Fault f)) (sought_heads s) ls ds (eliminated a n)
one_more s f ls ds (arg m o) n w = into_function (IsTooFarAt ls (Fault f)) (sought_heads s) ls ds m n o w
one_more s f ls ds first n w = into_fst (IsTooFarAt ls (Fault f)) (sought_heads s) ls ds n w
one_more s f ls ds second n w = into_snd (IsTooFarAt ls (Fault f)) (sought_heads s) ls ds n w

under_spine : (s : Sought) (f : TooFar) (ls ds : Locals) (es : List PlainElimination) (n : PlainNeutral) → SomewhereBelow (IsTooFarAt ls (Fault f)) (sought_heads s) ls ds n → SomewhereBelow (IsTooFarAt ls (Fault f)) (sought_heads s) ls ds (spine_on es n)
under_spine s f ls ds [] n w = w
under_spine s f ls ds (a ∷ es) n w = under_spine s f ls ds es (eliminated a n) (one_more s f ls ds a n w)

pub passes_spine : (s : Sought) (types : List (Bor Simple)) (es : List PlainElimination) (n : PlainNeutral) (e : Or TooFar) → PassesBelow s types n e → PassesBelow s types (spine_on es n) e
passes_spine s types es n (Fault f) w = λ ls ds ps h t p. let (u, q) = inner_type (scoped (ds ++ ls) (sought_heads s)) es n t p in under_spine s f ls ds es n (w ls ds ps h u q)
passes_spine s types es n NoMemory w = tt

-- along a spine, at its next elimination
pub passes_along : (s : Sought) (types : List (Bor Simple)) (es : List PlainElimination) (start : PlainNeutral) (a : PlainElimination) (left : List PlainElimination) (u : SimpleType) (g : PlainFound) (e : Or TooFar)
    → Along s types es start (a ∷ left) u g → ((n : PlainNeutral) → SoFar s types n u g → PassesBelow s types (eliminated a n) e) → PassesBelow s types (spine_on es start) e
passes_along s types es start a left u g e h w = subst (λ n. PassesBelow s types n e) h.whole (passes_spine s types left (eliminated a h.done) e (w h.done h.so_far))

-- ---- over tables

pub passes_tables : (t : Tables) (a : SimpleType) (s : Sought) (types : List (Bor Simple)) (x : PlainObject) (e : Or TooFar) (ps : List Place) → sought_heads s ≡ heads_of t.consts.now t.metas.now → s.count ≡ length t.locals.now
    → MarksForeign (length (plain_locals t.locals.now)) ps s.marks.now → scope types ≡ map (λ l. l.1) (plain_locals t.locals.now) → PassesIn s types x a e → PassesFor t a x e
passes_tables t a s types x (Fault f) ps eh ec m es w d = inr (subst (λ g. Somewhere (IsTooFarAt (plain_locals t.locals.now) (Fault f)) g (plain_locals t.locals.now) [] x a) eh
    (w (plain_locals t.locals.now) [] ps (record { count = locals_long t.locals.now ∙ sym ec; marks = m; scoped = es }) (subst (λ g. SimplyTyped (scoped (plain_locals t.locals.now) g) x a) (sym eh) d)))
passes_tables t a s types x NoMemory ps eh ec m es w d = inl tt
