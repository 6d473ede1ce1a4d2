-- Stores without solutions, and typing in the scope of an equation.
use Rattle.std.specs.Prelude.{ℕ, zero, suc, ◌+◌, ◌<◌, ◌≡◌, List, [], ◌∷◌, ◌++◌, length, map, reverse, take, get_or, Some, refl}
use Rattle.std.proofs.Common.{ap, sym, subst, ◌∙◌}
use Rattle.std.proofs.lemmas.List.{map-append, map_more, reverse-append, reverse-reverse}
use Rattle.std.specs.List.{slice_get}
use Rattle.clf_syntax.specs.declared.tree.Mode.{Mode}
use Rattle.clf_syntax.specs.declared.tree.Simple.{Simple}
use Rattle.clf_syntax.specs.declared.tree.SimpleEntry.{SimpleEntry}
use Rattle.clf_syntax.specs.Tree.{PlainObject}
use Rattle.clf_syntax.specs.TypeTree.{SimpleType}
use Rattle.clf_syntax.specs.PlainSimple.{plain_simple, plain_simple_entry, simple_telescope_of}
use Rattle.clf_syntax.specs.Simple.{Assignment, assigned, extended, extended_by, SimplyTyped}
use Rattle.store_laws.specs.Additions.{Addition, new, solved, meta_types}
use Rattle.store_laws.specs.Store.{IsStore}
use Rattle.pattern_laws.specs.Instantiations.{Types, closed}
use Rattle.pattern_laws.specs.Equations.{Equation, scoped, TypedEquation, TypedEquations}
use Rattle.pattern_laws.specs.Patterns.{HasFinalResult}
use Rattle.solver_laws.proofs.Stores.{heads_closed}
use Rattle.celf_constraints.specs.declared.equation.Equation.{Equation as Declared}
use Rattle.celf_constraints.specs.Equated.{plain_equation, plain_locals}
use Rattle.metavars.specs.Stored.{Stored, added_new, plain_added, with_addition, constants, additions}
use Rattle.celf_unify.specs.Gathered.{consts_in, metas_in}
use Rattle.celf_unify.specs.Passes.{IsReady}
use Rattle.celf_unify.proofs.Shapes.{turned}
use Rattle.unify_tests.specs.Started.{HasNoSolution, AllFinal}

tail_of : {x y : Addition} {xs ys : List Addition} → x ∷ xs ≡ y ∷ ys → xs ≡ ys
tail_of e = cc

none_solved : (ts : List SimpleType) (before after : List Addition) (m : ℕ) (o : PlainObject) → map new ts ≡ before ++ solved m o ∷ after → ⊥
none_solved [] [] after m o e = cc
none_solved [] (b ∷ before) after m o e = cc
none_solved (t ∷ ts) [] after m o e = cc
none_solved (t ∷ ts) (b ∷ before) after m o e = none_solved ts before after m o (tail_of e)

pub is_store : (cs : List SimpleType) (zs : List Addition) → HasNoSolution zs → IsStore cs zs
is_store cs zs (ts, e) before m o after f = absurd (none_solved ts before after m o (sym e ∙ f))

pub one_more : (zs more : List Addition) (t : SimpleType) → HasNoSolution zs → more ≡ zs ++ new t ∷ [] → HasNoSolution more
one_more zs more t (ts, e) f = (ts ++ t ∷ [], f ∙ ap (λ l. l ++ new t ∷ []) e ∙ sym (map-append new ts (t ∷ [])))

last_in : (es : List (Mode × SimpleType)) (e : Mode × SimpleType) (g : Assignment) → extended_by (simple_telescope_of (es ++ e ∷ [])) g ≡ extended e.1 (extended_by (simple_telescope_of es) g)
last_in [] e g = refl
last_in (d ∷ es) e g = last_in es e (extended d.1 g)

turned_scope : (ls : List (Mode × SimpleType)) (g : Assignment) → extended_by (simple_telescope_of (reverse ls)) g ≡ scoped ls g
turned_scope [] g = refl
turned_scope (l ∷ ls) g = ap (λ es. extended_by (simple_telescope_of es) g) (reverse-append (l ∷ []) ls) ∙ last_in (reverse ls) l g ∙ ap (extended l.1) (turned_scope ls g)

pub typed_there : (s : Stored) (items ctx : List SimpleEntry) (cs ms : List Simple) (o : PlainObject) (t : SimpleType) → ctx ≡ items → map plain_simple cs ≡ constants s → map plain_simple ms ≡ meta_types (additions s)
    → SimplyTyped (extended_by (simple_telescope_of (map plain_simple_entry ctx)) (assigned (map plain_simple cs) (map plain_simple ms) [])) o t → SimplyTyped (scoped (plain_locals items) (closed (consts_in s) (metas_in s))) o t
typed_there s items ctx cs ms o t e f h p = subst (λ g. SimplyTyped g o t)
    (ap (λ l. extended_by (simple_telescope_of (map plain_simple_entry l)) (assigned (map plain_simple cs) (map plain_simple ms) [])) e
    ∙ ap (λ c. extended_by (simple_telescope_of (map plain_simple_entry items)) (assigned c (map plain_simple ms) [])) f
    ∙ ap (λ m. extended_by (simple_telescope_of (map plain_simple_entry items)) (assigned (constants s) m [])) h
    ∙ ap (extended_by (simple_telescope_of (map plain_simple_entry items))) (heads_closed (constants s) (additions s))
    ∙ ap (λ es. extended_by (simple_telescope_of es) (closed (consts_in s) (metas_in s))) (ap (map plain_simple_entry) (sym (reverse-reverse items)) ∙ turned plain_simple_entry (reverse items))
    ∙ turned_scope (plain_locals items) (closed (consts_in s) (metas_in s))) p

final_more : (ts : List SimpleType) (t : SimpleType) → AllFinal ts → HasFinalResult t → AllFinal (ts ++ t ∷ [])
final_more [] t p q = (q, tt)
final_more (u ∷ ts) t p q = (p.0, final_more ts t p.1 q)

pub final_next : (xs : List Simple) (i : ℕ) (x : Simple) → i < length xs → get_or xs i x ≡ x → AllFinal (map plain_simple (take i xs)) → HasFinalResult (plain_simple x) → AllFinal (map plain_simple (take (i + 1) xs))
final_next xs i x l e p q = subst AllFinal (sym (map_more plain_simple xs i x l ∙ ap (λ y. map plain_simple (take i xs) ++ plain_simple y ∷ []) e)) (final_more (map plain_simple (take i xs)) (plain_simple x) p q)

final_at : (ts : List SimpleType) → AllFinal ts → (m : ℕ) (a : SimpleType) → slice_get ts m ≡ Some a → HasFinalResult a
final_at [] p zero a e = absurd (cc)
final_at [] p (suc m) a e = absurd (cc)
final_at (t ∷ ts) p zero a e = subst HasFinalResult (same e) p.0
  where
    same : Some t ≡ Some a → t ≡ a
    same e = cc
final_at (t ∷ ts) p (suc m) a e = final_at ts p.1 m a e

typed_more : (cs ms : Types) (es : List Equation) (e : Equation) → TypedEquations cs ms es → TypedEquation cs ms e → TypedEquations cs ms (es ++ e ∷ [])
typed_more cs ms [] e p q = (q, tt)
typed_more cs ms (d ∷ es) e p q = (p.0, typed_more cs ms es e p.1 q)

pub typed_next : (cs ms : Types) (xs : List Declared) (i : ℕ) (x : Declared) → i < length xs → get_or xs i x ≡ x → TypedEquations cs ms (map plain_equation (take i xs)) → TypedEquation cs ms (plain_equation x) → TypedEquations cs ms (map plain_equation (take (i + 1) xs))
typed_next cs ms xs i x l e p q = subst (TypedEquations cs ms) (sym (map_more plain_equation xs i x l ∙ ap (λ y. map plain_equation (take i xs) ++ plain_equation y ∷ []) e)) (typed_more cs ms (map plain_equation (take i xs)) (plain_equation x) p q)

pub one_added : (s t : Stored) (ty : Simple) → HasNoSolution (additions s) → t ≡ with_addition s (added_new ty) → HasNoSolution (additions t)
one_added s t ty h e = one_more (additions s) (additions t) (plain_simple ty) h (ap additions e ∙ map-append plain_added s.added (added_new ty ∷ []))

pub ready_there : (s : Stored) (es : List Equation) (ts : List SimpleType) → HasNoSolution (additions s) → ts ≡ meta_types (additions s) → AllFinal ts → TypedEquations (consts_in s) (metas_in s) es → IsReady s es
ready_there s es ts h e f p = record { store = is_store (constants s) (additions s) h; final = final_at (meta_types (additions s)) (subst AllFinal e f); typed = p }
