-- What is to be filled in is simply typed, as it is decided over the locals of a context.
use Rattle.std.proofs.Common.{◌≡◌, ◌↔◌, Bool, true, false, IsTrue, List, [], ◌∷◌, ◌++◌, map, reverse, refl, sym, ap, ◌∙◌}
use Rattle.std.proofs.lemmas.List.{append_assoc, append-nil, reverse-append}
use Rattle.clf_syntax.specs.declared.tree.Mode.{Mode}
use Rattle.clf_syntax.specs.declared.tree.Simple.{Simple}
use Rattle.clf_syntax.specs.declared.tree.SimpleEntry.{SimpleEntry}
use Rattle.clf_syntax.specs.Tree.{PlainObject}
use Rattle.clf_syntax.specs.TypeTree.{SimpleType}
use Rattle.clf_syntax.specs.PlainSimple.{plain_simple, plain_simple_entry, simple_telescope_of}
use Rattle.clf_syntax.specs.Simple.{assigned, extended_by, SimplyTyped}
use Rattle.use_contexts.specs.Context.{Context}
use Rattle.clf_simple.specs.Decision.{HeadTypes, heads_in, behind, typed}
use Rattle.clf_simple.proofs.Decided.{decides}
use Rattle.gathering.specs.Setting.{simple_locals}
use Rattle.celf_constraints.specs.Equated.{plain_locals}
use Rattle.celf_gather.specs.Scene.{Scene}
use Rattle.celf_gather.proofs.Lists.{mapped_reverse}

same_answer : (b c : Bool) → (IsTrue b → IsTrue c) → (IsTrue c → IsTrue b) → b ≡ c
same_answer true true f h = refl
same_answer false false f h = refl
same_answer true false f h = sym (f refl)
same_answer false true f h = h refl

behind_entries : (xs : List (Mode × SimpleType)) (g : List SimpleType) → behind (simple_telescope_of xs) g ≡ reverse (map (λ e. e.1) xs) ++ g
behind_entries [] g = refl
behind_entries (x ∷ xs) g = behind_entries xs (x.1 ∷ g) ∙ sym (ap (λ l. l ++ g) (reverse-append (x.1 ∷ []) (map (λ e. e.1) xs)) ∙ append_assoc (reverse (map (λ e. e.1) xs)) (x.1 ∷ []) g)

scope_of_locals : (xs : List SimpleEntry) (g : Context) → plain_locals xs ≡ simple_locals g → behind (simple_telescope_of (map plain_simple_entry xs)) [] ≡ map (λ e. e.1) (simple_locals g)
scope_of_locals xs g e = behind_entries (map plain_simple_entry xs) [] ∙ append-nil (reverse (map (λ e. e.1) (map plain_simple_entry xs)))
    ∙ sym (mapped_reverse (λ (e : Mode × SimpleType). e.1) (map plain_simple_entry xs)) ∙ ap (map (λ e. e.1)) (sym (mapped_reverse plain_simple_entry xs) ∙ e)

pub filled_as : (k : HeadTypes) (xs ys : List SimpleEntry) (g : Context) (o : PlainObject) {t u : SimpleType} (b : Bool) → ys ≡ xs → plain_locals xs ≡ simple_locals g → t ≡ u
    → (IsTrue b ↔ SimplyTyped (extended_by (simple_telescope_of (map plain_simple_entry ys)) (heads_in k [])) o t) → b ≡ typed k (map (λ e. e.1) (simple_locals g)) o u
filled_as k xs ys g o {t} {u} b l e f d =
    let s = simple_telescope_of (map plain_simple_entry ys) in
    let c = decides k s o t (typed k (behind s []) o t) refl in
    same_answer b (typed k (behind s []) o t) (λ x. c.1 (d.0 x)) (λ x. d.1 (c.0 x))
    ∙ ap (λ m. typed k m o t) (ap (λ z. behind (simple_telescope_of (map plain_simple_entry z)) []) l ∙ scope_of_locals xs g e) ∙ ap (typed k (map (λ e. e.1) (simple_locals g)) o) f

pub filled_over : (k : Scene) (cs ms : List Simple) (xs ys : List SimpleEntry) (g : Context) (o : PlainObject) {t u : SimpleType} (b : Bool) → map plain_simple cs ≡ k.types.constants → map plain_simple ms ≡ k.types.metavariables
    → ys ≡ xs → plain_locals xs ≡ simple_locals g → t ≡ u
    → (IsTrue b ↔ SimplyTyped (extended_by (simple_telescope_of (map plain_simple_entry ys)) (assigned (map plain_simple cs) (map plain_simple ms) [])) o t) → b ≡ typed k.types (map (λ e. e.1) (simple_locals g)) o u
filled_over k cs ms xs ys g o {u = u} b i j l e f d =
    filled_as (record { constants = map plain_simple cs; metavariables = map plain_simple ms }) xs ys g o b l e f d
    ∙ ap (λ x. typed (record { constants = x; metavariables = map plain_simple ms }) (map (λ e. e.1) (simple_locals g)) o u) i
    ∙ ap (λ x. typed (record { constants = k.types.constants; metavariables = x }) (map (λ e. e.1) (simple_locals g)) o u) j
