-- The bindings of a telescope's entries, one after the other.
use Rattle.std.specs.Prelude.{ℕ, ◌≡◌, ◌<◌, List, [], ◌∷◌, ◌++◌, map, length, get_or, Option, None, refl}
use Rattle.std.proofs.Common.{ap, sym, ◌∙◌, arith}
use Rattle.std.proofs.lemmas.List.{get_or-map, length-map, map-append}
use Rattle.clf_syntax.specs.declared.tree.Mode.{Mode}
use Rattle.clf_syntax.specs.declared.tree.Simple.{Simple}
use Rattle.clf_syntax.specs.declared.tree.TeleEntry.{TeleEntry}
use Rattle.clf_syntax.specs.PlainTypes.{plain_tele_entry}
use Rattle.clf_sig.specs.Entry.{PlainSignature}
use Rattle.celf_sugar.specs.declared.plain.PEntry.{PEntry}
use Rattle.celf_sugar.specs.PlainTree.{DesugaredEntry}
use Rattle.celf_sugar.specs.Plain.{desugared_entry}
use Rattle.celf_places.specs.Locals.{Declared, plain_place}
use Rattle.celf_places.specs.SimpleTypes.{simple_type}
use Rattle.celf_filled.specs.Scopes.{Named, DeclaredScope, plain_scoped, plain_scope}
use Rattle.celf_filled.specs.States.{State}
use Rattle.celf_filled.specs.HeadedTypes.{plain_bindings}
use Rattle.celf_filled.specs.WalkTypes.{bound_local, with_binding, entry_typed, fill_binding, entry_place}

-- the simple type at a place of a list
pub place_here : (sig : PlainSignature) (simples : List (Option Simple)) (entries : List PEntry) (i : ℕ) (e : PEntry) (t : Option Simple) → i < length entries → e ≡ get_or entries i e
    → map plain_place simples ≡ map (entry_place sig) (map desugared_entry entries) → t ≡ get_or simples i None → plain_place t ≡ entry_place sig (desugared_entry e)
place_here sig simples entries i e t h g v p =
    let within : i < length (map desugared_entry entries) = rw (length-map entries desugared_entry) h in
    let as_long : length simples ≡ length entries = sym (length-map simples plain_place) ∙ ap length v ∙ length-map (map desugared_entry entries) (entry_place sig) ∙ length-map entries desugared_entry in
    let inside : i < length simples = omega (arith, as_long, h) in
    let here : plain_place (get_or simples i None) ≡ get_or (map plain_place simples) i None = sym (get_or-map plain_place simples i None None inside) in
    let there : get_or (map (entry_place sig) (map desugared_entry entries)) i None ≡ entry_place sig (get_or (map desugared_entry entries) i (desugared_entry e)) = get_or-map (entry_place sig) (map desugared_entry entries) i (desugared_entry e) None within in
    let at_entry : get_or (map desugared_entry entries) i (desugared_entry e) ≡ desugared_entry (get_or entries i e) = get_or-map desugared_entry entries i e (desugared_entry e) h in
    ap plain_place p ∙ here ∙ ap (λ xs. get_or xs i None) v ∙ there ∙ ap (entry_place sig) (at_entry ∙ ap desugared_entry (sym g))

pub binding_next : (sig : PlainSignature) (xs : List Named) (filled new_filled : List TeleEntry) (x : TeleEntry) (scope new_scope : DeclaredScope) (s t : State) (e : DesugaredEntry) (l : Mode × Declared)
    → (plain_tele_entry x, t) ≡ entry_typed sig xs (plain_scope scope) e s → new_filled ≡ filled ++ x ∷ [] → new_scope ≡ l ∷ scope → plain_scoped l ≡ bound_local e.0 e.1 (simple_type sig e.2)
    → (plain_bindings new_filled new_scope, t) ≡ fill_binding sig xs (plain_bindings filled scope, s) e
binding_next sig xs filled new_filled x scope new_scope s t e l p n m q =
    let here : (plain_bindings new_filled new_scope, t) ≡ with_binding (plain_bindings filled scope) (plain_scoped l) (plain_tele_entry x, t) = rw (n, m, map-append plain_tele_entry filled (x ∷ [])) refl in
    here ∙ ap (λ v. with_binding (plain_bindings filled scope) (plain_scoped l) v) p ∙ ap (λ k. with_binding (plain_bindings filled scope) k (entry_typed sig xs (plain_scope scope) e s)) q
