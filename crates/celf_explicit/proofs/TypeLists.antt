-- The locals that the entries of a telescope bind.
use Rattle.std.specs.Prelude.{ℕ, ◌≡◌, ◌<◌, List, ◌∷◌, map, length, get_or, Option, None, Some, refl}
use Rattle.std.proofs.Common.{ap, sym, ◌∙◌, arith}
use Rattle.std.proofs.lemmas.List.{get_or-map, length-map}
use Rattle.clf_syntax.specs.declared.tree.Simple.{Simple}
use Rattle.clf_sig.specs.Entry.{PlainSignature}
use Rattle.celf_sugar.specs.declared.plain.PEntry.{PEntry}
use Rattle.celf_sugar.specs.PlainTree.{DesugaredType}
use Rattle.celf_sugar.specs.Plain.{desugared_entry}
use Rattle.celf_places.specs.Heads.{Local}
use Rattle.celf_places.specs.SimpleTypes.{local_of}
use Rattle.celf_places.specs.Locals.{plain_place}
use Rattle.celf_places.specs.Along.{bound_place}
use Rattle.celf_explicit.specs.Lists.{behind_entry}

local-parts : (sig : PlainSignature) (n : Option (List ℕ)) (a : DesugaredType) → (n, (local_of sig n a).1) ≡ local_of sig n a
local-parts sig None a = refl
local-parts sig (Some m) a = refl

-- the name and the simple type at a place of the lists make the local that is bound there
pub local_here : (sig : PlainSignature) (simples : List (Option Simple)) (entries : List PEntry) (i : ℕ) (e : PEntry) (n : Option (List ℕ)) (t : Option Simple) (ls : List Local) → i < length entries → e ≡ get_or entries i e
    → map plain_place simples ≡ map (bound_place sig) (map desugared_entry entries) → t ≡ get_or simples i None → n ≡ (desugared_entry e).1
    → (n, plain_place t) ∷ ls ≡ behind_entry sig ls (desugared_entry e)
local_here sig simples entries i e n t ls h g v p q =
    let within : i < length (map desugared_entry entries) = rw (length-map entries desugared_entry) h in
    let as_long : length simples ≡ length entries = sym (length-map simples plain_place) ∙ ap length v ∙ length-map (map desugared_entry entries) (bound_place sig) ∙ length-map entries desugared_entry in
    let inside : i < length simples = omega (arith, as_long, h) in
    let here : plain_place (get_or simples i None) ≡ get_or (map plain_place simples) i None = sym (get_or-map plain_place simples i None None inside) in
    let there : get_or (map (bound_place sig) (map desugared_entry entries)) i None ≡ bound_place sig (get_or (map desugared_entry entries) i (desugared_entry e)) = get_or-map (bound_place sig) (map desugared_entry entries) i (desugared_entry e) None within in
    let at_entry : get_or (map desugared_entry entries) i (desugared_entry e) ≡ desugared_entry (get_or entries i e) = get_or-map desugared_entry entries i e (desugared_entry e) h in
    let place : plain_place t ≡ bound_place sig (desugared_entry e) =
    ap plain_place p ∙ here ∙ ap (λ xs. get_or xs i None) v ∙ there ∙ ap (bound_place sig) (at_entry ∙ ap desugared_entry (sym g)) in
    ap (λ l. l ∷ ls) (ap (λ m. (m, plain_place t)) q ∙ ap (λ u. ((desugared_entry e).1, u)) place ∙ local-parts sig (desugared_entry e).1 (desugared_entry e).2)
