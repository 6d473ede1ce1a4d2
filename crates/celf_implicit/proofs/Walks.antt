-- What is noted of a monadic object, and of an entry that binds a local.
use Rattle.std.specs.Prelude.{ℕ, ◌≡◌, ◌<◌, true, List, ◌∷◌, ◌++◌, map, length, get_or, Option, None, Some, Result, Ok, Err, OnOk, refl}
use Rattle.std.proofs.Common.{ap, sym, ◌∙◌, arith}
use Rattle.std.proofs.lemmas.List.{get_or-map, length-map}
use Rattle.clf_syntax.specs.declared.tree.Mode.{Mode}
use Rattle.clf_syntax.specs.declared.tree.Simple.{Simple}
use Rattle.clf_syntax.specs.TypeTree.{SimpleType}
use Rattle.clf_sig.specs.Entry.{PlainSignature}
use Rattle.celf_surface.specs.declared.surface.SMode.{SMode}
use Rattle.celf_sugar.specs.declared.plain.PEntry.{PEntry}
use Rattle.celf_sugar.specs.PlainTree.{DesugaredObject, DesugaredSteps, DesugaredTuple, DesugaredType, DesugaredEntry, steps_of, tuple_of}
use Rattle.celf_sugar.specs.Plain.{desugared_entry}
use Rattle.celf_places.specs.Heads.{Local}
use Rattle.celf_places.specs.SimpleTypes.{local_of}
use Rattle.celf_places.specs.Locals.{plain_place}
use Rattle.celf_places.specs.Along.{left_along, bound_place}
use Rattle.celf_implicit.specs.Scopes.{Scope}
use Rattle.celf_implicit.specs.Variables.{PlainImplicit}
use Rattle.celf_implicit.specs.Occurrences.{in_steps, in_tuple, after_steps, in_type}
use Rattle.celf_implicit.specs.Noting.{PlainNotes, PlainStep, DeclaredBinders, plain_scope, noted, after_one_step, after_marked, after_entry, noted-append, steps-noted, steps-after, tuple-noted}

pub on_ok : {T E : Type 0} (r : Result T E) (P Q : Type 0) → OnOk r P → (P → Q) → OnOk r Q
on_ok (Ok x) P Q p f = f p
on_ok (Err e) P Q p f = tt

module _ (sig : PlainSignature) (xs : List PlainImplicit) where
  pub expression_noted : (s : Scope) (ns : PlainNotes) (ps : List (Mode × SimpleType)) (e : DesugaredSteps × DesugaredTuple) (ss : List PlainStep) (us : List (SMode × DesugaredObject)) (v : PlainNotes × Scope) (later : PlainNotes)
      → e ≡ (steps_of ss, tuple_of us) → v ≡ left_along (after_one_step sig xs) (ns, s) ss → later ≡ (left_along (after_marked sig xs v.1) (v.0, ps) us).0
      → later ≡ noted xs ns (in_steps sig xs s e.0 ++ in_tuple sig xs (after_steps sig xs s e.0) ps e.1)
  expression_noted s ns ps e ss us v later p q r =
      rw (p, noted-append xs ns (in_steps sig xs s (steps_of ss)) (in_tuple sig xs (after_steps sig xs s (steps_of ss)) ps (tuple_of us)), steps-noted sig xs s ns ss, steps-after sig xs s ns ss, ← q, tuple-noted sig xs v.1 ps v.0 us) r

  pub entry_noted : (ns later : PlainNotes) (bs cs : DeclaredBinders) (e : DesugaredEntry) (m : Mode) (n : Option (List ℕ)) (t : Option Simple)
      → later ≡ noted xs ns (in_type sig xs (plain_scope bs true) e.2) → cs ≡ ((n, t) ∷ bs.0, m ∷ bs.1) → m ≡ e.0 → ◌≡◌ {A = Local} (n, plain_place t) (local_of sig e.1 e.2)
      → ◌≡◌ {A = PlainNotes × Scope} (later, plain_scope cs true) (after_entry sig xs (ns, plain_scope bs true) e)
  entry_noted ns later bs cs e m n t p q r l = rw (p, q, r, l) refl

-- ---- the local that an entry binds

local-parts : (sig : PlainSignature) (n : Option (List ℕ)) (a : DesugaredType) → ◌≡◌ {A = Local} (n, (local_of sig n a).1) (local_of sig n a)
local-parts sig None a = refl
local-parts sig (Some m) a = refl

-- the name and the simple type at a place of the lists make the local that is bound there
pub local_here : (sig : PlainSignature) (simples : List (Option Simple)) (entries : List PEntry) (i : ℕ) (e : PEntry) (n : Option (List ℕ)) (t : Option Simple) → i < length entries → e ≡ get_or entries i e
    → map plain_place simples ≡ map (bound_place sig) (map desugared_entry entries) → t ≡ get_or simples i None → n ≡ (desugared_entry e).1
    → ◌≡◌ {A = Local} (n, plain_place t) (local_of sig (desugared_entry e).1 (desugared_entry e).2)
local_here sig simples entries i e n t h g v p q =
    let within : i < length (map desugared_entry entries) = rw (length-map entries desugared_entry) h in
    let as_long : length simples ≡ length entries = sym (length-map simples plain_place) ∙ ap length v ∙ length-map (map desugared_entry entries) (bound_place sig) ∙ length-map entries desugared_entry in
    let inside : i < length simples = omega (arith, as_long, h) in
    let here : plain_place (get_or simples i None) ≡ get_or (map plain_place simples) i None = sym (get_or-map plain_place simples i None None inside) in
    let there : get_or (map (bound_place sig) (map desugared_entry entries)) i None ≡ bound_place sig (get_or (map desugared_entry entries) i (desugared_entry e)) = get_or-map (bound_place sig) (map desugared_entry entries) i (desugared_entry e) None within in
    let at_entry : get_or (map desugared_entry entries) i (desugared_entry e) ≡ desugared_entry (get_or entries i e) = get_or-map desugared_entry entries i e (desugared_entry e) h in
    let place : plain_place t ≡ bound_place sig (desugared_entry e) =
    ap plain_place p ∙ here ∙ ap (λ xs. get_or xs i None) v ∙ there ∙ ap (bound_place sig) (at_entry ∙ ap desugared_entry (sym g)) in
    ap (λ m. (m, plain_place t)) q ∙ ap (λ u. ((desugared_entry e).1, u)) place ∙ local-parts sig (desugared_entry e).1 (desugared_entry e).2
