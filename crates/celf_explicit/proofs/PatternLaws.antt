-- Locals that are added in front of others, one by one or by a pattern.
use Rattle.std.specs.Prelude.{ℕ, ◌+◌, ◌≡◌, ◌<◌, List, [], ◌∷◌, ◌++◌, length, drop, get_or}
use Rattle.std.proofs.Common.{ap, sym, ◌∙◌, append_assoc}
use Rattle.std.proofs.lemmas.List.{drop_more}
use Rattle.clf_syntax.specs.declared.tree.Mode.{Mode}
use Rattle.clf_syntax.specs.TypeTree.{SimpleType}
use Rattle.celf_sugar.specs.declared.plain.PBinder.{PBinder}
use Rattle.celf_places.specs.Heads.{Local}
use Rattle.celf_places.specs.Places.{marked, next_part}
use Rattle.celf_explicit.specs.Objects.{pattern_modes, with_pattern}
use Rattle.celf_explicit.specs.Parts.{GrownFrom}

-- a local more in front
pub grown_more : {X : Type 0} (old now later : List X) (x : X) → GrownFrom old now → later ≡ x ∷ now → GrownFrom old later
grown_more old now later x (front, e) l = (x ∷ front, l ∙ ap (λ xs. x ∷ xs) e)

pub grown_along : {X : Type 0} (old now later : List X) → GrownFrom old now → GrownFrom now later → GrownFrom old later
grown_along old now later (front, e) (more, d) = (more ++ front, d ∙ ap (λ xs. more ++ xs) e ∙ sym (append_assoc more front old))

-- A pattern has been gone through up to a binder, with what is wanted of it and of the later ones.
module _ (ps later : List (Mode × SimpleType)) (bs : List PBinder) (i : ℕ) (b : PBinder) where
  from_binder : i < length bs → b ≡ get_or bs i b → drop i bs ≡ b ∷ drop (i + 1) bs
  from_binder h e = drop_more bs i b h ∙ ap (λ x. x ∷ drop (i + 1) bs) (sym e)

  pub modes_next : (done new whole : List Mode) → i < length bs → b ≡ get_or bs i b → later ≡ (next_part ps).later → done ++ pattern_modes ps (drop i bs) ≡ whole
      → new ≡ done ++ marked b.mode (next_part ps).mode ∷ [] → new ++ pattern_modes later (drop (i + 1) bs) ≡ whole
  modes_next done new whole h e l v n =
      let unrolled : done ++ pattern_modes ps (b ∷ drop (i + 1) bs) ≡ whole = rw (from_binder h e) at v in
      rw (n, l) (append_assoc done (marked b.mode (next_part ps).mode ∷ []) (pattern_modes (next_part ps).later (drop (i + 1) bs)) ∙ unrolled)

  pub locals_next : (now new whole : List Local) → i < length bs → b ≡ get_or bs i b → later ≡ (next_part ps).later → with_pattern now ps (drop i bs) ≡ whole
      → new ≡ (b.name, (next_part ps).place) ∷ now → with_pattern new later (drop (i + 1) bs) ≡ whole
  locals_next now new whole h e l v n =
      let unrolled : with_pattern now ps (b ∷ drop (i + 1) bs) ≡ whole = rw (from_binder h e) at v in
      rw (n, l) unrolled
