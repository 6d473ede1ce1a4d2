-- The scene that is read of an item.
use Rattle.std.proofs.Common.{ℕ, zero, suc, drop, arith, ◌+◌, ◌≡◌, ◌++◌, true, false, refl, sym, ap, subst, ◌∙◌, Option, Some, None, List, [], ◌∷◌, length, map, slice_get}
use Rattle.std.proofs.lemmas.List.Elements.{All-append, All-cons, All-get_or, All-head, All-nil, All-tail}
use Rattle.std.proofs.lemmas.Option.{get_or_from_slice_get, slice_get_within}
use Rattle.std.specs.List.{All}
use Rattle.clf_syntax.specs.TypeTree.{PlainType, SimpleType}
use Rattle.clf_syntax.specs.Simple.{erase}
use Rattle.clf_sig.specs.Entry.{PlainSignature, simple_types}
use Rattle.clf_sig.specs.Core.{PlainCore}
use Rattle.clf_sig.specs.Signature.{plain_signature}
use Rattle.clf_syntax.specs.declared.tree.Simple.{Simple}
use Rattle.clf_syntax.specs.PlainSimple.{plain_simple}
use Rattle.clf_rules.specs.WellFormed.{WellFormedSignature}
use Rattle.store_laws.specs.Additions.{Addition, new, meta_types, given}
use Rattle.store_laws.proofs.Lists.{types-append}
use Rattle.metavars.specs.Stored.{Stored, constants, additions}
use Rattle.metavars.proofs.ScopesLaws.{new-types}
use Rattle.metavars.proofs.Gets.{get-behind}
use Rattle.pattern_laws.specs.Instantiations.{Types}
use Rattle.pattern_laws.specs.Patterns.{HasFinalResult}
use Rattle.unify_laws.specs.Problems.{Problem}
use Rattle.gathered_laws.proofs.Finals.{new_types_are_final}
use Rattle.gathered_laws.proofs.ReadingsWhole.{reading_has_no_hole}
use Rattle.gathered_laws.proofs.Stores.{start_is_store, start_is_fresh}
use Rattle.celf_sugar.specs.PlainTree.{DesugaredBody}
use Rattle.celf_implicit.specs.declared.variable.Implicit.{Implicit}
use Rattle.celf_implicit.specs.Answers.{AreAll, plain_implicit}
use Rattle.celf_implicit.specs.Rounds.{determined}
use Rattle.celf_elaboration.specs.Fillings.{Fillings, AreNew, types_of_new}
use Rattle.celf_elaboration.specs.Names.{ImplicitVariable, TypedVariable, with_simple_type, types_read}
use Rattle.celf_elaboration.specs.Declarations.{declared_heads}
use Rattle.celf_elaboration.specs.Items.{ReadsBody}
use Rattle.celf_filled.specs.Scopes.{plain_named, with_known_type}
use Rattle.celf_filled.specs.States.{count, IsGrownBy}
use Rattle.celf_filled.specs.Laws.{ReadsWithNew}
use Rattle.celf_filled.specs.TypedFrom.{indices_of}
use Rattle.filled_laws.specs.FreshTypes.{types_from, new_in_each}
use Rattle.filled_laws.specs.Families.{HasFamilies}
use Rattle.filled_laws.specs.Laws.{TypesFrom}
use Rattle.filled_laws.proofs.Determined.{determined_have_families}
use Rattle.filled_laws.proofs.FilledFamilies.{fillings_have_families}
use Rattle.filled_laws.proofs.NewFamilies.{new_have_families}
use Rattle.filled_laws.proofs.FinalIndices.{new_in_are_final, types_have_erasures}
use Rattle.filled_laws.proofs.FreshTypes.{fresh_types_are_read}
use Rattle.celf_solve.specs.declared.scene.Scene.{Scene}
use Rattle.celf_solve.specs.Scenes.{tree_of, types_of, metas_in, IsFresh, IsScene}
use Rattle.celf_reconstruct.specs.Trees.{determined_name, read_name, simple_types_read, IsItemTree}
use Rattle.celf_reconstruct.specs.Known.{simple_or_unit, are_known}
use Rattle.celf_reconstruct.specs.Posed.{IsPosed, as_read}
use Rattle.celf_reconstruct.specs.Steps.{HasScene}
use Rattle.celf_reconstruct.proofs.Families.{place_of, places-known}
use Rattle.celf_reconstruct.proofs.Variables.{with_types, simple_of, AreTypesOf, types-of-typed, simple-of-typed, names-read, known_variable, simples-of-known, names-of-known, are-known}

-- ---- stores in which nothing is solved

pub none-given : (ts : List SimpleType) (m : ℕ) → given (map new ts) m ≡ None
none-given ts m = ap (λ (p : Problem). p.given m) (start_is_fresh ts [])

pub final-at : (ts : List SimpleType) → All HasFinalResult ts → (m : ℕ) (a : SimpleType) → slice_get (meta_types (map new ts)) m ≡ Some a → HasFinalResult a
final-at ts all = (start_is_store [] ts [] all tt).final

pub map-append : (ts us : List SimpleType) → map new ts ++ map new us ≡ map new (ts ++ us)
map-append [] us = refl
map-append (t ∷ ts) us = ap (λ (l : List Addition). new t ∷ l) (map-append ts us)

-- What holds of each of a list holds at each number.
pub all-at : (P : SimpleType → Type 0) (ts : List SimpleType) → All P ts → (m : ℕ) (a : SimpleType) → slice_get ts m ≡ Some a → P a
all-at P ts all m a e = subst P (get_or_from_slice_get ts m a a e) (All-get_or P ts m a (slice_get_within ts m a e) all)

-- A scene whose store has these metavariables alone, with final results, is fresh.
pub is-fresh : (scene : Scene) (ts : List SimpleType) → additions scene.store ≡ map new ts → All HasFinalResult ts → IsFresh scene
is-fresh scene ts e all = record {
  unsolved = λ m. ap (λ (zs : List Addition). given zs m) e ∙ none-given ts m;
  final = λ m a h. final-at ts all m a (ap (λ (zs : List Addition). slice_get (meta_types zs) m) (sym e) ∙ h);
}

pub metas-are : (scene : Scene) (ts : List SimpleType) → additions scene.store ≡ map new ts → (m : ℕ) → metas_in scene m ≡ slice_get ts m
metas-are scene ts e m = ap (λ (zs : List Addition). slice_get (meta_types zs) m) e ∙ ap (λ (us : List SimpleType). slice_get us m) (new-types ts)

-- ---- the tree

-- What is at hand once an item is read and has types for its implicit variables.
pub record IsReadScene (sig : PlainSignature) (body : DesugaredBody) (xs : List Implicit) (scene : Scene) : Type 0 where
  pub old : Stored
  pub between : Stored
  pub constants_are : constants old ≡ simple_types sig ++ map simple_or_unit (map plain_implicit xs)
  pub nothing : additions old ≡ []
  pub typed : are_known xs ≡ true
  pub reads : (vs : List ImplicitVariable) → map plain_named xs ≡ map with_known_type vs → ReadsWithNew sig vs body old between (tree_of scene)
  pub types : types_of scene ≡ types_from (indices_of sig) (count between) (map simple_or_unit (map plain_implicit xs))
  pub grown : IsGrownBy between scene.store (new_in_each (indices_of sig) (map simple_or_unit (map plain_implicit xs)))

module _ (sig : PlainSignature) (formed : WellFormedSignature sig) (body : DesugaredBody) (xs : List Implicit) (all : AreAll sig body xs) (scene : Scene) (h : IsReadScene sig body xs scene) where
  abbrev simples : List SimpleType
  simples = map simple_or_unit (map plain_implicit xs)

  vs0 : List ImplicitVariable
  vs0 = map known_variable xs

  known : map plain_named xs ≡ map with_known_type vs0
  unfolding vs0
  known = are-known xs h.typed

  read : ReadsWithNew sig vs0 body h.old h.between (tree_of scene)
  read = h.reads vs0 known

  abbrev fs : List SimpleType
  fs = types_of_new read.fillings

  between_is : additions h.between ≡ map new fs
  between_is = read.grown.added ∙ ap (λ (zs : List Addition). zs ++ map new fs) h.nothing

  count_is : count h.between ≡ length fs
  count_is = ap (λ (zs : List Addition). length (meta_types zs)) between_is ∙ ap (λ (us : List SimpleType). length us) (new-types fs)

  abbrev made : List PlainType
  made = types_from (indices_of sig) (length fs) simples

  abbrev more : List SimpleType
  more = new_in_each (indices_of sig) simples

  types_are : types_of scene ≡ made
  types_are = h.types ∙ ap (λ k. types_from (indices_of sig) k simples) count_is

  additions_are : additions scene.store ≡ map new (fs ++ more)
  additions_are = h.grown.added ∙ ap (λ (zs : List Addition). zs ++ map new more) between_is ∙ map-append fs more

  erased : map erase made ≡ simples
  erased = types_have_erasures (indices_of sig) (length fs) simples

  are_types : AreTypesOf made vs0
  unfolding vs0
  are_types = erased ∙ sym (simples-of-known xs)

  vs : List TypedVariable
  vs = with_types vs0 made

  vs_types : types_read vs ≡ made
  unfolding vs
  vs_types = types-of-typed vs0 made are_types

  vs_simple : map with_simple_type vs ≡ vs0
  unfolding vs
  vs_simple = simple-of-typed vs0 made are_types

  vs_names : map plain_named xs ≡ map read_name vs
  unfolding vs
  vs_names = known ∙ sym (names-read vs0 made are_types)

  these : map determined_name (determined sig body) ≡ map read_name vs
  these = ap (map determined_name) (sym all.found) ∙ names-of-known xs ∙ vs_names

  simples_are : simple_types_read vs ≡ simples
  simples_are = ap (map erase) vs_types ∙ erased

  tree : IsItemTree sig body vs (metas_in scene) (tree_of scene)
  tree = record {
    all = all.determined_all;
    these = these;
    fillings = read.fillings;
    new = subst (λ k. AreNew k read.fillings) (ap (λ (zs : List Addition). length (meta_types zs)) h.nothing) read.numbered;
    reading = subst (λ (us : List ImplicitVariable). ReadsBody sig (declared_heads sig) us body read.fillings (tree_of scene)) (sym vs_simple) read.reading;
    types = vs_types ∙ ap (types_from (indices_of sig) (length fs)) (sym simples_are);
    metavariables = λ m. metas-are scene (fs ++ more) additions_are m ∙ ap (λ (us : List SimpleType). slice_get (fs ++ new_in_each (indices_of sig) us) m) (sym simples_are);
  }

  families_of_simples : All (HasFamilies sig) simples
  families_of_simples = determined_have_families sig body simples formed (ap (map place_of) (sym all.found) ∙ places-known xs h.typed)

  families_of_variables : All (λ (v : ImplicitVariable). HasFamilies sig v.type) vs0
  unfolding vs0
  families_of_variables = all_of xs families_of_simples
    where
      all_of : (ys : List Implicit) → All (HasFamilies sig) (map simple_or_unit (map plain_implicit ys)) → All (λ (v : ImplicitVariable). HasFamilies sig v.type) (map known_variable ys)
      all_of [] a = All-nil (λ (v : ImplicitVariable). HasFamilies sig v.type)
      all_of (y ∷ ys) a = All-cons (λ (v : ImplicitVariable). HasFamilies sig v.type) (known_variable y) (map known_variable ys)
          (All-head (HasFamilies sig) (simple_or_unit (plain_implicit y)) (map simple_or_unit (map plain_implicit ys)) a) (all_of ys (All-tail (HasFamilies sig) (simple_or_unit (plain_implicit y)) (map simple_or_unit (map plain_implicit ys)) a))

  all_families : All (HasFamilies sig) (fs ++ more)
  all_families = All-append (HasFamilies sig) fs more (fillings_have_families sig (declared_heads sig) vs0 body read.fillings (tree_of scene) formed families_of_variables read.reading) (new_have_families sig formed simples families_of_simples)

  final : All HasFinalResult (fs ++ more)
  final = All-append HasFinalResult fs more (new_types_are_final.1 read.fillings) ((new_in_are_final (indices_of sig)).1 simples)

  numbered : TypesFrom (metas_in scene) (length fs) more
  numbered j u e = metas-are scene (fs ++ more) additions_are (length fs + j) ∙ get-behind fs more j ∙ e

  constants_of_scene : constants scene.store ≡ simple_types sig ++ map erase (types_of scene)
  constants_of_scene = h.grown.constants_kept ∙ read.grown.constants_kept ∙ h.constants_are ∙ ap (λ (us : List SimpleType). simple_types sig ++ us) (sym (ap (map erase) types_are ∙ erased))

  is_scene : IsScene sig scene
  is_scene = record {
    constants_are = constants_of_scene;
    fresh = is-fresh scene (fs ++ more) additions_are final;
    read = λ x a e. fresh_types_are_read sig (types_of scene) (metas_in scene) (length fs) simples families_of_simples numbered x a (ap (λ (as_ : List PlainType). slice_get as_ x) (sym types_are) ∙ e);
    no_hole = reading_has_no_hole sig (declared_heads sig) vs0 body read.fillings (tree_of scene) (count h.old) read.numbered read.reading;
  }

  pub scene_read : HasScene sig body xs 0 scene
  scene_read = record {
    vs = vs;
    variables = vs_names;
    posed = subst (λ (as_ : List PlainType). IsPosed sig body vs 0 as_ (metas_in scene) (tree_of scene)) (vs_types ∙ sym types_are) (as_read tree);
    is_scene = is_scene;
    families = λ m a e. all-at (HasFamilies sig) (fs ++ more) all_families m a (sym (metas-are scene (fs ++ more) additions_are m) ∙ e);
  }

-- ---- the simple types past those of the signature

dropped : {X : Type 0} (xs ys : List X) (n : ℕ) → n ≡ length xs → drop n (xs ++ ys) ≡ ys
dropped [] ys zero e = refl
dropped [] ys (suc n) e = absurd (omega arith)
dropped (x ∷ xs) ys zero e = absurd (omega arith)
dropped (x ∷ xs) ys (suc n) e = dropped xs ys n (omega arith)
