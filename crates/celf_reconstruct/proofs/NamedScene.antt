-- The scene in which what was left is constants.
use Rattle.std.proofs.Common.{ℕ, zero, suc, ◌+◌, ◌-◌, ◌≡◌, ◌<◌, ◌≤◌, ◌++◌, ◌==◌, Bool, true, false, refl, sym, ap, subst, ◌∙◌, ◌⊎◌, ⊎_elim, Option, Some, None, List, [], ◌∷◌, length, map, arith, slice_get, append_assoc, Result, Ok, Err, IfOk}
use Rattle.std.proofs.lemmas.List.{map-append}
use Rattle.std.proofs.lemmas.List.Elements.{All-append, All-cons, All-nil}
use Rattle.std.proofs.lemmas.Option.{slice_get_past}
use Rattle.std.specs.List.{All, position}
use Rattle.clf_syntax.proofs.Lists.{get-front}
use Rattle.clf_syntax.proofs.RenamingLaws.{ext}
use Rattle.clf_syntax.specs.declared.tree.Head.TheVariants.{Const, Var, Meta}
use Rattle.clf_syntax.specs.TypeTree.{PlainType, SimpleType}
use Rattle.clf_syntax.specs.declared.fault.Want.{Want}
use Rattle.clf_syntax.specs.PlainTypes.{plain_ty}
use Rattle.clf_syntax.specs.Simple.{erase, Assignment, SimplyFormed}
use Rattle.hered_subst.specs.Laws.{ResultsAreTyped}
use Rattle.hered_subst.proofs.TypedResults.{result_is_typed}
use Rattle.hered_subst.specs.TypedEnvironments.{TypedEnvironment}
use Rattle.subst_laws.specs.Environments.{Instantiation, instant}
use Rattle.subst_laws.proofs.Environs.{instant_is_environment}
use Rattle.clf_sig.specs.Entry.{PlainSignature, simple_types}
use Rattle.clf_sig.specs.Core.{PlainCore, plain_core}
use Rattle.typing_laws.specs.SimpleTyping.{families_of}
use Rattle.clf_rules.specs.WellFormed.{WellFormedSignature}
use Rattle.store_laws.specs.Additions.{Addition, new, meta_types, given}
use Rattle.store_laws.specs.PutIn.{PutIn}
use Rattle.metavars.specs.Stored.{Stored, constants, additions}
use Rattle.metavars.specs.Typed.{TypesStore}
use Rattle.metavars.proofs.ScopesLaws.{new-types}
use Rattle.metavars.proofs.Gets.{get-behind}
use Rattle.pattern_laws.specs.Instantiations.{Types, closed}
use Rattle.pattern_laws.specs.Patterns.{HasFinalResult}
use Rattle.elaboration_laws.specs.ItemSetting.{ReadType, ReadTypes, item_constants}
use Rattle.gathered_laws.specs.Formed.{store_constants}
use Rattle.gathered_laws.proofs.Keeping.{core_stays_formed, formed_core_has_no_hole}
use Rattle.gathered_laws.proofs.SameTypes.{store_types_the_same}
use Rattle.gathered_laws.proofs.Stores.{formed_type_has_no_variables}
use Rattle.celf_elaboration.specs.Items.{SubstitutedCore}
use Rattle.celf_filled.specs.States.{count, IsGrownBy}
use Rattle.celf_filled.specs.TypedFrom.{indices_of}
use Rattle.filled_laws.specs.FreshTypes.{types_from, new_in_each}
use Rattle.filled_laws.specs.Families.{HasFamilies}
use Rattle.filled_laws.specs.Laws.{TypesFrom}
use Rattle.filled_laws.proofs.NewFamilies.{new_have_families}
use Rattle.filled_laws.proofs.FinalIndices.{new_in_are_final, types_have_erasures}
use Rattle.filled_laws.proofs.FreshTypes.{fresh_types_are_read}
use Rattle.celf_solve.specs.declared.scene.Scene.{Scene}
use Rattle.celf_solve.specs.declared.scene.Found.{Found}
use Rattle.gathered_laws.specs.Formed.{CoreIsFormed}
use Rattle.celf_solve.specs.Scenes.{EachIsFormed}
use Rattle.celf_solve.specs.Puts.{HasPutIn, CoreIsFormedIn, EachIsFormedIn, IsPutInto}
use Rattle.celf_solve.specs.Scenes.{tree_of, types_of, metas_in, IsScene}
use Rattle.celf_solve.specs.Settled.{EachBecomes}
use Rattle.celf_solve.proofs.More.{HasMore, core_more, each_more}
use Rattle.celf_solve.proofs.Puts.{each_becomes, core_formed_in, each_formed_in}
use Rattle.celf_reconstruct.specs.Left.{metavariables_with, naming, named_at, IsNamed}
use Rattle.celf_reconstruct.specs.Naming.{HasNames, HasMadeTypes, NamesLeft, metas_of, types_in, IsUnsolvedWith, AreSimples, IsNamedScene}
use Rattle.celf_reconstruct.specs.Steps.{IsFormedIn, heads_of_store}
use Rattle.celf_reconstruct.proofs.NamedBy.{put_in, is_typed, is_closed, types-store, simple-at}
use Rattle.celf_reconstruct.proofs.Reading.{all-at, map-append as new-append, is-fresh, metas-are}

-- What holds at each number holds of each of a list.
all_at : (P : SimpleType → Type 0) (ts : List SimpleType) → ((m : ℕ) (t : SimpleType) → slice_get ts m ≡ Some t → P t) → All P ts
all_at P [] p = All-nil P
all_at P (t ∷ ts) p = All-cons P t ts (p 0 t refl) (all_at P ts (λ m u e. p (suc m) u e))

module _ (sig : PlainSignature) (f : Found) (formed_in : IsFormedIn sig (plain_core f.core) (map plain_ty f.types) f.store)
    (left : List ℕ) (are_left : left ≡ metavariables_with (plain_core f.core) (map plain_ty f.types))
    (wf : WellFormedSignature sig) (simples : List SimpleType) (are : AreSimples (types_in f.store) left simples)
    (first : ℕ) (is_first : first ≡ length sig + length (map plain_ty f.types)) (names : Stored) (h : HasNames f first left simples names) where
  abbrev metas : Types
  metas = types_in f.store

  abbrev n : Instantiation
  n = naming first metas left

  abbrev cs : Types
  cs = slice_get (constants names)

  abbrev g : Assignment
  g = closed cs metas

  lengths : {X Y : Type 0} (k : X → Y) (xs : List X) → length (map k xs) ≡ length xs
  lengths k [] = refl
  lengths k (x ∷ xs) = ap suc (lengths k xs)

  length_append : {X : Type 0} (xs ys : List X) → length (xs ++ ys) ≡ length xs + length ys
  length_append [] ys = omega arith
  length_append (x ∷ xs) ys = let e = length_append xs ys in omega arith

  count_is : length (constants f.store) ≡ first
  count_is = ap (λ (us : List SimpleType). length us) formed_in.constants_are ∙ length_append (simple_types sig) (map erase (map plain_ty f.types))
      ∙ ap (λ k. k + length (map erase (map plain_ty f.types))) (lengths _ sig) ∙ ap (λ k. length sig + k) (lengths erase (map plain_ty f.types)) ∙ sym is_first

  typed : (m i : ℕ) (t : SimpleType) → metas m ≡ Some t → position (λ k. k == m) left ≡ Some i → cs (first + i) ≡ Some t
  typed m i t e p = ap (λ (us : List SimpleType). slice_get us (first + i)) h.constants_are
      ∙ ap (λ k. slice_get (constants f.store ++ simples) (k + i)) (sym count_is)
      ∙ get-behind (constants f.store) simples i ∙ simple-at metas left simples are m i t e p

  all_named : (m : ℕ) → given (additions names) m ≡ n m
  all_named m = ⊎_elim (λ l. h.named m l) (λ l. h.later m l ∙ sym (ap (λ (t : Option SimpleType). named_at first t (position (λ k. k == m) left)) (slice_get_past (metas_of f.store) m l))) (split m (length (metas_of f.store)))
    where
      split : (i j : ℕ) → (i < j) ⊎ (j ≤ i)
      split i j = grind arith

  given_is : given (additions names) ≡ n
  given_is = ext all_named

  puts : PutIn (given (additions names)) n
  puts = subst (λ (s : Instantiation). PutIn s n) (sym given_is) (put_in first metas left cs typed)

  store_typed : TypesStore g (additions names)
  store_typed = types-store first metas left cs typed (additions names) (λ m. ap (λ (us : List SimpleType). slice_get us m) h.metas) all_named

  more : HasMore (heads_of_store f.store) g
  more (Const c) t e = ap (λ (us : List SimpleType). slice_get us c) h.constants_are ∙ get-front (constants f.store) simples c t e
  more (Var i) t e = e
  more (Meta m) t e = e

  formed : CoreIsFormed (families_of sig) g (plain_core f.core)
  formed = core_more (families_of sig) (heads_of_store f.store) g more (plain_core f.core) formed_in.formed

  each : EachIsFormed (families_of sig) g (map plain_ty f.types)
  each = each_more (families_of sig) (heads_of_store f.store) g more (map plain_ty f.types) formed_in.each

  -- ---- what the call that puts them in asks

  pub names-put-in : HasPutIn (additions names)
  names-put-in = record { solutions = n; put_in = puts; closed = is_closed first metas left cs typed }

  pub tree-in : CoreIsFormedIn (additions names) (plain_core f.core)
  tree-in = core_formed_in (additions names) (families_of sig) g store_typed (plain_core f.core) formed

  pub types-in : EachIsFormedIn (additions names) (map plain_ty f.types)
  types-in = each_formed_in (additions names) (families_of sig) g store_typed (map plain_ty f.types) each

  -- ---- what comes of it

  module _ (put : Found) (is_put : IsPutInto f.core f.types names put) (fresh : Stored) (unsolved : IsUnsolvedWith f.store simples fresh)
      (scene : Scene) (same_tree : scene.core ≡ put.core) (all_types : types_of scene ≡ map plain_ty put.types ++ types_from (indices_of sig) (count fresh) simples)
      (grown : IsGrownBy fresh scene.store (new_in_each (indices_of sig) simples)) where
    abbrev named : List PlainType
    named = map plain_ty put.types

    abbrev old : List SimpleType
    old = metas_of f.store

    abbrev new_ones : List SimpleType
    new_ones = new_in_each (indices_of sig) simples

    abbrev made : List PlainType
    made = types_from (indices_of sig) (length old) simples

    keeps : TypedEnvironment true g g (instant n)
    keeps = (instant_is_environment g).0 g n (is_typed first metas left cs typed)

    results : ResultsAreTyped true (families_of sig) g g (instant n)
    results = result_is_typed true (families_of sig) g g (instant n) keeps

    each_after : (as_ bs : List PlainType) → EachBecomes n as_ bs → EachIsFormed (families_of sig) g as_ → EachIsFormed (families_of sig) g bs × (map erase bs ≡ map erase as_)
    each_after [] [] h p = (tt, refl)
    each_after [] (b ∷ bs) h p = absurd h
    each_after (a ∷ as_) [] h p = absurd h
    each_after (a ∷ as_) (b ∷ bs) h p =
        let (q, e) = results.type a b p.0 h.0 in
        let (r, i) = each_after as_ bs h.1 p.1 in
        ((q, r), ap (λ t. t ∷ map erase bs) e ∙ ap (λ l. erase a ∷ l) i)

    core_becomes : SubstitutedCore (instant n) (plain_core f.core) (plain_core put.core)
    core_becomes = is_put.tree n puts (is_closed first metas left cs typed)

    types_become : EachBecomes n (map plain_ty f.types) named
    types_become = each_becomes (additions names) n puts (is_closed first metas left cs typed) is_put.each

    core_formed : CoreIsFormed (families_of sig) g (plain_core put.core)
    core_formed = core_stays_formed (families_of sig) g g (instant n) keeps (plain_core f.core) (plain_core put.core) core_becomes formed

    after : EachIsFormed (families_of sig) g named × (map erase named ≡ map erase (map plain_ty f.types))
    after = each_after (map plain_ty f.types) named types_become each

    count_of_fresh : count fresh ≡ length old
    count_of_fresh = ap (λ (zs : List Addition). length (meta_types zs)) unsolved.additions_are ∙ ap (λ (us : List SimpleType). length us) (new-types old)

    types_are : types_of scene ≡ named ++ made
    types_are = all_types ∙ ap (λ k. named ++ types_from (indices_of sig) k simples) count_of_fresh

    additions_are : additions scene.store ≡ map new (old ++ new_ones)
    additions_are = grown.added ∙ ap (λ (zs : List Addition). zs ++ map new new_ones) unsolved.additions_are ∙ new-append old new_ones

    constants_of_scene : constants scene.store ≡ constants names
    constants_of_scene = grown.constants_kept ∙ unsolved.constants_are ∙ sym h.constants_are

    erased : map erase (types_of scene) ≡ map erase (map plain_ty f.types) ++ simples
    erased = ap (map erase) types_are ∙ map-append erase named made ∙ ap (λ (us : List SimpleType). us ++ map erase made) after.1
        ∙ ap (λ (us : List SimpleType). map erase (map plain_ty f.types) ++ us) (types_have_erasures (indices_of sig) (length old) simples)

    are_constants : constants scene.store ≡ simple_types sig ++ map erase (types_of scene)
    are_constants = constants_of_scene ∙ h.constants_are ∙ ap (λ (us : List SimpleType). us ++ simples) formed_in.constants_are
        ∙ append_assoc (simple_types sig) (map erase (map plain_ty f.types)) simples ∙ ap (λ (us : List SimpleType). simple_types sig ++ us) (sym erased)

    abbrev z : Assignment
    z = closed (slice_get (store_constants sig (types_of scene))) (metas_in scene)

    larger : HasMore g z
    larger (Const c) t e = ap (λ (us : List SimpleType). slice_get us c) (sym (sym constants_of_scene ∙ are_constants)) ∙ e
    larger (Var i) t e = e
    larger (Meta m) t e = metas-are scene (old ++ new_ones) additions_are m ∙ get-front old new_ones m t e

    formed_at : (as_ : List PlainType) → EachIsFormed (families_of sig) g as_ → (x : ℕ) (a : PlainType) → slice_get as_ x ≡ Some a → SimplyFormed (families_of sig) g a
    formed_at [] p x a e = absurd (cc)
    formed_at (b ∷ as_) p zero a e = subst (SimplyFormed (families_of sig) g) (one e) p.0
      where
        one : Some b ≡ Some a → b ≡ a
        one q = cc
    formed_at (b ∷ as_) p (suc x) a e = formed_at as_ p.1 x a e

    read_named : (x : ℕ) (a : PlainType) → slice_get named x ≡ Some a → ReadType sig (types_of scene) (metas_in scene) a
    read_named x a e = record { formed = there; closed_type = formed_type_has_no_variables (families_of sig) (item_constants sig (types_of scene)) (metas_in scene) a there }
      where
        there : SimplyFormed (families_of sig) (closed (item_constants sig (types_of scene)) (metas_in scene)) a
        there = ((store_types_the_same sig (types_of scene) (metas_in scene)).types (families_of sig) a).1 (each_more (families_of sig) g z larger (a ∷ []) (formed_at named after.0 x a e, tt)).0

    simples_families : All (HasFamilies sig) simples
    simples_families = by left simples are
      where
        first_of : {x y : Option SimpleType} {us vs : List (Option SimpleType)} → x ∷ us ≡ y ∷ vs → (x ≡ y) × (us ≡ vs)
        first_of e = (cc, cc)

        by : (ks : List ℕ) (ts : List SimpleType) → map metas ks ≡ map Some ts → All (HasFamilies sig) ts
        by [] [] e = All-nil (HasFamilies sig)
        by [] (t ∷ ts) e = absurd (cc)
        by (k ∷ ks) [] e = absurd (cc)
        by (k ∷ ks) (t ∷ ts) e = All-cons (HasFamilies sig) t ts (formed_in.families k t (first_of e).0) (by ks ts (first_of e).1)

    old_families : All (HasFamilies sig) old
    old_families = all_at (HasFamilies sig) old (λ m t e. formed_in.families m t e)

    all_families : All (HasFamilies sig) (old ++ new_ones)
    all_families = All-append (HasFamilies sig) old new_ones old_families (new_have_families sig wf simples simples_families)

    numbered : TypesFrom (metas_in scene) (length old) new_ones
    numbered j u e = metas-are scene (old ++ new_ones) additions_are (length old + j) ∙ get-behind old new_ones j ∙ e

    read_made : (x : ℕ) (a : PlainType) → slice_get made x ≡ Some a → ReadType sig (types_of scene) (metas_in scene) a
    read_made x a e = fresh_types_are_read sig (types_of scene) (metas_in scene) (length old) simples simples_families numbered x a e

    read : ReadTypes sig (types_of scene) (metas_in scene)
    read x a e = by named x (ap (λ (as_ : List PlainType). slice_get as_ x) (sym types_are) ∙ e) (λ y q. read_named y a q)
      where
        by : (as_ : List PlainType) (y : ℕ) → slice_get (as_ ++ made) y ≡ Some a → ((i : ℕ) → slice_get as_ i ≡ Some a → ReadType sig (types_of scene) (metas_in scene) a) → ReadType sig (types_of scene) (metas_in scene) a
        by [] y q r = read_made y a q
        by (b ∷ as_) zero q r = r 0 q
        by (b ∷ as_) (suc y) q r = by as_ y q (λ i s. r (suc i) s)

    final_old : All HasFinalResult old
    final_old = all_at HasFinalResult old (λ m t e. formed_in.final m t e)

    abbrev left_in : List ℕ
    left_in = metavariables_with (plain_core f.core) (map plain_ty f.types)

    naming_is : n ≡ naming (length sig + length (map plain_ty f.types)) metas left_in
    naming_is = ap (λ k. naming k metas left) is_first ∙ ap (λ (ks : List ℕ). naming (length sig + length (map plain_ty f.types)) metas ks) are_left

    tree_is : plain_core put.core ≡ tree_of scene
    tree_is = sym (ap plain_core same_tree)

    is_named : IsNamed sig metas (plain_core f.core) (map plain_ty f.types) simples (tree_of scene) (types_of scene) (metas_in scene)
    is_named = record {
      old = old;
      they = λ m. refl;
      simple = subst (λ (ks : List ℕ). map metas ks ≡ map Some simples) are_left are;
      named_core = subst (λ (s : Instantiation). SubstitutedCore (instant s) (plain_core f.core) (tree_of scene)) naming_is (subst (λ (c : PlainCore). SubstitutedCore (instant n) (plain_core f.core) c) tree_is core_becomes);
      named = named;
      named_types = subst (λ (s : Instantiation). EachBecomes s (map plain_ty f.types) named) naming_is types_become;
      all_types = types_are;
      metavariables = metas-are scene (old ++ new_ones) additions_are;
    }

    pub scene_named : IsNamedScene sig f simples scene
    scene_named = record {
      named = is_named;
      is_scene = record {
        constants_are = are_constants;
        fresh = is-fresh scene (old ++ new_ones) additions_are (All-append HasFinalResult old new_ones final_old ((new_in_are_final (indices_of sig)).1 simples));
        read = read;
        no_hole = formed_core_has_no_hole (families_of sig) g (tree_of scene) (subst (λ (c : PlainCore). CoreIsFormed (families_of sig) g c) tree_is core_formed);
      };
      families = λ m a e. all-at (HasFamilies sig) (old ++ new_ones) all_families m a (sym (metas-are scene (old ++ new_ones) additions_are m) ∙ e);
    }

-- What the calls answer, one after the other.
pub named_so : (sig : PlainSignature) (f : Found) (simples : List SimpleType) (names : Stored) → NamesLeft sig f simples names → (put : Found) → IsPutInto f.core f.types names put
    → (fresh : Stored) → IsUnsolvedWith f.store simples fresh → (r : Result Scene Want) → IfOk r (HasMadeTypes sig put fresh simples) → IfOk r (IsNamedScene sig f simples)
named_so sig f simples names l put is_put fresh unsolved (Ok scene) m =
    scene_named sig f l.formed l.left l.are_left l.signature simples l.are_simples l.first l.is_first names l.has_names put is_put fresh unsolved scene m.same_tree m.all_types m.grown
named_so sig f simples names l put is_put fresh unsolved (Err w) m = tt

pub may_put_in : (sig : PlainSignature) (f : Found) (simples : List SimpleType) (names : Stored) → NamesLeft sig f simples names
    → HasPutIn (additions names) × CoreIsFormedIn (additions names) (plain_core f.core) × EachIsFormedIn (additions names) (map plain_ty f.types)
may_put_in sig f simples names l = (
  names-put-in sig f l.formed l.left l.are_left l.signature simples l.are_simples l.first l.is_first names l.has_names,
  tree-in sig f l.formed l.left l.are_left l.signature simples l.are_simples l.first l.is_first names l.has_names,
  types-in sig f l.formed l.left l.are_left l.signature simples l.are_simples l.first l.is_first names l.has_names,
)
