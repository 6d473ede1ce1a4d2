-- Where something is left to be found of which the simple type is not known, an item has no tree.
use Rattle.std.proofs.Common.{ℕ, zero, suc, ◌≡◌, ◌<◌, ◌∙◌, true, false, refl, sym, ap, subst, List, [], ◌∷◌, length, map, Option, Some, None, arith, Contains}
use Rattle.std.specs.List.{slice_index_or}
use Rattle.clf_syntax.specs.TypeTree.{SimpleType}
use Rattle.clf_sig.specs.Entry.{PlainSignature}
use Rattle.clf_sig.specs.Core.{PlainCore}
use Rattle.pattern_laws.specs.Instantiations.{Types}
use Rattle.celf_sugar.specs.PlainTree.{DesugaredBody}
use Rattle.celf_places.specs.Places.{Place}
use Rattle.celf_implicit.specs.Variables.{PlainImplicit}
use Rattle.celf_implicit.specs.Rounds.{determined}
use Rattle.celf_elaboration.specs.Names.{TypedVariable, with_simple_type}
use Rattle.celf_filled.specs.Scopes.{with_known_type}
use Rattle.celf_filled.specs.States.{State}
use Rattle.celf_filled.specs.WalkItems.{fill_body}
use Rattle.celf_reconstruct.specs.Trees.{determined_name, read_name, IsItemTree}
use Rattle.celf_reconstruct.proofs.WholeItems.{body_whole}

-- no metavariable so far; all is filled in so far
abbrev pub nothing_filled : List SimpleType → State
nothing_filled constants = record { constants = constants; added = []; whole = true }

-- An implicit variable is determined where no known simple type is wanted; or the walk over the item does not fill in all.
pub data HasNoTree (sig : PlainSignature) (body : DesugaredBody) : Type 0 where
  untyped_variable : {x : PlainImplicit} → Contains (determined sig body) x → x.place ≡ None → HasNoTree sig body
  untyped_place : (constants : List SimpleType) → (fill_body sig (map determined_name (determined sig body)) body (nothing_filled constants)).1.whole ≡ false → HasNoTree sig body

first_of : {x y : List ℕ × Place} {xs ys : List (List ℕ × Place)} → x ∷ xs ≡ y ∷ ys → (x ≡ y) × (xs ≡ ys)
first_of e = (cc, cc)

-- Each variable of a tree has a known simple type.
one_typed : (y : PlainImplicit) (v : TypedVariable) (x : PlainImplicit) → determined_name y ≡ read_name v → y ≡ x → x.place ≡ None → ⊥
one_typed y v x e q none =
    let place : y.place ≡ (read_name v).1 = ap (λ (p : List ℕ × Place). p.1) e in
    let same : y.place ≡ x.place = ap (λ (z : PlainImplicit). z.place) q in
    let both : (read_name v).1 ≡ None = sym place ∙ same ∙ none in
    cc

typed_at : (ys : List PlainImplicit) (vs : List TypedVariable) → map determined_name ys ≡ map read_name vs → (x : PlainImplicit) (k : ℕ) → k < length ys → slice_index_or ys k x ≡ x → x.place ≡ None → ⊥
typed_at [] vs e x k l q none = omega arith
typed_at (y ∷ ys) [] e x k l q none = cc
typed_at (y ∷ ys) (v ∷ vs) e x zero l q none = one_typed y v x (first_of e).0 q none
typed_at (y ∷ ys) (v ∷ vs) e x (suc k) l q none = typed_at ys vs (first_of e).1 x k (omega arith) q none

typed : (ys : List PlainImplicit) (vs : List TypedVariable) → map determined_name ys ≡ map read_name vs → (x : PlainImplicit) → Contains ys x → x.place ≡ None → ⊥
typed ys vs e x c none = let (k, l, q) = c in typed_at ys vs e x k l q none

names_same : (vs : List TypedVariable) → map read_name vs ≡ map with_known_type (map with_simple_type vs)
names_same [] = refl
names_same (v ∷ vs) = ap (λ l. read_name v ∷ l) (names_same vs)

pub no-tree : (sig : PlainSignature) (body : DesugaredBody) → HasNoTree sig body → (vs : List TypedVariable) (metas : Types) (tree : PlainCore) → IsItemTree sig body vs metas tree → ⊥
no-tree sig body (untyped_variable {x = x} there none) vs metas tree t = typed (determined sig body) vs t.these x there none
no-tree sig body (untyped_place constants e) vs metas tree t =
    let all : (fill_body sig (map with_known_type (map with_simple_type vs)) body (nothing_filled constants)).1.whole ≡ true = body_whole sig (map with_simple_type vs) t.reading (nothing_filled constants) refl in
    let here : (fill_body sig (map determined_name (determined sig body)) body (nothing_filled constants)).1.whole ≡ true =
    subst (λ ns. (fill_body sig ns body (nothing_filled constants)).1.whole ≡ true) (sym (t.these ∙ names_same vs)) all in
    cc
