-- Lists of parts each of which binds names in the later ones.
use Rattle.std.specs.Prelude.{ℕ, ◌+◌, ◌≡◌, ◌<◌, List, [], ◌∷◌, ◌++◌, map, length, take, get_or, Option, refl}
use Rattle.std.specs.List.{flat_map}
use Rattle.std.proofs.Common.{sym, ◌∙◌, append-nil, append_assoc}
use Rattle.std.proofs.lemmas.Grind.{flat_map-append}
use Rattle.std.proofs.lemmas.List.{take_more, map-append}
use Rattle.celf_sugar.specs.declared.plain.PName.{PName}
use Rattle.celf_sugar.specs.Earliest.{sooner, earliest}
use Rattle.celf_sugar.proofs.EarliestLaws.{earliest-append, one_more}
use Rattle.celf_unknown.specs.Unknown.{place}
use Rattle.celf_unknown.specs.UnknownLists.{unknown_along}

module _ {W X : Type 0} (names : List (List ℕ) → X → List PName) (binds : X → List (List ℕ)) (tree : W → X) where
  along-last : (scope : List (List ℕ)) (xs : List X) (x : X) → unknown_along names binds scope (xs ++ x ∷ []) ≡ unknown_along names binds scope xs ++ names (scope ++ flat_map binds xs) x
  along-last scope [] x = rw (append-nil (names scope x), append-nil scope) refl
  along-last scope (y ∷ ys) x = rw (along-last (scope ++ binds y) ys x, append_assoc scope (binds y) (flat_map binds ys)) (sym (append_assoc (names scope y) (unknown_along names binds (scope ++ binds y) ys) (names (scope ++ (binds y ++ flat_map binds ys)) x)))

  -- with one part more
  along_more : (scope : List (List ℕ)) (ws : List W) (i : ℕ) (w : W) → i < length ws → w ≡ get_or ws i w → earliest place (unknown_along names binds scope (map tree (take (i + 1) ws))) ≡ sooner place (earliest place (unknown_along names binds scope (map tree (take i ws)))) (earliest place (names (scope ++ flat_map binds (map tree (take i ws))) (tree w)))
  along_more scope ws i w h e = rw (take_more ws i w h, ← e, map-append tree (take i ws) (w ∷ []), along-last scope (map tree (take i ws)) (tree w)) (earliest-append place (unknown_along names binds scope (map tree (take i ws))) (names (scope ++ flat_map binds (map tree (take i ws))) (tree w)))

bound_more : {W X : Type 0} (binds : X → List (List ℕ)) (tree : W → X) (scope : List (List ℕ)) (ws : List W) (i : ℕ) (w : W) → i < length ws → w ≡ get_or ws i w → scope ++ flat_map binds (map tree (take (i + 1) ws)) ≡ (scope ++ flat_map binds (map tree (take i ws))) ++ binds (tree w)
bound_more binds tree scope ws i w h e = rw (take_more ws i w h, ← e, map-append tree (take i ws) (w ∷ []), flat_map-append binds (map tree (take i ws)) (tree w ∷ []), append-nil (binds (tree w))) (sym (append_assoc scope (flat_map binds (map tree (take i ws))) (binds (tree w))))

-- One part more of a list has been gone through: parts that leave the scope as it was, and parts that bind names.
pub goes_on : {W X : Type 0} (tree : W → X) (names : List (List ℕ) → X → List PName) (scope now later : List (List ℕ)) (ws : List W) (i : ℕ) (w : W) (found more new : Option PName) → i < length ws → w ≡ get_or ws i w
    → (found ≡ earliest place (flat_map (names scope) (map tree (take i ws)))) × (now ≡ scope)
    → more ≡ earliest place (names now (tree w)) → later ≡ now → new ≡ sooner place found more
    → (new ≡ earliest place (flat_map (names scope) (map tree (take (i + 1) ws)))) × (later ≡ scope)
goes_on tree names scope now later ws i w found more new h e v m l s = (s ∙ rw (v.0, m, v.1) (sym (one_more place tree (names scope) ws i w h e)), l ∙ v.1)

pub goes_along : {W X : Type 0} (tree : W → X) (names : List (List ℕ) → X → List PName) (binds : X → List (List ℕ)) (scope now later : List (List ℕ)) (ws : List W) (i : ℕ) (w : W) (found more new : Option PName) → i < length ws → w ≡ get_or ws i w
    → (found ≡ earliest place (unknown_along names binds scope (map tree (take i ws)))) × (now ≡ scope ++ flat_map binds (map tree (take i ws)))
    → more ≡ earliest place (names now (tree w)) → later ≡ now ++ binds (tree w) → new ≡ sooner place found more
    → (new ≡ earliest place (unknown_along names binds scope (map tree (take (i + 1) ws)))) × (later ≡ scope ++ flat_map binds (map tree (take (i + 1) ws)))
goes_along tree names binds scope now later ws i w found more new h e v m l s =
    (s ∙ rw (v.0, m, v.1) (sym (along_more names binds tree scope ws i w h e)), l ∙ rw v.1 (sym (bound_more binds tree scope ws i w h e)))
