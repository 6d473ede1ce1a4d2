-- The reading of a list part by part: what has been read goes before what is left, which is read in the state that is left.
use Rattle.std.specs.Prelude.{ℕ, ◌+◌, ◌≡◌, ◌<◌, List, [], ◌∷◌, ◌++◌, map, length, drop, get_or, Option, None, Some, refl}
use Rattle.std.proofs.Common.{ap, sym, ◌∙◌, ◌≤◌, append-nil, append_assoc}
use Rattle.std.proofs.lemmas.List.{drop_more, drop_all, map-append}
use Rattle.celf_places.specs.Combined.{combined}
use Rattle.celf_places.specs.Along.{with_some, read_along, left_along}

with_next : {Y : Type 0} (es : List Y) (e : Y) (more : Option (List Y)) → with_some (es ++ e ∷ []) more ≡ with_some es (combined (◌∷◌) (Some e) more)
with_next es e None = refl
with_next es e (Some fs) = ap Some (append_assoc es (e ∷ []) fs)

-- from a place of the list on
from_here : {W X : Type 0} (written : W → X) (ws : List W) (i : ℕ) (w : W) → i < length ws → w ≡ get_or ws i w → map written (drop i ws) ≡ written w ∷ map written (drop (i + 1) ws)
from_here written ws i w h e = ap (map written) (drop_more ws i w h ∙ ap (λ x. x ∷ drop (i + 1) ws) (sym e))

module _ {S W X Y : Type 0} (written : W → X) (read : S → X → Option Y) (next : S → X → S) (s : S) (ws : List W) (i : ℕ) where
  unrolled : (w : W) (done : List Y) (whole : Option (List Y)) → i < length ws → w ≡ get_or ws i w → with_some done (read_along read next s (map written (drop i ws))) ≡ whole
      → with_some done (combined (◌∷◌) (read s (written w)) (read_along read next (next s (written w)) (map written (drop (i + 1) ws)))) ≡ whole
  unrolled w done whole h e v = rw (from_here written ws i w h e) at v

  -- a part is not read
  pub none_along : (w : W) (done : List Y) (whole : Option (List Y)) → i < length ws → w ≡ get_or ws i w → with_some done (read_along read next s (map written (drop i ws))) ≡ whole
      → None ≡ read s (written w) → None ≡ whole
  none_along w done whole h e v n = rw (← n) at (unrolled w done whole h e v)

  -- a part is read too
  pub one_along : {Z : Type 0} (out : Z → Y) (w : W) (done new : List Z) (more : Z) (later : S) (whole : Option (List Y)) → i < length ws → w ≡ get_or ws i w
      → with_some (map out done) (read_along read next s (map written (drop i ws))) ≡ whole → Some (out more) ≡ read s (written w) → new ≡ done ++ more ∷ [] → later ≡ next s (written w)
      → with_some (map out new) (read_along read next later (map written (drop (i + 1) ws))) ≡ whole
  one_along out w done new more later whole h e v n p b =
      rw (p, map-append out done (more ∷ []), b)
      (with_next (map out done) (out more) (read_along read next (next s (written w)) (map written (drop (i + 1) ws))) ∙ rw (← n) at (unrolled w (map out done) whole h e v))

  -- all of it has been read
  pub all_along : (done : List Y) (whole : Option (List Y)) → length ws ≤ i → with_some done (read_along read next s (map written (drop i ws))) ≡ whole → Some done ≡ whole
  all_along done whole h v =
      let ended : Some (done ++ []) ≡ whole = rw (drop_all i ws h) at v in
      rw (append-nil done) at ended

module _ {S W X : Type 0} (written : W → X) (next : S → X → S) (s : S) (ws : List W) (i : ℕ) (whole : S) where
  -- one part more has left its state
  pub left_next : (w : W) (later : S) → i < length ws → w ≡ get_or ws i w → left_along next s (map written (drop i ws)) ≡ whole → later ≡ next s (written w)
      → left_along next later (map written (drop (i + 1) ws)) ≡ whole
  left_next w later h e v b =
      let unrolled : left_along next (next s (written w)) (map written (drop (i + 1) ws)) ≡ whole = rw (from_here written ws i w h e) at v in
      rw b unrolled

  pub left_end : length ws ≤ i → left_along next s (map written (drop i ws)) ≡ whole → s ≡ whole
  left_end h v = rw (drop_all i ws h) at v
