-- A split, entry by entry: as a test of each entry's marks, and the lengths.
use Rattle.std.proofs.Common.{◌≡◌, suc, Bool, true, false, not, ◌&&◌, ◌||◌, List, [], ◌∷◌, length, refl, ap, arith}
use Rattle.clf_syntax.specs.declared.tree.Mode.{Mode}
use Rattle.clf_syntax.specs.declared.tree.Mode.TheVariants.{Persistent, Affine, Linear}
use Rattle.use_contexts.specs.Holding.{Holding, Split, SplitEntry}
use Rattle.use_contexts.specs.Rows.{implies, newest, older}

-- one entry: the part p is shared out to g and k
abbrev pub splits : Mode → Bool → Bool → Bool → Bool
splits Persistent p g k = p && g && k
splits Affine p g k = implies p (g || k) && implies (g || k) p && not (g && k)
splits Linear p g k = implies p (g || k) && implies (g || k) p && not (g && k)

abbrev pub EachSplit : List Mode → Holding → Holding → Holding → Type 0
EachSplit [] p g k = Unit {0}
EachSplit (m ∷ ms) p g k = (splits m (newest p) (newest g) (newest k) ≡ true) × EachSplit ms (older p) (older g) (older k)

apart : (p g k : Bool) → (p ≡ (g || k)) × ((g && k) ≡ false) → (implies p (g || k) && implies (g || k) p && not (g && k)) ≡ true
apart p true true h = let e : true ≡ false = h.1 in cc
apart true true false h = refl
apart true false true h = refl
apart false false false h = refl
apart false true false h = let e : false ≡ true = h.0 in cc
apart false false true h = let e : false ≡ true = h.0 in cc
apart true false false h = let e : true ≡ false = h.0 in cc

entry_splits : (m : Mode) (p g k : Bool) → SplitEntry m p g k → splits m p g k ≡ true
entry_splits Persistent true true true h = refl
entry_splits Persistent false g k h = h.0
entry_splits Persistent true false k h = h.1
entry_splits Persistent true true false h = h.2
entry_splits Affine p g k h = apart p g k h
entry_splits Linear p g k h = apart p g k h

together : (p g k : Bool) → (implies p (g || k) && implies (g || k) p && not (g && k)) ≡ true → (p ≡ (g || k)) × ((g && k) ≡ false)
together true true true h = cc
together true true false h = (refl, refl)
together true false true h = (refl, refl)
together true false false h = cc
together false true true h = cc
together false true false h = cc
together false false true h = cc
together false false false h = (refl, refl)

splits_entry : (m : Mode) (p g k : Bool) → splits m p g k ≡ true → SplitEntry m p g k
splits_entry Persistent true true true h = (refl, refl, refl)
splits_entry Persistent false g k h = cc
splits_entry Persistent true false k h = cc
splits_entry Persistent true true false h = cc
splits_entry Affine p g k h = together p g k h
splits_entry Linear p g k h = together p g k h

pub split_each : (ms : List Mode) (p g k : Holding) → Split ms p g k → EachSplit ms p g k × (length g ≡ length ms) × (length k ≡ length ms)
split_each [] [] [] [] s = (tt, refl, refl)
split_each (m ∷ ms) (p ∷ ps) (g ∷ gs) (k ∷ ks) s =
    let r = split_each ms ps gs ks s.1 in
    ((entry_splits m p g k s.0, r.0), ap suc r.1, ap suc r.2)
split_each [] [] [] (k ∷ ks) s = absurd s
split_each [] [] (g ∷ gs) [] s = absurd s
split_each [] [] (g ∷ gs) (k ∷ ks) s = absurd s
split_each [] (p ∷ ps) [] [] s = absurd s
split_each [] (p ∷ ps) [] (k ∷ ks) s = absurd s
split_each [] (p ∷ ps) (g ∷ gs) [] s = absurd s
split_each [] (p ∷ ps) (g ∷ gs) (k ∷ ks) s = absurd s
split_each (m ∷ ms) [] [] [] s = absurd s
split_each (m ∷ ms) [] [] (k ∷ ks) s = absurd s
split_each (m ∷ ms) [] (g ∷ gs) [] s = absurd s
split_each (m ∷ ms) [] (g ∷ gs) (k ∷ ks) s = absurd s
split_each (m ∷ ms) (p ∷ ps) [] [] s = absurd s
split_each (m ∷ ms) (p ∷ ps) [] (k ∷ ks) s = absurd s
split_each (m ∷ ms) (p ∷ ps) (g ∷ gs) [] s = absurd s

pub each_split : (ms : List Mode) (p g k : Holding) → length p ≡ length ms → length g ≡ length ms → length k ≡ length ms → EachSplit ms p g k → Split ms p g k
each_split [] [] [] [] a b c s = tt
each_split (m ∷ ms) (p ∷ ps) (g ∷ gs) (k ∷ ks) a b c s =
    (splits_entry m p g k s.0, each_split ms ps gs ks (omega arith) (omega arith) (omega arith) s.1)
each_split [] (p ∷ ps) g k a b c s = absurd (omega arith)
each_split [] [] (g ∷ gs) k a b c s = absurd (omega arith)
each_split [] [] [] (k ∷ ks) a b c s = absurd (omega arith)
each_split (m ∷ ms) [] g k a b c s = absurd (omega arith)
each_split (m ∷ ms) (p ∷ ps) [] k a b c s = absurd (omega arith)
each_split (m ∷ ms) (p ∷ ps) (g ∷ gs) [] a b c s = absurd (omega arith)
