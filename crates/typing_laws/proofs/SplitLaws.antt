-- Splits commute and associate, and the persistent entries alone take nothing.
use Rattle.std.specs.Prelude.{◌≡◌, ◌&&◌, ◌||◌, Bool, true, false, List, [], ◌∷◌, refl}
use Rattle.std.proofs.Common.{sym, ◌∙◌}
use Rattle.clf_syntax.specs.declared.tree.Mode.{Mode}
use Rattle.clf_syntax.specs.declared.tree.Mode.TheVariants.{Persistent, Affine, Linear}
use Rattle.use_contexts.specs.Holding.{Holding, SplitEntry, Split, WellMarked, is_persistent, persistent_alone}
use Rattle.typing_laws.specs.Splits.{SplitCommutes, SplitAssociates, SplitHasNeutral}

swap_entry : (m : Mode) (x a b : Bool) → SplitEntry m x a b → SplitEntry m x b a
swap_entry Persistent x a b s = (s.0, s.2, s.1)
swap_entry Affine x true true s = s
swap_entry Affine x true false s = s
swap_entry Affine x false true s = s
swap_entry Affine x false false s = s
swap_entry Linear x true true s = s
swap_entry Linear x true false s = s
swap_entry Linear x false true s = s
swap_entry Linear x false false s = s

pub split_commutes : SplitCommutes
split_commutes [] [] [] [] s = tt
split_commutes (m ∷ ms) (x ∷ h) (u ∷ a) (v ∷ b) s = (swap_entry m x u v s.0, split_commutes ms h a b s.1)
split_commutes _ _ _ _ s = absurd s

tf : true ≡ false → ⊥
tf e = cc

ft : false ≡ true → ⊥
ft e = cc

-- the shares of an entry that is not persistent, the other way round
shares : (x y a b c : Bool) → (x ≡ y || c) × (y && c ≡ false) → (y ≡ a || b) × (a && b ≡ false) → (z : Bool) × ((x ≡ a || z) × (a && z ≡ false)) × ((z ≡ b || c) × (b && c ≡ false))
shares x y true true c s t = absurd (tf t.1)
shares x true true false true s t = absurd (tf s.1)
shares x false true false c s t = absurd (ft t.0)
shares x true true false false s t = (false, (s.0, refl), (refl, refl))
shares x true false true true s t = absurd (tf s.1)
shares x false false true c s t = absurd (ft t.0)
shares x true false true false s t = (true, (s.0, refl), (refl, refl))
shares x true false false c s t = absurd (tf t.0)
shares x false false false true s t = (true, (s.0, refl), (refl, refl))
shares x false false false false s t = (false, (s.0, refl), (refl, refl))

shared_entry : (m : Mode) (x y a b c : Bool) → SplitEntry m x y c → SplitEntry m y a b → (z : Bool) × SplitEntry m x a z × SplitEntry m z b c
shared_entry Persistent x y a b c s t = (true, (s.0, t.1, refl), (refl, t.2, s.2))
shared_entry Affine x y a b c s t = shares x y a b c s t
shared_entry Linear x y a b c s t = shares x y a b c s t

pub split_associates : SplitAssociates
split_associates [] [] [] [] [] [] s t = ([], tt, tt)
split_associates (m ∷ ms) (x ∷ h) (y ∷ k) (u ∷ a) (v ∷ b) (w ∷ c) s t =
    let (z, p, q) = shared_entry m x y u v w s.0 t.0 in let (l, f, g) = split_associates ms h k a b c s.1 t.1 in (z ∷ l, (p, f), (q, g))
split_associates [] (x ∷ h) k a b c s t = absurd s
split_associates [] [] (y ∷ k) a b c s t = absurd s
split_associates [] [] [] a b (w ∷ c) s t = absurd s
split_associates [] [] [] (u ∷ a) b [] s t = absurd t
split_associates [] [] [] [] (v ∷ b) [] s t = absurd t
split_associates (m ∷ ms) [] k a b c s t = absurd s
split_associates (m ∷ ms) (x ∷ h) [] a b c s t = absurd s
split_associates (m ∷ ms) (x ∷ h) (y ∷ k) a b [] s t = absurd s
split_associates (m ∷ ms) (x ∷ h) (y ∷ k) [] b (w ∷ c) s t = absurd t
split_associates (m ∷ ms) (x ∷ h) (y ∷ k) (u ∷ a) [] (w ∷ c) s t = absurd t

or_false : (b : Bool) → b ≡ b || false
or_false true = refl
or_false false = refl

and_false : (b : Bool) → b && false ≡ false
and_false true = refl
and_false false = refl

whole_entry : (m : Mode) (x : Bool) → (is_persistent m ≡ true → x ≡ true) → SplitEntry m x x (is_persistent m)
whole_entry Persistent x e = (e refl, e refl, refl)
whole_entry Affine x e = (or_false x, and_false x)
whole_entry Linear x e = (or_false x, and_false x)

whole : (ms : List Mode) (h : Holding) → WellMarked ms h → Split ms h h (persistent_alone ms)
whole [] [] w = tt
whole (m ∷ ms) (x ∷ h) w = (whole_entry m x w.0, whole ms h w.1)
whole [] (x ∷ h) w = absurd w
whole (m ∷ ms) [] w = absurd w

same_entry : (m : Mode) (x a : Bool) → SplitEntry m x a (is_persistent m) → x ≡ a
same_entry Persistent x a s = s.0 ∙ sym s.1
same_entry Affine x a s = s.0 ∙ sym (or_false a)
same_entry Linear x a s = s.0 ∙ sym (or_false a)

conses : {x y : Bool} {h k : Holding} → x ≡ y → h ≡ k → x ∷ h ≡ y ∷ k
conses e f = cc

no_other : (ms : List Mode) (h a : Holding) → Split ms h a (persistent_alone ms) → h ≡ a
no_other [] [] [] s = refl
no_other (m ∷ ms) (x ∷ h) (u ∷ a) s = conses (same_entry m x u s.0) (no_other ms h a s.1)
no_other [] (x ∷ h) a s = absurd s
no_other [] [] (u ∷ a) s = absurd s
no_other (m ∷ ms) [] a s = absurd s
no_other (m ∷ ms) (x ∷ h) [] s = absurd s

pub split_has_neutral : SplitHasNeutral
split_has_neutral ms h a = (whole ms h, no_other ms h a)
