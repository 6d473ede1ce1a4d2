-- A variable among those that are noted, in place of a later occurrence of it, or at the end.
use Rattle.std.specs.Prelude.{ℕ, zero, suc, ◌≡◌, ◌<◌, Bool, true, false, ◌||◌, nat_lt, List, [], ◌∷◌, ◌++◌, map, length, take, get_or, Some, None, refl}
use Rattle.std.specs.List.{slice_set}
use Rattle.std.proofs.Common.{ap, sym, ◌∙◌, arith, ltb-true, lt-ltb}
use Rattle.celf_implicit.specs.declared.variable.Implicit.{Implicit}
use Rattle.celf_implicit.specs.Variables.{PlainImplicit, has_name, is_among}
use Rattle.celf_implicit.specs.Answers.{plain_implicit}
use Rattle.celf_implicit.specs.Noting.{IsPlaceOf, earlier, with_one}

pub same_item : {W : Type 0} (ws : List W) (i : ℕ) (v w : W) → i < length ws → v ≡ get_or ws i v → w ≡ get_or ws i w → w ≡ v
same_item [] i v w l p q = absurd (omega (arith, l))
same_item (u ∷ us) zero v w l p q = q ∙ sym p
same_item (u ∷ us) (suc i) v w l p q = same_item us i v w (omega (arith, l)) p q

neither : (a b : Bool) → (a || b) ≡ false → (a ≡ false) × (b ≡ false)
neither true b e = absurd (cc)
neither false b e = (refl, e)

replaced_here : (b : Bool) (y x : PlainImplicit) → nat_lt x.start y.start ≡ b → b ≡ true → earlier y x ≡ x
replaced_here b y x e q = rw (e, q) refl

-- of two that stand at one place of a list
with_at : (ws : List Implicit) (i : ℕ) (w : Implicit) (x : PlainImplicit) → i < length ws → is_among (map plain_implicit (take i ws)) x.name ≡ false → w ≡ get_or ws i w → has_name x.name (plain_implicit w) ≡ true
    → with_one (map plain_implicit ws) x ≡ slice_set (map plain_implicit ws) i (earlier (plain_implicit w) x)
with_at [] i w x l p q r = absurd (omega (arith, l))
with_at (u ∷ us) zero w x l p q r = let same : w ≡ u = q in let here : has_name x.name (plain_implicit u) ≡ true = rw same at r in rw (here, same) refl
with_at (u ∷ us) (suc i) w x l p q r =
    let parts : (has_name x.name (plain_implicit u) ≡ false) × (is_among (map plain_implicit (take i us)) x.name ≡ false) = neither _ _ p in
    rw parts.0 (ap (λ ys. plain_implicit u ∷ ys) (with_at us i w x (omega (arith, l)) parts.1 q r))

set_mapped : (ws : List Implicit) (i : ℕ) (v : Implicit) → map plain_implicit (slice_set ws i v) ≡ slice_set (map plain_implicit ws) i (plain_implicit v)
set_mapped [] i v = refl
set_mapped (u ∷ us) zero v = refl
set_mapped (u ∷ us) (suc i) v = ap (λ ys. plain_implicit u ∷ ys) (set_mapped us i v)

set_same : (ws : List Implicit) (i : ℕ) (w : Implicit) → i < length ws → w ≡ get_or ws i w → slice_set (map plain_implicit ws) i (plain_implicit w) ≡ map plain_implicit ws
set_same [] i w l q = absurd (omega (arith, l))
set_same (u ∷ us) zero w l q = let same : w ≡ u = q in rw same refl
set_same (u ∷ us) (suc i) w l q = ap (λ ys. plain_implicit u ∷ ys) (set_same us i w (omega (arith, l)) q)

pub replaced : (ws new : List Implicit) (i : ℕ) (w v : Implicit) (x : PlainImplicit) → IsPlaceOf x.name ws (Some i) → w ≡ get_or ws i w → x.start < w.start → plain_implicit v ≡ x → new ≡ slice_set ws i v
    → map plain_implicit new ≡ with_one (map plain_implicit ws) x
replaced ws new i w v x p q l e n =
    let first : earlier (plain_implicit w) x ≡ x = replaced_here _ (plain_implicit w) x refl (lt-ltb x.start w.start l) in
    rw n (set_mapped ws i v ∙ ap (slice_set (map plain_implicit ws) i) (e ∙ sym first) ∙ sym (with_at ws i w x p.0 p.1 q (p.2 w q)))

not_replaced : (b : Bool) (y x : PlainImplicit) → nat_lt x.start y.start ≡ b → (x.start < y.start → ⊥) → earlier y x ≡ y
not_replaced true y x e n = absurd (n (ltb-true x.start y.start e))
not_replaced false y x e n = rw e refl

pub kept : (ws : List Implicit) (i : ℕ) (w : Implicit) (x : PlainImplicit) → IsPlaceOf x.name ws (Some i) → w ≡ get_or ws i w → (x.start < w.start → ⊥) → map plain_implicit ws ≡ with_one (map plain_implicit ws) x
kept ws i w x p q n =
    sym (with_at ws i w x p.0 p.1 q (p.2 w q) ∙ ap (slice_set (map plain_implicit ws) i) (not_replaced _ (plain_implicit w) x refl n) ∙ set_same ws i w p.0 q)

at_end : (ws : List Implicit) (x : PlainImplicit) → is_among (map plain_implicit ws) x.name ≡ false → with_one (map plain_implicit ws) x ≡ map plain_implicit ws ++ x ∷ []
at_end [] x p = refl
at_end (u ∷ us) x p =
    let parts : (has_name x.name (plain_implicit u) ≡ false) × (is_among (map plain_implicit us) x.name ≡ false) = neither _ _ p in
    rw parts.0 (ap (λ ys. plain_implicit u ∷ ys) (at_end us x parts.1))

pub added : (ws new : List Implicit) (v : Implicit) (x : PlainImplicit) → IsPlaceOf x.name ws None → plain_implicit v ≡ x → new ≡ ws ++ v ∷ [] → map plain_implicit new ≡ with_one (map plain_implicit ws) x
added ws new v x p e n = rw (n, mapped ws v, e) (sym (at_end ws x p))
  where
    mapped : (ws : List Implicit) (v : Implicit) → map plain_implicit (ws ++ v ∷ []) ≡ map plain_implicit ws ++ plain_implicit v ∷ []
    mapped [] v = refl
    mapped (u ∷ us) v = ap (λ ys. plain_implicit u ∷ ys) (mapped us v)
