-- Places with the same local in two lists.
use Rattle.std.specs.Prelude.{ℕ, Bool, true, false, zero, suc, ◌+◌, ◌≡◌, ◌<◌, ◌≤◌, ◌⊎◌, ◌↔◌, nat_eq, if◌then◌else◌, List, [], ◌∷◌, ◌++◌, length, map, get_or, Option, Some, None, refl}
use Rattle.std.specs.Option.{option_map}
use Rattle.std.proofs.Common.{ap, sym, subst, ◌∙◌, arith, inl, inr, ⊎_elim}
use Rattle.clf_syntax.proofs.OccursLaws.{not_both}
use Rattle.pattern_laws.specs.Patterns.{Place as PlainPlace, blank, local_at, mask_at, Ends, NoCircle}
use Rattle.pattern_laws.proofs.Inverse.{local_within}
use Rattle.celf_constraints.specs.declared.places.Place.{Place}
use Rattle.celf_constraints.specs.Reading.{plain_place}
use Rattle.reach_walk.specs.Answers.{KeepsAgreeing}
use Rattle.celf_reach.specs.Agreeing.{Agrees, AgreesAt}
use Rattle.celf_reach.proofs.Masking.{push_there, push_before, push_length}

-- ---- what stands at a place

pub local_there : (xs : List Place) (u : ℕ) (d : Place) → u < length xs → local_at (map plain_place xs) u ≡ (if blank (plain_place (get_or xs u d)).1 then None else Some (get_or xs u d).local)
local_there [] u d h = absurd (omega arith)
local_there (y ∷ ys) zero d h = refl
local_there (y ∷ ys) (suc u) d h = local_there ys u d (omega arith)

pub read_same : (xs : List Place) (u : ℕ) (d e : Place) → u < length xs → get_or xs u d ≡ get_or xs u e
read_same [] u d e h = absurd (omega arith)
read_same (y ∷ ys) zero d e h = refl
read_same (y ∷ ys) (suc u) d e h = read_same ys u d e (omega arith)

pub local_past : (xs : List Place) (u : ℕ) → length xs ≤ u → local_at (map plain_place xs) u ≡ None
local_past [] u h = refl
local_past (x ∷ xs) zero h = absurd (omega arith)
local_past (x ∷ xs) (suc u) h = local_past xs u (omega arith)

pub read_blank : (b : Bool) (v : ℕ) → b ≡ true → (if b then None else Some v) ≡ None
read_blank true v e = refl
read_blank false v e = absurd (cc)

pub read_local : (b : Bool) (v : ℕ) → b ≡ false → (if b then None else Some v) ≡ Some v
read_local true v e = absurd (cc)
read_local false v e = refl

none_some : {w : ℕ} → None ≡ Some w → ⊥
none_some e = cc

one_local : {v w : ℕ} → Some v ≡ Some w → v ≡ w
one_local e = cc

the_number : (i v : ℕ) → nat_eq i v ≡ true → i ≡ v
the_number i v e = grind arith

same_number : (i v : ℕ) → v ≡ i → nat_eq i v ≡ true
same_number i v e = grind arith

pub agrees_blank : (ps zs : List PlainPlace) (u : ℕ) → local_at ps u ≡ None → (true ≡ true) ↔ AgreesAt ps zs u
agrees_blank ps zs u e = (λ h w f. absurd (none_some (sym e ∙ f)), λ a. refl)

pub agrees_none : (ps zs : List PlainPlace) (u v : ℕ) (b : Bool) → local_at ps u ≡ Some v → local_at zs u ≡ None → b ≡ false → (b ≡ true) ↔ AgreesAt ps zs u
agrees_none ps zs u v b e f n = (λ h. absurd (not_both h n), λ a. absurd (none_some (sym f ∙ a v e)))

pub agrees_some : (ps zs : List PlainPlace) (u v x : ℕ) → local_at ps u ≡ Some v → local_at zs u ≡ Some x → (nat_eq v x ≡ true) ↔ AgreesAt ps zs u
agrees_some ps zs u v x e f = (λ h w k. f ∙ ap (λ i. Some i) (sym (the_number v x h)) ∙ sym e ∙ k, λ a. same_number v x (one_local (sym f ∙ a v e)))

-- ---- the first places

-- The mask of so many places.
pub record AgreedTo (ps zs : List PlainPlace) (n : ℕ) (bs : List Bool) : Type 0 where
  pub long : length bs ≡ n
  pub blank : (u : ℕ) → u < n → local_at ps u ≡ None → mask_at bs u ≡ true
  pub sorts : (u w : ℕ) → u < n → local_at ps u ≡ Some w → ((local_at zs u ≡ Some w) × (mask_at bs u ≡ true)) ⊎ ((local_at zs u ≡ Some w → ⊥) × Ends ps zs u × (mask_at bs u ≡ false))

pub agreed_none : (ps zs : List PlainPlace) → AgreedTo ps zs 0 []
agreed_none ps zs = record { long = refl; blank = λ u h e. absurd (omega arith); sorts = λ u w h e. absurd (omega arith) }

cases_of : (b : Bool) → (b ≡ true) ⊎ (b ≡ false)
cases_of true = inl refl
cases_of false = inr refl

last : (j n : ℕ) → j < n + 1 → (j < n) ⊎ (j ≡ n)
last j n h = grind arith

pub agreed_more : (ps zs : List PlainPlace) (n : ℕ) (bs cs : List Bool) (b : Bool) → AgreedTo ps zs n bs → (b ≡ true) ↔ AgreesAt ps zs n → (b ≡ false → Ends ps zs n) → cs ≡ bs ++ b ∷ [] → AgreedTo ps zs (n + 1) cs
agreed_more ps zs n bs cs b m k o e = record {
  long = ap length e ∙ push_length bs b ∙ ap (λ i. i + 1) m.long;
  blank = λ u h f. ⊎_elim (λ l. before u l ∙ m.blank u l f) (λ s. there u s ∙ k.1 (λ w g. absurd (none_some (sym f ∙ ap (local_at ps) s ∙ g)))) (last u n h);
  sorts = λ u w h f. ⊎_elim
      (λ l. ⊎_elim (λ p. inl (p.0, before u l ∙ p.1)) (λ p. inr (p.0, p.1, before u l ∙ p.2)) (m.sorts u w l f))
      (λ s. ⊎_elim
      (λ t. inl (ap (local_at zs) s ∙ k.0 t w (ap (local_at ps) (sym s) ∙ f), there u s ∙ t))
      (λ t. inr (
        λ g. not_both (k.1 (λ x i. ap (local_at zs) (sym s) ∙ g ∙ sym f ∙ ap (local_at ps) s ∙ i)) t,
        subst (Ends ps zs) (sym s) (o t),
        there u s ∙ t,
      )) (cases_of b)) (last u n h);
}
  where
    before : (u : ℕ) → u < n → mask_at cs u ≡ mask_at bs u
    before u l = ap (λ y. mask_at y u) e ∙ push_before bs b u (subst (λ i. u < i) (sym m.long) l)

    there : (u : ℕ) → u ≡ n → mask_at cs u ≡ b
    there u s = ap (λ y. mask_at y u) e ∙ ap (mask_at (bs ++ b ∷ [])) (s ∙ sym m.long) ∙ push_there bs b

pub agreed_all : (ps zs : List PlainPlace) (n : ℕ) (bs : List Bool) → AgreedTo ps zs n bs → n ≡ length ps → KeepsAgreeing ps zs bs
agreed_all ps zs n bs m e = (
  m.long ∙ e,
  λ u h f. m.blank u (subst (λ i. u < i) (sym e) h) f,
  λ u w f. m.sorts u w (subst (λ i. u < i) (sym e) (local_within ps u w f)) f,
)

pub circle_there : (ps zs : List PlainPlace) (n : ℕ) (b : Bool) → (b ≡ true) ↔ AgreesAt ps zs n → b ≡ false → (Ends ps zs n → ⊥) → NoCircle ps zs → ⊥
circle_there ps zs n b k e f c = not_both (k.1 (λ w i. ⊎_elim (λ h. h) (λ h. absurd (f h)) (c n w i))) e

-- ---- the answer

pub agreeing_none : {V : Type 0} (o : Option V) (items : V → List Bool) (ps zs : List PlainPlace) → Agrees ps zs (option_map items o) → o ≡ None → NoCircle ps zs → ⊥
agreeing_none None items ps zs a e = a
agreeing_none (Some v) items ps zs a e = absurd (cc)

pub agreeing_some : {V : Type 0} (o : Option V) (v : V) (items : V → List Bool) (ps zs : List PlainPlace) → Agrees ps zs (option_map items o) → o ≡ Some v → KeepsAgreeing ps zs (items v)
agreeing_some o v items ps zs a e = subst (λ n. Agrees ps zs (option_map items n)) e a

-- what is read of a mask
pub held_read : (bs : List Bool) (i : ℕ) (b : Bool) → i < length bs → b ≡ get_or bs i b → b ≡ mask_at bs i
held_read [] i b h e = absurd (omega arith)
held_read (x ∷ xs) zero b h e = e
held_read (x ∷ xs) (suc i) b h e = held_read xs i b (omega arith) e
