-- One more value at a number.
use Rattle.std.specs.Prelude.{ℕ, ◌≡◌, ◌⊎◌, nat_eq, if◌then◌else◌, Bool, true, false, Option, Some, None, refl}
use Rattle.std.proofs.Common.{ap, sym, inl, inr, ⊎_elim, ◌∙◌, arith}
use Rattle.store_laws.specs.Additions.{set}

same_number : (i v : ℕ) → nat_eq i v ≡ true → i ≡ v
same_number i v e = grind arith

own : (i : ℕ) → nat_eq i i ≡ true
own i = grind arith

pub number_cases : (k m : ℕ) → (k ≡ m) ⊎ (nat_eq k m ≡ false)
number_cases k m = of (nat_eq k m) (λ e. same_number k m e)
  where
    of : (b : Bool) → (b ≡ true → k ≡ m) → (k ≡ m) ⊎ (b ≡ false)
    of true f = inl (f refl)
    of false f = inr refl

chosen : {X : Type 0} {b : Bool} (x : X) (o : Option X) → b ≡ true → (if b then Some x else o) ≡ Some x
chosen x o e = rw e refl

passed : {X : Type 0} {b : Bool} (x : X) (o : Option X) → b ≡ false → (if b then Some x else o) ≡ o
passed x o e = rw e refl

pub set_there : {X : Type 0} (m : ℕ) (x : X) (g : ℕ → Option X) → set m x g m ≡ Some x
set_there m x g = chosen x (g m) (own m)

pub set_else : {X : Type 0} (m k : ℕ) (x : X) (g : ℕ → Option X) → nat_eq k m ≡ false → set m x g k ≡ g k
set_else m k x g e = passed x (g k) e

pub some_none : {X : Type 0} {b : X} {o : Option X} → o ≡ None → o ≡ Some b → ⊥
some_none e f = cc
