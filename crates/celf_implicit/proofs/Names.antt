-- The names of variables in lists.
use Rattle.std.specs.Prelude.{ℕ, ◌≡◌, Bool, true, false, ◌||◌, nat_lt, if◌then◌else◌, List, [], ◌∷◌, ◌++◌, Option, Some, None, refl}
use Rattle.std.specs.List.{filter, find}
use Rattle.std.proofs.Common.{ap, ◌∙◌}
use Rattle.clf_syntax.specs.Word.{same_bytes}
use Rattle.clf_sig.proofs.Names.{same_bytes-Decides}
use Rattle.celf_sugar.specs.Earliest.{sooner}
use Rattle.celf_implicit.specs.Variables.{PlainImplicit, has_name, is_among}
use Rattle.celf_implicit.specs.Rounds.{start, is_other, first_of_each}

pub same_name : (m n : List ℕ) → same_bytes m n ≡ true → m ≡ n
same_name m n e = (same_bytes-Decides m n).0 e

pub name_same : (n : List ℕ) → same_bytes n n ≡ true
name_same n = (same_bytes-Decides n n).1 refl

pub among_append : (n : List ℕ) (xs ys : List PlainImplicit) → is_among (xs ++ ys) n ≡ (is_among xs n || is_among ys n)
among_append n [] ys = refl
among_append n (x ∷ xs) ys = rw (among_append n xs ys) (or_assoc (has_name n x) (is_among xs n) (is_among ys n))
  where
    or_assoc : (a b c : Bool) → (a || (b || c)) ≡ ((a || b) || c)
    or_assoc true b c = refl
    or_assoc false b c = refl

-- what the sooner one of x and one of its name is: one of its name
sooner_named : (x : PlainImplicit) (o : Option PlainImplicit) → ((y : PlainImplicit) → o ≡ Some y → has_name x.name y ≡ true)
    → (u : PlainImplicit) × (sooner start (Some x) o ≡ Some u) × (has_name x.name u ≡ true)
sooner_named x None h = (x, refl, name_same x.name)
sooner_named x (Some y) h = by_test (nat_lt y.start x.start)
  where
    by_test : (b : Bool) → (u : PlainImplicit) × ((if b then Some y else Some x) ≡ Some u) × (has_name x.name u ≡ true)
    by_test true = (y, refl, h y refl)
    by_test false = (x, refl, name_same x.name)

pub found_named : (n : List ℕ) (xs : List PlainImplicit) (y : PlainImplicit) → find (has_name n) xs ≡ Some y → has_name n y ≡ true
found_named n [] y e = absurd (cc)
found_named n (x ∷ xs) y e = by_test (λ there. found_named n xs y there) (has_name n x) refl
  where
    by_test : (find (has_name n) xs ≡ Some y → has_name n y ≡ true) → (b : Bool) → has_name n x ≡ b → has_name n y ≡ true
    by_test further true q = let here : Some x ≡ Some y = rw q at e in let same : x ≡ y = cc in rw same at q
    by_test further false q = let there : find (has_name n) xs ≡ Some y = rw q at e in further there

-- the sooner one of x and of the first one of its name
pub first_named : (x : PlainImplicit) (xs : List PlainImplicit) → (u : PlainImplicit) × (sooner start (Some x) (find (has_name x.name) xs) ≡ Some u) × (has_name x.name u ≡ true)
first_named x xs = sooner_named x (find (has_name x.name) xs) (λ y e. found_named x.name xs y e)

-- Those of another name stay among the others.
others_among : (x : PlainImplicit) (n : List ℕ) (xs : List PlainImplicit) → has_name n x ≡ false → is_among (filter (is_other x) xs) n ≡ is_among xs n
others_among x n [] e = refl
others_among x n (y ∷ ys) e = by_test (others_among x n ys e) (has_name x.name y) refl
  where
    other : has_name x.name y ≡ true → has_name n y ≡ false
    other q = let same : x.name ≡ y.name = same_name x.name y.name q in rw (← same) e

    by_test : is_among (filter (is_other x) ys) n ≡ is_among ys n → (b : Bool) → has_name x.name y ≡ b → is_among (filter (is_other x) (y ∷ ys)) n ≡ is_among (y ∷ ys) n
    by_test same true q = rw (q, other q) same
    by_test same false q = rw q (ap (λ b. has_name n y || b) same)

-- Each variable stands in the list of the first ones.
pub firsts_among : (n : List ℕ) (xs : List PlainImplicit) → is_among (first_of_each xs) n ≡ is_among xs n
firsts_among n [] = refl
firsts_among n (x ∷ xs) =
    let u : (u : PlainImplicit) × (sooner start (Some x) (find (has_name x.name) (first_of_each xs)) ≡ Some u) × (has_name x.name u ≡ true) = first_named x (first_of_each xs) in
    let same : x.name ≡ u.0.name = same_name x.name u.0.name u.2 in
    rw u.1 (by_test (firsts_among n xs) u.0 same (has_name n x) refl)
  where
    by_test : is_among (first_of_each xs) n ≡ is_among xs n → (u : PlainImplicit) → x.name ≡ u.name → (b : Bool) → has_name n x ≡ b → (has_name n u || is_among (filter (is_other x) (first_of_each xs)) n) ≡ (has_name n x || is_among xs n)
    by_test further u s true q = let here : has_name n u ≡ true = rw (← s) q in rw (here, q) refl
    by_test further u s false q =
        let here : has_name n u ≡ false = rw (← s) q in
        rw (here, q) (others_among x n (first_of_each xs) q ∙ further)
