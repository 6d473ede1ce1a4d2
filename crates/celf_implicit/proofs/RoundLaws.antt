-- The rounds come to the least closed set.
use Rattle.std.specs.Prelude.{ℕ, zero, suc, ◌+◌, ◌-◌, ◌≡◌, ◌<◌, Bool, true, false, not, ◌||◌, ◌⊎◌, if◌then◌else◌, List, [], ◌∷◌, length, map, Option, Some, None, is_some, refl}
use Rattle.std.specs.List.{list_any, filter, filter_map, AllZip}
use Rattle.std.proofs.Common.{◌≤◌, ap, sym, ◌∙◌, arith, append-nil, inl, inr}
use Rattle.clf_syntax.specs.Word.{same_bytes}
use Rattle.clf_sig.specs.Entry.{PlainSignature}
use Rattle.celf_sugar.specs.PlainTree.{DesugaredBody}
use Rattle.celf_implicit.specs.Variables.{PlainImplicit, has_name, is_among}
use Rattle.celf_implicit.specs.Occurrences.{AppliedLocal, Occurrence, occurrences}
use Rattle.celf_implicit.specs.Rounds.{determined_at, at_distinct, determined_by, is_open, open_occurrences, found, first_of_each, round, after_rounds, determined}
use Rattle.celf_implicit.specs.Laws.{LeastClosed}
use Rattle.celf_implicit.proofs.Names.{same_name, name_same, among_append, firsts_among}
use Rattle.celf_implicit.proofs.Wider.{Below, below}

-- the variable of an occurrence
abbrev pub variable_of : Occurrence → List ℕ
variable_of o = o.name.name

-- what occurrences determine of those that are not among xs
abbrev pub given_by : List PlainImplicit → List Occurrence → List PlainImplicit
given_by xs os = filter_map determined_by (filter (is_open xs) os)

-- ---- least

some_determined : (p : Occurrence) (o : Option (List AppliedLocal)) → is_some o ≡ true → (x : PlainImplicit) × (at_distinct p o ≡ Some x)
some_determined p None e = absurd (cc)
some_determined p (Some as_) e = (determined_at p as_, refl)

-- an occurrence that determines its variable
pub determining : (o : Occurrence) (x : PlainImplicit) → determined_by o ≡ Some x → (x.name ≡ variable_of o) × (o.checked ≡ true) × (is_some o.at_locals ≡ true)
determining o x e = by_test o.checked o.at_locals refl refl
  where
    by_test : (c : Bool) (l : Option (List AppliedLocal)) → o.checked ≡ c → o.at_locals ≡ l → (x.name ≡ variable_of o) × (o.checked ≡ true) × (is_some o.at_locals ≡ true)
    by_test false l p q = let none : None ≡ Some x = rw p at e in absurd (cc)
    by_test true None p q = let none : None ≡ Some x = rw (p, q) at e in absurd (cc)
    by_test true (Some as_) p q =
        let one : Some (determined_at o as_) ≡ Some x = rw (p, q) at e in
        let same : determined_at o as_ ≡ x = cc in
        (sym (ap (λ (y : PlainImplicit). y.name) same), p, rw q refl)

-- what determines its variable does so where as much is checked
determines_too : (o p : Occurrence) (x : PlainImplicit) → Below o p → determined_by o ≡ Some x → (y : PlainImplicit) × (determined_by p ≡ Some y)
determines_too o p x b e =
    let d : (x.name ≡ variable_of o) × (o.checked ≡ true) × (is_some o.at_locals ≡ true) = determining o x e in
    let y : (y : PlainImplicit) × (at_distinct p p.at_locals ≡ Some y) = some_determined p p.at_locals (sym b.at_locals ∙ d.2) in
    (y.0, ap (λ c. if c then at_distinct p p.at_locals else None) (b.checked d.1) ∙ y.1)

no_more : (ys : List PlainImplicit) (p : Occurrence) (ps : List Occurrence) → given_by ys (p ∷ ps) ≡ [] → given_by ys ps ≡ []
no_more ys p ps e = by_test (is_open ys p) (determined_by p) refl refl
  where
    by_test : (b : Bool) (d : Option PlainImplicit) → is_open ys p ≡ b → determined_by p ≡ d → given_by ys ps ≡ []
    by_test false d q r = rw q at e
    by_test true None q r = rw (q, r) at e
    by_test true (Some y) q r = let never : y ∷ given_by ys ps ≡ [] = rw (q, r) at e in absurd (cc)

-- a variable of which an occurrence determines it is among those to which nothing can be added
taken : (ys : List PlainImplicit) (p : Occurrence) (ps : List Occurrence) (y : PlainImplicit) → given_by ys (p ∷ ps) ≡ [] → determined_by p ≡ Some y → is_among ys (variable_of p) ≡ true
taken ys p ps y e d = by_test (is_among ys (variable_of p)) refl
  where
    by_test : (b : Bool) → is_among ys (variable_of p) ≡ b → is_among ys (variable_of p) ≡ true
    by_test true q = q
    by_test false q = let never : y ∷ given_by ys ps ≡ [] = rw (q, d) at e in absurd (cc)

contained : (xs ys : List PlainImplicit) (os ps : List Occurrence) → AllZip Below os ps → given_by ys ps ≡ [] → (n : List ℕ) → is_among (given_by xs os) n ≡ true → is_among ys n ≡ true
contained xs ys [] [] z e n a = absurd (cc)
contained xs ys [] (p ∷ ps) z e n a = absurd z
contained xs ys (o ∷ os) [] z e n a = absurd z
contained xs ys (o ∷ os) (p ∷ ps) z e n a = by_test (λ there. contained xs ys os ps z.1 (no_more ys p ps e) n there) (is_open xs o) (determined_by o) refl refl
  where
    by_name : (is_among (given_by xs os) n ≡ true → is_among ys n ≡ true) → (x : PlainImplicit) → determined_by o ≡ Some x → (b : Bool) → has_name n x ≡ b → (has_name n x || is_among (given_by xs os) n) ≡ true → is_among ys n ≡ true
    by_name further x d false q w = let there : is_among (given_by xs os) n ≡ true = rw q at w in further there
    by_name further x d true q w =
        let y : (y : PlainImplicit) × (determined_by p ≡ Some y) = determines_too o p x z.0 d in
        let of_x : n ≡ x.name = same_name n x.name q in
        let of_p : n ≡ variable_of p = of_x ∙ (determining o x d).0 ∙ ap (λ (m : _). m.name) z.0.name in
        rw of_p (taken ys p ps y.0 e y.1)

    by_test : (is_among (given_by xs os) n ≡ true → is_among ys n ≡ true) → (b : Bool) (d : Option PlainImplicit) → is_open xs o ≡ b → determined_by o ≡ d → is_among ys n ≡ true
    by_test further false d q r = let there : is_among (given_by xs os) n ≡ true = rw q at a in further there
    by_test further true None q r = let there : is_among (given_by xs os) n ≡ true = rw (q, r) at a in further there
    by_test further true (Some x) q r = let there : (has_name n x || is_among (given_by xs os) n) ≡ true = rw (q, r) at a in by_name further x r (has_name n x) refl there

pub or_split : (a b : Bool) → (a || b) ≡ true → (a ≡ true) ⊎ (b ≡ true)
or_split true b e = inl refl
or_split false b e = inr e

module _ (sig : PlainSignature) (body : DesugaredBody) where
  least : (ys : List PlainImplicit) → found sig body ys ≡ [] → (k : ℕ) (n : List ℕ) → is_among (after_rounds sig body k) n ≡ true → is_among ys n ≡ true
  least ys e zero n a = absurd (cc)
  least ys e (suc k) n a =
      let parts : (is_among (after_rounds sig body k) n || is_among (first_of_each (found sig body (after_rounds sig body k))) n) ≡ true = rw (among_append n (after_rounds sig body k) (first_of_each (found sig body (after_rounds sig body k)))) at a in
      by_part (λ m q. least ys e k m q) (or_split _ _ parts)
    where
      by_part : ((m : List ℕ) → is_among (after_rounds sig body k) m ≡ true → is_among ys m ≡ true) → (is_among (after_rounds sig body k) n ≡ true) ⊎ (is_among (first_of_each (found sig body (after_rounds sig body k))) n ≡ true) → is_among ys n ≡ true
      by_part before (inl p) = before n p
      by_part before (inr p) =
          contained (after_rounds sig body k) ys (occurrences sig (after_rounds sig body k) body) (occurrences sig ys body)
          (below sig (after_rounds sig body k) ys before body) e n (sym (firsts_among n (found sig body (after_rounds sig body k))) ∙ p)

-- ---- closed: each round that adds something leaves fewer occurrences

abbrev test : List PlainImplicit → List ℕ → Bool
test xs n = not (is_among xs n)

-- the names of occurrences that are not among xs
abbrev left_of : List PlainImplicit → List (List ℕ) → List (List ℕ)
left_of xs names = filter (test xs) names

open_names : (xs : List PlainImplicit) (os : List Occurrence) → length (filter (is_open xs) os) ≡ length (left_of xs (map variable_of os))
open_names xs [] = refl
open_names xs (o ∷ os) = by_test (open_names xs os) (is_among xs (variable_of o)) refl
  where
    by_test : length (filter (is_open xs) os) ≡ length (left_of xs (map variable_of os)) → (b : Bool) → is_among xs (variable_of o) ≡ b → length (filter (is_open xs) (o ∷ os)) ≡ length (left_of xs (map variable_of (o ∷ os)))
    by_test same true q = rw q same
    by_test same false q = rw q (ap (λ k. suc k) same)

pub names_below : (os ps : List Occurrence) → AllZip Below os ps → map variable_of os ≡ map variable_of ps
names_below [] [] z = refl
names_below [] (p ∷ ps) z = absurd z
names_below (o ∷ os) [] z = absurd z
names_below (o ∷ os) (p ∷ ps) z = let here : variable_of o ≡ variable_of p = ap (λ (m : _). m.name) z.0.name in rw (here, names_below os ps z.1) refl

-- over more variables not more names are left, and fewer where one of them is new
not_more : (xs ys : List PlainImplicit) (names : List (List ℕ)) → ((n : List ℕ) → is_among xs n ≡ true → is_among ys n ≡ true) → length (left_of ys names) ≤ length (left_of xs names)
not_more xs ys [] more = omega arith
not_more xs ys (n ∷ ns) more = by_test (not_more xs ys ns more) (is_among xs n) (is_among ys n) refl refl
  where
    by_test : length (left_of ys ns) ≤ length (left_of xs ns) → (b c : Bool) → is_among xs n ≡ b → is_among ys n ≡ c → length (left_of ys (n ∷ ns)) ≤ length (left_of xs (n ∷ ns))
    by_test there true true p q = rw (p, q) there
    by_test there true false p q = let never : false ≡ true = sym q ∙ more n p in absurd (cc)
    by_test there false true p q = rw (p, q) (omega (arith, there))
    by_test there false false p q = rw (p, q) (omega (arith, there))

fewer : (xs ys : List PlainImplicit) (names : List (List ℕ)) (m : List ℕ) → ((n : List ℕ) → is_among xs n ≡ true → is_among ys n ≡ true) → list_any (same_bytes m) names ≡ true → is_among xs m ≡ false → is_among ys m ≡ true
    → length (left_of ys names) < length (left_of xs names)
fewer xs ys [] m more e p q = absurd (cc)
fewer xs ys (n ∷ ns) m more e p q = by_name (λ there. fewer xs ys ns m more there p q) (same_bytes m n) refl
  where
    by_test : (b c : Bool) → is_among xs n ≡ b → is_among ys n ≡ c → length (left_of ys ns) < length (left_of xs ns) → length (left_of ys (n ∷ ns)) < length (left_of xs (n ∷ ns))
    by_test true true u v w = rw (u, v) w
    by_test true false u v w = let never : false ≡ true = sym v ∙ more n u in absurd (cc)
    by_test false true u v w = rw (u, v) (omega (arith, w))
    by_test false false u v w = rw (u, v) (omega (arith, w))

    by_name : (list_any (same_bytes m) ns ≡ true → length (left_of ys ns) < length (left_of xs ns)) → (b : Bool) → same_bytes m n ≡ b → length (left_of ys (n ∷ ns)) < length (left_of xs (n ∷ ns))
    by_name further true s =
        let same : m ≡ n = same_name m n s in
        let u : is_among xs n ≡ false = rw (← same) p in
        let v : is_among ys n ≡ true = rw (← same) q in
        let there : length (left_of ys ns) ≤ length (left_of xs ns) = not_more xs ys ns more in
        rw (u, v) (omega (arith, there))
    by_name further false s =
        let there : list_any (same_bytes m) ns ≡ true = rw s at e in
        by_test (is_among xs n) (is_among ys n) refl refl (further there)

-- Occurrences determine no variable, or one that is not among xs.
one_given : (xs : List PlainImplicit) (os : List Occurrence)
    → (given_by xs os ≡ []) ⊎ ((n : List ℕ) × (list_any (same_bytes n) (map variable_of os) ≡ true) × (is_among xs n ≡ false) × (is_among (given_by xs os) n ≡ true))
one_given xs [] = inl refl
one_given xs (o ∷ os) = by_test (is_among xs (variable_of o)) (determined_by o) refl refl (one_given xs os)
  where
    later : (n : List ℕ) → list_any (same_bytes n) (map variable_of os) ≡ true → list_any (same_bytes n) (map variable_of (o ∷ os)) ≡ true
    later n e = rw e (or_true (same_bytes n (variable_of o)))
      where
        or_true : (b : Bool) → (b || true) ≡ true
        or_true true = refl
        or_true false = refl

    by_test : (b : Bool) (d : Option PlainImplicit) → is_among xs (variable_of o) ≡ b → determined_by o ≡ d
        → (given_by xs os ≡ []) ⊎ ((n : List ℕ) × (list_any (same_bytes n) (map variable_of os) ≡ true) × (is_among xs n ≡ false) × (is_among (given_by xs os) n ≡ true))
        → (given_by xs (o ∷ os) ≡ []) ⊎ ((n : List ℕ) × (list_any (same_bytes n) (map variable_of (o ∷ os)) ≡ true) × (is_among xs n ≡ false) × (is_among (given_by xs (o ∷ os)) n ≡ true))
    by_test true d q r (inl e) = inl (rw q e)
    by_test true d q r (inr (n, e, f, g)) = inr (n, later n e, f, rw q g)
    by_test false None q r (inl e) = inl (rw (q, r) e)
    by_test false None q r (inr (n, e, f, g)) = inr (n, later n e, f, rw (q, r) g)
    by_test false (Some x) q r rest =
        inr (variable_of o, rw (name_same (variable_of o)) refl, q, rw (q, r) (let same : x.name ≡ variable_of o = (determining o x r).0 in rw (same, name_same (variable_of o)) refl))

or_left : (a b : Bool) → a ≡ true → (a || b) ≡ true
or_left a b e = rw e refl

or_right : (a b : Bool) → b ≡ true → (a || b) ≡ true
or_right true b e = refl
or_right false b e = e

module _ (sig : PlainSignature) (body : DesugaredBody) where
  -- how many occurrences are left
  abbrev pub left : List PlainImplicit → ℕ
  left xs = length (open_occurrences sig body xs)

  all_names : (xs : List PlainImplicit) → left xs ≡ length (left_of xs (map variable_of (occurrences sig [] body)))
  all_names xs =
      open_names xs (occurrences sig xs body)
      ∙ ap (λ ns. length (left_of xs ns)) (sym (names_below (occurrences sig [] body) (occurrences sig xs body) (below sig [] xs (λ n e. absurd (cc)) body)))

  -- A round finds nothing, or leaves fewer occurrences.
  pub each_round : (xs : List PlainImplicit) → (found sig body xs ≡ []) ⊎ (left (round sig body xs) < left xs)
  each_round xs = by_part (one_given xs (occurrences sig xs body))
    where
      by_part : (found sig body xs ≡ []) ⊎ ((n : List ℕ) × (list_any (same_bytes n) (map variable_of (occurrences sig xs body)) ≡ true) × (is_among xs n ≡ false) × (is_among (found sig body xs) n ≡ true))
          → (found sig body xs ≡ []) ⊎ (left (round sig body xs) < left xs)
      by_part (inl e) = inl e
      by_part (inr (n, e, f, g)) =
          let names : map variable_of (occurrences sig [] body) ≡ map variable_of (occurrences sig xs body) = names_below (occurrences sig [] body) (occurrences sig xs body) (below sig [] xs (λ m q. absurd (cc)) body) in
          let new : is_among (round sig body xs) n ≡ true = among_append n xs (first_of_each (found sig body xs)) ∙ or_right (is_among xs n) _ (firsts_among n (found sig body xs) ∙ g) in
          inr (rw (all_names (round sig body xs), all_names xs)
          (fewer xs (round sig body xs) (map variable_of (occurrences sig [] body)) n
          (λ m q. among_append m xs (first_of_each (found sig body xs)) ∙ or_left (is_among xs m) _ q)
          (rw names e) f new))

  stays : (xs : List PlainImplicit) → found sig body xs ≡ [] → round sig body xs ≡ xs
  stays xs e = rw e (append-nil xs)

  none_left : (os : List Occurrence) (xs : List PlainImplicit) → length (filter (is_open xs) os) ≡ 0 → given_by xs os ≡ []
  none_left os xs e = by_list (filter (is_open xs) os) e
    where
      by_list : (ps : List Occurrence) → length ps ≡ 0 → filter_map determined_by ps ≡ []
      by_list [] e = refl
      by_list (p ∷ ps) e = absurd (omega (arith, e))

  -- After so many rounds nothing is found, or so many occurrences are left out.
  after : (k : ℕ) → (found sig body (after_rounds sig body k) ≡ []) ⊎ (left (after_rounds sig body k) + k ≤ length (occurrences sig [] body))
  after zero = inr (let all : left [] ≡ length (occurrences sig [] body) = ap length (all_open (occurrences sig [] body)) in omega (arith, all))
    where
      all_open : (os : List Occurrence) → filter (is_open []) os ≡ os
      all_open [] = refl
      all_open (o ∷ os) = ap (λ ps. o ∷ ps) (all_open os)
  after (suc k) = by_part (after k) (each_round (after_rounds sig body k))
    where
      by_part : (found sig body (after_rounds sig body k) ≡ []) ⊎ (left (after_rounds sig body k) + k ≤ length (occurrences sig [] body)) → (found sig body (after_rounds sig body k) ≡ []) ⊎ (left (after_rounds sig body (suc k)) < left (after_rounds sig body k))
          → (found sig body (after_rounds sig body (suc k)) ≡ []) ⊎ (left (after_rounds sig body (suc k)) + suc k ≤ length (occurrences sig [] body))
      by_part (inl e) r = inl (rw (stays (after_rounds sig body k) e) e)
      by_part (inr e) (inl f) = inl (rw (stays (after_rounds sig body k) f) f)
      by_part (inr e) (inr f) = inr (omega (arith, e, f))

  pub closed : found sig body (determined sig body) ≡ []
  closed = by_part (after (length (occurrences sig [] body)))
    where
      by_part : (found sig body (determined sig body) ≡ []) ⊎ (left (determined sig body) + length (occurrences sig [] body) ≤ length (occurrences sig [] body)) → found sig body (determined sig body) ≡ []
      by_part (inl e) = e
      by_part (inr e) = none_left (occurrences sig (determined sig body) body) (determined sig body) (omega (arith, e))

  goes_no_further : (k j : ℕ) → found sig body (after_rounds sig body k) ≡ [] → after_rounds sig body (k + j) ≡ after_rounds sig body k
  goes_no_further k zero e = let same : k + 0 ≡ k = omega arith in rw same refl
  goes_no_further k (suc j) e =
      let next : k + suc j ≡ suc (k + j) = omega arith in
      let before : after_rounds sig body (k + j) ≡ after_rounds sig body k = goes_no_further k j e in
      rw (next, before) (stays (after_rounds sig body k) e)

  pub reached : (k : ℕ) → found sig body (after_rounds sig body k) ≡ [] → after_rounds sig body k ≡ determined sig body
  reached k e = by_order (length (occurrences sig [] body)) refl
    where
      by_order : (n : ℕ) → n ≡ length (occurrences sig [] body) → after_rounds sig body k ≡ determined sig body
      by_order n q =
          let more : k + (n - k) ≡ n + (k - n) = omega arith in
          let end : found sig body (after_rounds sig body n) ≡ [] = rw q closed in
          sym (goes_no_further k (n - k) e) ∙ ap (after_rounds sig body) more ∙ goes_no_further n (k - n) end ∙ ap (after_rounds sig body) q

pub least_closed : (sig : PlainSignature) (body : DesugaredBody) → LeastClosed sig body
least_closed sig body = record {
  closed = closed sig body;
  least = λ xs e name a. least sig body xs e (length (occurrences sig [] body)) name a;
  reached = reached sig body;
}
