-- Where determined variables first appear, and their order.
use Rattle.std.specs.Prelude.{ℕ, zero, suc, ◌+◌, ◌≡◌, ◌≢◌, ◌<◌, ◌||◌, ◌⊎◌, Bool, true, false, nat_lt, List, [], ◌∷◌, map, length, Option, Some, None, option_map, slice_get, AllPairs, refl}
use Rattle.std.specs.List.{All, fold, filter, find, list_any}
use Rattle.std.proofs.Common.{ap, sym, ◌∙◌, arith, get_or, eqb, inl, inr, subst}
use Rattle.std.proofs.lemmas.Bool.Decides.{Decides-eqb, nat_tests}
use Rattle.std.proofs.lemmas.List.{get_or-map, length-map}
use Rattle.std.proofs.lemmas.List.Sorted.{All-permutation, Contains-permutation, IsPermutation-map}
use Rattle.std.proofs.lemmas.Map.Keys.{IsDistinct-IsPermutation}
use Rattle.std.proofs.lemmas.Map.Made.{AllPairs-from_IsDistinct, IsDistinct-from_AllPairs}
use Rattle.clf_syntax.specs.Word.{same_bytes}
use Rattle.clf_sig.specs.Entry.{PlainSignature}
use Rattle.celf_sugar.specs.Earliest.{sooner, earliest}
use Rattle.celf_sugar.specs.PlainTree.{DesugaredBody}
use Rattle.celf_sugar.proofs.EarliestLaws.{sooner_assoc}
use Rattle.celf_implicit.specs.declared.appearance.First.{First}
use Rattle.celf_implicit.specs.declared.variable.Implicit.{Implicit}
use Rattle.celf_implicit.specs.Variables.{PlainImplicit, has_name, is_among}
use Rattle.celf_implicit.specs.Occurrences.{Occurrence, occurrences}
use Rattle.celf_implicit.specs.Rounds.{start, determined_by, is_open, found, first_of_each, after_rounds, determined}
use Rattle.celf_implicit.specs.Answers.{plain_implicit, AreAll}
use Rattle.celf_implicit.specs.Appearance.{is_of, byte, first_byte_of, IsByAppearance}
use Rattle.celf_implicit.specs.FirstBytes.{byte_in, bytes_in, numbered, AreByBytes}
use Rattle.celf_implicit.specs.Noting.{PlainNotes, nothing_noted, with_one, appearing, note_open, noted}
use Rattle.celf_implicit.proofs.Names.{same_name, name_same, among_append, firsts_among}
use Rattle.celf_implicit.proofs.Firsts.{find_same, find_other}
use Rattle.celf_implicit.proofs.Wider.{below}
use Rattle.celf_implicit.proofs.RoundLaws.{variable_of, given_by, determining, names_below, or_split}

-- ---- what has been noted of first appearances

abbrev appears : Occurrence → PlainImplicit
appears o = appearing o.name

noted_appeared : (ns : PlainNotes) (os : List Occurrence) → (noted [] ns os).appeared ≡ fold with_one ns.appeared (map appears os)
noted_appeared ns [] = refl
noted_appeared ns (o ∷ os) = noted_appeared (note_open ns o) os

none_later : (y : Option PlainImplicit) → y ≡ sooner start y None
none_later None = refl
none_later (Some y) = refl

-- of the name n the earliest stands there
earliest_there : (n : List ℕ) (ys xs : List PlainImplicit) → find (has_name n) (fold with_one ys xs) ≡ sooner start (find (has_name n) ys) (earliest start (filter (has_name n) xs))
earliest_there n ys [] = none_later (find (has_name n) ys)
earliest_there n ys (x ∷ xs) = earliest_there n (with_one ys x) xs ∙ by_test (has_name n x) refl
  where
    by_test : (b : Bool) → has_name n x ≡ b → sooner start (find (has_name n) (with_one ys x)) (earliest start (filter (has_name n) xs)) ≡ sooner start (find (has_name n) ys) (earliest start (filter (has_name n) (x ∷ xs)))
    by_test true q =
        let same : n ≡ x.name = same_name n x.name q in
        let here : find (has_name n) (with_one ys x) ≡ sooner start (find (has_name n) ys) (Some x) = rw same (find_same x ys) in
        rw (q, here) (sooner_assoc start (find (has_name n) ys) (Some x) (earliest start (filter (has_name n) xs)))
    by_test false q = rw (q, find_other n x q ys) refl

sooner_appears : (o : Occurrence) (p : Option Occurrence) → sooner start (Some (appears o)) (option_map appears p) ≡ option_map appears (sooner byte (Some o) p)
sooner_appears o None = refl
sooner_appears o (Some p) = by_test (nat_lt (byte p) (byte o)) refl
  where
    by_test : (b : Bool) → nat_lt (byte p) (byte o) ≡ b → sooner start (Some (appears o)) (Some (appears p)) ≡ option_map appears (sooner byte (Some o) (Some p))
    by_test true q = rw q refl
    by_test false q = rw q refl

earliest_appears : (n : List ℕ) (os : List Occurrence) → earliest start (filter (has_name n) (map appears os)) ≡ option_map appears (earliest byte (filter (is_of n) os))
earliest_appears n [] = refl
earliest_appears n (o ∷ os) = by_test (earliest_appears n os) (same_bytes n (variable_of o)) refl
  where
    by_test : earliest start (filter (has_name n) (map appears os)) ≡ option_map appears (earliest byte (filter (is_of n) os)) → (b : Bool) → same_bytes n (variable_of o) ≡ b
        → earliest start (filter (has_name n) (map appears (o ∷ os))) ≡ option_map appears (earliest byte (filter (is_of n) (o ∷ os)))
    by_test there true q = rw (q, there) (sooner_appears o (earliest byte (filter (is_of n) os)))
    by_test there false q = rw q there

noted_first_of : (n : List ℕ) (os : List Occurrence) → find (has_name n) (noted [] nothing_noted os).appeared ≡ option_map appears (earliest byte (filter (is_of n) os))
noted_first_of n os = ap (find (has_name n)) (noted_appeared nothing_noted os) ∙ earliest_there n [] (map appears os) ∙ none_before (earliest start (filter (has_name n) (map appears os))) ∙ earliest_appears n os
  where
    none_before : (y : Option PlainImplicit) → sooner start None y ≡ y
    none_before y = refl

-- ---- a determined variable has an occurrence

stands_among : (xs : List PlainImplicit) (os : List Occurrence) (n : List ℕ) → is_among (given_by xs os) n ≡ true → list_any (same_bytes n) (map variable_of os) ≡ true
stands_among xs [] n a = absurd (cc)
stands_among xs (o ∷ os) n a = by_test (stands_among xs os n) (is_open xs o) (determined_by o) refl refl
  where
    or_right : (b : Bool) → list_any (same_bytes n) (map variable_of os) ≡ true → (b || list_any (same_bytes n) (map variable_of os)) ≡ true
    or_right true e = refl
    or_right false e = e

    by_name : (is_among (given_by xs os) n ≡ true → list_any (same_bytes n) (map variable_of os) ≡ true) → (x : PlainImplicit) → determined_by o ≡ Some x → (b : Bool) → has_name n x ≡ b → (has_name n x || is_among (given_by xs os) n) ≡ true
        → list_any (same_bytes n) (map variable_of (o ∷ os)) ≡ true
    by_name further x d true q w = let here : same_bytes n (variable_of o) ≡ true = rw (determining o x d).0 at q in rw here refl
    by_name further x d false q w = let there : is_among (given_by xs os) n ≡ true = rw q at w in or_right (same_bytes n (variable_of o)) (further there)

    by_test : (is_among (given_by xs os) n ≡ true → list_any (same_bytes n) (map variable_of os) ≡ true) → (b : Bool) (d : Option PlainImplicit) → is_open xs o ≡ b → determined_by o ≡ d → list_any (same_bytes n) (map variable_of (o ∷ os)) ≡ true
    by_test further false d q r = let there : is_among (given_by xs os) n ≡ true = rw q at a in or_right (same_bytes n (variable_of o)) (further there)
    by_test further true None q r = let there : is_among (given_by xs os) n ≡ true = rw (q, r) at a in or_right (same_bytes n (variable_of o)) (further there)
    by_test further true (Some x) q r = let there : (has_name n x || is_among (given_by xs os) n) ≡ true = rw (q, r) at a in by_name further x r (has_name n x) refl there

some_earliest : (n : List ℕ) (os : List Occurrence) → list_any (same_bytes n) (map variable_of os) ≡ true → (o : Occurrence) × (earliest byte (filter (is_of n) os) ≡ Some o)
some_earliest n [] a = absurd (cc)
some_earliest n (o ∷ os) a = by_test (some_earliest n os) (same_bytes n (variable_of o)) refl
  where
    sooner_some : (p : Option Occurrence) → (q : Occurrence) × (sooner byte (Some o) p ≡ Some q)
    sooner_some None = (o, refl)
    sooner_some (Some p) = by_order (nat_lt (byte p) (byte o)) refl
      where
        by_order : (b : Bool) → nat_lt (byte p) (byte o) ≡ b → (q : Occurrence) × (sooner byte (Some o) (Some p) ≡ Some q)
        by_order true q = (p, rw q refl)
        by_order false q = (o, rw q refl)

    by_test : (list_any (same_bytes n) (map variable_of os) ≡ true → (p : Occurrence) × (earliest byte (filter (is_of n) os) ≡ Some p)) → (b : Bool) → same_bytes n (variable_of o) ≡ b → (p : Occurrence) × (earliest byte (filter (is_of n) (o ∷ os)) ≡ Some p)
    by_test further true q = let s : (p : Occurrence) × (sooner byte (Some o) (earliest byte (filter (is_of n) os)) ≡ Some p) = sooner_some (earliest byte (filter (is_of n) os)) in (s.0, rw q s.1)
    by_test further false q = let p : (p : Occurrence) × (earliest byte (filter (is_of n) os) ≡ Some p) = further (rw q at a) in (p.0, rw q p.1)

module _ (sig : PlainSignature) (body : DesugaredBody) where
  stands : (k : ℕ) (n : List ℕ) → is_among (after_rounds sig body k) n ≡ true → list_any (same_bytes n) (map variable_of (occurrences sig [] body)) ≡ true
  stands zero n a = absurd (cc)
  stands (suc k) n a =
      let xs = after_rounds sig body k in
      let parts : (is_among xs n || is_among (first_of_each (found sig body xs)) n) ≡ true = rw (among_append n xs (first_of_each (found sig body xs))) at a in
      by_part (stands k n) (or_split _ _ parts)
    where
      by_part : (is_among (after_rounds sig body k) n ≡ true → list_any (same_bytes n) (map variable_of (occurrences sig [] body)) ≡ true)
          → (is_among (after_rounds sig body k) n ≡ true) ⊎ (is_among (first_of_each (found sig body (after_rounds sig body k))) n ≡ true) → list_any (same_bytes n) (map variable_of (occurrences sig [] body)) ≡ true
      by_part before (inl p) = before p
      by_part before (inr p) =
          let xs = after_rounds sig body k in
          let there = stands_among xs (occurrences sig xs body) n (sym (firsts_among n (found sig body xs)) ∙ p) in
          rw (names_below (occurrences sig [] body) (occurrences sig xs body) (below sig [] xs (λ m e. absurd (cc)) body)) there

  among_itself : (xs : List PlainImplicit) (i : ℕ) (x : PlainImplicit) → slice_get xs i ≡ Some x → is_among xs x.name ≡ true
  among_itself [] i x e = absurd (cc)
  among_itself (y ∷ ys) zero x e = let same : y ≡ x = cc in rw (same, name_same x.name) refl
  among_itself (y ∷ ys) (suc i) x e = or_true (has_name x.name y) (among_itself ys i x e)
    where
      or_true : (b : Bool) → is_among ys x.name ≡ true → (b || is_among ys x.name) ≡ true
      or_true true a = refl
      or_true false a = a

  -- each variable that is determined has the byte that has been noted of it
  noted_byte : (i : ℕ) (x : PlainImplicit) (appeared : List PlainImplicit) → slice_get (determined sig body) i ≡ Some x → appeared ≡ (noted [] nothing_noted (occurrences sig [] body)).appeared
      → first_byte_of sig body i ≡ Some (byte_in appeared x.name)
  noted_byte i x appeared at all =
      let os = occurrences sig [] body in
      let o : (o : Occurrence) × (earliest byte (filter (is_of x.name) os) ≡ Some o) = some_earliest x.name os (stands (length os) x.name (among_itself (determined sig body) i x at)) in
      let there : find (has_name x.name) appeared ≡ Some (appears o.0) = ap (find (has_name x.name)) all ∙ noted_first_of x.name os ∙ ap (option_map appears) o.1 in
      rw (at, o.1, there) refl

-- ---- numbers and bytes

abbrev number_of : First → ℕ
number_of f = f.number

nothing : First
nothing = record { byte = 0; number = 0 }

length_numbered : (k : ℕ) (bs : List ℕ) → length (map number_of (numbered k bs)) ≡ length bs
length_numbered k [] = refl
length_numbered k (b ∷ bs) = ap suc (length_numbered (k + 1) bs)

number_at : (k : ℕ) (bs : List ℕ) (i d : ℕ) → i < length bs → get_or (map number_of (numbered k bs)) i d ≡ k + i
number_at k [] i d l = absurd (omega (arith, l))
number_at k (b ∷ bs) zero d l = omega arith
number_at k (b ∷ bs) (suc i) d l = let there = number_at (k + 1) bs i d (omega (arith, l)) in omega (arith, there)

all_numbered : (P : First → Type 0) (k : ℕ) (bs : List ℕ) → ((i : ℕ) → i < length bs → P (record { byte = get_or bs i 0; number = k + i })) → All P (numbered k bs)
all_numbered P k [] h j d l = absurd (omega (arith, l))
all_numbered P k (b ∷ bs) h zero d l = let here : k + 0 ≡ k = omega arith in subst (λ n. P (record { byte = b; number = n })) here (h 0 (omega arith))
all_numbered P k (b ∷ bs) h (suc j) d l =
    all_numbered P (k + 1) bs (λ i m. let there : k + suc i ≡ (k + 1) + i = omega arith in subst (λ n. P (record { byte = get_or bs i 0; number = n })) there (h (suc i) (omega (arith, m)))) j d (omega (arith, l))

item_at : {X : Type 0} (f : X → ℕ) (xs : List X) (i : ℕ) → i < length xs → (x : X) × (slice_get xs i ≡ Some x) × (get_or (map f xs) i 0 ≡ f x)
item_at f [] i l = absurd (omega (arith, l))
item_at f (x ∷ xs) zero l = (x, refl, refl)
item_at f (x ∷ xs) (suc i) l = item_at f xs i (omega (arith, l))

module _ (sig : PlainSignature) (body : DesugaredBody) where
  -- the first byte of the variable with that number
  abbrev Fits : First → Type 0
  Fits f = (f.number < length (determined sig body)) × (first_byte_of sig body f.number ≡ Some f.byte)

  module _ (appeared : List PlainImplicit) (all : appeared ≡ (noted [] nothing_noted (occurrences sig [] body)).appeared) where
    abbrev bytes : List ℕ
    bytes = bytes_in appeared (determined sig body)

    as_many : length bytes ≡ length (determined sig body)
    as_many = length-map (determined sig body) (λ x. byte_in appeared x.name)

    all_fit : All Fits (numbered 0 bytes)
    all_fit = all_numbered Fits 0 bytes (λ i l.
        let within : i < length (determined sig body) = rw (← as_many) l in
        let x : (x : PlainImplicit) × (slice_get (determined sig body) i ≡ Some x) × (get_or bytes i 0 ≡ byte_in appeared x.name) = item_at (λ x. byte_in appeared x.name) (determined sig body) i within in
        let none_more : i ≡ 0 + i = omega arith in
        subst (λ n. Fits (record { byte = get_or bytes i 0; number = n })) none_more (within, noted_byte sig body i x.0 appeared x.1 all ∙ ap (λ b. Some b) (sym x.2)))

    numbers_differ : AllPairs (λ i j. i ≢ j) (map number_of (numbered 0 bytes))
    numbers_differ i j d l m e =
        let within : j < length bytes = rw (← length_numbered 0 bytes) m in
        let a = number_at 0 bytes i d (omega (arith, l, within)) in
        let b = number_at 0 bytes j d within in
        absurd (omega (arith, l, e, a, b))

    in_order : (order : List ℕ) → AreByBytes (numbered 0 bytes) order → IsByAppearance sig body (length (determined sig body)) order
    in_order order at =
        let each = All-permutation Fits (numbered 0 bytes) at.sorted at.same all_fit in
        let same = IsPermutation-map number_of (numbered 0 bytes) at.sorted at.same in
        let as_long : length order ≡ length at.sorted = ap length at.numbers ∙ length-map at.sorted number_of in
        let here : (i e : ℕ) → i < length order → get_or order i e ≡ (get_or at.sorted i nothing).number
        = λ i e l. ap (λ ns. get_or ns i e) at.numbers ∙ get_or-map number_of at.sorted i nothing e (omega (arith, l, as_long)) in record {
          numbers = λ i has. let f = each has.0 nothing (omega (arith, has.1, as_long)) in subst (λ n. n < length (determined sig body)) (sym (here has.0 i has.1) ∙ has.2) f.0;
          all = λ i l. rw at.numbers (Contains-permutation (map number_of (numbered 0 bytes)) (map number_of at.sorted) i same
              (i, omega (arith, l, as_many, length_numbered 0 bytes), number_at 0 bytes i i (omega (arith, l, as_many)) ∙ omega arith));
          once = rw at.numbers (AllPairs-from_IsDistinct Decides-eqb (map number_of at.sorted)
              (IsDistinct-IsPermutation eqb (λ x y. grind (arith, nat_tests)) (map number_of (numbered 0 bytes)) (map number_of at.sorted) same (IsDistinct-from_AllPairs Decides-eqb (map number_of (numbered 0 bytes)) numbers_differ)));
          by_bytes = λ i j d l m. record {
            one = (get_or at.sorted i nothing).byte;
            other = (get_or at.sorted j nothing).byte;
            first_one = ap (first_byte_of sig body) (here i d (omega (arith, l, m))) ∙ (each i nothing (omega (arith, l, m, as_long))).1;
            first_other = ap (first_byte_of sig body) (here j d m) ∙ (each j nothing (omega (arith, m, as_long))).1;
            before = at.rising i j nothing (omega (arith, l)) (omega (arith, m, as_long));
          };
        }

  pub order_is : (variables : List Implicit) (appeared : List PlainImplicit) (firsts : List First) (order : List ℕ) → AreAll sig body variables → appeared ≡ (noted [] nothing_noted (occurrences sig [] body)).appeared
      → firsts ≡ numbered 0 (bytes_in appeared (map plain_implicit variables)) → AreByBytes firsts order → IsByAppearance sig body (length variables) order
  order_is variables appeared firsts order given all numbered_so at =
      let whole : firsts ≡ numbered 0 (bytes_in appeared (determined sig body)) = numbered_so ∙ ap (λ xs. numbered 0 (bytes_in appeared xs)) given.found in
      let count : length (determined sig body) ≡ length variables = ap length (sym given.found) ∙ length-map variables plain_implicit in
      subst (λ n. IsByAppearance sig body n order) count (in_order appeared all order (subst (λ fs. AreByBytes fs order) whole at))
