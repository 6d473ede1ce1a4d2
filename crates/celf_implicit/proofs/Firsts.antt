-- What has been noted one after the other is what a round adds.
use Rattle.std.specs.Prelude.{ℕ, ◌≡◌, Bool, true, false, nat_lt, List, [], ◌∷◌, ◌++◌, map, Option, Some, None, refl}
use Rattle.std.specs.List.{fold, filter, find, filter_map, cons_option}
use Rattle.std.proofs.Common.{ap, sym, ◌∙◌, append-nil, append_assoc}
use Rattle.celf_sugar.specs.Earliest.{sooner, earliest}
use Rattle.celf_sugar.proofs.EarliestLaws.{sooner_assoc}
use Rattle.celf_implicit.specs.declared.variable.Variable.{Variable}
use Rattle.celf_implicit.specs.Variables.{PlainImplicit, has_name, is_among}
use Rattle.celf_implicit.specs.Occurrences.{Occurrence}
use Rattle.celf_implicit.specs.Rounds.{start, begins, standing, determined_by, is_open, is_other, first_of_each}
use Rattle.celf_implicit.specs.Noting.{PlainNotes, nothing_noted, with_one, note, note_open, noted}
use Rattle.celf_implicit.proofs.Names.{same_name, name_same, first_named}

-- ---- the first one of a name, and the others, with one more

pub find_same : (z : PlainImplicit) (xs : List PlainImplicit) → find (has_name z.name) (with_one xs z) ≡ sooner start (find (has_name z.name) xs) (Some z)
find_same z [] = rw (name_same z.name) refl
find_same z (w ∷ ws) = by_test (find_same z ws) (has_name z.name w) (nat_lt z.start w.start) refl refl
  where
    by_test : find (has_name z.name) (with_one ws z) ≡ sooner start (find (has_name z.name) ws) (Some z) → (b c : Bool) → has_name z.name w ≡ b → nat_lt z.start w.start ≡ c → find (has_name z.name) (with_one (w ∷ ws) z) ≡ sooner start (find (has_name z.name) (w ∷ ws)) (Some z)
    by_test same true true p q = rw (p, q, name_same z.name) refl
    by_test same true false p q = rw (p, q, p) refl
    by_test same false c p q = rw (p, p) same

-- a name that is not that of z
pub find_other : (n : List ℕ) (z : PlainImplicit) → has_name n z ≡ false → (xs : List PlainImplicit) → find (has_name n) (with_one xs z) ≡ find (has_name n) xs
find_other n z e [] = rw e refl
find_other n z e (w ∷ ws) = by_test (find_other n z e ws) (has_name z.name w) (nat_lt z.start w.start) (has_name n w) refl refl refl
  where
    other : has_name z.name w ≡ true → has_name n w ≡ false
    other p = let same : z.name ≡ w.name = same_name z.name w.name p in rw (← same) e

    by_test : find (has_name n) (with_one ws z) ≡ find (has_name n) ws → (b c d : Bool) → has_name z.name w ≡ b → nat_lt z.start w.start ≡ c → has_name n w ≡ d → find (has_name n) (with_one (w ∷ ws) z) ≡ find (has_name n) (w ∷ ws)
    by_test same true true d p q r = rw (p, q, e, other p) refl
    by_test same true false d p q r = rw (p, q) refl
    by_test same false c true p q r = rw (p, r) refl
    by_test same false c false p q r = rw (p, r) same

-- among the variables of other names than that of y
others_same : (y z : PlainImplicit) → has_name y.name z ≡ true → (xs : List PlainImplicit) → filter (is_other y) (with_one xs z) ≡ filter (is_other y) xs
others_same y z e [] = rw e refl
others_same y z e (w ∷ ws) = by_test (others_same y z e ws) (has_name z.name w) (nat_lt z.start w.start) (has_name y.name w) refl refl refl
  where
    too : has_name z.name w ≡ true → has_name y.name w ≡ true
    too p = let same : z.name ≡ w.name = same_name z.name w.name p in rw (← same) e

    by_test : filter (is_other y) (with_one ws z) ≡ filter (is_other y) ws → (b c d : Bool) → has_name z.name w ≡ b → nat_lt z.start w.start ≡ c → has_name y.name w ≡ d → filter (is_other y) (with_one (w ∷ ws) z) ≡ filter (is_other y) (w ∷ ws)
    by_test same true true d p q r = rw (p, q, e, too p) refl
    by_test same true false d p q r = rw (p, q) refl
    by_test same false c true p q r = rw (p, r) same
    by_test same false c false p q r = rw (p, r) (ap (λ xs. w ∷ xs) same)

others_other : (y z : PlainImplicit) → has_name y.name z ≡ false → (xs : List PlainImplicit) → filter (is_other y) (with_one xs z) ≡ with_one (filter (is_other y) xs) z
others_other y z e [] = rw e refl
others_other y z e (w ∷ ws) = by_test (others_other y z e ws) (has_name z.name w) (nat_lt z.start w.start) (has_name y.name w) refl refl refl
  where
    not_too : has_name z.name w ≡ true → has_name y.name w ≡ false
    not_too p = let same : z.name ≡ w.name = same_name z.name w.name p in rw (← same) e

    by_test : filter (is_other y) (with_one ws z) ≡ with_one (filter (is_other y) ws) z → (b c d : Bool) → has_name z.name w ≡ b → nat_lt z.start w.start ≡ c → has_name y.name w ≡ d → filter (is_other y) (with_one (w ∷ ws) z) ≡ with_one (filter (is_other y) (w ∷ ws)) z
    by_test same true true d p q r = rw (p, q, e, not_too p, p, q) refl
    by_test same true false d p q r = rw (p, q, not_too p, p, q) refl
    by_test same false c true p q r = rw (p, r) same
    by_test same false c false p q r = rw (p, r, p) (ap (λ xs. w ∷ xs) same)

-- The first ones, with one occurrence more.
firsts_last : (xs : List PlainImplicit) (z : PlainImplicit) → first_of_each (xs ++ z ∷ []) ≡ with_one (first_of_each xs) z
firsts_last [] z = refl
firsts_last (y ∷ ys) z = rw (firsts_last ys z) (by_test (has_name y.name z) refl)
  where
    u : (u : PlainImplicit) × (sooner start (Some y) (find (has_name y.name) (first_of_each ys)) ≡ Some u) × (has_name y.name u ≡ true)
    u = first_named y (first_of_each ys)

    by_start : (b : Bool) (rest : List PlainImplicit) → nat_lt z.start u.0.start ≡ b → has_name z.name u.0 ≡ true → cons_option (sooner start (Some u.0) (Some z)) rest ≡ with_one (u.0 ∷ rest) z
    by_start true rest q h = rw (q, h) refl
    by_start false rest q h = rw (q, h) refl

    by_test : (b : Bool) → has_name y.name z ≡ b
        → cons_option (sooner start (Some y) (find (has_name y.name) (with_one (first_of_each ys) z))) (filter (is_other y) (with_one (first_of_each ys) z))
        ≡ with_one (cons_option (sooner start (Some y) (find (has_name y.name) (first_of_each ys))) (filter (is_other y) (first_of_each ys))) z
    by_test true q =
        let same : y.name ≡ z.name = same_name y.name z.name q in
        let of_u : y.name ≡ u.0.name = same_name y.name u.0.name u.2 in
        let here : has_name z.name u.0 ≡ true = rw (← same, ← of_u) (name_same y.name) in
        let found : find (has_name y.name) (with_one (first_of_each ys) z) ≡ sooner start (find (has_name y.name) (first_of_each ys)) (Some z) = rw same (find_same z (first_of_each ys)) in
        rw (found, others_same y z q (first_of_each ys), ← sooner_assoc start (Some y) (find (has_name y.name) (first_of_each ys)) (Some z), u.1) (by_start _ (filter (is_other y) (first_of_each ys)) refl here)
    by_test false q =
        let of_u : y.name ≡ u.0.name = same_name y.name u.0.name u.2 in
        rw (find_other y.name z q (first_of_each ys), others_other y z q (first_of_each ys), u.1) (by_name of_u (has_name z.name u.0) refl)
      where
        by_name : y.name ≡ u.0.name → (b : Bool) → has_name z.name u.0 ≡ b → u.0 ∷ with_one (filter (is_other y) (first_of_each ys)) z ≡ with_one (u.0 ∷ filter (is_other y) (first_of_each ys)) z
        by_name s true h =
            let same : z.name ≡ u.0.name = same_name z.name u.0.name h in
            let never : true ≡ false = sym (rw (s ∙ sym same) (name_same z.name)) ∙ q in
            absurd (cc)
        by_name s false h = rw h refl

folded : (ys xs : List PlainImplicit) → fold with_one (first_of_each ys) xs ≡ first_of_each (ys ++ xs)
folded ys [] = rw (append-nil ys) refl
folded ys (x ∷ xs) = rw (← firsts_last ys x) (folded (ys ++ x ∷ []) xs ∙ ap first_of_each (append_assoc ys (x ∷ []) xs))

-- ---- notes

module _ (xs : List PlainImplicit) where
  is_noted : (ns : PlainNotes) (o : Occurrence) → is_among xs o.name.name ≡ false → note xs ns o ≡ note_open ns o
  is_noted ns o p = rw p refl

  is_passed : (ns : PlainNotes) (o : Occurrence) → is_among xs o.name.name ≡ true → note xs ns o ≡ ns
  is_passed ns o p = rw p refl

  abbrev given : List Occurrence → List PlainImplicit
  given os = filter_map determined_by (filter (is_open xs) os)

  noted_determined : (ns : PlainNotes) (os : List Occurrence) → (noted xs ns os).determined ≡ fold with_one ns.determined (given os)
  noted_determined ns [] = refl
  noted_determined ns (o ∷ os) = by_test (λ ms. noted_determined ms os) (is_among xs o.name.name) (determined_by o) refl refl
    where
      by_test : ((ms : PlainNotes) → (noted xs ms os).determined ≡ fold with_one ms.determined (given os)) → (b : Bool) (d : Option PlainImplicit) → is_among xs o.name.name ≡ b → determined_by o ≡ d
          → (noted xs (note xs ns o) os).determined ≡ fold with_one ns.determined (given (o ∷ os))
      by_test further true d p q =
          let same : fold with_one ns.determined (given os) ≡ fold with_one ns.determined (given (o ∷ os)) = rw p refl in
          ap (λ m. (noted xs m os).determined) (is_passed ns o p) ∙ further ns ∙ same
      by_test further false None p q =
          let same : fold with_one (note_open ns o).determined (given os) ≡ fold with_one ns.determined (given (o ∷ os)) = rw (p, q) refl in
          ap (λ m. (noted xs m os).determined) (is_noted ns o p) ∙ further (note_open ns o) ∙ same
      by_test further false (Some x) p q =
          let same : fold with_one (note_open ns o).determined (given os) ≡ fold with_one ns.determined (given (o ∷ os)) = rw (p, q) refl in
          ap (λ m. (noted xs m os).determined) (is_noted ns o p) ∙ further (note_open ns o) ∙ same

  none_first : (v : Option Variable) → v ≡ sooner begins v None
  none_first None = refl
  none_first (Some v) = refl

  abbrev first_open : List Occurrence → Option Variable
  first_open os = earliest begins (map standing (filter (is_open xs) os))

  noted_open : (ns : PlainNotes) (os : List Occurrence) → (noted xs ns os).open_one ≡ sooner begins ns.open_one (first_open os)
  noted_open ns [] = none_first ns.open_one
  noted_open ns (o ∷ os) = by_test (λ ms. noted_open ms os) (is_among xs o.name.name) refl
    where
      by_test : ((ms : PlainNotes) → (noted xs ms os).open_one ≡ sooner begins ms.open_one (first_open os)) → (b : Bool) → is_among xs o.name.name ≡ b
          → (noted xs (note xs ns o) os).open_one ≡ sooner begins ns.open_one (first_open (o ∷ os))
      by_test further true p =
          let same : sooner begins ns.open_one (first_open os) ≡ sooner begins ns.open_one (first_open (o ∷ os)) = rw p refl in
          ap (λ m. (noted xs m os).open_one) (is_passed ns o p) ∙ further ns ∙ same
      by_test further false p =
          let same : sooner begins ns.open_one (sooner begins (Some (standing o)) (first_open os)) ≡ sooner begins ns.open_one (first_open (o ∷ os)) = rw p refl in
          ap (λ m. (noted xs m os).open_one) (is_noted ns o p) ∙ further (note_open ns o) ∙ sooner_assoc begins ns.open_one (Some (standing o)) (first_open os) ∙ same

  -- what has been noted of all occurrences
  pub noted_firsts : (os : List Occurrence) → (noted xs nothing_noted os).determined ≡ first_of_each (filter_map determined_by (filter (is_open xs) os))
  noted_firsts os = noted_determined nothing_noted os ∙ folded [] (given os)

  pub noted_first : (os : List Occurrence) → (noted xs nothing_noted os).open_one ≡ earliest begins (map standing (filter (is_open xs) os))
  noted_first os = noted_open nothing_noted os
