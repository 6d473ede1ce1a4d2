-- Lists of additions that grow at the end.
use Rattle.std.specs.Prelude.{ℕ, zero, suc, ◌≡◌, nat_eq, if◌then◌else◌, Bool, true, false, List, [], ◌∷◌, ◌++◌, Option, Some, None, refl}
use Rattle.std.proofs.Common.{ap, sym, subst, ◌∙◌, arith, append_assoc}
use Rattle.std.proofs.lemmas.List.{append-nil}
use Rattle.std.specs.List.{slice_get}
use Rattle.clf_syntax.specs.Tree.{PlainObject}
use Rattle.clf_syntax.specs.TypeTree.{SimpleType}
use Rattle.store_laws.specs.Additions.{Addition, new, solved, meta_types, set, given}

-- What holds of the empty list and is kept where a list grows holds of each list.
pub by_end : {X : Type 0} (P : List X → Type 0) → P [] → ((xs : List X) (x : X) → P xs → P (xs ++ x ∷ [])) → (xs : List X) → P xs
by_end P none more xs = go xs [] none
  where
    go : (rest past : List _) → P past → P (past ++ rest)
    go [] past p = subst P (sym (append-nil past)) p
    go (x ∷ rest) past p = subst P (append_assoc past (x ∷ []) rest) (go rest (past ++ x ∷ []) (more past x p))

pub types-append : (xs ys : List Addition) → meta_types (xs ++ ys) ≡ meta_types xs ++ meta_types ys
types-append [] ys = refl
types-append (new t ∷ xs) ys = ap (λ l. t ∷ l) (types-append xs ys)
types-append (solved m o ∷ xs) ys = types-append xs ys

pub given-new : (zs : List Addition) (t : SimpleType) (m : ℕ) → given (zs ++ new t ∷ []) m ≡ given zs m
given-new [] t m = refl
given-new (new u ∷ zs) t m = given-new zs t m
given-new (solved k o ∷ zs) t m = ap (λ x. if nat_eq m k then Some o else x) (given-new zs t m)

both_numbers : (m j k : ℕ) → nat_eq m j ≡ true → nat_eq m k ≡ true → nat_eq k j ≡ true
both_numbers m j k e f = grind arith

pub given-solved : (zs : List Addition) (k : ℕ) (o : PlainObject) → given zs k ≡ None → (m : ℕ) → given (zs ++ solved k o ∷ []) m ≡ set k o (given zs) m
given-solved [] k o e m = refl
given-solved (new u ∷ zs) k o e m = given-solved zs k o e m
given-solved (solved j u ∷ zs) k o e m = by (nat_eq m j) (nat_eq m k) refl refl (λ f. given-solved zs k o f m)
  where
    unsolved : (b : Bool) → nat_eq k j ≡ b → (if b then Some u else given zs k) ≡ None → (b ≡ false) × (given zs k ≡ None)
    unsolved true f g = absurd (cc)
    unsolved false f g = (refl, g)

    free : (nat_eq k j ≡ false) × (given zs k ≡ None)
    free = let (f, g) = unsolved (nat_eq k j) refl e in (f, g)

    by : (a b : Bool) → nat_eq m j ≡ a → nat_eq m k ≡ b → (given zs k ≡ None → given (zs ++ solved k o ∷ []) m ≡ set k o (given zs) m)
        → (if a then Some u else given (zs ++ solved k o ∷ []) m) ≡ (if b then Some o else (if a then Some u else given zs m))
    by true true f g h = absurd (cc (free.0, both_numbers m j k f g))
    by true false f g h = refl
    by false b f g h = h free.1 ∙ ap (λ c. if c then Some o else given zs m) g
