-- Rows for arguments, entry by entry from the oldest on, and how long rows are.
use Rattle.std.proofs.Common.{◌≡◌, ℕ, suc, ◌<◌, Bool, true, false, not, ◌&&◌, if◌then◌else◌, List, [], ◌∷◌, ◌++◌, length, map, reverse, drop, slice_get, Option, None, Some, option_map, MatchOption, ap, ◌∙◌, sym, refl, arith}
use Rattle.std.proofs.lemmas.List.{reverse-append, reverse-reverse, map-append}
use Rattle.clf_syntax.specs.declared.tree.Mode.{Mode}
use Rattle.clf_syntax.specs.declared.tree.TeleEntry.{TeleEntry}
use Rattle.clf_syntax.specs.PlainTypes.{plain_tele_entry}
use Rattle.hered_subst.proofs.Renamed.{length_map}
use Rattle.use_contexts.specs.Context.{Context, modes}
use Rattle.use_contexts.specs.Holding.{Holding, is_linear, is_persistent, persistent_alone, without_linear}
use Rattle.use_contexts.specs.Rows.{linear_of, left_in_both, differs, newest_difference, older}
use Rattle.use_contexts.proofs.Lookups.{drop_at}

-- a newer mark stands in front
marked : (held : List Bool) (b : Bool) → reverse (held ++ b ∷ []) ≡ b ∷ reverse held
marked held b = reverse-append held (b ∷ [])

pub persistent_more : (ms : List Mode) (i j : ℕ) (m : Mode) (held : List Bool) (b : Bool) → j ≡ suc i → slice_get ms i ≡ Some m → b ≡ is_persistent m
    → reverse held ≡ persistent_alone (drop j ms) → reverse (held ++ b ∷ []) ≡ persistent_alone (drop i ms)
persistent_more ms i j m held b k p e h = marked held b ∙ ap (λ x. x ∷ reverse held) e ∙ ap (λ l. is_persistent m ∷ l) (h ∙ ap (λ n. persistent_alone (drop n ms)) k) ∙ ap persistent_alone (sym (drop_at ms i m p))

pub without_more : (ms : List Mode) (hs : Holding) (i j : ℕ) (m : Mode) (x : Bool) (held : List Bool) (b : Bool) → j ≡ suc i → slice_get ms i ≡ Some m → slice_get hs i ≡ Some x
    → b ≡ (not (is_linear m) && x) → reverse held ≡ without_linear (drop j ms) (drop j hs)
    → reverse (held ++ b ∷ []) ≡ without_linear (drop i ms) (drop i hs)
without_more ms hs i j m x held b k p q e h = rw (drop_at ms i m p, drop_at hs i x q)
    (marked held b ∙ ap (λ y. y ∷ reverse held) e ∙ ap (λ l. (not (is_linear m) && x) ∷ l) (h ∙ ap (λ n. without_linear (drop n ms) (drop n hs)) k))

pub linear_more : (ms : List Mode) (hs ks : Holding) (i j : ℕ) (m : Mode) (x y : Bool) (held : List Bool) (b : Bool) → j ≡ suc i → slice_get ms i ≡ Some m → slice_get hs i ≡ Some x → slice_get ks i ≡ Some y
    → b ≡ (if is_linear m then x else y) → reverse held ≡ linear_of (drop j ms) (drop j hs) (drop j ks)
    → reverse (held ++ b ∷ []) ≡ linear_of (drop i ms) (drop i hs) (drop i ks)
linear_more ms hs ks i j m x y held b k p q r e h = rw (drop_at ms i m p, drop_at hs i x q, drop_at ks i y r)
    (marked held b ∙ ap (λ z. z ∷ reverse held) e ∙ ap (λ l. (if is_linear m then x else y) ∷ l) (h ∙ ap (λ n. linear_of (drop n ms) (drop n hs) (drop n ks)) k))

-- ---- lengths
pub length_modes : (g : Context) → length (modes g) ≡ length g
length_modes g = length_map _ g

pub length_persistent : (g : Context) → length (persistent_alone (modes g)) ≡ length g
length_persistent g = length_map is_persistent (modes g) ∙ length_modes g

length_without : (ms : List Mode) (hs : Holding) → length hs ≡ length ms → length (without_linear ms hs) ≡ length ms
length_without [] hs e = refl
length_without (m ∷ ms) [] e = cc
length_without (m ∷ ms) (h ∷ hs) e = ap suc (length_without ms hs (omega (arith, e)))

pub length_allowed : (g : Context) (hs : Holding) → length hs ≡ length g → length (without_linear (modes g) hs) ≡ length g
length_allowed g hs e = length_without (modes g) hs (e ∙ sym (length_modes g)) ∙ length_modes g

length_linear : (ms : List Mode) (hs ks : Holding) → length hs ≡ length ms → length ks ≡ length ms → length (linear_of ms hs ks) ≡ length ms
length_linear [] hs ks e f = refl
length_linear (m ∷ ms) [] ks e f = cc
length_linear (m ∷ ms) (h ∷ hs) [] e f = cc
length_linear (m ∷ ms) (h ∷ hs) (k ∷ ks) e f = ap suc (length_linear ms hs ks (omega (arith, e)) (omega (arith, f)))

pub length_outside : (g : Context) (hs ks : Holding) → length hs ≡ length g → length ks ≡ length g → length (linear_of (modes g) hs ks) ≡ length g
length_outside g hs ks e f = length_linear (modes g) hs ks (e ∙ sym (length_modes g)) (f ∙ sym (length_modes g)) ∙ length_modes g

pub length_in_both : (hs ks : Holding) → length hs ≡ length ks → length (left_in_both hs ks) ≡ length hs
length_in_both [] ks e = refl
length_in_both (h ∷ hs) [] e = cc
length_in_both (h ∷ hs) (k ∷ ks) e = ap suc (length_in_both hs ks (omega (arith, e)))

pub length_later : (hs : Holding) (n : ℕ) → length hs ≡ suc n → length (older hs) ≡ n
length_later [] n e = cc
length_later (h ∷ hs) n e = omega (arith, e)

-- ---- the newest difference is at an entry
here_or_later : (b : Bool) (r : Option ℕ) (n i : ℕ) → ((j : ℕ) → r ≡ Some j → j < n) → (if b then Some 0 else option_map suc r) ≡ Some i → i < suc n
here_or_later true r n i f e = let q : 0 ≡ i = cc in omega (arith, q)
here_or_later false None n i f e = cc
here_or_later false (Some j) n i f e = let q : suc j ≡ i = cc in let l = f j refl in omega (arith, q, l)

within : (ms : List Mode) (hs : Holding) (s : Bool) (ks : Holding) (t : Bool) (i : ℕ) → newest_difference ms hs s ks t ≡ Some i → i < length ms
within [] hs s ks t i e = cc
within (m ∷ ms) [] s ks t i e = cc
within (m ∷ ms) (h ∷ hs) s [] t i e = cc
within (m ∷ ms) (h ∷ hs) s (k ∷ ks) t i e = here_or_later (differs m h s k t) (newest_difference ms hs s ks t) (length ms) i (λ j q. within ms hs s ks t j q) e

pub difference_within : (g : Context) (hs : Holding) (s : Bool) (ks : Holding) (t : Bool) (i : ℕ) → newest_difference (modes g) hs s ks t ≡ Some i → i < length g
difference_within g hs s ks t i e = let l = within (modes g) hs s ks t i e in let n = length_modes g in omega (arith, l, n)

-- ---- the newest entry is taken away
pub snoc_front : {X : Type 0} (xs ys : List X) (a b : X) → xs ++ a ∷ [] ≡ ys ++ b ∷ [] → xs ≡ ys
snoc_front xs ys a b e =
    let r : a ∷ reverse xs ≡ b ∷ reverse ys = sym (reverse-append xs (a ∷ [])) ∙ ap reverse e ∙ reverse-append ys (b ∷ []) in
    let t : reverse xs ≡ reverse ys = cc in
    sym (reverse-reverse xs) ∙ ap reverse t ∙ reverse-reverse ys

not_empty : {X : Type 0} (xs : List X) (a : X) → xs ++ a ∷ [] ≡ [] → ⊥
not_empty [] a e = cc
not_empty (x ∷ xs) a e = cc

pub popped : {X : Type 0} (o : Option X) (old new outer : List X) (e : X) → MatchOption o ((old ≡ []) × (new ≡ [])) (λ last. old ≡ new ++ last ∷ []) → old ≡ outer ++ e ∷ [] → new ≡ outer
popped None old new outer e p q = absurd (not_empty outer e (sym q ∙ p.0))
popped (Some last) old new outer e p q = snoc_front new outer last e (sym p ∙ q)

-- the context with one entry more
pub context_pushed : (es : List TeleEntry) (e : TeleEntry) → reverse (map plain_tele_entry (es ++ e ∷ [])) ≡ plain_tele_entry e ∷ reverse (map plain_tele_entry es)
context_pushed es e = ap reverse (map-append plain_tele_entry es (e ∷ [])) ∙ reverse-append (map plain_tele_entry es) (plain_tele_entry e ∷ [])

pub ruleset length_laws = (length_persistent, length_allowed, length_outside, length_in_both, length_later)
