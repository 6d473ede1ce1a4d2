-- The first place where the modes of a pattern, or the indices of a family, are not those that are wanted: the search for it finds
-- exactly the place that the rules speak of.
use Rattle.std.proofs.Common.{◌≡◌, ◌≢◌, ℕ, zero, suc, ◌<◌, Bool, true, false, if◌then◌else◌, List, [], ◌∷◌, length, take, None, Some, slice_get, refl, sym, ap, ◌∙◌, arith}
use Rattle.std.proofs.lemmas.Bool.{cond-true, cond-false}
use Rattle.clf_syntax.specs.declared.tree.Mode.{Mode}
use Rattle.clf_syntax.specs.Tree.{PlainObject}
use Rattle.trace_equal.specs.Exchange.{Joined}
use Rattle.clf_syntax.specs.Modes.{same_mode}
use Rattle.trace_equal.specs.Search.{is_joined}
use Rattle.trace_equal.proofs.FirstMatching.{same_is_joined, mode_sound, mode_complete}
use Rattle.clf_rules.specs.Explained.{FirstModes, FirstIndices}
use Rattle.clf_decision.specs.Checking.{first_other_mode, first_unjoined}
use Rattle.clf_decision.proofs.Tests.{other-mode, modes-differ}

-- ---- modes
later-modes : (j n : Mode) (ks ms : List Mode) (k m : Mode) → n ≡ j → FirstModes ks ms k m → FirstModes (j ∷ ks) (n ∷ ms) k m
later-modes j n ks ms k m e f = record {
  place = suc f.place;
  wanted_there = f.wanted_there;
  found_there = f.found_there;
  differ = f.differ;
  same_before = let q = f.same_before in cc;
}

pub first-modes : (ks ms : List Mode) (d : Mode × Mode) → first_other_mode ks ms ≡ Some d → FirstModes ks ms d.0 d.1
first-modes [] ms d e = absurd (cc)
first-modes (k ∷ ks) [] d e = absurd (cc)
first-modes (k ∷ ks) (m ∷ ms) d e = by (same_mode m k) refl e (λ q. first-modes ks ms d q)
  where
    by : (b : Bool) → same_mode m k ≡ b → (if b then first_other_mode ks ms else Some (k, m)) ≡ Some d → (first_other_mode ks ms ≡ Some d → FirstModes ks ms d.0 d.1) → FirstModes (k ∷ ks) (m ∷ ms) d.0 d.1
    by true s e rest = later-modes k m ks ms d.0 d.1 (mode_sound m k s) (rest e)
    by false s e rest =
        let x : k ≡ d.0 = cc in
        let y : m ≡ d.1 = cc in
        record {
          place = 0;
          wanted_there = ap Some x;
          found_there = ap Some y;
          differ = λ q. other-mode m k s (x ∙ q ∙ sym y);
          same_before = refl;
        }

pub same-modes : (ks ms : List Mode) → length ms ≡ length ks → first_other_mode ks ms ≡ None → ks ≡ ms
same-modes [] [] n e = refl
same-modes [] (m ∷ ms) n e = absurd (omega arith)
same-modes (k ∷ ks) [] n e = absurd (omega arith)
same-modes (k ∷ ks) (m ∷ ms) n e = by (same_mode m k) refl e (λ q. same-modes ks ms (omega arith) q)
  where
    by : (b : Bool) → same_mode m k ≡ b → (if b then first_other_mode ks ms else Some (k, m)) ≡ None → (first_other_mode ks ms ≡ None → ks ≡ ms) → k ∷ ks ≡ m ∷ ms
    by true s e rest = let x = mode_sound m k s in let y = rest e in cc
    by false s e rest = absurd (cc)

pub no-other-mode : (ks : List Mode) → first_other_mode ks ks ≡ None
no-other-mode [] = refl
no-other-mode (k ∷ ks) = cond-true (same_mode k k) (first_other_mode ks ks) (Some (k, k)) (mode_complete k) ∙ no-other-mode ks

modes-at : (ks ms : List Mode) (k m : Mode) (place : ℕ) → slice_get ks place ≡ Some k → slice_get ms place ≡ Some m → k ≢ m → take place ks ≡ take place ms → first_other_mode ks ms ≡ Some (k, m)
modes-at [] ms k m place a b d s = absurd (cc)
modes-at (j ∷ ks) [] k m place a b d s = absurd (cc)
modes-at (j ∷ ks) (n ∷ ms) k m zero a b d s =
    let x : j ≡ k = cc in
    let y : n ≡ m = cc in
    cond-false (same_mode n j) (first_other_mode ks ms) (Some (j, n)) (modes-differ n j (λ q. d (sym x ∙ q ∙ y))) ∙ cc
modes-at (j ∷ ks) (n ∷ ms) k m (suc place) a b d s =
    let x : n ≡ j = cc in
    let y : take place ks ≡ take place ms = cc in
    cond-true (same_mode n j) (first_other_mode ks ms) (Some (j, n)) (ap (λ z. same_mode z j) x ∙ mode_complete j) ∙ modes-at ks ms k m place a b d y

pub modes-first : (ks ms : List Mode) (k m : Mode) → FirstModes ks ms k m → first_other_mode ks ms ≡ Some (k, m)
modes-first ks ms k m f = modes-at ks ms k m f.place f.wanted_there f.found_there f.differ f.same_before

-- ---- indices
joined-here : (o n : PlainObject) → is_joined o n ≡ true → Joined o n
joined-here o n e = (same_is_joined o n).0 e

unjoined-here : (o n : PlainObject) → is_joined o n ≡ false → Joined o n → ⊥
unjoined-here o n e j = let t = (same_is_joined o n).1 j in cc

not-joined : (o n : PlainObject) → (Joined o n → ⊥) → (b : Bool) → is_joined o n ≡ b → b ≡ false
not-joined o n f true e = absurd (f (joined-here o n e))
not-joined o n f false e = refl

later-indices : (o n : PlainObject) (os ns : List PlainObject) (x y : PlainObject) → Joined o n → FirstIndices os ns x y → FirstIndices (o ∷ os) (n ∷ ns) x y
later-indices o n os ns x y j f = record {
  place = suc f.place;
  found_there = f.found_there;
  wanted_there = f.wanted_there;
  differ = f.differ;
  joined_before = before;
}
  where
    before : (i : ℕ) (u v : PlainObject) → i < suc f.place → slice_get (o ∷ os) i ≡ Some u → slice_get (n ∷ ns) i ≡ Some v → Joined u v
    before zero u v l p q = let e : o ≡ u = cc in let d : n ≡ v = cc in rw (sym e, sym d) j
    before (suc i) u v l p q = f.joined_before i u v (omega arith) p q

pub first-indices : (os ns : List PlainObject) (d : PlainObject × PlainObject) → first_unjoined os ns ≡ Some d → FirstIndices os ns d.0 d.1
first-indices [] ns d e = absurd (cc)
first-indices (o ∷ os) [] d e = absurd (cc)
first-indices (o ∷ os) (n ∷ ns) d e = by (is_joined o n) refl e (λ q. first-indices os ns d q)
  where
    by : (b : Bool) → is_joined o n ≡ b → (if b then first_unjoined os ns else Some (o, n)) ≡ Some d → (first_unjoined os ns ≡ Some d → FirstIndices os ns d.0 d.1) → FirstIndices (o ∷ os) (n ∷ ns) d.0 d.1
    by true s e rest = later-indices o n os ns d.0 d.1 (joined-here o n s) (rest e)
    by false s e rest =
        let x : o ≡ d.0 = cc in
        let y : n ≡ d.1 = cc in
        record {
          place = 0;
          found_there = ap Some x;
          wanted_there = ap Some y;
          differ = rw (sym x, sym y) (unjoined-here o n s);
          joined_before = λ i u v l. absurd (omega arith);
        }

indices-at : (os ns : List PlainObject) (x y : PlainObject) (place : ℕ) → slice_get os place ≡ Some x → slice_get ns place ≡ Some y → (Joined x y → ⊥)
    → ((i : ℕ) (u v : PlainObject) → i < place → slice_get os i ≡ Some u → slice_get ns i ≡ Some v → Joined u v) → first_unjoined os ns ≡ Some (x, y)
indices-at [] ns x y place a b d f = absurd (cc)
indices-at (o ∷ os) [] x y place a b d f = absurd (cc)
indices-at (o ∷ os) (n ∷ ns) x y zero a b d f =
    let p : o ≡ x = cc in
    let q : n ≡ y = cc in
    cond-false (is_joined o n) (first_unjoined os ns) (Some (o, n)) (not-joined o n (rw (p, q) d) (is_joined o n) refl) ∙ cc
indices-at (o ∷ os) (n ∷ ns) x y (suc place) a b d f =
    cond-true (is_joined o n) (first_unjoined os ns) (Some (o, n)) ((same_is_joined o n).1 (f 0 o n (omega arith) refl refl))
    ∙ indices-at os ns x y place a b d (λ i u v l. f (suc i) u v (omega arith))

pub indices-first : (os ns : List PlainObject) (x y : PlainObject) → FirstIndices os ns x y → first_unjoined os ns ≡ Some (x, y)
indices-first os ns x y f = indices-at os ns x y f.place f.found_there f.wanted_there f.differ f.joined_before
