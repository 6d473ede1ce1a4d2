-- An entry at which the parts of a pair differ, said of the rows that they leave.
use Rattle.std.proofs.Common.{◌≡◌, ℕ, zero, suc, Bool, true, false, not, ◌&&◌, ◌||◌, if◌then◌else◌, List, [], ◌∷◌, length, Option, None, Some, option_map, slice_get, refl, sym, ap, ◌∙◌, ◌<◌, ◌≤◌, arith}
use Rattle.std.proofs.Math.Bool.{beq}
use Rattle.clf_syntax.specs.declared.tree.Mode.{Mode}
use Rattle.clf_syntax.specs.declared.tree.Mode.TheVariants.{Persistent, Affine, Linear}
use Rattle.clf_syntax.specs.Tree.{PlainObject}
use Rattle.clf_syntax.specs.TypeTree.{PlainType}
use Rattle.use_contexts.specs.Context.{Context, modes}
use Rattle.use_contexts.specs.Holding.{Holding}
use Rattle.use_contexts.specs.Rows.{implies, within, stands, differs, EachWithin, Stands, Agrees, newest_difference, newest, older, Leftover}
use Rattle.use_contexts.proofs.Bits.{at_entry, given, given_3, and-both}
use Rattle.use_contexts.proofs.RowLaws.{IsSubholding-stands}
use Rattle.clf_sig.specs.Entry.{PlainSignature}
use Rattle.clf_rules.specs.Typing.{HasType}
use Rattle.clf_rules.specs.Explained.{DiffersAt}
use Rattle.clf_rules.proofs.UsedParts.{used, used_stands, used_of, length-used_of, each-used_of}

-- ---- entries of parts
pub get-now : (p : Holding) (n : ℕ) (b : Bool) → length p ≡ suc n → newest p ≡ b → slice_get p 0 ≡ Some b
get-now [] n b e q = absurd (omega arith)
get-now (x ∷ p) n b e q = ap Some q

get-later : (p : Holding) (n i : ℕ) (b : Bool) → length p ≡ suc n → slice_get (older p) i ≡ Some b → slice_get p (suc i) ≡ Some b
get-later [] n i b e q = absurd (omega arith)
get-later (x ∷ p) n i b e q = q

length-later : (p : Holding) (n : ℕ) → length p ≡ suc n → length (older p) ≡ n
length-later [] n e = absurd (omega arith)
length-later (x ∷ p) n e = omega arith

-- ---- an entry at which two rows differ
-- It is linear. The one row's parts hold it where the other row leaves it, and the other's do not.
difference_linear : (m : Mode) (x s y t : Bool) → differs m x s y t ≡ true → m ≡ Linear
difference_linear Persistent x s y t e = cc
difference_linear Affine x s y t e = cc
difference_linear Linear x s y t e = refl

same_from_beq : (a b : Bool) → beq a b ≡ true → a ≡ b
same_from_beq true true e = refl
same_from_beq false false e = refl
same_from_beq true false e = cc
same_from_beq false true e = cc

first_holds : (m : Mode) (h x s y t p : Bool) → differs m x s y t ≡ true → stands m h x s p ≡ true → within m h y ≡ true → p ≡ y
first_holds m h x s y t p a b c =
    same_from_beq p y (given_3 (differs m x s y t) (stands m h x s p) (within m h y) (beq p y)
    (at_entry (λ m h x s y t p _ _. implies (differs m x s y t) (implies (stands m h x s p) (implies (within m h y) (beq p y)))) refl refl refl m h x s y t p true true) a b c)

second_holds : (m : Mode) (h x s y t p : Bool) → differs m x s y t ≡ true → stands m h y t p ≡ true → within m h x ≡ true → p ≡ not y
second_holds m h x s y t p a b c =
    same_from_beq p (not y) (given_3 (differs m x s y t) (stands m h y t p) (within m h x) (beq p (not y))
    (at_entry (λ m h x s y t p _ _. implies (differs m x s y t) (implies (stands m h y t p) (implies (within m h x) (beq p (not y))))) refl refl refl m h x s y t p true true) a b c)

abbrev DifferAt : List Mode → Holding → Holding → Bool → Holding → Bool → ℕ → Type 0
DifferAt ms h l s r t i = (held : Bool) × (slice_get ms i ≡ Some Linear)
    × ((p : Holding) → Stands ms h l s p → slice_get p i ≡ Some held)
    × ((p : Holding) → Stands ms h r t p → slice_get p i ≡ Some (not held))

differ-here : (m : Mode) (ms : List Mode) (h l : Holding) (s : Bool) (r : Holding) (t : Bool) → EachWithin (m ∷ ms) h l → EachWithin (m ∷ ms) h r
    → differs m (newest l) s (newest r) t ≡ true → DifferAt (m ∷ ms) h l s r t 0
differ-here m ms h l s r t a b e = (
  newest r,
  ap Some (difference_linear m (newest l) s (newest r) t e),
  (λ p x. get-now p (length ms) (newest r) x.0 (first_holds m (newest h) (newest l) s (newest r) t (newest p) e x.1.0 b.0)),
  (λ p x. get-now p (length ms) (not (newest r)) x.0 (second_holds m (newest h) (newest l) s (newest r) t (newest p) e x.1.0 a.0)),
)

differ-later : (m : Mode) (ms : List Mode) (h l : Holding) (s : Bool) (r : Holding) (t : Bool) (i : ℕ) → DifferAt ms (older h) (older l) s (older r) t i → DifferAt (m ∷ ms) h l s r t (suc i)
differ-later m ms h l s r t i d = (
  d.0,
  d.1,
  (λ p x. get-later p (length ms) i d.0 x.0 (d.2 (older p) (length-later p (length ms) x.0, x.1.1))),
  (λ p x. get-later p (length ms) i (not d.0) x.0 (d.3 (older p) (length-later p (length ms) x.0, x.1.1))),
)

pub differ-at : (ms : List Mode) (h l : Holding) (s : Bool) (r : Holding) (t : Bool) (i : ℕ) → newest_difference ms l s r t ≡ Some i → EachWithin ms h l → EachWithin ms h r → DifferAt ms h l s r t i
differ-at [] h l s r t i e a b = absurd (cc)
differ-at (m ∷ ms) h [] s r t i e a b = absurd (cc)
differ-at (m ∷ ms) h (x ∷ l) s [] t i e a b = absurd (cc)
differ-at (m ∷ ms) h (x ∷ l) s (y ∷ r) t i e a b =
    by (differs m x s y t) refl (newest_difference ms l s r t) i e (λ k q. differ-at ms (older h) l s r t k q a.1 b.1)
  where
    by : (d : Bool) → differs m x s y t ≡ d → (o : Option ℕ) → (i : ℕ) → (if d then Some 0 else option_map suc o) ≡ Some i
        → ((k : ℕ) → o ≡ Some k → DifferAt ms (older h) l s r t k) → DifferAt (m ∷ ms) h (x ∷ l) s (y ∷ r) t i
    by true f o zero n rest = differ-here m ms h (x ∷ l) s (y ∷ r) t a b f
    by true f o (suc i) n rest = absurd (cc)
    by false f None i n rest = absurd (cc)
    by false f (Some j) zero n rest = absurd (cc)
    by false f (Some j) (suc i) n rest = let same : Some j ≡ Some i = cc in differ-later m ms h (x ∷ l) s (y ∷ r) t i (rest i same)

-- the entries of the largest part that a row stands for
abbrev most : Bool → Bool → Bool → Bool
most h l s = h && (not l || s)

most_stands : (h l s : Bool) → within Linear h l ≡ true → stands Linear h l s (most h l s) ≡ true
most_stands h l s a =
    given (within Linear h l) (stands Linear h l s (most h l s))
    (at_entry (λ m h l s _ _ _ _ _. implies (within Linear h l) (stands Linear h l s (most h l s))) refl refl refl Linear h l s true true true true true) a

abbrev opposite_at : Bool → Bool → Bool → Bool → Bool → Bool → Bool
opposite_at h x s y t held =
    (beq (used Linear h x) held && beq (most h x s) held) && (beq (used Linear h y) (not held) && beq (most h y t) (not held))

opposite_differs : (h x s y t held : Bool) → opposite_at h x s y t held ≡ true → differs Linear x s y t ≡ true
opposite_differs h x s y t held a =
    given (opposite_at h x s y t held) (differs Linear x s y t)
    (at_entry (λ m h x s y t held _ _. implies (opposite_at h x s y t held) (differs Linear x s y t)) refl refl refl Linear h x s y t held true true) a

beq_from_same : (a b : Bool) → Some a ≡ Some b → beq a b ≡ true
beq_from_same true true e = refl
beq_from_same true false e = cc
beq_from_same false true e = cc
beq_from_same false false e = refl

found-here : (m : Mode) (ms : List Mode) (h : Holding) (x : Bool) (l : Holding) (s y : Bool) (r : Holding) (t : Bool) → EachWithin (m ∷ ms) h (x ∷ l) → EachWithin (m ∷ ms) h (y ∷ r)
    → DifferAt (m ∷ ms) h (x ∷ l) s (y ∷ r) t 0 → differs m x s y t ≡ true
found-here Persistent ms h x l s y r t a b d = let e = d.1 in cc
found-here Affine ms h x l s y r t a b d = let e = d.1 in cc
found-here Linear ms h x l s y r t a b d =
    let p = used_of ms (older h) l in
    let q = used_of ms (older h) r in
    let np : length (true ∷ p) ≡ length (Linear ∷ ms) = ap suc (length-used_of ms (older h) l) in
    let nq : length (true ∷ q) ≡ length (Linear ∷ ms) = ap suc (length-used_of ms (older h) r) in
    let ep = each-used_of ms (older h) l s a.1 in
    let eq = each-used_of ms (older h) r t b.1 in
    let one = d.2 (used Linear (newest h) x ∷ p) (np, (used_stands Linear (newest h) x s a.0, ep)) in
    let two = d.2 (most (newest h) x s ∷ p) (np, (most_stands (newest h) x s a.0, ep)) in
    let three = d.3 (used Linear (newest h) y ∷ q) (nq, (used_stands Linear (newest h) y t b.0, eq)) in
    let four = d.3 (most (newest h) y t ∷ q) (nq, (most_stands (newest h) y t b.0, eq)) in
    opposite_differs (newest h) x s y t d.0
    (and-both (beq (used Linear (newest h) x) d.0 && beq (most (newest h) x s) d.0) (beq (used Linear (newest h) y) (not d.0) && beq (most (newest h) y t) (not d.0))
    (and-both (beq (used Linear (newest h) x) d.0) (beq (most (newest h) x s) d.0) (beq_from_same (used Linear (newest h) x) d.0 one) (beq_from_same (most (newest h) x s) d.0 two))
    (and-both (beq (used Linear (newest h) y) (not d.0)) (beq (most (newest h) y t) (not d.0)) (beq_from_same (used Linear (newest h) y) (not d.0) three) (beq_from_same (most (newest h) y t) (not d.0) four)))

found-later : (m : Mode) (ms : List Mode) (h : Holding) (x : Bool) (l : Holding) (s y : Bool) (r : Holding) (t : Bool) (j : ℕ) → EachWithin (m ∷ ms) h (x ∷ l) → EachWithin (m ∷ ms) h (y ∷ r)
    → DifferAt (m ∷ ms) h (x ∷ l) s (y ∷ r) t (suc j) → DifferAt ms (older h) l s r t j
found-later m ms h x l s y r t j a b d = (
  d.0,
  d.1,
  (λ p w. d.2 (used m (newest h) x ∷ p) (ap suc w.0, (used_stands m (newest h) x s a.0, w.1))),
  (λ p w. d.3 (used m (newest h) y ∷ p) (ap suc w.0, (used_stands m (newest h) y t b.0, w.1))),
)

-- Where two rows' parts differ at an entry, the newest difference is there, or is newer.
pub differ-found : (ms : List Mode) (h l : Holding) (s : Bool) (r : Holding) (t : Bool) (j : ℕ) → length l ≡ length ms → length r ≡ length ms → EachWithin ms h l → EachWithin ms h r
    → DifferAt ms h l s r t j → (i : ℕ) × (newest_difference ms l s r t ≡ Some i) × (i ≤ j)
differ-found [] h l s r t j n k a b d = let e = d.1 in absurd (cc)
differ-found (m ∷ ms) h [] s r t j n k a b d = absurd (omega arith)
differ-found (m ∷ ms) h (x ∷ l) s [] t j n k a b d = absurd (omega arith)
differ-found (m ∷ ms) h (x ∷ l) s (y ∷ r) t j n k a b d =
    by (differs m x s y t) refl (newest_difference ms l s r t) j d (λ i e. differ-found ms (older h) l s r t i (omega arith) (omega arith) a.1 b.1 e)
  where
    by : (z : Bool) → differs m x s y t ≡ z → (o : Option ℕ) → (j : ℕ) → DifferAt (m ∷ ms) h (x ∷ l) s (y ∷ r) t j
        → ((i : ℕ) → DifferAt ms (older h) l s r t i → (f : ℕ) × (o ≡ Some f) × (f ≤ i)) → (f : ℕ) × ((if z then Some 0 else option_map suc o) ≡ Some f) × (f ≤ j)
    by true f o j e rest = (0, refl, omega arith)
    by false f o zero e rest = let g = found-here m ms h x l s y r t a b e in absurd (cc)
    by false f o (suc j) e rest = let g = rest j (found-later m ms h x l s y r t j a b e) in (suc g.0, ap (option_map suc) g.1, omega (arith, g.2))

-- what differs at an entry of a pair, said of the rows that its parts leave
pub rows-differ : (sig : PlainSignature) (g : Context) (h : Holding) (l : PlainObject) (a : PlainType) (r : PlainObject) (c : PlainType) (u v : Leftover) (i : ℕ)
    → Agrees (modes g) h (Some u) (λ p. HasType sig g p l a) → Agrees (modes g) h (Some v) (λ p. HasType sig g p r c)
    → DiffersAt sig g h l a r c i → DifferAt (modes g) h u.0 u.1 v.0 v.1 i
rows-differ sig g h l a r c u v i x y d = (
  d.0,
  d.1,
  (λ p s. let w = IsSubholding-stands (modes g) h u.0 u.1 p s in d.2 p w (x.2 p w s)),
  (λ p s. let w = IsSubholding-stands (modes g) h v.0 v.1 p s in d.3 p w (y.2 p w s)),
)

-- and back
pub parts-differ : (sig : PlainSignature) (g : Context) (h : Holding) (l : PlainObject) (a : PlainType) (r : PlainObject) (c : PlainType) (u v : Leftover) (i : ℕ)
    → Agrees (modes g) h (Some u) (λ p. HasType sig g p l a) → Agrees (modes g) h (Some v) (λ p. HasType sig g p r c)
    → DifferAt (modes g) h u.0 u.1 v.0 v.1 i → DiffersAt sig g h l a r c i
parts-differ sig g h l a r c u v i x y d = (d.0, d.1, (λ p w t. d.2 p (x.1 p w t)), (λ p w t. d.3 p (y.1 p w t)))

pub not-newer : (i j : ℕ) (o : Option ℕ) → o ≡ Some i → j < i → (f : ℕ) × (o ≡ Some f) × (f ≤ j) → ⊥
not-newer i j o e l f = let same : Some i ≡ Some f.0 = sym e ∙ f.1 in let k : i ≡ f.0 = cc in let q = f.2 in omega arith
