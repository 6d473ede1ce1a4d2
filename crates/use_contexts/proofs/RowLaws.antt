-- Rows with slack stand for exactly the parts that two checks in turn, or both checks of a pair, leave room for.
use Rattle.std.proofs.Common.{◌≡◌, ℕ, suc, Bool, true, false, not, ◌&&◌, ◌||◌, List, [], ◌∷◌, length, Option, None, Some, option_map, if◌then◌else◌, refl, ap, arith}
use Rattle.clf_syntax.specs.declared.tree.Mode.{Mode}
use Rattle.clf_syntax.specs.declared.tree.Mode.TheVariants.{Persistent, Affine, Linear}
use Rattle.use_contexts.specs.Holding.{Holding, Split}
use Rattle.use_contexts.specs.Rows.{implies, within, stands, newest, older, EachWithin, EachStands, IsSubholding, Stands, Answer, Agrees, Shared, differs, left_in_both, newest_difference}
use Rattle.use_contexts.proofs.RowAnswers.{in_turn, paired, paired_unless}
use Rattle.use_contexts.specs.Laws.{InTurn, InPairs, Apart}
use Rattle.use_contexts.proofs.Bits.{at_entry, given, given_2, given_3, and-left, and-right, and-both}
use Rattle.use_contexts.proofs.Splits.{splits, EachSplit, split_each, each_split}

-- ---- one entry
within-stands : (m : Mode) (h l s p : Bool) → stands m h l s p ≡ true → within m h p ≡ true
within-stands m h l s p a =
    given (stands m h l s p) (within m h p) (at_entry (λ m h l s p _ _ _ _. implies (stands m h l s p) (within m h p)) refl refl refl m h l s p true true true true) a

within-first : (m : Mode) (h p g k : Bool) → splits m p g k ≡ true → within m h p ≡ true → within m h g ≡ true
within-first m h p g k a b =
    given_2 (splits m p g k) (within m h p) (within m h g)
    (at_entry (λ m h p g k _ _ _ _. implies (splits m p g k) (implies (within m h p) (within m h g))) refl refl refl m h p g k true true true true) a b

within-second : (m : Mode) (h l s p g k : Bool) → splits m p g k ≡ true → within m h p ≡ true → stands m h l s g ≡ true → within m l k ≡ true
within-second m h l s p g k a b c =
    given_3 (splits m p g k) (within m h p) (stands m h l s g) (within m l k)
    (at_entry (λ m h l s p g k _ _. implies (splits m p g k) (implies (within m h p) (implies (stands m h l s g) (within m l k)))) refl refl refl m h l s p g k true true) a b c

within-after : (m : Mode) (h l r : Bool) → within m h l ≡ true → within m l r ≡ true → within m h r ≡ true
within-after m h l r a b =
    given_2 (within m h l) (within m l r) (within m h r)
    (at_entry (λ m h l r _ _ _ _ _. implies (within m h l) (implies (within m l r) (within m h r))) refl refl refl m h l r true true true true true) a b

stands-turn : (m : Mode) (h l r s t p g k : Bool) → splits m p g k ≡ true → stands m h l s g ≡ true → stands m l r t k ≡ true → stands m h r (s || t) p ≡ true
stands-turn m h l r s t p g k a b c =
    given_3 (splits m p g k) (stands m h l s g) (stands m l r t k) (stands m h r (s || t) p)
    (at_entry (λ m h l r s t p g k. implies (splits m p g k) (implies (stands m h l s g) (implies (stands m l r t k) (stands m h r (s || t) p)))) refl refl refl m h l r s t p g k) a b c

-- the share of the first side: it takes all that it used, and what is left of a linear entry if it has the slack
abbrev first_of : Mode → Bool → Bool → Bool → Bool → Bool → Bool
first_of Persistent h l r s p = p
first_of Affine h l r s p = p && not (l && not r)
first_of Linear h l r s p = p && ((h && not l) || (r && s))

abbrev second_of : Mode → Bool → Bool → Bool → Bool → Bool → Bool
second_of Persistent h l r s p = p
second_of Affine h l r s p = p && not (first_of Affine h l r s p)
second_of Linear h l r s p = p && not (first_of Linear h l r s p)

abbrev shares : Mode → Bool → Bool → Bool → Bool → Bool → Bool → Bool
shares m h l r s t p = splits m p (first_of m h l r s p) (second_of m h l r s p) && (stands m h l s (first_of m h l r s p) && stands m l r t (second_of m h l r s p))

shared_out : (m : Mode) (h l r s t p : Bool) → within m h l ≡ true → within m l r ≡ true → stands m h r (s || t) p ≡ true → shares m h l r s t p ≡ true
shared_out m h l r s t p a b c =
    given_3 (within m h l) (within m l r) (stands m h r (s || t) p) (shares m h l r s t p)
    (at_entry (λ m h l r s t p _ _. implies (within m h l) (implies (within m l r) (implies (stands m h r (s || t) p) (shares m h l r s t p)))) refl refl refl m h l r s t p true true) a b c

-- ---- whole rows
pub EachWithin-stands : (ms : List Mode) (h l : Holding) (s : Bool) (p : Holding) → EachStands ms h l s p → EachWithin ms h p
EachWithin-stands [] h l s p a = tt
EachWithin-stands (m ∷ ms) h l s p a = (within-stands m (newest h) (newest l) s (newest p) a.0, EachWithin-stands ms (older h) (older l) s (older p) a.1)

pub IsSubholding-stands : (ms : List Mode) (h l : Holding) (s : Bool) (p : Holding) → Stands ms h l s p → IsSubholding ms h p
IsSubholding-stands ms h l s p a = (a.0, EachWithin-stands ms h l s p a.1)

EachWithin-first : (ms : List Mode) (h p g k : Holding) → EachSplit ms p g k → EachWithin ms h p → EachWithin ms h g
EachWithin-first [] h p g k a b = tt
EachWithin-first (m ∷ ms) h p g k a b = (within-first m (newest h) (newest p) (newest g) (newest k) a.0 b.0, EachWithin-first ms (older h) (older p) (older g) (older k) a.1 b.1)

EachWithin-second : (ms : List Mode) (h l : Holding) (s : Bool) (p g k : Holding) → EachSplit ms p g k → EachWithin ms h p → EachStands ms h l s g → EachWithin ms l k
EachWithin-second [] h l s p g k a b c = tt
EachWithin-second (m ∷ ms) h l s p g k a b c =
    (within-second m (newest h) (newest l) s (newest p) (newest g) (newest k) a.0 b.0 c.0, EachWithin-second ms (older h) (older l) s (older p) (older g) (older k) a.1 b.1 c.1)

EachWithin-after : (ms : List Mode) (h l r : Holding) → EachWithin ms h l → EachWithin ms l r → EachWithin ms h r
EachWithin-after [] h l r a b = tt
EachWithin-after (m ∷ ms) h l r a b = (within-after m (newest h) (newest l) (newest r) a.0 b.0, EachWithin-after ms (older h) (older l) (older r) a.1 b.1)

pub IsSubholding-first : (ms : List Mode) (h p g k : Holding) → Split ms p g k → IsSubholding ms h p → IsSubholding ms h g
IsSubholding-first ms h p g k a b = let e = split_each ms p g k a in (e.1, EachWithin-first ms h p g k e.0 b.1)

pub IsSubholding-second : (ms : List Mode) (h l : Holding) (s : Bool) (p g k : Holding) → Split ms p g k → IsSubholding ms h p → Stands ms h l s g → IsSubholding ms l k
IsSubholding-second ms h l s p g k a b c = let e = split_each ms p g k a in (e.2, EachWithin-second ms h l s p g k e.0 b.1 c.1)

pub IsSubholding-after : (ms : List Mode) (h l r : Holding) → IsSubholding ms h l → IsSubholding ms l r → IsSubholding ms h r
IsSubholding-after ms h l r a b = (b.0, EachWithin-after ms h l r a.1 b.1)

each-turn : (ms : List Mode) (h l r : Holding) (s t : Bool) (p g k : Holding) → EachSplit ms p g k → EachStands ms h l s g → EachStands ms l r t k → EachStands ms h r (s || t) p
each-turn [] h l r s t p g k a b c = tt
each-turn (m ∷ ms) h l r s t p g k a b c =
    (stands-turn m (newest h) (newest l) (newest r) s t (newest p) (newest g) (newest k) a.0 b.0 c.0, each-turn ms (older h) (older l) (older r) s t (older p) (older g) (older k) a.1 b.1 c.1)

-- parts that two rows in turn stand for make up one that both together stand for
pub turn-stands : (ms : List Mode) (h l r : Holding) (s t : Bool) (p g k : Holding) → length p ≡ length ms → Split ms p g k → Stands ms h l s g → Stands ms l r t k → Stands ms h r (s || t) p
turn-stands ms h l r s t p g k n a b c = (n, each-turn ms h l r s t p g k (split_each ms p g k a).0 b.1 c.1)

abbrev firsts : List Mode → Holding → Holding → Holding → Bool → Holding → Holding
firsts [] h l r s p = []
firsts (m ∷ ms) h l r s p = first_of m (newest h) (newest l) (newest r) s (newest p) ∷ firsts ms (older h) (older l) (older r) s (older p)

abbrev seconds : List Mode → Holding → Holding → Holding → Bool → Holding → Holding
seconds [] h l r s p = []
seconds (m ∷ ms) h l r s p = second_of m (newest h) (newest l) (newest r) s (newest p) ∷ seconds ms (older h) (older l) (older r) s (older p)

length-firsts : (ms : List Mode) (h l r : Holding) (s : Bool) (p : Holding) → length (firsts ms h l r s p) ≡ length ms
length-firsts [] h l r s p = refl
length-firsts (m ∷ ms) h l r s p = ap suc (length-firsts ms (older h) (older l) (older r) s (older p))

length-seconds : (ms : List Mode) (h l r : Holding) (s : Bool) (p : Holding) → length (seconds ms h l r s p) ≡ length ms
length-seconds [] h l r s p = refl
length-seconds (m ∷ ms) h l r s p = ap suc (length-seconds ms (older h) (older l) (older r) s (older p))

each-shared : (ms : List Mode) (h l r : Holding) (s t : Bool) (p : Holding) → EachWithin ms h l → EachWithin ms l r → EachStands ms h r (s || t) p
    → EachSplit ms p (firsts ms h l r s p) (seconds ms h l r s p) × EachStands ms h l s (firsts ms h l r s p) × EachStands ms l r t (seconds ms h l r s p)
each-shared [] h l r s t p a b c = (tt, tt, tt)
each-shared (m ∷ ms) h l r s t p a b c =
    let f = first_of m (newest h) (newest l) (newest r) s (newest p) in
    let g = second_of m (newest h) (newest l) (newest r) s (newest p) in
    let here = shared_out m (newest h) (newest l) (newest r) s t (newest p) a.0 b.0 c.0 in
    let rest = each-shared ms (older h) (older l) (older r) s t (older p) a.1 b.1 c.1 in
    let sp = splits m (newest p) f g in
    let st = stands m (newest h) (newest l) s f in
    let su = stands m (newest l) (newest r) t g in
    let tail = and-right sp (st && su) here in (
      (and-left sp (st && su) here, rest.0),
      (and-left st su tail, rest.1),
      (and-right st su tail, rest.2),
    )

-- a part that both together stand for is shared out
pub turn-shares : (ms : List Mode) (h l r : Holding) (s t : Bool) (p : Holding) → IsSubholding ms h l → IsSubholding ms l r → Stands ms h r (s || t) p
    → Shared ms (Stands ms h l s) (Stands ms l r t) p
turn-shares ms h l r s t p a b c =
    let e = each-shared ms h l r s t p a.1 b.1 c.1 in
    let f = firsts ms h l r s p in
    let g = seconds ms h l r s p in
    let x = length-firsts ms h l r s p in
    let y = length-seconds ms h l r s p in
    (f, g, each_split ms p f g c.0 x y e.0, (x, e.1), (y, e.2))

-- ---- two checks in turn
pub none-agrees : (ms : List Mode) (h : Holding) (P Q : Holding → Type 0) → Agrees ms h None P → Agrees ms h None (Shared ms P Q)
none-agrees ms h P Q a = λ p w x. a x.0 (IsSubholding-first ms h p x.0 x.1 x.2 w) x.3

pub turn-agrees : (ms : List Mode) (h l : Holding) (s : Bool) (r : Answer) (P Q : Holding → Type 0)
    → Agrees ms h (Some (l, s)) P → Agrees ms l r Q → Agrees ms h (in_turn r s) (Shared ms P Q)
turn-agrees ms h l s None P Q a b = λ p w x.
    b x.1 (IsSubholding-second ms h l s p x.0 x.1 x.2 w (a.1 x.0 (IsSubholding-first ms h p x.0 x.1 x.2 w) x.3)) x.4
turn-agrees ms h l s (Some r) P Q a b = (
  IsSubholding-after ms h l r.0 a.0 b.0,
  (λ p w x.
      let u = a.1 x.0 (IsSubholding-first ms h p x.0 x.1 x.2 w) x.3 in
      let v = b.1 x.1 (IsSubholding-second ms h l s p x.0 x.1 x.2 w u) x.4 in
      turn-stands ms h l r.0 s r.1 p x.0 x.1 w.0 x.2 u v),
  (λ p w x.
      let t = turn-shares ms h l r.0 s r.1 p a.0 b.0 x in
      (t.0, t.1, t.2, a.2 t.0 (IsSubholding-stands ms h l s t.0 t.3) t.3, b.2 t.1 (IsSubholding-stands ms l r.0 r.1 t.1 t.4) t.4)),
)

-- a property may be said in other words
pub agrees-same : (ms : List Mode) (h : Holding) (r : Answer) (P Q : Holding → Type 0) → ((p : Holding) → P p → Q p) → ((p : Holding) → Q p → P p) → Agrees ms h r P → Agrees ms h r Q
agrees-same ms h None P Q there back a = λ p w x. a p w (back p x)
agrees-same ms h (Some r) P Q there back a = (a.0, (λ p w x. a.1 p w (back p x)), (λ p w x. there p (a.2 p w x)))

-- ---- pairs
both-stand : (m : Mode) (h l s r t p : Bool) → differs m l s r t ≡ false → (stands m h l s p && stands m h r t p) ≡ true → stands m h (l && r) (s && t) p ≡ true
both-stand m h l s r t p d a =
    given_2 (not (differs m l s r t)) (stands m h l s p && stands m h r t p) (stands m h (l && r) (s && t) p)
    (at_entry (λ m h l s r t p _ _. implies (not (differs m l s r t)) (implies (stands m h l s p && stands m h r t p) (stands m h (l && r) (s && t) p))) refl refl refl m h l s r t p true true)
    (ap not d) a

each-both : (m : Mode) (h l s r t p : Bool) → differs m l s r t ≡ false → (within m h l && within m h r) ≡ true → stands m h (l && r) (s && t) p ≡ true → (stands m h l s p && stands m h r t p) ≡ true
each-both m h l s r t p d w a =
    given_3 (not (differs m l s r t)) (within m h l && within m h r) (stands m h (l && r) (s && t) p) (stands m h l s p && stands m h r t p)
    (at_entry (λ m h l s r t p _ _. implies (not (differs m l s r t)) (implies (within m h l && within m h r) (implies (stands m h (l && r) (s && t) p) (stands m h l s p && stands m h r t p)))) refl refl refl m h l s r t p true true)
    (ap not d) w a

never-both : (m : Mode) (h l s r t p : Bool) → differs m l s r t ≡ true → (stands m h l s p && stands m h r t p) ≡ true → false ≡ true
never-both m h l s r t p d a =
    given_2 (differs m l s r t) (stands m h l s p && stands m h r t p) false
    (at_entry (λ m h l s r t p _ _. implies (differs m l s r t) (implies (stands m h l s p && stands m h r t p) false)) refl refl refl m h l s r t p true true) d a

within-both : (m : Mode) (h l r : Bool) → within m h l ≡ true → within m h r ≡ true → within m h (l && r) ≡ true
within-both m h l r a b =
    given_2 (within m h l) (within m h r) (within m h (l && r))
    (at_entry (λ m h l r _ _ _ _ _. implies (within m h l) (implies (within m h r) (within m h (l && r)))) refl refl refl m h l r true true true true true) a b

-- no difference now, and none later
split_none : (b : Bool) (r : Option ℕ) → (if b then Some 0 else option_map suc r) ≡ None → (b ≡ false) × (r ≡ None)
split_none true r e = cc
split_none false None e = (refl, refl)
split_none false (Some i) e = cc

IsSubholding-both : (ms : List Mode) (h l r : Holding) → IsSubholding ms h l → IsSubholding ms h r → IsSubholding ms h (left_in_both l r)
IsSubholding-both [] h [] [] a b = (refl, tt)
IsSubholding-both [] h (x ∷ l) r a b = let e = a.0 in absurd (omega arith)
IsSubholding-both [] h [] (x ∷ r) a b = let e = b.0 in absurd (omega arith)
IsSubholding-both (m ∷ ms) h [] r a b = let e = a.0 in absurd (omega arith)
IsSubholding-both (m ∷ ms) h (x ∷ l) [] a b = let e = b.0 in absurd (omega arith)
IsSubholding-both (m ∷ ms) h (x ∷ l) (y ∷ r) a b =
    let p = a.0 in
    let q = b.0 in
    let rest = IsSubholding-both ms (older h) l r (omega arith, a.1.1) (omega arith, b.1.1) in
    (ap suc rest.0, (within-both m (newest h) x y a.1.0 b.1.0, rest.1))

-- where the rows do not differ, the joined row stands for exactly the parts that both stand for
pair-stands : (ms : List Mode) (h l : Holding) (s : Bool) (r : Holding) (t : Bool) (p : Holding) → IsSubholding ms h l → IsSubholding ms h r → newest_difference ms l s r t ≡ None
    → EachStands ms h l s p → EachStands ms h r t p → EachStands ms h (left_in_both l r) (s && t) p
pair-stands [] h l s r t p a b n c d = tt
pair-stands (m ∷ ms) h [] s r t p a b n c d = let e = a.0 in absurd (omega arith)
pair-stands (m ∷ ms) h (x ∷ l) s [] t p a b n c d = let e = b.0 in absurd (omega arith)
pair-stands (m ∷ ms) h (x ∷ l) s (y ∷ r) t p a b n c d =
    let e = a.0 in
    let f = b.0 in
    let none = split_none (differs m x s y t) (newest_difference ms l s r t) n in (
      both-stand m (newest h) x s y t (newest p) none.0 (and-both (stands m (newest h) x s (newest p)) (stands m (newest h) y t (newest p)) c.0 d.0),
      pair-stands ms (older h) l s r t (older p) (omega arith, a.1.1) (omega arith, b.1.1) none.1 c.1 d.1,
    )

stands-pair : (ms : List Mode) (h l : Holding) (s : Bool) (r : Holding) (t : Bool) (p : Holding) → IsSubholding ms h l → IsSubholding ms h r → newest_difference ms l s r t ≡ None
    → EachStands ms h (left_in_both l r) (s && t) p → EachStands ms h l s p × EachStands ms h r t p
stands-pair [] h l s r t p a b n c = (tt, tt)
stands-pair (m ∷ ms) h [] s r t p a b n c = let e = a.0 in absurd (omega arith)
stands-pair (m ∷ ms) h (x ∷ l) s [] t p a b n c = let e = b.0 in absurd (omega arith)
stands-pair (m ∷ ms) h (x ∷ l) s (y ∷ r) t p a b n c =
    let e = a.0 in
    let f = b.0 in
    let none = split_none (differs m x s y t) (newest_difference ms l s r t) n in
    let here = each-both m (newest h) x s y t (newest p) none.0 (and-both (within m (newest h) x) (within m (newest h) y) a.1.0 b.1.0) c.0 in
    let rest = stands-pair ms (older h) l s r t (older p) (omega arith, a.1.1) (omega arith, b.1.1) none.1 c.1 in (
      (and-left (stands m (newest h) x s (newest p)) (stands m (newest h) y t (newest p)) here, rest.0),
      (and-right (stands m (newest h) x s (newest p)) (stands m (newest h) y t (newest p)) here, rest.1),
    )

-- where they differ, they stand for no part in common
some_here : (ms : List Mode) (h l : Holding) (s : Bool) (r : Holding) (t : Bool) (p : Holding) (i : ℕ) → newest_difference ms l s r t ≡ Some i
    → EachStands ms h l s p → EachStands ms h r t p → ⊥
some_here [] h l s r t p i n c d = cc
some_here (m ∷ ms) h [] s r t p i n c d = cc
some_here (m ∷ ms) h (x ∷ l) s [] t p i n c d = cc
some_here (m ∷ ms) h (x ∷ l) s (y ∷ r) t p i n c d =
    by (differs m x s y t) refl (newest_difference ms l s r t) refl n
    (λ e. never-both m (newest h) x s y t (newest p) e (and-both (stands m (newest h) x s (newest p)) (stands m (newest h) y t (newest p)) c.0 d.0))
    (λ j e. some_here ms (older h) l s r t (older p) j e c.1 d.1)
  where
    by : (b : Bool) → differs m x s y t ≡ b → (o : Option ℕ) → newest_difference ms l s r t ≡ o → (if b then Some 0 else option_map suc o) ≡ Some i
        → (differs m x s y t ≡ true → false ≡ true) → ((j : ℕ) → newest_difference ms l s r t ≡ Some j → ⊥) → ⊥
    by true e o f n here rest = let q = here e in cc
    by false e None f n here rest = cc
    by false e (Some j) f n here rest = rest j f

pair-none : (ms : List Mode) (h : Holding) (l r : Holding) (s t : Bool) (o : Option ℕ) (P Q : Holding → Type 0) → newest_difference ms l s r t ≡ o
    → Agrees ms h (Some (l, s)) P → Agrees ms h (Some (r, t)) Q → Agrees ms h (paired_unless o (left_in_both l r, s && t)) (λ p. P p × Q p)
pair-none ms h l r s t (Some i) P Q e a b = λ p w x. some_here ms h l s r t p i e (a.1 p w x.0).1 (b.1 p w x.1).1
pair-none ms h l r s t None P Q e a b = (
  IsSubholding-both ms h l r a.0 b.0,
  (λ p w x. (w.0, pair-stands ms h l s r t p a.0 b.0 e (a.1 p w x.0).1 (b.1 p w x.1).1)),
  (λ p w x. let y = stands-pair ms h l s r t p a.0 b.0 e x.1 in (a.2 p w (w.0, y.0), b.2 p w (w.0, y.1))),
)

pub pair-agrees : (ms : List Mode) (h : Holding) (a b : Answer) (P Q : Holding → Type 0) → Agrees ms h a P → Agrees ms h b Q → Agrees ms h (paired ms a b) (λ p. P p × Q p)
pair-agrees ms h None b P Q x y = λ p w z. x p w z.0
pair-agrees ms h (Some a) None P Q x y = λ p w z. y p w z.1
pair-agrees ms h (Some a) (Some b) P Q x y = pair-none ms h a.0 b.0 a.1 b.1 (newest_difference ms a.0 a.1 b.0 b.1) P Q refl x y

-- ---- the laws
pub in_turn-law : InTurn
in_turn-law ms h l r s t p a b n = (
  (λ x. turn-shares ms h l r s t p a b x),
  (λ x. turn-stands ms h l r s t p x.0 x.1 n x.2 x.3 x.4),
)

pub in_pairs-law : InPairs
in_pairs-law ms h l r s t p a b e = (
  (λ x. let y = stands-pair ms h l s r t p a b e x.1 in ((x.0, y.0), (x.0, y.1))),
  (λ x. (x.0.0, pair-stands ms h l s r t p a b e x.0.1 x.1.1)),
)

pub apart-law : Apart
apart-law ms h l r s t p some x y = by (newest_difference ms l s r t) refl
  where
    by : (o : Option ℕ) → newest_difference ms l s r t ≡ o → ⊥
    by None e = some e
    by (Some i) e = some_here ms h l s r t p i e x.1 y.1
