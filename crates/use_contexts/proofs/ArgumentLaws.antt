-- The answers of arguments: an affine one starts without the linear entries, a persistent one with the persistent entries alone.
use Rattle.std.proofs.Common.{◌≡◌, suc, Bool, true, false, not, ◌&&◌, ◌||◌, List, [], ◌∷◌, length, None, Some, if◌then◌else◌, refl, ap, sym, subst, arith}
use Rattle.clf_syntax.specs.declared.tree.Mode.{Mode}
use Rattle.clf_syntax.specs.declared.tree.Mode.TheVariants.{Persistent, Affine, Linear}
use Rattle.use_contexts.specs.Holding.{Holding, WellMarked, Split, is_weak, is_unrestricted, is_persistent, is_linear, persistent_alone, may_use, without_linear, allowed}
use Rattle.use_contexts.specs.Rows.{implies, within, stands, newest, older, EachWithin, EachStands, IsSubholding, Stands, Answer, Agrees, Shared, linear_of, outside, slack_outside}
use Rattle.use_contexts.proofs.RowAnswers.{in_turn, argued}
use Rattle.use_contexts.specs.Laws.{OfAffineArguments, OfPersistentArguments}
use Rattle.use_contexts.proofs.Bits.{at_entry, given, given_2, given_3, and-left, and-right, and-both}
use Rattle.use_contexts.proofs.Splits.{splits, EachSplit, split_each, each_split}
use Rattle.use_contexts.proofs.RowLaws.{turn-agrees, none-agrees, agrees-same, IsSubholding-stands}
use Rattle.use_contexts.proofs.UseLaws.{WellMarked-part}

-- ---- affine arguments, one entry: l is the row's mark at the begin, r the mark that is left, p the part's
abbrev restricted : Mode → Bool → Bool
restricted m l = not (is_linear m) && l

abbrev restored : Mode → Bool → Bool → Bool
restored m l r = if is_linear m then l else r

weak_within : (m : Mode) (l p : Bool) → within m l p ≡ true → not (is_linear m && p) ≡ true → within m (restricted m l) p ≡ true
weak_within m l p a b =
    given_2 (within m l p) (not (is_linear m && p)) (within m (restricted m l) p)
    (at_entry (λ m l p _ _ _ _ _ _. implies (within m l p) (implies (not (is_linear m && p)) (within m (restricted m l) p))) refl refl refl m l p true true true true true true) a b

restored_within : (m : Mode) (l r : Bool) → within m l l ≡ true → within m (restricted m l) r ≡ true → within m l (restored m l r) ≡ true
restored_within m l r a b =
    given_2 (within m l l) (within m (restricted m l) r) (within m l (restored m l r))
    (at_entry (λ m l r _ _ _ _ _ _. implies (within m l l) (implies (within m (restricted m l) r) (within m l (restored m l r)))) refl refl refl m l r true true true true true true) a b

restored_stands : (m : Mode) (l r t p : Bool) → within m l l ≡ true → not (is_linear m && p) ≡ true → stands m (restricted m l) r t p ≡ true → stands m l (restored m l r) false p ≡ true
restored_stands m l r t p a b c =
    given_3 (within m l l) (not (is_linear m && p)) (stands m (restricted m l) r t p) (stands m l (restored m l r) false p)
    (at_entry (λ m l r t p _ _ _ _. implies (within m l l) (implies (not (is_linear m && p)) (implies (stands m (restricted m l) r t p) (stands m l (restored m l r) false p)))) refl refl refl m l r t p true true true true) a b c

stands_restored : (m : Mode) (l r t p : Bool) → within m (restricted m l) r ≡ true → stands m l (restored m l r) false p ≡ true → (not (is_linear m && p) && stands m (restricted m l) r t p) ≡ true
stands_restored m l r t p a b =
    given_2 (within m (restricted m l) r) (stands m l (restored m l r) false p) (not (is_linear m && p) && stands m (restricted m l) r t p)
    (at_entry (λ m l r t p _ _ _ _. implies (within m (restricted m l) r) (implies (stands m l (restored m l r) false p) (not (is_linear m && p) && stands m (restricted m l) r t p))) refl refl refl m l r t p true true true true) a b

-- ---- affine arguments, whole rows
length-linear_of : (ms : List Mode) (l r : Holding) → length l ≡ length ms → length r ≡ length ms → length (linear_of ms l r) ≡ length ms
length-linear_of [] l r a b = refl
length-linear_of (m ∷ ms) [] r a b = absurd (omega arith)
length-linear_of (m ∷ ms) (x ∷ l) [] a b = absurd (omega arith)
length-linear_of (m ∷ ms) (x ∷ l) (y ∷ r) a b = ap suc (length-linear_of ms l r (omega arith) (omega arith))

each-restricted : (ms : List Mode) (l p : Holding) → length l ≡ length ms → length p ≡ length ms → EachWithin ms l p → is_weak ms p ≡ true → EachWithin ms (without_linear ms l) p
each-restricted [] l p a b w k = tt
each-restricted (m ∷ ms) [] p a b w k = absurd (omega arith)
each-restricted (m ∷ ms) (x ∷ l) [] a b w k = absurd (omega arith)
each-restricted (m ∷ ms) (x ∷ l) (y ∷ p) a b w k =
    (weak_within m x y w.0 (and-left (not (is_linear m && y)) (is_weak ms p) k), each-restricted ms l p (omega arith) (omega arith) w.1 (and-right (not (is_linear m && y)) (is_weak ms p) k))

each-restored : (ms : List Mode) (l r : Holding) → length l ≡ length ms → length r ≡ length ms → EachWithin ms l l → EachWithin ms (without_linear ms l) r → EachWithin ms l (linear_of ms l r)
each-restored [] l r a b w v = tt
each-restored (m ∷ ms) [] r a b w v = absurd (omega arith)
each-restored (m ∷ ms) (x ∷ l) [] a b w v = absurd (omega arith)
each-restored (m ∷ ms) (x ∷ l) (y ∷ r) a b w v = (restored_within m x y w.0 v.0, each-restored ms l r (omega arith) (omega arith) w.1 v.1)

affine_stands : (ms : List Mode) (l r : Holding) (t : Bool) (p : Holding) → length l ≡ length ms → length r ≡ length ms → length p ≡ length ms → EachWithin ms l l → is_weak ms p ≡ true
    → EachStands ms (without_linear ms l) r t p → EachStands ms l (linear_of ms l r) false p
affine_stands [] l r t p a b c w k s = tt
affine_stands (m ∷ ms) [] r t p a b c w k s = absurd (omega arith)
affine_stands (m ∷ ms) (x ∷ l) [] t p a b c w k s = absurd (omega arith)
affine_stands (m ∷ ms) (x ∷ l) (y ∷ r) t [] a b c w k s = absurd (omega arith)
affine_stands (m ∷ ms) (x ∷ l) (y ∷ r) t (z ∷ p) a b c w k s = (
  restored_stands m x y t z w.0 (and-left (not (is_linear m && z)) (is_weak ms p) k) s.0,
  affine_stands ms l r t p (omega arith) (omega arith) (omega arith) w.1 (and-right (not (is_linear m && z)) (is_weak ms p) k) s.1,
)

stands_affine : (ms : List Mode) (l r : Holding) (t : Bool) (p : Holding) → length l ≡ length ms → length r ≡ length ms → length p ≡ length ms → EachWithin ms (without_linear ms l) r
    → EachStands ms l (linear_of ms l r) false p → (is_weak ms p ≡ true) × EachStands ms (without_linear ms l) r t p
stands_affine [] l r t p a b c w s = (refl, tt)
stands_affine (m ∷ ms) [] r t p a b c w s = absurd (omega arith)
stands_affine (m ∷ ms) (x ∷ l) [] t p a b c w s = absurd (omega arith)
stands_affine (m ∷ ms) (x ∷ l) (y ∷ r) t [] a b c w s = absurd (omega arith)
stands_affine (m ∷ ms) (x ∷ l) (y ∷ r) t (z ∷ p) a b c w s =
    let here = stands_restored m x y t z w.0 s.0 in
    let rest = stands_affine ms l r t p (omega arith) (omega arith) (omega arith) w.1 s.1 in (
      and-both (not (is_linear m && z)) (is_weak ms p) (and-left (not (is_linear m && z)) (stands m (restricted m x) y t z) here) rest.0,
      (and-right (not (is_linear m && z)) (stands m (restricted m x) y t z) here, rest.1),
    )

pub affine-agrees : (ms : List Mode) (l : Holding) (r : Answer) (Q : Holding → Type 0) → IsSubholding ms l l → Agrees ms (without_linear ms l) r Q
    → Agrees ms l (argued Affine ms l r) (λ k. (is_weak ms k ≡ true) × Q k)
affine-agrees ms l None Q a b = λ p w x. b p (w.0, each-restricted ms l p a.0 w.0 w.1 x.0) x.1
affine-agrees ms l (Some r) Q a b = (
  (length-linear_of ms l r.0 a.0 b.0.0, each-restored ms l r.0 a.0 b.0.0 a.1 b.0.1),
  (λ p w x. let y = b.1 p (w.0, each-restricted ms l p a.0 w.0 w.1 x.0) x.1 in (w.0, affine_stands ms l r.0 r.1 p a.0 b.0.0 w.0 a.1 x.0 y.1)),
  (λ p w x.
      let y = stands_affine ms l r.0 r.1 p a.0 b.0.0 w.0 b.0.1 x.1 in
      (y.0, b.2 p (IsSubholding-stands ms (without_linear ms l) r.0 r.1 p (w.0, y.1)) (w.0, y.1))),
)

-- ---- persistent arguments
pub alone_length : (ms : List Mode) → length (persistent_alone ms) ≡ length ms
alone_length [] = refl
alone_length (m ∷ ms) = ap suc (alone_length ms)

alone_within : (ms : List Mode) → EachWithin ms (persistent_alone ms) (persistent_alone ms)
alone_within [] = tt
alone_within (Persistent ∷ ms) = (refl, alone_within ms)
alone_within (Affine ∷ ms) = (refl, alone_within ms)
alone_within (Linear ∷ ms) = (refl, alone_within ms)

pub alone_part : (ms : List Mode) → IsSubholding ms (persistent_alone ms) (persistent_alone ms)
alone_part ms = (alone_length ms, alone_within ms)

pub alone_bare : (ms : List Mode) → is_unrestricted ms (persistent_alone ms) ≡ true
alone_bare [] = refl
alone_bare (Persistent ∷ ms) = alone_bare ms
alone_bare (Affine ∷ ms) = alone_bare ms
alone_bare (Linear ∷ ms) = alone_bare ms

alone_entry : (m : Mode) (r t : Bool) → within m (is_persistent m) r ≡ true → stands m (is_persistent m) r t (is_persistent m) ≡ true
alone_entry m r t a =
    given (within m (is_persistent m) r) (stands m (is_persistent m) r t (is_persistent m))
    (at_entry (λ m r t _ _ _ _ _ _. implies (within m (is_persistent m) r) (stands m (is_persistent m) r t (is_persistent m))) refl refl refl m r t true true true true true true) a

alone_each : (ms : List Mode) (r : Holding) (t : Bool) → EachWithin ms (persistent_alone ms) r → EachStands ms (persistent_alone ms) r t (persistent_alone ms)
alone_each [] r t w = tt
alone_each (m ∷ ms) r t w = (alone_entry m (newest r) t w.0, alone_each ms (older r) t w.1)

pub alone_stands : (ms : List Mode) (r : Holding) (t : Bool) → IsSubholding ms (persistent_alone ms) r → Stands ms (persistent_alone ms) r t (persistent_alone ms)
alone_stands ms r t w = (alone_length ms, alone_each ms r t w.1)

bare_entry : (m : Mode) (k : Bool) → (is_persistent m ≡ true → k ≡ true) → not (not (is_persistent m) && k) ≡ true → k ≡ is_persistent m
bare_entry Persistent k e b = e refl
bare_entry Affine true e b = sym b
bare_entry Affine false e b = refl
bare_entry Linear true e b = sym b
bare_entry Linear false e b = refl

-- a holding without linear and affine entries has the persistent ones alone
pub bare_is_alone : (ms : List Mode) (k : Holding) → WellMarked ms k → is_unrestricted ms k ≡ true → k ≡ persistent_alone ms
bare_is_alone [] [] w b = refl
bare_is_alone [] (x ∷ k) w b = absurd w
bare_is_alone (m ∷ ms) [] w b = absurd w
bare_is_alone (m ∷ ms) (x ∷ k) w b =
    let here = bare_entry m x w.0 (and-left (not (not (is_persistent m) && x)) (is_unrestricted ms k) b) in
    let rest = bare_is_alone ms k w.1 (and-right (not (not (is_persistent m) && x)) (is_unrestricted ms k) b) in
    cc (here, rest)

marked_entry : (m : Mode) (p g k : Bool) → splits m p g k ≡ true → is_persistent m ≡ true → k ≡ true
marked_entry Persistent p g k s e = and-right (p && g) k s
marked_entry Affine p g k s e = cc
marked_entry Linear p g k s e = cc

split_marked : (ms : List Mode) (p g k : Holding) → length k ≡ length ms → EachSplit ms p g k → WellMarked ms k
split_marked [] p g [] n s = tt
split_marked [] p g (x ∷ k) n s = absurd (omega arith)
split_marked (m ∷ ms) p g [] n s = absurd (omega arith)
split_marked (m ∷ ms) p g (x ∷ k) n s = (marked_entry m (newest p) (newest g) x s.0, split_marked ms (older p) (older g) k (omega arith) s.1)

swapped_entry : (m : Mode) (p g k : Bool) → splits m p g k ≡ true → splits m p k g ≡ true
swapped_entry m p g k a =
    given (splits m p g k) (splits m p k g) (at_entry (λ m p g k _ _ _ _ _. implies (splits m p g k) (splits m p k g)) refl refl refl m p g k true true true true true) a

each_swapped : (ms : List Mode) (p g k : Holding) → EachSplit ms p g k → EachSplit ms p k g
each_swapped [] p g k s = tt
each_swapped (m ∷ ms) p g k s = (swapped_entry m (newest p) (newest g) (newest k) s.0, each_swapped ms (older p) (older g) (older k) s.1)

rest_entry : (m : Mode) (p g : Bool) → splits m p g (is_persistent m) ≡ true → g ≡ p
rest_entry Persistent true true s = refl
rest_entry Persistent true false s = s
rest_entry Persistent false g s = cc
rest_entry Affine true true s = refl
rest_entry Affine false false s = refl
rest_entry Affine true false s = cc
rest_entry Affine false true s = cc
rest_entry Linear true true s = refl
rest_entry Linear false false s = refl
rest_entry Linear true false s = cc
rest_entry Linear false true s = cc

-- what is left beside the persistent entries alone is all
rest_is_all : (ms : List Mode) (p g : Holding) → length p ≡ length ms → length g ≡ length ms → EachSplit ms p g (persistent_alone ms) → g ≡ p
rest_is_all [] [] [] a b s = refl
rest_is_all [] (x ∷ p) g a b s = absurd (omega arith)
rest_is_all [] [] (y ∷ g) a b s = absurd (omega arith)
rest_is_all (m ∷ ms) [] g a b s = absurd (omega arith)
rest_is_all (m ∷ ms) (x ∷ p) [] a b s = absurd (omega arith)
rest_is_all (m ∷ ms) (x ∷ p) (y ∷ g) a b s =
    let here = rest_entry m x y s.0 in
    let rest = rest_is_all ms p g (omega arith) (omega arith) s.1 in
    cc (here, rest)

all_entry : (m : Mode) (p : Bool) → (is_persistent m ≡ true → p ≡ true) → splits m p p (is_persistent m) ≡ true
all_entry Persistent p e = let q : p ≡ true = e refl in cc
all_entry Affine true e = refl
all_entry Affine false e = refl
all_entry Linear true e = refl
all_entry Linear false e = refl

all_and_alone : (ms : List Mode) (p : Holding) → WellMarked ms p → EachSplit ms p p (persistent_alone ms)
all_and_alone [] p w = tt
all_and_alone (m ∷ ms) [] w = absurd w
all_and_alone (m ∷ ms) (x ∷ p) w = (all_entry m x w.0, all_and_alone ms p w.1)

-- a bare second part is the persistent entries alone, and the first part is all
bare_second : (ms : List Mode) (p g k : Holding) → length p ≡ length ms → Split ms p g k → is_unrestricted ms k ≡ true → (k ≡ persistent_alone ms) × (g ≡ p)
bare_second ms p g k n s b =
    let e = split_each ms p g k s in
    let alone = bare_is_alone ms k (split_marked ms p g k e.2 e.0) b in
    (alone, rest_is_all ms p g n e.1 (subst (EachSplit ms p g) alone e.0))

bare_first : (ms : List Mode) (p g k : Holding) → length p ≡ length ms → Split ms p g k → is_unrestricted ms g ≡ true → (g ≡ persistent_alone ms) × (k ≡ p)
bare_first ms p g k n s b =
    let e = split_each ms p g k s in
    bare_second ms p k g n (each_split ms p k g n e.2 e.1 (each_swapped ms p g k e.0)) b

or-false : (s : Bool) → (s || false) ≡ s
or-false true = refl
or-false false = refl

persistent_argument : (ms : List Mode) (h l : Holding) (s : Bool) (r : Answer) (P Q : Holding → Type 0) → Agrees ms h (Some (l, s)) P → Agrees ms (persistent_alone ms) r Q
    → Agrees ms h (in_turn (argued Persistent ms l r) s) (Shared ms P (λ k. (is_unrestricted ms k ≡ true) × Q k))
persistent_argument ms h l s None P Q a b = λ p w x.
    let y = bare_second ms p x.0 x.1 w.0 x.2 x.4.0 in
    b (persistent_alone ms) (alone_part ms) (subst Q y.0 x.4.1)
persistent_argument ms h l s (Some r) P Q a b =
    let X : Holding → Type 0 = Shared ms P (λ k. (is_unrestricted ms k ≡ true) × Q k) in
    let whole : Agrees ms h (Some (l, s)) X = (
      a.0,
      (λ p w x. a.1 p w (subst P (bare_second ms p x.0 x.1 w.0 x.2 x.4.0).1 x.3)),
      (λ p w x. (
        p,
        persistent_alone ms,
        each_split ms p p (persistent_alone ms) w.0 w.0 (alone_length ms) (all_and_alone ms p (WellMarked-part ms h p w)),
        a.2 p w x,
        (alone_bare ms, b.2 (persistent_alone ms) (alone_part ms) (alone_stands ms r.0 r.1 b.0)),
      )),
    ) in
    subst (λ (c : Bool). Agrees ms h (Some (l, c)) X) (sym (or-false s)) whole

persistent_entry_none : (ms : List Mode) (h : Holding) (P Q : Holding → Type 0) → Agrees ms (persistent_alone ms) None P → Agrees ms h None (Shared ms (λ k. (is_unrestricted ms k ≡ true) × P k) Q)
persistent_entry_none ms h P Q a = λ p w x.
    let y = bare_first ms p x.0 x.1 w.0 x.2 x.3.0 in
    a (persistent_alone ms) (alone_part ms) (subst P y.0 x.3.1)

persistent_entry : (ms : List Mode) (h r : Holding) (t : Bool) (b : Answer) (P Q : Holding → Type 0) → Agrees ms (persistent_alone ms) (Some (r, t)) P → Agrees ms h b Q
    → Agrees ms h (in_turn b false) (Shared ms (λ k. (is_unrestricted ms k ≡ true) × P k) Q)
persistent_entry ms h r t None P Q a b = λ p w x. b p w (subst Q (bare_first ms p x.0 x.1 w.0 x.2 x.3.0).1 x.4)
persistent_entry ms h r t (Some c) P Q a b = (
  b.0,
  (λ p w x. b.1 p w (subst Q (bare_first ms p x.0 x.1 w.0 x.2 x.3.0).1 x.4)),
  (λ p w x. (
    persistent_alone ms,
    p,
    each_split ms p (persistent_alone ms) p w.0 (alone_length ms) w.0 (each_swapped ms p p (persistent_alone ms) (all_and_alone ms p (WellMarked-part ms h p w))),
    (alone_bare ms, a.2 (persistent_alone ms) (alone_part ms) (alone_stands ms r t a.0)),
    b.2 p w x,
  )),
)

-- ---- arguments of all modes
-- after what left the row l: the part that the argument gets is one that its mode allows
pub argument-agrees : (m : Mode) (ms : List Mode) (h l : Holding) (s : Bool) (r : Answer) (P Q : Holding → Type 0) → IsSubholding ms l l → Agrees ms h (Some (l, s)) P → Agrees ms (allowed m ms l) r Q
    → Agrees ms h (in_turn (argued m ms l r) s) (Shared ms P (λ k. (may_use m ms k ≡ true) × Q k))
argument-agrees Persistent ms h l s r P Q w a b = persistent_argument ms h l s r P Q a b
argument-agrees Affine ms h l s r P Q w a b =
    turn-agrees ms h l s (argued Affine ms l r) P (λ k. (is_weak ms k ≡ true) × Q k) a (affine-agrees ms l r Q w b)
argument-agrees Linear ms h l s None P Q w a b =
    turn-agrees ms h l s None P (λ k. (true ≡ true) × Q k) a (agrees-same ms l None Q (λ k. (true ≡ true) × Q k) (λ k x. (refl, x)) (λ k x. x.1) b)
argument-agrees Linear ms h l s (Some r) P Q w a b =
    turn-agrees ms h l s (Some r) P (λ k. (true ≡ true) × Q k) a (agrees-same ms l (Some r) Q (λ k. (true ≡ true) × Q k) (λ k x. (refl, x)) (λ k x. x.1) b)

-- before the rest of a tuple: an entry that has no answer
pub entry-refused : (m : Mode) (ms : List Mode) (h : Holding) (P Q : Holding → Type 0) → IsSubholding ms h h → Agrees ms (allowed m ms h) None P
    → Agrees ms h None (Shared ms (λ k. (may_use m ms k ≡ true) × P k) Q)
entry-refused Persistent ms h P Q w a = persistent_entry_none ms h P Q a
entry-refused Affine ms h P Q w a = none-agrees ms h (λ k. (is_weak ms k ≡ true) × P k) Q (affine-agrees ms h None P w a)
entry-refused Linear ms h P Q w a = none-agrees ms h (λ k. (true ≡ true) × P k) Q (agrees-same ms h None P (λ k. (true ≡ true) × P k) (λ k x. (refl, x)) (λ k x. x.1) a)

-- and one that has, with the answer b of the rest, which starts from the row outside the entry
pub entry-agrees : (m : Mode) (ms : List Mode) (h r : Holding) (t : Bool) (b : Answer) (P Q : Holding → Type 0) → IsSubholding ms h h → Agrees ms (allowed m ms h) (Some (r, t)) P
    → Agrees ms (outside m ms h r) b Q → Agrees ms h (in_turn b (slack_outside m t)) (Shared ms (λ k. (may_use m ms k ≡ true) × P k) Q)
entry-agrees Persistent ms h r t b P Q w a c = persistent_entry ms h r t b P Q a c
entry-agrees Affine ms h r t b P Q w a c =
    turn-agrees ms h (linear_of ms h r) false b (λ k. (is_weak ms k ≡ true) × P k) Q (affine-agrees ms h (Some (r, t)) P w a) c
entry-agrees Linear ms h r t b P Q w a c =
    turn-agrees ms h r t b (λ k. (true ≡ true) × P k) Q (agrees-same ms h (Some (r, t)) P (λ k. (true ≡ true) × P k) (λ k x. (refl, x)) (λ k x. x.1) a) c

-- ---- the laws
pub affine-law : OfAffineArguments
affine-law ms l r t p a b n = (
  (λ x. let y = stands_affine ms l r t p a.0 b.0 n b.1 x.1 in (y.0, (n, y.1))),
  (λ x. (n, affine_stands ms l r t p a.0 b.0 n a.1 x.0 x.1.1)),
)

pub persistent-law : OfPersistentArguments
persistent-law ms r t k a w b = let e = bare_is_alone ms k w b in (e, subst (Stands ms (persistent_alone ms) r t) (sym e) (alone_stands ms r t a))
