-- The answers at uses of variables, at what uses nothing or anything, at the end of a scope, and at arguments.
use Rattle.std.proofs.Common.{◌≡◌, ℕ, zero, suc, Bool, true, false, not, ◌&&◌, List, [], ◌∷◌, length, slice_get, None, Some, if◌then◌else◌, refl, ap, ◌∙◌, arith}
use Rattle.clf_syntax.specs.declared.tree.Mode.{Mode}
use Rattle.clf_syntax.specs.declared.tree.Mode.TheVariants.{Persistent, Affine, Linear}
use Rattle.use_contexts.specs.Holding.{Holding, WellMarked, Uses, without, is_weak, is_persistent, is_linear, all_held}
use Rattle.use_contexts.specs.Rows.{implies, within, stands, newest, older, EachWithin, EachStands, IsSubholding, Answer, Agrees, taken, is_unused}
use Rattle.use_contexts.proofs.RowAnswers.{closed, closed_all, entered}
use Rattle.use_contexts.specs.Laws.{OfUses, OfNothing, OfScopes}
use Rattle.use_contexts.proofs.Bits.{at_entry, given, given_2, given_3, and-left, and-right, and-both}

-- ---- holdings as rows of themselves
-- a holding that fits its modes is a part of itself
pub IsSubholding-self : (ms : List Mode) (h : Holding) → WellMarked ms h → IsSubholding ms h h
IsSubholding-self [] [] w = (refl, tt)
IsSubholding-self [] (x ∷ h) w = absurd w
IsSubholding-self (m ∷ ms) [] w = absurd w
IsSubholding-self (m ∷ ms) (x ∷ h) w = let r = IsSubholding-self ms h w.1 in (ap suc r.0, (own m x w.0, r.1))
  where
    own : (m : Mode) (x : Bool) → (is_persistent m ≡ true → x ≡ true) → within m x x ≡ true
    own Persistent x e = let y : x ≡ true = e refl in cc
    own Affine true e = refl
    own Affine false e = refl
    own Linear true e = refl
    own Linear false e = refl

-- and each part fits the modes too
pub WellMarked-part : (ms : List Mode) (h p : Holding) → IsSubholding ms h p → WellMarked ms p
WellMarked-part [] h [] w = tt
WellMarked-part [] h (x ∷ p) w = let e = w.0 in absurd (omega arith)
WellMarked-part (m ∷ ms) h [] w = let e = w.0 in absurd (omega arith)
WellMarked-part (m ∷ ms) h (x ∷ p) w = let e = w.0 in (held m (newest h) x w.1.0, WellMarked-part ms (older h) p (omega arith, w.1.1))
  where
    held : (m : Mode) (h x : Bool) → within m h x ≡ true → is_persistent m ≡ true → x ≡ true
    held Persistent h x e q = and-right h x e
    held Affine h x e q = cc
    held Linear h x e q = cc

-- ---- what may take anything, and what takes nothing
each-free : (ms : List Mode) (h p : Holding) → EachWithin ms h h → EachWithin ms h p → EachStands ms h h true p
each-free [] h p a w = tt
each-free (m ∷ ms) h p a w = (
  given_2 (within m (newest h) (newest h)) (within m (newest h) (newest p)) (stands m (newest h) (newest h) true (newest p))
      (at_entry (λ m h p _ _ _ _ _ _. implies (within m h h) (implies (within m h p) (stands m h h true p))) refl refl refl m (newest h) (newest p) true true true true true true) a.0 w.0,
  each-free ms (older h) (older p) a.1 w.1,
)

-- the additive unit: all is left, with slack
pub unit-agrees : (ms : List Mode) (h : Holding) → IsSubholding ms h h → Agrees ms h (Some (h, true)) (λ p. Unit {0})
unit-agrees ms h a = (a, (λ p w x. (w.0, each-free ms h p a.1 w.1)), (λ p w x. tt))

idle_stands : (m : Mode) (h p : Bool) → within m h h ≡ true → within m h p ≡ true → not (is_linear m && p) ≡ true → stands m h h false p ≡ true
idle_stands m h p a b c =
    given_3 (within m h h) (within m h p) (not (is_linear m && p)) (stands m h h false p)
    (at_entry (λ m h p _ _ _ _ _ _. implies (within m h h) (implies (within m h p) (implies (not (is_linear m && p)) (stands m h h false p)))) refl refl refl m h p true true true true true true) a b c

stands_idle : (m : Mode) (h p : Bool) → stands m h h false p ≡ true → not (is_linear m && p) ≡ true
stands_idle m h p a =
    given (stands m h h false p) (not (is_linear m && p))
    (at_entry (λ m h p _ _ _ _ _ _. implies (stands m h h false p) (not (is_linear m && p))) refl refl refl m h p true true true true true true) a

each-idle : (ms : List Mode) (h p : Holding) → length p ≡ length ms → EachWithin ms h h → EachWithin ms h p → is_weak ms p ≡ true → EachStands ms h h false p
each-idle [] h p n a w i = tt
each-idle (m ∷ ms) h [] n a w i = absurd (omega arith)
each-idle (m ∷ ms) h (x ∷ p) n a w i =
    (idle_stands m (newest h) x a.0 w.0 (and-left (not (is_linear m && x)) (is_weak ms p) i), each-idle ms (older h) p (omega arith) a.1 w.1 (and-right (not (is_linear m && x)) (is_weak ms p) i))

idle-each : (ms : List Mode) (h p : Holding) → length p ≡ length ms → EachStands ms h h false p → is_weak ms p ≡ true
idle-each [] h p n s = refl
idle-each (m ∷ ms) h [] n s = absurd (omega arith)
idle-each (m ∷ ms) h (x ∷ p) n s = and-both (not (is_linear m && x)) (is_weak ms p) (stands_idle m (newest h) x s.0) (idle-each ms (older h) p (omega arith) s.1)

-- what uses nothing, as a constant or the empty tuple: all is left, without slack
pub idle-agrees : (ms : List Mode) (h : Holding) → IsSubholding ms h h → Agrees ms h (Some (h, false)) (λ p. is_weak ms p ≡ true)
idle-agrees ms h a = (a, (λ p w x. (w.0, each-idle ms h p w.0 a.1 w.1 x)), (λ p w x. idle-each ms h p w.0 x.1))

-- ---- uses of variables
not_held : (m : Mode) (h p : Bool) → within m h p ≡ true → h ≡ false → p ≡ true → ⊥
not_held Persistent true p w e f = cc
not_held Persistent false p w e f = cc
not_held Affine true p w e f = cc
not_held Affine false true w e f = cc
not_held Affine false false w e f = cc
not_held Linear true p w e f = cc
not_held Linear false true w e f = cc
not_held Linear false false w e f = cc

each-refused : (ms : List Mode) (i : ℕ) (h p : Holding) → length p ≡ length ms → EachWithin ms h p → slice_get h i ≡ Some false → slice_get p i ≡ Some true → ⊥
each-refused [] i h [] n w e f = cc
each-refused [] i h (y ∷ p) n w e f = absurd (omega arith)
each-refused (m ∷ ms) i [] p n w e f = cc
each-refused (m ∷ ms) i (x ∷ h) [] n w e f = cc
each-refused (m ∷ ms) zero (x ∷ h) (y ∷ p) n w e f = let a : x ≡ false = cc in let b : y ≡ true = cc in not_held m x y w.0 a b
each-refused (m ∷ ms) (suc i) (x ∷ h) (y ∷ p) n w e f = each-refused ms i h p (omega arith) w.1 e f

-- a variable that is not held has no part to use
pub take-refused : (ms : List Mode) (h : Holding) (i : ℕ) → slice_get h i ≡ Some false → Agrees ms h None (λ p. Uses ms p i)
take-refused ms h i e = λ p w x. each-refused ms i h p w.0 w.1 e x.0

used : (m : Mode) (x y : Bool) → x ≡ true → y ≡ true → stands m x (is_persistent m && x) false y ≡ true
used Persistent true true e f = refl
used Affine true true e f = refl
used Linear true true e f = refl
used m false y e f = cc
used m true false e f = cc

used_back : (m : Mode) (x y : Bool) → x ≡ true → stands m x (is_persistent m && x) false y ≡ true → y ≡ true
used_back m x true e s = refl
used_back Persistent true false e s = s
used_back Affine true false e s = s
used_back Linear true false e s = s
used_back m false false e s = cc

kept : (m : Mode) (x : Bool) → within m x x ≡ true → within m x (is_persistent m && x) ≡ true
kept Persistent true w = refl
kept Persistent false w = w
kept Affine x w = refl
kept Linear x w = refl

each-kept : (ms : List Mode) (i : ℕ) (h : Holding) → EachWithin ms h h → length h ≡ length ms → EachWithin ms h (taken ms i h)
each-kept [] i h a n = tt
each-kept (m ∷ ms) i [] a n = absurd (omega arith)
each-kept (m ∷ ms) zero (x ∷ h) a n = (kept m x a.0, a.1)
each-kept (m ∷ ms) (suc i) (x ∷ h) a n = (a.0, each-kept ms i h a.1 (omega arith))

kept_length : (ms : List Mode) (i : ℕ) (h : Holding) → length (taken ms i h) ≡ length h
kept_length [] i h = refl
kept_length (m ∷ ms) i [] = refl
kept_length (m ∷ ms) zero (x ∷ h) = refl
kept_length (m ∷ ms) (suc i) (x ∷ h) = ap suc (kept_length ms i h)

each-used : (ms : List Mode) (i : ℕ) (h p : Holding) → length h ≡ length ms → length p ≡ length ms → EachWithin ms h h → EachWithin ms h p → slice_get h i ≡ Some true
    → slice_get p i ≡ Some true → is_weak ms (without i p) ≡ true → EachStands ms h (taken ms i h) false p
each-used [] i h p l n a w e f k = tt
each-used (m ∷ ms) i [] p l n a w e f k = absurd (omega arith)
each-used (m ∷ ms) i (x ∷ h) [] l n a w e f k = absurd (omega arith)
each-used (m ∷ ms) zero (x ∷ h) (y ∷ p) l n a w e f k =
    let b : x ≡ true = cc in
    let c : y ≡ true = cc in
    (used m x y b c, each-idle ms h p (omega arith) a.1 w.1 (and-right (not (is_linear m && false)) (is_weak ms p) k))
each-used (m ∷ ms) (suc i) (x ∷ h) (y ∷ p) l n a w e f k = (
  idle_stands m x y a.0 w.0 (and-left (not (is_linear m && y)) (is_weak ms (without i p)) k),
  each-used ms i h p (omega arith) (omega arith) a.1 w.1 e f (and-right (not (is_linear m && y)) (is_weak ms (without i p)) k),
)

not_linear_unheld : (m : Mode) → not (is_linear m && false) ≡ true
not_linear_unheld Persistent = refl
not_linear_unheld Affine = refl
not_linear_unheld Linear = refl

used-each : (ms : List Mode) (i : ℕ) (h p : Holding) → length h ≡ length ms → length p ≡ length ms → slice_get h i ≡ Some true → EachStands ms h (taken ms i h) false p
    → (slice_get p i ≡ Some true) × (is_weak ms (without i p) ≡ true)
used-each [] i [] p l n e s = cc
used-each [] i (x ∷ h) p l n e s = absurd (omega arith)
used-each (m ∷ ms) i [] p l n e s = absurd (omega arith)
used-each (m ∷ ms) i (x ∷ h) [] l n e s = absurd (omega arith)
used-each (m ∷ ms) zero (x ∷ h) (y ∷ p) l n e s =
    let b : x ≡ true = cc in
    (ap Some (used_back m x y b s.0), and-both (not (is_linear m && false)) (is_weak ms p) (not_linear_unheld m) (idle-each ms h p (omega arith) s.1))
used-each (m ∷ ms) (suc i) (x ∷ h) (y ∷ p) l n e s =
    let r = used-each ms i h p (omega arith) (omega arith) e s.1 in
    (r.0, and-both (not (is_linear m && y)) (is_weak ms (without i p)) (stands_idle m x y s.0) r.1)

-- a variable that is held is used, and all else is left
pub take-agrees : (ms : List Mode) (h : Holding) (i : ℕ) → IsSubholding ms h h → slice_get h i ≡ Some true → Agrees ms h (Some (taken ms i h, false)) (λ p. Uses ms p i)
take-agrees ms h i a e = (
  (kept_length ms i h ∙ a.0, each-kept ms i h a.1 a.0),
  (λ p w x. (w.0, each-used ms i h p a.0 w.0 a.1 w.1 e x.0 x.1)),
  (λ p w x. used-each ms i h p a.0 w.0 e x.1),
)

-- ---- scopes
unused_stands : (m : Mode) (l s : Bool) → within m true l ≡ true → is_unused m l s ≡ false → stands m true l s true ≡ true
unused_stands Persistent true s w e = refl
unused_stands Persistent false s w e = cc
unused_stands Affine true s w e = refl
unused_stands Affine false s w e = refl
unused_stands Linear true true w e = refl
unused_stands Linear true false w e = cc
unused_stands Linear false s w e = refl

stands_unused : (m : Mode) (l s : Bool) → is_unused m l s ≡ true → stands m true l s true ≡ true → ⊥
stands_unused Persistent l s e a = cc
stands_unused Affine l s e a = cc
stands_unused Linear true true e a = cc
stands_unused Linear true false e a = cc
stands_unused Linear false s e a = cc

within_held : (m : Mode) → within m true true ≡ true
within_held Persistent = refl
within_held Affine = refl
within_held Linear = refl

length-later : (ms : List Mode) (m : Mode) (l : Holding) → length l ≡ length (m ∷ ms) → length (older l) ≡ length ms
length-later ms m [] e = absurd (omega arith)
length-later ms m (x ∷ l) e = omega arith

closes : (m : Mode) (ms : List Mode) (h l : Holding) (s : Bool) (P : Holding → Type 0) (b : Bool) → is_unused m (newest l) s ≡ b
    → Agrees (m ∷ ms) (true ∷ h) (Some (l, s)) P → Agrees ms h (if b then None else Some (older l, s)) (λ p. P (true ∷ p))
closes m ms h l s P false e a = (
  (length-later ms m l a.0.0, a.0.1.1),
  (λ p w x. let y = a.1 (true ∷ p) (ap suc w.0, (within_held m, w.1)) x in (w.0, y.1.1)),
  (λ p w x. a.2 (true ∷ p) (ap suc w.0, (within_held m, w.1)) (ap suc w.0, (unused_stands m (newest l) s a.0.1.0 e, x.1))),
)
closes m ms h l s P true e a = λ p w x. stands_unused m (newest l) s e (a.1 (true ∷ p) (ap suc w.0, (within_held m, w.1)) x).1.0

-- at the end of the scope of one new entry
pub scope-agrees : (m : Mode) (ms : List Mode) (h : Holding) (r : Answer) (P : Holding → Type 0) → Agrees (m ∷ ms) (true ∷ h) r P → Agrees ms h (closed m r) (λ p. P (true ∷ p))
scope-agrees m ms h None P a = λ p w x. a (true ∷ p) (ap suc w.0, (within_held m, w.1)) x
scope-agrees m ms h (Some r) P a = closes m ms h r.0 r.1 P (is_unused m (newest r.0) r.1) refl a

-- and of several
pub scopes-agree : (ns ms : List Mode) (h : Holding) (r : Answer) (P : Holding → Type 0) → Agrees (entered ns ms) (all_held ns h) r P → Agrees ms h (closed_all ns r) (λ p. P (all_held ns p))
scopes-agree [] ms h r P a = a
scopes-agree (n ∷ ns) ms h r P a = scope-agrees n ms h (closed_all ns r) (λ p. P (all_held ns p)) (scopes-agree ns (n ∷ ms) (true ∷ h) r P a)

-- ---- the laws
pub uses-law : OfUses
uses-law ms h i p m e w = let a = take-agrees ms h i (IsSubholding-self ms h m) e in ((λ x. a.2 p w x), (λ x. a.1 p w x))

pub nothing-law : OfNothing
nothing-law ms h p m w =
    let self = IsSubholding-self ms h m in
    let a = idle-agrees ms h self in
    (((λ x. a.2 p w x), (λ x. a.1 p w x)), (w.0, each-free ms h p self.1 w.1))

pub scopes-law : OfScopes
scopes-law m ms h l s p a w = (
  (λ e. ((λ x. (ap suc w.0, (unused_stands m (newest l) s a.1.0 e, x.1))), (λ x. (w.0, x.1.1)))),
  (λ e x. stands_unused m (newest l) s e x.1.0),
)
