-- The search for a local binder, and the oldest binders alone.
use Rattle.std.specs.Prelude.{ℕ, ◌+◌, ◌-◌, true, false, ◌≡◌, ◌<◌, List, [], ◌∷◌, ◌++◌, map, reverse, length, take, drop, get_or, Option, None, Some, refl}
use Rattle.std.proofs.Common.{◌≤◌, ap, sym, ◌∙◌, arith}
use Rattle.std.proofs.Math.Seq.{take-length, drop-append_seam}
use Rattle.std.proofs.lemmas.List.{take_more, take_all, map-append, reverse-append, length-reverse, length-map, length-drop, take-append-drop}
use Rattle.clf_syntax.specs.declared.tree.Head.TheVariants.{Var}
use Rattle.celf_places.specs.Heads.{Local, Typed, has_name, local_from}
use Rattle.celf_places.specs.Locals.{Declared, plain_place, plain_local, plain_locals}

-- the newest of one more
newest : {X Y : Type 0} (f : X → Y) (xs : List X) (i : ℕ) (x : X) → i < length xs → x ≡ get_or xs i x → reverse (map f (take (i + 1) xs)) ≡ f x ∷ reverse (map f (take i xs))
newest f xs i x h e = rw (take_more xs i x h, ← e, map-append f (take i xs) (x ∷ []), reverse-append (map f (take i xs)) (f x ∷ [])) refl

-- the locals of the front of a list, the newest first
abbrev pub oldest : {W : Type 0} → (W → Declared) → ℕ → List W → List Local
oldest view left ws = plain_locals (reverse (map view (take left ws)))

-- The search for a local, from the newest one on: at first all are left.
pub all_left : {W : Type 0} (view : W → Declared) (name : List ℕ) (ws : List W) (self : List Declared) (left : ℕ) → left ≡ length ws → reverse (map view ws) ≡ self
    → (left ≤ length ws) × (local_from 0 name (oldest view left ws) ≡ local_from 0 name (plain_locals self))
all_left view name ws self left n v = (omega arith, rw (n, take-length ws, v) refl)

-- it is the newest of those that are left
pub is_newest : {W : Type 0} (view : W → Declared) (name : List ℕ) (k : ℕ) (ws slice : List W) (left : ℕ) (w : W) (whole : Option Typed) → slice ≡ ws → 0 < left → left ≤ length ws → w ≡ get_or slice (left - 1) w
    → has_name name (plain_local (view w)) ≡ true → local_from k name (oldest view left ws) ≡ whole → Some (Var k, plain_place (view w).1) ≡ whole
is_newest view name k ws slice left w whole s p l e q inv =
    let next : (left - 1) + 1 ≡ left = omega arith in
    let here : w ≡ get_or ws (left - 1) w = rw (← s) e in
    let one : oldest view ((left - 1) + 1) ws ≡ plain_local (view w) ∷ oldest view (left - 1) ws = ap plain_locals (newest view ws (left - 1) w (omega arith) here) in
    let found : local_from k name (oldest view ((left - 1) + 1) ws) ≡ Some (Var k, plain_place (view w).1) = rw (one, q) refl in
    sym found ∙ rw next inv

-- it is among the others
pub is_older : {W : Type 0} (view : W → Declared) (name : List ℕ) (k : ℕ) (ws slice : List W) (left : ℕ) (w : W) (whole : Option Typed) → slice ≡ ws → 0 < left → left ≤ length ws → w ≡ get_or slice (left - 1) w
    → has_name name (plain_local (view w)) ≡ false → local_from k name (oldest view left ws) ≡ whole → (left - 1 ≤ length ws) × (local_from (k + 1) name (oldest view (left - 1) ws) ≡ whole)
is_older view name k ws slice left w whole s p l e q inv =
    let next : (left - 1) + 1 ≡ left = omega arith in
    let here : w ≡ get_or ws (left - 1) w = rw (← s) e in
    let one : oldest view ((left - 1) + 1) ws ≡ plain_local (view w) ∷ oldest view (left - 1) ws = ap plain_locals (newest view ws (left - 1) w (omega arith) here) in
    let past : local_from k name (oldest view ((left - 1) + 1) ws) ≡ local_from (k + 1) name (oldest view (left - 1) ws) = rw (one, q) refl in
    (omega arith, sym past ∙ rw next inv)

-- none is left
pub none_left : {W : Type 0} (view : W → Declared) (name : List ℕ) (k : ℕ) (ws : List W) (left : ℕ) (whole : Option Typed) → left ≤ 0 → local_from k name (oldest view left ws) ≡ whole → None ≡ whole
none_left view name k ws left whole z inv = let empty : left ≡ 0 = omega arith in rw empty at inv

-- as many as the new ones are dropped
dropped : {X : Type 0} (front old : List X) (n : ℕ) → n ≡ length front → drop n (front ++ old) ≡ old
dropped front old n e = rw e (drop-append_seam front old)

-- The oldest ones are the last in a list that has the newest first.
pub kept_oldest : {W X : Type 0} (f : W → X) (n : ℕ) (left ws : List W) (seen : List X) → length left ≤ n → take n left ≡ take n ws → reverse (map f ws) ≡ seen
    → reverse (map f left) ≡ drop (length seen - n) seen
kept_oldest f n left ws seen h e v =
    let parts : take n ws ++ drop n ws ≡ ws = take-append-drop n ws in
    let front : left ≡ take n ws = sym (take_all n left h) ∙ e in
    let whole : seen ≡ reverse (map f (drop n ws)) ++ reverse (map f left) =
    sym v ∙ ap (λ x. reverse (map f x)) (sym parts) ∙ ap reverse (map-append f (take n ws) (drop n ws)) ∙ reverse-append (map f (take n ws)) (map f (drop n ws)) ∙ ap (λ x. reverse (map f (drop n ws)) ++ reverse (map f x)) (sym front) in
    let newer : length (reverse (map f (drop n ws))) ≡ length ws - n = length-reverse (map f (drop n ws)) ∙ length-map (drop n ws) f ∙ length-drop n ws in
    let all : length seen ≡ length ws = ap length (sym v) ∙ length-reverse (map f ws) ∙ length-map ws f in
    sym (dropped (reverse (map f (drop n ws))) (reverse (map f left)) (length seen - n) (ap (λ k. k - n) all ∙ sym newer)) ∙ ap (drop (length seen - n)) (sym whole)
