-- Heads under more binders in front: where a tree mentions none of the newer ones, its heads rise past them.
use Rattle.std.specs.Prelude.{ℕ, ◌+◌, ◌-◌, ◌≡◌, ◌≤◌, ◌==◌, nat_lt, if◌then◌else◌, cond, not, List, [], ◌∷◌, ◌++◌, length, refl, Option, Some, None, Bool, true, false}
use Rattle.std.specs.List.{position, position_or_len, prefix_len}
use Rattle.std.proofs.Common.{arith, ap, ◌∙◌, length-append}
use Rattle.std.proofs.lemmas.Grind.{common_steps}
use Rattle.std.proofs.lemmas.List.Sums.{prefix_len-le-length}
use Rattle.clf_syntax.specs.declared.tree.Head.{Head}
use Rattle.clf_syntax.specs.declared.tree.Head.TheVariants.{Const, Var, Meta}
use Rattle.clf_syntax.specs.Renaming.{ren_head, lifted, up}
use Rattle.celf_front.specs.InFront.{binder_at, bound_head, front_head}
use Rattle.celf_front.specs.Mentions.{binder_in}

passed_all : (q : ℕ → Bool) (xs ys : List ℕ) → prefix_len q xs ≡ length xs → prefix_len q (xs ++ ys) ≡ length xs + prefix_len q ys
passed_all q [] ys e = omega arith
passed_all q (x ∷ xs) ys e = first_of_all (passed_all q xs ys) (q x) e
  where
    first_of_all : (prefix_len q xs ≡ length xs → prefix_len q (xs ++ ys) ≡ length xs + prefix_len q ys) → (b : Bool) → cond b (1 + prefix_len q xs) 0 ≡ length (x ∷ xs) → cond b (1 + prefix_len q (xs ++ ys)) 0 ≡ length (x ∷ xs) + prefix_len q ys
    first_of_all rest true f = let all : prefix_len q xs ≡ length xs = omega arith in let whole = rest all in omega arith
    first_of_all rest false f = absurd (omega arith)

abbrev pub past : ℕ → Option ℕ → Option ℕ
past k None = None
past k (Some j) = Some (k + j)

pub none_found : (m n : ℕ) → m ≤ n → cond (nat_lt m n) (Some m) None ≡ None → m ≡ n
none_found m n most none = grind (arith, common_steps)

found_past : (k m n : ℕ) → cond (nat_lt (k + m) (k + n)) (Some (k + m)) None ≡ past k (cond (nat_lt m n) (Some m) None)
found_past k m n = grind (arith, common_steps)

pub position_past : (p : ℕ → Bool) (xs ys : List ℕ) → position p xs ≡ None → position p (xs ++ ys) ≡ past (length xs) (position p ys)
position_past p xs ys none =
    let all = none_found (position_or_len p xs) (length xs) (prefix_len-le-length (λ x. not (p x)) xs) none in
    let whole : position_or_len p (xs ++ ys) ≡ length xs + position_or_len p ys = passed_all (λ x. not (p x)) xs ys all in
    rw (whole, length-append xs ys) (found_past (length xs) (position_or_len p ys) (length ys))

pub binder_past : (n c : ℕ) (newer older : List ℕ) → binder_at n newer c ≡ None → binder_at n (newer ++ older) c ≡ past (length newer) (binder_at n older c)
binder_past n c newer older none = either (nat_lt c n) none
  where
    either : (b : Bool) → (if b then None else position (λ x. x == c - n) newer) ≡ None → (if b then None else position (λ x. x == c - n) (newer ++ older)) ≡ past (length newer) (if b then None else position (λ x. x == c - n) older)
    either true f = refl
    either false f = position_past (λ x. x == c - n) newer older f

bound_past : (c k d : ℕ) (r : Option ℕ) → bound_head c (past k r) d ≡ ren_head (lifted d (up k)) (bound_head c r d)
bound_past c k d None = refl
bound_past c k d (Some j) = ap Var (grind arith)

others_past : (k m d i : ℕ) → (if nat_lt i d then Var i else Var (i + (k + m))) ≡ ren_head (lifted d (up k)) (if nat_lt i d then Var i else Var (i + m))
others_past k m d i = grind (arith, common_steps)

pub raised_past : (n : ℕ) (newer older : List ℕ) (h : Head) → binder_in n newer h ≡ None → (d : ℕ) → front_head n (newer ++ older) d h ≡ ren_head (lifted d (up (length newer))) (front_head n older d h)
raised_past n newer older (Const c) none d = ap (λ r. bound_head c r d) (binder_past n c newer older none) ∙ bound_past c (length newer) d (binder_at n older c)
raised_past n newer older (Var i) none d = rw (length-append newer older) (others_past (length newer) (length older) d i)
raised_past n newer older (Meta m) none d = refl
