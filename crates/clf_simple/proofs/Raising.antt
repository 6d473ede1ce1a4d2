-- What can still be written past more lambdas, and what stays as it is past 2^32 of them.
use Rattle.std.proofs.Common.{◌≡◌, ℕ, ◌+◌, ◌≤◌, Bool, true, false, ◌&&◌, refl, sym, ap, ◌∙◌, arith}
use Rattle.std.proofs.lemmas.Grind.{common_steps}
use Rattle.std.specs.Prelude.{length, Result, Ok, Err}
use Rattle.std.specs.Result.{IsErrAnd}
use Rattle.clf_syntax.specs.declared.fault.Or.{Or}
use Rattle.clf_syntax.specs.declared.fault.Or.TheVariants.{Fault, NoMemory}
use Rattle.clf_syntax.specs.declared.fault.TooFar.{TooFar}
use Rattle.clf_syntax.specs.declared.tree.Neutral.{Neutral}
use Rattle.clf_syntax.specs.declared.tree.Head.{Head}
use Rattle.clf_syntax.specs.declared.tree.Head.TheVariants.{Const, Var, Meta}
use Rattle.clf_syntax.specs.Tree.{PlainObject, lam, pair, unit, monadic, atomic, hole, PlainNeutral, head_alone, app, fst, snd, PlainExpression, step, done, PlainTuple, empty, entry}
use Rattle.clf_syntax.specs.Renaming.{ren_head, lifted, ren_neutral, up}
use Rattle.clf_syntax.specs.Renumbered.{renumber, renumber_neutral, renumber_expression, renumber_tuple}
use Rattle.clf_syntax.specs.Plain.{plain_neutral}
use Rattle.clf_syntax.specs.Shift.{shift_neutral}
use Rattle.clf_syntax.specs.Written.{Writes, fits, fits_head, fits_neutral, fits_expression, fits_tuple}
use Rattle.clf_simple.proofs.Passing.{passed}
use Rattle.clf_syntax.proofs.RenamingLaws.{ext, composed_neutral, pairs, apps, binds, entries}
use Rattle.clf_syntax.proofs.Renumbered.{renumber-ren_neutral, lifted-none}
use Rattle.clf_syntax.proofs.ShiftLaws.{shift-ren_neutral}

both : (a b : Bool) → a && b ≡ true → (a ≡ true) × (b ≡ true)
both true b e = (refl, e)
both false b e = (e, absurd (cc))

joined : {a b : Bool} → a ≡ true → b ≡ true → a && b ≡ true
joined {a} {b} e f = ap (λ x. x && b) e ∙ f

-- ---- what is written past more lambdas is written past fewer

module _ (a b : ℕ) (h : a ≤ b) where
  lower_head : (d : ℕ) (v : Head) → fits_head (ren_head (lifted d (up b)) v) ≡ true → fits_head (ren_head (lifted d (up a)) v) ≡ true
  lower_head d (Const c) e = refl
  lower_head d (Var i) e = grind (arith, common_steps)
  lower_head d (Meta m) e = refl

  mutual
    lower : (d : ℕ) (o : PlainObject) → fits (renumber (up b) d o) ≡ true → fits (renumber (up a) d o) ≡ true
    lower d (lam m o) e = lower (d + 1) o e
    lower d (pair x y) e = let p = both (fits (renumber (up b) d x)) (fits (renumber (up b) d y)) e in joined (lower d x p.0) (lower d y p.1)
    lower d unit e = refl
    lower d (monadic x) e = lower_expression d x e
    lower d (atomic n) e = lower_neutral d n e
    lower d hole e = refl

    lower_neutral : (d : ℕ) (n : PlainNeutral) → fits_neutral (renumber_neutral (up b) d n) ≡ true → fits_neutral (renumber_neutral (up a) d n) ≡ true
    lower_neutral d (head_alone v) e = lower_head d v e
    lower_neutral d (app m x y) e = let p = both (fits_neutral (renumber_neutral (up b) d x)) (fits (renumber (up b) d y)) e in joined (lower_neutral d x p.0) (lower d y p.1)
    lower_neutral d (fst x) e = lower_neutral d x e
    lower_neutral d (snd x) e = lower_neutral d x e

    lower_expression : (d : ℕ) (x : PlainExpression) → fits_expression (renumber_expression (up b) d x) ≡ true → fits_expression (renumber_expression (up a) d x) ≡ true
    lower_expression d (step ms x y) e = let p = both (fits_neutral (renumber_neutral (up b) d x)) (fits_expression (renumber_expression (up b) (d + length ms) y)) e in
        joined (lower_neutral d x p.0) (lower_expression (d + length ms) y p.1)
    lower_expression d (done t) e = lower_tuple d t e

    lower_tuple : (d : ℕ) (t : PlainTuple) → fits_tuple (renumber_tuple (up b) d t) ≡ true → fits_tuple (renumber_tuple (up a) d t) ≡ true
    lower_tuple d empty e = refl
    lower_tuple d (entry m o t) e = let p = both (fits (renumber (up b) d o)) (fits_tuple (renumber_tuple (up b) d t)) e in joined (lower d o p.0) (lower_tuple d t p.1)

-- ---- what is written past 2^32 lambdas has no free variable

module _ (a b : ℕ) (h : 4294967296 ≤ a) where
  still_head : (d : ℕ) (v : Head) → fits_head (ren_head (lifted d (up a)) v) ≡ true → ren_head (lifted d (up a)) v ≡ ren_head (lifted d (up b)) v
  still_head d (Const c) e = refl
  still_head d (Var i) e = ap Var (grind (arith, common_steps))
  still_head d (Meta m) e = refl

  mutual
    still : (d : ℕ) (o : PlainObject) → fits (renumber (up a) d o) ≡ true → renumber (up a) d o ≡ renumber (up b) d o
    still d (lam m o) e = ap (lam m) (still (d + 1) o e)
    still d (pair x y) e = let p = both (fits (renumber (up a) d x)) (fits (renumber (up a) d y)) e in pairs (still d x p.0) (still d y p.1)
    still d unit e = refl
    still d (monadic x) e = ap monadic (still_expression d x e)
    still d (atomic n) e = ap atomic (still_neutral d n e)
    still d hole e = refl

    still_neutral : (d : ℕ) (n : PlainNeutral) → fits_neutral (renumber_neutral (up a) d n) ≡ true → renumber_neutral (up a) d n ≡ renumber_neutral (up b) d n
    still_neutral d (head_alone v) e = ap head_alone (still_head d v e)
    still_neutral d (app m x y) e = let p = both (fits_neutral (renumber_neutral (up a) d x)) (fits (renumber (up a) d y)) e in apps m (still_neutral d x p.0) (still d y p.1)
    still_neutral d (fst x) e = ap fst (still_neutral d x e)
    still_neutral d (snd x) e = ap snd (still_neutral d x e)

    still_expression : (d : ℕ) (x : PlainExpression) → fits_expression (renumber_expression (up a) d x) ≡ true → renumber_expression (up a) d x ≡ renumber_expression (up b) d x
    still_expression d (step ms x y) e = let p = both (fits_neutral (renumber_neutral (up a) d x)) (fits_expression (renumber_expression (up a) (d + length ms) y)) e in
        binds ms (still_neutral d x p.0) (still_expression (d + length ms) y p.1)
    still_expression d (done t) e = ap done (still_tuple d t e)

    still_tuple : (d : ℕ) (t : PlainTuple) → fits_tuple (renumber_tuple (up a) d t) ≡ true → renumber_tuple (up a) d t ≡ renumber_tuple (up b) d t
    still_tuple d empty e = refl
    still_tuple d (entry m o t) e = let p = both (fits (renumber (up a) d o)) (fits_tuple (renumber_tuple (up a) d t)) e in entries m (still d o p.0) (still_tuple d t p.1)

-- ---- under no binder

at_top : (a : ℕ) (n : PlainNeutral) → renumber_neutral (up a) 0 n ≡ ren_neutral (up a) n
at_top a n = renumber-ren_neutral (up a) 0 n ∙ ap (λ r. ren_neutral r n) (lifted-none (up a))

falls : (b : Bool) → (b ≡ true → ⊥) → b ≡ false
falls true f = absurd (f refl)
falls false f = refl

pub past_more : (a b : ℕ) (n : PlainNeutral) → a ≤ b → fits_neutral (ren_neutral (up a) n) ≡ false → fits_neutral (ren_neutral (up b) n) ≡ false
past_more a b n h e = falls _ (λ f.
    let g : fits_neutral (ren_neutral (up a) n) ≡ true = ap fits_neutral (sym (at_top a n)) ∙ lower_neutral a b h 0 n (ap fits_neutral (at_top b n) ∙ f) in
    absurd (cc))

pub past_all : (b : ℕ) (n : PlainNeutral) → fits_neutral (ren_neutral (up 4294967296) n) ≡ true → ren_neutral (up 4294967296) n ≡ ren_neutral (up b) n
past_all b n e = sym (at_top 4294967296 n) ∙ still_neutral 4294967296 b (omega arith) 0 n (ap fits_neutral (at_top 4294967296 n) ∙ e) ∙ at_top b n

-- ---- shifted

pub shifted : (by : ℕ) (n : PlainNeutral) → shift_neutral by 0 n ≡ ren_neutral (up by) n
shifted by n = shift-ren_neutral by 0 n ∙ ap (λ r. ren_neutral r n) (ext (λ i. grind (arith, common_steps)))

pub shifted_twice : (n x : PlainNeutral) → x ≡ shift_neutral 4294967295 0 n → shift_neutral 1 0 x ≡ ren_neutral (up 4294967296) n
shifted_twice n x e = shifted 1 x ∙ ap (ren_neutral (up 1)) (e ∙ shifted 4294967295 n) ∙ composed_neutral (up 1) (up 4294967295) n ∙ ap (λ r. ren_neutral r n) (ext (λ i. omega arith))

-- ---- raised in two steps

pub closed_refused : (n : PlainNeutral) (e : Or TooFar) (r : Result Neutral (Or TooFar)) → Writes plain_neutral fits_neutral (shift_neutral 4294967295 0 n) (Err e) → IsErrAnd r (λ y. y ≡ e)
    → (by : ℕ) → 4294967296 ≤ by → Writes plain_neutral fits_neutral (ren_neutral (up by) n) r
closed_refused n e r w q by h = passed plain_neutral fits_neutral (ren_neutral (up by) n) e r q (refused e w)
  where
    refused : (e : Or TooFar) → Writes plain_neutral fits_neutral (shift_neutral 4294967295 0 n) (Err e) → Writes plain_neutral fits_neutral (ren_neutral (up by) n) (Err e)
    refused (Fault f) w = past_more 4294967295 by n (omega arith) (ap fits_neutral (sym (shifted 4294967295 n)) ∙ w)
    refused NoMemory w = tt

pub closed_written : (n x : PlainNeutral) (r : Result Neutral (Or TooFar)) → x ≡ shift_neutral 4294967295 0 n → Writes plain_neutral fits_neutral (shift_neutral 1 0 x) r
    → (by : ℕ) → 4294967296 ≤ by → Writes plain_neutral fits_neutral (ren_neutral (up by) n) r
closed_written n x (Ok y) e w by h =
    let two = shifted_twice n x e in
    let all = past_all by n (ap fits_neutral (sym two) ∙ w.1) in
    (w.0 ∙ two ∙ all, ap fits_neutral (sym (two ∙ all)) ∙ w.1)
closed_written n x (Err (Fault f)) e w by h = past_more 4294967296 by n h (ap fits_neutral (sym (shifted_twice n x e)) ∙ w)
closed_written n x (Err NoMemory) e w by h = tt

pub ruleset raising_laws = (shifted)
