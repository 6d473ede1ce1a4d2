-- Tautologies of one entry, by going through all marks.
use Rattle.std.proofs.Common.{◌≡◌, Bool, true, false, ◌&&◌, refl}
use Rattle.clf_syntax.specs.declared.tree.Mode.{Mode}
use Rattle.clf_syntax.specs.declared.tree.Mode.TheVariants.{Persistent, Affine, Linear}
use Rattle.use_contexts.specs.Rows.{implies}

abbrev pub every : (Bool → Bool) → Bool
every f = f true && f false

pub and-left : (a b : Bool) → (a && b) ≡ true → a ≡ true
and-left true b e = refl
and-left false b e = e

pub and-right : (a b : Bool) → (a && b) ≡ true → b ≡ true
and-right true b e = e
and-right false true e = refl
and-right false false e = e

pub and-both : (a b : Bool) → a ≡ true → b ≡ true → (a && b) ≡ true
and-both true b x y = y
and-both false b x y = x

every-at : (f : Bool → Bool) → every f ≡ true → (b : Bool) → f b ≡ true
every-at f e true = and-left (f true) (f false) e
every-at f e false = and-right (f true) (f false) e

abbrev pub every_2 : (Bool → Bool → Bool) → Bool
every_2 f = every (λ a. every (f a))

at_2 : (f : Bool → Bool → Bool) → every_2 f ≡ true → (a b : Bool) → f a b ≡ true
at_2 f e a b = every-at (f a) (every-at (λ x. every (f x)) e a) b

abbrev pub every_4 : (Bool → Bool → Bool → Bool → Bool) → Bool
every_4 f = every_2 (λ a b. every_2 (f a b))

at_4 : (f : Bool → Bool → Bool → Bool → Bool) → every_4 f ≡ true → (a b c d : Bool) → f a b c d ≡ true
at_4 f e a b c d = at_2 (f a b) (at_2 (λ x y. every_2 (f x y)) e a b) c d

abbrev pub every_8 : (Bool → Bool → Bool → Bool → Bool → Bool → Bool → Bool → Bool) → Bool
every_8 f = every_4 (λ h l r s. every_4 (f h l r s))

at_8 : (f : Bool → Bool → Bool → Bool → Bool → Bool → Bool → Bool → Bool) → every_8 f ≡ true → (h l r s t p g k : Bool) → f h l r s t p g k ≡ true
at_8 f e h l r s t p g k = at_4 (f h l r s) (at_4 (λ h l r s. every_4 (f h l r s)) e h l r s) t p g k

-- what holds in each mode at all marks
pub at_entry : (f : Mode → Bool → Bool → Bool → Bool → Bool → Bool → Bool → Bool → Bool)
    → every_8 (f Persistent) ≡ true → every_8 (f Affine) ≡ true → every_8 (f Linear) ≡ true
    → (m : Mode) (h l r s t p g k : Bool) → f m h l r s t p g k ≡ true
at_entry f x y z Persistent h l r s t p g k = at_8 (f Persistent) x h l r s t p g k
at_entry f x y z Affine h l r s t p g k = at_8 (f Affine) y h l r s t p g k
at_entry f x y z Linear h l r s t p g k = at_8 (f Linear) z h l r s t p g k

pub given : (a b : Bool) → implies a b ≡ true → a ≡ true → b ≡ true
given true b e h = e
given false true e h = refl
given false false e h = h

pub given_2 : (a b c : Bool) → implies a (implies b c) ≡ true → a ≡ true → b ≡ true → c ≡ true
given_2 a b c e x y = given b c (given a (implies b c) e x) y

pub given_3 : (a b c d : Bool) → implies a (implies b (implies c d)) ≡ true → a ≡ true → b ≡ true → c ≡ true → d ≡ true
given_3 a b c d e x y z = given c d (given_2 a b (implies c d) e x y) z
