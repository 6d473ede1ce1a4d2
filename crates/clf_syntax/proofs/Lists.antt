-- Lists that grow at the end.
use Rattle.std.specs.Prelude.{ℕ, ◌≡◌, zero, suc, Some, List, [], ◌∷◌, ◌++◌, slice_get}

pub get-front : {X : Type 0} (xs ys : List X) (p : ℕ) (x : X) → slice_get xs p ≡ Some x → slice_get (xs ++ ys) p ≡ Some x
get-front [] ys p x e = absurd (cc)
get-front (y ∷ xs) ys zero x e = e
get-front (y ∷ xs) ys (suc p) x e = get-front xs ys p x e
