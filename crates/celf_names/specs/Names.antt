-- What names mean over a signature, and which are bound around.
use Rattle.std.specs.Prelude.{ℕ, Bool, false, ◌||◌, if◌then◌else◌, List, [], ◌∷◌, Option, Some, None, is_some, option_and_then}
use Rattle.std.specs.List.{flat_map, list_any}
use Rattle.clf_syntax.specs.Word.{is_capital, same_bytes}
use Rattle.clf_sig.specs.Entry.{PlainClass, family_of, constant_of, PlainSignature, place_of, class_at}
use Rattle.celf_sugar.specs.declared.plain.PName.{PName}
use Rattle.celf_sugar.specs.declared.plain.PBinder.{PBinder}

-- the place, where the class there is a family
abbrev pub family_only : ℕ → Option PlainClass → Option ℕ
family_only k (Some (family_of args)) = Some k
family_only k (Some (constant_of a)) = None
family_only k None = None

-- the place, where the class there is a constant
abbrev pub constant_only : ℕ → Option PlainClass → Option ℕ
constant_only k (Some (family_of args)) = None
constant_only k (Some (constant_of a)) = Some k
constant_only k None = None

-- In a type a name means the family of that name; the name of a constant has no meaning there.
abbrev pub family_named : PlainSignature → List ℕ → Option ℕ
family_named sig name = option_and_then (λ k. family_only k (class_at sig k)) (place_of name sig)

-- In an object a name may mean the constant of that name; the name of a family has no meaning there.
abbrev pub constant_named : PlainSignature → List ℕ → Option ℕ
constant_named sig name = option_and_then (λ k. constant_only k (class_at sig k)) (place_of name sig)

-- the name that a binder binds, if any
abbrev pub bound : Option (List ℕ) → List (List ℕ)
bound None = []
bound (Some n) = n ∷ []

-- the names that a pattern binds
abbrev pub bound_by_pattern : List PBinder → List (List ℕ)
bound_by_pattern bs = flat_map (λ b. bound b.name) bs

-- a name that is bound around
abbrev pub is_bound : List (List ℕ) → List ℕ → Bool
is_bound scope name = list_any (same_bytes name) scope

-- an implicit variable begins with a capital letter
abbrev pub begins_with_capital : List ℕ → Bool
begins_with_capital [] = false
begins_with_capital (b ∷ bs) = is_capital b

-- In an object `$c` has a meaning where c is a constant. Another name has one where it is bound, where it is a constant, and where it is that of an implicit variable.
abbrev pub is_known : PlainSignature → List (List ℕ) → PName → Bool
is_known sig scope n =
    if n.dollar then is_some (constant_named sig n.name) else (is_bound scope n.name || is_some (constant_named sig n.name) || begins_with_capital n.name)
