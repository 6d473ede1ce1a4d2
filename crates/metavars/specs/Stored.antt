-- What contracts see of a store: the simple types of the constants, and what was added, in order.
use Rattle.std.specs.Prelude.{ℕ, ◌≡◌, ◌⊎◌, List, [], ◌∷◌, ◌++◌, take, map, refl}
use Rattle.std.proofs.Common.{inl, inr}
use Rattle.std.specs.Coded.{Coded, code_by, coded_list, coded×, coded⊎, coded_ℕ}
use Rattle.clf_syntax.specs.declared.tree.Simple.{Simple}
use Rattle.clf_syntax.specs.declared.tree.Obj.{Obj}
use Rattle.clf_syntax.specs.TypeTree.{SimpleType}
use Rattle.clf_syntax.specs.Plain.{plain_obj}
use Rattle.clf_syntax.specs.PlainSimple.{plain_simple}
use Rattle.store_laws.specs.Additions.{Addition, new, solved}

pub data Added : Type 0 where
  added_new : Simple → Added
  added_solved : ℕ → Obj → Added

pub record Stored : Type 0 where
  pub constants : List Simple
  pub added : List Added

abbrev pub plain_added : Added → Addition
plain_added (added_new t) = new (plain_simple t)
plain_added (added_solved m o) = solved m (plain_obj o)

-- the simple types of the constants, by number
abbrev pub constants : Stored → List SimpleType
constants s = map plain_simple s.constants

-- what was added, as plain trees
abbrev pub additions : Stored → List Addition
additions s = map plain_added s.added

-- one addition more
abbrev pub with_addition : Stored → Added → Stored
with_addition s a = record { constants = s.constants; added = s.added ++ a ∷ [] }

-- the first additions alone
abbrev pub cut_to : ℕ → Stored → Stored
cut_to n s = record { constants = s.constants; added = take n s.added }

-- The second has what the first has, and perhaps more additions after.
abbrev pub IsPart : Stored → Stored → Type 0
IsPart s t = (t.constants ≡ s.constants) × ((more : List Added) × (t.added ≡ s.added ++ more))

-- how both are stored, where the trees in them have codes
abbrev pub as_sum : Added → Simple ⊎ (ℕ × Obj)
as_sum (added_new t) = inl t
as_sum (added_solved m o) = inr (m, o)

abbrev pub of_sum : Simple ⊎ (ℕ × Obj) → Added
of_sum (inl t) = added_new t
of_sum (inr p) = added_solved p.0 p.1

pub of_sum-as_sum : (a : Added) → of_sum (as_sum a) ≡ a
of_sum-as_sum (added_new t) = refl
of_sum-as_sum (added_solved m o) = refl

abbrev pub added_code : Coded Simple → Coded Obj → Coded Added
added_code s o = code_by (Simple ⊎ (ℕ × Obj)) (coded⊎ s (coded× coded_ℕ o)) as_sum of_sum of_sum-as_sum

abbrev pub stored_code : Coded Simple → Coded Obj → Coded Stored
stored_code s o = code_by (List Simple × List Added) (coded× (coded_list s) (coded_list (added_code s o))) (λ v. (v.constants, v.added)) (λ p. record { constants = p.0; added = p.1 }) (λ v. refl)
