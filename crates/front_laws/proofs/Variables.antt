-- The variable of a binder in front, and its type.
use Rattle.std.specs.Prelude.{ℕ, ◌+◌, ◌≡◌, List, [], ◌∷◌, ◌++◌, length, Some}
use Rattle.std.specs.List.{slice_get}
use Rattle.std.proofs.Common.{ap, sym, subst, ◌∙◌, append_assoc, length-append, refl}
use Rattle.clf_syntax.specs.declared.tree.Mode.TheVariants.{Persistent}
use Rattle.clf_syntax.specs.TypeTree.{PlainType}
use Rattle.clf_syntax.specs.Renaming.{ren_type, up}
use Rattle.use_contexts.specs.Context.{Context}
use Rattle.hered_subst.specs.Substitution.{SubstitutedType}
use Rattle.hered_subst.proofs.Types.{determined_type}
use Rattle.celf_front.specs.InFront.{in_front, front_head}
use Rattle.celf_front.specs.Replaced.{replaced_type}
use Rattle.celf_front.specs.UnderFront.{IsFront, one_binder}
use Rattle.celf_front.proofs.Replacing.{replaces_type}
use Rattle.celf_front.proofs.Fronts.{front_lifts, front_keeps}
use Rattle.front_laws.specs.Laws.{BindersHaveVariables}
use Rattle.front_laws.proofs.Renamed.{renamed_type}
use Rattle.front_laws.proofs.Raised.{raised_past}

put_type : (n : ℕ) (binders : List ℕ) (a : PlainType) → SubstitutedType (in_front n binders) a (replaced_type (front_head n binders) 0 a)
put_type n binders a = replaces_type (front_head n binders) (front_lifts n binders) 0 (in_front n binders) (front_keeps n binders) a

-- the entry of a binder in the front context
entry_of : (n : ℕ) (types : List PlainType) (newer older : List ℕ) (x : ℕ) (front : Context) → IsFront n types (newer ++ x ∷ older) front
    → (a b : PlainType) × (slice_get types x ≡ Some a) × (slice_get front (length newer) ≡ Some (Persistent, b)) × SubstitutedType (in_front n older) a b
entry_of n types [] older x _ (one_binder {a = a} {b = b} f at put) = (a, b, at, refl, put)
entry_of n types (y ∷ newer) older x _ (one_binder {front = front} f at put) = entry_of n types newer older x front f

some_same : {X : Type 0} (a b : X) → Some a ≡ Some b → a ≡ b
some_same a b e = cc

pub binders_have_variables : BindersHaveVariables
binders_have_variables n types newer older x a front is at none =
    let (c, b, there, entry, put) = entry_of n types newer older x front is in
    let same : c ≡ a = some_same c a (sym there ∙ at) in
    let own : b ≡ replaced_type (front_head n older) 0 a = determined_type (subst (λ t. SubstitutedType (in_front n older) t b) same put) (put_type n older a) in
    let whole : (newer ++ x ∷ []) ++ older ≡ newer ++ x ∷ older = append_assoc newer (x ∷ []) older in
    let count : length (newer ++ x ∷ []) ≡ length newer + 1 = length-append newer (x ∷ []) in
    let raised : replaced_type (front_head n ((newer ++ x ∷ []) ++ older)) 0 a ≡ ren_type (up (length (newer ++ x ∷ []))) (replaced_type (front_head n older) 0 a)
    = renamed_type (front_head n ((newer ++ x ∷ []) ++ older)) (front_head n older) (up (length (newer ++ x ∷ []))) a (λ h has d. raised_past n (newer ++ x ∷ []) older h (none h has) d) in
    let moved : replaced_type (front_head n (newer ++ x ∷ older)) 0 a ≡ ren_type (up (length newer + 1)) b
    = ap (λ bs. replaced_type (front_head n bs) 0 a) (sym whole) ∙ raised ∙ ap (λ k. ren_type (up k) (replaced_type (front_head n older) 0 a)) count ∙ ap (ren_type (up (length newer + 1))) (sym own) in
    (replaced_type (front_head n (newer ++ x ∷ older)) 0 a, (Persistent, b, entry, moved), put_type n (newer ++ x ∷ older) a)
