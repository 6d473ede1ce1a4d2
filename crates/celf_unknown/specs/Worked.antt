-- Some items with the first name that has no meaning, worked out by hand, over the families a and b and the constants z : a and f : a -o a -o b.
use Rattle.std.specs.Prelude.{ℕ, ◌≡◌, Bool, true, false, List, [], ◌∷◌, Option, None, Some, codes}
use Rattle.clf_syntax.specs.declared.tree.Mode.TheVariants.{Linear}
use Rattle.clf_syntax.specs.TypeTree as core_type
use Rattle.clf_sig.specs.Entry.{family_of, constant_of, PlainSignature}
use Rattle.celf_surface.specs.declared.surface.SMode.TheVariants.{Bare}
use Rattle.celf_surface.specs.declared.surface.Span.{Span}
use Rattle.celf_sugar.specs.declared.plain.PName.{PName}
use Rattle.celf_sugar.specs.PlainTree.{DesugaredObject, lam, pair, atomic, spine_of, DesugaredType, family, function, of_constant, DesugaredBody, declare, check}
use Rattle.celf_unknown.specs.Unknown.{first_unknown}

abbrev pub a : core_type.PlainType
a = core_type.family 0 []

abbrev pub b : core_type.PlainType
b = core_type.family 1 []

abbrev pub signature : PlainSignature
signature =
    (codes "a", record { implicit = 0; class = family_of [] }) ∷ (codes "b", record { implicit = 0; class = family_of [] })
    ∷ (codes "z", record { implicit = 0; class = constant_of a })
    ∷ (codes "f", record { implicit = 0; class = constant_of (core_type.function Linear a (core_type.function Linear a b)) }) ∷ []

-- where the parts of an item stand does not matter here
module _ (s : Span) where
  abbrev pub name : List ℕ → Bool → PName
  name n dollar = record { name = n; dollar = dollar; span = s }

  abbrev pub type_named : List ℕ → DesugaredType
  type_named n = family s (name n false) []

  abbrev pub head : List ℕ → Bool → DesugaredObject
  head n dollar = atomic s (name n dollar) (spine_of [])

  -- This name of the item is the first without a meaning, or each has one.
  abbrev pub Lacks : DesugaredBody → Option PName → Type 0
  Lacks body n = first_unknown signature (record { span = s; body = body }) ≡ n

  pub record WorkedUnknown : Type 0 where
    pub family_known : Lacks (declare (codes "c") 0 (of_constant (type_named (codes "a")))) None
    pub constant_as_family : Lacks (declare (codes "c") 0 (of_constant (type_named (codes "z")))) (Some (name (codes "z") false))
    pub family_as_object : Lacks (check (head (codes "b") false) (type_named (codes "a"))) (Some (name (codes "b") false))
    pub constant_known : Lacks (check (head (codes "z") true) (type_named (codes "a"))) None
    pub unknown_name : Lacks (check (head (codes "y") false) (type_named (codes "a"))) (Some (name (codes "y") false))
    pub implicit_variable_known : Lacks (check (head (codes "X") false) (type_named (codes "a"))) None
    pub no_implicit_behind_dollar : Lacks (check (head (codes "X") true) (type_named (codes "a"))) (Some (name (codes "X") true))
    pub bound_in_the_body : Lacks (check (lam s Bare (Some (codes "y")) (head (codes "y") false)) (type_named (codes "a"))) None
    pub not_bound_beside : Lacks (check (pair s (lam s Bare (Some (codes "y")) (head (codes "y") false)) (head (codes "y") false)) (type_named (codes "a"))) (Some (name (codes "y") false))
    pub no_local_behind_dollar : Lacks (check (lam s Bare (Some (codes "y")) (head (codes "y") true)) (type_named (codes "a"))) (Some (name (codes "y") true))
    pub bound_in_the_codomain : Lacks (declare (codes "c") 0 (of_constant (function s Linear (Some (codes "y")) (type_named (codes "a")) (family s (name (codes "a") false) (head (codes "y") false ∷ []))))) None
    pub not_bound_in_the_domain : Lacks (declare (codes "c") 0 (of_constant (function s Linear (Some (codes "y")) (family s (name (codes "a") false) (head (codes "y") false ∷ [])) (type_named (codes "a"))))) (Some (name (codes "y") false))
