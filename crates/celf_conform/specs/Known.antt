-- What is known where a core is looked at: the simple types of constants and metavariables, and of the arguments of families.
use Rattle.std.specs.Prelude.{ℕ, Bool, true, false, if◌then◌else◌, List, map, Option, Some, None, slice_get}
use Rattle.clf_syntax.specs.declared.tree.Head.TheVariants.{Const, Var, Meta}
use Rattle.clf_syntax.specs.TypeTree.{SimpleType}
use Rattle.clf_syntax.specs.Simple.{Assignment, Families}
use Rattle.clf_sig.specs.Entry.{PlainSignature, PlainClass, family_of, constant_of, class_at}
use Rattle.typing_laws.specs.SimpleTyping.{families_of}

pub record PlainKnown : Type 0 where
  -- the simple types of the constants, by number; the places of families are passed over
  pub constants : List SimpleType
  pub is_family : ℕ → Bool
  pub metavariables : List SimpleType
  pub arguments : Families

abbrev pub is_family_class : Option PlainClass → Bool
is_family_class (Some (family_of k)) = true
is_family_class (Some (constant_of a)) = false
is_family_class None = false

-- A family stands at this place of the signature.
abbrev pub is_family : PlainSignature → ℕ → Bool
is_family sig f = is_family_class (class_at sig f)

-- The constants are those of the signature, and the implicit variables past them.
abbrev pub known_over : PlainSignature → List SimpleType → List SimpleType → PlainKnown
known_over sig constants metavariables = record { constants = constants; is_family = is_family sig; metavariables = metavariables; arguments = families_of sig }

-- the simple type of a constant: a family has none
abbrev pub constant_type : PlainKnown → ℕ → Option SimpleType
constant_type k c = if k.is_family c then None else slice_get k.constants c

-- the simple types of all heads, where the variables have these types, the newest first
abbrev pub heads_in : PlainKnown → List SimpleType → Assignment
heads_in k g (Const c) = constant_type k c
heads_in k g (Var i) = slice_get g i
heads_in k g (Meta m) = slice_get k.metavariables m
