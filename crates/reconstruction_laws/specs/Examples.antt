-- A declaration with something to be found, worked out by hand.
use Rattle.std.specs.Prelude.{false, [], ◌∷◌, codes, slice_get}
use Rattle.clf_syntax.specs.declared.tree.Mode.TheVariants.{Persistent}
use Rattle.clf_syntax.specs.declared.tree.Head.{Head}
use Rattle.clf_syntax.specs.declared.tree.Head.TheVariants.{Meta, Var}
use Rattle.clf_syntax.specs.Tree as core
use Rattle.clf_syntax.specs.TypeTree as core_type
use Rattle.clf_syntax.specs.TypeTree.{PlainType, base}
use Rattle.clf_sig.specs.Entry.{PlainEntry, PlainSignature, constant_of, family_of}
use Rattle.pattern_laws.specs.Instantiations.{Types}
use Rattle.celf_surface.specs.declared.surface.Span.{Span}
use Rattle.celf_sugar.specs.PlainTree.{DesugaredType, family, hole}
use Rattle.celf_explicit.specs.Explicit.{entry_of}
use Rattle.celf_elaboration.specs.Fillings.{Fillings}
use Rattle.celf_elaboration.specs.Declarations.{IsTreeOf, ElaboratesDeclaration}

-- over a : type.  p : a -> type.
abbrev pub a : PlainType
a = core_type.family 0 []

abbrev pub signature : PlainSignature
signature = (codes "a", entry_of 0 (family_of [])) ∷ (codes "p", entry_of 0 (family_of (a ∷ []))) ∷ []

abbrev pub p_at : Head → PlainType
p_at h = core_type.family 1 (core.atomic (core.head_alone h) ∷ [])

-- c : p _.  The object is metavariable 0, of the simple type a, in no scope.
abbrev pub written : Span → DesugaredType
written s = family s (record { name = codes "p"; dollar = false; span = s }) (hole s ∷ [])

abbrev pub fillings : Fillings
fillings = record { locals = []; type = base 0; object = core.atomic (core.head_alone (Meta 0)) } ∷ []

abbrev pub metas : Types
metas m = slice_get (base 0 ∷ []) m

-- No equation is gathered of it, so the metavariable is left, and becomes a binder: c : [1] Pi x: a. p x.
abbrev pub entry : PlainEntry
entry = entry_of 1 (constant_of (core_type.function Persistent a (p_at (Var 0))))

pub record WorkedDeclaration (s : Span) : Type 0 where
  pub tree : IsTreeOf signature [] (written s) fillings (p_at (Meta 0))
  pub elaborated : ElaboratesDeclaration signature [] 0 metas (p_at (Meta 0)) entry

abbrev pub Worked : Type 0
Worked = (s : Span) → WorkedDeclaration s
