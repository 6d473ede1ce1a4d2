-- Whole items: their readings, what is gathered of them, and when the rules derive their cores.
use Rattle.std.specs.Prelude.{ℕ, ◌≡◌, List, [], ◌∷◌, ◌++◌, Option, Some}
use Rattle.clf_syntax.specs.declared.tree.Head.{Head}
use Rattle.clf_syntax.specs.Tree.{PlainObject}
use Rattle.clf_syntax.specs.TypeTree.{PlainType, PlainTelescope, PlainKind}
use Rattle.clf_syntax.specs.Simple.{erase}
use Rattle.hered_subst.specs.Substitution.{Environment, Substituted, SubstitutedType, SubstitutedTelescope, SubstitutedKind}
use Rattle.pattern_laws.specs.Equations.{Equation}
use Rattle.clf_sig.specs.Entry.{PlainClass, family_of, constant_of, PlainEntry, PlainSignature}
use Rattle.clf_sig.specs.Core.{PlainCore, declares, queries, traces, equates, checks}
use Rattle.clf_rules.specs.Typing.{HasType}
use Rattle.clf_rules.specs.WellFormed.{WellFormedType, WellFormedTelescope, WellFormedEntry}
use Rattle.gathering.specs.Shape.{unmarked_shape}
use Rattle.gathering.specs.Setting.{Setting}
use Rattle.gathering.specs.Gather.{Gathers}
use Rattle.gathering.specs.Items.{InOrder, TypeGathers, TelescopeGathers, KindGathers}
use Rattle.celf_sugar.specs.PlainTree.{DesugaredObject, DesugaredType, DesugaredTelescope, DesugaredClass, of_family, of_constant, DesugaredBody, declare, query, trace, equal, check}
use Rattle.celf_explicit.specs.Types.{kind_of}
use Rattle.celf_explicit.specs.Explicit.{entry_of}
use Rattle.celf_elaboration.specs.Fillings.{Fillings}
use Rattle.celf_elaboration.specs.Names.{ImplicitVariable}
use Rattle.celf_elaboration.specs.Readings.{ReadsObject, ReadsType, ReadsTelescope}

-- The type of a directive is read before its objects, each of which stands at the simple type that is left of the type.
pub data ReadsBody (sig : PlainSignature) (heads : ℕ → Head) (vs : List ImplicitVariable) : DesugaredBody → Fillings → PlainCore → Type 0 where
  reads_family_declaration : {name : List ℕ} {n : ℕ} {t : DesugaredTelescope} {fs : Fillings} {s : PlainTelescope}
      → ReadsTelescope sig heads vs [] t fs s → ReadsBody sig heads vs (declare name n (of_family t)) fs (declares name (entry_of n (family_of (kind_of s))))
  reads_constant_declaration : {name : List ℕ} {n : ℕ} {t : DesugaredType} {fs : Fillings} {a : PlainType}
      → ReadsType sig heads vs [] t fs a → ReadsBody sig heads vs (declare name n (of_constant t)) fs (declares name (entry_of n (constant_of a)))
  reads_query : {d e l m : Option ℕ} {t : DesugaredType} {fs : Fillings} {a : PlainType} → ReadsType sig heads vs [] t fs a → ReadsBody sig heads vs (query d e l m t) fs (queries a)
  reads_trace : {n : Option ℕ} {t : DesugaredTelescope} {fs : Fillings} {s : PlainTelescope} → ReadsTelescope sig heads vs [] t fs s → ReadsBody sig heads vs (trace n t) fs (traces s)
  reads_equation : {l r : DesugaredObject} {t : DesugaredType} {fs gs hs : Fillings} {a : PlainType} {n o : PlainObject}
      → ReadsType sig heads vs [] t fs a → ReadsObject sig heads vs [] (Some (erase a)) l gs n → ReadsObject sig heads vs [] (Some (erase a)) r hs o
      → ReadsBody sig heads vs (equal l r t) ((fs ++ gs) ++ hs) (equates n o a)
  reads_check : {o : DesugaredObject} {t : DesugaredType} {fs gs : Fillings} {a : PlainType} {n : PlainObject}
      → ReadsType sig heads vs [] t fs a → ReadsObject sig heads vs [] (Some (erase a)) o gs n → ReadsBody sig heads vs (check o t) (fs ++ gs) (checks n a)

-- what an environment makes of a kind or a type, and of a core, which has no variables of its own
pub data SubstitutedClass : Environment → PlainClass → PlainClass → Type 0 where
  in_family_class : {s : Environment} {k l : PlainKind} → SubstitutedKind s k l → SubstitutedClass s (family_of k) (family_of l)
  in_constant_class : {s : Environment} {a b : PlainType} → SubstitutedType s a b → SubstitutedClass s (constant_of a) (constant_of b)

pub data SubstitutedCore : Environment → PlainCore → PlainCore → Type 0 where
  in_declaration : {s : Environment} {name : List ℕ} {n : ℕ} {c d : PlainClass} → SubstitutedClass s c d → SubstitutedCore s (declares name (entry_of n c)) (declares name (entry_of n d))
  in_query : {s : Environment} {a b : PlainType} → SubstitutedType s a b → SubstitutedCore s (queries a) (queries b)
  in_trace : {s : Environment} {t u : PlainTelescope} → SubstitutedTelescope s t u → SubstitutedCore s (traces t) (traces u)
  in_equation : {s : Environment} {m n x y : PlainObject} {a b : PlainType} → Substituted s m x → Substituted s n y → SubstitutedType s a b → SubstitutedCore s (equates m n a) (equates x y b)
  in_check : {s : Environment} {n x : PlainObject} {a b : PlainType} → Substituted s n x → SubstitutedType s a b → SubstitutedCore s (checks n a) (checks x b)

-- The equations gathered of an item: those of a directive's type before those of its objects, each at the type as it is written.
module _ (sig : PlainSignature) (z : Setting) where
  abbrev pub ClassGathers : PlainClass → List Equation → Type 0
  ClassGathers (family_of k) q = KindGathers sig z [] [] k q
  ClassGathers (constant_of a) q = TypeGathers sig z [] [] a q

  abbrev pub CoreGathers : PlainCore → List Equation → Type 0
  CoreGathers (declares name e) q = ClassGathers e.class q
  CoreGathers (queries a) q = TypeGathers sig z [] [] a q
  CoreGathers (traces s) q = TelescopeGathers sig z [] [] s q
  CoreGathers (equates m n a) q = InOrder q (λ p. TypeGathers sig z [] [] a p) (λ p. InOrder p (λ p. Gathers z [] [] m a (unmarked_shape a) p) (λ p. Gathers z [] [] n a (unmarked_shape a) p))
  CoreGathers (checks n a) q = InOrder q (λ p. TypeGathers sig z [] [] a p) (λ p. Gathers z [] [] n a (unmarked_shape a) p)

-- The rules derive the core.
abbrev pub DerivedCore : PlainSignature → PlainCore → Type 0
DerivedCore sig (declares name e) = WellFormedEntry sig e
DerivedCore sig (queries a) = WellFormedType sig [] a
DerivedCore sig (traces s) = WellFormedTelescope sig [] s
DerivedCore sig (equates m n a) = WellFormedType sig [] a × HasType sig [] [] m a × HasType sig [] [] n a
DerivedCore sig (checks n a) = WellFormedType sig [] a × HasType sig [] [] n a
