-- What becomes of trees with all solutions of a store put in, and when they are typed in a store.
use Rattle.std.specs.Prelude.{◌≡◌, List, [], ◌∷◌, map}
use Rattle.clf_syntax.specs.declared.tree.Ty.{Ty}
use Rattle.clf_syntax.specs.PlainTypes.{plain_ty}
use Rattle.clf_syntax.specs.Tree.{PlainObject}
use Rattle.clf_syntax.specs.TypeTree.{PlainType, monad, PlainTelescope, PlainKind, SimpleType}
use Rattle.clf_syntax.specs.Simple.{Assignment, Families, SimplyFormed, SimplyTyped}
use Rattle.hered_subst.specs.Substitution.{Substituted, SubstitutedType, SubstitutedTelescope, SubstitutedKind}
use Rattle.subst_laws.specs.Environments.{Instantiation, instant}
use Rattle.store_laws.specs.Additions.{Addition, given}
use Rattle.store_laws.specs.PutIn.{PutIn, IsClosed}
use Rattle.clf_sig.specs.declared.item.Core.{Core}
use Rattle.clf_sig.specs.Entry.{PlainClass, family_of, constant_of}
use Rattle.clf_sig.specs.Core.{PlainCore, declares, queries, traces, equates, checks, plain_core}
use Rattle.metavars.specs.Becoming.{Each}
use Rattle.metavars.specs.Stored.{Stored, additions}
use Rattle.metavars.specs.Typed.{TypesStore}
use Rattle.celf_elaboration.specs.Items.{SubstitutedClass, SubstitutedCore}
use Rattle.celf_unify.specs.declared.answer.Unified.{Unified}
use Rattle.celf_unify.specs.declared.answer.Unified.TheVariants as unified
use Rattle.celf_solve.specs.declared.scene.Scene.{Scene}
use Rattle.celf_solve.specs.declared.scene.Found.{Found}
use Rattle.celf_solve.specs.declared.scene.Solved.{Solved}
use Rattle.celf_solve.specs.declared.scene.Solved.TheVariants as solved

-- All solutions can be put in.
pub record HasPutIn (zs : List Addition) : Type 0 where
  pub solutions : Instantiation
  pub put_in : PutIn (given zs) solutions
  pub closed : IsClosed solutions

-- Some assignment that types the store forms the type, or types the object.
pub record IsFormedIn (zs : List Addition) (a : PlainType) : Type 0 where
  pub arguments : Families
  pub assignment : Assignment
  pub store : TypesStore assignment zs
  pub formed : SimplyFormed arguments assignment a

pub record IsTypedIn (zs : List Addition) (n : PlainObject) : Type 0 where
  pub assignment : Assignment
  pub type : SimpleType
  pub store : TypesStore assignment zs
  pub typed : SimplyTyped assignment n type

module _ (zs : List Addition) where
  abbrev pub EachIsFormedIn : List PlainType → Type 0
  EachIsFormedIn [] = Unit {0}
  EachIsFormedIn (a ∷ as_) = IsFormedIn zs a × EachIsFormedIn as_

  abbrev pub ClassIsFormedIn : PlainClass → Type 0
  ClassIsFormedIn (family_of k) = EachIsFormedIn k
  ClassIsFormedIn (constant_of a) = IsFormedIn zs a

  abbrev pub CoreIsFormedIn : PlainCore → Type 0
  CoreIsFormedIn (declares name e) = ClassIsFormedIn e.class
  CoreIsFormedIn (queries a) = IsFormedIn zs a
  CoreIsFormedIn (traces s) = IsFormedIn zs (monad s)
  CoreIsFormedIn (equates m n a) = IsFormedIn zs a × IsTypedIn zs m × IsTypedIn zs n
  CoreIsFormedIn (checks n a) = IsFormedIn zs a × IsTypedIn zs n

  abbrev pub ObjectBecomes : PlainObject → PlainObject → Type 0
  ObjectBecomes n x = (s : Instantiation) → PutIn (given zs) s → IsClosed s → Substituted (instant s) n x

  abbrev pub TypeBecomes : PlainType → PlainType → Type 0
  TypeBecomes a x = (s : Instantiation) → PutIn (given zs) s → IsClosed s → SubstitutedType (instant s) a x

  abbrev pub TelescopeBecomes : PlainTelescope → PlainTelescope → Type 0
  TelescopeBecomes t x = (s : Instantiation) → PutIn (given zs) s → IsClosed s → SubstitutedTelescope (instant s) t x

  abbrev pub KindBecomes : PlainKind → PlainKind → Type 0
  KindBecomes k x = (s : Instantiation) → PutIn (given zs) s → IsClosed s → SubstitutedKind (instant s) k x

  abbrev pub ClassBecomes : PlainClass → PlainClass → Type 0
  ClassBecomes k x = (s : Instantiation) → PutIn (given zs) s → IsClosed s → SubstitutedClass (instant s) k x

  abbrev pub CoreBecomes : PlainCore → PlainCore → Type 0
  CoreBecomes k x = (s : Instantiation) → PutIn (given zs) s → IsClosed s → SubstitutedCore (instant s) k x

-- A tree and types with all solutions put in, and the same store.
pub record IsPutInto (core : Core) (types : List Ty) (store : Stored) (f : Found) : Type 0 where
  pub same : f.store ≡ store
  pub tree : CoreBecomes (additions store) (plain_core core) (plain_core f.core)
  pub each : Each (TypeBecomes (additions store)) (map plain_ty types) (map plain_ty f.types)

-- All solutions can be put in, and the tree and the types are formed in the store.
pub record CanPutIn (s : Scene) : Type 0 where
  pub solved : HasPutIn (additions s.store)
  pub tree : CoreIsFormedIn (additions s.store) (plain_core s.core)
  pub each : EachIsFormedIn (additions s.store) (map plain_ty s.types)

-- what is answered where unification answered this
abbrev pub IsEnd : Scene → Unified → Solved → Type 0
IsEnd s unified.Solved (solved.Found f) = IsPutInto s.core s.types s.store f
IsEnd s (unified.Stuck left) (solved.Stuck ls) = ls ≡ left
IsEnd s (unified.Clash c) (solved.Clash d) = d ≡ c
IsEnd s unified.Solved (solved.Stuck ls) = ⊥
IsEnd s unified.Solved (solved.Clash d) = ⊥
IsEnd s (unified.Stuck left) (solved.Found f) = ⊥
IsEnd s (unified.Stuck left) (solved.Clash d) = ⊥
IsEnd s (unified.Clash c) (solved.Found f) = ⊥
IsEnd s (unified.Clash c) (solved.Stuck ls) = ⊥
