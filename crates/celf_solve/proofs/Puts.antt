-- Trees in a store with all solutions put in, from what is typed there.
use Rattle.std.specs.Prelude.{ℕ, zero, suc, ◌≡◌, ◌<◌, List, [], ◌∷◌, length, map, get_or, refl}
use Rattle.std.proofs.Common.{ap, sym, subst, ◌∙◌, arith}
use Rattle.clf_syntax.specs.declared.tree.Mode.{Mode}
use Rattle.clf_syntax.specs.declared.tree.Obj.{Obj}
use Rattle.clf_syntax.specs.declared.tree.Ty.{Ty, Fam, Fun, With, Top}
use Rattle.clf_syntax.specs.Plain.{plain_obj}
use Rattle.clf_syntax.specs.PlainTypes.{plain_ty, plain-Fam, plain-Fun, plain-With, plain-Top}
use Rattle.clf_syntax.specs.TypeTree.{PlainType, family, function, both, top, monad, PlainTelescope, PlainKind}
use Rattle.clf_syntax.specs.Simple.{Assignment, Families, erase, extended, SimplyFormedKind}
use Rattle.hered_subst.specs.Substitution.{Environment, SubstitutedType, in_monad, SubstitutedTelescope, SubstitutedKind, in_no_argument, in_argument}
use Rattle.subst_laws.specs.Environments.{Instantiation}
use Rattle.store_laws.specs.Additions.{Addition, given}
use Rattle.store_laws.specs.PutIn.{PutIn, IsClosed}
use Rattle.clf_sig.specs.Entry.{PlainClass, family_of, constant_of}
use Rattle.clf_sig.specs.Core.{PlainCore, declares, queries, traces, equates, checks}
use Rattle.metavars.specs.Becoming.{Each, none, next}
use Rattle.metavars.specs.Typed.{TypesStore}
use Rattle.metavars.proofs.Becomings.{under-closed}
use Rattle.metavars.proofs.TypesStores.{types-extended}
use Rattle.gathered_laws.specs.Formed.{ClassIsFormed, CoreIsFormed}
use Rattle.celf_solve.specs.Scenes.{EachIsFormed}
use Rattle.celf_solve.specs.Settled.{EachBecomes}
use Rattle.celf_solve.specs.Puts.{HasPutIn, IsFormedIn, EachIsFormedIn, ClassIsFormedIn, CoreIsFormedIn, TypeBecomes, TelescopeBecomes, KindBecomes}

-- ---- lists of types

module _ (zs : List Addition) where
  pub formed_at : (xs : List Ty) (i : ℕ) (x : Ty) → i < length xs → x ≡ get_or xs i x → EachIsFormedIn zs (map plain_ty xs) → IsFormedIn zs (plain_ty x)
  formed_at [] i x l e p = absurd (omega arith)
  formed_at (y ∷ xs) zero x l e p = subst (λ (u : Ty). IsFormedIn zs (plain_ty u)) (sym e) p.0
  formed_at (y ∷ xs) (suc i) x l e p = formed_at xs i x (omega arith) e p.1

  pub kind_becomes : {as_ bs : List PlainType} → Each (TypeBecomes zs) as_ bs → KindBecomes zs as_ bs
  kind_becomes none s p c = in_no_argument
  kind_becomes (next {xs = as_} {ys = bs} h hs) s p c = in_argument (h s p c)
      (subst (λ (z : Environment). SubstitutedKind z as_ bs) (sym (under-closed s c 1)) (kind_becomes hs s p c))

  pub each_becomes : (s : Instantiation) → PutIn (given zs) s → IsClosed s → {as_ bs : List PlainType} → Each (TypeBecomes zs) as_ bs → EachBecomes s as_ bs
  each_becomes s p c none = tt
  each_becomes s p c (next h hs) = (h s p c, each_becomes s p c hs)

-- ---- monads

through_monad : {s : Environment} {t u : PlainTelescope} → SubstitutedType s (monad t) (monad u) → SubstitutedTelescope s t u
through_monad (in_monad h) = h

monad_stays : {s : Environment} {t : PlainTelescope} {x : PlainType} → SubstitutedType s (monad t) x → (u : PlainTelescope) × (x ≡ monad u)
monad_stays (in_monad {u = u} h) = (u, refl)

module _ (zs : List Addition) where
  pub telescope_becomes : (t u : PlainTelescope) → TypeBecomes zs (monad t) (monad u) → TelescopeBecomes zs t u
  telescope_becomes t u h s p c = through_monad (h s p c)

  pub stays_monad : HasPutIn zs → (t : PlainTelescope) (x : PlainType) → TypeBecomes zs (monad t) x → (u : PlainTelescope) × (x ≡ monad u)
  stays_monad w t x h = monad_stays (h w.solutions w.put_in w.closed)

-- No other form of type is a monad.
module _ (x : Ty) (u : PlainTelescope) (e : plain_ty x ≡ monad u) where
  pub no_family : (f : ℕ) (ns : List Obj) → x ≡ Fam f ns → ⊥
  no_family f ns h = let k : plain_ty x ≡ family f (map plain_obj ns) = ap plain_ty h ∙ plain-Fam f ns in cc

  pub no_function : (m : Mode) (a b : Ty) → x ≡ Fun m a b → ⊥
  no_function m a b h = let k : plain_ty x ≡ function m (plain_ty a) (plain_ty b) = ap plain_ty h ∙ plain-Fun m a b in cc

  pub no_pair : (a b : Ty) → x ≡ With a b → ⊥
  no_pair a b h = let k : plain_ty x ≡ both (plain_ty a) (plain_ty b) = ap plain_ty h ∙ plain-With a b in cc

  pub no_top : x ≡ Top → ⊥
  no_top h = let k : plain_ty x ≡ top = ap plain_ty h ∙ plain-Top in cc

-- ---- what is typed by an assignment that types the store

module _ (zs : List Addition) (arguments : Families) where
  pub each_formed_in : (g : Assignment) → TypesStore g zs → (as_ : List PlainType) → EachIsFormed arguments g as_ → EachIsFormedIn zs as_
  each_formed_in g w [] p = tt
  each_formed_in g w (a ∷ as_) p = (record { arguments = arguments; assignment = g; store = w; formed = p.0 }, each_formed_in g w as_ p.1)

  kind_formed_in : (g : Assignment) → TypesStore g zs → (k : PlainKind) → SimplyFormedKind arguments g k → EachIsFormedIn zs k
  kind_formed_in g w [] p = tt
  kind_formed_in g w (a ∷ k) p = (
    record { arguments = arguments; assignment = g; store = w; formed = p.0 },
    kind_formed_in (extended (erase a) g) (types-extended (erase a) g zs w) k p.1,
  )

  class_formed_in : (g : Assignment) → TypesStore g zs → (c : PlainClass) → ClassIsFormed arguments g c → ClassIsFormedIn zs c
  class_formed_in g w (family_of k) p = kind_formed_in g w k p
  class_formed_in g w (constant_of a) p = record { arguments = arguments; assignment = g; store = w; formed = p }

  pub core_formed_in : (g : Assignment) → TypesStore g zs → (c : PlainCore) → CoreIsFormed arguments g c → CoreIsFormedIn zs c
  core_formed_in g w (declares name e) p = class_formed_in g w e.class p
  core_formed_in g w (queries a) p = record { arguments = arguments; assignment = g; store = w; formed = p }
  core_formed_in g w (traces s) p = record { arguments = arguments; assignment = g; store = w; formed = p }
  core_formed_in g w (equates m n a) p = (
    record { arguments = arguments; assignment = g; store = w; formed = p.0 },
    record { assignment = g; type = erase a; store = w; typed = p.1 },
    record { assignment = g; type = erase a; store = w; typed = p.2 },
  )
  core_formed_in g w (checks n a) p = (
    record { arguments = arguments; assignment = g; store = w; formed = p.0 },
    record { assignment = g; type = erase a; store = w; typed = p.1 },
  )
