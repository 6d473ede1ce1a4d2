-- Renamed types, telescopes and kinds: formed alike, with the same erasure.
use Rattle.clf_syntax.specs.Renaming.{Renumbering, lifted, ren, ren_head, ren_kind, ren_objects, ren_telescope, ren_type}
use Rattle.clf_syntax.specs.Simple.{Assignment, Families, SimplyFormed, SimplyFormedKind, SimplyFormedTelescope, SimplyTypedEach, erase, erase_telescope, extended}
use Rattle.clf_syntax.specs.Tree.{PlainObject}
use Rattle.clf_syntax.specs.TypeTree.{PlainKind, PlainTelescope, PlainType, SimpleType, binding, both, end, family, function, lax, monad, top}
use Rattle.clf_syntax.specs.declared.tree.Head.{Head}
use Rattle.std.proofs.Common.{ap, ◌∙◌}
use Rattle.std.specs.Prelude.{List, [], refl, true, ◌∷◌, ◌≡◌}
use Rattle.hered_subst.proofs.SimpleTyping.{of_typed, renamed_typed, suited, to_typed}
use Rattle.hered_subst.proofs.TypedResults.{arrows, bindings, products}
use Rattle.subst_laws.proofs.TypedBack.{typed_back}
use Rattle.subst_laws.specs.Laws.{RenamingKeepsFormed}

mutual
  pub erase_renamed : (r : Renumbering) (a : PlainType) → erase (ren_type r a) ≡ erase a
  erase_renamed r (family f ns) = refl
  erase_renamed r (function m a b) = arrows m (erase_renamed r a) (erase_renamed (lifted 1 r) b)
  erase_renamed r (both a b) = products (erase_renamed r a) (erase_renamed r b)
  erase_renamed r top = refl
  erase_renamed r (monad s) = ap lax (erase_renamed_telescope r s)

  pub erase_renamed_telescope : (r : Renumbering) (s : PlainTelescope) → erase_telescope (ren_telescope r s) ≡ erase_telescope s
  erase_renamed_telescope r end = refl
  erase_renamed_telescope r (binding m a s) = bindings m (erase_renamed r a) (erase_renamed_telescope (lifted 1 r) s)

each_there : (g z : Assignment) (r : Renumbering) → ((h : Head) → z (ren_head r h) ≡ g h) → (ns : List PlainObject) (ts : List SimpleType) → SimplyTypedEach g ns ts → SimplyTypedEach z (ren_objects r ns) ts
each_there g z r f [] [] p = tt
each_there g z r f (n ∷ ns) (t ∷ ts) p = (of_typed (renamed_typed z r (to_typed true g n t p.0) f), each_there g z r f ns ts p.1)
each_there g z r f [] (t ∷ ts) p = absurd p
each_there g z r f (n ∷ ns) [] p = absurd p

each_back : (g z : Assignment) (r : Renumbering) → ((h : Head) → z (ren_head r h) ≡ g h) → (ns : List PlainObject) (ts : List SimpleType) → SimplyTypedEach z (ren_objects r ns) ts → SimplyTypedEach g ns ts
each_back g z r f [] [] p = tt
each_back g z r f (n ∷ ns) (t ∷ ts) p = (of_typed (typed_back true z r g f n (to_typed true z (ren r n) t p.0)), each_back g z r f ns ts p.1)
each_back g z r f [] (t ∷ ts) p = absurd p
each_back g z r f (n ∷ ns) [] p = absurd p

-- the assignments agree under a binder, at the erasure before the renaming or after it
agrees : (g z : Assignment) (r : Renumbering) → ((h : Head) → z (ren_head r h) ≡ g h) → (a : PlainType) (h : Head) → extended (erase (ren_type r a)) z (ren_head (lifted 1 r) h) ≡ extended (erase a) g h
agrees g z r f a h = ap (λ (d : SimpleType). extended d z (ren_head (lifted 1 r) h)) (erase_renamed r a) ∙ suited (erase a) g z r f h

module _ (arguments : Families) where
  mutual
    pub formed_there : (g z : Assignment) (r : Renumbering) → ((h : Head) → z (ren_head r h) ≡ g h) → (a : PlainType) → SimplyFormed arguments g a → SimplyFormed arguments z (ren_type r a)
    formed_there g z r f (family c ns) p = let (ts, e, q) = p in (ts, e, each_there g z r f ns ts q)
    formed_there g z r f (function m a b) p = (formed_there g z r f a p.0, formed_there (extended (erase a) g) (extended (erase (ren_type r a)) z) (lifted 1 r) (agrees g z r f a) b p.1)
    formed_there g z r f (both a b) p = (formed_there g z r f a p.0, formed_there g z r f b p.1)
    formed_there g z r f top p = tt
    formed_there g z r f (monad s) p = formed_there_telescope g z r f s p

    pub formed_there_telescope : (g z : Assignment) (r : Renumbering) → ((h : Head) → z (ren_head r h) ≡ g h) → (s : PlainTelescope) → SimplyFormedTelescope arguments g s → SimplyFormedTelescope arguments z (ren_telescope r s)
    formed_there_telescope g z r f end p = tt
    formed_there_telescope g z r f (binding m a b) p = (formed_there g z r f a p.0, formed_there_telescope (extended (erase a) g) (extended (erase (ren_type r a)) z) (lifted 1 r) (agrees g z r f a) b p.1)

  pub formed_there_kind : (g z : Assignment) (r : Renumbering) → ((h : Head) → z (ren_head r h) ≡ g h) → (k : PlainKind) → SimplyFormedKind arguments g k → SimplyFormedKind arguments z (ren_kind r k)
  formed_there_kind g z r f [] p = tt
  formed_there_kind g z r f (a ∷ b) p = (formed_there g z r f a p.0, formed_there_kind (extended (erase a) g) (extended (erase (ren_type r a)) z) (lifted 1 r) (agrees g z r f a) b p.1)

  mutual
    pub formed_back : (g z : Assignment) (r : Renumbering) → ((h : Head) → z (ren_head r h) ≡ g h) → (a : PlainType) → SimplyFormed arguments z (ren_type r a) → SimplyFormed arguments g a
    formed_back g z r f (family c ns) p = let (ts, e, q) = p in (ts, e, each_back g z r f ns ts q)
    formed_back g z r f (function m a b) p = (formed_back g z r f a p.0, formed_back (extended (erase a) g) (extended (erase (ren_type r a)) z) (lifted 1 r) (agrees g z r f a) b p.1)
    formed_back g z r f (both a b) p = (formed_back g z r f a p.0, formed_back g z r f b p.1)
    formed_back g z r f top p = tt
    formed_back g z r f (monad s) p = formed_back_telescope g z r f s p

    pub formed_back_telescope : (g z : Assignment) (r : Renumbering) → ((h : Head) → z (ren_head r h) ≡ g h) → (s : PlainTelescope) → SimplyFormedTelescope arguments z (ren_telescope r s) → SimplyFormedTelescope arguments g s
    formed_back_telescope g z r f end p = tt
    formed_back_telescope g z r f (binding m a b) p = (formed_back g z r f a p.0, formed_back_telescope (extended (erase a) g) (extended (erase (ren_type r a)) z) (lifted 1 r) (agrees g z r f a) b p.1)

  pub formed_back_kind : (g z : Assignment) (r : Renumbering) → ((h : Head) → z (ren_head r h) ≡ g h) → (k : PlainKind) → SimplyFormedKind arguments z (ren_kind r k) → SimplyFormedKind arguments g k
  formed_back_kind g z r f [] p = tt
  formed_back_kind g z r f (a ∷ b) p = (formed_back g z r f a p.0, formed_back_kind (extended (erase a) g) (extended (erase (ren_type r a)) z) (lifted 1 r) (agrees g z r f a) b p.1)

pub renaming_keeps_formed : RenamingKeepsFormed
renaming_keeps_formed arguments g z r f = (
  (λ a. (formed_there arguments g z r f a, formed_back arguments g z r f a, erase_renamed r a)),
  (λ s. (formed_there_telescope arguments g z r f s, formed_back_telescope arguments g z r f s, erase_renamed_telescope r s)),
  (λ k. (formed_there_kind arguments g z r f k, formed_back_kind arguments g z r f k)),
)
