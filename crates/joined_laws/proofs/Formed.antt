-- Joined types, telescopes and kinds are formed alike.
use Rattle.clf_syntax.specs.Simple.{Assignment, EachSimplyTypedWith, Families, KindSimplyFormedWith, SimplyFormedWith, TelescopeSimplyFormedWith, erase, erase_telescope, extended, no_holes}
use Rattle.clf_syntax.specs.Tree.{PlainObject}
use Rattle.clf_syntax.specs.TypeTree.{PlainKind, PlainTelescope, PlainType, SimpleType, lax}
use Rattle.joined_laws.proofs.ExchangedTyped.{joined_typed}
use Rattle.joined_laws.specs.JoinedTypes.{JoinedKind, JoinedTelescope, JoinedType, joined_argument, joined_binding, joined_both, joined_end, joined_family, joined_function, joined_monad, joined_no_argument, joined_top}
use Rattle.std.proofs.Common.{ap, subst, sym}
use Rattle.std.specs.Prelude.{Bool, List, [], refl, ◌∷◌, ◌≡◌}
use Rattle.trace_equal.specs.Exchange.{JoinedEach}
use Rattle.hered_subst.proofs.SimpleTyping.{of_typed, to_typed}
use Rattle.hered_subst.proofs.TypedResults.{arrows, bindings, products}

-- what is joined is formed alike
pub joined_each_typed : (w : Bool) (g : Assignment) (ns os : List PlainObject) (ts : List SimpleType) → JoinedEach ns os → EachSimplyTypedWith (no_holes w) g ns ts → EachSimplyTypedWith (no_holes w) g os ts
joined_each_typed w g [] [] ts j p = p
joined_each_typed w g (n ∷ ns) (o ∷ os) (t ∷ ts) j p = (of_typed (joined_typed w j.0 (to_typed w g n t p.0)), joined_each_typed w g ns os ts j.1 p.1)
joined_each_typed w g (n ∷ ns) (o ∷ os) [] j p = absurd p
joined_each_typed w g [] (o ∷ os) ts j p = absurd j
joined_each_typed w g (n ∷ ns) [] ts j p = absurd j

module _ (w : Bool) (arguments : Families) where
  mutual
    pub joined_formed : (g : Assignment) {a b : PlainType} → JoinedType a b → SimplyFormedWith (no_holes w) arguments g a → SimplyFormedWith (no_holes w) arguments g b × (erase b ≡ erase a)
    joined_formed g (joined_family {ns = ns} {os = os} j) p = let (ts, e, q) = p in ((ts, e, joined_each_typed w g ns os ts j q), refl)
    joined_formed g (joined_function {m = m} {a = a} {c = c} {d = d} j k) p = let (q, e) = joined_formed g j p.0 in let (r, f) = joined_formed (extended (erase a) g) k p.1 in
        ((q, subst (λ t. SimplyFormedWith (no_holes w) arguments (extended t g) d) (sym e) r), arrows m e f)
    joined_formed g (joined_both j k) p = let (q, e) = joined_formed g j p.0 in let (r, f) = joined_formed g k p.1 in ((q, r), products e f)
    joined_formed g joined_top p = (tt, refl)
    joined_formed g (joined_monad j) p = let (q, e) = joined_formed_telescope g j p in (q, ap lax e)

    pub joined_formed_telescope : (g : Assignment) {s u : PlainTelescope} → JoinedTelescope s u → TelescopeSimplyFormedWith (no_holes w) arguments g s → TelescopeSimplyFormedWith (no_holes w) arguments g u × (erase_telescope u ≡ erase_telescope s)
    joined_formed_telescope g joined_end p = (tt, refl)
    joined_formed_telescope g (joined_binding {m = m} {a = a} {u = u} j k) p = let (q, e) = joined_formed g j p.0 in let (r, f) = joined_formed_telescope (extended (erase a) g) k p.1 in
        ((q, subst (λ t. TelescopeSimplyFormedWith (no_holes w) arguments (extended t g) u) (sym e) r), bindings m e f)

  pub joined_formed_kind : (g : Assignment) {k l : PlainKind} → JoinedKind k l → KindSimplyFormedWith (no_holes w) arguments g k → KindSimplyFormedWith (no_holes w) arguments g l
  joined_formed_kind g joined_no_argument p = tt
  joined_formed_kind g (joined_argument {a = a} {l = l} j k) p = let (q, e) = joined_formed g j p.0 in (q, subst (λ t. KindSimplyFormedWith (no_holes w) arguments (extended t g) l) (sym e) (joined_formed_kind (extended (erase a) g) k p.1))
