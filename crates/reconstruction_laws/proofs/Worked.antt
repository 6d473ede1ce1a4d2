-- The worked declaration.
use Rattle.std.specs.Prelude.{ℕ, zero, suc, ◌+◌, ◌≡◌, ◌<◌, Bool, true, false, nat_lt, [], ◌∷◌, Some, None, refl, slice_get}
use Rattle.std.proofs.Common.{ap, arith, inl, subst, sym, ◌∙◌}
use Rattle.clf_syntax.specs.declared.tree.Mode.{Mode}
use Rattle.clf_syntax.specs.declared.tree.Mode.TheVariants.{Persistent}
use Rattle.clf_syntax.specs.declared.tree.Head.{Head}
use Rattle.clf_syntax.specs.declared.tree.Head.TheVariants.{Const, Meta, Var}
use Rattle.clf_syntax.specs.Tree as core
use Rattle.clf_syntax.specs.Tree.{PlainObject}
use Rattle.clf_syntax.specs.TypeTree.{PlainType, SimpleType, base}
use Rattle.clf_syntax.specs.Simple.{SimplyFormed, SimplyTyped, erase}
use Rattle.use_contexts.specs.Context.{Context, HasVariable}
use Rattle.hered_subst.specs.Substitution.{Environment, keep, SubstitutedType, each_next, each_none, in_family, kept_bare, through_kept, through_value, value_bare}
use Rattle.subst_laws.specs.Environments.{Instantiation}
use Rattle.pattern_laws.specs.Instantiations.{Instantiates, closed, over}
use Rattle.typing_laws.specs.SimpleTyping.{families_of}
use Rattle.elaboration_laws.specs.ItemSetting.{ReadTypes, item_constants}
use Rattle.celf_surface.specs.declared.surface.Span.{Span}
use Rattle.celf_elaboration.specs.Declarations.{IsTreeOf}
use Rattle.celf_elaboration.specs.Directives.{no_parameters}
use Rattle.celf_elaboration.specs.Readings.{filled_none, indices_next, indices_none, reads_family, reads_hole}
use Rattle.reconstruction_laws.specs.Examples.{Worked, a, fillings, metas, p_at, signature, written}
use Rattle.reconstruction_laws.specs.Fronts.{AllPersistent, FrontsBinders, IsAllPutIn, IsInFront, binder_constants}
use Rattle.reconstruction_laws.proofs.Fronted.{declaration_is_elaboration}

nothing : {A : Type 0} {x : A} → None ≡ Some x → ⊥
nothing e = cc

the_object : {A : Type 0} {x y : A} → Some x ≡ Some y → x ≡ y
the_object e = cc

tree : (s : Span) → IsTreeOf signature [] (written s) fillings (p_at (Meta 0))
tree s = record { new = (refl, tt); reading = reads_family refl refl filled_none (indices_next (reads_hole refl) indices_none refl) refl }

read : ReadTypes signature [] metas
read x b e = absurd (nothing e)

formed : SimplyFormed (families_of signature) (closed (item_constants signature []) metas) (p_at (Meta 0))
formed = (base 0 ∷ [], refl, ((inl (0, refl), refl), tt))

-- the constant of the binder, past the signature
abbrev binder : PlainObject
binder = core.atomic (core.head_alone (Const 2))

abbrev final : Instantiation
final zero = Some binder
final (suc m) = None

instantiates : Instantiates (binder_constants signature [] (base 0 ∷ [])) metas no_parameters final
instantiates zero b e = (binder, refl, subst (λ (t : SimpleType). SimplyTyped (over (binder_constants signature [] (base 0 ∷ [])) no_parameters) binder t) (the_object e) (inl (0, refl), refl))
instantiates (suc m) b e = absurd (nothing e)

others : (j : ℕ) (b : PlainType) → slice_get (a ∷ []) j ≡ Some b → slice_get (base 0 ∷ []) j ≡ Some (erase b)
others zero b e = ap (λ t. Some (erase t)) (the_object e)
others (suc j) b e = absurd (nothing e)

all : IsAllPutIn signature [] metas (base 0 ∷ []) final (a ∷ [])
all = record {
  instantiates = instantiates;
  implicit = λ x b c e. absurd (nothing e);
  others = λ j b e. others j b (ap (slice_get (a ∷ [])) (sym (none j)) ∙ e);
  count = refl;
}
  where
    none : (j : ℕ) → 0 + j ≡ j
    none j = omega arith

abbrev front : Context
front = (Persistent, a) ∷ []

abbrev fronted : ℕ → Bool → Head
fronted c true = Const c
fronted c false = Var 0

abbrev in_front : Environment
in_front (Const c) = keep (fronted c (nat_lt c 2))
in_front (Var i) = keep (Var i)
in_front (Meta m) = keep (Meta m)

in_its_place : (b : PlainType) → a ≡ b → IsInFront 2 front in_front 0 b 0
in_its_place b e = record { type = a; put = refl; variable = (Persistent, a, refl, refl); carried = subst (λ (t : PlainType). SubstitutedType in_front t a) e (in_family each_none) }

fronts : FrontsBinders 2 (a ∷ []) front in_front (λ j. 0)
fronts = record {
  constants = λ c h. ap (λ b. keep (fronted c b)) (below c h);
  each = each;
  only = only;
}
  where
    below : (c : ℕ) → c < 2 → nat_lt c 2 ≡ true
    below c h = grind (arith, h)

    each : (x : ℕ) (b : PlainType) → slice_get (a ∷ []) x ≡ Some b → (j : ℕ) × IsInFront 2 front in_front x b j × (0 ≡ x)
    each zero b e = (0, in_its_place b (the_object e), refl)
    each (suc x) b e = absurd (nothing e)

    only : (j : ℕ) (b : PlainType) → HasVariable front j b → (c : PlainType) × (slice_get (a ∷ []) 0 ≡ Some c) × IsInFront 2 front in_front 0 c j
    only zero b v = (a, refl, in_its_place a refl)
    only (suc j) b v = absurd (nothing v.2)

persistent : AllPersistent front
persistent zero e i = ap (λ (e : Mode × PlainType). e.0) (sym (the_object i))
persistent (suc j) e i = absurd (nothing i)

pub worked : Worked
worked s = record {
  tree = tree s;
  elaborated = declaration_is_elaboration signature [] metas (p_at (Meta 0)) read formed (base 0 ∷ []) final (a ∷ []) all front in_front (λ j. 0) fronts persistent (p_at (Const 2)) (p_at (Var 0))
      (in_family (each_next (through_value (value_bare refl)) each_none)) (in_family (each_next (through_kept (kept_bare refl)) each_none)) 0;
}
