-- What holds over some metavariables holds over more.
use Rattle.std.specs.Prelude.{zero, suc, ◌≡◌, ◌⊎◌, List, [], ◌∷◌, Option, Some, None, refl}
use Rattle.std.proofs.Common.{inl, inr, ⊎_elim, true}
use Rattle.clf_syntax.specs.declared.tree.Head.{Head}
use Rattle.clf_syntax.specs.declared.tree.Head.TheVariants.{Const, Var, Meta}
use Rattle.clf_syntax.specs.Tree.{PlainObject, PlainNeutral}
use Rattle.clf_syntax.specs.TypeTree.{SimpleType, arrow}
use Rattle.clf_syntax.specs.Simple.{Assignment, SimplyTyped}
use Rattle.hered_subst.proofs.SimpleTyping.{to_typed, of_typed, to_neutral, of_neutral}
use Rattle.subst_laws.specs.Environments.{Instantiation, ComposedInstantiation}
use Rattle.store_laws.proofs.Closing.{Gives, gives_typed}
use Rattle.pattern_laws.specs.Instantiations.{Types, closed}
use Rattle.pattern_laws.specs.Equations.{Locals, scoped, Equation}
use Rattle.unify_laws.specs.Parts.{PartAt, part_here, part_function, part_fst, part_snd}
use Rattle.unify_laws.specs.Problems.{Grows}
use Rattle.unify_laws.proofs.Preserved.{typed_more, typed_more_neutral}
use Rattle.reach_laws.specs.Rest.{PartOf, part_itself, part_body, part_left, part_right, part_argument}
use Rattle.reach_laws.specs.Unified.{IsPutIn}
use Rattle.solver_laws.specs.Solving.{FromEarlierSide}

-- z has the types of g
abbrev pub More : Assignment → Assignment → Type 0
More g z = (h : Head) (u : SimpleType) → g h ≡ Some u → z h ≡ Some u

pub more_scoped : (constants metas more : Types) (ls : Locals) → Grows metas more → More (scoped ls (closed constants metas)) (scoped ls (closed constants more))
more_scoped constants metas more [] f (Const c) u e = e
more_scoped constants metas more [] f (Var i) u e = absurd (cc)
more_scoped constants metas more [] f (Meta m) u e = f m u e
more_scoped constants metas more (l ∷ ls) f (Const c) u e = more_scoped constants metas more ls f (Const c) u e
more_scoped constants metas more (l ∷ ls) f (Var zero) u e = e
more_scoped constants metas more (l ∷ ls) f (Var (suc i)) u e = more_scoped constants metas more ls f (Var i) u e
more_scoped constants metas more (l ∷ ls) f (Meta m) u e = more_scoped constants metas more ls f (Meta m) u e

pub simply_more : (g z : Assignment) (o : PlainObject) (t : SimpleType) → More g z → SimplyTyped g o t → SimplyTyped z o t
simply_more g z o t f p = of_typed (typed_more z (to_typed true g o t p) f)

part_at_grown : (g z : Assignment) → More g z → {o u : PlainObject} {c : SimpleType} {r n : PlainNeutral} → PartAt g o u c r n → PartAt z o u c r n
part_at_grown g z f {c = c} (part_here {m = m} {r = r} e t) = part_here e (of_neutral (typed_more_neutral z (to_neutral true g r (arrow m c e) t) f))
part_at_grown g z f (part_function p) = part_function (part_at_grown g z f p)
part_at_grown g z f (part_fst p) = part_fst (part_at_grown g z f p)
part_at_grown g z f (part_snd p) = part_snd (part_at_grown g z f p)

pub part_grown : (constants metas more : Types) → Grows metas more → {e d : Equation} → PartOf constants metas e d → PartOf constants more e d
part_grown constants metas more f part_itself = part_itself
part_grown constants metas more f (part_body p) = part_body (part_grown constants metas more f p)
part_grown constants metas more f (part_left r s d p) = part_left r s d (part_grown constants metas more f p)
part_grown constants metas more f (part_right l k c p) = part_right l k c (part_grown constants metas more f p)
part_grown constants metas more f (part_argument {ls = ls} r n a p h q) = part_argument r n a (part_grown constants metas more f p) h
    (part_at_grown (scoped ls (closed constants metas)) (scoped ls (closed constants more)) (more_scoped constants metas more ls f) q)

pub gives_grown : (constants metas more : Types) → Grows metas more → (s : Instantiation) → Gives (closed constants metas) s → Gives (closed constants more) s
gives_grown constants metas more f s g k x e = let (a, i, p) = g k x e in (a, f k a i, simply_more (closed constants metas) (closed constants more) x a (more_scoped constants metas more [] f) p)

pub cases_of : {X : Type 0} (o : Option X) → (o ≡ None) ⊎ ((x : X) × (o ≡ Some x))
cases_of None = inl refl
cases_of (Some x) = inr (x, refl)

pub some_none : {X : Type 0} {x : X} {o : Option X} → o ≡ None → o ≡ Some x → ⊥
some_none e f = cc

composed_grown : (constants metas more : Types) (earlier s : Instantiation) → Gives (closed constants metas) earlier → ComposedInstantiation (closed constants metas) earlier s s → ComposedInstantiation (closed constants more) earlier s s
composed_grown constants metas more earlier s g c m a e = ⊎_elim (λ h. inl (h, refl))
    (λ h. let (b, i, _) = g m h.0 h.1 in ⊎_elim (λ p. absurd (some_none p.0 h.1)) (λ p. inr p) (c m b i)) (cases_of (earlier m))

-- All solutions put in, where there are more metavariables.
pub put_in_grown : (constants metas more : Types) → Grows metas more → (given s : Instantiation) → IsPutIn constants metas given s → Gives (closed constants metas) s → IsPutIn constants more given s
put_in_grown constants metas more f given s p g = record {
  put_in = p.put_in;
  assigns = gives_typed (closed constants more) s (gives_grown constants metas more f s g);
  instances = (λ parameters t i. p.instances parameters t (λ m a e. i m a (f m a e)));
}

pub from_grown : (constants metas more : Types) → Grows metas more → (es : List Equation) (s : Instantiation) (o : PlainObject) → FromEarlierSide constants metas es s o → FromEarlierSide constants more es s o
from_grown constants metas more f es s o h = record {
  from = record {
    earlier = h.from.earlier;
    assigns = gives_typed (closed constants more) h.from.earlier (gives_grown constants metas more f h.from.earlier h.gives);
    absorbed = composed_grown constants metas more h.from.earlier s h.gives h.from.absorbed;
    equation = h.from.equation;
    after = h.from.after;
    part = h.from.part;
    listed = h.from.listed;
    is_under = h.from.is_under;
    is_part = part_grown constants metas more f h.from.is_part;
    places = h.from.places;
    within = h.from.within;
    solution = h.from.solution;
  };
  gives = gives_grown constants metas more f h.from.earlier h.gives;
}
