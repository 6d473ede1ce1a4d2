use Rattle.std.proofs.Common.{map, ap, sym, subst, ◌∙◌, ◌++◌, [], ◌∷◌}
use Rattle.std.proofs.lemmas.Result.{IfOk-weaker}
use Rattle.clf_syntax.specs.Plain.{plain_obj}
use Rattle.clf_syntax.specs.PlainSimple.{plain_simple}
use Rattle.pattern_laws.specs.Equations.{scoped}
use Rattle.pattern_laws.specs.Instantiations.{closed}
use Rattle.celf_constraints.specs.Equated.{plain_equation, plain_locals}
use Rattle.celf_unify.specs.Gathered.{consts_in, metas_in}
use Rattle.celf_unify.specs.Examined.{TakenApart}
use Rattle.celf_unify.specs.Sided.{posed}
use Rattle.celf_unify.proofs.Bodies.{apart_pairs}
use Rattle.celf_unify.proofs.Insides.{pair_side}
use Rattle.celf_unify.proofs.parts.pair_parts.Goals as goal

pub halves_of-left-requires : goal.halves_of-left-requires
halves_of-left-requires c = let (s, rigid, e) = c.requires.both in record { pair = pair_side (scoped (plain_locals c.args.equation.now.locals.items) (closed (consts_in s) (metas_in s))) (plain_obj c.args.equation.now.left) (plain_simple c.args.first.now) (plain_simple c.args.second.now) (plain_simple c.args.equation.now.ty) rigid.typed.0 e }

pub halves_of-right-requires : goal.halves_of-right-requires
halves_of-right-requires c = let (s, rigid, e) = c.requires.both in record { pair = pair_side (scoped (plain_locals c.args.equation.now.locals.items) (closed (consts_in s) (metas_in s))) (plain_obj c.args.equation.now.right) (plain_simple c.args.first.now) (plain_simple c.args.second.now) (plain_simple c.args.equation.now.ty) rigid.typed.1 e }

pub returns : goal.returns
returns c = IfOk-weaker c.with_equation-2.result _ _
    (λ parts h s rigid e. subst (TakenApart (consts_in s) (metas_in s) (plain_equation c.args.equation.now))
    (sym (h ∙ ap (λ es. es ++ plain_equation c.in_ok-above.above ∷ []) (c.in_ok-parts.ensures ∙ ap (λ es. map plain_equation es ++ plain_equation c.in_ok-below.below ∷ []) c.new.ensures.items)
    ∙ ap (λ q. plain_equation c.in_ok-below.below ∷ q ∷ []) (c.in_ok-above.ensures ∙ ap (λ ls. posed ls (plain_simple c.args.first.now) (plain_obj c.halves_of-left.result.first.now) (plain_obj c.halves_of-right.result.first.now)) (c.in_ok-outer.ensures ∙ c.as_slice.ensures.value))
    ∙ ap (λ q. q ∷ posed c.args.equation.now.locals.items (plain_simple c.args.first.now) (plain_obj c.halves_of-left.result.first.now) (plain_obj c.halves_of-right.result.first.now) ∷ [])
    (c.in_ok-below.ensures ∙ ap (λ ls. posed ls (plain_simple c.args.second.now) (plain_obj c.halves_of-left.result.second.now) (plain_obj c.halves_of-right.result.second.now)) (c.in_ok-locals.ensures ∙ c.as_slice-2.ensures.value))))
    (apart_pairs (consts_in s) (metas_in s) (plain_equation c.args.equation.now) (plain_obj c.halves_of-left.result.first.now) (plain_obj c.halves_of-right.result.first.now) (plain_obj c.halves_of-left.result.second.now) (plain_obj c.halves_of-right.result.second.now) (plain_simple c.args.first.now) (plain_simple c.args.second.now)
    c.halves_of-left.ensures c.halves_of-right.ensures e))
    c.with_equation-2.ensures
