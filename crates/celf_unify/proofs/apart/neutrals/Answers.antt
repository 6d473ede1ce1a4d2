use Rattle.std.proofs.Common.{rules, map, ap, sym, subst, ◌∙◌}
use Rattle.std.specs.Option.{option_map}
use Rattle.clf_syntax.specs.Tree.{head_alone, spine_on}
use Rattle.clf_syntax.specs.Plain.{plain_obj, plain_elim}
use Rattle.clf_syntax.specs.PlainSimple.{plain_simple}
use Rattle.clf_syntax.specs.Simple.{SimplyTypedNeutral}
use Rattle.clf_syntax.proofs.OccursLaws.{not_both}
use Rattle.pattern_laws.specs.Equations.{scoped}
use Rattle.pattern_laws.specs.Instantiations.{closed}
use Rattle.clf_simple.specs.Scope.{scope}
use Rattle.celf_constraints.specs.Equated.{plain_equation, plain_locals}
use Rattle.celf_unify.specs.Gathered.{consts_in, metas_in}
use Rattle.celf_unify.specs.Judged.{Pairs}
use Rattle.celf_unify.proofs.Insides.{atomic_side}
use Rattle.celf_unify.proofs.Families.{spine_typed, no_type, left_rigid, other_heads, unmatched, paired, pairs_there}
use Rattle.celf_unify.proofs.apart.neutrals.Goals as goal

pub neutral_of-left-requires : goal.neutral_of-left-requires
neutral_of-left-requires c = record { atomic = atomic_side (scoped (plain_locals c.args.equation.now.locals.items) (closed (consts_in c.args.store.now) (metas_in c.args.store.now))) (plain_obj c.args.equation.now.left) c.requires.family.0 (plain_simple c.args.equation.now.ty) c.requires.rigid.typed.0 c.requires.family.1 }

pub neutral_of-right-requires : goal.neutral_of-right-requires
neutral_of-right-requires c = record { atomic = atomic_side (scoped (plain_locals c.args.equation.now.locals.items) (closed (consts_in c.args.store.now) (metas_in c.args.store.now))) (plain_obj c.args.equation.now.right) c.requires.family.0 (plain_simple c.args.equation.now.ty) c.requires.rigid.typed.1 c.requires.family.1 }

pub returns-then-not-is_same_head-clause-judged : goal.returns-then-not-is_same_head-clause-judged
returns-then-not-is_same_head-clause-judged c = other_heads c.args.store.now (plain_equation c.args.equation.now) c.requires.rigid c.neutral_of-left.result.now c.neutral_of-right.result.now c.neutral_of-left.ensures c.neutral_of-right.ensures
    (λ h. not_both (c.is_same_head.ensures.1 h) (search rules))

pub unreachable-requires : goal.unreachable-requires
unreachable-requires c = no_type c.args.store.now (plain_equation c.args.equation.now) c.requires.rigid c.neutral_of-left.result.now c.neutral_of-right.result.now c.neutral_of-left.ensures c.neutral_of-right.ensures
    (sym (c.head_type.ensures (plain_locals c.args.equation.now.locals.items) (ap scope c.as_slice.ensures.value ∙ c.in_ok-types.ensures ∙ ap (λ ls. map (λ l. l.1) (plain_locals ls)) c.as_slice-locals.ensures.value)) ∙ ap (option_map (λ t. plain_simple t.now)) c.in-None.is)

pub returns-in-None-2-clause-judged : goal.returns-in-None-2-clause-judged
returns-in-None-2-clause-judged c = unmatched c.args.store.now (plain_equation c.args.equation.now) c.requires.rigid c.neutral_of-left.result.now c.neutral_of-right.result.now c.neutral_of-left.ensures c.neutral_of-right.ensures (c.is_same_head.ensures.0 (search rules))
    (subst (λ o. Pairs (scoped (plain_locals c.args.equation.now.locals.items) (closed (consts_in c.args.store.now) (metas_in c.args.store.now))) (plain_locals c.args.equation.now.locals.items) (spine_on (map plain_elim c.neutral_of-left.result.now.spine) (head_alone c.neutral_of-left.result.now.head))
    (spine_on (map plain_elim c.neutral_of-right.result.now.spine) (head_alone c.neutral_of-left.result.now.head)) (option_map (λ v. map plain_equation v.items) o)) c.in-None-2.is
    (pairs_there (scoped (plain_locals c.args.equation.now.locals.items) (closed (consts_in c.args.store.now) (metas_in c.args.store.now))) c.as_slice-locals.result.now c.args.equation.now.locals.items c.as_slice-in-Some.result.now c.as_slice-in-Some-2.result.now
    c.neutral_of-left.result.now.spine c.neutral_of-right.result.now.spine c.neutral_of-left.result.now.head (option_map (λ v. map plain_equation v.items) c.in_ok-argument_parts-in-Some.field-0) c.as_slice-locals.ensures.value c.as_slice-in-Some.ensures c.as_slice-in-Some-2.ensures
    (c.in_ok-argument_parts-in-Some.ensures (scoped (plain_locals c.args.equation.now.locals.items) (closed (consts_in c.args.store.now) (metas_in c.args.store.now))) c.neutral_of-left.result.now.head (plain_simple c.args.equation.now.ty)
    (sym (c.head_type.ensures (plain_locals c.args.equation.now.locals.items) (ap scope c.as_slice.ensures.value ∙ c.in_ok-types.ensures ∙ ap (λ ls. map (λ l. l.1) (plain_locals ls)) c.as_slice-locals.ensures.value)) ∙ ap (option_map (λ t. plain_simple t.now)) c.in-Some.is)
    (left_rigid c.args.store.now (plain_equation c.args.equation.now) c.requires.rigid c.neutral_of-left.result.now c.neutral_of-right.result.now c.neutral_of-left.ensures c.neutral_of-right.ensures)
    (subst (λ xs. SimplyTypedNeutral (scoped (plain_locals c.args.equation.now.locals.items) (closed (consts_in c.args.store.now) (metas_in c.args.store.now))) (spine_on (map plain_elim xs) (head_alone c.neutral_of-left.result.now.head)) (plain_simple c.args.equation.now.ty)) (sym c.as_slice-in-Some.ensures)
    (spine_typed c.args.store.now (plain_equation c.args.equation.now) c.requires.rigid c.neutral_of-left.result.now c.neutral_of-right.result.now c.neutral_of-left.ensures c.neutral_of-right.ensures)))))

pub returns-clause-judged : goal.returns-clause-judged
returns-clause-judged c = paired c.args.store.now (plain_equation c.args.equation.now) c.requires.rigid c.neutral_of-left.result.now c.neutral_of-right.result.now c.neutral_of-left.ensures c.neutral_of-right.ensures (c.is_same_head.ensures.0 (search rules)) (map plain_equation c.in-Some-2.parts.items) c.requires.family
    (subst (λ o. Pairs (scoped (plain_locals c.args.equation.now.locals.items) (closed (consts_in c.args.store.now) (metas_in c.args.store.now))) (plain_locals c.args.equation.now.locals.items) (spine_on (map plain_elim c.neutral_of-left.result.now.spine) (head_alone c.neutral_of-left.result.now.head))
    (spine_on (map plain_elim c.neutral_of-right.result.now.spine) (head_alone c.neutral_of-left.result.now.head)) (option_map (λ v. map plain_equation v.items) o)) c.in-Some-2.is
    (pairs_there (scoped (plain_locals c.args.equation.now.locals.items) (closed (consts_in c.args.store.now) (metas_in c.args.store.now))) c.as_slice-locals.result.now c.args.equation.now.locals.items c.as_slice-in-Some.result.now c.as_slice-in-Some-2.result.now
    c.neutral_of-left.result.now.spine c.neutral_of-right.result.now.spine c.neutral_of-left.result.now.head (option_map (λ v. map plain_equation v.items) c.in_ok-argument_parts-in-Some.field-0) c.as_slice-locals.ensures.value c.as_slice-in-Some.ensures c.as_slice-in-Some-2.ensures
    (c.in_ok-argument_parts-in-Some.ensures (scoped (plain_locals c.args.equation.now.locals.items) (closed (consts_in c.args.store.now) (metas_in c.args.store.now))) c.neutral_of-left.result.now.head (plain_simple c.args.equation.now.ty)
    (sym (c.head_type.ensures (plain_locals c.args.equation.now.locals.items) (ap scope c.as_slice.ensures.value ∙ c.in_ok-types.ensures ∙ ap (λ ls. map (λ l. l.1) (plain_locals ls)) c.as_slice-locals.ensures.value)) ∙ ap (option_map (λ t. plain_simple t.now)) c.in-Some.is)
    (left_rigid c.args.store.now (plain_equation c.args.equation.now) c.requires.rigid c.neutral_of-left.result.now c.neutral_of-right.result.now c.neutral_of-left.ensures c.neutral_of-right.ensures)
    (subst (λ xs. SimplyTypedNeutral (scoped (plain_locals c.args.equation.now.locals.items) (closed (consts_in c.args.store.now) (metas_in c.args.store.now))) (spine_on (map plain_elim xs) (head_alone c.neutral_of-left.result.now.head)) (plain_simple c.args.equation.now.ty)) (sym c.as_slice-in-Some.ensures)
    (spine_typed c.args.store.now (plain_equation c.args.equation.now) c.requires.rigid c.neutral_of-left.result.now c.neutral_of-right.result.now c.neutral_of-left.ensures c.neutral_of-right.ensures)))))
