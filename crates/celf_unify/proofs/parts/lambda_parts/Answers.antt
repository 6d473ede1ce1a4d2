use Rattle.std.proofs.Common.{map, ap, sym, subst, ◌∙◌, ◌++◌, [], ◌∷◌}
use Rattle.std.proofs.lemmas.Result.{IfOk-weaker}
use Rattle.clf_syntax.specs.Plain.{plain_obj}
use Rattle.clf_syntax.specs.PlainSimple.{plain_simple}
use Rattle.pattern_laws.specs.Equations.{scoped}
use Rattle.pattern_laws.specs.Instantiations.{closed}
use Rattle.celf_constraints.specs.Equated.{plain_equation, plain_locals}
use Rattle.celf_unify.specs.Gathered.{consts_in, metas_in}
use Rattle.celf_unify.specs.Examined.{TakenApart}
use Rattle.celf_unify.proofs.Bodies.{apart_lams}
use Rattle.celf_unify.proofs.Insides.{lambda_side}
use Rattle.celf_unify.proofs.parts.lambda_parts.Goals as goal

pub body_of-left-requires : goal.body_of-left-requires
body_of-left-requires c = let (s, rigid, e) = c.requires.function in record { lambda = lambda_side (scoped (plain_locals c.args.equation.now.locals.items) (closed (consts_in s) (metas_in s))) (plain_obj c.args.equation.now.left) c.args.mode (plain_simple c.args.dom.now) (plain_simple c.args.cod.now) (plain_simple c.args.equation.now.ty) rigid.typed.0 e }

pub body_of-right-requires : goal.body_of-right-requires
body_of-right-requires c = let (s, rigid, e) = c.requires.function in record { lambda = lambda_side (scoped (plain_locals c.args.equation.now.locals.items) (closed (consts_in s) (metas_in s))) (plain_obj c.args.equation.now.right) c.args.mode (plain_simple c.args.dom.now) (plain_simple c.args.cod.now) (plain_simple c.args.equation.now.ty) rigid.typed.1 e }

pub returns : goal.returns
returns c = IfOk-weaker c.with_equation.result _ _
    (λ parts h s rigid e. subst (TakenApart (consts_in s) (metas_in s) (plain_equation c.args.equation.now)) (sym (h ∙ ap (λ es. map plain_equation es ++ plain_equation c.in_ok-part.part ∷ []) c.new.ensures.items))
    (apart_lams (consts_in s) (metas_in s) (plain_equation c.args.equation.now) c.body_of-left.ensures.0 c.body_of-right.ensures.0 c.args.mode (plain_obj c.body_of-left.result.now) (plain_obj c.body_of-right.result.now) (plain_simple c.args.dom.now) (plain_simple c.args.cod.now) rigid.typed
    c.body_of-left.ensures.1 c.body_of-right.ensures.1 e (plain_equation c.in_ok-part.part)
    (ap (λ q. q.locals) c.in_ok-part.ensures ∙ c.in_ok-locals.ensures ∙ ap (λ ls. (c.args.mode, plain_simple c.args.dom.now) ∷ plain_locals ls) c.as_slice.ensures.value)
    (ap (λ q. q.left) c.in_ok-part.ensures) (ap (λ q. q.right) c.in_ok-part.ensures) (ap (λ q. q.type) c.in_ok-part.ensures)))
    c.with_equation.ensures
