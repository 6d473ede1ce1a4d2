use Rattle.std.proofs.Common.{map, ap, sym, subst, ◌∙◌}
use Rattle.std.proofs.lemmas.Result.{IfOk-weaker}
use Rattle.std.specs.Option.{option_map}
use Rattle.clf_syntax.specs.Plain.{plain_elim, plain-Arg, plain-First, plain-Second}
use Rattle.clf_syntax.specs.PlainSimple.{plain_simple}
use Rattle.celf_constraints.specs.Equated.{plain_equation, plain_locals}
use Rattle.celf_unify.specs.Judged.{MatchesOn}
use Rattle.celf_unify.specs.Matching.{plain_matching}
use Rattle.celf_unify.proofs.spines.matched.Goals as goal

pub returns-in-Arg : goal.returns-in-Arg
returns-in-Arg c = IfOk-weaker c.argument.result _ _
    (λ next h. subst (λ e. MatchesOn (plain_simple c.args.state.ty.now) (map plain_equation c.args.state.parts.items) (plain_locals c.args.locals.now) e (plain_elim c.args.right.now) (option_map plain_matching next))
    (sym (ap plain_elim c.in-Arg.is ∙ plain-Arg c.in-Arg.mode c.in-Arg.obj)) h)
    c.argument.ensures

pub returns-in-First : goal.returns-in-First
returns-in-First c = subst (λ e. MatchesOn (plain_simple c.args.state.ty.now) (map plain_equation c.args.state.parts.items) (plain_locals c.args.locals.now) e (plain_elim c.args.right.now) (option_map plain_matching c.first_half.result))
    (sym (ap plain_elim c.in-First.is ∙ plain-First)) (c.first_half.ensures (plain_locals c.args.locals.now))

pub returns-in-Second : goal.returns-in-Second
returns-in-Second c = subst (λ e. MatchesOn (plain_simple c.args.state.ty.now) (map plain_equation c.args.state.parts.items) (plain_locals c.args.locals.now) e (plain_elim c.args.right.now) (option_map plain_matching c.second_half.result))
    (sym (ap plain_elim c.in-Second.is ∙ plain-Second)) (c.second_half.ensures (plain_locals c.args.locals.now))
