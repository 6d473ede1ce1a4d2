use Rattle.std.proofs.Common.{rules, map, ap, sym, subst, ◌∙◌}
use Rattle.std.proofs.lemmas.Result.{IfOk-weaker}
use Rattle.std.specs.Option.{option_map}
use Rattle.clf_syntax.specs.Tree.{arg}
use Rattle.clf_syntax.specs.Plain.{plain_obj, plain_elim, plain-Arg}
use Rattle.clf_syntax.specs.PlainSimple.{plain_simple}
use Rattle.celf_constraints.specs.Equated.{plain_equation, plain_locals}
use Rattle.celf_unify.specs.Judged.{MatchesOn}
use Rattle.celf_unify.specs.Matching.{plain_matching}
use Rattle.celf_unify.proofs.spines.argument.Goals as goal

pub returns-then-eq : goal.returns-then-eq
returns-then-eq c = IfOk-weaker c.arguments.result _ _
    (λ next h. subst (λ e. MatchesOn (plain_simple c.args.state.ty.now) (map plain_equation c.args.state.parts.items) (plain_locals c.args.locals.now) (arg c.args.mode (plain_obj c.args.obj.now)) e (option_map plain_matching next))
    (sym (ap plain_elim c.in-Arg.is ∙ plain-Arg c.in-Arg.second c.in-Arg.other ∙ ap (λ m. arg m (plain_obj c.in-Arg.other)) (search rules))) h)
    c.arguments.ensures
