use Rattle.std.proofs.Common.{map, ap, sym, subst, ◌∙◌}
use Rattle.std.specs.Option.{option_map}
use Rattle.clf_syntax.specs.Tree.{first}
use Rattle.clf_syntax.specs.Plain.{plain_elim, plain-First}
use Rattle.clf_syntax.specs.PlainSimple.{plain_simple}
use Rattle.celf_constraints.specs.Equated.{plain_equation}
use Rattle.celf_unify.specs.Judged.{MatchesOn}
use Rattle.celf_unify.specs.Matching.{plain_matching}
use Rattle.celf_unify.proofs.spines.first_half.Goals as goal

pub returns-in-First : goal.returns-in-First
returns-in-First c = λ ls. subst (λ e. MatchesOn (plain_simple c.args.state.ty.now) (map plain_equation c.args.state.parts.items) ls first e (option_map plain_matching c.first_part.result))
    (sym (ap plain_elim c.in-First.is ∙ plain-First)) (c.first_part.ensures ls)
