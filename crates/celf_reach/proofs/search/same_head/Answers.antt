use Rattle.std.specs.Prelude.{◌≡◌}
use Rattle.std.proofs.Common.{ap, sym, ◌∙◌}
use Rattle.clf_syntax.specs.Plain.{plain_obj, plain-At}
use Rattle.clf_syntax.specs.Tree.{PlainNeutral, atomic, head_of}
use Rattle.clf_syntax.proofs.OccursLaws.{not_both}
use Rattle.clf_simple.proofs.Lists.{neutral_head}
use Rattle.celf_reach.proofs.search.same_head.Goals as goal

same_neutral : {r n : PlainNeutral} → atomic r ≡ atomic n → r ≡ n
same_neutral e = cc

pub returns-then-is_meta : goal.returns-then-is_meta
returns-then-is_meta c = (ap plain_obj c.in-At.is ∙ plain-At c.in-At.neutral, neutral_head c.in-At.neutral ∙ c.is_meta.ensures.0 c.if-is_meta.true)

pub returns-else-is_meta : goal.returns-else-is_meta
returns-else-is_meta c n e h = not_both
    (c.is_meta.ensures.1 (sym (neutral_head c.in-At.neutral) ∙ ap head_of (same_neutral (sym (ap plain_obj c.in-At.is ∙ plain-At c.in-At.neutral) ∙ e)) ∙ h)) c.if-is_meta.false
