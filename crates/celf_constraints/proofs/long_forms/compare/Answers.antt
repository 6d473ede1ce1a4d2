use Rattle.std.proofs.Common.{◌∙◌, sym}
use Rattle.clf_syntax.specs.Plain.{plain_obj}
use Rattle.clf_syntax.specs.PlainSimple.{plain_simple}
use Rattle.clf_syntax.proofs.OccursLaws.{not_both}
use Rattle.celf_constraints.proofs.LongForms.{known_form, other_form}
use Rattle.celf_constraints.proofs.long_forms.compare.Goals as goal

pub returns-then-same-clause-read : goal.returns-then-same-clause-read
returns-then-same-clause-read c vs e k = known_form vs (plain_obj c.args.obj.now) (plain_simple c.args.ty.now) c.args.local e k (c.same.ensures.0 c.if-same.true ∙ c.in_ok-form.ensures.0)

pub returns-clause-read : goal.returns-clause-read
returns-clause-read c vs e k = other_form vs (plain_obj c.args.obj.now) (plain_simple c.args.ty.now) c.args.local e k (λ f. not_both (c.same.ensures.1 (f ∙ sym c.in_ok-form.ensures.0)) c.if-same.false)
