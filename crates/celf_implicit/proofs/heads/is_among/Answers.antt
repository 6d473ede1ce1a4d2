use Rattle.std.proofs.Common.{◌∙◌, sym, arith}
use Rattle.celf_names.proofs.ScopeLaws.{any_here, any_next}
use Rattle.celf_implicit.specs.Variables.{has_name}
use Rattle.celf_implicit.specs.Answers.{plain_implicit}
use Rattle.celf_implicit.proofs.heads.is_among.Goals as goal

pub returns-then-same_name : goal.returns-then-same_name
returns-then-same_name c = sym (any_here plain_implicit (has_name c.args.name.now) c.args.found.now c.loop-variable.variable-index c.variable-item.result (omega arith) c.variable-item.is (sym c.same_name.ensures ∙ c.if-same_name.true))

pub loop-variable-preserved : goal.loop-variable-preserved
loop-variable-preserved c = any_next plain_implicit (has_name c.args.name.now) c.args.found.now c.loop-variable.variable-index c.variable-item.result (omega arith) c.variable-item.is c.loop-variable.invariant (sym c.same_name.ensures ∙ c.if-same_name.false)
