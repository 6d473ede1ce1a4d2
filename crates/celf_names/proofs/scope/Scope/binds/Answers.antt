use Rattle.std.proofs.Common.{◌∙◌, sym, arith}
use Rattle.clf_syntax.specs.Word.{same_bytes}
use Rattle.celf_names.proofs.ScopeLaws.{any_here, any_next}
use Rattle.celf_names.proofs.scope.Scope.binds.Goals as goal

pub returns-then-same_name : goal.returns-then-same_name
returns-then-same_name c =
    let here = any_here (λ n. n.now) (same_bytes c.args.name.now) c.as_slice-bound-items.result.now c.loop-bound.bound-index c.bound-item.result (omega arith) c.bound-item.is (sym c.same_name.ensures ∙ c.if-same_name.true) in
    cc

pub loop-bound-preserved : goal.loop-bound-preserved
loop-bound-preserved c = any_next (λ n. n.now) (same_bytes c.args.name.now) c.as_slice-bound-items.result.now c.loop-bound.bound-index c.bound-item.result (omega arith) c.bound-item.is c.loop-bound.invariant (sym c.same_name.ensures ∙ c.if-same_name.false)
