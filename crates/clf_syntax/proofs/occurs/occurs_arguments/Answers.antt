use Rattle.std.proofs.Common.{arith, ◌<◌, ◌+◌, length}
use Rattle.std.proofs.lemmas.Grind.{common_steps}
use Rattle.clf_syntax.proofs.Next.{occurs_kind-next}
use Rattle.clf_syntax.proofs.occurs.occurs_arguments.Goals as goal

pub returns-then-occurs_type : goal.returns-then-occurs_type
returns-then-occurs_type c v e =
    let lt : c.loop-arg.arg-index < length c.args.args.now = omega arith in
    let at = c.loop-arg.invariant.same v e in
    let next = occurs_kind-next at.0 c.loop-arg.arg-index c.arg-item.result c.args.args.now lt c.arg-item.is in
    grind (arith, common_steps, next, at.2, c.occurs_type.ensures at.0 at.1)

pub loop-arg-preserved : goal.loop-arg-preserved
loop-arg-preserved c = record {
  within = c.under-inner.ensures.within;
  same = λ v e.
      let lt : c.loop-arg.arg-index < length c.args.args.now = omega arith in
      let at = c.loop-arg.invariant.same v e in
      let next = occurs_kind-next at.0 c.loop-arg.arg-index c.arg-item.result c.args.args.now lt c.arg-item.is in
      (at.0 + 1, c.under-inner.ensures.same at.0 at.1, grind (arith, common_steps, next, at.2, c.occurs_type.ensures at.0 at.1));
}
