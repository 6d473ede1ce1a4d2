use Rattle.std.proofs.Common.{◌<◌, length, ap, sym, subst, arith}
use Rattle.clf_kernel.proofs.Growing.{entries_of, entries_length, grown_entered, grown_none, newest_entered}
use Rattle.clf_kernel.specs.Judge.{IsGrown, context_of}
use Rattle.clf_kernel.proofs.judge.Judge.leave_to.Goals as goal

pub loop-self-preserved : goal.loop-self-preserved
loop-self-preserved c = λ outer g e.
    let n = entries_length c.loop-self.self.ctx in
    let l : length (entries_of outer) < length (entries_of c.loop-self.self) = omega (arith, e, n, c.len.ensures, c.loop-self-test.true) in
    let m = grown_entered outer c.loop-self.self (c.loop-self.invariant outer g e) l in
    subst (λ x. IsGrown outer x) (sym (c.leave.ensures m.0 m.2)) m.1

pub loop-self-smaller : goal.loop-self-smaller
loop-self-smaller c =
    let n = entries_length c.loop-self.self.ctx in
    let m = newest_entered c.loop-self.self (omega (arith, n, c.len.ensures, c.loop-self-test.true)) in
    let e = ap (λ x. length (context_of x)) (c.leave.ensures m.0 m.1) in
    let k = entries_length m.0.ctx in
    let l = m.2 in
    omega (arith, e, k, n, l)

pub returns : goal.returns
returns c = λ outer g e.
    let n = entries_length c.loop-self.self.ctx in
    grown_none outer c.loop-self.self (c.loop-self.invariant outer g e) (omega (arith, e, n, c.len.ensures, c.loop-self-test.false))
