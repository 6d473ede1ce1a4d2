use Rattle.std.specs.Prelude.{◌≡◌, false, refl}
use Rattle.std.proofs.Common.{subst, arith}
use Rattle.celf_reach.proofs.Masking.{MarkedTo, marked_more, single}
use Rattle.celf_reach.proofs.marks.single_mark.Goals as goal

pub loop-place-preserved : goal.loop-place-preserved
loop-place-preserved c = marked_more (λ j. false) c.loop-place._place c.loop-place.marks.items c.push.new.self.items false c.loop-place.invariant refl c.in_ok-push.ensures.items

pub returns : goal.returns
returns c =
    let whole : c.loop-place._place ≡ c.args.local = omega arith in
    single c.args.local c.loop-place.marks.items c.push-2.new.self.items (subst (λ k. MarkedTo (λ j. false) k c.loop-place.marks.items) whole c.loop-place.invariant) c.in_ok-push-2.ensures.items
