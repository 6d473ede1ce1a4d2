use Rattle.std.proofs.Common.{◌≡◌, ◌∙◌, ◌≤◌, sym, subst, false, true, length, map, min, suc, arith}
use Rattle.clf_syntax.specs.Plain.{plain_obj}
use Rattle.trace_equal.specs.Difference.{DiffersAt}
use Rattle.trace_equal.proofs.Difference.{at_place, differ_end, differ_here, differ_later, from_here, joined_later}
use Rattle.trace_equal.proofs.equality.first_difference.Goals as goal

false_true : false ≡ true → ⊥
false_true e = cc

pub returns-then-not-branch : goal.returns-then-not-branch
returns-then-not-branch c = at_place c.loop-place.place (map plain_obj c.args.found.now) (map plain_obj c.args.wanted.now)
    (c.loop-place.invariant.differ 0 (differ_here c.args.found.now c.args.wanted.now c.loop-place.place c.index-found-place.result c.index-wanted-place.result (omega arith) (omega arith) c.index-found-place.is c.index-wanted-place.is
    (λ j. false_true (sym c.if-not-branch.true ∙ c.in_ok-equal.ensures.1 j))))

pub loop-place-preserved : goal.loop-place-preserved
loop-place-preserved c =
    let joined = c.in_ok-equal.ensures.0 c.if-not-branch.false in record {
      differ = λ j d. from_here c.loop-place.place j (map plain_obj c.args.found.now) (map plain_obj c.args.wanted.now)
          (c.loop-place.invariant.differ (suc j) (differ_later c.args.found.now c.args.wanted.now c.loop-place.place c.index-found-place.result c.index-wanted-place.result (omega arith) (omega arith) c.index-found-place.is c.index-wanted-place.is joined j d));
      joined = λ d. c.loop-place.invariant.joined (joined_later c.args.found.now c.args.wanted.now c.loop-place.place c.index-found-place.result c.index-wanted-place.result (omega arith) (omega arith) c.index-found-place.is c.index-wanted-place.is joined d);
    }

pub returns : goal.returns
returns c =
    let last : c.loop-place.place ≡ c.min-shorter.result = omega arith in
    let within : c.loop-place.place ≤ min (length c.args.found.now) (length c.args.wanted.now) = omega arith in
    let over : min (length c.args.found.now) (length c.args.wanted.now) ≤ c.loop-place.place = omega arith in
    subst (λ k. DiffersAt k (map plain_obj c.args.found.now) (map plain_obj c.args.wanted.now)) last (at_place c.loop-place.place (map plain_obj c.args.found.now) (map plain_obj c.args.wanted.now)
    (c.loop-place.invariant.differ 0 (differ_end c.args.found.now c.args.wanted.now c.loop-place.place within over c.if-found-wanted.false)))
