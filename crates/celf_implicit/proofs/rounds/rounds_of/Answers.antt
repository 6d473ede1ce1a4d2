use Rattle.std.proofs.Common.{◌≡◌, List, ap, suc, map, refl}
use Rattle.clf_sig.specs.Signature.{plain_signature}
use Rattle.celf_sugar.specs.Plain.{body_of}
use Rattle.celf_implicit.specs.declared.variable.Implicit.{Implicit}
use Rattle.celf_implicit.specs.Occurrences.{occurrences}
use Rattle.celf_implicit.specs.Answers.{plain_implicit}
use Rattle.celf_implicit.specs.Noting.{plain_notes, nothing_noted, noted}
use Rattle.celf_implicit.proofs.Outcomes.{outcome_is, next_is, fewer_left, none_mapped}
use Rattle.celf_implicit.proofs.rounds.rounds_of.Goals as goal

pub returns-then-is_empty : goal.returns-then-is_empty
returns-then-is_empty c =
    let all : plain_notes c.in_ok-determined.field-0 ≡ noted (map plain_implicit c.loop-found.found) nothing_noted (occurrences (plain_signature c.args.sig.now) (map plain_implicit c.loop-found.found) (body_of c.args.body.now)) =
    rw (← c.as_slice.ensures) c.in_ok-determined.ensures in
    outcome_is (plain_signature c.args.sig.now) (body_of c.args.body.now) c.loop-found.found (plain_notes c.in_ok-determined.field-0) all c.loop-found.invariant.0 c.outcome.result c.loop-found.invariant.1
    (ap (λ (xs : List Implicit). map plain_implicit xs) (c.is_empty.ensures.0 c.if-is_empty.true)) c.outcome.ensures

pub loop-found-preserved : goal.loop-found-preserved
loop-found-preserved c =
    let all : plain_notes c.in_ok-determined.field-0 ≡ noted (map plain_implicit c.loop-found.found) nothing_noted (occurrences (plain_signature c.args.sig.now) (map plain_implicit c.loop-found.found) (body_of c.args.body.now)) =
    rw (← c.as_slice.ensures) c.in_ok-determined.ensures in (
      suc c.loop-found.invariant.0,
      next_is (plain_signature c.args.sig.now) (body_of c.args.body.now) c.loop-found.found (plain_notes c.in_ok-determined.field-0) all c.loop-found.invariant.0 c.append.new.self c.in_ok-determined.field-0.determined c.loop-found.invariant.1 c.in_ok-append.ensures refl,
    )

pub loop-found-smaller : goal.loop-found-smaller
loop-found-smaller c =
    let all : plain_notes c.in_ok-determined.field-0 ≡ noted (map plain_implicit c.loop-found.found) nothing_noted (occurrences (plain_signature c.args.sig.now) (map plain_implicit c.loop-found.found) (body_of c.args.body.now)) =
    rw (← c.as_slice.ensures) c.in_ok-determined.ensures in
    fewer_left (plain_signature c.args.sig.now) (body_of c.args.body.now) c.loop-found.found (plain_notes c.in_ok-determined.field-0) all c.append.new.self c.in_ok-determined.field-0.determined c.in_ok-append.ensures refl
    (λ e. cc (c.is_empty.ensures.1 (none_mapped c.in_ok-determined.field-0.determined e), c.if-is_empty.false))

pub loop-found-preserved-in_ok-append : goal.loop-found-preserved-in_ok-append
loop-found-preserved-in_ok-append c =
    let all : plain_notes c.in_ok-determined.field-0 ≡ noted (map plain_implicit c.loop-found.found) nothing_noted (occurrences (plain_signature c.args.sig.now) (map plain_implicit c.loop-found.found) (body_of c.args.body.now)) =
    rw (← c.as_slice.ensures) c.in_ok-determined.ensures in (
      suc c.loop-found.invariant.0,
      next_is (plain_signature c.args.sig.now) (body_of c.args.body.now) c.loop-found.found (plain_notes c.in_ok-determined.field-0) all c.loop-found.invariant.0 c.append.new.self c.in_ok-determined.field-0.determined c.loop-found.invariant.1 c.in_ok-append.ensures refl,
    )

pub loop-found-smaller-in_ok-append : goal.loop-found-smaller-in_ok-append
loop-found-smaller-in_ok-append c =
    let all : plain_notes c.in_ok-determined.field-0 ≡ noted (map plain_implicit c.loop-found.found) nothing_noted (occurrences (plain_signature c.args.sig.now) (map plain_implicit c.loop-found.found) (body_of c.args.body.now)) =
    rw (← c.as_slice.ensures) c.in_ok-determined.ensures in
    fewer_left (plain_signature c.args.sig.now) (body_of c.args.body.now) c.loop-found.found (plain_notes c.in_ok-determined.field-0) all c.append.new.self c.in_ok-determined.field-0.determined c.in_ok-append.ensures refl
    (λ e. cc (c.is_empty.ensures.1 (none_mapped c.in_ok-determined.field-0.determined e), c.if-is_empty.false))
