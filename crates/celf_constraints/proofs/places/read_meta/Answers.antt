use Rattle.std.proofs.Common.{map}
use Rattle.clf_syntax.specs.Plain.{plain_elim}
use Rattle.clf_syntax.specs.PlainSimple.{plain_simple}
use Rattle.clf_simple.specs.Scope.{scope}
use Rattle.celf_constraints.specs.Read.{plain_reading}
use Rattle.celf_constraints.proofs.Meeting.{none_told, answered, spine_none, spine_some}
use Rattle.celf_constraints.proofs.places.read_meta.Goals as goal

pub returns-in-None-clause-places : goal.returns-in-None-clause-places
returns-in-None-clause-places c z t s h q =
    let vs = scope c.args.types.now in
    let es = map plain_elim c.args.spine.now in
    let ty = plain_simple c.args.ty.now in
    none_told z vs s c.args.meta ty h es t (spine_none vs es ty c.in_ok-read_spine.field-0 (λ v. map plain_reading v.items) c.in-None.is c.in_ok-read_spine.ensures.read)

pub returns-in_ok-arrange-in-Some-clause-places : goal.returns-in_ok-arrange-in-Some-clause-places
returns-in_ok-arrange-in-Some-clause-places c z t s h q =
    let vs = scope c.args.types.now in
    let es = map plain_elim c.args.spine.now in
    let ty = plain_simple c.args.ty.now in
    let (u, r) = spine_some vs es ty c.in_ok-read_spine.field-0 c.in-Some.found (λ v. map plain_reading v.items) c.in-Some.is c.in_ok-read_spine.ensures.read in
    answered z vs s c.args.meta ty h es t (map plain_reading c.in-Some.found.items) u r c.in_ok-arrange-in-Some.field-0 c.in_ok-arrange-in-Some.ensures q
