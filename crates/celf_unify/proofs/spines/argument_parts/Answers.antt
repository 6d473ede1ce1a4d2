use Rattle.std.proofs.Common.{◌+◌, ◌-◌, ◌<◌, ◌≤◌, ◌∷◌, length, map, drop, arith, ap, sym, subst, ◌∙◌, refl}
use Rattle.std.proofs.Math.ListN.{drop_of_length-le}
use Rattle.std.proofs.lemmas.List.{length-map, length-drop}
use Rattle.std.specs.Option.{option_map}
use Rattle.clf_syntax.specs.Tree.{head_alone}
use Rattle.clf_syntax.specs.Plain.{plain_elim}
use Rattle.clf_syntax.specs.PlainSimple.{plain_simple}
use Rattle.clf_simple.proofs.Lists.{from_place}
use Rattle.celf_constraints.specs.Equated.{plain_equation, plain_locals}
use Rattle.celf_unify.specs.Judged.{Matched, MatchesOn}
use Rattle.celf_unify.specs.Matching.{plain_matching}
use Rattle.celf_unify.proofs.Shapes.{turned}
use Rattle.celf_unify.proofs.Together.{matched_head, other_length, Along, along_next, along_stops, along_ends}
use Rattle.celf_unify.proofs.spines.argument_parts.Goals as goal

pub returns-then-left-right : goal.returns-then-left-right
returns-then-left-right c = λ g h u e f p. other_length (map plain_elim c.args.left.now) (map plain_elim c.args.right.now) h (λ l. c.if-left-right.true (sym (length-map c.args.left.now plain_elim) ∙ l ∙ length-map c.args.right.now plain_elim))

pub loop-place-init : goal.loop-place-init
loop-place-init c = λ g h u e f p. record {
  first = head_alone h;
  second = head_alone h;
  matched = subst (Matched g (plain_locals c.args.locals.now) (head_alone h) (head_alone h) (plain_simple c.args.ty.now)) (sym (ap (map plain_equation) c.new.ensures.items)) (matched_head g (plain_locals c.args.locals.now) h (plain_simple c.args.ty.now) e f);
  whole = refl;
  other = refl;
}

pub returns-in-None : goal.returns-in-None
returns-in-None c = λ g h u e f p.
    let i = c.loop-place.place in
    let x = c.index-left-place.result in
    let y = c.index-right-place.result in
    let es = map plain_elim c.args.left.now in
    let fs = map plain_elim c.args.right.now in
    let t = plain_simple c.loop-place.state.ty.now in
    let ds = map plain_equation c.loop-place.state.parts.items in
    let lt : c.loop-place.place < length c.args.left.now = omega (arith, c.loop-place-test.true) in
    let less : c.loop-place.place < length c.args.right.now = omega (arith, c.loop-place-test.true, c.if-left-right.false) in
    along_stops g (plain_locals c.args.locals.now) es fs h u p (plain_elim x) (plain_elim y) (map plain_elim (drop (i + 1) c.args.left.now)) (map plain_elim (drop (i + 1) c.args.right.now)) t ds
    (length-map (drop (i + 1) c.args.left.now) plain_elim ∙ length-drop (i + 1) c.args.left.now ∙ ap (λ n. n - (i + 1)) c.if-left-right.false ∙ sym (length-map (drop (i + 1) c.args.right.now) plain_elim ∙ length-drop (i + 1) c.args.right.now))
    (subst (λ l. Along g (plain_locals c.args.locals.now) es fs h t ds l (plain_elim y ∷ map plain_elim (drop (i + 1) c.args.right.now))) (from_place plain_elim c.args.left.now i x lt c.index-left-place.is)
    (subst (λ l. Along g (plain_locals c.args.locals.now) es fs h t ds (map plain_elim (drop i c.args.left.now)) l) (from_place plain_elim c.args.right.now i y less c.index-right-place.is) (c.loop-place.invariant g h u e f p)))
    (subst (λ o. MatchesOn t ds (plain_locals c.args.locals.now) (plain_elim x) (plain_elim y) (option_map plain_matching o)) c.in-None.is c.in_ok-next.ensures)

pub loop-place-preserved : goal.loop-place-preserved
loop-place-preserved c = λ g h u e f p.
    let i = c.loop-place.place in
    let x = c.index-left-place.result in
    let y = c.index-right-place.result in
    let es = map plain_elim c.args.left.now in
    let fs = map plain_elim c.args.right.now in
    let t = plain_simple c.loop-place.state.ty.now in
    let ds = map plain_equation c.loop-place.state.parts.items in
    let lt : c.loop-place.place < length c.args.left.now = omega (arith, c.loop-place-test.true) in
    let less : c.loop-place.place < length c.args.right.now = omega (arith, c.loop-place-test.true, c.if-left-right.false) in
    along_next g (plain_locals c.args.locals.now) es fs h u p (plain_elim x) (plain_elim y) (map plain_elim (drop (i + 1) c.args.left.now)) (map plain_elim (drop (i + 1) c.args.right.now)) t (plain_simple c.in-Some.next.ty.now) ds (map plain_equation c.in-Some.next.parts.items)
    (subst (λ l. Along g (plain_locals c.args.locals.now) es fs h t ds l (plain_elim y ∷ map plain_elim (drop (i + 1) c.args.right.now))) (from_place plain_elim c.args.left.now i x lt c.index-left-place.is)
    (subst (λ l. Along g (plain_locals c.args.locals.now) es fs h t ds (map plain_elim (drop i c.args.left.now)) l) (from_place plain_elim c.args.right.now i y less c.index-right-place.is) (c.loop-place.invariant g h u e f p)))
    (subst (λ o. MatchesOn t ds (plain_locals c.args.locals.now) (plain_elim x) (plain_elim y) (option_map plain_matching o)) c.in-Some.is c.in_ok-next.ensures)

pub returns : goal.returns
returns c = λ g h u e f p.
    let past : length c.args.left.now ≤ c.loop-place.place = omega (arith, c.loop-place-test.false) in
    let too : length c.args.right.now ≤ c.loop-place.place = omega (arith, c.loop-place-test.false, c.if-left-right.false) in
    along_ends g (plain_locals c.args.locals.now) (map plain_elim c.args.left.now) (map plain_elim c.args.right.now) h u p (map plain_elim (drop c.loop-place.place c.args.left.now)) (map plain_elim (drop c.loop-place.place c.args.right.now)) (plain_simple c.loop-place.state.ty.now)
    (map plain_equation c.loop-place.state.parts.items) (map plain_equation c.last_first.result.items) (ap (map plain_elim) (drop_of_length-le c.args.left.now past)) (ap (map plain_elim) (drop_of_length-le c.args.right.now too))
    (ap (map plain_equation) c.last_first.ensures ∙ turned plain_equation c.loop-place.state.parts.items) (c.loop-place.invariant g h u e f p)
