use Rattle.std.proofs.Common.{◌≡◌, ◌+◌, drop, ◌++◌, [], ◌∷◌, map, arith, sym, subst, ap, ◌∙◌}
use Rattle.clf_syntax.specs.PlainSimple.{plain_simple}
use Rattle.celf_constraints.specs.Reading.{plain_place}
use Rattle.pattern_laws.specs.Patterns.{masked}
use Rattle.celf_unify.proofs.Placing.{masked_kept, masked_without, masked_end}
use Rattle.celf_unify.proofs.narrow.kept.Goals.{then-is_kept+in_ok-numbered+in_ok-kept, else-is_kept}
use Rattle.celf_unify.proofs.narrow.kept.Goals as goal

pub loop-number-preserved : goal.loop-number-preserved
loop-number-preserved c = elim c.if-is_kept.branch [
  | then-is_kept+in_ok-numbered+in_ok-kept w ↦ masked_kept c.loop-number.number c.args.mask.now c.args.places.now w.index-places-number.result (map plain_place c.loop-number.kept.items) (map plain_place c.if-is_kept.kept.items)
      (masked 0 c.args.mask.now (map plain_place c.args.places.now)) c.loop-number-test.true w.index-places-number.is (sym c.is_kept.ensures ∙ w.if-is_kept.true)
      (ap (λ k. map plain_place k.items) w.kept-is ∙ w.in_ok-kept.ensures ∙ ap (λ n. map plain_place c.loop-number.kept.items ++ (w.index-places-number.result.mode, plain_simple w.index-places-number.result.ty.now, n) ∷ []) w.in_ok-numbered.ensures.number)
      c.loop-number.invariant
  | else-is_kept w ↦ subst (λ k. map plain_place k.items ++ masked (c.loop-number.number + 1) (drop (c.loop-number.number + 1) c.args.mask.now) (map plain_place (drop (c.loop-number.number + 1) c.args.places.now)) ≡ masked 0 c.args.mask.now (map plain_place c.args.places.now)) (sym w.kept-is)
      (masked_without c.loop-number.number c.args.mask.now c.args.places.now (map plain_place c.loop-number.kept.items) (masked 0 c.args.mask.now (map plain_place c.args.places.now)) c.loop-number-test.true (sym c.is_kept.ensures ∙ w.if-is_kept.false) c.loop-number.invariant)
]

pub returns-clause-kept : goal.returns-clause-kept
returns-clause-kept c = masked_end c.loop-number.number c.args.mask.now c.args.places.now (map plain_place c.loop-number.kept.items) (masked 0 c.args.mask.now (map plain_place c.args.places.now))
    (λ l. absurd (omega (arith, l, c.loop-number-test.false))) c.loop-number.invariant
