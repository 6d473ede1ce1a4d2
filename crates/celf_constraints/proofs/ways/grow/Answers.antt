use Rattle.std.proofs.Common.{ℕ, ◌<◌, length, arith, ap, sym, subst, ◌∙◌, length-set}
use Rattle.std.proofs.lemmas.Grind.{common_steps}
use Rattle.pattern_laws.specs.Patterns.{mask_at}
use Rattle.celf_constraints.specs.Ended.{IsOpen}
use Rattle.celf_constraints.proofs.Growing.{stands_within, fewer, added_ends, all_held, none_lengths, none_ends}
use Rattle.celf_constraints.proofs.ways.grow.Goals as goal

pub loop-place-init : goal.loop-place-init
loop-place-init c = record {
  lengths = ap length c.in_ok-held.ensures ∙ none_lengths c.args.from.now;
  ended = λ j e. none_ends c.args.from.now j (sym (ap (λ bs. mask_at bs j) c.in_ok-held.ensures) ∙ e);
}

pub index_mut-requires : goal.index_mut-requires
index_mut-requires c =
    let lt : c.in-Some.place < length c.args.from.now = stands_within c.args.from.now c.in-Some.place c.in-Some.ensures.local c.in-Some.ensures.stands in
    grind (arith, common_steps, lt, c.loop-place.invariant.lengths)

pub loop-place-smaller : goal.loop-place-smaller
loop-place-smaller c =
    let lt : c.in-Some.place < length c.args.from.now = stands_within c.args.from.now c.in-Some.place c.in-Some.ensures.local c.in-Some.ensures.stands in
    let here : c.in-Some.place < length c.loop-place.held.items = omega (arith, lt, c.loop-place.invariant.lengths) in
    fewer c.loop-place.held.items c.in-Some.place here (ap (λ bs. mask_at bs c.in-Some.place) (sym c.as_slice.ensures.value) ∙ c.in-Some.ensures.unheld)

pub loop-place-preserved : goal.loop-place-preserved
loop-place-preserved c = record {
  lengths = length-set c.loop-place.held.items c.in-Some.place _ ∙ c.loop-place.invariant.lengths;
  ended = added_ends c.args.from.now c.args.to.now c.loop-place.held.items c.loop-place.invariant.ended c.in-Some.place (subst (λ bs. IsOpen c.args.from.now c.args.to.now bs c.in-Some.place) c.as_slice.ensures.value c.in-Some.ensures);
}

pub returns-clause-ends : goal.returns-clause-ends
returns-clause-ends c j = (
  c.loop-place.invariant.ended j,
  λ e. all_held c.args.from.now c.args.to.now c.loop-place.held.items (subst (λ bs. (i : ℕ) → IsOpen c.args.from.now c.args.to.now bs i → ⊥) c.as_slice.ensures.value c.in_default.ensures) e,
)
