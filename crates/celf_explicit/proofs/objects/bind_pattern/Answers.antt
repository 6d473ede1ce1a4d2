use Rattle.std.proofs.Common.{map, ap, ◌∙◌, ◌∷◌, ◌++◌, []}
use Rattle.std.specs.Prelude.{option_copied}
use Rattle.clf_syntax.specs.PlainSimple.{plain_simple_entry}
use Rattle.celf_places.specs.Places.{marked}
use Rattle.celf_places.specs.Locals.{plain_locals}
use Rattle.celf_explicit.specs.Objects.{pattern_modes, with_pattern}
use Rattle.celf_explicit.proofs.PatternLaws.{modes_next, locals_next, grown_more}
use Rattle.celf_explicit.proofs.objects.bind_pattern.Goals as goal

pub loop-binder-preserved : goal.loop-binder-preserved
loop-binder-preserved c = record {
  modes = modes_next (map plain_simple_entry c.loop-binder.wanted.now) (map plain_simple_entry c.next_part-next.result.later.now) c.args.pattern.now c.loop-binder.binder-index c.binder-item.result
      c.loop-binder.modes c.push.new.self (pattern_modes (map plain_simple_entry c.args.entries.now) c.args.pattern.now) c.loop-binder-test.true c.binder-item.is c.next_part-next.ensures.later c.loop-binder.invariant.modes
      (c.in_ok-push.ensures.ok ∙ ap (λ m. c.loop-binder.modes ++ m ∷ []) (c.marked.ensures ∙ ap (marked c.binder-item.result.mode) c.next_part-next.ensures.mode));
  bound = locals_next (map plain_simple_entry c.loop-binder.wanted.now) (map plain_simple_entry c.next_part-next.result.later.now) c.args.pattern.now c.loop-binder.binder-index c.binder-item.result
      (plain_locals c.loop-binder.locals) (plain_locals c.push-in-loop-binder.new.self) (with_pattern (plain_locals c.args.locals.now) (map plain_simple_entry c.args.entries.now) c.args.pattern.now)
      c.loop-binder-test.true c.binder-item.is c.next_part-next.ensures.later c.loop-binder.invariant.bound
      (ap plain_locals c.in_ok-push-2.ensures ∙ ap (λ p. (c.binder-item.result.name, p) ∷ plain_locals c.loop-binder.locals) c.next_part-next.ensures.place);
  grown = grown_more c.args.locals.now c.loop-binder.locals c.push-in-loop-binder.new.self (c.binder-item.result.name, option_copied c.next_part-next.result.place) c.loop-binder.invariant.grown c.in_ok-push-2.ensures;
}
