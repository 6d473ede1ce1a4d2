use Rattle.celf_unify.proofs.Shapes.{still_there, still_unsolved}
use Rattle.celf_unify.proofs.narrow.narrow.Goals as goal

pub solve-requires-clause-there : goal.solve-requires-clause-there
solve-requires-clause-there c = still_there c.args.store.now c.new_meta.new.self c.args.meta c.in_ok-ty.field-0.ty c.in_ok-new_meta.ensures.added c.requires.may.there

pub solve-requires-clause-unsolved : goal.solve-requires-clause-unsolved
solve-requires-clause-unsolved c = still_unsolved c.args.store.now c.new_meta.new.self c.args.meta c.in_ok-ty.field-0.ty c.in_ok-new_meta.ensures.added c.requires.may.unsolved
