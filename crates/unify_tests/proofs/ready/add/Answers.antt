use Rattle.unify_tests.proofs.Beginnings.{one_added}
use Rattle.unify_tests.proofs.ready.add.Goals as goal

pub returns : goal.returns
returns c = λ h. one_added c.args.store.now c.new_meta.new.self c.in_ok-ty.ty h c.in_ok-new_meta.ensures.added
