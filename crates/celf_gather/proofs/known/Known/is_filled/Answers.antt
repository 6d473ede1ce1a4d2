use Rattle.celf_gather.specs.Walks.{scene_of, context_of}
use Rattle.clf_syntax.specs.Plain.{plain_obj}
use Rattle.celf_gather.proofs.Filled.{filled_over}
use Rattle.celf_gather.proofs.known.Known.is_filled.Goals as goal

pub returns-clause-filled : goal.returns-clause-filled
returns-clause-filled c = filled_over (scene_of c.args.self.now) c.consts.result.now c.metas.result.now c.in_ok-locals.locals.items c.as_slice.result.now (context_of c.args.walk.now) (plain_obj c.args.obj.now) c.in_ok-typed.typed
    c.consts.ensures c.metas.ensures c.as_slice.ensures.value c.in_ok-locals.ensures c.in_ok-simple.ensures c.in_ok-typed.ensures
