use Rattle.celf_sugar.specs.Plain.{desugared_item}
use Rattle.celf_reconstruct.proofs.whole.find.Goals as goal

pub returns-in-Err : goal.returns-in-Err
returns-in-Err c = c.in-Err.ensures.declined (desugared_item c.args.plain.now) c.args.variables.now 0 c.in_ok-scene.ensures.scene
