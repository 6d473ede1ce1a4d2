use Rattle.std.proofs.Common.{◌∙◌, length, map, subst}
use Rattle.clf_syntax.specs.PlainSimple.{plain_simple}
use Rattle.clf_sig.specs.Signature.{plain_signature}
use Rattle.celf_sugar.specs.Plain.{desugared_item}
use Rattle.celf_reconstruct.specs.Steps.{HasFound}
use Rattle.celf_reconstruct.proofs.Answering.{again_scene, plain_length, some_unnamed}
use Rattle.celf_reconstruct.proofs.answered.again_with.Goals as goal

pub last-requires-clause-found : goal.last-requires-clause-found
last-requires-clause-found c =
    let sig = plain_signature c.args.sig.now in
    let item = desugared_item c.args.plain.now in
    let simples = map plain_simple c.args.simples.now in
    subst (λ n. HasFound sig item.body c.args.variables.now n c.in-Ok.found) (plain_length c.args.simples.now)
    (c.in-Ok.ensures.found item.body c.args.variables.now (length simples)
    (again_scene sig item c.args.variables.now c.args.found c.requires.found c.requires.declaration (λ e. c.requires.some (c.requires.left ∙ e)) simples c.in_ok-scene.scene c.in_ok-scene.ensures.scene))

pub last-requires-clause-unnamed : goal.last-requires-clause-unnamed
last-requires-clause-unnamed c = λ e. some_unnamed (plain_signature c.args.sig.now) (desugared_item c.args.plain.now) c.args.variables.now c.args.found c.args.left.now
    (map plain_simple c.args.simples.now) c.requires.simples c.requires.some (plain_length c.args.simples.now ∙ e)

pub returns-in-Err : goal.returns-in-Err
returns-in-Err c =
    let sig = plain_signature c.args.sig.now in
    let item = desugared_item c.args.plain.now in
    let simples = map plain_simple c.args.simples.now in
    c.in-Err.ensures.declined item c.args.variables.now (length simples)
    (again_scene sig item c.args.variables.now c.args.found c.requires.found c.requires.declaration (λ e. c.requires.some (c.requires.left ∙ e)) simples c.in_ok-scene.scene c.in_ok-scene.ensures.scene)
