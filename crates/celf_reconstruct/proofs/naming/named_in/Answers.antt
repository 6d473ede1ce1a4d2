use Rattle.std.proofs.Common.{map}
use Rattle.clf_syntax.specs.PlainSimple.{plain_simple}
use Rattle.clf_sig.specs.Signature.{plain_signature}
use Rattle.celf_reconstruct.proofs.NamedScene.{may_put_in, named_so}
use Rattle.celf_reconstruct.proofs.naming.named_in.Goals as goal

pub put_in-requires-clause-solved : goal.put_in-requires-clause-solved
put_in-requires-clause-solved c = (may_put_in (plain_signature c.args.sig.now) c.args.found (map plain_simple c.args.simples.now) c.args.names c.requires.names).0

pub put_in-requires-clause-tree : goal.put_in-requires-clause-tree
put_in-requires-clause-tree c = (may_put_in (plain_signature c.args.sig.now) c.args.found (map plain_simple c.args.simples.now) c.args.names c.requires.names).1

pub put_in-requires-clause-types : goal.put_in-requires-clause-types
put_in-requires-clause-types c = (may_put_in (plain_signature c.args.sig.now) c.args.found (map plain_simple c.args.simples.now) c.args.names c.requires.names).2

pub returns-in-Ok-clause-scene : goal.returns-in-Ok-clause-scene
returns-in-Ok-clause-scene c = named_so (plain_signature c.args.sig.now) c.args.found (map plain_simple c.args.simples.now) c.args.names c.requires.names c.in-Ok.put c.in-Ok.ensures.found
    c.args.fresh c.requires.fresh c.with_made_types.result c.with_made_types.ensures.made
