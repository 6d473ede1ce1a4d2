use Rattle.std.proofs.Common.{map}
use Rattle.clf_sig.specs.Core.{plain_core}
use Rattle.clf_sig.specs.Signature.{plain_signature}
use Rattle.celf_sugar.specs.Plain.{body_of}
use Rattle.celf_filled.specs.Scopes.{plain_named}
use Rattle.celf_filled.proofs.WholeItems.{whole_is_read}
use Rattle.celf_filled.proofs.items.read_filled.Goals as goal

pub returns-in-Ok-clause-read : goal.returns-in-Ok-clause-read
returns-in-Ok-clause-read c vs h w =
    whole_is_read (plain_signature c.args.sig.now) (map plain_named c.args.variables.now) vs (body_of c.args.body.now) c.args.store.now c.fill_body.new.store c.fill_body.new.whole (plain_core c.in-Ok.core) c.in-Ok.ensures h w
