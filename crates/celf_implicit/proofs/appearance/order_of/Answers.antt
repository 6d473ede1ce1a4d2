use Rattle.std.proofs.Common.{ap, map}
use Rattle.clf_sig.specs.Signature.{plain_signature}
use Rattle.celf_sugar.specs.Plain.{body_of}
use Rattle.celf_implicit.specs.Answers.{plain_implicit}
use Rattle.celf_implicit.specs.Noting.{PlainNotes}
use Rattle.celf_implicit.proofs.Appearances.{order_is}
use Rattle.celf_implicit.proofs.appearance.order_of.Goals as goal

pub returns : goal.returns
returns c = order_is (plain_signature c.args.sig.now) (body_of c.args.body.now) c.args.variables.now (map plain_implicit c.in_ok-appeared.field-0.appeared) c.in_ok-firsts.firsts c.in_ok-by_bytes.field-0 c.requires
    (ap (λ (n : PlainNotes). n.appeared) c.in_ok-appeared.ensures) (rw c.as_slice.ensures at c.in_ok-firsts.ensures) (rw c.as_slice-2.ensures at c.in_ok-by_bytes.ensures)
