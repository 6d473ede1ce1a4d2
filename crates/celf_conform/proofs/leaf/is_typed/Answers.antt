use Rattle.std.proofs.Common.{map, ap, ◌∙◌}
use Rattle.clf_syntax.specs.Plain.{plain_obj}
use Rattle.clf_syntax.specs.PlainSimple.{plain_simple, plain_simple_entry}
use Rattle.celf_conform.specs.Decision.{head_types}
use Rattle.celf_conform.specs.Seen.{known_of}
use Rattle.celf_conform.proofs.Filling.{filling_of}
use Rattle.celf_conform.proofs.leaf.is_typed.Goals as goal

pub returns : goal.returns
returns c = filling_of (head_types (known_of c.args.known.now)) c.args.locals.now (plain_obj c.args.obj.now) (plain_simple c.args.ty.now) c.as_slice.result.now c.simply_typed.result
    (ap (map plain_simple_entry) c.as_slice.ensures ∙ c.in_ok-entries.ensures) c.simply_typed.ensures
