use Rattle.celf_sugar.specs.Plain.{desugared_elim, object-of, form-At}
use Rattle.celf_implicit.specs.Noting.{plain_binders}
use Rattle.celf_implicit.proofs.Spines.{no_local}
use Rattle.celf_implicit.proofs.applied.local_named.Goals as goal

pub returns-else-is_empty : goal.returns-else-is_empty
returns-else-is_empty c =
    rw (object-of c.args.obj.now, c.in-At.is, form-At c.in-At.head c.in-At.spine c.args.obj.now.span)
    (no_local desugared_elim (plain_binders c.args.binders.now) c.args.mode c.args.obj.now.span c.in-At.head c.in-At.spine (λ e. cc (c.is_empty.ensures.1 e, c.if-is_empty.false)))
