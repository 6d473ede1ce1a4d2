use Rattle.std.proofs.Common.{sym, ◌∙◌}
use Rattle.clf_sig.proofs.Names.{same_bytes-bytes_eq}
use Rattle.celf_names.proofs.scope.same_name.Goals as goal

pub returns : goal.returns
returns c = rw (← c.as_str.ensures, ← c.as_str-2.ensures) (c.eq.ensures ∙ sym (same_bytes-bytes_eq c.as_str-2.result.now c.as_str.result.now))
