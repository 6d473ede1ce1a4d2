-- Inner: what contracts see of indices and bindings in memory.
use Rattle.std.specs.Prelude.{List, map}
use Rattle.clf_syntax.specs.Plain.{plain_obj}
use Rattle.clf_syntax.specs.PlainTypes.{plain_tele_entry}
use Rattle.clf_syntax.specs.PlainSimple.{plain_simple_entry}
use Rattle.clf_syntax.specs.declared.tree.TeleEntry.{TeleEntry}
use Rattle.celf_filled.specs.declared.types.Indices.{Indices as DeclaredIndices}
use Rattle.celf_filled.specs.Scopes.{DeclaredScope, plain_scope}
use Rattle.celf_filled.specs.WalkTypes.{Indices, Bindings}

abbrev pub plain_indices : DeclaredIndices → Indices
plain_indices is = record { objects = map plain_obj is.objects; wanted = map plain_simple_entry is.wanted.now }

abbrev pub plain_bindings : List TeleEntry → DeclaredScope → Bindings
plain_bindings es ls = record { entries = map plain_tele_entry es; locals = plain_scope ls }
