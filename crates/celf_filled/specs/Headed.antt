-- Inner: what contracts see of heads and neutrals in memory.
use Rattle.std.specs.Prelude.{List, map, option_copied}
use Rattle.clf_syntax.specs.Plain.{plain_neutral, plain_step, plain_entry}
use Rattle.clf_syntax.specs.PlainSimple.{plain_simple_entry}
use Rattle.clf_syntax.specs.declared.tree.SimpleEntry.{SimpleEntry}
use Rattle.clf_syntax.specs.declared.tree.Step.{Step}
use Rattle.clf_syntax.specs.declared.tree.TupleEntry.{TupleEntry}
use Rattle.celf_places.specs.Locals.{plain_place}
use Rattle.celf_elaboration.specs.Names.{Meaning}
use Rattle.celf_filled.specs.declared.heads.Meaning.{Meaning as DeclaredMeaning}
use Rattle.celf_filled.specs.declared.headed.Headed.{Headed as DeclaredHeaded}
use Rattle.celf_filled.specs.Scopes.{DeclaredScope, plain_scope}
use Rattle.celf_filled.specs.Walk.{Headed, Steps, Entries}

abbrev pub plain_meaning : DeclaredMeaning → Meaning
plain_meaning m = record { head = m.head; place = plain_place (option_copied m.place); implicit = m.implicit }

abbrev pub plain_headed : DeclaredHeaded → Headed
plain_headed h = record { neutral = plain_neutral h.neutral; place = plain_place (option_copied h.place) }

abbrev pub plain_steps : List Step → DeclaredScope → Steps
plain_steps ss ls = record { steps = map plain_step ss; locals = plain_scope ls }

abbrev pub plain_entries : List TupleEntry → List SimpleEntry → Entries
plain_entries es ps = record { entries = map plain_entry es; wanted = map plain_simple_entry ps }
