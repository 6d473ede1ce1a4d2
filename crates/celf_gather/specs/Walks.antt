-- Inner: what contracts see of the structs that gathering works with.
use Rattle.std.specs.Prelude.{◌≡◌, List, ◌++◌, map}
use Rattle.clf_syntax.specs.declared.tree.TeleEntry.{TeleEntry}
use Rattle.clf_syntax.specs.declared.tree.Mode.{Mode}
use Rattle.clf_syntax.specs.TypeTree.{PlainType, SimpleType}
use Rattle.clf_syntax.specs.Simple.{erase}
use Rattle.clf_syntax.specs.PlainTypes.{plain_ty}
use Rattle.use_contexts.specs.Context.{Context}
use Rattle.use_contexts.specs.Marks.{context}
use Rattle.clf_sig.specs.Signature.{plain_signature}
use Rattle.store_laws.specs.Additions.{meta_types}
use Rattle.metavars.specs.Stored.{constants, additions}
use Rattle.pattern_laws.specs.Equations.{Equation}
use Rattle.celf_constraints.specs.Equated.{equations_in}
use Rattle.celf_gather.specs.declared.known.Known.{Known}
use Rattle.celf_gather.specs.declared.walk.Walk.{Walk}
use Rattle.celf_gather.specs.Scene.{Scene}

abbrev pub scene_of : Known → Scene
scene_of k = record {
  signature = plain_signature k.sig.now;
  variables = map plain_ty k.variables.now;
  types = record { constants = constants k.store.now; metavariables = meta_types (additions k.store.now) };
}

-- a variable with the erasure of its type
abbrev pub erased_entry : Mode × PlainType → Mode × SimpleType
erased_entry e = (e.0, erase e.1)

abbrev pub context_of : Walk → Context
context_of w = context w.ctx

abbrev pub found_of : Walk → List Equation
found_of w = equations_in w.found

abbrev pub entries_of : Walk → List TeleEntry
entries_of w = w.ctx.entries

-- The context is as it was.
abbrev pub IsBack : Walk → Walk → Type 0
IsBack old new = entries_of new ≡ entries_of old

-- The context has more entries, the newest ones.
abbrev pub IsGrown : Walk → Walk → Type 0
IsGrown outer inner = (more : List TeleEntry) × (entries_of inner ≡ entries_of outer ++ more)
