-- What contracts see of a declared context and a declared holding, which have the newest entry last.
use Rattle.std.specs.Prelude.{map, reverse}
use Rattle.clf_syntax.specs.PlainTypes.{plain_tele_entry}
use Rattle.use_contexts.specs.declared.context.Ctx.{Ctx}
use Rattle.use_contexts.specs.declared.holding.Holding.{Holding as DeclaredHolding}
use Rattle.use_contexts.specs.Context.{Context}
use Rattle.use_contexts.specs.Holding.{Holding}

-- the newest entry first, with plain types
abbrev pub context : Ctx → Context
context c = reverse (map plain_tele_entry c.entries)

-- the newest entry first
abbrev pub marks : DeclaredHolding → Holding
marks h = reverse h.held
