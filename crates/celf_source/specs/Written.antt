-- What was written to a sink in memory, with its calls.
use Rattle.std.specs.Prelude.{ℕ, List, []}
use Rattle.celf_source.specs.Calls.{Calls, no_calls}

pub record Written : Type 0 where
  pub bytes : List ℕ
  pub calls : Calls

-- Nothing was written yet.
abbrev pub unwritten : List ℕ → Written
unwritten failing = record { bytes = []; calls = no_calls failing }
