-- When what a walk makes is a reading whose fillings are new metavariables: where the state that it leaves is whole.
use Rattle.std.specs.Prelude.{◌≡◌, ◌++◌, true, map}
use Rattle.store_laws.specs.Additions.{new}
use Rattle.celf_elaboration.specs.Fillings.{Fillings, AreNew, types_of_new}
use Rattle.celf_filled.specs.States.{State, count_in}

-- The store has grown by these fillings.
pub record Grows (s t : State) (fs : Fillings) : Type 0 where
  pub new_ones : AreNew (count_in s) fs
  pub constants_kept : t.constants ≡ s.constants
  pub added : t.added ≡ s.added ++ map new (types_of_new fs)

-- What is made from a state is read with some fillings, by which the store has grown, if the state that is left is whole.
pub record IsRead {X : Type 0} (s : State) (v : X × State) (Reads : Fillings → X → Type 0) : Type 0 where
  pub fillings : Fillings
  pub grows : Grows s v.1 fillings
  pub reads : v.1.whole ≡ true → (s.whole ≡ true) × Reads fillings v.0
