use Rattle.flat_systems.proofs.Wholes.{flat_is_put_in}
use Rattle.flat_systems.proofs.Steps.{flat_assigns, flat_narrows}
use Rattle.flat_systems.proofs.Parts.{flat_parts, flat_grows}
use Rattle.flat_systems.proofs.Left.{nothing_flat_is_left}
use Rattle.flat_systems.proofs.laws.flat_systems.Goals as goal

pub returns-clause-flat_is_put_in : goal.returns-clause-flat_is_put_in
returns-clause-flat_is_put_in c = flat_is_put_in

pub returns-clause-flat_assigns : goal.returns-clause-flat_assigns
returns-clause-flat_assigns c = flat_assigns

pub returns-clause-flat_narrows : goal.returns-clause-flat_narrows
returns-clause-flat_narrows c = flat_narrows

pub returns-clause-flat_parts : goal.returns-clause-flat_parts
returns-clause-flat_parts c = flat_parts

pub returns-clause-flat_grows : goal.returns-clause-flat_grows
returns-clause-flat_grows c = flat_grows

pub returns-clause-nothing_flat_is_left : goal.returns-clause-nothing_flat_is_left
returns-clause-nothing_flat_is_left c = nothing_flat_is_left
