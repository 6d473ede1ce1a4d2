use Rattle.filled_laws.proofs.Determined.{determined_have_families}
use Rattle.filled_laws.proofs.Families.{formed_types_have_indices}
use Rattle.filled_laws.proofs.FilledFamilies.{fillings_have_families}
use Rattle.filled_laws.proofs.NewFamilies.{new_have_families, traced_have_families}
use Rattle.filled_laws.proofs.laws.over_signature.Goals as goal

pub returns-clause-formed : goal.returns-clause-formed
returns-clause-formed c = formed_types_have_indices

pub returns-clause-determined : goal.returns-clause-determined
returns-clause-determined c = determined_have_families

pub returns-clause-fresh : goal.returns-clause-fresh
returns-clause-fresh c = new_have_families

pub returns-clause-filled : goal.returns-clause-filled
returns-clause-filled c = fillings_have_families

pub returns-clause-traced : goal.returns-clause-traced
returns-clause-traced c = traced_have_families
