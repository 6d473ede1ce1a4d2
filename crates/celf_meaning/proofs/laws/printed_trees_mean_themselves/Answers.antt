use Rattle.celf_meaning.proofs.LinesRead.{places_do_not_matter, entries_mean_themselves, checks_mean_themselves}
use Rattle.celf_meaning.proofs.laws.printed_trees_mean_themselves.Goals as goal

pub returns-clause-places : goal.returns-clause-places
returns-clause-places c = places_do_not_matter

pub returns-clause-entries : goal.returns-clause-entries
returns-clause-entries c = entries_mean_themselves

pub returns-clause-checks : goal.returns-clause-checks
returns-clause-checks c = checks_mean_themselves
