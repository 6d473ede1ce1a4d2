use Rattle.std.proofs.Common.{map}
use Rattle.clf_syntax.specs.PlainSimple.{plain_simple}
use Rattle.celf_reconstruct.proofs.NameSteps.{unsolved_at, names_constants, names_later, names_metas, names_named}
use Rattle.celf_reconstruct.proofs.naming.with_names.Goals as goal

pub name_each-requires : goal.name_each-requires
name_each-requires c = record { unsolved = unsolved_at c.args.old.now (map plain_simple c.args.simples.now) c.in_ok-store.store c.in_ok-store.ensures.unsolved }

pub returns-clause-constants : goal.returns-clause-constants
returns-clause-constants c = names_constants c.args.old.now (map plain_simple c.args.simples.now) c.in_ok-store.store c.name_each.new.store c.args.first c.args.left.now c.in_ok-store.ensures.unsolved c.in_ok-name_each.ensures.named

pub returns-clause-metas : goal.returns-clause-metas
returns-clause-metas c = names_metas c.args.old.now (map plain_simple c.args.simples.now) c.in_ok-store.store c.name_each.new.store c.args.first c.args.left.now c.in_ok-store.ensures.unsolved c.in_ok-name_each.ensures.named

pub returns-clause-named : goal.returns-clause-named
returns-clause-named c = names_named c.args.old.now (map plain_simple c.args.simples.now) c.in_ok-store.store c.name_each.new.store c.args.first c.args.left.now c.in_ok-store.ensures.unsolved c.in_ok-name_each.ensures.named

pub returns-clause-later : goal.returns-clause-later
returns-clause-later c = names_later c.args.old.now (map plain_simple c.args.simples.now) c.in_ok-store.store c.name_each.new.store c.args.first c.args.left.now c.in_ok-store.ensures.unsolved c.in_ok-name_each.ensures.named
