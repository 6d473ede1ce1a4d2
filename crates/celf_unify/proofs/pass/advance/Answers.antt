use Rattle.std.proofs.Common.{map}
use Rattle.celf_constraints.specs.Equated.{plain_equation}
use Rattle.celf_unify.specs.Searched.{Searches, FlatSearches}
use Rattle.metavars.specs.Stored.{constants, additions}
use Rattle.celf_unify.specs.Passes.{MayRun, Advances}
use Rattle.celf_unify.proofs.Grown.{ok_three}
use Rattle.celf_unify.proofs.Stepping.{may_take, ready_after, advanced}
use Rattle.celf_unify.proofs.pass.advance.Goals as goal

pub take-requires : goal.take-requires
take-requires c = record { may = may_take c.args.store.now c.args.step (map plain_equation c.args.rest.items) c.requires.may }

pub search-requires : goal.search-requires
search-requires c = record { ready = ready_after c.args.store.now c.take.new.store c.args.step (map plain_equation c.args.rest.items) c.requires.may c.in_ok-take.ensures.taken }

pub returns-clause-advanced : goal.returns-clause-advanced
returns-clause-advanced c = ok_three
    (λ g. Searches c.take.new.store (map plain_equation c.args.rest.items) g)
    (λ g. MayRun (constants c.take.new.store) (additions c.take.new.store) g)
    (λ g. FlatSearches c.take.new.store (map plain_equation c.args.rest.items) g)
    (λ g. Advances c.args.store.now c.args.step (map plain_equation c.args.rest.items) c.take.new.store g)
    c.search.result
    (λ g found may flat. advanced c.args.store.now c.take.new.store c.args.step (map plain_equation c.args.rest.items) g c.requires.may c.in_ok-take.ensures.taken found may flat)
    c.search.ensures.searched c.search.ensures.may c.search.ensures.flat
