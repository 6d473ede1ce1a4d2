use Rattle.std.proofs.Common.{map, subst, reverse, ap, ◌∙◌}
use Rattle.celf_constraints.specs.Equated.{plain_equation, equations_in}
use Rattle.metavars.specs.Stored.{constants, additions}
use Rattle.celf_unify.specs.Passes.{MayRun, Works, PassEnds}
use Rattle.celf_unify.specs.Searched.{Searches, FlatSearches}
use Rattle.celf_unify.proofs.Grown.{ok_more}
use Rattle.celf_unify.proofs.Passing.{stack_ready, pass_left, pass_clash, pass_works}
use Rattle.celf_unify.proofs.pass.one_pass.Goals as goal

pub search-requires : goal.search-requires
search-requires c = record {
  ready = stack_ready c.args.store.now (equations_in c.args.equations.now) (map plain_equation c.in_ok-stack.stack.items) c.requires.ready
      (c.in_ok-stack.ensures ∙ ap reverse c.as_slice.ensures);
}

pub after-requires : goal.after-requires
after-requires c = record { may = subst (λ g. MayRun (constants c.args.store.now) (additions c.args.store.now) g) c.in-Step.is c.in_ok-left.ensures.may }

pub returns-in-Left-clause-ends : goal.returns-in-Left-clause-ends
returns-in-Left-clause-ends c = pass_left c.args.store.now (equations_in c.args.equations.now) (map plain_equation c.in_ok-stack.stack.items) c.requires.ready
    (c.in_ok-stack.ensures ∙ ap reverse c.as_slice.ensures) c.in-Left.left
    (subst (λ g. Searches c.args.store.now (map plain_equation c.in_ok-stack.stack.items) g) c.in-Left.is c.in_ok-left.ensures.searched)
    (subst (λ g. FlatSearches c.args.store.now (map plain_equation c.in_ok-stack.stack.items) g) c.in-Left.is c.in_ok-left.ensures.flat)

pub returns-in-Clash-clause-ends : goal.returns-in-Clash-clause-ends
returns-in-Clash-clause-ends c = pass_clash c.args.store.now (equations_in c.args.equations.now) (map plain_equation c.in_ok-stack.stack.items) c.requires.ready
    (c.in_ok-stack.ensures ∙ ap reverse c.as_slice.ensures) c.in-Clash.clash
    (subst (λ g. Searches c.args.store.now (map plain_equation c.in_ok-stack.stack.items) g) c.in-Clash.is c.in_ok-left.ensures.searched)
    (subst (λ g. FlatSearches c.args.store.now (map plain_equation c.in_ok-stack.stack.items) g) c.in-Clash.is c.in_ok-left.ensures.flat)

pub returns-in-Step-clause-ends : goal.returns-in-Step-clause-ends
returns-in-Step-clause-ends c = ok_more
    (λ p. Works c.args.store.now c.in-Step.step (map plain_equation c.in-Step.rest.items) c.after.new.store p)
    (λ p. PassEnds c.args.store.now (equations_in c.args.equations.now) c.after.new.store p)
    c.after.result
    (λ p w. pass_works c.args.store.now (equations_in c.args.equations.now) (map plain_equation c.in_ok-stack.stack.items) c.requires.ready
    (c.in_ok-stack.ensures ∙ ap reverse c.as_slice.ensures) c.after.new.store p c.in-Step.step c.in-Step.rest
    (subst (λ g. Searches c.args.store.now (map plain_equation c.in_ok-stack.stack.items) g) c.in-Step.is c.in_ok-left.ensures.searched)
    (subst (λ g. FlatSearches c.args.store.now (map plain_equation c.in_ok-stack.stack.items) g) c.in-Step.is c.in_ok-left.ensures.flat) w)
    c.after.ensures.works
