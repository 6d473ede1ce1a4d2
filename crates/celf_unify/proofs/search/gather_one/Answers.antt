use Rattle.std.proofs.Common.{map, ap, sym, subst, ◌∙◌, [], ◌∷◌, ◌++◌}
use Rattle.celf_constraints.specs.Equated.{plain_equation}
use Rattle.celf_unify.specs.Gathered.{IsTyped, Gathers}
use Rattle.celf_unify.specs.Searched.{GathersOnce}
use Rattle.celf_unify.proofs.Grown.{ok_more}
use Rattle.celf_unify.proofs.Searching.{typed_once}
use Rattle.celf_unify.proofs.search.gather_one.Goals as goal

pub gather-requires : goal.gather-requires
gather-requires c = record {
  typed = subst (λ l. IsTyped c.args.store.now l) (sym (c.in_ok-work.ensures ∙ ap (λ xs. map plain_equation xs ++ plain_equation c.in_ok-put.put ∷ []) c.new.ensures.items))
      (typed_once c.args.store.now (plain_equation c.args.equation) (plain_equation c.in_ok-put.put) c.requires.ready c.in_ok-put.ensures.put_in);
}

pub returns-clause-once : goal.returns-clause-once
returns-clause-once c = ok_more
    (λ g. Gathers c.args.store.now (map plain_equation c.in_ok-work.work.items) g)
    (λ g. GathersOnce c.args.store.now (plain_equation c.args.equation) g)
    c.gather.result
    (λ g h. (plain_equation c.in_ok-put.put, c.in_ok-put.ensures.put_in, subst (λ l. Gathers c.args.store.now l g) (c.in_ok-work.ensures ∙ ap (λ xs. map plain_equation xs ++ plain_equation c.in_ok-put.put ∷ []) c.new.ensures.items) h))
    c.gather.ensures.gathered
