use Rattle.std.specs.Bool.{◌==◌, Decides}
use Rattle.std.specs.List.{Contains}
use Rattle.std.proofs.Common.{subst}
use Rattle.std.proofs.lemmas.Bool.{eqb-true}
use Rattle.std.proofs.lemmas.Bool.Decides.{Decides-eqb, not_from_Decides}
use Rattle.std.proofs.lemmas.List.Elements.{contains_decides, Decides-contains}
use Rattle.celf_front.proofs.Listings.{lists_again, lists_new}
use Rattle.celf_front.proofs.metavariables.list_one.Goals as goal

pub returns-then-contains : goal.returns-then-contains
returns-then-contains c =
    let m = c.args.meta in
    let (k, lt, same) = c.if-contains.ensures.cases in
    let has : Contains c.as_slice.result.now m = (k, lt, eqb-true _ m (same m)) in
    lists_again m c.args.listed.now (subst (λ xs. Contains xs m) c.as_slice.ensures has)

pub returns : goal.returns
returns c =
    let m = c.args.meta in
    let d : Decides c.contains.result (Contains c.as_slice.result.now m) = Decides-contains c.as_slice.result.now m c.contains.result (contains_decides ◌==◌ Decides-eqb c.as_slice.result.now m c.contains.result c.contains.ensures.cases) in
    let new = not_from_Decides c.contains.result d c.if-contains.false in
    rw c.in_ok-push.ensures.ok (lists_new m c.args.listed.now (subst (λ xs. Contains xs m → ⊥) c.as_slice.ensures new))
