use Rattle.std.proofs.Common.{subst, map}
use Rattle.clf_syntax.specs.Plain.{plain_obj}
use Rattle.clf_sig.specs.Signature.{plain_signature}
use Rattle.celf_constraints.specs.Equated.{equations_in}
use Rattle.celf_replies.specs.Reply.{plain_sides}
use Rattle.celf_solve.specs.declared.scene.Solved.{Solved}
use Rattle.celf_solve.specs.Scenes.{Ends}
use Rattle.celf_reconstruct.proofs.Settling.{stuck-of, clash-of}
use Rattle.celf_reconstruct.proofs.settled.solved_by.Goals as goal

pub returns-in_ok-sides_of_each-in-Stuck-clause-unsettled : goal.returns-in_ok-sides_of_each-in-Stuck-clause-unsettled
returns-in_ok-sides_of_each-in-Stuck-clause-unsettled c =
    let q = equations_in c.args.equations.now in
    stuck-of (plain_signature c.args.sig.now) c.args.scene c.requires.scene q c.requires.posed.gathers (equations_in c.in-Stuck.left) (map plain_sides c.in_ok-sides_of_each-in-Stuck.field-0.items)
    (subst (λ (s : Solved). Ends c.args.scene q s) c.in-Stuck.is c.in_ok-found.ensures.ends) c.in_ok-sides_of_each-in-Stuck.ensures.sides

pub returns-in_ok-sides-in-Clash-clause-unsettled : goal.returns-in_ok-sides-in-Clash-clause-unsettled
returns-in_ok-sides-in-Clash-clause-unsettled c =
    let q = equations_in c.args.equations.now in
    let (now, clashed) = subst (λ (s : Solved). Ends c.args.scene q s) c.in-Clash.is c.in_ok-found.ensures.ends in
    clash-of (plain_signature c.args.sig.now) c.args.scene c.requires.scene q c.requires.posed.gathers now c.in-Clash.clash.under (plain_obj c.in-Clash.clash.left) (plain_obj c.in-Clash.clash.right)
    (plain_sides c.in_ok-sides-in-Clash.sides) clashed c.in_ok-sides-in-Clash.ensures.sides
