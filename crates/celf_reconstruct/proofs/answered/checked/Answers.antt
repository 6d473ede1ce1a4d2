use Rattle.std.proofs.Common.{ℕ, ◌≡◌, ◌∙◌, sym, arith}
use Rattle.clf_sig.specs.Signature.{plain_signature}
use Rattle.celf_sugar.specs.Plain.{desugared_item}
use Rattle.celf_reconstruct.proofs.Answering.{check_done, loose_done}
use Rattle.celf_reconstruct.proofs.answered.checked.Goals as goal

pub returns-then-left-gt0 : goal.returns-then-left-gt0
returns-then-left-gt0 c = loose_done (plain_signature c.args.sig.now) (desugared_item c.args.plain.now) c.args.variables.now 0 c.args.found c.requires.found
    (λ d z. c.requires.check d) c.args.left c.requires.left (λ e. omega (arith, c.if-left-gt0.true, e)) c.loose.result c.loose.ensures

pub returns : goal.returns
returns c = let none : c.args.left ≡ 0 = omega (arith, c.if-left-gt0.false) in
    check_done (plain_signature c.args.sig.now) (desugared_item c.args.plain.now) c.args.variables.now c.requires.reach c.args.found c.requires.found c.requires.check (sym none ∙ c.requires.left)
