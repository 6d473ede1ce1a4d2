use Rattle.std.proofs.Common.{◌∙◌, subst, sym, ap, List, ℕ, ◌++◌, ◌∷◌, []}
use Rattle.clf_sig.specs.Entry.{IsNamed}
use Rattle.clf_sig.specs.Signature.{plain_signature}
use Rattle.clf_rules.specs.WellFormed.{WellFormedSignature}
use Rattle.clf_rules.proofs.Signatures.{extended}
use Rattle.celf_run.proofs.Cores.{unnamed}
use Rattle.celf_run.proofs.Answering.{plain-added}
use Rattle.celf_run.proofs.judged.accept.Goals as goal

pub unreachable-requires : goal.unreachable-requires
unreachable-requires c =
    let sig = plain_signature c.args.sig.now in
    unnamed sig c.args.name.now c.requires.added.0 (subst (λ (n : List ℕ). IsNamed n sig) c.as_str.ensures (c.in-Err-Duplicate.ensures.duplicate.0 (cc c.in-Err-Duplicate.field-0-is)))

pub returns-in-Ok-clause-formed : goal.returns-in-Ok-clause-formed
returns-in-Ok-clause-formed c =
    let old = plain_signature c.args.sig.now in
    let added = plain-added c.args.sig.now c.add.new.self c.args.name.now _ (c.in-Ok.ensures.added ∙ ap (λ (n : List ℕ). c.args.sig.now ++ (n, c.args.entry) ∷ []) c.as_str.ensures) in
    subst WellFormedSignature (sym added) (extended old (c.args.name.now, _) c.requires.formed (c.requires.added.2, unnamed old c.args.name.now c.requires.added.0, c.requires.entry))
