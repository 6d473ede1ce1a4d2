-- The key is new, so its entry goes after all others.
use Rattle.std.proofs.Common.{◌≡◌, ◌++◌, ◌∷◌, [], ap, ◌∙◌, is_some, false, string_bytes, length, ◌+◌, arith}
use Rattle.std.proofs.lemmas.List.{length-append, length-map}
use Rattle.clf_sig.specs.Entry.{place_of}
use Rattle.clf_sig.specs.Signature.{plain_signature}
use Rattle.clf_sig.specs.Keys.{named}
use Rattle.clf_sig.proofs.Added.{inserted, grown}
use Rattle.clf_sig.proofs.signature.Signature.put.Goals as goal

now_named : (c : goal.After-drop-in-Ok-insert) → named c.insert.new.self.entries ≡ named c.self.inside.declared.entries ++ (c.args.name.now, c.args.entry) ∷ []
now_named c =
    let key : string_bytes c.in-Ok.made.0 ≡ c.args.name.now = c.in-Ok.ensures.key in
    let absent : is_some (place_of c.args.name.now (plain_signature (named c.self.inside.declared.entries))) ≡ false = rw c.self.view_is c.requires.absent in
    ap named c.in-Ok-insert.ensures.entries
    ∙ inserted c.self.inside.declared.entries c.in-Ok.made.0 c.args.entry (rw key absent)
    ∙ ap (λ n. named c.self.inside.declared.entries ++ (n, c.args.entry) ∷ []) key

pub invariant_of-self-in-Ok-insert : goal.invariant_of-self-in-Ok-insert
invariant_of-self-in-Ok-insert c =
    let longer : length c.insert.new.self.entries ≡ length c.self.inside.declared.entries + 1 = simp (length-append, length-map) at (ap length (now_named c)) in
    let size : length c.self.inside.declared.entries ≡ length c.args.self.now = simp (length-map) at (ap length c.self.view_is) in
    let pushed : c.push.new.self.items ≡ c.self.inside.simples.items ++ c.in-Ok.made.1 ∷ [] = c.in_default.ensures.items in (
      omega (arith, longer, size, c.requires.room),
      rw (pushed, now_named c) (grown c.self.inside.simples.items (named c.self.inside.declared.entries) c.in-Ok.made.1 c.args.name.now c.args.entry c.self.invariant.1 c.in-Ok.ensures.simple),
    )

pub returns-in-Ok-insert-clause-added : goal.returns-in-Ok-insert-clause-added
returns-in-Ok-insert-clause-added c = now_named c ∙ ap (λ s. s ++ (c.args.name.now, c.args.entry) ∷ []) c.self.view_is
