use Rattle.std.proofs.Common.{ap, sym, ◌∙◌, true, List, map, drop, refl}
use Rattle.std.specs.List.{drop-map}
use Rattle.clf_syntax.specs.declared.tree.Mode.{Mode}
use Rattle.clf_syntax.specs.TypeTree.{SimpleType}
use Rattle.clf_syntax.specs.PlainSimple.{plain_simple_entry}
use Rattle.clf_sig.specs.Signature.{plain_signature}
use Rattle.celf_sugar.specs.Plain.{desugared_object}
use Rattle.celf_places.specs.Along.{left_along}
use Rattle.celf_places.proofs.AlongLaws.{left_end}
use Rattle.celf_implicit.specs.Answers.{plain_implicit}
use Rattle.celf_implicit.specs.Noting.{PlainNotes, plain_notes, plain_scope, after_index, indices-noted}
use Rattle.celf_implicit.proofs.types.note_indices.Goals as goal

pub loop-index-init : goal.loop-index-init
loop-index-init c = rw (c.from_number-wanted.ensures, drop-map plain_simple_entry c.args.left_out c.args.entries.now) refl

pub returns : goal.returns
returns c =
    ap (λ (v : PlainNotes × List (Mode × SimpleType)). v.0)
    (left_end desugared_object (after_index (plain_signature c.args.sig.now) (map plain_implicit c.args.found.now) (plain_scope c.args.binders true)) (plain_notes c.loop-index.notes, map plain_simple_entry c.loop-index.wanted.now) c.args.indices.now c.loop-index.index-index
    (left_along (after_index (plain_signature c.args.sig.now) (map plain_implicit c.args.found.now) (plain_scope c.args.binders true)) (plain_notes c.args.notes.now, drop c.args.left_out (map plain_simple_entry c.args.entries.now)) (map desugared_object c.args.indices.now))
    c.loop-index-test.false c.loop-index.invariant)
    ∙ sym (indices-noted (plain_signature c.args.sig.now) (map plain_implicit c.args.found.now) (plain_scope c.args.binders true) (drop c.args.left_out (map plain_simple_entry c.args.entries.now)) (plain_notes c.args.notes.now) (map desugared_object c.args.indices.now))
