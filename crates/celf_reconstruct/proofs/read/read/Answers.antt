use Rattle.std.proofs.Common.{◌≡◌, ◌∙◌, true, ap, map, subst, arith}
use Rattle.clf_sig.specs.Core.{plain_core}
use Rattle.clf_sig.specs.Signature.{plain_signature}
use Rattle.celf_sugar.specs.Plain.{desugared_item}
use Rattle.celf_implicit.specs.Answers.{plain_implicit}
use Rattle.celf_solve.specs.declared.scene.Scene.{Scene}
use Rattle.celf_reconstruct.specs.Known.{simple_or_unit, are_known}
use Rattle.celf_reconstruct.proofs.Answering.{ill_typed_for, place_done, variable_done}
use Rattle.celf_reconstruct.proofs.NoTree.{HasNoTree}
use Rattle.celf_reconstruct.proofs.Families.{one-untyped}
use Rattle.clf_syntax.specs.PlainSimple.{plain_simple}
use Rattle.celf_filled.specs.States.{IsGrownBy, count}
use Rattle.celf_filled.specs.TypedFrom.{indices_of}
use Rattle.filled_laws.specs.FreshTypes.{types_from, new_in_each}
use Rattle.celf_reconstruct.proofs.Reading.{scene_read}
use Rattle.celf_reconstruct.proofs.read.read.Goals.{then-not-whole-via-then-not-whole, then-not-whole-via-else-not-whole+then-not-are_known}
use Rattle.celf_reconstruct.proofs.read.read.Goals as goal

pub returns-then-not-whole-clause-declined : goal.returns-then-not-whole-clause-declined
returns-then-not-whole-clause-declined c =
    let sig = plain_signature c.args.sig.now in
    let item = desugared_item c.args.plain.now in
    let xs = c.args.variables.now in
    let none : HasNoTree sig item.body = elim c.then-not-whole.branch [
      | then-not-whole-via-then-not-whole w ↦ place_done sig item xs c.requires.all c.in_ok-store.store c.read_filled.new.store (plain_core c.in_ok-core.field-0.core) c.in_ok-core.field-0.whole
          c.in_ok-store.ensures.additions c.in_ok-core.ensures.made (grind (arith, w.if-not-whole.true, c.in_ok-core.whole-is))
      | then-not-whole-via-else-not-whole+then-not-are_known w ↦ variable_done sig item xs c.requires.all (one-untyped xs (grind (arith, w.if-not-are_known.true, w.are_known.ensures)))
    ] in
    ill_typed_for sig item xs c.misfit_of-why.result none c.misfit_of-why.ensures

pub returns-clause-scene : goal.returns-clause-scene
returns-clause-scene c =
    let sig = plain_signature c.args.sig.now in
    let body = (desugared_item c.args.plain.now).body in
    let xs = c.args.variables.now in
    let us = map simple_or_unit (map plain_implicit xs) in
    let whole : c.in_ok-core.field-0.whole ≡ true = grind (arith, c.if-not-whole.false, c.in_ok-core.whole-is) in
    let known : are_known xs ≡ true = grind (arith, c.if-not-are_known.false, c.are_known.ensures) in
    let rest : map plain_simple c.as_slice-2.result.now ≡ us = ap (map plain_simple) c.as_slice-2.ensures ∙ c.in_ok-own.ensures in
    let scene : Scene = record { core = c.in_ok-core.field-0.core; types = c.in_ok-types.types; store = c.types_of.new.store } in
    scene_read sig c.requires.formed body xs c.requires.all scene (record {
      old = c.in_ok-store.store;
      between = c.read_filled.new.store;
      constants_are = c.in_ok-store.ensures.constants ∙ ap (map plain_simple) c.as_slice.ensures ∙ c.in_ok-simples.ensures;
      nothing = c.in_ok-store.ensures.additions;
      typed = known;
      reads = λ vs e. c.in_ok-core.ensures.read vs e whole;
      types = c.in_ok-types.ensures.made ∙ ap (types_from (indices_of sig) (count c.read_filled.new.store)) rest;
      grown = subst (λ ts. IsGrownBy c.read_filled.new.store c.types_of.new.store (new_in_each (indices_of sig) ts)) rest c.in_ok-types.ensures.grown;
    })

pub misfit_of-why-requires : goal.misfit_of-why-requires
misfit_of-why-requires c = record { over = (map simple_or_unit (map plain_implicit c.args.variables.now), c.in_ok-simples.ensures) }
