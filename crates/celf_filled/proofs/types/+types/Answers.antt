use Rattle.std.proofs.Common.{ap, sym, ◌∙◌, ◌≡◌, List, map}
use Rattle.std.specs.Prelude.{option_copied}
use Rattle.clf_syntax.specs.PlainTypes.{plain_tele_entry}
use Rattle.clf_sig.specs.Signature.{plain_signature}
use Rattle.celf_sugar.specs.PlainTree.{DesugaredEntry}
use Rattle.celf_sugar.specs.declared.plain.PEntry.{PEntry}
use Rattle.celf_sugar.specs.declared.plain.PTele.{out-PTele}
use Rattle.celf_sugar.specs.Plain.{desugared_entry, desugared_telescope, entry-of, telescope-of}
use Rattle.celf_places.specs.Locals.{plain_place}
use Rattle.celf_places.specs.Along.{left_along}
use Rattle.celf_places.proofs.AlongLaws.{left_next}
use Rattle.celf_explicit.proofs.Expressions.{ok_along}
use Rattle.celf_implicit.proofs.Walks.{on_ok}
use Rattle.celf_filled.specs.Scopes.{DeclaredScope, plain_scope, plain_named}
use Rattle.celf_filled.specs.States.{State, state_of}
use Rattle.celf_filled.specs.HeadedTypes.{plain_bindings}
use Rattle.celf_filled.specs.WalkTypes.{Bindings, bound_local, fill_binding, fill_telescope, no_bindings_yet, telescope-along}
use Rattle.celf_filled.proofs.Bindings.{place_here, binding_next}
use Rattle.celf_filled.proofs.types.+types.Goals as goal

pub fill_bindings-loop-index-preserved : goal.fill_bindings-loop-index-preserved
fill_bindings-loop-index-preserved t c =
    let sig = plain_signature c.args.sig.now in
    let xs = map plain_named c.args.variables.now in
    let now : Bindings × State = (plain_bindings c.loop-index.filled c.loop-index.scope, state_of c.loop-index.store c.loop-index.whole) in
    let later : Bindings × State = (plain_bindings c.push.new.self c.bind.new.self, state_of c.fill_binding.new.store c.fill_binding.new.whole) in
    let w = c.index-entries-index.result in
    left_next desugared_entry (fill_binding sig xs) now c.args.entries.now c.loop-index.index
    (left_along (fill_binding sig xs) (no_bindings_yet (plain_scope c.args.outer), state_of c.args.store.now c.args.whole.now) (map desugared_entry c.args.entries.now))
    w later c.loop-index-test.true c.index-entries-index.is c.loop-index.invariant
    (binding_next sig xs c.loop-index.filled c.push.new.self c.in_ok-fill_binding.field-0 c.loop-index.scope c.bind.new.self (state_of c.loop-index.store c.loop-index.whole)
    (state_of c.fill_binding.new.store c.fill_binding.new.whole) (desugared_entry w) _ c.in_ok-fill_binding.ensures c.in_ok-push.ensures.ok c.in_ok-bind.ensures
    (ap (λ (x : DesugaredEntry). bound_local x.0 x.1 (plain_place (option_copied c.place_at.result))) (sym (entry-of w))
    ∙ ap (bound_local (desugared_entry w).0 (desugared_entry w).1) (place_here sig c.args.simples.now c.args.entries.now c.loop-index.index w (option_copied c.place_at.result) c.loop-index-test.true c.index-entries-index.is c.requires c.place_at.ensures)))

pub fill_telescope-returns-clause-made : goal.fill_telescope-returns-clause-made
fill_telescope-returns-clause-made t c =
    let sig = plain_signature c.args.sig.now in
    let xs = map plain_named c.args.variables.now in
    let old = state_of c.args.store.now c.args.whole.now in
    let first : Bindings × State = (no_bindings_yet (plain_scope c.args.scope.now), old) in
    let all : left_along (fill_binding sig xs) (no_bindings_yet (plain_scope c.in_ok-copy.field-0), old) (map desugared_entry c.as_slice-2.result.now) ≡ fill_telescope sig xs first (desugared_telescope c.args.tele.now) =
    ap (λ (ls : DeclaredScope). left_along (fill_binding sig xs) (no_bindings_yet (plain_scope ls), old) (map desugared_entry c.as_slice-2.result.now)) c.in_ok-copy.ensures
    ∙ ap (λ (es : List PEntry). left_along (fill_binding sig xs) first (map desugared_entry es)) c.as_slice-2.ensures
    ∙ sym (telescope-along sig xs first (map desugared_entry (out-PTele c.args.tele.now).entries)) ∙ sym (ap (fill_telescope sig xs first) (telescope-of c.args.tele.now)) in
    ok_along (map plain_tele_entry) c.fill_bindings.result _ _ c.fill_bindings.ensures.made (ap (λ v. v.0.entries) all)

pub fill_telescope-returns-clause-left : goal.fill_telescope-returns-clause-left
fill_telescope-returns-clause-left t c =
    let sig = plain_signature c.args.sig.now in
    let xs = map plain_named c.args.variables.now in
    let old = state_of c.args.store.now c.args.whole.now in
    let first : Bindings × State = (no_bindings_yet (plain_scope c.args.scope.now), old) in
    let all : left_along (fill_binding sig xs) (no_bindings_yet (plain_scope c.in_ok-copy.field-0), old) (map desugared_entry c.as_slice-2.result.now) ≡ fill_telescope sig xs first (desugared_telescope c.args.tele.now) =
    ap (λ (ls : DeclaredScope). left_along (fill_binding sig xs) (no_bindings_yet (plain_scope ls), old) (map desugared_entry c.as_slice-2.result.now)) c.in_ok-copy.ensures
    ∙ ap (λ (es : List PEntry). left_along (fill_binding sig xs) first (map desugared_entry es)) c.as_slice-2.ensures
    ∙ sym (telescope-along sig xs first (map desugared_entry (out-PTele c.args.tele.now).entries)) ∙ sym (ap (fill_telescope sig xs first) (telescope-of c.args.tele.now)) in
    on_ok c.fill_bindings.result _ _ c.fill_bindings.ensures.left (λ e. e ∙ ap (λ v. v.1) all)
