use Rattle.std.proofs.Common.{◌≡◌, ◌<◌, ◌+◌, ◌-◌, ◌&&◌, ◌++◌, append_assoc, refl, drop, [], ◌∷◌, map, length, ap, sym, subst, ◌∙◌, arith, false}
use Rattle.std.proofs.lemmas.List.{map-append}
use Rattle.std.proofs.lemmas.Grind.{common_steps}
use Rattle.std.specs.Prelude.{Err}
use Rattle.std.specs.List.{list_all}
use Rattle.clf_syntax.specs.declared.fault.Or.{Or}
use Rattle.clf_syntax.specs.declared.fault.TooFar.{TooFar}
use Rattle.clf_syntax.specs.declared.tree.Mode.{Mode}
use Rattle.clf_syntax.specs.declared.tree.Obj.{Mon}
use Rattle.clf_syntax.specs.declared.tree.Neutral.{roll-Neutral}
use Rattle.clf_syntax.specs.Tree.{monadic, step, done, tuple_of, head_of}
use Rattle.clf_syntax.specs.TypeTree.{SimpleType, arrow, simple_with, lax}
use Rattle.clf_syntax.specs.Plain.{plain_obj, plain_neutral, plain_expr, plain_entry, plain_laws, plain-Mon, plain-Expr}
use Rattle.clf_syntax.specs.PlainSimple.{plain_simple, plain_simple_entry, simple_telescope_of, plain-SimpleFun, plain-SimpleWith, plain-SimpleMonad, plain-simple-entry}
use Rattle.clf_syntax.specs.Renaming.{ren_neutral, up}
use Rattle.clf_syntax.specs.Renumbered.{fits_entry}
use Rattle.clf_syntax.specs.Simple.{simple_modes}
use Rattle.clf_syntax.specs.Written.{Writes, fits, fits_neutral}
use Rattle.eta_laws.specs.Eta.{expansion}
use Rattle.hered_subst.specs.TypedEnvironments.{is_metavariable}
use Rattle.clf_simple.specs.Noted.{argument, first_part, second_part, variable, variable_entry, variable_entries, lambdas, eliminations, under}
use Rattle.clf_simple.specs.Roots.{plain_root, plain_notes}
use Rattle.clf_simple.specs.Weight.{weight, notes_weight}
use Rattle.clf_simple.proofs.Noting.{expansion_function, expansion_pair, expansion_monad, expansion_variable, entry_refused, monad_refused, monad_written, spine_refused, root_refused, spine_written, variable_next}
use Rattle.clf_simple.proofs.Weights.{notes_more, note_within, entry_within}
use Rattle.clf_simple.proofs.expansion.+expand.Goals as goal

pub expand-returns-in-Fun : goal.expand-returns-in-Fun
expand-returns-in-Fun t c =
    let d = plain_simple c.get.result.now in
    let b = plain_simple c.get-in-Fun.result.now in
    let ns = plain_notes c.args.noted.items in
    let n = plain_root c.args.root.now in
    let is : plain_simple c.args.ty.now ≡ arrow c.in-Fun.mode d b = rw (c.get.ensures, c.get-in-Fun.ensures) (ap plain_simple c.in-Fun.is ∙ plain-SimpleFun c.in-Fun.mode c.in-Fun.dom c.in-Fun.cod) in
    subst (λ o. Writes plain_obj fits o c.expand_function.result) (sym (ap (λ s. expansion s (under ns n)) is ∙ expansion_function ns c.in-Fun.mode d b n)) c.expand_function.ensures

pub expand-returns-in-With : goal.expand-returns-in-With
expand-returns-in-With t c =
    let a = plain_simple c.get-in-With.result.now in
    let b = plain_simple c.get-in-With-2.result.now in
    let ns = plain_notes c.args.noted.items in
    let n = plain_root c.args.root.now in
    let is : plain_simple c.args.ty.now ≡ simple_with a b = rw (c.get-in-With.ensures, c.get-in-With-2.ensures) (ap plain_simple c.in-With.is ∙ plain-SimpleWith c.in-With.left c.in-With.right) in
    subst (λ o. Writes plain_obj fits o c.expand_pair.result) (sym (ap (λ s. expansion s (under ns n)) is ∙ expansion_pair ns a b n)) c.expand_pair.ensures

pub expand-returns-in-Monad : goal.expand-returns-in-Monad
expand-returns-in-Monad t c =
    let ts = simple_telescope_of (map plain_simple_entry c.as_slice-in-Monad.result.now) in
    let ns = plain_notes c.args.noted.items in
    let n = plain_root c.args.root.now in
    let is : plain_simple c.args.ty.now ≡ lax ts = rw c.as_slice-in-Monad.ensures (ap plain_simple c.in-Monad.is ∙ plain-SimpleMonad c.in-Monad.entries) in
    let noted = ap plain_notes c.as_slice-in-Monad-2.ensures.value in
    subst (λ o. Writes plain_obj fits o c.expand_monad.result) (sym (ap (λ s. expansion s (under ns n)) is ∙ ap (λ qs. expansion (lax ts) (under qs n)) (sym noted) ∙ expansion_monad (plain_notes c.as_slice-in-Monad-2.result.now) ts n)) c.expand_monad.ensures

pub expand_function-expand-requires : goal.expand_function-expand-requires
expand_function-expand-requires t c =
    let more = ap notes_weight c.in_ok-inner.ensures ∙ notes_more (plain_notes c.args.noted.items) (argument c.args.mode (plain_simple c.args.dom.now)) in
    (omega arith, tt)

pub expand_monad-returns-in_err-result : goal.expand_monad-returns-in_err-result
expand_monad-returns-in_err-result t c =
    let ts = simple_telescope_of (map plain_simple_entry c.args.entries.now) in
    let n = under (plain_notes c.args.noted.now) (plain_root c.args.root.now) in
    let b : is_metavariable (head_of (plain_root c.args.root.now)) ≡ false = sym c.is_meta.ensures ∙ c.if-is_meta.false in
    monad_refused ts n (is_metavariable (head_of (plain_root c.args.root.now))) c.in_err-result.field-0.0 c.from_residual-in_err-result.result b c.in_err-result.ensures c.from_residual-in_err-result.ensures.1

pub expand_monad-returns : goal.expand_monad-returns
expand_monad-returns t c =
    let ts = simple_telescope_of (map plain_simple_entry c.args.entries.now) in
    let n = under (plain_notes c.args.noted.now) (plain_root c.args.root.now) in
    let b : is_metavariable (head_of (plain_root c.args.root.now)) ≡ false = sym c.is_meta.ensures ∙ c.if-is_meta.false in
    let tree : plain_obj (Mon c.in_ok-new.field-0) ≡ monadic (step (simple_modes ts) n (done (tuple_of (variable_entries ts)))) =
    plain-Mon c.in_ok-new.field-0 ∙ ap monadic (ap plain_expr c.in_ok-new.ensures ∙ plain-Expr c.push.new.self c.in_ok-result.result
    ∙ grind (arith, common_steps, plain_laws, c.in_ok-push.ensures.ok, c.new-steps.ensures, c.in_ok-neutral.ensures.0, c.in_ok-modes.ensures, c.in_ok-result.ensures.0)) in
    monad_written ts n (is_metavariable (head_of (plain_root c.args.root.now))) (Mon c.in_ok-new.field-0) b tree c.in_ok-neutral.ensures.1 c.in_ok-result.ensures.1

pub expand_pair-expand-requires : goal.expand_pair-expand-requires
expand_pair-expand-requires t c =
    let copied = ap plain_notes (c.in_ok-from_slice.ensures.items ∙ c.as_slice.ensures.value) in
    let more = ap notes_weight (c.in_ok-first.ensures ∙ ap (λ ns. ns ++ first_part ∷ []) copied) ∙ notes_more (plain_notes c.args.noted.items) first_part in
    (omega arith, tt)

pub expand_pair-expand-requires-2 : goal.expand_pair-expand-requires-2
expand_pair-expand-requires-2 t c =
    let more = ap notes_weight c.in_ok-second.ensures ∙ notes_more (plain_notes c.args.noted.items) second_part in
    (omega arith, tt)

pub expand_variable-expand-requires : goal.expand_variable-expand-requires
expand_variable-expand-requires t c =
    let none = ap (λ ns. notes_weight (plain_notes ns)) c.new.ensures.items in
    (omega arith, tt)

pub expand_variable-returns : goal.expand_variable-returns
expand_variable-returns t c =
    let s = plain_simple c.args.ty.now in
    subst (λ o. Writes plain_obj fits o c.expand.result) (ap (λ ns. expansion s (under (plain_notes ns) (variable c.args.number))) c.new.ensures.items ∙ expansion_variable s c.args.number) c.expand.ensures

pub variable_entry-expand_variable-requires : goal.variable_entry-expand_variable-requires
variable_entry-expand_variable-requires t c =
    let type = ap (λ (p : Mode × SimpleType). weight p.1) (plain-simple-entry c.args.entry.now) in
    (omega arith, tt)

pub variables-variable_entry-requires : goal.variables-variable_entry-requires
variables-variable_entry-requires t c =
    let lt : c.loop-place.place < length c.args.entries.now = omega arith in
    let within = entry_within c.args.entries.now c.loop-place.place c.index-entries-place.result lt c.index-entries-place.is in
    (omega arith, tt)

pub write-returns-in_err-eliminations : goal.write-returns-in_err-eliminations
write-returns-in_err-eliminations t c =
    let ns = plain_notes c.args.noted.now in
    spine_refused (eliminations ns) (ren_neutral (up (lambdas ns)) (plain_root c.args.root.now)) c.in_err-eliminations.field-0.0 c.from_residual.result c.in_err-eliminations.ensures c.from_residual.ensures.1

pub write-returns-in_err-head : goal.write-returns-in_err-head
write-returns-in_err-head t c =
    let ns = plain_notes c.args.noted.now in
    let n = plain_root c.args.root.now in
    let e : Or TooFar = c.in_err-head.field-0.0 in
    let root = subst (λ k. Writes plain_neutral fits_neutral (ren_neutral (up k) n) (Err e)) c.lambdas.ensures c.in_err-head.ensures in
    root_refused (eliminations ns) (ren_neutral (up (lambdas ns)) n) e c.from_residual-in_err-head.result root c.from_residual-in_err-head.ensures.1

pub write-returns : goal.write-returns
write-returns t c =
    let ns = plain_notes c.args.noted.now in
    let root = rw c.lambdas.ensures at c.in_ok-head.ensures in
    spine_written c.in_ok-head.field-0 (roll-Neutral (record { head = c.in_ok-head.field-0.head; spine = c.append.new.self })) c.in_ok-eliminations.eliminations (eliminations ns) (ren_neutral (up (lambdas ns)) (plain_root c.args.root.now))
    refl c.in_ok-append.ensures root c.in_ok-eliminations.ensures

pub write_noted-write_elimination-requires : goal.write_noted-write_elimination-requires
write_noted-write_elimination-requires t c =
    let lt : c.loop-note.note-index < length c.args.noted.now = omega arith in
    let within = note_within c.args.noted.now c.loop-note.note-index c.note-item.result lt c.note-item.is in
    (omega arith, tt)

pub variables-loop-place-preserved : goal.variables-loop-place-preserved
variables-loop-place-preserved t c =
    let p = c.loop-place.place in
    let es = c.args.entries.now in
    let e = c.index-entries-place.result in
    let x = c.in_ok-variable_entry.field-0 in
    let made = c.in_ok-variable_entry.ensures in
    let lt : p < length es = omega arith in
    let next = variable_next es p e lt c.index-entries-place.is in
    let rest = variable_entries (simple_telescope_of (map plain_simple_entry (drop (p + 1) es))) in
    let before = map plain_entry c.loop-place.tuple in
    record {
      shape = ap (λ xs. map plain_entry xs ++ rest) c.in_ok-push.ensures.ok
          ∙ ap (λ xs. xs ++ rest) (map-append plain_entry c.loop-place.tuple (x ∷ []))
          ∙ append_assoc before (plain_entry x ∷ []) rest
          ∙ ap (λ y. before ++ y ∷ rest) made.0
          ∙ ap (λ xs. before ++ xs) (sym next)
          ∙ c.loop-place.invariant.shape;
      fits = c.loop-place.invariant.fits ∙ ap (list_all fits_entry) next ∙ ap (λ b. b && list_all fits_entry rest) made.1;
    }

pub variables-returns-in_err-variable_entry : goal.variables-returns-in_err-variable_entry
variables-returns-in_err-variable_entry t c =
    let p = c.loop-place.place in
    let es = c.args.entries.now in
    let e = c.index-entries-place.result in
    let lt : p < length es = omega arith in
    let next = variable_next es p e lt c.index-entries-place.is in
    let rest = variable_entries (simple_telescope_of (map plain_simple_entry (drop (p + 1) es))) in
    entry_refused (variable_entries (simple_telescope_of (map plain_simple_entry es))) (variable_entry (plain_simple_entry e) (length es - 1 - p)) rest c.in_err-variable_entry.field-0.0 c.from_residual.result
    (c.loop-place.invariant.fits ∙ ap (list_all fits_entry) next) c.in_err-variable_entry.ensures c.from_residual.ensures.1
