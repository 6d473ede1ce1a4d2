use Rattle.std.proofs.Common.{◌≡◌, ◌+◌, ◌-◌, ◌<◌, ◌≤◌, ◌&&◌, ◌++◌, length, map, drop, arith, sym, ap, ◌∙◌, codes, append-nil, ℕ}
use Rattle.std.proofs.lemmas.List.{at_drop_all}
use Rattle.std.proofs.lemmas.Result.{on_ok_weaker}
use Rattle.clf_syntax.specs.declared.tree.Mode.{Mode}
use Rattle.clf_syntax.specs.TypeTree.{PlainType, family, function, both, top, monad, telescope_of}
use Rattle.clf_syntax.specs.Plain.{plain_obj}
use Rattle.clf_syntax.specs.PlainTypes.{plain_ty, plain_tele_entry, plain-Fam, plain-Fun, plain-With, plain-Top, plain-Monad, plain-tele, plain-tele-entry}
use Rattle.clf_syntax.specs.Occurs.{occurs_type, occurs_telescope}
use Rattle.clf_sig.specs.Signature.{plain_signature}
use Rattle.clf_printer.specs.declared.place.Place.{Place}
use Rattle.clf_printer.specs.declared.place.Place.TheVariants.{Whole, Operand, Factor}
use Rattle.clf_printer.specs.Text.{when, groups_function, groups_pair, is_end, is_persistent, place_text, arrow_text, mark_text, new_variable_text, named_text, domain_text, tele_entry_text, indices_text, type_text, telescope_text}
use Rattle.clf_printer.proofs.Lists.{joined}
use Rattle.clf_printer.proofs.Texts.{is_end-entries, in_parentheses}
use Rattle.clf_printer.proofs.Next.{tele_entry-appended}
use Rattle.clf_printer.proofs.types.+push_type.Goals as goal

pub push_telescope-loop-entry-preserved : goal.push_telescope-loop-entry-preserved
push_telescope-loop-entry-preserved t c =
    let i = c.loop-entry.entry-index in
    let entry = c.entry-item.result in
    let entries = c.args.entries.now in
    let seen = c.loop-entry.invariant.seen in
    let lt : i < length entries = omega arith in
    let mode = ap (λ (p : Mode × PlainType). p.0) (plain-tele-entry entry) in
    let named =
    c.names_entry-named.ensures
    ∙ ap (λ m. is_persistent m && occurs_telescope 0 (telescope_of (map plain_tele_entry (drop (c.loop-entry.seen + 1) entries)))) (sym mode)
    ∙ ap (λ n. is_persistent (plain_tele_entry entry).0 && occurs_telescope 0 (telescope_of (map plain_tele_entry (drop (n + 1) entries)))) seen in record {
      seen = omega (arith, seen);
      written =
          tele_entry-appended (plain_signature c.args.sig.now) c.args.metas.now c.loop-entry.inner c.in_ok-inner.inner i (length entries - (c.loop-entry.seen + 1)) c.names_entry-named.result entry entries
          c.loop-entry.out.items c.push_tele_entry.new.out.items lt c.entry-item.is c.in_ok-inner.ensures (omega (arith, seen)) named c.in_ok-push_tele_entry.ensures
          ∙ c.loop-entry.invariant.written;
    }

pub push_named-returns : goal.push_named-returns
push_named-returns t c =
    let out = c.args.out.now.items in
    let level = c.args.level in
    let text = type_text (plain_signature c.args.sig.now) c.args.metas.now level Whole (plain_ty c.args.ty.now) in
    let name = new_variable_text level in
    on_ok_weaker c.push_if.result
    (λ e. joined out ((name ++ codes ": ") ++ text) (codes ". ")
    (joined out (name ++ codes ": ") text (joined out name (codes ": ") c.in_ok-push_new_variable.ensures c.in_ok-extend_from_slice.ensures.items) c.in_ok-push_type.ensures)
    e)
    c.push_if.ensures

pub push_domain-returns-in_ok-extend_from_slice : goal.push_domain-returns-in_ok-extend_from_slice
push_domain-returns-in_ok-extend_from_slice t c =
    let out = c.args.out.now.items in
    let level = c.args.level in
    let text = λ (place : Place). type_text (plain_signature c.args.sig.now) c.args.metas.now level place (plain_ty c.args.dom.now) in
    on_ok_weaker c.push_named.result
    (λ e. joined out (codes "Pi ") (named_text level (text Whole)) c.in_ok-extend_from_slice.ensures.items e
    ∙ ap (λ b. out ++ domain_text c.args.mode b level (text Whole) (text Operand)) (sym c.if-named.true))
    c.push_named.ensures

pub push_domain-returns-in_ok-push_type : goal.push_domain-returns-in_ok-push_type
push_domain-returns-in_ok-push_type t c =
    let out = c.args.out.now.items in
    let level = c.args.level in
    let text = λ (place : Place). type_text (plain_signature c.args.sig.now) c.args.metas.now level place (plain_ty c.args.dom.now) in
    on_ok_weaker c.push_if.result
    (λ e. joined out (text Operand) (arrow_text c.args.mode) c.in_ok-push_type.ensures (e ∙ ap (λ l. c.push_type.new.out.items ++ l) c.arrow.ensures)
    ∙ ap (λ b. out ++ domain_text c.args.mode b level (text Whole) (text Operand)) (sym c.if-named.false))
    c.push_if.ensures

pub push_tele_entry-returns-in_ok-extend_from_slice : goal.push_tele_entry-returns-in_ok-extend_from_slice
push_tele_entry-returns-in_ok-extend_from_slice t c =
    let out = c.args.out.now.items in
    let level = c.args.level in
    let entry = plain_tele_entry c.args.entry.now in
    let text = λ (place : Place) (ty : PlainType). type_text (plain_signature c.args.sig.now) c.args.metas.now level place ty in
    let same = ap (λ (p : Mode × PlainType). p.1) (plain-tele-entry c.args.entry.now) in
    on_ok_weaker c.push_named.result
    (λ e. joined out (codes "Exists ") (named_text level (text Whole entry.1)) c.in_ok-extend_from_slice.ensures.items
    (e ∙ ap (λ ty. c.extend_from_slice.new.self.items ++ named_text level (text Whole ty)) (sym same))
    ∙ ap (λ b. out ++ tele_entry_text entry.0 b c.args.goes_on level (text Whole entry.1) (text Operand entry.1)) (sym c.if-named.true))
    c.push_named.ensures

pub push_tele_entry-returns-in_ok-push_type : goal.push_tele_entry-returns-in_ok-push_type
push_tele_entry-returns-in_ok-push_type t c =
    let out = c.args.out.now.items in
    let level = c.args.level in
    let entry = plain_tele_entry c.args.entry.now in
    let text = λ (place : Place) (ty : PlainType). type_text (plain_signature c.args.sig.now) c.args.metas.now level place ty in
    let same_mode = ap (λ (p : Mode × PlainType). p.0) (plain-tele-entry c.args.entry.now) in
    let same = ap (λ (p : Mode × PlainType). p.1) (plain-tele-entry c.args.entry.now) in
    on_ok_weaker c.push_if.result
    (λ e. joined out (mark_text entry.0 ++ text Operand entry.1) (when c.args.goes_on (codes " * "))
    (joined out (mark_text entry.0) (text Operand entry.1) (c.in_ok-push_mark.ensures ∙ ap (λ m. out ++ mark_text m) (sym same_mode))
    (c.in_ok-push_type.ensures ∙ ap (λ ty. c.push_mark.new.out.items ++ text Operand ty) (sym same)))
    e
    ∙ ap (λ b. out ++ tele_entry_text entry.0 b c.args.goes_on level (text Whole entry.1) (text Operand entry.1)) (sym c.if-named.false))
    c.push_if.ensures

pub push_telescope-returns : goal.push_telescope-returns
push_telescope-returns t c =
    let entries = c.args.entries.now in
    let i = c.loop-entry.entry-index in
    let out = c.loop-entry.out.items in
    let ended : length entries ≤ i = omega arith in
    sym (append-nil out)
    ∙ sym (at_drop_all (λ es. out ++ telescope_text (plain_signature c.args.sig.now) c.args.metas.now c.loop-entry.inner (telescope_of (map plain_tele_entry es))) entries i ended)
    ∙ c.loop-entry.invariant.written

pub push_type-returns-in-Top : goal.push_type-returns-in-Top
push_type-returns-in-Top t c =
    let is = c.in-Top.is in
    let law = plain-Top in
    let plain : plain_ty c.args.ty.now ≡ top = cc in
    rw plain c.push_if-in-Top.ensures

pub push_type-returns-in_ok-push_place-in-Fam : goal.push_type-returns-in_ok-push_place-in-Fam
push_type-returns-in_ok-push_place-in-Fam t c =
    let sig = plain_signature c.args.sig.now in
    let family_name = c.in-Fam.family in
    let indices = c.as_slice.result.now in
    let is = c.in-Fam.is in
    let got = c.as_slice.ensures in
    let law = plain-Fam family_name indices in
    let plain : plain_ty c.args.ty.now ≡ family family_name (map plain_obj indices) = cc in
    rw plain (on_ok_weaker c.push_indices.result (joined c.args.out.now.items (place_text sig family_name) (indices_text sig c.args.metas.now c.args.level (map plain_obj indices)) c.in_ok-push_place-in-Fam.ensures) c.push_indices.ensures)

pub push_type-returns-in_ok-push_type-in-Fun : goal.push_type-returns-in_ok-push_type-in-Fun
push_type-returns-in_ok-push_type-in-Fun t c =
    let level = c.args.level in
    let mode = c.in-Fun.mode in
    let dom = plain_ty c.get.result.now in
    let cod = plain_ty c.get-cod.result.now in
    let text = λ (at : ℕ) (place : Place) (ty : PlainType). type_text (plain_signature c.args.sig.now) c.args.metas.now at place ty in
    let argument = domain_text mode (is_persistent mode && occurs_type 0 cod) level (text level Whole dom) (text level Operand dom) in
    let is = c.in-Fun.is in
    let got_left = c.get.ensures in
    let got_right = c.get-cod.ensures in
    let law = plain-Fun mode c.get.result.now c.get-cod.result.now in
    let plain : plain_ty c.args.ty.now ≡ function mode dom cod = cc in
    let written = joined c.push_if.new.out.items argument (text (level + 1) Whole cod) c.in_ok-push_argument-in-Fun.ensures (c.in_ok-push_type-in-Fun.ensures ∙ ap (λ n. c.push_argument.new.out.items ++ text n Whole cod) c.in_ok-raised-in-Fun.ensures) in
    rw plain (on_ok_weaker c.push_if-in-Fun.result
    (in_parentheses c.args.out.now.items (argument ++ text (level + 1) Whole cod) (groups_function c.args.place) c.groups_function-grouped.result c.groups_function-grouped.ensures c.in_ok-push_if-in-Fun.ensures written)
    c.push_if-in-Fun.ensures)

pub push_type-returns-in_ok-push_type-in-With-2 : goal.push_type-returns-in_ok-push_type-in-With-2
push_type-returns-in_ok-push_type-in-With-2 t c =
    let left = plain_ty c.get-in-With.result.now in
    let right = plain_ty c.get-in-With-2.result.now in
    let text = λ (place : Place) (ty : PlainType). type_text (plain_signature c.args.sig.now) c.args.metas.now c.args.level place ty in
    let is = c.in-With.is in
    let got_left = c.get-in-With.ensures in
    let got_right = c.get-in-With-2.ensures in
    let law = plain-With c.get-in-With.result.now c.get-in-With-2.result.now in
    let plain : plain_ty c.args.ty.now ≡ both left right = cc in
    let written =
    joined c.push_if-in-With.new.out.items (text Factor left ++ codes " & ") (text Operand right)
    (joined c.push_if-in-With.new.out.items (text Factor left) (codes " & ") c.in_ok-push_type-in-With.ensures c.in_ok-extend_from_slice-in-With.ensures.items)
    c.in_ok-push_type-in-With-2.ensures in
    rw plain (on_ok_weaker c.push_if-in-With-2.result
    (in_parentheses c.args.out.now.items ((text Factor left ++ codes " & ") ++ text Operand right) (groups_pair c.args.place) c.groups_pair-grouped.result c.groups_pair-grouped.ensures c.in_ok-push_if-in-With.ensures written)
    c.push_if-in-With-2.ensures)

pub push_type-returns-in-Monad : goal.push_type-returns-in-Monad
push_type-returns-in-Monad t c =
    let tele = c.in-Monad.tele in
    let entries = c.as_slice-in-Monad.result.now in
    let is = c.in-Monad.is in
    let got = c.as_slice-in-Monad.ensures in
    let law = plain-Monad tele in
    let law_tele = plain-tele tele in
    let plain : plain_ty c.args.ty.now ≡ monad (telescope_of (map plain_tele_entry entries)) = cc in
    rw plain c.push_monad.ensures

pub push_argument-returns : goal.push_argument-returns
push_argument-returns t c =
    let out = c.args.out.now.items in
    let level = c.args.level in
    let text = λ (place : Place). type_text (plain_signature c.args.sig.now) c.args.metas.now level place (plain_ty c.args.dom.now) in
    on_ok_weaker c.push_domain.result (λ e. e ∙ ap (λ b. out ++ domain_text c.args.mode b level (text Whole) (text Operand)) c.names_argument-named.ensures) c.push_domain.ensures

pub push_monad-returns : goal.push_monad-returns
push_monad-returns t c =
    let out = c.args.out.now.items in
    let entries = c.args.entries.now in
    let tele = telescope_of (map plain_tele_entry entries) in
    let none = when (is_end tele) (codes "1") in
    let text = telescope_text (plain_signature c.args.sig.now) c.args.metas.now c.args.level tele in
    let none_written = c.in_ok-push_if.ensures ∙ ap (λ b. c.push.new.self.items ++ when b (codes "1")) (c.is_empty.ensures ∙ sym (is_end-entries entries)) in
    on_ok_weaker c.push_if-2.result
    (λ e. joined out ((codes "{" ++ none) ++ text) (codes "}")
    (joined out (codes "{" ++ none) text (joined out (codes "{") none c.in_ok-push.ensures.items none_written) c.in_ok-push_telescope.ensures)
    e)
    c.push_if-2.ensures
