-- What stands from a place of a telescope on, bound around a run.
use Rattle.std.proofs.Common.{◌≡◌, ◌∙◌, ◌+◌, ap, sym, suc, arith, List, ℕ, ◌∷◌, drop, length, map, get_or, ◌<◌}
use Rattle.std.proofs.Math.Seq.{drop-cons, drop-length}
use Rattle.clf_syntax.specs.Tree.{lam, PlainExpression}
use Rattle.clf_syntax.specs.TypeTree.{PlainTelescope, function, end, binding, telescope_of}
use Rattle.clf_syntax.specs.Plain.{plain_obj, plain-Lam}
use Rattle.clf_syntax.specs.PlainTypes.{plain_tele, plain_tele_entry, plain_ty, plain-tele, plain-tele-entry, plain-Fun}
use Rattle.clf_syntax.specs.declared.tree.Obj.{Obj}
use Rattle.clf_syntax.specs.declared.tree.Obj.TheVariants.{Lam}
use Rattle.clf_syntax.specs.declared.tree.Ty.{Ty}
use Rattle.clf_syntax.specs.declared.tree.Ty.TheVariants.{Fun}
use Rattle.clf_syntax.specs.declared.tree.Tele.{Tele, out-Tele}
use Rattle.clf_syntax.specs.declared.tree.TeleEntry.{TeleEntry, out-TeleEntry}
use Rattle.run_printer.specs.Runs.{run_object, run_type}

-- from the first place on all
pub whole : (start : Tele) (entries : List TeleEntry) → entries ≡ (out-Tele start).entries → telescope_of (map plain_tele_entry (drop 0 entries)) ≡ plain_tele start
whole start entries e = ap (λ es. telescope_of (map plain_tele_entry es)) e ∙ sym (plain-tele start)

-- after the last entry nothing
pub none_left : (entries : List TeleEntry) (i : ℕ) → i ≡ length entries → telescope_of (map plain_tele_entry (drop i entries)) ≡ end
none_left entries i e = ap (λ es. telescope_of (map plain_tele_entry es)) (ap (λ k. drop k entries) e ∙ drop-length entries)

-- before that the entry of the place, and what comes after it
pub from_entry : (entries : List TeleEntry) (i : ℕ) (x : TeleEntry) → i < length entries → x ≡ get_or entries i x
    → telescope_of (map plain_tele_entry (drop i entries)) ≡ binding (out-TeleEntry x).mode (plain_ty (out-TeleEntry x).ty) (telescope_of (map plain_tele_entry (drop (suc i) entries)))
from_entry entries i x l e = ap (λ es. telescope_of (map plain_tele_entry es)) (drop-cons entries i x l ∙ ap (λ y. y ∷ drop (suc i) entries) (sym e))
    ∙ ap (λ p. binding p.0 p.1 (telescope_of (map plain_tele_entry (drop (suc i) entries)))) (plain-tele-entry x)

one_more : (i : ℕ) → i + 1 ≡ suc i
one_more i = omega arith

module _ (entries : List TeleEntry) (i : ℕ) (x : TeleEntry) (l : i < length entries) (e : x ≡ get_or entries i x) where
  pub bound_lambda : (r : PlainExpression) (body more : Obj) → body ≡ more → plain_obj more ≡ run_object (telescope_of (map plain_tele_entry (drop (i + 1) entries))) r
      → plain_obj (Lam (out-TeleEntry x).mode body) ≡ run_object (telescope_of (map plain_tele_entry (drop i entries))) r
  bound_lambda r body more b p =
      plain-Lam (out-TeleEntry x).mode body
      ∙ ap (λ o. lam (out-TeleEntry x).mode (plain_obj o)) b
      ∙ ap (lam (out-TeleEntry x).mode) (p ∙ ap (λ k. run_object (telescope_of (map plain_tele_entry (drop k entries))) r) (one_more i))
      ∙ ap (λ s. run_object s r) (sym (from_entry entries i x l e))

  pub bound_function : (finish : PlainTelescope) (dom cod more : Ty) → dom ≡ (out-TeleEntry x).ty → cod ≡ more → plain_ty more ≡ run_type (telescope_of (map plain_tele_entry (drop (i + 1) entries))) finish
      → plain_ty (Fun (out-TeleEntry x).mode dom cod) ≡ run_type (telescope_of (map plain_tele_entry (drop i entries))) finish
  bound_function finish dom cod more d b p =
      plain-Fun (out-TeleEntry x).mode dom cod
      ∙ ap (λ a. function (out-TeleEntry x).mode (plain_ty a) (plain_ty cod)) d
      ∙ ap (λ a. function (out-TeleEntry x).mode (plain_ty (out-TeleEntry x).ty) (plain_ty a)) b
      ∙ ap (function (out-TeleEntry x).mode (plain_ty (out-TeleEntry x).ty)) (p ∙ ap (λ k. run_type (telescope_of (map plain_tele_entry (drop k entries))) finish) (one_more i))
      ∙ ap (λ s. run_type s finish) (sym (from_entry entries i x l e))
