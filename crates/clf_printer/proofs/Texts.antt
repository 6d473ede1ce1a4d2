-- What puts the pieces of a text together.
use Rattle.std.proofs.Common.{◌≡◌, ℕ, suc, ◌==◌, Bool, false, List, [], ◌∷◌, ◌++◌, ◌∙◌, map, length, refl, arith, ap, append_assoc, append-nil, codes}
use Rattle.clf_syntax.specs.declared.tree.TeleEntry.{TeleEntry}
use Rattle.clf_syntax.specs.Plain.{plain_laws}
use Rattle.clf_syntax.specs.PlainTypes.{plain_tele_entry}
use Rattle.clf_syntax.specs.TypeTree.{telescope_of}
use Rattle.clf_printer.specs.Text.{is_end, when, grouped}
use Rattle.clf_printer.proofs.Lists.{joined}

not_zero : (n : ℕ) → false ≡ (suc n == 0)
not_zero n = grind arith

pub is_end-entries : (es : List TeleEntry) → is_end (telescope_of (map plain_tele_entry es)) ≡ (length es == 0)
is_end-entries [] = refl
is_end-entries (e ∷ es) = not_zero (length es)

-- a text after another, in parentheses where they are wanted
pub in_parentheses : (o text : List ℕ) (wanted asked : Bool) {p q r : List ℕ} → asked ≡ wanted → p ≡ o ++ when asked (codes "(") → q ≡ p ++ text → r ≡ q ++ when asked (codes ")") → r ≡ o ++ grouped wanted text
in_parentheses o text wanted asked {p} {q} same opened written closed =
    joined o (when wanted (codes "(") ++ text) (when wanted (codes ")"))
    (joined o (when wanted (codes "(")) text (opened ∙ ap (λ b. o ++ when b (codes "(")) same) written)
    (closed ∙ ap (λ b. q ++ when b (codes ")")) same)

pub ruleset texts = (append_assoc, append-nil, plain_laws)
