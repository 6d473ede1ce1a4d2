-- The text of an entry of the signature.
use Rattle.std.specs.Prelude.{ℕ, List, [], slice_get, unwrap_or, codes}
use Rattle.std.specs.Option.{option_map}
use Rattle.clf_sig.specs.Entry.{PlainSignature}
use Rattle.clf_printer.specs.Text.{declaration_text}
use Rattle.clf_printer.specs.Metas.{appearing_class}

-- A number that is no entry is written $.
abbrev pub entry_text : PlainSignature → ℕ → List ℕ
entry_text sig k = unwrap_or (option_map (λ e. declaration_text sig (appearing_class [] e.1.class) e.0 e.1) (slice_get sig k)) (codes "$")
