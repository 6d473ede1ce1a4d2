-- The lines of a reply, over the signature that is held after it.
use Rattle.std.specs.Prelude.{ℕ, ◌≡◌, ◌<◌, ◌^◌, true, false, List, ◌++◌, Some, codes}
use Rattle.std.specs.Fmt.{decimal}
use Rattle.clf_sig.specs.Entry.{PlainEntry, PlainSignature, entry_at}
use Rattle.clf_printer.specs.Depth.{scope_depth, type_depth, class_depth}
use Rattle.clf_printer.specs.Entry.{entry_text}
use Rattle.clf_printer.specs.Judgment.{judgment_text}
use Rattle.celf_replies.specs.Causes.{cause_text, path_text}
use Rattle.celf_replies.specs.Found.{mismatch_text, unresolved_text, circle_text}
use Rattle.celf_replies.specs.Reply.{PlainWhy, bad_byte, long_name, unexpected, directive, too_deep, kind_place, not_async, redex, out_of_range, bad_implicit, duplicate, full, unknown_name, kernel, undetermined, ill_typed, unresolved, loose, circular, rejected, not_yet, PlainReply, entry, checked, equal, different, refused}

-- what is said of a refusal after its byte
abbrev pub why_text : PlainSignature → PlainWhy → List ℕ
why_text sig bad_byte = codes "bad byte"
why_text sig long_name = codes "long name"
why_text sig (unexpected true) = codes "unexpected end"
why_text sig (unexpected false) = codes "unexpected"
why_text sig directive = codes "unknown directive"
why_text sig too_deep = codes "too deep"
why_text sig kind_place = codes "misplaced type"
why_text sig not_async = codes "synchronous type"
why_text sig redex = codes "redex"
why_text sig out_of_range = codes "number out of range"
why_text sig bad_implicit = codes "implicit count"
why_text sig (duplicate name) = codes "duplicate " ++ name
why_text sig full = codes "signature full"
why_text sig (unknown_name name) = codes "unknown name " ++ name
why_text sig (kernel path cause) = cause_text sig cause ++ codes " at " ++ path_text path
why_text sig (undetermined name) = codes "undetermined " ++ name
why_text sig (ill_typed m) = codes "ill typed: " ++ mismatch_text sig m
why_text sig (unresolved ss) = codes "unresolved " ++ unresolved_text sig ss
why_text sig (loose count) = codes "loose metavariables " ++ decimal count
why_text sig (circular names) = codes "circular " ++ circle_text names
why_text sig (rejected path cause) = codes "rejected: " ++ (cause_text sig cause ++ codes " at " ++ path_text path)
why_text sig not_yet = codes "not yet"

abbrev pub refusal_text : PlainSignature → ℕ → PlainWhy → List ℕ
refusal_text sig at why = codes "refused at " ++ decimal at ++ codes ": " ++ why_text sig why ++ codes ".\n"

abbrev pub reply_text : PlainSignature → PlainReply → List ℕ
reply_text sig (entry k) = entry_text sig k ++ codes "\n"
reply_text sig (checked n a) = codes "check: " ++ (judgment_text sig n a ++ codes ".\n")
reply_text sig equal = codes "equal.\n"
reply_text sig different = codes "different.\n"
reply_text sig (refused r) = refusal_text sig r.at r.why

-- The numbers of the variables in a reply are less than 2 ^ 64: so far are they written whole.
abbrev pub IsNumbered : PlainSignature → PlainReply → Type 0
IsNumbered sig (entry k) = (e : PlainEntry) → entry_at sig k ≡ Some e → class_depth e.class < 2 ^ 64
IsNumbered sig (checked n a) = (scope_depth n < 2 ^ 64) × (type_depth a < 2 ^ 64)
IsNumbered sig equal = Unit {0}
IsNumbered sig different = Unit {0}
IsNumbered sig (refused r) = Unit {0}
