-- Stores that grew, and results.
use Rattle.std.specs.Prelude.{[], ◌++◌, IfOk, refl}
use Rattle.std.proofs.Common.{ap, sym, ◌∙◌, append_assoc, Result, Ok, Err}
use Rattle.std.proofs.lemmas.List.{append-nil}
use Rattle.metavars.specs.Stored.{Stored, IsPart}

pub part_same : (s : Stored) → IsPart s s
part_same s = (refl, ([], sym (append-nil s.added)))

pub part_then : (s t u : Stored) → IsPart s t → IsPart t u → IsPart s u
part_then s t u (e, (more, f)) (g, (rest, h)) = (g ∙ e, (more ++ rest, h ∙ ap (λ l. l ++ rest) f ∙ append_assoc s.added more rest))

-- What follows of a value follows of a result.
pub ok_more : {T E : Type 0} (P Q : T → Type 0) (r : Result T E) → ((t : T) → P t → Q t) → IfOk r P → IfOk r Q
ok_more P Q (Ok t) f p = f t p
ok_more P Q (Err e) f p = tt

-- So it is with what follows of three facts of a value.
pub ok_three : {T E : Type 0} (P Q R S : T → Type 0) (r : Result T E) → ((t : T) → P t → Q t → R t → S t) → IfOk r P → IfOk r Q → IfOk r R → IfOk r S
ok_three P Q R S (Ok t) f p q r = f t p q r
ok_three P Q R S (Err e) f p q r = tt
