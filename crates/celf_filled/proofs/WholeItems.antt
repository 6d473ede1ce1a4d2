-- What a walk makes of an item is a reading, where all was filled in.
use Rattle.std.specs.Prelude.{◌≡◌, true, map}
use Rattle.std.proofs.Common.{ap, sym, ◌∙◌, subst}
use Rattle.clf_sig.specs.Core.{PlainCore}
use Rattle.celf_elaboration.specs.Declarations.{declared_heads}
use Rattle.celf_elaboration.specs.Items.{ReadsBody}
use Rattle.celf_filled.specs.Scopes.{with_known_type}
use Rattle.celf_filled.specs.States.{State, state_of}
use Rattle.celf_filled.specs.Whole.{IsRead}
use Rattle.celf_filled.specs.WalkItems.{fill_body}
use Rattle.celf_filled.specs.Laws.{WholeIsRead}
use Rattle.celf_filled.proofs.WholeTypes.{body_read}

pub whole_is_read : WholeIsRead
whole_is_read sig xs vs body old new_one whole core e h w =
    let made : (core, state_of new_one whole) ≡ fill_body sig (map with_known_type vs) body (state_of old true) = e ∙ ap (λ ys. fill_body sig ys body (state_of old true)) h in
    let read : IsRead (state_of old true) (core, state_of new_one whole) (λ fs c. ReadsBody sig (declared_heads sig) vs body fs c) =
    subst (λ (v : PlainCore × State). IsRead (state_of old true) v (λ fs c. ReadsBody sig (declared_heads sig) vs body fs c)) (sym made) (body_read sig vs body (state_of old true)) in
    record {
      fillings = read.fillings;
      numbered = read.grows.new_ones;
      grown = record { constants_kept = read.grows.constants_kept; added = read.grows.added };
      reading = (read.reads w).1;
    }
