-- Laws of the rounds, as statements.
use Rattle.std.specs.Prelude.{ℕ, ◌≡◌, true, List, []}
use Rattle.clf_sig.specs.Entry.{PlainSignature}
use Rattle.celf_sugar.specs.PlainTree.{DesugaredBody}
use Rattle.celf_implicit.specs.Variables.{PlainImplicit, is_among}
use Rattle.celf_implicit.specs.Rounds.{found, after_rounds, determined}

-- The determined variables are the least closed set. Nothing else is found over them; whatever variables have this, whatever their simple
-- types are, the determined ones are among them; and once a round adds none, they have been found. So what is determined does not depend
-- on how the rounds are gone through.
pub record LeastClosed (sig : PlainSignature) (body : DesugaredBody) : Type 0 where
  pub closed : found sig body (determined sig body) ≡ []
  pub least : (xs : List PlainImplicit) → found sig body xs ≡ [] → (name : List ℕ) → is_among (determined sig body) name ≡ true → is_among xs name ≡ true
  pub reached : (n : ℕ) → found sig body (after_rounds sig body n) ≡ [] → after_rounds sig body n ≡ determined sig body
