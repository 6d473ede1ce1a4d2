-- What a `?` hands on.
use Rattle.std.proofs.Common.{◌≡◌, Bool, sym, subst}
use Rattle.std.specs.Prelude.{Result, Ok, Err}
use Rattle.std.specs.Result.{IsErrAnd}
use Rattle.clf_syntax.specs.declared.fault.Or.{Or}
use Rattle.clf_syntax.specs.declared.fault.TooFar.{TooFar}
use Rattle.clf_syntax.specs.Written.{Writes}

pub passed : {X P : Type 0} (plain : X → P) (test : P → Bool) (want : P) (e : Or TooFar) (r : Result X (Or TooFar)) → IsErrAnd r (λ y. y ≡ e) → Writes plain test want (Err e) → Writes plain test want r
passed plain test want e (Ok x) q w = absurd q
passed plain test want e (Err f) q w = subst (λ y. Writes plain test want (Err y)) (sym q) w
