-- Inner: the putting that the kernel does, which is hereditary substitution, bounded by the rank of the variable's simple type, whatever
-- numbers come of it. Where that makes nothing, which comes only where the object has not the variable's type, what follows the variable
-- stays as it is.
use Rattle.clf_syntax.specs.Simple.{erase}
use Rattle.hered_subst.specs.Substitution.{single}
use Rattle.hered_subst.proofs.SimpleTyping.{rank}
use Rattle.hered_put.specs.Function.{Answer, made, untyped, too_far, free, nested_freely, run_type_by, run_telescope_by, run_kind_by}
use Rattle.clf_decision.specs.Checking.{Puts}

abbrev pub or_itself : {X : Type 0} → Answer X → X → X
or_itself (made x) y = x
or_itself untyped y = y
or_itself too_far y = y

unfoldable pub hereditary : Puts
hereditary = record {
  into_type = λ n a c. or_itself (run_type_by free (nested_freely (rank (erase a))) (single n 0) c) c;
  into_telescope = λ n a s. or_itself (run_telescope_by free (nested_freely (rank (erase a))) (single n 0) s) s;
  into_kind = λ n a k. or_itself (run_kind_by free (nested_freely (rank (erase a))) (single n 0) k) k;
}
