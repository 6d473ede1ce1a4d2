-- Inner: what is asked of the putting of an object where a check of the rules is to agree with them.
use Rattle.clf_syntax.specs.Tree.{PlainObject}
use Rattle.clf_syntax.specs.TypeTree.{PlainType, PlainTelescope, PlainKind}
use Rattle.clf_syntax.specs.Simple.{Assignment, Families, erase, extended, SimplyTyped, SimplyFormed, SimplyFormedTelescope, SimplyFormedKind}
use Rattle.hered_subst.specs.Substitution.{single, SubstitutedType, SubstitutedTelescope, SubstitutedKind}
use Rattle.clf_decision.specs.Checking.{Puts}

-- Where an object has the variable's simple type, and what follows is simply formed with the variable, what is put is the substitution's.
pub record ArePuts (puts : Puts) : Type 0 where
  pub types : (arguments : Families) (z : Assignment) (n : PlainObject) (a c : PlainType)
      → SimplyTyped z n (erase a) → SimplyFormed arguments (extended (erase a) z) c → SubstitutedType (single n 0) c (puts.into_type n a c)
  pub telescopes : (arguments : Families) (z : Assignment) (n : PlainObject) (a : PlainType) (s : PlainTelescope)
      → SimplyTyped z n (erase a) → SimplyFormedTelescope arguments (extended (erase a) z) s → SubstitutedTelescope (single n 0) s (puts.into_telescope n a s)
  pub kinds : (arguments : Families) (z : Assignment) (n : PlainObject) (a : PlainType) (k : PlainKind)
      → SimplyTyped z n (erase a) → SimplyFormedKind arguments (extended (erase a) z) k → SubstitutedKind (single n 0) k (puts.into_kind n a k)
