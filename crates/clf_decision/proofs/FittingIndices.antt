-- Indices that have the types of the arguments, as far as there are both: said by the first ones of either.
use Rattle.std.proofs.Common.{ℕ, zero, suc, List, [], ◌∷◌, length, take, subst}
use Rattle.clf_syntax.specs.Tree.{PlainObject}
use Rattle.clf_syntax.specs.TypeTree.{PlainKind}
use Rattle.use_contexts.specs.Context.{Context}
use Rattle.hered_subst.specs.Substitution.{Environment, SubstitutedKind, in_no_argument, in_argument}
use Rattle.clf_sig.specs.Entry.{PlainSignature}
use Rattle.clf_rules.specs.WellFormed.{IndicesHaveTypes}
use Rattle.clf_decision.proofs.AgreementOfTypes.{IndicesFit, put-length}

pub put-take : (j : ℕ) {s : Environment} {k x : PlainKind} → SubstitutedKind s k x → SubstitutedKind s (take j k) (take j x)
put-take zero p = in_no_argument
put-take (suc j) in_no_argument = in_no_argument
put-take (suc j) (in_argument p q) = in_argument p (put-take j q)

pub fit-takes : (sig : PlainSignature) (g : Context) (ns : List PlainObject) (k : PlainKind) → IndicesFit sig g ns k → IndicesHaveTypes sig g (take (length k) ns) (take (length ns) k)
fit-takes sig g [] [] y = tt
fit-takes sig g [] (a ∷ k) y = tt
fit-takes sig g (n ∷ ns) [] y = tt
fit-takes sig g (n ∷ ns) (a ∷ k) y = record {
  after_put = take (length ns) y.after_put;
  index = y.index;
  put = put-take (length ns) y.put;
  later = subst (λ j. IndicesHaveTypes sig g (take j ns) (take (length ns) y.after_put)) (put-length y.put) (fit-takes sig g ns y.after_put y.later);
}
