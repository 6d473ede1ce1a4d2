-- A neutral has at most one type.
use Rattle.std.specs.Prelude.{◌+◌, ◌≡◌, Some}
use Rattle.std.proofs.Common.{ap, sym, subst, ◌∙◌}
use Rattle.clf_syntax.specs.declared.tree.Mode.{Mode}
use Rattle.clf_syntax.specs.declared.tree.Head.TheVariants.{Const, Var, Meta}
use Rattle.clf_syntax.specs.Tree.{PlainNeutral, head_alone, app, fst, snd}
use Rattle.clf_syntax.specs.TypeTree.{PlainType, function, both}
use Rattle.clf_syntax.specs.Renaming.{ren_type, up}
use Rattle.use_contexts.specs.Context.{Context}
use Rattle.use_contexts.specs.Holding.{Holding}
use Rattle.hered_subst.specs.Substitution.{single, SubstitutedType}
use Rattle.hered_subst.proofs.Types.{is_determined}
use Rattle.clf_sig.specs.Entry.{PlainSignature}
use Rattle.clf_rules.specs.Typing.{Synthesizes}

the_type : {a b : PlainType} → Some a ≡ Some b → a ≡ b
the_type e = cc

the_entry : {x y : Mode × PlainType} → Some x ≡ Some y → x.1 ≡ y.1
the_entry e = cc

ranges : {m k : Mode} {a b c d : PlainType} → function m a c ≡ function k b d → c ≡ d
ranges e = cc

firsts : {a b c d : PlainType} → both a c ≡ both b d → a ≡ b
firsts e = cc

seconds : {a b c d : PlainType} → both a c ≡ both b d → c ≡ d
seconds e = cc

pub type_is_one : (sig : PlainSignature) (g : Context) (h k : Holding) (r : PlainNeutral) (a b : PlainType) → Synthesizes sig g h r a → Synthesizes sig g k r b → a ≡ b
type_is_one sig g h k (head_alone (Const c)) a b p q = the_type (sym p.0 ∙ q.0)
type_is_one sig g h k (head_alone (Var i)) a b p q = let (m, x, e, f) = p.1 in let (n, y, u, v) = q.1 in f ∙ ap (ren_type (up (i + 1))) (the_entry (sym e ∙ u)) ∙ sym v
type_is_one sig g h k (head_alone (Meta c)) a b p q = absurd p
type_is_one sig g h k (app m r n) a b p q = (is_determined (single n 0)).4 p.range a b p.type
    (subst (λ j. SubstitutedType (single n 0) j b) (sym (ranges (type_is_one sig g p.for_function q.for_function r (function m p.domain p.range) (function m q.domain q.range) p.applied q.applied))) q.type)
type_is_one sig g h k (fst r) a b p q = firsts (type_is_one sig g h k r (both a p.0) (both b q.0) p.1 q.1)
type_is_one sig g h k (snd r) a b p q = seconds (type_is_one sig g h k r (both p.0 a) (both q.0 b) p.1 q.1)
