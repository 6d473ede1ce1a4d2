-- Kinds as types of functions to <T>.
use Rattle.std.specs.Prelude.{◌≡◌, List, [], ◌∷◌, refl}
use Rattle.std.proofs.Common.{ap}
use Rattle.clf_syntax.specs.declared.tree.Mode.TheVariants.{Persistent}
use Rattle.clf_syntax.specs.TypeTree.{PlainKind, PlainType, function}
use Rattle.clf_syntax.specs.Simple.{Assignment, Families, SimplyFormed, SimplyFormedKind, erase, extended}
use Rattle.use_contexts.specs.Context.{Context}
use Rattle.hered_subst.specs.Substitution.{Environment, SubstitutedKind, SubstitutedType, in_argument, in_function, in_no_argument, in_top}
use Rattle.joined_laws.specs.JoinedTypes.{JoinedKind, JoinedType, joined_argument, joined_function, joined_no_argument}
use Rattle.pattern_laws.specs.Equations.{Equation}
use Rattle.clf_sig.specs.Entry.{PlainSignature}
use Rattle.clf_rules.specs.WellFormed.{WellFormedKind, WellFormedType}
use Rattle.gathering.specs.Items.{KindGathers, TypeGathers}
use Rattle.gathering.specs.Setting.{Setting}
use Rattle.gathering.specs.Shape.{Shape, unmarked_shape}
use Rattle.reconstruction_laws.specs.Trees.{as_type}

pub one_kind : (k l : PlainKind) → as_type k ≡ as_type l → k ≡ l
one_kind [] [] e = refl
one_kind [] (b ∷ l) e = absurd (cc)
one_kind (a ∷ k) [] e = absurd (cc)
one_kind (a ∷ k) (b ∷ l) e = conses (first a b (as_type k) (as_type l) e) (one_kind k l (rest a b (as_type k) (as_type l) e))
  where
    first : (a b c d : PlainType) → function Persistent a c ≡ function Persistent b d → a ≡ b
    first a b c d e = cc

    rest : (a b c d : PlainType) → function Persistent a c ≡ function Persistent b d → c ≡ d
    rest a b c d e = cc

    conses : {a b : PlainType} {k l : PlainKind} → a ≡ b → k ≡ l → a ∷ k ≡ b ∷ l
    conses e f = cc

pub type_formed : (arguments : Families) (g : Assignment) (k : PlainKind) → SimplyFormedKind arguments g k → SimplyFormed arguments g (as_type k)
type_formed arguments g [] p = tt
type_formed arguments g (a ∷ k) p = (p.0, type_formed arguments (extended (erase a) g) k p.1)

pub type_well_formed : (sig : PlainSignature) (g : Context) (k : PlainKind) → WellFormedKind sig g k → WellFormedType sig g (as_type k)
type_well_formed sig g [] p = tt
type_well_formed sig g (a ∷ k) p = (p.0, type_well_formed sig ((Persistent, a) ∷ g) k p.1)

pub type_gathers : (sig : PlainSignature) (z : Setting) (g : Context) (w : List Shape) (k : PlainKind) (q : List Equation) → KindGathers sig z g w k q → TypeGathers sig z g w (as_type k) q
type_gathers sig z g w [] q p = p
type_gathers sig z g w (a ∷ k) q p = record {
  of_first = p.of_first;
  of_second = p.of_second;
  first = p.first;
  second = type_gathers sig z ((Persistent, a) ∷ g) (unmarked_shape a ∷ w) k p.of_second p.second;
  equations = p.equations;
}

pub type_substituted : {s : Environment} {k l : PlainKind} → SubstitutedKind s k l → SubstitutedType s (as_type k) (as_type l)
type_substituted in_no_argument = in_top
type_substituted (in_argument p q) = in_function p (type_substituted q)

-- what becomes of a kind as a type is a kind
pub record StaysKind (s : Environment) (k : PlainKind) (x : PlainType) : Type 0 where
  pub kind : PlainKind
  pub same : x ≡ as_type kind
  pub becomes : SubstitutedKind s k kind

pub stays_kind : (k : PlainKind) {s : Environment} {x : PlainType} → SubstitutedType s (as_type k) x → StaysKind s k x
stays_kind [] in_top = record { kind = []; same = refl; becomes = in_no_argument }
stays_kind (a ∷ k) (in_function {x = b} p q) = let r = stays_kind k q in record { kind = b ∷ r.kind; same = ap (function Persistent b) r.same; becomes = in_argument p r.becomes }

pub joined_kind : (k l : PlainKind) → JoinedType (as_type k) (as_type l) → JoinedKind k l
joined_kind [] [] p = joined_no_argument
joined_kind [] (b ∷ l) p = elim p [ ]
joined_kind (a ∷ k) [] p = elim p [ ]
joined_kind (a ∷ k) (b ∷ l) (joined_function p q) = joined_argument p (joined_kind k l q)
