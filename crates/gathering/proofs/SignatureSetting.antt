-- The setting of a well-formed signature meets what the laws ask.
use Rattle.std.proofs.Common.{ap, arith, subst, sym, ◌∙◌}
use Rattle.std.specs.Option.{option_map}
use Rattle.std.specs.Prelude.{None, Option, Some, [], length, map, refl, suc, true, zero, ℕ, ◌<◌, ◌∷◌, ◌≡◌}
use Rattle.clf_syntax.proofs.TypeRenaming.{identity_type}
use Rattle.clf_syntax.specs.Renaming.{ren_head}
use Rattle.clf_syntax.specs.Simple.{SimplyFormed, SimplyFormedKind, erase, extended_over}
use Rattle.clf_syntax.specs.TypeTree.{PlainKind, PlainType, SimpleType}
use Rattle.clf_syntax.specs.declared.tree.Head.{Head}
use Rattle.clf_syntax.specs.declared.tree.Head.TheVariants.{Const, Meta, Var}
use Rattle.clf_syntax.specs.declared.tree.Mode.TheVariants.{Persistent}
use Rattle.use_contexts.specs.Context.{Context}
use Rattle.clf_sig.specs.Entry.{PlainSignature, constant_type, family_kind}
use Rattle.hered_subst.proofs.SimpleTyping.{under_zero}
use Rattle.hered_subst.specs.Substitution.{Environment, SubstitutedKind, SubstitutedType, in_argument, in_no_argument, under}
use Rattle.subst_laws.proofs.Environs.{under_sum}
use Rattle.clf_rules.proofs.Signatures.{entries_well_formed}
use Rattle.clf_rules.specs.WellFormed.{WellFormedKind, WellFormedType}
use Rattle.typing_laws.proofs.Erased.{of_constant}
use Rattle.typing_laws.proofs.Fixed.{fixed_type}
use Rattle.typing_laws.proofs.FormedTypes.{renamed, well_formed_is_simply_formed}
use Rattle.typing_laws.specs.SimpleTyping.{families_of, simple_of}
use Rattle.gathering.proofs.Stays.{closed_stays, stays_type}
use Rattle.gathering.proofs.TypedObjects.{written_is}
use Rattle.gathering.specs.Instances.{HasNoVariables, HasSignature, KeepsSignature, setting_of}
use Rattle.gathering.specs.Laws.{SettingOfSignature}
use Rattle.gathering.specs.Setting.{Setting}

-- what is simply formed over a signature is so over more heads
larger : (sig : PlainSignature) (z : Setting) → HasSignature sig z → (g : Context) → (h : Head) (t : SimpleType) → simple_of sig g h ≡ Some t → extended_over g z.simple (ren_head (λ i. i) h) ≡ Some t
larger sig z has [] (Const c) t e = of_constant_type (constant_type sig c) refl e
  where
    of_constant_type : (x : Option PlainType) → constant_type sig c ≡ x → option_map erase x ≡ Some t → z.simple (Const c) ≡ Some t
    of_constant_type None i e = absurd (cc)
    of_constant_type (Some a) i e = has.simple c a i ∙ e
larger sig z has [] (Var i) t e = absurd (cc)
larger sig z has [] (Meta m) t e = absurd (cc)
larger sig z has (x ∷ g) (Const c) t e = larger sig z has g (Const c) t e
larger sig z has (x ∷ g) (Var zero) t e = e
larger sig z has (x ∷ g) (Var (suc i)) t e = larger sig z has g (Var i) t e
larger sig z has (x ∷ g) (Meta m) t e = larger sig z has g (Meta m) t e

module _ (sig : PlainSignature) (z : Setting) (has : HasSignature sig z) (families : z.arguments ≡ families_of sig) where
  pub type_formed : (a : PlainType) (g : Context) → WellFormedType sig g a → SimplyFormed z.arguments (extended_over g z.simple) a
  type_formed a g p = subst (λ x. SimplyFormed x (extended_over g z.simple) a) (sym families) (subst (λ x. SimplyFormed (families_of sig) (extended_over g z.simple) x) (identity_type a)
      (renamed (families_of sig) (simple_of sig g) (extended_over g z.simple) (λ i. i) (larger sig z has g) a ((well_formed_is_simply_formed sig g).types true a p)))

  kind_formed : (k : PlainKind) (g : Context) → WellFormedKind sig g k → SimplyFormedKind z.arguments (extended_over g z.simple) k
  kind_formed [] g p = tt
  kind_formed (a ∷ k) g p = (type_formed a g p.0, kind_formed k ((Persistent, a) ∷ g) p.1)

pub kind_stays : (sig : PlainSignature) (s : Environment) → KeepsSignature sig s → (k : PlainKind) (g : Context) {v : Environment} → v ≡ under (length g) s → WellFormedKind sig g k → SubstitutedKind v k k
kind_stays sig s keeps [] g e p = in_no_argument
kind_stays sig s keeps (a ∷ k) g e p = in_argument (stays_type sig s keeps a g e p.0) (kind_stays sig s keeps k ((Persistent, a) ∷ g) (ap (under 1) e ∙ under_sum (length g) s) p.1)

-- the same setting, with the simple types of a context
over_context : Setting → Context → Setting
over_context z g = record { given = z.given; implicit = z.implicit; shape = z.shape; simple = extended_over g z.simple; arguments = z.arguments; fills = z.fills }

over_has : (sig : PlainSignature) (z : Setting) (g : Context) → HasSignature sig z → HasSignature sig (over_context z g)
unfolding over_context
over_has sig z g has = record { given = has.given; simple = λ c a e. of_constant z.simple g c ∙ has.simple c a e; shapes = has.shapes }

pub formed_over : (sig : PlainSignature) (z : Setting) → HasSignature sig z → z.arguments ≡ families_of sig → (k : PlainKind) → WellFormedKind sig [] k → (g : Context)
    → SimplyFormedKind z.arguments (extended_over g z.simple) k
unfolding over_context
formed_over sig z has families k p g = kind_formed sig (over_context z g) (over_has sig z g has) families k [] p

-- a well-formed type without variables is the same after each renumbering
pub well_formed_closed : (sig : PlainSignature) (a : PlainType) → WellFormedType sig [] a → HasNoVariables a
well_formed_closed sig a p r = fixed_type sig [] r (λ i h. absurd (below_zero i h)) a p
  where
    below_zero : (i : ℕ) → i < 0 → ⊥
    below_zero i h = omega (arith, h)

pub setting_of_signature : SettingOfSignature
setting_of_signature sig metas formed = record {
  has = has;
  formed = λ c a e. record { formed = type_formed sig (setting_of sig metas) has refl a [] (constants c a e); simple = ap (option_map erase) e; closed = well_formed_closed sig a (constants c a e) };
  kinds = λ f k e. record { arguments = ap (option_map (map erase)) e; formed = λ g. formed_over sig (setting_of sig metas) has refl k (families f k e) g; stays = λ s keeps. kind_stays sig s keeps k [] (sym (under_zero s)) (families f k e) };
  no_variables = λ i. refl;
  takes = λ y s keeps types. record {
    constants = λ c a e. well_formed_closed sig a (constants c a e);
    fixed = λ c a e. record {
      head = Const c;
      kept = keeps c;
      carried = λ b q. subst (λ (x : PlainType). SubstitutedType s a x) (the_type (sym e ∙ q)) (closed_stays sig s (λ d b' p. keeps d) a (constants c a e));
      closed = well_formed_closed sig a (constants c a e);
    };
    formed = λ c a e. record { formed = type_formed sig (setting_of sig metas) has refl a [] (constants c a e); simple = ap (option_map erase) e; closed = well_formed_closed sig a (constants c a e) };
    no_implicit = λ k. refl;
    typed = types;
  };
}
  where
    families : (f : ℕ) (k : PlainKind) → family_kind sig f ≡ Some k → WellFormedKind sig [] k
    families = (entries_well_formed sig formed).0

    constants : (c : ℕ) (a : PlainType) → constant_type sig c ≡ Some a → WellFormedType sig [] a
    constants = (entries_well_formed sig formed).1

    the_type : {a b : PlainType} → Some a ≡ Some b → a ≡ b
    the_type e = cc

    has : HasSignature sig (setting_of sig metas)
    has = record { given = λ c a e. e; simple = λ c a e. ap (option_map erase) e; shapes = λ a. written_is a }
