-- What is gathered of a core without holes is simply typed, and the core is simply formed.
use Rattle.std.proofs.Common.{subst, sym}
use Rattle.std.specs.Prelude.{List, [], refl}
use Rattle.clf_syntax.specs.Simple.{SimplyFormed, SimplyTyped, erase}
use Rattle.clf_syntax.specs.Tree.{PlainObject}
use Rattle.clf_syntax.specs.TypeTree.{PlainType}
use Rattle.clf_sig.specs.Core.{PlainCore, checks, declares, equates, queries, traces}
use Rattle.clf_sig.specs.Entry.{PlainClass, PlainSignature, constant_of, family_of}
use Rattle.clf_rules.specs.WellFormed.{WellFormedSignature}
use Rattle.typing_laws.specs.SimpleTyping.{families_of}
use Rattle.pattern_laws.specs.Equations.{Equation}
use Rattle.pattern_laws.specs.Instantiations.{Types}
use Rattle.gathering.proofs.GatheredTyped.{gathered_is_typed}
use Rattle.gathering.specs.Complete.{HasNoHole}
use Rattle.gathering.specs.Gather.{Gathers}
use Rattle.gathering.specs.Setting.{EquationsTyped, Setting}
use Rattle.gathering.specs.Shape.{unmarked_shape}
use Rattle.elaboration_laws.proofs.InFronts.{kinds, setting_formed}
use Rattle.elaboration_laws.specs.ItemSetting.{ReadTypes, item_setting}
use Rattle.celf_elaboration.specs.Items.{ClassGathers, CoreGathers}
use Rattle.celf_gather.specs.Holes.{ClassHasNoHole, CoreHasNoHole}
use Rattle.gathered_laws.proofs.PartsTyped.{kind_typed, telescope_typed, type_typed, typed_both}
use Rattle.gathered_laws.specs.Formed.{ClassIsFormed, CoreIsFormed}
use Rattle.gathered_laws.specs.Laws.{GatheredCoreIsTyped}

module _ (sig : PlainSignature) (xs : List PlainType) (metas : Types) (formed_sig : WellFormedSignature sig) (read : ReadTypes sig xs metas) where
  abbrev z : Setting
  z = item_setting sig xs metas

  of_type : (a : PlainType) (q : List Equation) → CoreHasNoHole (queries a) → CoreGathers sig z (queries a) q → EquationsTyped z q × SimplyFormed (families_of sig) z.simple a
  of_type a q h p = type_typed sig z (setting_formed sig xs metas formed_sig read) (λ k. refl) (λ i. refl) (kinds sig xs metas formed_sig read) a [] [] q tt h p

  of_object : (n : PlainObject) (a : PlainType) (q : List Equation) → SimplyFormed (families_of sig) z.simple a → HasNoHole n → Gathers z [] [] n a (unmarked_shape a) q → EquationsTyped z q × SimplyTyped z.simple n (erase a)
  of_object n a q f h p = gathered_is_typed z (setting_formed sig xs metas formed_sig read) (λ k. refl) (λ i. refl) [] [] n a (unmarked_shape a) q tt f h p

  of_class : (c : PlainClass) (q : List Equation) → ClassHasNoHole c → ClassGathers sig z c q → EquationsTyped z q × ClassIsFormed (families_of sig) z.simple c
  of_class (family_of k) q h p = kind_typed sig z (setting_formed sig xs metas formed_sig read) (λ k. refl) (λ i. refl) (kinds sig xs metas formed_sig read) k [] [] q tt h p
  of_class (constant_of a) q h p = of_type a q h p

  of_core : (c : PlainCore) (q : List Equation) → CoreHasNoHole c → CoreGathers sig z c q → EquationsTyped z q × CoreIsFormed (families_of sig) z.simple c
  of_core (declares name e) q h p = of_class e.class q h p
  of_core (queries a) q h p = of_type a q h p
  of_core (traces s) q h p = telescope_typed sig z (setting_formed sig xs metas formed_sig read) (λ k. refl) (λ i. refl) (kinds sig xs metas formed_sig read) s [] [] q tt h p
  of_core (equates m n a) q h p =
      let (r1, f) = of_type a p.of_first h.0 p.first in let v = p.second in
      let (r2, r3) = of_object m a v.of_first f h.1 v.first in let (r4, r5) = of_object n a v.of_second f h.2 v.second in
      (subst (EquationsTyped z) (sym p.equations) (typed_both z p.of_first p.of_second r1 (subst (EquationsTyped z) (sym v.equations) (typed_both z v.of_first v.of_second r2 r4))), (f, r3, r5))
  of_core (checks n a) q h p =
      let (r1, f) = of_type a p.of_first h.0 p.first in let (r2, r3) = of_object n a p.of_second f h.1 p.second in
      (subst (EquationsTyped z) (sym p.equations) (typed_both z p.of_first p.of_second r1 r2), (f, r3))

pub gathered_core_is_typed : GatheredCoreIsTyped
gathered_core_is_typed sig xs metas formed_sig read core q h p = of_core sig xs metas formed_sig read core q h p
