-- Elaborations of directives, whose equations are unified over the constants of a store.
use Rattle.std.proofs.Common.{ap, arith, subst, sym, ◌∙◌}
use Rattle.std.specs.List.{slice_get}
use Rattle.std.specs.Option.{option_map}
use Rattle.std.specs.Prelude.{Bool, None, [], false, if◌then◌else◌, length, nat_lt, refl, suc, true, zero, ℕ, ◌-◌, ◌∷◌, ◌≡◌}
use Rattle.clf_syntax.proofs.RenamingLaws.{ext}
use Rattle.clf_syntax.specs.Simple.{Families, erase}
use Rattle.subst_laws.specs.Environments.{Instantiation, instant}
use Rattle.clf_sig.specs.Core.{PlainCore, checks, declares, equates, queries, traces}
use Rattle.clf_sig.specs.Entry.{PlainClass, PlainSignature, constant_of, constant_type, family_of}
use Rattle.typing_laws.specs.SimpleTyping.{families_of}
use Rattle.pattern_laws.specs.Instantiations.{Instantiates, Types, closed}
use Rattle.elaboration_laws.proofs.General.{solutions_are_instances}
use Rattle.elaboration_laws.specs.General.{IsInstanceUnder}
use Rattle.elaboration_laws.specs.ItemSetting.{item_constants}
use Rattle.celf_explicit.specs.Explicit.{entry_of}
use Rattle.celf_elaboration.specs.Directives.{no_parameters}
use Rattle.celf_elaboration.specs.Items.{SubstitutedClass, SubstitutedCore, in_check, in_constant_class, in_declaration, in_equation, in_family_class, in_query, in_trace}
use Rattle.gathered_laws.specs.Formed.{ClassIsFormed, CoreIsFormed}
use Rattle.found_laws.proofs.Gathered.{none_given}
use Rattle.found_laws.proofs.StoreTypes.{instantiates_item, instantiates_store}
use Rattle.found_laws.specs.Directives.{ClashHasNoDirective, FoundDirectiveIsMostGeneral, JoinedClass, JoinedCore}
use Rattle.found_laws.specs.Laws.{constants_of}

-- without implicit variables the given constants are those of the signature
past : (sig : PlainSignature) (c : ℕ) → nat_lt c (length sig) ≡ false → constant_type sig c ≡ None
past [] c e = refl
past (d ∷ sig) zero e = absurd (never (length sig) e)
  where
    never : (n : ℕ) → nat_lt 0 (suc n) ≡ false → ⊥
    never n e = grind (arith, e)
past (d ∷ sig) (suc c) e = past sig c (less (length sig) e)
  where
    less : (n : ℕ) → nat_lt (suc c) (suc n) ≡ false → nat_lt c n ≡ false
    less n e = grind (arith, e)

given_alone : (sig : PlainSignature) (c : ℕ) → item_constants sig [] c ≡ option_map erase (constant_type sig c)
given_alone sig c = at (nat_lt c (length sig)) refl
  where
    at : (b : Bool) → nat_lt c (length sig) ≡ b → item_constants sig [] c ≡ option_map erase (constant_type sig c)
    at true e = ap (λ b. option_map erase (if b then constant_type sig c else slice_get [] (c - length sig))) e
    at false e = ap (λ b. option_map erase (if b then constant_type sig c else slice_get [] (c - length sig))) e ∙ sym (ap (option_map erase) (past sig c e))

module _ (sig : PlainSignature) where
  abbrev of_signature : Types
  of_signature c = option_map erase (constant_type sig c)

  same : item_constants sig [] ≡ of_signature
  same = ext (λ c. given_alone sig c)

  to_store : (metas : Types) (t : Instantiation) → Instantiates of_signature metas no_parameters t → Instantiates (constants_of sig []) metas no_parameters t
  to_store metas t p = instantiates_store sig [] metas no_parameters t (subst (λ (v : Types). Instantiates v metas no_parameters t) (sym same) p)

  of_store : (metas : Types) (t : Instantiation) → Instantiates (constants_of sig []) metas no_parameters t → Instantiates of_signature metas no_parameters t
  of_store metas t p = subst (λ (v : Types). Instantiates v metas no_parameters t) same (instantiates_item sig [] metas no_parameters t p)

-- what is an instance part by part
module _ (arguments : Families) (constants metas : Types) (s t v : Instantiation) (instance : IsInstanceUnder arguments constants metas s t v) where
  class_instance : {c d x : PlainClass} → ClassIsFormed arguments (closed constants metas) c → SubstitutedClass (instant s) c d → SubstitutedClass (instant t) c x
      → (y : PlainClass) × SubstitutedClass (instant v) d y × JoinedClass x y
  class_instance f (in_family_class {k = k} {l = l} p) (in_family_class {l = m} q) = let (y, a, j) = instance.kinds k l m f p q in (family_of y, in_family_class a, j)
  class_instance f (in_constant_class {a = a} {b = b} p) (in_constant_class {b = c} q) = let (y, i, j) = instance.types a b c f p q in (constant_of y, in_constant_class i, j)

  core_instance : {c d x : PlainCore} → CoreIsFormed arguments (closed constants metas) c → SubstitutedCore (instant s) c d → SubstitutedCore (instant t) c x
      → (y : PlainCore) × SubstitutedCore (instant v) d y × JoinedCore x y
  core_instance f (in_declaration {name = name} {n = n} p) (in_declaration q) = let (y, a, j) = class_instance f p q in (declares name (entry_of n y), in_declaration a, j)
  core_instance f (in_query {a = a} {b = b} p) (in_query {b = c} q) = let (y, i, j) = instance.types a b c f p q in (queries y, in_query i, j)
  core_instance f (in_trace {t = a} {u = b} p) (in_trace {u = c} q) = let (y, i, j) = instance.telescopes a b c f p q in (traces y, in_trace i, j)
  core_instance f (in_equation {m = m} {n = n} {x = m1} {y = n1} {a = a} {b = b} p q r) (in_equation {x = m2} {y = n2} {b = c} p' q' r') =
      let (x, i, j) = instance.objects m m1 m2 (erase a) f.1 p p' in let (y, i', j') = instance.objects n n1 n2 (erase a) f.2 q q' in let (z, k, l) = instance.types a b c f.0 r r' in
      (equates x y z, in_equation i i' k, (j, j', l))
  core_instance f (in_check {n = n} {x = n1} {a = a} {b = b} q r) (in_check {x = n2} {b = c} q' r') =
      let (y, i, j) = instance.objects n n1 n2 (erase a) f.1 q q' in let (z, k, l) = instance.types a b c f.0 r r' in (checks y z, in_check i k, (j, l))

pub clash_has_no_directive : ClashHasNoDirective
clash_has_no_directive sig metas tree q now under left right clashed elaborated elaboration well =
    clashed.none no_parameters elaboration.fills (to_store sig metas elaboration.fills elaboration.instantiates, none_given elaboration.fills, well.solved)

pub found_directive_is_most_general : FoundDirectiveIsMostGeneral
found_directive_is_most_general sig metas tree q formed now left unified s put_in core c elaborated elaboration well =
    let (v, inst, same) = solutions_are_instances (families_of sig) (constants_of sig []) metas q now s unified.keeps unified.adds.grows put_in no_parameters elaboration.fills
    (to_store sig metas elaboration.fills elaboration.instantiates) well.solved in
    let (y, i, j) = core_instance (families_of sig) (constants_of sig []) metas s elaboration.fills v same formed c elaboration.filling in
    record { fills = v; filled = y; instantiates = of_store sig now.metas v inst; filling = i; joined = j }
