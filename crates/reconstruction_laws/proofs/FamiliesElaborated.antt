-- Elaborations of families: the laws of those of constants, at the types of functions that kinds are.
use Rattle.std.specs.Prelude.{List, [], refl}
use Rattle.std.proofs.Common.{subst}
use Rattle.clf_syntax.specs.TypeTree.{PlainKind, PlainType}
use Rattle.hered_subst.specs.Substitution.{SubstitutedType}
use Rattle.joined_laws.specs.JoinedTypes.{JoinedType}
use Rattle.pattern_laws.specs.Equations.{Equation}
use Rattle.pattern_laws.specs.Instantiations.{Types, closed}
use Rattle.clf_sig.specs.Entry.{PlainSignature}
use Rattle.typing_laws.specs.SimpleTyping.{families_of}
use Rattle.celf_elaboration.specs.Names.{types_read}
use Rattle.elaboration_laws.proofs.InFronts.{elaborations_are_instances, well_formed_elaboration_solves}
use Rattle.elaboration_laws.specs.ItemSetting.{item_constants, item_setting}
use Rattle.elaboration_laws.specs.Laws.{IsGathered}
use Rattle.reconstruction_laws.specs.Laws.{FamilyElaborationSolves, FamilyElaborationsAreInstances, FamilyIsElaboration, KindIsGathered}
use Rattle.reconstruction_laws.specs.Trees.{as_type}
use Rattle.reconstruction_laws.proofs.Fronted.{elaborates}
use Rattle.reconstruction_laws.proofs.KindsAsTypes.{joined_kind, stays_kind, type_formed, type_gathers, type_substituted, type_well_formed}

gathered_as_type : {sig : PlainSignature} {xs : List PlainType} {metas : Types} {tree : PlainKind} {q : List Equation} → KindIsGathered sig xs metas tree q → IsGathered sig xs metas (as_type tree) q
gathered_as_type {sig = sig} {xs = xs} {metas = metas} {tree = tree} {q = q} p = record {
  read = p.read;
  formed = type_formed (families_of sig) (closed (item_constants sig xs) metas) tree p.formed;
  typed = p.typed;
  gathers = type_gathers sig (item_setting sig xs metas) [] [] tree q p.gathers;
}

pub family_is_elaboration : FamilyIsElaboration
family_is_elaboration sig vs metas tree read formed unnamed final types all front e binder_of fronts persistent core elaborated p q written = record {
  front = front;
  kind = elaborated;
  elaborates = elaborates sig (types_read vs) metas read unnamed final types all front e binder_of fronts (as_type tree) (as_type core) (as_type elaborated)
      (type_formed (families_of sig) (closed (item_constants sig (types_read vs)) metas) tree formed) (type_substituted p) (type_substituted q);
  persistent = persistent;
  implicit = refl;
  class = refl;
}

pub family_elaboration_solves : FamilyElaborationSolves
family_elaboration_solves sig xs metas tree q formed_sig gathered front k elaboration r =
    well_formed_elaboration_solves sig xs metas (as_type tree) q formed_sig (gathered_as_type gathered) front (as_type k) elaboration (type_well_formed sig front k r)

pub family_elaborations_are_instances : FamilyElaborationsAreInstances
family_elaborations_are_instances sig xs metas tree core q formed_sig gathered now s keeps grows put_in c front k elaboration r =
    let i = elaborations_are_instances sig xs metas (as_type tree) (as_type core) q formed_sig (gathered_as_type gathered) now s keeps grows put_in (type_substituted c) front (as_type k) elaboration (type_well_formed sig front k r) in
    let a = stays_kind core i.filling in
    let b = stays_kind a.kind (subst (λ (v : PlainType). SubstitutedType elaboration.put v i.elaborated) a.same i.putting) in record {
      fills = i.fills;
      filled = a.kind;
      elaborated = b.kind;
      instantiates = i.instantiates;
      filling = a.becomes;
      putting = b.becomes;
      joined = joined_kind k b.kind (subst (λ (v : PlainType). JoinedType (as_type k) v) b.same i.joined);
    }
