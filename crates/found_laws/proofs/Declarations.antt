-- The laws for declarations of constants, and of families, whose kinds are looked at as types of functions.
use Rattle.std.proofs.Common.{subst, sym}
use Rattle.std.specs.List.{slice_get}
use Rattle.std.specs.Prelude.{List, [], map}
use Rattle.clf_syntax.specs.TypeTree.{PlainKind, PlainType, SimpleType}
use Rattle.hered_subst.specs.Substitution.{SubstitutedType}
use Rattle.clf_sig.specs.Core.{declares}
use Rattle.clf_sig.specs.Entry.{PlainSignature, constant_of, family_of}
use Rattle.joined_laws.specs.JoinedTypes.{JoinedType}
use Rattle.pattern_laws.specs.Equations.{Equation}
use Rattle.elaboration_laws.specs.Laws.{IsGathered}
use Rattle.celf_explicit.specs.Explicit.{entry_of}
use Rattle.celf_sugar.specs.PlainTree.{declare, of_constant, of_family}
use Rattle.celf_elaboration.specs.Declarations.{declared_heads}
use Rattle.celf_elaboration.specs.Items.{reads_constant_declaration, reads_family_declaration}
use Rattle.celf_elaboration.specs.Names.{TypedVariable, types_read, with_simple_type}
use Rattle.celf_gather.specs.Holes.{KindHasNoHole}
use Rattle.reconstruction_laws.proofs.KindsAsTypes.{joined_kind, stays_kind, type_formed, type_gathers, type_substituted, type_well_formed}
use Rattle.reconstruction_laws.specs.Trees.{as_type}
use Rattle.gathered_laws.proofs.CoresTyped.{gathered_core_is_typed}
use Rattle.gathered_laws.proofs.ReadingsWhole.{reading_has_no_hole}
use Rattle.conform_laws.proofs.NoElaboration.{well_formed_kind, well_formed_type}
use Rattle.found_laws.proofs.Gathered.{most_general, no_clash}
use Rattle.found_laws.specs.Laws.{ClashHasNoElaboration, ClashHasNoFamilyElaboration, ConstantGathers, FamilyGathers, FoundFamilyIsMostGeneral, FoundIsMostGeneral}

constant_gathered : (sig : PlainSignature) (vs : List TypedVariable) (metas : List SimpleType) (tree : PlainType) (q : List Equation) → ConstantGathers sig vs metas tree q
    → IsGathered sig (types_read vs) (slice_get metas) tree q
constant_gathered sig vs metas tree q g =
    let t = g.is_tree in
    let core = declares [] (entry_of 0 (constant_of tree)) in
    let whole = reading_has_no_hole sig (declared_heads sig) (map with_simple_type vs) (declare [] 0 (of_constant g.written)) t.fillings core 0 t.is_tree.new (reads_constant_declaration t.is_tree.reading) in
    let (typed, formed) = gathered_core_is_typed sig (types_read vs) (slice_get metas) g.signature t.read core q whole g.gathers in
    record { read = t.read; formed = formed; typed = typed; gathers = g.gathers }

family_gathered : (sig : PlainSignature) (vs : List TypedVariable) (metas : List SimpleType) (tree : PlainKind) (q : List Equation) → FamilyGathers sig vs metas tree q
    → IsGathered sig (types_read vs) (slice_get metas) (as_type tree) q
family_gathered sig vs metas tree q g =
    let t = g.is_tree in
    let core = declares [] (entry_of 0 (family_of tree)) in
    let whole = reading_has_no_hole sig (declared_heads sig) (map with_simple_type vs) (declare [] 0 (of_family g.written)) t.fillings _ 0 t.is_tree.new (reads_family_declaration t.is_tree.reading) in
    let (typed, formed) = gathered_core_is_typed sig (types_read vs) (slice_get metas) g.signature t.read core q (subst KindHasNoHole (sym t.is_tree.is_kind) whole) g.gathers in
    record { read = t.read; formed = type_formed _ _ tree formed; typed = typed; gathers = type_gathers sig _ [] [] tree q g.gathers }

pub clash_has_no_elaboration : ClashHasNoElaboration
clash_has_no_elaboration sig vs metas tree q g now under left right clashed n e elaboration formed =
    no_clash sig (types_read vs) (slice_get metas) g.signature tree q (constant_gathered sig vs metas tree q g) elaboration.front elaboration.type elaboration.elaborates
    (well_formed_type sig elaboration.front elaboration.type e.class elaboration.class formed.0) clashed.none

pub clash_has_no_family_elaboration : ClashHasNoFamilyElaboration
clash_has_no_family_elaboration sig vs metas tree q g now under left right clashed n e elaboration formed =
    no_clash sig (types_read vs) (slice_get metas) g.signature (as_type tree) q (family_gathered sig vs metas tree q g) elaboration.front (as_type elaboration.kind) elaboration.elaborates
    (type_well_formed sig elaboration.front elaboration.kind (well_formed_kind sig elaboration.front elaboration.kind e.class elaboration.persistent elaboration.class formed.0)) clashed.none

pub found_is_most_general : FoundIsMostGeneral
found_is_most_general sig vs metas tree q g now left unified s put_in core c front b elaboration formed =
    most_general sig (types_read vs) (slice_get metas) g.signature tree q (constant_gathered sig vs metas tree q g) front b elaboration formed now left unified s put_in core c

pub found_family_is_most_general : FoundFamilyIsMostGeneral
found_family_is_most_general sig vs metas tree q g now left unified s put_in core c front k elaboration formed =
    let i = most_general sig (types_read vs) (slice_get metas) g.signature (as_type tree) q (family_gathered sig vs metas tree q g) front (as_type k) elaboration
    (type_well_formed sig front k formed) now left unified s put_in (as_type core) (type_substituted c) in
    let a = stays_kind core i.filling in
    let b = stays_kind a.kind (subst (λ (v : PlainType). SubstitutedType elaboration.put v i.elaborated) a.same i.putting) in record {
      fills = i.fills;
      filled = a.kind;
      elaborated = b.kind;
      instantiates = i.instantiates;
      filling = a.becomes;
      putting = b.becomes;
      joined = joined_kind k b.kind (subst (λ (v : PlainType). JoinedType (as_type k) v) b.same i.joined);
    }
