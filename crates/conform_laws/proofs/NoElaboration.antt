-- A declaration with a misfit has no well-formed elaboration, since the tree of one that has conforms.
use Rattle.std.proofs.Common.{subst, sym}
use Rattle.std.specs.List.{slice_get}
use Rattle.std.specs.Prelude.{List, [], map, refl, suc, ◌∷◌, ◌≡◌}
use Rattle.clf_syntax.specs.Simple.{Assignment}
use Rattle.clf_syntax.specs.TypeTree.{PlainKind, PlainType, SimpleType, function}
use Rattle.clf_syntax.specs.declared.tree.Mode.{Mode}
use Rattle.use_contexts.specs.Context.{Context}
use Rattle.clf_sig.specs.Entry.{PlainClass, PlainSignature, constant_of, family_of}
use Rattle.clf_rules.specs.WellFormed.{WellFormedClass, WellFormedKind, WellFormedType}
use Rattle.typing_laws.specs.SimpleTyping.{families_of}
use Rattle.pattern_laws.specs.Instantiations.{closed}
use Rattle.elaboration_laws.specs.InFront.{ElaboratesType}
use Rattle.elaboration_laws.specs.ItemSetting.{item_constants}
use Rattle.celf_sugar.specs.PlainTree.{DesugaredTelescope, DesugaredType}
use Rattle.celf_elaboration.specs.Declarations.{declared_heads, with_binders}
use Rattle.celf_elaboration.specs.Names.{TypedVariable, types_read, with_simple_type}
use Rattle.reconstruction_laws.proofs.TreesFormed.{kind_tree_conforms, tree_conforms}
use Rattle.reconstruction_laws.specs.Fronts.{AllPersistent}
use Rattle.reconstruction_laws.specs.Trees.{ElaboratesKind, kind_with_binders}
use Rattle.celf_conform.specs.Fits.{KindFits, TypeFits}
use Rattle.celf_conform.specs.Known.{heads_in}
use Rattle.conform_laws.proofs.Heads.{heads_same}
use Rattle.conform_laws.proofs.Named.{KindNamed, formed_fits, formed_kind_fits}
use Rattle.conform_laws.proofs.ReadNamed.{read_kind_named, read_type_named}
use Rattle.conform_laws.specs.Laws.{ConstantTree, FamilyTree, MisfitHasNoElaboration, MisfitHasNoFamilyElaboration, item_known}

-- ---- what stands under the binders of a well-formed entry is well formed over them
under_binders : (sig : PlainSignature) (front : Context) (b : PlainType) → WellFormedType sig [] (with_binders front b) → WellFormedType sig front b
under_binders sig [] b p = p
under_binders sig (e ∷ front) b p = (under_binders sig front (function e.0 e.1 b) p).1

kind_under_binders : (sig : PlainSignature) (front : Context) (k : PlainKind) → AllPersistent front → WellFormedKind sig [] (kind_with_binders front k) → WellFormedKind sig front k
kind_under_binders sig [] k q p = p
kind_under_binders sig (e ∷ front) k q p = subst (λ (m : Mode). WellFormedKind sig ((m, e.1) ∷ front) k) (sym (q 0 e refl)) (kind_under_binders sig front (e.1 ∷ k) (λ i d j. q (suc i) d j) p).1

pub well_formed_type : (sig : PlainSignature) (front : Context) (b : PlainType) (c : PlainClass) → c ≡ constant_of (with_binders front b) → WellFormedClass sig c → WellFormedType sig front b
well_formed_type sig front b c e p = under_binders sig front b (subst (λ (v : PlainClass). WellFormedClass sig v) e p)

pub well_formed_kind : (sig : PlainSignature) (front : Context) (k : PlainKind) (c : PlainClass) → AllPersistent front → c ≡ family_of (kind_with_binders front k) → WellFormedClass sig c → WellFormedKind sig front k
well_formed_kind sig front k c q e p = kind_under_binders sig front k q (subst (λ (v : PlainClass). WellFormedClass sig v) e p)

-- ---- the tree of a well-formed elaboration conforms
module _ (sig : PlainSignature) (vs : List TypedVariable) (metas : List SimpleType) where
  abbrev b : Assignment
  b = heads_in (item_known sig (types_read vs) metas) []

  pub type_fits : (written : DesugaredType) (tree : PlainType) → ConstantTree sig vs metas written tree → (front : Context) (c : PlainType)
      → ElaboratesType sig (types_read vs) (slice_get metas) tree front c → WellFormedType sig front c → TypeFits (families_of sig) b tree
  type_fits written tree t front c elaboration formed = subst (λ (v : Assignment). TypeFits (families_of sig) v tree) (sym (heads_same sig (types_read vs) metas))
      (formed_fits (families_of sig) tree (closed (item_constants sig (types_read vs)) (slice_get metas))
      (read_type_named sig (declared_heads sig) (map with_simple_type vs) (λ x. refl) 0 [] written t.fillings tree t.is_tree.new t.is_tree.reading)
      (tree_conforms sig vs (slice_get metas) written t.fillings tree t.is_tree t.have_types t.read front c elaboration formed))

  pub kind_fits : (written : DesugaredTelescope) (tree : PlainKind) → FamilyTree sig vs metas written tree → (front : Context) (k : PlainKind)
      → ElaboratesKind sig (types_read vs) (slice_get metas) tree front k → WellFormedKind sig front k → KindFits (families_of sig) b tree
  kind_fits written tree t front k elaboration formed = subst (λ (v : Assignment). KindFits (families_of sig) v tree) (sym (heads_same sig (types_read vs) metas))
      (formed_kind_fits (families_of sig) tree (closed (item_constants sig (types_read vs)) (slice_get metas))
      (subst (λ (v : PlainKind). KindNamed v) (sym t.is_tree.is_kind)
      (read_kind_named sig (declared_heads sig) (map with_simple_type vs) (λ x. refl) 0 [] written t.fillings t.is_tree.arguments t.is_tree.new t.is_tree.reading))
      (kind_tree_conforms sig vs (slice_get metas) written t.fillings tree t.is_tree t.have_types t.read front k elaboration formed))

pub misfit_has_no_elaboration : MisfitHasNoElaboration
misfit_has_no_elaboration sig vs metas written tree t name n w misfit i e elaboration formed = misfit.conforms_not
    (type_fits sig vs metas written tree t elaboration.front elaboration.type elaboration.elaborates
    (well_formed_type sig elaboration.front elaboration.type e.class elaboration.class formed.0))

pub misfit_has_no_family_elaboration : MisfitHasNoFamilyElaboration
misfit_has_no_family_elaboration sig vs metas written tree t name n w misfit i e elaboration formed = misfit.conforms_not
    (kind_fits sig vs metas written tree t elaboration.front elaboration.kind elaboration.elaborates
    (well_formed_kind sig elaboration.front elaboration.kind e.class elaboration.persistent elaboration.class formed.0))
