-- What is gathered of a scene's tree is typed; where the call gathers nothing, nothing is gathered, and there is a misfit.
use Rattle.std.specs.Prelude.{ℕ, zero, suc, ◌≡◌, List, [], ◌∷◌, map, Some, None, slice_get, refl}
use Rattle.std.proofs.Common.{sym, subst}
use Rattle.clf_syntax.specs.TypeTree.{PlainType, SimpleType}
use Rattle.clf_syntax.specs.Simple.{erase, Assignment, Families, SimplyFormed}
use Rattle.clf_sig.specs.Entry.{PlainSignature}
use Rattle.clf_rules.specs.WellFormed.{WellFormedSignature}
use Rattle.typing_laws.specs.SimpleTyping.{families_of}
use Rattle.store_laws.specs.Additions.{meta_types}
use Rattle.metavars.specs.Stored.{constants, additions}
use Rattle.pattern_laws.specs.Instantiations.{closed}
use Rattle.pattern_laws.specs.Equations.{Equation, TypedEquations}
use Rattle.elaboration_laws.specs.ItemSetting.{item_setting}
use Rattle.elaboration_laws.proofs.InFronts.{setting_formed, kinds}
use Rattle.celf_gather.specs.Holes.{GathersNothing}
use Rattle.celf_conform.specs.Known.{known_over}
use Rattle.celf_conform.specs.Conforms.{IsOver, JudgesCore}
use Rattle.gathered_laws.specs.Formed.{CoreIsFormed}
use Rattle.gathered_laws.specs.Laws.{TypesTheSame}
use Rattle.gathered_laws.proofs.CoresTyped.{gathered_core_is_typed}
use Rattle.gathered_laws.proofs.SameTypes.{store_types_the_same}
use Rattle.conform_laws.proofs.Whole.{gathers_nothing_misfits}
use Rattle.celf_solve.specs.declared.scene.Scene.{Scene}
use Rattle.celf_solve.specs.Scenes.{tree_of, types_of, metas_in, IsScene, Gathered, GathersNone, EachIsFormed, IsPosed}

each_formed : (arguments : Families) (g : Assignment) (as_ : List PlainType)
    → ((x : ℕ) (a : PlainType) → slice_get as_ x ≡ Some a → SimplyFormed arguments g a) → EachIsFormed arguments g as_
each_formed arguments g [] f = tt
each_formed arguments g (a ∷ as_) f = (f zero a refl, each_formed arguments g as_ (λ x b e. f (suc x) b e))

module _ (sig : PlainSignature) (s : Scene) (formed : WellFormedSignature sig) (scene : IsScene sig s) where
  same : TypesTheSame sig (types_of s) (metas_in s)
  same = store_types_the_same sig (types_of s) (metas_in s)

  pub posed : (q : List Equation) → Gathered sig s q → IsPosed sig s q
  posed q p = let (typed, core) = gathered_core_is_typed sig (types_of s) (metas_in s) formed scene.read (tree_of s) q scene.no_hole p in record {
    gathers = p;
    may_settle = record {
      fresh = scene.fresh;
      typed = subst (λ (cs : List SimpleType). TypedEquations (slice_get cs) (metas_in s) q) (sym scene.constants_are) ((same.equations q).0 typed);
      arguments = families_of sig;
      formed = subst (λ (cs : List SimpleType). CoreIsFormed (families_of sig) (closed (slice_get cs) (metas_in s)) (tree_of s)) (sym scene.constants_are)
          ((same.cores (families_of sig) (tree_of s)).0 core);
      types_formed = subst (λ (cs : List SimpleType). EachIsFormed (families_of sig) (closed (slice_get cs) (metas_in s)) (types_of s)) (sym scene.constants_are)
          (each_formed (families_of sig) _ (types_of s) (λ x a e. (same.types (families_of sig) a).0 (scene.read x a e).formed));
    };
  }

  pub none_gathered : GathersNothing sig (item_setting sig (types_of s) (metas_in s)) (tree_of s) → GathersNone sig s
  none_gathered h q p = h (setting_formed sig (types_of s) (metas_in s) formed scene.read) (kinds sig (types_of s) (metas_in s) formed scene.read) scene.no_hole q p

  -- What judges the tree finds something then.
  pub some_misfit : GathersNone sig s → JudgesCore (known_over sig (constants s.store) (meta_types (additions s.store))) (tree_of s) None → ⊥
  some_misfit none fits = gathers_nothing_misfits sig (types_of s) (meta_types (additions s.store)) formed scene.read (tree_of s) none
      (subst (λ (cs : List SimpleType). JudgesCore (known_over sig cs (meta_types (additions s.store))) (tree_of s) None) scene.constants_are fits)

  pub is_over : IsOver sig (constants s.store)
  is_over = (map erase (types_of s), scene.constants_are)
