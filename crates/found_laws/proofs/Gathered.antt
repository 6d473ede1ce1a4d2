-- Elaborations of a type of which these equations are gathered, where the equations are unified over the constants of a store.
use Rattle.std.specs.List.{slice_get}
use Rattle.std.specs.Prelude.{List, None, Some, true, ◌≡◌}
use Rattle.clf_syntax.specs.Simple.{SimplyFormed}
use Rattle.clf_syntax.specs.Tree.{PlainObject}
use Rattle.clf_syntax.specs.TypeTree.{PlainType}
use Rattle.use_contexts.specs.Context.{Context}
use Rattle.hered_subst.proofs.TypedResults.{result_is_typed}
use Rattle.hered_subst.specs.Substitution.{SubstitutedType}
use Rattle.subst_laws.specs.Environments.{Instantiation, instant}
use Rattle.clf_sig.specs.Entry.{PlainSignature}
use Rattle.clf_rules.specs.WellFormed.{WellFormedSignature, WellFormedType}
use Rattle.typing_laws.specs.SimpleTyping.{families_of}
use Rattle.pattern_laws.proofs.Instances.{keeps as instance_keeps}
use Rattle.pattern_laws.specs.Equations.{Equation, SolvesEach}
use Rattle.pattern_laws.specs.Instantiations.{Agrees, Types, closed, over}
use Rattle.unify_laws.specs.Problems.{HasNone, Problem}
use Rattle.reach_laws.specs.Unified.{IsPutIn, Unified}
use Rattle.elaboration_laws.proofs.General.{solutions_are_instances}
use Rattle.elaboration_laws.proofs.InFronts.{instance_in_front, well_formed_elaboration_solves}
use Rattle.elaboration_laws.specs.General.{fresh_problem}
use Rattle.elaboration_laws.specs.InFront.{ElaboratesType}
use Rattle.elaboration_laws.specs.ItemSetting.{item_constants}
use Rattle.elaboration_laws.specs.Laws.{IsGathered, IsInstanceOf}
use Rattle.gathered_laws.proofs.SameTypes.{store_types_the_same}
use Rattle.gathered_laws.specs.Formed.{store_constants}
use Rattle.found_laws.proofs.StoreTypes.{instantiates_item, instantiates_store}

pub none_given : (t : Instantiation) → Agrees t (λ m. None)
none_given t m s e = absurd (no_object e)
  where
    no_object : {o : PlainObject} → None ≡ Some o → ⊥
    no_object e = cc

module _ (sig : PlainSignature) (xs : List PlainType) (metas : Types) (signature : WellFormedSignature sig) (tree : PlainType) (q : List Equation) (gathered : IsGathered sig xs metas tree q)
    (front : Context) (b : PlainType) (elaboration : ElaboratesType sig xs metas tree front b) (formed : WellFormedType sig front b) where
  abbrev store : Types
  store = slice_get (store_constants sig xs)

  solves : SolvesEach (instant elaboration.fills) q
  solves = well_formed_elaboration_solves sig xs metas tree q signature gathered front b elaboration formed

  pub no_clash : HasNone store (fresh_problem metas q) → ⊥
  no_clash none = none elaboration.parameters elaboration.fills (instantiates_store sig xs metas elaboration.parameters elaboration.fills elaboration.instantiates, none_given elaboration.fills, solves)

  -- what is filled in is simply formed over the parameters
  filled_formed : SimplyFormed (families_of sig) (over (item_constants sig xs) elaboration.parameters) elaboration.filled
  filled_formed = ((result_is_typed true (families_of sig) (closed (item_constants sig xs) metas) (over (item_constants sig xs) elaboration.parameters) (instant elaboration.fills)
      (instance_keeps (item_constants sig xs) metas elaboration.parameters elaboration.fills elaboration.instantiates)).type tree elaboration.filled gathered.formed elaboration.filling).0

  pub most_general : (now : Problem) (left : List Equation) → Unified store (fresh_problem metas q) now left → (s : Instantiation) → IsPutIn store now.metas now.given s
      → (core : PlainType) → SubstitutedType (instant s) tree core → IsInstanceOf sig xs now.metas elaboration.parameters elaboration.put core b
  most_general now left unified s put_in core c =
      let (v, inst, same) = solutions_are_instances (families_of sig) store metas q now s unified.keeps unified.adds.grows put_in elaboration.parameters elaboration.fills
      (instantiates_store sig xs metas elaboration.parameters elaboration.fills elaboration.instantiates) solves in
      let (x, i, j) = same.types tree core elaboration.filled (((store_types_the_same sig xs metas).types (families_of sig) tree).0 gathered.formed) c elaboration.filling in
      let (d, k, l) = instance_in_front sig xs metas signature gathered.read elaboration.parameters elaboration.fills front elaboration.put elaboration.stands_for elaboration.instantiates elaboration.in_front
      core elaboration.filled x b filled_formed j elaboration.putting in
      record { fills = v; filled = x; elaborated = d; instantiates = instantiates_item sig xs now.metas elaboration.parameters v inst; filling = i; putting = k; joined = l }
