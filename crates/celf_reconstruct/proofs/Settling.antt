-- What comes of a scene of an item, and why nothing comes of it.
use Rattle.std.proofs.Common.{ℕ, suc, ◌≡◌, ◌++◌, refl, sym, ap, subst, ◌∙◌, ⊎_elim, Option, Some, None, List, [], ◌∷◌, length, map, slice_get, Result, Ok, Err, IfOk, IfErr}
use Rattle.clf_syntax.specs.TypeTree.{PlainType, SimpleType, base, arrow, lax}
use Rattle.clf_syntax.specs.Simple.{erase, Assignment, SimplyFormed}
use Rattle.clf_syntax.specs.PlainTypes.{plain_ty}
use Rattle.clf_syntax.specs.declared.fault.OrWide.{OrWide}
use Rattle.clf_syntax.specs.declared.fault.OrWide.TheVariants.{Fault, NoMemory, TooFar}
use Rattle.clf_sig.specs.Entry.{PlainSignature, simple_types}
use Rattle.clf_sig.specs.Core.{plain_core}
use Rattle.clf_rules.specs.WellFormed.{WellFormedSignature}
use Rattle.typing_laws.specs.SimpleTyping.{families_of}
use Rattle.store_laws.specs.Additions.{meta_types}
use Rattle.metavars.specs.Stored.{Stored, constants, additions}
use Rattle.pattern_laws.specs.Instantiations.{Types, closed}
use Rattle.pattern_laws.specs.Equations.{Equation}
use Rattle.pattern_laws.specs.Patterns.{HasFinalResult, IsFinal, Place, arrows, masked}
use Rattle.unify_laws.specs.Problems.{Problem}
use Rattle.unify_laws.specs.Progress.{CameFrom}
use Rattle.solver_laws.specs.Solving.{problem_of}
use Rattle.elaboration_laws.specs.ItemSetting.{item_constants, ReadTypes}
use Rattle.gathered_laws.proofs.SameTypes.{store_types_the_same}
use Rattle.gathered_laws.proofs.CoresTyped.{gathered_core_is_typed}
use Rattle.filled_laws.proofs.NewFamilies.{traced_have_families}
use Rattle.celf_sugar.specs.PlainTree.{DesugaredBody, DesugaredItem}
use Rattle.celf_implicit.specs.declared.variable.Implicit.{Implicit}
use Rattle.celf_replies.specs.declared.reply.Why.{Why}
use Rattle.celf_replies.specs.Reply.{PlainSides, PlainMismatch, plain_why, ill_typed, unresolved, index_differs}
use Rattle.celf_solve.specs.declared.scene.Scene.{Scene}
use Rattle.celf_solve.specs.declared.scene.Found.{Found}
use Rattle.gathered_laws.specs.Formed.{CoreIsFormed}
use Rattle.celf_solve.specs.Laws.{AnswersGathered, IsFormedAfter}
use Rattle.celf_solve.specs.Scenes.{tree_of, types_of, metas_in, constants_in, start_of, EachIsFormed, IsScene, Gathered, AreLeft, IsMisfit}
use Rattle.clf_syntax.specs.Tree.{PlainObject}
use Rattle.reach_laws.specs.Unified.{Clashed}
use Rattle.celf_conform.specs.declared.misfit.Misfit.{Misfit}
use Rattle.celf_conform.specs.Known.{known_over}
use Rattle.celf_conform.specs.Conforms.{IsFirstMisfit}
use Rattle.celf_reconstruct.specs.Posed.{told, sides_of, Unsettled, no_fit, no_solution, stuck}
use Rattle.celf_solve.specs.Settled.{constants_of}
use Rattle.celf_solve.proofs.After.{settled_is_formed}
use Rattle.celf_solve.proofs.Answers.{posed_and_settled}
use Rattle.celf_reconstruct.specs.Reconstructed.{Declines, unsettled, IsFound}
use Rattle.celf_reconstruct.specs.Steps.{Declined, HasScene, HasFound, IsFormedIn, ComesOf, UnsettledScene, heads_of_store}

-- ---- simple types

each-read : (sig : PlainSignature) (g : Assignment) (xs : List PlainType) → ((x : ℕ) (a : PlainType) → slice_get xs x ≡ Some a → SimplyFormed (families_of sig) g a) → EachIsFormed (families_of sig) g xs
each-read sig g [] read = tt
each-read sig g (a ∷ xs) read = (read 0 a refl, each-read sig g xs (λ x b e. read (suc x) b e))

-- ---- results of metavariables

final-arrows : (ps : List Place) (c : SimpleType) → HasFinalResult c → HasFinalResult (arrows ps c)
final-arrows [] c p = p
final-arrows (q ∷ ps) c p = final-arrows ps (arrow q.0 q.1 c) p

is-final : (c : SimpleType) → IsFinal c → HasFinalResult c
is-final c p = ⊎_elim (λ f. subst HasFinalResult (sym f.1) tt) (λ s. subst HasFinalResult (sym s.1) tt) p

-- ---- what comes of a scene

module _ (sig : PlainSignature) (formed : WellFormedSignature sig) (body : DesugaredBody) (xs : List Implicit) (unnamed : ℕ) (scene : Scene) (h : HasScene sig body xs unnamed scene)
    (f : Found) (c : ComesOf sig scene f) where
  abbrev now : Problem
  now = problem_of (additions f.store) c.equations

  same : constants_in scene ≡ constants_of sig (types_of scene)
  same = ap (λ (cs : List SimpleType). let get : Types = slice_get cs in get) h.is_scene.constants_are

  tree_formed : CoreIsFormed (families_of sig) (closed (constants_in scene) (metas_in scene)) (tree_of scene)
  tree_formed = subst (λ (cs : Types). CoreIsFormed (families_of sig) (closed cs (metas_in scene)) (tree_of scene)) (sym same)
      (((store_types_the_same sig (types_of scene) (metas_in scene)).cores (families_of sig) (tree_of scene)).0
      (gathered_core_is_typed sig (types_of scene) (metas_in scene) formed h.is_scene.read (tree_of scene) c.equations h.is_scene.no_hole c.posed.gathers).1)

  types_formed : EachIsFormed (families_of sig) (closed (constants_in scene) (metas_in scene)) (types_of scene)
  types_formed = subst (λ (cs : Types). EachIsFormed (families_of sig) (closed cs (metas_in scene)) (types_of scene)) (sym same)
      (each-read sig (closed (constants_of sig (types_of scene)) (metas_in scene)) (types_of scene)
      (λ x a e. ((store_types_the_same sig (types_of scene) (metas_in scene)).types (families_of sig) a).0 (h.is_scene.read x a e).formed))

  after : IsFormedAfter (families_of sig) (constants_in scene) (types_of scene) now (plain_core f.core) (map plain_ty f.types)
  after = settled_is_formed (families_of sig) (constants_in scene) (metas_in scene) c.equations (tree_of scene) (types_of scene) now (plain_core f.core) (map plain_ty f.types) c.settled.settles tree_formed types_formed

  in_store : closed (constants_in scene) (slice_get (meta_types (additions f.store))) ≡ heads_of_store f.store
  in_store = ap (λ (cs : List SimpleType). closed (slice_get cs) (slice_get (meta_types (additions f.store)))) (sym c.settled.same_constants)

  final : (m : ℕ) (a : SimpleType) → slice_get (meta_types (additions f.store)) m ≡ Some a → HasFinalResult a
  final m a e = ⊎_elim
      (λ there. let (b, k) = there in subst HasFinalResult (one (c.settled.settles.unified.adds.grows m b k) e) (h.is_scene.fresh.final m b k))
      (λ came. let (j, k) = came in subst HasFinalResult (one k.newer e) (final-arrows (masked 0 k.mask k.places) k.result (is-final k.result k.final)))
      (c.settled.settles.unified.traced m a e)
    where
      one : {o : Option SimpleType} {b c : SimpleType} → o ≡ Some b → o ≡ Some c → b ≡ c
      one p q = cc

  pub found_of : HasFound sig body xs unnamed f
  found_of = record {
    vs = h.vs;
    variables = h.variables;
    found = record {
      before = types_of scene;
      metas = metas_in scene;
      tree = tree_of scene;
      posed = h.posed;
      now = now;
      comes = (posed_and_settled sig scene c.equations h.is_scene c.posed.gathers).found f c.settled;
    };
    metas = refl;
    formed_in = record {
      constants_are = c.settled.same_constants ∙ h.is_scene.constants_are ∙ ap (λ (us : List SimpleType). simple_types sig ++ us) (sym after.erased);
      formed = subst (λ (k : Assignment). CoreIsFormed (families_of sig) k (plain_core f.core)) in_store after.tree;
      each = subst (λ (k : Assignment). EachIsFormed (families_of sig) k (map plain_ty f.types)) in_store after.each;
      final = final;
      families = traced_have_families sig (metas_in scene) now.metas now.given c.settled.settles.unified.traced c.settled.settles.unified.adds.grows h.families;
    };
  }

-- ---- why nothing does

pub declined_of : (sig : PlainSignature) (item : DesugaredItem) (xs : List Implicit) (unnamed : ℕ) (scene : Scene) (fault : OrWide Why)
    → UnsettledScene sig scene fault → HasScene sig item.body xs unnamed scene → Declined sig item fault
declined_of sig item xs unnamed scene (Fault why) u h = unsettled h.posed u
declined_of sig item xs unnamed scene NoMemory u h = tt
declined_of sig item xs unnamed scene (TooFar w) u h = u

-- ---- the answers of solving

module _ (sig : PlainSignature) (scene : Scene) (is : IsScene sig scene) where
  pub misfit_of : (w : Misfit) (m : PlainMismatch) → IsMisfit sig scene w → m ≡ told w → Unsettled sig (types_of scene) (metas_in scene) (tree_of scene) (ill_typed m)
  misfit_of w m h e = subst (λ k. Unsettled sig (types_of scene) (metas_in scene) (tree_of scene) (ill_typed k)) (sym e) (no_fit (record {
    nothing = h.nothing;
    metavariables = meta_types (additions scene.store);
    they = λ k. refl;
    first = subst (λ (cs : List SimpleType). IsFirstMisfit (known_over sig cs (meta_types (additions scene.store))) (tree_of scene) w) is.constants_are h.first;
  }))

  module _ (q : List Equation) (gathers : Gathered sig scene q) where
    answers : AnswersGathered sig scene q
    answers = posed_and_settled sig scene q is gathers

    pub stuck-of : (left : List Equation) (ss : List PlainSides) → AreLeft scene q left → ss ≡ map sides_of left → Unsettled sig (types_of scene) (metas_in scene) (tree_of scene) (unresolved ss)
    stuck-of left ss h e = subst (λ k. Unsettled sig (types_of scene) (metas_in scene) (tree_of scene) (unresolved k)) (sym e) (stuck (answers.stuck left h))

    pub clash-of : (now : Problem) (under : ℕ) (left right : PlainObject) (s : PlainSides) → Clashed (constants_in scene) (start_of scene q) now under left right
        → s ≡ record { under = under; left = left; right = right } → Unsettled sig (types_of scene) (metas_in scene) (tree_of scene) (ill_typed (index_differs s))
    clash-of now under left right s h e = subst (λ k. Unsettled sig (types_of scene) (metas_in scene) (tree_of scene) (ill_typed (index_differs k))) (sym e) (no_solution (answers.clash now under left right h))

pub found_so : (sig : PlainSignature) → WellFormedSignature sig → (scene : Scene) (r : Result Found (OrWide Why)) → IfOk r (ComesOf sig scene)
    → IfOk r (λ f. (body : DesugaredBody) (xs : List Implicit) (unnamed : ℕ) → HasScene sig body xs unnamed scene → HasFound sig body xs unnamed f)
found_so sig formed scene (Ok f) c = λ body xs unnamed h. found_of sig formed body xs unnamed scene h f c
found_so sig formed scene (Err e) c = tt

pub declined_so : (sig : PlainSignature) (scene : Scene) (r : Result Found (OrWide Why)) → IfErr r (UnsettledScene sig scene)
    → IfErr r (λ fault. (item : DesugaredItem) (xs : List Implicit) (unnamed : ℕ) → HasScene sig item.body xs unnamed scene → Declined sig item fault)
declined_so sig scene (Ok f) c = tt
declined_so sig scene (Err fault) c = λ item xs unnamed h. declined_of sig item xs unnamed scene fault c h
