-- What an answer about one side says of an equation.
use Rattle.std.specs.Prelude.{ℕ, ◌≡◌, ◌<◌, Bool, true, List, [], ◌∷◌, length, map, reverse, None, refl}
use Rattle.std.proofs.Common.{ap, sym, subst, ◌∙◌, inl, inr, ⊎_elim}
use Rattle.std.proofs.lemmas.List.{length-map, length-reverse}
use Rattle.std.specs.List.{slice_get}
use Rattle.store_laws.specs.Additions.{meta_types}
use Rattle.clf_syntax.specs.declared.tree.Mode.{Mode}
use Rattle.clf_syntax.specs.declared.tree.Head.TheVariants.{Meta}
use Rattle.clf_syntax.specs.Tree.{PlainObject, lam, pair, atomic, PlainNeutral, head_of}
use Rattle.clf_syntax.specs.TypeTree.{SimpleType}
use Rattle.clf_syntax.specs.Simple.{SimplyTyped}
use Rattle.clf_syntax.specs.Plain.{plain_obj}
use Rattle.clf_syntax.specs.PlainSimple.{plain_simple, plain_simple_entry}
use Rattle.clf_syntax.specs.declared.tree.Simple.{Simple}
use Rattle.clf_syntax.specs.declared.tree.SimpleEntry.{SimpleEntry}
use Rattle.clf_syntax.specs.Occurs.{occurs}
use Rattle.clf_syntax.proofs.OccursLaws.{not_both}
use Rattle.hered_subst.specs.TypedEnvironments.{is_metavariable}
use Rattle.hered_subst.proofs.SimpleTyping.{to_typed}
use Rattle.trace_equal.specs.Exchange.{Joined, stop}
use Rattle.subst_laws.specs.Environments.{Instantiation, instant}
use Rattle.pattern_laws.specs.Instantiations.{Types, closed, Instantiates}
use Rattle.pattern_laws.specs.Equations.{Equation, Solves, scoped, listed_here}
use Rattle.pattern_laws.specs.Patterns.{Place, IsFinal, inverted}
use Rattle.pattern_laws.proofs.Instances.{scoped_in, scoped_meta}
use Rattle.pattern_laws.proofs.Places.{occurring}
use Rattle.unify_laws.specs.Problems.{Problem, HasNone}
use Rattle.unify_laws.proofs.Consequences.{of_listed}
use Rattle.unify_laws.proofs.Steps.{shape_heads}
use Rattle.reach_laws.specs.Reach.{Reaches}
use Rattle.reach_laws.specs.Rest.{GoesNoFurther}
use Rattle.reach_walk.specs.Answers.{IsClash, IsSame, IsPrune, IsAssign}
use Rattle.reach_walk.proofs.OneReading.{stands_final}
use Rattle.reach_walk.proofs.Premising.{pruning, clash_none, same_fewer}
use Rattle.reach_walk.proofs.Reaching.{head_of_pattern}
use Rattle.solver_laws.specs.Reduced.{Clashes}
use Rattle.solver_laws.specs.Steps.{Assigns, Narrows}
use Rattle.celf_constraints.specs.Equated.{plain_locals}
use Rattle.celf_constraints.specs.Reading.{plain_places, own_places}
use Rattle.celf_reach.specs.declared.answer.Reach.{Reach}
use Rattle.celf_reach.specs.declared.answer.Reach.TheVariants as reach
use Rattle.celf_reach.specs.Answered.{Answers, heads_of}
use Rattle.metavars.specs.Stored.{Stored, constants, additions}
use Rattle.celf_unify.specs.declared.side.Sided.{Sided}
use Rattle.celf_unify.specs.Gathered.{consts_in, metas_in}
use Rattle.celf_unify.specs.Sided.{HasMetaHead, LacksMetaHead, SaysLeft, IsSaid, posed, IsPosed}

-- the problem of one equation
abbrev pub alone : Types → Equation → Problem
alone metas e = record { metas = metas; given = λ m. None; equations = e ∷ [] }

-- What no problem with the equation solves is solved by nothing.
pub unsolved_alone : (constants metas : Types) (e : Equation) → HasNone constants (alone metas e) → (parameters : Types) (t : Instantiation) → Instantiates constants metas parameters t → Solves (instant t) e → ⊥
unsolved_alone constants metas e none parameters t i s = none parameters t (i, (λ m o k. absurd (cc)), (s, tt))

one_neutral : {r n : PlainNeutral} → atomic r ≡ atomic n → r ≡ n
one_neutral e = cc

no_lam : (n : PlainNeutral) (m : Mode) (b : PlainObject) → atomic n ≡ lam m b → ⊥
no_lam n m b e = cc

no_pair : (n : PlainNeutral) (l r : PlainObject) → atomic n ≡ pair l r → ⊥
no_pair n l r e = cc

-- The rules lead no further from a side whose head is a metavariable.
pub stops_left : (e : Equation) (m : ℕ) → HasMetaHead e.left m → (Joined e.left e.right → ⊥) → GoesNoFurther e
stops_left e m (n, i, h) u = record {
  unjoined = u;
  no_lams = λ k j b c f g. no_lam n k b (sym i ∙ f);
  no_pairs = λ l r k s f g. no_pair n l r (sym i ∙ f);
  no_neutrals = λ r k f g s. not_both (ap (λ q. is_metavariable (head_of q)) (one_neutral (sym f ∙ i)) ∙ ap is_metavariable h) (shape_heads s).0;
}

module _ (s : Stored) (e : Equation) (posed : IsPosed s e) where
  -- Only locals of the equation occur in the other side.
  pub within : (v : ℕ) → occurs v e.right ≡ true → v < length e.locals
  within v o = let (u, f) = occurring (to_typed true (scoped e.locals (closed (consts_in s) (metas_in s))) e.right e.type posed.typed.1) v o in (scoped_in (consts_in s) (metas_in s) (metas_in s) e.locals v u f).0

  pub says_nothing : LacksMetaHead e.left → Reaches (closed (consts_in s) (metas_in s)) e.locals e.type e.left e.right → ⊥
  says_nothing l r = l r.meta (r.neutral, r.is_neutral, head_of_pattern (scoped e.locals (closed (consts_in s) (metas_in s))) r.neutral r.meta r.places r.own e.type r.on_locals)

  final_type : (m : ℕ) → HasMetaHead e.left m → IsFinal e.type
  final_type m (n, i, h) = stands_final (scoped e.locals (closed (consts_in s) (metas_in s))) n e.type (subst (λ o. SimplyTyped (scoped e.locals (closed (consts_in s) (metas_in s))) o e.type) i posed.typed.0)

  clashing : (m : ℕ) → HasMetaHead e.left m → IsClash (closed (consts_in s) (metas_in s)) e.locals e.type e.left e.right → Clashes (consts_in s) (metas_in s) e
  clashing m h c = record {
    no_further = stops_left e m h posed.unjoined;
    unsolved = unsolved_alone (consts_in s) (metas_in s) e (clash_none (consts_in s) (metas_in s) e.locals e.type (λ m. None) (e ∷ []) e.left e.right (final_type m h) posed.typed.1 (of_listed (consts_in s) (alone (metas_in s) e) e listed_here) c);
  }

  assigning : (m : ℕ) (ps qs : List Place) (o : PlainObject) → IsAssign (closed (consts_in s) (metas_in s)) e.locals e.type e.left e.right m ps qs → o ≡ inverted (length e.locals) ps e.right → Assigns (consts_in s) (metas_in s) e m o
  assigning m ps qs o a i = record { neutral = a.pattern.neutral; places = ps; own = qs; is_left = a.pattern.is_neutral; on_locals = a.pattern.on_locals; lacks = a.pattern.lacks; unmentioned = a.free; covers = a.covers; solution = i }

  pruned : (k : ℕ) (bs : List Bool) → IsPrune (closed (consts_in s) (metas_in s)) e.locals e.type e.left e.right k bs → (zs : List Place) × (c : SimpleType) × Narrows (consts_in s) (metas_in s) e k bs zs c
  pruned k bs a = let p = pruning (consts_in s) (metas_in s) e.locals e.type e.left e.right k bs posed.typed.1 a in (
    p.places,
    p.result,
    record {
      type = p.type;
      final = p.final;
      fewer = p.fewer;
      why = inl (record {
        neutral = a.pattern.neutral;
        meta = a.meta;
        places = a.places;
        own = a.own;
        is_left = a.pattern.is_neutral;
        on_locals = a.pattern.on_locals;
        lacks = a.pattern.lacks;
        inner = p.inner;
        depth = p.depth;
        pruned = p.neutral;
        deeper = p.deeper;
        on_distinct = p.on_distinct;
        stands = p.stands;
        foreign = p.foreign;
      });
    },
  )

  differ : e.left ≡ e.right → ⊥
  differ h = posed.unjoined (subst (Joined e.left) h stop)

  aligned : (m : ℕ) (bs : List Bool) → HasMetaHead e.left m → IsSame (closed (consts_in s) (metas_in s)) e.locals e.type e.left e.right bs → (zs : List Place) × (c : SimpleType) × Narrows (consts_in s) (metas_in s) e m bs zs c
  aligned m bs (n, i, h) a = (
    a.places,
    e.type,
    subst (λ k. Narrows (consts_in s) (metas_in s) e k bs a.places e.type) number (record {
      type = sym (scoped_meta e.locals (closed (consts_in s) (metas_in s)) a.meta) ∙ a.pattern.on_locals.type;
      final = final_type m (n, i, h);
      fewer = same_fewer (consts_in s) (metas_in s) e.locals e.type e.left e.right bs a differ;
      why = inr (
        record {
          neutral = a.pattern.neutral;
          own = a.own;
          other = a.back.neutral;
          other_places = a.others;
          other_own = a.others_own;
          is_left = a.pattern.is_neutral;
          is_right = a.back.is_neutral;
          on_left = a.pattern.on_locals;
          on_right = a.back.on_locals;
          lacks_left = a.pattern.lacks;
          lacks_right = a.back.lacks;
          same = a.types;
          ended = λ u w f. ⊎_elim (λ k. inr k.1) (λ k. inl k.1) (a.keeps.2 u w f);
        },
        refl,
      );
    }),
  )
    where
      one_meta : {j k : ℕ} → Meta j ≡ Meta k → j ≡ k
      one_meta f = cc

      number : a.meta ≡ m
      number = one_meta (sym (head_of_pattern (scoped e.locals (closed (consts_in s) (metas_in s))) a.pattern.neutral a.meta a.places a.own e.type a.pattern.on_locals) ∙ ap head_of (one_neutral (sym a.pattern.is_neutral ∙ i)) ∙ h)

  pub says : (m : ℕ) (found : Reach) (r : Sided) → HasMetaHead e.left m → Answers (closed (consts_in s) (metas_in s)) e.locals e.type e.left e.right found → IsSaid m (length e.locals) e.right found r → SaysLeft (consts_in s) (metas_in s) e r
  says m reach.No r h a i = subst (SaysLeft (consts_in s) (metas_in s) e) (sym i) a
  says m reach.Clash r h a i = subst (SaysLeft (consts_in s) (metas_in s) e) (sym i) (clashing m h a)
  says m (reach.Same mask) r h a i = subst (SaysLeft (consts_in s) (metas_in s) e) (sym i) (aligned m mask.items h a)
  says m (reach.Prune k mask) r h a i = subst (SaysLeft (consts_in s) (metas_in s) e) (sym i) (pruned k mask.items a)
  says m (reach.Assign p) r h a (o, i, f) = subst (SaysLeft (consts_in s) (metas_in s) e) (sym i) (assigning p.meta (plain_places p) (own_places p) (plain_obj o) a f)

pub locals_counted : (locals : List SimpleEntry) → length (plain_locals locals) ≡ length locals
locals_counted locals = length-map (reverse locals) plain_simple_entry ∙ length-reverse locals

-- What is posed of the sides is asked of tables and answered, in memory.
pub says_posed : (s : Stored) (locals : List SimpleEntry) (t : SimpleType) (side other : PlainObject) (consts metas : List Simple) (m : ℕ) (found : Reach) (r : Sided) → IsPosed s (posed locals t side other) → HasMetaHead side m
    → map plain_simple consts ≡ constants s → map plain_simple metas ≡ meta_types (additions s)
    → (SimplyTyped (scoped (plain_locals locals) (heads_of consts metas)) side t → SimplyTyped (scoped (plain_locals locals) (heads_of consts metas)) other t → Answers (heads_of consts metas) (plain_locals locals) t side other found)
    → IsSaid m (length locals) other found r → SaysLeft (consts_in s) (metas_in s) (posed locals t side other) r
says_posed s locals t side other consts metas m found r p h e f answers said = says s (posed locals t side other) p m found r h
    (moved (answers' p.typed.0 p.typed.1)) (subst (λ n. IsSaid m n other found r) (sym (locals_counted locals)) said)
  where
    heads : heads_of consts metas ≡ closed (consts_in s) (metas_in s)
    heads = ap (λ cs. closed (slice_get cs) (slice_get (map plain_simple metas))) e ∙ ap (λ ts. closed (slice_get (constants s)) (slice_get ts)) f

    answers' : SimplyTyped (scoped (plain_locals locals) (closed (consts_in s) (metas_in s))) side t → SimplyTyped (scoped (plain_locals locals) (closed (consts_in s) (metas_in s))) other t → Answers (heads_of consts metas) (plain_locals locals) t side other found
    answers' x y = answers (subst (λ g. SimplyTyped (scoped (plain_locals locals) g) side t) (sym heads) x) (subst (λ g. SimplyTyped (scoped (plain_locals locals) g) other t) (sym heads) y)

    moved : Answers (heads_of consts metas) (plain_locals locals) t side other found → Answers (closed (consts_in s) (metas_in s)) (plain_locals locals) t side other found
    moved a = subst (λ g. Answers g (plain_locals locals) t side other found) heads a
