-- A step goes on with the state of the work.
use Rattle.std.specs.Prelude.{ℕ, Bool, false, ◌≡◌, ◌<◌, ◌⊎◌, List, length, Some, None}
use Rattle.std.proofs.Common.{ap, sym, subst, ◌∙◌, inl, inr, ⊎_elim}
use Rattle.clf_syntax.specs.declared.tree.Head.TheVariants.{Meta}
use Rattle.clf_syntax.specs.Tree.{PlainObject, atomic, head_alone}
use Rattle.clf_syntax.specs.TypeTree.{SimpleType}
use Rattle.clf_syntax.specs.Simple.{SimplyTyped}
use Rattle.subst_laws.specs.Environments.{Instantiation, ComposedInstantiation}
use Rattle.store_laws.specs.Mentions.{mentions}
use Rattle.store_laws.proofs.Numbers.{number_cases, set_there, set_else}
use Rattle.store_laws.proofs.Closing.{Gives}
use Rattle.store_laws.specs.Additions.{set}
use Rattle.pattern_laws.specs.Instantiations.{Types, closed}
use Rattle.pattern_laws.specs.Equations.{Equation, TypedEquation}
use Rattle.pattern_laws.specs.Patterns.{Place, on, lams, arrows, masked, inverted, local_at}
use Rattle.inversion_laws.proofs.Cores.{within}
use Rattle.unify_laws.specs.Problems.{Problem, Consequence, Grows}
use Rattle.unify_laws.specs.Narrowing.{narrowed_by}
use Rattle.unify_laws.proofs.Consequences.{of_flipped}
use Rattle.unify_laws.proofs.Preserved.{progress_assign, progress_narrow, grows_new}
use Rattle.reach_laws.specs.Rest.{IsAssignment}
use Rattle.reach_laws.specs.Sources.{FromPlaces}
use Rattle.reach_laws.specs.Unified.{IsPutIn}
use Rattle.solver_laws.specs.Solving.{Solving, InHand, FromEarlierSide, unsolved_types}
use Rattle.solver_laws.specs.Steps.{flipped, Assigns, Narrows, AssignsEither, NarrowsEither}
use Rattle.solver_laws.proofs.Grown.{gives_grown, put_in_grown, from_grown}
use Rattle.solver_laws.proofs.Open.{closed_tree}
use Rattle.solver_laws.proofs.Hands.{solving_gives, hand_open, hand_follows}
use Rattle.solver_laws.proofs.Following.{following, following_put_in, following_after, from_following}
use Rattle.solver_laws.proofs.Mentioning.{older_silent}
use Rattle.solver_laws.proofs.StepFacts.{assigned_unsolved, assigned_type, assigned_silent, assigned_open, assigned_keeps, narrowed_unsolved, narrowed_keeps, narrowed_open}

one_object : {a b : PlainObject} → Some a ≡ Some b → a ≡ b
one_object e = cc

abbrev pub problem : Types → Instantiation → List Equation → Problem
problem metas given es = record { metas = metas; given = given; equations = es }

-- A state goes on to another one, and what is in hand goes along.
pub record Goes (constants : Types) (start now : Problem) (s : Instantiation) : Type 0 where
  pub then : Instantiation
  pub solving : Solving constants start now then
  pub earlier : IsAssignment constants now.metas s
  pub both : ComposedInstantiation (closed constants now.metas) s then then

module _ (constants : Types) (start : Problem) (metas : Types) (given : Instantiation) (es : List Equation) (s : Instantiation) (solving : Solving constants start (problem metas given es) s) where
  gives : Gives (closed constants metas) s
  gives = solving_gives constants start (problem metas given es) s solving

  module _ (e : Equation) (hand : InHand constants start (problem metas given es) s e) where
    -- d is the equation in hand, or it with its sides changed about.
    assigning : (d : Equation) → TypedEquation constants (unsolved_types metas given) d → Consequence constants (problem metas given es) d → (m : ℕ) (o : PlainObject) (h : Assigns constants metas d m o)
        → mentions m o ≡ false → ((i v : ℕ) → local_at h.places i ≡ Some v → v < length e.locals) → (o ≡ inverted (length e.locals) h.places e.left) ⊎ (o ≡ inverted (length e.locals) h.places e.right)
        → Goes constants start (problem metas (set m o given) es) s
    assigning d typed con m o h free inside side = record {
      then = next;
      solving = record {
        progress = progress_assign constants start metas given es m o (arrows h.places d.type) solving.progress unsolved type_of closed_o (assigned_keeps constants metas given d typed es m o h con);
        put_in = following_put_in constants metas given s solving.put_in gives solving.progress.typed.1 m o (arrows h.places d.type) unsolved type_of open_o free;
        sources = sources;
      };
      earlier = solving.put_in.assigns;
      both = after;
    }
      where
        unsolved : given m ≡ None
        unsolved = assigned_unsolved constants metas given d typed m o h

        type_of : metas m ≡ Some (arrows h.places d.type)
        type_of = assigned_type constants metas given d typed m o h

        open_o : SimplyTyped (closed constants (unsolved_types metas given)) o (arrows h.places d.type)
        open_o = assigned_open constants metas given d typed m o h

        closed_o : SimplyTyped (closed constants metas) o (arrows h.places d.type)
        closed_o = closed_tree constants metas given o (arrows h.places d.type) open_o

        next : Instantiation
        next = following constants metas given s solving.put_in gives solving.progress.typed.1 m o (arrows h.places d.type) unsolved type_of open_o free

        after : ComposedInstantiation (closed constants metas) s next next
        after = following_after constants metas given s solving.put_in gives solving.progress.typed.1 m o (arrows h.places d.type) unsolved type_of open_o free

        made : FromEarlierSide constants metas start.equations next o
        made = record {
          from = record {
            earlier = s;
            assigns = solving.put_in.assigns;
            absorbed = after;
            equation = hand.equation;
            after = hand.after;
            part = e;
            listed = hand.listed;
            is_under = hand.is_under;
            is_part = hand.is_part;
            places = h.places;
            within = inside;
            solution = side;
          };
          gives = gives;
        }

        sources : (i : ℕ) (u : PlainObject) → start.given i ≡ None → set m o given i ≡ Some u → FromPlaces u ⊎ FromEarlierSide constants metas start.equations next u
        sources i u n f = ⊎_elim
            (λ q. inr (subst (FromEarlierSide constants metas start.equations next) (one_object (sym (set_there m o given) ∙ sym (ap (set m o given) q) ∙ f)) made))
            (λ q. ⊎_elim (λ p. inl p) (λ p. inr (from_following constants metas given s solving.put_in gives solving.progress.typed.1 m o (arrows h.places d.type) unsolved type_of open_o free start.equations u p))
            (solving.sources i u n (sym (set_else m i o given q) ∙ f)))
            (number_cases i m)

    pub solving_assigns : (m : ℕ) (o : PlainObject) → AssignsEither constants metas e m o → Goes constants start (problem metas (set m o given) es) s
    solving_assigns m o c = ⊎_elim
        (λ h. assigning e typed con m o h (assigned_silent constants metas given e typed m o h m h.unmentioned) (within constants metas e.locals h.places h.own h.on_locals.places) (inr h.solution))
        (λ h. assigning (flipped e) (typed.1, typed.0) (of_flipped constants (problem metas given es) e.locals e.left e.right e.type con) m o h
        (assigned_silent constants metas given (flipped e) (typed.1, typed.0) m o h m h.unmentioned) (within constants metas e.locals h.places h.own h.on_locals.places) (inl h.solution)) c
      where
        typed : TypedEquation constants (unsolved_types metas given) e
        typed = hand_open constants start (problem metas given es) s solving e hand

        con : Consequence constants (problem metas given es) e
        con = hand_follows constants start (problem metas given es) s solving e hand

    narrowing : (d : Equation) → TypedEquation constants (unsolved_types metas given) d → Consequence constants (problem metas given es) d → (k n : ℕ) (mask : List Bool) (zs : List Place) (c : SimpleType)
        → Narrows constants metas d k mask zs c → metas n ≡ None → k < n → Goes constants start (narrowed_by metas given es k n mask zs c) s
    narrowing d typed con k n mask zs c h new less = record {
      then = next;
      solving = record {
        progress = progress_narrow constants start metas given es k n mask zs c solving.progress unsolved h.type new less h.final (narrowed_keeps constants metas given d typed es k n mask zs c h solving.progress.typed new con);
        put_in = following_put_in constants more given s all gives_more typed_more k solution (arrows zs c) unsolved type_more open_solution free;
        sources = sources;
      };
      earlier = all.assigns;
      both = following_after constants more given s all gives_more typed_more k solution (arrows zs c) unsolved type_more open_solution free;
    }
      where
        more : Types
        more = set n (arrows (masked 0 mask zs) c) metas

        grows : Grows metas more
        grows = grows_new metas n (arrows (masked 0 mask zs) c) new

        solution : PlainObject
        solution = lams zs (atomic (on (masked 0 mask zs) (head_alone (Meta n))))

        unsolved : given k ≡ None
        unsolved = narrowed_unsolved constants metas given d typed k mask zs c h

        type_more : more k ≡ Some (arrows zs c)
        type_more = grows k (arrows zs c) h.type

        gives_more : Gives (closed constants more) s
        gives_more = gives_grown constants metas more grows s gives

        typed_more : Gives (closed constants more) given
        typed_more = gives_grown constants metas more grows given solving.progress.typed.1

        all : IsPutIn constants more given s
        all = put_in_grown constants metas more grows given s solving.put_in gives

        open_solution : SimplyTyped (closed constants (unsolved_types more given)) solution (arrows zs c)
        open_solution = narrowed_open constants metas given solving.progress.typed.1 n new mask zs c h.final

        free : mentions k solution ≡ false
        free = older_silent k n zs (masked 0 mask zs) less

        next : Instantiation
        next = following constants more given s all gives_more typed_more k solution (arrows zs c) unsolved type_more open_solution free

        sources : (i : ℕ) (u : PlainObject) → start.given i ≡ None → set k solution given i ≡ Some u → FromPlaces u ⊎ FromEarlierSide constants more start.equations next u
        sources i u g f = ⊎_elim
            (λ q. inl (record { number = n; places = zs; mask = mask; solution = one_object (sym f ∙ ap (set k solution given) q ∙ set_there k solution given) }))
            (λ q. ⊎_elim (λ p. inl p) (λ p. inr (from_following constants more given s all gives_more typed_more k solution (arrows zs c) unsolved type_more open_solution free start.equations u
            (from_grown constants metas more grows start.equations s u p)))
            (solving.sources i u g (sym (set_else k i solution given q) ∙ f)))
            (number_cases i k)

    pub solving_narrows : (k n : ℕ) (mask : List Bool) (zs : List Place) (c : SimpleType) → NarrowsEither constants metas e k mask zs c → metas n ≡ None → k < n → Goes constants start (narrowed_by metas given es k n mask zs c) s
    solving_narrows k n mask zs c h new less = ⊎_elim
        (λ p. narrowing e typed con k n mask zs c p new less)
        (λ p. narrowing (flipped e) (typed.1, typed.0) (of_flipped constants (problem metas given es) e.locals e.left e.right e.type con) k n mask zs c p new less) h
      where
        typed : TypedEquation constants (unsolved_types metas given) e
        typed = hand_open constants start (problem metas given es) s solving e hand

        con : Consequence constants (problem metas given es) e
        con = hand_follows constants start (problem metas given es) s solving e hand
