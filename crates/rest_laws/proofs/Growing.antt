-- The rest of typed equations is their rest where there are more metavariables.
use Rattle.std.specs.Prelude.{true, ◌≡◌, List, Some, refl}
use Rattle.std.proofs.Common.{sym, ◌∙◌, inl, inr, ⊎_elim}
use Rattle.clf_syntax.specs.declared.tree.Head.TheVariants.{Const, Var, Meta}
use Rattle.clf_syntax.specs.Tree.{PlainObject, atomic}
use Rattle.clf_syntax.specs.TypeTree.{SimpleType, base}
use Rattle.clf_syntax.specs.Simple.{SimplyTyped}
use Rattle.hered_subst.proofs.SimpleTyping.{to_typed}
use Rattle.store_laws.proofs.Mentioned.{Ordinary, mentioned}
use Rattle.pattern_laws.specs.Instantiations.{Types, closed}
use Rattle.pattern_laws.specs.Equations.{Locals, scoped, Equation, TypedEquation}
use Rattle.pattern_laws.proofs.Instances.{scoped_meta}
use Rattle.unify_laws.specs.Problems.{Grows}
use Rattle.reach_laws.specs.Reach.{Reaches, Stuck}
use Rattle.reach_laws.specs.Rest.{ComesDown, down_joined, down_listed, down_lam, down_pair, down_neutral, part_itself, part_body, part_left, part_right, part_argument}
use Rattle.reach_laws.proofs.PartsUnder.{part_typed}
use Rattle.reach_laws.proofs.Rests.{typed_listed}
use Rattle.answer_laws.proofs.InTurn.{rests_in_turn}
use Rattle.unify_laws.proofs.Preserved.{equations_more}
use Rattle.solver_laws.proofs.Grown.{part_grown}
use Rattle.rest_laws.specs.Laws.{RestGrows, RestOfRest}
use Rattle.rest_laws.proofs.Fewer.{Fewer, Within, fewer_scoped, reaches_back, part_at_back}

one_type : {a b : SimpleType} → Some a ≡ Some b → a ≡ b
one_type e = cc

module _ (constants metas more : Types) (grows : Grows metas more) where
  fewer : Fewer (closed constants more) (closed constants metas)
  fewer = record { ordinary = ordinary; variables = (λ i. refl); same = (λ k u b e f. one_type (sym e ∙ grows k b f)) }
    where
      ordinary : Ordinary (closed constants more) (closed constants metas)
      ordinary (Const c) u n e = e
      ordinary (Var i) u n e = absurd (cc)
      ordinary (Meta m) u n e = absurd (cc)

  -- a typed object mentions only metavariables that have types
  within : (ls : Locals) (x : PlainObject) (a : SimpleType) → SimplyTyped (scoped ls (closed constants metas)) x a → Within (closed constants metas) x
  within ls x a p k e = let (b, h) = mentioned (to_typed true (scoped ls (closed constants metas)) x a p) k e in (b, sym (scoped_meta ls (closed constants metas) k) ∙ h)

  reaches : (ls : Locals) (a : SimpleType) (x y : PlainObject) → SimplyTyped (scoped ls (closed constants metas)) x a → SimplyTyped (scoped ls (closed constants metas)) y a → Reaches (closed constants more) ls a x y → Reaches (closed constants metas) ls a x y
  reaches ls a x y p q h = reaches_back (closed constants more) (closed constants metas) fewer ls a x y (within ls x a p) (within ls y a q) h

  stuck_grows : (e : Equation) → TypedEquation constants metas e → Stuck constants metas e → Stuck constants more e
  stuck_grows e t s = ⊎_elim
      (λ h. inl (record {
        flexible = h.flexible;
        not_left = (λ r. h.not_left (reaches e.locals e.type e.left e.right t.0 t.1 r));
        not_right = (λ r. h.not_right (reaches e.locals e.type e.right e.left t.1 t.0 r));
      }))
      (λ h. inr h) s

  down_grows : (left : List Equation) {e : Equation} → ComesDown constants metas left e → TypedEquation constants metas e → ComesDown constants more left e
  down_grows left (down_joined j) t = down_joined j
  down_grows left (down_listed l) t = down_listed l
  down_grows left (down_lam {ls = ls} {m = m} {b = b} {c = c} {d = d} {a = a} h) t = down_lam (down_grows left h (part_typed constants metas (part_body {ls = ls} {m = m} {b = b} {c = c} {d = d} {a = a} part_itself) t))
  down_grows left (down_pair {ls = ls} {l = l} {k = k} {r = r} {s = s} {c = c} {d = d} h g) t = down_pair
      (down_grows left h (part_typed constants metas (part_left {ls = ls} {l = l} {k = k} {c = c} r s d part_itself) t))
      (down_grows left g (part_typed constants metas (part_right {ls = ls} {r = r} {s = s} {d = d} l k c part_itself) t))
  down_grows left (down_neutral {ls = ls} {r = r} {n = n} {f = f} h g) t = down_neutral h (λ o u c q.
      let p = part_at_back q (scoped ls (closed constants metas)) (fewer_scoped ls (closed constants more) (closed constants metas) fewer) (λ k e. mentioned (to_typed true (scoped ls (closed constants metas)) (atomic r) (base f) t.0) k e) in
      down_grows left (g o u c p) (part_typed constants metas (part_argument {ls = ls} {o = o} {u = u} {c = c} r n f part_itself h p) t))

pub rest_grows : RestGrows
rest_grows constants metas more grows es left typed rest = record {
  down = (λ e l. down_grows constants metas more grows left (rest.down e l) (typed_listed constants metas e es l typed));
  met = (λ e l. let (d, k, p) = rest.met e l in (d, k, part_grown constants metas more grows p));
  stuck = (λ e l. let (d, k, p) = rest.met e l in stuck_grows constants metas more grows e (part_typed constants metas p (typed_listed constants metas d es k typed)) (rest.stuck e l));
  unjoined = rest.unjoined;
}

pub rest_of_rest : RestOfRest
rest_of_rest constants metas more grows s assigns es us left vs others ws final typed first under_es under_left under_others second =
    rests_in_turn constants more s assigns es us left others vs ws final (equations_more constants metas more grows es typed) (rest_grows constants metas more grows es left typed first) under_es under_left under_others second
