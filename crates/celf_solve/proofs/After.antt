-- What is simply typed stays so with all solutions put in.
use Rattle.std.specs.Prelude.{◌≡◌, true, List, [], ◌∷◌, map, refl}
use Rattle.std.proofs.Common.{ap, ◌∙◌}
use Rattle.clf_syntax.specs.declared.tree.Head.TheVariants.{Const, Var, Meta}
use Rattle.clf_syntax.specs.TypeTree.{PlainType}
use Rattle.clf_syntax.specs.Simple.{erase, Assignment, Families}
use Rattle.hered_subst.specs.TypedEnvironments.{TypedEnvironment}
use Rattle.hered_subst.specs.Laws.{ResultsAreTyped}
use Rattle.hered_subst.proofs.TypedResults.{result_is_typed}
use Rattle.subst_laws.specs.Environments.{Instantiation, instant}
use Rattle.subst_laws.proofs.Environs.{instant_is_environment}
use Rattle.pattern_laws.specs.Instantiations.{closed}
use Rattle.gathered_laws.proofs.Keeping.{core_stays_formed}
use Rattle.celf_solve.specs.Scenes.{EachIsFormed}
use Rattle.celf_solve.specs.Settled.{EachBecomes}
use Rattle.celf_solve.specs.Laws.{SettledIsFormed}
use Rattle.celf_solve.proofs.More.{HasMore, core_more, each_more}

module _ (arguments : Families) (g : Assignment) (s : Instantiation) (typed : TypedEnvironment true g g (instant s)) where
  results : ResultsAreTyped true arguments g g (instant s)
  results = result_is_typed true arguments g g (instant s) typed

  each_after : (as_ bs : List PlainType) → EachBecomes s as_ bs → EachIsFormed arguments g as_ → EachIsFormed arguments g bs × (map erase bs ≡ map erase as_)
  each_after [] [] h p = (tt, refl)
  each_after [] (b ∷ bs) h p = absurd h
  each_after (a ∷ as_) [] h p = absurd h
  each_after (a ∷ as_) (b ∷ bs) h p =
      let (q, e) = results.type a b p.0 h.0 in
      let (r, f) = each_after as_ bs h.1 p.1 in
      ((q, r), ap (λ t. t ∷ map erase bs) e ∙ ap (λ l. erase a ∷ l) f)

pub settled_is_formed : SettledIsFormed
settled_is_formed arguments constants metas q tree types now core after h formed each =
    let g = closed constants now.metas in
    let later = each_after arguments g h.solutions typed types after h.types_become (each_more arguments (closed constants metas) g more types each) in record {
      tree = core_stays_formed arguments g g (instant h.solutions) typed tree core h.core_becomes (core_more arguments (closed constants metas) g more tree formed);
      each = later.0;
      erased = later.1;
    }
  where
    typed : TypedEnvironment true (closed constants now.metas) (closed constants now.metas) (instant h.solutions)
    typed = (instant_is_environment (closed constants now.metas)).0 (closed constants now.metas) h.solutions h.put_in.assigns

    more : HasMore (closed constants metas) (closed constants now.metas)
    more (Const c) t e = e
    more (Var i) t e = e
    more (Meta m) t e = h.unified.adds.grows m t e
