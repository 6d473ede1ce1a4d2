-- Posed and then settled: what is gathered of a tree is solved, or comes down to stuck equations, or has no solution.
use Rattle.std.specs.Prelude.{◌≡◌, List, map}
use Rattle.std.proofs.Common.{ap, subst}
use Rattle.std.specs.List.{slice_get}
use Rattle.clf_syntax.specs.TypeTree.{SimpleType}
use Rattle.clf_syntax.specs.PlainTypes.{plain_ty}
use Rattle.pattern_laws.specs.Instantiations.{Types}
use Rattle.reach_laws.specs.Unified.{Unified, Clashed}
use Rattle.clf_sig.specs.Core.{plain_core}
use Rattle.solver_laws.specs.Solving.{problem_of}
use Rattle.metavars.specs.Stored.{additions}
use Rattle.celf_solve.specs.Settled.{constants_of, Settles}
use Rattle.celf_solve.specs.Scenes.{constants_in, metas_in, tree_of, types_of, start_of}
use Rattle.celf_solve.specs.Laws.{PosedAndSettled}

pub posed_and_settled : PosedAndSettled
posed_and_settled sig s q scene gathers = record {
  found = λ f h. record {
    equations = q;
    gathers = gathers;
    settles = subst (λ (cs : Types). Settles cs (metas_in s) q (tree_of s) (types_of s) (problem_of (additions f.store) q) (plain_core f.core) (map plain_ty f.types))
        same h.settles;
  };
  stuck = λ left h. record {
    equations = q;
    gathers = gathers;
    unified = subst (λ (cs : Types). Unified cs (start_of s q) h.now left) same h.unified;
    some_left = h.some_left;
  };
  clash = λ now under left right h. record {
    equations = q;
    gathers = gathers;
    clashed = subst (λ (cs : Types). Clashed cs (start_of s q) now under left right) same h;
  };
}
  where
    same : constants_in s ≡ constants_of sig (types_of s)
    same = ap (λ (cs : List SimpleType). let get : Types = slice_get cs in get) scene.constants_are
