-- The store of a scene, in which nothing is solved: it is one in which equations may be unified, and their problem is a new one.
use Rattle.std.specs.Prelude.{ℕ, nat_eq, if◌then◌else◌, ◌≡◌, Bool, true, false, List, [], ◌∷◌, ◌++◌, Option, Some, None}
use Rattle.std.proofs.Common.{ap, sym, ◌∙◌, arith}
use Rattle.clf_syntax.specs.Tree.{PlainObject}
use Rattle.clf_syntax.specs.TypeTree.{SimpleType}
use Rattle.clf_syntax.proofs.RenamingLaws.{ext}
use Rattle.subst_laws.specs.Environments.{Instantiation}
use Rattle.store_laws.specs.Additions.{Addition, new, solved, given}
use Rattle.store_laws.specs.Store.{IsStore}
use Rattle.pattern_laws.specs.Equations.{Equation}
use Rattle.unify_laws.specs.Problems.{Problem}
use Rattle.solver_laws.specs.Solving.{problem_of}
use Rattle.metavars.specs.Stored.{constants, additions}
use Rattle.celf_unify.specs.Passes.{IsReady}
use Rattle.celf_solve.specs.declared.scene.Scene.{Scene}
use Rattle.celf_solve.specs.Scenes.{metas_in, IsFresh, MaySettle, start_of}

later : (b : Bool) (u : PlainObject) (x : Option PlainObject) → (if b then Some u else x) ≡ None → x ≡ None
later true u x e = absurd (cc)
later false u x e = e

-- Where a solution was added, one is given.
is_given : (before after : List Addition) (m : ℕ) (o : PlainObject) → given (before ++ solved m o ∷ after) m ≡ None → ⊥
is_given [] after m o e =
    let same : nat_eq m m ≡ true = grind arith in
    let there : (if nat_eq m m then Some o else given after m) ≡ Some o = rw same in
    absurd (cc)
is_given (new t ∷ before) after m o e = is_given before after m o e
is_given (solved k u ∷ before) after m o e = is_given before after m o (later (nat_eq m k) u _ e)

fresh_store : (cs : List SimpleType) (zs : List Addition) → ((m : ℕ) → given zs m ≡ None) → IsStore cs zs
fresh_store cs zs unsolved before m o after e = absurd (is_given before after m o (ap (λ (ys : List Addition). given ys m) (sym e) ∙ unsolved m))

pub ready : (s : Scene) (q : List Equation) → MaySettle s q → IsReady s.store q
ready s q may = record { store = fresh_store (constants s.store) (additions s.store) may.fresh.unsolved; final = may.fresh.final; typed = may.typed }

pub starts : (s : Scene) (q : List Equation) → IsFresh s → problem_of (additions s.store) q ≡ start_of s q
starts s q fresh = ap (λ (g : Instantiation). let p : Problem = record { metas = metas_in s; given = g; equations = q } in p) (ext fresh.unsolved)
