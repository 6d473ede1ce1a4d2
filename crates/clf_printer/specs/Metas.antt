-- The metavariables of a text, in the order of their numbers: those that are given, then the others by first appearance.
use Rattle.std.specs.Prelude.{ℕ, ◌==◌, if◌then◌else◌, List, [], ◌∷◌, ◌++◌}
use Rattle.std.specs.List.{list_any}
use Rattle.clf_syntax.specs.declared.tree.Head.{Head}
use Rattle.clf_syntax.specs.declared.tree.Head.TheVariants.{Const, Var, Meta}
use Rattle.clf_syntax.specs.Tree.{PlainObject, lam, pair, unit, monadic, atomic, hole, PlainNeutral, head_alone, app, fst, snd, PlainExpression, step, done, PlainTuple, empty, entry, PlainElimination, arg, first, second}
use Rattle.clf_syntax.specs.TypeTree.{PlainType, family, function, both, top, monad, PlainTelescope, end, binding, PlainKind}
use Rattle.clf_sig.specs.Entry.{PlainClass, family_of, constant_of}

-- one more, where it has not appeared
abbrev pub appeared : List ℕ → ℕ → List ℕ
appeared metas m = if list_any (λ n. n == m) metas then metas else metas ++ m ∷ []

abbrev pub appearing_head : List ℕ → Head → List ℕ
appearing_head metas (Const c) = metas
appearing_head metas (Var i) = metas
appearing_head metas (Meta m) = appeared metas m

abbrev mutual
  pub appearing : List ℕ → PlainObject → List ℕ
  appearing metas (lam m b) = appearing metas b
  appearing metas (pair l r) = appearing (appearing metas l) r
  appearing metas unit = metas
  appearing metas (monadic e) = appearing_expression metas e
  appearing metas (atomic n) = appearing_neutral metas n
  appearing metas hole = metas

  pub appearing_neutral : List ℕ → PlainNeutral → List ℕ
  appearing_neutral metas (head_alone h) = appearing_head metas h
  appearing_neutral metas (app m r n) = appearing (appearing_neutral metas r) n
  appearing_neutral metas (fst r) = appearing_neutral metas r
  appearing_neutral metas (snd r) = appearing_neutral metas r

  pub appearing_expression : List ℕ → PlainExpression → List ℕ
  appearing_expression metas (step ms r e) = appearing_expression (appearing_neutral metas r) e
  appearing_expression metas (done t) = appearing_tuple metas t

  pub appearing_tuple : List ℕ → PlainTuple → List ℕ
  appearing_tuple metas empty = metas
  appearing_tuple metas (entry m n t) = appearing_tuple (appearing metas n) t

abbrev pub appearing_elimination : List ℕ → PlainElimination → List ℕ
appearing_elimination metas (arg m n) = appearing metas n
appearing_elimination metas first = metas
appearing_elimination metas second = metas

abbrev pub appearing_spine : List ℕ → List PlainElimination → List ℕ
appearing_spine metas [] = metas
appearing_spine metas (e ∷ es) = appearing_spine (appearing_elimination metas e) es

abbrev pub appearing_indices : List ℕ → List PlainObject → List ℕ
appearing_indices metas [] = metas
appearing_indices metas (n ∷ ns) = appearing_indices (appearing metas n) ns

abbrev mutual
  pub appearing_type : List ℕ → PlainType → List ℕ
  appearing_type metas (family k ns) = appearing_indices metas ns
  appearing_type metas (function m a b) = appearing_type (appearing_type metas a) b
  appearing_type metas (both a b) = appearing_type (appearing_type metas a) b
  appearing_type metas top = metas
  appearing_type metas (monad s) = appearing_telescope metas s

  pub appearing_telescope : List ℕ → PlainTelescope → List ℕ
  appearing_telescope metas end = metas
  appearing_telescope metas (binding m a s) = appearing_telescope (appearing_type metas a) s

abbrev pub appearing_kind : List ℕ → PlainKind → List ℕ
appearing_kind metas [] = metas
appearing_kind metas (a ∷ k) = appearing_kind (appearing_type metas a) k

abbrev pub appearing_class : List ℕ → PlainClass → List ℕ
appearing_class metas (family_of k) = appearing_kind metas k
appearing_class metas (constant_of a) = appearing_type metas a
