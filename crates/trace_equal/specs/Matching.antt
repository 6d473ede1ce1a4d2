-- Trees that match: they have the same constructors, heads and modes, and each step of one has its like among those of the other.
-- Trees are joined exactly where they match (a law of this crate); a test of joined looks for a matching and builds no chain.
use Rattle.std.specs.Prelude.{◌≡◌, List, length}
use Rattle.clf_syntax.specs.declared.tree.Mode.{Mode}
use Rattle.clf_syntax.specs.declared.tree.Head.{Head}
use Rattle.clf_syntax.specs.Tree.{PlainObject, lam, pair, unit, monadic, atomic, hole, PlainNeutral, head_alone, app, fst, snd, PlainExpression, step, done, PlainTuple, empty, entry}
use Rattle.clf_syntax.specs.Renaming.{ren_neutral, ren_expression, up, crossed}

-- Pulled q v e f: some step of f mentions no variable of a step before it. With it first, f is the step (q, v), and then e.
pub data Pulled : List Mode → PlainNeutral → PlainExpression → PlainExpression → Type 0 where
  pulled_here : {q : List Mode} {v : PlainNeutral} {e : PlainExpression} → Pulled q v e (step q v e)
  pulled_later : {p q : List Mode} {r s v w : PlainNeutral} {e f g : PlainExpression}
      → w ≡ ren_neutral (up (length p)) v
      → s ≡ ren_neutral (up (length q)) r
      → f ≡ ren_expression (crossed (length p) (length q)) e
      → Pulled q w e g
      → Pulled q v (step p s f) (step p r g)

mutual
  pub data Matches : PlainObject → PlainObject → Type 0 where
    match_lam : {m : Mode} {b c : PlainObject} → Matches b c → Matches (lam m b) (lam m c)
    match_pair : {l k r s : PlainObject} → Matches l k → Matches r s → Matches (pair l r) (pair k s)
    match_unit : Matches unit unit
    match_monadic : {e f : PlainExpression} → MatchesExpression e f → Matches (monadic e) (monadic f)
    match_atomic : {n o : PlainNeutral} → MatchesNeutral n o → Matches (atomic n) (atomic o)
    match_hole : Matches hole hole

  pub data MatchesNeutral : PlainNeutral → PlainNeutral → Type 0 where
    match_bare : {h : Head} → MatchesNeutral (head_alone h) (head_alone h)
    match_app : {m : Mode} {r s : PlainNeutral} {o u : PlainObject} → MatchesNeutral r s → Matches o u → MatchesNeutral (app m r o) (app m s u)
    match_fst : {r s : PlainNeutral} → MatchesNeutral r s → MatchesNeutral (fst r) (fst s)
    match_snd : {r s : PlainNeutral} → MatchesNeutral r s → MatchesNeutral (snd r) (snd s)

  pub data MatchesExpression : PlainExpression → PlainExpression → Type 0 where
    -- The first step on the left has its like among those on the right, and the rests match.
    match_step : {p : List Mode} {r v : PlainNeutral} {d e f : PlainExpression} → Pulled p v e f → MatchesNeutral r v → MatchesExpression d e → MatchesExpression (step p r d) f
    match_done : {t u : PlainTuple} → MatchesTuple t u → MatchesExpression (done t) (done u)

  pub data MatchesTuple : PlainTuple → PlainTuple → Type 0 where
    match_empty : MatchesTuple empty empty
    match_entry : {m : Mode} {o u : PlainObject} {t w : PlainTuple} → Matches o u → MatchesTuple t w → MatchesTuple (entry m o t) (entry m u w)
