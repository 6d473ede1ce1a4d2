-- No hole stands in eta-long forms, in what is renumbered, and in objects of new metavariables.
use Rattle.std.specs.Prelude.{Bool, [], false, if◌then◌else◌, length, true, ℕ, ◌+◌, ◌∷◌}
use Rattle.clf_syntax.specs.Renaming.{Renumbering, lifted, ren, ren_expression, ren_neutral, ren_tuple, up}
use Rattle.clf_syntax.specs.Simple.{simple_modes}
use Rattle.clf_syntax.specs.Tree.{PlainExpression, PlainNeutral, PlainObject, PlainTuple, app, atomic, done, empty, entry, fst, head_alone, head_of, hole, lam, monadic, pair, snd, step, unit}
use Rattle.clf_syntax.specs.TypeTree.{SimpleTelescope, SimpleType, arrow, base, lax, simple_binding, simple_end, simple_top, simple_with}
use Rattle.clf_syntax.specs.declared.tree.Head.TheVariants.{Meta, Var}
use Rattle.hered_subst.specs.TypedEnvironments.{is_metavariable}
use Rattle.eta_laws.specs.Eta.{at_monad, eta, expansion, variables}
use Rattle.metavars.specs.Fresh.{Scope, applied_from, binder, fresh_object, new_types}
use Rattle.gathering.specs.Complete.{ExpressionHasNoHole, HasNoHole, NeutralHasNoHole, TupleHasNoHole}

mutual
  renamed_object : (r : Renumbering) (o : PlainObject) → HasNoHole o → HasNoHole (ren r o)
  renamed_object r (lam m b) h = renamed_object (lifted 1 r) b h
  renamed_object r (pair x y) h = (renamed_object r x h.0, renamed_object r y h.1)
  renamed_object r unit h = tt
  renamed_object r (monadic e) h = renamed_expression r e h
  renamed_object r (atomic n) h = renamed_neutral r n h
  renamed_object r hole h = absurd h

  renamed_neutral : (r : Renumbering) (n : PlainNeutral) → NeutralHasNoHole n → NeutralHasNoHole (ren_neutral r n)
  renamed_neutral r (head_alone x) h = tt
  renamed_neutral r (app m x n) h = (renamed_neutral r x h.0, renamed_object r n h.1)
  renamed_neutral r (fst x) h = renamed_neutral r x h
  renamed_neutral r (snd x) h = renamed_neutral r x h

  renamed_expression : (r : Renumbering) (e : PlainExpression) → ExpressionHasNoHole e → ExpressionHasNoHole (ren_expression r e)
  renamed_expression r (step ms x e) h = (renamed_neutral r x h.0, renamed_expression (lifted (length ms) r) e h.1)
  renamed_expression r (done t) h = renamed_tuple r t h

  renamed_tuple : (r : Renumbering) (t : PlainTuple) → TupleHasNoHole t → TupleHasNoHole (ren_tuple r t)
  renamed_tuple r empty h = tt
  renamed_tuple r (entry m n t) h = (renamed_object r n h.0, renamed_tuple r t h.1)

mutual
  pub eta_whole : (t : SimpleType) (n : PlainNeutral) → NeutralHasNoHole n → HasNoHole (eta t n)
  eta_whole (base a) n h = h
  eta_whole (arrow m d c) n h = eta_whole c (app m (ren_neutral (up 1) n) (eta d (head_alone (Var 0)))) (renamed_neutral (up 1) n h, eta_whole d (head_alone (Var 0)) tt)
  eta_whole (simple_with c d) n h = (eta_whole c (fst n) h, eta_whole d (snd n) h)
  eta_whole simple_top n h = tt
  eta_whole (lax ts) n h = (h, variables_whole ts)

  variables_whole : (ts : SimpleTelescope) → TupleHasNoHole (variables ts)
  variables_whole simple_end = tt
  variables_whole (simple_binding m t ts) = (eta_whole t (head_alone (Var (length (simple_modes ts)))) tt, variables_whole ts)

at_monad_whole : (b : Bool) (ts : SimpleTelescope) (n : PlainNeutral) → NeutralHasNoHole n → HasNoHole (at_monad b ts n)
at_monad_whole true ts n h = h
at_monad_whole false ts n h = eta_whole (lax ts) n h

pub expansion_whole : (t : SimpleType) (n : PlainNeutral) → NeutralHasNoHole n → HasNoHole (expansion t n)
expansion_whole (base a) n h = h
expansion_whole (arrow m d c) n h = expansion_whole c (app m (ren_neutral (up 1) n) (eta d (head_alone (Var 0)))) (renamed_neutral (up 1) n h, eta_whole d (head_alone (Var 0)) tt)
expansion_whole (simple_with c d) n h = (expansion_whole c (fst n) h, expansion_whole d (snd n) h)
expansion_whole simple_top n h = tt
expansion_whole (lax ts) n h = at_monad_whole (is_metavariable (head_of n)) ts n h

applied_whole : (i : ℕ) (s : Scope) (n : PlainNeutral) → NeutralHasNoHole n → NeutralHasNoHole (applied_from i s n)
applied_whole i [] n h = h
applied_whole i (l ∷ s) n h = of_local l.applied (applied_whole (i + 1) s n h)
  where
    of_local : (b : Bool) → NeutralHasNoHole (applied_from (i + 1) s n) → NeutralHasNoHole (if b then app l.mode (applied_from (i + 1) s n) (eta l.type (head_alone (Var i))) else applied_from (i + 1) s n)
    of_local true k = (k, eta_whole l.type (head_alone (Var i)) tt)
    of_local false k = k

pub fresh_whole : (k : ℕ) (s : Scope) (t : SimpleType) → HasNoHole (fresh_object k s t)
fresh_whole k s (base f) = applied_whole 0 s (head_alone (Meta k)) tt
fresh_whole k s (arrow m d c) = fresh_whole k (binder m d ∷ s) c
fresh_whole k s (simple_with c d) = (fresh_whole k s c, fresh_whole (k + length (new_types s c)) s d)
fresh_whole k s simple_top = tt
fresh_whole k s (lax ts) = applied_whole 0 s (head_alone (Meta k)) tt
