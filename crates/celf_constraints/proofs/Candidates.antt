-- The candidate of an eta-long form is its variable.
use Rattle.std.specs.Prelude.{ℕ, ◌+◌, ◌≡◌, ◌⊎◌, ◌&&◌, Bool, true, false, ◌<◌, List, [], ◌∷◌, length, Some, None, map, get_or, refl}
use Rattle.std.proofs.Common.{ap, sym, ◌∙◌, inl, inr, ⊎_elim, arith}
use Rattle.clf_syntax.specs.declared.tree.Head.TheVariants.{Var}
use Rattle.clf_syntax.specs.declared.tree.Neutral.{Neutral}
use Rattle.clf_syntax.specs.declared.tree.Step.{Step, out-Step}
use Rattle.clf_syntax.specs.declared.tree.Expr.{Expr, out-Expr}
use Rattle.clf_syntax.specs.Tree.{PlainNeutral, head_alone, app, fst, snd, PlainExpression, PlainElimination, arg, first, second, spine_on, steps_on, done, tuple_of, head_of}
use Rattle.clf_syntax.specs.TypeTree.{SimpleType, base, arrow, simple_with, simple_top, lax}
use Rattle.clf_syntax.specs.Renaming.{ren_neutral, ren_head, up}
use Rattle.clf_syntax.specs.Plain.{plain_neutral, plain_expr, plain_elim, plain_step, plain_entry, plain-neutral, plain-expr, plain-step-rhs}
use Rattle.hered_subst.proofs.Renamed.{head_renamed}
use Rattle.eta_laws.specs.Eta.{eta}
use Rattle.pattern_laws.specs.Patterns.{blank}
use Rattle.celf_constraints.specs.Candidate.{variable_of, lowered, or_else, candidate, candidate_step}

head_spine : (es : List PlainElimination) (r : PlainNeutral) → head_of (spine_on es r) ≡ head_of r
head_spine [] r = refl
head_spine (arg m n ∷ es) r = head_spine es _
head_spine (first ∷ es) r = head_spine es _
head_spine (second ∷ es) r = head_spine es _

pub neutral_head : (n : Neutral) → head_of (plain_neutral n) ≡ n.head
neutral_head n = ap head_of (plain-neutral n) ∙ head_spine (map plain_elim n.spine) (head_alone n.head)

and_first : (a b : Bool) → a && b ≡ true → a ≡ true
and_first true b e = refl
and_first false b e = absurd (cc)

and_second : (a b : Bool) → a && b ≡ true → b ≡ true
and_second true b e = e
and_second false b e = absurd (cc)

-- At a blank type there is none.
pub blank_candidate : (t : SimpleType) (n : PlainNeutral) → blank t ≡ true → candidate (eta t n) ≡ None
blank_candidate (base a) n e = absurd (cc)
blank_candidate (arrow m d c) n e = ap lowered (blank_candidate c (app m (ren_neutral (up 1) n) (eta d (head_alone (Var 0)))) e)
blank_candidate (simple_with c d) n e = ap (λ o. or_else o (candidate (eta d (snd n)))) (blank_candidate c (fst n) (and_first (blank c) (blank d) e)) ∙ blank_candidate d (snd n) (and_second (blank c) (blank d) e)
blank_candidate simple_top n e = refl
blank_candidate (lax ts) n e = absurd (cc)

cases_of : (b : Bool) → (b ≡ true) ⊎ (b ≡ false)
cases_of true = inl refl
cases_of false = inr refl

other_blank : (a b : Bool) → a && b ≡ false → a ≡ true → b ≡ false
other_blank true b e f = e
other_blank false b e f = absurd (cc)

lowered_next : (v : ℕ) → lowered (Some (v + 1)) ≡ Some v
lowered_next v = grind arith

pub eta_candidate : (t : SimpleType) (n : PlainNeutral) (v : ℕ) → blank t ≡ false → head_of n ≡ Var v → candidate (eta t n) ≡ Some v
eta_candidate (base a) n v b e = ap variable_of e
eta_candidate (arrow m d c) n v b e = ap lowered (eta_candidate c (app m (ren_neutral (up 1) n) (eta d (head_alone (Var 0)))) (v + 1) b (head_renamed (up 1) n ∙ ap (ren_head (up 1)) e)) ∙ lowered_next v
eta_candidate (simple_with c d) n v b e = ⊎_elim
    (λ h. ap (λ o. or_else o (candidate (eta d (snd n)))) (blank_candidate c (fst n) h) ∙ eta_candidate d (snd n) v (other_blank (blank c) (blank d) b h) e)
    (λ h. ap (λ o. or_else o (candidate (eta d (snd n)))) (eta_candidate c (fst n) v h e))
    (cases_of (blank c))
eta_candidate simple_top n v b e = absurd (cc)
eta_candidate (lax ts) n v b e = ap variable_of e

-- the first step of an expression in memory
first_step : (ss : List Step) (x : PlainExpression) (s : Step) → 0 < length ss → s ≡ get_or ss 0 s → candidate_step (steps_on (map plain_step ss) x) ≡ variable_of (out-Step s).rhs.head
first_step [] x s l e = absurd (omega (arith, l))
first_step (y ∷ ss) x s l e = ap (λ n. variable_of (head_of n)) (plain-step-rhs y) ∙ ap variable_of (neutral_head (out-Step y).rhs) ∙ ap (λ z. variable_of (out-Step z).rhs.head) (sym e)

pub expr_first : (e : Expr) (ss : List Step) (s : Step) → ss ≡ (out-Expr e).steps → 0 < length ss → s ≡ get_or ss 0 s → variable_of (out-Step s).rhs.head ≡ candidate_step (plain_expr e)
expr_first e ss s q l f = sym (first_step ss (done (tuple_of (map plain_entry (out-Expr e).result))) s l f) ∙ ap (λ ts. candidate_step (steps_on (map plain_step ts) (done (tuple_of (map plain_entry (out-Expr e).result))))) q ∙ sym (ap candidate_step (plain-expr e))

pub expr_empty : (e : Expr) (ss : List Step) → ss ≡ (out-Expr e).steps → length ss ≡ 0 → None ≡ candidate_step (plain_expr e)
expr_empty e ss q l = none ss l ∙ ap (λ ts. candidate_step (steps_on (map plain_step ts) (done (tuple_of (map plain_entry (out-Expr e).result))))) q ∙ sym (ap candidate_step (plain-expr e))
  where
    none : (ss : List Step) → length ss ≡ 0 → None ≡ candidate_step (steps_on (map plain_step ss) (done (tuple_of (map plain_entry (out-Expr e).result))))
    none [] l = refl
    none (y ∷ ss) l = absurd (omega (arith, l))
