-- A metavariable on distinct locals of its arguments' types is on locals that stand at their own types.
use Rattle.std.specs.Prelude.{ℕ, Bool, true, false, ◌≡◌, ◌&&◌, List, [], ◌∷◌, refl}
use Rattle.std.proofs.Common.{inl, ⊎_elim}
use Rattle.clf_syntax.specs.declared.tree.Head.TheVariants.{Var}
use Rattle.clf_syntax.specs.Tree.{PlainObject, PlainNeutral, head_alone, app, fst, snd}
use Rattle.clf_syntax.specs.TypeTree.{SimpleType, base, arrow, simple_with, simple_top, lax}
use Rattle.clf_syntax.specs.Simple.{Assignment, extended}
use Rattle.clf_syntax.specs.Renaming.{ren_neutral, up}
use Rattle.hered_subst.proofs.SimpleTyping.{Typed, typed_lam, typed_pair, typed_unit, typed_bare, of_typed}
use Rattle.eta_laws.specs.Eta.{eta}
use Rattle.eta_laws.proofs.EtaTyped.{eta_typed}
use Rattle.pattern_laws.specs.Patterns.{blank, Place, Fitting, OnDistinct, OwnPlaces, OnLocals, LacksMisfits}

and_first : (a b : Bool) → a && b ≡ true → a ≡ true
and_first true b e = refl
and_first false b e = absurd (cc)

and_second : (a b : Bool) → a && b ≡ true → b ≡ true
and_second true b e = e
and_second false b e = absurd (cc)

-- At a blank type the eta-long form of anything is typed.
pub blank_typed : (w : Bool) (g : Assignment) (t : SimpleType) (n : PlainNeutral) → blank t ≡ true → Typed w g (eta t n) t
blank_typed w g (base a) n e = absurd (cc)
blank_typed w g (arrow m d c) n e = typed_lam (blank_typed w (extended d g) c (app m (ren_neutral (up 1) n) (eta d (head_alone (Var 0)))) e)
blank_typed w g (simple_with c d) n e = typed_pair (blank_typed w g c (fst n) (and_first (blank c) (blank d) e)) (blank_typed w g d (snd n) (and_second (blank c) (blank d) e))
blank_typed w g simple_top n e = typed_unit
blank_typed w g (lax ts) n e = absurd (cc)

own_places : (g : Assignment) (ps : List Place) → Fitting g ps → OwnPlaces g ps ps
own_places g [] f = tt
own_places g (p ∷ ps) f = (record { mode = refl; local = refl; typed = of_typed (⊎_elim (λ e. eta_typed true g p.1 (typed_bare e)) (λ e. blank_typed true g p.1 (head_alone (Var p.2)) e) f.0); own = f.0 }, own_places g ps f.1)

pub on_locals : (g : Assignment) (r : PlainNeutral) (m : ℕ) (ps : List Place) (t : SimpleType) → OnDistinct g r m ps t → OnLocals g r m ps ps t
on_locals g r m ps t d = record { neutral = d.neutral; type = d.type; places = own_places g ps d.fitting; distinct = d.distinct }

pub lacks_same : (ps : List Place) (x : PlainObject) → LacksMisfits ps ps x
lacks_same [] x = tt
lacks_same (p ∷ ps) x = (inl refl, lacks_same ps x)
