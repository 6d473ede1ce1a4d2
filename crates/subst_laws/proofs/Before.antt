-- What an environment does to a renamed tree.
use Rattle.clf_syntax.proofs.RenamingLaws.{identity, identity_expression, identity_neutral}
use Rattle.clf_syntax.specs.Renaming.{Renumbering, ren, ren_expression, ren_head, ren_neutral, up}
use Rattle.clf_syntax.specs.Tree.{PlainExpression, PlainNeutral, PlainObject}
use Rattle.clf_syntax.specs.declared.tree.Head.TheVariants.{Const, Meta, Var}
use Rattle.std.proofs.Common.{subst, sym}
use Rattle.std.specs.Prelude.{refl, ℕ}
use Rattle.hered_subst.proofs.Renamed.{renamed, renamed_expression, renamed_kept, under_out}
use Rattle.hered_subst.proofs.SimpleTyping.{image_idle}
use Rattle.hered_subst.specs.Laws.{Fits}
use Rattle.hered_subst.specs.Substitution.{Environment, KeepsHead, Substituted, SubstitutedExpression, under}

pub fits_up : (n : ℕ) (s : Environment) → Fits (up n) (up n) s (under n s)
fits_up n s (Const c) = refl
fits_up n s (Var i) = under_out n s i
fits_up n s (Meta m) = refl

pub before : (r : Renumbering) (s : Environment) {o x : PlainObject} → Substituted (λ h. s (ren_head r h)) o x → Substituted s (ren r o) x
before r s {o} {x} p = subst (Substituted s (ren r o)) (identity x) (renamed r (λ i. i) s (λ h. sym (image_idle (s (ren_head r h)))) p)

pub before_neutral : (r : Renumbering) (s : Environment) {o x : PlainNeutral} → KeepsHead (λ h. s (ren_head r h)) o x → KeepsHead s (ren_neutral r o) x
before_neutral r s {o} {x} p = subst (KeepsHead s (ren_neutral r o)) (identity_neutral x) (renamed_kept r (λ i. i) s (λ h. sym (image_idle (s (ren_head r h)))) p)

pub before_expression : (r : Renumbering) (s : Environment) {o x : PlainExpression} → SubstitutedExpression (λ h. s (ren_head r h)) o x → SubstitutedExpression s (ren_expression r o) x
before_expression r s {o} {x} p = subst (SubstitutedExpression s (ren_expression r o)) (identity_expression x) (renamed_expression r (λ i. i) s (λ h. sym (image_idle (s (ren_head r h)))) p)
