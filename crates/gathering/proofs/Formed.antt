-- The simple types of heads, and simply formed contexts.
use Rattle.std.proofs.Common.{ap, subst, sym, ◌∙◌}
use Rattle.std.specs.List.{slice_get}
use Rattle.std.specs.Prelude.{List, Some, [], length, refl, suc, true, zero, ◌∷◌, ◌≡◌}
use Rattle.clf_syntax.specs.Renaming.{ren_telescope, ren_type, up}
use Rattle.clf_syntax.specs.Simple.{Assignment, Families, SimplyFormed, SimplyFormedContext, SimplyFormedTelescope, erase, erase_telescope, extended, extended_by, extended_over, simple_modes}
use Rattle.clf_syntax.specs.TypeTree.{PlainTelescope, PlainType, SimpleType, binding, end}
use Rattle.clf_syntax.specs.declared.tree.Head.{Head}
use Rattle.clf_syntax.specs.declared.tree.Head.TheVariants.{Const, Meta, Var}
use Rattle.clf_syntax.specs.declared.tree.Mode.{Mode}
use Rattle.use_contexts.specs.Context.{Context, telescope_modes, with_entries}
use Rattle.hered_subst.proofs.SimpleTyping.{under_under, under_zero}
use Rattle.hered_subst.proofs.Total.{raised_all, raised_types}
use Rattle.hered_subst.proofs.TypedResults.{result_is_typed}
use Rattle.hered_subst.proofs.Types.{renames_telescope, renames_type}
use Rattle.hered_subst.specs.Laws.{keeping}
use Rattle.hered_subst.specs.Substitution.{Environment, SubstitutedTelescope, SubstitutedType, in_binding, in_end, under}
use Rattle.hered_subst.specs.TypedEnvironments.{TypedEnvironment}
use Rattle.subst_laws.proofs.Environs.{under_sum}
use Rattle.subst_laws.proofs.Renamed.{erase_renamed}
use Rattle.typing_laws.proofs.Erased.{entered, erased_modes}
use Rattle.typing_laws.proofs.FormedTypes.{renames}
use Rattle.gathering.proofs.Heads.{not_implicit, variable_first, variable_next}
use Rattle.gathering.specs.Instances.{FormedSetting, InstanceContext}
use Rattle.gathering.specs.Setting.{NoImplicit, Setting, SettingType}

pub keeps_up : (d : SimpleType) (z : Assignment) → TypedEnvironment true z (extended d z) (keeping (up 1))
keeps_up d z = renames z (extended d z) (up 1) (λ h t e. raised_types d z h ∙ e)

-- the entries of a telescope
pub under_entries : (t : PlainTelescope) (g : Context) (s : Environment) → under (length (telescope_modes t)) (under (length g) s) ≡ under (length (with_entries t g)) s
under_entries end g s = under_zero (under (length g) s)
under_entries (binding m a t) g s = sym (under_under (length (telescope_modes t)) (under (length g) s)) ∙ ap (under (length (telescope_modes t))) (under_sum (length g) s) ∙ under_entries t ((m, a) ∷ g) s

pub instance_entries : (s : Environment) (front : Context) {v : Environment} {t u : PlainTelescope} → SubstitutedTelescope v t u → (g h : Context) → v ≡ under (length g) s → InstanceContext s front g h → InstanceContext s front (with_entries t g) (with_entries u h)
instance_entries s front in_end g h e p = p
instance_entries s front (in_binding {m = m} {a = a} {x = x} q r) g h e p =
    instance_entries s front r ((m, a) ∷ g) ((m, x) ∷ h) (ap (under 1) e ∙ under_sum (length g) s) (refl, subst (λ (w : Environment). SubstitutedType w a x) e q, p)

pub formed_entries : (arguments : Families) (z : Assignment) (t : PlainTelescope) (g : Context) → SimplyFormedTelescope arguments (extended_over g z) t → SimplyFormedContext arguments z g → SimplyFormedContext arguments z (with_entries t g)
formed_entries arguments z end g p q = q
formed_entries arguments z (binding m a t) g p q = formed_entries arguments z t ((m, a) ∷ g) p.1 (p.0, q)

pub formed_up : (arguments : Families) (d : SimpleType) (z : Assignment) (a : PlainType) → SimplyFormed arguments z a → SimplyFormed arguments (extended d z) (ren_type (up 1) a)
formed_up arguments d z a p = ((result_is_typed true arguments z (extended d z) (keeping (up 1)) (keeps_up d z)).type a (ren_type (up 1) a) p (renames_type (up 1) a)).0

-- a head of a setting has the erasure of its type, which is simply formed
pub head_formed : (z : Setting) → FormedSetting z → NoImplicit z → (g : Context) → SimplyFormedContext z.arguments z.simple g → (x : Head) (a : PlainType) → SettingType z g x a
    → SimplyFormed z.arguments (extended_over g z.simple) a × (extended_over g z.simple x ≡ Some (erase a))
head_formed z f none [] q (Const c) a p = ((f c a p).formed, (f c a p).simple)
head_formed z f none (e ∷ g) q (Const c) a p = let (b, k) = head_formed z f none g q.1 (Const c) a p in
    (subst (λ (y : PlainType). SimplyFormed z.arguments (extended (erase e.1) (extended_over g z.simple)) y) ((f c a p).closed (up 1)) (formed_up z.arguments (erase e.1) (extended_over g z.simple) a b), k)
head_formed z f none [] q (Var i) a p = absurd (nowhere p.2)
  where
    nowhere : {x : Mode × PlainType} → slice_get [] i ≡ Some x → ⊥
    nowhere k = cc
head_formed z f none (e ∷ g) q (Var zero) a p = let k = variable_first e g a p in (
  subst (λ (y : PlainType). SimplyFormed z.arguments (extended (erase e.1) (extended_over g z.simple)) y) (sym k) (formed_up z.arguments (erase e.1) (extended_over g z.simple) e.1 q.0),
  ap (λ t. Some t) (sym (ap erase k ∙ erase_renamed (up 1) e.1)),
)
head_formed z f none (e ∷ g) q (Var (suc i)) a p = let (b, k, l) = variable_next e g i a p in let (m, n) = head_formed z f none g q.1 (Var i) b k in (
  subst (λ (y : PlainType). SimplyFormed z.arguments (extended (erase e.1) (extended_over g z.simple)) y) (sym l) (formed_up z.arguments (erase e.1) (extended_over g z.simple) b m),
  n ∙ ap (λ t. Some t) (sym (ap erase l ∙ erase_renamed (up 1) b)),
)
head_formed z f none g q (Meta m) a p = absurd (not_implicit z none m a p)

-- a telescope past the entries of another
pub formed_past : (z : Setting) (g : Context) (t u : PlainTelescope) (ms : List Mode) → telescope_modes t ≡ ms → SimplyFormedTelescope z.arguments (extended_over g z.simple) u → SimplyFormedTelescope z.arguments (extended_over (with_entries t g) z.simple) (ren_telescope (up (length ms)) u)
formed_past z g t u ms e p = subst (λ (b : Assignment). SimplyFormedTelescope z.arguments b (ren_telescope (up (length ms)) u)) (sym (entered z.simple t g))
    (subst (λ (l : List Mode). SimplyFormedTelescope z.arguments (extended_by (erase_telescope t) (extended_over g z.simple)) (ren_telescope (up (length l)) u)) (erased_modes t ∙ e)
    ((result_is_typed true z.arguments (extended_over g z.simple) (extended_by (erase_telescope t) (extended_over g z.simple)) (keeping (up (length (simple_modes (erase_telescope t)))))
    (renames (extended_over g z.simple) (extended_by (erase_telescope t) (extended_over g z.simple)) (up (length (simple_modes (erase_telescope t)))) (λ h v k. raised_all (erase_telescope t) (extended_over g z.simple) h ∙ k))).telescope
    u (ren_telescope (up (length (simple_modes (erase_telescope t)))) u) p (renames_telescope (up (length (simple_modes (erase_telescope t)))) u)).0)
