-- Laws of trees, as statements; the functions of the crate's `laws` state them.
use Rattle.std.specs.Prelude.{ℕ, ◌≡◌, true}
use Rattle.clf_syntax.specs.declared.tree.Obj.{Obj}
use Rattle.clf_syntax.specs.declared.tree.Neutral.{Neutral}
use Rattle.clf_syntax.specs.declared.tree.Expr.{Expr}
use Rattle.clf_syntax.specs.declared.tree.Ty.{Ty}
use Rattle.clf_syntax.specs.declared.tree.Tele.{Tele}
use Rattle.clf_syntax.specs.declared.tree.Kind.{Kind}
use Rattle.clf_syntax.specs.declared.tree.Simple.{Simple}
use Rattle.clf_syntax.specs.TypeTree.{PlainType, PlainTelescope, PlainKind}
use Rattle.clf_syntax.specs.Renaming.{Renumbering, ren_type, ren_telescope, ren_kind}
use Rattle.clf_syntax.specs.Occurs.{occurs_type, occurs_telescope, occurs_kind}
use Rattle.clf_syntax.specs.Plain.{plain_obj, plain_neutral, plain_expr}
use Rattle.clf_syntax.specs.PlainTypes.{plain_ty, plain_tele, plain_kind}
use Rattle.clf_syntax.specs.PlainSimple.{plain_simple}

-- Trees in memory with the same plain tree are the same.
pub record PlainIsOneToOne : Type 0 where
  pub objects : (x y : Obj) → plain_obj x ≡ plain_obj y → x ≡ y
  pub neutrals : (x y : Neutral) → plain_neutral x ≡ plain_neutral y → x ≡ y
  pub expressions : (x y : Expr) → plain_expr x ≡ plain_expr y → x ≡ y
  pub types : (x y : Ty) → plain_ty x ≡ plain_ty y → x ≡ y
  pub telescopes : (x y : Tele) → plain_tele x ≡ plain_tele y → x ≡ y
  pub kinds : (x y : Kind) → plain_kind x ≡ plain_kind y → x ≡ y
  pub simple_types : (x y : Simple) → plain_simple x ≡ plain_simple y → x ≡ y

-- A renaming looks at the variables that occur alone.
pub record LooksAtOccurring : Type 0 where
  pub types : (r s : Renumbering) (a : PlainType) → ((i : ℕ) → occurs_type i a ≡ true → r i ≡ s i) → ren_type r a ≡ ren_type s a
  pub telescopes : (r s : Renumbering) (t : PlainTelescope) → ((i : ℕ) → occurs_telescope i t ≡ true → r i ≡ s i) → ren_telescope r t ≡ ren_telescope s t
  pub kinds : (r s : Renumbering) (k : PlainKind) → ((i : ℕ) → occurs_kind i k ≡ true → r i ≡ s i) → ren_kind r k ≡ ren_kind s k

-- What occurs after a renaming is where it puts something that occurred before.
pub record OccursBefore : Type 0 where
  pub types : (r : Renumbering) (a : PlainType) (i : ℕ) → occurs_type i (ren_type r a) ≡ true → (j : ℕ) × (r j ≡ i) × (occurs_type j a ≡ true)
  pub telescopes : (r : Renumbering) (t : PlainTelescope) (i : ℕ) → occurs_telescope i (ren_telescope r t) ≡ true → (j : ℕ) × (r j ≡ i) × (occurs_telescope j t ≡ true)
  pub kinds : (r : Renumbering) (k : PlainKind) (i : ℕ) → occurs_kind i (ren_kind r k) ≡ true → (j : ℕ) × (r j ≡ i) × (occurs_kind j k ≡ true)
