-- Inner: what is known of heads and families, and what follows a variable once an object is put for it.
use Rattle.std.specs.Prelude.{ℕ, ◌+◌, List, Option, None, option_map, slice_get}
use Rattle.clf_syntax.specs.declared.tree.Mode.{Mode}
use Rattle.clf_syntax.specs.declared.tree.Head.{Head}
use Rattle.clf_syntax.specs.declared.tree.Head.TheVariants.{Const, Var, Meta}
use Rattle.clf_syntax.specs.Tree.{PlainObject}
use Rattle.clf_syntax.specs.TypeTree.{PlainType, PlainTelescope, PlainKind}
use Rattle.clf_syntax.specs.Simple.{erase}
use Rattle.clf_syntax.specs.Renaming.{ren_type, up}
use Rattle.use_contexts.specs.Context.{Context}
use Rattle.hered_subst.specs.Substitution.{single}
use Rattle.hered_subst.proofs.SimpleTyping.{rank}
use Rattle.hered_put.specs.Function.{Answer, nested, run_type, run_telescope, run_kind}
use Rattle.clf_simple.specs.Decision.{HeadTypes}
use Rattle.clf_sig.specs.Entry.{PlainSignature}
use Rattle.elaboration_laws.specs.ItemSetting.{given_type}

-- a signature, the types of implicit variables, and the simple types of constants, implicit variables and metavariables
pub record Scene : Type 0 where
  pub signature : PlainSignature
  pub variables : List PlainType
  pub types : HeadTypes

-- the type of variable i, whose entry this is
abbrev pub entry_type : ℕ → Option (Mode × PlainType) → Option PlainType
entry_type i e = option_map (λ x. ren_type (up (i + 1)) x.1) e

-- the type of a head that is no metavariable
abbrev pub head_type : Scene → Context → Head → Option PlainType
head_type k g (Const c) = given_type k.signature k.variables c
head_type k g (Var i) = entry_type i (slice_get g i)
head_type k g (Meta m) = None

-- Bounded by the rank of the erasure of the type that the object has.
unfoldable pub put_in_type : PlainObject → PlainType → PlainType → Answer PlainType
put_in_type n a c = run_type (nested (rank (erase a))) (single n 0) c

unfoldable pub put_in_telescope : PlainObject → PlainType → PlainTelescope → Answer PlainTelescope
put_in_telescope n a s = run_telescope (nested (rank (erase a))) (single n 0) s

unfoldable pub put_in_kind : PlainObject → PlainType → PlainKind → Answer PlainKind
put_in_kind n a l = run_kind (nested (rank (erase a))) (single n 0) l
