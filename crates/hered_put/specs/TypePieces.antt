-- Inner: the pieces of the function on types, each under a name that stays closed.
use Rattle.std.specs.Prelude.{ℕ, List}
use Rattle.clf_syntax.specs.declared.tree.Mode.{Mode}
use Rattle.clf_syntax.specs.Tree.{PlainObject}
use Rattle.clf_syntax.specs.TypeTree.{PlainType, family, PlainTelescope, PlainKind}
use Rattle.hered_subst.specs.Substitution.{Environment}
use Rattle.hered_put.specs.Function.{Answer, made, after, nested, run_each, run_type, run_telescope, run_kind}

unfoldable pub indices_of : ℕ → Environment → List PlainObject → Answer (List PlainObject)
indices_of k s ns = run_each (nested k) s ns

unfoldable pub family_of : ℕ → Answer (List PlainObject) → Answer PlainType
family_of f a = after a (λ ns. made (family f ns))

unfoldable pub type_of : ℕ → Environment → PlainType → Answer PlainType
type_of k s a = run_type (nested k) s a

unfoldable pub tele_of : ℕ → Environment → PlainTelescope → Answer PlainTelescope
tele_of k s t = run_telescope (nested k) s t

unfoldable pub tele_entry_of : ℕ → Environment → Mode × PlainType → Answer (Mode × PlainType)
tele_entry_of k s e = after (run_type (nested k) s e.1) (λ x. made (e.0, x))

unfoldable pub kind_of : ℕ → Environment → PlainKind → Answer PlainKind
kind_of k s l = run_kind (nested k) s l
