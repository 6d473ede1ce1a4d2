-- Inner: gathering of types, telescopes, kinds and cores as a function.
use Rattle.std.specs.Prelude.{List, [], ◌∷◌, Option, Some, None}
use Rattle.clf_syntax.specs.declared.tree.Mode.{Mode}
use Rattle.clf_syntax.specs.declared.tree.Mode.TheVariants.{Persistent}
use Rattle.clf_syntax.specs.Tree.{PlainObject}
use Rattle.clf_syntax.specs.TypeTree.{PlainType, family, function, both, top, monad, PlainTelescope, end, binding, PlainKind}
use Rattle.use_contexts.specs.Context.{Context}
use Rattle.hered_put.specs.Function.{Answer, made, untyped, after}
use Rattle.clf_sig.specs.Entry.{PlainClass, family_of, constant_of, family_kind}
use Rattle.clf_sig.specs.Core.{PlainCore, declares, queries, traces, equates, checks}
use Rattle.pattern_laws.specs.Equations.{Equation}
use Rattle.celf_gather.specs.Scene.{Scene, put_in_kind}
use Rattle.celf_gather.specs.Gathered.{Reached, gathered, each_after}

-- the arguments that are left of a kind, with the equations so far
abbrev pub Arguments : Type 0
Arguments = PlainKind × List Equation

abbrev pub index_after : Scene → Context → PlainObject → Arguments → Answer Arguments
index_after k g n ((a ∷ l), p) = after (gathered k g n a p) (λ q. after (put_in_kind n a l) (λ v. made (v, q)))
index_after k g n ([], p) = untyped

abbrev pub no_arguments : Arguments → Answer (List Equation)
no_arguments ([], p) = made p
no_arguments ((a ∷ l), p) = untyped

abbrev pub indices_after : Scene → Context → List PlainObject → Option PlainKind → List Equation → Answer (List Equation)
indices_after k g ns None p = untyped
indices_after k g ns (Some l) p = after (each_after (index_after k g) ns (l, p)) no_arguments

abbrev mutual
  pub type_after : Scene → Context → PlainType → List Equation → Answer (List Equation)
  type_after k g (family f ns) p = indices_after k g ns (family_kind k.signature f) p
  type_after k g (function m a b) p = after (type_after k g a p) (λ q. type_after k ((m, a) ∷ g) b q)
  type_after k g (both a b) p = after (type_after k g a p) (λ q. type_after k g b q)
  type_after k g top p = made p
  type_after k g (monad s) p = telescope_after k g s p

  pub telescope_after : Scene → Context → PlainTelescope → List Equation → Answer (List Equation)
  telescope_after k g end p = made p
  telescope_after k g (binding m a s) p = after (type_after k g a p) (λ q. telescope_after k ((m, a) ∷ g) s q)

abbrev pub kind_after : Scene → Context → PlainKind → List Equation → Answer (List Equation)
kind_after k g [] p = made p
kind_after k g (a ∷ l) p = after (type_after k g a p) (λ q. kind_after k ((Persistent, a) ∷ g) l q)

-- a type whose variable is the newest of the context for what follows
abbrev pub bound_after : Scene → Mode × PlainType → Reached → Answer Reached
bound_after k e x = after (type_after k x.0 e.1 x.1) (λ q. made (e ∷ x.0, q))

abbrev pub class_after : Scene → PlainClass → List Equation → Answer (List Equation)
class_after k (family_of l) p = kind_after k [] l p
class_after k (constant_of a) p = type_after k [] a p

-- a directive's type before its objects
abbrev pub core_after : Scene → PlainCore → List Equation → Answer (List Equation)
core_after k (declares name e) p = class_after k e.class p
core_after k (queries a) p = type_after k [] a p
core_after k (traces s) p = telescope_after k [] s p
core_after k (equates m n a) p = after (type_after k [] a p) (λ q. after (gathered k [] m a q) (λ r. gathered k [] n a r))
core_after k (checks n a) p = after (type_after k [] a p) (λ q. gathered k [] n a q)
