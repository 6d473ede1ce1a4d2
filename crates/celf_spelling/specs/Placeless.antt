-- Desugared trees without their places: each span is empty.
use Rattle.std.specs.Prelude.{map}
use Rattle.celf_sugar.specs.declared.plain.PName.{PName}
use Rattle.celf_sugar.specs.PlainTree.{DesugaredObject, lam, pair, unit, monadic, atomic, hole, DesugaredSpine, end_of_spine, and_then, DesugaredAct, argument, first, second, DesugaredSteps, no_steps, step, DesugaredTuple, end_of_tuple, entry, DesugaredType, family, function, both, top, monad, DesugaredTelescope, end, binding, DesugaredClass, of_family, of_constant, DesugaredBody, declare, query, trace, equal, check}
use Rattle.celf_spelling.specs.Printed.{nowhere}

abbrev pub placeless_name : PName → PName
placeless_name n = record n { span = nowhere }

abbrev mutual
  pub placeless_object : DesugaredObject → DesugaredObject
  placeless_object (lam s m n b) = lam nowhere m n (placeless_object b)
  placeless_object (pair s l r) = pair nowhere (placeless_object l) (placeless_object r)
  placeless_object (unit s) = unit nowhere
  placeless_object (monadic s ss t) = monadic nowhere (placeless_steps ss) (placeless_tuple t)
  placeless_object (atomic s h es) = atomic nowhere (placeless_name h) (placeless_spine es)
  placeless_object (hole s) = hole nowhere

  pub placeless_spine : DesugaredSpine → DesugaredSpine
  placeless_spine end_of_spine = end_of_spine
  placeless_spine (and_then a es) = and_then (placeless_act a) (placeless_spine es)

  pub placeless_act : DesugaredAct → DesugaredAct
  placeless_act (argument m o) = argument m (placeless_object o)
  placeless_act first = first
  placeless_act second = second

  pub placeless_steps : DesugaredSteps → DesugaredSteps
  placeless_steps no_steps = no_steps
  placeless_steps (step bs h es ss) = step bs (placeless_name h) (placeless_spine es) (placeless_steps ss)

  pub placeless_tuple : DesugaredTuple → DesugaredTuple
  placeless_tuple end_of_tuple = end_of_tuple
  placeless_tuple (entry m o t) = entry m (placeless_object o) (placeless_tuple t)

abbrev mutual
  pub placeless_type : DesugaredType → DesugaredType
  placeless_type (family s h is) = family nowhere (placeless_name h) (map (λ o. placeless_object o) is)
  placeless_type (function s m n a b) = function nowhere m n (placeless_type a) (placeless_type b)
  placeless_type (both s a b) = both nowhere (placeless_type a) (placeless_type b)
  placeless_type (top s) = top nowhere
  placeless_type (monad s t) = monad nowhere (placeless_telescope t)

  pub placeless_telescope : DesugaredTelescope → DesugaredTelescope
  placeless_telescope end = end
  placeless_telescope (binding m n a t) = binding m n (placeless_type a) (placeless_telescope t)

abbrev pub placeless_class : DesugaredClass → DesugaredClass
placeless_class (of_family t) = of_family (placeless_telescope t)
placeless_class (of_constant a) = of_constant (placeless_type a)

abbrev pub placeless_body : DesugaredBody → DesugaredBody
placeless_body (declare name count class) = declare name count (placeless_class class)
placeless_body (query d e l a t) = query d e l a (placeless_type t)
placeless_body (trace n t) = trace n (placeless_telescope t)
placeless_body (equal l r t) = equal (placeless_object l) (placeless_object r) (placeless_type t)
placeless_body (check o t) = check (placeless_object o) (placeless_type t)
