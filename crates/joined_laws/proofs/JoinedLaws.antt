-- Joined types, telescopes, kinds and lists: an equivalence, which renamings keep.
use Rattle.clf_syntax.specs.Renaming.{Renumbering, lifted, ren, ren_expression, ren_kind, ren_objects, ren_telescope, ren_type}
use Rattle.clf_syntax.specs.Tree.{PlainExpression, PlainObject}
use Rattle.clf_syntax.specs.TypeTree.{PlainKind, PlainTelescope, PlainType, binding, both, end, family, function, monad, top}
use Rattle.joined_laws.specs.JoinedTypes.{JoinedKind, JoinedTelescope, JoinedType, joined_argument, joined_binding, joined_both, joined_end, joined_family, joined_function, joined_monad, joined_no_argument, joined_top}
use Rattle.joined_laws.specs.Laws.{JoinedTypesLaws, RenamingKeepsJoined}
use Rattle.std.specs.Prelude.{List, [], ◌∷◌}
use Rattle.trace_equal.proofs.Closed.{carried, trail}
use Rattle.trace_equal.proofs.Joined.{joined_is_equivalence}
use Rattle.trace_equal.proofs.Moves.{renamed as renamed_exchange, renamed_expression as renamed_exchange_expression}
use Rattle.trace_equal.specs.Exchange.{Joined, JoinedEach, JoinedExpression, stop}

each_same : (ns : List PlainObject) → JoinedEach ns ns
each_same [] = tt
each_same (n ∷ ns) = (stop, each_same ns)

each_back : (ns os : List PlainObject) → JoinedEach ns os → JoinedEach os ns
each_back [] [] j = tt
each_back (n ∷ ns) (o ∷ os) j = (joined_is_equivalence.1 n o j.0, each_back ns os j.1)
each_back [] (o ∷ os) j = absurd j
each_back (n ∷ ns) [] j = absurd j

each_on : (ns os us : List PlainObject) → JoinedEach ns os → JoinedEach os us → JoinedEach ns us
each_on [] [] us j k = k
each_on (n ∷ ns) (o ∷ os) (u ∷ us) j k = (trail j.0 k.0, each_on ns os us j.1 k.1)
each_on [] (o ∷ os) us j k = absurd j
each_on (n ∷ ns) [] us j k = absurd j
each_on (n ∷ ns) (o ∷ os) [] j k = absurd k

mutual
  type_same : (a : PlainType) → JoinedType a a
  type_same (family f ns) = joined_family (each_same ns)
  type_same (function m a b) = joined_function (type_same a) (type_same b)
  type_same (both a b) = joined_both (type_same a) (type_same b)
  type_same top = joined_top
  type_same (monad s) = joined_monad (telescope_same s)

  telescope_same : (s : PlainTelescope) → JoinedTelescope s s
  telescope_same end = joined_end
  telescope_same (binding m a s) = joined_binding (type_same a) (telescope_same s)

kind_same : (k : PlainKind) → JoinedKind k k
kind_same [] = joined_no_argument
kind_same (a ∷ k) = joined_argument (type_same a) (kind_same k)

mutual
  type_back : {a b : PlainType} → JoinedType a b → JoinedType b a
  type_back (joined_family {ns = ns} {os = os} j) = joined_family (each_back ns os j)
  type_back (joined_function j k) = joined_function (type_back j) (type_back k)
  type_back (joined_both j k) = joined_both (type_back j) (type_back k)
  type_back joined_top = joined_top
  type_back (joined_monad j) = joined_monad (telescope_back j)

  telescope_back : {a b : PlainTelescope} → JoinedTelescope a b → JoinedTelescope b a
  telescope_back joined_end = joined_end
  telescope_back (joined_binding j k) = joined_binding (type_back j) (telescope_back k)

kind_back : {a b : PlainKind} → JoinedKind a b → JoinedKind b a
kind_back joined_no_argument = joined_no_argument
kind_back (joined_argument j k) = joined_argument (type_back j) (kind_back k)

mutual
  type_on : {a b c : PlainType} → JoinedType a b → JoinedType b c → JoinedType a c
  type_on (joined_family {ns = ns} {os = os} j) (joined_family {os = us} k) = joined_family (each_on ns os us j k)
  type_on (joined_function j k) (joined_function p q) = joined_function (type_on j p) (type_on k q)
  type_on (joined_both j k) (joined_both p q) = joined_both (type_on j p) (type_on k q)
  type_on joined_top joined_top = joined_top
  type_on (joined_monad j) (joined_monad k) = joined_monad (telescope_on j k)

  telescope_on : {a b c : PlainTelescope} → JoinedTelescope a b → JoinedTelescope b c → JoinedTelescope a c
  telescope_on joined_end joined_end = joined_end
  telescope_on (joined_binding j k) (joined_binding p q) = joined_binding (type_on j p) (telescope_on k q)

kind_on : {a b c : PlainKind} → JoinedKind a b → JoinedKind b c → JoinedKind a c
kind_on joined_no_argument joined_no_argument = joined_no_argument
kind_on (joined_argument j k) (joined_argument p q) = joined_argument (type_on j p) (kind_on k q)

pub joined_types_laws : JoinedTypesLaws
joined_types_laws = record {
  type = (type_same, (λ a b j. type_back j), (λ a b c j k. type_on j k));
  telescope = (telescope_same, (λ a b j. telescope_back j), (λ a b c j k. telescope_on j k));
  kind = (kind_same, (λ a b j. kind_back j), (λ a b c j k. kind_on j k));
  each = (each_same, each_back, each_on);
}

-- renaming
pub object_renamed : (r : Renumbering) {o u : PlainObject} → Joined o u → Joined (ren r o) (ren r u)
object_renamed r j = carried (ren r) (λ _ _ x. renamed_exchange r x) j

steps_renamed : (r : Renumbering) {o u : PlainExpression} → JoinedExpression o u → JoinedExpression (ren_expression r o) (ren_expression r u)
steps_renamed r j = carried (ren_expression r) (λ _ _ x. renamed_exchange_expression r x) j

each_renamed : (r : Renumbering) (ns os : List PlainObject) → JoinedEach ns os → JoinedEach (ren_objects r ns) (ren_objects r os)
each_renamed r [] [] j = tt
each_renamed r (n ∷ ns) (o ∷ os) j = (object_renamed r j.0, each_renamed r ns os j.1)
each_renamed r [] (o ∷ os) j = absurd j
each_renamed r (n ∷ ns) [] j = absurd j

mutual
  type_renamed : (r : Renumbering) {a b : PlainType} → JoinedType a b → JoinedType (ren_type r a) (ren_type r b)
  type_renamed r (joined_family {ns = ns} {os = os} j) = joined_family (each_renamed r ns os j)
  type_renamed r (joined_function j k) = joined_function (type_renamed r j) (type_renamed (lifted 1 r) k)
  type_renamed r (joined_both j k) = joined_both (type_renamed r j) (type_renamed r k)
  type_renamed r joined_top = joined_top
  type_renamed r (joined_monad j) = joined_monad (telescope_renamed r j)

  telescope_renamed : (r : Renumbering) {a b : PlainTelescope} → JoinedTelescope a b → JoinedTelescope (ren_telescope r a) (ren_telescope r b)
  telescope_renamed r joined_end = joined_end
  telescope_renamed r (joined_binding j k) = joined_binding (type_renamed r j) (telescope_renamed (lifted 1 r) k)

kind_renamed : (r : Renumbering) {a b : PlainKind} → JoinedKind a b → JoinedKind (ren_kind r a) (ren_kind r b)
kind_renamed r joined_no_argument = joined_no_argument
kind_renamed r (joined_argument j k) = joined_argument (type_renamed r j) (kind_renamed (lifted 1 r) k)

pub renaming_keeps_joined : RenamingKeepsJoined
renaming_keeps_joined r = record {
  object = λ o u j. object_renamed r j;
  expression = λ o u j. steps_renamed r j;
  each = each_renamed r;
  type = λ a b j. type_renamed r j;
  telescope = λ a b j. telescope_renamed r j;
  kind = λ a b j. kind_renamed r j;
}
