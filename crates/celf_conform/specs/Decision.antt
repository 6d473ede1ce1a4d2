-- Inner: the first misfit, found by cases. A part's children come in the order of their numbers, before the part's own last test. The scope is the
-- list of the variables' simple types, the newest first.
use Rattle.std.specs.Prelude.{ℕ, suc, ◌==◌, Bool, true, false, if◌then◌else◌, List, [], ◌∷◌, length, Option, Some, None, Result, Ok, Err, slice_get}
use Rattle.clf_syntax.specs.declared.tree.Mode.{Mode}
use Rattle.clf_syntax.specs.declared.tree.Head.{Head}
use Rattle.clf_syntax.specs.declared.tree.Head.TheVariants.{Const, Var, Meta}
use Rattle.clf_syntax.specs.Modes.{same_mode}
use Rattle.clf_syntax.specs.Tree.{PlainObject, lam, pair, unit, monadic, atomic, hole, PlainNeutral, head_alone, app, fst, snd, PlainExpression, step, done, PlainTuple, empty, entry, PlainElimination, arg, first, second, head_of}
use Rattle.clf_syntax.specs.TypeTree.{PlainType, family, function, both, top, monad, PlainTelescope, end, binding, PlainKind, SimpleType, base, arrow, simple_with, simple_top, lax, SimpleTelescope, simple_end, simple_binding}
use Rattle.clf_syntax.specs.Simple.{erase, simple_modes}
use Rattle.clf_sig.specs.Entry.{PlainClass, family_of, constant_of}
use Rattle.clf_sig.specs.Core.{PlainCore, declares, queries, traces, equates, checks}
use Rattle.hered_subst.specs.TypedEnvironments.{is_metavariable}
use Rattle.clf_simple.specs.Decision.{HeadTypes, typed, behind}
use Rattle.celf_conform.specs.declared.misfit.Misfit.{Misfit}
use Rattle.celf_conform.specs.declared.misfit.Misfit.TheVariants.{NotFunction, NotPair, NotTop, NotMonad, NotAtomic, NotClosed, ModeDiffers, Width, FamilyDiffers, UnknownHead, FamilyArity}
use Rattle.celf_conform.specs.Known.{PlainKnown, constant_type as constant_type_in}

abbrev pub constant_type : PlainKnown → ℕ → Option SimpleType
constant_type k c = constant_type_in k c

-- one part after another
abbrev pub first_of : Option Misfit → Option Misfit → Option Misfit
first_of (Some w) x = Some w
first_of None x = x

abbrev pub and_then : {A B : Type 0} → Result A Misfit → (A → Result B Misfit) → Result B Misfit
and_then (Ok a) f = f a
and_then (Err w) f = Err w

abbrev pub unless : {A : Type 0} → Option Misfit → A → Result A Misfit
unless None a = Ok a
unless (Some w) a = Err w

abbrev pub found_or : Misfit → Option SimpleType → Result SimpleType Misfit
found_or w (Some t) = Ok t
found_or w None = Err w

-- ---- heads, and what is done to them
abbrev pub head_found : PlainKnown → List SimpleType → Head → Result SimpleType Misfit
head_found k g (Const c) = found_or (UnknownHead (Const c)) (constant_type k c)
head_found k g (Var i) = found_or (UnknownHead (Var i)) (slice_get g i)
head_found k g (Meta m) = Err NotClosed

abbrev pub argued : Mode → SimpleType → (SimpleType → Option Misfit) → Result SimpleType Misfit
argued m (arrow n d c) f = if same_mode m n then unless (f d) c else Err (ModeDiffers n m)
argued m _ f = Err NotFunction

abbrev pub first_found : SimpleType → Result SimpleType Misfit
first_found (simple_with c d) = Ok c
first_found _ = Err NotPair

abbrev pub second_found : SimpleType → Result SimpleType Misfit
second_found (simple_with c d) = Ok d
second_found _ = Err NotPair

-- ---- a part at a type of its form
-- a lambda or an entry in its mode
abbrev pub at_mode : Mode → Mode → Option Misfit → Option Misfit
at_mode m n w = if same_mode m n then w else Some (ModeDiffers n m)

abbrev pub at_function : Mode → SimpleType → (SimpleType → SimpleType → Option Misfit) → Option Misfit
at_function m (arrow n d c) f = at_mode m n (f d c)
at_function m _ f = Some NotFunction

abbrev pub at_with : SimpleType → (SimpleType → Option Misfit) → (SimpleType → Option Misfit) → Option Misfit
at_with (simple_with c d) l r = first_of (l c) (r d)
at_with _ l r = Some NotPair

abbrev pub at_top : SimpleType → Option Misfit
at_top simple_top = None
at_top _ = Some NotTop

abbrev pub at_lax : SimpleType → (SimpleTelescope → Option Misfit) → Option Misfit
at_lax (lax s) f = f s
at_lax _ f = Some NotMonad

-- the family that is wanted, and what is found
abbrev pub same_family : SimpleType → SimpleType → Option Misfit
same_family (base f) (base g) = if f == g then None else Some (FamilyDiffers g f)
same_family _ _ = Some NotAtomic

abbrev pub at_family : SimpleType → Result SimpleType Misfit → Option Misfit
at_family t (Ok u) = same_family t u
at_family t (Err w) = Some w

-- An object to be filled in is typed, or nothing can be filled in for it.
abbrev pub filled : Bool → Option Misfit
filled true = None
filled false = Some NotClosed

abbrev pub is_meta : PlainNeutral → Bool
is_meta n = is_metavariable (head_of n)

-- ---- steps
abbrev pub other_mode : Mode → Mode → Option Misfit
other_mode wanted m = if same_mode m wanted then None else Some (ModeDiffers wanted m)

abbrev pub first_other_mode : List Mode → List Mode → Option Misfit
first_other_mode [] ms = None
first_other_mode (k ∷ ks) [] = None
first_other_mode (k ∷ ks) (m ∷ ms) = first_of (other_mode k m) (first_other_mode ks ms)

-- A pattern has as many modes as there are entries, and the same.
abbrev pub pattern : List Mode → List Mode → Option Misfit
pattern wanted ms = if length ms == length wanted then first_other_mode wanted ms else Some (Width (length wanted) (length ms))

abbrev pub opened : List Mode → List SimpleType → SimpleType → Result (List SimpleType) Misfit
opened ms g (lax s) = unless (pattern (simple_modes s) ms) (behind s g)
opened ms g _ = Err NotMonad

abbrev pub in_scope : Result (List SimpleType) Misfit → (List SimpleType → Option Misfit) → Option Misfit
in_scope (Ok l) f = f l
in_scope (Err w) f = Some w

-- ---- tuples; w is what is wrong where one of both ends first
abbrev pub at_end : Misfit → SimpleTelescope → Option Misfit
at_end w simple_end = None
at_end w (simple_binding m t s) = Some w

abbrev pub at_entry : Misfit → Mode → SimpleTelescope → (SimpleType → Option Misfit) → (SimpleTelescope → Option Misfit) → Option Misfit
at_entry w m simple_end f later = Some w
at_entry w m (simple_binding n d u) f later = first_of (at_mode m n (f d)) (later u)

abbrev pub tuple_width : PlainTuple → ℕ
tuple_width empty = 0
tuple_width (entry m n t) = suc (tuple_width t)

abbrev pub widths : PlainTuple → SimpleTelescope → Misfit
widths t s = Width (length (simple_modes s)) (tuple_width t)

abbrev pub head_types : PlainKnown → HeadTypes
head_types k = record { constants = k.constants; metavariables = k.metavariables }

abbrev mutual
  pub misfit : PlainKnown → List SimpleType → PlainObject → SimpleType → Option Misfit
  misfit k g (lam m b) t = at_function m t (λ d c. misfit k (d ∷ g) b c)
  misfit k g (pair l r) t = at_with t (λ c. misfit k g l c) (λ d. misfit k g r d)
  misfit k g unit t = at_top t
  misfit k g (monadic e) t = at_lax t (λ s. expression_misfit k g e s)
  misfit k g (atomic n) t = if is_meta n then filled (typed (head_types k) g (atomic n) t) else at_family t (found k g n)
  misfit k g hole t = Some NotClosed

  pub found : PlainKnown → List SimpleType → PlainNeutral → Result SimpleType Misfit
  found k g (head_alone h) = head_found k g h
  found k g (app m r n) = and_then (found k g r) (λ t. argued m t (λ d. misfit k g n d))
  found k g (fst r) = and_then (found k g r) first_found
  found k g (snd r) = and_then (found k g r) second_found

  pub expression_misfit : PlainKnown → List SimpleType → PlainExpression → SimpleTelescope → Option Misfit
  expression_misfit k g (step ms r e) s = in_scope (and_then (found k g r) (opened ms g)) (λ l. expression_misfit k l e s)
  expression_misfit k g (done t) s = tuple_misfit k g (widths t s) t s

  pub tuple_misfit : PlainKnown → List SimpleType → Misfit → PlainTuple → SimpleTelescope → Option Misfit
  tuple_misfit k g w empty s = at_end w s
  tuple_misfit k g w (entry m n t) s = at_entry w m s (λ d. misfit k g n d) (λ u. tuple_misfit k g w t u)

-- ---- the same along the lists that trees in memory have
abbrev pub elimination_found : PlainKnown → List SimpleType → PlainElimination → SimpleType → Result SimpleType Misfit
elimination_found k g (arg m n) t = argued m t (λ d. misfit k g n d)
elimination_found k g first t = first_found t
elimination_found k g second t = second_found t

abbrev pub spine_found : PlainKnown → List SimpleType → List PlainElimination → SimpleType → Result SimpleType Misfit
spine_found k g [] t = Ok t
spine_found k g (e ∷ es) t = and_then (elimination_found k g e t) (spine_found k g es)

abbrev pub entry_misfit : PlainKnown → List SimpleType → Mode × PlainObject → Mode × SimpleType → Option Misfit
entry_misfit k g p e = at_mode p.0 e.0 (misfit k g p.1 e.1)

abbrev pub step_scope : PlainKnown → List SimpleType → List Mode × PlainNeutral → Result (List SimpleType) Misfit
step_scope k g s = and_then (found k g s.1) (opened s.0 g)

abbrev pub steps_scope : PlainKnown → List SimpleType → List (List Mode × PlainNeutral) → Result (List SimpleType) Misfit
steps_scope k g [] = Ok g
steps_scope k g (s ∷ ss) = and_then (step_scope k g s) (λ l. steps_scope k l ss)

-- ---- types, telescopes and kinds
-- the indices that have an argument of the kind, in order
abbrev pub indices_misfit : PlainKnown → List SimpleType → List PlainObject → List SimpleType → Option Misfit
indices_misfit k g [] ts = None
indices_misfit k g (n ∷ ns) [] = None
indices_misfit k g (n ∷ ns) (t ∷ ts) = first_of (misfit k g n t) (indices_misfit k g ns ts)

abbrev pub arity : ℕ → ℕ → Option Misfit
arity wanted number = if wanted == number then None else Some (FamilyArity wanted number)

abbrev pub family_misfit : PlainKnown → List SimpleType → ℕ → List PlainObject → Option (List SimpleType) → Option Misfit
family_misfit k g f ns (Some ts) = first_of (indices_misfit k g ns ts) (arity (length ts) (length ns))
family_misfit k g f ns None = Some (UnknownHead (Const f))

abbrev mutual
  pub type_misfit : PlainKnown → List SimpleType → PlainType → Option Misfit
  type_misfit k g (family f ns) = family_misfit k g f ns (k.arguments f)
  type_misfit k g (function m a b) = first_of (type_misfit k g a) (type_misfit k (erase a ∷ g) b)
  type_misfit k g (both a b) = first_of (type_misfit k g a) (type_misfit k g b)
  type_misfit k g top = None
  type_misfit k g (monad s) = telescope_misfit k g s

  pub telescope_misfit : PlainKnown → List SimpleType → PlainTelescope → Option Misfit
  telescope_misfit k g end = None
  telescope_misfit k g (binding m a s) = first_of (type_misfit k g a) (telescope_misfit k (erase a ∷ g) s)

abbrev pub kind_misfit : PlainKnown → List SimpleType → PlainKind → Option Misfit
kind_misfit k g [] = None
kind_misfit k g (a ∷ as') = first_of (type_misfit k g a) (kind_misfit k (erase a ∷ g) as')

abbrev pub class_misfit : PlainKnown → PlainClass → Option Misfit
class_misfit k (family_of as') = kind_misfit k [] as'
class_misfit k (constant_of a) = type_misfit k [] a

abbrev pub check_misfit : PlainKnown → PlainObject → PlainType → Option Misfit
check_misfit k n a = first_of (type_misfit k [] a) (misfit k [] n (erase a))

abbrev pub core_misfit : PlainKnown → PlainCore → Option Misfit
core_misfit k (declares name e) = class_misfit k e.class
core_misfit k (queries a) = type_misfit k [] a
core_misfit k (traces s) = telescope_misfit k [] s
core_misfit k (equates m n a) = first_of (check_misfit k m a) (misfit k [] n (erase a))
core_misfit k (checks n a) = check_misfit k n a
