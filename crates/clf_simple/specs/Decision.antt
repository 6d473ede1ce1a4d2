-- Inner: simple typing decided by cases. The scope is the list of the variables' types, the newest first.
use Rattle.std.specs.Prelude.{◌==◌, Bool, true, false, ◌&&◌, if◌then◌else◌, List, [], ◌∷◌, Option, Some, None}
use Rattle.clf_syntax.specs.declared.tree.Mode.{Mode}
use Rattle.clf_syntax.specs.Modes.{same_mode}
use Rattle.clf_syntax.specs.Tree.{PlainObject, lam, pair, unit, monadic, atomic, hole, PlainNeutral, head_alone, app, fst, snd, PlainExpression, step, done, PlainTuple, empty, entry, PlainElimination, arg, first, second, head_of}
use Rattle.clf_syntax.specs.TypeTree.{SimpleType, base, arrow, simple_with, simple_top, lax, SimpleTelescope, simple_end, simple_binding}
use Rattle.clf_syntax.specs.Simple.{Assignment, assigned}
use Rattle.hered_subst.specs.TypedEnvironments.{is_metavariable}

-- the types of constants and of metavariables, by their numbers
pub record HeadTypes : Type 0 where
  pub constants : List SimpleType
  pub metavariables : List SimpleType

abbrev pub heads_in : HeadTypes → List SimpleType → Assignment
heads_in k g = assigned k.constants k.metavariables g

abbrev mutual
  pub same_type : SimpleType → SimpleType → Bool
  same_type (base f) (base g) = f == g
  same_type (arrow m d c) (arrow n e b) = same_mode m n && same_type d e && same_type c b
  same_type (simple_with c d) (simple_with e b) = same_type c e && same_type d b
  same_type simple_top simple_top = true
  same_type (lax s) (lax u) = same_telescope s u
  same_type _ _ = false

  pub same_telescope : SimpleTelescope → SimpleTelescope → Bool
  same_telescope simple_end simple_end = true
  same_telescope (simple_binding m t s) (simple_binding n u v) = same_mode m n && same_type t u && same_telescope s v
  same_telescope _ _ = false

abbrev pub same_entry : Mode × SimpleType → Mode × SimpleType → Bool
same_entry e f = same_mode e.0 f.0 && same_type e.1 f.1

-- whether these are the modes of the entries
abbrev pub has_modes : SimpleTelescope → List Mode → Bool
has_modes simple_end [] = true
has_modes (simple_binding m t s) (n ∷ ns) = same_mode n m && has_modes s ns
has_modes _ _ = false

-- the scope after the entries
abbrev pub behind : SimpleTelescope → List SimpleType → List SimpleType
behind simple_end g = g
behind (simple_binding m t s) g = behind s (t ∷ g)

-- a part at a type of its form
abbrev pub at_function : Mode → SimpleType → (SimpleType → SimpleType → Bool) → Bool
at_function m (arrow n d c) f = same_mode m n && f d c
at_function m _ f = false

abbrev pub at_with : SimpleType → (SimpleType → SimpleType → Bool) → Bool
at_with (simple_with c d) f = f c d
at_with _ f = false

abbrev pub at_top : SimpleType → Bool
at_top simple_top = true
at_top _ = false

abbrev pub at_lax : SimpleType → (SimpleTelescope → Bool) → Bool
at_lax (lax s) f = f s
at_lax _ f = false

abbrev pub at_end : SimpleTelescope → Bool
at_end simple_end = true
at_end _ = false

abbrev pub at_entry : Mode → SimpleTelescope → (SimpleType → SimpleTelescope → Bool) → Bool
at_entry m (simple_binding n d s) f = same_mode m n && f d s
at_entry m _ f = false

abbrev pub is_meta : PlainNeutral → Bool
is_meta n = is_metavariable (head_of n)

-- whether a neutral may stand at the type, as one whose head is a metavariable or not
abbrev pub stands : Bool → SimpleType → Bool
stands k (base f) = true
stands k (lax s) = k
stands k _ = false

abbrev pub stands_as : Bool → Option SimpleType → SimpleType → Bool
stands_as k None t = false
stands_as k (Some u) t = stands k t && same_type u t

-- a neutral under an elimination
abbrev pub argued : Mode → SimpleType → (SimpleType → Bool) → Option SimpleType
argued m (arrow n d c) f = if same_mode m n && f d then Some c else None
argued m _ f = None

abbrev pub first_type : SimpleType → Option SimpleType
first_type (simple_with c d) = Some c
first_type _ = None

abbrev pub second_type : SimpleType → Option SimpleType
second_type (simple_with c d) = Some d
second_type _ = None

abbrev pub then_type : Option SimpleType → (SimpleType → Option SimpleType) → Option SimpleType
then_type None f = None
then_type (Some t) f = f t

-- the scope after a step, where its right side has this type
abbrev pub opened : List Mode → SimpleType → List SimpleType → Option (List SimpleType)
opened ms (lax s) g = if has_modes s ms then Some (behind s g) else None
opened ms _ g = None

abbrev pub opened_by : List Mode → Option SimpleType → List SimpleType → Option (List SimpleType)
opened_by ms None g = None
opened_by ms (Some t) g = opened ms t g

abbrev pub in_scope : Option (List SimpleType) → (List SimpleType → Bool) → Bool
in_scope None f = false
in_scope (Some g) f = f g

abbrev mutual
  pub typed : HeadTypes → List SimpleType → PlainObject → SimpleType → Bool
  typed k g (lam m b) t = at_function m t (λ d c. typed k (d ∷ g) b c)
  typed k g (pair l r) t = at_with t (λ c d. typed k g l c && typed k g r d)
  typed k g unit t = at_top t
  typed k g (monadic e) t = at_lax t (λ s. expression_typed k g e s)
  typed k g (atomic n) t = stands_as (is_meta n) (type_of k g n) t
  typed k g hole t = false

  pub type_of : HeadTypes → List SimpleType → PlainNeutral → Option SimpleType
  type_of k g (head_alone h) = heads_in k g h
  type_of k g (app m r n) = then_type (type_of k g r) (λ t. argued m t (λ d. typed k g n d))
  type_of k g (fst r) = then_type (type_of k g r) first_type
  type_of k g (snd r) = then_type (type_of k g r) second_type

  pub expression_typed : HeadTypes → List SimpleType → PlainExpression → SimpleTelescope → Bool
  expression_typed k g (step ms r e) s = in_scope (opened_by ms (type_of k g r) g) (λ l. expression_typed k l e s)
  expression_typed k g (done t) s = tuple_typed k g t s

  pub tuple_typed : HeadTypes → List SimpleType → PlainTuple → SimpleTelescope → Bool
  tuple_typed k g empty s = at_end s
  tuple_typed k g (entry m n t) s = at_entry m s (λ d u. typed k g n d && tuple_typed k g t u)

-- the same along the lists that trees in memory have
abbrev pub elimination_type : HeadTypes → List SimpleType → PlainElimination → SimpleType → Option SimpleType
elimination_type k g (arg m n) t = argued m t (λ d. typed k g n d)
elimination_type k g first t = first_type t
elimination_type k g second t = second_type t

abbrev pub spine_type : HeadTypes → List SimpleType → List PlainElimination → SimpleType → Option SimpleType
spine_type k g [] t = Some t
spine_type k g (e ∷ es) t = then_type (elimination_type k g e t) (λ u. spine_type k g es u)

abbrev pub entry_typed : HeadTypes → List SimpleType → Mode × PlainObject → Mode × SimpleType → Bool
entry_typed k g p e = same_mode p.0 e.0 && typed k g p.1 e.1

abbrev pub step_scope : HeadTypes → List SimpleType → List Mode × PlainNeutral → Option (List SimpleType)
step_scope k g s = opened_by s.0 (type_of k g s.1) g

abbrev pub then_scope : Option (List SimpleType) → (List SimpleType → Option (List SimpleType)) → Option (List SimpleType)
then_scope None f = None
then_scope (Some g) f = f g

abbrev pub steps_scope : HeadTypes → List SimpleType → List (List Mode × PlainNeutral) → Option (List SimpleType)
steps_scope k g [] = Some g
steps_scope k g (s ∷ ss) = then_scope (step_scope k g s) (λ l. steps_scope k l ss)
