-- What an item comes to in which something is not written: its core, or why none is answered.
use Rattle.std.specs.Prelude.{ℕ, ◌+◌, ◌≡◌, ◌<◌, ◌^◌, List, [], ◌++◌, length, map, Option, Some, Result, Ok, Err, option_map, slice_get}
use Rattle.std.specs.List.{range_with_len}
use Rattle.clf_syntax.specs.TypeTree.{PlainType}
use Rattle.clf_syntax.specs.Wide.{IsWide}
use Rattle.clf_syntax.specs.declared.fault.OrWide.{OrWide}
use Rattle.clf_syntax.specs.declared.fault.OrWide.TheVariants.{Fault, NoMemory, TooFar}
use Rattle.clf_sig.specs.declared.item.Core.{Core}
use Rattle.clf_sig.specs.Entry.{PlainClass, PlainEntry, PlainSignature}
use Rattle.clf_sig.specs.Core.{PlainCore, declares, queries, traces, equates, checks, plain_core}
use Rattle.pattern_laws.specs.Instantiations.{Types}
use Rattle.unify_laws.specs.Problems.{Problem}
use Rattle.celf_sugar.specs.PlainTree.{DesugaredBody, declare, query, trace, equal, check, DesugaredItem}
use Rattle.celf_implicit.specs.declared.variable.Variable.{Variable}
use Rattle.celf_implicit.specs.Rounds.{determined, undetermined}
use Rattle.celf_implicit.specs.Appearance.{IsByAppearance}
use Rattle.celf_explicit.specs.Explicit.{entry_of}
use Rattle.celf_elaboration.specs.Names.{TypedVariable}
use Rattle.celf_front.specs.Fronted.{IsInOrder, IsInCircle}
use Rattle.celf_replies.specs.declared.reply.Why.{Why}
use Rattle.celf_replies.specs.Reply.{PlainMismatch, PlainWhy, undetermined as undetermined_name, ill_typed, loose, circular, not_yet, plain_why}
use Rattle.celf_solve.specs.Settled.{Comes}
use Rattle.celf_reconstruct.specs.Trees.{IsItemTree}
use Rattle.celf_reconstruct.specs.Left.{metavariables_in, metavariables_with}
use Rattle.celf_reconstruct.specs.Posed.{IsDeclaration, IsPosed, Unsettled}

-- ---- what is found

-- What one of the item's trees comes to, with the types of its implicit variables and of as many unnamed ones, once what is gathered of it is solved. Metavariables
-- may be left.
pub record IsFound (sig : PlainSignature) (body : DesugaredBody) (vs : List TypedVariable) (unnamed : ℕ) (core : PlainCore) (types : List PlainType) : Type 0 where
  pub before : List PlainType
  pub metas : Types
  pub tree : PlainCore
  pub posed : IsPosed sig body vs unnamed before metas tree
  pub now : Problem
  pub comes : Comes sig before metas tree now core types

abbrev pub IsCheck : PlainCore → Type 0
IsCheck (declares name e) = ⊥
IsCheck (queries a) = ⊥
IsCheck (traces s) = ⊥
IsCheck (equates n o a) = Unit {0}
IsCheck (checks n a) = Unit {0}

-- The binders in front of a declaration, by their numbers: those of the unnamed ones follow those of the implicit variables, which they go before; the implicit
-- variables stand in the order in which they first appear in the text.
pub record AreBinders (sig : PlainSignature) (body : DesugaredBody) (named unnamed : ℕ) (binders : List ℕ) : Type 0 where
  pub order : List ℕ
  pub appear : IsByAppearance sig body named order
  pub listed : binders ≡ range_with_len named unnamed ++ order

-- The kind or type of a declaration with its binders as persistent arguments in front, each after those that its type mentions. They are implicit, beside as many
-- as are written so.
pub record IsDeclared (sig : PlainSignature) (types : List PlainType) (binders : List ℕ) (written : ℕ) (class : PlainClass) (e : PlainEntry) : Type 0 where
  pub in_order : IsInOrder (length sig) types binders class e.class
  pub implicit : e.implicit ≡ length types + written
  -- There are no more than can be counted.
  pub counted : e.implicit < 2 ^ 32

-- The item has this core once all is found that is not written, and no metavariable is left. A check or an equation has no implicit variable.
pub data Reconstructs (sig : PlainSignature) (body : DesugaredBody) : PlainCore → Type 0 where
  found_check : {core : PlainCore} → IsCheck core → IsFound sig body [] 0 core [] → metavariables_in core ≡ [] → Reconstructs sig body core
  found_declaration : {vs : List TypedVariable} {unnamed : ℕ} {name : List ℕ} {written : ℕ} {class : PlainClass} {types : List PlainType} {binders : List ℕ} {e : PlainEntry}
      → IsFound sig body vs unnamed (declares name (entry_of written class)) types → metavariables_with (declares name (entry_of written class)) types ≡ []
      → AreBinders sig body (length vs) unnamed binders → IsDeclared sig types binders written class e → Reconstructs sig body (declares name e)

-- ---- why none is answered

abbrev pub variable_name : TypedVariable → List ℕ
variable_name v = v.name

-- the name of a binder; unnamed ones have none
abbrev pub name_of : List TypedVariable → ℕ → Option (List ℕ)
name_of vs i = option_map variable_name (slice_get vs i)

-- No order of the binders is one in which each type mentions earlier ones alone: each of these needs the next one, and the last the first.
pub record HasCircle (sig : PlainSignature) (body : DesugaredBody) (names : List (Option (List ℕ))) : Type 0 where
  pub vs : List TypedVariable
  pub unnamed : ℕ
  pub core : PlainCore
  pub types : List PlainType
  pub found : IsFound sig body vs unnamed core types
  pub none_left : metavariables_with core types ≡ []
  pub binders : List ℕ
  pub are_binders : AreBinders sig body (length vs) unnamed binders
  pub circle : List ℕ
  pub is_circle : IsInCircle (length sig) types binders circle
  pub named : names ≡ map (name_of vs) circle

-- So many metavariables are left: in a check or an equation; or in a declaration once its unnamed ones are constants. Then the item does not determine the types of
-- these.
pub record IsLoose (sig : PlainSignature) (body : DesugaredBody) (count : ℕ) : Type 0 where
  pub vs : List TypedVariable
  pub unnamed : ℕ
  pub core : PlainCore
  pub types : List PlainType
  pub found : IsFound sig body vs unnamed core types
  pub last : IsDeclaration core → unnamed ≡ 0 → ⊥
  pub counted : count ≡ length (metavariables_with core types)
  pub some_left : count ≡ 0 → ⊥

abbrev pub IsSearch : DesugaredBody → Type 0
IsSearch (declare n i c) = ⊥
IsSearch (query d e l a t) = Unit {0}
IsSearch (trace n t) = Unit {0}
IsSearch (equal l r t) = ⊥
IsSearch (check o t) = ⊥

abbrev pub IsTest : DesugaredBody → Type 0
IsTest (declare n i c) = ⊥
IsTest (query d e l a t) = ⊥
IsTest (trace n t) = ⊥
IsTest (equal l r t) = Unit {0}
IsTest (check o t) = Unit {0}

-- What is out of reach so far: queries and traces, and implicit variables of a check or an equation.
pub data IsBeyond (sig : PlainSignature) (body : DesugaredBody) : Type 0 where
  a_search : IsSearch body → IsBeyond sig body
  variables_in_test : IsTest body → (determined sig body ≡ [] → ⊥) → IsBeyond sig body

-- Why an item with something to be found is declined before the rules are asked.
pub data Declines (sig : PlainSignature) (body : DesugaredBody) : PlainWhy → Type 0 where
  no_type : {v : Variable} → undetermined sig body ≡ Some v → Declines sig body (undetermined_name v.name)
  -- No such tree is there: something is left to be found of which the simple type is not known.
  no_tree : {m : PlainMismatch} → ((vs : List TypedVariable) (metas : Types) (tree : PlainCore) → IsItemTree sig body vs metas tree → ⊥) → Declines sig body (ill_typed m)
  unsettled : {vs : List TypedVariable} {unnamed : ℕ} {types : List PlainType} {metas : Types} {tree : PlainCore} {why : PlainWhy}
      → IsPosed sig body vs unnamed types metas tree → Unsettled sig types metas tree why → Declines sig body why
  left_loose : {count : ℕ} → IsLoose sig body count → Declines sig body (loose count)
  in_a_circle : {names : List (Option (List ℕ))} → HasCircle sig body names → Declines sig body (circular names)
  beyond : IsBeyond sig body → Declines sig body not_yet

-- The item comes to this core, or is declined for this.
abbrev pub IsReconstruction : PlainSignature → DesugaredItem → Result Core (OrWide Why) → Type 0
IsReconstruction sig item (Ok core) = Reconstructs sig item.body (plain_core core)
IsReconstruction sig item (Err (Fault why)) = Declines sig item.body (plain_why why)
IsReconstruction sig item (Err NoMemory) = Unit {0}
IsReconstruction sig item (Err (TooFar w)) = IsWide w
