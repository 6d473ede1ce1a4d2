-- The metavariables that are left in a core and in the types of its binders, and a declaration in which they are constants.
use Rattle.std.specs.Prelude.{ℕ, ◌+◌, ◌≡◌, ◌==◌, List, [], ◌++◌, length, map, Option, Some, None, slice_get}
use Rattle.std.specs.List.{position}
use Rattle.clf_syntax.specs.declared.tree.Head.TheVariants.{Const}
use Rattle.clf_syntax.specs.Tree.{PlainObject, head_alone}
use Rattle.clf_syntax.specs.TypeTree.{PlainType, SimpleType}
use Rattle.subst_laws.specs.Environments.{Instantiation, instant}
use Rattle.eta_laws.specs.Eta.{expansion}
use Rattle.clf_sig.specs.Entry.{PlainSignature}
use Rattle.clf_sig.specs.Core.{PlainCore, declares, queries, traces, equates, checks}
use Rattle.pattern_laws.specs.Instantiations.{Types}
use Rattle.clf_printer.specs.Metas.{appearing, appearing_type, appearing_telescope, appearing_kind, appearing_class}
use Rattle.celf_elaboration.specs.Items.{SubstitutedCore}
use Rattle.celf_filled.specs.TypedFrom.{indices_of}
use Rattle.celf_solve.specs.Settled.{EachBecomes}
use Rattle.filled_laws.specs.FreshTypes.{types_from, new_in_each}

-- the metavariables of a core, each once, in the order of their first appearance
abbrev pub metavariables_in : PlainCore → List ℕ
metavariables_in (declares name e) = appearing_class [] e.class
metavariables_in (queries a) = appearing_type [] a
metavariables_in (traces s) = appearing_telescope [] s
metavariables_in (equates n o a) = appearing (appearing (appearing_type [] a) n) o
metavariables_in (checks n a) = appearing (appearing_type [] a) n

-- and after them those that only the types of its implicit variables have
abbrev pub metavariables_with : PlainCore → List PlainType → List ℕ
metavariables_with core types = appearing_kind (metavariables_in core) types

-- A metavariable of this simple type, at this place among those that become constants: its constant, in its eta-long form.
abbrev pub named_at : ℕ → Option SimpleType → Option ℕ → Option PlainObject
named_at first (Some t) (Some i) = Some (expansion t (head_alone (Const (first + i))))
named_at first None i = None
named_at first (Some t) None = None

-- Each of these metavariables becomes a constant; they are numbered in order from `first` on. The others stay.
abbrev pub naming : ℕ → Types → List ℕ → Instantiation
naming first metas left m = named_at first (metas m) (position (λ k. k == m) left)

-- The metavariables that are left in a core, and in the types of its implicit variables, become constants past these; each has a type that is made of its simple
-- type, in which new metavariables stand for the indices of families. So the tree has more binders, and these are the types of all, and the simple types of the
-- metavariables.
pub record IsNamed (sig : PlainSignature) (before : Types) (core : PlainCore) (types : List PlainType) (simples : List SimpleType)
    (tree : PlainCore) (all : List PlainType) (metas : Types) : Type 0 where
  -- the metavariables that there were, and those that are left
  pub old : List SimpleType
  pub they : (m : ℕ) → before m ≡ slice_get old m
  pub simple : map before (metavariables_with core types) ≡ map Some simples
  pub named_core : SubstitutedCore (instant (naming (length sig + length types) before (metavariables_with core types))) core tree
  pub named : List PlainType
  pub named_types : EachBecomes (naming (length sig + length types) before (metavariables_with core types)) types named
  pub all_types : all ≡ named ++ types_from (indices_of sig) (length old) simples
  pub metavariables : (m : ℕ) → metas m ≡ slice_get (old ++ new_in_each (indices_of sig) simples) m
