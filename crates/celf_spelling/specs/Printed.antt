-- The desugared trees that cores are printed as: what is left of a printed text once it is read and without its sugar. All spans are empty.
use Rattle.std.specs.Prelude.{ℕ, ◌+◌, ◌&&◌, Bool, false, if◌then◌else◌, List, [], ◌∷◌, ◌++◌, length, map, Option, Some, None, slice_get, unwrap_or}
use Rattle.std.specs.Option.{option_map}
use Rattle.clf_syntax.specs.declared.tree.Mode.{Mode}
use Rattle.clf_syntax.specs.declared.tree.Mode.TheVariants.{Persistent, Affine, Linear}
use Rattle.clf_syntax.specs.declared.tree.Head.{Head}
use Rattle.clf_syntax.specs.declared.tree.Head.TheVariants.{Const, Var, Meta}
use Rattle.clf_syntax.specs.Tree as core
use Rattle.clf_syntax.specs.TypeTree as types
use Rattle.clf_syntax.specs.Occurs.{occurs_type, occurs_telescope, occurs_kind}
use Rattle.clf_sig.specs.Entry.{PlainClass, family_of, constant_of, PlainEntry, PlainSignature}
use Rattle.clf_printer.specs.Text.{has_dollar, new_variable_text, used_variable_text, is_persistent}
use Rattle.celf_surface.specs.declared.surface.SMode.{SMode}
use Rattle.celf_surface.specs.declared.surface.SMode.TheVariants.{Bare, Persistent as PersistentMark, Affine as AffineMark}
use Rattle.celf_surface.specs.declared.surface.Span.{Span}
use Rattle.celf_sugar.specs.declared.plain.PName.{PName}
use Rattle.celf_sugar.specs.declared.plain.PBinder.{PBinder}
use Rattle.celf_sugar.specs.PlainTree.{DesugaredObject, lam, pair, unit, monadic, atomic, hole, DesugaredAct, argument, first, second, DesugaredSteps, no_steps, step, DesugaredTuple, end_of_tuple, entry, spine_of, DesugaredType, family, function, both, top, monad, DesugaredTelescope, end, binding, DesugaredClass, of_family, of_constant, DesugaredBody, declare, check}

abbrev pub nowhere : Span
nowhere = record { start = 0; end = 0 }

-- the mark of a mode: a linear binder, argument or entry has none
abbrev pub mark_for : Mode → SMode
mark_for Persistent = PersistentMark
mark_for Affine = AffineMark
mark_for Linear = Bare

-- ---- names

abbrev pub spelled : List ℕ → Bool → PName
spelled name dollar = record { name = name; dollar = dollar; span = nowhere }

-- the name of an entry
abbrev pub entry_name : List ℕ × PlainEntry → PName
entry_name e = spelled e.0 (has_dollar e.0 e.1)

-- The name of a place; one without bytes where no entry is.
abbrev pub place_name : PlainSignature → ℕ → PName
place_name sig k = unwrap_or (option_map entry_name (slice_get sig k)) (spelled [] false)

-- Under `level` binders. A metavariable is printed as no name.
abbrev pub head_name : PlainSignature → ℕ → Head → PName
head_name sig level (Const c) = place_name sig c
head_name sig level (Var i) = spelled (used_variable_text level i) false
head_name sig level (Meta m) = spelled [] false

-- a new variable, where it is named
abbrev pub binder_name : Bool → ℕ → Option (List ℕ)
binder_name named level = if named then Some (new_variable_text level) else None

-- ---- objects

abbrev pub printed_binders : ℕ → List Mode → List PBinder
printed_binders level [] = []
printed_binders level (m ∷ ms) = record { mode = mark_for m; name = Some (new_variable_text level) } ∷ printed_binders (level + 1) ms

module _ (sig : PlainSignature) where
  abbrev pub printed_head : ℕ → core.PlainNeutral → PName
  printed_head level (core.head_alone h) = head_name sig level h
  printed_head level (core.app m r n) = printed_head level r
  printed_head level (core.fst r) = printed_head level r
  printed_head level (core.snd r) = printed_head level r

  -- Under `level` binders, each of which is named.
  abbrev mutual
    pub printed_object : ℕ → core.PlainObject → DesugaredObject
    printed_object level (core.lam m b) = lam nowhere (mark_for m) (Some (new_variable_text level)) (printed_object (level + 1) b)
    printed_object level (core.pair l r) = pair nowhere (printed_object level l) (printed_object level r)
    printed_object level core.unit = unit nowhere
    printed_object level (core.monadic e) = monadic nowhere (printed_steps level e) (printed_result level e)
    printed_object level (core.atomic n) = atomic nowhere (printed_head level n) (spine_of (printed_acts level n))
    printed_object level core.hole = hole nowhere

    -- what is done to the head, the first thing first
    pub printed_acts : ℕ → core.PlainNeutral → List DesugaredAct
    printed_acts level (core.head_alone h) = []
    printed_acts level (core.app m r n) = printed_acts level r ++ argument (mark_for m) (printed_object level n) ∷ []
    printed_acts level (core.fst r) = printed_acts level r ++ first ∷ []
    printed_acts level (core.snd r) = printed_acts level r ++ second ∷ []

    pub printed_steps : ℕ → core.PlainExpression → DesugaredSteps
    printed_steps level (core.step ms r e) = step (printed_binders level ms) (printed_head level r) (spine_of (printed_acts level r)) (printed_steps (level + length ms) e)
    printed_steps level (core.done t) = no_steps

    -- the tuple after the steps
    pub printed_result : ℕ → core.PlainExpression → DesugaredTuple
    printed_result level (core.step ms r e) = printed_result (level + length ms) e
    printed_result level (core.done t) = printed_tuple level t

    pub printed_tuple : ℕ → core.PlainTuple → DesugaredTuple
    printed_tuple level core.empty = end_of_tuple
    printed_tuple level (core.entry m n t) = entry (mark_for m) (printed_object level n) (printed_tuple level t)

  -- ---- types

  -- A function and an entry name their variable where it is persistent and occurs in what follows, and bind it in any case.
  abbrev mutual
    pub printed_type : ℕ → types.PlainType → DesugaredType
    printed_type level (types.family k ns) = family nowhere (place_name sig k) (map (λ n. printed_object level n) ns)
    printed_type level (types.function m a b) = function nowhere m (binder_name (is_persistent m && occurs_type 0 b) level) (printed_type level a) (printed_type (level + 1) b)
    printed_type level (types.both a b) = both nowhere (printed_type level a) (printed_type level b)
    printed_type level types.top = top nowhere
    printed_type level (types.monad s) = monad nowhere (printed_telescope level s)

    pub printed_telescope : ℕ → types.PlainTelescope → DesugaredTelescope
    printed_telescope level types.end = end
    printed_telescope level (types.binding m a s) = binding m (binder_name (is_persistent m && occurs_telescope 0 s) level) (printed_type level a) (printed_telescope (level + 1) s)

  -- the arguments of a kind
  abbrev pub printed_kind : ℕ → types.PlainKind → DesugaredTelescope
  printed_kind level [] = end
  printed_kind level (a ∷ k) = binding Persistent (binder_name (occurs_kind 0 k) level) (printed_type level a) (printed_kind (level + 1) k)

  abbrev pub printed_class : PlainClass → DesugaredClass
  printed_class (family_of k) = of_family (printed_kind 0 k)
  printed_class (constant_of a) = of_constant (printed_type 0 a)

  -- what the line of an entry declares
  abbrev pub printed_entry : List ℕ → PlainEntry → DesugaredBody
  printed_entry name e = declare name e.implicit (printed_class e.class)

  -- what is asked of an object and its type
  abbrev pub printed_check : core.PlainObject → types.PlainType → DesugaredBody
  printed_check n a = check (printed_object 0 n) (printed_type 0 a)
