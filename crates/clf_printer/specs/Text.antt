-- The printed text of objects, types, kinds and entries, as a list of bytes.
use Rattle.std.specs.Prelude.{ℕ, ◌+◌, ◌-◌, ◌==◌, nat_lt, Bool, true, false, not, ◌&&◌, ◌||◌, if◌then◌else◌, List, [], ◌∷◌, ◌++◌, length, slice_get, unwrap_or, codes}
use Rattle.std.specs.Option.{option_map}
use Rattle.std.specs.Fmt.{decimal}
use Rattle.clf_syntax.specs.declared.tree.Mode.{Mode}
use Rattle.clf_syntax.specs.declared.tree.Mode.TheVariants.{Persistent, Affine, Linear}
use Rattle.clf_syntax.specs.declared.tree.Head.{Head}
use Rattle.clf_syntax.specs.declared.tree.Head.TheVariants.{Const, Var, Meta}
use Rattle.clf_syntax.specs.Word.{is_variable_word}
use Rattle.clf_syntax.specs.Tree.{PlainObject, lam, pair, unit, monadic, atomic, hole, PlainNeutral, head_alone, app, fst, snd, PlainExpression, step, done, PlainTuple, empty, entry}
use Rattle.clf_syntax.specs.TypeTree.{PlainType, family, function, both, top, monad, PlainTelescope, end, binding, PlainKind}
use Rattle.clf_syntax.specs.Occurs.{occurs_type, occurs_telescope, occurs_kind}
use Rattle.clf_sig.specs.Entry.{PlainClass, family_of, constant_of, PlainEntry, PlainSignature}
use Rattle.clf_printer.specs.declared.place.Place.{Place}
use Rattle.clf_printer.specs.declared.place.Place.TheVariants.{Whole as whole, Operand as operand, Factor as factor}

-- a text where it is wanted
abbrev pub when : Bool → List ℕ → List ℕ
when true text = text
when false text = []

-- in parentheses where they are wanted
abbrev pub grouped : Bool → List ℕ → List ℕ
grouped wanted text = when wanted (codes "(") ++ text ++ when wanted (codes ")")

-- The entries of a pattern or a tuple: 1 where there is none, and in brackets where there are several.
abbrev pub listed : ℕ → List ℕ → List ℕ
listed count text = when (count == 0) (codes "1") ++ when (nat_lt 1 count) (codes "[") ++ text ++ when (nat_lt 1 count) (codes "]")

-- ---- names

-- A name is written with $ where it has implicit arguments or is spelled x and digits.
abbrev pub has_dollar : List ℕ → PlainEntry → Bool
has_dollar name e = nat_lt 0 e.implicit || is_variable_word name

abbrev pub written_name : List ℕ → PlainEntry → List ℕ
written_name name e = when (has_dollar name e) (codes "$") ++ name

-- the name of a place; a number that is no entry is written $
abbrev pub place_text : PlainSignature → ℕ → List ℕ
place_text sig k = unwrap_or (option_map (λ e. written_name e.0 e.1) (slice_get sig k)) (codes "$")

abbrev pub variable_text : ℕ → List ℕ
variable_text n = codes "x" ++ decimal n

-- The variable bound under k binders is x(k + 1).
abbrev pub new_variable_text : ℕ → List ℕ
new_variable_text level = variable_text (level + 1)

-- Under `level` binders variable i was bound under level - 1 - i of them; one that is not below their number is x0.
abbrev pub used_variable_text : ℕ → ℕ → List ℕ
used_variable_text level i = variable_text (if nat_lt i level then level - i else 0)

-- the number of a metavariable, which is its place in the list, counted from 1
abbrev pub meta_number : List ℕ → ℕ → ℕ
meta_number [] m = 1
meta_number (n ∷ ns) m = if n == m then 1 else meta_number ns m + 1

abbrev pub head_text : PlainSignature → List ℕ → ℕ → Head → List ℕ
head_text sig metas level (Const c) = place_text sig c
head_text sig metas level (Var i) = used_variable_text level i
head_text sig metas level (Meta m) = codes "?" ++ decimal (meta_number metas m)

-- ---- objects

abbrev pub mark_text : Mode → List ℕ
mark_text Persistent = codes "!"
mark_text Affine = codes "@"
mark_text Linear = []

-- a new variable with its mode
abbrev pub binder_text : ℕ → Mode → List ℕ
binder_text level m = mark_text m ++ new_variable_text level

-- a comma where a further one follows
abbrev pub comma : {X : Type 0} → List X → List ℕ
comma [] = []
comma (x ∷ xs) = codes ", "

abbrev pub binders_text : ℕ → List Mode → List ℕ
binders_text level [] = []
binders_text level (m ∷ ms) = binder_text level m ++ comma ms ++ binders_text (level + 1) ms

abbrev pub pattern_text : ℕ → List Mode → List ℕ
pattern_text level ms = listed (length ms) (binders_text level ms)

-- a neutral whose last elimination is an argument
abbrev pub is_application : PlainNeutral → Bool
is_application (head_alone h) = false
is_application (app m r n) = true
is_application (fst r) = false
is_application (snd r) = false

-- An atom needs no parentheses.
abbrev pub is_atom : PlainObject → Bool
is_atom (lam m b) = false
is_atom (pair l r) = true
is_atom unit = true
is_atom (monadic e) = true
is_atom (atomic n) = not (is_application n)
is_atom hole = true

-- An argument after its mark, in parentheses where it is no atom.
abbrev pub argument_text : Mode → Bool → List ℕ → List ℕ
argument_text m atom text = codes " " ++ mark_text m ++ grouped (not atom) text

-- A linear entry of a tuple is an object; the others are an atom after their mark.
abbrev pub tuple_entry_text : Mode → Bool → List ℕ → List ℕ
tuple_entry_text Persistent atom text = codes "!" ++ grouped (not atom) text
tuple_entry_text Affine atom text = codes "@" ++ grouped (not atom) text
tuple_entry_text Linear atom text = text

-- a step, which binds the variables of its pattern
abbrev pub step_text : ℕ → List Mode → List ℕ → List ℕ
step_text level ms neutral = codes "let {" ++ pattern_text level ms ++ codes "} = " ++ neutral ++ codes " in "

-- how many entries a tuple has
abbrev pub width : PlainTuple → ℕ
width empty = 0
width (entry m n t) = width t + 1

abbrev pub tuple_comma : PlainTuple → List ℕ
tuple_comma empty = []
tuple_comma (entry m n t) = codes ", "

module _ (sig : PlainSignature) (metas : List ℕ) where
  -- The text of an object under `level` binders.
  abbrev mutual
    pub object_text : ℕ → PlainObject → List ℕ
    object_text level (lam m b) = codes "\\" ++ binder_text level m ++ codes ". " ++ object_text (level + 1) b
    object_text level (pair l r) = codes "<" ++ object_text level l ++ codes ", " ++ object_text level r ++ codes ">"
    object_text level unit = codes "<>"
    object_text level (monadic e) = codes "{" ++ expression_text level e ++ codes "}"
    object_text level (atomic n) = neutral_text level n
    object_text level hole = codes "_"

    pub neutral_text : ℕ → PlainNeutral → List ℕ
    neutral_text level (head_alone h) = head_text sig metas level h
    neutral_text level (app m r n) = neutral_text level r ++ argument_text m (is_atom n) (object_text level n)
    neutral_text level (fst r) = codes "#1 " ++ grouped (is_application r) (neutral_text level r)
    neutral_text level (snd r) = codes "#2 " ++ grouped (is_application r) (neutral_text level r)

    pub expression_text : ℕ → PlainExpression → List ℕ
    expression_text level (step ms r e) = step_text level ms (neutral_text level r) ++ expression_text (level + length ms) e
    expression_text level (done t) = listed (width t) (tuple_text level t)

    -- the entries of a tuple, without its brackets
    pub tuple_text : ℕ → PlainTuple → List ℕ
    tuple_text level empty = []
    tuple_text level (entry m n t) = tuple_entry_text m (is_atom n) (object_text level n) ++ tuple_comma t ++ tuple_text level t

-- ---- types

abbrev pub arrow_text : Mode → List ℕ
arrow_text Persistent = codes " -> "
arrow_text Affine = codes " -@ "
arrow_text Linear = codes " -o "

-- a function stands in parentheses on the left of an arrow, in a pair and as an entry
abbrev pub groups_function : Place → Bool
groups_function whole = false
groups_function operand = true
groups_function factor = true

-- a pair stands in parentheses on the left of &
abbrev pub groups_pair : Place → Bool
groups_pair whole = false
groups_pair operand = false
groups_pair factor = true

abbrev pub is_persistent : Mode → Bool
is_persistent Persistent = true
is_persistent Affine = false
is_persistent Linear = false

-- a new variable with its type, after Pi or Exists
abbrev pub named_text : ℕ → List ℕ → List ℕ
named_text level ty = new_variable_text level ++ codes ": " ++ ty ++ codes ". "

-- an argument in front of the rest: named where its variable occurs in the rest
abbrev pub domain_text : Mode → Bool → ℕ → List ℕ → List ℕ → List ℕ
domain_text m named level alone left = if named then codes "Pi " ++ named_text level alone else left ++ arrow_text m

-- An entry of a telescope in front of the rest: named where its variable occurs in the rest, else followed by * where there is a rest.
abbrev pub tele_entry_text : Mode → Bool → Bool → ℕ → List ℕ → List ℕ → List ℕ
tele_entry_text m named goes_on level alone factor_text = if named then codes "Exists " ++ named_text level alone else mark_text m ++ factor_text ++ when goes_on (codes " * ")

abbrev pub is_end : PlainTelescope → Bool
is_end end = true
is_end (binding m a s) = false

module _ (sig : PlainSignature) (metas : List ℕ) where
  -- Indices are persistent arguments.
  abbrev pub indices_text : ℕ → List PlainObject → List ℕ
  indices_text level [] = []
  indices_text level (n ∷ ns) = argument_text Persistent (is_atom n) (object_text sig metas level n) ++ indices_text level ns

  -- The text of a type at a place under `level` binders. A function and an entry bind one variable in what follows them.
  abbrev mutual
    pub type_text : ℕ → Place → PlainType → List ℕ
    type_text level p (family k ns) = place_text sig k ++ indices_text level ns
    type_text level p (function m a b) =
        grouped (groups_function p) (domain_text m (is_persistent m && occurs_type 0 b) level (type_text level whole a) (type_text level operand a) ++ type_text (level + 1) whole b)
    type_text level p (both a b) = grouped (groups_pair p) (type_text level factor a ++ codes " & " ++ type_text level operand b)
    type_text level p top = codes "<T>"
    type_text level p (monad s) = codes "{" ++ when (is_end s) (codes "1") ++ telescope_text level s ++ codes "}"

    -- the entries of a telescope
    pub telescope_text : ℕ → PlainTelescope → List ℕ
    telescope_text level end = []
    telescope_text level (binding m a s) =
        tele_entry_text m (is_persistent m && occurs_telescope 0 s) (not (is_end s)) level (type_text level whole a) (type_text level operand a) ++ telescope_text (level + 1) s

  -- ---- kinds and entries

  -- A kind is its arguments, as persistent functions, and then the word.
  abbrev pub kind_text : ℕ → PlainKind → List ℕ
  kind_text level [] = codes "type"
  kind_text level (a ∷ k) = domain_text Persistent (occurs_kind 0 k) level (type_text level whole a) (type_text level operand a) ++ kind_text (level + 1) k

  abbrev pub class_text : PlainClass → List ℕ
  class_text (family_of k) = kind_text 0 k
  class_text (constant_of a) = type_text 0 whole a

-- the number of implicit arguments, where there are some
abbrev pub implicit_text : ℕ → List ℕ
implicit_text n = when (nat_lt 0 n) (codes "[" ++ decimal n ++ codes "] ")

-- an entry under its name, which has no $ here
abbrev pub declaration_text : PlainSignature → List ℕ → List ℕ → PlainEntry → List ℕ
declaration_text sig metas name e = name ++ codes " : " ++ implicit_text e.implicit ++ class_text sig metas e.class ++ codes "."
