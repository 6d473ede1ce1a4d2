-- The binders around a part of a printed tree: whether each is named, and its simple type; the newest one first.
use Rattle.std.proofs.Common.{ℕ, zero, suc, ◌≡◌, ◌+◌, ◌-◌, ◌<◌, ◌^◌, Bool, true, false, ◌||◌, refl, ap, ◌∙◌, List, [], ◌∷◌, length, Option, Some, None, slice_get, arith, add-one}
use Rattle.std.proofs.lemmas.Option.{slice_get_within}
use Rattle.clf_syntax.specs.declared.tree.Head.TheVariants.{Var}
use Rattle.clf_syntax.specs.TypeTree.{SimpleType, SimpleTelescope, simple_end, simple_binding}
use Rattle.clf_syntax.specs.Simple.{Assignment, extended, extended_by, simple_modes}
use Rattle.clf_syntax.specs.Word.{is_variable_word}
use Rattle.clf_printer.specs.Text.{variable_text, new_variable_text}
use Rattle.celf_places.specs.Heads.{Local, Typed, has_name, local_from}
use Rattle.celf_lexer.proofs.Signs.{same_bytes-refl}
use Rattle.celf_spelling.specs.Printed.{printed_binders}
use Rattle.celf_places.specs.Places.{entries_of}
use Rattle.celf_explicit.specs.Objects.{with_pattern}
use Rattle.celf_spelling.proofs.Variables.{variable-differs, variable-other}

abbrev pub Scope : Type 0
Scope = List (Bool × SimpleType)

-- the local of a binder under so many others
abbrev pub local_at : Bool → ℕ → SimpleType → Local
local_at true level t = (Some (new_variable_text level), Some t)
local_at false level t = (None, None)

abbrev pub locals_in : Scope → List Local
locals_in [] = []
locals_in (e ∷ g) = local_at e.0 (length g) e.1 ∷ locals_in g

-- the simple types of the variables, over those of the constants
abbrev pub types_in : Assignment → Scope → Assignment
types_in k [] = k
types_in k (e ∷ g) = extended e.1 (types_in k g)

-- the named binders of a telescope
abbrev pub pushed : SimpleTelescope → Scope → Scope
pushed simple_end g = g
pushed (simple_binding m t s) g = pushed s ((true, t) ∷ g)

abbrev pub IsNamedAt : Scope → ℕ → Type 0
IsNamedAt g i = (t : SimpleType) × (slice_get g i ≡ Some (true, t))

-- each variable that occurs is named
abbrev pub NamedWhere : Scope → (ℕ → Bool) → Type 0
NamedWhere g occurs = (i : ℕ) → occurs i ≡ true → IsNamedAt g i

-- ---- what occurs in a part

left_true : (a b : Bool) → a ≡ true → a || b ≡ true
left_true a b e = ap (λ x. x || b) e

right_true : (a b : Bool) → b ≡ true → a || b ≡ true
right_true true b e = refl
right_true false b e = e

pub named_left : (g : Scope) (p q : ℕ → Bool) → NamedWhere g (λ i. p i || q i) → NamedWhere g p
named_left g p q h i e = h i (left_true (p i) (q i) e)

pub named_right : (g : Scope) (p q : ℕ → Bool) → NamedWhere g (λ i. p i || q i) → NamedWhere g q
named_right g p q h i e = h i (right_true (p i) (q i) e)

-- under one more binder: it is named where it occurs
pub named_under : (g : Scope) (b : Bool) (t : SimpleType) (p : ℕ → Bool) → (p 0 ≡ true → b ≡ true) → NamedWhere g (λ i. p (i + 1)) → NamedWhere ((b, t) ∷ g) p
named_under g b t p here h zero e = (t, ap (λ x. Some (x, t)) (here e))
named_under g b t p here h (suc i) e = h i (ap p (add-one i) ∙ e)

pub named_pushed : (s : SimpleTelescope) (g : Scope) (p : ℕ → Bool) → NamedWhere g (λ i. p (i + length (simple_modes s))) → NamedWhere (pushed s g) p
named_pushed simple_end g p h = λ i e. h i (ap p (none i) ∙ e)
  where
    none : (i : ℕ) → i + 0 ≡ i
    none i = omega arith
named_pushed (simple_binding m t s) g p h = named_pushed s ((true, t) ∷ g) p (named_under g true t (λ i. p (i + length (simple_modes s))) (λ e. refl) (λ i e. h i (ap p (sum i (length (simple_modes s))) ∙ e)))
  where
    sum : (i k : ℕ) → i + suc k ≡ i + 1 + k
    sum i k = omega arith

-- ---- after a pattern

pub pushed_length : (s : SimpleTelescope) (g : Scope) → length (pushed s g) ≡ length g + length (simple_modes s)
pushed_length simple_end g = omega arith
pushed_length (simple_binding m t s) g = pushed_length s ((true, t) ∷ g) ∙ omega arith

pub pushed_types : (k : Assignment) (s : SimpleTelescope) (g : Scope) → types_in k (pushed s g) ≡ extended_by s (types_in k g)
pushed_types k simple_end g = refl
pushed_types k (simple_binding m t s) g = pushed_types k s ((true, t) ∷ g)

pub pushed_locals : (s : SimpleTelescope) (g : Scope) → with_pattern (locals_in g) (entries_of s) (printed_binders (length g) (simple_modes s)) ≡ locals_in (pushed s g)
pushed_locals simple_end g = refl
pushed_locals (simple_binding m t s) g =
    ap (λ l. with_pattern (locals_in ((true, t) ∷ g)) (entries_of s) (printed_binders l (simple_modes s))) (add-one (length g))
    ∙ pushed_locals s ((true, t) ∷ g)

-- ---- what the name of a variable means

-- the type of a variable that has one
pub type_at : (k : Assignment) (g : Scope) (i : ℕ) (t u : SimpleType) → types_in k g (Var i) ≡ Some t → slice_get g i ≡ Some (true, u) → u ≡ t
type_at k [] i t u h at = absurd (cc)
type_at k (e ∷ g) zero t u h at = cc
type_at k (e ∷ g) (suc i) t u h at = type_at k g i t u h at

local-first : (k : ℕ) (name : List ℕ) (l : Local) (ls : List Local) → has_name name l ≡ true → local_from k name (l ∷ ls) ≡ Some (Var k, l.1)
local-first k name l ls is = rw is

local-later : (k : ℕ) (name : List ℕ) (l : Local) (ls : List Local) (t : Option Typed) → has_name name l ≡ false → local_from (k + 1) name ls ≡ t → local_from k name (l ∷ ls) ≡ t
local-later k name l ls t other h = rw other h

-- a binder of another number, named or not
other_number : (b : Bool) (level n : ℕ) (t : SimpleType) → level + 1 < 2 ^ 64 → n < 2 ^ 64 → (n ≡ level + 1 → ⊥) → has_name (variable_text n) (local_at b level t) ≡ false
other_number true level n t small fits differ = variable-differs n (level + 1) fits small differ
other_number false level n t small fits differ = refl

no_number : (b : Bool) (level : ℕ) (t : SimpleType) (name : List ℕ) → level + 1 < 2 ^ 64 → is_variable_word name ≡ false → has_name name (local_at b level t) ≡ false
no_number true level t name small other = variable-other name (level + 1) small other
no_number false level t name small other = refl

pub local-variable : (g : Scope) (k i : ℕ) (t : SimpleType) → length g < 2 ^ 64 → slice_get g i ≡ Some (true, t) → local_from k (variable_text (length g - i)) (locals_in g) ≡ Some (Var (k + i), Some t)
local-variable [] k i t small at = absurd (cc)
local-variable (d ∷ g) k zero t small at =
    let same : d ≡ (true, t) = cc in
    let number : length (d ∷ g) - 0 ≡ length g + 1 = omega arith in
    let place : k + 0 ≡ k = omega arith in
    rw (number, place, same) (local-first k (new_variable_text (length g)) (Some (new_variable_text (length g)), Some t) (locals_in g) (same_bytes-refl (variable_text (length g + 1))))
local-variable (d ∷ g) k (suc i) t small at =
    let within = slice_get_within g i (true, t) at in
    let number : length (d ∷ g) - suc i ≡ length g - i = omega arith in
    let place : k + suc i ≡ k + 1 + i = omega arith in
    rw (number, place) (local-later k (variable_text (length g - i)) (local_at d.0 (length g) d.1) (locals_in g) (Some (Var (k + 1 + i), Some t))
    (other_number d.0 (length g) (length g - i) d.1 (omega arith) (omega arith) (λ same. omega arith))
    (local-variable g (k + 1) i t (omega arith) at))

-- A name that is not spelled as a variable is no local.
pub local-none : (g : Scope) (k : ℕ) (name : List ℕ) → length g < 2 ^ 64 → is_variable_word name ≡ false → local_from k name (locals_in g) ≡ None
local-none [] k name small other = refl
local-none (d ∷ g) k name small other =
    local-later k name (local_at d.0 (length g) d.1) (locals_in g) None (no_number d.0 (length g) d.1 name (omega arith) other)
    (local-none g (k + 1) name (omega arith) other)
