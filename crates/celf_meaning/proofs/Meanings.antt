-- What the printed names of heads and families mean.
use Rattle.std.proofs.Common.{ℕ, zero, suc, ◌≡◌, ◌+◌, ◌-◌, ◌<◌, ◌^◌, Bool, true, false, ◌||◌, nat_lt, refl, sym, ap, ◌∙◌, List, [], ◌∷◌, length, Some, option_map, slice_get, arith}
use Rattle.std.proofs.lemmas.Bool.{ltb-false, lt-ltb}
use Rattle.std.proofs.lemmas.Option.{slice_get-map, slice_get_within}
use Rattle.clf_syntax.specs.declared.tree.Head.{Head}
use Rattle.clf_syntax.specs.declared.tree.Head.TheVariants.{Const, Var, Meta}
use Rattle.clf_syntax.specs.TypeTree.{PlainType, PlainKind, SimpleType}
use Rattle.clf_syntax.specs.Simple.{erase}
use Rattle.clf_syntax.specs.Occurs.{is_variable}
use Rattle.clf_syntax.specs.Word.{is_variable_word}
use Rattle.clf_sig.specs.Entry.{PlainClass, family_of, constant_of, PlainEntry, PlainSignature, place_of, entry_at, class_at, kind_in, type_in, family_kind, constant_type, simple_class, simple_types}
use Rattle.clf_printer.specs.Text.{variable_text, used_variable_text, has_dollar}
use Rattle.celf_names.specs.Names.{family_named, constant_named}
use Rattle.celf_places.proofs.Options.{option_map-some, option_and_then-some}
use Rattle.typing_laws.specs.SimpleTyping.{constants_of}
use Rattle.celf_places.specs.Heads.{is_zero, has_no_implicit, all_written, constant_typed, constant_head, head, family_head}
use Rattle.celf_spelling.specs.Printed.{spelled, place_name, head_name}
use Rattle.celf_spelling.specs.Printable.{IsPrintablePlace, IsPrintableHead}
use Rattle.celf_meaning.proofs.Made.{mapped, chained}
use Rattle.celf_meaning.proofs.Scopes.{Scope, locals_in, types_in, NamedWhere, type_at, local-variable, local-none}

-- Each name is that of one entry: the place of an entry's name is the entry's.
abbrev pub FindsItself : PlainSignature → Type 0
FindsItself sig = (k : ℕ) (e : List ℕ × PlainEntry) → slice_get sig k ≡ Some e → place_of e.0 sig ≡ Some k

nothing_less : (n : ℕ) → nat_lt 0 n ≡ false → is_zero n ≡ true
nothing_less zero h = refl
nothing_less (suc n) h = absurd (omega (arith, ltb-false 0 (suc n) h))

neither : (a b : Bool) → a || b ≡ false → (a ≡ false) × (b ≡ false)
neither true b h = absurd (cc)
neither false b h = (refl, h)

-- Where no `$` is written, no argument is implicit.
written : (sig : PlainSignature) (k : ℕ) (e : List ℕ × PlainEntry) (b : Bool) → slice_get sig k ≡ Some e → has_dollar e.0 e.1 ≡ b → all_written sig b k ≡ Some k
written sig k e true at h = refl
written sig k e false at h =
    let here : entry_at sig k ≡ Some e.1 = ap (option_map (λ d. d.1)) at in
    let none : has_no_implicit (entry_at sig k) ≡ true = ap has_no_implicit here ∙ nothing_less e.1.implicit (neither (nat_lt 0 e.1.implicit) (is_variable_word e.0) h).0 in
    rw none

module _ (sig : PlainSignature) (distinct : FindsItself sig) where
  class_of : (k : ℕ) (e : List ℕ × PlainEntry) (c : PlainClass) → slice_get sig k ≡ Some e → class_at sig k ≡ Some c → e.1.class ≡ c
  class_of k e c at h = let same : Some e.1.class ≡ Some c = sym (ap (option_map (λ d. d.1.class)) at) ∙ h in cc

  -- ---- families

  family_found : (f : ℕ) (k : PlainKind) (e : List ℕ × PlainEntry) → family_kind sig f ≡ Some k → slice_get sig f ≡ Some e → family_named sig e.0 ≡ Some f
  family_found f k e h at =
      let class = option_and_then-some kind_in (class_at sig f) k h in
      rw (distinct f e at, class.1) (only class.0 class.2)
    where
      only : (c : PlainClass) → kind_in c ≡ Some k → Rattle.celf_names.specs.Names.family_only f (Some c) ≡ Some f
      only (family_of args) q = refl
      only (constant_of a) q = absurd (cc)

  pub family_name : (f : ℕ) (k : PlainKind) → family_kind sig f ≡ Some k → IsPrintablePlace sig f → family_named sig (place_name sig f).name ≡ Some f
  family_name f k h (e, at, d) = rw at (family_found f k e h at)

  pub family_head_of : (f : ℕ) (k : PlainKind) → family_kind sig f ≡ Some k → IsPrintablePlace sig f → family_head sig (place_name sig f) ≡ Some f
  family_head_of f k h (e, at, d) = rw at (chained (all_written sig (has_dollar e.0 e.1)) (family_found f k e h at) (written sig f e (has_dollar e.0 e.1) at refl))

  -- ---- constants

  constant_found : (c : ℕ) (t : SimpleType) (e : List ℕ × PlainEntry) → constants_of sig (Const c) ≡ Some t → slice_get sig c ≡ Some e
      → (constant_named sig e.0 ≡ Some c) × (slice_get (simple_types sig) c ≡ Some t)
  constant_found c t e h at =
      let type = option_map-some erase (constant_type sig c) t h in
      let class = option_and_then-some type_in (class_at sig c) type.0 type.1 in
      let is : class.0 ≡ constant_of type.0 = only class.0 type.0 class.2 in
      let here : class_at sig c ≡ Some (constant_of type.0) = class.1 ∙ ap Some is in
      let mine : e.1.class ≡ constant_of type.0 = class_of c e (constant_of type.0) at here in
      (rw (distinct c e at, here) refl, slice_get-map (λ d. simple_class d.1.class) sig c ∙ rw (at, mine) (ap Some type.2))
    where
      only : (c : PlainClass) (a : PlainType) → type_in c ≡ Some a → c ≡ constant_of a
      only (family_of k) a q = absurd (cc)
      only (constant_of b) a q = cc

  constant_means : (c : ℕ) (t : SimpleType) (e : List ℕ × PlainEntry) (b : Bool) → has_dollar e.0 e.1 ≡ b → constants_of sig (Const c) ≡ Some t → slice_get sig c ≡ Some e
      → constant_head sig (spelled e.0 b) ≡ Some (Const c, Some t)
  constant_means c t e b q h at =
      let found = constant_found c t e h at in
      mapped (constant_typed sig) (chained (all_written sig b) found.0 (written sig c e b at q)) ∙ ap (λ p. Some (Const c, p)) found.1

  constant_is : (g : Scope) (c : ℕ) (t : SimpleType) (e : List ℕ × PlainEntry) (b : Bool) → length g < 2 ^ 64 → has_dollar e.0 e.1 ≡ b → constants_of sig (Const c) ≡ Some t → slice_get sig c ≡ Some e
      → head sig (locals_in g) (spelled e.0 b) ≡ Some (Const c, Some t)
  constant_is g c t e true small q h at = constant_means c t e true q h at
  constant_is g c t e false small q h at = rw (local-none g 0 e.0 small (neither (nat_lt 0 e.1.implicit) (is_variable_word e.0) q).1) (constant_means c t e false q h at)

  -- ---- heads

  constants_kept : (g : Scope) (c : ℕ) → types_in (constants_of sig) g (Const c) ≡ constants_of sig (Const c)
  constants_kept [] c = refl
  constants_kept (e ∷ g) c = constants_kept g c

  pub head_means : (g : Scope) (h : Head) (t : SimpleType) → length g < 2 ^ 64 → types_in (constants_of sig) g h ≡ Some t → IsPrintableHead sig h → NamedWhere g (λ i. is_variable i h)
      → head sig (locals_in g) (head_name sig (length g) h) ≡ Some (h, Some t)
  head_means g (Const c) t small typed (e, at, d) named = rw at (constant_is g c t e (has_dollar e.0 e.1) small refl (sym (constants_kept g c) ∙ typed) at)
  head_means g (Var i) t small typed p named =
      let at = named i (same i) in
      let within = slice_get_within g i (true, at.0) at.1 in
      let type : at.0 ≡ t = type_at (constants_of sig) g i t at.0 typed at.1 in
      let from : 0 + i ≡ i = omega arith in
      let text : used_variable_text (length g) i ≡ variable_text (length g - i) = rw (lt-ltb i (length g) within) in
      rw (text, local-variable g 0 i at.0 small at.1, from, type) refl
    where
      same : (i : ℕ) → is_variable i (Var i) ≡ true
      same i = grind arith
  head_means g (Meta m) t small typed p named = absurd p
