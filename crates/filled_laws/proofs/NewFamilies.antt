-- The simple types of new metavariables have the families of the signature, and so have those of metavariables that take fewer arguments.
use Rattle.std.proofs.Common.{arith, subst, sym, ⊎_elim, ◌∙◌}
use Rattle.std.proofs.lemmas.List.Elements.{All-append, All-cons, All-head, All-nil, All-tail}
use Rattle.std.specs.List.{All}
use Rattle.std.specs.Prelude.{Bool, List, Some, [], false, if◌then◌else◌, map, suc, true, zero, ℕ, ◌<◌, ◌∷◌, ◌≡◌}
use Rattle.clf_syntax.specs.TypeTree.{SimpleTelescope, SimpleType, arrow, base, lax, simple_binding, simple_end, simple_top, simple_with}
use Rattle.clf_syntax.specs.declared.tree.Mode.{Mode}
use Rattle.clf_sig.specs.Entry.{PlainSignature}
use Rattle.clf_rules.specs.WellFormed.{WellFormedSignature}
use Rattle.typing_laws.specs.SimpleTyping.{families_of}
use Rattle.subst_laws.specs.Environments.{Instantiation}
use Rattle.pattern_laws.specs.Equations.{Locals}
use Rattle.pattern_laws.specs.Instantiations.{Types}
use Rattle.pattern_laws.specs.Patterns.{Place, arrows, masked}
use Rattle.unify_laws.specs.Problems.{Grows}
use Rattle.unify_laws.specs.Progress.{CameFrom, Traced}
use Rattle.metavars.specs.Fresh.{Scope, binder, functions, new_types, scope_of}
use Rattle.celf_places.specs.Heads.{arguments_of}
use Rattle.celf_filled.specs.FormedTypes.{EachHasIndices}
use Rattle.celf_filled.specs.TypedFrom.{indices_of, new_in, new_in_telescope, new_of_each, type_of_entry}
use Rattle.filled_laws.specs.Families.{HasFamilies}
use Rattle.filled_laws.specs.FreshTypes.{new_in_each}
use Rattle.filled_laws.specs.Laws.{NewHaveFamilies, TracedHaveFamilies}
use Rattle.filled_laws.proofs.Places.{EntriesOver, arguments_over}

module _ (sig : PlainSignature) where
  abbrev ScopeOver : Scope → Type 0
  ScopeOver [] = Unit {0}
  ScopeOver (l ∷ ls) = HasFamilies sig l.type × ScopeOver ls

  abbrev pub LocalsHave : Locals → Type 0
  LocalsHave [] = Unit {0}
  LocalsHave (l ∷ ls) = HasFamilies sig l.1 × LocalsHave ls

  scope_over : (ls : Locals) → LocalsHave ls → ScopeOver (scope_of ls)
  scope_over [] h = tt
  scope_over (l ∷ ls) h = (h.0, scope_over ls h.1)

  functions_over : (s : Scope) (t : SimpleType) → ScopeOver s → HasFamilies sig t → HasFamilies sig (functions s t)
  functions_over [] t h k = k
  functions_over (l ∷ s) t h k = functions_over s (if l.applied then arrow l.mode l.type t else t) h.1 (of_local l.applied)
    where
      of_local : (b : Bool) → HasFamilies sig (if b then arrow l.mode l.type t else t)
      of_local true = (h.0, k)
      of_local false = k

  alone : (t : SimpleType) → HasFamilies sig t → All (HasFamilies sig) (t ∷ [])
  alone t h = All-cons (HasFamilies sig) t [] h (All-nil (HasFamilies sig))

  new_over : (s : Scope) (t : SimpleType) → ScopeOver s → HasFamilies sig t → All (HasFamilies sig) (new_types s t)
  new_over s (base f) h k = alone (functions s (base f)) (functions_over s (base f) h k)
  new_over s (arrow m d c) h k = new_over (binder m d ∷ s) c (k.0, h) k.1
  new_over s (simple_with c d) h k = All-append (HasFamilies sig) (new_types s c) (new_types s d) (new_over s c h k.0) (new_over s d h k.1)
  new_over s simple_top h k = All-nil (HasFamilies sig)
  new_over s (lax ts) h k = alone (functions s (lax ts)) (functions_over s (lax ts) h k)

  pub new_at : (ls : Locals) (t : SimpleType) → LocalsHave ls → HasFamilies sig t → All (HasFamilies sig) (new_types (scope_of ls) t)
  new_at ls t h k = new_over (scope_of ls) t (scope_over ls h) k

  of_each : (s : Scope) (ts : List SimpleType) → ScopeOver s → All (HasFamilies sig) ts → All (HasFamilies sig) (new_of_each s ts)
  of_each s [] h k = All-nil (HasFamilies sig)
  of_each s (t ∷ ts) h k = All-append (HasFamilies sig) (new_types s t) (new_of_each s ts) (new_over s t h (All-head (HasFamilies sig) t ts k))
      (of_each s ts h (All-tail (HasFamilies sig) t ts k))

  types_over : (es : List (Mode × SimpleType)) → EntriesOver sig es → All (HasFamilies sig) (map type_of_entry es)
  types_over [] h = All-nil (HasFamilies sig)
  types_over (e ∷ es) h = All-cons (HasFamilies sig) e.1 (map type_of_entry es) h.0 (types_over es h.1)

  module _ (formed : WellFormedSignature sig) where
    pub indices_have : (f : ℕ) → All (HasFamilies sig) (indices_of sig f)
    indices_have f = types_over (arguments_of sig f) (arguments_over sig formed f)

    mutual
      in_type : (ls : Locals) (t : SimpleType) → LocalsHave ls → HasFamilies sig t → All (HasFamilies sig) (new_in (indices_of sig) ls t)
      in_type ls (base f) h k = of_each (scope_of ls) (indices_of sig f) (scope_over ls h) (indices_have f)
      in_type ls (arrow m d c) h k = All-append (HasFamilies sig) (new_in (indices_of sig) ls d) (new_in (indices_of sig) ((m, d) ∷ ls) c)
          (in_type ls d h k.0) (in_type ((m, d) ∷ ls) c (k.0, h) k.1)
      in_type ls (simple_with c d) h k = All-append (HasFamilies sig) (new_in (indices_of sig) ls c) (new_in (indices_of sig) ls d) (in_type ls c h k.0)
          (in_type ls d h k.1)
      in_type ls simple_top h k = All-nil (HasFamilies sig)
      in_type ls (lax s) h k = in_telescope ls s h k

      in_telescope : (ls : Locals) (s : SimpleTelescope) → LocalsHave ls → EachHasIndices (families_of sig) (indices_of sig) s
          → All (HasFamilies sig) (new_in_telescope (indices_of sig) ls s)
      in_telescope ls simple_end h k = All-nil (HasFamilies sig)
      in_telescope ls (simple_binding m t s) h k = All-append (HasFamilies sig) (new_in (indices_of sig) ls t)
          (new_in_telescope (indices_of sig) ((m, t) ∷ ls) s) (in_type ls t h k.0) (in_telescope ((m, t) ∷ ls) s (k.0, h) k.1)

    in_each : (ts : List SimpleType) → All (HasFamilies sig) ts → All (HasFamilies sig) (new_in_each (indices_of sig) ts)
    in_each [] h = All-nil (HasFamilies sig)
    in_each (t ∷ ts) h = All-append (HasFamilies sig) (new_in (indices_of sig) [] t) (new_in_each (indices_of sig) ts)
        (in_type [] t tt (All-head (HasFamilies sig) t ts h)) (in_each ts (All-tail (HasFamilies sig) t ts h))

  -- ---- fewer arguments

  abbrev PlacesHave : List Place → Type 0
  PlacesHave [] = Unit {0}
  PlacesHave (p ∷ ps) = HasFamilies sig p.1 × PlacesHave ps

  of_arrows : (ps : List Place) (c : SimpleType) → HasFamilies sig (arrows ps c) → PlacesHave ps × HasFamilies sig c
  of_arrows [] c h = (tt, h)
  of_arrows (p ∷ ps) c h = let (x, y) = of_arrows ps (arrow p.0 p.1 c) h in ((y.0, x), y.1)

  to_arrows : (ps : List Place) (c : SimpleType) → PlacesHave ps → HasFamilies sig c → HasFamilies sig (arrows ps c)
  to_arrows [] c h k = k
  to_arrows (p ∷ ps) c h k = to_arrows ps (arrow p.0 p.1 c) h.1 (h.0, k)

  masked_have : (i : ℕ) (bs : List Bool) (ps : List Place) → PlacesHave ps → PlacesHave (masked i bs ps)
  masked_have i [] ps h = tt
  masked_have i (b ∷ bs) [] h = tt
  masked_have i (true ∷ bs) (p ∷ ps) h = (h.0, masked_have (suc i) bs ps h.1)
  masked_have i (false ∷ bs) (p ∷ ps) h = masked_have (suc i) bs ps h.1

  the_type : {a b : SimpleType} → Some a ≡ Some b → a ≡ b
  the_type e = cc

  module _ (start metas : Types) (given : Instantiation) (traced : Traced start metas given) (grows : Grows start metas)
      (have : (m : ℕ) (a : SimpleType) → start m ≡ Some a → HasFamilies sig a) where
    -- the metavariables before a number
    traced_below : (n k : ℕ) → k < n → (a : SimpleType) → metas k ≡ Some a → HasFamilies sig a
    traced_below zero k l a e = absurd (omega (arith, l))
    traced_below (suc n) k l a e = ⊎_elim old (came (λ j i b f. traced_below n j i b f)) (traced k a e)
      where
        old : (b : SimpleType) × (start k ≡ Some b) → HasFamilies sig a
        old (b, i) = subst (HasFamilies sig) (the_type (sym (grows k b i) ∙ e)) (have k b i)

        came : ((j : ℕ) → j < n → (b : SimpleType) → metas j ≡ Some b → HasFamilies sig b) → (j : ℕ) × CameFrom metas given k j → HasFamilies sig a
        came earlier (j, c) =
            let b : j < k = c.before in
            let (x, y) = of_arrows c.places c.result (earlier j (omega (arith, l, b)) (arrows c.places c.result) c.older) in
            subst (HasFamilies sig) (the_type (sym c.newer ∙ e)) (to_arrows (masked 0 c.mask c.places) c.result (masked_have 0 c.mask c.places x) y)

pub traced_have_families : TracedHaveFamilies
traced_have_families sig start metas given traced grows have m a e = traced_below sig start metas given traced grows have (suc m) m (omega arith) a e

pub new_have_families : NewHaveFamilies
new_have_families sig formed ts h = in_each sig formed ts h
