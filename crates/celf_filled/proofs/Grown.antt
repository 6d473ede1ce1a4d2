-- Stores that grow by new metavariables, one part after the other.
use Rattle.std.specs.Prelude.{ℕ, ◌+◌, ◌≡◌, ◌<◌, List, [], ◌∷◌, ◌++◌, length, map, reverse, drop, get_or, refl}
use Rattle.std.proofs.Common.{◌≤◌, ap, sym, ◌∙◌, append_assoc, append-nil}
use Rattle.std.proofs.lemmas.List.{drop_more, drop_all, reverse-append}
use Rattle.clf_syntax.specs.declared.tree.Mode.{Mode}
use Rattle.clf_syntax.specs.declared.tree.SimpleEntry.{SimpleEntry}
use Rattle.clf_syntax.specs.PlainSimple.{plain_simple_entry}
use Rattle.clf_syntax.specs.Tree.{PlainObject}
use Rattle.clf_syntax.specs.TypeTree.{PlainType, SimpleType}
use Rattle.store_laws.specs.Additions.{new, meta_types}
use Rattle.pattern_laws.specs.Equations.{Locals}
use Rattle.metavars.specs.Fresh.{Scope, new_types, fresh_object}
use Rattle.metavars.specs.Stored.{Stored, constants, additions}
use Rattle.metavars.proofs.ScopesLaws.{types-more, new-twice}
use Rattle.celf_filled.specs.States.{count, IsGrownBy}
use Rattle.celf_filled.specs.TypedFrom.{fresh_objects, new_in, typed_entry, typed_entries, new-in-entries, typed-entries}

-- nothing is added
pub grown_none : (s : Stored) → IsGrownBy s s []
grown_none s = record { constants_kept = refl; added = sym (append-nil (additions s)) }

pub grown_count : (s t : Stored) (ts : List SimpleType) → IsGrownBy s t ts → count t ≡ count s + length ts
grown_count s t ts g = ap (λ zs. length (meta_types zs)) g.added ∙ types-more (additions s) ts

pub grown_along : (s t u : Stored) (ts us : List SimpleType) → IsGrownBy s t ts → IsGrownBy t u us → IsGrownBy s u (ts ++ us)
grown_along s t u ts us g h = record {
  constants_kept = h.constants_kept ∙ g.constants_kept;
  added = h.added ∙ ap (λ zs. zs ++ map new us) g.added ∙ new-twice (additions s) ts us;
}

pub ruleset grown_laws = (grown_none, grown_count, grown_along, new-in-entries, typed-entries)

-- ---- in a loop

-- What is added so far and what is left to be added come to all.
abbrev pub GoesOn : Stored → Stored → List SimpleType → List SimpleType → Type 0
GoesOn old now left all = (constants now ≡ constants old) × (additions now ++ map new left ≡ additions old ++ map new all)

pub goes_next : (old now later : Stored) (ts us all : List SimpleType) → GoesOn old now (ts ++ us) all → IsGrownBy now later ts → GoesOn old later us all
goes_next old now later ts us all (c, e) g = (g.constants_kept ∙ c, ap (λ zs. zs ++ map new us) g.added ∙ new-twice (additions now) ts us ∙ e)

pub goes_end : (old now : Stored) (all : List SimpleType) → GoesOn old now [] all → IsGrownBy old now all
goes_end old now all (c, e) = record { constants_kept = c; added = sym (append-nil (additions now)) ∙ e }

-- the list from a place on
pub from_here : {W X : Type 0} (f : W → X) (ws : List W) (i : ℕ) (w : W) → i < length ws → w ≡ get_or ws i w → map f (drop i ws) ≡ f w ∷ map f (drop (i + 1) ws)
from_here f ws i w h e = ap (map f) (drop_more ws i w h ∙ ap (λ x. x ∷ drop (i + 1) ws) (sym e))

pub none_left : {W X : Type 0} (f : W → X) (ws : List W) (i : ℕ) → length ws ≤ i → map f (drop i ws) ≡ []
none_left f ws i h = ap (map f) (drop_all i ws h)

-- one object more
pub object_next : (s : Scope) (k later : ℕ) (t : SimpleType) (ts : List SimpleType) (done new_one whole : List PlainObject) (o : PlainObject) → done ++ fresh_objects k s (t ∷ ts) ≡ whole → o ≡ fresh_object k s t
    → later ≡ k + length (new_types s t) → new_one ≡ done ++ o ∷ [] → new_one ++ fresh_objects later s ts ≡ whole
object_next s k later t ts done new_one whole o v e l n = rw (n, l, e) (append_assoc done (fresh_object k s t ∷ []) (fresh_objects (k + length (new_types s t)) s ts) ∙ v)

module _ (indices : ℕ → List SimpleType) where
  -- one entry more
  pub entry_next : (ls : Locals) (k later : ℕ) (e : Mode × SimpleType) (es : List (Mode × SimpleType)) (done new_one whole : List (Mode × PlainType)) (x : Mode × PlainType)
      → done ++ typed_entries indices k ls (e ∷ es) ≡ whole → x ≡ typed_entry indices k ls e → later ≡ k + length (new_in indices ls e.1) → new_one ≡ done ++ x ∷ []
      → new_one ++ typed_entries indices later (e ∷ ls) es ≡ whole
  entry_next ls k later e es done new_one whole x v p l n =
      rw (n, l, p) (append_assoc done (typed_entry indices k ls e ∷ []) (typed_entries indices (k + length (new_in indices ls e.1)) (e ∷ ls) es) ∙ v)

-- one entry more, the newest last
pub one_more : (old now later : List SimpleEntry) (e : SimpleEntry) → now ≡ old → later ≡ now ++ e ∷ [] → map plain_simple_entry (reverse later) ≡ plain_simple_entry e ∷ map plain_simple_entry (reverse old)
one_more old now later e n l = ap (λ xs. map plain_simple_entry (reverse xs)) (l ∙ ap (λ xs. xs ++ e ∷ []) n) ∙ ap (map plain_simple_entry) (reverse-append old (e ∷ []))
