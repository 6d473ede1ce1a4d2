-- A context that grew, and is cut back.
use Rattle.std.proofs.Common.{◌≡◌, ℕ, List, [], ◌∷◌, ◌++◌, length, map, reverse, take, refl, sym, ap, ◌∙◌}
use Rattle.std.proofs.lemmas.List.{append_assoc, length-map, length-reverse, map-append, reverse-append}
use Rattle.clf_syntax.specs.declared.tree.Mode.{Mode}
use Rattle.clf_syntax.specs.declared.tree.TeleEntry.{TeleEntry}
use Rattle.clf_syntax.specs.TypeTree.{PlainType, telescope_of}
use Rattle.clf_syntax.specs.PlainTypes.{plain_tele_entry}
use Rattle.use_contexts.specs.Context.{Context, with_entries}
use Rattle.celf_gather.specs.declared.walk.Walk.{Walk}
use Rattle.celf_gather.specs.Walks.{IsBack, IsGrown, context_of, entries_of}

pub context_pushed : (es : List TeleEntry) (e : TeleEntry) → reverse (map plain_tele_entry (es ++ e ∷ [])) ≡ plain_tele_entry e ∷ reverse (map plain_tele_entry es)
context_pushed es e = ap reverse (map-append plain_tele_entry es (e ∷ [])) ∙ reverse-append (map plain_tele_entry es) (plain_tele_entry e ∷ [])

with_telescope : (xs : List (Mode × PlainType)) (g : Context) → with_entries (telescope_of xs) g ≡ reverse xs ++ g
with_telescope [] g = refl
with_telescope (x ∷ xs) g = with_telescope xs (x ∷ g) ∙ sym (ap (λ l. l ++ g) (reverse-append (x ∷ []) xs) ∙ append_assoc (reverse xs) (x ∷ []) g)

-- the context with more entries
pub entered_context : (old more : List TeleEntry) → reverse (map plain_tele_entry (old ++ more)) ≡ with_entries (telescope_of (map plain_tele_entry more)) (reverse (map plain_tele_entry old))
entered_context old more =
    ap reverse (map-append plain_tele_entry old more) ∙ reverse-append (map plain_tele_entry old) (map plain_tele_entry more)
    ∙ sym (with_telescope (map plain_tele_entry more) (reverse (map plain_tele_entry old)))

front_of : {X : Type 0} (xs ys : List X) → take (length xs) (xs ++ ys) ≡ xs
front_of [] ys = refl
front_of (x ∷ xs) ys = ap (λ l. x ∷ l) (front_of xs ys)

-- what is cut back to the older entries is as it was
pub cut_back : (outer inner last : Walk) (n : ℕ) → IsGrown outer inner → n ≡ length (entries_of outer) → entries_of last ≡ take n (entries_of inner) → IsBack outer last
cut_back outer inner last n g e c = c ∙ ap (λ k. take k (entries_of inner)) e ∙ ap (take (length (entries_of outer))) g.1 ∙ front_of (entries_of outer) g.0

pub grown_back : (outer inner last : Walk) → IsGrown outer inner → IsBack inner last → IsGrown outer last
grown_back outer inner last g b = (g.0, b ∙ g.1)

pub back_grown : (outer inner last : Walk) → IsBack outer inner → IsGrown inner last → IsGrown outer last
back_grown outer inner last b g = (g.0, g.1 ∙ ap (λ es. es ++ g.0) b)

pub grown_again : (outer inner last : Walk) → IsGrown outer inner → IsGrown inner last → IsGrown outer last
grown_again outer inner last a b = (a.0 ++ b.0, b.1 ∙ ap (λ es. es ++ b.0) a.1 ∙ append_assoc (entries_of outer) a.0 b.0)

pub same_context : (outer last : Walk) → IsBack outer last → context_of last ≡ context_of outer
same_context outer last b = ap (λ es. reverse (map plain_tele_entry es)) b

pub length_entries : (w : Walk) → length (context_of w) ≡ length (entries_of w)
length_entries w = length-reverse (map plain_tele_entry (entries_of w)) ∙ length-map (entries_of w) plain_tele_entry

pub ruleset back_laws = (cut_back, grown_back, back_grown)
