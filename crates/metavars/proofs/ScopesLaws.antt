-- Scopes in memory, and lists of additions that grow by several.
use Rattle.std.specs.Prelude.{ℕ, ◌+◌, ◌<◌, ◌≡◌, List, [], ◌∷◌, ◌++◌, length, map, reverse, take, refl}
use Rattle.std.proofs.Common.{ap, sym, ◌∙◌, get_or, append_assoc}
use Rattle.std.proofs.lemmas.List.{map-append, reverse-append, take_more, length-append, append-nil}
use Rattle.clf_syntax.specs.Tree.{PlainNeutral}
use Rattle.clf_syntax.specs.TypeTree.{SimpleType}
use Rattle.metavars.specs.declared.fresh.Local.{Local as DeclaredLocal}
use Rattle.store_laws.specs.Additions.{Addition, new, meta_types}
use Rattle.store_laws.proofs.Lists.{types-append}
use Rattle.clf_syntax.specs.declared.tree.SimpleEntry.{SimpleEntry}
use Rattle.clf_syntax.specs.PlainSimple.{plain_simple_entry}
use Rattle.metavars.specs.Fresh.{scope_of, local, functions, applied_from}
use Rattle.metavars.specs.Scopes.{plain_local, plain_scope, function_by, applied_by}
use Rattle.metavars.specs.Stored.{Stored, Added, IsPart, with_addition}

pub scope-more : (ls : List DeclaredLocal) (l : DeclaredLocal) → plain_scope (ls ++ l ∷ []) ≡ plain_local l ∷ plain_scope ls
scope-more ls l = ap (map plain_local) (reverse-append ls (l ∷ []))

pub scope-next : (ls : List DeclaredLocal) (i : ℕ) (l : DeclaredLocal) → i < length ls → l ≡ get_or ls i l → plain_scope (take (i + 1) ls) ≡ plain_local l ∷ plain_scope (take i ls)
scope-next ls i l h e = ap plain_scope (take_more ls i l h ∙ ap (λ x. take i ls ++ x ∷ []) (sym e)) ∙ scope-more (take i ls) l

pub functions-next : (ls : List DeclaredLocal) (i : ℕ) (l : DeclaredLocal) (t : SimpleType) → i < length ls → l ≡ get_or ls i l
    → functions (plain_scope (take (i + 1) ls)) t ≡ functions (plain_scope (take i ls)) (function_by (plain_local l) t)
functions-next ls i l t h e = ap (λ s. functions s t) (scope-next ls i l h e)

pub applied-next : (ls : List DeclaredLocal) (i n : ℕ) (l : DeclaredLocal) (r : PlainNeutral) → i < length ls → l ≡ get_or ls i l
    → applied_from n (plain_scope (take (i + 1) ls)) r ≡ applied_by (plain_local l) n (applied_from (n + 1) (plain_scope (take i ls)) r)
applied-next ls i n l r h e = ap (λ s. applied_from n s r) (scope-next ls i l h e)

pub locals-next : (es : List SimpleEntry) (i : ℕ) (e : SimpleEntry) (ls : List DeclaredLocal) (l : DeclaredLocal) → i < length es → e ≡ get_or es i e
    → plain_scope ls ≡ scope_of (map plain_simple_entry (reverse (take i es))) → plain_local l ≡ local (plain_simple_entry e)
    → plain_scope (ls ++ l ∷ []) ≡ scope_of (map plain_simple_entry (reverse (take (i + 1) es)))
locals-next es i e ls l h r f g = scope-more ls l ∙ ap (λ x. x ∷ plain_scope ls) g ∙ ap (λ s. local (plain_simple_entry e) ∷ s) f
    ∙ sym (ap (λ ys. scope_of (map plain_simple_entry (reverse ys))) (take_more es i e h ∙ ap (λ x. take i es ++ x ∷ []) (sym r)) ∙ ap (λ ys. scope_of (map plain_simple_entry ys)) (reverse-append (take i es) (e ∷ [])))

pub new-types : (ts : List SimpleType) → meta_types (map new ts) ≡ ts
new-types [] = refl
new-types (t ∷ ts) = ap (λ l. t ∷ l) (new-types ts)

pub types-more : (zs : List Addition) (ts : List SimpleType) → length (meta_types (zs ++ map new ts)) ≡ length (meta_types zs) + length ts
types-more zs ts = ap length (types-append zs (map new ts) ∙ ap (λ l. meta_types zs ++ l) (new-types ts)) ∙ length-append (meta_types zs) ts

pub new-twice : (zs : List Addition) (ts us : List SimpleType) → (zs ++ map new ts) ++ map new us ≡ zs ++ map new (ts ++ us)
new-twice zs ts us = append_assoc zs (map new ts) (map new us) ∙ ap (λ l. zs ++ l) (sym (map-append new ts us))

-- ---- parts

pub part-whole : (s : Stored) → IsPart s s
part-whole s = (refl, ([], sym (append-nil s.added)))

pub part-more : (s : Stored) (a : Added) → IsPart s (with_addition s a)
part-more s a = (refl, (a ∷ [], refl))

pub part-part : (s t u : Stored) → IsPart s t → IsPart t u → IsPart s u
part-part s t u (c, (as1, e)) (d, (as2, f)) = (d ∙ c, (as1 ++ as2, f ∙ ap (λ l. l ++ as2) e ∙ append_assoc s.added as1 as2))
