-- A scope in memory with one variable more.
use Rattle.std.proofs.Common.{◌≡◌, List, [], ◌∷◌, ◌++◌, map, reverse, ap, ◌∙◌}
use Rattle.std.specs.Borrow.{Bor}
use Rattle.std.proofs.lemmas.List.{reverse-append, map-append}
use Rattle.clf_syntax.specs.declared.tree.Simple.{Simple}
use Rattle.clf_syntax.specs.PlainSimple.{plain_simple}
use Rattle.celf_conform.specs.Seen.{scope, owned}

pub scope-more : (ls : List (Bor Simple)) (t : Bor Simple) → scope (ls ++ t ∷ []) ≡ plain_simple t.now ∷ scope ls
scope-more ls t = ap reverse (map-append (λ (x : Bor Simple). plain_simple x.now) ls (t ∷ [])) ∙ reverse-append (map (λ (x : Bor Simple). plain_simple x.now) ls) (plain_simple t.now ∷ [])

pub owned-more : (ts : List Simple) (t : Simple) → owned (ts ++ t ∷ []) ≡ plain_simple t ∷ owned ts
owned-more ts t = ap reverse (map-append plain_simple ts (t ∷ [])) ∙ reverse-append (map plain_simple ts) (plain_simple t ∷ [])

pub ruleset scope_laws = (scope-more, owned-more)
