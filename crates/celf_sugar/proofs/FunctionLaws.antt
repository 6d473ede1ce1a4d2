-- Functions over entries, from the last entry on.
use Rattle.std.specs.Prelude.{◌≡◌, List, [], ◌∷◌, ◌++◌, map}
use Rattle.std.proofs.Common.{sym}
use Rattle.std.proofs.lemmas.List.{map-append}
use Rattle.celf_surface.specs.declared.surface.Span.{Span}
use Rattle.celf_sugar.specs.declared.plain.PEntry.{PEntry}
use Rattle.celf_sugar.specs.declared.plain.PTy.{PTy}
use Rattle.celf_sugar.specs.PlainTree.{function}
use Rattle.celf_sugar.specs.Plain.{desugared_type, desugared_entry}
use Rattle.celf_sugar.specs.Sugar.{functions}
use Rattle.celf_sugar.specs.SugarLists.{functions-last}

pub last_entry : (s : Span) (doms rest : List PEntry) (entry : PEntry) (cod next : PTy) → doms ≡ rest ++ entry ∷ [] → desugared_type next ≡ function s (desugared_entry entry).0 (desugared_entry entry).1 (desugared_entry entry).2 (desugared_type cod) → functions s (map desugared_entry rest) (desugared_type next) ≡ functions s (map desugared_entry doms) (desugared_type cod)
last_entry s doms rest entry cod next d t = rw (t, d, map-append desugared_entry rest (entry ∷ [])) (sym (functions-last s (map desugared_entry rest) (desugared_entry entry) (desugared_type cod)))
