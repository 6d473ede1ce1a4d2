-- The printed lines of what is well formed read back as that.
use Rattle.std.proofs.Common.{ℕ, ◌≡◌, false, sym, ap, ◌∙◌, List, [], ◌∷◌, ◌++◌, Some}
use Rattle.std.specs.Prelude.{codes}
use Rattle.clf_syntax.specs.declared.tree.Mode.TheVariants.{Persistent}
use Rattle.clf_syntax.specs.TypeTree.{PlainKind}
use Rattle.use_contexts.specs.Context.{Context}
use Rattle.clf_sig.specs.Entry.{PlainClass, family_of, constant_of, PlainSignature}
use Rattle.clf_sig.specs.Core.{PlainCore, declares, checks}
use Rattle.clf_printer.specs.declared.place.Place.TheVariants.{Whole}
use Rattle.clf_printer.specs.Text.{object_text, type_text, declaration_text}
use Rattle.clf_rules.specs.WellFormed.{WellFormedKind, WellFormedClass, WellFormedSignature}
use Rattle.clf_rules.proofs.Signatures.{names_differ}
use Rattle.clf_rules.proofs.Held.{well_formed_is_clean}
use Rattle.typing_laws.proofs.Erased.{typed_is_simply_typed}
use Rattle.typing_laws.proofs.FormedTypes.{well_formed_is_simply_formed}
use Rattle.celf_sugar.specs.PlainTree.{DesugaredBody}
use Rattle.celf_sugar.specs.Sugar.{desugared}
use Rattle.celf_explicit.specs.Explicit.{core_of_body}
use Rattle.celf_spelling.specs.Printed.{printed_entry, printed_check}
use Rattle.celf_spelling.specs.Spelling.{SpellsItem}
use Rattle.celf_spelling.proofs.Spelled.{entries_are_spelled, checks_are_spelled}
use Rattle.celf_meaning.specs.ReadingBack.{ReadsAs}
use Rattle.celf_meaning.specs.Laws.{PlacesDoNotMatter, EntriesMeanThemselves, ChecksMeanThemselves, PrintableEntriesReadBack, PrintableChecksReadBack}
use Rattle.celf_meaning.proofs.Meanings.{FindsItself}
use Rattle.celf_meaning.proofs.TypesRead.{CleanKind}
use Rattle.celf_meaning.proofs.ItemsRead.{finds_itself, ClassFormed, CleanClass, entry_read, check_read}
use Rattle.celf_meaning.proofs.PlacesIgnored.{body_placeless}

pub places_do_not_matter : PlacesDoNotMatter
places_do_not_matter = body_placeless

itself : (sig : PlainSignature) → WellFormedSignature sig → FindsItself sig
itself sig w = finds_itself sig (names_differ sig w)

clean_kind : (sig : PlainSignature) (g : Context) (k : PlainKind) → WellFormedKind sig g k → CleanKind k
clean_kind sig g [] p = tt
clean_kind sig g (a ∷ k) p = (((well_formed_is_clean sig g).0 a p.0).0, clean_kind sig ((Persistent, a) ∷ g) k p.1)

clean_class : (sig : PlainSignature) (c : PlainClass) → WellFormedClass sig c → CleanClass c
clean_class sig (family_of k) p = clean_kind sig [] k p
clean_class sig (constant_of a) p = ((well_formed_is_clean sig []).0 a p).0

formed_class : (sig : PlainSignature) (c : PlainClass) → WellFormedClass sig c → ClassFormed sig c
formed_class sig (family_of k) p = (well_formed_is_simply_formed sig []).kinds false k p
formed_class sig (constant_of a) p = (well_formed_is_simply_formed sig []).types false a p

pub entries_mean_themselves : EntriesMeanThemselves
entries_mean_themselves sig name e w f p = entry_read sig (itself sig w) name e (formed_class sig e.class f.0) p (clean_class sig e.class f.0)

pub checks_mean_themselves : ChecksMeanThemselves
checks_mean_themselves sig n a w f h p q =
    check_read sig (itself sig w) n a ((typed_is_simply_typed false sig [] []).objects n a h) ((well_formed_is_simply_formed sig []).types false a f) p q (((well_formed_is_clean sig []).0 a f).0)

pub read_as : (sig : PlainSignature) (text : List ℕ) (body : DesugaredBody) (core : PlainCore) → core_of_body sig body ≡ Some core → SpellsItem text body → ReadsAs sig text core
read_as sig text body core h spelled = λ room l.
    let i = spelled room l in
    record {
      item = i.item;
      behind = i.behind;
      end = i.end;
      parse = i.parse;
      ends = i.ends;
      at_end = i.at_end;
      only = i.only;
      no_fault = i.no_fault;
      says = sym (body_placeless sig (desugared i.item).body) ∙ ap (core_of_body sig) i.says ∙ h;
    }

pub printable_entries_read_back : PrintableEntriesReadBack
printable_entries_read_back sig metas name e w f p =
    read_as sig (declaration_text sig metas name e ++ codes "\n") (printed_entry sig name e) (declares name e) (entries_mean_themselves sig name e w f p.printable) (entries_are_spelled sig metas name e p)

pub printable_checks_read_back : PrintableChecksReadBack
printable_checks_read_back sig metas others n a w f h p q =
    read_as sig (codes "#check " ++ (object_text sig metas 0 n ++ codes " : " ++ type_text sig others 0 Whole a ++ codes ".\n")) (printed_check sig n a) (checks n a)
    (checks_mean_themselves sig n a w f h p q) (checks_are_spelled sig metas others n a p q)
