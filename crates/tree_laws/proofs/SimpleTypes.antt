-- The simple type in memory whose plain tree this is.
use Rattle.std.proofs.Common.{◌≡◌, ◌∙◌, List, [], ◌∷◌, map, refl, sym, ap, subst}
use Rattle.clf_syntax.specs.declared.tree.Mode.{Mode}
use Rattle.clf_syntax.specs.declared.tree.Simple.{Simple, Atom, Fun, With, Top, Monad, roll-Simple, map-Simple, ind-Simple}
use Rattle.clf_syntax.specs.declared.tree.Simple.TheVariants.{rolls-Atom, rolls-Fun, rolls-With, rolls-Top, rolls-Monad}
use Rattle.clf_syntax.specs.declared.tree.SimpleEntry.{SimpleEntry, roll-SimpleEntry, map-SimpleEntry, fold-roll-SimpleEntry}
use Rattle.clf_syntax.specs.declared.tree.Simple.TheOpen as layer
use Rattle.clf_syntax.specs.TypeTree.{SimpleType, base, arrow, simple_with, simple_top, lax, SimpleTelescope, simple_end, simple_binding}
use Rattle.clf_syntax.specs.PlainSimple.{simple_telescope_of, on_simple, on_simple_entry, plain_simple, plain_simple_entry, plain-Atom, plain-SimpleFun, plain-SimpleWith, plain-SimpleTop, plain-SimpleMonad}

abbrev mutual
  pub simple_back : SimpleType → Simple
  simple_back (base f) = Atom f
  simple_back (arrow m d c) = Fun m (simple_back d) (simple_back c)
  simple_back (simple_with c d) = With (simple_back c) (simple_back d)
  simple_back simple_top = Top
  simple_back (lax s) = Monad (entries_back s)

  entries_back : SimpleTelescope → List SimpleEntry
  entries_back simple_end = []
  entries_back (simple_binding m a s) = roll-SimpleEntry (record { mode = m; ty = simple_back a }) ∷ entries_back s

abbrev entry_back : Mode × SimpleType → SimpleEntry
entry_back e = roll-SimpleEntry (record { mode = e.0; ty = simple_back e.1 })

entries-back : (es : List (Mode × SimpleType)) → entries_back (simple_telescope_of es) ≡ map entry_back es
entries-back [] = refl
entries-back (e ∷ es) = ap (λ xs. entry_back e ∷ xs) (entries-back es)

plain_simple_entry-made : (m : Mode) (a : Simple) → plain_simple_entry (roll-SimpleEntry (record { mode = m; ty = a })) ≡ (m, plain_simple a)
unfolding plain_simple plain_simple_entry
plain_simple_entry-made m a = fold-roll-SimpleEntry _ _ on_simple on_simple_entry (record { mode = m; ty = a })

abbrev SimpleBack : Simple → Type 0
SimpleBack a = simple_back (plain_simple a) ≡ a

abbrev EntryBack : SimpleEntry → Type 0
EntryBack e = entry_back (plain_simple_entry e) ≡ e

-- parts that come back
abbrev A : Type 0
A = (a : Simple) × SimpleBack a

abbrev E : Type 0
E = (e : SimpleEntry) × EntryBack e

each-back : (es : List E) → map entry_back (map plain_simple_entry (map (λ (e : E). e.0) es)) ≡ map (λ (e : E). e.0) es
each-back [] = refl
each-back (e ∷ es) = ap (λ x. x ∷ map entry_back (map plain_simple_entry (map (λ (e : E). e.0) es))) e.1 ∙ ap (λ xs. e.0 ∷ xs) (each-back es)

simple-made : (y : layer.Simple-F A E) → SimpleBack (roll-Simple (map-Simple A E Simple SimpleEntry (λ (a : A). a.0) (λ (e : E). e.0) y))
simple-made (layer.Atom f) = subst SimpleBack (sym (rolls-Atom f)) (ap simple_back (plain-Atom f))
simple-made (layer.Fun m a b) = subst SimpleBack (sym (rolls-Fun m a.0 b.0)) (ap simple_back (plain-SimpleFun m a.0 b.0) ∙ ap (λ x. Fun m x (simple_back (plain_simple b.0))) a.1 ∙ ap (Fun m a.0) b.1)
simple-made (layer.With a b) = subst SimpleBack (sym (rolls-With a.0 b.0)) (ap simple_back (plain-SimpleWith a.0 b.0) ∙ ap (λ x. With x (simple_back (plain_simple b.0))) a.1 ∙ ap (With a.0) b.1)
simple-made layer.Top = subst SimpleBack (sym rolls-Top) (ap simple_back plain-SimpleTop)
simple-made (layer.Monad es) =
    let xs = map (λ (e : E). e.0) es in
    subst SimpleBack (sym (rolls-Monad xs)) (ap simple_back (plain-SimpleMonad xs) ∙ ap Monad (entries-back (map plain_simple_entry xs) ∙ each-back es))

simple_entry-made : (y : layer.SimpleEntry-F A E) → EntryBack (roll-SimpleEntry (map-SimpleEntry A E Simple SimpleEntry (λ (a : A). a.0) (λ (e : E). e.0) y))
simple_entry-made y = ap entry_back (plain_simple_entry-made y.mode y.ty.0) ∙ ap (λ a. roll-SimpleEntry (record { mode = y.mode; ty = a })) y.ty.1

pub simple-back : (a : Simple) → SimpleBack a
simple-back = ind-Simple SimpleBack EntryBack (λ x y is. subst (λ z. SimpleBack (roll-Simple z)) is (simple-made y))
    (λ x y is. subst (λ z. EntryBack (roll-SimpleEntry z)) is (simple_entry-made y))
