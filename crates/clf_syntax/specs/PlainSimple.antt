-- The plain tree of a declared simple type: one fold over the trees of the cycle, and its equation for each constructor.
use Rattle.std.specs.Prelude.{ℕ, List, [], ◌∷◌, map, ◌≡◌}
use Rattle.clf_syntax.specs.declared.tree.Mode.{Mode}
use Rattle.clf_syntax.specs.declared.tree.Simple.{Simple, Atom, Fun, With, Top, Monad, fold-Simple, fold-roll-Simple}
use Rattle.clf_syntax.specs.declared.tree.SimpleEntry.{SimpleEntry, fold-SimpleEntry, fold_out-SimpleEntry, out-SimpleEntry}
use Rattle.clf_syntax.specs.declared.tree.Simple.TheOpen as layer
use Rattle.clf_syntax.specs.declared.tree.Simple.TheViews.{roll-Simple}
use denote.Hole.Carrier.{roll}
use Rattle.clf_syntax.specs.TypeTree.{SimpleType, base, arrow, simple_with, simple_top, lax, SimpleTelescope, simple_end, simple_binding}

abbrev pub simple_telescope_of : List (Mode × SimpleType) → SimpleTelescope
simple_telescope_of [] = simple_end
simple_telescope_of (e ∷ es) = simple_binding e.0 e.1 (simple_telescope_of es)

abbrev pub on_simple : layer.Simple-F SimpleType (Mode × SimpleType) → SimpleType
on_simple (layer.Atom f) = base f
on_simple (layer.Fun m d c) = arrow m d c
on_simple (layer.With c d) = simple_with c d
on_simple layer.Top = simple_top
on_simple (layer.Monad es) = lax (simple_telescope_of es)

abbrev pub on_simple_entry : layer.SimpleEntry-F SimpleType (Mode × SimpleType) → Mode × SimpleType
on_simple_entry e = (e.mode, e.ty)

unfoldable pub plain_simple : Simple → SimpleType
plain_simple = fold-Simple SimpleType (Mode × SimpleType) on_simple on_simple_entry

unfoldable pub plain_simple_entry : SimpleEntry → Mode × SimpleType
plain_simple_entry = fold-SimpleEntry SimpleType (Mode × SimpleType) on_simple on_simple_entry

pub plain-Atom : (f : ℕ) → plain_simple (Atom f) ≡ base f
unfolding plain_simple plain_simple_entry roll-Simple roll
plain-Atom f = fold-roll-Simple _ _ on_simple on_simple_entry (layer.Atom f)

pub plain-SimpleFun : (m : Mode) (d c : Simple) → plain_simple (Fun m d c) ≡ arrow m (plain_simple d) (plain_simple c)
unfolding plain_simple plain_simple_entry roll-Simple roll
plain-SimpleFun m d c = fold-roll-Simple _ _ on_simple on_simple_entry (layer.Fun m d c)

pub plain-SimpleWith : (c d : Simple) → plain_simple (With c d) ≡ simple_with (plain_simple c) (plain_simple d)
unfolding plain_simple plain_simple_entry roll-Simple roll
plain-SimpleWith c d = fold-roll-Simple _ _ on_simple on_simple_entry (layer.With c d)

pub plain-SimpleTop : plain_simple Top ≡ simple_top
unfolding plain_simple plain_simple_entry roll-Simple roll
plain-SimpleTop = fold-roll-Simple _ _ on_simple on_simple_entry layer.Top

pub plain-SimpleMonad : (es : List SimpleEntry) → plain_simple (Monad es) ≡ lax (simple_telescope_of (map plain_simple_entry es))
unfolding plain_simple plain_simple_entry roll-Simple roll
plain-SimpleMonad es = fold-roll-Simple _ _ on_simple on_simple_entry (layer.Monad es)

pub plain-simple-entry : (e : SimpleEntry) → plain_simple_entry e ≡ ((out-SimpleEntry e).mode, plain_simple (out-SimpleEntry e).ty)
unfolding plain_simple plain_simple_entry
plain-simple-entry e = fold_out-SimpleEntry _ _ on_simple on_simple_entry e

pub ruleset plain_simple_laws = (plain-Atom, plain-SimpleFun, plain-SimpleWith, plain-SimpleTop, plain-SimpleMonad, plain-simple-entry)
