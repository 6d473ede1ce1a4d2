-- The plain tree of a declared type: one fold over the trees of the cycle, and its equation for each constructor.
use Rattle.std.specs.Prelude.{ℕ, List, map, ◌≡◌}
use Rattle.clf_syntax.specs.declared.tree.Mode.{Mode}
use Rattle.clf_syntax.specs.declared.tree.Obj.{Obj}
use Rattle.clf_syntax.specs.declared.tree.Ty.{Ty, Fam, Fun, With, Top, Monad, fold-Ty, fold-roll-Ty}
use Rattle.clf_syntax.specs.declared.tree.Tele.{Tele, roll-Tele, fold-Tele, fold-roll-Tele, fold_out-Tele, out-Tele}
use Rattle.clf_syntax.specs.declared.tree.TeleEntry.{TeleEntry, fold-TeleEntry, fold_out-TeleEntry, out-TeleEntry}
use Rattle.clf_syntax.specs.declared.tree.Kind.{Kind}
use Rattle.clf_syntax.specs.declared.tree.Ty.TheOpen as layer
use Rattle.clf_syntax.specs.declared.tree.Ty.TheViews.{roll-Ty}
use denote.Hole.Carrier.{roll}
use Rattle.clf_syntax.specs.TypeTree.{PlainType, family, function, both, top, monad, PlainTelescope, telescope_of, PlainKind}
use Rattle.clf_syntax.specs.Plain.{plain_obj}

abbrev pub on_ty : layer.Ty-F PlainType PlainTelescope (Mode × PlainType) → PlainType
on_ty (layer.Fam f ns) = family f (map plain_obj ns)
on_ty (layer.Fun m a b) = function m a b
on_ty (layer.With a b) = both a b
on_ty layer.Top = top
on_ty (layer.Monad s) = monad s

abbrev pub on_tele : layer.Tele-F PlainType PlainTelescope (Mode × PlainType) → PlainTelescope
on_tele t = telescope_of t.entries

abbrev pub on_tele_entry : layer.TeleEntry-F PlainType PlainTelescope (Mode × PlainType) → Mode × PlainType
on_tele_entry e = (e.mode, e.ty)

unfoldable pub plain_ty : Ty → PlainType
plain_ty = fold-Ty PlainType PlainTelescope (Mode × PlainType) on_ty on_tele on_tele_entry

unfoldable pub plain_tele : Tele → PlainTelescope
plain_tele = fold-Tele PlainType PlainTelescope (Mode × PlainType) on_ty on_tele on_tele_entry

unfoldable pub plain_tele_entry : TeleEntry → Mode × PlainType
plain_tele_entry = fold-TeleEntry PlainType PlainTelescope (Mode × PlainType) on_ty on_tele on_tele_entry

abbrev pub plain_kind : Kind → PlainKind
plain_kind k = map plain_ty k.args

pub plain-Fam : (f : ℕ) (ns : List Obj) → plain_ty (Fam f ns) ≡ family f (map plain_obj ns)
unfolding plain_ty plain_tele plain_tele_entry roll-Ty roll
plain-Fam f ns = fold-roll-Ty _ _ _ on_ty on_tele on_tele_entry (layer.Fam f ns)

pub plain-Fun : (m : Mode) (a b : Ty) → plain_ty (Fun m a b) ≡ function m (plain_ty a) (plain_ty b)
unfolding plain_ty plain_tele plain_tele_entry roll-Ty roll
plain-Fun m a b = fold-roll-Ty _ _ _ on_ty on_tele on_tele_entry (layer.Fun m a b)

pub plain-With : (a b : Ty) → plain_ty (With a b) ≡ both (plain_ty a) (plain_ty b)
unfolding plain_ty plain_tele plain_tele_entry roll-Ty roll
plain-With a b = fold-roll-Ty _ _ _ on_ty on_tele on_tele_entry (layer.With a b)

pub plain-Top : plain_ty Top ≡ top
unfolding plain_ty plain_tele plain_tele_entry roll-Ty roll
plain-Top = fold-roll-Ty _ _ _ on_ty on_tele on_tele_entry layer.Top

pub plain-Monad : (s : Tele) → plain_ty (Monad s) ≡ monad (plain_tele s)
unfolding plain_ty plain_tele plain_tele_entry roll-Ty roll
plain-Monad s = fold-roll-Ty _ _ _ on_ty on_tele on_tele_entry (layer.Monad s)

pub plain-tele : (s : Tele) → plain_tele s ≡ telescope_of (map plain_tele_entry (out-Tele s).entries)
unfolding plain_ty plain_tele plain_tele_entry
plain-tele s = fold_out-Tele _ _ _ on_ty on_tele on_tele_entry s

pub plain-Tele : (entries : List TeleEntry) → plain_tele (roll-Tele (record { entries = entries })) ≡ telescope_of (map plain_tele_entry entries)
unfolding plain_ty plain_tele plain_tele_entry
plain-Tele entries = fold-roll-Tele _ _ _ on_ty on_tele on_tele_entry (record { entries = entries })

pub plain-tele-entry : (e : TeleEntry) → plain_tele_entry e ≡ ((out-TeleEntry e).mode, plain_ty (out-TeleEntry e).ty)
unfolding plain_ty plain_tele plain_tele_entry
plain-tele-entry e = fold_out-TeleEntry _ _ _ on_ty on_tele on_tele_entry e

pub ruleset plain_type_laws = (plain-Fam, plain-Fun, plain-With, plain-Top, plain-Monad, plain-tele, plain-tele-entry)
