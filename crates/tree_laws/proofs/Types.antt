-- The type in memory whose plain tree this is: each type, telescope and kind comes back from its plain tree.
use Rattle.std.proofs.Common.{◌≡◌, ◌∙◌, ℕ, List, [], ◌∷◌, map, refl, sym, ap, subst}
use Rattle.clf_syntax.specs.declared.tree.Mode.{Mode}
use Rattle.clf_syntax.specs.declared.tree.Obj.{Obj}
use Rattle.clf_syntax.specs.declared.tree.Ty.{Ty, Fam, Fun, With, Top, Monad, roll-Ty, map-Ty, ind-Ty}
use Rattle.clf_syntax.specs.declared.tree.Ty.TheVariants.{rolls-Fam, rolls-Fun, rolls-With, rolls-Top, rolls-Monad}
use Rattle.clf_syntax.specs.declared.tree.Tele.{Tele, roll-Tele, map-Tele, ind-Tele}
use Rattle.clf_syntax.specs.declared.tree.TeleEntry.{TeleEntry, roll-TeleEntry, map-TeleEntry, fold-roll-TeleEntry}
use Rattle.clf_syntax.specs.declared.tree.Kind.{Kind}
use Rattle.clf_syntax.specs.declared.tree.Ty.TheOpen as layer
use Rattle.clf_syntax.specs.TypeTree.{PlainType, family, function, both, top, monad, PlainTelescope, end, binding, telescope_of}
use Rattle.clf_syntax.specs.Plain.{plain_obj}
use Rattle.clf_syntax.specs.PlainTypes.{on_ty, on_tele, on_tele_entry, plain_ty, plain_tele, plain_tele_entry, plain-Fam, plain-Fun, plain-With, plain-Top, plain-Monad, plain-Tele}
use Rattle.tree_laws.proofs.Objects.{object_back, object-back}

abbrev mutual
  pub type_back : PlainType → Ty
  type_back (family f ns) = Fam f (map object_back ns)
  type_back (function m a b) = Fun m (type_back a) (type_back b)
  type_back (both a b) = With (type_back a) (type_back b)
  type_back top = Top
  type_back (monad s) = Monad (roll-Tele (record { entries = entries_back s }))

  entries_back : PlainTelescope → List TeleEntry
  entries_back end = []
  entries_back (binding m a s) = roll-TeleEntry (record { mode = m; ty = type_back a }) ∷ entries_back s

abbrev pub telescope_back : PlainTelescope → Tele
telescope_back s = roll-Tele (record { entries = entries_back s })

abbrev entry_back : Mode × PlainType → TeleEntry
entry_back e = roll-TeleEntry (record { mode = e.0; ty = type_back e.1 })

entries-back : (es : List (Mode × PlainType)) → entries_back (telescope_of es) ≡ map entry_back es
entries-back [] = refl
entries-back (e ∷ es) = ap (λ xs. entry_back e ∷ xs) (entries-back es)

plain_tele_entry-made : (m : Mode) (a : Ty) → plain_tele_entry (roll-TeleEntry (record { mode = m; ty = a })) ≡ (m, plain_ty a)
unfolding plain_ty plain_tele plain_tele_entry
plain_tele_entry-made m a = fold-roll-TeleEntry _ _ _ on_ty on_tele on_tele_entry (record { mode = m; ty = a })

-- ---- lists

pub all-back : {X Y : Type 0} (plain : X → Y) (back : Y → X) → ((x : X) → back (plain x) ≡ x) → (xs : List X) → map back (map plain xs) ≡ xs
all-back plain back h [] = refl
all-back plain back h (x ∷ xs) = ap (λ y. y ∷ map back (map plain xs)) (h x) ∙ ap (λ ys. x ∷ ys) (all-back plain back h xs)

-- ---- claims

abbrev pub TyBack : Ty → Type 0
TyBack a = type_back (plain_ty a) ≡ a

abbrev pub TeleBack : Tele → Type 0
TeleBack s = telescope_back (plain_tele s) ≡ s

abbrev EntryBack : TeleEntry → Type 0
EntryBack e = entry_back (plain_tele_entry e) ≡ e

-- parts that come back
abbrev A : Type 0
A = (a : Ty) × TyBack a

abbrev S : Type 0
S = (s : Tele) × TeleBack s

abbrev E : Type 0
E = (e : TeleEntry) × EntryBack e

each-back : (es : List E) → map entry_back (map plain_tele_entry (map (λ (e : E). e.0) es)) ≡ map (λ (e : E). e.0) es
each-back [] = refl
each-back (e ∷ es) = ap (λ x. x ∷ map entry_back (map plain_tele_entry (map (λ (e : E). e.0) es))) e.1 ∙ ap (λ xs. e.0 ∷ xs) (each-back es)

ty-made : (y : layer.Ty-F A S E) → TyBack (roll-Ty (map-Ty A S E Ty Tele TeleEntry (λ (a : A). a.0) (λ (s : S). s.0) (λ (e : E). e.0) y))
ty-made (layer.Fam f ns) = subst TyBack (sym (rolls-Fam f ns)) (ap type_back (plain-Fam f ns) ∙ ap (Fam f) (all-back plain_obj object_back object-back ns))
ty-made (layer.Fun m a b) = subst TyBack (sym (rolls-Fun m a.0 b.0)) (ap type_back (plain-Fun m a.0 b.0) ∙ ap (λ x. Fun m x (type_back (plain_ty b.0))) a.1 ∙ ap (Fun m a.0) b.1)
ty-made (layer.With a b) = subst TyBack (sym (rolls-With a.0 b.0)) (ap type_back (plain-With a.0 b.0) ∙ ap (λ x. With x (type_back (plain_ty b.0))) a.1 ∙ ap (With a.0) b.1)
ty-made layer.Top = subst TyBack (sym rolls-Top) (ap type_back plain-Top)
ty-made (layer.Monad s) = subst TyBack (sym (rolls-Monad s.0)) (ap type_back (plain-Monad s.0) ∙ ap Monad s.1)

tele-made : (y : layer.Tele-F A S E) → TeleBack (roll-Tele (map-Tele A S E Ty Tele TeleEntry (λ (a : A). a.0) (λ (s : S). s.0) (λ (e : E). e.0) y))
tele-made y =
    let es = map (λ (e : E). e.0) y.entries in
    ap telescope_back (plain-Tele es) ∙ ap (λ xs. roll-Tele (record { entries = xs })) (entries-back (map plain_tele_entry es) ∙ each-back y.entries)

tele_entry-made : (y : layer.TeleEntry-F A S E) → EntryBack (roll-TeleEntry (map-TeleEntry A S E Ty Tele TeleEntry (λ (a : A). a.0) (λ (s : S). s.0) (λ (e : E). e.0) y))
tele_entry-made y = ap entry_back (plain_tele_entry-made y.mode y.ty.0) ∙ ap (λ a. roll-TeleEntry (record { mode = y.mode; ty = a })) y.ty.1

pub type-back : (a : Ty) → TyBack a
type-back = ind-Ty TyBack TeleBack EntryBack (λ x y is. subst (λ z. TyBack (roll-Ty z)) is (ty-made y))
    (λ x y is. subst (λ z. TeleBack (roll-Tele z)) is (tele-made y)) (λ x y is. subst (λ z. EntryBack (roll-TeleEntry z)) is (tele_entry-made y))

pub telescope-back : (s : Tele) → TeleBack s
telescope-back = ind-Tele TyBack TeleBack EntryBack (λ x y is. subst (λ z. TyBack (roll-Ty z)) is (ty-made y))
    (λ x y is. subst (λ z. TeleBack (roll-Tele z)) is (tele-made y)) (λ x y is. subst (λ z. EntryBack (roll-TeleEntry z)) is (tele_entry-made y))
