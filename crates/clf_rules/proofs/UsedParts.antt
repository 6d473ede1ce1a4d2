-- A row stands for some part: that with the entries that are used.
use Rattle.std.proofs.Common.{◌≡◌, suc, not, Bool, true, ◌&&◌, List, [], ◌∷◌, length, Some, refl, ap}
use Rattle.clf_syntax.specs.declared.tree.Mode.{Mode}
use Rattle.clf_syntax.specs.declared.tree.Mode.TheVariants.{Persistent, Affine, Linear}
use Rattle.use_contexts.specs.Holding.{Holding}
use Rattle.use_contexts.specs.Rows.{implies, within, stands, newest, older, EachWithin, EachStands, IsSubholding, Stands, Agrees, Leftover}
use Rattle.use_contexts.proofs.Bits.{at_entry, given}
use Rattle.use_contexts.proofs.RowLaws.{IsSubholding-stands}

abbrev pub used : Mode → Bool → Bool → Bool
used Persistent h l = h
used Affine h l = h && not l
used Linear h l = h && not l

pub used_stands : (m : Mode) (h l s : Bool) → within m h l ≡ true → stands m h l s (used m h l) ≡ true
used_stands m h l s a =
    given (within m h l) (stands m h l s (used m h l))
    (at_entry (λ m h l s _ _ _ _ _. implies (within m h l) (stands m h l s (used m h l))) refl refl refl m h l s true true true true true) a

abbrev pub used_of : List Mode → Holding → Holding → Holding
used_of [] h l = []
used_of (m ∷ ms) h l = used m (newest h) (newest l) ∷ used_of ms (older h) (older l)

pub length-used_of : (ms : List Mode) (h l : Holding) → length (used_of ms h l) ≡ length ms
length-used_of [] h l = refl
length-used_of (m ∷ ms) h l = ap suc (length-used_of ms (older h) (older l))

pub each-used_of : (ms : List Mode) (h l : Holding) (s : Bool) → EachWithin ms h l → EachStands ms h l s (used_of ms h l)
each-used_of [] h l s w = tt
each-used_of (m ∷ ms) h l s w = (used_stands m (newest h) (newest l) s w.0, each-used_of ms (older h) (older l) s w.1)

-- what has an answer holds of that part
pub used-part : (ms : List Mode) (h : Holding) (a : Leftover) (P : Holding → Type 0) → Agrees ms h (Some a) P → IsSubholding ms h (used_of ms h a.0) × P (used_of ms h a.0)
used-part ms h a P x =
    let p = used_of ms h a.0 in
    let s : Stands ms h a.0 a.1 p = (length-used_of ms h a.0, each-used_of ms h a.0 a.1 x.0.1) in
    let w = IsSubholding-stands ms h a.0 a.1 p s in
    (w, x.2 p w s)

pub some-part : (ms : List Mode) (h : Holding) (a : Leftover) (P : Holding → Type 0) → Agrees ms h (Some a) P → (p : Holding) × IsSubholding ms h p × P p
some-part ms h a P x = let p = used-part ms h a P x in (used_of ms h a.0, p.0, p.1)
