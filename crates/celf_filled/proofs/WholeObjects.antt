-- Where the walk over an object leaves a whole state, its tree is read.
use Rattle.std.specs.Prelude.{ℕ, ◌+◌, ◌≡◌, List, [], ◌∷◌, ◌++◌, length, map, Option, None, Some, refl}
use Rattle.std.proofs.Common.{ap, sym, ◌∙◌, append_assoc, append-nil, arith}
use Rattle.std.proofs.lemmas.List.{length-append}
use Rattle.clf_syntax.specs.Tree.{PlainObject}
use Rattle.clf_syntax.specs.TypeTree.{SimpleType}
use Rattle.store_laws.specs.Additions.{new, meta_types}
use Rattle.pattern_laws.specs.Equations.{Locals}
use Rattle.metavars.specs.Fresh.{scope_of, new_types}
use Rattle.metavars.proofs.ScopesLaws.{types-more, new-twice}
use Rattle.celf_places.specs.Places.{Place}
use Rattle.celf_places.specs.Combined.{combined}
use Rattle.celf_elaboration.specs.Fillings.{Fillings, AreNew, types_of_new, Scoped, KnownLocals}
use Rattle.celf_filled.specs.Scopes.{known_local, known_locals}
use Rattle.celf_filled.specs.States.{State, count_in}
use Rattle.celf_filled.specs.Whole.{Grows, IsRead}
use Rattle.celf_filled.specs.Walk.{fill_known, fill_place}

-- ---- growing

pub new_append : (k : ℕ) (fs gs : Fillings) → AreNew k fs → AreNew (k + length (types_of_new fs)) gs → AreNew k (fs ++ gs)
new_append k [] gs a b = let z : k + 0 ≡ k = omega arith in rw z at b
new_append k (f ∷ fs) gs a b =
    let n = length (new_types (scope_of f.locals) f.type) in
    let here : k + length (types_of_new (f ∷ fs)) ≡ (k + n) + length (types_of_new fs) = ap (λ i. k + i) (length-append (new_types (scope_of f.locals) f.type) (types_of_new fs)) ∙ omega arith in
    (a.0, new_append (k + n) fs gs a.1 (rw here at b))

pub types_of_append : (fs gs : Fillings) → types_of_new (fs ++ gs) ≡ types_of_new fs ++ types_of_new gs
types_of_append [] gs = refl
types_of_append (f ∷ fs) gs = ap (λ ts. new_types (scope_of f.locals) f.type ++ ts) (types_of_append fs gs) ∙ sym (append_assoc (new_types (scope_of f.locals) f.type) (types_of_new fs) (types_of_new gs))

pub grows_none : (s : State) → Grows s s []
grows_none s = record { new_ones = tt; constants_kept = refl; added = sym (append-nil s.added) }

pub grows_on : (s t u : State) (fs gs : Fillings) → Grows s t fs → Grows t u gs → Grows s u (fs ++ gs)
grows_on s t u fs gs a b =
    let count : count_in t ≡ count_in s + length (types_of_new fs) = ap (λ zs. length (meta_types zs)) a.added ∙ types-more s.added (types_of_new fs) in
    record {
      new_ones = new_append (count_in s) fs gs a.new_ones (rw count at b.new_ones);
      constants_kept = b.constants_kept ∙ a.constants_kept;
      added = b.added ∙ ap (λ zs. zs ++ map new (types_of_new gs)) a.added ∙ new-twice s.added (types_of_new fs) (types_of_new gs) ∙ ap (λ ts. s.added ++ map new ts) (sym (types_of_append fs gs));
    }

-- nothing is filled in
pub read_alone : {X : Type 0} (s : State) (x : X) (P : Fillings → X → Type 0) → P [] x → IsRead s (x, s) P
read_alone s x P p = record { fillings = []; grows = grows_none s; reads = λ w. (w, p) }

pub read_by : {X Y : Type 0} (s : State) (v : X × State) (f : X → Y) (P : Fillings → X → Type 0) (Q : Fillings → Y → Type 0) → ((fs : Fillings) → P fs v.0 → Q fs (f v.0)) → IsRead s v P → IsRead s (f v.0, v.1) Q
read_by s v f P Q g r = record { fillings = r.fillings; grows = r.grows; reads = λ w. let q = r.reads w in (q.0, g r.fillings q.1) }

pub read_then : {X Y Z : Type 0} (s : State) (v : X × State) (u : Y × State) (z : Z) (P : Fillings → X → Type 0) (Q : Fillings → Y → Type 0) (R : Fillings → Z → Type 0)
    → ((fs gs : Fillings) → P fs v.0 → Q gs u.0 → R (fs ++ gs) z) → IsRead s v P → IsRead v.1 u Q → IsRead s (z, u.1) R
read_then s v u z P Q R g a b = record {
  fillings = a.fillings ++ b.fillings;
  grows = grows_on s v.1 u.1 a.fillings b.fillings a.grows b.grows;
  reads = λ w. let q = b.reads w in let p = a.reads q.0 in (p.0, g a.fillings b.fillings p.1 q.1);
}

-- ---- what is filled in

known_first : (x : Scoped) (ls : List Scoped) (l : Locals) (p : Place) (k : Option Locals) → ((later : Locals) → k ≡ Some later → KnownLocals ls later) → x.place ≡ p → combined (known_local x.mode) p k ≡ Some l
    → KnownLocals (x ∷ ls) l
known_first x ls l None k f q e = absurd (cc)
known_first x ls l (Some t) None f q e = absurd (cc)
known_first x ls l (Some t) (Some k) f q e = let same : known_local x.mode t k ≡ l = cc in (t, k, q, sym same, f k refl)

pub known : (ls : List Scoped) (l : Locals) → known_locals ls ≡ Some l → KnownLocals ls l
known [] l e = let same : [] ≡ l = cc in sym same
known (x ∷ ls) l e = known_first x ls l x.place (known_locals ls) (λ later q. known ls later q) refl e

-- the filling at a place
abbrev pub IsFilling : List Scoped → Place → Fillings → PlainObject → Type 0
IsFilling ls t fs o = (u : SimpleType) × (l : Locals) × (t ≡ Some u) × KnownLocals ls l × (fs ≡ record { locals = l; type = u; object = o } ∷ [])

pub place_read : (ls : List Scoped) (t : Place) (s : State) → IsRead s (fill_place ls t s) (IsFilling ls t)
place_read ls None s = record { fillings = []; grows = record { new_ones = tt; constants_kept = refl; added = sym (append-nil s.added) }; reads = λ w. absurd (cc) }
place_read ls (Some t) s = known_read (known_locals ls) refl
  where
    known_read : (k : Option Locals) → known_locals ls ≡ k → IsRead s (fill_known k t s) (IsFilling ls (Some t))
    known_read None e = record { fillings = []; grows = record { new_ones = tt; constants_kept = refl; added = sym (append-nil s.added) }; reads = λ w. absurd (cc) }
    known_read (Some l) e = record {
      fillings = record { locals = l; type = t; object = (fill_known (Some l) t s).0 } ∷ [];
      grows = record { new_ones = (refl, tt); constants_kept = refl; added = ap (λ ts. s.added ++ map new ts) (sym (append-nil (new_types (scope_of l) t))) };
      reads = λ w. (w, (t, l, refl, known ls l e, refl));
    }
