-- The reading of a neutral answers what it has to.
use Rattle.std.specs.Prelude.{ℕ, zero, suc, ◌≡◌, ◌+◌, ◌<◌, List, [], ◌∷◌, ◌++◌, length, map, drop, get_or, reverse, Option, Some, None, refl}
use Rattle.std.specs.Option.{option_map}
use Rattle.std.proofs.Common.{ap, sym, ◌∙◌, subst, arith}
use Rattle.std.proofs.lemmas.List.{append-nil}
use Rattle.clf_syntax.specs.declared.tree.Mode.{Mode}
use Rattle.clf_syntax.specs.declared.tree.SimpleEntry.{SimpleEntry, out-SimpleEntry}
use Rattle.clf_syntax.specs.declared.tree.Head.TheVariants.{Meta}
use Rattle.clf_syntax.specs.Tree.{head_alone, PlainElimination, spine_on}
use Rattle.clf_syntax.specs.TypeTree.{SimpleType}
use Rattle.clf_syntax.specs.PlainSimple.{plain_simple, plain_simple_entry, plain-simple-entry}
use Rattle.clf_syntax.proofs.Next.{dropped}
use Rattle.clf_syntax.specs.Simple.{Assignment, SimplyTypedNeutral}
use Rattle.pattern_laws.specs.Instantiations.{Types, closed}
use Rattle.pattern_laws.specs.Equations.{Locals, scoped}
use Rattle.pattern_laws.specs.Patterns.{Place as PlainPlace, on, local_at, OnLocals, Distinct}
use Rattle.celf_constraints.specs.declared.places.Places.{Places}
use Rattle.celf_constraints.specs.Equated.{plain_locals}
use Rattle.celf_constraints.specs.Reading.{plain_places, own_places, ReadsLocals, Scopes}
use Rattle.celf_constraints.specs.Read.{Reading, place_of, own_of, Reads, ReadsSpine, IsArranged, Arranges}
use Rattle.celf_constraints.proofs.Arguments.{one_reading}
use Rattle.celf_constraints.proofs.Located.{At, located, onto}
use Rattle.celf_constraints.proofs.Told.{read_back}

the_type : {t u : SimpleType} → Some t ≡ Some u → t ≡ u
the_type e = cc

module _ (z : Assignment) (vs : List SimpleType) (s : Scopes z vs) (m : ℕ) (ty : SimpleType) (typed : z (Meta m) ≡ Some ty) (es : List PlainElimination) (t : SimpleType) where
  -- a metavariable on locals is read
  told : (k : ℕ) (ps qs : List PlainPlace) → OnLocals z (spine_on es (head_alone (Meta m))) k ps qs t → (rs : List Reading) × Reads vs es ty rs t × ((i : ℕ) → local_at (map place_of (reverse rs)) i ≡ local_at ps i)
  told k ps qs o =
      let (h, (rs, r, l)) = read_back z vs (λ i u e. sym (s i) ∙ e) k es (Meta m) ps qs t o.neutral o.places in
      (rs, subst (λ x. Reads vs es x rs t) (the_type (sym (ap z h ∙ o.type) ∙ typed)) r, l)

  pub none_told : ((rs : List Reading) (u : SimpleType) → Reads vs es ty rs u → ⊥) → (k : ℕ) (ps qs : List PlainPlace) → OnLocals z (spine_on es (head_alone (Meta m))) k ps qs t → ⊥
  none_told f k ps qs o = let (rs, r, l) = told k ps qs o in f rs t r

  met : (rs : List Reading) (u : SimpleType) → Reads vs es ty rs u → (p : Places) → IsArranged m rs p → SimplyTypedNeutral z (spine_on es (head_alone (Meta m))) t → OnLocals z (spine_on es (head_alone (Meta m))) p.meta (plain_places p) (own_places p) t
  met rs u r p a q =
      let at = located z vs (λ i v e. s i ∙ e) m es (head_alone (Meta m)) ty rs u [] [] r (record { neutral = refl; type = typed; places = tt }) typed t q in
      let here : At z vs m (spine_on es (head_alone (Meta m))) (plain_places p) (own_places p) t =
      subst (λ l. At z vs m (spine_on es (head_alone (Meta m))) l (own_places p) t) (append-nil (map place_of (reverse rs)) ∙ sym a.places)
      (subst (λ l. At z vs m (spine_on es (head_alone (Meta m))) (map place_of (reverse rs) ++ []) l t) (append-nil (map own_of (reverse rs)) ∙ sym a.own) at) in
      record {
        neutral = here.neutral ∙ ap (λ k. on (own_places p) (head_alone (Meta k))) (sym a.meta);
        type = ap (λ k. z (Meta k)) a.meta ∙ here.type;
        places = here.places;
        distinct = subst Distinct (sym a.places) a.distinct;
      }

  pub answered : (rs : List Reading) (u : SimpleType) → Reads vs es ty rs u → (found : Option Places) → Arranges m rs found → SimplyTypedNeutral z (spine_on es (head_alone (Meta m))) t → ReadsLocals z (spine_on es (head_alone (Meta m))) t found
  answered rs u r (Some p) a q = met rs u r p a q
  answered rs u r None a q = λ k ps qs o.
      let (ss, b, l) = told k ps qs o in
      a (subst (λ x. Distinct (map place_of (reverse x))) (one_reading vs es ty ss rs t u b r) (λ i j v e f. o.distinct i j v (sym (l i) ∙ e) (sym (l j) ∙ f)))

-- ---- the locals of an equation

pub scoped_local : (constants metas : Types) (ls : Locals) → Scopes (scoped ls (closed constants metas)) (map (λ l. l.1) ls)
scoped_local constants metas [] i = refl
scoped_local constants metas (l ∷ ls) zero = refl
scoped_local constants metas (l ∷ ls) (suc i) = scoped_local constants metas ls i

types_of : (es : List SimpleEntry) → map (λ (l : Mode × SimpleType). l.1) (map plain_simple_entry es) ≡ map (λ e. (plain_simple_entry e).1) es
types_of [] = refl
types_of (e ∷ es) = ap (λ l. (plain_simple_entry e).1 ∷ l) (types_of es)

pub local_types : (es : List SimpleEntry) → map (λ (l : Mode × SimpleType). l.1) (plain_locals es) ≡ map (λ e. (plain_simple_entry e).1) (reverse es)
local_types es = types_of (reverse es)

pub more_types : (es : List SimpleEntry) (i : ℕ) (e : SimpleEntry) (ts us : List SimpleType) → i < length es → e ≡ get_or es i e → us ≡ plain_simple (out-SimpleEntry e).ty ∷ ts
    → map (λ e. (plain_simple_entry e).1) (reverse (drop (i + 1) es)) ++ us ≡ map (λ e. (plain_simple_entry e).1) (reverse (drop i es)) ++ ts
more_types es i e ts us l q f =
    let g = λ (e : SimpleEntry). (plain_simple_entry e).1 in
    ap (λ ys. map g (reverse (drop (i + 1) es)) ++ ys) (f ∙ ap (λ (p : Mode × SimpleType). p.1 ∷ ts) (sym (plain-simple-entry e)))
    ∙ sym (onto g e (drop (i + 1) es) ts) ∙ ap (λ ys. map g (reverse ys) ++ ts) (sym (dropped es i e l q))

pub nothing_left : {X Y : Type 0} (f : X → Y) (xs : List X) (i : ℕ) → (i < length xs → ⊥) → map f (drop i xs) ≡ []
nothing_left f [] i h = none f i
  where
    none : {X Y : Type 0} (f : X → Y) (i : ℕ) → map f (drop i []) ≡ []
    none f zero = refl
    none f (suc i) = refl
nothing_left f (x ∷ xs) zero h = absurd (h (omega arith))
nothing_left f (x ∷ xs) (suc i) h = nothing_left f xs i (λ l. h (omega (arith, l)))

-- ---- what a call along the spine answered

pub spine_none : {V : Type 0} (vs : List SimpleType) (es : List PlainElimination) (t : SimpleType) (n : Option V) (f : V → List Reading) → n ≡ None → ReadsSpine vs es t (option_map f n) → (rs : List Reading) (u : SimpleType) → Reads vs es t rs u → ⊥
spine_none vs es t None f e r = r
spine_none vs es t (Some v) f e r = absurd (cc)

the_value : {V : Type 0} {v w : V} → Some v ≡ Some w → v ≡ w
the_value e = cc

pub spine_some : {V : Type 0} (vs : List SimpleType) (es : List PlainElimination) (t : SimpleType) (n : Option V) (v : V) (f : V → List Reading) → n ≡ Some v → ReadsSpine vs es t (option_map f n) → (u : SimpleType) × Reads vs es t (f v) u
spine_some vs es t None v f e r = absurd (cc)
spine_some vs es t (Some w) v f e r = (r.0, subst (λ x. Reads vs es t (f x) r.0) (the_value e) r.1)

all_dropped : {X : Type 0} (xs : List X) (i : ℕ) → (i < length xs → ⊥) → drop i xs ≡ []
all_dropped [] zero h = refl
all_dropped [] (suc i) h = refl
all_dropped (x ∷ xs) zero h = absurd (h (omega arith))
all_dropped (x ∷ xs) (suc i) h = all_dropped xs i (λ l. h (omega (arith, l)))

pub last_types : (es : List SimpleEntry) (i : ℕ) (ts : List SimpleType) → (i < length es → ⊥) → map (λ e. (plain_simple_entry e).1) (reverse (drop i es)) ++ ts ≡ map (λ e. (plain_simple_entry e).1) (reverse es) → ts ≡ map (λ (l : Mode × SimpleType). l.1) (plain_locals es)
last_types es i ts h e = ap (λ (l : List SimpleEntry). map (λ (e : SimpleEntry). (plain_simple_entry e).1) (reverse l) ++ ts) (sym (all_dropped es i h)) ∙ e ∙ sym (local_types es)
