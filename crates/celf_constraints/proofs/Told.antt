-- Each metavariable on locals is read, with the same locals at the same places.
use Rattle.std.specs.Prelude.{ℕ, zero, suc, ◌≡◌, ◌⊎◌, Bool, true, false, if◌then◌else◌, List, [], ◌∷◌, ◌++◌, map, reverse, Some, None, refl}
use Rattle.std.specs.List.{slice_get}
use Rattle.std.proofs.Common.{ap, sym, ◌∙◌, subst, inl, inr, ⊎_elim}
use Rattle.std.proofs.lemmas.List.{reverse-append}
use Rattle.clf_syntax.specs.declared.tree.Mode.{Mode}
use Rattle.clf_syntax.specs.declared.tree.Head.{Head}
use Rattle.clf_syntax.specs.declared.tree.Head.TheVariants.{Var, Meta}
use Rattle.clf_syntax.specs.Tree.{PlainObject, PlainNeutral, head_alone, app, fst, snd, PlainElimination, arg, first, second, eliminated, spine_on}
use Rattle.clf_syntax.specs.TypeTree.{SimpleType, base, arrow, simple_with, simple_top, lax}
use Rattle.clf_syntax.specs.Simple.{Assignment}
use Rattle.clf_syntax.proofs.OccursLaws.{not_both}
use Rattle.hered_subst.proofs.SimpleTyping.{to_typed}
use Rattle.eta_laws.specs.Eta.{eta}
use Rattle.pattern_laws.specs.Patterns.{Place as PlainPlace, blank, on, arrows, local_at, OwnPlace, OwnPlaces}
use Rattle.pattern_laws.proofs.Typings.{blank_is}
use Rattle.inversion_laws.proofs.Misfits.{blank_eta}
use Rattle.celf_constraints.specs.Read.{Reading, place_of, IsLocal, ReadAs, Reads}

snoc : (vs : List SimpleType) (es : List PlainElimination) (t : SimpleType) (rs : List Reading) (m k : Mode) (d c : SimpleType) (o : PlainObject) (r : Reading) → Reads vs es t rs (arrow k d c) → m ≡ k → ReadAs vs k d o r → Reads vs (es ++ arg m o ∷ []) t (rs ++ r ∷ []) c
snoc vs [] t [] m k d c o r a e b = subst (λ x. Reads vs (arg m o ∷ []) x (r ∷ []) c) (sym a) (e, b, refl)
snoc vs [] t (s ∷ ss) m k d c o r a e b = absurd a
snoc vs (arg n x ∷ es) (arrow l i j) [] m k d c o r a e b = absurd a
snoc vs (arg n x ∷ es) (arrow l i j) (s ∷ ss) m k d c o r a e b = (a.0, a.1, snoc vs es j ss m k d c o r a.2 e b)
snoc vs (arg n x ∷ es) (base f) rs m k d c o r a e b = absurd a
snoc vs (arg n x ∷ es) (simple_with i j) rs m k d c o r a e b = absurd a
snoc vs (arg n x ∷ es) simple_top rs m k d c o r a e b = absurd a
snoc vs (arg n x ∷ es) (lax ts) rs m k d c o r a e b = absurd a
snoc vs (first ∷ es) t rs m k d c o r a e b = absurd a
snoc vs (second ∷ es) t rs m k d c o r a e b = absurd a

same_argument : {k m : Mode} {r n : PlainNeutral} {x o : PlainObject} → app k r x ≡ app m n o → arg k x ≡ arg m o
same_argument e = cc

same_function : {k m : Mode} {r n : PlainNeutral} {x o : PlainObject} → app k r x ≡ app m n o → r ≡ n
same_function e = cc

not_first : {m : Mode} {r n : PlainNeutral} {o : PlainObject} → fst r ≡ app m n o → ⊥
not_first e = cc

not_second : {m : Mode} {r n : PlainNeutral} {o : PlainObject} → snd r ≡ app m n o → ⊥
not_second e = cc

-- the last elimination of a spine that ends in an argument
last_of : (e : PlainElimination) (es : List PlainElimination) (r : PlainNeutral) (m : Mode) (n : PlainNeutral) (o : PlainObject) → spine_on (e ∷ es) r ≡ app m n o
    → (fs : List PlainElimination) × (e ∷ es ≡ fs ++ arg m o ∷ []) × (spine_on fs r ≡ n)
last_of (arg k x) [] r m n o h = ([], ap (λ e. e ∷ []) (same_argument h), same_function h)
last_of first [] r m n o h = absurd (not_first h)
last_of second [] r m n o h = absurd (not_second h)
last_of e (f ∷ es) r m n o h = let (fs, p, q) = last_of f es (eliminated e r) m n o h in (e ∷ fs, ap (λ l. e ∷ l) p, q)

not_bare : (e : PlainElimination) (es : List PlainElimination) (r : PlainNeutral) (h : Head) → spine_on (e ∷ es) r ≡ head_alone h → ⊥
not_bare (arg m o) [] r h e = cc
not_bare first [] r h e = cc
not_bare second [] r h e = cc
not_bare x (f ∷ es) r h e = not_bare f es (eliminated x r) h e

bare_app : {h : Head} {m : Mode} {n : PlainNeutral} {o : PlainObject} → head_alone h ≡ app m n o → ⊥
bare_app e = cc

same_head : {h k : Head} → head_alone h ≡ head_alone k → h ≡ k
same_head e = cc

cases_of : (b : Bool) → (b ≡ true) ⊎ (b ≡ false)
cases_of true = inl refl
cases_of false = inr refl

not_true : (b : Bool) → (b ≡ true → ⊥) → b ≡ false
not_true true h = absurd (h refl)
not_true false h = refl

hidden : (b : Bool) (x y : ℕ) → b ≡ true → (if b then None else Some x) ≡ (if b then None else Some y)
hidden true x y e = refl
hidden false x y e = absurd (cc)

module _ (z : Assignment) (vs : List SimpleType) (listed : (i : ℕ) (u : SimpleType) → z (Var i) ≡ Some u → slice_get vs i ≡ Some u) where
  one_back : (p q : PlainPlace) → OwnPlace z p q → (r : Reading) × ReadAs vs p.0 p.1 (eta q.1 (head_alone (Var q.2))) r × ((if blank r.type then None else Some r.local) ≡ (if blank p.1 then None else Some p.2))
  one_back p q o = ⊎_elim
      (λ e. (record { mode = p.0; type = p.1; own = p.1; local = 0 }, record { mode = refl; type = refl; local = inl (e, refl, refl) }, hidden (blank p.1) 0 p.2 e))
      (λ e. (record { mode = p.0; type = p.1; own = q.1; local = q.2 }, record { mode = refl; type = refl; local = inr (e, local e) }, ap (λ x. if blank p.1 then None else Some x) (sym o.local)))
      (cases_of (blank p.1))
    where
      local : blank p.1 ≡ false → IsLocal vs (eta q.1 (head_alone (Var q.2))) q.1 q.2
      local e = record {
        known = ⊎_elim (λ k. listed q.2 q.1 k) (λ k. absurd (not_both k e)) o.own;
        shown = not_true (blank q.1) (λ k. not_both (blank_is (to_typed true z (eta q.1 (head_alone (Var q.2))) p.1 o.typed) (blank_eta q.1 (head_alone (Var q.2)) k)).0 e);
        form = refl;
      }

  pub read_back : (m : ℕ) (es : List PlainElimination) (h : Head) (ps qs : List PlainPlace) (t : SimpleType) → spine_on es (head_alone h) ≡ on qs (head_alone (Meta m)) → OwnPlaces z ps qs
      → (h ≡ Meta m) × ((rs : List Reading) × Reads vs es (arrows ps t) rs t × ((i : ℕ) → local_at (map place_of (reverse rs)) i ≡ local_at ps i))
  read_back m [] h [] [] t e o = (same_head e, ([], refl, λ i. refl))
  read_back m (x ∷ es) h [] [] t e o = absurd (not_bare x es (head_alone h) (Meta m) e)
  read_back m es h [] (q ∷ qs) t e o = absurd o
  read_back m es h (p ∷ ps) [] t e o = absurd o
  read_back m [] h (p ∷ ps) (q ∷ qs) t e o = absurd (bare_app e)
  read_back m (x ∷ es) h (p ∷ ps) (q ∷ qs) t e o =
      let (fs, a, b) = last_of x es (head_alone h) q.0 (on qs (head_alone (Meta m))) (eta q.1 (head_alone (Var q.2))) e in
      let (f, (rs, g, l)) = read_back m fs h ps qs (arrow p.0 p.1 t) b o.1 in
      let (r, c, k) = one_back p q o.0 in (
        f,
        (
          rs ++ r ∷ [],
          subst (λ y. Reads vs y (arrows ps (arrow p.0 p.1 t)) (rs ++ r ∷ []) t) (sym a) (snoc vs fs (arrows ps (arrow p.0 p.1 t)) rs q.0 p.0 p.1 t (eta q.1 (head_alone (Var q.2))) r g (sym o.0.mode) c),
          λ i. ap (λ y. local_at (map place_of y) i) (reverse-append rs (r ∷ [])) ∙ at i r k rs l,
        ),
      )
    where
      at : (i : ℕ) (r : Reading) → (if blank r.type then None else Some r.local) ≡ (if blank p.1 then None else Some p.2) → (rs : List Reading) → ((i : ℕ) → local_at (map place_of (reverse rs)) i ≡ local_at ps i)
          → local_at (map place_of (r ∷ reverse rs)) i ≡ local_at (p ∷ ps) i
      at zero r k rs l = k
      at (suc i) r k rs l = l i
