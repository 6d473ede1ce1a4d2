-- The arguments of a spine, read one by one: what was read is the only reading.
use Rattle.std.specs.Prelude.{ℕ, ◌≡◌, true, false, List, [], ◌∷◌, ◌++◌, refl}
use Rattle.std.proofs.Common.{ap, sym, ◌∙◌, subst, inl, inr, ⊎_elim, append_assoc}
use Rattle.std.proofs.lemmas.List.{append-nil}
use Rattle.clf_syntax.specs.declared.tree.Mode.{Mode}
use Rattle.clf_syntax.specs.Tree.{PlainObject, PlainElimination, arg, first, second}
use Rattle.clf_syntax.specs.TypeTree.{SimpleType, base, arrow, simple_with, simple_top, lax}
use Rattle.clf_syntax.proofs.OccursLaws.{not_both}
use Rattle.pattern_laws.specs.Patterns.{blank}
use Rattle.celf_constraints.specs.Read.{Reading, IsLocal, ReadAs, Reads}
use Rattle.celf_constraints.proofs.LongForms.{one_local}

abbrev made : Mode → SimpleType → SimpleType → ℕ → Reading
made m t u l = record { mode = m; type = t; own = u; local = l }

same : (r s : Reading) → r.mode ≡ s.mode → r.type ≡ s.type → r.own ≡ s.own → r.local ≡ s.local → r ≡ s
same r s a b c d = ap (λ x. made x r.type r.own r.local) a ∙ ap (λ x. made s.mode x r.own r.local) b ∙ ap (λ x. made s.mode s.type x r.local) c ∙ ap (λ x. made s.mode s.type s.own x) d

pub same_reading : (vs : List SimpleType) (m : Mode) (d : SimpleType) (o : PlainObject) (r s : Reading) → ReadAs vs m d o r → ReadAs vs m d o s → r ≡ s
same_reading vs m d o r s a b = let (f, g) = own in same r s (a.mode ∙ sym b.mode) (a.type ∙ sym b.type) f g
  where
    own : (r.own ≡ s.own) × (r.local ≡ s.local)
    own = ⊎_elim
        (λ h. ⊎_elim (λ k. (h.1 ∙ sym k.1, h.2 ∙ sym k.2)) (λ k. absurd (not_both h.0 k.0)) b.local)
        (λ h. ⊎_elim (λ k. absurd (not_both k.0 h.0)) (λ k. let (e, t) = one_local vs o r.own s.own r.local s.local h.1 k.1 in (t, e)) b.local) a.local

pub read_blank : (vs : List SimpleType) (m : Mode) (d : SimpleType) (o : PlainObject) → blank d ≡ true → ReadAs vs m d o (made m d d 0)
read_blank vs m d o e = record { mode = refl; type = refl; local = inl (e, refl, refl) }

pub read_local : (vs : List SimpleType) (m : Mode) (d : SimpleType) (o : PlainObject) (u : SimpleType) (y : ℕ) → blank d ≡ false → IsLocal vs o u y → ReadAs vs m d o (made m d u y)
read_local vs m d o u y e l = record { mode = refl; type = refl; local = inr (e, l) }

pub unread : (vs : List SimpleType) (m : Mode) (d : SimpleType) (o : PlainObject) → blank d ≡ false → ((u : SimpleType) (y : ℕ) → IsLocal vs o u y → ⊥) → (r : Reading) → ReadAs vs m d o r → ⊥
unread vs m d o e f r a = ⊎_elim (λ h. not_both h.0 e) (λ h. f r.own r.local h.1) a.local

-- ---- one elimination

pub one_read : (vs : List SimpleType) (m k : Mode) (o : PlainObject) (d c : SimpleType) (r : Reading) → m ≡ k → ReadAs vs m d o r → Reads vs (arg m o ∷ []) (arrow k d c) (r ∷ []) c
one_read vs m k o d c r e a = (e, subst (λ n. ReadAs vs n d o r) e a, refl)

pub none_read : (vs : List SimpleType) (m k : Mode) (o : PlainObject) (d c : SimpleType) → m ≡ k → ((r : Reading) → ReadAs vs m d o r → ⊥) → (r : Reading) (u : SimpleType) → Reads vs (arg m o ∷ []) (arrow k d c) (r ∷ []) u → ⊥
none_read vs m k o d c e f r u a = f r (subst (λ n. ReadAs vs n d o r) (sym e) a.1)

pub first_of : (vs : List SimpleType) (e : PlainElimination) (es : List PlainElimination) (t : SimpleType) (r : Reading) (w : SimpleType) → Reads vs (e ∷ []) t (r ∷ []) w
    → (rs : List Reading) (u : SimpleType) → Reads vs (e ∷ es) t rs u → (ss : List Reading) × (rs ≡ r ∷ ss) × Reads vs es w ss u
first_of vs (arg m o) es (arrow k d c) r w a [] u b = absurd b
first_of vs (arg m o) es (arrow k d c) r w a (s ∷ ss) u b = (ss, ap (λ x. x ∷ ss) (same_reading vs k d o s r b.1 a.1), subst (λ t. Reads vs es t ss u) a.2 b.2)
first_of vs (arg m o) es (base f) r w a rs u b = absurd a
first_of vs (arg m o) es (simple_with c d) r w a rs u b = absurd a
first_of vs (arg m o) es simple_top r w a rs u b = absurd a
first_of vs (arg m o) es (lax ts) r w a rs u b = absurd a
first_of vs first es t r w a rs u b = absurd a
first_of vs second es t r w a rs u b = absurd a

pub then_of : (vs : List SimpleType) (e : PlainElimination) (es : List PlainElimination) (t : SimpleType) (r : Reading) (w : SimpleType) → Reads vs (e ∷ []) t (r ∷ []) w
    → (rs : List Reading) (u : SimpleType) → Reads vs es w rs u → Reads vs (e ∷ es) t (r ∷ rs) u
then_of vs (arg m o) es (arrow k d c) r w a rs u b = (a.0, a.1, subst (λ t. Reads vs es t rs u) (sym a.2) b)
then_of vs (arg m o) es (base f) r w a rs u b = absurd a
then_of vs (arg m o) es (simple_with c d) r w a rs u b = absurd a
then_of vs (arg m o) es simple_top r w a rs u b = absurd a
then_of vs (arg m o) es (lax ts) r w a rs u b = absurd a
then_of vs first es t r w a rs u b = absurd a
then_of vs second es t r w a rs u b = absurd a

pub none_of : (vs : List SimpleType) (e : PlainElimination) (es : List PlainElimination) (t : SimpleType) → ((r : Reading) (w : SimpleType) → Reads vs (e ∷ []) t (r ∷ []) w → ⊥)
    → (rs : List Reading) (u : SimpleType) → Reads vs (e ∷ es) t rs u → ⊥
none_of vs (arg m o) es (arrow k d c) f [] u b = b
none_of vs (arg m o) es (arrow k d c) f (s ∷ ss) u b = f s c (b.0, b.1, refl)
none_of vs (arg m o) es (base a) f rs u b = b
none_of vs (arg m o) es (simple_with c d) f rs u b = b
none_of vs (arg m o) es simple_top f rs u b = b
none_of vs (arg m o) es (lax ts) f rs u b = b
none_of vs first es t f rs u b = b
none_of vs second es t f rs u b = b

-- ---- the loop: so far found was read of es under t, and fs are left, under w

pub record SoFar (vs : List SimpleType) (es : List PlainElimination) (t : SimpleType) (found : List Reading) (fs : List PlainElimination) (w : SimpleType) : Type 0 where
  pub onward : (rs : List Reading) (u : SimpleType) → Reads vs fs w rs u → Reads vs es t (found ++ rs) u
  pub back : (rs : List Reading) (u : SimpleType) → Reads vs es t rs u → (ss : List Reading) × (rs ≡ found ++ ss) × Reads vs fs w ss u

pub begun : (vs : List SimpleType) (es : List PlainElimination) (t : SimpleType) → SoFar vs es t [] es t
begun vs es t = record { onward = λ rs u r. r; back = λ rs u r. (rs, refl, r) }

pub further : (vs : List SimpleType) (es : List PlainElimination) (t : SimpleType) (found : List Reading) (e : PlainElimination) (fs : List PlainElimination) (w : SimpleType) (r : Reading) (x : SimpleType)
    → Reads vs (e ∷ []) w (r ∷ []) x → SoFar vs es t found (e ∷ fs) w → SoFar vs es t (found ++ r ∷ []) fs x
further vs es t found e fs w r x one s = record {
  onward = λ rs u a. subst (λ ss. Reads vs es t ss u) (sym (append_assoc found (r ∷ []) rs)) (s.onward (r ∷ rs) u (then_of vs e fs w r x one rs u a));
  back = λ rs u a. let (ss, p, b) = s.back rs u a in let (ks, q, d) = first_of vs e fs w r x one ss u b in (ks, p ∙ ap (λ l. found ++ l) q ∙ sym (append_assoc found (r ∷ []) ks), d);
}

pub stopped : (vs : List SimpleType) (es : List PlainElimination) (t : SimpleType) (found : List Reading) (e : PlainElimination) (fs : List PlainElimination) (w : SimpleType)
    → ((r : Reading) (x : SimpleType) → Reads vs (e ∷ []) w (r ∷ []) x → ⊥) → SoFar vs es t found (e ∷ fs) w → (rs : List Reading) (u : SimpleType) → Reads vs es t rs u → ⊥
stopped vs es t found e fs w f s rs u a = let (ss, p, b) = s.back rs u a in none_of vs e fs w f ss u b

pub finished : (vs : List SimpleType) (es : List PlainElimination) (t : SimpleType) (found : List Reading) (w : SimpleType) → SoFar vs es t found [] w → (u : SimpleType) × Reads vs es t found u
finished vs es t found w s = (w, subst (λ ss. Reads vs es t ss w) (append-nil found) (s.onward [] w refl))

-- All readings of a spine are one.
pub one_reading : (vs : List SimpleType) (es : List PlainElimination) (t : SimpleType) (rs ss : List Reading) (u w : SimpleType) → Reads vs es t rs u → Reads vs es t ss w → rs ≡ ss
one_reading vs [] t [] [] u w a b = refl
one_reading vs [] t [] (s ∷ ss) u w a b = absurd b
one_reading vs [] t (r ∷ rs) ss u w a b = absurd a
one_reading vs (arg m o ∷ es) (arrow k d c) [] ss u w a b = absurd a
one_reading vs (arg m o ∷ es) (arrow k d c) (r ∷ rs) [] u w a b = absurd b
one_reading vs (arg m o ∷ es) (arrow k d c) (r ∷ rs) (s ∷ ss) u w a b = ap (λ x. x ∷ rs) (same_reading vs k d o r s a.1 b.1) ∙ ap (λ l. s ∷ l) (one_reading vs es c rs ss u w a.2 b.2)
one_reading vs (arg m o ∷ es) (base f) rs ss u w a b = absurd a
one_reading vs (arg m o ∷ es) (simple_with c d) rs ss u w a b = absurd a
one_reading vs (arg m o ∷ es) simple_top rs ss u w a b = absurd a
one_reading vs (arg m o ∷ es) (lax ts) rs ss u w a b = absurd a
one_reading vs (first ∷ es) t rs ss u w a b = absurd a
one_reading vs (second ∷ es) t rs ss u w a b = absurd a
