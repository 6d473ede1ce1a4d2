-- From what is read and found to the answers.
use Rattle.std.specs.Prelude.{ℕ, ◌≡◌, Bool, List, [], length, map, reverse, Some}
use Rattle.std.specs.Borrow.{Bor}
use Rattle.std.proofs.Common.{sym, subst, ◌∙◌, inl, inr, ⊎_elim}
use Rattle.std.proofs.lemmas.List.{length-map, length-reverse}
use Rattle.clf_syntax.specs.declared.tree.Head.TheVariants.{Meta}
use Rattle.clf_syntax.specs.declared.tree.Simple.{Simple}
use Rattle.clf_syntax.specs.declared.tree.SimpleEntry.{SimpleEntry}
use Rattle.clf_syntax.specs.Tree.{PlainObject, atomic, PlainNeutral, head_of}
use Rattle.clf_syntax.specs.TypeTree.{SimpleType}
use Rattle.clf_syntax.specs.PlainSimple.{plain_simple_entry}
use Rattle.clf_syntax.specs.Simple.{SimplyTyped}
use Rattle.clf_simple.specs.Scope.{scope}
use Rattle.pattern_laws.specs.Equations.{scoped}
use Rattle.pattern_laws.specs.Patterns.{Place, IsFinal, OnLocals, LacksMisfits, NoCircle}
use Rattle.pattern_laws.proofs.Places.{same_types}
use Rattle.celf_constraints.specs.declared.places.Places.{Places}
use Rattle.celf_constraints.specs.Equated.{plain_locals}
use Rattle.celf_constraints.specs.Reading.{plain_places, own_places}
use Rattle.reach_walk.specs.Answers.{IsAssign, IsSame, KeepsAgreeing}
use Rattle.reach_walk.specs.Marks.{MarksForeign}
use Rattle.reach_walk.specs.Walked.{Found as PlainFound, Walked}
use Rattle.reach_walk.proofs.OneReading.{stands_final}
use Rattle.reach_walk.proofs.Reaching.{head_of_pattern, is_pattern, is_clash, is_prune, is_assign, other_no}
use Rattle.celf_reach.specs.declared.answer.Reach.{Reach}
use Rattle.celf_reach.specs.declared.answer.Reach.TheVariants.{No, Clash, Same, Prune, Assign}
use Rattle.celf_reach.specs.declared.tables.Sought.{Sought}
use Rattle.celf_reach.specs.declared.tables.Tables.{Tables}
use Rattle.celf_reach.specs.Answered.{types_in, heads_of, Answers}
use Rattle.celf_reach.specs.Asked.{AnswersAt, Told}
use Rattle.celf_reach.specs.Scanned.{Finds}
use Rattle.celf_reach.specs.Sought.{sought_heads}

pub locals_long : (es : List SimpleEntry) → length (plain_locals es) ≡ length es
locals_long es = length-map (reverse es) plain_simple_entry ∙ length-reverse es

-- What is found over tables, seen from the equation.
pub scanned : (t : Tables) (a : SimpleType) (s : Sought) (types : List (Bor Simple)) (j : ℕ) (x : PlainObject) (f : PlainFound) → sought_heads s ≡ heads_of t.consts.now t.metas.now → s.meta ≡ j → s.count ≡ length t.locals.now
    → scope types ≡ map (λ l. l.1) (plain_locals t.locals.now) → Finds s types x a f
    → (zs : List Place) → MarksForeign (length (plain_locals t.locals.now)) zs s.marks.now → SimplyTyped (scoped (plain_locals t.locals.now) (heads_of t.consts.now t.metas.now)) x a
    → Walked (heads_of t.consts.now t.metas.now) (plain_locals t.locals.now) j zs [] x a f
scanned t a s types j x f eh em ec es w zs k d =
    subst (λ h. Walked h (plain_locals t.locals.now) j zs [] x a f) eh (subst (λ m. Walked (sought_heads s) (plain_locals t.locals.now) m zs [] x a f) em
    (w (plain_locals t.locals.now) [] zs (record { count = locals_long t.locals.now ∙ sym ec; marks = k; scoped = es }) (subst (λ h. SimplyTyped (scoped (plain_locals t.locals.now) h) x a) (sym eh) d)))

-- What was told of what is found is an answer.
pub told_answers : (t : Tables) (a : SimpleType) (p : Places) (x : PlainObject) (f : PlainFound) (bs : List Bool) (r : Reach) → Told f p r → MarksForeign (length (plain_locals t.locals.now)) (plain_places p) bs
    → ((zs : List Place) → MarksForeign (length (plain_locals t.locals.now)) zs bs → SimplyTyped (scoped (plain_locals t.locals.now) (heads_of t.consts.now t.metas.now)) x a
    → Walked (heads_of t.consts.now t.metas.now) (plain_locals t.locals.now) p.meta zs [] x a f)
    → ((k : PlainNeutral) → x ≡ atomic k → head_of k ≡ Meta p.meta → ⊥) → LacksMisfits (plain_places p) (own_places p) x → (side : PlainObject) (n : PlainNeutral) → AnswersAt t a side n p x r
told_answers t a p x f bs r w k walked h l side n e o s d = subst (λ y. Answers (heads_of t.consts.now t.metas.now) (plain_locals t.locals.now) a y x r) (sym e) (of r w)
  where
    final : IsFinal a
    final = stands_final (scoped (plain_locals t.locals.now) (heads_of t.consts.now t.metas.now)) n a (subst (λ y. SimplyTyped (scoped (plain_locals t.locals.now) (heads_of t.consts.now t.metas.now)) y a) e s)

    of : (r : Reach) → Told f p r → Answers (heads_of t.consts.now t.metas.now) (plain_locals t.locals.now) a (atomic n) x r
    of No w = other_no (types_in t.consts.now) (types_in t.metas.now) (plain_locals t.locals.now) a n p.meta (plain_places p) (own_places p) x bs f final o k h (λ zs m. walked zs m d) w.0 w.1
    of Clash w = is_clash (types_in t.consts.now) (types_in t.metas.now) (plain_locals t.locals.now) a n p.meta (plain_places p) (own_places p) x f o l h (walked (plain_places p) k d) w
    of (Same mask) w = absurd w
    of (Prune j mask) w = is_prune (types_in t.consts.now) (types_in t.metas.now) (plain_locals t.locals.now) a n p.meta (plain_places p) (own_places p) x f j mask.items o l (walked (plain_places p) k d) w.0 w.1
    of (Assign q) w = subst (λ y. IsAssign (heads_of t.consts.now t.metas.now) (plain_locals t.locals.now) a (atomic n) x y.meta (plain_places y) (own_places y)) (sym w.2)
        (is_assign (types_in t.consts.now) (types_in t.metas.now) (plain_locals t.locals.now) a n p.meta (plain_places p) (own_places p) x f o l d (walked (plain_places p) k d) w.0 w.1)

-- ---- the same metavariable on both sides

one_type : {c d : SimpleType} → Some c ≡ Some d → c ≡ d
one_type e = cc

one_meta : {i j : ℕ} → Meta i ≡ Meta j → i ≡ j
one_meta e = cc

kept_ends : (ps zs : List Place) (bs : List Bool) → KeepsAgreeing ps zs bs → NoCircle ps zs
kept_ends ps zs bs k j v e = ⊎_elim (λ h. inl h.0) (λ h. inr h.1) (k.2 j v e)

pub same_answers : (t : Tables) (a : SimpleType) (p q : Places) (k : PlainNeutral) (bs : List Bool) (side : PlainObject) (n : PlainNeutral) → head_of k ≡ Meta p.meta → LacksMisfits (plain_places p) (own_places p) (atomic k)
    → OnLocals (scoped (plain_locals t.locals.now) (heads_of t.consts.now t.metas.now)) k q.meta (plain_places q) (own_places q) a → LacksMisfits (plain_places q) (own_places q) side → KeepsAgreeing (plain_places p) (plain_places q) bs
    → side ≡ atomic n → OnLocals (scoped (plain_locals t.locals.now) (heads_of t.consts.now t.metas.now)) n p.meta (plain_places p) (own_places p) a
    → SimplyTyped (scoped (plain_locals t.locals.now) (heads_of t.consts.now t.metas.now)) side a → IsSame (heads_of t.consts.now t.metas.now) (plain_locals t.locals.now) a side (atomic k) bs
same_answers t a p q k bs side n h l d m c e o s = subst (λ y. IsSame (heads_of t.consts.now t.metas.now) (plain_locals t.locals.now) a y (atomic k) bs) (sym e) (record {
  meta = p.meta;
  places = plain_places p;
  own = own_places p;
  others = plain_places q;
  others_own = own_places q;
  pattern = is_pattern (types_in t.consts.now) (types_in t.metas.now) (plain_locals t.locals.now) a n p.meta (plain_places p) (own_places p) (atomic k) o l;
  back = is_pattern (types_in t.consts.now) (types_in t.metas.now) (plain_locals t.locals.now) a k p.meta (plain_places q) (own_places q) (atomic n) there (subst (LacksMisfits (plain_places q) (own_places q)) e m);
  types = (same_types (plain_places p) (plain_places q) a a final final (one_type (sym o.type ∙ there.type))).0;
  no_circle = kept_ends (plain_places p) (plain_places q) bs c;
  keeps = c;
})
  where
    final : IsFinal a
    final = stands_final (scoped (plain_locals t.locals.now) (heads_of t.consts.now t.metas.now)) n a (subst (λ y. SimplyTyped (scoped (plain_locals t.locals.now) (heads_of t.consts.now t.metas.now)) y a) e s)

    there : OnLocals (scoped (plain_locals t.locals.now) (heads_of t.consts.now t.metas.now)) k p.meta (plain_places q) (own_places q) a
    there = subst (λ j. OnLocals (scoped (plain_locals t.locals.now) (heads_of t.consts.now t.metas.now)) k j (plain_places q) (own_places q) a)
        (one_meta (sym (head_of_pattern (scoped (plain_locals t.locals.now) (heads_of t.consts.now t.metas.now)) k q.meta (plain_places q) (own_places q) a d) ∙ h)) d
