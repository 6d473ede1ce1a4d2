-- Arguments that no solution uses.
use Rattle.std.specs.Prelude.{ℕ, true, false, ◌+◌, ◌≡◌, List, length, Some}
use Rattle.std.proofs.Common.{ap, sym, subst, ◌∙◌}
use Rattle.clf_syntax.specs.declared.tree.Head.{Head}
use Rattle.clf_syntax.specs.declared.tree.Head.TheVariants.{Var}
use Rattle.clf_syntax.specs.Tree.{PlainObject, atomic, PlainNeutral, head_of}
use Rattle.clf_syntax.specs.TypeTree.{SimpleType}
use Rattle.clf_syntax.specs.Simple.{Assignment}
use Rattle.clf_syntax.specs.Renaming.{ren, ren_head, up}
use Rattle.clf_syntax.specs.Occurs.{occurs}
use Rattle.clf_syntax.proofs.OccursLaws.{not_both}
use Rattle.hered_subst.proofs.Determined.{determined}
use Rattle.hered_subst.proofs.SimpleTyping.{Typed}
use Rattle.hered_subst.specs.TypedEnvironments.{is_metavariable}
use Rattle.subst_laws.specs.Environments.{Instantiation, instant}
use Rattle.trace_equal.specs.Exchange.{Joined}
use Rattle.trace_equal.proofs.Joined.{joined_is_equivalence}
use Rattle.pattern_laws.specs.Instantiations.{Instantiated, Types, closed, over, Instantiates}
use Rattle.pattern_laws.specs.Patterns.{Place, lams, arrows, local_at, OnDistinct, beneath, SameTypes, Foreign, Ends, ends_here, ends_later, OnLocals, LacksMisfits}
use Rattle.pattern_laws.specs.Equations.{scoped, Solves, Locals}
use Rattle.pattern_laws.proofs.Spines.{applied}
use Rattle.inversion_laws.proofs.Inversions.{follows}
use Rattle.pattern_laws.proofs.Inverse.{not_applied, applied_back, applied_local, same_lams, same_beneath}
use Rattle.pattern_laws.proofs.Instances.{scoped_out, scoped_meta}
use Rattle.inversion_laws.proofs.Cores.{fitting_over, within, given_body, meta_type, solved_value}
use Rattle.unify_laws.specs.Rigid.{Stands, StandsBelow}
use Rattle.unify_laws.proofs.RigidPlaces.{foreign_argument, foreign_head, within_itself}

-- After as many locals as the list has.
out_of : (inner : Locals) (n : ℕ) → length inner ≡ n → (y : Assignment) (h : Head) → scoped inner y (ren_head (up n) h) ≡ y h
out_of inner n e y h = subst (λ k. scoped inner y (ren_head (up k) h) ≡ y h) e (scoped_out inner y h)

module _ (constants metas parameters : Types) (t : Instantiation) (f : Instantiates constants metas parameters t) (ls : Locals) (r : PlainNeutral) (m : ℕ) (ps qs : List Place) (a : SimpleType)
    (d : OnLocals (scoped ls (closed constants metas)) r m ps qs a) (x : PlainObject) (lacks : LacksMisfits ps qs x) (s : Solves (instant t) (record { locals = ls; left = atomic r; right = x; type = a })) where
  -- what the metavariable holds, and its instance joined with that of the side
  sides : (b : PlainObject) × Typed false (beneath ps (over constants parameters)) b a × ((w : PlainObject) × Instantiated (length ls) t x w × Joined (ren (applied (length ls) ps) b) w)
  sides = let (b, e, q, p) = given_body constants metas parameters t f m ps a (meta_type constants metas parameters t f ls r m ps qs a d) in let (v, w, i, k, j) = s in
      (b, p, (w, k, subst (λ z. Joined z w) (solved_value constants metas parameters t f ls r m ps qs a d b e q x lacks v w i k j) j))

  -- A foreign local that is an argument of a metavariable on distinct locals, at a rigid place of the side.
  pub foreign_unused : (inner : Locals) (n : ℕ) (q : PlainNeutral) (k : ℕ) (zs : List Place) (c : SimpleType) → length inner ≡ length ls + n → OnDistinct (scoped inner (closed constants metas)) q k zs c → Stands n q x
      → (u w : ℕ) → local_at zs u ≡ Some w → Foreign (length ls) ps n w
      → (o : PlainObject) → t k ≡ Some (lams zs o) → Typed false (over constants parameters) (lams zs o) (arrows zs c) → occurs u o ≡ false
  foreign_unused inner n q k zs c l e st u w h g o i p = let (b, pb, (y, iy, j)) = sides in let (v, k1, k2, k3) = g in
      foreign_argument t (length ls) k (over constants parameters) (scoped inner (over constants parameters)) (applied (length ls) ps) b o x y zs c n u v
      (out_of inner (length ls + n) l (over constants parameters)) (fitting_over constants metas parameters inner zs e.fitting) i p (subst (λ z. Stands n z x) e.neutral st)
      (applied_local (length ls + n) zs u w h ∙ k1) iy j (not_applied (length ls) ps (over constants parameters) b a pb v k2 k3)

  -- Clash: a foreign local is a head at a rigid place of the side.
  pub head_clash : (n : ℕ) (q : PlainNeutral) (w : ℕ) → Stands n q x → head_of q ≡ Var w → Foreign (length ls) ps n w → ⊥
  head_clash n q w st e g = let (b, pb, (y, iy, j)) = sides in let (v, k1, k2, k3) = g in
      foreign_head t (length ls) (applied (length ls) ps) b x y n v q st (e ∙ ap Var k1) iy (not_applied (length ls) ps (over constants parameters) b a pb v k2 k3) j

-- Clash: the metavariable stands on distinct locals at a rigid place below another head.
pub inside_clash : (constants metas parameters : Types) (t : Instantiation) → Instantiates constants metas parameters t → (ls : Locals) (r : PlainNeutral) (m : ℕ) (ps qs : List Place) (a : SimpleType)
    → OnLocals (scoped ls (closed constants metas)) r m ps qs a → (q0 : PlainNeutral) → LacksMisfits ps qs (atomic q0) → Solves (instant t) (record { locals = ls; left = atomic r; right = atomic q0; type = a })
    → (inner : Locals) (n : ℕ) (q : PlainNeutral) (zs : List Place) → length inner ≡ length ls + n → OnDistinct (scoped inner (closed constants metas)) q m zs a → SameTypes ps zs
    → is_metavariable (head_of q0) ≡ false → StandsBelow n q q0 → ⊥
inside_clash constants metas parameters t f ls r m ps qs a d q0 lacks s inner n q zs l e same i st =
    let (b, eb, qb, pb) = given_body constants metas parameters t f m ps a (meta_type constants metas parameters t f ls r m ps qs a d) in let (v, w, iv, iw, j) = s in
    within_itself t (length ls) m (over constants parameters) (scoped inner (over constants parameters)) zs b a n (applied (length ls) ps) q0 v w
    (solved_value constants metas parameters t f ls r m ps qs a d b eb qb (atomic q0) lacks v w iv iw j) (out_of inner (length ls + n) l (over constants parameters)) (fitting_over constants metas parameters inner zs e.fitting)
    (eb ∙ ap (λ o. Some o) (same_lams ps zs same b)) (type_there b (meta_type constants metas parameters t f ls r m ps qs a d) (sym (scoped_meta inner (closed constants metas) m) ∙ e.type) qb)
    i (subst (λ z. StandsBelow n z q0) e.neutral st) iw j
  where
    one_type : {c d : SimpleType} → Some c ≡ Some d → c ≡ d
    one_type e = cc

    type_there : (b : PlainObject) → metas m ≡ Some (arrows ps a) → metas m ≡ Some (arrows zs a) → Typed false (over constants parameters) (lams ps b) (arrows ps a) → Typed false (over constants parameters) (lams zs b) (arrows zs a)
    type_there b g h p = subst (λ c. Typed false (over constants parameters) (lams zs b) c) (one_type (sym g ∙ h)) (subst (λ o. Typed false (over constants parameters) o (arrows ps a)) (same_lams ps zs same b) p)

-- The same metavariable on both sides: a place from which the way comes to an end is not used.
pub ends_unused : (constants metas parameters : Types) (t : Instantiation) → Instantiates constants metas parameters t → (ls : Locals) (r r' : PlainNeutral) (m : ℕ) (ps qs zs ws : List Place) (a : SimpleType)
    → OnLocals (scoped ls (closed constants metas)) r m ps qs a → OnLocals (scoped ls (closed constants metas)) r' m zs ws a → LacksMisfits ps qs (atomic r') → LacksMisfits zs ws (atomic r) → SameTypes ps zs
    → Solves (instant t) (record { locals = ls; left = atomic r; right = atomic r'; type = a })
    → (b : PlainObject) → t m ≡ Some (lams ps b) → Typed false (over constants parameters) (lams ps b) (arrows ps a) → Typed false (beneath ps (over constants parameters)) b a
    → {j : ℕ} → Ends ps zs j → occurs j b ≡ false
ends_unused constants metas parameters t f ls r r' m ps qs zs ws a d d' lacks lacks' same s b e q p = unused
  where
    one_type : {c d : SimpleType} → Some c ≡ Some d → c ≡ d
    one_type e = cc

    there : Typed false (over constants parameters) (lams zs b) (arrows zs a)
    there = subst (λ c. Typed false (over constants parameters) (lams zs b) c) (one_type (sym (meta_type constants metas parameters t f ls r m ps qs a d) ∙ meta_type constants metas parameters t f ls r' m zs ws a d'))
        (subst (λ o. Typed false (over constants parameters) o (arrows ps a)) (same_lams ps zs same b) q)

    below : Typed false (beneath zs (over constants parameters)) b a
    below = subst (λ g. Typed false g b a) (same_beneath ps zs same (over constants parameters)) p

    joined_sides : Joined (ren (applied (length ls) zs) b) (ren (applied (length ls) ps) b)
    joined_sides = let (v, w, i, k, j) = s in joined_is_equivalence.1 (ren (applied (length ls) ps) b) (ren (applied (length ls) zs) b)
        (subst (λ z. Joined z (ren (applied (length ls) zs) b)) (solved_value constants metas parameters t f ls r m ps qs a d b e q (atomic r') lacks v w i k j)
        (subst (λ z. Joined v z) (solved_value constants metas parameters t f ls r' m zs ws a d' b (e ∙ ap (λ o. Some o) (same_lams ps zs same b)) there (atomic r) lacks' w v k i (joined_is_equivalence.1 v w j)) j))

    unused : {j : ℕ} → Ends ps zs j → occurs j b ≡ false
    unused (ends_here {j = j} {v = v} g h) = follows (applied (length ls) ps) (applied (length ls) zs) b j joined_sides
        (λ u o k. not_applied (length ls) zs (over constants parameters) b a below v (within constants metas ls ps qs d.places j v g) h u o (k ∙ applied_local (length ls) ps j v g))
    unused (ends_later {j = j} {i = i} {v = v} g h n) = follows (applied (length ls) ps) (applied (length ls) zs) b j joined_sides
        (λ u o k. not_both (subst (λ c. occurs c b ≡ true) (applied_back (length ls) zs (over constants parameters) b a below d'.distinct i v (within constants metas ls ps qs d.places j v g) h u o (k ∙ applied_local (length ls) ps j v g)) o) (unused n))
