-- Two readings of one text differ by their fillings alone.
use Rattle.std.specs.Prelude.{ℕ, suc, ◌≡◌, ◌&&◌, Bool, true, false, List, [], ◌∷◌, ◌++◌, length, Some, None, refl}
use Rattle.std.proofs.Common.{ap, arith, append_assoc, subst, sym, ◌∙◌}
use Rattle.clf_syntax.specs.declared.tree.Mode.{Mode}
use Rattle.clf_syntax.specs.declared.tree.Head.{Head}
use Rattle.clf_syntax.specs.declared.tree.Head.TheVariants.{Var}
use Rattle.clf_syntax.specs.Tree as core
use Rattle.clf_syntax.specs.Tree.{PlainObject, PlainNeutral, PlainExpression, PlainTuple, head_of, head_alone, steps_on}
use Rattle.clf_syntax.specs.TypeTree.{SimpleType, SimpleTelescope, base, arrow, simple_with, simple_top, lax}
use Rattle.clf_syntax.specs.Renaming.{ren_neutral, up}
use Rattle.hered_subst.specs.Substitution.{Environment, keep, ren_image, under, Substituted, SubstitutedExpression, SubstitutedTuple, KeepsHead, kept_bare, kept_app, kept_fst, kept_snd, through_lam, through_pair, through_unit, through_monadic, through_kept, through_done, step_kept, through_empty, through_entry}
use Rattle.hered_subst.specs.TypedEnvironments.{is_metavariable}
use Rattle.hered_subst.proofs.Renamed.{renamed_kept, under_in}
use Rattle.hered_subst.proofs.SimpleTyping.{under_under, under_zero}
use Rattle.subst_laws.proofs.Before.{fits_up}
use Rattle.eta_laws.specs.Eta.{at_monad, eta, expansion}
use Rattle.eta_laws.proofs.EtaLaws.{eta_kept}
use Rattle.eta_laws.proofs.Expansions.{meta_renamed}
use Rattle.pattern_laws.specs.Equations.{Locals}
use Rattle.pattern_laws.specs.Patterns.{blank}
use Rattle.clf_sig.specs.Entry.{PlainSignature}
use Rattle.celf_sugar.specs.declared.plain.PName.{PName}
use Rattle.celf_sugar.specs.declared.plain.PBinder.{PBinder}
use Rattle.celf_sugar.specs.PlainTree.{DesugaredObject, DesugaredSpine, DesugaredSteps, DesugaredTuple}
use Rattle.celf_places.specs.Places.{Place, marked, entries_at, function_parts, next_part, pair_parts}
use Rattle.celf_explicit.specs.Objects.{long_at, pattern_modes}
use Rattle.celf_elaboration.specs.Fillings.{Filling, Fillings, Scoped, KnownLocals}
use Rattle.celf_elaboration.specs.Names.{ImplicitVariable, Meaning, meaning}
use Rattle.celf_elaboration.specs.Readings.{with_pattern, ReadsImplicit, implicit_none, implicit_next, ReadsHead, reads_head, ReadsObject, reads_lam, reads_pair, reads_unit, reads_monadic, reads_atomic, reads_dropped, reads_hole, ReadsSpine, spine_end, spine_argument, spine_first, spine_second, ReadsSteps, steps_none, steps_next, ReadsTuple, tuple_end, tuple_entry}
use Rattle.reconstruction_laws.specs.Becoming.{FillingsBecome, KeepsNamed}
use Rattle.reconstruction_laws.proofs.Meanings.{NamedHead, named_head, names_constant, names_implicit, names_local, the_meaning}
use Rattle.subst_laws.proofs.Environs.{under_sum}

-- the head is kept, and stays a metavariable or none
pub record StaysNeutral (v : Environment) (r x : PlainNeutral) : Type 0 where
  pub kept : KeepsHead v r x
  pub sort : is_metavariable (head_of r) ≡ is_metavariable (head_of x)

monad_kept : (ts : SimpleTelescope) (v : Environment) (r x : PlainNeutral) (b c : Bool) → KeepsHead v r x → b ≡ c → Substituted v (at_monad b ts r) (at_monad c ts x)
monad_kept ts v r x true true k e = through_kept k
monad_kept ts v r x false false k e = eta_kept (lax ts) v k
monad_kept ts v r x true false k e = absurd (cc)
monad_kept ts v r x false true k e = absurd (cc)

expansion_kept : (t : SimpleType) (v : Environment) (r x : PlainNeutral) → StaysNeutral v r x → Substituted v (expansion t r) (expansion t x)
expansion_kept (base a) v r x k = through_kept k.kept
expansion_kept (arrow m d c) v r x k = through_lam (expansion_kept c (under 1 v) (core.app m (ren_neutral (up 1) r) (eta d (head_alone (Var 0)))) (core.app m (ren_neutral (up 1) x) (eta d (head_alone (Var 0))))
    (record {
      kept = kept_app (renamed_kept (up 1) (up 1) (under 1 v) (fits_up 1 v) k.kept) (eta_kept d (under 1 v) (kept_bare (under_in 1 v 0 (omega arith))));
      sort = meta_renamed (up 1) r ∙ k.sort ∙ sym (meta_renamed (up 1) x);
    }))
expansion_kept (simple_with c d) v r x k = through_pair (expansion_kept c v (core.fst r) (core.fst x) (record { kept = kept_fst k.kept; sort = k.sort })) (expansion_kept d v (core.snd r) (core.snd x) (record { kept = kept_snd k.kept; sort = k.sort }))
expansion_kept simple_top v r x k = through_unit
expansion_kept (lax ts) v r x k = monad_kept ts v r x (is_metavariable (head_of r)) (is_metavariable (head_of x)) k.kept k.sort

long_kept : (t : Place) (v : Environment) (r x : PlainNeutral) → StaysNeutral v r x → Substituted v (long_at t r) (long_at t x)
long_kept None v r x k = through_kept k.kept
long_kept (Some t) v r x k = expansion_kept t v r x k

-- the object of a blank type has no head
pub blank_kept : (t : SimpleType) (v : Environment) (r x : PlainNeutral) → blank t ≡ true → Substituted v (expansion t r) (expansion t x)
blank_kept (base a) v r x e = absurd (cc)
blank_kept (arrow m d c) v r x e = through_lam (blank_kept c (under 1 v) (core.app m (ren_neutral (up 1) r) (eta d (head_alone (Var 0)))) (core.app m (ren_neutral (up 1) x) (eta d (head_alone (Var 0)))) e)
blank_kept (simple_with c d) v r x e = through_pair (blank_kept c v (core.fst r) (core.fst x) (both_true (blank c) (blank d) e).0) (blank_kept d v (core.snd r) (core.snd x) (both_true (blank c) (blank d) e).1)
  where
    both_true : (a b : Bool) → a && b ≡ true → (a ≡ true) × (b ≡ true)
    both_true true b e = (refl, e)
    both_true false b e = absurd (cc)
blank_kept simple_top v r x e = through_unit
blank_kept (lax ts) v r x e = absurd (cc)

pub known_length : (ls : List Scoped) (l : Locals) → KnownLocals ls l → length l ≡ length ls
known_length [] l p = ap length p
known_length (x ∷ ls) l p = let (t, k, e, f, q) = p in ap length f ∙ ap suc (known_length ls k q)

pub pattern_under : (ps : List (Mode × SimpleType)) (bs : List PBinder) (ls : List Scoped) (s : Environment) → under (length (pattern_modes ps bs)) (under (length ls) s) ≡ under (length (with_pattern ls ps bs)) s
pattern_under ps [] ls s = under_zero (under (length ls) s)
pattern_under ps (b ∷ bs) ls s = sym (under_under (length (pattern_modes (next_part ps).later bs)) (under (length ls) s)) ∙ ap (under (length (pattern_modes (next_part ps).later bs))) (under_sum (length ls) s)
    ∙ pattern_under (next_part ps).later bs (record { mode = marked b.mode (next_part ps).mode; name = b.name; place = (next_part ps).place } ∷ ls) s

module _ (sig : PlainSignature) (heads : ℕ → Head) (vs : List ImplicitVariable) (s : Environment) (keeps : KeepsNamed heads s) where
  abbrev S : List Scoped → Environment
  S ls = under (length ls) s

  head_kept : (ls : List Scoped) (n : PName) (m : Meaning) → meaning sig heads vs ls n ≡ Some m → S ls m.head ≡ keep m.head
  head_kept ls n m e = at (named_head sig heads vs ls n m e)
    where
      at : NamedHead sig heads vs ls m → S ls m.head ≡ keep m.head
      at (names_constant {c} i j k) = subst (λ (h : Head). S ls h ≡ keep h) (sym i) (ap (ren_image (up (length ls))) (keeps.constants c))
      at (names_local {i} j k a b) = subst (λ (h : Head). S ls h ≡ keep h) (sym j) (under_in (length ls) s i k)
      at (names_implicit {x} i j k) = subst (λ (h : Head). S ls h ≡ keep h) (sym i) (keeps.implicit (length ls) x)

  regroup : (a b x c d y : Fillings) → FillingsBecome s ((a ++ b) ++ x) ((c ++ d) ++ y) → FillingsBecome s (a ++ (b ++ x)) (c ++ (d ++ y))
  regroup a b x c d y p = subst (λ v. FillingsBecome s (a ++ (b ++ x)) v) (append_assoc c d y) (subst (λ v. FillingsBecome s v ((c ++ d) ++ y)) (append_assoc a b x) p)

  pub parts : (fs a b gs c d x y : Fillings) → fs ≡ a ++ b → gs ≡ c ++ d → FillingsBecome s (fs ++ x) (gs ++ y) → FillingsBecome s (a ++ (b ++ x)) (c ++ (d ++ y))
  parts fs a b gs c d x y e f p = regroup a b x c d y (subst (λ v. FillingsBecome s ((a ++ b) ++ x) (v ++ y)) f (subst (λ v. FillingsBecome s (v ++ x) (gs ++ y)) e p))

  pub one_filling : (ls : List Scoped) (f g : Filling) (fs gs : Fillings) → KnownLocals ls f.locals → FillingsBecome s (f ∷ fs) (g ∷ gs) → Substituted (S ls) f.object g.object × FillingsBecome s fs gs
  one_filling ls f g fs gs p q = (subst (λ n. Substituted (under n s) f.object g.object) (known_length ls f.locals p) q.0.object, q.1)

  implicit_become : {ls : List Scoped} {i : ℕ} {r q r' q' : PlainNeutral} {p t t' : Place} {fs gs : Fillings} → (x y : Fillings) → StaysNeutral (S ls) r q
      → ReadsImplicit sig heads vs ls i r p fs r' t → ReadsImplicit sig heads vs ls i q p gs q' t' → FillingsBecome s (fs ++ x) (gs ++ y)
      → StaysNeutral (S ls) r' q' × (t ≡ t') × FillingsBecome s x y
  implicit_become x y k implicit_none implicit_none f = (k, refl, f)
  implicit_become {ls = ls} x y k (implicit_next {m = m} {d = d} {l = l} {o = o} {fs = fs} a p) (implicit_next {l = l'} {o = o'} {fs = gs} b q) f =
      let (i, j) = one_filling ls (record { locals = l; type = d; object = o }) (record { locals = l'; type = d; object = o' }) (fs ++ x) (gs ++ y) a f in
      implicit_become x y (record { kept = kept_app k.kept i; sort = k.sort }) p q j

  head_become : {ls : List Scoped} {h : PName} {r q : PlainNeutral} {t t' : Place} {fs gs : Fillings} → (x y : Fillings)
      → ReadsHead sig heads vs ls h fs r t → ReadsHead sig heads vs ls h gs q t' → FillingsBecome s (fs ++ x) (gs ++ y)
      → StaysNeutral (S ls) r q × (t ≡ t') × FillingsBecome s x y
  head_become {ls = ls} {h = h} {q = q} {t' = t'} {gs = gs} x y (reads_head {m = m} e p) (reads_head {m = n} e' p') f =
      implicit_become x y (record { kept = kept_bare (head_kept ls h m e); sort = refl }) p
      (subst (λ (v : Meaning). ReadsImplicit sig heads vs ls v.implicit (head_alone v.head) v.place gs q t') (the_meaning (sym e' ∙ e)) p') f

  mutual
    pub object_become : {ls : List Scoped} {t : Place} {o : DesugaredObject} {fs gs : Fillings} {m n : PlainObject} → (x y : Fillings)
        → ReadsObject sig heads vs ls t o fs m → ReadsObject sig heads vs ls t o gs n → FillingsBecome s (fs ++ x) (gs ++ y) → Substituted (S ls) m n × FillingsBecome s x y
    object_become {ls = ls} x y (reads_lam {n = c} p) (reads_lam {n = d} q) f =
        let (i, j) = object_become x y p q f in (through_lam (subst (λ (v : Environment). Substituted v c d) (sym (under_sum (length ls) s)) i), j)
    object_become x y (reads_pair {fs = f1} {gs = f2} {hs = fs} p1 p2 e) (reads_pair {fs = g1} {gs = g2} {hs = gs} q1 q2 h) f =
        let (i, j) = object_become (f2 ++ x) (g2 ++ y) p1 q1 (parts fs f1 f2 gs g1 g2 x y e h f) in let (k, l) = object_become x y p2 q2 j in (through_pair i k, l)
    object_become x y reads_unit reads_unit f = (through_unit, f)
    object_become {ls = ls} {t = t} x y (reads_monadic {ks = ks} {fs = f1} {gs = f2} {hs = fs} {xs = xs} {es = es} p1 p2 e) (reads_monadic {u = u} {fs = g1} {gs = g2} {hs = gs} {xs = ys} {es = ds} q1 q2 h) f =
        let (i, j, k) = steps_become (f2 ++ x) (g2 ++ y) p1 q1 (parts fs f1 f2 gs g1 g2 x y e h f) in
        let (l, m) = tuple_become x y p2 (subst (λ v. ReadsTuple sig heads vs v (entries_at t) u g2 ds) (sym i) q2) k in
        (through_monadic (j (core.done (core.tuple_of es)) (core.done (core.tuple_of ds)) (through_done l)), m)
    object_become {ls = ls} {t = t} x y (reads_atomic {u = u} {fs = f1} {gs = f2} {hs = fs} {x = r} b p1 p2 e) (reads_atomic {es = es} {fs = g1} {gs = g2} {hs = gs} {r = a} {x = q} b' q1 q2 h) f =
        let (i, j, k) = head_become (f2 ++ x) (g2 ++ y) p1 q1 (parts fs f1 f2 gs g1 g2 x y e h f) in
        let (l, m, o) = spine_become x y i j p2 q2 k in (long_kept t (S ls) r q l, o)
    object_become x y (reads_atomic b p1 p2 e) (reads_dropped d) f = absurd (cc)
    object_become x y (reads_dropped d) (reads_atomic b q1 q2 e) f = absurd (cc)
    object_become {ls = ls} x y (reads_dropped {t = t} d) (reads_dropped d') f = (blank_kept t (S ls) (head_alone (Var 0)) (head_alone (Var 0)) d, f)
    object_become {ls = ls} x y (reads_hole {t = t} {l = l} {o = o} k) (reads_hole {l = l'} {o = o'} k') f =
        one_filling ls (record { locals = l; type = t; object = o }) (record { locals = l'; type = t; object = o' }) x y k f

    spine_become : {ls : List Scoped} {r q r' q' : PlainNeutral} {p p' t t' : Place} {es : DesugaredSpine} {fs gs : Fillings} → (x y : Fillings) → StaysNeutral (S ls) r q → p ≡ p'
        → ReadsSpine sig heads vs ls r p es fs r' t → ReadsSpine sig heads vs ls q p' es gs q' t' → FillingsBecome s (fs ++ x) (gs ++ y)
        → StaysNeutral (S ls) r' q' × (t ≡ t') × FillingsBecome s x y
    spine_become x y k e spine_end spine_end f = (k, e, f)
    spine_become {ls = ls} {q = q} {q' = q'} {p = p} {t' = t'} x y k e (spine_argument {m = m} {o = o} {es = es} {fs = f1} {gs = f2} {hs = fs} {n = n} p1 p2 i) (spine_argument {fs = g1} {gs = g2} {hs = gs} {n = c} q1 q2 j) f =
        let q1' = subst (λ (v : Place). ReadsObject sig heads vs ls (function_parts v).domain o g1 c) (sym e) q1 in
        let q2' = subst (λ (v : Place). ReadsSpine sig heads vs ls (core.app (marked m (function_parts v).mode) q c) (function_parts v).codomain es g2 q' t') (sym e) q2 in
        let (a, b) = object_become (f2 ++ x) (g2 ++ y) p1 q1' (parts fs f1 f2 gs g1 g2 x y i j f) in
        spine_become x y (record { kept = kept_app k.kept a; sort = k.sort }) refl p2 q2' b
    spine_become x y k e (spine_first p) (spine_first q) f = spine_become x y (record { kept = kept_fst k.kept; sort = k.sort }) (ap (λ v. (pair_parts v).left) e) p q f
    spine_become x y k e (spine_second p) (spine_second q) f = spine_become x y (record { kept = kept_snd k.kept; sort = k.sort }) (ap (λ v. (pair_parts v).right) e) p q f

    steps_become : {ls ks js : List Scoped} {ss : DesugaredSteps} {fs gs : Fillings} {xs ys : List (List Mode × PlainNeutral)} → (x y : Fillings)
        → ReadsSteps sig heads vs ls ss fs xs ks → ReadsSteps sig heads vs ls ss gs ys js → FillingsBecome s (fs ++ x) (gs ++ y)
        → (ks ≡ js) × ((c d : PlainExpression) → SubstitutedExpression (S ks) c d → SubstitutedExpression (S ls) (steps_on xs c) (steps_on ys d)) × FillingsBecome s x y
    steps_become x y steps_none steps_none f = (refl, (λ c d p. p), f)
    steps_become {ls = ls} {js = js} x y (steps_next {u = u} {b = b} {h = h} {es = es} {ss = ss} {fs = f1} {gs = f2} {ks' = f3} {hs = fs} {x = r} {xs = xs} p1 p2 p3 e) (steps_next {u = v} {fs = g1} {gs = g2} {ks' = g3} {hs = gs} {x = q} {xs = ys} q1 q2 q3 e') f =
        let (i1, i2, i3) = head_become (f2 ++ (f3 ++ x)) (g2 ++ (g3 ++ y)) p1 q1 (regroup f1 f2 (f3 ++ x) g1 g2 (g3 ++ y) (parts fs (f1 ++ f2) f3 gs (g1 ++ g2) g3 x y e e' f)) in
        let (j1, j2, j3) = spine_become (f3 ++ x) (g3 ++ y) i1 i2 p2 q2 i3 in
        let (k1, k2, k3) = steps_become x y p3 (subst (λ (w : Place). ReadsSteps sig heads vs (with_pattern ls (entries_at w) b) ss g3 ys js) (sym j2) q3) j3 in (
          k1,
          (λ c d p. subst (λ (w : Place). SubstitutedExpression (S ls) (core.step (pattern_modes (entries_at u) b) r (steps_on xs c)) (core.step (pattern_modes (entries_at w) b) q (steps_on ys d))) j2
              (step_kept j1.kept (subst (λ (w : Environment). SubstitutedExpression w (steps_on xs c) (steps_on ys d)) (sym (pattern_under (entries_at u) b ls s)) (k2 c d p)))),
          k3,
        )

    tuple_become : {ls : List Scoped} {ps : List (Mode × SimpleType)} {u : DesugaredTuple} {fs gs : Fillings} {es ds : List (Mode × PlainObject)} → (x y : Fillings)
        → ReadsTuple sig heads vs ls ps u fs es → ReadsTuple sig heads vs ls ps u gs ds → FillingsBecome s (fs ++ x) (gs ++ y)
        → SubstitutedTuple (S ls) (core.tuple_of es) (core.tuple_of ds) × FillingsBecome s x y
    tuple_become x y tuple_end tuple_end f = (through_empty, f)
    tuple_become x y (tuple_entry {fs = f1} {gs = f2} {hs = fs} p1 p2 e) (tuple_entry {fs = g1} {gs = g2} {hs = gs} q1 q2 h) f =
        let (i, j) = object_become (f2 ++ x) (g2 ++ y) p1 q1 (parts fs f1 f2 gs g1 g2 x y e h f) in let (k, l) = tuple_become x y p2 q2 j in (through_entry i k, l)
