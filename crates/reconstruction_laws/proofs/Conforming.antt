-- The tree of a text conforms to simple types where something conforms that comes of it by two environments that keep its names.
use Rattle.std.specs.Prelude.{ℕ, ◌≡◌, true, false, List, [], ◌∷◌, ◌++◌, length, Some, None, refl}
use Rattle.std.proofs.Common.{ap, subst, sym, ◌∙◌}
use Rattle.clf_syntax.specs.declared.tree.Mode.{Mode}
use Rattle.clf_syntax.specs.declared.tree.Head.{Head}
use Rattle.clf_syntax.specs.declared.tree.Head.TheVariants.{Var}
use Rattle.clf_syntax.specs.Tree as core
use Rattle.clf_syntax.specs.Tree.{PlainObject, PlainNeutral, PlainExpression, PlainTuple, head_of, head_alone, steps_on}
use Rattle.clf_syntax.specs.TypeTree.{SimpleType, SimpleTelescope, arrow, simple_with, lax, simple_end, simple_binding}
use Rattle.clf_syntax.specs.Simple.{Assignment, SimplyTyped, SimplyTypedNeutral, SimplyTypedExpression, SimplyTypedTuple, extended_by, simple_modes}
use Rattle.hered_subst.specs.Substitution.{Environment, keep, under, Substituted, SubstitutedExpression, SubstitutedTuple, KeepsHead, kept_bare, kept_app, kept_fst, kept_snd, through_lam, through_pair, through_unit, through_monadic, through_kept, through_done, step_kept, through_empty, through_entry}
use Rattle.hered_subst.specs.TypedEnvironments.{is_metavariable}
use Rattle.hered_subst.proofs.SimpleTyping.{of_typed}
use Rattle.eta_laws.specs.Eta.{eta, expansion}
use Rattle.eta_laws.proofs.EtaLaws.{eta_kept}
use Rattle.eta_laws.proofs.Expansions.{expansion_laws}
use Rattle.pattern_laws.specs.Equations.{Locals, scoped}
use Rattle.pattern_laws.specs.Patterns.{blank}
use Rattle.pattern_laws.proofs.Owning.{blank_typed}
use Rattle.clf_sig.specs.Entry.{PlainSignature}
use Rattle.celf_sugar.specs.declared.plain.PName.{PName}
use Rattle.celf_sugar.specs.declared.plain.PBinder.{PBinder}
use Rattle.celf_sugar.specs.PlainTree.{DesugaredObject, DesugaredSpine, DesugaredSteps, DesugaredTuple}
use Rattle.celf_places.specs.Places.{Place, marked, entries_at, entries_of, function_parts, next_part, pair_parts}
use Rattle.celf_explicit.specs.Objects.{long_at, pattern_modes}
use Rattle.celf_elaboration.specs.Fillings.{Filling, Fillings, Scoped, KnownLocals}
use Rattle.celf_elaboration.specs.Names.{ImplicitVariable, Meaning, meaning}
use Rattle.celf_elaboration.specs.Readings.{with_pattern, ReadsImplicit, implicit_none, implicit_next, ReadsHead, reads_head, ReadsObject, reads_lam, reads_pair, reads_unit, reads_monadic, reads_atomic, reads_dropped, reads_hole, ReadsSpine, spine_end, spine_argument, spine_first, spine_second, ReadsSteps, steps_none, steps_next, ReadsTuple, tuple_end, tuple_entry}
use Rattle.reconstruction_laws.proofs.LongBack.{eta_back}
use Rattle.reconstruction_laws.proofs.Rereading.{blank_kept, known_length, pattern_under}
use Rattle.subst_laws.proofs.Environs.{under_sum}

-- ---- one environment after the other

pub record Twice (v w : Environment) (o x : PlainObject) : Type 0 where
  pub between : PlainObject
  pub once : Substituted v o between
  pub again : Substituted w between x

pub record TwiceExpression (v w : Environment) (o x : PlainExpression) : Type 0 where
  pub between : PlainExpression
  pub once : SubstitutedExpression v o between
  pub again : SubstitutedExpression w between x

pub record TwiceTuple (v w : Environment) (o x : PlainTuple) : Type 0 where
  pub between : PlainTuple
  pub once : SubstitutedTuple v o between
  pub again : SubstitutedTuple w between x

-- ---- the locals of a text

pub both_known : (ls : List Scoped) (l k : Locals) → KnownLocals ls l → KnownLocals ls k → l ≡ k
both_known [] l k p q = p ∙ sym q
both_known (x ∷ ls) l k p q = let (t, l', e, f, p') = p in let (u, k', e', f', q') = q in f ∙ conses x.mode t u (the_type (sym e ∙ e')) (both_known ls l' k' p' q') ∙ sym f'
  where
    the_type : {a b : SimpleType} → Some a ≡ Some b → a ≡ b
    the_type e = cc

    conses : (m : Mode) (t u : SimpleType) {l k : Locals} → t ≡ u → l ≡ k → (m, t) ∷ l ≡ (m, u) ∷ k
    conses m t u e f = cc

-- the locals after a pattern that has the entries of its monad
pub record PatternKnown (ls : List Scoped) (l : Locals) (u : SimpleTelescope) (bs : List PBinder) : Type 0 where
  pub after : Locals
  pub known : KnownLocals (with_pattern ls (entries_of u) bs) after
  pub same : (g : Assignment) → extended_by u (scoped l g) ≡ scoped after g

pattern_known : (u : SimpleTelescope) (bs : List PBinder) (ls : List Scoped) (l : Locals) → KnownLocals ls l → simple_modes u ≡ pattern_modes (entries_of u) bs → PatternKnown ls l u bs
pattern_known simple_end [] ls l k e = record { after = l; known = k; same = λ g. refl }
pattern_known simple_end (b ∷ bs) ls l k e = absurd (cc)
pattern_known (simple_binding m t u) [] ls l k e = absurd (cc)
pattern_known (simple_binding m t u) (b ∷ bs) ls l k e =
    let p = pattern_known u bs (record { mode = marked b.mode m; name = b.name; place = Some t } ∷ ls) ((marked b.mode m, t) ∷ l) (t, l, refl, refl, k) (later m (marked b.mode m) e) in
    record { after = p.after; known = p.known; same = p.same }
  where
    later : (m n : Mode) {a b : List Mode} → m ∷ a ≡ n ∷ b → a ≡ b
    later m n e = cc

no_place : {u : SimpleType} → None ≡ Some u → ⊥
no_place e = cc

the_arrow : {m n : Mode} {a b c d : SimpleType} → Some (arrow m a c) ≡ Some (arrow n b d) → (b ≡ a) × (Some c ≡ Some d)
the_arrow e = (cc, cc)

blank_conforms : (g : Assignment) (t : SimpleType) → blank t ≡ true → SimplyTyped g (expansion t (head_alone (Var 0))) t
blank_conforms g t e = subst (λ (n : PlainObject). SimplyTyped g n t) (sym (expansion_laws.long t (head_alone (Var 0)) refl)) (of_typed (blank_typed true g t (head_alone (Var 0)) e))

-- Over environments t and then e, which make what is over g something over y, where g and y give the constants and metavariables.
module _ (sig : PlainSignature) (heads : ℕ → Head) (vs : List ImplicitVariable) (t e : Environment) (g y : Assignment) where
  abbrev pub DoneTwice : List Scoped → PlainObject → PlainObject → Type 0
  DoneTwice ls o x = Twice (under (length ls) t) (under (length ls) e) o x

  -- the head of a name: the first environment keeps it, the second makes it a head, whose simple type it has too
  pub record NameStays (ls : List Scoped) (m : Meaning) : Type 0 where
    pub head : Head
    pub once : under (length ls) t m.head ≡ keep m.head
    pub again : under (length ls) e m.head ≡ keep head
    pub no_metavariable : is_metavariable m.head ≡ false
    pub none_after : is_metavariable head ≡ false
    pub back : (l : Locals) → KnownLocals ls l → (w : SimpleType) → scoped l y head ≡ Some w → (scoped l g m.head ≡ Some w) × (m.place ≡ Some w)

  -- a filling that has its simple type, and becomes something
  pub record GoodFilling (f : Filling) : Type 0 where
    pub typed : SimplyTyped (scoped f.locals g) f.object f.type
    pub result : PlainObject
    pub twice : Twice (under (length f.locals) t) (under (length f.locals) e) f.object result

  abbrev pub GoodFillings : Fillings → Type 0
  GoodFillings [] = Unit {0}
  GoodFillings (f ∷ fs) = GoodFilling f × GoodFillings fs

  pub good_parts : (fs gs hs : Fillings) → hs ≡ fs ++ gs → GoodFillings hs → GoodFillings fs × GoodFillings gs
  good_parts fs gs hs i p = split fs (subst (λ v. GoodFillings v) i p)
    where
      split : (fs : Fillings) → GoodFillings (fs ++ gs) → GoodFillings fs × GoodFillings gs
      split [] p = (tt, p)
      split (f ∷ fs) p = let (a, b) = split fs p.1 in ((p.0, a), b)

  -- What an object of the text becomes; and its simple type goes back.
  pub record ObjectBack (ls : List Scoped) (p : Place) (n : PlainObject) : Type 0 where
    pub result : PlainObject
    pub twice : DoneTwice ls n result
    pub back : (l : Locals) → KnownLocals ls l → (u : SimpleType) → p ≡ Some u → SimplyTyped (scoped l y) result u → SimplyTyped (scoped l g) n u

  pub record NeutralBack (ls : List Scoped) (r : PlainNeutral) (p : Place) : Type 0 where
    pub between : PlainNeutral
    pub result : PlainNeutral
    pub once : KeepsHead (under (length ls) t) r between
    pub again : KeepsHead (under (length ls) e) between result
    pub no_metavariable : is_metavariable (head_of r) ≡ false
    pub none_after : is_metavariable (head_of result) ≡ false
    pub back : (l : Locals) → KnownLocals ls l → (w : SimpleType) → SimplyTypedNeutral (scoped l y) result w → SimplyTypedNeutral (scoped l g) r w × (p ≡ Some w)

  pub record StepsBack (ls ks : List Scoped) (xs : List (List Mode × PlainNeutral)) : Type 0 where
    pub results : List (List Mode × PlainNeutral)
    pub twice : (c d : PlainExpression) → TwiceExpression (under (length ks) t) (under (length ks) e) c d
        → TwiceExpression (under (length ls) t) (under (length ls) e) (steps_on xs c) (steps_on results d)
    pub back : (l : Locals) → KnownLocals ls l → (s : SimpleTelescope) (c d : PlainExpression)
        → ((k : Locals) → KnownLocals ks k → SimplyTypedExpression (scoped k y) d s → SimplyTypedExpression (scoped k g) c s)
        → SimplyTypedExpression (scoped l y) (steps_on results d) s → SimplyTypedExpression (scoped l g) (steps_on xs c) s

  pub record TupleBack (ls : List Scoped) (ps : List (Mode × SimpleType)) (es : List (Mode × PlainObject)) : Type 0 where
    pub results : List (Mode × PlainObject)
    pub twice : TwiceTuple (under (length ls) t) (under (length ls) e) (core.tuple_of es) (core.tuple_of results)
    pub back : (l : Locals) → KnownLocals ls l → (s : SimpleTelescope) → ps ≡ entries_of s → SimplyTypedTuple (scoped l y) (core.tuple_of results) s → SimplyTypedTuple (scoped l g) (core.tuple_of es) s

  pub filled : (ls : List Scoped) (l : Locals) (u : SimpleType) (o : PlainObject) → KnownLocals ls l → GoodFilling (record { locals = l; type = u; object = o }) → ObjectBack ls (Some u) o
  filled ls l u o k f = record {
    result = f.result;
    twice = subst (λ n. Twice (under n t) (under n e) o f.result) (known_length ls l k) f.twice;
    back = λ l' k' w i p. subst (λ v. SimplyTyped (scoped v g) o w) (both_known ls l l' k k') (subst (λ (v : SimpleType). SimplyTyped (scoped l g) o v) (the_type i) f.typed);
  }
    where
      the_type : {a b : SimpleType} → Some a ≡ Some b → a ≡ b
      the_type e = cc

  applied : (ls : List Scoped) (m : Mode) (r : PlainNeutral) (n : PlainObject) (p d c : Place) → ((k : Mode) (a b : SimpleType) → p ≡ Some (arrow k a b) → (d ≡ Some a) × (c ≡ Some b))
      → NeutralBack ls r p → ObjectBack ls d n → NeutralBack ls (core.app m r n) c
  applied ls m r n p d c parts f a = record {
    between = core.app m f.between a.twice.between;
    result = core.app m f.result a.result;
    once = kept_app f.once a.twice.once;
    again = kept_app f.again a.twice.again;
    no_metavariable = f.no_metavariable;
    none_after = f.none_after;
    back = λ l k w q. let (i, j) = f.back l k (arrow m q.0 w) q.1 in let (x, z) = parts m q.0 w j in ((q.0, i, a.back l k q.0 x q.2), z);
  }

  projected_first : (ls : List Scoped) (r : PlainNeutral) (p : Place) → NeutralBack ls r p → NeutralBack ls (core.fst r) (pair_parts p).left
  projected_first ls r p f = record {
    between = core.fst f.between;
    result = core.fst f.result;
    once = kept_fst f.once;
    again = kept_fst f.again;
    no_metavariable = f.no_metavariable;
    none_after = f.none_after;
    back = λ l k w q. let (i, j) = f.back l k (simple_with w q.0) q.1 in ((q.0, i), ap (λ v. (pair_parts v).left) j);
  }

  projected_second : (ls : List Scoped) (r : PlainNeutral) (p : Place) → NeutralBack ls r p → NeutralBack ls (core.snd r) (pair_parts p).right
  projected_second ls r p f = record {
    between = core.snd f.between;
    result = core.snd f.result;
    once = kept_snd f.once;
    again = kept_snd f.again;
    no_metavariable = f.no_metavariable;
    none_after = f.none_after;
    back = λ l k w q. let (i, j) = f.back l k (simple_with q.0 w) q.1 in ((q.0, i), ap (λ v. (pair_parts v).right) j);
  }

  -- the long form at a place
  long_back : (ls : List Scoped) (p u : Place) (r : PlainNeutral) → NeutralBack ls r u → ObjectBack ls p (long_at p r)
  long_back ls None u r f = record {
    result = core.atomic f.result;
    twice = record { between = core.atomic f.between; once = through_kept f.once; again = through_kept f.again };
    back = λ l k w i q. absurd (no_place i);
  }
  long_back ls (Some a) u r f = subst (λ (n : PlainObject). ObjectBack ls (Some a) n) (sym (expansion_laws.long a r f.no_metavariable)) (record {
    result = eta a f.result;
    twice = record { between = eta a f.between; once = eta_kept a (under (length ls) t) f.once; again = eta_kept a (under (length ls) e) f.again };
    back = λ l k w i q. eta_back a (scoped l g) (scoped l y) r f.result (λ v x. (f.back l k v x).0) f.none_after w q;
  })

  module _ (named : (ls : List Scoped) (n : PName) (m : Meaning) → meaning sig heads vs ls n ≡ Some m → NameStays ls m) where
    implicit_back : {ls : List Scoped} {i : ℕ} {r x : PlainNeutral} {p u : Place} {fs : Fillings} → GoodFillings fs → NeutralBack ls r p → ReadsImplicit sig heads vs ls i r p fs x u → NeutralBack ls x u
    implicit_back h f implicit_none = f
    implicit_back {ls = ls} {r = r} h f (implicit_next {m = m} {d = d} {c = c} {l = l} {o = o} k p) =
        implicit_back h.1 (applied ls m r o (Some (arrow m d c)) (Some d) (Some c) (λ n a b i. both i) f (filled ls l d o k h.0)) p
      where
        both : {m n : Mode} {a b c d : SimpleType} → Some (arrow m d c) ≡ Some (arrow n a b) → (Some d ≡ Some a) × (Some c ≡ Some b)
        both i = (cc, cc)

    head_back : {ls : List Scoped} {n : PName} {r : PlainNeutral} {p : Place} {fs : Fillings} → GoodFillings fs → ReadsHead sig heads vs ls n fs r p → NeutralBack ls r p
    head_back {ls = ls} {n = n} h (reads_head {m = m} i p) = let s = named ls n m i in
        implicit_back h (record {
          between = head_alone m.head;
          result = head_alone s.head;
          once = kept_bare s.once;
          again = kept_bare s.again;
          no_metavariable = s.no_metavariable;
          none_after = s.none_after;
          back = λ l k w q. s.back l k w q;
        }) p

    mutual
      pub object_back : {ls : List Scoped} {p : Place} {o : DesugaredObject} {fs : Fillings} {n : PlainObject} → GoodFillings fs → ReadsObject sig heads vs ls p o fs n → ObjectBack ls p n
      object_back {ls = ls} {p = p} h (reads_lam {m = m} {n = n} r) = let a = object_back h r in record {
        result = core.lam (marked m (function_parts p).mode) a.result;
        twice = record {
          between = core.lam (marked m (function_parts p).mode) a.twice.between;
          once = through_lam (subst (λ (v : Environment). Substituted v n a.twice.between) (sym (under_sum (length ls) t)) a.twice.once);
          again = through_lam (subst (λ (v : Environment). Substituted v a.twice.between a.result) (sym (under_sum (length ls) e)) a.twice.again);
        };
        back = λ l k u i q. let (d, c, j, x) = q in
            (d, c, j, a.back ((marked m (function_parts p).mode, d) ∷ l) (d, l, ap (λ v. (function_parts v).domain) (i ∙ ap (λ v. Some v) j), refl, k) c (ap (λ v. (function_parts v).codomain) (i ∙ ap (λ v. Some v) j)) x);
      }
      object_back {p = p} h (reads_pair {fs = fs} {gs = gs} {hs = hs} r s i) = let (hf, hg) = good_parts fs gs hs i h in let a = object_back hf r in let b = object_back hg s in record {
        result = core.pair a.result b.result;
        twice = record { between = core.pair a.twice.between b.twice.between; once = through_pair a.twice.once b.twice.once; again = through_pair a.twice.again b.twice.again };
        back = λ l k u i q. let (c, d, j, x, z) = q in
            (c, d, j, a.back l k c (ap (λ v. (pair_parts v).left) (i ∙ ap (λ v. Some v) j)) x, b.back l k d (ap (λ v. (pair_parts v).right) (i ∙ ap (λ v. Some v) j)) z);
      }
      object_back h reads_unit = record { result = core.unit; twice = record { between = core.unit; once = through_unit; again = through_unit }; back = λ l k u i q. q }
      object_back {ls = ls} {p = p} h (reads_monadic {fs = fs} {gs = gs} {hs = hs} {es = es} r s i) = let (hf, hg) = good_parts fs gs hs i h in let a = steps_back hf r in let b = tuple_back hg s in
          let z = a.twice (core.done (core.tuple_of es)) (core.done (core.tuple_of b.results)) (record { between = core.done b.twice.between; once = through_done b.twice.once; again = through_done b.twice.again }) in record {
            result = core.monadic (steps_on a.results (core.done (core.tuple_of b.results)));
            twice = record { between = core.monadic z.between; once = through_monadic z.once; again = through_monadic z.again };
            back = λ l k u i q. let (v, j, x) = q in
                (v, j, a.back l k v (core.done (core.tuple_of es)) (core.done (core.tuple_of b.results)) (λ l' k' x'. b.back l' k' v (ap entries_at (i ∙ ap (λ v. Some v) j)) x') x);
          }
      object_back {ls = ls} {p = p} h (reads_atomic {u = u} {fs = fs} {gs = gs} {hs = hs} {x = x} b r s i) = let (hf, hg) = good_parts fs gs hs i h in long_back ls p u x (spine_back hg (head_back hf r) s)
      object_back {ls = ls} h (reads_dropped {t = a} b) = record {
        result = expansion a (head_alone (Var 0));
        twice = record { between = expansion a (head_alone (Var 0)); once = blank_kept a (under (length ls) t) (head_alone (Var 0)) (head_alone (Var 0)) b; again = blank_kept a (under (length ls) e) (head_alone (Var 0)) (head_alone (Var 0)) b };
        back = λ l k u i q. subst (λ (v : SimpleType). SimplyTyped (scoped l g) (expansion a (head_alone (Var 0))) v) (the_type i) (blank_conforms (scoped l g) a b);
      }
        where
          the_type : {a b : SimpleType} → Some a ≡ Some b → a ≡ b
          the_type e = cc
      object_back {ls = ls} h (reads_hole {t = u} {l = l} {o = o} k) = filled ls l u o k h.0

      spine_back : {ls : List Scoped} {r x : PlainNeutral} {p u : Place} {es : DesugaredSpine} {fs : Fillings} → GoodFillings fs → NeutralBack ls r p → ReadsSpine sig heads vs ls r p es fs x u → NeutralBack ls x u
      spine_back h f spine_end = f
      spine_back {ls = ls} {r = r} {p = p} h f (spine_argument {m = m} {fs = fs} {gs = gs} {hs = hs} {n = n} o s i) = let (hf, hg) = good_parts fs gs hs i h in
          spine_back hg (applied ls (marked m (function_parts p).mode) r n p (function_parts p).domain (function_parts p).codomain
          (λ k a b j. (ap (λ v. (function_parts v).domain) j, ap (λ v. (function_parts v).codomain) j)) f (object_back hf o)) s
      spine_back {ls = ls} {r = r} {p = p} h f (spine_first s) = spine_back h (projected_first ls r p f) s
      spine_back {ls = ls} {r = r} {p = p} h f (spine_second s) = spine_back h (projected_second ls r p f) s

      steps_back : {ls ks : List Scoped} {ss : DesugaredSteps} {fs : Fillings} {xs : List (List Mode × PlainNeutral)} → GoodFillings fs → ReadsSteps sig heads vs ls ss fs xs ks → StepsBack ls ks xs
      steps_back h steps_none = record { results = []; twice = λ c d x. x; back = λ l k s c d f q. f l k q }
      steps_back {ls = ls} {ks = ks} h (steps_next {u = u} {b = bs} {fs = fs} {gs = gs} {ks' = gs'} {hs = hs} {x = x} {xs = xs} r s q i) =
          let (hfg, hk) = good_parts (fs ++ gs) gs' hs i h in let (hf, hg) = good_parts fs gs (fs ++ gs) refl hfg in
          let a = spine_back hg (head_back hf r) s in let b = steps_back hk q in record {
            results = (pattern_modes (entries_at u) bs, a.result) ∷ b.results;
            twice = λ c d z. let w = b.twice c d z in record {
              between = core.step (pattern_modes (entries_at u) bs) a.between w.between;
              once = step_kept a.once (subst (λ (v : Environment). SubstitutedExpression v (steps_on xs c) w.between) (sym (pattern_under (entries_at u) bs ls t)) w.once);
              again = step_kept a.again (subst (λ (v : Environment). SubstitutedExpression v w.between (steps_on b.results d)) (sym (pattern_under (entries_at u) bs ls e)) w.again);
            };
            back = λ l k v c d f z. let (w, z1, z2, z3) = z in let (i, j) = a.back l k (lax w) z1 in
                let p = pattern_known w bs ls l k (z2 ∙ ap (λ m. pattern_modes (entries_at m) bs) j) in
                let known = subst (λ m. KnownLocals (with_pattern ls m bs) p.after) (sym (ap entries_at j)) p.known in (
                  w,
                  i,
                  z2,
                  subst (λ (m : Assignment). SimplyTypedExpression m (steps_on xs c) v) (sym (p.same g))
                      (b.back p.after known v c d f (subst (λ (m : Assignment). SimplyTypedExpression m (steps_on b.results d) v) (p.same y) z3)),
                );
          }

      tuple_back : {ls : List Scoped} {ps : List (Mode × SimpleType)} {u : DesugaredTuple} {fs : Fillings} {es : List (Mode × PlainObject)} → GoodFillings fs → ReadsTuple sig heads vs ls ps u fs es → TupleBack ls ps es
      tuple_back h tuple_end = record { results = []; twice = record { between = core.empty; once = through_empty; again = through_empty }; back = λ l k s i q. q }
      tuple_back {ls = ls} {ps = ps} h (tuple_entry {m = m} {fs = fs} {gs = gs} {hs = hs} o s i) = let (hf, hg) = good_parts fs gs hs i h in let a = object_back hf o in let b = tuple_back hg s in record {
        results = (marked m (next_part ps).mode, a.result) ∷ b.results;
        twice = record {
          between = core.entry (marked m (next_part ps).mode) a.twice.between b.twice.between;
          once = through_entry a.twice.once b.twice.once;
          again = through_entry a.twice.again b.twice.again;
        };
        back = λ l k v i q. let (d, w, j, x, z) = q in let e' = i ∙ ap entries_of j in
            (d, w, j, a.back l k d (ap (λ p. (next_part p).place) e') x, b.back l k w (ap (λ p. (next_part p).later) e') z);
      }
