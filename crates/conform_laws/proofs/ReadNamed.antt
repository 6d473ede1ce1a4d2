-- In what is read no step has a metavariable as its head, where no name means one and new metavariables are filled in.
use Rattle.std.proofs.Common.{inr, subst, sym}
use Rattle.std.specs.Prelude.{List, None, Some, [], false, length, refl, ℕ, ◌++◌, ◌+◌, ◌∷◌, ◌≡◌}
use Rattle.clf_syntax.specs.Tree as core
use Rattle.clf_syntax.specs.Tree.{PlainExpression, PlainNeutral, PlainObject, head_alone, steps_on, tuple_of}
use Rattle.clf_syntax.specs.TypeTree.{PlainTelescope, PlainType, SimpleType, binding, end}
use Rattle.clf_syntax.specs.declared.tree.Head.{Head}
use Rattle.clf_syntax.specs.declared.tree.Head.TheVariants.{Const, Var}
use Rattle.clf_syntax.specs.declared.tree.Mode.{Mode}
use Rattle.hered_subst.specs.TypedEnvironments.{is_metavariable}
use Rattle.clf_sig.specs.Entry.{PlainSignature}
use Rattle.metavars.specs.Fresh.{new_types, scope_of}
use Rattle.celf_sugar.specs.PlainTree.{DesugaredObject, DesugaredSpine, DesugaredSteps, DesugaredTelescope, DesugaredTuple, DesugaredType}
use Rattle.celf_sugar.specs.declared.plain.PName.{PName}
use Rattle.celf_explicit.specs.Objects.{long_at}
use Rattle.celf_explicit.specs.Types.{kind_of}
use Rattle.celf_places.specs.Places.{Place}
use Rattle.celf_elaboration.specs.Fillings.{AreNew, Fillings, Scoped}
use Rattle.celf_elaboration.specs.Names.{ImplicitVariable, Meaning, meaning}
use Rattle.celf_elaboration.specs.Readings.{ReadsFilled, ReadsHead, ReadsImplicit, ReadsIndices, ReadsObject, ReadsSpine, ReadsSteps, ReadsTelescope, ReadsTuple, ReadsType, filled_next, filled_none, implicit_next, implicit_none, indices_beyond, indices_next, indices_none, reads_atomic, reads_binding, reads_both, reads_dropped, reads_end, reads_family, reads_function, reads_head, reads_hole, reads_lam, reads_monad, reads_monadic, reads_pair, reads_top, reads_unit, spine_argument, spine_end, spine_first, spine_second, steps_next, steps_none, tuple_end, tuple_entry}
use Rattle.reconstruction_laws.proofs.Meanings.{NamedHead, named_head, names_constant, names_implicit, names_local}
use Rattle.conform_laws.proofs.Named.{EachNamed, ExpressionNamed, KindNamed, NeutralNamed, StepsNamed, TelescopeNamed, TupleNamed, TypeNamed, named_expansion, named_fresh}

abbrev FillingsNamed : Fillings → Type 0
FillingsNamed [] = Unit {0}
FillingsNamed (f ∷ fs) = StepsNamed f.object × FillingsNamed fs

new_named : (k : ℕ) (fs : Fillings) → AreNew k fs → FillingsNamed fs
new_named k [] p = tt
new_named k (f ∷ fs) p = (subst (λ (o : PlainObject). StepsNamed o) (sym p.0) (named_fresh f.type k (scope_of f.locals)), new_named (k + length (new_types (scope_of f.locals) f.type)) fs p.1)

parts_named : (fs gs hs : Fillings) → hs ≡ fs ++ gs → FillingsNamed hs → FillingsNamed fs × FillingsNamed gs
parts_named fs gs hs e p = split fs (subst (λ v. FillingsNamed v) e p)
  where
    split : (fs : Fillings) → FillingsNamed (fs ++ gs) → FillingsNamed fs × FillingsNamed gs
    split [] p = (tt, p)
    split (f ∷ fs) p = let (a, b) = split fs p.1 in ((p.0, a), b)

-- ---- lists of steps, entries and indices
abbrev StepsAllNamed : List (List Mode × PlainNeutral) → Type 0
StepsAllNamed [] = Unit {0}
StepsAllNamed (s ∷ ss) = NeutralNamed s.1 × StepsAllNamed ss

steps_named : (xs : List (List Mode × PlainNeutral)) (e : PlainExpression) → StepsAllNamed xs → ExpressionNamed e → ExpressionNamed (steps_on xs e)
steps_named [] e p q = q
steps_named (x ∷ xs) e p q = (p.0, steps_named xs e p.1 q)

both_named : (ns os : List PlainObject) → EachNamed ns → EachNamed os → EachNamed (ns ++ os)
both_named [] os p q = q
both_named (n ∷ ns) os p q = (p.0, both_named ns os p.1 q)

kind_named : (s : PlainTelescope) → TelescopeNamed s → KindNamed (kind_of s)
kind_named end p = tt
kind_named (binding m a s) p = (p.0, kind_named s p.1)

long_named : (t : Place) (n : PlainNeutral) → NeutralNamed n → StepsNamed (long_at t n)
long_named None n p = inr p
long_named (Some t) n p = named_expansion t n p

module _ (sig : PlainSignature) (heads : ℕ → Head) (vs : List ImplicitVariable) (ordinary : (x : ℕ) → is_metavariable (heads x) ≡ false) where
  meaning_named : (ls : List Scoped) (n : PName) (m : Meaning) → meaning sig heads vs ls n ≡ Some m → is_metavariable m.head ≡ false
  meaning_named ls n m e = at (named_head sig heads vs ls n m e)
    where
      no_meta : (h : Head) → m.head ≡ h → is_metavariable h ≡ false → is_metavariable m.head ≡ false
      no_meta h i p = subst (λ (v : Head). is_metavariable v ≡ false) (sym i) p

      at : NamedHead sig heads vs ls m → is_metavariable m.head ≡ false
      at (names_constant {c} i h p) = no_meta (Const c) i refl
      at (names_local {i} j h r p) = no_meta (Var i) j refl
      at (names_implicit {x} i r p) = no_meta (heads x) i (ordinary x)

  implicit_named : {ls : List Scoped} {i : ℕ} {r x : PlainNeutral} {p u : Place} {fs : Fillings} → FillingsNamed fs → NeutralNamed r → ReadsImplicit sig heads vs ls i r p fs x u → NeutralNamed x
  implicit_named h q implicit_none = q
  implicit_named h q (implicit_next k p) = implicit_named h.1 (q, h.0) p

  head_named : {ls : List Scoped} {n : PName} {r : PlainNeutral} {p : Place} {fs : Fillings} → FillingsNamed fs → ReadsHead sig heads vs ls n fs r p → NeutralNamed r
  head_named {ls = ls} {n = n} h (reads_head {m = m} i p) = implicit_named h (meaning_named ls n m i) p

  mutual
    pub object_named : {ls : List Scoped} {t : Place} {o : DesugaredObject} {fs : Fillings} {n : PlainObject} → FillingsNamed fs → ReadsObject sig heads vs ls t o fs n → StepsNamed n
    object_named h (reads_lam p) = object_named h p
    object_named h (reads_pair {fs = fs} {gs = gs} {hs = hs} p q i) = let (a, b) = parts_named fs gs hs i h in (object_named a p, object_named b q)
    object_named h reads_unit = tt
    object_named h (reads_monadic {fs = fs} {gs = gs} {hs = hs} {xs = xs} {es = es} p q i) =
        let (a, b) = parts_named fs gs hs i h in steps_named xs (core.done (tuple_of es)) (all_steps_named a p) (tuple_named b q)
    object_named h (reads_atomic {t = t} {fs = fs} {gs = gs} {hs = hs} {x = x} b p q i) = let (c, d) = parts_named fs gs hs i h in long_named t x (spine_named d (head_named c p) q)
    object_named h (reads_dropped {t = t} b) = named_expansion t (head_alone (Var 0)) refl
    object_named h (reads_hole k) = h.0

    spine_named : {ls : List Scoped} {r x : PlainNeutral} {p u : Place} {es : DesugaredSpine} {fs : Fillings} → FillingsNamed fs → NeutralNamed r → ReadsSpine sig heads vs ls r p es fs x u → NeutralNamed x
    spine_named h q spine_end = q
    spine_named h q (spine_argument {fs = fs} {gs = gs} {hs = hs} a p i) = let (c, d) = parts_named fs gs hs i h in spine_named d (q, object_named c a) p
    spine_named h q (spine_first p) = spine_named h q p
    spine_named h q (spine_second p) = spine_named h q p

    all_steps_named : {ls ks : List Scoped} {ss : DesugaredSteps} {fs : Fillings} {xs : List (List Mode × PlainNeutral)} → FillingsNamed fs → ReadsSteps sig heads vs ls ss fs xs ks → StepsAllNamed xs
    all_steps_named h steps_none = tt
    all_steps_named h (steps_next {fs = fs} {gs = gs} {ks' = ks'} {hs = hs} p q r i) =
        let (a, b) = parts_named (fs ++ gs) ks' hs i h in let (c, d) = parts_named fs gs (fs ++ gs) refl a in (spine_named d (head_named c p) q, all_steps_named b r)

    tuple_named : {ls : List Scoped} {ps : List (Mode × SimpleType)} {u : DesugaredTuple} {fs : Fillings} {es : List (Mode × PlainObject)} → FillingsNamed fs → ReadsTuple sig heads vs ls ps u fs es → TupleNamed (tuple_of es)
    tuple_named h tuple_end = tt
    tuple_named h (tuple_entry {fs = fs} {gs = gs} {hs = hs} p q i) = let (a, b) = parts_named fs gs hs i h in (object_named a p, tuple_named b q)

  filled_named : {ls : List Scoped} {i : ℕ} {ts us : List SimpleType} {fs : Fillings} {ns : List PlainObject} → FillingsNamed fs → ReadsFilled sig heads vs ls i ts fs ns us → EachNamed ns
  filled_named h filled_none = tt
  filled_named h (filled_next k p) = (h.0, filled_named h.1 p)

  indices_named : {ls : List Scoped} {ts : List SimpleType} {is : List DesugaredObject} {fs : Fillings} {ns : List PlainObject} → FillingsNamed fs → ReadsIndices sig heads vs ls ts is fs ns → EachNamed ns
  indices_named h indices_none = tt
  indices_named h (indices_next {fs = fs} {gs = gs} {hs = hs} p q i) = let (a, b) = parts_named fs gs hs i h in (object_named a p, indices_named b q)
  indices_named h (indices_beyond {fs = fs} {gs = gs} {hs = hs} p q i) = let (a, b) = parts_named fs gs hs i h in (object_named a p, indices_named b q)

  mutual
    type_named : {ls : List Scoped} {w : DesugaredType} {fs : Fillings} {a : PlainType} → FillingsNamed fs → ReadsType sig heads vs ls w fs a → TypeNamed a
    type_named h (reads_family {fs = fs} {gs = gs} {hs = hs} {ns = ns} {os = os} i j p q e) =
        let (a, b) = parts_named fs gs hs e h in both_named ns os (filled_named a p) (indices_named b q)
    type_named h (reads_function {fs = fs} {gs = gs} {hs = hs} p q i) = let (a, b) = parts_named fs gs hs i h in (type_named a p, type_named b q)
    type_named h (reads_both {fs = fs} {gs = gs} {hs = hs} p q i) = let (a, b) = parts_named fs gs hs i h in (type_named a p, type_named b q)
    type_named h reads_top = tt
    type_named h (reads_monad p) = telescope_named h p

    telescope_named : {ls : List Scoped} {w : DesugaredTelescope} {fs : Fillings} {s : PlainTelescope} → FillingsNamed fs → ReadsTelescope sig heads vs ls w fs s → TelescopeNamed s
    telescope_named h reads_end = tt
    telescope_named h (reads_binding {fs = fs} {gs = gs} {hs = hs} p q i) = let (a, b) = parts_named fs gs hs i h in (type_named a p, telescope_named b q)

  pub read_type_named : (k : ℕ) (ls : List Scoped) (w : DesugaredType) (fs : Fillings) (a : PlainType) → AreNew k fs → ReadsType sig heads vs ls w fs a → TypeNamed a
  read_type_named k ls w fs a new p = type_named (new_named k fs new) p

  pub read_kind_named : (k : ℕ) (ls : List Scoped) (w : DesugaredTelescope) (fs : Fillings) (s : PlainTelescope) → AreNew k fs → ReadsTelescope sig heads vs ls w fs s → KindNamed (kind_of s)
  read_kind_named k ls w fs s new p = kind_named s (telescope_named (new_named k fs new) p)
