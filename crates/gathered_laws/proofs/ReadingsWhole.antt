-- No hole stands in a reading whose fillings have none.
use Rattle.std.proofs.Common.{subst, sym}
use Rattle.std.specs.Prelude.{List, None, Some, [], ℕ, ◌++◌, ◌+◌, ◌∷◌, ◌≡◌, length}
use Rattle.clf_syntax.specs.Tree as core
use Rattle.clf_syntax.specs.Tree.{PlainNeutral, PlainObject, head_alone, steps_on, tuple_of}
use Rattle.clf_syntax.specs.TypeTree as core_type
use Rattle.clf_syntax.specs.TypeTree.{PlainTelescope, PlainType, SimpleType}
use Rattle.clf_syntax.specs.declared.tree.Head.{Head}
use Rattle.clf_syntax.specs.declared.tree.Head.TheVariants.{Var}
use Rattle.clf_syntax.specs.declared.tree.Mode.{Mode}
use Rattle.clf_sig.specs.Core.{PlainCore}
use Rattle.clf_sig.specs.Entry.{PlainSignature}
use Rattle.metavars.specs.Fresh.{new_types, scope_of}
use Rattle.gathering.specs.Complete.{ExpressionHasNoHole, HasNoHole, NeutralHasNoHole, TupleHasNoHole}
use Rattle.celf_sugar.specs.PlainTree.{DesugaredBody, DesugaredObject, DesugaredSpine, DesugaredSteps, DesugaredTelescope, DesugaredTuple, DesugaredType}
use Rattle.celf_sugar.specs.declared.plain.PName.{PName}
use Rattle.celf_places.specs.Places.{Place}
use Rattle.celf_explicit.specs.Objects.{long_at}
use Rattle.celf_explicit.specs.Types.{kind_of}
use Rattle.celf_elaboration.specs.Fillings.{AreNew, Fillings, Scoped}
use Rattle.celf_elaboration.specs.Items.{ReadsBody, reads_check, reads_constant_declaration, reads_equation, reads_family_declaration, reads_query, reads_trace}
use Rattle.celf_elaboration.specs.Names.{ImplicitVariable}
use Rattle.celf_elaboration.specs.Readings.{ReadsFilled, ReadsHead, ReadsImplicit, ReadsIndices, ReadsObject, ReadsSpine, ReadsSteps, ReadsTelescope, ReadsTuple, ReadsType, filled_next, filled_none, implicit_next, implicit_none, indices_beyond, indices_next, indices_none, reads_atomic, reads_binding, reads_both, reads_dropped, reads_end, reads_family, reads_function, reads_head, reads_hole, reads_lam, reads_monad, reads_monadic, reads_pair, reads_top, reads_unit, spine_argument, spine_end, spine_first, spine_second, steps_next, steps_none, tuple_end, tuple_entry}
use Rattle.celf_gather.specs.Holes.{CoreHasNoHole, EachHasNoHole, KindHasNoHole, TelescopeHasNoHole, TypeHasNoHole}
use Rattle.gathered_laws.proofs.Whole.{expansion_whole, fresh_whole}
use Rattle.gathered_laws.specs.Laws.{ReadingHasNoHole}

-- No hole stands in what is filled in.
abbrev AreWhole : Fillings → Type 0
AreWhole [] = Unit {0}
AreWhole (f ∷ fs) = HasNoHole f.object × AreWhole fs

new_ones : (k : ℕ) (fs : Fillings) → AreNew k fs → AreWhole fs
new_ones k [] p = tt
new_ones k (f ∷ fs) p = (subst HasNoHole (sym p.0) (fresh_whole k (scope_of f.locals) f.type), new_ones (k + length (new_types (scope_of f.locals) f.type)) fs p.1)

halves : (fs gs : Fillings) → AreWhole (fs ++ gs) → AreWhole fs × AreWhole gs
halves [] gs p = (tt, p)
halves (f ∷ fs) gs p = let (x, y) = halves fs gs p.1 in ((p.0, x), y)

parts : (fs gs hs : Fillings) → hs ≡ fs ++ gs → AreWhole hs → AreWhole fs × AreWhole gs
parts fs gs hs e p = halves fs gs (subst AreWhole e p)

long_whole : (t : Place) (n : PlainNeutral) → NeutralHasNoHole n → HasNoHole (long_at t n)
long_whole None n h = h
long_whole (Some t) n h = expansion_whole t n h

-- steps without holes before an expression without holes
abbrev StepsWhole : List (List Mode × PlainNeutral) → Type 0
StepsWhole [] = Unit {0}
StepsWhole (x ∷ xs) = NeutralHasNoHole x.1 × StepsWhole xs

on_steps : (xs : List (List Mode × PlainNeutral)) (e : core.PlainExpression) → StepsWhole xs → ExpressionHasNoHole e → ExpressionHasNoHole (steps_on xs e)
on_steps [] e p q = q
on_steps (x ∷ xs) e p q = (p.0, on_steps xs e p.1 q)

each_append : (ns os : List PlainObject) → EachHasNoHole ns → EachHasNoHole os → EachHasNoHole (ns ++ os)
each_append [] os p q = q
each_append (n ∷ ns) os p q = (p.0, each_append ns os p.1 q)

kind_whole : (s : PlainTelescope) → TelescopeHasNoHole s → KindHasNoHole (kind_of s)
kind_whole core_type.end p = tt
kind_whole (core_type.binding m a s) p = (p.0, kind_whole s p.1)

module _ (sig : PlainSignature) (heads : ℕ → Head) (vs : List ImplicitVariable) where
  implicit_whole : {ls : List Scoped} {i : ℕ} {r x : PlainNeutral} {p u : Place} {fs : Fillings} → ReadsImplicit sig heads vs ls i r p fs x u → NeutralHasNoHole r → AreWhole fs → NeutralHasNoHole x
  implicit_whole implicit_none h w = h
  implicit_whole (implicit_next k p) h w = implicit_whole p (h, w.0) w.1

  head_whole : {ls : List Scoped} {n : PName} {fs : Fillings} {r : PlainNeutral} {p : Place} → ReadsHead sig heads vs ls n fs r p → AreWhole fs → NeutralHasNoHole r
  head_whole (reads_head e p) w = implicit_whole p tt w

  mutual
    object_whole : {ls : List Scoped} {t : Place} {o : DesugaredObject} {fs : Fillings} {n : PlainObject} → ReadsObject sig heads vs ls t o fs n → AreWhole fs → HasNoHole n
    object_whole (reads_lam p) w = object_whole p w
    object_whole (reads_pair {fs = fs} {gs = gs} {hs = hs} p q e) w = let (v, u) = parts fs gs hs e w in (object_whole p v, object_whole q u)
    object_whole reads_unit w = tt
    object_whole (reads_monadic {fs = fs} {gs = gs} {hs = hs} {xs = xs} {es = es} p q e) w =
        let (v, u) = parts fs gs hs e w in on_steps xs (core.done (tuple_of es)) (steps_whole p v) (tuple_whole q u)
    object_whole (reads_atomic {t = t} {fs = fs} {gs = gs} {hs = hs} {x = x} b p q e) w =
        let (v, u) = parts fs gs hs e w in long_whole t x (spine_whole q (head_whole p v) u)
    object_whole (reads_dropped {t = t} b) w = expansion_whole t (head_alone (Var 0)) tt
    object_whole (reads_hole k) w = w.0

    spine_whole : {ls : List Scoped} {r x : PlainNeutral} {p u : Place} {es : DesugaredSpine} {fs : Fillings} → ReadsSpine sig heads vs ls r p es fs x u → NeutralHasNoHole r → AreWhole fs → NeutralHasNoHole x
    spine_whole spine_end h w = h
    spine_whole (spine_argument {fs = fs} {gs = gs} {hs = hs} p q e) h w = let (v, u) = parts fs gs hs e w in spine_whole q (h, object_whole p v) u
    spine_whole (spine_first p) h w = spine_whole p h w
    spine_whole (spine_second p) h w = spine_whole p h w

    steps_whole : {ls ks : List Scoped} {ss : DesugaredSteps} {fs : Fillings} {xs : List (List Mode × PlainNeutral)} → ReadsSteps sig heads vs ls ss fs xs ks → AreWhole fs → StepsWhole xs
    steps_whole steps_none w = tt
    steps_whole (steps_next {fs = fs} {gs = gs} {ks' = ks'} {hs = hs} p q r e) w =
        let (v, u) = parts (fs ++ gs) ks' hs e w in let (y, z) = halves fs gs v in (spine_whole q (head_whole p y) z, steps_whole r u)

    tuple_whole : {ls : List Scoped} {ps : List (Mode × SimpleType)} {u : DesugaredTuple} {fs : Fillings} {es : List (Mode × PlainObject)} → ReadsTuple sig heads vs ls ps u fs es → AreWhole fs → TupleHasNoHole (tuple_of es)
    tuple_whole tuple_end w = tt
    tuple_whole (tuple_entry {fs = fs} {gs = gs} {hs = hs} p q e) w = let (v, u) = parts fs gs hs e w in (object_whole p v, tuple_whole q u)

  filled_whole : {ls : List Scoped} {i : ℕ} {ts us : List SimpleType} {fs : Fillings} {ns : List PlainObject} → ReadsFilled sig heads vs ls i ts fs ns us → AreWhole fs → EachHasNoHole ns
  filled_whole filled_none w = tt
  filled_whole (filled_next k p) w = (w.0, filled_whole p w.1)

  indices_whole : {ls : List Scoped} {ts : List SimpleType} {os : List DesugaredObject} {fs : Fillings} {ns : List PlainObject} → ReadsIndices sig heads vs ls ts os fs ns → AreWhole fs → EachHasNoHole ns
  indices_whole indices_none w = tt
  indices_whole (indices_next {fs = fs} {gs = gs} {hs = hs} p q e) w = let (v, u) = parts fs gs hs e w in (object_whole p v, indices_whole q u)
  indices_whole (indices_beyond {fs = fs} {gs = gs} {hs = hs} p q e) w = let (v, u) = parts fs gs hs e w in (object_whole p v, indices_whole q u)

  mutual
    type_whole : {ls : List Scoped} {t : DesugaredType} {fs : Fillings} {a : PlainType} → ReadsType sig heads vs ls t fs a → AreWhole fs → TypeHasNoHole a
    type_whole (reads_family {fs = fs} {gs = gs} {hs = hs} {ns = ns} {os = os} i k p q e) w = let (v, u) = parts fs gs hs e w in each_append ns os (filled_whole p v) (indices_whole q u)
    type_whole (reads_function {fs = fs} {gs = gs} {hs = hs} p q e) w = let (v, u) = parts fs gs hs e w in (type_whole p v, type_whole q u)
    type_whole (reads_both {fs = fs} {gs = gs} {hs = hs} p q e) w = let (v, u) = parts fs gs hs e w in (type_whole p v, type_whole q u)
    type_whole reads_top w = tt
    type_whole (reads_monad p) w = telescope_whole p w

    telescope_whole : {ls : List Scoped} {t : DesugaredTelescope} {fs : Fillings} {s : PlainTelescope} → ReadsTelescope sig heads vs ls t fs s → AreWhole fs → TelescopeHasNoHole s
    telescope_whole reads_end w = tt
    telescope_whole (reads_binding {fs = fs} {gs = gs} {hs = hs} p q e) w = let (v, u) = parts fs gs hs e w in (type_whole p v, telescope_whole q u)

  body_whole : {body : DesugaredBody} {fs : Fillings} {c : PlainCore} → ReadsBody sig heads vs body fs c → AreWhole fs → CoreHasNoHole c
  body_whole (reads_family_declaration {s = s} p) w = kind_whole s (telescope_whole p w)
  body_whole (reads_constant_declaration p) w = type_whole p w
  body_whole (reads_query p) w = type_whole p w
  body_whole (reads_trace p) w = telescope_whole p w
  body_whole (reads_equation {fs = fs} {gs = gs} {hs = hs} p q r) w =
      let (v, u) = halves (fs ++ gs) hs w in let (x, y) = halves fs gs v in (type_whole p x, object_whole q y, object_whole r u)
  body_whole (reads_check {fs = fs} {gs = gs} p q) w = let (v, u) = halves fs gs w in (type_whole p v, object_whole q u)

pub reading_has_no_hole : ReadingHasNoHole
reading_has_no_hole sig heads vs body fs core k n p = body_whole sig heads vs p (new_ones k fs n)
