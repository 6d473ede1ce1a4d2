-- The same of types and telescopes.
use Rattle.std.specs.Prelude.{ℕ, ◌≡◌, List, [], ◌∷◌, ◌++◌, length, map, Some, refl}
use Rattle.std.specs.Option.{option_map}
use Rattle.std.proofs.Common.{ap, subst, sym, ◌∙◌}
use Rattle.clf_syntax.specs.declared.tree.Head.{Head}
use Rattle.clf_syntax.specs.Tree.{PlainObject}
use Rattle.clf_syntax.specs.TypeTree as core_type
use Rattle.clf_syntax.specs.TypeTree.{PlainType, PlainTelescope, PlainKind, SimpleType}
use Rattle.clf_syntax.specs.Simple.{Assignment, SimplyFormed, SimplyFormedTelescope, SimplyTypedEach, erase, extended}
use Rattle.hered_subst.specs.Substitution.{Environment, under, SubstitutedEach, each_none, each_next, SubstitutedType, in_family, in_function, in_both, in_top, in_monad, SubstitutedTelescope, in_end, in_binding}
use Rattle.pattern_laws.specs.Equations.{Locals, scoped}
use Rattle.clf_sig.specs.Entry.{PlainSignature}
use Rattle.typing_laws.specs.SimpleTyping.{families_of}
use Rattle.typing_laws.proofs.Erased.{put_type}
use Rattle.celf_sugar.specs.declared.plain.PName.{PName}
use Rattle.celf_sugar.specs.PlainTree.{DesugaredObject, DesugaredType, DesugaredTelescope}
use Rattle.celf_elaboration.specs.Fillings.{Fillings, Scoped, KnownLocals}
use Rattle.celf_elaboration.specs.Names.{ImplicitVariable, Meaning, meaning}
use Rattle.celf_elaboration.specs.Readings.{ReadsFilled, filled_none, filled_next, ReadsIndices, indices_none, indices_next, indices_beyond, ReadsType, reads_family, reads_function, reads_both, reads_top, reads_monad, ReadsTelescope, reads_end, reads_binding}
use Rattle.reconstruction_laws.proofs.Conforming.{GoodFillings, NameStays, ObjectBack, filled, good_parts, object_back}
use Rattle.subst_laws.proofs.Environs.{under_sum}

pub record TwiceEach (v w : Environment) (o x : List PlainObject) : Type 0 where
  pub between : List PlainObject
  pub once : SubstitutedEach v o between
  pub again : SubstitutedEach w between x

pub record TwiceType (v w : Environment) (o x : PlainType) : Type 0 where
  pub between : PlainType
  pub once : SubstitutedType v o between
  pub again : SubstitutedType w between x

pub record TwiceTelescope (v w : Environment) (o x : PlainTelescope) : Type 0 where
  pub between : PlainTelescope
  pub once : SubstitutedTelescope v o between
  pub again : SubstitutedTelescope w between x

the_types : {a b : List SimpleType} → Some a ≡ Some b → a ≡ b
the_types e = cc

module _ (sig : PlainSignature) (heads : ℕ → Head) (vs : List ImplicitVariable) (t e : Environment) (g y : Assignment)
    (named : (ls : List Scoped) (n : PName) (m : Meaning) → meaning sig heads vs ls n ≡ Some m → NameStays sig heads vs t e g y ls m) where
  abbrev Good : Fillings → Type 0
  Good fs = GoodFillings sig heads vs t e g y fs

  record IndicesBack (ls : List Scoped) (ns : List PlainObject) (ts : List SimpleType) : Type 0 where
    results : List PlainObject
    twice : TwiceEach (under (length ls) t) (under (length ls) e) ns results
    back : (l : Locals) → KnownLocals ls l → SimplyTypedEach (scoped l y) results ts → SimplyTypedEach (scoped l g) ns ts

  pub record TypeBack (ls : List Scoped) (a : PlainType) : Type 0 where
    pub result : PlainType
    pub twice : TwiceType (under (length ls) t) (under (length ls) e) a result
    pub back : (l : Locals) → KnownLocals ls l → SimplyFormed (families_of sig) (scoped l y) result → SimplyFormed (families_of sig) (scoped l g) a

  pub record TelescopeBack (ls : List Scoped) (a : PlainTelescope) : Type 0 where
    pub result : PlainTelescope
    pub twice : TwiceTelescope (under (length ls) t) (under (length ls) e) a result
    pub back : (l : Locals) → KnownLocals ls l → SimplyFormedTelescope (families_of sig) (scoped l y) result → SimplyFormedTelescope (families_of sig) (scoped l g) a

  nothing_back : (ls : List Scoped) (ts : List SimpleType) → IndicesBack ls [] ts
  nothing_back ls ts = record { results = []; twice = record { between = []; once = each_none; again = each_none }; back = λ l k p. none ts (scoped l g) (scoped l y) p }
    where
      none : (ts : List SimpleType) (b c : Assignment) → SimplyTypedEach c [] ts → SimplyTypedEach b [] ts
      none [] b c p = tt
      none (t ∷ ts) b c p = absurd p

  index_back : (ls : List Scoped) (n : PlainObject) (ns : List PlainObject) (u : SimpleType) (ts : List SimpleType)
      → ObjectBack sig heads vs t e g y ls (Some u) n → IndicesBack ls ns ts → IndicesBack ls (n ∷ ns) (u ∷ ts)
  index_back ls n ns u ts a b = record {
    results = a.result ∷ b.results;
    twice = record { between = a.twice.between ∷ b.twice.between; once = each_next a.twice.once b.twice.once; again = each_next a.twice.again b.twice.again };
    back = λ l k p. (a.back l k u refl p.0, b.back l k p.1);
  }

  filled_back : {ls : List Scoped} {i : ℕ} {ts us : List SimpleType} {fs : Fillings} {ns : List PlainObject} → (os : List PlainObject) → Good fs
      → ReadsFilled sig heads vs ls i ts fs ns us → IndicesBack ls os us → IndicesBack ls (ns ++ os) ts
  filled_back os h filled_none b = b
  filled_back {ls = ls} os h (filled_next {t = u} {ts = ts} {l = l} {o = o} {ns = ns} k p) b =
      index_back ls o (ns ++ os) u ts (filled sig heads vs t e g y ls l u o k h.0) (filled_back os h.1 p b)

  indices_back : {ls : List Scoped} {ts : List SimpleType} {is : List DesugaredObject} {fs : Fillings} {ns : List PlainObject} → Good fs → ReadsIndices sig heads vs ls ts is fs ns → IndicesBack ls ns ts
  indices_back {ls = ls} {ts = ts} h indices_none = nothing_back ls ts
  indices_back {ls = ls} h (indices_next {t = u} {ts = ts} {fs = fs} {gs = gs} {hs = hs} {n = n} {ns = ns} p q i) =
      let (hf, hg) = good_parts sig heads vs t e g y fs gs hs i h in index_back ls n ns u ts (object_back sig heads vs t e g y named hf p) (indices_back hg q)
  indices_back {ls = ls} h (indices_beyond {fs = fs} {gs = gs} {hs = hs} {n = n} {ns = ns} p q i) =
      let (hf, hg) = good_parts sig heads vs t e g y fs gs hs i h in let a = object_back sig heads vs t e g y named hf p in let b = indices_back hg q in record {
        results = a.result ∷ b.results;
        twice = record { between = a.twice.between ∷ b.twice.between; once = each_next a.twice.once b.twice.once; again = each_next a.twice.again b.twice.again };
        back = λ l k p. absurd p;
      }

  mutual
    pub type_back : {ls : List Scoped} {w : DesugaredType} {fs : Fillings} {a : PlainType} → Good fs → ReadsType sig heads vs ls w fs a → TypeBack ls a
    type_back {ls = ls} h (reads_family {f = f} {k = k} {fs = fs} {gs = gs} {hs = hs} {ns = ns} {os = os} i j p q r) =
        let (hf, hg) = good_parts sig heads vs t e g y fs gs hs r h in let b = filled_back os hf p (indices_back hg q) in record {
          result = core_type.family f b.results;
          twice = record { between = core_type.family f b.twice.between; once = in_family b.twice.once; again = in_family b.twice.again };
          back = λ l m z. let (ts, x, v) = z in let same = the_types (sym x ∙ ap (option_map (map erase)) j) in
              (ts, x, subst (λ us. SimplyTypedEach (scoped l g) (ns ++ os) us) (sym same) (b.back l m (subst (λ us. SimplyTypedEach (scoped l y) b.results us) same v)));
        }
    type_back {ls = ls} h (reads_function {m = m} {n = n} {fs = fs} {gs = gs} {hs = hs} {c = c} {d = d} p q r) =
        let (hf, hg) = good_parts sig heads vs t e g y fs gs hs r h in let a = type_back hf p in let b = type_back hg q in record {
          result = core_type.function m a.result b.result;
          twice = record {
            between = core_type.function m a.twice.between b.twice.between;
            once = in_function a.twice.once (subst (λ (v : Environment). SubstitutedType v d b.twice.between) (sym (under_sum (length ls) t)) b.twice.once);
            again = in_function a.twice.again (subst (λ (v : Environment). SubstitutedType v b.twice.between b.result) (sym (under_sum (length ls) e)) b.twice.again);
          };
          back = λ l k z. (
            a.back l k z.0,
            b.back ((m, erase c) ∷ l) (erase c, l, refl, refl, k)
                (subst (λ (v : SimpleType). SimplyFormed (families_of sig) (extended v (scoped l y)) b.result) (put_type a.twice.again ∙ put_type a.twice.once) z.1),
          );
        }
    type_back h (reads_both {fs = fs} {gs = gs} {hs = hs} p q r) =
        let (hf, hg) = good_parts sig heads vs t e g y fs gs hs r h in let a = type_back hf p in let b = type_back hg q in record {
          result = core_type.both a.result b.result;
          twice = record { between = core_type.both a.twice.between b.twice.between; once = in_both a.twice.once b.twice.once; again = in_both a.twice.again b.twice.again };
          back = λ l k z. (a.back l k z.0, b.back l k z.1);
        }
    type_back h reads_top = record { result = core_type.top; twice = record { between = core_type.top; once = in_top; again = in_top }; back = λ l k z. z }
    type_back h (reads_monad p) = let a = telescope_back h p in record {
      result = core_type.monad a.result;
      twice = record { between = core_type.monad a.twice.between; once = in_monad a.twice.once; again = in_monad a.twice.again };
      back = λ l k z. a.back l k z;
    }

    pub telescope_back : {ls : List Scoped} {w : DesugaredTelescope} {fs : Fillings} {a : PlainTelescope} → Good fs → ReadsTelescope sig heads vs ls w fs a → TelescopeBack ls a
    telescope_back h reads_end = record { result = core_type.end; twice = record { between = core_type.end; once = in_end; again = in_end }; back = λ l k z. z }
    telescope_back {ls = ls} h (reads_binding {m = m} {n = n} {fs = fs} {gs = gs} {hs = hs} {c = c} {u = d} p q r) =
        let (hf, hg) = good_parts sig heads vs t e g y fs gs hs r h in let a = type_back hf p in let b = telescope_back hg q in record {
          result = core_type.binding m a.result b.result;
          twice = record {
            between = core_type.binding m a.twice.between b.twice.between;
            once = in_binding a.twice.once (subst (λ (v : Environment). SubstitutedTelescope v d b.twice.between) (sym (under_sum (length ls) t)) b.twice.once);
            again = in_binding a.twice.again (subst (λ (v : Environment). SubstitutedTelescope v b.twice.between b.result) (sym (under_sum (length ls) e)) b.twice.again);
          };
          back = λ l k z. (
            a.back l k z.0,
            b.back ((m, erase c) ∷ l) (erase c, l, refl, refl, k)
                (subst (λ (v : SimpleType). SimplyFormedTelescope (families_of sig) (extended v (scoped l y)) b.result) (put_type a.twice.again ∙ put_type a.twice.once) z.1),
          );
        }
