-- Two readings of a written type differ by their fillings alone.
use Rattle.std.specs.Prelude.{ℕ, ◌≡◌, List, [], ◌∷◌, ◌++◌, length, map, Some, refl}
use Rattle.std.proofs.Common.{ap, append-nil, subst, sym, ◌∙◌}
use Rattle.clf_syntax.specs.declared.tree.Head.{Head}
use Rattle.clf_syntax.specs.Tree.{PlainObject}
use Rattle.clf_syntax.specs.TypeTree as core_type
use Rattle.clf_syntax.specs.TypeTree.{PlainType, PlainTelescope, PlainKind, SimpleType}
use Rattle.clf_syntax.specs.Simple.{erase}
use Rattle.hered_subst.specs.Substitution.{Environment, under, SubstitutedEach, each_none, each_next, SubstitutedType, in_family, in_function, in_both, in_top, in_monad, SubstitutedTelescope, in_end, in_binding}
use Rattle.typing_laws.proofs.Erased.{put_type}
use Rattle.clf_sig.specs.Entry.{PlainSignature, family_kind}
use Rattle.celf_sugar.specs.PlainTree.{DesugaredObject, DesugaredType, DesugaredTelescope}
use Rattle.celf_elaboration.specs.Fillings.{Fillings, Scoped}
use Rattle.celf_elaboration.specs.Names.{ImplicitVariable}
use Rattle.celf_elaboration.specs.Readings.{implicit_indices, ReadsFilled, filled_none, filled_next, ReadsIndices, indices_none, indices_next, indices_beyond, ReadsType, reads_family, reads_function, reads_both, reads_top, reads_monad, ReadsTelescope, reads_end, reads_binding}
use Rattle.reconstruction_laws.specs.Becoming.{FillingsBecome, KeepsNamed}
use Rattle.reconstruction_laws.specs.Laws.{ReadingsBecome}
use Rattle.reconstruction_laws.proofs.Rereading.{object_become, one_filling, parts}
use Rattle.subst_laws.proofs.Environs.{under_sum}

pub the_number : {a b : ℕ} → Some a ≡ Some b → a ≡ b
the_number e = cc

pub the_kind : {a b : PlainKind} → Some a ≡ Some b → a ≡ b
the_kind e = cc

each_append : {v : Environment} {a b c d : List PlainObject} → SubstitutedEach v a b → SubstitutedEach v c d → SubstitutedEach v (a ++ c) (b ++ d)
each_append each_none q = q
each_append (each_next p r) q = each_next p (each_append r q)

module _ (sig : PlainSignature) (heads : ℕ → Head) (vs : List ImplicitVariable) (s : Environment) (keeps : KeepsNamed heads s) where
  abbrev S : List Scoped → Environment
  S ls = under (length ls) s

  filled_become : {ls : List Scoped} {i : ℕ} {ts us ws : List SimpleType} {fs gs : Fillings} {ns os : List PlainObject} → (x y : Fillings)
      → ReadsFilled sig heads vs ls i ts fs ns us → ReadsFilled sig heads vs ls i ts gs os ws → FillingsBecome s (fs ++ x) (gs ++ y)
      → SubstitutedEach (S ls) ns os × (us ≡ ws) × FillingsBecome s x y
  filled_become x y filled_none filled_none f = (each_none, refl, f)
  filled_become {ls = ls} x y (filled_next {t = t} {l = l} {o = o} {fs = fs} k p) (filled_next {l = l'} {o = o'} {fs = gs} k' q) f =
      let (a, b) = one_filling sig heads vs s keeps ls (record { locals = l; type = t; object = o }) (record { locals = l'; type = t; object = o' }) (fs ++ x) (gs ++ y) k f in
      let (c, d, e) = filled_become x y p q b in (each_next a c, d, e)

  indices_become : {ls : List Scoped} {ts : List SimpleType} {is : List DesugaredObject} {fs gs : Fillings} {ns os : List PlainObject} → (x y : Fillings)
      → ReadsIndices sig heads vs ls ts is fs ns → ReadsIndices sig heads vs ls ts is gs os → FillingsBecome s (fs ++ x) (gs ++ y)
      → SubstitutedEach (S ls) ns os × FillingsBecome s x y
  indices_become x y indices_none indices_none f = (each_none, f)
  indices_become x y (indices_next {fs = f1} {gs = f2} {hs = fs} p1 p2 e) (indices_next {fs = g1} {gs = g2} {hs = gs} q1 q2 h) f =
      let (a, b) = object_become sig heads vs s keeps (f2 ++ x) (g2 ++ y) p1 q1 (parts sig heads vs s keeps fs f1 f2 gs g1 g2 x y e h f) in
      let (c, d) = indices_become x y p2 q2 b in (each_next a c, d)
  indices_become x y (indices_beyond {fs = f1} {gs = f2} {hs = fs} p1 p2 e) (indices_beyond {fs = g1} {gs = g2} {hs = gs} q1 q2 h) f =
      let (a, b) = object_become sig heads vs s keeps (f2 ++ x) (g2 ++ y) p1 q1 (parts sig heads vs s keeps fs f1 f2 gs g1 g2 x y e h f) in
      let (c, d) = indices_become x y p2 q2 b in (each_next a c, d)

  mutual
    type_become : {ls : List Scoped} {w : DesugaredType} {fs gs : Fillings} {a b : PlainType} → (x y : Fillings)
        → ReadsType sig heads vs ls w fs a → ReadsType sig heads vs ls w gs b → FillingsBecome s (fs ++ x) (gs ++ y) → SubstitutedType (S ls) a b × FillingsBecome s x y
    type_become {ls = ls} x y (reads_family {h = h} {is = is} {f = c} {k = k} {fs = f1} {gs = f2} {hs = fs} {ns = ns} {os = os} i j p1 p2 e) (reads_family {f = c'} {k = k'} {ts = ts} {fs = g1} {gs = g2} {hs = gs} {ns = ns'} {os = os'} i' j' q1 q2 e') f =
        let ec = the_number (sym i' ∙ i) in
        let ek = the_kind (sym j' ∙ ap (family_kind sig) ec ∙ j) in
        let q1' = subst (λ v. ReadsFilled sig heads vs ls (implicit_indices sig heads vs h v) (map erase k) g1 ns' ts) ec
        (subst (λ v. ReadsFilled sig heads vs ls (implicit_indices sig heads vs h c') (map erase v) g1 ns' ts) ek q1) in
        let (r1, r2, r3) = filled_become (f2 ++ x) (g2 ++ y) p1 q1' (parts sig heads vs s keeps fs f1 f2 gs g1 g2 x y e e' f) in
        let (r4, r5) = indices_become x y p2 (subst (λ v. ReadsIndices sig heads vs ls v is g2 os') (sym r2) q2) r3 in
        (subst (λ v. SubstitutedType (S ls) (core_type.family c (ns ++ os)) (core_type.family v (ns' ++ os'))) (sym ec) (in_family (each_append r1 r4)), r5)
    type_become {ls = ls} x y (reads_function {m = m} {n = n} {b = w} {fs = f1} {gs = f2} {hs = fs} {d = d} p1 p2 e) (reads_function {fs = g1} {gs = g2} {hs = gs} {d = d'} q1 q2 e') f =
        let (r1, r2) = type_become (f2 ++ x) (g2 ++ y) p1 q1 (parts sig heads vs s keeps fs f1 f2 gs g1 g2 x y e e' f) in
        let (r3, r4) = type_become x y p2 (subst (λ t. ReadsType sig heads vs (record { mode = m; name = n; place = Some t } ∷ ls) w g2 d') (put_type r1) q2) r2 in
        (in_function r1 (subst (λ (z : Environment). SubstitutedType z d d') (sym (under_sum (length ls) s)) r3), r4)
    type_become x y (reads_both {fs = f1} {gs = f2} {hs = fs} p1 p2 e) (reads_both {fs = g1} {gs = g2} {hs = gs} q1 q2 e') f =
        let (r1, r2) = type_become (f2 ++ x) (g2 ++ y) p1 q1 (parts sig heads vs s keeps fs f1 f2 gs g1 g2 x y e e' f) in
        let (r3, r4) = type_become x y p2 q2 r2 in (in_both r1 r3, r4)
    type_become x y reads_top reads_top f = (in_top, f)
    type_become x y (reads_monad p) (reads_monad q) f = let (r1, r2) = telescope_become x y p q f in (in_monad r1, r2)

    telescope_become : {ls : List Scoped} {w : DesugaredTelescope} {fs gs : Fillings} {a b : PlainTelescope} → (x y : Fillings)
        → ReadsTelescope sig heads vs ls w fs a → ReadsTelescope sig heads vs ls w gs b → FillingsBecome s (fs ++ x) (gs ++ y) → SubstitutedTelescope (S ls) a b × FillingsBecome s x y
    telescope_become x y reads_end reads_end f = (in_end, f)
    telescope_become {ls = ls} x y (reads_binding {m = m} {n = n} {t = w} {fs = f1} {gs = f2} {hs = fs} {u = d} p1 p2 e) (reads_binding {fs = g1} {gs = g2} {hs = gs} {u = d'} q1 q2 e') f =
        let (r1, r2) = type_become (f2 ++ x) (g2 ++ y) p1 q1 (parts sig heads vs s keeps fs f1 f2 gs g1 g2 x y e e' f) in
        let (r3, r4) = telescope_become x y p2 (subst (λ t. ReadsTelescope sig heads vs (record { mode = m; name = n; place = Some t } ∷ ls) w g2 d') (put_type r1) q2) r2 in
        (in_binding r1 (subst (λ (z : Environment). SubstitutedTelescope z d d') (sym (under_sum (length ls) s)) r3), r4)

ended : (s : Environment) (fs gs : Fillings) → FillingsBecome s fs gs → FillingsBecome s (fs ++ []) (gs ++ [])
ended s fs gs f = subst (λ v. FillingsBecome s (fs ++ []) v) (sym (append-nil gs)) (subst (λ v. FillingsBecome s v gs) (sym (append-nil fs)) f)

pub readings_become : ReadingsBecome
readings_become sig heads vs s keeps ls = record {
  objects = λ t o fs gs m n p q f. (object_become sig heads vs s keeps [] [] p q (ended s fs gs f)).0;
  types = λ w fs gs a b p q f. (type_become sig heads vs s keeps [] [] p q (ended s fs gs f)).0;
  telescopes = λ w fs gs a b p q f. (telescope_become sig heads vs s keeps [] [] p q (ended s fs gs f)).0;
}
