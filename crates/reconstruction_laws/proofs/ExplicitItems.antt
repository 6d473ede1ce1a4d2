-- The explicit reading of types and of whole items is their one reading with fillings, of which there are none.
use Rattle.std.specs.Prelude.{ℕ, zero, ◌≡◌, ◌&&◌, true, false, List, [], ◌∷◌, ◌++◌, map, Option, Some, None, is_none, is_some, option_and_then, refl}
use Rattle.std.proofs.Common.{ap, subst, sym, ◌∙◌}
use Rattle.clf_syntax.specs.declared.tree.Mode.{Mode}
use Rattle.clf_syntax.specs.declared.tree.Mode.TheVariants.{Persistent}
use Rattle.clf_syntax.specs.declared.tree.Head.{Head}
use Rattle.clf_syntax.specs.Tree.{PlainObject}
use Rattle.clf_syntax.specs.TypeTree as core_type
use Rattle.clf_syntax.specs.TypeTree.{PlainType, PlainTelescope, PlainKind, SimpleType}
use Rattle.clf_syntax.specs.Simple.{erase}
use Rattle.clf_sig.specs.Entry.{PlainClass, PlainSignature, class_at, constant_of, family_kind, family_of, kind_in, place_of}
use Rattle.clf_sig.specs.Core.{PlainCore, declares, queries, traces, equates, checks}
use Rattle.celf_surface.specs.declared.surface.Span.{Span}
use Rattle.celf_sugar.specs.declared.plain.PName.{PName}
use Rattle.celf_sugar.specs.PlainTree.{DesugaredObject, DesugaredType, family, function, both, top, monad, DesugaredTelescope, end, binding, of_family as written_family, of_constant as written_constant, DesugaredBody, declare, query, trace, equal, check}
use Rattle.celf_names.specs.Names.{family_named, family_only}
use Rattle.celf_places.specs.Combined.{combined}
use Rattle.celf_places.specs.Heads.{Local, all_written, argument_entries, argument_entry, arguments_of, family_head}
use Rattle.celf_places.specs.SimpleTypes.{local_of, simple_type}
use Rattle.celf_explicit.specs.Types.{at_indices, kind_of, read_indices, read_telescope, read_type}
use Rattle.celf_explicit.specs.Objects.{read_object}
use Rattle.celf_explicit.specs.Explicit.{both_objects, core_of_body, entry_of, equates_both, explicit, read_against, read_class}
use Rattle.celf_explicit.specs.Explicitness.{is_explicit}
use Rattle.celf_explicit.proofs.SimpleTypeOfCore.{simple_type_of_core}
use Rattle.celf_explicit.proofs.WhereExplicit.{core_where_explicit}
use Rattle.celf_elaboration.specs.Fillings.{Fillings, Scoped}
use Rattle.celf_elaboration.specs.Names.{ImplicitVariable}
use Rattle.celf_elaboration.specs.Readings.{type_local, implicit_indices, ReadsObject, ReadsFilled, filled_none, ReadsIndices, indices_none, indices_next, indices_beyond, ReadsType, reads_family, reads_function, reads_both, reads_top, reads_monad, ReadsTelescope, reads_end, reads_binding}
use Rattle.celf_elaboration.specs.Items.{ReadsBody, reads_family_declaration, reads_constant_declaration, reads_query, reads_trace, reads_equation, reads_check}
use Rattle.reconstruction_laws.specs.Laws.{ExplicitIsFilled, FilledIsExplicit, IsOneReading}
use Rattle.reconstruction_laws.proofs.ExplicitObjects.{OneObject, Seen, from_and_then, from_combined, from_map, none_both, nothing, one_object, same_some, written_all}

-- the family of a name has a kind
family_has_kind : (sig : PlainSignature) (name : List ℕ) (f : ℕ) → family_named sig name ≡ Some f → (k : PlainKind) × (family_kind sig f ≡ Some k)
family_has_kind sig name f e = let (k, i, j) = from_and_then (λ k. family_only k (class_at sig k)) (place_of name sig) f e in of_class k (class_at sig k) refl j
  where
    of_class : (k : ℕ) (c : Option PlainClass) → class_at sig k ≡ c → family_only k c ≡ Some f → (a : PlainKind) × (family_kind sig f ≡ Some a)
    of_class k None i j = absurd (nothing j)
    of_class k (Some (family_of a)) i j = (a, ap (λ v. option_and_then kind_in (class_at sig v)) (sym (same_some j)) ∙ ap (option_and_then kind_in) i)
    of_class k (Some (constant_of a)) i j = absurd (nothing j)

-- what is wanted of the indices of a family
abbrev wanted : List SimpleType → List (Mode × SimpleType)
wanted ts = map (λ t. (Persistent, t)) ts

all_wanted : (k : PlainKind) → map argument_entry k ≡ wanted (map erase k)
all_wanted [] = refl
all_wanted (a ∷ k) = ap (λ v. (Persistent, erase a) ∷ v) (all_wanted k)

seen_local : (sig : PlainSignature) (n : Option (List ℕ)) (w : DesugaredType) (c : PlainType) → simple_type sig w ≡ Some (erase c)
    → ((local_of sig n w).0 ≡ n) × ((x : List ℕ) → n ≡ Some x → (local_of sig n w).1 ≡ Some (erase c))
seen_local sig None w c e = (refl, λ x i. absurd (nothing i))
seen_local sig (Some n) w c e = (refl, λ x i. e)

module _ (sig : PlainSignature) (heads : ℕ → Head) (vs : List ImplicitVariable) where
  record OneIndices (ss : List Scoped) (ts : List SimpleType) (is : List DesugaredObject) (ns : List PlainObject) : Type 0 where
    reads : ReadsIndices sig heads vs ss ts is [] ns
    only : (fs : Fillings) (ms : List PlainObject) → ReadsIndices sig heads vs ss ts is fs ms → (fs ≡ []) × (ms ≡ ns)

  pub record OneType (ss : List Scoped) (w : DesugaredType) (a : PlainType) : Type 0 where
    pub reads : ReadsType sig heads vs ss w [] a
    pub only : (fs : Fillings) (b : PlainType) → ReadsType sig heads vs ss w fs b → (fs ≡ []) × (b ≡ a)

  pub record OneTelescope (ss : List Scoped) (w : DesugaredTelescope) (a : PlainTelescope) : Type 0 where
    pub reads : ReadsTelescope sig heads vs ss w [] a
    pub only : (fs : Fillings) (b : PlainTelescope) → ReadsTelescope sig heads vs ss w fs b → (fs ≡ []) × (b ≡ a)

  one_indices : (is : List DesugaredObject) (ls : List Local) (ss : List Scoped) (ts : List SimpleType) (ns : List PlainObject) → Seen ls ss → read_indices sig ls (wanted ts) is ≡ Some ns → OneIndices ss ts is ns
  one_indices [] ls ss ts ns seen e = subst (λ v. OneIndices ss ts [] v) (same_some e) (record { reads = indices_none; only = λ fs ms q. ended ts fs ms q })
    where
      ended : (ts : List SimpleType) (fs : Fillings) (ms : List PlainObject) → ReadsIndices sig heads vs ss ts [] fs ms → (fs ≡ []) × (ms ≡ [])
      ended ts fs ms indices_none = (refl, refl)
  one_indices (o ∷ os) ls ss [] ns seen e = let (n, ms, i, j, k) = from_combined (◌∷◌) (read_object sig ls None o) (read_indices sig ls [] os) ns e in
      let a = one_object sig heads vs o ls ss None n seen i in let b = one_indices os ls ss [] ms seen j in
      subst (λ v. OneIndices ss [] (o ∷ os) v) k (record { reads = indices_beyond a.reads b.reads refl; only = λ fs v q. parts n ms a b fs v q })
    where
      parts : (n : PlainObject) (ms : List PlainObject) → OneObject sig heads vs ss None o n → OneIndices ss [] os ms → (fs : Fillings) (v : List PlainObject) → ReadsIndices sig heads vs ss [] (o ∷ os) fs v → (fs ≡ []) × (v ≡ n ∷ ms)
      parts n ms a b fs v (indices_beyond {fs = f} {gs = g} {n = c} {ns = cs} q w i) = let (j, k) = a.only f c q in let (l, m) = b.only g cs w in (none_both f g fs j l i, ap (λ z. z ∷ cs) k ∙ ap (λ z. n ∷ z) m)
  one_indices (o ∷ os) ls ss (t ∷ ts) ns seen e = let (n, ms, i, j, k) = from_combined (◌∷◌) (read_object sig ls (Some t) o) (read_indices sig ls (wanted ts) os) ns e in
      let a = one_object sig heads vs o ls ss (Some t) n seen i in let b = one_indices os ls ss ts ms seen j in
      subst (λ v. OneIndices ss (t ∷ ts) (o ∷ os) v) k (record { reads = indices_next a.reads b.reads refl; only = λ fs v q. parts n ms a b fs v q })
    where
      parts : (n : PlainObject) (ms : List PlainObject) → OneObject sig heads vs ss (Some t) o n → OneIndices ss ts os ms → (fs : Fillings) (v : List PlainObject) → ReadsIndices sig heads vs ss (t ∷ ts) (o ∷ os) fs v → (fs ≡ []) × (v ≡ n ∷ ms)
      parts n ms a b fs v (indices_next {fs = f} {gs = g} {n = c} {ns = cs} q w i) = let (j, k) = a.only f c q in let (l, m) = b.only g cs w in (none_both f g fs j l i, ap (λ z. z ∷ cs) k ∙ ap (λ z. n ∷ z) m)

  none_filled : {ss : List Scoped} {ts us : List SimpleType} {fs : Fillings} {ns : List PlainObject} → ReadsFilled sig heads vs ss zero ts fs ns us → (fs ≡ []) × (ns ≡ []) × (us ≡ ts)
  none_filled filled_none = (refl, refl, refl)

  -- a family at its indices, all of them written
  one_family : (ss : List Scoped) (s : Span) (h : PName) (is : List DesugaredObject) (f : ℕ) (k : PlainKind) (os : List PlainObject) → family_named sig h.name ≡ Some f → family_kind sig f ≡ Some k
      → implicit_indices sig heads vs h f ≡ 0 → OneIndices ss (map erase k) is os → OneType ss (family s h is) (core_type.family f os)
  one_family ss s h is f k os i j n b = record {
    reads = reads_family i j (subst (λ v. ReadsFilled sig heads vs ss v (map erase k) [] [] (map erase k)) (sym n) filled_none) b.reads refl;
    only = other;
  }
    where
      other : (fs : Fillings) (b : PlainType) → ReadsType sig heads vs ss (family s h is) fs b → (fs ≡ []) × (b ≡ core_type.family f os)
      other fs c (reads_family {f = f'} {k = k'} {ts = ts} {fs = x} {gs = y} {ns = ns} {os = os'} i' j' p q r) =
          let ef = same_some (sym i' ∙ i) in let ek = same_some (sym j' ∙ ap (family_kind sig) ef ∙ j) in
          let p' = subst (λ v. ReadsFilled sig heads vs ss v (map erase k) x ns ts) n (subst (λ v. ReadsFilled sig heads vs ss (implicit_indices sig heads vs h v) (map erase k) x ns ts) ef
          (subst (λ v. ReadsFilled sig heads vs ss (implicit_indices sig heads vs h f') (map erase v) x ns ts) ek p)) in
          let (a1, a2, a3) = none_filled p' in let (b1, b2) = b.only y os' (subst (λ v. ReadsIndices sig heads vs ss v is y os') a3 q) in
          (none_both x y fs a1 b1 r, ap (λ v. core_type.family v (ns ++ os')) ef ∙ ap (λ v. core_type.family f (v ++ os')) a2 ∙ ap (core_type.family f) b2)

  mutual
    pub one_type : (w : DesugaredType) (ls : List Local) (ss : List Scoped) (a : PlainType) → Seen ls ss → read_type sig ls w ≡ Some a → OneType ss w a
    one_type (family s h is) ls ss a seen e = let (f, i, j) = from_and_then (at_indices sig ls is) (family_head sig h) a e in
        let (k, l, m) = from_and_then (all_written sig h.dollar) (family_named sig h.name) f i in let (ek, none) = written_all sig h.dollar k f m in
        let named = l ∙ ap (λ v. Some v) ek in let (kind, has) = family_has_kind sig h.name f named in
        let (os, p, q) = from_map (core_type.family f) (read_indices sig ls (arguments_of sig f) is) a j in
        subst (λ (v : PlainType). OneType ss (family s h is) v) q (one_family ss s h is f kind os named has (ap (λ v. implicit_indices sig heads vs h v) (sym ek) ∙ none)
        (one_indices is ls ss (map erase kind) os seen (ap (λ v. read_indices sig ls v is) (sym (ap argument_entries has ∙ all_wanted kind)) ∙ p)))
    one_type (function s m n v w) ls ss a seen e = let (x, y, i, j, k) = from_combined (core_type.function m) (read_type sig ls v) (read_type sig (local_of sig n v ∷ ls) w) a e in
        let (name, place) = seen_local sig n v x (simple_type_of_core sig ls v x i) in
        let b = one_type v ls ss x seen i in let c = one_type w (local_of sig n v ∷ ls) (type_local m n x ∷ ss) y (name, place, seen) j in
        subst (λ (z : PlainType). OneType ss (function s m n v w) z) k (record { reads = reads_function b.reads c.reads refl; only = λ fs z q. parts x y b c fs z q })
      where
        parts : (x y : PlainType) → OneType ss v x → OneType (type_local m n x ∷ ss) w y → (fs : Fillings) (z : PlainType) → ReadsType sig heads vs ss (function s m n v w) fs z → (fs ≡ []) × (z ≡ core_type.function m x y)
        parts x y b c fs z (reads_function {fs = f} {gs = g} {c = x'} {d = y'} q r i) = let (j, k) = b.only f x' q in
            let (l, o) = c.only g y' (subst (λ (u : PlainType). ReadsType sig heads vs (type_local m n u ∷ ss) w g y') k r) in
            (none_both f g fs j l i, ap (λ u. core_type.function m u y') k ∙ ap (core_type.function m x) o)
    one_type (both s v w) ls ss a seen e = let (x, y, i, j, k) = from_combined core_type.both (read_type sig ls v) (read_type sig ls w) a e in
        let b = one_type v ls ss x seen i in let c = one_type w ls ss y seen j in
        subst (λ (z : PlainType). OneType ss (both s v w) z) k (record { reads = reads_both b.reads c.reads refl; only = λ fs z q. parts x y b c fs z q })
      where
        parts : (x y : PlainType) → OneType ss v x → OneType ss w y → (fs : Fillings) (z : PlainType) → ReadsType sig heads vs ss (both s v w) fs z → (fs ≡ []) × (z ≡ core_type.both x y)
        parts x y b c fs z (reads_both {fs = f} {gs = g} {c = x'} {d = y'} q r i) = let (j, k) = b.only f x' q in let (l, o) = c.only g y' r in
            (none_both f g fs j l i, ap (λ u. core_type.both u y') k ∙ ap (core_type.both x) o)
    one_type (top s) ls ss a seen e = subst (λ (z : PlainType). OneType ss (top s) z) (same_some e) (record { reads = reads_top; only = λ fs z q. alone fs z q })
      where
        alone : (fs : Fillings) (z : PlainType) → ReadsType sig heads vs ss (top s) fs z → (fs ≡ []) × (z ≡ core_type.top)
        alone fs z reads_top = (refl, refl)
    one_type (monad s w) ls ss a seen e = let (x, i, j) = from_map core_type.monad (read_telescope sig ls w) a e in let b = one_telescope w ls ss x seen i in
        subst (λ (z : PlainType). OneType ss (monad s w) z) j (record { reads = reads_monad b.reads; only = λ fs z q. inner x b fs z q })
      where
        inner : (x : PlainTelescope) → OneTelescope ss w x → (fs : Fillings) (z : PlainType) → ReadsType sig heads vs ss (monad s w) fs z → (fs ≡ []) × (z ≡ core_type.monad x)
        inner x b fs z (reads_monad {u = u} q) = let (i, j) = b.only fs u q in (i, ap core_type.monad j)

    pub one_telescope : (w : DesugaredTelescope) (ls : List Local) (ss : List Scoped) (a : PlainTelescope) → Seen ls ss → read_telescope sig ls w ≡ Some a → OneTelescope ss w a
    one_telescope end ls ss a seen e = subst (λ (z : PlainTelescope). OneTelescope ss end z) (same_some e) (record { reads = reads_end; only = λ fs z q. alone fs z q })
      where
        alone : (fs : Fillings) (z : PlainTelescope) → ReadsTelescope sig heads vs ss end fs z → (fs ≡ []) × (z ≡ core_type.end)
        alone fs z reads_end = (refl, refl)
    one_telescope (binding m n v w) ls ss a seen e = let (x, y, i, j, k) = from_combined (core_type.binding m) (read_type sig ls v) (read_telescope sig (local_of sig n v ∷ ls) w) a e in
        let (name, place) = seen_local sig n v x (simple_type_of_core sig ls v x i) in
        let b = one_type v ls ss x seen i in let c = one_telescope w (local_of sig n v ∷ ls) (type_local m n x ∷ ss) y (name, place, seen) j in
        subst (λ (z : PlainTelescope). OneTelescope ss (binding m n v w) z) k (record { reads = reads_binding b.reads c.reads refl; only = λ fs z q. parts x y b c fs z q })
      where
        parts : (x : PlainType) (y : PlainTelescope) → OneType ss v x → OneTelescope (type_local m n x ∷ ss) w y → (fs : Fillings) (z : PlainTelescope) → ReadsTelescope sig heads vs ss (binding m n v w) fs z → (fs ≡ []) × (z ≡ core_type.binding m x y)
        parts x y b c fs z (reads_binding {fs = f} {gs = g} {c = x'} {u = y'} q r i) = let (j, k) = b.only f x' q in
            let (l, o) = c.only g y' (subst (λ (u : PlainType). ReadsTelescope sig heads vs (type_local m n u ∷ ss) w g y') k r) in
            (none_both f g fs j l i, ap (λ u. core_type.binding m u y') k ∙ ap (core_type.binding m x) o)

  -- an object of a directive, at the type that was read
  one_against : (w : DesugaredType) (o : DesugaredObject) (a : PlainType) (n : PlainObject) → read_type sig [] w ≡ Some a → read_against sig w o ≡ Some n → OneObject sig heads vs [] (Some (erase a)) o n
  one_against w o a n i e = one_object sig heads vs o [] [] (Some (erase a)) n tt (ap (λ v. read_object sig [] v o) (sym (simple_type_of_core sig [] w a i)) ∙ e)

  one_body : (body : DesugaredBody) (core : PlainCore) → core_of_body sig body ≡ Some core → IsOneReading sig heads vs body core
  one_body (declare name count (written_family t)) core e = let (c, i, j) = from_map (λ c. declares name (entry_of count c)) (read_class sig (written_family t)) core e in
      let (s, k, l) = from_map (λ s. family_of (kind_of s)) (read_telescope sig [] t) c i in let a = one_telescope t [] [] s tt k in
      subst (λ (v : PlainCore). IsOneReading sig heads vs (declare name count (written_family t)) v) (ap (λ v. declares name (entry_of count v)) l ∙ j)
      (record { reads = reads_family_declaration a.reads; only = λ fs d q. inner s a fs d q })
    where
      inner : (s : PlainTelescope) → OneTelescope [] t s → (fs : Fillings) (d : PlainCore) → ReadsBody sig heads vs (declare name count (written_family t)) fs d → (fs ≡ []) × (d ≡ declares name (entry_of count (family_of (kind_of s))))
      inner s a fs d (reads_family_declaration {s = u} q) = let (i, j) = a.only fs u q in (i, ap (λ v. declares name (entry_of count (family_of (kind_of v)))) j)
  one_body (declare name count (written_constant t)) core e = let (c, i, j) = from_map (λ c. declares name (entry_of count c)) (read_class sig (written_constant t)) core e in
      let (s, k, l) = from_map constant_of (read_type sig [] t) c i in let a = one_type t [] [] s tt k in
      subst (λ (v : PlainCore). IsOneReading sig heads vs (declare name count (written_constant t)) v) (ap (λ v. declares name (entry_of count v)) l ∙ j)
      (record { reads = reads_constant_declaration a.reads; only = λ fs d q. inner s a fs d q })
    where
      inner : (s : PlainType) → OneType [] t s → (fs : Fillings) (d : PlainCore) → ReadsBody sig heads vs (declare name count (written_constant t)) fs d → (fs ≡ []) × (d ≡ declares name (entry_of count (constant_of s)))
      inner s a fs d (reads_constant_declaration {a = u} q) = let (i, j) = a.only fs u q in (i, ap (λ v. declares name (entry_of count (constant_of v))) j)
  one_body (query d l o m t) core e = let (s, k, j) = from_map queries (read_type sig [] t) core e in let a = one_type t [] [] s tt k in
      subst (λ (v : PlainCore). IsOneReading sig heads vs (query d l o m t) v) j (record { reads = reads_query a.reads; only = λ fs d q. inner s a fs d q })
    where
      inner : (s : PlainType) → OneType [] t s → (fs : Fillings) (z : PlainCore) → ReadsBody sig heads vs (query d l o m t) fs z → (fs ≡ []) × (z ≡ queries s)
      inner s a fs z (reads_query {a = u} q) = let (i, j) = a.only fs u q in (i, ap queries j)
  one_body (trace n t) core e = let (s, k, j) = from_map traces (read_telescope sig [] t) core e in let a = one_telescope t [] [] s tt k in
      subst (λ (v : PlainCore). IsOneReading sig heads vs (trace n t) v) j (record { reads = reads_trace a.reads; only = λ fs d q. inner s a fs d q })
    where
      inner : (s : PlainTelescope) → OneTelescope [] t s → (fs : Fillings) (z : PlainCore) → ReadsBody sig heads vs (trace n t) fs z → (fs ≡ []) × (z ≡ traces s)
      inner s a fs z (reads_trace {s = u} q) = let (i, j) = a.only fs u q in (i, ap traces j)
  one_body (equal l r t) core e =
      let (p, s, i, j, k) = from_combined equates_both (combined both_objects (read_against sig t l) (read_against sig t r)) (read_type sig [] t) core e in
      let (x, y, i1, i2, i3) = from_combined both_objects (read_against sig t l) (read_against sig t r) p i in
      let a = one_type t [] [] s tt j in let b = one_against t l s x j i1 in let c = one_against t r s y j i2 in
      subst (λ (v : PlainCore). IsOneReading sig heads vs (equal l r t) v) (ap (λ v. equates_both v s) i3 ∙ k) (record { reads = reads_equation a.reads b.reads c.reads; only = λ fs d q. parts s x y a b c fs d q })
    where
      parts : (s : PlainType) (x y : PlainObject) → OneType [] t s → OneObject sig heads vs [] (Some (erase s)) l x → OneObject sig heads vs [] (Some (erase s)) r y → (fs : Fillings) (z : PlainCore)
          → ReadsBody sig heads vs (equal l r t) fs z → (fs ≡ []) × (z ≡ equates x y s)
      parts s x y a b c fs z (reads_equation {fs = f} {gs = g} {hs = h} {a = u} {n = n} {o = o} q v w) = let (i, j) = a.only f u q in
          let (k, m) = b.only g n (subst (λ (v : PlainType). ReadsObject sig heads vs [] (Some (erase v)) l g n) j v) in
          let (k', m') = c.only h o (subst (λ (v : PlainType). ReadsObject sig heads vs [] (Some (erase v)) r h o) j w) in
          (none_both (f ++ g) h ((f ++ g) ++ h) (none_both f g (f ++ g) i k refl) k' refl, ap (λ v. equates n o v) j ∙ ap (λ v. equates v o s) m ∙ ap (λ v. equates x v s) m')
  one_body (check o t) core e = let (x, s, i, j, k) = from_combined checks (read_against sig t o) (read_type sig [] t) core e in
      let a = one_type t [] [] s tt j in let b = one_against t o s x j i in
      subst (λ (v : PlainCore). IsOneReading sig heads vs (check o t) v) k (record { reads = reads_check a.reads b.reads; only = λ fs d q. parts s x a b fs d q })
    where
      parts : (s : PlainType) (x : PlainObject) → OneType [] t s → OneObject sig heads vs [] (Some (erase s)) o x → (fs : Fillings) (z : PlainCore) → ReadsBody sig heads vs (check o t) fs z → (fs ≡ []) × (z ≡ checks x s)
      parts s x a b fs z (reads_check {fs = f} {gs = g} {a = u} {n = n} q v) = let (i, j) = a.only f u q in
          let (k, m) = b.only g n (subst (λ (v : PlainType). ReadsObject sig heads vs [] (Some (erase v)) o g n) j v) in
          (none_both f g (f ++ g) i k refl, ap (λ v. checks n v) j ∙ ap (λ v. checks v s) m)

pub explicit_is_filled : ExplicitIsFilled
explicit_is_filled sig heads vs item core e = one_body sig heads vs item.body core e

pub filled_is_explicit : FilledIsExplicit
filled_is_explicit sig heads vs item fillings core known written reading = at (explicit sig item) refl
    (core_where_explicit sig item ∙ ap (λ o. is_none o && is_explicit sig item) known ∙ written)
  where
    at : (o : Option PlainCore) → explicit sig item ≡ o → is_some (explicit sig item) ≡ true → explicit sig item ≡ Some core
    at None i j = absurd (never (ap is_some (sym i) ∙ j))
      where
        never : false ≡ true → ⊥
        never e = cc
    at (Some c) i j = i ∙ ap (λ v. Some v) (sym ((one_body sig heads vs item.body c i).only fillings core reading).1)
