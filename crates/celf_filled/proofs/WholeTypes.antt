-- Where the walk over a type leaves a whole state, its tree is read with the new metavariables as fillings.
use Rattle.std.specs.Prelude.{ℕ, ◌≡◌, List, [], ◌∷◌, ◌++◌, map, Option, None, Some, option_map, refl}
use Rattle.std.proofs.Common.{ap, sym, ◌∙◌, append_assoc, append-nil, subst}
use Rattle.clf_syntax.specs.declared.tree.Mode.{Mode}
use Rattle.clf_syntax.specs.TypeTree as core
use Rattle.clf_syntax.specs.TypeTree.{SimpleType, base, arrow, simple_with, lax, simple_binding, PlainType, PlainTelescope, PlainKind}
use Rattle.clf_syntax.specs.Simple.{erase, erase_telescope}
use Rattle.clf_sig.specs.Entry.{family_of, constant_of, PlainSignature, family_kind, entry_at}
use Rattle.celf_sugar.specs.PlainTree.{DesugaredObject, DesugaredType, family, function, both, top, monad, DesugaredTelescope, end, binding}
use Rattle.celf_names.specs.Names.{family_named}
use Rattle.celf_places.specs.SimpleTypes.{simple_type, simple_telescope}
use Rattle.celf_elaboration.specs.Fillings.{Fillings, Scoped}
use Rattle.celf_elaboration.specs.Names.{ImplicitVariable}
use Rattle.celf_elaboration.specs.Declarations.{declared_heads}
use Rattle.clf_sig.specs.Core.{declares, queries, traces, equates, checks}
use Rattle.celf_surface.specs.declared.surface.Span.{Span}
use Rattle.celf_sugar.specs.declared.plain.PName.{PName}
use Rattle.celf_sugar.specs.PlainTree.{DesugaredBody, of_family, of_constant, declare, query, trace, equal, check}
use Rattle.celf_places.specs.Heads.{argument_entries, arguments_of}
use Rattle.celf_places.specs.Along.{left_along}
use Rattle.celf_explicit.specs.Types.{kind_of}
use Rattle.celf_explicit.specs.Explicit.{entry_of}
use Rattle.celf_elaboration.specs.Items.{ReadsBody, reads_family_declaration, reads_constant_declaration, reads_query, reads_trace, reads_equation, reads_check}
use Rattle.celf_filled.specs.Scopes.{with_known_type, implicit_after}
use Rattle.celf_filled.specs.States.{State}
use Rattle.celf_filled.specs.Whole.{IsRead}
use Rattle.celf_filled.specs.WalkTypes.{Indices, no_indices_yet, fill_first, written_index, fill_family, Bindings, no_bindings_yet, bound_local, with_binding, entry_with, fill_type, fill_telescope}
use Rattle.celf_filled.specs.WalkItems.{fill_against, fill_body}
use Rattle.celf_filled.proofs.WholeObjects.{read_alone, read_by, read_then}
use Rattle.celf_filled.proofs.WholeReadings.{object_read}
use Rattle.celf_filled.proofs.WholeIndices.{persistent, arguments_persistent, unpersistent, after_first, first_wanted, family_has_kind, FirstRead, WrittenRead, first_read, written_read}
use Rattle.celf_elaboration.specs.Readings.{ReadsObject, ReadsFilled, ReadsType, reads_family, reads_function, reads_both, reads_top, reads_monad, ReadsTelescope, reads_end, reads_binding}

-- What is left of a type that is read is the simple type of its tree.
module _ (sig : PlainSignature) (vs : List ImplicitVariable) where
  mutual
    pub simple_known : (ls : List Scoped) (t : DesugaredType) (fs : Fillings) (a : PlainType) → ReadsType sig (declared_heads sig) vs ls t fs a → simple_type sig t ≡ Some (erase a)
    simple_known ls t fs a (reads_family f k i n q) = ap (option_map base) f
    simple_known ls t fs a (reads_function x y q) = rw (simple_known _ _ _ _ x, simple_known _ _ _ _ y) refl
    simple_known ls t fs a (reads_both x y q) = rw (simple_known _ _ _ _ x, simple_known _ _ _ _ y) refl
    simple_known ls t fs a reads_top = refl
    simple_known ls t fs a (reads_monad x) = ap (option_map lax) (simple_telescope_known _ _ _ _ x)

    pub simple_telescope_known : (ls : List Scoped) (t : DesugaredTelescope) (fs : Fillings) (s : PlainTelescope) → ReadsTelescope sig (declared_heads sig) vs ls t fs s → simple_telescope sig t ≡ Some (erase_telescope s)
    simple_telescope_known ls t fs s reads_end = refl
    simple_telescope_known ls t fs s (reads_binding x y q) = rw (simple_known _ _ _ _ x, simple_telescope_known _ _ _ _ y) refl

  indices_joined : (ls : List Scoped) (p : Span) (h : PName) (is : List DesugaredObject) (f i : ℕ) (k : PlainKind) (fs gs : Fillings) (x y : Indices) (ps : List (Mode × SimpleType)) → i ≡ implicit_after h.dollar (entry_at sig f)
      → family_named sig h.name ≡ Some f → family_kind sig f ≡ Some k → x.wanted ≡ map persistent (after_first i (map erase k)) → FirstRead sig vs ls i (no_indices_yet ps) (map erase k) fs x
      → WrittenRead sig vs ls is x (after_first i (map erase k)) gs y → ReadsType sig (declared_heads sig) vs ls (family p h is) (fs ++ gs) (core.family f y.objects)
  indices_joined ls p h is f i k fs gs x y ps e named kind wanted (ns, us, a, g, c) (os, d, r) =
      let same : us ≡ after_first i (map erase k) = sym (unpersistent us) ∙ ap (map (λ (e : Mode × SimpleType). e.1)) (sym g ∙ wanted) ∙ unpersistent (after_first i (map erase k)) in
      let objects : y.objects ≡ ns ++ os = d ∙ ap (λ os'. os' ++ os) a in
      let filled : ReadsFilled sig (declared_heads sig) vs ls (implicit_after h.dollar (entry_at sig f)) (map erase k) fs ns (after_first i (map erase k)) =
      subst (λ j. ReadsFilled sig (declared_heads sig) vs ls j (map erase k) fs ns (after_first i (map erase k))) e (subst (λ ts. ReadsFilled sig (declared_heads sig) vs ls i (map erase k) fs ns ts) same c) in
      rw objects (reads_family named kind filled r refl)

  family_read : (ls : List Scoped) (p : Span) (h : PName) (is : List DesugaredObject) (s : State) (o : Option ℕ) → family_named sig h.name ≡ o
      → IsRead s (fill_family sig (map with_known_type vs) ls h.dollar is o s) (λ fs a. ReadsType sig (declared_heads sig) vs ls (family p h is) fs a)
  family_read ls p h is s None e = record { fillings = []; grows = record { new_ones = tt; constants_kept = refl; added = sym (append-nil s.added) }; reads = λ w. absurd (cc) }
  family_read ls p h is s (Some f) e =
      let k = (family_has_kind sig h.name f e).0 in
      let kind = (family_has_kind sig h.name f e).1 in
      let i = implicit_after h.dollar (entry_at sig f) in
      let ps = arguments_of sig f in
      let wanted : ps ≡ map persistent (map erase k) = ap argument_entries kind ∙ arguments_persistent k in
      let first = fill_first ls i (no_indices_yet ps, s) in
      let rest = left_along (written_index sig (map with_known_type vs) ls) first is in
      let left = first_wanted ls i (no_indices_yet ps) (map erase k) s wanted in
      read_then s first rest (core.family f rest.0.objects) (FirstRead sig vs ls i (no_indices_yet ps) (map erase k)) (WrittenRead sig vs ls is first.0 (after_first i (map erase k)))
      (λ fs a. ReadsType sig (declared_heads sig) vs ls (family p h is) fs a) (λ fs gs a b. indices_joined ls p h is f i k fs gs first.0 rest.0 ps refl e kind left a b)
      (first_read sig vs ls i (no_indices_yet ps) (map erase k) s wanted) (written_read sig vs ls is first.0 (after_first i (map erase k)) first.1 left)

  mutual
    pub type_read : (ls : List Scoped) (t : DesugaredType) (s : State) → IsRead s (fill_type sig (map with_known_type vs) ls t s) (λ fs a. ReadsType sig (declared_heads sig) vs ls t fs a)
    type_read ls (family p h is) s = family_read ls p h is s (family_named sig h.name) refl
    type_read ls (function p m n a b) s =
        let c = fill_type sig (map with_known_type vs) ls a s in
        let d = fill_type sig (map with_known_type vs) (bound_local m n (simple_type sig a) ∷ ls) b c.1 in
        read_then s c d (core.function m c.0 d.0) (λ fs x. ReadsType sig (declared_heads sig) vs ls a fs x) (λ gs x. ReadsType sig (declared_heads sig) vs (bound_local m n (simple_type sig a) ∷ ls) b gs x)
        (λ fs x. ReadsType sig (declared_heads sig) vs ls (function p m n a b) fs x)
        (λ fs gs x y. reads_function x (subst (λ t. ReadsType sig (declared_heads sig) vs (bound_local m n t ∷ ls) b gs d.0) (simple_known ls a fs c.0 x) y) refl)
        (type_read ls a s) (type_read (bound_local m n (simple_type sig a) ∷ ls) b c.1)
    type_read ls (both p a b) s =
        let c = fill_type sig (map with_known_type vs) ls a s in
        let d = fill_type sig (map with_known_type vs) ls b c.1 in
        read_then s c d (core.both c.0 d.0) (λ fs x. ReadsType sig (declared_heads sig) vs ls a fs x) (λ gs x. ReadsType sig (declared_heads sig) vs ls b gs x)
        (λ fs x. ReadsType sig (declared_heads sig) vs ls (both p a b) fs x) (λ fs gs x y. reads_both x y refl) (type_read ls a s) (type_read ls b c.1)
    type_read ls (top p) s = read_alone s core.top _ reads_top
    type_read ls (monad p t) s =
        let w = fill_telescope sig (map with_known_type vs) (no_bindings_yet ls, s) t in
        read_by s w (λ x. core.monad (core.telescope_of x.entries)) (λ fs x. (es : List (Mode × PlainType)) × (x.entries ≡ es) × ReadsTelescope sig (declared_heads sig) vs ls t fs (core.telescope_of es))
        (λ fs a. ReadsType sig (declared_heads sig) vs ls (monad p t) fs a) (λ fs a. rw (a.1) (reads_monad a.2)) (telescope_read (no_bindings_yet ls) s t)

    pub telescope_read : (w : Bindings) (s : State) (t : DesugaredTelescope) → IsRead s (fill_telescope sig (map with_known_type vs) (w, s) t)
        (λ fs x. (es : List (Mode × PlainType)) × (x.entries ≡ w.entries ++ es) × ReadsTelescope sig (declared_heads sig) vs w.locals t fs (core.telescope_of es))
    telescope_read w s end = read_alone s w _ ([], sym (append-nil w.entries), reads_end)
    telescope_read w s (binding m n a t) =
        let c = fill_type sig (map with_known_type vs) w.locals a s in
        let next = with_binding w (bound_local m n (simple_type sig a)) (entry_with m c) in
        let rest = fill_telescope sig (map with_known_type vs) next t in
        read_then s c rest rest.0 (λ fs x. ReadsType sig (declared_heads sig) vs w.locals a fs x)
        (λ gs x. (es : List (Mode × PlainType)) × (x.entries ≡ next.0.entries ++ es) × ReadsTelescope sig (declared_heads sig) vs next.0.locals t gs (core.telescope_of es))
        (λ fs x. (es : List (Mode × PlainType)) × (x.entries ≡ w.entries ++ es) × ReadsTelescope sig (declared_heads sig) vs w.locals (binding m n a t) fs (core.telescope_of es))
        (λ fs gs x y. (
          (m, c.0) ∷ y.0,
          y.1 ∙ append_assoc w.entries ((m, c.0) ∷ []) y.0,
          reads_binding x (subst (λ u. ReadsTelescope sig (declared_heads sig) vs (bound_local m n u ∷ w.locals) t gs (core.telescope_of y.0)) (simple_known w.locals a fs c.0 x) y.2) refl,
        ))
        (type_read w.locals a s) (telescope_read next.0 next.1 t)

  pub body_read : (body : DesugaredBody) (s : State) → IsRead s (fill_body sig (map with_known_type vs) body s) (λ fs c. ReadsBody sig (declared_heads sig) vs body fs c)
  body_read (declare name n (of_family t)) s =
      read_by s (fill_telescope sig (map with_known_type vs) (no_bindings_yet [], s) t) (λ x. declares name (entry_of n (family_of (kind_of (core.telescope_of x.entries)))))
      (λ fs x. (es : List (Mode × PlainType)) × (x.entries ≡ es) × ReadsTelescope sig (declared_heads sig) vs [] t fs (core.telescope_of es))
      (λ fs c. ReadsBody sig (declared_heads sig) vs (declare name n (of_family t)) fs c) (λ fs a. rw (a.1) (reads_family_declaration a.2)) (telescope_read (no_bindings_yet []) s t)
  body_read (declare name n (of_constant t)) s =
      read_by s (fill_type sig (map with_known_type vs) [] t s) (λ a. declares name (entry_of n (constant_of a))) (λ fs a. ReadsType sig (declared_heads sig) vs [] t fs a)
      (λ fs c. ReadsBody sig (declared_heads sig) vs (declare name n (of_constant t)) fs c) (λ fs a. reads_constant_declaration a) (type_read [] t s)
  body_read (query d e l m t) s =
      read_by s (fill_type sig (map with_known_type vs) [] t s) queries (λ fs a. ReadsType sig (declared_heads sig) vs [] t fs a)
      (λ fs c. ReadsBody sig (declared_heads sig) vs (query d e l m t) fs c) (λ fs a. reads_query a) (type_read [] t s)
  body_read (trace n t) s =
      read_by s (fill_telescope sig (map with_known_type vs) (no_bindings_yet [], s) t) (λ x. traces (core.telescope_of x.entries))
      (λ fs x. (es : List (Mode × PlainType)) × (x.entries ≡ es) × ReadsTelescope sig (declared_heads sig) vs [] t fs (core.telescope_of es))
      (λ fs c. ReadsBody sig (declared_heads sig) vs (trace n t) fs c) (λ fs a. rw (a.1) (reads_trace a.2)) (telescope_read (no_bindings_yet []) s t)
  body_read (equal l r t) s =
      let a = fill_type sig (map with_known_type vs) [] t s in
      let n = fill_against sig (map with_known_type vs) a.0 l a.1 in
      let o = fill_against sig (map with_known_type vs) a.0 r n.1 in
      read_then s n o (equates n.0 o.0 a.0)
      (λ fs x. (f g : Fillings) × (fs ≡ f ++ g) × ReadsType sig (declared_heads sig) vs [] t f a.0 × ReadsObject sig (declared_heads sig) vs [] (Some (erase a.0)) l g x)
      (λ gs x. ReadsObject sig (declared_heads sig) vs [] (Some (erase a.0)) r gs x) (λ fs c. ReadsBody sig (declared_heads sig) vs (equal l r t) fs c) (λ fs gs x y. rw (x.2) (reads_equation x.3 x.4 y))
      (read_then s a n n.0 (λ fs x. ReadsType sig (declared_heads sig) vs [] t fs x) (λ gs x. ReadsObject sig (declared_heads sig) vs [] (Some (erase a.0)) l gs x)
      (λ fs x. (f g : Fillings) × (fs ≡ f ++ g) × ReadsType sig (declared_heads sig) vs [] t f a.0 × ReadsObject sig (declared_heads sig) vs [] (Some (erase a.0)) l g x)
      (λ fs gs x y. (fs, gs, refl, x, y)) (type_read [] t s) (object_read sig vs [] (Some (erase a.0)) l a.1))
      (object_read sig vs [] (Some (erase a.0)) r n.1)
  body_read (check o t) s =
      let a = fill_type sig (map with_known_type vs) [] t s in
      let n = fill_against sig (map with_known_type vs) a.0 o a.1 in
      read_then s a n (checks n.0 a.0) (λ fs x. ReadsType sig (declared_heads sig) vs [] t fs x) (λ gs x. ReadsObject sig (declared_heads sig) vs [] (Some (erase a.0)) o gs x)
      (λ fs c. ReadsBody sig (declared_heads sig) vs (check o t) fs c) (λ fs gs x y. reads_check x y) (type_read [] t s) (object_read sig vs [] (Some (erase a.0)) o a.1)
