-- Strengthening: what is typed after a renumbering that can be undone was typed before it.
use Rattle.std.specs.Prelude.{ℕ, zero, suc, ◌+◌, ◌≡◌, ◌≤◌, ◌&&◌, ◌||◌, not, Bool, true, false, List, [], ◌∷◌, length, None, Some, refl}
use Rattle.std.proofs.Common.{ap, sym, subst, ◌∙◌, arith, add-one}
use Rattle.clf_syntax.specs.declared.tree.Mode.{Mode}
use Rattle.clf_syntax.specs.declared.tree.Mode.TheVariants.{Persistent, Affine, Linear}
use Rattle.clf_syntax.specs.declared.tree.Head.{Head}
use Rattle.clf_syntax.specs.declared.tree.Head.TheVariants.{Const, Var, Meta}
use Rattle.clf_syntax.specs.Tree.{PlainObject, lam, pair, unit, monadic, atomic, hole, PlainNeutral, head_alone, app, fst, snd, PlainExpression, step, done, PlainTuple, empty, entry}
use Rattle.clf_syntax.specs.TypeTree.{PlainType, family, function, both, top, monad, PlainTelescope, end, binding}
use Rattle.clf_syntax.specs.Renaming.{Renumbering, lifted, ren, ren_head, ren_neutral, ren_expression, ren_tuple, ren_objects, ren_type, ren_telescope, up, down, raise}
use Rattle.clf_syntax.proofs.RenamingLaws.{ext, lift_up, lift_comp, lift_id, composed, identity, down_up}
use Rattle.clf_syntax.proofs.TypeRenaming.{composed_objects, composed_type, composed_telescope, identity_objects, identity_type, identity_telescope}
use Rattle.use_contexts.specs.Context.{Context, modes, HasVariable, telescope_modes, with_entries}
use Rattle.use_contexts.specs.Holding.{Holding, SplitEntry, Split, is_linear, is_persistent, is_weak, is_unrestricted, may_use, Uses, all_held}
use Rattle.hered_subst.proofs.SimpleTyping.{lift_zero, lift_next, lift_under}
use Rattle.hered_subst.proofs.Renamed.{fits_single}
use Rattle.hered_subst.proofs.Types.{commutes, is_determined}
use Rattle.hered_subst.specs.Substitution.{single, SubstitutedType, SubstitutedTelescope}
use Rattle.trace_equal.specs.Exchange.{JoinedEach}
use Rattle.clf_sig.specs.Entry.{PlainSignature, constant_type}
use Rattle.clf_rules.specs.Typing.{HasType, Synthesizes, ExpressionHasType, TupleHasType}
use Rattle.clf_rules.specs.WellFormed.{WellFormedSignature}
use Rattle.typing_laws.specs.Contexts.{with_mark, with_entry, AreBroughtBack}
use Rattle.typing_laws.proofs.Carried.{past, past_all, past_held, same_modes, square_type, square_telescope, raised, joined_each, and_left, and_right, and_both}
use Rattle.typing_laws.proofs.ContextLaws.{constants_closed, raise_all, raise_next, same_past}

-- What the renumbering r and its inverse l do: the variables of k that r gives are those of g, and so with holdings.
pub record Returns (r l : Renumbering) (g k : Context) (T : Holding → Holding) : Type 0 where
  pub back : (i : ℕ) → l (r i) ≡ i
  pub variable : (i : ℕ) (t : PlainType) → HasVariable k (r i) t → (a : PlainType) × (t ≡ ren_type r a) × HasVariable g i a
  pub split : (h p q : Holding) → Split (modes k) (T h) p q → (a b : Holding) × (p ≡ T a) × (q ≡ T b) × Split (modes g) h a b
  pub weak : (h : Holding) → is_weak (modes k) (T h) ≡ true → is_weak (modes g) h ≡ true
  pub unrestricted : (h : Holding) → is_unrestricted (modes k) (T h) ≡ true → is_unrestricted (modes g) h ≡ true
  pub uses : (h : Holding) (i : ℕ) → Uses (modes k) (T h) (r i) → Uses (modes g) h i

-- ---- under binders
the_entry : {x y : Mode × PlainType} → Some x ≡ Some y → x.1 ≡ y.1
the_entry e = cc

no_mark : None ≡ Some true → ⊥
no_mark e = cc

module _ (m : Mode) (a : PlainType) (r l : Renumbering) (g k : Context) (T : Holding → Holding) (c : Returns r l g k T) where
  back_under : (i : ℕ) → lifted 1 l (lifted 1 r i) ≡ i
  back_under i = ap (λ (q : Renumbering). q i) (lift_comp 1 l r ∙ ap (lifted 1) (ext c.back) ∙ lift_id 1)

  variable_under : (i : ℕ) (t : PlainType) → HasVariable ((m, ren_type r a) ∷ k) (lifted 1 r i) t → (b : PlainType) × (t ≡ ren_type (lifted 1 r) b) × HasVariable ((m, a) ∷ g) i b
  variable_under zero t p = let (n, b, e, f) = p in
      (ren_type (up 1) a, f ∙ ap (ren_type (up 1)) (sym (the_entry e)) ∙ sym (square_type (lifted 1 r) (up 1) (up 1) r (lift_up 1 r) a), (m, a, refl, refl))
  variable_under (suc i) t p =
      let (n, b, e, f) = subst (λ j. HasVariable ((m, ren_type r a) ∷ k) j t) (lift_next r i) p in
      let (d, u, v) = c.variable i (ren_type (up (r i + 1)) b) (n, b, e, refl) in let (o, x, y, z) = v in
      (ren_type (up 1) d, f ∙ sym (raised (r i) b) ∙ ap (ren_type (up 1)) u ∙ sym (square_type (lifted 1 r) (up 1) (up 1) r (lift_up 1 r) d), (o, x, y, ap (ren_type (up 1)) z ∙ raised i x))

  split_under : (h p q : Holding) → Split (m ∷ modes k) (past T h) p q → (u v : Holding) × (p ≡ past T u) × (q ≡ past T v) × Split (m ∷ modes g) h u v
  split_under (x ∷ h) (y ∷ p) (z ∷ q) s = let (u, v, e, f, w) = c.split h p q s.1 in (y ∷ u, z ∷ v, ap (λ j. y ∷ j) e, ap (λ j. z ∷ j) f, (s.0, w))
  split_under [] p q s = absurd s
  split_under (x ∷ h) [] q s = absurd s
  split_under (x ∷ h) (y ∷ p) [] s = absurd s

  weak_under : (h : Holding) → is_weak (m ∷ modes k) (past T h) ≡ true → is_weak (m ∷ modes g) h ≡ true
  weak_under [] e = refl
  weak_under (x ∷ h) e = and_both (not (is_linear m && x)) _ (and_left (not (is_linear m && x)) _ e) (c.weak h (and_right (not (is_linear m && x)) _ e))

  unrestricted_under : (h : Holding) → is_unrestricted (m ∷ modes k) (past T h) ≡ true → is_unrestricted (m ∷ modes g) h ≡ true
  unrestricted_under [] e = refl
  unrestricted_under (x ∷ h) e = and_both (not (not (is_persistent m) && x)) _ (and_left (not (not (is_persistent m) && x)) _ e) (c.unrestricted h (and_right (not (not (is_persistent m) && x)) _ e))

  uses_under : (h : Holding) (i : ℕ) → Uses (m ∷ modes k) (past T h) (lifted 1 r i) → Uses (m ∷ modes g) h i
  uses_under [] i p = absurd (no_mark p.0)
  uses_under (x ∷ h) zero p = (p.0, and_both (not (is_linear m && false)) _ (and_left (not (is_linear m && false)) _ p.1) (c.weak h (and_right (not (is_linear m && false)) _ p.1)))
  uses_under (x ∷ h) (suc i) p =
      let q = subst (λ j. Uses (m ∷ modes k) (x ∷ T h) j) (lift_next r i) p in
      let (u, v) = c.uses h i (q.0, and_right (not (is_linear m && x)) _ q.1) in (u, and_both (not (is_linear m && x)) _ (and_left (not (is_linear m && x)) _ q.1) v)

  pub returns_under : Returns (lifted 1 r) (lifted 1 l) ((m, a) ∷ g) ((m, ren_type r a) ∷ k) (past T)
  returns_under = record { back = back_under; variable = variable_under; split = split_under; weak = weak_under; unrestricted = unrestricted_under; uses = uses_under }

returns_all : (u : PlainTelescope) (r l : Renumbering) (g k : Context) (T : Holding → Holding) → Returns r l g k T
    → Returns (lifted (length (telescope_modes u)) r) (lifted (length (telescope_modes u)) l) (with_entries u g) (with_entries (ren_telescope r u) k) (past_all (telescope_modes u) T)
returns_all end r l g k T c = subst (λ q. Returns q (lifted 0 l) g k T) (sym (lift_zero r)) (subst (λ q. Returns r q g k T) (sym (lift_zero l)) c)
returns_all (binding m a s) r l g k T c =
    subst (λ q. Returns q (lifted (suc (length (telescope_modes s))) l) (with_entries s ((m, a) ∷ g)) (with_entries (ren_telescope (lifted 1 r) s) ((m, ren_type r a) ∷ k)) (past_all (telescope_modes s) (past T)))
    (lift_under (length (telescope_modes s)) r)
    (subst (λ q. Returns (lifted (length (telescope_modes s)) (lifted 1 r)) q (with_entries s ((m, a) ∷ g)) (with_entries (ren_telescope (lifted 1 r) s) ((m, ren_type r a) ∷ k)) (past_all (telescope_modes s) (past T)))
    (lift_under (length (telescope_modes s)) l) (returns_all s (lifted 1 r) (lifted 1 l) ((m, a) ∷ g) ((m, ren_type r a) ∷ k) (past T) (returns_under m a r l g k T c)))

returns_entries : (u : PlainTelescope) (ms : List Mode) (r l : Renumbering) (g k : Context) (T : Holding → Holding) → telescope_modes u ≡ ms → Returns r l g k T
    → Returns (lifted (length ms) r) (lifted (length ms) l) (with_entries u g) (with_entries (ren_telescope r u) k) (past_all ms T)
returns_entries u ms r l g k T e c = subst (λ ns. Returns (lifted (length ns) r) (lifted (length ns) l) (with_entries u g) (with_entries (ren_telescope r u) k) (past_all ns T)) e (returns_all u r l g k T c)

-- ---- what a renumbered type comes from
back_function : (r : Renumbering) (t : PlainType) (m : Mode) (d c : PlainType) → ren_type r t ≡ function m d c → (a b : PlainType) × (t ≡ function m a b) × (d ≡ ren_type r a) × (c ≡ ren_type (lifted 1 r) b)
back_function r (function n a b) m d c e = let f : n ≡ m = cc in (a, b, ap (λ k. function k a b) f, cc, cc)
back_function r (family f ns) m d c e = absurd (cc)
back_function r (both a b) m d c e = absurd (cc)
back_function r top m d c e = absurd (cc)
back_function r (monad s) m d c e = absurd (cc)

back_both : (r : Renumbering) (t d c : PlainType) → ren_type r t ≡ both d c → (a b : PlainType) × (t ≡ both a b) × (d ≡ ren_type r a) × (c ≡ ren_type r b)
back_both r (both a b) d c e = (a, b, refl, cc, cc)
back_both r (family f ns) d c e = absurd (cc)
back_both r (function m a b) d c e = absurd (cc)
back_both r top d c e = absurd (cc)
back_both r (monad s) d c e = absurd (cc)

back_monad : (r : Renumbering) (t : PlainType) (s : PlainTelescope) → ren_type r t ≡ monad s → (u : PlainTelescope) × (t ≡ monad u) × (s ≡ ren_telescope r u)
back_monad r (monad u) s e = (u, refl, cc)
back_monad r (family f ns) s e = absurd (cc)
back_monad r (function m a b) s e = absurd (cc)
back_monad r (both a b) s e = absurd (cc)
back_monad r top s e = absurd (cc)

back_family : (r : Renumbering) (t : PlainType) (f : ℕ) (ns : List PlainObject) → ren_type r t ≡ family f ns → (os : List PlainObject) × (t ≡ family f os) × (ns ≡ ren_objects r os)
back_family r (family g os) f ns e = let h : g ≡ f = cc in (os, ap (λ k. family k os) h, cc)
back_family r (function m a b) f ns e = absurd (cc)
back_family r (both a b) f ns e = absurd (cc)
back_family r top f ns e = absurd (cc)
back_family r (monad s) f ns e = absurd (cc)

back_top : (r : Renumbering) (t : PlainType) → ren_type r t ≡ top → t ≡ top
back_top r top e = refl
back_top r (family f ns) e = absurd (cc)
back_top r (function m a b) e = absurd (cc)
back_top r (both a b) e = absurd (cc)
back_top r (monad s) e = absurd (cc)

back_end : (r : Renumbering) (s : PlainTelescope) → ren_telescope r s ≡ end → s ≡ end
back_end r end e = refl
back_end r (binding m a s) e = absurd (cc)

back_binding : (r : Renumbering) (s : PlainTelescope) (m : Mode) (d : PlainType) (u : PlainTelescope) → ren_telescope r s ≡ binding m d u → (a : PlainType) × (v : PlainTelescope) × (s ≡ binding m a v) × (d ≡ ren_type r a) × (u ≡ ren_telescope (lifted 1 r) v)
back_binding r (binding n a v) m d u e = let f : n ≡ m = cc in (a, v, ap (λ k. binding k a v) f, cc, cc)
back_binding r end m d u e = absurd (cc)

-- ---- a renumbering undone
undone_object : (r l : Renumbering) → ((i : ℕ) → l (r i) ≡ i) → (n : PlainObject) → ren l (ren r n) ≡ n
undone_object r l f n = composed l r n ∙ ap (λ q. ren q n) (ext f) ∙ identity n

undone_objects : (r l : Renumbering) → ((i : ℕ) → l (r i) ≡ i) → (ns : List PlainObject) → ren_objects l (ren_objects r ns) ≡ ns
undone_objects r l f ns = composed_objects l r ns ∙ ap (λ q. ren_objects q ns) (ext f) ∙ identity_objects ns

undone_type : (r l : Renumbering) → ((i : ℕ) → l (r i) ≡ i) → (a : PlainType) → ren_type l (ren_type r a) ≡ a
undone_type r l f a = composed_type l r a ∙ ap (λ q. ren_type q a) (ext f) ∙ identity_type a

undone_telescope : (r l : Renumbering) → ((i : ℕ) → l (r i) ≡ i) → (a : PlainTelescope) → ren_telescope l (ren_telescope r a) ≡ a
undone_telescope r l f a = composed_telescope l r a ∙ ap (λ q. ren_telescope q a) (ext f) ∙ identity_telescope a

-- What a substitution into a renumbered type gives is renumbered.
put_back : (r l : Renumbering) → ((i : ℕ) → l (r i) ≡ i) → ((i : ℕ) → lifted 1 l (lifted 1 r i) ≡ i) → (n : PlainObject) (c t : PlainType) → SubstitutedType (single (ren r n) 0) (ren_type (lifted 1 r) c) t
    → SubstitutedType (single n 0) c (ren_type l t) × (t ≡ ren_type r (ren_type l t))
put_back r l f g n c t p =
    let q = subst (λ o. SubstitutedType (single o 0) (ren_type (lifted 1 l) (ren_type (lifted 1 r) c)) (ren_type l t)) (undone_object r l f n)
    ((commutes (lifted 1 l) l (single (ren r n) 0) (single (ren l (ren r n)) 0) (fits_single l (ren r n))).2 (ren_type (lifted 1 r) c) t p) in
    let s = subst (λ a. SubstitutedType (single n 0) a (ren_type l t)) (undone_type (lifted 1 r) (lifted 1 l) g c) q in
    (s, (is_determined (single (ren r n) 0)).4 (ren_type (lifted 1 r) c) t (ren_type r (ren_type l t)) p ((commutes (lifted 1 r) r (single n 0) (single (ren r n) 0) (fits_single r n)).2 c (ren_type l t) s))

put_telescope_back : (r l : Renumbering) → ((i : ℕ) → l (r i) ≡ i) → ((i : ℕ) → lifted 1 l (lifted 1 r i) ≡ i) → (n : PlainObject) (c t : PlainTelescope) → SubstitutedTelescope (single (ren r n) 0) (ren_telescope (lifted 1 r) c) t
    → SubstitutedTelescope (single n 0) c (ren_telescope l t) × (t ≡ ren_telescope r (ren_telescope l t))
put_telescope_back r l f g n c t p =
    let q = subst (λ o. SubstitutedTelescope (single o 0) (ren_telescope (lifted 1 l) (ren_telescope (lifted 1 r) c)) (ren_telescope l t)) (undone_object r l f n)
    ((commutes (lifted 1 l) l (single (ren r n) 0) (single (ren l (ren r n)) 0) (fits_single l (ren r n))).3 (ren_telescope (lifted 1 r) c) t p) in
    let s = subst (λ a. SubstitutedTelescope (single n 0) a (ren_telescope l t)) (undone_telescope (lifted 1 r) (lifted 1 l) g c) q in
    (s, (is_determined (single (ren r n) 0)).5 (ren_telescope (lifted 1 r) c) t (ren_telescope r (ren_telescope l t)) p ((commutes (lifted 1 r) r (single n 0) (single (ren r n) 0) (fits_single r n)).3 c (ren_telescope l t) s))

under_back : (r l : Renumbering) → ((i : ℕ) → l (r i) ≡ i) → (i : ℕ) → lifted 1 l (lifted 1 r i) ≡ i
under_back r l f i = ap (λ (q : Renumbering). q i) (lift_comp 1 l r ∙ ap (lifted 1) (ext f) ∙ lift_id 1)

-- ---- typed trees
module _ (sig : PlainSignature) (closed : (r : Renumbering) (c : ℕ) (a : PlainType) → constant_type sig c ≡ Some a → ren_type r a ≡ a) where
  return_head : (r l : Renumbering) (g k : Context) (T : Holding → Holding) → Returns r l g k T → (h : Holding) (x : Head) (t : PlainType) → Synthesizes sig k (T h) (head_alone (ren_head r x)) t → (a : PlainType) × (t ≡ ren_type r a) × Synthesizes sig g h (head_alone x) a
  return_head r l g k T c h (Const x) t p = (t, sym (closed r x t p.0), (p.0, c.weak h p.1))
  return_head r l g k T c h (Var i) t p = let (a, e, v) = c.variable i t p.1 in (a, e, (c.uses h i p.0, v))
  return_head r l g k T c h (Meta x) t p = absurd p

  usable : (m : Mode) (r l : Renumbering) (g k : Context) (T : Holding → Holding) → Returns r l g k T → (h : Holding) → may_use m (modes k) (T h) ≡ true → may_use m (modes g) h ≡ true
  usable Persistent r l g k T c h e = c.unrestricted h e
  usable Affine r l g k T c h e = c.weak h e
  usable Linear r l g k T c h e = refl

  mutual
    return_object : (r l : Renumbering) (g k : Context) (T : Holding → Holding) → Returns r l g k T → (h : Holding) (n : PlainObject) (t : PlainType) → HasType sig k (T h) (ren r n) (ren_type r t) → HasType sig g h n t
    return_object r l g k T c h (lam m b) t p = let (a, d, e, f, j) = back_function r t m p.domain p.range p.type in record {
      domain = a;
      range = d;
      type = e;
      body = return_object (lifted 1 r) (lifted 1 l) ((m, a) ∷ g) ((m, ren_type r a) ∷ k) (past T) (returns_under m a r l g k T c) (true ∷ h) b d
          (subst (λ x. HasType sig ((m, x) ∷ k) (true ∷ T h) (ren (lifted 1 r) b) (ren_type (lifted 1 r) d)) f (subst (λ y. HasType sig ((m, p.domain) ∷ k) (true ∷ T h) (ren (lifted 1 r) b) y) j p.body));
    }
    return_object r l g k T c h (pair x y) t p = let (a, b, e, f, j) = back_both r t p.left_type p.right_type p.type in record {
      left_type = a;
      right_type = b;
      type = e;
      left = return_object r l g k T c h x a (subst (λ z. HasType sig k (T h) (ren r x) z) f p.left);
      right = return_object r l g k T c h y b (subst (λ z. HasType sig k (T h) (ren r y) z) j p.right);
    }
    return_object r l g k T c h unit t p = back_top r t p
    return_object r l g k T c h (monadic x) t p = let (u, e, f) = back_monad r t p.0 p.1 in (u, e, return_expression r l g k T c h x u (subst (λ s. ExpressionHasType sig k (T h) (ren_expression r x) s) f p.2))
    return_object r l g k T c h (atomic n) t p =
        let (ms, e, f) = back_family r t p.number p.wanted p.type in
        let (a, j, q) = return_neutral r l g k T c h n (family p.number p.found) p.neutral in let (fs, u, v) = back_family r a p.number p.found (sym j) in record {
          number = p.number;
          wanted = ms;
          found = fs;
          type = e;
          neutral = subst (λ b. Synthesizes sig g h n b) u q;
          indices = subst (λ x. JoinedEach x ms) (undone_objects r l c.back fs) (subst (λ y. JoinedEach (ren_objects l (ren_objects r fs)) y) (undone_objects r l c.back ms)
              (joined_each l (ren_objects r fs) (ren_objects r ms) (subst (λ x. JoinedEach x (ren_objects r ms)) v (subst (λ y. JoinedEach p.found y) f p.indices))));
        }
    return_object r l g k T c h hole t p = p

    return_neutral : (r l : Renumbering) (g k : Context) (T : Holding → Holding) → Returns r l g k T → (h : Holding) (n : PlainNeutral) (t : PlainType) → Synthesizes sig k (T h) (ren_neutral r n) t → (a : PlainType) × (t ≡ ren_type r a) × Synthesizes sig g h n a
    return_neutral r l g k T c h (head_alone x) t p = return_head r l g k T c h x t p
    return_neutral r l g k T c h (app m x n) t p =
        let (a, b, ea, eb, s) = c.split h p.for_function p.for_argument p.split in
        let (w, e, q) = return_neutral r l g k T c a x (function m p.domain p.range) (subst (λ j. Synthesizes sig k j (ren_neutral r x) (function m p.domain p.range)) ea p.applied) in
        let (d, v, f, u, z) = back_function r w m p.domain p.range (sym e) in
        let (y, o) = put_back r l c.back (under_back r l c.back) n v t (subst (λ j. SubstitutedType (single (ren r n) 0) j t) z p.type) in (
          ren_type l t,
          o,
          record {
            domain = d;
            range = v;
            for_function = a;
            for_argument = b;
            split = s;
            applied = subst (λ j. Synthesizes sig g a x j) f q;
            usable = usable m r l g k T c b (subst (λ j. may_use m (modes k) j ≡ true) eb p.usable);
            argument = return_object r l g k T c b n d (subst (λ j. HasType sig k (T b) (ren r n) j) u (subst (λ j. HasType sig k j (ren r n) p.domain) eb p.argument));
            type = y;
          },
        )
    return_neutral r l g k T c h (fst x) t p = let (a, e, q) = return_neutral r l g k T c h x (both t p.0) p.1 in let (b, d, f, u, v) = back_both r a t p.0 (sym e) in (b, u, (d, subst (λ j. Synthesizes sig g h x j) f q))
    return_neutral r l g k T c h (snd x) t p = let (a, e, q) = return_neutral r l g k T c h x (both p.0 t) p.1 in let (b, d, f, u, v) = back_both r a p.0 t (sym e) in (d, v, (b, subst (λ j. Synthesizes sig g h x j) f q))

    return_expression : (r l : Renumbering) (g k : Context) (T : Holding → Holding) → Returns r l g k T → (h : Holding) (x : PlainExpression) (s : PlainTelescope) → ExpressionHasType sig k (T h) (ren_expression r x) (ren_telescope r s) → ExpressionHasType sig g h x s
    return_expression r l g k T c h (step ms y x) s p =
        let (a, b, ea, eb, w) = c.split h p.for_right p.for_rest p.split in
        let (o, e, q) = return_neutral r l g k T c a y (monad p.entries) (subst (λ j. Synthesizes sig k j (ren_neutral r y) (monad p.entries)) ea p.right) in
        let (u, f, v) = back_monad r o p.entries (sym e) in
        let pattern : telescope_modes u ≡ ms = sym (same_modes r u) ∙ ap telescope_modes (sym v) ∙ p.pattern in record {
          entries = u;
          for_right = a;
          for_rest = b;
          split = w;
          right = subst (λ j. Synthesizes sig g a y j) f q;
          pattern = pattern;
          rest = return_expression (lifted (length ms) r) (lifted (length ms) l) (with_entries u g) (with_entries (ren_telescope r u) k) (past_all ms T) (returns_entries u ms r l g k T pattern c) (all_held ms b) x (ren_telescope (up (length ms)) s)
              (subst (λ j. ExpressionHasType sig (with_entries (ren_telescope r u) k) j (ren_expression (lifted (length ms) r) x) (ren_telescope (lifted (length ms) r) (ren_telescope (up (length ms)) s))) (sym (past_held ms T b))
              (subst (λ j. ExpressionHasType sig (with_entries (ren_telescope r u) k) (all_held ms (T b)) (ren_expression (lifted (length ms) r) x) j)
              (sym (square_telescope (lifted (length ms) r) (up (length ms)) (up (length ms)) r (lift_up (length ms) r) s))
              (subst (λ j. ExpressionHasType sig (with_entries (ren_telescope r u) k) (all_held ms j) (ren_expression (lifted (length ms) r) x) (ren_telescope (up (length ms)) (ren_telescope r s))) eb
              (subst (λ j. ExpressionHasType sig (with_entries j k) (all_held ms p.for_rest) (ren_expression (lifted (length ms) r) x) (ren_telescope (up (length ms)) (ren_telescope r s))) v p.rest))));
        }
    return_expression r l g k T c h (done t) s p = return_tuple r l g k T c h t s p

    return_tuple : (r l : Renumbering) (g k : Context) (T : Holding → Holding) → Returns r l g k T → (h : Holding) (t : PlainTuple) (s : PlainTelescope) → TupleHasType sig k (T h) (ren_tuple r t) (ren_telescope r s) → TupleHasType sig g h t s
    return_tuple r l g k T c h empty s p = (back_end r s p.0, c.weak h p.1)
    return_tuple r l g k T c h (entry m n t) s p =
        let (a, b, ea, eb, w) = c.split h p.for_first p.for_later p.split in
        let (d, v, e, f, z) = back_binding r s m p.first_type p.later_types p.type in
        let (y, o) = put_telescope_back r l c.back (under_back r l c.back) n v p.after_put (subst (λ j. SubstitutedTelescope (single (ren r n) 0) j p.after_put) z p.put) in record {
          first_type = d;
          later_types = v;
          after_put = ren_telescope l p.after_put;
          for_first = a;
          for_later = b;
          type = e;
          split = w;
          usable = usable m r l g k T c a (subst (λ j. may_use m (modes k) j ≡ true) ea p.usable);
          first = return_object r l g k T c a n d (subst (λ j. HasType sig k (T a) (ren r n) j) f (subst (λ j. HasType sig k j (ren r n) p.first_type) ea p.first));
          put = y;
          later = return_tuple r l g k T c b t (ren_telescope l p.after_put) (subst (λ j. TupleHasType sig k (T b) (ren_tuple r t) j) o (subst (λ j. TupleHasType sig k j (ren_tuple r t) p.after_put) eb p.later));
        }

-- ---- an entry that nothing mentions
neither : (u v : Bool) → false ≡ u || v → (u ≡ false) × (v ≡ false)
neither false v e = (refl, sym e)
neither true v e = absurd (cc)

kept_apart : (m : Mode) (u v : Bool) → SplitEntry m (is_persistent m) u v → (u ≡ is_persistent m) × (v ≡ is_persistent m)
kept_apart Persistent u v s = (s.1, s.2)
kept_apart Affine u v s = neither u v s.0
kept_apart Linear u v s = neither u v s.0

narrowest : (m : Mode) (b : PlainType) (g : Context) → Returns (up 1) (down 1) g ((m, b) ∷ g) (λ h. is_persistent m ∷ h)
narrowest m b g = record {
  back = down_up 1;
  variable = λ i t p. of_variable i t (subst (λ j. HasVariable ((m, b) ∷ g) j t) (add-one i) p);
  split = of_split;
  weak = λ h e. and_right (not (is_linear m && is_persistent m)) _ e;
  unrestricted = λ h e. and_right (not (not (is_persistent m) && is_persistent m)) _ e;
  uses = λ h i p. of_uses h i (subst (λ j. Uses (m ∷ modes g) (is_persistent m ∷ h) j) (add-one i) p);
}
  where
    of_variable : (i : ℕ) (t : PlainType) → HasVariable ((m, b) ∷ g) (suc i) t → (a : PlainType) × (t ≡ ren_type (up 1) a) × HasVariable g i a
    of_variable i t p = let (n, d, e, f) = p in (ren_type (up (i + 1)) d, f ∙ sym (raised i d), (n, d, e, refl))

    of_split : (h p q : Holding) → Split (m ∷ modes g) (is_persistent m ∷ h) p q → (u v : Holding) × (p ≡ is_persistent m ∷ u) × (q ≡ is_persistent m ∷ v) × Split (modes g) h u v
    of_split h (x ∷ p) (y ∷ q) s = let (e, f) = kept_apart m x y s.0 in (p, q, ap (λ z. z ∷ p) e, ap (λ z. z ∷ q) f, s.1)
    of_split h [] q s = absurd s
    of_split h (x ∷ p) [] s = absurd s

    of_uses : (h : Holding) (i : ℕ) → Uses (m ∷ modes g) (is_persistent m ∷ h) (suc i) → Uses (modes g) h i
    of_uses h i p = (p.0, and_right (not (is_linear m && is_persistent m)) _ p.1)

narrowed : (k : ℕ) (m : Mode) (b : PlainType) (g : Context) → k ≤ length g → (l : Renumbering) × Returns (raise 1 k) l g (with_entry k (m, b) g) (with_mark k (is_persistent m))
narrowed zero m b g e = (down 1, subst (λ r. Returns r (down 1) g ((m, b) ∷ g) (λ h. is_persistent m ∷ h)) (sym (raise_all 1)) (narrowest m b g))
narrowed (suc k) m b (d ∷ g) e = let (l, c) = narrowed k m b g (omega arith) in (
  lifted 1 l,
  subst (λ r. Returns r (lifted 1 l) (d ∷ g) (with_entry (suc k) (m, b) (d ∷ g)) (with_mark (suc k) (is_persistent m))) (raise_next k)
      (subst (λ T. Returns (lifted 1 (raise 1 k)) (lifted 1 l) (d ∷ g) (with_entry (suc k) (m, b) (d ∷ g)) T) (same_past k (is_persistent m))
      (returns_under d.0 d.1 (raise 1 k) l g (with_entry k (m, b) g) (with_mark k (is_persistent m)) c)),
)
narrowed (suc k) m b [] e = absurd (omega arith)

-- an entry that is persistent or not held may go
pub strengthened : (sig : PlainSignature) (g : Context) (h : Holding) (k : ℕ) (m : Mode) (b : PlainType) → WellFormedSignature sig → k ≤ length g
    → AreBroughtBack sig (raise 1 k) g (with_entry k (m, b) g) h (with_mark k (is_persistent m) h)
strengthened sig g h k m b w e = let (l, c) = narrowed k m b g e in record {
  objects = return_object sig (constants_closed sig w) (raise 1 k) l g (with_entry k (m, b) g) (with_mark k (is_persistent m)) c h;
  neutrals = return_neutral sig (constants_closed sig w) (raise 1 k) l g (with_entry k (m, b) g) (with_mark k (is_persistent m)) c h;
  expressions = return_expression sig (constants_closed sig w) (raise 1 k) l g (with_entry k (m, b) g) (with_mark k (is_persistent m)) c h;
  tuples = return_tuple sig (constants_closed sig w) (raise 1 k) l g (with_entry k (m, b) g) (with_mark k (is_persistent m)) c h;
}
