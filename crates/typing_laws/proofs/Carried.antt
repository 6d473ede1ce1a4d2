-- A renumbering that takes the variables of one context to variables of another, and the marks of holdings with them, takes typed trees
-- to typed trees.
use Rattle.std.specs.Prelude.{ℕ, zero, suc, ◌+◌, ◌≡◌, ◌&&◌, not, Bool, true, false, List, [], ◌∷◌, length, None, Some, refl}
use Rattle.std.proofs.Common.{ap, sym, subst, ◌∙◌, arith}
use Rattle.clf_syntax.specs.declared.tree.Mode.{Mode}
use Rattle.clf_syntax.specs.declared.tree.Mode.TheVariants.{Persistent, Affine, Linear}
use Rattle.clf_syntax.specs.declared.tree.Head.{Head}
use Rattle.clf_syntax.specs.declared.tree.Head.TheVariants.{Const, Var, Meta}
use Rattle.clf_syntax.specs.Tree.{PlainObject, lam, pair, unit, monadic, atomic, hole, PlainNeutral, head_alone, app, fst, snd, PlainExpression, step, done, PlainTuple, empty, entry}
use Rattle.clf_syntax.specs.TypeTree.{PlainType, family, function, both, monad, PlainTelescope, end, binding}
use Rattle.clf_syntax.specs.Renaming.{Renumbering, lifted, ren, ren_head, ren_neutral, ren_expression, ren_tuple, ren_objects, ren_type, ren_telescope, up}
use Rattle.clf_syntax.proofs.RenamingLaws.{ext, lift_up}
use Rattle.clf_syntax.proofs.TypeRenaming.{composed_type, composed_telescope}
use Rattle.use_contexts.specs.Context.{Context, modes, HasVariable, telescope_modes, with_entries}
use Rattle.use_contexts.specs.Holding.{Holding, Split, is_linear, is_weak, is_unrestricted, is_persistent, may_use, Uses, all_held}
use Rattle.hered_subst.proofs.SimpleTyping.{lift_zero, lift_next, lift_under}
use Rattle.hered_subst.proofs.Renamed.{fits_single}
use Rattle.hered_subst.proofs.Types.{commutes}
use Rattle.hered_subst.specs.Substitution.{single}
use Rattle.trace_equal.specs.Exchange.{JoinedEach}
use Rattle.trace_equal.proofs.Closed.{carried}
use Rattle.trace_equal.proofs.Moves.{renamed}
use Rattle.clf_sig.specs.Entry.{PlainSignature, constant_type}
use Rattle.clf_rules.specs.Typing.{HeadHasType, HasType, Synthesizes, ExpressionHasType, TupleHasType}
use Rattle.typing_laws.specs.Contexts.{AreCarried}

-- What the renumbering r does: it takes the variables of g to those of k, and T takes a holding over g to one over k.
pub record Carries (r : Renumbering) (g k : Context) (T : Holding → Holding) : Type 0 where
  pub variable : (i : ℕ) (a : PlainType) → HasVariable g i a → HasVariable k (r i) (ren_type r a)
  pub split : (h a b : Holding) → Split (modes g) h a b → Split (modes k) (T h) (T a) (T b)
  pub weak : (h : Holding) → length h ≡ length g → is_weak (modes g) h ≡ true → is_weak (modes k) (T h) ≡ true
  pub unrestricted : (h : Holding) → length h ≡ length g → is_unrestricted (modes g) h ≡ true → is_unrestricted (modes k) (T h) ≡ true
  pub uses : (h : Holding) (i : ℕ) → length h ≡ length g → Uses (modes g) h i → Uses (modes k) (T h) (r i)

-- ---- under binders
abbrev pub past : (Holding → Holding) → Holding → Holding
past T [] = []
past T (x ∷ h) = x ∷ T h

abbrev pub past_all : List Mode → (Holding → Holding) → Holding → Holding
past_all [] T = T
past_all (m ∷ ms) T = past_all ms (past T)

pub and_left : (a b : Bool) → a && b ≡ true → a ≡ true
and_left true b e = refl
and_left false b e = e

pub and_right : (a b : Bool) → a && b ≡ true → b ≡ true
and_right true b e = e
and_right false b e = cc

pub and_both : (a b : Bool) → a ≡ true → b ≡ true → a && b ≡ true
and_both true b e f = f
and_both false b e f = e

pub square_type : (r s t u : Renumbering) → ((i : ℕ) → r (s i) ≡ t (u i)) → (a : PlainType) → ren_type r (ren_type s a) ≡ ren_type t (ren_type u a)
square_type r s t u f a = composed_type r s a ∙ ap (λ q. ren_type q a) (ext f) ∙ sym (composed_type t u a)

pub square_telescope : (r s t u : Renumbering) → ((i : ℕ) → r (s i) ≡ t (u i)) → (a : PlainTelescope) → ren_telescope r (ren_telescope s a) ≡ ren_telescope t (ren_telescope u a)
square_telescope r s t u f a = composed_telescope r s a ∙ ap (λ q. ren_telescope q a) (ext f) ∙ sym (composed_telescope t u a)

-- the type of a variable, past one more entry
pub raised : (i : ℕ) (b : PlainType) → ren_type (up 1) (ren_type (up (i + 1)) b) ≡ ren_type (up (suc i + 1)) b
raised i b = composed_type (up 1) (up (i + 1)) b ∙ ap (λ q. ren_type q b) (ext (further i))
  where
    further : (i j : ℕ) → (j + (i + 1)) + 1 ≡ j + (suc i + 1)
    further i j = omega arith

the_entry : {x y : Mode × PlainType} → Some x ≡ Some y → x.1 ≡ y.1
the_entry e = cc

module _ (m : Mode) (a : PlainType) (r : Renumbering) (g k : Context) (T : Holding → Holding) (c : Carries r g k T) where
  variable_under : (i : ℕ) (t : PlainType) → HasVariable ((m, a) ∷ g) i t → HasVariable ((m, ren_type r a) ∷ k) (lifted 1 r i) (ren_type (lifted 1 r) t)
  variable_under zero t p = let (n, b, e, f) = p in
      (m, ren_type r a, refl, ap (ren_type (lifted 1 r)) (f ∙ ap (ren_type (up 1)) (sym (the_entry e))) ∙ square_type (lifted 1 r) (up 1) (up 1) r (lift_up 1 r) a)
  variable_under (suc i) t p = let (n, b, e, f) = p in let (o, d, u, v) = c.variable i (ren_type (up (i + 1)) b) (n, b, e, refl) in
      subst (λ j. HasVariable ((m, ren_type r a) ∷ k) j (ren_type (lifted 1 r) t)) (sym (lift_next r i))
      (o, d, u, ap (ren_type (lifted 1 r)) (f ∙ sym (raised i b)) ∙ square_type (lifted 1 r) (up 1) (up 1) r (lift_up 1 r) (ren_type (up (i + 1)) b) ∙ ap (ren_type (up 1)) v ∙ raised (r i) d)

  split_under : (h p q : Holding) → Split (m ∷ modes g) h p q → Split (m ∷ modes k) (past T h) (past T p) (past T q)
  split_under (x ∷ h) (u ∷ p) (v ∷ q) s = (s.0, c.split h p q s.1)
  split_under _ _ _ s = absurd s

  weak_under : (h : Holding) → length h ≡ suc (length g) → is_weak (m ∷ modes g) h ≡ true → is_weak (m ∷ modes k) (past T h) ≡ true
  weak_under [] l e = refl
  weak_under (x ∷ h) l e = and_both (not (is_linear m && x)) _ (and_left (not (is_linear m && x)) _ e) (c.weak h (omega arith) (and_right (not (is_linear m && x)) _ e))

  unrestricted_under : (h : Holding) → length h ≡ suc (length g) → is_unrestricted (m ∷ modes g) h ≡ true → is_unrestricted (m ∷ modes k) (past T h) ≡ true
  unrestricted_under [] l e = refl
  unrestricted_under (x ∷ h) l e = and_both (not (not (is_persistent m) && x)) _ (and_left (not (not (is_persistent m) && x)) _ e) (c.unrestricted h (omega arith) (and_right (not (not (is_persistent m) && x)) _ e))

  no_mark : None ≡ Some true → ⊥
  no_mark e = cc

  uses_under : (h : Holding) (i : ℕ) → length h ≡ suc (length g) → Uses (m ∷ modes g) h i → Uses (m ∷ modes k) (past T h) (lifted 1 r i)
  uses_under [] i l p = absurd (no_mark p.0)
  uses_under (x ∷ h) zero l p = (p.0, and_both (not (is_linear m && false)) _ (and_left (not (is_linear m && false)) _ p.1) (c.weak h (omega arith) (and_right (not (is_linear m && false)) _ p.1)))
  uses_under (x ∷ h) (suc i) l p =
      let (u, v) = c.uses h i (omega arith) (p.0, and_right (not (is_linear m && x)) _ p.1) in
      subst (λ j. Uses (m ∷ modes k) (x ∷ T h) j) (sym (lift_next r i)) (u, and_both (not (is_linear m && x)) _ (and_left (not (is_linear m && x)) _ p.1) v)

  pub carries_under : Carries (lifted 1 r) ((m, a) ∷ g) ((m, ren_type r a) ∷ k) (past T)
  carries_under = record { variable = variable_under; split = split_under; weak = weak_under; unrestricted = unrestricted_under; uses = uses_under }

carries_all : (u : PlainTelescope) (r : Renumbering) (g k : Context) (T : Holding → Holding) → Carries r g k T → Carries (lifted (length (telescope_modes u)) r) (with_entries u g) (with_entries (ren_telescope r u) k) (past_all (telescope_modes u) T)
carries_all end r g k T c = subst (λ q. Carries q g k T) (sym (lift_zero r)) c
carries_all (binding m a s) r g k T c = subst (λ q. Carries q (with_entries s ((m, a) ∷ g)) (with_entries (ren_telescope (lifted 1 r) s) ((m, ren_type r a) ∷ k)) (past_all (telescope_modes s) (past T)))
    (lift_under (length (telescope_modes s)) r) (carries_all s (lifted 1 r) ((m, a) ∷ g) ((m, ren_type r a) ∷ k) (past T) (carries_under m a r g k T c))

carries_entries : (u : PlainTelescope) (ms : List Mode) (r : Renumbering) (g k : Context) (T : Holding → Holding) → telescope_modes u ≡ ms → Carries r g k T → Carries (lifted (length ms) r) (with_entries u g) (with_entries (ren_telescope r u) k) (past_all ms T)
carries_entries u ms r g k T e c = subst (λ ns. Carries (lifted (length ns) r) (with_entries u g) (with_entries (ren_telescope r u) k) (past_all ns T)) e (carries_all u r g k T c)

pub past_held : (ms : List Mode) (T : Holding → Holding) (h : Holding) → past_all ms T (all_held ms h) ≡ all_held ms (T h)
past_held [] T h = refl
past_held (m ∷ ms) T h = past_held ms (past T) (true ∷ h)

length_held : (u : PlainTelescope) (g : Context) (h : Holding) → length h ≡ length g → length (all_held (telescope_modes u) h) ≡ length (with_entries u g)
length_held end g h e = e
length_held (binding m a s) g h e = length_held s ((m, a) ∷ g) (true ∷ h) (ap suc e)

pub length_entered : (u : PlainTelescope) (ms : List Mode) (g : Context) (h : Holding) → telescope_modes u ≡ ms → length h ≡ length g → length (all_held ms h) ≡ length (with_entries u g)
length_entered u ms g h e l = subst (λ ns. length (all_held ns h) ≡ length (with_entries u g)) e (length_held u g h l)

pub same_modes : (r : Renumbering) (u : PlainTelescope) → telescope_modes (ren_telescope r u) ≡ telescope_modes u
same_modes r end = refl
same_modes r (binding m a s) = ap (λ ms. m ∷ ms) (same_modes (lifted 1 r) s)

pub lengths : (ms : List Mode) (h a b : Holding) → Split ms h a b → (length a ≡ length h) × (length b ≡ length h)
lengths [] [] [] [] s = (refl, refl)
lengths (m ∷ ms) (x ∷ h) (u ∷ a) (v ∷ b) s = let (p, q) = lengths ms h a b s.1 in (ap suc p, ap suc q)
lengths _ _ _ _ s = absurd s

pub joined_each : (r : Renumbering) (ns os : List PlainObject) → JoinedEach ns os → JoinedEach (ren_objects r ns) (ren_objects r os)
joined_each r [] [] j = tt
joined_each r (n ∷ ns) (o ∷ os) j = (carried (ren r) (λ c d e. renamed r e) j.0, joined_each r ns os j.1)
joined_each r [] (o ∷ os) j = absurd j
joined_each r (n ∷ ns) [] j = absurd j

-- ---- typed trees
module _ (sig : PlainSignature) (closed : (r : Renumbering) (c : ℕ) (a : PlainType) → constant_type sig c ≡ Some a → ren_type r a ≡ a) where
  carry_head : (r : Renumbering) (g k : Context) (T : Holding → Holding) → Carries r g k T → (h : Holding) → length h ≡ length g → (x : Head) (a : PlainType) → HeadHasType sig g h x a → HeadHasType sig k (T h) (ren_head r x) (ren_type r a)
  carry_head r g k T c h l (Const x) a p = (p.0 ∙ ap (λ t. Some t) (sym (closed r x a p.0)), c.weak h l p.1)
  carry_head r g k T c h l (Var i) a p = (c.uses h i l p.0, c.variable i a p.1)
  carry_head r g k T c h l (Meta x) a p = absurd p

  usable : (m : Mode) (r : Renumbering) (g k : Context) (T : Holding → Holding) → Carries r g k T → (h : Holding) → length h ≡ length g → may_use m (modes g) h ≡ true → may_use m (modes k) (T h) ≡ true
  usable Persistent r g k T c h l e = c.unrestricted h l e
  usable Affine r g k T c h l e = c.weak h l e
  usable Linear r g k T c h l e = refl

  mutual
    carry_object : (r : Renumbering) (g k : Context) (T : Holding → Holding) → Carries r g k T → (h : Holding) → length h ≡ length g → (n : PlainObject) (a : PlainType) → HasType sig g h n a → HasType sig k (T h) (ren r n) (ren_type r a)
    carry_object r g k T c h l (lam m b) a p = record {
      domain = ren_type r p.domain;
      range = ren_type (lifted 1 r) p.range;
      type = ap (ren_type r) p.type;
      body = carry_object (lifted 1 r) ((m, p.domain) ∷ g) ((m, ren_type r p.domain) ∷ k) (past T) (carries_under m p.domain r g k T c) (true ∷ h) (ap suc l) b p.range p.body;
    }
    carry_object r g k T c h l (pair x y) a p = record {
      left_type = ren_type r p.left_type;
      right_type = ren_type r p.right_type;
      type = ap (ren_type r) p.type;
      left = carry_object r g k T c h l x p.left_type p.left;
      right = carry_object r g k T c h l y p.right_type p.right;
    }
    carry_object r g k T c h l unit a p = ap (ren_type r) p
    carry_object r g k T c h l (monadic x) a p = (ren_telescope r p.0, ap (ren_type r) p.1, carry_expression r g k T c h l x p.0 p.2)
    carry_object r g k T c h l (atomic n) a p = record {
      number = p.number;
      wanted = ren_objects r p.wanted;
      found = ren_objects r p.found;
      type = ap (ren_type r) p.type;
      neutral = carry_neutral r g k T c h l n (family p.number p.found) p.neutral;
      indices = joined_each r p.found p.wanted p.indices;
    }
    carry_object r g k T c h l hole a p = p

    carry_neutral : (r : Renumbering) (g k : Context) (T : Holding → Holding) → Carries r g k T → (h : Holding) → length h ≡ length g → (n : PlainNeutral) (a : PlainType) → Synthesizes sig g h n a → Synthesizes sig k (T h) (ren_neutral r n) (ren_type r a)
    carry_neutral r g k T c h l (head_alone x) a p = carry_head r g k T c h l x a p
    carry_neutral r g k T c h l (app m x n) a p = let (u, v) = lengths (modes g) h p.for_function p.for_argument p.split in record {
      domain = ren_type r p.domain;
      range = ren_type (lifted 1 r) p.range;
      for_function = T p.for_function;
      for_argument = T p.for_argument;
      split = c.split h p.for_function p.for_argument p.split;
      applied = carry_neutral r g k T c p.for_function (u ∙ l) x (function m p.domain p.range) p.applied;
      usable = usable m r g k T c p.for_argument (v ∙ l) p.usable;
      argument = carry_object r g k T c p.for_argument (v ∙ l) n p.domain p.argument;
      type = (commutes (lifted 1 r) r (single n 0) (single (ren r n) 0) (fits_single r n)).2 p.range a p.type;
    }
    carry_neutral r g k T c h l (fst x) a p = (ren_type r p.0, carry_neutral r g k T c h l x (both a p.0) p.1)
    carry_neutral r g k T c h l (snd x) a p = (ren_type r p.0, carry_neutral r g k T c h l x (both p.0 a) p.1)

    carry_expression : (r : Renumbering) (g k : Context) (T : Holding → Holding) → Carries r g k T → (h : Holding) → length h ≡ length g → (x : PlainExpression) (s : PlainTelescope) → ExpressionHasType sig g h x s → ExpressionHasType sig k (T h) (ren_expression r x) (ren_telescope r s)
    carry_expression r g k T c h l (step ms y x) s p = let (u, v) = lengths (modes g) h p.for_right p.for_rest p.split in record {
      entries = ren_telescope r p.entries;
      for_right = T p.for_right;
      for_rest = T p.for_rest;
      split = c.split h p.for_right p.for_rest p.split;
      right = carry_neutral r g k T c p.for_right (u ∙ l) y (monad p.entries) p.right;
      pattern = same_modes r p.entries ∙ p.pattern;
      rest = subst (λ j. ExpressionHasType sig (with_entries (ren_telescope r p.entries) k) j (ren_expression (lifted (length ms) r) x) (ren_telescope (up (length ms)) (ren_telescope r s))) (past_held ms T p.for_rest)
          (subst (λ t. ExpressionHasType sig (with_entries (ren_telescope r p.entries) k) (past_all ms T (all_held ms p.for_rest)) (ren_expression (lifted (length ms) r) x) t)
          (square_telescope (lifted (length ms) r) (up (length ms)) (up (length ms)) r (lift_up (length ms) r) s)
          (carry_expression (lifted (length ms) r) (with_entries p.entries g) (with_entries (ren_telescope r p.entries) k) (past_all ms T) (carries_entries p.entries ms r g k T p.pattern c) (all_held ms p.for_rest)
          (length_entered p.entries ms g p.for_rest p.pattern (v ∙ l)) x (ren_telescope (up (length ms)) s) p.rest));
    }
    carry_expression r g k T c h l (done t) s p = carry_tuple r g k T c h l t s p

    carry_tuple : (r : Renumbering) (g k : Context) (T : Holding → Holding) → Carries r g k T → (h : Holding) → length h ≡ length g → (t : PlainTuple) (s : PlainTelescope) → TupleHasType sig g h t s → TupleHasType sig k (T h) (ren_tuple r t) (ren_telescope r s)
    carry_tuple r g k T c h l empty s p = (ap (ren_telescope r) p.0, c.weak h l p.1)
    carry_tuple r g k T c h l (entry m n t) s p = let (u, v) = lengths (modes g) h p.for_first p.for_later p.split in record {
      first_type = ren_type r p.first_type;
      later_types = ren_telescope (lifted 1 r) p.later_types;
      after_put = ren_telescope r p.after_put;
      for_first = T p.for_first;
      for_later = T p.for_later;
      type = ap (ren_telescope r) p.type;
      split = c.split h p.for_first p.for_later p.split;
      usable = usable m r g k T c p.for_first (u ∙ l) p.usable;
      first = carry_object r g k T c p.for_first (u ∙ l) n p.first_type p.first;
      put = (commutes (lifted 1 r) r (single n 0) (single (ren r n) 0) (fits_single r n)).3 p.later_types p.after_put p.put;
      later = carry_tuple r g k T c p.for_later (v ∙ l) t p.after_put p.later;
    }

  pub carry : (r : Renumbering) (g k : Context) (T : Holding → Holding) → Carries r g k T → (h : Holding) → length h ≡ length g → AreCarried sig r g k h (T h)
  carry r g k T c h l = record { objects = carry_object r g k T c h l; neutrals = carry_neutral r g k T c h l; expressions = carry_expression r g k T c h l; tuples = carry_tuple r g k T c h l }
