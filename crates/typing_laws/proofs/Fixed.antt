-- What is typed over a context is not changed by a renumbering that keeps the variables of the context.
use Rattle.std.specs.Prelude.{ℕ, zero, suc, ◌+◌, ◌-◌, ◌≡◌, ◌<◌, ◌≤◌, true, List, [], ◌∷◌, length, Some, refl}
use Rattle.std.specs.List.{slice_get}
use Rattle.std.proofs.Common.{ap, sym, subst, ◌∙◌, arith, add-one, ⊎_elim}
use Rattle.clf_syntax.specs.declared.tree.Mode.{Mode}
use Rattle.clf_syntax.specs.declared.tree.Head.TheVariants.{Const, Var, Meta}
use Rattle.clf_syntax.specs.Tree.{PlainObject, lam, pair, unit, monadic, atomic, hole, PlainNeutral, head_alone, app, fst, snd, PlainExpression, step, done, PlainTuple, empty, entry}
use Rattle.clf_syntax.specs.TypeTree.{PlainType, family, function, both, top, monad, PlainTelescope, end, binding, PlainKind}
use Rattle.clf_syntax.specs.Renaming.{Renumbering, lifted, ren, ren_neutral, ren_expression, ren_tuple, ren_objects, ren_type, ren_telescope, up}
use Rattle.clf_syntax.proofs.RenamingLaws.{pairs, apps, binds, entries, cut, lift_in, lift_out}
use Rattle.clf_syntax.proofs.TypeRenaming.{conses, functions, boths, bindings}
use Rattle.use_contexts.specs.Context.{Context, modes, telescope_modes, with_entries}
use Rattle.use_contexts.specs.Holding.{Holding, all_held, persistent_alone}
use Rattle.clf_sig.specs.Entry.{PlainSignature}
use Rattle.clf_rules.specs.Typing.{HasType, Synthesizes, ExpressionHasType, TupleHasType}
use Rattle.clf_rules.specs.WellFormed.{IndicesHaveTypes, WellFormedType, WellFormedTelescope}

-- the renumbering keeps the first n variables
abbrev Keeps : Renumbering → ℕ → Type 0
Keeps r n = (i : ℕ) → i < n → r i ≡ i

back : (r : Renumbering) (i j : ℕ) → j ≤ i → r (i - j) ≡ i - j → r (i - j) + j ≡ i
back r i j l e = ap (λ x. x + j) e ∙ sum i j l
  where
    sum : (i j : ℕ) → j ≤ i → i - j + j ≡ i
    sum i j l = omega arith

keeps_more : (r : Renumbering) (j n : ℕ) → Keeps r n → Keeps (lifted j r) (n + j)
keeps_more r j n f i l = ⊎_elim (λ b. lift_in j r i b) (λ b. lift_out j r i b ∙ back r i j b (f (i - j) (below i j n b l))) (cut i j)
  where
    below : (i j n : ℕ) → j ≤ i → i < n + j → i - j < n
    below i j n b l = omega arith

keeps_one : (r : Renumbering) (n : ℕ) → Keeps r n → Keeps (lifted 1 r) (suc n)
keeps_one r n f = subst (Keeps (lifted 1 r)) (add-one n) (keeps_more r 1 n f)

length_entered : (u : PlainTelescope) (g : Context) → length (with_entries u g) ≡ length g + length (telescope_modes u)
length_entered end g = omega arith
length_entered (binding m a s) g = let e : length (with_entries s ((m, a) ∷ g)) ≡ suc (length g) + length (telescope_modes s) = length_entered s ((m, a) ∷ g) in omega arith

keeps_entered : (r : Renumbering) (u : PlainTelescope) (ms : List Mode) (g : Context) → telescope_modes u ≡ ms → Keeps r (length g) → Keeps (lifted (length ms) r) (length (with_entries u g))
keeps_entered r u ms g e f = subst (λ n. Keeps (lifted (length ms) r) n) (ap (λ (ns : List Mode). length g + length ns) (sym e) ∙ sym (length_entered u g)) (keeps_more r (length ms) (length g) f)

in_context : {X : Type 0} (g : List X) (i : ℕ) (x : X) → slice_get g i ≡ Some x → i < length g
in_context [] i x e = absurd (cc)
in_context (y ∷ g) zero x e = omega arith
in_context (y ∷ g) (suc i) x e = let l : i < length g = in_context g i x e in omega arith

mutual
  pub fixed_object : (sig : PlainSignature) (g : Context) (h : Holding) (r : Renumbering) → ((i : ℕ) → i < length g → r i ≡ i) → (n : PlainObject) (a : PlainType) → HasType sig g h n a → ren r n ≡ n
  fixed_object sig g h r f (lam m b) a p = ap (lam m) (fixed_object sig ((m, p.domain) ∷ g) (true ∷ h) (lifted 1 r) (keeps_one r (length g) f) b p.range p.body)
  fixed_object sig g h r f (pair x y) a p = pairs (fixed_object sig g h r f x p.left_type p.left) (fixed_object sig g h r f y p.right_type p.right)
  fixed_object sig g h r f unit a p = refl
  fixed_object sig g h r f (monadic x) a p = ap monadic (fixed_expression sig g h r f x p.0 p.2)
  fixed_object sig g h r f (atomic n) a p = ap atomic (fixed_neutral sig g h r f n (family p.number p.found) p.neutral)
  fixed_object sig g h r f hole a p = refl

  fixed_neutral : (sig : PlainSignature) (g : Context) (h : Holding) (r : Renumbering) → ((i : ℕ) → i < length g → r i ≡ i) → (n : PlainNeutral) (a : PlainType) → Synthesizes sig g h n a → ren_neutral r n ≡ n
  fixed_neutral sig g h r f (head_alone (Const c)) a p = refl
  fixed_neutral sig g h r f (head_alone (Var i)) a p = let (m, b, e, q) = p.1 in ap (λ j. head_alone (Var j)) (f i (in_context g i (m, b) e))
  fixed_neutral sig g h r f (head_alone (Meta k)) a p = refl
  fixed_neutral sig g h r f (app m x n) a p = apps m (fixed_neutral sig g p.for_function r f x (function m p.domain p.range) p.applied) (fixed_object sig g p.for_argument r f n p.domain p.argument)
  fixed_neutral sig g h r f (fst x) a p = ap fst (fixed_neutral sig g h r f x (both a p.0) p.1)
  fixed_neutral sig g h r f (snd x) a p = ap snd (fixed_neutral sig g h r f x (both p.0 a) p.1)

  fixed_expression : (sig : PlainSignature) (g : Context) (h : Holding) (r : Renumbering) → ((i : ℕ) → i < length g → r i ≡ i) → (x : PlainExpression) (s : PlainTelescope) → ExpressionHasType sig g h x s → ren_expression r x ≡ x
  fixed_expression sig g h r f (step ms y x) s p = binds ms (fixed_neutral sig g p.for_right r f y (monad p.entries) p.right)
      (fixed_expression sig (with_entries p.entries g) (all_held ms p.for_rest) (lifted (length ms) r) (keeps_entered r p.entries ms g p.pattern f) x (ren_telescope (up (length ms)) s) p.rest)
  fixed_expression sig g h r f (done t) s p = ap done (fixed_tuple sig g h r f t s p)

  fixed_tuple : (sig : PlainSignature) (g : Context) (h : Holding) (r : Renumbering) → ((i : ℕ) → i < length g → r i ≡ i) → (t : PlainTuple) (s : PlainTelescope) → TupleHasType sig g h t s → ren_tuple r t ≡ t
  fixed_tuple sig g h r f empty s p = refl
  fixed_tuple sig g h r f (entry m n t) s p = entries m (fixed_object sig g p.for_first r f n p.first_type p.first) (fixed_tuple sig g p.for_later r f t p.after_put p.later)

fixed_indices : (sig : PlainSignature) (g : Context) (r : Renumbering) → Keeps r (length g) → (ns : List PlainObject) (k : PlainKind) → IndicesHaveTypes sig g ns k → ren_objects r ns ≡ ns
fixed_indices sig g r f [] k p = refl
fixed_indices sig g r f (n ∷ ns) (a ∷ k) p = conses (fixed_object sig g (persistent_alone (modes g)) r f n a p.index) (fixed_indices sig g r f ns p.after_put p.later)
fixed_indices sig g r f (n ∷ ns) [] p = absurd p

mutual
  pub fixed_type : (sig : PlainSignature) (g : Context) (r : Renumbering) → ((i : ℕ) → i < length g → r i ≡ i) → (a : PlainType) → WellFormedType sig g a → ren_type r a ≡ a
  fixed_type sig g r f (family c ns) p = ap (family c) (fixed_indices sig g r f ns p.0 p.2)
  fixed_type sig g r f (function m a b) p = functions m (fixed_type sig g r f a p.0) (fixed_type sig ((m, a) ∷ g) (lifted 1 r) (keeps_one r (length g) f) b p.1)
  fixed_type sig g r f (both a b) p = boths (fixed_type sig g r f a p.0) (fixed_type sig g r f b p.1)
  fixed_type sig g r f top p = refl
  fixed_type sig g r f (monad s) p = ap monad (fixed_telescope sig g r f s p)

  fixed_telescope : (sig : PlainSignature) (g : Context) (r : Renumbering) → ((i : ℕ) → i < length g → r i ≡ i) → (s : PlainTelescope) → WellFormedTelescope sig g s → ren_telescope r s ≡ s
  fixed_telescope sig g r f end p = refl
  fixed_telescope sig g r f (binding m a s) p = bindings m (fixed_type sig g r f a p.0) (fixed_telescope sig ((m, a) ∷ g) (lifted 1 r) (keeps_one r (length g) f) s p.1)
