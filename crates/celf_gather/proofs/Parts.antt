-- What a part of the function has made, where the whole made something.
use Rattle.std.proofs.Common.{◌≡◌, ◌==◌, ℕ, Bool, true, false, ◌&&◌, if◌then◌else◌, List, [], ◌∷◌, ◌++◌, Option, Some, None, refl, sym, ap, ◌∙◌, arith}
use Rattle.std.proofs.lemmas.List.{append_assoc, append-nil}
use Rattle.clf_syntax.specs.declared.tree.Mode.{Mode}
use Rattle.clf_syntax.specs.Modes.{same_mode}
use Rattle.clf_syntax.specs.Tree.{PlainObject}
use Rattle.clf_syntax.specs.TypeTree.{PlainType, family, function, both, top, monad, PlainTelescope, end, binding, PlainKind, SimpleType}
use Rattle.use_contexts.specs.Context.{Context, telescope_modes, with_entries}
use Rattle.hered_put.specs.Function.{Answer, made, untyped, too_far, after}
use Rattle.hered_put.proofs.Sound.{same-mode}
use Rattle.typing_laws.specs.SimpleTyping.{families_of}
use Rattle.pattern_laws.specs.Equations.{Locals, Equation}
use Rattle.gathering.specs.Setting.{simple_locals, Pairs}
use Rattle.celf_gather.specs.Scene.{Scene, put_in_type, put_in_telescope, put_in_kind}
use Rattle.celf_gather.specs.Gathered.{Inferred, Reached, Rest, pairs_after, known_pairs, found_after, leaf_after, filled_after, lambda_after, pair_after, unit_after, monadic_after, with_type, application_after, first_after, second_after, modes_fit, entered, entered_if, entry_after, none_left}
use Rattle.celf_gather.specs.Formed.{Arguments, no_arguments}

pub after_out : {A B : Type 0} (w : Answer A) (f : A → Answer B) (y : B) → after w f ≡ made y → (x : A) × (w ≡ made x) × (f x ≡ made y)
after_out (made x) f y e = (x, refl, e)
after_out untyped f y e = absurd (cc)
after_out too_far f y e = absurd (cc)

pub the_made : {A : Type 0} {x y : A} → made x ≡ made y → x ≡ y
the_made e = cc

if_out : {A : Type 0} (b : Bool) (w : Answer A) (y : A) → (if b then w else untyped) ≡ made y → (b ≡ true) × (w ≡ made y)
if_out true w y e = (refl, e)
if_out false w y e = absurd (cc)

pub lambda_out : (m : Mode) (t : PlainType) (body : PlainType → PlainType → Answer (List Equation)) (x : List Equation) → lambda_after m t body ≡ made x → (a c : PlainType) × (t ≡ function m a c) × (body a c ≡ made x)
lambda_out m (function o a c) body x e = let (p, q) = if_out (same_mode m o) (body a c) x e in (a, c, ap (λ k. function k a c) (sym (same-mode m o p)), q)
lambda_out m (family f ns) body x e = absurd (cc)
lambda_out m (both a b) body x e = absurd (cc)
lambda_out m top body x e = absurd (cc)
lambda_out m (monad s) body x e = absurd (cc)

pub pair_out : (t : PlainType) (left : PlainType → Answer (List Equation)) (right : PlainType → List Equation → Answer (List Equation)) (x : List Equation) → pair_after t left right ≡ made x
    → (a c : PlainType) × (q : List Equation) × (t ≡ both a c) × (left a ≡ made q) × (right c q ≡ made x)
pair_out (both a c) left right x e = let (q, l, r) = after_out (left a) (right c) x e in (a, c, q, refl, l, r)
pair_out (family f ns) left right x e = absurd (cc)
pair_out (function m a b) left right x e = absurd (cc)
pair_out top left right x e = absurd (cc)
pair_out (monad s) left right x e = absurd (cc)

pub unit_out : (t : PlainType) (p x : List Equation) → unit_after t p ≡ made x → (t ≡ top) × (p ≡ x)
unit_out top p x e = (refl, the_made e)
unit_out (family f ns) p x e = absurd (cc)
unit_out (function m a b) p x e = absurd (cc)
unit_out (both a b) p x e = absurd (cc)
unit_out (monad s) p x e = absurd (cc)

pub monadic_out : (t : PlainType) (run : PlainTelescope → Answer (List Equation)) (x : List Equation) → monadic_after t run ≡ made x → (s : PlainTelescope) × (t ≡ monad s) × (run s ≡ made x)
monadic_out (monad s) run x e = (s, refl, e)
monadic_out (family f ns) run x e = absurd (cc)
monadic_out (function m a b) run x e = absurd (cc)
monadic_out (both a b) run x e = absurd (cc)
monadic_out top run x e = absurd (cc)

pub filled_out : (b : Bool) (p x : List Equation) → filled_after b p ≡ made x → (b ≡ true) × (p ≡ x)
filled_out true p x e = (refl, the_made e)
filled_out false p x e = absurd (cc)

-- ---- leaves
-- the equations of indices come behind the others
pub pairs_out : (l : Locals) (ts : List SimpleType) (os ns : List PlainObject) (p x : List Equation) → pairs_after l ts os ns p ≡ made x → (q : List Equation) × (x ≡ p ++ q) × Pairs l ts os ns q
pairs_out l [] [] [] p x e = ([], sym (the_made e) ∙ sym (append-nil p), refl)
pairs_out l (t ∷ ts) (o ∷ os) (n ∷ ns) p x e =
    let one : Equation = record { locals = l; left = o; right = n; type = t } in
    let (q, f, r) = pairs_out l ts os ns (p ++ one ∷ []) x e in
    (one ∷ q, f ∙ append_assoc p (one ∷ []) q, (q, refl, r))
pairs_out l [] [] (n ∷ ns) p x e = absurd (cc)
pairs_out l [] (o ∷ os) ns p x e = absurd (cc)
pairs_out l (t ∷ ts) [] ns p x e = absurd (cc)
pairs_out l (t ∷ ts) (o ∷ os) [] p x e = absurd (cc)

known_out : (l : Locals) (w : Option (List SimpleType)) (os ns : List PlainObject) (p x : List Equation) → known_pairs l w os ns p ≡ made x → (ts : List SimpleType) × (w ≡ Some ts) × (pairs_after l ts os ns p ≡ made x)
known_out l (Some ts) os ns p x e = (ts, refl, e)
known_out l None os ns p x e = absurd (cc)

same-number : (i j : ℕ) → (i == j) ≡ true → i ≡ j
same-number i j e = grind arith

pub found_out : (k : Scene) (g : Context) (f : ℕ) (ns : List PlainObject) (y : Inferred) (x : List Equation) → found_after k g f ns y ≡ made x
    → (os : List PlainObject) × (ts : List SimpleType) × (q : List Equation) × (y.0 ≡ family f os) × (families_of k.signature f ≡ Some ts) × Pairs (simple_locals g) ts os ns q × (x ≡ y.1 ++ q)
found_out k g f ns ((family h os), p) x e =
    let (i, r) = if_out (f == h) (known_pairs (simple_locals g) (families_of k.signature f) os ns p) x e in
    let (ts, j, s) = known_out (simple_locals g) (families_of k.signature f) os ns p x r in
    let (q, u, v) = pairs_out (simple_locals g) ts os ns p x s in
    (os, ts, q, ap (λ n. family n os) (sym (same-number f h i)), j, v, u)
found_out k g f ns ((function m a b), p) x e = absurd (cc)
found_out k g f ns ((both a b), p) x e = absurd (cc)
found_out k g f ns (top, p) x e = absurd (cc)
found_out k g f ns ((monad s), p) x e = absurd (cc)

pub leaf_out : (k : Scene) (g : Context) (t : PlainType) (w : Answer Inferred) (x : List Equation) → leaf_after k g t w ≡ made x
    → (f : ℕ) × (ns : List PlainObject) × (y : Inferred) × (t ≡ family f ns) × (w ≡ made y) × (found_after k g f ns y ≡ made x)
leaf_out k g (family f ns) w x e = let (y, i, j) = after_out w (found_after k g f ns) x e in (f, ns, y, refl, i, j)
leaf_out k g (function m a b) w x e = absurd (cc)
leaf_out k g (both a b) w x e = absurd (cc)
leaf_out k g top w x e = absurd (cc)
leaf_out k g (monad s) w x e = absurd (cc)

-- ---- neutrals
pub with_type_out : (a : Option PlainType) (p : List Equation) (y : Inferred) → with_type a p ≡ made y → (a ≡ Some y.0) × (p ≡ y.1)
with_type_out (Some a) p y e = let i : (a, p) ≡ y = the_made e in (ap (λ (z : Inferred). Some z.0) i, ap (λ (z : Inferred). z.1) i)
with_type_out None p y e = absurd (cc)

pub application_out : (m : Mode) (n : PlainObject) (x : Inferred) (argument : PlainType → List Equation → Answer (List Equation)) (y : Inferred) → application_after m n x argument ≡ made y
    → (a c : PlainType) × (x.0 ≡ function m a c) × (argument a x.1 ≡ made y.1) × (put_in_type n a c ≡ made y.0)
application_out m n ((function o a c), p) argument y e =
    let (i, r) = if_out (same_mode m o) (after (argument a p) (λ q. after (put_in_type n a c) (λ t. made (t, q)))) y e in
    let (q, s, u) = after_out (argument a p) (λ q. after (put_in_type n a c) (λ t. made (t, q))) y r in
    let (t, v, w) = after_out (put_in_type n a c) (λ t. made (t, q)) y u in
    let j : (t, q) ≡ y = the_made w in
    (a, c, ap (λ k. function k a c) (sym (same-mode m o i)), s ∙ ap (λ (z : Inferred). made z.1) j, v ∙ ap (λ (z : Inferred). made z.0) j)
application_out m n ((family f ns), p) argument y e = absurd (cc)
application_out m n ((both a b), p) argument y e = absurd (cc)
application_out m n (top, p) argument y e = absurd (cc)
application_out m n ((monad s), p) argument y e = absurd (cc)

pub first_out : (x y : Inferred) → first_after x ≡ made y → (c : PlainType) × (x.0 ≡ both y.0 c) × (x.1 ≡ y.1)
first_out ((both a c), p) y e = let j : (a, p) ≡ y = the_made e in (c, ap (λ (z : Inferred). both z.0 c) j, ap (λ (z : Inferred). z.1) j)
first_out ((family f ns), p) y e = absurd (cc)
first_out ((function m a b), p) y e = absurd (cc)
first_out (top, p) y e = absurd (cc)
first_out ((monad s), p) y e = absurd (cc)

pub second_out : (x y : Inferred) → second_after x ≡ made y → (a : PlainType) × (x.0 ≡ both a y.0) × (x.1 ≡ y.1)
second_out ((both a c), p) y e = let j : (c, p) ≡ y = the_made e in (a, ap (λ (z : Inferred). both a z.0) j, ap (λ (z : Inferred). z.1) j)
second_out ((family f ns), p) y e = absurd (cc)
second_out ((function m a b), p) y e = absurd (cc)
second_out (top, p) y e = absurd (cc)
second_out ((monad s), p) y e = absurd (cc)

-- ---- steps and tuples
and_out : (b c : Bool) → (b && c) ≡ true → (b ≡ true) × (c ≡ true)
and_out true c e = (refl, e)
and_out false c e = absurd (cc)

conses : {m n : Mode} {ms ns : List Mode} → m ≡ n → ms ≡ ns → m ∷ ms ≡ n ∷ ns
conses e f = cc

modes_had : (s : PlainTelescope) (ms : List Mode) → modes_fit s ms ≡ true → telescope_modes s ≡ ms
modes_had end [] e = refl
modes_had (binding m a s) (o ∷ os) e = let (p, q) = and_out (same_mode o m) (modes_fit s os) e in conses (sym (same-mode o m p)) (modes_had s os q)
modes_had end (o ∷ os) e = absurd (cc)
modes_had (binding m a s) [] e = absurd (cc)

entered_if_out : (b : Bool) (x y : Reached) → entered_if b x ≡ made y → (b ≡ true) × (x ≡ y)
entered_if_out true x y e = (refl, the_made e)
entered_if_out false x y e = absurd (cc)

pub entered_out : (ms : List Mode) (g : Context) (x : Inferred) (y : Reached) → entered ms g x ≡ made y → (u : PlainTelescope) × (x.0 ≡ monad u) × (telescope_modes u ≡ ms) × (with_entries u g ≡ y.0) × (x.1 ≡ y.1)
entered_out ms g ((monad u), p) y e = let (i, j) = entered_if_out (modes_fit u ms) (with_entries u g, p) y e in (u, refl, modes_had u ms i, ap (λ (z : Reached). z.0) j, ap (λ (z : Reached). z.1) j)
entered_out ms g ((family f ns), p) y e = absurd (cc)
entered_out ms g ((function m a b), p) y e = absurd (cc)
entered_out ms g ((both a b), p) y e = absurd (cc)
entered_out ms g (top, p) y e = absurd (cc)

pub none_out : (s : PlainTelescope) (p x : List Equation) → none_left (s, p) ≡ made x → (s ≡ end) × (p ≡ x)
none_out end p x e = (refl, the_made e)
none_out (binding m a s) p x e = absurd (cc)

pub entry_out : (m : Mode) (n : PlainObject) (s : PlainTelescope) (p : List Equation) (argument : PlainType → List Equation → Answer (List Equation)) (y : Rest) → entry_after m n (s, p) argument ≡ made y
    → (a : PlainType) × (u : PlainTelescope) × (s ≡ binding m a u) × (argument a p ≡ made y.1) × (put_in_telescope n a u ≡ made y.0)
entry_out m n (binding o a u) p argument y e =
    let (i, r) = if_out (same_mode m o) (after (argument a p) (λ q. after (put_in_telescope n a u) (λ v. made (v, q)))) y e in
    let (q, s, w) = after_out (argument a p) (λ q. after (put_in_telescope n a u) (λ v. made (v, q))) y r in
    let (v, t, z) = after_out (put_in_telescope n a u) (λ v. made (v, q)) y w in
    let j : (v, q) ≡ y = the_made z in
    (a, u, ap (λ k. binding k a u) (sym (same-mode m o i)), s ∙ ap (λ (z : Rest). made z.1) j, t ∙ ap (λ (z : Rest). made z.0) j)
entry_out m n end p argument y e = absurd (cc)

pub index_out : (n : PlainObject) (a : PlainType) (l : PlainKind) (w : Answer (List Equation)) (y : Arguments) → after w (λ q. after (put_in_kind n a l) (λ v. made (v, q))) ≡ made y
    → (w ≡ made y.1) × (put_in_kind n a l ≡ made y.0)
index_out n a l w y e =
    let (q, s, u) = after_out w (λ q. after (put_in_kind n a l) (λ v. made (v, q))) y e in
    let (v, t, z) = after_out (put_in_kind n a l) (λ v. made (v, q)) y u in
    let j : (v, q) ≡ y = the_made z in
    (s ∙ ap (λ (z : Arguments). made z.1) j, t ∙ ap (λ (z : Arguments). made z.0) j)

pub no_arguments_out : (l : PlainKind) (p x : List Equation) → no_arguments (l, p) ≡ made x → (l ≡ []) × (p ≡ x)
no_arguments_out [] p x e = (refl, the_made e)
no_arguments_out (a ∷ l) p x e = absurd (cc)
