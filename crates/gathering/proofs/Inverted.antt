-- What a substitution makes of a type, by its form; and equations in parts.
use Rattle.std.proofs.Common.{ap, subst, sym}
use Rattle.std.specs.Prelude.{List, [], length, refl, suc, ℕ, ◌++◌, ◌∷◌, ◌≡◌}
use Rattle.clf_syntax.specs.Tree.{PlainObject}
use Rattle.clf_syntax.specs.TypeTree.{PlainTelescope, PlainType, SimpleType, binding, both, family, function, monad}
use Rattle.clf_syntax.specs.declared.tree.Mode.{Mode}
use Rattle.use_contexts.specs.Context.{Context}
use Rattle.hered_subst.specs.Substitution.{Environment, Substituted, SubstitutedEach, SubstitutedTelescope, SubstitutedType, each_next, in_binding, in_both, in_family, in_function, in_monad, under}
use Rattle.trace_equal.specs.Exchange.{JoinedEach}
use Rattle.pattern_laws.specs.Equations.{Equation, Locals, SolvesEach}
use Rattle.gathering.specs.Setting.{Pairs, simple_locals}

of_function : {s : Environment} {m : Mode} {a c y : PlainType} → SubstitutedType s (function m a c) y → (b d : PlainType) × (y ≡ function m b d) × SubstitutedType s a b × SubstitutedType (under 1 s) c d
of_function (in_function {x = x} {y = y} p q) = (x, y, refl, p, q)

of_both : {s : Environment} {a c y : PlainType} → SubstitutedType s (both a c) y → (b d : PlainType) × (y ≡ both b d) × SubstitutedType s a b × SubstitutedType s c d
of_both (in_both {x = x} {y = y} p q) = (x, y, refl, p, q)

of_monad : {s : Environment} {t : PlainTelescope} {y : PlainType} → SubstitutedType s (monad t) y → (u : PlainTelescope) × (y ≡ monad u) × SubstitutedTelescope s t u
of_monad (in_monad {u = u} p) = (u, refl, p)

of_family : {s : Environment} {f : ℕ} {ns : List PlainObject} {y : PlainType} → SubstitutedType s (family f ns) y → (xs : List PlainObject) × (y ≡ family f xs) × SubstitutedEach s ns xs
of_family (in_family {xs = xs} p) = (xs, refl, p)

of_binding : {s : Environment} {m : Mode} {a : PlainType} {t y : PlainTelescope} → SubstitutedTelescope s (binding m a t) y → (b : PlainType) × (u : PlainTelescope) × (y ≡ binding m b u) × SubstitutedType s a b × SubstitutedTelescope (under 1 s) t u
of_binding (in_binding {x = x} {u = u} p q) = (x, u, refl, p, q)

domains : {m : Mode} {a b c d : PlainType} → function m a c ≡ function m b d → a ≡ b
domains e = cc

codomains : {m : Mode} {a b c d : PlainType} → function m a c ≡ function m b d → c ≡ d
codomains e = cc

lefts : {a b c d : PlainType} → both a c ≡ both b d → a ≡ b
lefts e = cc

rights : {a b c d : PlainType} → both a c ≡ both b d → c ≡ d
rights e = cc

insides : {s t : PlainTelescope} → monad s ≡ monad t → s ≡ t
insides e = cc

indices : {f g : ℕ} {ns os : List PlainObject} → family f ns ≡ family g os → ns ≡ os
indices e = cc

names : {f g : ℕ} {ns os : List PlainObject} → family f ns ≡ family g os → f ≡ g
names e = cc

first_entries : {m : Mode} {a b : PlainType} {s t : PlainTelescope} → binding m a s ≡ binding m b t → a ≡ b
first_entries e = cc

later_entries : {m : Mode} {a b : PlainType} {s t : PlainTelescope} → binding m a s ≡ binding m b t → s ≡ t
later_entries e = cc

there : {s : Environment} {t u v w : PlainType} → SubstitutedType s t u → t ≡ v → u ≡ w → SubstitutedType s v w
there {s = s} {u = u} {v = v} p e f = subst (λ (x : PlainType). SubstitutedType s v x) f (subst (λ (x : PlainType). SubstitutedType s x u) e p)

there_telescope : {s : Environment} {t u v w : PlainTelescope} → SubstitutedTelescope s t u → t ≡ v → u ≡ w → SubstitutedTelescope s v w
there_telescope {s = s} {u = u} {v = v} p e f = subst (λ (x : PlainTelescope). SubstitutedTelescope s v x) f (subst (λ (x : PlainTelescope). SubstitutedTelescope s x u) e p)

there_each : {s : Environment} {t u v w : List PlainObject} → SubstitutedEach s t u → t ≡ v → u ≡ w → SubstitutedEach s v w
there_each {s = s} {u = u} {v = v} p e f = subst (λ (x : List PlainObject). SubstitutedEach s v x) f (subst (λ (x : List PlainObject). SubstitutedEach s x u) e p)

pub functions_between : {s : Environment} {m : Mode} {t u a b c d : PlainType} → SubstitutedType s t u → t ≡ function m a c → u ≡ function m b d → SubstitutedType s a b × SubstitutedType (under 1 s) c d
functions_between p e f = let (x, y, g, q, r) = of_function (there p e f) in (there q refl (sym (domains g)), there r refl (sym (codomains g)))

pub boths_between : {s : Environment} {t u a b c d : PlainType} → SubstitutedType s t u → t ≡ both a c → u ≡ both b d → SubstitutedType s a b × SubstitutedType s c d
boths_between p e f = let (x, y, g, q, r) = of_both (there p e f) in (there q refl (sym (lefts g)), there r refl (sym (rights g)))

pub monads_between : {s : Environment} {t u : PlainType} {a b : PlainTelescope} → SubstitutedType s t u → t ≡ monad a → u ≡ monad b → SubstitutedTelescope s a b
monads_between p e f = let (x, g, q) = of_monad (there p e f) in there_telescope q refl (sym (insides g))

pub families_between : {s : Environment} {t u : PlainType} {f g : ℕ} {ns os : List PlainObject} → SubstitutedType s t u → t ≡ family f ns → u ≡ family g os → SubstitutedEach s ns os × (f ≡ g)
families_between p e h = let (x, g, q) = of_family (there p e h) in (there_each q refl (sym (indices g)), sym (names g))

pub bindings_between : {s : Environment} {m : Mode} {t u c d : PlainTelescope} {a b : PlainType} → SubstitutedTelescope s t u → t ≡ binding m a c → u ≡ binding m b d → SubstitutedType s a b × SubstitutedTelescope (under 1 s) c d
bindings_between p e f = let (x, y, g, q, r) = of_binding (there_telescope p e f) in (there q refl (sym (first_entries g)), there_telescope r refl (sym (later_entries g)))

-- equations in parts
pub solves_both : (s : Environment) (p q : List Equation) → SolvesEach s p → SolvesEach s q → SolvesEach s (p ++ q)
solves_both s [] q x y = y
solves_both s (e ∷ p) q x y = (x.0, solves_both s p q x.1 y)

pub solves_first : (s : Environment) (p q : List Equation) → SolvesEach s (p ++ q) → SolvesEach s p
solves_first s [] q x = tt
solves_first s (e ∷ p) q x = (x.0, solves_first s p q x.1)

pub solves_second : (s : Environment) (p q : List Equation) → SolvesEach s (p ++ q) → SolvesEach s q
solves_second s [] q x = x
solves_second s (e ∷ p) q x = solves_second s p q x.1

pub same_length : (g : Context) → length (simple_locals g) ≡ length g
same_length [] = refl
same_length (e ∷ g) = ap suc (same_length g)

heads_of : {s : Environment} {o : PlainObject} {os xs : List PlainObject} → SubstitutedEach s (o ∷ os) xs → (y : PlainObject) × (ys : List PlainObject) × (xs ≡ y ∷ ys) × Substituted s o y × SubstitutedEach s os ys
heads_of (each_next {x = x} {xs = xs} p q) = (x, xs, refl, p, q)

joined_heads : {o u : List PlainObject} {x y : PlainObject} {xs ys : List PlainObject} → JoinedEach o u → o ≡ x ∷ xs → u ≡ y ∷ ys → JoinedEach (x ∷ xs) (y ∷ ys)
joined_heads {o = o} {u = u} {x = x} {y = y} {xs = xs} {ys = ys} p e f = subst (λ (w : List PlainObject). JoinedEach (x ∷ xs) w) f (subst (λ (v : List PlainObject). JoinedEach v u) e p)

-- indices whose instances are joined solve their equations
pub pairs_solved : (s : Environment) (l : Locals) (ts : List SimpleType) (os ns xs ys : List PlainObject) (q : List Equation) → Pairs l ts os ns q
    → SubstitutedEach (under (length l) s) os xs → SubstitutedEach (under (length l) s) ns ys → JoinedEach xs ys → SolvesEach s q
pairs_solved s l [] [] [] xs ys q p a b j = subst (SolvesEach s) (sym p) tt
pairs_solved s l (t ∷ ts) (o ∷ os) (n ∷ ns) xs ys q p a b j =
    let (x, xs', e, c, c') = heads_of a in let (y, ys', f, d, d') = heads_of b in let k = joined_heads j e f in
    subst (SolvesEach s) (sym p.1) ((x, y, c, d, k.0), pairs_solved s l ts os ns xs' ys' p.0 p.2 c' d' k.1)
pairs_solved s l [] (o ∷ os) ns xs ys q p a b j = absurd p
pairs_solved s l [] [] (n ∷ ns) xs ys q p a b j = absurd p
pairs_solved s l (t ∷ ts) [] ns xs ys q p a b j = absurd p
pairs_solved s l (t ∷ ts) (o ∷ os) [] xs ys q p a b j = absurd p
