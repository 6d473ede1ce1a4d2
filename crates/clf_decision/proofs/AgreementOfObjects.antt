-- The check of lambdas, pairs and the unit agrees with the rules, where that of their parts does.
use Rattle.std.proofs.Common.{◌≡◌, ℕ, suc, Bool, true, false, ◌&&◌, if◌then◌else◌, ◌∷◌, [], length, Option, None, Some, refl, sym, subst}
use Rattle.clf_syntax.specs.declared.tree.Mode.{Mode}
use Rattle.clf_syntax.specs.TypeTree.{PlainType, family, function, both, top, monad}
use Rattle.use_contexts.specs.Context.{Context, modes}
use Rattle.use_contexts.specs.Holding.{Holding, WellMarked}
use Rattle.use_contexts.specs.Rows.{Answer, Agrees, Leftover, left_in_both, newest_difference, is_unused, newest, older}
use Rattle.use_contexts.proofs.RowAnswers.{paired, paired_unless, closed}
use Rattle.use_contexts.proofs.RowLaws.{agrees-same, pair-agrees}
use Rattle.use_contexts.proofs.UseLaws.{IsSubholding-self, unit-agrees, scope-agrees}
use Rattle.clf_syntax.specs.Modes.{same_mode}
use Rattle.clf_rules.specs.Typing.{LambdaRule, PairRule}
use Rattle.clf_rules.specs.Refusal.{unused, mode_differs}
use Rattle.clf_decision.specs.Outcome.{Outcome, passed, refused, at_part, and_then, answer_of}
use Rattle.clf_decision.specs.Checking.{closed_scope, lambda_left, joined_left, pair_left, unit_left}
use Rattle.trace_equal.proofs.FirstMatching.{mode_sound}
use Rattle.clf_decision.proofs.Tests.{other-mode}

-- ---- types
pub function-mode : {m k : Mode} {a b c d : PlainType} → function m a b ≡ function k c d → m ≡ k
function-mode e = cc

pub function-argument : {m k : Mode} {a b c d : PlainType} → function m a b ≡ function k c d → a ≡ c
function-argument e = cc

pub function-result : {m k : Mode} {a b c d : PlainType} → function m a b ≡ function k c d → b ≡ d
function-result e = cc

pub both-left : {a b c d : PlainType} → both a b ≡ both c d → a ≡ c
both-left e = cc

pub both-right : {a b c d : PlainType} → both a b ≡ both c d → b ≡ d
both-right e = cc

-- a property of two types, said of equal ones
moved : (P : PlainType → PlainType → Type 0) {a b c d : PlainType} → a ≡ c → b ≡ d → P c d → P a b
moved P {a = a} {d = d} e f p = subst (λ z. P a z) (sym f) (subst (λ z. P z d) (sym e) p)

-- ---- lambda
pub closed-answer : (m : Mode) (g : Context) (r : Outcome Leftover) → answer_of (and_then r (closed_scope m g)) ≡ closed m (answer_of r)
closed-answer m g (refused path cause) = refl
closed-answer m g (passed a) = by (is_unused m (newest a.0) a.1)
  where
    by : (b : Bool) → answer_of (if b then refused [] (unused (suc (length g))) else passed (older a.0, a.1)) ≡ (if b then None else Some (older a.0, a.1))
    by true = refl
    by false = refl

pub part-answer : (j : ℕ) (r : Outcome Leftover) → answer_of (at_part j r) ≡ answer_of r
part-answer j (passed a) = refl
part-answer j (refused path cause) = refl

closed_part : (m : Mode) (g : Context) (r : Outcome Leftover) → answer_of (and_then (at_part 0 r) (closed_scope m g)) ≡ closed m (answer_of r)
closed_part m g (refused path cause) = refl
closed_part m g (passed a) = closed-answer m g (passed a)

-- the rule of a lambda, of any property of its body
abbrev LambdaHas : Mode → (PlainType → PlainType → Holding → Type 0) → PlainType → Holding → Type 0
LambdaHas m P t p = LambdaRule m t (λ a c. P a c (true ∷ p))

lambda-same : (m : Mode) (g : Context) (h : Holding) (a c : PlainType) (r : Outcome Leftover) (P : PlainType → PlainType → Holding → Type 0)
    → Agrees (m ∷ modes g) (true ∷ h) (answer_of r) (P a c)
    → Agrees (modes g) h (answer_of (and_then (at_part 0 r) (closed_scope m g))) (LambdaHas m P (function m a c))
lambda-same m g h a c r P x =
    subst (λ (y : Answer). Agrees (modes g) h y (LambdaHas m P (function m a c))) (sym (closed_part m g r))
    (agrees-same (modes g) h (closed m (answer_of r)) (λ p. P a c (true ∷ p)) (LambdaHas m P (function m a c))
    (λ p y. record { domain = a; range = c; type = refl; body = y })
    (λ p y. moved (λ d b. P d b (true ∷ p)) (function-argument y.type) (function-result y.type) y.body)
    (scope-agrees m (modes g) h (answer_of r) (P a c) x))

lambda-function : (m k : Mode) (b : Bool) → same_mode m k ≡ b → (g : Context) (h : Holding) (a c : PlainType) (r : Outcome Leftover) (P : PlainType → PlainType → Holding → Type 0)
    → (m ≡ k → Agrees (m ∷ modes g) (true ∷ h) (answer_of r) (P a c))
    → Agrees (modes g) h (answer_of (if b then and_then (at_part 0 r) (closed_scope m g) else refused [] (mode_differs k m))) (LambdaHas m P (function k a c))
lambda-function m k true e g h a c r P x =
    subst (λ j. Agrees (modes g) h (answer_of (and_then (at_part 0 r) (closed_scope m g))) (LambdaHas m P (function j a c))) (mode_sound m k e) (lambda-same m g h a c r P (x (mode_sound m k e)))
lambda-function m k false e g h a c r P x = λ p w y. other-mode m k e (function-mode y.type)

no-lambda : (m : Mode) (g : Context) (h : Holding) (t : PlainType) (P : PlainType → PlainType → Holding → Type 0)
    → ((a c : PlainType) → t ≡ function m a c → ⊥) → Agrees (modes g) h None (LambdaHas m P t)
no-lambda m g h t P f = λ p w y. f y.domain y.range y.type

pub lambda-agrees : (m : Mode) (g : Context) (h : Holding) (t : PlainType) (body : PlainType → PlainType → Outcome Leftover) (P : PlainType → PlainType → Holding → Type 0)
    → ((a c : PlainType) → t ≡ function m a c → Agrees (m ∷ modes g) (true ∷ h) (answer_of (body a c)) (P a c))
    → Agrees (modes g) h (answer_of (lambda_left m g t body)) (LambdaHas m P t)
lambda-agrees m g h (function k a c) body P f =
    lambda-function m k (same_mode m k) refl g h a c (body a c) P (λ e. f a c (subst (λ j. function k a c ≡ function j a c) (sym e) refl))
lambda-agrees m g h (family i ns) body P f = no-lambda m g h (family i ns) P (λ a c q. absurd (cc))
lambda-agrees m g h (both a c) body P f = no-lambda m g h (both a c) P (λ d b q. absurd (cc))
lambda-agrees m g h top body P f = no-lambda m g h top P (λ a c q. absurd (cc))
lambda-agrees m g h (monad s) body P f = no-lambda m g h (monad s) P (λ a c q. absurd (cc))

-- ---- pairs
joined-answer : (g : Context) (x y : Outcome Leftover)
    → answer_of (and_then (at_part 0 x) (λ a. and_then (at_part 1 y) (λ b. joined_left g a b (newest_difference (modes g) a.0 a.1 b.0 b.1)))) ≡ paired (modes g) (answer_of x) (answer_of y)
joined-answer g (refused path cause) y = refl
joined-answer g (passed a) (refused path cause) = refl
joined-answer g (passed a) (passed b) = by (newest_difference (modes g) a.0 a.1 b.0 b.1)
  where
    by : (o : Option ℕ) → answer_of (joined_left g a b o) ≡ paired_unless o (left_in_both a.0 b.0, a.1 && b.1)
    by None = refl
    by (Some i) = refl

-- the rule of a pair, of any properties of its parts
abbrev PairHas : (PlainType → Holding → Type 0) → (PlainType → Holding → Type 0) → PlainType → Holding → Type 0
PairHas P Q t p = PairRule t (λ a. P a p) (λ c. Q c p)

no-pair : (g : Context) (h : Holding) (t : PlainType) (P Q : PlainType → Holding → Type 0) → ((a c : PlainType) → t ≡ both a c → ⊥) → Agrees (modes g) h None (PairHas P Q t)
no-pair g h t P Q f = λ p w y. f y.left_type y.right_type y.type

pub pair-left-agrees : (g : Context) (h : Holding) (t : PlainType) (left right : PlainType → Outcome Leftover) (P Q : PlainType → Holding → Type 0)
    → ((a c : PlainType) → t ≡ both a c → Agrees (modes g) h (answer_of (left a)) (P a) × Agrees (modes g) h (answer_of (right c)) (Q c))
    → Agrees (modes g) h (answer_of (pair_left g t left right)) (PairHas P Q t)
pair-left-agrees g h (both a c) left right P Q f =
    let parts = f a c refl in
    subst (λ (z : Answer). Agrees (modes g) h z (PairHas P Q (both a c))) (sym (joined-answer g (left a) (right c)))
    (agrees-same (modes g) h (paired (modes g) (answer_of (left a)) (answer_of (right c))) (λ p. P a p × Q c p) (PairHas P Q (both a c))
    (λ p z. record { left_type = a; right_type = c; type = refl; left = z.0; right = z.1 })
    (λ p z. moved (λ d b. P d p × Q b p) (both-left z.type) (both-right z.type) (z.left, z.right))
    (pair-agrees (modes g) h (answer_of (left a)) (answer_of (right c)) (P a) (Q c) parts.0 parts.1))
pair-left-agrees g h (family i ns) left right P Q f = no-pair g h (family i ns) P Q (λ a c q. absurd (cc))
pair-left-agrees g h (function m a c) left right P Q f = no-pair g h (function m a c) P Q (λ d b q. absurd (cc))
pair-left-agrees g h top left right P Q f = no-pair g h top P Q (λ a c q. absurd (cc))
pair-left-agrees g h (monad s) left right P Q f = no-pair g h (monad s) P Q (λ a c q. absurd (cc))

-- ---- unit
pub unit-left-agrees : (g : Context) (h : Holding) (t : PlainType) → WellMarked (modes g) h → Agrees (modes g) h (answer_of (unit_left h t)) (λ p. t ≡ top)
unit-left-agrees g h top w =
    agrees-same (modes g) h (Some (h, true)) (λ p. Unit {0}) (λ p. top ≡ top) (λ p x. refl) (λ p x. tt) (unit-agrees (modes g) h (IsSubholding-self (modes g) h w))
unit-left-agrees g h (family i ns) w = λ p u e. absurd (cc)
unit-left-agrees g h (function m a c) w = λ p u e. absurd (cc)
unit-left-agrees g h (both a c) w = λ p u e. absurd (cc)
unit-left-agrees g h (monad s) w = λ p u e. absurd (cc)
