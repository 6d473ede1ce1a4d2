-- What follows for a call that answers as the function does, and how faults are passed on.
use Rattle.std.specs.Prelude.{◌≡◌, Ok, Err, Result, IfOk}
use Rattle.std.proofs.Common.{ap, subst, sym, ◌∙◌}
use Rattle.hered_put.specs.declared.fault.PutFault.{PutFault}
use Rattle.hered_put.specs.declared.fault.PutFault.TheVariants.{Untyped, TooFar, NoMemory}
use Rattle.hered_put.specs.Function.{Answer, untyped, too_far}
use Rattle.hered_put.specs.Laws.{Meets, Fine}
use Rattle.hered_put.specs.Answers.{Answers, FailsAs, Keeps, PassesOnly}

answers-meet : {X P : Type 0} (plain : X → P) (want : Answer P) (r : Result X PutFault) (Q : P → Type 0) (F : Type 0) → Answers plain want r → Meets want Q F → IfOk r (λ x. Q (plain x))
answers-meet plain want (Ok x) Q F a m = subst (λ w. Meets w Q F) a m
answers-meet plain want (Err fault) Q F a m = tt

answers-pass : {X P : Type 0} (plain : X → P) (want : Answer P) (r : Result X PutFault) (Q : P → Type 0) (F : Type 0) → Answers plain want r → Meets want Q F → PassesOnly r F
answers-pass plain want (Ok x) Q F a m = tt
answers-pass plain want (Err Untyped) Q F a m = tt
answers-pass plain want (Err TooFar) Q F a m = subst (λ w. Meets w Q F) a m
answers-pass plain want (Err NoMemory) Q F a m = tt

-- what a call answers: what the function makes; what the rules relate; too far only where there is such a reason
abbrev pub Met : {X P : Type 0} → (X → P) → Answer P → Result X PutFault → (P → Type 0) → Type 0 → Type 0
Met plain want r Q F = Answers plain want r × IfOk r (λ x. Q (plain x)) × PassesOnly r F

pub answers-all : {X P : Type 0} (plain : X → P) (want : Answer P) (r : Result X PutFault) (Q : P → Type 0) (F : Type 0) → Answers plain want r → Meets want Q F → Met plain want r Q F
answers-all plain want r Q F a m = (a, answers-meet plain want r Q F a m, answers-pass plain want r Q F a m)

pub answers-keep : {X P : Type 0} (plain : X → P) (want : Answer P) (r : Result X PutFault) (Q : P → Type 0) → Answers plain want r → Fine want Q → Keeps r (λ x. Q (plain x))
answers-keep plain want (Ok x) Q a m = subst (λ w. Fine w Q) a m
answers-keep plain want (Err Untyped) Q a m = subst (λ w. Fine w Q) a m
answers-keep plain want (Err TooFar) Q a m = tt
answers-keep plain want (Err NoMemory) Q a m = tt

-- a fault that is passed on
pub erred : {X P : Type 0} (plain : X → P) (want : Answer P) (r : Result X PutFault) (fault : PutFault) → r ≡ Err fault → FailsAs want fault → Answers plain want r
erred plain want r fault e h = subst (λ q. Answers plain want q) (sym e) h

pub fails-through : {P Q : Type 0} (w : Answer P → Answer Q) (a : Answer P) (want : Answer Q) (fault : PutFault) → want ≡ w a → w untyped ≡ untyped → w too_far ≡ too_far → FailsAs a fault → FailsAs want fault
fails-through w a want Untyped e u t h = e ∙ ap w h ∙ u
fails-through w a want TooFar e u t h = e ∙ ap w h ∙ t
fails-through w a want NoMemory e u t h = tt
