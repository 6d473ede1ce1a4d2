-- What a call answers that substitutes.
use Rattle.std.specs.Prelude.{◌≡◌, Ok, Err, Result}
use Rattle.hered_put.specs.declared.fault.PutFault.{PutFault}
use Rattle.hered_put.specs.declared.fault.PutFault.TheVariants.{Untyped, TooFar, NoMemory}
use Rattle.hered_put.specs.Function.{Answer, made, untyped, too_far}

-- It answers so where the function makes nothing. Lack of memory is free.
abbrev pub FailsAs : {P : Type 0} → Answer P → PutFault → Type 0
FailsAs want Untyped = want ≡ untyped
FailsAs want TooFar = want ≡ too_far
FailsAs want NoMemory = Unit {0}

-- It answers the tree that the function makes, and fails as the function does.
abbrev pub Answers : {X P : Type 0} → (X → P) → Answer P → Result X PutFault → Type 0
Answers plain want (Ok x) = want ≡ made (plain x)
Answers plain want (Err fault) = FailsAs want fault

-- What is answered is such, and it is not refused as untyped.
abbrev pub Keeps : {X : Type 0} → Result X PutFault → (X → Type 0) → Type 0
Keeps (Ok x) P = P x
Keeps (Err Untyped) P = ⊥
Keeps (Err TooFar) P = Unit {0}
Keeps (Err NoMemory) P = Unit {0}

-- Where a number is too far, this is so.
abbrev pub PassesOnly : {X : Type 0} → Result X PutFault → Type 0 → Type 0
PassesOnly (Ok x) F = Unit {0}
PassesOnly (Err Untyped) F = Unit {0}
PassesOnly (Err TooFar) F = F
PassesOnly (Err NoMemory) F = Unit {0}
