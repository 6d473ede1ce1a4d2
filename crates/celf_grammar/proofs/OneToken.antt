-- A token that is taken leads to one state.
use Rattle.std.proofs.Common.{◌≡◌, ◌-◌, ℕ, List, Bool, true, false, refl, sym, ap, ◌∙◌, Option}
use Rattle.std.specs.Prelude.{◌==◌}
use Rattle.std.proofs.lemmas.Bool.{true≢false, eq-eqb}
use Rattle.celf_lexer.specs.declared.token.TokenKind.{TokenKind}
use Rattle.celf_lexer.specs.declared.token.TokenKind.TheVariants as token
use Rattle.celf_lexer.specs.Tokens.{Lexeme}
use Rattle.celf_surface.specs.declared.surface.Bound.{Bound}
use Rattle.celf_surface.specs.declared.surface.SMode.{SMode}
use Rattle.celf_grammar.specs.State.{State, next_kind, Ends, TakesToken, Takes, Opens, Closes, EndsPart, TakesName, TakesConstant, TakesWord, TakesNumber}
use Rattle.celf_grammar.specs.Grammar.{is_mark, IsMark, mark_persistent, mark_affine, mark_none, IsBinder, binder_named, binder_hole}
use Rattle.celf_grammar.proofs.Begins.{kind-taken}

-- What two readings found is the same, and so is where they came to.
abbrev pub Same : {T : Type 0} → T → State → T → State → Type 0
Same x u y v = (x ≡ y) × (u ≡ v)

-- Two forms with different numbers are not both there.
pub apart : {a b : ℕ} → (a == b) ≡ false → a ≡ b → ⊥
apart {a} {b} n e = true≢false (sym (eq-eqb a b e) ∙ n)

pub same-kind : {s r : State} → s ≡ r → next_kind s.rest ≡ next_kind r.rest
same-kind e = ap (λ (x : State). next_kind x.rest) e

pub same-room : {s r : State} → s ≡ r → s.room ≡ r.room
same-room e = ap (λ (x : State). x.room) e

abbrev state_of : List Lexeme → ℕ → ℕ → State
state_of ts room end = record { rest = ts; room = room; end = end }

same-state : (u v : State) → u.rest ≡ v.rest → u.room ≡ v.room → u.end ≡ v.end → u ≡ v
same-state u v e f g = ap (λ x. state_of x u.room u.end) e ∙ ap (λ x. state_of v.rest x u.end) f ∙ ap (λ x. state_of v.rest v.room x) g

pub same-token : {l m : ℕ} {t x : Lexeme} {s r u v : State} → TakesToken l t s u → TakesToken m x r v → s ≡ r → l ≡ m → Same t u x v
same-token {t = t} {x = x} {u = u} {v = v} h g e f = let i : t ≡ x = cc in (i, same-state u v (cc) (cc) (cc))

pub takes-same : {j k : TokenKind} {s r u v : State} → Takes j s u → Takes k r v → s ≡ r → u ≡ v
takes-same h g e = (same-token h.taken g.taken e (same-room e)).1

pub opens-same : {j k : TokenKind} {s r u v : State} → Opens j s u → Opens k r v → s ≡ r → u ≡ v
opens-same h g e = (same-token h.taken g.taken e (ap (λ n. n - 1) (same-room e))).1

pub closes-same : {j k : TokenKind} {l m : ℕ} {s r u v : State} → Closes j l s u → Closes k m r v → l ≡ m → s ≡ r → u ≡ v
closes-same h g f e = (same-token h.taken g.taken e f).1

pub part-same : {l m : ℕ} {s r u v : State} → EndsPart l s u → EndsPart m r v → l ≡ m → s ≡ r → u ≡ v
part-same {u = u} {v = v} h g f e = same-state u v (cc) (cc) (cc)

pub name-same : {n m : List ℕ} {s r u v : State} → TakesName s n u → TakesName r m v → s ≡ r → Same n u m v
name-same h g e = let t = same-token h.taken g.taken e (same-room e) in (cc, t.1)

pub constant-same : {n m : List ℕ} {s r u v : State} → TakesConstant s n u → TakesConstant r m v → s ≡ r → Same n u m v
constant-same h g e = let t = same-token h.taken g.taken e (same-room e) in (cc, t.1)

pub word-same : {j k : TokenKind} {n m : List ℕ} {s r u v : State} → TakesWord j n s u → TakesWord k m r v → s ≡ r → Same n u m v
word-same h g e = let t = same-token h.taken g.taken e (same-room e) in (cc, t.1)

pub number-same : {n m : Bound} {s r u v : State} → TakesNumber s n u → TakesNumber r m v → s ≡ r → Same n u m v
number-same h g e = let t = same-token h.taken g.taken e (same-room e) in (cc, t.1)

-- Where nothing of these kinds comes next, nothing does at the same place.
pub none-begins : {T : Type 0} {u v : State} (kinds : TokenKind → Bool) → Ends kinds u → u ≡ v → kinds (next_kind v.rest) ≡ true → T
none-begins kinds h e b = absurd (true≢false (sym b ∙ ap kinds (sym (same-kind e)) ∙ h))

-- Each form of a production has a number, which the kind of the next token tells.

abbrev pub mark_at : TokenKind → ℕ
mark_at token.Bang = 1
mark_at token.AtSign = 2
mark_at _ = 0

abbrev mark_form : {s u : State} {m : SMode} → IsMark s m u → ℕ
mark_form (mark_persistent h) = 1
mark_form (mark_affine h) = 2
mark_form (mark_none e) = 0

pub unmarked : (c : TokenKind) → is_mark c ≡ false → mark_at c ≡ 0
unmarked token.Bang e = absurd (true≢false e)
unmarked token.AtSign e = absurd (true≢false e)
unmarked _ e = refl

mark-form : {s u : State} {m : SMode} (d : IsMark s m u) → mark_at (next_kind s.rest) ≡ mark_form d
mark-form (mark_persistent h) = ap mark_at (kind-taken h.taken h.kind)
mark-form (mark_affine h) = ap mark_at (kind-taken h.taken h.kind)
mark-form {s} (mark_none e) = unmarked (next_kind s.rest) e

pub mark-same : {s r u v : State} {m n : SMode} → IsMark s m u → IsMark r n v → s ≡ r → Same m u n v
mark-same (mark_persistent h) (mark_persistent g) e = (refl, takes-same h g e)
mark-same (mark_affine h) (mark_affine g) e = (refl, takes-same h g e)
mark-same (mark_none h) (mark_none g) e = (refl, e)
mark-same d g e = absurd (apart refl (sym (mark-form d) ∙ ap mark_at (same-kind e) ∙ mark-form g))

abbrev binder_at : TokenKind → ℕ
binder_at token.Hole = 1
binder_at _ = 0

abbrev binder_form : {s u : State} {n : Option (List ℕ)} → IsBinder s n u → ℕ
binder_form (binder_named h) = 0
binder_form (binder_hole h) = 1

binder-form : {s u : State} {n : Option (List ℕ)} (d : IsBinder s n u) → binder_at (next_kind s.rest) ≡ binder_form d
binder-form (binder_named h) = ap binder_at (kind-taken h.taken h.kind)
binder-form (binder_hole h) = ap binder_at (kind-taken h.taken h.kind)

pub binder-same : {s r u v : State} {m n : Option (List ℕ)} → IsBinder s m u → IsBinder r n v → s ≡ r → Same m u n v
binder-same (binder_named h) (binder_named g) e = let n = name-same h g e in (cc, n.1)
binder-same (binder_hole h) (binder_hole g) e = (refl, takes-same h g e)
binder-same d g e = absurd (apart refl (sym (binder-form d) ∙ ap binder_at (same-kind e) ∙ binder-form g))
