-- An item has one tree, and one place where it ends.
use Rattle.std.proofs.Common.{◌≡◌, ℕ, List, [], ◌∷◌, codes, refl, sym, ap, ◌∙◌, Option}
use Rattle.celf_lexer.specs.declared.token.TokenKind.{TokenKind}
use Rattle.celf_lexer.specs.declared.token.TokenKind.TheVariants as token
use Rattle.celf_lexer.specs.Tokens.{Lexeme}
use Rattle.celf_surface.specs.declared.surface.Bound.{Bound}
use Rattle.celf_surface.specs.Surface.{WrittenItem, WrittenBody}
use Rattle.celf_grammar.specs.State.{State, next_kind, TakesDirective}
use Rattle.celf_grammar.specs.Grammar.{is_left_bracket, IsBound, bound_number, bound_star, IsImplicit, implicit_count, implicit_none, IsBody, body_declare, body_query, body_trace, body_equal, body_check, IsItem, item_all}
use Rattle.celf_grammar.specs.Faults.{TreeIsOne, BehindIsOne}
use Rattle.celf_grammar.proofs.Begins.{kind-taken}
use Rattle.celf_grammar.proofs.OneToken.{Same, apart, same-kind, takes-same, name-same, word-same, number-same, none-begins}
use Rattle.celf_grammar.proofs.OneObject.{object-same}
use Rattle.celf_grammar.proofs.OneType.{type-same}

abbrev bound_at : TokenKind → ℕ
bound_at token.Star = 1
bound_at _ = 0

abbrev bound_form : {s u : State} {b : Bound} → IsBound s b u → ℕ
bound_form (bound_number h) = 0
bound_form (bound_star h) = 1

bound-form : {s u : State} {b : Bound} (d : IsBound s b u) → bound_at (next_kind s.rest) ≡ bound_form d
bound-form (bound_number h) = ap bound_at (kind-taken h.taken h.kind)
bound-form (bound_star h) = ap bound_at (kind-taken h.taken h.kind)

bound-same : {s r u v : State} {b c : Bound} → IsBound s b u → IsBound r c v → s ≡ r → Same b u c v
bound-same (bound_number h) (bound_number g) e = number-same h g e
bound-same (bound_star h) (bound_star g) e = (refl, takes-same h g e)
bound-same d g e = absurd (apart refl (sym (bound-form d) ∙ ap bound_at (same-kind e) ∙ bound-form g))

implicit-same : {s r u v : State} {i j : Option Bound} → IsImplicit s i u → IsImplicit r j v → s ≡ r → Same i u j v
implicit-same (implicit_count a n b) (implicit_count c m d) e = let i = number-same n m (takes-same a c e) in (cc, takes-same b d i.1)
implicit-same (implicit_none h) (implicit_none g) e = (refl, e)
implicit-same (implicit_count a n b) (implicit_none h) e = none-begins is_left_bracket h (sym e) (ap is_left_bracket (kind-taken a.taken a.kind))
implicit-same (implicit_none h) (implicit_count a n b) e = none-begins is_left_bracket h e (ap is_left_bracket (kind-taken a.taken a.kind))

-- the letter after the # of a directive, by which bodies are told apart; 0 at another token
abbrev letter_in : TokenKind → List ℕ → ℕ
letter_in token.Directive (a ∷ b ∷ w) = b
letter_in _ _ = 0

abbrev letter_at : List Lexeme → ℕ
letter_at [] = 0
letter_at (t ∷ ts) = letter_in t.kind t.spelling

directive-letter : {w : List ℕ} {s u : State} → TakesDirective w s u → letter_at s.rest ≡ letter_in token.Directive w
directive-letter h = ap letter_at h.taken.first ∙ ap (λ c. letter_in c h.token.spelling) h.kind ∙ ap (letter_in token.Directive) h.spelled

abbrev body_form : {s u : State} {b : WrittenBody} → IsBody s b u → ℕ
body_form (body_declare n c i t) = 0
body_form (body_query h w x y z t) = letter_in token.Directive (codes "#query")
body_form (body_trace h n t) = letter_in token.Directive (codes "#trace")
body_form (body_equal h l e r c t) = letter_in token.Directive (codes "#equal")
body_form (body_check h o c t) = letter_in token.Directive (codes "#check")

body-form : {s u : State} {b : WrittenBody} (d : IsBody s b u) → letter_at s.rest ≡ body_form d
body-form (body_declare n c i t) = ap letter_at n.taken.first ∙ ap (λ c. letter_in c n.token.spelling) n.kind
body-form (body_query h w x y z t) = directive-letter h
body-form (body_trace h n t) = directive-letter h
body-form (body_equal h l e r c t) = directive-letter h
body-form (body_check h o c t) = directive-letter h

body-same : {s r u v : State} {b c : WrittenBody} → IsBody s b u → IsBody r c v → s ≡ r → Same b u c v
body-same (body_declare n c i t) (body_declare m d j w) e =
    let a = name-same n m e in let b = implicit-same i j (takes-same c d a.1) in let x = type-same t w b.1 in (cc, x.1)
body-same (body_query h w x y z t) (body_query g k l m n f) e =
    let a = bound-same w k (word-same h g e).1 in let b = bound-same x l a.1 in let c = bound-same y m b.1 in let d = bound-same z n c.1 in
    let i = type-same t f d.1 in (cc, i.1)
body-same (body_trace h n t) (body_trace g m w) e = let a = bound-same n m (word-same h g e).1 in let b = type-same t w a.1 in (cc, b.1)
body-same (body_equal h l q r c t) (body_equal g k p x d w) e =
    let a = object-same l k (word-same h g e).1 in let b = object-same r x (takes-same q p a.1) in let i = type-same t w (takes-same c d b.1) in (cc, i.1)
body-same (body_check h o c t) (body_check g p d w) e =
    let a = object-same o p (word-same h g e).1 in let b = type-same t w (takes-same c d a.1) in (cc, b.1)
body-same d g e = absurd (apart refl (sym (body-form d) ∙ ap (λ (x : State). letter_at x.rest) e ∙ body-form g))

item-same : {s r u v : State} {i j : WrittenItem} → IsItem s i u → IsItem r j v → s ≡ r → Same i u j v
item-same (item_all b d) (item_all c g) e = let i = body-same b c e in let j = takes-same d g i.1 in (cc, j)

pub tree-one : TreeIsOne
tree-one s u v i j h g = (item-same h g refl).0

pub behind-one : BehindIsOne
behind-one s u v i j h g = (item-same h g refl).1
