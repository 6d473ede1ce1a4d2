-- Kinds with one number are one kind.
use Rattle.std.proofs.Common.{◌≡◌, ℕ, zero, suc, List, [], ◌∷◌, true, false, refl, sym, ap, ◌∙◌}
use Rattle.std.proofs.lemmas.Bool.{eq-eqb, eqb-true, ne_eqb}
use Rattle.celf_lexer.specs.declared.token.TokenKind.{TokenKind}
use Rattle.celf_lexer.specs.declared.token.TokenKind.TheVariants.{End}
use Rattle.celf_lexer.specs.declared.token.TokenKind.TheVariants as token
use Rattle.celf_grammar.specs.KindNumbers.{kind_number, same_kind}

-- a kind by its place
pub kind_at : ℕ → TokenKind
kind_at n = place n kinds
  where
    kinds : List TokenKind
    kinds = token.KwType ∷ token.KwPi ∷ token.KwExists ∷ token.KwLet ∷ token.KwIn ∷ token.Hole ∷ token.Number ∷ token.Name false ∷ token.Name true
        ∷ token.ConstName ∷ token.Proj1 ∷ token.Proj2 ∷ token.Directive ∷ token.Arrow ∷ token.BackArrow ∷ token.Lolli ∷ token.BackLolli ∷ token.Affine
        ∷ token.TopSign ∷ token.UnitSign ∷ token.Less ∷ token.Greater ∷ token.LeftBrace ∷ token.RightBrace ∷ token.LeftParen ∷ token.RightParen
        ∷ token.LeftBracket ∷ token.RightBracket ∷ token.Comma ∷ token.Stop ∷ token.Colon ∷ token.Equals ∷ token.Backslash ∷ token.Bang ∷ token.AtSign
        ∷ token.Star ∷ token.Amp ∷ []

    place : ℕ → List TokenKind → TokenKind
    place n [] = End
    place zero (k ∷ ks) = k
    place (suc n) (k ∷ ks) = place n ks

pub kind_at-number : (k : TokenKind) → kind_at (kind_number k) ≡ k
unfolding kind_at
kind_at-number (token.Name false) = refl
kind_at-number (token.Name true) = refl
kind_at-number _ = refl

pub same_kind-yes : (j k : TokenKind) → j ≡ k → same_kind j k ≡ true
same_kind-yes j k e = eq-eqb (kind_number j) (kind_number k) (ap kind_number e)

pub same_kind-is : (j k : TokenKind) → same_kind j k ≡ true → j ≡ k
same_kind-is j k e = sym (kind_at-number j) ∙ ap kind_at (eqb-true (kind_number j) (kind_number k) e) ∙ kind_at-number k

pub same_kind-no : (j k : TokenKind) → (j ≡ k → ⊥) → same_kind j k ≡ false
same_kind-no j k n = ne_eqb (kind_number j) (kind_number k) (λ e. n (sym (kind_at-number j) ∙ ap kind_at e ∙ kind_at-number k))
