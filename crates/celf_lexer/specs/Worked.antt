-- Some texts with their tokens, worked out by hand.
use Rattle.std.specs.Prelude.{ℕ, ◌≡◌, true, false, List, [], ◌∷◌, map, Err, codes}
use Rattle.celf_lexer.specs.declared.token.TokenKind.{TokenKind}
use Rattle.celf_lexer.specs.declared.token.TokenKind.TheVariants.{KwPi, Name, ConstName, Proj1, Directive, Arrow, BackArrow, Lolli, BackLolli, Affine, TopSign, UnitSign, Less, Greater, Comma, Stop, Colon, Amp, End}
use Rattle.celf_lexer.specs.declared.token.LexFault.TheVariants.{BadByte}
use Rattle.celf_lexer.specs.Tokens.{tokens_from, next_token}

-- the tokens of a text: the kind of each, and its spelling
abbrev pub tokens_in : List ℕ → List (TokenKind × List ℕ)
tokens_in text = map (λ t. (t.kind, t.spelling)) (tokens_from text 0)

pub record WorkedTokens : Type 0 where
  pub hyphen_in_a_word : tokens_in (codes "a-o b") ≡ (Name false, codes "a-o") ∷ (Name false, codes "b") ∷ (End, []) ∷ []
  pub linear : tokens_in (codes "a -o b") ≡ (Name false, codes "a") ∷ (Lolli, codes "-o") ∷ (Name false, codes "b") ∷ (End, []) ∷ []
  pub backwards : tokens_in (codes "b o- a") ≡ (Name false, codes "b") ∷ (BackLolli, codes "o-") ∷ (Name false, codes "a") ∷ (End, []) ∷ []
  pub affine : tokens_in (codes "a-@b<-c") ≡ (Name false, codes "a") ∷ (Affine, codes "-@") ∷ (Name false, codes "b") ∷ (BackArrow, codes "<-") ∷ (Name false, codes "c") ∷ (End, []) ∷ []
  pub arrow_behind_o : tokens_in (codes "o->b") ≡ (Name false, codes "o") ∷ (Arrow, codes "->") ∷ (Name false, codes "b") ∷ (End, []) ∷ []
  pub longest_sign : tokens_in (codes "<x, <>>") ≡ (Less, codes "<") ∷ (Name false, codes "x") ∷ (Comma, codes ",") ∷ (UnitSign, codes "<>") ∷ (Greater, codes ">") ∷ (End, []) ∷ []
  pub unit_type : tokens_in (codes "<T>&X % c") ≡ (TopSign, codes "<T>") ∷ (Amp, codes "&") ∷ (Name true, codes "X") ∷ (End, []) ∷ []
  pub projection : tokens_in (codes "#1 x") ≡ (Proj1, codes "#1") ∷ (Name false, codes "x") ∷ (End, []) ∷ []
  pub constant : tokens_in (codes "$ps") ≡ (ConstName, codes "$ps") ∷ (End, []) ∷ []
  pub keyword : tokens_in (codes "Pi x:a.") ≡ (KwPi, codes "Pi") ∷ (Name false, codes "x") ∷ (Colon, codes ":") ∷ (Name false, codes "a") ∷ (Stop, codes ".") ∷ (End, []) ∷ []
  pub directive : tokens_in (codes "#check") ≡ (Directive, codes "#check") ∷ (End, []) ∷ []
  pub no_arrow : next_token (codes "-ox") 0 ≡ Err (BadByte 0)
