use Rattle.std.specs.Prelude.{refl}
use Rattle.celf_lexer.specs.Sign.{front}
use Rattle.celf_lexer.specs.Tokens.{first_of, tokens_of}
use Rattle.celf_lexer.proofs.laws.worked_tokens.Goals as goal

pub returns : goal.returns
unfolding front first_of tokens_of
returns c = record {
  hyphen_in_a_word = refl;
  linear = refl;
  backwards = refl;
  affine = refl;
  arrow_behind_o = refl;
  longest_sign = refl;
  unit_type = refl;
  projection = refl;
  constant = refl;
  keyword = refl;
  directive = refl;
  no_arrow = refl;
}
