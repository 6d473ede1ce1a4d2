-- Inner: a number for each kind of token, by which kinds are told apart.
use Rattle.std.specs.Prelude.{ℕ, Bool, false, true, ◌==◌}
use Rattle.celf_lexer.specs.declared.token.TokenKind.{TokenKind}
use Rattle.celf_lexer.specs.declared.token.TokenKind.TheVariants.{KwType, KwPi, KwExists, KwLet, KwIn, Hole, Number, Name, ConstName, Proj1, Proj2, Directive, Arrow, BackArrow, Lolli, BackLolli, Affine, TopSign, UnitSign, Less, Greater, LeftBrace, RightBrace, LeftParen, RightParen, LeftBracket, RightBracket, Comma, Stop, Colon, Equals, Backslash, Bang, AtSign, Star, Amp, End}

abbrev pub kind_number : TokenKind → ℕ
kind_number KwType = 0
kind_number KwPi = 1
kind_number KwExists = 2
kind_number KwLet = 3
kind_number KwIn = 4
kind_number Hole = 5
kind_number Number = 6
kind_number (Name false) = 7
kind_number (Name true) = 8
kind_number ConstName = 9
kind_number Proj1 = 10
kind_number Proj2 = 11
kind_number Directive = 12
kind_number Arrow = 13
kind_number BackArrow = 14
kind_number Lolli = 15
kind_number BackLolli = 16
kind_number Affine = 17
kind_number TopSign = 18
kind_number UnitSign = 19
kind_number Less = 20
kind_number Greater = 21
kind_number LeftBrace = 22
kind_number RightBrace = 23
kind_number LeftParen = 24
kind_number RightParen = 25
kind_number LeftBracket = 26
kind_number RightBracket = 27
kind_number Comma = 28
kind_number Stop = 29
kind_number Colon = 30
kind_number Equals = 31
kind_number Backslash = 32
kind_number Bang = 33
kind_number AtSign = 34
kind_number Star = 35
kind_number Amp = 36
kind_number End = 37

abbrev pub same_kind : TokenKind → TokenKind → Bool
same_kind j k = kind_number j == kind_number k
