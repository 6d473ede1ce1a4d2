-- The printed lines of objects with their types spell what they ask.
use Rattle.std.proofs.Common.{ℕ, ◌≡◌, ◌+◌, ◌-◌, ◌≤◌, false, refl, ◌∙◌, subst, List, [], ◌∷◌, ◌++◌, append_assoc, None, codes, arith}
use Rattle.celf_lexer.specs.declared.token.TokenKind.TheVariants as kind
use Rattle.celf_lexer.specs.Tokens.{Lexeme, tokens_of}
use Rattle.celf_lexer.proofs.Spelling.{AreTokens, BeginsWith, tokens_of-tokens, tokens-blank, tokens-colon, tokens-stop, tokens-end}
use Rattle.celf_surface.specs.declared.surface.Span.{Span}
use Rattle.celf_surface.specs.Surface.{WrittenObject, WrittenType, WrittenItem, check}
use Rattle.celf_grammar.specs.State.{State, next_kind, span_to, TakesDirective}
use Rattle.celf_grammar.specs.Grammar.{is_backward, type_all, back_first, body_check, IsItem, item_all}
use Rattle.celf_grammar.proofs.OneItem.{tree-one}
use Rattle.celf_sugar.specs.PlainTree as plain
use Rattle.celf_sugar.specs.Sugar.{desugared}
use Rattle.celf_sugar.specs.Faults.{first_fault}
use Rattle.clf_printer.specs.declared.place.Place.TheVariants.{Whole as whole}
use Rattle.celf_spelling.specs.Placeless.{placeless_body}
use Rattle.celf_spelling.specs.Spelling.{opening, before, IsItemOf, SpellsItem}
use Rattle.celf_spelling.proofs.Signs.{tokens-check}
use Rattle.celf_spelling.proofs.Standing.{state, behind, end_of, taken-first, takes-first, opening-first}
use Rattle.celf_spelling.proofs.ObjectStanding.{ObjectStands}
use Rattle.celf_spelling.proofs.ObjectSpelled.{EndsObject, SpellsObject}
use Rattle.celf_spelling.proofs.Written.{IsWritten}
use Rattle.celf_spelling.proofs.WrittenTypes.{IsWrittenType}
use Rattle.celf_spelling.proofs.TypeParts.{TypeStands, SpellsType}
use Rattle.celf_spelling.proofs.Lines.{newline-follows}

-- No argument begins with the colon in front of the type.
pub colon-ends : (rest : List ℕ) → EndsObject (codes " : " ++ rest)
colon-ends rest us tokens =
    let b = tokens-colon (32 ∷ rest) us (tokens-blank 32 (58 ∷ 32 ∷ rest) us refl tokens) in
    rw (b.is, b.kind_is) refl

-- the tokens of a check, one after the other
record CheckTokens (o : plain.DesugaredObject) (a : plain.DesugaredType) (ts : List Lexeme) : Type 0 where
  after_word : List ℕ
  word : BeginsWith kind.Directive (codes "#check") after_word ts
  before_colon : List Lexeme
  object : ObjectStands (IsWritten o) word.others before_colon
  after_colon : List ℕ
  colon : BeginsWith kind.Colon (codes ":") after_colon before_colon
  before_stop : List Lexeme
  type : TypeStands whole (IsWrittenType a) colon.others before_stop
  after_stop : List ℕ
  stop : BeginsWith kind.Stop (codes ".") after_stop before_stop
  end : Lexeme
  ends : stop.others ≡ end ∷ []
  at_end : end.kind ≡ kind.End

check-tokens : (o : plain.DesugaredObject) (a : plain.DesugaredType) (x y : List ℕ) (ts : List Lexeme) → SpellsObject (IsWritten o) x → SpellsType whole (IsWrittenType a) y
    → AreTokens ts (codes "#check " ++ (x ++ (codes " : " ++ (y ++ codes ".\n")))) → CheckTokens o a ts
check-tokens o a x y ts s t tokens =
    let behind_object : List ℕ = codes " : " ++ (y ++ codes ".\n") in
    let w = tokens-check (x ++ behind_object) ts tokens in
    let object = s behind_object w.others refl (colon-ends (y ++ codes ".\n")) (tokens-blank 32 (x ++ behind_object) w.others refl w.rest_tokens) in
    let colon = tokens-colon (32 ∷ (y ++ codes ".\n")) object.others (tokens-blank 32 (58 ∷ 32 ∷ (y ++ codes ".\n")) object.others refl object.rest_tokens) in
    let type = t (codes ".\n") colon.others refl newline-follows (tokens-blank 32 (y ++ codes ".\n") colon.others refl colon.rest_tokens) in
    let stop = tokens-stop (codes "\n") type.others type.rest_tokens in
    let end = tokens-end stop.others (tokens-blank 10 [] stop.others refl stop.rest_tokens) in
    record {
      after_word = _;
      word = w;
      before_colon = object.others;
      object = object.stands;
      after_colon = _;
      colon = colon;
      before_stop = type.others;
      type = type.stands;
      after_stop = codes "\n";
      stop = stop;
      end = end.0;
      ends = end.1;
      at_end = end.2;
    }

-- what is written has no fault and asks this
asked : (o : plain.DesugaredObject) (a : plain.DesugaredType) (s : Span) (x : WrittenObject) (t : WrittenType) → IsWritten o x → IsWrittenType a t
    → (first_fault (record { span = s; body = check x t }) ≡ None) × (placeless_body (desugared (record { span = s; body = check x t })).body ≡ plain.check o a)
asked o a s x t p q = (rw (q.no_word false, q.no_product false, p.no_redex, q.no_redex) refl, rw (p.is, q.is) refl)

check-read : (text : List ℕ) (o : plain.DesugaredObject) (a : plain.DesugaredType) (k : CheckTokens o a (tokens_of 0 text)) (inner : ℕ) → k.object.depth + k.type.stands.depth ≤ inner
    → IsItemOf text (plain.check o a) (k.object.opened + (k.type.stands.opened + inner))
check-read text o a k inner fits =
    let middle : ℕ = k.type.stands.opened + inner in
    let room : ℕ = k.object.opened + middle in
    let ts : List Lexeme = tokens_of 0 text in
    let object = k.object.read middle (end_of k.word.first) (omega arith) in
    let type = k.type.stands.read inner (end_of k.colon.first) (omega arith) in
    let no_backward : is_backward (next_kind k.before_stop) ≡ false = rw (k.stop.is, k.stop.kind_is) refl in
    let word_taken : TakesDirective (codes "#check") (state ts room 0) (behind k.word.first k.word.others room) =
    record { token = k.word.first; taken = taken-first k.word room room 0; kind = k.word.kind_is; spelled = k.word.spelled } in
    let u : State = behind k.stop.first k.stop.others inner in
    let item : WrittenItem = record { span = span_to (state ts room 0) u; body = check object.tree type.tree } in
    let parse : IsItem (before text room) item u =
    item_all (body_check word_taken object.parse (takes-first k.colon middle object.end) (type_all (back_first type.parse) no_backward)) (takes-first k.stop inner type.end) in
    let says = asked o a (span_to (state ts room 0) u) object.tree type.tree object.has type.has in
    record {
      item = item;
      behind = u;
      end = k.end;
      parse = parse;
      ends = k.ends;
      at_end = k.at_end;
      only = λ other v h. tree-one (before text room) v u other item h parse;
      no_fault = says.0;
      says = says.1;
    }

pub check-spelled : (o : plain.DesugaredObject) (a : plain.DesugaredType) (x y : List ℕ) → SpellsObject (IsWritten o) x → SpellsType whole (IsWrittenType a) y
    → SpellsItem (codes "#check " ++ (x ++ codes " : " ++ y ++ codes ".\n")) (plain.check o a)
check-spelled o a x y s t =
    let text : List ℕ = codes "#check " ++ (x ++ codes " : " ++ y ++ codes ".\n") in
    let parts : x ++ codes " : " ++ y ++ codes ".\n" ≡ x ++ (codes " : " ++ (y ++ codes ".\n")) =
    append_assoc (x ++ codes " : ") y (codes ".\n") ∙ append_assoc x (codes " : ") (y ++ codes ".\n") in
    let tokens : AreTokens (tokens_of 0 text) (codes "#check " ++ (x ++ (codes " : " ++ (y ++ codes ".\n")))) =
    subst (λ z. AreTokens (tokens_of 0 text) (codes "#check " ++ z)) parts (tokens_of-tokens 0 text) in
    let k = check-tokens o a x y (tokens_of 0 text) s t tokens in
    let opened : ℕ = k.object.opened + k.type.stands.opened in
    let least : opened + (k.object.depth + k.type.stands.depth) ≤ opening (tokens_of 0 text) = omega (arith, opening-first k.word, k.object.fits, opening-first k.colon, k.type.stands.fits) in
    let read : (room : ℕ) → opening (tokens_of 0 text) ≤ room → IsItemOf text (plain.check o a) room = λ room h.
    let is : k.object.opened + (k.type.stands.opened + (room - opened)) ≡ room = omega arith in
    subst (λ r. IsItemOf text (plain.check o a) r) is (check-read text o a k (room - opened) (omega arith)) in
    read
