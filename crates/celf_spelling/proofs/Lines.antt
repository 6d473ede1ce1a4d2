-- The printed lines spell what they say.
use Rattle.std.proofs.Common.{ℕ, ◌≡◌, ◌+◌, ◌-◌, ◌<◌, ◌≤◌, ◌^◌, zero, suc, min, nat_lt, nat_le, Bool, true, false, refl, sym, ap, ◌∙◌, subst, List, [], ◌∷◌, ◌++◌, append_assoc, Option, Some, None, codes, arith, IsTrue}
use Rattle.std.specs.Fmt.{decimal}
use Rattle.std.proofs.lemmas.Bool.{lt-ltb, le-leb}
use Rattle.clf_syntax.specs.Word.{is_declarable}
use Rattle.celf_lexer.specs.declared.token.TokenKind.TheVariants as kind
use Rattle.celf_lexer.specs.Tokens.{Lexeme, tokens_of}
use Rattle.celf_lexer.proofs.Spelling.{AreTokens, BeginsWith, tokens_of-tokens, tokens-blank, tokens-name, tokens-colon, tokens-stop, tokens-end}
use Rattle.celf_surface.specs.declared.surface.Bound.{Bound}
use Rattle.celf_surface.specs.declared.surface.Bound.TheVariants.{Number}
use Rattle.celf_surface.specs.declared.surface.Span.{Span}
use Rattle.celf_surface.specs.Surface.{WrittenType, WrittenItem, declare}
use Rattle.celf_grammar.specs.State.{State, next_kind, span_to, TakesName, TakesNumber, digits_behind}
use Rattle.celf_grammar.specs.Grammar.{is_backward, is_left_bracket, type_all, back_first, IsImplicit, implicit_count, implicit_none, body_declare, IsItem, item_all}
use Rattle.celf_grammar.proofs.OneItem.{tree-one}
use Rattle.celf_sugar.specs.PlainTree as plain
use Rattle.celf_sugar.specs.Sugar.{reading, implicit, desugared}
use Rattle.celf_sugar.specs.Faults.{too_many, implicit_outside, first_fault, leading}
use Rattle.celf_sugar.specs.ClassLeading.{class_leading}
use Rattle.clf_printer.specs.declared.place.Place.TheVariants.{Whole as whole}
use Rattle.clf_printer.specs.Text.{implicit_text}
use Rattle.celf_spelling.specs.Placeless.{placeless_body}
use Rattle.celf_spelling.specs.Spelling.{opening, before, IsItemOf, SpellsItem}
use Rattle.celf_spelling.proofs.Signs.{tokens-left_bracket, tokens-right_bracket}
use Rattle.celf_spelling.proofs.Numbers.{decimal-value, tokens-number}
use Rattle.celf_spelling.proofs.Standing.{state, behind, end_of, taken-first, takes-first, opening-first}
use Rattle.celf_spelling.proofs.WrittenTypes.{IsWrittenClass}
use Rattle.celf_spelling.proofs.TypeParts.{CanFollow, TypeStands, SpellsType, stop-follows}

-- ---- the number of implicit arguments

-- The number is written, or nothing where it is 0; where a type leads with as many persistent functions it has no fault.
record IsCount (n : ℕ) (b : Option Bound) : Type 0 where
  is : implicit b ≡ n
  in_range : implicit_outside b ≡ []
  fits : (t : WrittenType) → n ≤ leading (reading t).as_type → too_many b t ≡ []

record CountFirst (n : ℕ) (ts : List Lexeme) (rest : List ℕ) : Type 0 where
  others : List Lexeme
  rest_tokens : AreTokens others rest
  bound : Option Bound
  counts : IsCount n bound
  fits : opening others ≤ opening ts
  end : ℕ → ℕ
  read : (m e : ℕ) → IsImplicit (state ts m e) bound (state others m (end e))

no_count : IsCount 0 None
no_count = record { is = refl; in_range = refl; fits = λ t h. refl }

written_count : (n v : ℕ) (s : Span) → v ≡ n → n < 2 ^ 32 → IsCount n (Some (Number v s))
written_count n v s same small =
    let most : min n (2 ^ 32 - 1) ≡ n = omega arith in
    let low : nat_le 0 n ≡ true = le-leb 0 n (omega arith) in
    let high : nat_le n 4294967295 ≡ true = le-leb n 4294967295 (omega arith) in
    rw same (record { is = most; in_range = rw (low, high) refl; fits = λ t h. rw (le-leb n (leading (reading t).as_type) h) refl })

count-first : (n : ℕ) (rest : List ℕ) (ts : List Lexeme) → n < 2 ^ 32 → ((us : List Lexeme) → AreTokens us rest → is_left_bracket (next_kind us) ≡ false) → AreTokens ts (implicit_text n ++ rest) → CountFirst n ts rest
count-first zero rest ts small begins tokens =
    record { others = ts; rest_tokens = tokens; bound = None; counts = no_count; fits = omega arith; end = λ e. e; read = λ m e. implicit_none (begins ts tokens) }
count-first (suc n) rest ts small begins tokens =
    let k : ℕ = suc n in
    let some : nat_lt 0 (suc n) ≡ true = lt-ltb 0 (suc n) (omega arith) in
    let behind_number : List ℕ = codes "] " ++ rest in
    let text : implicit_text (suc n) ++ rest ≡ codes "[" ++ (decimal (suc n) ++ behind_number) =
    rw some (append_assoc (codes "[" ++ decimal (suc n)) (codes "] ") rest ∙ append_assoc (codes "[") (decimal (suc n)) behind_number) in
    let l = tokens-left_bracket (decimal (suc n) ++ behind_number) ts (subst (AreTokens ts) text tokens) in
    let d = tokens-number (suc n) (omega arith) behind_number l.others refl l.rest_tokens in
    let r = tokens-right_bracket (32 ∷ rest) d.others d.rest_tokens in
    let s : Span = record { start = d.first.start; end = end_of d.first } in
    let v : ℕ = min (digits_behind 0 d.first.spelling) (2 ^ 64 - 1) in
    let value : digits_behind 0 d.first.spelling ≡ suc n = ap (λ ds. digits_behind 0 ds) d.spelled ∙ decimal-value (suc n) (omega arith) in
    let same : v ≡ suc n = omega (arith, value) in
    let read : (m e : ℕ) → IsImplicit (state ts m e) (Some (Number v s)) (behind r.first r.others m) = λ m e.
    let number : TakesNumber (behind l.first l.others m) (Number v s) (behind d.first d.others m) =
    record { token = d.first; taken = taken-first d m m (end_of l.first); kind = d.kind_is; value = refl } in
    implicit_count (takes-first l m e) number (takes-first r m (end_of d.first)) in
    record { others = r.others; rest_tokens = tokens-blank 32 rest r.others refl r.rest_tokens; bound = Some (Number v s); counts = written_count (suc n) v s same small; fits = omega (arith, opening-first l, opening-first d, opening-first r); end = λ e. end_of r.first; read = read }

-- ---- declarations

-- the tokens of a declaration, one after the other
record DeclarationTokens (name : List ℕ) (n : ℕ) (c : plain.DesugaredClass) (ts : List Lexeme) : Type 0 where
  capital : Bool
  after_name : List ℕ
  word : BeginsWith (kind.Name capital) name after_name ts
  after_colon : List ℕ
  colon : BeginsWith kind.Colon (codes ":") after_colon word.others
  after_count : List ℕ
  count : CountFirst n colon.others after_count
  before_stop : List Lexeme
  type : TypeStands whole (IsWrittenClass c) count.others before_stop
  after_stop : List ℕ
  stop : BeginsWith kind.Stop (codes ".") after_stop before_stop
  end : Lexeme
  ends : stop.others ≡ end ∷ []
  at_end : end.kind ≡ kind.End

pub newline-follows : CanFollow whole (codes ".\n")
newline-follows = stop-follows (codes "\n")

declaration-tokens : (name : List ℕ) (n : ℕ) (c : plain.DesugaredClass) (x : List ℕ) (ts : List Lexeme) → IsTrue (is_declarable name) → n < 2 ^ 32 → SpellsType whole (IsWrittenClass c) x
    → AreTokens ts (name ++ (codes " : " ++ (implicit_text n ++ (x ++ codes ".\n")))) → DeclarationTokens name n c ts
declaration-tokens name n c x ts fit small s tokens =
    let behind_count : List ℕ = x ++ codes ".\n" in
    let w = tokens-name name (codes " : " ++ (implicit_text n ++ behind_count)) ts fit refl tokens in
    let colon = tokens-colon (32 ∷ (implicit_text n ++ behind_count)) w.1.others (tokens-blank 32 (58 ∷ 32 ∷ (implicit_text n ++ behind_count)) w.1.others refl w.1.rest_tokens) in
    let count = count-first n behind_count colon.others small (λ us t. (s (codes ".\n") us refl newline-follows t).stands.begins)
    (tokens-blank 32 (implicit_text n ++ behind_count) colon.others refl colon.rest_tokens) in
    let t = s (codes ".\n") count.others refl newline-follows count.rest_tokens in
    let stop = tokens-stop (codes "\n") t.others t.rest_tokens in
    let end = tokens-end stop.others (tokens-blank 10 [] stop.others refl stop.rest_tokens) in
    record {
      capital = w.0;
      after_name = _;
      word = w.1;
      after_colon = _;
      colon = colon;
      after_count = behind_count;
      count = count;
      before_stop = t.others;
      type = t.stands;
      after_stop = codes "\n";
      stop = stop;
      end = end.0;
      ends = end.1;
      at_end = end.2;
    }

-- what is written has no fault and says this
declared : (name : List ℕ) (n : ℕ) (c : plain.DesugaredClass) (b : Option Bound) (s : Span) (t : WrittenType) → IsCount n b → IsWrittenClass c t → n ≤ class_leading c
    → (first_fault (record { span = s; body = declare name b t }) ≡ None) × (placeless_body (desugared (record { span = s; body = declare name b t })).body ≡ plain.declare name n c)
declared name n c b s t count p leads =
    let fits : too_many b t ≡ [] = count.fits t (omega (arith, p.leads)) in
    (rw (p.no_word, p.no_product, p.no_redex, count.in_range, fits) refl, rw (count.is, p.is) refl)

declaration-read : (text name : List ℕ) (n : ℕ) (c : plain.DesugaredClass) → n ≤ class_leading c → (k : DeclarationTokens name n c (tokens_of 0 text)) (inner : ℕ) → k.type.stands.depth ≤ inner
    → IsItemOf text (plain.declare name n c) (k.type.stands.opened + inner)
declaration-read text name n c leads k inner fits =
    let room : ℕ = k.type.stands.opened + inner in
    let ts : List Lexeme = tokens_of 0 text in
    let type = k.type.stands.read inner (k.count.end (end_of k.colon.first)) fits in
    let no_backward : is_backward (next_kind k.before_stop) ≡ false = rw (k.stop.is, k.stop.kind_is) refl in
    let name_taken : TakesName (state ts room 0) name (behind k.word.first k.word.others room) =
    record { token = k.word.first; capital = k.capital; taken = taken-first k.word room room 0; kind = k.word.kind_is; spelled = sym k.word.spelled } in
    let u : State = behind k.stop.first k.stop.others inner in
    let item : WrittenItem = record { span = span_to (state ts room 0) u; body = declare name k.count.bound type.tree } in
    let parse : IsItem (before text room) item u =
    item_all (body_declare name_taken (takes-first k.colon room (end_of k.word.first)) (k.count.read room (end_of k.colon.first)) (type_all (back_first type.parse) no_backward)) (takes-first k.stop inner type.end) in
    let says = declared name n c k.count.bound (span_to (state ts room 0) u) type.tree k.count.counts type.has leads in
    record {
      item = item;
      behind = u;
      end = k.end;
      parse = parse;
      ends = k.ends;
      at_end = k.at_end;
      only = λ other v h. tree-one (before text room) v u other item h parse;
      no_fault = says.0;
      says = says.1;
    }

pub declaration-spelled : (name : List ℕ) (n : ℕ) (c : plain.DesugaredClass) (x : List ℕ) → IsTrue (is_declarable name) → n < 2 ^ 32 → n ≤ class_leading c → SpellsType whole (IsWrittenClass c) x
    → SpellsItem (name ++ codes " : " ++ implicit_text n ++ x ++ codes "." ++ codes "\n") (plain.declare name n c)
declaration-spelled name n c x fit small leads s =
    let text : List ℕ = name ++ codes " : " ++ implicit_text n ++ x ++ codes "." ++ codes "\n" in
    let parts : text ≡ name ++ (codes " : " ++ (implicit_text n ++ (x ++ codes ".\n"))) =
    append_assoc (name ++ codes " : " ++ implicit_text n ++ x) (codes ".") (codes "\n") ∙ append_assoc (name ++ codes " : " ++ implicit_text n) x (codes ".\n")
    ∙ append_assoc (name ++ codes " : ") (implicit_text n) (x ++ codes ".\n") ∙ append_assoc name (codes " : ") (implicit_text n ++ (x ++ codes ".\n")) in
    let k = declaration-tokens name n c x (tokens_of 0 text) fit small s (subst (AreTokens (tokens_of 0 text)) parts (tokens_of-tokens 0 text)) in
    let least : k.type.stands.opened + k.type.stands.depth ≤ opening (tokens_of 0 text) = omega (arith, opening-first k.word, opening-first k.colon, k.count.fits, k.type.stands.fits) in
    let read : (room : ℕ) → opening (tokens_of 0 text) ≤ room → IsItemOf text (plain.declare name n c) room = λ room h.
    let is : k.type.stands.opened + (room - k.type.stands.opened) ≡ room = omega arith in
    subst (λ r. IsItemOf text (plain.declare name n c) r) is (declaration-read text name n c leads k (room - k.type.stands.opened) (omega arith)) in
    read
