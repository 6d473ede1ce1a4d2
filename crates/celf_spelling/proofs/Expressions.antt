-- The text of an expression spells its steps and its tuple.
use Rattle.std.proofs.Common.{ℕ, ◌≡◌, ◌+◌, ◌-◌, ◌≤◌, suc, false, refl, ◌∙◌, List, [], ◌∷◌, ◌++◌, append_assoc, codes, arith}
use Rattle.celf_lexer.specs.declared.token.TokenKind.TheVariants as kind
use Rattle.celf_lexer.specs.Tokens.{Lexeme}
use Rattle.celf_lexer.proofs.Spelling.{AreTokens, BeginsWith, tokens-blank}
use Rattle.celf_surface.specs.Surface.{WrittenPattern, WrittenObject, braces, steps_of, WrittenTuple}
use Rattle.celf_grammar.specs.State.{State, next_kind, Opens, Ends}
use Rattle.celf_grammar.specs.Grammar.{is_let, begins_argument, applied, IsPattern, app_all, atom_braces, expr_all, IsSteps, steps_none, steps_more, IsStep, step_let, IsTuple}
use Rattle.celf_sugar.specs.declared.plain.PName.{PName}
use Rattle.celf_sugar.specs.declared.plain.PBinder.{PBinder}
use Rattle.celf_sugar.specs.PlainTree as plain
use Rattle.celf_spelling.specs.Printed.{nowhere}
use Rattle.celf_spelling.specs.Spelling.{opening}
use Rattle.celf_spelling.proofs.Signs.{tokens-let, tokens-in, tokens-left_brace, tokens-right_brace, tokens-equals}
use Rattle.celf_spelling.proofs.Standing.{state, behind, end_of, takes-first, opens-first, closes-first, opening-first, IsRead, Stands}
use Rattle.celf_spelling.proofs.ObjectStanding.{AtomStands, IsReadAtom, ChainStands}
use Rattle.celf_spelling.proofs.ObjectSpelled.{Spells, EndsObject}
use Rattle.celf_spelling.proofs.Sequences.{SpellsPart}
use Rattle.celf_spelling.proofs.Patterns.{Binds}
use Rattle.celf_spelling.proofs.Tuples.{TupleStands}
use Rattle.celf_spelling.proofs.Written.{IsWritten, IsWrittenNeutral, written-whole, IsWrittenTuple, AreWrittenSteps, written-no_steps, written-step, written-braces}

-- steps, and a tuple after them
abbrev Parts : Type 0
Parts = List (WrittenPattern × WrittenObject) × WrittenTuple

record IsParts (s : State) (x : Parts) (u : State) : Type 0 where
  middle : State
  steps : IsSteps s x.0 middle
  no_let : Ends is_let middle
  tuple : IsTuple middle x.1 u

abbrev AreWritten : plain.DesugaredSteps → plain.DesugaredTuple → Parts → Type 0
AreWritten ds dt x = AreWrittenSteps ds x.0 × IsWrittenTuple dt x.1

-- The tokens stand for an expression.
pub record ExpressionStands (ds : plain.DesugaredSteps) (dt : plain.DesugaredTuple) (ts us : List Lexeme) : Type 0 where
  parts : Stands IsParts (AreWritten ds dt) ts us

steps-cons : {s u v : State} {p : WrittenPattern} {o : WrittenObject} {xs : List (WrittenPattern × WrittenObject)} → IsStep s p o u → IsSteps u xs v → IsSteps s ((p, o) ∷ xs) v
steps-cons a steps_none = steps_more steps_none a
steps-cons a (steps_more bs b) = steps_more (steps-cons a bs) b

brace-ends : (rest : List ℕ) → EndsObject (125 ∷ rest)
brace-ends rest us tokens = let b = tokens-right_brace rest us tokens in rw (b.is, b.kind_is) refl

-- ---- the tuple alone

done-stands : (dt : plain.DesugaredTuple) (ts us : List Lexeme) → TupleStands (IsWrittenTuple dt) ts us → ExpressionStands plain.no_steps dt ts us
done-stands dt ts us a = record { parts = record { depth = a.stands.depth; opened = a.stands.opened; fits = a.stands.fits; read = read } }
  where
    read : (m e : ℕ) → a.stands.depth ≤ m → IsRead IsParts (AreWritten plain.no_steps dt) (state ts (a.stands.opened + m) e) us m
    read m e h =
        let part = a.stands.read m e h in
        record {
          tree = ([], part.tree);
          has = (written-no_steps, part.has);
          end = part.end;
          parse = record { middle = state ts (a.stands.opened + m) e; steps = steps_none; no_let = a.begins; tuple = part.parse };
        }

pub done-spelled : (dt : plain.DesugaredTuple) (x : List ℕ) → SpellsPart (TupleStands (IsWrittenTuple dt)) x → SpellsPart (ExpressionStands plain.no_steps dt) x
done-spelled dt x s rest ts ends follows tokens =
    let part = s rest ts ends follows tokens in
    record { others = part.others; rest_tokens = part.rest_tokens; stands = done-stands dt ts part.others part.stands }

-- ---- a step

-- the tokens of a step, one after the other
record StepTokens (bs : List PBinder) (h : PName) (as_ : List plain.DesugaredAct) (ts : List Lexeme) (rest : List ℕ) : Type 0 where
  after_let : List ℕ
  let_word : BeginsWith kind.KwLet (codes "let") after_let ts
  after_left : List ℕ
  left : BeginsWith kind.LeftBrace (codes "{") after_left let_word.others
  before_right : List Lexeme
  pattern : Stands IsPattern (Binds bs) left.others before_right
  after_right : List ℕ
  right : BeginsWith kind.RightBrace (codes "}") after_right before_right
  after_equals : List ℕ
  equals : BeginsWith kind.Equals (codes "=") after_equals right.others
  before_in : List Lexeme
  neutral : ChainStands (IsWrittenNeutral h as_) equals.others before_in
  in_word : BeginsWith kind.KwIn (codes "in") (32 ∷ rest) before_in

step-tokens : (bs : List PBinder) (h : PName) (as_ : List plain.DesugaredAct) (x y rest : List ℕ) (ts : List Lexeme) → SpellsPart (Stands IsPattern (Binds bs)) x → Spells (ChainStands (IsWrittenNeutral h as_)) y
    → AreTokens ts (codes "let {" ++ (x ++ (codes "} = " ++ (y ++ (codes " in " ++ rest))))) → StepTokens bs h as_ ts rest
step-tokens bs h as_ x y rest ts p q tokens =
    let behind_neutral : List ℕ = codes " in " ++ rest in
    let behind_pattern : List ℕ = codes "} = " ++ (y ++ behind_neutral) in
    let l = tokens-let (123 ∷ (x ++ behind_pattern)) ts tokens in
    let b = tokens-left_brace (x ++ behind_pattern) l.others (tokens-blank 32 (123 ∷ (x ++ behind_pattern)) l.others refl l.rest_tokens) in
    let pattern = p behind_pattern b.others refl (brace-ends (codes " = " ++ (y ++ behind_neutral))) b.rest_tokens in
    let r = tokens-right_brace (codes " = " ++ (y ++ behind_neutral)) pattern.others pattern.rest_tokens in
    let e = tokens-equals (32 ∷ (y ++ behind_neutral)) r.others (tokens-blank 32 (61 ∷ 32 ∷ (y ++ behind_neutral)) r.others refl r.rest_tokens) in
    let neutral = q behind_neutral e.others refl (tokens-blank 32 (y ++ behind_neutral) e.others refl e.rest_tokens) in
    let i = tokens-in rest neutral.others (tokens-blank 32 (codes "in" ++ 32 ∷ rest) neutral.others refl neutral.rest_tokens) in
    record {
      after_let = _;
      let_word = l;
      after_left = _;
      left = b;
      before_right = pattern.others;
      pattern = pattern.stands;
      after_right = _;
      right = r;
      after_equals = _;
      equals = e;
      before_in = neutral.others;
      neutral = neutral.stands;
      in_word = i;
    }

-- what a step is read as, with so much room around it
record IsReadStep (bs : List PBinder) (h : PName) (as_ : List plain.DesugaredAct) (s u : State) : Type 0 where
  pattern : WrittenPattern
  object : WrittenObject
  binds : Binds bs pattern
  neutral : IsWrittenNeutral h as_ object []
  parse : IsStep s pattern object u

step-read : (bs : List PBinder) (h : PName) (as_ : List plain.DesugaredAct) (ts : List Lexeme) (rest : List ℕ) (k : StepTokens bs h as_ ts rest) (n e : ℕ) → suc (k.pattern.opened + k.pattern.depth) ≤ n → k.neutral.depth ≤ n
    → IsReadStep bs h as_ (state ts n e) (behind k.in_word.first k.in_word.others n)
step-read bs h as_ ts rest k n e pattern_fits neutral_fits =
    let inner : ℕ = n - suc k.pattern.opened in
    let room : suc (k.pattern.opened + inner) ≡ n = omega arith in
    let pattern = k.pattern.read inner (end_of k.left.first) (omega arith) in
    let chain = k.neutral.read n (end_of k.equals.first) neutral_fits in
    let opened : Opens kind.LeftBrace (behind k.let_word.first k.let_word.others n) (behind k.left.first k.left.others (k.pattern.opened + inner)) =
    rw room at (opens-first k.left (k.pattern.opened + inner) (end_of k.let_word.first)) in
    let ends : begins_argument (next_kind k.before_in) ≡ false = rw (k.in_word.is, k.in_word.kind_is) refl in
    record {
      pattern = pattern.tree;
      object = applied _ chain.tree chain.others;
      binds = pattern.has;
      neutral = written-whole h as_ _ chain.tree chain.others chain.has;
      parse = step_let (takes-first k.let_word n e) opened pattern.parse (closes-first k.right inner n pattern.end) (takes-first k.equals n (end_of k.right.first))
          (app_all chain.atom chain.arguments ends) (takes-first k.in_word n chain.end);
    }

-- the parts that a step opens
step-opening : (bs : List PBinder) (h : PName) (as_ : List plain.DesugaredAct) (ts : List Lexeme) (rest : List ℕ) (k : StepTokens bs h as_ ts rest)
    → suc (k.pattern.opened + k.pattern.depth) + k.neutral.depth + opening k.in_word.others ≤ opening ts
step-opening bs h as_ ts rest k =
    omega (arith, k.pattern.fits, k.neutral.fits, opening-first k.let_word, opening-first k.left, opening-first k.right, opening-first k.equals, opening-first k.in_word)

step-stands : (bs : List PBinder) (h : PName) (as_ : List plain.DesugaredAct) (ds : plain.DesugaredSteps) (dt : plain.DesugaredTuple) (ts us : List Lexeme) (rest : List ℕ) (k : StepTokens bs h as_ ts rest)
    → ExpressionStands ds dt k.in_word.others us → ExpressionStands (plain.step bs h (plain.spine_of as_) ds) dt ts us
step-stands bs h as_ ds dt ts us rest k x = record { parts = record { depth = suc (k.pattern.opened + k.pattern.depth) + (k.neutral.depth + x.parts.depth); opened = x.parts.opened; fits = omega (arith, step-opening bs h as_ ts rest k, x.parts.fits); read = read } }
  where
    read : (m e : ℕ) → suc (k.pattern.opened + k.pattern.depth) + (k.neutral.depth + x.parts.depth) ≤ m
        → IsRead IsParts (AreWritten (plain.step bs h (plain.spine_of as_) ds) dt) (state ts (x.parts.opened + m) e) us m
    read m e fits =
        let n : ℕ = x.parts.opened + m in
        let step = step-read bs h as_ ts rest k n e (omega arith) (omega arith) in
        let others = x.parts.read m (end_of k.in_word.first) (omega arith) in
        record {
          tree = ((step.pattern, step.object) ∷ others.tree.0, others.tree.1);
          has = (written-step bs h as_ ds step.pattern step.object others.tree.0 step.binds step.neutral others.has.0, others.has.1);
          end = others.end;
          parse = record { middle = others.parse.middle; steps = steps-cons step.parse others.parse.steps; no_let = others.parse.no_let; tuple = others.parse.tuple };
        }

-- the text of a step and of what follows it
pub step-spelled : (level : ℕ) (pattern : List ℕ) (bs : List PBinder) (h : PName) (as_ : List plain.DesugaredAct) (ds : plain.DesugaredSteps) (dt : plain.DesugaredTuple) (y z : List ℕ)
    → SpellsPart (Stands IsPattern (Binds bs)) pattern → Spells (ChainStands (IsWrittenNeutral h as_)) y → SpellsPart (ExpressionStands ds dt) z
    → SpellsPart (ExpressionStands (plain.step bs h (plain.spine_of as_) ds) dt) ((codes "let {" ++ pattern ++ codes "} = " ++ y ++ codes " in ") ++ z)
step-spelled level pattern bs h as_ ds dt y z p q s rest ts ends follows tokens =
    let x : List ℕ = pattern in
    let texts : ((codes "let {" ++ x ++ codes "} = " ++ y ++ codes " in ") ++ z) ++ rest ≡ codes "let {" ++ (x ++ (codes "} = " ++ (y ++ (codes " in " ++ (z ++ rest))))) =
    append_assoc (codes "let {" ++ x ++ codes "} = " ++ y ++ codes " in ") z rest ∙ append_assoc (codes "let {" ++ x ++ codes "} = " ++ y) (codes " in ") (z ++ rest)
    ∙ append_assoc (codes "let {" ++ x ++ codes "} = ") y (codes " in " ++ (z ++ rest)) ∙ append_assoc (codes "let {" ++ x) (codes "} = ") (y ++ (codes " in " ++ (z ++ rest)))
    ∙ append_assoc (codes "let {") x (codes "} = " ++ (y ++ (codes " in " ++ (z ++ rest)))) in
    let k = step-tokens bs h as_ x y (z ++ rest) ts p q (rw texts at tokens) in
    let others = s rest k.in_word.others ends follows (tokens-blank 32 (z ++ rest) k.in_word.others refl k.in_word.rest_tokens) in
    record { others = others.others; rest_tokens = others.rest_tokens; stands = step-stands bs h as_ ds dt ts others.others (z ++ rest) k others.stands }

-- ---- in braces

braces-stand : (ds : plain.DesugaredSteps) (dt : plain.DesugaredTuple) (x y : List ℕ) (ts us : List Lexeme) (l : BeginsWith kind.LeftBrace (codes "{") x ts) → ExpressionStands ds dt l.others us
    → (r : BeginsWith kind.RightBrace (codes "}") y us) → AtomStands (IsWritten (plain.monadic nowhere ds dt)) ts r.others
braces-stand ds dt x y ts us l a r = record { begins = rw (l.is, l.kind_is) refl; depth = suc (a.parts.opened + a.parts.depth); fits = omega (arith, a.parts.fits, opening-first l, opening-first r); read = read }
  where
    read : (m e : ℕ) → suc (a.parts.opened + a.parts.depth) ≤ m → IsReadAtom (IsWritten (plain.monadic nowhere ds dt)) (state ts m e) r.others m
    read m e h =
        let inner : ℕ = m - suc a.parts.opened in
        let room : suc (a.parts.opened + inner) ≡ m = omega arith in
        let part = a.parts.read inner (end_of l.first) (omega arith) in
        let opened : Opens kind.LeftBrace (state ts m e) (behind l.first l.others (a.parts.opened + inner)) = rw room at (opens-first l (a.parts.opened + inner) e) in
        record {
          tree = braces _ (steps_of part.tree.0) part.tree.1;
          has = written-braces ds dt _ part.tree.0 part.tree.1 part.has.0 part.has.1;
          end = end_of r.first;
          parse = atom_braces opened (expr_all part.parse.steps part.parse.no_let part.parse.tuple) (closes-first r inner m part.end);
        }

pub braces-spelled : (ds : plain.DesugaredSteps) (dt : plain.DesugaredTuple) (x : List ℕ) → SpellsPart (ExpressionStands ds dt) x → Spells (AtomStands (IsWritten (plain.monadic nowhere ds dt))) (codes "{" ++ x ++ codes "}")
braces-spelled ds dt x s rest ts ends tokens =
    let l = tokens-left_brace (x ++ (125 ∷ rest)) ts (rw (append_assoc x (125 ∷ []) rest) at tokens) in
    let part = s (125 ∷ rest) l.others refl (brace-ends rest) l.rest_tokens in
    let r = tokens-right_brace rest part.others part.rest_tokens in
    record { others = r.others; rest_tokens = r.rest_tokens; stands = braces-stand ds dt (x ++ (125 ∷ rest)) rest ts part.others l part.stands r }
