-- Tokens that stand for an object, an atom or an application: the grammar's productions, put together with enough room.
-- What the tree means is left open: a predicate on trees, which does not ask where the parts stand.
use Rattle.std.proofs.Common.{ℕ, ◌≡◌, ◌+◌, ◌-◌, ◌≤◌, suc, Bool, false, true, refl, ap, sym, List, [], ◌∷◌, ◌++◌, Some, arith, length, drop}
use Rattle.celf_lexer.specs.declared.token.TokenKind.{TokenKind}
use Rattle.celf_lexer.specs.declared.token.TokenKind.TheVariants.{Name, ConstName, Hole, KwLet, UnitSign, LeftParen, RightParen, Less, Greater, Comma, Backslash, Stop, Proj1, Proj2, Bang, AtSign}
use Rattle.celf_lexer.specs.Tokens.{Lexeme}
use Rattle.celf_surface.specs.declared.surface.SMode.{SMode}
use Rattle.celf_surface.specs.declared.surface.SMode.TheVariants.{Bare, Persistent as PersistentMark, Affine as AffineMark}
use Rattle.celf_surface.specs.declared.surface.Span.{Span}
use Rattle.celf_surface.specs.Surface.{WrittenObject, lam, named, hole, unit, pair, first, second}
use Rattle.celf_grammar.specs.State.{State, next_kind, Takes, Opens, Closes, TakesName, TakesConstant}
use Rattle.celf_grammar.specs.Grammar.{is_mark, is_let, begins_atom, begins_argument, IsMark, mark_persistent, mark_affine, mark_none, binder_named, applied, IsObject, obj_lambda, obj_app, app_all, IsArguments, args_none, args_more, IsAtom, atom_name, atom_constant, atom_hole, atom_unit, atom_pair, atom_group, atom_first, atom_second}
use Rattle.celf_spelling.specs.Spelling.{opening}
use Rattle.celf_spelling.proofs.Standing.{state, behind, taken, takes, opens, ends-part, opening-token, opening-behind}

-- the first tokens of an object
abbrev pub begins_object : TokenKind → Bool
begins_object Backslash = true
begins_object k = begins_atom k

atom-begins : (k : TokenKind) → begins_atom k ≡ true → begins_object k ≡ true
atom-begins Backslash h = refl
atom-begins _ h = h

-- No mark begins an atom.
pub atom-no_mark : (k : TokenKind) → begins_atom k ≡ true → is_mark k ≡ false
atom-no_mark Bang h = absurd (cc)
atom-no_mark AtSign h = absurd (cc)
atom-no_mark _ h = refl

-- No `let` begins an object.
pub object-no_let : (k : TokenKind) → begins_object k ≡ true → is_let k ≡ false
object-no_let KwLet h = absurd (cc)
object-no_let _ h = refl

-- From a state on an atom is read that has the property, up to the tokens us with so much room.
pub record IsReadAtom (P : WrittenObject → Type 0) (s : State) (us : List Lexeme) (m : ℕ) : Type 0 where
  pub tree : WrittenObject
  pub has : P tree
  pub end : ℕ
  pub parse : IsAtom s tree (state us m end)

pub record IsReadObject (P : WrittenObject → Type 0) (s : State) (us : List Lexeme) (m : ℕ) : Type 0 where
  pub tree : WrittenObject
  pub has : P tree
  pub end : ℕ
  pub parse : IsObject s tree (state us m end)

-- an atom and arguments after it
pub record IsReadChain (Q : WrittenObject → List (SMode × WrittenObject) → Type 0) (s : State) (us : List Lexeme) (m : ℕ) : Type 0 where
  pub tree : WrittenObject
  pub others : List (SMode × WrittenObject)
  pub has : Q tree others
  pub middle : State
  pub end : ℕ
  pub atom : IsAtom s tree middle
  pub arguments : IsArguments middle others (state us m end)

-- The tokens ts begin with an atom, and the tokens us follow it, however much room is left, as long as it is so deep.
pub record AtomStands (P : WrittenObject → Type 0) (ts us : List Lexeme) : Type 0 where
  pub begins : begins_atom (next_kind ts) ≡ true
  pub depth : ℕ
  pub fits : depth + opening us ≤ opening ts
  pub read : (m e : ℕ) → depth ≤ m → IsReadAtom P (state ts m e) us m

-- the same of an object, which leaves some parts open
pub record ObjectStands (P : WrittenObject → Type 0) (ts us : List Lexeme) : Type 0 where
  pub begins : begins_object (next_kind ts) ≡ true
  pub depth : ℕ
  pub opened : ℕ
  pub fits : depth + opened + opening us ≤ opening ts
  pub read : (m e : ℕ) → depth ≤ m → IsReadObject P (state ts (opened + m) e) us m

pub record ChainStands (Q : WrittenObject → List (SMode × WrittenObject) → Type 0) (ts us : List Lexeme) : Type 0 where
  pub begins : begins_atom (next_kind ts) ≡ true
  pub depth : ℕ
  pub fits : depth + opening us ≤ opening ts
  pub read : (m e : ℕ) → depth ≤ m → IsReadChain Q (state ts m e) us m

-- The tokens ts begin with this mark, and the tokens us follow it.
pub record MarkStands (mark : SMode) (ts us : List Lexeme) : Type 0 where
  pub fits : opening us ≤ opening ts
  pub end : ℕ → ℕ
  pub read : (m e : ℕ) → IsMark (state ts m e) mark (state us m (end e))

pub no_mark : (ts : List Lexeme) → is_mark (next_kind ts) ≡ false → MarkStands Bare ts ts
no_mark ts begins = record { fits = omega arith; end = λ e. e; read = λ m e. mark_none begins }

-- No mark stands in front of a name.
pub name-mark : (ts us : List Lexeme) (t : Lexeme) (capital : Bool) → ts ≡ t ∷ us → t.kind ≡ Name capital → MarkStands Bare ts (t ∷ us)
name-mark ts us t capital is kind_is = rw is (no_mark (t ∷ us) (rw kind_is))

pub bang-mark : (t : Lexeme) (us : List Lexeme) → t.kind ≡ Bang → MarkStands PersistentMark (t ∷ us) us
bang-mark t us is = record { fits = opening-behind t us; end = λ e. t.start + length t.spelling; read = λ m e. mark_persistent (takes Bang t us m e is) }

pub at-mark : (t : Lexeme) (us : List Lexeme) → t.kind ≡ AtSign → MarkStands AffineMark (t ∷ us) us
at-mark t us is = record { fits = opening-behind t us; end = λ e. t.start + length t.spelling; read = λ m e. mark_affine (takes AtSign t us m e is) }

-- ---- atoms

pub name-stands : (P : WrittenObject → Type 0) (t : Lexeme) (us : List Lexeme) (capital : Bool) → t.kind ≡ Name capital → ((s : Span) → P (named s t.spelling false)) → AtomStands P (t ∷ us) us
name-stands P t us capital is has = record { begins = rw is; depth = 0; fits = omega (arith, opening-behind t us); read = read }
  where
    read : (m e : ℕ) → 0 ≤ m → IsReadAtom P (state (t ∷ us) m e) us m
    read m e h =
        let name : TakesName (state (t ∷ us) m e) t.spelling (behind t us m) =
        record { token = t; capital = capital; taken = taken t us m m e; kind = is; spelled = refl } in
        record { tree = named _ t.spelling false; has = has _; end = t.start + length t.spelling; parse = atom_name name }

pub constant-stands : (P : WrittenObject → Type 0) (t : Lexeme) (us : List Lexeme) → t.kind ≡ ConstName → ((s : Span) → P (named s (drop 1 t.spelling) true)) → AtomStands P (t ∷ us) us
constant-stands P t us is has = record { begins = rw is; depth = 0; fits = omega (arith, opening-behind t us); read = read }
  where
    read : (m e : ℕ) → 0 ≤ m → IsReadAtom P (state (t ∷ us) m e) us m
    read m e h =
        let name : TakesConstant (state (t ∷ us) m e) (drop 1 t.spelling) (behind t us m) =
        record { token = t; taken = taken t us m m e; kind = is; spelled = refl } in
        record { tree = named _ (drop 1 t.spelling) true; has = has _; end = t.start + length t.spelling; parse = atom_constant name }

pub unit-stands : (P : WrittenObject → Type 0) (t : Lexeme) (us : List Lexeme) → t.kind ≡ UnitSign → ((s : Span) → P (unit s)) → AtomStands P (t ∷ us) us
unit-stands P t us is has = record { begins = rw is; depth = 0; fits = omega (arith, opening-behind t us); read = read }
  where
    read : (m e : ℕ) → 0 ≤ m → IsReadAtom P (state (t ∷ us) m e) us m
    read m e h = record { tree = unit _; has = has _; end = t.start + length t.spelling; parse = atom_unit (takes UnitSign t us m e is) }

pub hole-stands : (P : WrittenObject → Type 0) (t : Lexeme) (us : List Lexeme) → t.kind ≡ Hole → ((s : Span) → P (hole s)) → AtomStands P (t ∷ us) us
hole-stands P t us is has = record { begins = rw is; depth = 0; fits = omega (arith, opening-behind t us); read = read }
  where
    read : (m e : ℕ) → 0 ≤ m → IsReadAtom P (state (t ∷ us) m e) us m
    read m e h = record { tree = hole _; has = has _; end = t.start + length t.spelling; parse = atom_hole (takes Hole t us m e is) }

pub group-stands : (P : WrittenObject → Type 0) (l r : Lexeme) (us vs : List Lexeme) → l.kind ≡ LeftParen → ObjectStands P us (r ∷ vs) → r.kind ≡ RightParen → AtomStands P (l ∷ us) vs
group-stands P l r us vs left s right = record { begins = rw left; depth = suc (s.opened + s.depth); fits = omega (arith, s.fits, opening-behind r vs, opening-token l us LeftParen left); read = read }
  where
    read : (m e : ℕ) → suc (s.opened + s.depth) ≤ m → IsReadAtom P (state (l ∷ us) m e) vs m
    read m e h =
        let inner : ℕ = m - suc s.opened in
        let room : suc (s.opened + inner) ≡ m = omega arith in
        let body = s.read inner (l.start + length l.spelling) (omega arith) in
        let closed : Closes RightParen m (state (r ∷ vs) inner body.end) (behind r vs m) =
        record { token = r; taken = taken r vs inner m body.end; kind = right } in
        let open_paren : Opens LeftParen (state (l ∷ us) m e) (behind l us (s.opened + inner)) = rw room at (opens LeftParen l us (s.opened + inner) e left) in
        record { tree = body.tree; has = body.has; end = r.start + length r.spelling; parse = atom_group open_paren body.parse closed }

pub pair-stands : (P Q R : WrittenObject → Type 0) (l c r : Lexeme) (us vs ws : List Lexeme) → l.kind ≡ Less → ObjectStands P us (c ∷ vs) → c.kind ≡ Comma → ObjectStands Q vs (r ∷ ws) → r.kind ≡ Greater
    → ((s : Span) (x y : WrittenObject) → P x → Q y → R (pair s x y)) → AtomStands R (l ∷ us) ws
pair-stands P Q R l c r us vs ws less x comma y greater has = record { begins = rw less; depth = suc (x.opened + (y.opened + (x.depth + y.depth))); fits = omega (arith, x.fits, y.fits, opening-behind c vs, opening-behind r ws, opening-token l us Less less); read = read }
  where
    read : (m e : ℕ) → suc (x.opened + (y.opened + (x.depth + y.depth))) ≤ m → IsReadAtom R (state (l ∷ us) m e) ws m
    read m e h =
        let inner : ℕ = m - suc (x.opened + y.opened) in
        let room : suc (x.opened + (y.opened + inner)) ≡ m = omega arith in
        let left = x.read (y.opened + inner) (l.start + length l.spelling) (omega arith) in
        let right = y.read inner (c.start + length c.spelling) (omega arith) in
        let closed : Closes Greater m (state (r ∷ ws) inner right.end) (behind r ws m) =
        record { token = r; taken = taken r ws inner m right.end; kind = greater } in
        let open_bracket : Opens Less (state (l ∷ us) m e) (behind l us (x.opened + (y.opened + inner))) = rw room at (opens Less l us (x.opened + (y.opened + inner)) e less) in
        record {
          tree = pair _ left.tree right.tree;
          has = has _ left.tree right.tree left.has right.has;
          end = r.start + length r.spelling;
          parse = atom_pair open_bracket left.parse (takes Comma c vs (y.opened + inner) left.end comma) right.parse closed;
        }

pub first-stands : (P Q : WrittenObject → Type 0) (t : Lexeme) (us vs : List Lexeme) → t.kind ≡ Proj1 → AtomStands P us vs → ((s : Span) (x : WrittenObject) → P x → Q (first s x)) → AtomStands Q (t ∷ us) vs
first-stands P Q t us vs is x has = record { begins = rw is; depth = suc x.depth; fits = omega (arith, x.fits, opening-token t us Proj1 is); read = read }
  where
    read : (m e : ℕ) → suc x.depth ≤ m → IsReadAtom Q (state (t ∷ us) m e) vs m
    read m e h =
        let inner : ℕ = m - 1 in
        let room : suc inner ≡ m = omega arith in
        let body = x.read inner (t.start + length t.spelling) (omega arith) in
        let sign : Opens Proj1 (state (t ∷ us) m e) (behind t us inner) = rw room at (opens Proj1 t us inner e is) in
        record { tree = first _ body.tree; has = has _ body.tree body.has; end = body.end; parse = atom_first sign body.parse (ends-part vs inner m body.end) }

pub second-stands : (P Q : WrittenObject → Type 0) (t : Lexeme) (us vs : List Lexeme) → t.kind ≡ Proj2 → AtomStands P us vs → ((s : Span) (x : WrittenObject) → P x → Q (second s x)) → AtomStands Q (t ∷ us) vs
second-stands P Q t us vs is x has = record { begins = rw is; depth = suc x.depth; fits = omega (arith, x.fits, opening-token t us Proj2 is); read = read }
  where
    read : (m e : ℕ) → suc x.depth ≤ m → IsReadAtom Q (state (t ∷ us) m e) vs m
    read m e h =
        let inner : ℕ = m - 1 in
        let room : suc inner ≡ m = omega arith in
        let body = x.read inner (t.start + length t.spelling) (omega arith) in
        let sign : Opens Proj2 (state (t ∷ us) m e) (behind t us inner) = rw room at (opens Proj2 t us inner e is) in
        record { tree = second _ body.tree; has = has _ body.tree body.has; end = body.end; parse = atom_second sign body.parse (ends-part vs inner m body.end) }

pub atom-has : (P R : WrittenObject → Type 0) (ts us : List Lexeme) → AtomStands P ts us → ((x : WrittenObject) → P x → R x) → AtomStands R ts us
atom-has P R ts us x has = record { begins = x.begins; depth = x.depth; fits = x.fits; read = read }
  where
    read : (m e : ℕ) → x.depth ≤ m → IsReadAtom R (state ts m e) us m
    read m e h =
        let atom = x.read m e h in
        record { tree = atom.tree; has = has atom.tree atom.has; end = atom.end; parse = atom.parse }

-- ---- applications

pub chain-alone : (P : WrittenObject → Type 0) (Q : WrittenObject → List (SMode × WrittenObject) → Type 0) (ts us : List Lexeme) → AtomStands P ts us → ((x : WrittenObject) → P x → Q x []) → ChainStands Q ts us
chain-alone P Q ts us x has = record { begins = x.begins; depth = x.depth; fits = x.fits; read = read }
  where
    read : (m e : ℕ) → x.depth ≤ m → IsReadChain Q (state ts m e) us m
    read m e h =
        let atom = x.read m e h in
        record { tree = atom.tree; others = []; has = has atom.tree atom.has; middle = state us m atom.end; end = atom.end; atom = atom.parse; arguments = args_none }

pub chain-more : (Q R : WrittenObject → List (SMode × WrittenObject) → Type 0) (P : WrittenObject → Type 0) (mark : SMode) (ts us vs ws : List Lexeme)
    → ChainStands Q ts us → MarkStands mark us vs → AtomStands P vs ws → ((x y : WrittenObject) (xs : List (SMode × WrittenObject)) → Q x xs → P y → R x (xs ++ (mark, y) ∷ [])) → ChainStands R ts ws
chain-more Q R P mark ts us vs ws x k y has = record { begins = x.begins; depth = x.depth + y.depth; fits = omega (arith, x.fits, k.fits, y.fits); read = read }
  where
    read : (m e : ℕ) → x.depth + y.depth ≤ m → IsReadChain R (state ts m e) ws m
    read m e h =
        let chain = x.read m e (omega arith) in
        let last = y.read m (k.end chain.end) (omega arith) in
        record {
          tree = chain.tree;
          others = chain.others ++ (mark, last.tree) ∷ [];
          has = has chain.tree last.tree chain.others chain.has last.has;
          middle = chain.middle;
          end = last.end;
          atom = chain.atom;
          arguments = args_more chain.arguments (k.read m chain.end) last.parse;
        }

-- ---- objects

pub chain-object : (Q : WrittenObject → List (SMode × WrittenObject) → Type 0) (P : WrittenObject → Type 0) (ts us : List Lexeme) → ChainStands Q ts us → begins_argument (next_kind us) ≡ false
    → ((s : Span) (x : WrittenObject) (xs : List (SMode × WrittenObject)) → Q x xs → P (applied s x xs)) → ObjectStands P ts us
chain-object Q P ts us x ends has = record { begins = atom-begins (next_kind ts) x.begins; depth = x.depth; opened = 0; fits = omega (arith, x.fits); read = read }
  where
    read : (m e : ℕ) → x.depth ≤ m → IsReadObject P (state ts (0 + m) e) us m
    read m e h =
        let chain = x.read m e h in
        let none : 0 + m ≡ m = omega arith in
        rw none (record { tree = applied _ chain.tree chain.others; has = has _ chain.tree chain.others chain.has; end = chain.end; parse = obj_app (app_all chain.atom chain.arguments ends) })

pub atom-object : (P : WrittenObject → Type 0) (ts us : List Lexeme) → AtomStands P ts us → begins_argument (next_kind us) ≡ false → ObjectStands P ts us
atom-object P ts us x ends = chain-object (λ y ys. P y × (ys ≡ [])) P ts us (chain-alone P (λ y ys. P y × (ys ≡ [])) ts us x (λ y h. (h, refl))) ends (λ s y ys h. rw h.1 h.0)

pub lambda-stands : (P R : WrittenObject → Type 0) (mark : SMode) (l t d : Lexeme) (us vs ws xs : List Lexeme) (capital : Bool) (name : List ℕ)
    → l.kind ≡ Backslash → MarkStands mark us (t ∷ vs) → t.kind ≡ Name capital → t.spelling ≡ name → vs ≡ d ∷ ws → d.kind ≡ Stop → ObjectStands P ws xs
    → ((s : Span) (x : WrittenObject) → P x → R (lam s mark (Some name) x)) → ObjectStands R (l ∷ us) xs
lambda-stands P R mark l t d us vs ws xs capital name is k is_name spelled stops is_stop x has = record {
  begins = rw is;
  depth = x.depth;
  opened = suc x.opened;
  fits = let before : opening vs ≡ opening (d ∷ ws) = ap (λ ls. opening ls) stops in omega (arith, x.fits, k.fits, before, opening-token l us Backslash is, opening-behind t vs, opening-behind d ws);
  read = read;
}
  where
    read : (m e : ℕ) → x.depth ≤ m → IsReadObject R (state (l ∷ us) (suc x.opened + m) e) xs m
    read m e h =
        let room : suc x.opened + m ≡ suc (x.opened + m) = omega arith in
        let start : ℕ = l.start + length l.spelling in
        let body = x.read m (d.start + length d.spelling) h in
        let binder : TakesName (state (t ∷ vs) (x.opened + m) (k.end start)) name (behind t vs (x.opened + m)) =
        record { token = t; capital = capital; taken = taken t vs (x.opened + m) (x.opened + m) (k.end start); kind = is_name; spelled = sym spelled } in
        let stop : Takes Stop (behind t vs (x.opened + m)) (behind d ws (x.opened + m)) =
        record { token = d; taken = record { first = stops; room = refl; behind = refl }; kind = is_stop } in
        rw room (record {
          tree = lam _ mark (Some name) body.tree;
          has = has _ body.tree body.has;
          end = body.end;
          parse = obj_lambda (opens Backslash l us (x.opened + m) e is) (k.read (x.opened + m) start) (binder_named binder) stop body.parse;
        })
