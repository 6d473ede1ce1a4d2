-- Faults inside a part of an object, as faults of that part.
use Rattle.std.proofs.Common.{◌≡◌, ◌∙◌, inl, inr, ℕ, List, ◌∷◌, Option, true, false, codes, refl, ap}
use Rattle.celf_lexer.specs.declared.token.TokenKind.{TokenKind}
use Rattle.celf_lexer.specs.declared.token.TokenKind.TheVariants as token
use Rattle.celf_surface.specs.declared.surface.SMode.{SMode}
use Rattle.celf_surface.specs.Surface.{WrittenPattern as PatternTree, WrittenObject as ObjectTree, WrittenTuple as TupleTree}
use Rattle.celf_grammar.specs.State.{State, next_kind, Ends, Takes, Opens, Closes}
use Rattle.celf_grammar.specs.Grammar.{IsMark, IsBinder, IsPattern, IsObject, IsApplication, IsArguments, IsAtom, IsExpression, IsSteps, IsTuples, IsIndices, is_comma, is_let, is_left_bracket, is_mark, begins_atom, begins_argument, begins_index}
use Rattle.celf_grammar.specs.Machine.{Symbol, Expect, Close, Mark, Binder, Pattern, Object, Application, Arguments, Atom, Expression, LetPattern, Tuple, TupleTail, Index, Indices}
use Rattle.celf_grammar.proofs.TokenRuns.{not-number, mark-run, binder-run, expect-run, close-run}
use Rattle.celf_grammar.proofs.ObjectRuns.{atom-pair, atom-braces, atom-group, atom-first, atom-second, atom-deep, atom-stops, opens_atom, object-lambda, object-deep, object-application, application-atom, arguments-more, expression-let, expression-tuple, let-opens, let-deep, let-stops, tuple-opens, tuple-deep, tuple-persistent, tuple-affine, tuple-object, tuple_tail-more, tuple_tail-ends, index-banged, index-atom, indices-more}
use Rattle.celf_grammar.proofs.Accepts.{pattern-accepts, object-accepts, application-accepts, arguments-accept, atom-accepts, expression-accepts, steps-accept, tuples-accept, indices-accept}
use Rattle.celf_cursor.specs.declared.cursor.Cursor.{Cursor}
use Rattle.celf_cursor.specs.declared.stop.Stop.{Stop}
use Rattle.celf_cursor.specs.Cursor.{state_of, kind_next, IsCursorOf, unexpected, Misses, MissesOpening, MissesWord}
use Rattle.celf_cursor.specs.Faults.{IsFaultOf}
use Rattle.celf_cursor.proofs.Faulty.{fault-moved, fault-stops, opening-missed}
use Rattle.celf_cursor.proofs.Ends.{opens-end, takes-end, closes-end, mark-end, binder-end, pattern-end, object-end, application-end, arguments-end, atom-end, expression-end, steps-end, tuples-end, indices-end}
use Rattle.celf_objects.proofs.PatternFaults.{not-one-word, bracket-not}

pub lambda_opening-fault : (text : List ℕ) (c : Cursor) (k : List Symbol) (e : Stop)
    → IsCursorOf text c → kind_next text c ≡ token.Backslash → MissesOpening text token.Backslash c e → IsFaultOf text (Object ∷ k) (state_of text c) e
lambda_opening-fault text c k e h n m = opening-missed text c token.Backslash (Object ∷ k) e h n m (object-deep (state_of text c) k n)

pub lambda_mark-fault : {text : List ℕ} {s a : State} {k : List Symbol} {e : Stop}
    → Opens token.Backslash s a → ((j : List Symbol) → IsFaultOf text (Mark ∷ j) a e) → IsFaultOf text (Object ∷ k) s e
lambda_mark-fault {k = k} o f = fault-moved (object-lambda o k) (opens-end o) (f _)

pub lambda_binder-fault : {text : List ℕ} {s a b : State} {m : SMode} {k : List Symbol} {e : Stop}
    → Opens token.Backslash s a → IsMark a m b → ((j : List Symbol) → IsFaultOf text (Binder ∷ j) b e) → IsFaultOf text (Object ∷ k) s e
lambda_binder-fault {k = k} o m f = fault-moved (object-lambda o k ∙ mark-run m _) (opens-end o ∙ mark-end m) (f _)

pub lambda_stop-fault : {text : List ℕ} {s a b c : State} {m : SMode} {n : Option (List ℕ)} {k : List Symbol} {e : Stop}
    → Opens token.Backslash s a → IsMark a m b → IsBinder b n c → IsFaultOf text (Expect token.Stop ∷ Object ∷ k) c e → IsFaultOf text (Object ∷ k) s e
lambda_stop-fault {k = k} o m b f = fault-moved (object-lambda o k ∙ mark-run m _ ∙ binder-run b _) (opens-end o ∙ mark-end m ∙ binder-end b) f

pub lambda_body-fault : {text : List ℕ} {s a b c d : State} {m : SMode} {n : Option (List ℕ)} {k : List Symbol} {e : Stop}
    → Opens token.Backslash s a → IsMark a m b → IsBinder b n c → Takes token.Stop c d → ((j : List Symbol) → IsFaultOf text (Object ∷ j) d e) → IsFaultOf text (Object ∷ k) s e
lambda_body-fault {k = k} o m b d f =
    fault-moved (object-lambda o k ∙ mark-run m _ ∙ binder-run b _ ∙ expect-run d _) (opens-end o ∙ mark-end m ∙ binder-end b ∙ takes-end d) (f _)

pub applied-fault : {text : List ℕ} {s : State} {k : List Symbol} {e : Stop}
    → (next_kind s.rest ≡ token.Backslash → ⊥) → ((j : List Symbol) → IsFaultOf text (Application ∷ j) s e) → IsFaultOf text (Object ∷ k) s e
applied-fault {s = s} {k} n f = fault-moved (object-application s k n) refl (f k)

pub head-fault : {text : List ℕ} {s : State} {k : List Symbol} {e : Stop} → ((j : List Symbol) → IsFaultOf text (Atom ∷ j) s e) → IsFaultOf text (Application ∷ k) s e
head-fault {s = s} {k} f = fault-moved (application-atom s k) refl (f _)

pub called-fault : {text : List ℕ} {s u : State} {o : ObjectTree} {k : List Symbol} {e : Stop}
    → IsAtom s o u → ((j : List Symbol) → IsFaultOf text (Arguments ∷ j) u e) → IsFaultOf text (Application ∷ k) s e
called-fault {s = s} {k = k} a f = fault-moved (application-atom s k ∙ atom-accepts a _) (atom-end a) (f k)

pub argument_mark-fault : {text : List ℕ} {s u : State} {xs : List (SMode × ObjectTree)} {k : List Symbol} {e : Stop}
    → IsArguments s xs u → begins_argument (next_kind u.rest) ≡ true → ((j : List Symbol) → IsFaultOf text (Mark ∷ j) u e) → IsFaultOf text (Arguments ∷ k) s e
argument_mark-fault {u = u} {k = k} xs b f = fault-moved (arguments-accept xs k ∙ arguments-more u k b) (arguments-end xs) (f _)

pub argument_atom-fault : {text : List ℕ} {s u v : State} {xs : List (SMode × ObjectTree)} {m : SMode} {k : List Symbol} {e : Stop}
    → IsArguments s xs u → begins_argument (next_kind u.rest) ≡ true → IsMark u m v → ((j : List Symbol) → IsFaultOf text (Atom ∷ j) v e) → IsFaultOf text (Arguments ∷ k) s e
argument_atom-fault {u = u} {k = k} xs b m f = fault-moved (arguments-accept xs k ∙ arguments-more u k b ∙ mark-run m _) (arguments-end xs ∙ mark-end m) (f _)

pub index_banged-fault : {text : List ℕ} {s u : State} {k : List Symbol} {e : Stop}
    → Takes token.Bang s u → ((j : List Symbol) → IsFaultOf text (Atom ∷ j) u e) → IsFaultOf text (Index ∷ k) s e
index_banged-fault {k = k} h f = fault-moved (index-banged h k) (takes-end h) (f k)

pub index_bare-fault : {text : List ℕ} {s : State} {k : List Symbol} {e : Stop}
    → (next_kind s.rest ≡ token.Bang → ⊥) → ((j : List Symbol) → IsFaultOf text (Atom ∷ j) s e) → IsFaultOf text (Index ∷ k) s e
index_bare-fault {s = s} {k} n f = fault-moved (index-atom s k n) refl (f k)

pub indices-fault : {text : List ℕ} {s u : State} {os : List ObjectTree} {k : List Symbol} {e : Stop}
    → IsIndices s os u → begins_index (next_kind u.rest) ≡ true → ((j : List Symbol) → IsFaultOf text (Index ∷ j) u e) → IsFaultOf text (Indices ∷ k) s e
indices-fault {u = u} {k = k} os b f = fault-moved (indices-accept os k ∙ indices-more u k b) (indices-end os) (f _)

pub atom-fault : (text : List ℕ) (c : Cursor) (k : List Symbol) (e : Stop)
    → IsCursorOf text c → e ≡ unexpected c.next → begins_atom (kind_next text c) ≡ false → IsFaultOf text (Atom ∷ k) (state_of text c) e
atom-fault text c k e h f n = fault-stops text c (Atom ∷ k) e h f (atom-stops (state_of text c) k n)

pub atom_opening-fault : (text : List ℕ) (c : Cursor) (kind : TokenKind) (k : List Symbol) (e : Stop)
    → IsCursorOf text c → kind_next text c ≡ kind → MissesOpening text kind c e → opens_atom kind ≡ true → IsFaultOf text (Atom ∷ k) (state_of text c) e
atom_opening-fault text c kind k e h n m o = opening-missed text c kind (Atom ∷ k) e h n m (atom-deep (state_of text c) k (ap opens_atom n ∙ o))

pub pair_left-fault : {text : List ℕ} {s a : State} {k : List Symbol} {e : Stop}
    → Opens token.Less s a → ((j : List Symbol) → IsFaultOf text (Object ∷ j) a e) → IsFaultOf text (Atom ∷ k) s e
pair_left-fault {k = k} o f = fault-moved (atom-pair o k) (opens-end o) (f _)

pub pair_comma-fault : {text : List ℕ} {s a b : State} {l : ObjectTree} {k : List Symbol} {e : Stop}
    → Opens token.Less s a → IsObject a l b → IsFaultOf text (Expect token.Comma ∷ Object ∷ Close token.Greater s.room ∷ k) b e → IsFaultOf text (Atom ∷ k) s e
pair_comma-fault {k = k} o l f = fault-moved (atom-pair o k ∙ object-accepts l _) (opens-end o ∙ object-end l) f

pub pair_right-fault : {text : List ℕ} {s a b c : State} {l : ObjectTree} {k : List Symbol} {e : Stop}
    → Opens token.Less s a → IsObject a l b → Takes token.Comma b c → ((j : List Symbol) → IsFaultOf text (Object ∷ j) c e) → IsFaultOf text (Atom ∷ k) s e
pair_right-fault {k = k} o l c f = fault-moved (atom-pair o k ∙ object-accepts l _ ∙ expect-run c _) (opens-end o ∙ object-end l ∙ takes-end c) (f _)

pub pair_closing-fault : {text : List ℕ} {s a b c d : State} {l r : ObjectTree} {k : List Symbol} {e : Stop}
    → Opens token.Less s a → IsObject a l b → Takes token.Comma b c → IsObject c r d → IsFaultOf text (Close token.Greater s.room ∷ k) d e → IsFaultOf text (Atom ∷ k) s e
pair_closing-fault {k = k} o l c r f =
    fault-moved (atom-pair o k ∙ object-accepts l _ ∙ expect-run c _ ∙ object-accepts r _) (opens-end o ∙ object-end l ∙ takes-end c ∙ object-end r) f

pub braces_inside-fault : {text : List ℕ} {s a : State} {k : List Symbol} {e : Stop}
    → Opens token.LeftBrace s a → ((j : List Symbol) → IsFaultOf text (Expression ∷ j) a e) → IsFaultOf text (Atom ∷ k) s e
braces_inside-fault {k = k} o f = fault-moved (atom-braces o k) (opens-end o) (f _)

pub braces_closing-fault : {text : List ℕ} {s a b : State} {ss : _} {t : TupleTree} {k : List Symbol} {e : Stop}
    → Opens token.LeftBrace s a → IsExpression a ss t b → IsFaultOf text (Close token.RightBrace s.room ∷ k) b e → IsFaultOf text (Atom ∷ k) s e
braces_closing-fault {k = k} o x f = fault-moved (atom-braces o k ∙ expression-accepts x _) (opens-end o ∙ expression-end x) f

pub group_inside-fault : {text : List ℕ} {s a : State} {k : List Symbol} {e : Stop}
    → Opens token.LeftParen s a → ((j : List Symbol) → IsFaultOf text (Object ∷ j) a e) → IsFaultOf text (Atom ∷ k) s e
group_inside-fault {k = k} o f = fault-moved (atom-group o k) (opens-end o) (f _)

pub group_closing-fault : {text : List ℕ} {s a b : State} {o : ObjectTree} {k : List Symbol} {e : Stop}
    → Opens token.LeftParen s a → IsObject a o b → IsFaultOf text (Close token.RightParen s.room ∷ k) b e → IsFaultOf text (Atom ∷ k) s e
group_closing-fault {k = k} o x f = fault-moved (atom-group o k ∙ object-accepts x _) (opens-end o ∙ object-end x) f

pub first-fault : {text : List ℕ} {s a : State} {k : List Symbol} {e : Stop} → Opens token.Proj1 s a → ((j : List Symbol) → IsFaultOf text (Atom ∷ j) a e) → IsFaultOf text (Atom ∷ k) s e
first-fault {k = k} o f = fault-moved (atom-first o k) (opens-end o) (f _)

pub second-fault : {text : List ℕ} {s a : State} {k : List Symbol} {e : Stop} → Opens token.Proj2 s a → ((j : List Symbol) → IsFaultOf text (Atom ∷ j) a e) → IsFaultOf text (Atom ∷ k) s e
second-fault {k = k} o f = fault-moved (atom-second o k) (opens-end o) (f _)

pub result-fault : {text : List ℕ} {s u : State} {xs : List (PatternTree × ObjectTree)} {k : List Symbol} {e : Stop}
    → IsSteps s xs u → Ends is_let u → ((j : List Symbol) → IsFaultOf text (Tuple ∷ j) u e) → IsFaultOf text (Expression ∷ k) s e
result-fault {u = u} {k = k} xs n f = fault-moved (steps-accept xs k ∙ expression-tuple u k n) (steps-end xs) (f k)

pub step-fault : {text : List ℕ} {s u : State} {xs : List (PatternTree × ObjectTree)} {k : List Symbol} {e : Stop}
    → IsSteps s xs u → ((j : List Symbol) → IsFaultOf text (Expression ∷ j) u e) → IsFaultOf text (Expression ∷ k) s e
step-fault {k = k} xs f = fault-moved (steps-accept xs k) (steps-end xs) (f k)

-- a let without its opening brace, or one part too many
pub let_opening-fault : (text : List ℕ) (c : Cursor) (s : State) (k : List Symbol) (e : Stop)
    → IsCursorOf text c → Takes token.KwLet s (state_of text c) → MissesOpening text token.LeftBrace c e → IsFaultOf text (Expression ∷ k) s e
let_opening-fault text c s k e h t m = fault-moved (expression-let t k) (takes-end t) (missed m)
  where
    j : List Symbol
    j = Expect token.Equals ∷ Application ∷ Expect token.KwIn ∷ Expression ∷ k

    missed : MissesOpening text token.LeftBrace c e → IsFaultOf text (LetPattern ∷ j) (state_of text c) e
    missed (inl n) = fault-stops text c (LetPattern ∷ j) e h n.0 (let-stops (state_of text c) j n.1)
    missed (inr n) = opening-missed text c token.LeftBrace (LetPattern ∷ j) e h n.1 (inr n) (let-deep (state_of text c) j n.1)

pub let_pattern-fault : {text : List ℕ} {s a b : State} {k : List Symbol} {e : Stop}
    → Takes token.KwLet s a → Opens token.LeftBrace a b → ((j : List Symbol) → IsFaultOf text (Pattern ∷ j) b e) → IsFaultOf text (Expression ∷ k) s e
let_pattern-fault {k = k} t o f = fault-moved (expression-let t k ∙ let-opens o _) (takes-end t ∙ opens-end o) (f _)

pub let_closing-fault : {text : List ℕ} {s a b c : State} {p : PatternTree} {k : List Symbol} {e : Stop}
    → Takes token.KwLet s a → Opens token.LeftBrace a b → IsPattern b p c
    → ((j : List Symbol) → IsFaultOf text (Close token.RightBrace a.room ∷ j) c e) → IsFaultOf text (Expression ∷ k) s e
let_closing-fault {k = k} t o p f = fault-moved (expression-let t k ∙ let-opens o _ ∙ pattern-accepts p _) (takes-end t ∙ opens-end o ∙ pattern-end p) (f _)

pub let_equals-fault : {text : List ℕ} {s a b c d : State} {p : PatternTree} {k : List Symbol} {e : Stop}
    → Takes token.KwLet s a → Opens token.LeftBrace a b → IsPattern b p c → Closes token.RightBrace a.room c d
    → ((j : List Symbol) → IsFaultOf text (Expect token.Equals ∷ j) d e) → IsFaultOf text (Expression ∷ k) s e
let_equals-fault {k = k} t o p c f =
    fault-moved (expression-let t k ∙ let-opens o _ ∙ pattern-accepts p _ ∙ close-run c _) (takes-end t ∙ opens-end o ∙ pattern-end p ∙ closes-end c) (f _)

pub let_right-fault : {text : List ℕ} {s a b c d g : State} {p : PatternTree} {k : List Symbol} {e : Stop}
    → Takes token.KwLet s a → Opens token.LeftBrace a b → IsPattern b p c → Closes token.RightBrace a.room c d → Takes token.Equals d g
    → ((j : List Symbol) → IsFaultOf text (Application ∷ j) g e) → IsFaultOf text (Expression ∷ k) s e
let_right-fault {k = k} t o p c q f =
    fault-moved (expression-let t k ∙ let-opens o _ ∙ pattern-accepts p _ ∙ close-run c _ ∙ expect-run q _) (takes-end t ∙ opens-end o ∙ pattern-end p ∙ closes-end c ∙ takes-end q) (f _)

pub let_in-fault : {text : List ℕ} {s a b c d g h : State} {p : PatternTree} {x : ObjectTree} {k : List Symbol} {e : Stop}
    → Takes token.KwLet s a → Opens token.LeftBrace a b → IsPattern b p c → Closes token.RightBrace a.room c d → Takes token.Equals d g → IsApplication g x h
    → ((j : List Symbol) → IsFaultOf text (Expect token.KwIn ∷ j) h e) → IsFaultOf text (Expression ∷ k) s e
let_in-fault {k = k} t o p c q x f =
    fault-moved (expression-let t k ∙ let-opens o _ ∙ pattern-accepts p _ ∙ close-run c _ ∙ expect-run q _ ∙ application-accepts x _)
    (takes-end t ∙ opens-end o ∙ pattern-end p ∙ closes-end c ∙ takes-end q ∙ application-end x) (f _)

-- a let that comes next is not missed
pub let-fault : (text : List ℕ) (c : Cursor) (j : List Symbol) (e : Stop) → is_let (kind_next text c) ≡ true → Misses text token.KwLet c e → IsFaultOf text j (state_of text c) e
let-fault text c j e h m = absurd (not_let (kind_next text c) h m.1)
  where
    not_let : (k : TokenKind) → is_let k ≡ true → (k ≡ token.KwLet → ⊥) → ⊥
    not_let token.KwLet h n = n refl
    not_let _ h n = cc

pub tuple_one-fault : (text : List ℕ) (c : Cursor) (k : List Symbol) (e : Stop)
    → IsCursorOf text c → kind_next text c ≡ token.Number → MissesWord text token.Number (codes "1") c e → IsFaultOf text (Tuple ∷ k) (state_of text c) e
tuple_one-fault text c k e h n m = fault-stops text c (Tuple ∷ k) e h m.0
    (tuple-object (state_of text c) k (not-one-word text c e n m) (ap is_left_bracket n) (ap is_mark n)
    ∙ object-application (state_of text c) k (λ f. cc (f, n))
    ∙ application-atom (state_of text c) k
    ∙ atom-stops (state_of text c) (Arguments ∷ k) (ap begins_atom n))

pub tuple_opening-fault : (text : List ℕ) (c : Cursor) (k : List Symbol) (e : Stop)
    → IsCursorOf text c → kind_next text c ≡ token.LeftBracket → MissesOpening text token.LeftBracket c e → IsFaultOf text (Tuple ∷ k) (state_of text c) e
tuple_opening-fault text c k e h n m = opening-missed text c token.LeftBracket (Tuple ∷ k) e h n m (tuple-deep (state_of text c) k n)

pub tuple_inside-fault : {text : List ℕ} {s u : State} {k : List Symbol} {e : Stop}
    → Opens token.LeftBracket s u → ((j : List Symbol) → IsFaultOf text (Tuple ∷ TupleTail ∷ j) u e) → IsFaultOf text (Tuple ∷ k) s e
tuple_inside-fault {k = k} o f = fault-moved (tuple-opens o k) (opens-end o) (f _)

pub tuple_closing-fault : {text : List ℕ} {s u v : State} {ts : List TupleTree} {k : List Symbol} {e : Stop}
    → Opens token.LeftBracket s u → IsTuples u ts v → Ends is_comma v → IsFaultOf text (Close token.RightBracket s.room ∷ k) v e → IsFaultOf text (Tuple ∷ k) s e
tuple_closing-fault {v = v} {k = k} o ts i f = fault-moved (tuple-opens o k ∙ tuples-accept ts _ ∙ tuple_tail-ends v _ i) (opens-end o ∙ tuples-end ts) f

pub persistent-fault : {text : List ℕ} {s u : State} {k : List Symbol} {e : Stop}
    → Takes token.Bang s u → ((j : List Symbol) → IsFaultOf text (Atom ∷ j) u e) → IsFaultOf text (Tuple ∷ k) s e
persistent-fault {k = k} h f = fault-moved (tuple-persistent h k) (takes-end h) (f k)

pub affine-fault : {text : List ℕ} {s u : State} {k : List Symbol} {e : Stop}
    → Takes token.AtSign s u → ((j : List Symbol) → IsFaultOf text (Atom ∷ j) u e) → IsFaultOf text (Tuple ∷ k) s e
affine-fault {k = k} h f = fault-moved (tuple-affine h k) (takes-end h) (f k)

mark-not : (k : TokenKind) → (k ≡ token.Bang → ⊥) → (k ≡ token.AtSign → ⊥) → is_mark k ≡ false
mark-not token.Bang n m = absurd (n refl)
mark-not token.AtSign n m = absurd (m refl)
mark-not _ n m = refl

pub bare-fault : {text : List ℕ} {s : State} {k : List Symbol} {e : Stop}
    → (next_kind s.rest ≡ token.Number → ⊥) → (next_kind s.rest ≡ token.LeftBracket → ⊥) → (next_kind s.rest ≡ token.Bang → ⊥) → (next_kind s.rest ≡ token.AtSign → ⊥)
    → ((j : List Symbol) → IsFaultOf text (Object ∷ j) s e) → IsFaultOf text (Tuple ∷ k) s e
bare-fault {s = s} {k} n b m a f = fault-moved (tuple-object s k (not-number s n) (bracket-not (next_kind s.rest) b) (mark-not (next_kind s.rest) m a)) refl (f k)

pub tuples_next-fault : {text : List ℕ} {s u v : State} {ts : List TupleTree} {k : List Symbol} {e : Stop}
    → IsTuples s ts u → Takes token.Comma u v → ((j : List Symbol) → IsFaultOf text (Tuple ∷ j) v e) → IsFaultOf text (Tuple ∷ TupleTail ∷ k) s e
tuples_next-fault {k = k} ts c f = fault-moved (tuples-accept ts k ∙ tuple_tail-more c k) (tuples-end ts ∙ takes-end c) (f _)
