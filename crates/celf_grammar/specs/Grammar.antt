-- The grammar, production by production, as relations between two states of a reading and the tree of what lies between them.
-- A part is opened by each bracket, \, Pi, Exists, #1, #2, & and each arrow. That of a bracket ends with the closing one, with all
-- that was opened in it, and that of #1 or #2 with its atom; the others last to the end of the part around them, or of the item.
use Rattle.std.specs.Prelude.{ℕ, ◌≡◌, Bool, true, false, List, [], ◌∷◌, ◌++◌, codes, Option, Some, None, is_some}
use Rattle.clf_syntax.specs.declared.tree.Mode.TheVariants.{Persistent, Affine}
use Rattle.celf_lexer.specs.declared.token.TokenKind.{TokenKind}
use Rattle.celf_lexer.specs.declared.token.TokenKind.TheVariants as token
use Rattle.celf_surface.specs.declared.surface.Arrow.{Arrow}
use Rattle.celf_surface.specs.declared.surface.Arrow.TheVariants.{To, Back, Lolli, BackLolli, Affine as AffineArrow}
use Rattle.celf_surface.specs.declared.surface.Bound.{Bound}
use Rattle.celf_surface.specs.declared.surface.Bound.TheVariants.{Star as StarBound}
use Rattle.celf_surface.specs.declared.surface.SMode.{SMode}
use Rattle.celf_surface.specs.declared.surface.SMode.TheVariants.{Bare, Persistent as PersistentMark, Affine as AffineMark}
use Rattle.celf_surface.specs.declared.surface.Span.{Span}
use Rattle.celf_surface.specs.Surface.{WrittenPattern, pattern_one, pattern_entry, pattern_list, patterns_of, WrittenObject, lam, app, named, hole, unit, pair, braces, first, second, arguments_of, WrittenSteps, steps_of, WrittenTuple, tuple_one, tuple_list, tuple_marked, tuple_bare, tuples_of, WrittenType, pi, exists, arrow, tensor, marked, both, type_word, family, top, one, braced, WrittenItem, WrittenBody, declare, query, trace, equal, check}
use Rattle.celf_grammar.specs.State.{State, span_to, Ends, Takes, Opens, Closes, EndsPart, TakesName, TakesConstant, TakesOne, TakesDirective, TakesNumber}

-- the arrows that group to the right
abbrev pub forward_of : TokenKind → Option Arrow
forward_of token.Arrow = Some To
forward_of token.Lolli = Some Lolli
forward_of token.Affine = Some AffineArrow
forward_of _ = None

-- the arrows that group to the left
abbrev pub backward_of : TokenKind → Option Arrow
backward_of token.BackArrow = Some Back
backward_of token.BackLolli = Some BackLolli
backward_of _ = None

abbrev pub is_forward : TokenKind → Bool
is_forward k = is_some (forward_of k)

abbrev pub is_backward : TokenKind → Bool
is_backward k = is_some (backward_of k)

abbrev pub is_amp : TokenKind → Bool
is_amp token.Amp = true
is_amp _ = false

abbrev pub is_star : TokenKind → Bool
is_star token.Star = true
is_star _ = false

abbrev pub is_comma : TokenKind → Bool
is_comma token.Comma = true
is_comma _ = false

abbrev pub is_let : TokenKind → Bool
is_let token.KwLet = true
is_let _ = false

abbrev pub is_left_bracket : TokenKind → Bool
is_left_bracket token.LeftBracket = true
is_left_bracket _ = false

abbrev pub is_name_kind : TokenKind → Bool
is_name_kind (token.Name c) = true
is_name_kind _ = false

-- ! or @
abbrev pub is_mark : TokenKind → Bool
is_mark token.Bang = true
is_mark token.AtSign = true
is_mark _ = false

-- the first tokens of an atom
abbrev pub begins_atom : TokenKind → Bool
begins_atom (token.Name c) = true
begins_atom token.ConstName = true
begins_atom token.Hole = true
begins_atom token.UnitSign = true
begins_atom token.Less = true
begins_atom token.LeftBrace = true
begins_atom token.LeftParen = true
begins_atom token.Proj1 = true
begins_atom token.Proj2 = true
begins_atom _ = false

abbrev pub begins_argument : TokenKind → Bool
begins_argument token.Bang = true
begins_argument token.AtSign = true
begins_argument k = begins_atom k

abbrev pub begins_index : TokenKind → Bool
begins_index token.Bang = true
begins_index k = begins_atom k

-- [ '!' | '@' ]
pub data IsMark : State → SMode → State → Type 0 where
  mark_persistent : {s u : State} → Takes token.Bang s u → IsMark s PersistentMark u
  mark_affine : {s u : State} → Takes token.AtSign s u → IsMark s AffineMark u
  mark_none : {s : State} → Ends is_mark s → IsMark s Bare s

-- (NAME | '_')
pub data IsBinder : State → Option (List ℕ) → State → Type 0 where
  binder_named : {s u : State} {n : List ℕ} → TakesName s n u → IsBinder s (Some n) u
  binder_hole : {s u : State} → Takes token.Hole s u → IsBinder s None u

-- pat = '1' | [ '!' | '@' ] (NAME | '_') | '[' pat { ',' pat } ']'
mutual
  pub data IsPattern : State → WrittenPattern → State → Type 0 where
    pat_one : {s u : State} → TakesOne s u → IsPattern s pattern_one u
    pat_entry : {s u v : State} {m : SMode} {n : Option (List ℕ)} → IsMark s m u → IsBinder u n v → IsPattern s (pattern_entry m n) v
    pat_list : {s u v w : State} {ps : List WrittenPattern}
        → Opens token.LeftBracket s u → IsPatterns u ps v → Ends is_comma v → Closes token.RightBracket s.room v w → IsPattern s (pattern_list (patterns_of ps)) w

  -- pat { ',' pat }
  pub data IsPatterns : State → List WrittenPattern → State → Type 0 where
    pats_first : {s u : State} {p : WrittenPattern} → IsPattern s p u → IsPatterns s (p ∷ []) u
    pats_more : {s u v w : State} {ps : List WrittenPattern} {p : WrittenPattern}
        → IsPatterns s ps u → Takes token.Comma u v → IsPattern v p w → IsPatterns s (ps ++ (p ∷ [])) w

-- An application without arguments is its head.
abbrev pub applied : Span → WrittenObject → List (SMode × WrittenObject) → WrittenObject
applied s h [] = h
applied s h (a ∷ as_) = app s h (arguments_of (a ∷ as_))

mutual
  -- obj = '\' [ '!' | '@' ] (NAME | '_') '.' obj | app
  pub data IsObject : State → WrittenObject → State → Type 0 where
    obj_lambda : {s a b c d e : State} {m : SMode} {n : Option (List ℕ)} {o : WrittenObject}
        → Opens token.Backslash s a → IsMark a m b → IsBinder b n c → Takes token.Stop c d → IsObject d o e → IsObject s (lam (span_to s e) m n o) e
    obj_app : {s u : State} {o : WrittenObject} → IsApplication s o u → IsObject s o u

  -- app = atom { [ '!' | '@' ] atom }
  pub data IsApplication : State → WrittenObject → State → Type 0 where
    app_all : {s u v : State} {h : WrittenObject} {xs : List (SMode × WrittenObject)}
        → IsAtom s h u → IsArguments u xs v → Ends begins_argument v → IsApplication s (applied (span_to s v) h xs) v

  -- { [ '!' | '@' ] atom }
  pub data IsArguments : State → List (SMode × WrittenObject) → State → Type 0 where
    args_none : {s : State} → IsArguments s [] s
    args_more : {s u v w : State} {xs : List (SMode × WrittenObject)} {m : SMode} {o : WrittenObject}
        → IsArguments s xs u → IsMark u m v → IsAtom v o w → IsArguments s (xs ++ ((m, o) ∷ [])) w

  -- atom = NAME | CONSTNAME | '_' | '<>' | '<' obj ',' obj '>' | '{' expr '}' | '(' obj ')' | '#1' atom | '#2' atom
  pub data IsAtom : State → WrittenObject → State → Type 0 where
    atom_name : {s u : State} {n : List ℕ} → TakesName s n u → IsAtom s (named (span_to s u) n false) u
    atom_constant : {s u : State} {n : List ℕ} → TakesConstant s n u → IsAtom s (named (span_to s u) n true) u
    atom_hole : {s u : State} → Takes token.Hole s u → IsAtom s (hole (span_to s u)) u
    atom_unit : {s u : State} → Takes token.UnitSign s u → IsAtom s (unit (span_to s u)) u
    atom_pair : {s a b c d e : State} {l r : WrittenObject}
        → Opens token.Less s a → IsObject a l b → Takes token.Comma b c → IsObject c r d → Closes token.Greater s.room d e → IsAtom s (pair (span_to s e) l r) e
    atom_braces : {s a b c : State} {ss : WrittenSteps} {t : WrittenTuple}
        → Opens token.LeftBrace s a → IsExpression a ss t b → Closes token.RightBrace s.room b c → IsAtom s (braces (span_to s c) ss t) c
    atom_group : {s a b c : State} {o : WrittenObject}
        → Opens token.LeftParen s a → IsObject a o b → Closes token.RightParen s.room b c → IsAtom s o c
    atom_first : {s a b c : State} {o : WrittenObject} → Opens token.Proj1 s a → IsAtom a o b → EndsPart s.room b c → IsAtom s (first (span_to s c) o) c
    atom_second : {s a b c : State} {o : WrittenObject} → Opens token.Proj2 s a → IsAtom a o b → EndsPart s.room b c → IsAtom s (second (span_to s c) o) c

  -- expr = { 'let' '{' pat '}' '=' app 'in' } tuple
  pub data IsExpression : State → WrittenSteps → WrittenTuple → State → Type 0 where
    expr_all : {s u v : State} {xs : List (WrittenPattern × WrittenObject)} {t : WrittenTuple}
        → IsSteps s xs u → Ends is_let u → IsTuple u t v → IsExpression s (steps_of xs) t v

  -- { 'let' '{' pat '}' '=' app 'in' }
  pub data IsSteps : State → List (WrittenPattern × WrittenObject) → State → Type 0 where
    steps_none : {s : State} → IsSteps s [] s
    steps_more : {s u v : State} {xs : List (WrittenPattern × WrittenObject)} {p : WrittenPattern} {o : WrittenObject}
        → IsSteps s xs u → IsStep u p o v → IsSteps s (xs ++ ((p, o) ∷ [])) v

  -- 'let' '{' pat '}' '=' app 'in'
  pub data IsStep : State → WrittenPattern → WrittenObject → State → Type 0 where
    step_let : {s a b c d e f g : State} {p : WrittenPattern} {o : WrittenObject}
        → Takes token.KwLet s a → Opens token.LeftBrace a b → IsPattern b p c → Closes token.RightBrace a.room c d
        → Takes token.Equals d e → IsApplication e o f → Takes token.KwIn f g → IsStep s p o g

  -- tuple = '1' | '[' tuple { ',' tuple } ']' | '!' atom | '@' atom | obj
  pub data IsTuple : State → WrittenTuple → State → Type 0 where
    tup_one : {s u : State} → TakesOne s u → IsTuple s tuple_one u
    tup_list : {s u v w : State} {ts : List WrittenTuple}
        → Opens token.LeftBracket s u → IsTuples u ts v → Ends is_comma v → Closes token.RightBracket s.room v w → IsTuple s (tuple_list (tuples_of ts)) w
    tup_persistent : {s u v : State} {o : WrittenObject} → Takes token.Bang s u → IsAtom u o v → IsTuple s (tuple_marked Persistent o) v
    tup_affine : {s u v : State} {o : WrittenObject} → Takes token.AtSign s u → IsAtom u o v → IsTuple s (tuple_marked Affine o) v
    tup_bare : {s u : State} {o : WrittenObject} → IsObject s o u → IsTuple s (tuple_bare o) u

  -- tuple { ',' tuple }
  pub data IsTuples : State → List WrittenTuple → State → Type 0 where
    tups_first : {s u : State} {t : WrittenTuple} → IsTuple s t u → IsTuples s (t ∷ []) u
    tups_more : {s u v w : State} {ts : List WrittenTuple} {t : WrittenTuple}
        → IsTuples s ts u → Takes token.Comma u v → IsTuple v t w → IsTuples s (ts ++ (t ∷ [])) w

-- index = [ '!' ] atom
pub data IsIndex : State → WrittenObject → State → Type 0 where
  index_bare : {s u : State} {o : WrittenObject} → IsAtom s o u → IsIndex s o u
  index_banged : {s u v : State} {o : WrittenObject} → Takes token.Bang s u → IsAtom u o v → IsIndex s o v

-- { index }
pub data IsIndices : State → List WrittenObject → State → Type 0 where
  indices_none : {s : State} → IsIndices s [] s
  indices_more : {s u v : State} {os : List WrittenObject} {o : WrittenObject} → IsIndices s os u → IsIndex u o v → IsIndices s (os ++ (o ∷ [])) v

-- FAMILY = NAME | CONSTNAME
pub data IsFamilyName : State → List ℕ → Bool → State → Type 0 where
  family_name : {s u : State} {n : List ℕ} → TakesName s n u → IsFamilyName s n false u
  family_constant : {s u : State} {n : List ℕ} → TakesConstant s n u → IsFamilyName s n true u

-- an arrow, which opens a part
pub record OpensArrow (of : TokenKind → Option Arrow) (k : Arrow) (s u : State) : Type 0 where
  pub kind : TokenKind
  pub sign : Opens kind s u
  pub is : of kind ≡ Some k

mutual
  -- type = fwd { ('<-' | 'o-') fwd }
  pub data IsType : State → WrittenType → State → Type 0 where
    type_all : {s u : State} {a : WrittenType} → IsBackward s a u → Ends is_backward u → IsType s a u

  pub data IsBackward : State → WrittenType → State → Type 0 where
    back_first : {s u : State} {a : WrittenType} → IsForward s a u → IsBackward s a u
    back_more : {s u v w : State} {a b : WrittenType} {k : Arrow}
        → IsBackward s a u → OpensArrow backward_of k u v → IsForward v b w → IsBackward s (arrow (span_to s w) k a b) w

  -- fwd = 'Pi' NAME ':' type '.' type | sync [ ('->' | '-o' | '-@') fwd ]
  pub data IsForward : State → WrittenType → State → Type 0 where
    forward_pi : {s a b c d e f : State} {n : List ℕ} {x y : WrittenType}
        → Opens token.KwPi s a → TakesName a n b → Takes token.Colon b c → IsType c x d → Takes token.Stop d e → IsType e y f → IsForward s (pi (span_to s f) n x y) f
    forward_alone : {s u : State} {a : WrittenType} → IsSync s a u → Ends is_forward u → IsForward s a u
    forward_arrow : {s u v w : State} {a b : WrittenType} {k : Arrow}
        → IsSync s a u → OpensArrow forward_of k u v → IsForward v b w → IsForward s (arrow (span_to s w) k a b) w

  -- sync = 'Exists' NAME ':' type '.' sync | factor [ '*' sync ]
  pub data IsSync : State → WrittenType → State → Type 0 where
    sync_exists : {s a b c d e f : State} {n : List ℕ} {x y : WrittenType}
        → Opens token.KwExists s a → TakesName a n b → Takes token.Colon b c → IsType c x d → Takes token.Stop d e → IsSync e y f → IsSync s (exists (span_to s f) n x y) f
    sync_alone : {s u : State} {a : WrittenType} → IsFactor s a u → Ends is_star u → IsSync s a u
    sync_product : {s u v w : State} {a b : WrittenType} → IsFactor s a u → Takes token.Star u v → IsSync v b w → IsSync s (tensor (span_to s w) a b) w

  -- factor = '!' with | '@' with | with
  pub data IsFactor : State → WrittenType → State → Type 0 where
    factor_persistent : {s u v : State} {a : WrittenType} → Takes token.Bang s u → IsWith u a v → IsFactor s (marked (span_to s v) Persistent a) v
    factor_affine : {s u v : State} {a : WrittenType} → Takes token.AtSign s u → IsWith u a v → IsFactor s (marked (span_to s v) Affine a) v
    factor_bare : {s u : State} {a : WrittenType} → IsWith s a u → IsFactor s a u

  -- with = atomty [ '&' with ]
  pub data IsWith : State → WrittenType → State → Type 0 where
    with_alone : {s u : State} {a : WrittenType} → IsTypeAtom s a u → Ends is_amp u → IsWith s a u
    with_pair : {s u v w : State} {a b : WrittenType} → IsTypeAtom s a u → Opens token.Amp u v → IsWith v b w → IsWith s (both (span_to s w) a b) w

  -- atomty = 'type' | FAMILY { index } | '<T>' | '1' | '{' type '}' | '(' type ')'
  pub data IsTypeAtom : State → WrittenType → State → Type 0 where
    atomty_word : {s u : State} → Takes token.KwType s u → IsTypeAtom s (type_word (span_to s u)) u
    atomty_family : {s u v : State} {n : List ℕ} {d : Bool} {is : List WrittenObject}
        → IsFamilyName s n d u → IsIndices u is v → Ends begins_index v → IsTypeAtom s (family (span_to s v) n d (span_to s u) is) v
    atomty_top : {s u : State} → Takes token.TopSign s u → IsTypeAtom s (top (span_to s u)) u
    atomty_one : {s u : State} → TakesOne s u → IsTypeAtom s (one (span_to s u)) u
    atomty_braces : {s a b c : State} {x : WrittenType} → Opens token.LeftBrace s a → IsType a x b → Closes token.RightBrace s.room b c → IsTypeAtom s (braced (span_to s c) x) c
    atomty_group : {s a b c : State} {x : WrittenType} → Opens token.LeftParen s a → IsType a x b → Closes token.RightParen s.room b c → IsTypeAtom s x c

-- bound = NUM | '*'
pub data IsBound : State → Bound → State → Type 0 where
  bound_number : {s u : State} {b : Bound} → TakesNumber s b u → IsBound s b u
  bound_star : {s u : State} → Takes token.Star s u → IsBound s StarBound u

-- [ '[' NUM ']' ], which is no nested part
pub data IsImplicit : State → Option Bound → State → Type 0 where
  implicit_count : {s a b c : State} {n : Bound}
      → Takes token.LeftBracket s a → TakesNumber a n b → Takes token.RightBracket b c → IsImplicit s (Some n) c
  implicit_none : {s : State} → Ends is_left_bracket s → IsImplicit s None s

-- An item without its full stop:
-- NAME ':' [ '[' NUM ']' ] type | '#query' bound bound bound bound type | '#trace' bound type | '#equal' obj '=' obj ':' type | '#check' obj ':' type
pub data IsBody : State → WrittenBody → State → Type 0 where
  body_declare : {s a b c d : State} {n : List ℕ} {i : Option Bound} {t : WrittenType}
      → TakesName s n a → Takes token.Colon a b → IsImplicit b i c → IsType c t d → IsBody s (declare n i t) d
  body_query : {s a b c d e f : State} {w x y z : Bound} {t : WrittenType}
      → TakesDirective (codes "#query") s a → IsBound a w b → IsBound b x c → IsBound c y d → IsBound d z e → IsType e t f → IsBody s (query w x y z t) f
  body_trace : {s a b c : State} {n : Bound} {t : WrittenType}
      → TakesDirective (codes "#trace") s a → IsBound a n b → IsType b t c → IsBody s (trace n t) c
  body_equal : {s a b c d e f : State} {l r : WrittenObject} {t : WrittenType}
      → TakesDirective (codes "#equal") s a → IsObject a l b → Takes token.Equals b c → IsObject c r d → Takes token.Colon d e → IsType e t f
      → IsBody s (equal l r t) f
  body_check : {s a b c d : State} {o : WrittenObject} {t : WrittenType}
      → TakesDirective (codes "#check") s a → IsObject a o b → Takes token.Colon b c → IsType c t d → IsBody s (check o t) d

-- item = body '.'
pub data IsItem : State → WrittenItem → State → Type 0 where
  item_all : {s u v : State} {b : WrittenBody} → IsBody s b u → Takes token.Stop u v → IsItem s (record { span = span_to s v; body = b }) v

pub ruleset family_steps = (family_name, family_constant)

pub ruleset mark_steps = (mark_persistent, mark_affine, mark_none)

pub ruleset binder_steps = (binder_named, binder_hole)

pub ruleset bound_steps = (bound_number, bound_star)

pub ruleset implicit_steps = (implicit_count, implicit_none)
