-- A pattern and an object have one tree.
use Rattle.std.proofs.Common.{◌≡◌, ℕ, List, [], ◌∷◌, ◌++◌, Bool, true, refl, sym, ap, ◌∙◌, Option}
use Rattle.std.proofs.lemmas.Bool.{true≢false}
use Rattle.celf_lexer.specs.declared.token.TokenKind.{TokenKind}
use Rattle.celf_lexer.specs.declared.token.TokenKind.TheVariants as token
use Rattle.celf_surface.specs.declared.surface.SMode.{SMode}
use Rattle.celf_surface.specs.Surface.{WrittenPattern, pattern_list, patterns_of, WrittenObject, WrittenSteps, steps_of, WrittenTuple, tuple_list, tuple_bare, tuples_of}
use Rattle.celf_grammar.specs.State.{State, next_kind, Ends, Takes}
use Rattle.celf_grammar.specs.Grammar.{is_comma, is_let, begins_argument, begins_index, IsMark, mark_persistent, mark_affine, mark_none, IsBinder, binder_named, binder_hole, IsPattern, pat_one, pat_entry, pat_list, IsPatterns, pats_first, pats_more, IsObject, obj_lambda, obj_app, IsApplication, app_all, IsArguments, args_none, args_more, IsAtom, atom_name, atom_constant, atom_hole, atom_unit, atom_pair, atom_braces, atom_group, atom_first, atom_second, IsExpression, expr_all, IsSteps, steps_none, steps_more, IsStep, step_let, IsTuple, tup_one, tup_list, tup_persistent, tup_affine, tup_bare, IsTuples, tups_first, tups_more, IsIndex, index_bare, index_banged, IsIndices, indices_none, indices_more, IsFamilyName, family_name, family_constant}
use Rattle.celf_grammar.proofs.Begins.{kind-taken, begins_object, argument-begins, application-no_lambda, object-begins, atom-no_bang, index-begins}
use Rattle.celf_grammar.proofs.OneToken.{Same, apart, same-kind, same-room, takes-same, opens-same, closes-same, part-same, name-same, constant-same, word-same, mark-same, binder-same}
use Rattle.celf_grammar.proofs.Goes.{Goes, goes_end, goes_on, goes-from, goes-next, goes-none}

-- patterns

abbrev PatternStep : List WrittenPattern → State → List WrittenPattern → State → Type 0
PatternStep ps u qs w = (p : WrittenPattern) × (v : State) × Takes token.Comma u v × IsPattern v p w × (qs ≡ ps ++ (p ∷ []))

abbrev GoesPatterns : List WrittenPattern → State → List WrittenPattern → State → Type 0
GoesPatterns = Goes (List WrittenPattern) PatternStep is_comma

patterns-go : {s u v : State} {ps qs : List WrittenPattern} → IsPatterns s ps u → GoesPatterns ps u qs v → (p : WrittenPattern) × (t : State) × IsPattern s p t × GoesPatterns (p ∷ []) t qs v
patterns-go (pats_first p) g = (_, _, p, g)
patterns-go (pats_more ps c p) g = patterns-go ps (goes_on (_, _, c, p, refl) g)

abbrev pattern_at : TokenKind → ℕ
pattern_at token.Number = 1
pattern_at token.LeftBracket = 2
pattern_at _ = 0

abbrev pattern_form : {s u : State} {p : WrittenPattern} → IsPattern s p u → ℕ
pattern_form (pat_one h) = 1
pattern_form (pat_entry m b) = 0
pattern_form (pat_list o ps e c) = 2

entry-form : {s u v : State} {m : SMode} {n : Option (List ℕ)} → IsMark s m u → IsBinder u n v → pattern_at (next_kind s.rest) ≡ 0
entry-form (mark_persistent h) b = ap pattern_at (kind-taken h.taken h.kind)
entry-form (mark_affine h) b = ap pattern_at (kind-taken h.taken h.kind)
entry-form (mark_none e) (binder_named h) = ap pattern_at (kind-taken h.taken h.kind)
entry-form (mark_none e) (binder_hole h) = ap pattern_at (kind-taken h.taken h.kind)

pattern-form : {s u : State} {p : WrittenPattern} (d : IsPattern s p u) → pattern_at (next_kind s.rest) ≡ pattern_form d
pattern-form (pat_one h) = ap pattern_at (kind-taken h.taken h.kind)
pattern-form (pat_entry m b) = entry-form m b
pattern-form (pat_list o ps e c) = ap pattern_at (kind-taken o.taken o.kind)

mutual
  pub pattern-same : {s r u v : State} {p q : WrittenPattern} → IsPattern s p u → IsPattern r q v → s ≡ r → Same p u q v
  pattern-same (pat_one h) (pat_one g) e = (refl, (word-same h g e).1)
  pattern-same (pat_entry m b) (pat_entry n d) e = let i = mark-same m n e in let j = binder-same b d i.1 in (cc, j.1)
  pattern-same (pat_list o ps h c) (pat_list p qs g d) e =
      let f = patterns-go qs (goes_end g) in
      let i = goes-none (patterns-same ps f.2 f.3 (opens-same o p e)) h (λ a r step. ap is_comma (kind-taken step.2.taken step.2.kind)) in
      (ap (λ x. pattern_list (patterns_of x)) i.0, closes-same c d (same-room e) i.1)
  pattern-same d g e = absurd (apart refl (sym (pattern-form d) ∙ ap pattern_at (same-kind e) ∙ pattern-form g))

  patterns-same : {s r t u v : State} {ps qs : List WrittenPattern} {q : WrittenPattern} → IsPatterns s ps u → IsPattern r q t → GoesPatterns (q ∷ []) t qs v → s ≡ r → GoesPatterns ps u qs v
  patterns-same (pats_first p) d g e = let i = pattern-same p d e in goes-from g (ap (λ x. x ∷ []) i.0) i.1
  patterns-same (pats_more ps c p) d g e =
      goes-next (patterns-same ps d g e) (ap is_comma (kind-taken c.taken c.kind))
      (λ a r step. let i = pattern-same p step.3 (takes-same c step.2 refl) in (cc, i.1))

-- objects

abbrev ArgumentStep : List (SMode × WrittenObject) → State → List (SMode × WrittenObject) → State → Type 0
ArgumentStep xs u ys w = (m : SMode) × (o : WrittenObject) × (v : State) × IsMark u m v × IsAtom v o w × (ys ≡ xs ++ ((m, o) ∷ []))

abbrev GoesArguments : List (SMode × WrittenObject) → State → List (SMode × WrittenObject) → State → Type 0
GoesArguments = Goes (List (SMode × WrittenObject)) ArgumentStep begins_argument

arguments-go : {s u v : State} {xs ys : List (SMode × WrittenObject)} → IsArguments s xs u → GoesArguments xs u ys v → GoesArguments [] s ys v
arguments-go args_none g = g
arguments-go (args_more xs m a) g = arguments-go xs (goes_on (_, _, _, m, a, refl) g)

abbrev LetStep : List (WrittenPattern × WrittenObject) → State → List (WrittenPattern × WrittenObject) → State → Type 0
LetStep xs u ys w = (p : WrittenPattern) × (o : WrittenObject) × IsStep u p o w × (ys ≡ xs ++ ((p, o) ∷ []))

abbrev GoesSteps : List (WrittenPattern × WrittenObject) → State → List (WrittenPattern × WrittenObject) → State → Type 0
GoesSteps = Goes (List (WrittenPattern × WrittenObject)) LetStep is_let

steps-go : {s u v : State} {xs ys : List (WrittenPattern × WrittenObject)} → IsSteps s xs u → GoesSteps xs u ys v → GoesSteps [] s ys v
steps-go steps_none g = g
steps-go (steps_more xs x) g = steps-go xs (goes_on (_, _, x, refl) g)

step-begins : {s u : State} {p : WrittenPattern} {o : WrittenObject} → IsStep s p o u → is_let (next_kind s.rest) ≡ true
step-begins (step_let h a p b c o i) = ap is_let (kind-taken h.taken h.kind)

abbrev TupleStep : List WrittenTuple → State → List WrittenTuple → State → Type 0
TupleStep ts u us w = (t : WrittenTuple) × (v : State) × Takes token.Comma u v × IsTuple v t w × (us ≡ ts ++ (t ∷ []))

abbrev GoesTuples : List WrittenTuple → State → List WrittenTuple → State → Type 0
GoesTuples = Goes (List WrittenTuple) TupleStep is_comma

tuples-go : {s u v : State} {ts us : List WrittenTuple} → IsTuples s ts u → GoesTuples ts u us v → (t : WrittenTuple) × (w : State) × IsTuple s t w × GoesTuples (t ∷ []) w us v
tuples-go (tups_first t) g = (_, _, t, g)
tuples-go (tups_more ts c t) g = tuples-go ts (goes_on (_, _, c, t, refl) g)

abbrev atom_at : TokenKind → ℕ
atom_at (token.Name c) = 0
atom_at token.ConstName = 1
atom_at token.Hole = 2
atom_at token.UnitSign = 3
atom_at token.Less = 4
atom_at token.LeftBrace = 5
atom_at token.LeftParen = 6
atom_at token.Proj1 = 7
atom_at token.Proj2 = 8
atom_at _ = 9

abbrev atom_form : {s u : State} {o : WrittenObject} → IsAtom s o u → ℕ
atom_form (atom_name h) = 0
atom_form (atom_constant h) = 1
atom_form (atom_hole h) = 2
atom_form (atom_unit h) = 3
atom_form (atom_pair h l c r d) = 4
atom_form (atom_braces h x c) = 5
atom_form (atom_group h o c) = 6
atom_form (atom_first h o c) = 7
atom_form (atom_second h o c) = 8

atom-form : {s u : State} {o : WrittenObject} (d : IsAtom s o u) → atom_at (next_kind s.rest) ≡ atom_form d
atom-form (atom_name h) = ap atom_at (kind-taken h.taken h.kind)
atom-form (atom_constant h) = ap atom_at (kind-taken h.taken h.kind)
atom-form (atom_hole h) = ap atom_at (kind-taken h.taken h.kind)
atom-form (atom_unit h) = ap atom_at (kind-taken h.taken h.kind)
atom-form (atom_pair h l c r d) = ap atom_at (kind-taken h.taken h.kind)
atom-form (atom_braces h x c) = ap atom_at (kind-taken h.taken h.kind)
atom-form (atom_group h o c) = ap atom_at (kind-taken h.taken h.kind)
atom-form (atom_first h o c) = ap atom_at (kind-taken h.taken h.kind)
atom-form (atom_second h o c) = ap atom_at (kind-taken h.taken h.kind)

abbrev tuple_at : TokenKind → ℕ
tuple_at token.Number = 1
tuple_at token.LeftBracket = 2
tuple_at token.Bang = 3
tuple_at token.AtSign = 4
tuple_at _ = 0

abbrev tuple_form : {s u : State} {t : WrittenTuple} → IsTuple s t u → ℕ
tuple_form (tup_one h) = 1
tuple_form (tup_list h ts e c) = 2
tuple_form (tup_persistent h a) = 3
tuple_form (tup_affine h a) = 4
tuple_form (tup_bare o) = 0

bare-form : (c : TokenKind) → begins_object c ≡ true → tuple_at c ≡ 0
bare-form token.Number e = absurd (true≢false (sym e))
bare-form token.LeftBracket e = absurd (true≢false (sym e))
bare-form token.Bang e = absurd (true≢false (sym e))
bare-form token.AtSign e = absurd (true≢false (sym e))
bare-form _ e = refl

tuple-form : {s u : State} {t : WrittenTuple} (d : IsTuple s t u) → tuple_at (next_kind s.rest) ≡ tuple_form d
tuple-form (tup_one h) = ap tuple_at (kind-taken h.taken h.kind)
tuple-form (tup_list h ts e c) = ap tuple_at (kind-taken h.taken h.kind)
tuple-form (tup_persistent h a) = ap tuple_at (kind-taken h.taken h.kind)
tuple-form (tup_affine h a) = ap tuple_at (kind-taken h.taken h.kind)
tuple-form {s} (tup_bare o) = bare-form (next_kind s.rest) (object-begins o)

mutual
  pub object-same : {s r u v : State} {o p : WrittenObject} → IsObject s o u → IsObject r p v → s ≡ r → Same o u p v
  object-same (obj_lambda h m b d o) (obj_lambda g n c k p) e =
      let i = mark-same m n (opens-same h g e) in let j = binder-same b c i.1 in let x = object-same o p (takes-same d k j.1) in (cc, x.1)
  object-same (obj_app a) (obj_app b) e = application-same a b e
  object-same (obj_lambda h m b d o) (obj_app a) e = absurd (application-no_lambda a (sym (same-kind e) ∙ kind-taken h.taken h.kind))
  object-same (obj_app a) (obj_lambda h m b d o) e = absurd (application-no_lambda a (same-kind e ∙ kind-taken h.taken h.kind))

  pub application-same : {s r u v : State} {o p : WrittenObject} → IsApplication s o u → IsApplication r p v → s ≡ r → Same o u p v
  application-same (app_all a xs h) (app_all b ys g) e =
      let i = atom-same a b e in
      let j = goes-none (arguments-same xs (arguments-go ys (goes_end g)) i.1) h (λ a r step. argument-begins step.3 step.4) in (cc, j.1)

  arguments-same : {s r u v : State} {xs ys : List (SMode × WrittenObject)} → IsArguments s xs u → GoesArguments [] r ys v → s ≡ r → GoesArguments xs u ys v
  arguments-same args_none g e = goes-from g refl e
  arguments-same (args_more xs m a) g e =
      goes-next (arguments-same xs g e) (argument-begins m a) (λ y r step. let j = mark-same m step.3 refl in let i = atom-same a step.4 j.1 in (cc, i.1))

  pub atom-same : {s r u v : State} {o p : WrittenObject} → IsAtom s o u → IsAtom r p v → s ≡ r → Same o u p v
  atom-same (atom_name h) (atom_name g) e = let i = name-same h g e in (cc, i.1)
  atom-same (atom_constant h) (atom_constant g) e = let i = constant-same h g e in (cc, i.1)
  atom-same (atom_hole h) (atom_hole g) e = let i = takes-same h g e in (cc, i)
  atom-same (atom_unit h) (atom_unit g) e = let i = takes-same h g e in (cc, i)
  atom-same (atom_pair h l c r d) (atom_pair g m b q k) e =
      let i = object-same l m (opens-same h g e) in let j = object-same r q (takes-same c b i.1) in let x = closes-same d k (same-room e) j.1 in (cc, x)
  atom-same (atom_braces h x c) (atom_braces g y d) e = let i = expression-same x y (opens-same h g e) in let j = closes-same c d (same-room e) i.2 in (cc, j)
  atom-same (atom_group h o c) (atom_group g p d) e = let i = object-same o p (opens-same h g e) in (i.0, closes-same c d (same-room e) i.1)
  atom-same (atom_first h o c) (atom_first g p d) e = let i = atom-same o p (opens-same h g e) in let j = part-same c d (same-room e) i.1 in (cc, j)
  atom-same (atom_second h o c) (atom_second g p d) e = let i = atom-same o p (opens-same h g e) in let j = part-same c d (same-room e) i.1 in (cc, j)
  atom-same d g e = absurd (apart refl (sym (atom-form d) ∙ ap atom_at (same-kind e) ∙ atom-form g))

  pub expression-same : {s r u v : State} {ss zs : WrittenSteps} {t x : WrittenTuple} → IsExpression s ss t u → IsExpression r zs x v → s ≡ r → (ss ≡ zs) × (t ≡ x) × (u ≡ v)
  expression-same (expr_all xs h t) (expr_all ys g x) e =
      let i = goes-none (steps-same xs (steps-go ys (goes_end g)) e) h (λ a r step. step-begins step.2) in
      let j = tuple-same t x i.1 in (ap steps_of i.0, j.0, j.1)

  steps-same : {s r u v : State} {xs ys : List (WrittenPattern × WrittenObject)} → IsSteps s xs u → GoesSteps [] r ys v → s ≡ r → GoesSteps xs u ys v
  steps-same steps_none g e = goes-from g refl e
  steps-same (steps_more xs x) g e = goes-next (steps-same xs g e) (step-begins x) (λ y r step. let i = step-same x step.2 refl in (cc, i.2))

  step-same : {s r u v : State} {p q : WrittenPattern} {o x : WrittenObject} → IsStep s p o u → IsStep r q x v → s ≡ r → (p ≡ q) × (o ≡ x) × (u ≡ v)
  step-same (step_let a b p c d o i) (step_let h g q k l x j) e =
      let m = takes-same a h e in let n = pattern-same p q (opens-same b g m) in
      let y = application-same o x (takes-same d l (closes-same c k (same-room m) n.1)) in (n.0, y.0, takes-same i j y.1)

  pub tuple-same : {s r u v : State} {t x : WrittenTuple} → IsTuple s t u → IsTuple r x v → s ≡ r → Same t u x v
  tuple-same (tup_one h) (tup_one g) e = (refl, (word-same h g e).1)
  tuple-same (tup_list o ts h c) (tup_list p us g d) e =
      let f = tuples-go us (goes_end g) in
      let i = goes-none (tuples-same ts f.2 f.3 (opens-same o p e)) h (λ a r step. ap is_comma (kind-taken step.2.taken step.2.kind)) in
      (ap (λ x. tuple_list (tuples_of x)) i.0, closes-same c d (same-room e) i.1)
  tuple-same (tup_persistent h a) (tup_persistent g b) e = let i = atom-same a b (takes-same h g e) in (cc, i.1)
  tuple-same (tup_affine h a) (tup_affine g b) e = let i = atom-same a b (takes-same h g e) in (cc, i.1)
  tuple-same (tup_bare o) (tup_bare p) e = let i = object-same o p e in (ap tuple_bare i.0, i.1)
  tuple-same d g e = absurd (apart refl (sym (tuple-form d) ∙ ap tuple_at (same-kind e) ∙ tuple-form g))

  tuples-same : {s r w u v : State} {ts us : List WrittenTuple} {x : WrittenTuple} → IsTuples s ts u → IsTuple r x w → GoesTuples (x ∷ []) w us v → s ≡ r → GoesTuples ts u us v
  tuples-same (tups_first t) d g e = let i = tuple-same t d e in goes-from g (ap (λ x. x ∷ []) i.0) i.1
  tuples-same (tups_more ts c t) d g e =
      goes-next (tuples-same ts d g e) (ap is_comma (kind-taken c.taken c.kind)) (λ a r step. let i = tuple-same t step.3 (takes-same c step.2 refl) in (cc, i.1))

-- indices and the names of families

index-same : {s r u v : State} {o p : WrittenObject} → IsIndex s o u → IsIndex r p v → s ≡ r → Same o u p v
index-same (index_bare a) (index_bare b) e = atom-same a b e
index-same (index_banged h a) (index_banged g b) e = atom-same a b (takes-same h g e)
index-same (index_bare a) (index_banged h b) e = absurd (atom-no_bang a (same-kind e ∙ kind-taken h.taken h.kind))
index-same (index_banged h a) (index_bare b) e = absurd (atom-no_bang b (sym (same-kind e) ∙ kind-taken h.taken h.kind))

abbrev IndexStep : List WrittenObject → State → List WrittenObject → State → Type 0
IndexStep xs u ys w = (o : WrittenObject) × IsIndex u o w × (ys ≡ xs ++ (o ∷ []))

abbrev GoesIndices : List WrittenObject → State → List WrittenObject → State → Type 0
GoesIndices = Goes (List WrittenObject) IndexStep begins_index

indices-go : {s u v : State} {xs ys : List WrittenObject} → IsIndices s xs u → GoesIndices xs u ys v → GoesIndices [] s ys v
indices-go indices_none g = g
indices-go (indices_more xs x) g = indices-go xs (goes_on (_, x, refl) g)

indices-next : {s r u v : State} {xs ys : List WrittenObject} → IsIndices s xs u → GoesIndices [] r ys v → s ≡ r → GoesIndices xs u ys v
indices-next indices_none g e = goes-from g refl e
indices-next (indices_more xs x) g e = goes-next (indices-next xs g e) (index-begins x) (λ y r step. let i = index-same x step.1 refl in (cc, i.1))

pub indices-same : {s r u v : State} {xs ys : List WrittenObject} → IsIndices s xs u → IsIndices r ys v → Ends begins_index u → Ends begins_index v → s ≡ r → Same xs u ys v
indices-same xs ys h g e = goes-none (indices-next xs (indices-go ys (goes_end g)) e) h (λ a r step. index-begins step.1)

abbrev family_at : TokenKind → ℕ
family_at token.ConstName = 1
family_at _ = 0

abbrev family_form : {s u : State} {n : List ℕ} {d : Bool} → IsFamilyName s n d u → ℕ
family_form (family_name h) = 0
family_form (family_constant h) = 1

family-form : {s u : State} {n : List ℕ} {d : Bool} (f : IsFamilyName s n d u) → family_at (next_kind s.rest) ≡ family_form f
family-form (family_name h) = ap family_at (kind-taken h.taken h.kind)
family-form (family_constant h) = ap family_at (kind-taken h.taken h.kind)

pub family-same : {s r u v : State} {n m : List ℕ} {d k : Bool} → IsFamilyName s n d u → IsFamilyName r m k v → s ≡ r → (n ≡ m) × (d ≡ k) × (u ≡ v)
family-same (family_name h) (family_name g) e = let i = name-same h g e in (i.0, refl, i.1)
family-same (family_constant h) (family_constant g) e = let i = constant-same h g e in (i.0, refl, i.1)
family-same f g e = absurd (apart refl (sym (family-form f) ∙ ap family_at (same-kind e) ∙ family-form g))
