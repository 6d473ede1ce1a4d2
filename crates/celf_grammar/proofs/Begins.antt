-- With which tokens the parts of the grammar begin.
use Rattle.std.proofs.Common.{◌≡◌, ℕ, List, Bool, true, false, refl, sym, ap, ◌∙◌}
use Rattle.std.proofs.lemmas.Bool.{true≢false}
use Rattle.celf_lexer.specs.declared.token.TokenKind.{TokenKind}
use Rattle.celf_lexer.specs.declared.token.TokenKind.TheVariants as token
use Rattle.celf_lexer.specs.Tokens.{Lexeme}
use Rattle.celf_surface.specs.declared.surface.SMode.{SMode}
use Rattle.celf_surface.specs.Surface.{WrittenObject, WrittenType}
use Rattle.celf_grammar.specs.State.{State, next_kind, TakesToken}
use Rattle.celf_grammar.specs.Grammar.{is_mark, is_left_bracket, begins_atom, begins_argument, begins_index, IsMark, mark_persistent, mark_affine, mark_none, IsObject, obj_lambda, obj_app, IsApplication, app_all, IsAtom, atom_name, atom_constant, atom_hole, atom_unit, atom_pair, atom_braces, atom_group, atom_first, atom_second, IsIndex, index_bare, index_banged, IsFamilyName, family_name, family_constant, IsSync, sync_exists, sync_alone, sync_product, IsFactor, factor_persistent, factor_affine, factor_bare, IsWith, with_alone, with_pair, IsTypeAtom, atomty_word, atomty_family, atomty_top, atomty_one, atomty_braces, atomty_group}
use Rattle.celf_grammar.specs.Machine.{is_pi, is_exists}
use Rattle.celf_grammar.proofs.ObjectRuns.{begins_family}

-- the kind of a token that is taken
pub kind-taken : {left : ℕ} {t : Lexeme} {s u : State} {c : TokenKind} → TakesToken left t s u → t.kind ≡ c → next_kind s.rest ≡ c
kind-taken h e = ap next_kind h.first ∙ e

pub atom-begins : {s u : State} {o : WrittenObject} → IsAtom s o u → begins_atom (next_kind s.rest) ≡ true
atom-begins (atom_name h) = ap begins_atom (kind-taken h.taken h.kind)
atom-begins (atom_constant h) = ap begins_atom (kind-taken h.taken h.kind)
atom-begins (atom_hole h) = ap begins_atom (kind-taken h.taken h.kind)
atom-begins (atom_unit h) = ap begins_atom (kind-taken h.taken h.kind)
atom-begins (atom_pair h l c r d) = ap begins_atom (kind-taken h.taken h.kind)
atom-begins (atom_braces h e c) = ap begins_atom (kind-taken h.taken h.kind)
atom-begins (atom_group h o c) = ap begins_atom (kind-taken h.taken h.kind)
atom-begins (atom_first h o c) = ap begins_atom (kind-taken h.taken h.kind)
atom-begins (atom_second h o c) = ap begins_atom (kind-taken h.taken h.kind)

as_argument : (c : TokenKind) → begins_atom c ≡ true → begins_argument c ≡ true
as_argument token.Bang h = refl
as_argument token.AtSign h = refl
as_argument _ h = h

pub argument-begins : {s u v : State} {m : SMode} {o : WrittenObject} → IsMark s m u → IsAtom u o v → begins_argument (next_kind s.rest) ≡ true
argument-begins (mark_persistent h) a = ap begins_argument (kind-taken h.taken h.kind)
argument-begins (mark_affine h) a = ap begins_argument (kind-taken h.taken h.kind)
argument-begins {s} (mark_none h) a = as_argument (next_kind s.rest) (atom-begins a)

-- the first tokens of an object
abbrev pub begins_object : TokenKind → Bool
begins_object token.Backslash = true
begins_object c = begins_atom c

as_object : (c : TokenKind) → begins_atom c ≡ true → begins_object c ≡ true
as_object token.Backslash h = refl
as_object _ h = h

pub object-begins : {s u : State} {o : WrittenObject} → IsObject s o u → begins_object (next_kind s.rest) ≡ true
object-begins (obj_lambda h m b d o) = ap begins_object (kind-taken h.taken h.kind)
object-begins {s} (obj_app (app_all a xs e)) = as_object (next_kind s.rest) (atom-begins a)

pub application-no_lambda : {s u : State} {o : WrittenObject} → IsApplication s o u → next_kind s.rest ≡ token.Backslash → ⊥
application-no_lambda (app_all a xs e) h = true≢false (sym (atom-begins a) ∙ ap begins_atom h)

pub object-not_one : {s u : State} {o : WrittenObject} → IsObject s o u → next_kind s.rest ≡ token.Number → ⊥
object-not_one o h = true≢false (sym (object-begins o) ∙ ap begins_object h)

no_bracket : (c : TokenKind) → begins_object c ≡ true → is_left_bracket c ≡ false
no_bracket token.LeftBracket h = sym h
no_bracket _ h = refl

pub object-no_bracket : {s u : State} {o : WrittenObject} → IsObject s o u → is_left_bracket (next_kind s.rest) ≡ false
object-no_bracket {s} o = no_bracket (next_kind s.rest) (object-begins o)

no_mark : (c : TokenKind) → begins_object c ≡ true → is_mark c ≡ false
no_mark token.Bang h = sym h
no_mark token.AtSign h = sym h
no_mark _ h = refl

pub object-no_mark : {s u : State} {o : WrittenObject} → IsObject s o u → is_mark (next_kind s.rest) ≡ false
object-no_mark {s} o = no_mark (next_kind s.rest) (object-begins o)

pub atom-no_bang : {s u : State} {o : WrittenObject} → IsAtom s o u → next_kind s.rest ≡ token.Bang → ⊥
atom-no_bang a h = true≢false (sym (atom-begins a) ∙ ap begins_atom h)

as_index : (c : TokenKind) → begins_atom c ≡ true → begins_index c ≡ true
as_index token.Bang h = refl
as_index _ h = h

pub index-begins : {s u : State} {o : WrittenObject} → IsIndex s o u → begins_index (next_kind s.rest) ≡ true
index-begins {s} (index_bare a) = as_index (next_kind s.rest) (atom-begins a)
index-begins (index_banged h a) = ap begins_index (kind-taken h.taken h.kind)

pub family-begins : {s u : State} {n : List ℕ} {d : Bool} → IsFamilyName s n d u → begins_family (next_kind s.rest) ≡ true
family-begins (family_name h) = ap begins_family (kind-taken h.taken h.kind)
family-begins (family_constant h) = ap begins_family (kind-taken h.taken h.kind)

-- the first tokens of what stands between &
abbrev begins_with : TokenKind → Bool
begins_with token.KwType = true
begins_with token.TopSign = true
begins_with token.Number = true
begins_with token.LeftBrace = true
begins_with token.LeftParen = true
begins_with c = begins_family c

as_with : (c : TokenKind) → begins_family c ≡ true → begins_with c ≡ true
as_with token.KwType h = refl
as_with token.TopSign h = refl
as_with token.Number h = refl
as_with token.LeftBrace h = refl
as_with token.LeftParen h = refl
as_with _ h = h

type_atom-begins : {s u : State} {a : WrittenType} → IsTypeAtom s a u → begins_with (next_kind s.rest) ≡ true
type_atom-begins (atomty_word h) = ap begins_with (kind-taken h.taken h.kind)
type_atom-begins {s} (atomty_family h xs e) = as_with (next_kind s.rest) (family-begins h)
type_atom-begins (atomty_top h) = ap begins_with (kind-taken h.taken h.kind)
type_atom-begins (atomty_one h) = ap begins_with (kind-taken h.taken h.kind)
type_atom-begins (atomty_braces h x c) = ap begins_with (kind-taken h.taken h.kind)
type_atom-begins (atomty_group h x c) = ap begins_with (kind-taken h.taken h.kind)

with-begins : {s u : State} {a : WrittenType} → IsWith s a u → begins_with (next_kind s.rest) ≡ true
with-begins (with_alone a e) = type_atom-begins a
with-begins (with_pair a h w) = type_atom-begins a

with_no_mark : (c : TokenKind) → begins_with c ≡ true → is_mark c ≡ false
with_no_mark token.Bang h = sym h
with_no_mark token.AtSign h = sym h
with_no_mark _ h = refl

pub with-no_mark : {s u : State} {a : WrittenType} → IsWith s a u → is_mark (next_kind s.rest) ≡ false
with-no_mark {s} w = with_no_mark (next_kind s.rest) (with-begins w)

-- the first tokens of a factor
abbrev begins_factor : TokenKind → Bool
begins_factor token.Bang = true
begins_factor token.AtSign = true
begins_factor c = begins_with c

as_factor : (c : TokenKind) → begins_with c ≡ true → begins_factor c ≡ true
as_factor token.Bang h = refl
as_factor token.AtSign h = refl
as_factor _ h = h

factor-begins : {s u : State} {a : WrittenType} → IsFactor s a u → begins_factor (next_kind s.rest) ≡ true
factor-begins (factor_persistent h w) = ap begins_factor (kind-taken h.taken h.kind)
factor-begins (factor_affine h w) = ap begins_factor (kind-taken h.taken h.kind)
factor-begins {s} (factor_bare w) = as_factor (next_kind s.rest) (with-begins w)

factor_no_exists : (c : TokenKind) → begins_factor c ≡ true → is_exists c ≡ false
factor_no_exists token.KwExists h = sym h
factor_no_exists _ h = refl

pub factor-no_exists : {s u : State} {a : WrittenType} → IsFactor s a u → is_exists (next_kind s.rest) ≡ false
factor-no_exists {s} f = factor_no_exists (next_kind s.rest) (factor-begins f)

factor_no_pi : (c : TokenKind) → begins_factor c ≡ true → is_pi c ≡ false
factor_no_pi token.KwPi h = sym h
factor_no_pi _ h = refl

pub sync-no_pi : {s u : State} {a : WrittenType} → IsSync s a u → is_pi (next_kind s.rest) ≡ false
sync-no_pi (sync_exists h n c x d y) = ap is_pi (kind-taken h.taken h.kind)
sync-no_pi {s} (sync_alone f e) = factor_no_pi (next_kind s.rest) (factor-begins f)
sync-no_pi {s} (sync_product f h y) = factor_no_pi (next_kind s.rest) (factor-begins f)
