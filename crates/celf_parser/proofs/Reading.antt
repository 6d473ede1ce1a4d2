-- The productions whose trees are built from parts, with the trees given by equations.
use Rattle.std.proofs.Common.{◌≡◌, ℕ, List, Bool, refl, sym, ap, subst, ◌∙◌}
use Rattle.celf_lexer.specs.declared.token.TokenKind.{TokenKind}
use Rattle.celf_lexer.specs.declared.token.TokenKind.TheVariants as token
use Rattle.clf_syntax.specs.declared.tree.Mode.{Mode}
use Rattle.clf_syntax.specs.declared.tree.Mode.TheVariants.{Persistent, Affine}
use Rattle.celf_surface.specs.declared.surface.Arrow.{Arrow}
use Rattle.celf_surface.specs.declared.surface.Span.{Span}
use Rattle.celf_surface.specs.Surface.{WrittenObject, WrittenType, pi, exists, arrow, marked, both, type_word, family, top, one, braced}
use Rattle.celf_grammar.specs.State.{State, span_to, Ends, Takes, Opens, Closes, TakesName, TakesOne}
use Rattle.celf_grammar.specs.Grammar.{begins_index, forward_of, backward_of, IsIndices, IsFamilyName, OpensArrow, IsType, IsBackward, back_first, back_more, IsForward, forward_pi, forward_alone, forward_arrow, IsSync, sync_exists, IsFactor, factor_persistent, factor_affine, factor_bare, IsWith, with_alone, with_pair, IsTypeAtom, atomty_word, atomty_family, atomty_top, atomty_one, atomty_braces, atomty_group}
use Rattle.celf_parser.specs.Enclosed.{Binds, Encloses, IsMarked}

-- a tree at equal spans
moved : (P : WrittenType → Type 0) (of : Span → WrittenType) (x : WrittenType) (p q : Span) → p ≡ q → x ≡ of p → P (of q) → P x
moved P of x p q e f h = subst P (sym f) (subst (λ (p : Span). P (of p)) (sym e) h)

pub back-read : {s u v w : State} {a b x : WrittenType} {k : Arrow} {p : Span}
    → IsBackward s a u → OpensArrow backward_of k u v → IsForward v b w → p ≡ span_to s w → x ≡ arrow p k a b → IsBackward s x w
back-read {s} {w = w} {a} {b} {x} {k} {p} h g f e d = moved (λ x. IsBackward s x w) (λ p. arrow p k a b) x p _ e d (back_more h g f)

pub pi-read : {s b c d e : State} {n : List ℕ} {x y z : WrittenType} {p : Span}
    → Binds token.KwPi s n b → IsType b x c → Takes token.Stop c d → IsType d y e → p ≡ span_to s e → z ≡ pi p n x y → IsForward s z e
pi-read {s} {e = e} {n} {x} {y} {z} {p} h g f i q j = moved (λ z. IsForward s z e) (λ p. pi p n x y) z p _ q j (forward_pi h.opened h.named h.colon g f i)

pub forward_arrow-read : {s u v w : State} {a b x : WrittenType} {k : Arrow} {p : Span}
    → IsSync s a u → OpensArrow forward_of k u v → IsForward v b w → p ≡ span_to s w → x ≡ arrow p k a b → IsForward s x w
forward_arrow-read {s} {w = w} {a} {b} {x} {k} {p} h g f e d = moved (λ x. IsForward s x w) (λ p. arrow p k a b) x p _ e d (forward_arrow h g f)

pub exists-read : {s b c d e : State} {n : List ℕ} {x y z : WrittenType} {p : Span}
    → Binds token.KwExists s n b → IsType b x c → Takes token.Stop c d → IsSync d y e → p ≡ span_to s e → z ≡ exists p n x y → IsSync s z e
exists-read {s} {e = e} {n} {x} {y} {z} {p} h g f i q j = moved (λ z. IsSync s z e) (λ p. exists p n x y) z p _ q j (sync_exists h.opened h.named h.colon g f i)

pub marked-read : {s u v : State} {a x : WrittenType} {k : TokenKind} {m : Mode} {p : Span}
    → Takes k s u → IsWith u a v → p ≡ span_to s v → x ≡ marked p m a → IsMarked k m s x v
marked-read {s} {u} {v} {a} {x} {k} {m} {p} h g e d = record { behind = u; body = a; taken = h; typed = g; is = d ∙ ap (λ (q : Span). marked q m a) e }

pub persistent-read : {s u : State} {x : WrittenType} → IsMarked token.Bang Persistent s x u → IsFactor s x u
persistent-read {s} {u} h = subst (λ (x : WrittenType). IsFactor s x u) (sym h.is) (factor_persistent h.taken h.typed)

pub affine-read : {s u : State} {x : WrittenType} → IsMarked token.AtSign Affine s x u → IsFactor s x u
affine-read {s} {u} h = subst (λ (x : WrittenType). IsFactor s x u) (sym h.is) (factor_affine h.taken h.typed)

pub with_pair-read : {s u v w : State} {a b x : WrittenType} {p : Span}
    → IsTypeAtom s a u → Opens token.Amp u v → IsWith v b w → p ≡ span_to s w → x ≡ both p a b → IsWith s x w
with_pair-read {s} {w = w} {a} {b} {x} {p} h g f e d = moved (λ x. IsWith s x w) (λ p. both p a b) x p _ e d (with_pair h g f)

pub binds-read : {s a b u : State} {k : TokenKind} {n : List ℕ} → Opens k s a → TakesName a n b → Takes token.Colon b u → Binds k s n u
binds-read {a = a} {b} h g f = record { inside = a; behind = b; opened = h; named = g; colon = f }

pub encloses-read : {s a b u : State} {o c : TokenKind} {x : WrittenType} → Opens o s a → IsType a x b → Closes c s.room b u → Encloses o c s x u
encloses-read {a = a} {b} h g f = record { inside = a; behind = b; opened = h; typed = g; closed = f }

pub group-read : {s u : State} {x : WrittenType} → Encloses token.LeftParen token.RightParen s x u → IsTypeAtom s x u
group-read h = atomty_group h.opened h.typed h.closed

pub braces-read : {s u : State} {a x : WrittenType} {p : Span}
    → Encloses token.LeftBrace token.RightBrace s a u → p ≡ span_to s u → x ≡ braced p a → IsTypeAtom s x u
braces-read {s} {u} {a} {x} {p} h e d = moved (λ x. IsTypeAtom s x u) (λ p. braced p a) x p _ e d (atomty_braces h.opened h.typed h.closed)

pub family-read : {s u v : State} {n : List ℕ} {d : Bool} {is : List WrittenObject} {x : WrittenType} {p q : Span}
    → IsFamilyName s n d u → IsIndices u is v → Ends begins_index v → p ≡ span_to s v → q ≡ span_to s u → x ≡ family p n d q is → IsTypeAtom s x v
family-read {s} {u} {v} {n} {d} {is} {x} {p} {q} h g f e i j =
    let P : WrittenType → Type 0 = λ x. IsTypeAtom s x v in
    moved P (λ p. family p n d q is) x p _ e j (moved P (λ q. family (span_to s v) n d q is) (family (span_to s v) n d q is) q (span_to s u) i refl (atomty_family h g f))

pub word-read : {s u : State} {x : WrittenType} {p : Span} → Takes token.KwType s u → p ≡ span_to s u → x ≡ type_word p → IsTypeAtom s x u
word-read {s} {u} {x} {p} h e d = moved (λ x. IsTypeAtom s x u) type_word x p _ e d (atomty_word h)

pub top-read : {s u : State} {x : WrittenType} {p : Span} → Takes token.TopSign s u → p ≡ span_to s u → x ≡ top p → IsTypeAtom s x u
top-read {s} {u} {x} {p} h e d = moved (λ x. IsTypeAtom s x u) top x p _ e d (atomty_top h)

pub one-read : {s u : State} {x : WrittenType} {p : Span} → TakesOne s u → p ≡ span_to s u → x ≡ one p → IsTypeAtom s x u
one-read {s} {u} {x} {p} h e d = moved (λ x. IsTypeAtom s x u) one x p _ e d (atomty_one h)

pub ruleset type_steps = (back_first, back-read)

pub ruleset forward_steps = (forward_alone, forward_arrow-read)

pub ruleset pi_steps = (pi-read)

pub ruleset exists_steps = (exists-read)

pub ruleset marked_steps = (marked-read)

pub ruleset factor_steps = (persistent-read, affine-read, factor_bare)

pub ruleset with_steps = (with_alone, with_pair-read)

pub ruleset binds_steps = (binds-read)

pub ruleset enclosed_steps = (encloses-read)

pub ruleset atom_steps = (group-read)

pub ruleset braces_steps = (braces-read)

pub ruleset family_steps = (family-read)

pub ruleset word_steps = (word-read)

pub ruleset top_steps = (top-read)

pub ruleset one_steps = (one-read)
