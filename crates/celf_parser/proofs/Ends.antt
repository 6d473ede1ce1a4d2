-- What is read of a type or an item leaves the last token of the text where it is.
use Rattle.std.proofs.Common.{◌≡◌, ℕ, List, Bool, Option, refl, ◌∙◌}
use Rattle.celf_lexer.specs.declared.token.TokenKind.TheVariants.{Number, Directive}
use Rattle.celf_surface.specs.declared.surface.Bound.{Bound}
use Rattle.celf_surface.specs.Surface.{WrittenType, WrittenBody}
use Rattle.celf_grammar.specs.State.{State, Takes, TakesNumber, TakesDirective}
use Rattle.celf_grammar.specs.Grammar.{IsFamilyName, family_name, family_constant, IsType, type_all, IsBackward, back_first, back_more, IsForward, forward_pi, forward_alone, forward_arrow, IsSync, sync_exists, sync_alone, sync_product, IsFactor, factor_persistent, factor_affine, factor_bare, IsWith, with_alone, with_pair, IsTypeAtom, atomty_word, atomty_family, atomty_top, atomty_one, atomty_braces, atomty_group, IsBound, bound_number, bound_star, IsImplicit, implicit_count, implicit_none, IsBody, body_declare, body_query, body_trace, body_equal, body_check}
use Rattle.celf_cursor.specs.Faults.{last_end}
use Rattle.celf_cursor.proofs.Ends.{takes-end, opens-end, closes-end, name-end, constant-end, one-end, indices-end, object-end}
use Rattle.celf_parser.specs.Product.{IsFactors, factors_none, factors_more}

pub number-end : {b : Bound} {s u : State} → TakesNumber s b u → last_end s ≡ last_end u
number-end {s = s} {u} h = let t : Takes Number s u = record { token = h.token; taken = h.taken; kind = h.kind } in takes-end t

pub directive-end : {w : List ℕ} {s u : State} → TakesDirective w s u → last_end s ≡ last_end u
directive-end {s = s} {u} h = let t : Takes Directive s u = record { token = h.token; taken = h.taken; kind = h.kind } in takes-end t

pub family-end : {n : List ℕ} {d : Bool} {s u : State} → IsFamilyName s n d u → last_end s ≡ last_end u
family-end (family_name h) = name-end h
family-end (family_constant h) = constant-end h

mutual
  pub type-end : {a : WrittenType} {s u : State} → IsType s a u → last_end s ≡ last_end u
  type-end (type_all b e) = backward-end b

  pub backward-end : {a : WrittenType} {s u : State} → IsBackward s a u → last_end s ≡ last_end u
  backward-end (back_first f) = forward-end f
  backward-end (back_more b o f) = backward-end b ∙ opens-end o.sign ∙ forward-end f

  pub forward-end : {a : WrittenType} {s u : State} → IsForward s a u → last_end s ≡ last_end u
  forward-end (forward_pi o n c x d y) = opens-end o ∙ name-end n ∙ takes-end c ∙ type-end x ∙ takes-end d ∙ type-end y
  forward-end (forward_alone p e) = sync-end p
  forward-end (forward_arrow p o f) = sync-end p ∙ opens-end o.sign ∙ forward-end f

  pub sync-end : {a : WrittenType} {s u : State} → IsSync s a u → last_end s ≡ last_end u
  sync-end (sync_exists o n c x d y) = opens-end o ∙ name-end n ∙ takes-end c ∙ type-end x ∙ takes-end d ∙ sync-end y
  sync-end (sync_alone f e) = factor-end f
  sync-end (sync_product f h p) = factor-end f ∙ takes-end h ∙ sync-end p

  pub factor-end : {a : WrittenType} {s u : State} → IsFactor s a u → last_end s ≡ last_end u
  factor-end (factor_persistent h w) = takes-end h ∙ with-end w
  factor-end (factor_affine h w) = takes-end h ∙ with-end w
  factor-end (factor_bare w) = with-end w

  pub with-end : {a : WrittenType} {s u : State} → IsWith s a u → last_end s ≡ last_end u
  with-end (with_alone a e) = type_atom-end a
  with-end (with_pair a o w) = type_atom-end a ∙ opens-end o ∙ with-end w

  pub type_atom-end : {a : WrittenType} {s u : State} → IsTypeAtom s a u → last_end s ≡ last_end u
  type_atom-end (atomty_word h) = takes-end h
  type_atom-end (atomty_family n is e) = family-end n ∙ indices-end is
  type_atom-end (atomty_top h) = takes-end h
  type_atom-end (atomty_one h) = one-end h
  type_atom-end (atomty_braces o x c) = opens-end o ∙ type-end x ∙ closes-end c
  type_atom-end (atomty_group o x c) = opens-end o ∙ type-end x ∙ closes-end c

pub factors-end : {fs : List (State × WrittenType)} {s u : State} → IsFactors s fs u → last_end s ≡ last_end u
factors-end factors_none = refl
factors-end (factors_more h f t) = factors-end h ∙ factor-end f ∙ takes-end t

pub bound-end : {b : Bound} {s u : State} → IsBound s b u → last_end s ≡ last_end u
bound-end (bound_number h) = number-end h
bound-end (bound_star h) = takes-end h

pub implicit-end : {i : Option Bound} {s u : State} → IsImplicit s i u → last_end s ≡ last_end u
implicit-end (implicit_count h n c) = takes-end h ∙ number-end n ∙ takes-end c
implicit-end (implicit_none e) = refl

pub body-end : {b : WrittenBody} {s u : State} → IsBody s b u → last_end s ≡ last_end u
body-end (body_declare n c i t) = name-end n ∙ takes-end c ∙ implicit-end i ∙ type-end t
body-end (body_query h w x y z t) = directive-end h ∙ bound-end w ∙ bound-end x ∙ bound-end y ∙ bound-end z ∙ type-end t
body-end (body_trace h n t) = directive-end h ∙ bound-end n ∙ type-end t
body-end (body_equal h l e r c t) = directive-end h ∙ object-end l ∙ takes-end e ∙ object-end r ∙ takes-end c ∙ type-end t
body-end (body_check h o c t) = directive-end h ∙ object-end o ∙ takes-end c ∙ type-end t
