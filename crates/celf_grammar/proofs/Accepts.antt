-- What the grammar derives, the machine reads.
use Rattle.std.proofs.Common.{◌≡◌, ℕ, List, ◌∷◌, Bool, true, false, Option, refl, ◌∙◌}
use Rattle.celf_lexer.specs.declared.token.TokenKind.TheVariants as token
use Rattle.celf_lexer.specs.Tokens.{Lexeme}
use Rattle.celf_surface.specs.declared.surface.Bound.{Bound as BoundTree}
use Rattle.celf_surface.specs.declared.surface.SMode.{SMode}
use Rattle.celf_surface.specs.Surface.{WrittenPattern as PatternTree, WrittenObject as ObjectTree, WrittenSteps, WrittenTuple as TupleTree, WrittenType, WrittenItem, WrittenBody as BodyTree}
use Rattle.celf_grammar.specs.State.{State}
use Rattle.celf_grammar.specs.Grammar.{IsMark, mark_persistent, mark_affine, mark_none, IsBinder, binder_named, binder_hole, IsPattern, pat_one, pat_entry, pat_list, IsPatterns, pats_first, pats_more, IsObject, obj_lambda, obj_app, IsApplication, app_all, IsArguments, args_none, args_more, IsAtom, atom_name, atom_constant, atom_hole, atom_unit, atom_pair, atom_braces, atom_group, atom_first, atom_second, IsExpression, expr_all, IsSteps, steps_none, steps_more, IsStep, step_let, IsTuple, tup_one, tup_list, tup_persistent, tup_affine, tup_bare, IsTuples, tups_first, tups_more, IsIndex, index_bare, index_banged, IsIndices, indices_none, indices_more, IsFamilyName, family_name, family_constant, IsType, type_all, IsBackward, back_first, back_more, IsForward, forward_pi, forward_alone, forward_arrow, IsSync, sync_exists, sync_alone, sync_product, IsFactor, factor_persistent, factor_affine, factor_bare, IsWith, with_alone, with_pair, IsTypeAtom, atomty_word, atomty_family, atomty_top, atomty_one, atomty_braces, atomty_group, IsBound, bound_number, bound_star, IsImplicit, implicit_count, implicit_none, IsBody, body_declare, body_query, body_trace, body_equal, body_check, IsItem, item_all}
use Rattle.celf_grammar.specs.Machine.{Symbol, Binder, Pattern, PatternTail, Object, Application, Arguments, Atom, Expression, Tuple, TupleTail, Index, Indices, FamilyName, Whole, BackTail, Forward, ForwardTail, Sync, StarTail, Factor, With, AmpTail, TypeAtom, Bound, Implicit, Body, Item, next, feed, runs}
use Rattle.celf_grammar.proofs.Runs.{token-taken, takes-run}
use Rattle.celf_grammar.proofs.TokenRuns.{not-number, expect-run, close-run, restore-run, name-run, number-run, mark-run, binder-run, pattern-one, pattern-opens, pattern_tail-more, pattern_tail-ends}
use Rattle.celf_grammar.proofs.ObjectRuns.{atom-name, atom-constant, atom-hole, atom-unit, atom-pair, atom-braces, atom-group, atom-first, atom-second, object-lambda, object-application, application-atom, arguments-more, arguments-end, expression-let, expression-tuple, let-opens, tuple-one, tuple-opens, tuple-persistent, tuple-affine, tuple-object, tuple_tail-more, tuple_tail-ends, index-banged, index-atom, indices-more, indices-end, family-name, family-constant}
use Rattle.celf_grammar.proofs.TypeRuns.{type_atom-word, type_atom-top, type_atom-one, type_atom-braces, type_atom-group, type_atom-family, with-atom, amp-more, amp-ends, factor-persistent, factor-affine, factor-bare, sync-exists, sync-factor, star-more, star-ends, forward-pi, forward-sync, arrow-more, arrow-ends, back-more, back-ends, type-forward, bound-number, bound-star, implicit-count, implicit-none, body-declare, body-query, body-trace, body-equal, body-check, item-body}
use Rattle.celf_grammar.proofs.Begins.{argument-begins, application-no_lambda, object-not_one, object-no_bracket, object-no_mark, atom-no_bang, index-begins, family-begins, with-no_mark, factor-no_exists, sync-no_pi}

named-fed : (c : Bool) (t : Lexeme) (room : ℕ) (k : List Symbol) → t.kind ≡ token.Name c → feed (Pattern ∷ k) room t ≡ next k room
named-fed false t room k e = rw e refl
named-fed true t room k e = rw e refl

entry-accepts : {s u v : State} {m : SMode} {n : Option (List ℕ)} → IsMark s m u → IsBinder u n v → (k : List Symbol) → runs (Pattern ∷ k) s ≡ runs k v
entry-accepts (mark_persistent h) b k = takes-run h (Pattern ∷ k) (Binder ∷ k) (λ t e. rw e refl) ∙ binder-run b k
entry-accepts (mark_affine h) b k = takes-run h (Pattern ∷ k) (Binder ∷ k) (λ t e. rw e refl) ∙ binder-run b k
entry-accepts {s} (mark_none e) (binder_named h) k = token-taken h.taken (Pattern ∷ k) k (named-fed h.capital h.token s.room k h.kind)
entry-accepts (mark_none e) (binder_hole h) k = takes-run h (Pattern ∷ k) k (λ t e. rw e refl)

mutual
  pub pattern-accepts : {s u : State} {p : PatternTree} → IsPattern s p u → (k : List Symbol) → runs (Pattern ∷ k) s ≡ runs k u
  pattern-accepts (pat_one h) k = pattern-one h k
  pattern-accepts (pat_entry m b) k = entry-accepts m b k
  pattern-accepts (pat_list {v = v} o ps e c) k = pattern-opens o k ∙ patterns-accept ps _ ∙ pattern_tail-ends v _ e ∙ close-run c k

  pub patterns-accept : {s u : State} {ps : List PatternTree} → IsPatterns s ps u → (k : List Symbol) → runs (Pattern ∷ PatternTail ∷ k) s ≡ runs (PatternTail ∷ k) u
  patterns-accept (pats_first p) k = pattern-accepts p (PatternTail ∷ k)
  patterns-accept (pats_more ps c p) k = patterns-accept ps k ∙ pattern_tail-more c k ∙ pattern-accepts p (PatternTail ∷ k)

mutual
  pub object-accepts : {s u : State} {o : ObjectTree} → IsObject s o u → (k : List Symbol) → runs (Object ∷ k) s ≡ runs k u
  object-accepts (obj_lambda h m b d o) k = object-lambda h k ∙ mark-run m _ ∙ binder-run b _ ∙ expect-run d _ ∙ object-accepts o k
  object-accepts {s} (obj_app a) k = object-application s k (application-no_lambda a) ∙ application-accepts a k

  pub application-accepts : {s u : State} {o : ObjectTree} → IsApplication s o u → (k : List Symbol) → runs (Application ∷ k) s ≡ runs k u
  application-accepts {s} {u} (app_all a xs e) k = application-atom s k ∙ atom-accepts a (Arguments ∷ k) ∙ arguments-accept xs k ∙ arguments-end u k e

  pub arguments-accept : {s u : State} {xs : List (SMode × ObjectTree)} → IsArguments s xs u → (k : List Symbol) → runs (Arguments ∷ k) s ≡ runs (Arguments ∷ k) u
  arguments-accept args_none k = refl
  arguments-accept (args_more {u = u} xs m a) k = arguments-accept xs k ∙ arguments-more u k (argument-begins m a) ∙ mark-run m _ ∙ atom-accepts a (Arguments ∷ k)

  pub atom-accepts : {s u : State} {o : ObjectTree} → IsAtom s o u → (k : List Symbol) → runs (Atom ∷ k) s ≡ runs k u
  atom-accepts (atom_name h) k = atom-name h k
  atom-accepts (atom_constant h) k = atom-constant h k
  atom-accepts (atom_hole h) k = atom-hole h k
  atom-accepts (atom_unit h) k = atom-unit h k
  atom-accepts (atom_pair h l c r d) k = atom-pair h k ∙ object-accepts l _ ∙ expect-run c _ ∙ object-accepts r _ ∙ close-run d k
  atom-accepts (atom_braces h e c) k = atom-braces h k ∙ expression-accepts e _ ∙ close-run c k
  atom-accepts (atom_group h o c) k = atom-group h k ∙ object-accepts o _ ∙ close-run c k
  atom-accepts (atom_first h o c) k = atom-first h k ∙ atom-accepts o _ ∙ restore-run c k
  atom-accepts (atom_second h o c) k = atom-second h k ∙ atom-accepts o _ ∙ restore-run c k

  pub expression-accepts : {s u : State} {ss : WrittenSteps} {t : TupleTree} → IsExpression s ss t u → (k : List Symbol) → runs (Expression ∷ k) s ≡ runs k u
  expression-accepts (expr_all {u = u} xs e t) k = steps-accept xs k ∙ expression-tuple u k e ∙ tuple-accepts t k

  pub steps-accept : {s u : State} {xs : List (PatternTree × ObjectTree)} → IsSteps s xs u → (k : List Symbol) → runs (Expression ∷ k) s ≡ runs (Expression ∷ k) u
  steps-accept steps_none k = refl
  steps-accept (steps_more xs x) k = steps-accept xs k ∙ step-accepts x k

  pub step-accepts : {s u : State} {p : PatternTree} {o : ObjectTree} → IsStep s p o u → (k : List Symbol) → runs (Expression ∷ k) s ≡ runs (Expression ∷ k) u
  step-accepts (step_let a b p c d o i) k = expression-let a k ∙ let-opens b _ ∙ pattern-accepts p _ ∙ close-run c _ ∙ expect-run d _ ∙ application-accepts o _ ∙ expect-run i _

  pub tuple-accepts : {s u : State} {t : TupleTree} → IsTuple s t u → (k : List Symbol) → runs (Tuple ∷ k) s ≡ runs k u
  tuple-accepts (tup_one h) k = tuple-one h k
  tuple-accepts (tup_list {v = v} h ts e c) k = tuple-opens h k ∙ tuples-accept ts _ ∙ tuple_tail-ends v _ e ∙ close-run c k
  tuple-accepts (tup_persistent h a) k = tuple-persistent h k ∙ atom-accepts a k
  tuple-accepts (tup_affine h a) k = tuple-affine h k ∙ atom-accepts a k
  tuple-accepts {s} (tup_bare o) k = tuple-object s k (not-number s (object-not_one o)) (object-no_bracket o) (object-no_mark o) ∙ object-accepts o k

  pub tuples-accept : {s u : State} {ts : List TupleTree} → IsTuples s ts u → (k : List Symbol) → runs (Tuple ∷ TupleTail ∷ k) s ≡ runs (TupleTail ∷ k) u
  tuples-accept (tups_first t) k = tuple-accepts t (TupleTail ∷ k)
  tuples-accept (tups_more ts c t) k = tuples-accept ts k ∙ tuple_tail-more c k ∙ tuple-accepts t (TupleTail ∷ k)

pub index-accepts : {s u : State} {o : ObjectTree} → IsIndex s o u → (k : List Symbol) → runs (Index ∷ k) s ≡ runs k u
index-accepts {s} (index_bare a) k = index-atom s k (atom-no_bang a) ∙ atom-accepts a k
index-accepts (index_banged h a) k = index-banged h k ∙ atom-accepts a k

pub indices-accept : {s u : State} {os : List ObjectTree} → IsIndices s os u → (k : List Symbol) → runs (Indices ∷ k) s ≡ runs (Indices ∷ k) u
indices-accept indices_none k = refl
indices-accept (indices_more {u = u} xs x) k = indices-accept xs k ∙ indices-more u k (index-begins x) ∙ index-accepts x (Indices ∷ k)

pub family-accepts : {s u : State} {n : List ℕ} {d : Bool} → IsFamilyName s n d u → (k : List Symbol) → runs (FamilyName ∷ k) s ≡ runs k u
family-accepts (family_name h) k = family-name h k
family-accepts (family_constant h) k = family-constant h k

mutual
  pub type-accepts : {s u : State} {a : WrittenType} → IsType s a u → (k : List Symbol) → runs (Whole ∷ k) s ≡ runs k u
  type-accepts {s} {u} (type_all b e) k = type-forward s k ∙ backward-accepts b k ∙ back-ends u k e

  pub backward-accepts : {s u : State} {a : WrittenType} → IsBackward s a u → (k : List Symbol) → runs (Forward ∷ BackTail ∷ k) s ≡ runs (BackTail ∷ k) u
  backward-accepts (back_first f) k = forward-accepts f (BackTail ∷ k)
  backward-accepts (back_more b o f) k = backward-accepts b k ∙ back-more o k ∙ forward-accepts f (BackTail ∷ k)

  pub forward-accepts : {s u : State} {a : WrittenType} → IsForward s a u → (k : List Symbol) → runs (Forward ∷ k) s ≡ runs k u
  forward-accepts (forward_pi h n c x d y) k = forward-pi h k ∙ name-run n _ ∙ expect-run c _ ∙ type-accepts x _ ∙ expect-run d _ ∙ type-accepts y k
  forward-accepts {s} {u} (forward_alone x e) k = forward-sync s k (sync-no_pi x) ∙ sync-accepts x (ForwardTail ∷ k) ∙ arrow-ends u k e
  forward-accepts {s} (forward_arrow x o f) k = forward-sync s k (sync-no_pi x) ∙ sync-accepts x (ForwardTail ∷ k) ∙ arrow-more o k ∙ forward-accepts f k

  pub sync-accepts : {s u : State} {a : WrittenType} → IsSync s a u → (k : List Symbol) → runs (Sync ∷ k) s ≡ runs k u
  sync-accepts (sync_exists h n c x d y) k = sync-exists h k ∙ name-run n _ ∙ expect-run c _ ∙ type-accepts x _ ∙ expect-run d _ ∙ sync-accepts y k
  sync-accepts {s} {u} (sync_alone f e) k = sync-factor s k (factor-no_exists f) ∙ factor-accepts f (StarTail ∷ k) ∙ star-ends u k e
  sync-accepts {s} (sync_product f h y) k = sync-factor s k (factor-no_exists f) ∙ factor-accepts f (StarTail ∷ k) ∙ star-more h k ∙ sync-accepts y k

  pub factor-accepts : {s u : State} {a : WrittenType} → IsFactor s a u → (k : List Symbol) → runs (Factor ∷ k) s ≡ runs k u
  factor-accepts (factor_persistent h w) k = factor-persistent h k ∙ with-accepts w k
  factor-accepts (factor_affine h w) k = factor-affine h k ∙ with-accepts w k
  factor-accepts {s} (factor_bare w) k = factor-bare s k (with-no_mark w) ∙ with-accepts w k

  pub with-accepts : {s u : State} {a : WrittenType} → IsWith s a u → (k : List Symbol) → runs (With ∷ k) s ≡ runs k u
  with-accepts {s} {u} (with_alone a e) k = with-atom s k ∙ type_atom-accepts a (AmpTail ∷ k) ∙ amp-ends u k e
  with-accepts {s} (with_pair a h w) k = with-atom s k ∙ type_atom-accepts a (AmpTail ∷ k) ∙ amp-more h k ∙ with-accepts w k

  pub type_atom-accepts : {s u : State} {a : WrittenType} → IsTypeAtom s a u → (k : List Symbol) → runs (TypeAtom ∷ k) s ≡ runs k u
  type_atom-accepts (atomty_word h) k = type_atom-word h k
  type_atom-accepts {s} {u} (atomty_family f xs e) k = type_atom-family s k (family-begins f) ∙ family-accepts f _ ∙ indices-accept xs k ∙ indices-end u k e
  type_atom-accepts (atomty_top h) k = type_atom-top h k
  type_atom-accepts (atomty_one h) k = type_atom-one h k
  type_atom-accepts (atomty_braces h x c) k = type_atom-braces h k ∙ type-accepts x _ ∙ close-run c k
  type_atom-accepts (atomty_group h x c) k = type_atom-group h k ∙ type-accepts x _ ∙ close-run c k

pub bound-accepts : {s u : State} {b : BoundTree} → IsBound s b u → (k : List Symbol) → runs (Bound ∷ k) s ≡ runs k u
bound-accepts (bound_number h) k = bound-number h k
bound-accepts (bound_star h) k = bound-star h k

pub implicit-accepts : {s u : State} {i : Option BoundTree} → IsImplicit s i u → (k : List Symbol) → runs (Implicit ∷ k) s ≡ runs k u
implicit-accepts (implicit_count a n b) k = implicit-count a k ∙ number-run n _ ∙ expect-run b k
implicit-accepts {s} (implicit_none e) k = implicit-none s k e

pub body-accepts : {s u : State} {b : BodyTree} → IsBody s b u → (k : List Symbol) → runs (Body ∷ k) s ≡ runs k u
body-accepts (body_declare n c i t) k = body-declare n k ∙ expect-run c _ ∙ implicit-accepts i _ ∙ type-accepts t k
body-accepts (body_query h w x y z t) k = body-query h k ∙ bound-accepts w _ ∙ bound-accepts x _ ∙ bound-accepts y _ ∙ bound-accepts z _ ∙ type-accepts t k
body-accepts (body_trace h n t) k = body-trace h k ∙ bound-accepts n _ ∙ type-accepts t k
body-accepts (body_equal h l e r c t) k = body-equal h k ∙ object-accepts l _ ∙ expect-run e _ ∙ object-accepts r _ ∙ expect-run c _ ∙ type-accepts t k
body-accepts (body_check h o c t) k = body-check h k ∙ object-accepts o _ ∙ expect-run c _ ∙ type-accepts t k

pub item-accepts : {s u : State} {i : WrittenItem} → IsItem s i u → (k : List Symbol) → runs (Item ∷ k) s ≡ runs k u
item-accepts {s} (item_all b d) k = item-body s k ∙ body-accepts b _ ∙ expect-run d k
