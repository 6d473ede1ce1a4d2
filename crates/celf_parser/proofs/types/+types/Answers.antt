use Rattle.std.proofs.Common.{rules, sym, ◌∙◌}
use Rattle.std.proofs.lemmas.Result.{IfErr-weaker}
use Rattle.celf_lexer.specs.declared.token.TokenKind.TheVariants as token
use Rattle.celf_grammar.specs.Grammar.{type_all}
use Rattle.celf_grammar.proofs.TypeRuns.{factor-persistent, factor-affine}
use Rattle.celf_cursor.proofs.Faulty.{expect-missed, close-missed, passed, refused}
use Rattle.celf_parser.proofs.TypeFaults.{product_last-fault, product_factor-fault, type_sign-fault, type_next-fault, forward_sign-fault, forward_next-fault, pi-opens, exists-opens, braces-opens, group-opens, opened-fault, bound-fault, typed-fault, stop-fault, marked-fault, with_sign-fault, with_next-fault, enclosed_faults, factor_faults, forward_faults, marked_faults, memory_faults, type_faults, with_faults}
use Rattle.celf_parser.proofs.LeafFaults.{atom_kinds}
use Rattle.celf_parser.proofs.Products.{sync_steps}
use Rattle.celf_parser.proofs.Reading.{atom_steps, braces_steps, enclosed_steps, exists_steps, factor_steps, forward_steps, marked_steps, pi_steps, type_steps, with_steps}
use Rattle.celf_parser.proofs.types.+types.Goals as goal

pub type_at-returns-clause-read : goal.type_at-returns-clause-read
type_at-returns-clause-read t c =
    let ends = rw c.in_default.is at c.in_ok-arrow.ensures.none in
    type_all c.loop-left.invariant.0 ends

pub pi_at-returns-in_err-name : goal.pi_at-returns-in_err-name
pi_at-returns-in_err-name t c =
    let r = c.from_residual.result in
    let e = c.from_residual.ensures.1 in
    record { read = refused _ _ r e; cursor = refused _ _ r e; further = refused _ _ r e; fault = passed _ r e (λ k. c.in_err-name.ensures.fault _ _ (pi-opens _ k c.requires.kind)) }

pub pi_at-returns-in_err-dom : goal.pi_at-returns-in_err-dom
pi_at-returns-in_err-dom t c =
    let r = c.from_residual-in_err-dom.result in
    let e = c.from_residual-in_err-dom.ensures.1 in
    record { read = refused _ _ r e; cursor = refused _ _ r e; further = refused _ _ r e; fault = passed _ r e (λ k. bound-fault (pi-opens _ k c.requires.kind) c.in_ok-name.ensures.read (c.in_err-dom.ensures.fault _)) }

pub pi_at-returns-in_err-stop : goal.pi_at-returns-in_err-stop
pi_at-returns-in_err-stop t c =
    let r = c.from_residual-in_err-stop.result in
    let e = c.from_residual-in_err-stop.ensures.1 in
    record {
      read = refused _ _ r e;
      cursor = refused _ _ r e;
      further = refused _ _ r e;
      fault = passed _ r e (λ k. bound-fault (pi-opens _ k c.requires.kind) c.in_ok-name.ensures.read
          (typed-fault c.in_ok-dom.ensures.read (expect-missed _ _ token.Stop _ _ c.in_ok-dom.ensures.cursor c.in_err-stop.ensures.missed)));
    }

pub pi_at-returns-in_err-rest : goal.pi_at-returns-in_err-rest
pi_at-returns-in_err-rest t c =
    let r = c.from_residual-in_err-rest.result in
    let e = c.from_residual-in_err-rest.ensures.1 in
    record {
      read = refused _ _ r e;
      cursor = refused _ _ r e;
      further = refused _ _ r e;
      fault = passed _ r e (λ k. bound-fault (pi-opens _ k c.requires.kind) c.in_ok-name.ensures.read
          (typed-fault c.in_ok-dom.ensures.read (stop-fault c.in_ok-stop.ensures.taken (c.in_err-rest.ensures.fault k))));
    }

pub exists_at-returns-in_err-name : goal.exists_at-returns-in_err-name
exists_at-returns-in_err-name t c =
    let r = c.from_residual.result in
    let e = c.from_residual.ensures.1 in
    record { read = refused _ _ r e; cursor = refused _ _ r e; further = refused _ _ r e; fault = passed _ r e (λ k. c.in_err-name.ensures.fault _ _ (exists-opens _ k c.requires.kind)) }

pub exists_at-returns-in_err-dom : goal.exists_at-returns-in_err-dom
exists_at-returns-in_err-dom t c =
    let r = c.from_residual-in_err-dom.result in
    let e = c.from_residual-in_err-dom.ensures.1 in
    record { read = refused _ _ r e; cursor = refused _ _ r e; further = refused _ _ r e; fault = passed _ r e (λ k. bound-fault (exists-opens _ k c.requires.kind) c.in_ok-name.ensures.read (c.in_err-dom.ensures.fault _)) }

pub exists_at-returns-in_err-stop : goal.exists_at-returns-in_err-stop
exists_at-returns-in_err-stop t c =
    let r = c.from_residual-in_err-stop.result in
    let e = c.from_residual-in_err-stop.ensures.1 in
    record {
      read = refused _ _ r e;
      cursor = refused _ _ r e;
      further = refused _ _ r e;
      fault = passed _ r e (λ k. bound-fault (exists-opens _ k c.requires.kind) c.in_ok-name.ensures.read
          (typed-fault c.in_ok-dom.ensures.read (expect-missed _ _ token.Stop _ _ c.in_ok-dom.ensures.cursor c.in_err-stop.ensures.missed)));
    }

pub exists_at-returns-in_err-rest : goal.exists_at-returns-in_err-rest
exists_at-returns-in_err-rest t c =
    let r = c.from_residual-in_err-rest.result in
    let e = c.from_residual-in_err-rest.ensures.1 in
    record {
      read = refused _ _ r e;
      cursor = refused _ _ r e;
      further = refused _ _ r e;
      fault = passed _ r e (λ k. bound-fault (exists-opens _ k c.requires.kind) c.in_ok-name.ensures.read
          (typed-fault c.in_ok-dom.ensures.read (stop-fault c.in_ok-stop.ensures.taken (c.in_err-rest.ensures.fault k))));
    }

pub marked_at-returns-in_err-body : goal.marked_at-returns-in_err-body
marked_at-returns-in_err-body t c =
    let r = c.from_residual-in_err-body.result in
    let e = c.from_residual-in_err-body.ensures.1 in
    record { read = refused _ _ r e; cursor = refused _ _ r e; further = refused _ _ r e; fault = passed _ r e (λ j k o. marked-fault o c.in_ok-mark.ensures.taken (c.in_err-body.ensures.fault k)) }

pub with_at-returns-in_err-sign : goal.with_at-returns-in_err-sign
with_at-returns-in_err-sign t c =
    let r = c.from_residual-in_err-sign.result in
    let e = c.from_residual-in_err-sign.ensures.1 in
    record { read = refused _ _ r e; cursor = refused _ _ r e; further = refused _ _ r e; fault = passed _ r e (λ k. with_sign-fault c.in_ok-left.ensures.read c.in_ok-left.ensures.cursor (sym c.kind_of_next.ensures ∙ c.in-Amp.is) c.in_err-sign.ensures.missed) }

pub with_at-returns-in_err-right : goal.with_at-returns-in_err-right
with_at-returns-in_err-right t c =
    let r = c.from_residual-in_err-right.result in
    let e = c.from_residual-in_err-right.ensures.1 in
    record { read = refused _ _ r e; cursor = refused _ _ r e; further = refused _ _ r e; fault = passed _ r e (λ k. with_next-fault c.in_ok-left.ensures.read c.in_ok-sign.ensures.opened (c.in_err-right.ensures.fault k)) }

pub braces_at-returns-in_err-body : goal.braces_at-returns-in_err-body
braces_at-returns-in_err-body t c =
    let r = c.from_residual.result in
    let e = c.from_residual.ensures.1 in
    record { read = refused _ _ r e; cursor = refused _ _ r e; further = refused _ _ r e; fault = passed _ r e (λ k. c.in_err-body.ensures.fault _ _ (braces-opens _ k c.requires.kind)) }

pub enclosed_at-returns-in_err-ty : goal.enclosed_at-returns-in_err-ty
enclosed_at-returns-in_err-ty t c =
    let r = c.from_residual-in_err-ty.result in
    let e = c.from_residual-in_err-ty.ensures.1 in
    record { read = refused _ _ r e; cursor = refused _ _ r e; further = refused _ _ r e; fault = passed _ r e (λ j k o. opened-fault o c.in_ok-inside.ensures.opened (c.in_err-ty.ensures.fault _)) }

pub enclosed_at-returns-in_err-end : goal.enclosed_at-returns-in_err-end
enclosed_at-returns-in_err-end t c =
    let r = c.from_residual-in_err-end.result in
    let e = c.from_residual-in_err-end.ensures.1 in
    record {
      read = refused _ _ r e;
      cursor = refused _ _ r e;
      further = refused _ _ r e;
      fault = passed _ r e (λ j k o. opened-fault o c.in_ok-inside.ensures.opened
          (typed-fault c.in_ok-ty.ensures.read (close-missed _ _ _ _ k _ c.in_ok-ty.ensures.cursor c.in_err-end.ensures.missed)));
    }

pub atom_at-returns-in-LeftParen-clause-fault : goal.atom_at-returns-in-LeftParen-clause-fault
atom_at-returns-in-LeftParen-clause-fault t c =
    IfErr-weaker c.enclosed_at.result _ _ (λ e f k. f _ _ (group-opens _ k (sym c.kind_of_next.ensures ∙ c.in-LeftParen.is))) c.enclosed_at.ensures.fault

pub factor_at-returns-in-Bang-clause-fault : goal.factor_at-returns-in-Bang-clause-fault
factor_at-returns-in-Bang-clause-fault t c =
    IfErr-weaker c.marked_at.result _ _ (λ e f k. f _ k (λ u h. factor-persistent h k)) c.marked_at.ensures.fault

pub factor_at-returns-in-AtSign-clause-fault : goal.factor_at-returns-in-AtSign-clause-fault
factor_at-returns-in-AtSign-clause-fault t c =
    IfErr-weaker c.marked_at-in-AtSign.result _ _ (λ e f k. f _ k (λ u h. factor-affine h k)) c.marked_at-in-AtSign.ensures.fault

pub forward_at-returns-in_err-arrow : goal.forward_at-returns-in_err-arrow
forward_at-returns-in_err-arrow t c =
    let r = c.from_residual-in_err-arrow.result in
    let e = c.from_residual-in_err-arrow.ensures.1 in
    record { read = refused _ _ r e; cursor = refused _ _ r e; further = refused _ _ r e; fault = passed _ r e (λ k. forward_sign-fault (λ d. c.in_default.not-KwPi (c.kind_of_next.ensures ∙ d)) c.in_ok-left.ensures.read (c.in_err-arrow.ensures.fault k)) }

pub forward_at-returns-in_err-right : goal.forward_at-returns-in_err-right
forward_at-returns-in_err-right t c =
    let r = c.from_residual-in_err-right.result in
    let e = c.from_residual-in_err-right.ensures.1 in
    let o = rw c.in-Some.is at c.in_ok-arrow.ensures.opened in
    record { read = refused _ _ r e; cursor = refused _ _ r e; further = refused _ _ r e; fault = passed _ r e (λ k. forward_next-fault (λ d. c.in_default.not-KwPi (c.kind_of_next.ensures ∙ d)) c.in_ok-left.ensures.read o (c.in_err-right.ensures.fault k)) }

pub sync_at-returns-in_err-last : goal.sync_at-returns-in_err-last
sync_at-returns-in_err-last t c =
    let r = c.from_residual.result in
    let e = c.from_residual.ensures.1 in
    record { read = refused _ _ r e; cursor = refused _ _ r e; further = refused _ _ r e; fault = passed _ r e (λ k. product_last-fault c.loop-alloc.invariant.0 (c.in_err-last.ensures.fault k)) }

pub sync_at-returns-in_err-ty : goal.sync_at-returns-in_err-ty
sync_at-returns-in_err-ty t c =
    let r = c.from_residual-in_err-ty.result in
    let e = c.from_residual-in_err-ty.ensures.1 in
    record { read = refused _ _ r e; cursor = refused _ _ r e; further = refused _ _ r e; fault = passed _ r e (λ k. product_factor-fault c.loop-alloc.invariant.0 (λ d. c.in_default.not-KwExists (c.kind_of_next.ensures ∙ d)) (c.in_err-ty.ensures.fault _)) }

pub type_at-returns-in_err-arrow : goal.type_at-returns-in_err-arrow
type_at-returns-in_err-arrow t c =
    let r = c.from_residual-in_err-arrow.result in
    let e = c.from_residual-in_err-arrow.ensures.1 in
    record { read = refused _ _ r e; cursor = refused _ _ r e; further = refused _ _ r e; fault = passed _ r e (λ k. type_sign-fault c.loop-left.invariant.0 (c.in_err-arrow.ensures.fault k)) }

pub type_at-returns-in_err-right-clause-fault : goal.type_at-returns-in_err-right-clause-fault
type_at-returns-in_err-right-clause-fault t c =
    let o = rw c.in-Some.is at c.in_ok-arrow.ensures.opened in
    passed _ c.from_residual-in_err-right.result c.from_residual-in_err-right.ensures.1 (λ k. type_next-fault c.loop-left.invariant.0 o (c.in_err-right.ensures.fault _))

pub atom_at-word_at-requires-clause-cursor : goal.atom_at-word_at-requires-clause-cursor
atom_at-word_at-requires-clause-cursor t c = search (rules, atom_steps, atom_kinds)

pub atom_at-word_at-requires-clause-kind : goal.atom_at-word_at-requires-clause-kind
atom_at-word_at-requires-clause-kind t c = search (rules, atom_steps, atom_kinds)

pub atom_at-top_at-requires-clause-cursor : goal.atom_at-top_at-requires-clause-cursor
atom_at-top_at-requires-clause-cursor t c = search (rules, atom_steps, atom_kinds)

pub atom_at-top_at-requires-clause-kind : goal.atom_at-top_at-requires-clause-kind
atom_at-top_at-requires-clause-kind t c = search (rules, atom_steps, atom_kinds)

pub atom_at-one_at-requires-clause-cursor : goal.atom_at-one_at-requires-clause-cursor
atom_at-one_at-requires-clause-cursor t c = search (rules, atom_steps, atom_kinds)

pub atom_at-one_at-requires-clause-kind : goal.atom_at-one_at-requires-clause-kind
atom_at-one_at-requires-clause-kind t c = search (rules, atom_steps, atom_kinds)

pub atom_at-returns-in-LeftBrace : goal.atom_at-returns-in-LeftBrace
atom_at-returns-in-LeftBrace t c = search (rules, atom_steps, atom_kinds)

pub atom_at-returns-in-KwType : goal.atom_at-returns-in-KwType
atom_at-returns-in-KwType t c = search (rules, atom_steps, atom_kinds)

pub atom_at-returns-in-TopSign : goal.atom_at-returns-in-TopSign
atom_at-returns-in-TopSign t c = search (rules, atom_steps, atom_kinds)

pub atom_at-returns-in-Number : goal.atom_at-returns-in-Number
atom_at-returns-in-Number t c = search (rules, atom_steps, atom_kinds)

pub atom_at-returns-in_default : goal.atom_at-returns-in_default
atom_at-returns-in_default t c = search (rules, atom_steps, atom_kinds)

pub braces_at-returns-in_err-ty : goal.braces_at-returns-in_err-ty
braces_at-returns-in_err-ty t c = search (rules, braces_steps, memory_faults)

pub braces_at-returns : goal.braces_at-returns
braces_at-returns t c = search (rules, braces_steps, memory_faults)

pub enclosed_at-open-requires-clause-cursor : goal.enclosed_at-open-requires-clause-cursor
enclosed_at-open-requires-clause-cursor t c = search (rules, enclosed_steps, enclosed_faults)

pub enclosed_at-open-requires-clause-kind : goal.enclosed_at-open-requires-clause-kind
enclosed_at-open-requires-clause-kind t c = search (rules, enclosed_steps, enclosed_faults)

pub enclosed_at-returns-in_err-inside : goal.enclosed_at-returns-in_err-inside
enclosed_at-returns-in_err-inside t c = search (rules, enclosed_steps, enclosed_faults)

pub enclosed_at-close-requires-clause-cursor : goal.enclosed_at-close-requires-clause-cursor
enclosed_at-close-requires-clause-cursor t c = search (rules, enclosed_steps, enclosed_faults)

pub enclosed_at-close-requires-clause-kind : goal.enclosed_at-close-requires-clause-kind
enclosed_at-close-requires-clause-kind t c = search (rules, enclosed_steps, enclosed_faults)

pub enclosed_at-returns : goal.enclosed_at-returns
enclosed_at-returns t c = search (rules, enclosed_steps, enclosed_faults)

pub exists_at-binder_at-requires-clause-cursor : goal.exists_at-binder_at-requires-clause-cursor
exists_at-binder_at-requires-clause-cursor t c = search (rules, exists_steps, memory_faults)

pub exists_at-binder_at-requires-clause-kind : goal.exists_at-binder_at-requires-clause-kind
exists_at-binder_at-requires-clause-kind t c = search (rules, exists_steps, memory_faults)

pub exists_at-binder_at-requires-clause-keyword : goal.exists_at-binder_at-requires-clause-keyword
exists_at-binder_at-requires-clause-keyword t c = search (rules, exists_steps, memory_faults)

pub exists_at-take-requires-clause-cursor : goal.exists_at-take-requires-clause-cursor
exists_at-take-requires-clause-cursor t c = search (rules, exists_steps, memory_faults)

pub exists_at-take-requires-clause-kind : goal.exists_at-take-requires-clause-kind
exists_at-take-requires-clause-kind t c = search (rules, exists_steps, memory_faults)

pub exists_at-returns-in_err-ty : goal.exists_at-returns-in_err-ty
exists_at-returns-in_err-ty t c = search (rules, exists_steps, memory_faults)

pub exists_at-returns : goal.exists_at-returns
exists_at-returns t c = search (rules, exists_steps, memory_faults)

pub factor_at-returns-in_default : goal.factor_at-returns-in_default
factor_at-returns-in_default t c = search (rules, factor_steps, factor_faults)

pub forward_at-returns-in-KwPi : goal.forward_at-returns-in-KwPi
forward_at-returns-in-KwPi t c = search (rules, forward_steps, forward_faults)

pub forward_at-returns-in_err-left : goal.forward_at-returns-in_err-left
forward_at-returns-in_err-left t c = search (rules, forward_steps, forward_faults)

pub forward_at-returns-in_default-2 : goal.forward_at-returns-in_default-2
forward_at-returns-in_default-2 t c = search (rules, forward_steps, forward_faults)

pub forward_at-returns-in_err-ty : goal.forward_at-returns-in_err-ty
forward_at-returns-in_err-ty t c = search (rules, forward_steps, forward_faults)

pub forward_at-returns : goal.forward_at-returns
forward_at-returns t c = search (rules, forward_steps, forward_faults)

pub marked_at-take-requires-clause-cursor : goal.marked_at-take-requires-clause-cursor
marked_at-take-requires-clause-cursor t c = search (rules, marked_steps, marked_faults)

pub marked_at-take-requires-clause-kind : goal.marked_at-take-requires-clause-kind
marked_at-take-requires-clause-kind t c = search (rules, marked_steps, marked_faults)

pub marked_at-returns-in_err-mark : goal.marked_at-returns-in_err-mark
marked_at-returns-in_err-mark t c = search (rules, marked_steps, marked_faults)

pub marked_at-returns-in_err-ty : goal.marked_at-returns-in_err-ty
marked_at-returns-in_err-ty t c = search (rules, marked_steps, marked_faults)

pub marked_at-returns : goal.marked_at-returns
marked_at-returns t c = search (rules, marked_steps, marked_faults)

pub pi_at-binder_at-requires-clause-cursor : goal.pi_at-binder_at-requires-clause-cursor
pi_at-binder_at-requires-clause-cursor t c = search (rules, pi_steps, memory_faults)

pub pi_at-binder_at-requires-clause-kind : goal.pi_at-binder_at-requires-clause-kind
pi_at-binder_at-requires-clause-kind t c = search (rules, pi_steps, memory_faults)

pub pi_at-binder_at-requires-clause-keyword : goal.pi_at-binder_at-requires-clause-keyword
pi_at-binder_at-requires-clause-keyword t c = search (rules, pi_steps, memory_faults)

pub pi_at-take-requires-clause-cursor : goal.pi_at-take-requires-clause-cursor
pi_at-take-requires-clause-cursor t c = search (rules, pi_steps, memory_faults)

pub pi_at-take-requires-clause-kind : goal.pi_at-take-requires-clause-kind
pi_at-take-requires-clause-kind t c = search (rules, pi_steps, memory_faults)

pub pi_at-returns-in_err-ty : goal.pi_at-returns-in_err-ty
pi_at-returns-in_err-ty t c = search (rules, pi_steps, memory_faults)

pub pi_at-returns : goal.pi_at-returns
pi_at-returns t c = search (rules, pi_steps, memory_faults)

pub sync_at-returns-in_err-product : goal.sync_at-returns-in_err-product
sync_at-returns-in_err-product t c = search (rules, sync_steps, memory_faults)

pub sync_at-returns-in-KwExists : goal.sync_at-returns-in-KwExists
sync_at-returns-in-KwExists t c = search (rules, sync_steps, memory_faults)

pub sync_at-returns-in_err-product-2 : goal.sync_at-returns-in_err-product-2
sync_at-returns-in_err-product-2 t c = search (rules, sync_steps, memory_faults)

pub sync_at-returns-in_default-kind_of_next : goal.sync_at-returns-in_default-kind_of_next
sync_at-returns-in_default-kind_of_next t c = search (rules, sync_steps, memory_faults)

pub sync_at-returns-in_err-push : goal.sync_at-returns-in_err-push
sync_at-returns-in_err-push t c = search (rules, sync_steps, memory_faults)

pub sync_at-returns-in_err-at : goal.sync_at-returns-in_err-at
sync_at-returns-in_err-at t c = search (rules, sync_steps, memory_faults)

pub type_at-returns-in_err-left : goal.type_at-returns-in_err-left
type_at-returns-in_err-left t c = search (rules, type_steps, type_faults)

pub type_at-returns-in_err-left-2 : goal.type_at-returns-in_err-left-2
type_at-returns-in_err-left-2 t c = search (rules, type_steps, type_faults)

pub with_at-returns-in_err-left : goal.with_at-returns-in_err-left
with_at-returns-in_err-left t c = search (rules, with_steps, with_faults)

pub with_at-returns-in_default : goal.with_at-returns-in_default
with_at-returns-in_default t c = search (rules, with_steps, with_faults)

pub with_at-open-requires-clause-cursor : goal.with_at-open-requires-clause-cursor
with_at-open-requires-clause-cursor t c = search (rules, with_steps, with_faults)

pub with_at-open-requires-clause-kind : goal.with_at-open-requires-clause-kind
with_at-open-requires-clause-kind t c = search (rules, with_steps, with_faults)

pub with_at-returns-in_err-ty : goal.with_at-returns-in_err-ty
with_at-returns-in_err-ty t c = search (rules, with_steps, with_faults)

pub with_at-returns : goal.with_at-returns
with_at-returns t c = search (rules, with_steps, with_faults)
