use Rattle.std.proofs.Common.{◌≡◌, ◌∙◌, subst, List, ℕ, Option, Some}
use Rattle.celf_lexer.specs.Tokens.{size_limit}
use Rattle.celf_source.specs.Shelf.{IsWhole, IsLonger, StandsBehind}
use Rattle.celf_run.specs.declared.options.Options.{Options}
use Rattle.celf_run.specs.Options.{default_options}
use Rattle.celf_run.specs.Run.{start, nothing_held}
use Rattle.celf_run.specs.Turning.{Finishes}
use Rattle.celf_run.proofs.Runs.{run-whole, run-read_fault, run-too_large, run-no_memory}
use Rattle.celf_run.proofs.top.run.Goals as goal

pub returns-in-Ok-clause-run : goal.returns-in-Ok-clause-run
returns-in-Ok-clause-run g c name e =
    let found : ◌≡◌ {A = Option (List ℕ)} (Some c.in-Some.file.now) (Some name) = c.in-Some.ensures ∙ e in
    let same : c.as_str.result.now ≡ name = c.as_str.ensures ∙ cc found in
    let told = g.F.Shelf.told c.args.shelf.now in
    let whole = subst (λ (n : List ℕ). IsWhole (told n) c.in-Ok.bytes.items) same c.in-Ok.ensures.whole in
    let w = g.W.Sink.written c.args.out.now in
    let v = g.W.Sink.written c.answer_all.new.out in
    let ended = subst (λ (b : List ℕ). Finishes c.new.result (start b) nothing_held w v c.answer_all.result) c.as_slice.ensures.value c.answer_all.ensures.ended in
    let options = subst (λ (o : Options). Finishes o (start c.in-Ok.bytes.items) nothing_held w v c.answer_all.result) c.new.ensures ended in
    run-whole default_options name told c.in-Ok.bytes.items c.answer_all.result w v whole c.in-Ok.ensures.within options

pub returns-in-Err-ReadFault-clause-run : goal.returns-in-Err-ReadFault-clause-run
returns-in-Err-ReadFault-clause-run g c name e = run-read_fault default_options name (g.F.Shelf.told c.args.shelf.now) (g.W.Sink.written c.args.out.now)

pub returns-in-Err-TooLarge-clause-run : goal.returns-in-Err-TooLarge-clause-run
returns-in-Err-TooLarge-clause-run g c name e =
    let found : ◌≡◌ {A = Option (List ℕ)} (Some c.in-Some.file.now) (Some name) = c.in-Some.ensures ∙ e in
    let same : c.as_str.result.now ≡ name = c.as_str.ensures ∙ cc found in
    let told = g.F.Shelf.told c.args.shelf.now in
    let longer = subst (λ (n : List ℕ). IsLonger (told n) size_limit) same (c.in-Err-TooLarge.ensures.too_large (cc c.in-Err-TooLarge.field-0-is)) in
    run-too_large default_options name told (g.W.Sink.written c.args.out.now) longer

pub returns-in-Err-NoMemory-clause-run : goal.returns-in-Err-NoMemory-clause-run
returns-in-Err-NoMemory-clause-run g c name e =
    let found : ◌≡◌ {A = Option (List ℕ)} (Some c.in-Some.file.now) (Some name) = c.in-Some.ensures ∙ e in
    let same : c.as_str.result.now ≡ name = c.as_str.ensures ∙ cc found in
    let told = g.F.Shelf.told c.args.shelf.now in
    let none = c.in-Err-NoMemory.ensures.no_memory (cc c.in-Err-NoMemory.field-0-is) in
    let stands = subst (λ (n : List ℕ). StandsBehind (told n) none.0 (g.F.Shelf.left c.read_all.new.shelf)) same none.2 in
    run-no_memory default_options name told (g.W.Sink.written c.args.out.now) _ none.0 stands
