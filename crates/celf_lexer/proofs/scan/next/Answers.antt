use Rattle.std.proofs.Common.{◌≡◌, ◌≢◌, ◌<◌, ◌≤◌, length}
use Rattle.std.specs.Result.{IfOk}
use Rattle.std.proofs.lemmas.Grind.{common_steps}
use Rattle.std.proofs.Common.{arith}
use Rattle.celf_lexer.specs.declared.token.TokenKind.TheVariants.{End}
use Rattle.celf_lexer.specs.Tokens.{next_token, first_of}
use Rattle.celf_lexer.proofs.Tokens.{IsNextToken, next_token-ok, next_token-err, IfOk-mono}
use Rattle.celf_lexer.proofs.scan.next.Goals as goal

next_exact : (c : goal.After-token_here) → c.token_here.result ≡ next_token c.args.bytes.now c.args.at
unfolding first_of
next_exact c = grind (arith, common_steps)

-- what is answered stands where the next token does
placed_next : (c : goal.After-token_here) → IfOk c.token_here.result (IsNextToken c.args.at (length c.args.bytes.now))
placed_next c = next_token-ok c.args.bytes.now c.args.at c.token_here.result c.requires.place (next_exact c)

pub returns-clause-within : goal.returns-clause-within
returns-clause-within c =
    IfOk-mono (IsNextToken c.args.at (length c.args.bytes.now)) (λ t. t.end ≤ length c.args.bytes.now) c.token_here.result (λ t s. s.within) (placed_next c)

pub returns-clause-has_byte : goal.returns-clause-has_byte
returns-clause-has_byte c =
    IfOk-mono (IsNextToken c.args.at (length c.args.bytes.now)) (λ t. t.kind ≢ End → t.start < t.end) c.token_here.result (λ t s. s.has_byte) (placed_next c)

pub returns-clause-at_end : goal.returns-clause-at_end
returns-clause-at_end c =
    IfOk-mono (IsNextToken c.args.at (length c.args.bytes.now)) (λ t. t.kind ≡ End → (t.start ≡ length c.args.bytes.now) × (t.end ≡ length c.args.bytes.now))
    c.token_here.result (λ t s. s.at_end) (placed_next c)

pub returns-clause-fault_behind : goal.returns-clause-fault_behind
returns-clause-fault_behind c = (next_token-err c.args.bytes.now c.args.at c.token_here.result c.requires.place (next_exact c)).0

pub returns-clause-fault_within : goal.returns-clause-fault_within
returns-clause-fault_within c = (next_token-err c.args.bytes.now c.args.at c.token_here.result c.requires.place (next_exact c)).1
