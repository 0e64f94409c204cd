use Rattle.std.proofs.Common.{ℕ, subst, ◌+◌, ap, rules, ◌≡◌, [], ◌∷◌, ◌++◌, length, chars, Err, arith}
use Rattle.std.specs.Str.{IsUtf8}
use Rattle.std.proofs.lemmas.List.{append-nil}
use Rattle.decl_lexer.specs.Lexing.{width, Finds, Found, End, ends, later}
use Rattle.decl_lexer.specs.Tokens.{IsKnown, FaultComesFirst}
use Rattle.decl_lexer.specs.Stored.{tokens_view}
use Rattle.decl_lexer.specs.Views.{read_token_view, plain_token_view}
use Rattle.decl_lexer.proofs.LexLaws.{at_most}
use Rattle.decl_lexer.proofs.LexLemmas.{past_token, token_shorter, token_place, first_behind, IsStart, whole_tokens, whole_fault, fault_of, first_known}
use Rattle.decl_lexer.proofs.Sources.{width_is, tokens_in_order}
use Rattle.decl_lexer.proofs.lexing.lex.Goals as goal

pub returns-in-Err-first_token-clause-fault : goal.returns-in-Err-first_token-clause-fault
returns-in-Err-first_token-clause-fault c =
    let source = c.args.source.now in
    let text = c.in-Ok.text.now in
    let first = c.skip_mark-rest.result.now in
    let rest = chars c.tokens.rest.now in
    let start : IsStart source text first = record { utf8 = c.in-Ok.ensures.cases.1; same = c.in-Ok.ensures.cases.0; rest_is = c.skip_mark-rest.ensures.rest; width_is = c.skip_mark-rest.ensures.width } in
    let found : FaultComesFirst c.tokens.at rest c.in-Err-first_token.fault =
    first_behind c.tokens.at c.behind_spaces-from.result.0 rest (chars c.behind_spaces-from.result.1.now) (Err c.in-Err-first_token.fault) c.behind_spaces-from.ensures.first c.in-Err-first_token.ensures in
    fault_of c.tokens.at rest source c.in-Err-first_token.fault found (λ rule place f. whole_fault source text first rule place start (c.tokens.invariant.fault rule place f))

pub returns-in-Err-first_token-clause-known : goal.returns-in-Err-first_token-clause-known
returns-in-Err-first_token-clause-known c =
    let rest = c.tokens.rest.now in
    let end : c.tokens.at + width (chars rest) ≡ length c.args.source.now =
    omega (arith, c.tokens.invariant.place, width_is rest c.tokens.invariant.utf8, ap length c.in-Ok.ensures.cases.0, c.skip_mark-rest.ensures.width) in
    let found : FaultComesFirst c.tokens.at (chars rest) c.in-Err-first_token.fault =
    first_behind c.tokens.at c.behind_spaces-from.result.0 (chars rest) (chars c.behind_spaces-from.result.1.now) (Err c.in-Err-first_token.fault) c.behind_spaces-from.ensures.first c.in-Err-first_token.ensures in
    let P : ℕ → Type 0 = λ n. IsKnown n c.in-Err-first_token.fault in
    subst P end (first_known c.tokens.at (chars rest) c.in-Err-first_token.fault found)

pub tokens-smaller-in-Some : goal.tokens-smaller-in-Some
tokens-smaller-in-Some c =
    let after = c.in-Some.after.now in
    let u : IsUtf8 after = search rules in
    token_shorter c.tokens.at c.tokens.rest.now after (plain_token_view c.in-Some.token) c.tokens.invariant.utf8 u (c.behind_spaces-from.ensures.first _ c.in-Some.ensures.first)

pub tokens-preserved-in-Some : goal.tokens-preserved-in-Some
tokens-preserved-in-Some c =
    let after = c.in-Some.after.now in
    let rest = c.tokens.rest.now in
    let token = plain_token_view c.in-Some.token in
    let u : IsUtf8 after = search rules in
    let found : Finds c.tokens.at (chars rest) (Found token (chars after)) = c.behind_spaces-from.ensures.first _ c.in-Some.ensures.first in
    let added : tokens_view c.push_plain.new.self ≡ tokens_view c.tokens.tokens ++ token ∷ [] = c.in_ok-push_plain.ensures.view in
    record {
      utf8 = u;
      tokens = rw added (past_token _ _ c.tokens.at (chars rest) (chars after) (tokens_view c.tokens.tokens) token c.tokens.invariant.tokens found);
      fault = λ rule place f. c.tokens.invariant.fault rule place (later c.tokens.at (chars rest) (chars after) token found f);
      place = omega (arith, token_place c.tokens.at rest after token c.tokens.invariant.utf8 u found, c.tokens.invariant.place);
      whole = c.in_ok-push_plain.ensures.whole;
    }

pub tokens-smaller : goal.tokens-smaller
tokens-smaller c =
    let after = c.in-Ok-Some.after.now in
    let u : IsUtf8 after = search rules in
    token_shorter c.tokens.at c.tokens.rest.now after (read_token_view c.in-Ok-Some.token) c.tokens.invariant.utf8 u (c.behind_spaces-from.ensures.first _ (rw c.in-Ok-Some.field-0-is at c.in-Ok-Some.ensures))

pub tokens-preserved : goal.tokens-preserved
tokens-preserved c =
    let after = c.in-Ok-Some.after.now in
    let rest = c.tokens.rest.now in
    let token = read_token_view c.in-Ok-Some.token in
    let u : IsUtf8 after = search rules in
    let found : Finds c.tokens.at (chars rest) (Found token (chars after)) = c.behind_spaces-from.ensures.first _ (rw c.in-Ok-Some.field-0-is at c.in-Ok-Some.ensures) in
    let added : tokens_view c.push.new.self ≡ tokens_view c.tokens.tokens ++ token ∷ [] = c.in_ok-push-in-Ok-Some.ensures.view in
    record {
      utf8 = u;
      tokens = rw added (past_token _ _ c.tokens.at (chars rest) (chars after) (tokens_view c.tokens.tokens) token c.tokens.invariant.tokens found);
      fault = λ rule place f. c.tokens.invariant.fault rule place (later c.tokens.at (chars rest) (chars after) token found f);
      place = omega (arith, token_place c.tokens.at rest after token c.tokens.invariant.utf8 u found, c.tokens.invariant.place);
      whole = c.in_ok-push-in-Ok-Some.ensures.whole;
    }

pub returns-in-Ok-None-clause-tokens : goal.returns-in-Ok-None-clause-tokens
returns-in-Ok-None-clause-tokens c =
    let source = c.args.source.now in
    let text = c.in-Ok.text.now in
    let first = c.skip_mark-rest.result.now in
    let start : IsStart source text first = record { utf8 = c.in-Ok.ensures.cases.1; same = c.in-Ok.ensures.cases.0; rest_is = c.skip_mark-rest.ensures.rest; width_is = c.skip_mark-rest.ensures.width } in
    let found : Finds c.tokens.at (chars c.tokens.rest.now) End = c.behind_spaces-from.ensures.first End (rw c.in-Ok-None.field-0-is at c.in-Ok-None.ensures) in
    whole_tokens source text first (tokens_view c.tokens.tokens) start (rw append-nil at (c.tokens.invariant.tokens [] (ends c.tokens.at (chars c.tokens.rest.now) found)))

pub returns-in-Ok-None-clause-order : goal.returns-in-Ok-None-clause-order
returns-in-Ok-None-clause-order c = tokens_in_order c.args.source.now (tokens_view c.tokens.tokens) (returns-in-Ok-None-clause-tokens c)

pub returns-in-Ok-None-clause-count : goal.returns-in-Ok-None-clause-count
returns-in-Ok-None-clause-count c =
    let known = at_most 0 (length c.args.source.now) (tokens_view c.tokens.tokens) (returns-in-Ok-None-clause-order c) in
    omega (arith, known)
