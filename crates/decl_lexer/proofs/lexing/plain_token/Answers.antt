use Rattle.std.proofs.Common.{rules, ◌≡◌, chars, Ok, arith}
use Rattle.std.specs.Str.{IsUtf8}
use Rattle.decl_lexer.specs.Begins.{Token}
use Rattle.decl_lexer.specs.Pieces.{piece_at}
use Rattle.decl_lexer.specs.Views.{plain_view}
use Rattle.decl_lexer.proofs.LexLemmas.{cut, token_found}
use Rattle.decl_lexer.proofs.lexing.plain_token.Goals as goal

pub overflow_sub-to : goal.overflow_sub-to
overflow_sub-to c =
    let behind = c.in_ok-first.behind.now in
    let after = c.in_ok-kind.after.now in
    let u : IsUtf8 after = search rules in
    let read : piece_at c.in_ok-first.first (chars behind) ≡ Ok (Token (plain_view c.in_ok-kind.kind), chars after) = c.in_ok-kind.ensures in
    let k = cut c.in_ok-first.first c.args.rest.now behind after _ c.utf8.rest u c.in_ok-first.ensures.cases read in
    omega (arith, k.some)

pub returns-clause-first : goal.returns-clause-first
returns-clause-first c =
    let rest = c.args.rest.now in
    let behind = c.in_ok-first.behind.now in
    let after = c.in_ok-kind.after.now in
    let u : IsUtf8 after = search rules in
    let read : piece_at c.in_ok-first.first (chars behind) ≡ Ok (Token (plain_view c.in_ok-kind.kind), chars after) = c.in_ok-kind.ensures in
    let k = cut c.in_ok-first.first rest behind after _ c.utf8.rest u c.in_ok-first.ensures.cases read in
    token_found c.args.at c.in_ok-first.first rest behind after (plain_view c.in_ok-kind.kind) c.in_ok-first.ensures.cases k read
