use Rattle.decl_lexer.specs.Stored.{rest_view}
use Rattle.decl_lexer.specs.Views.{token_view}
use Rattle.decl_syntax.specs.Units.{left}
use Rattle.decl_syntax.proofs.UnitLemmas.{next_whole, next_first, next_second}
use Rattle.decl_syntax.proofs.cursor.Cursor.next.Goals as goal

pub returns-in_default : goal.returns-in_default
unfolding left
returns-in_default c =
    next_whole c.args.self.place (rest_view c.tokens-tokens.result) (token_view c.in_ok-first.first) (rest_view c.in_ok-first.rest) _ c.tokens-tokens.ensures c.in_ok-first.ensures c.in_default.ensures c.before-in_default.ensures

pub returns-in-Before : goal.returns-in-Before
unfolding left
returns-in-Before c =
    next_first c.args.self.place c.in-Before.field-0 (rest_view c.tokens-tokens.result) (token_view c.in_ok-first.first) (rest_view c.in_ok-first.rest) _ c.in-Some.mark c.saturating_sub-middle.result c.in-Before.is c.tokens-tokens.ensures c.in_ok-first.ensures c.in-Some.ensures c.saturating_sub-middle.ensures c.within.ensures

pub returns-in-Within : goal.returns-in-Within
unfolding left
returns-in-Within c =
    next_second c.args.self.place c.in-Within.field-0 (rest_view c.tokens-tokens.result) (token_view c.in_ok-first.first) (rest_view c.in_ok-first.rest) _ c.in-Some.mark c.saturating_sub-middle.result c.in-Within.is c.tokens-tokens.ensures c.in_ok-first.ensures c.in-Some.ensures c.saturating_sub-middle.ensures c.before-in-Within.ensures
