use Rattle.std.proofs.Common.{◌≡◌, ℕ, List, ◌+◌, ◌++◌, length, chars}
use denote.Text.{Utf8}
use denote.Shadow.{shadow}
use Rattle.decl_lexer.specs.Lexing.{Placed, Lexes, Faults}
use Rattle.decl_lexer.specs.Stored.{tokens_view, IsWhole}
use Rattle.decl_lexer.proofs.lexing.lex.Given as goal

abbrev pub invariant-tokens : goal.invariant-tokens
invariant-tokens l = record {
  utf8 : shadow (Utf8 l.rest);
  tokens : (more : List Placed) → Lexes l.at (chars l.rest) more → Lexes l.initial.at (chars l.initial.rest) (tokens_view l.tokens ++ more);
  fault : (rule place : ℕ) → Faults rule place l.at (chars l.rest) → Faults rule place l.initial.at (chars l.initial.rest);
  whole : IsWhole l.tokens;
  place : l.at + length l.rest ≡ l.initial.at + length l.initial.rest;
}

abbrev pub decreases-tokens : goal.decreases-tokens
decreases-tokens l = length l.rest
