use Rattle.std.proofs.Common.{◌≡◌, ◌+◌, length, chars}
use denote.Text.{Utf8}
use denote.Shadow.{shadow}
use Rattle.decl_lexer.specs.Lexing.{First, Finds}
use Rattle.decl_lexer.proofs.lexing.first_token.Given as goal

abbrev pub invariant-gaps : goal.invariant-gaps
invariant-gaps l = record {
  utf8 : shadow (Utf8 l.rest);
  first : (x : First) → Finds l.at (chars l.rest) x → Finds l.fn.at (chars l.initial.rest) x;
  place : l.at + length l.rest ≡ l.fn.at + length l.initial.rest;
}

abbrev pub decreases-gaps : goal.decreases-gaps
decreases-gaps l = length l.rest
