use Rattle.std.proofs.Common.{◌≡◌, ◌≤◌, length, chars}
use denote.Text.{Utf8}
use denote.Shadow.{shadow}
use Rattle.decl_lexer.specs.Text.{skip_while}
use Rattle.decl_lexer.specs.Gaps.{is_within_line}
use Rattle.decl_lexer.proofs.gaps.skip_line.Given as goal

abbrev pub invariant-loop-first : goal.invariant-loop-first
invariant-loop-first l = record {
  utf8 : shadow (Utf8 l.rest);
  rest : skip_while is_within_line (chars l.rest) ≡ skip_while is_within_line (chars l.text);
  shorter : length l.rest ≤ length l.text;
}

abbrev pub decreases-loop-first : goal.decreases-loop-first
decreases-loop-first l = length l.rest
