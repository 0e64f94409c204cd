use Rattle.std.proofs.Common.{◌≡◌, ◌+◌, ◌≤◌, length, chars}
use denote.Text.{Utf8}
use denote.Shadow.{shadow}
use Rattle.decl_lexer.specs.Gaps.{comment_end}
use Rattle.decl_lexer.proofs.gaps.skip_comment.Given as goal

abbrev pub invariant-loop-first : goal.invariant-loop-first
invariant-loop-first l = record {
  utf8 : shadow (Utf8 l.rest);
  rest : comment_end l.depth (chars l.rest) ≡ comment_end 0 (chars l.text);
  shorter : l.depth + length l.rest ≤ length l.text;
}

abbrev pub decreases-loop-first : goal.decreases-loop-first
decreases-loop-first l = length l.rest
