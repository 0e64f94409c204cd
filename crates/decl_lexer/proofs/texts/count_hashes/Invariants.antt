use Rattle.std.proofs.Common.{◌≡◌, ◌+◌, ◌≤◌, length, chars}
use denote.Text.{Utf8}
use denote.Shadow.{shadow}
use Rattle.std.specs.List.{take_while}
use Rattle.decl_lexer.specs.Text.{skip_while}
use Rattle.decl_lexer.specs.Texts.{is_hash}
use Rattle.decl_lexer.proofs.texts.count_hashes.Given as goal

abbrev pub invariant-loop-first : goal.invariant-loop-first
invariant-loop-first l = record {
  utf8 : shadow (Utf8 l.rest);
  count : l.count + length (take_while is_hash (chars l.rest)) ≡ length (take_while is_hash (chars l.text));
  rest : skip_while is_hash (chars l.rest) ≡ skip_while is_hash (chars l.text);
  shorter : l.count + length l.rest ≤ length l.text;
}

abbrev pub decreases-loop-first : goal.decreases-loop-first
decreases-loop-first l = length l.rest
