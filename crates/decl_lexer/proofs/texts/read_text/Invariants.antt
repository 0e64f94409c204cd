use Rattle.std.proofs.Common.{◌≡◌, length, chars, string_bytes}
use denote.Text.{Utf8}
use denote.Shadow.{shadow}
use Rattle.decl_lexer.specs.Texts.{text_from, with_front}
use Rattle.decl_lexer.proofs.texts.read_text.Given as goal

abbrev pub invariant-loop-first : goal.invariant-loop-first
invariant-loop-first l = record {
  utf8 : shadow (Utf8 l.rest);
  whole : with_front (string_bytes l.value) (text_from l.kind (chars l.all) 0 (chars l.rest)) ≡ text_from l.kind (chars l.all) 0 (chars l.inside);
}

abbrev pub decreases-loop-first : goal.decreases-loop-first
decreases-loop-first l = length l.rest
