use Rattle.std.proofs.Common.{◌≡◌, ◌-◌, chars, drop}
use denote.Text.{Utf8}
use denote.Shadow.{shadow}
use Rattle.decl_lexer.specs.Texts.{has_hashes}
use Rattle.decl_lexer.proofs.texts.skip_hashes.Given as goal

abbrev pub invariant-loop : goal.invariant-loop
invariant-loop l = record {
  utf8 : shadow (Utf8 l.rest);
  has : has_hashes (l.hashes - l.counter) (chars l.rest) ≡ has_hashes l.hashes (chars l.text);
  rest : drop (l.hashes - l.counter) (chars l.rest) ≡ drop l.hashes (chars l.text);
}
