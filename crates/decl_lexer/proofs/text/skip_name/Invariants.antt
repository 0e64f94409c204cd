use Rattle.std.proofs.Common.{◌≡◌, ◌≤◌, length, chars}
use denote.Text.{Utf8}
use denote.Shadow.{shadow}
use Rattle.decl_lexer.specs.Text.{skip_while}
use Rattle.unicode_ident.specs.Ident.{is_xid_continue}
use Rattle.decl_lexer.proofs.text.skip_name.Given as goal

abbrev pub invariant-loop-first : goal.invariant-loop-first
invariant-loop-first l = record {
  utf8 : shadow (Utf8 l.rest);
  rest : skip_while is_xid_continue (chars l.rest) ≡ skip_while is_xid_continue (chars l.text);
  shorter : length l.rest ≤ length l.text;
}

abbrev pub decreases-loop-first : goal.decreases-loop-first
decreases-loop-first l = length l.rest
