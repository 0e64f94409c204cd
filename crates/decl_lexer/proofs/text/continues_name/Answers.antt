use Rattle.std.proofs.Common.{rules, ◌<◌}
use Rattle.decl_lexer.proofs.NameLemmas.{continues_letter, continues_mark}
use Rattle.decl_lexer.proofs.text.continues_name.Goals as goal

pub returns-then-is_ascii_alphanumeric : goal.returns-then-is_ascii_alphanumeric
returns-then-is_ascii_alphanumeric c =
    let lt : c.args.c < 128 = search rules in
    continues_letter c.args.c c.is_ascii_alphanumeric.result lt c.is_ascii_alphanumeric.ensures.value c.if-is_ascii_alphanumeric.true

pub returns-else-is_ascii_alphanumeric : goal.returns-else-is_ascii_alphanumeric
returns-else-is_ascii_alphanumeric c =
    let lt : c.args.c < 128 = search rules in
    continues_mark c.args.c c.is_ascii_alphanumeric.result lt c.is_ascii_alphanumeric.ensures.value c.if-is_ascii_alphanumeric.false
