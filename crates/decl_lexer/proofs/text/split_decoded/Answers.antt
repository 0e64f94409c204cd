use Rattle.std.proofs.lemmas.Str.{chars_past_char}
use Rattle.decl_lexer.proofs.text.split_decoded.Goals as goal

pub returns-clause-cases : goal.returns-clause-cases
returns-clause-cases c =
    let cut = c.in_ok-first.ensures.steps.0 in
    chars_past_char c.args.text.now c.as_str.result.now c.in_ok-first.first c.utf8.text (cc)
