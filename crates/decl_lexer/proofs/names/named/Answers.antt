use Rattle.std.proofs.Common.{rules, ◌≡◌, chars, encode_utf8_all}
use Rattle.unicode_normalization.specs.Forms.{nfc}
use Rattle.decl_lexer.proofs.NameLemmas.{nfc_ascii}
use Rattle.decl_lexer.proofs.names.named.Goals as goal

pub returns-then-is_ascii : goal.returns-then-is_ascii
returns-then-is_ascii c =
    let same : encode_utf8_all (nfc (chars c.args.text.now)) ≡ c.args.text.now = nfc_ascii c.args.text.now c.if-is_ascii.ensures.cases in
    rw same (search rules)
