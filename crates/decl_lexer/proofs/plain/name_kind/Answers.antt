use Rattle.std.proofs.Common.{rules, ◌≡◌, chars, encode_utf8_all}
use Rattle.std.proofs.lemmas.Str.{encodes-chars}
use Rattle.unicode_normalization.specs.Forms.{nfc}
use Rattle.decl_lexer.proofs.NameLemmas.{nfc_ascii}
use Rattle.decl_lexer.proofs.plain.name_kind.Goals as goal

pub returns-then-eq : goal.returns-then-eq
returns-then-eq c = rw (encodes-chars c.args.name.now c.utf8.name) (search rules)

pub returns-in-Some : goal.returns-in-Some
returns-in-Some c = rw (encodes-chars c.args.name.now c.utf8.name) (search rules)

pub returns-then-is_ascii : goal.returns-then-is_ascii
returns-then-is_ascii c =
    let same : encode_utf8_all (nfc (chars c.args.name.now)) ≡ c.args.name.now = nfc_ascii c.args.name.now c.if-is_ascii.ensures.cases in
    rw (encodes-chars c.args.name.now c.utf8.name, same) (search rules)
