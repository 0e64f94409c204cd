use Rattle.std.proofs.Common.{◌≡◌, ◌∷◌, chars, sym, ap, subst, ◌∙◌}
use Rattle.decl_lexer.specs.Begins.{Begins}
use Rattle.decl_lexer.specs.Names.{name_at}
use Rattle.decl_lexer.specs.Numbers.{decimal_at}
use Rattle.decl_lexer.specs.Pieces.{piece_at}
use Rattle.decl_lexer.specs.Plain.{GivesPlain}
use Rattle.decl_lexer.proofs.PlainLemmas.{plain_name_first, plain_name_behind, letter_name_first, letter_name_behind, plain_digit_first, plain_mark_first}
use Rattle.decl_lexer.proofs.plain.plain_kind.Goals as goal

pub plain_name-requires : goal.plain_name-requires
plain_name-requires c =
    plain_name_behind c.args.first (chars c.args.behind.now) (chars c.args.text.now) c.requires (c.starts_plain_name.ensures.ascii c.if-starts_plain_name.true) (sym c.starts_plain_name.ensures.value ∙ c.if-starts_plain_name.true)

pub returns-then-starts_plain_name : goal.returns-then-starts_plain_name
returns-then-starts_plain_name c =
    let same : piece_at c.args.first (chars c.args.behind.now) ≡ name_at (c.args.first ∷ chars c.args.behind.now) =
    plain_name_first c.args.first (chars c.args.behind.now) (c.starts_plain_name.ensures.ascii c.if-starts_plain_name.true) (sym c.starts_plain_name.ensures.value ∙ c.if-starts_plain_name.true) in
    let P : Begins → Type 0 = λ r. GivesPlain r c.plain_name.result in
    subst P (sym (same ∙ ap name_at (sym c.requires))) c.plain_name.ensures

pub plain_name-requires-then-starts_letter_name : goal.plain_name-requires-then-starts_letter_name
plain_name-requires-then-starts_letter_name c =
    letter_name_behind c.args.first (chars c.args.behind.now) (chars c.args.text.now) c.requires (c.starts_letter_name.ensures.ascii c.if-starts_letter_name.true) (sym c.starts_letter_name.ensures.value ∙ c.if-starts_letter_name.true)

pub returns-then-starts_letter_name : goal.returns-then-starts_letter_name
returns-then-starts_letter_name c =
    let same : piece_at c.args.first (chars c.args.behind.now) ≡ name_at (c.args.first ∷ chars c.args.behind.now) =
    letter_name_first c.args.first (chars c.args.behind.now) (c.starts_letter_name.ensures.ascii c.if-starts_letter_name.true) (sym c.starts_letter_name.ensures.value ∙ c.if-starts_letter_name.true) in
    let P : Begins → Type 0 = λ r. GivesPlain r c.plain_name-then-starts_letter_name.result in
    subst P (sym (same ∙ ap name_at (sym c.requires))) c.plain_name-then-starts_letter_name.ensures

pub returns-then-starts_plain_number : goal.returns-then-starts_plain_number
returns-then-starts_plain_number c =
    plain_digit_first c.args.first (chars c.args.behind.now) (c.starts_plain_number.ensures.ascii c.if-starts_plain_number.true) (sym c.starts_plain_number.ensures.value ∙ c.if-starts_plain_number.true)
    ∙ ap decimal_at (sym c.requires) ∙ c.in_ok-number.ensures

pub returns : goal.returns
returns c = plain_mark_first c.args.first (chars c.args.behind.now) c.in_ok-mark.ensures.ascii c.in_ok-mark.ensures.first ∙ c.in_ok-mark.ensures.mark
