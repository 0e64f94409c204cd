use Rattle.std.proofs.Common.{chars, ◌∙◌}
use Rattle.decl_lexer.specs.Views.{plain_view}
use Rattle.decl_lexer.proofs.PlainLemmas.{plain_name_gives}
use Rattle.decl_lexer.proofs.plain.plain_name.Goals as goal

pub name_before-requires : goal.name_before-requires
name_before-requires c = c.skip_name-after.ensures.rest ∙ c.requires

pub returns : goal.returns
returns c =
    plain_name_gives (chars c.name_before.result.now) (chars c.args.text.now) (chars c.skip_name-after.result.now) (plain_view c.in_ok-kind.kind)
    c.in_ok-kind.ensures c.name_before.ensures.name (c.skip_name-after.ensures.rest ∙ c.requires)
