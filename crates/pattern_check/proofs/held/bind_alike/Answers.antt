use Rattle.std.proofs.Common.{◌∙◌}
use Rattle.pattern_check.proofs.FieldLemmas.{if_ok}
use Rattle.pattern_check.proofs.SetLemmas.{alike_is}
use Rattle.pattern_check.proofs.held.bind_alike.Goals as goal

pub returns : goal.returns
returns c =
    if_ok c.have_same_members.result _ _
    (λ b h. h ∙ alike_is c.args.table.now c.equal_types_have_one_number.ensures c.args.first.now c.args.other.now c.requires.first c.requires.other)
    c.have_same_members.ensures
