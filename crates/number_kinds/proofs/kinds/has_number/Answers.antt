use Rattle.std.proofs.Common.{ap, sym, ◌∙◌}
use Rattle.match_model.specs.Numbers.{has_number}
use Rattle.range_split.specs.Numbers.{num_value}
use Rattle.number_kinds.specs.Kinds.{kind_type}
use Rattle.number_kinds.proofs.kinds.has_number.Goals as goal

pub returns-in-Char : goal.returns-in-Char
returns-in-Char c = c.is_scalar.ensures
    ∙ ap (λ kind. has_number c.args.width (kind_type kind) (num_value c.args.n.now)) (sym c.in-Char.is)
