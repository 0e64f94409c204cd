use Rattle.std.proofs.Common.{ap, sym, ◌∙◌}
use Rattle.match_model.specs.Numbers.{numbers_of}
use Rattle.match_model.specs.SourcePatterns.{number_before}
use Rattle.range_split.specs.Numbers.{num_value}
use Rattle.number_kinds.specs.Kinds.{kind_type}
use Rattle.number_kinds.proofs.literals.number_before.Goals as goal

pub returns-in-Char : goal.returns-in-Char
returns-in-Char c = λ width. c.scalar_before.ensures
    ∙ ap (λ kind. number_before (numbers_of width (kind_type kind)) (num_value c.args.n)) (sym c.in-Char.is)
