use Rattle.std.proofs.Common.{◌∙◌, sym, map}
use Rattle.first_match.specs.Names.{names_held}
use Rattle.first_match.proofs.Joined.{none_first, no_names}
use Rattle.first_match.proofs.ways.each_joined.Goals as goal

pub returns-then-is_empty : goal.returns-then-is_empty
returns-then-is_empty c =
    none_first c.args.first.now (no_names c.args.first.now (sym c.is_empty.ensures ∙ c.if-is_empty.true)) (map (λ w. names_held w.items) c.args.ways.items)
