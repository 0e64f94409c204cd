use Rattle.std.proofs.Common.{sym, ap, ◌∙◌}
use Rattle.pattern_arena.specs.Trees.{tree}
use Rattle.pattern_arena.proofs.TreeFacts.{ctor_of-tree}
use Rattle.pattern_lints.specs.Beside.{stands_first}
use Rattle.pattern_lints.specs.Meeting.{plain_head}
use Rattle.pattern_lints.proofs.BesideLaws.{head-part}
use Rattle.pattern_lints.proofs.beside.part_pattern.Goals as goal

pub returns-then-stands_first-clause-matches : goal.returns-then-stands_first-clause-matches
returns-then-stands_first-clause-matches g c =
    let p = c.args.p.now in
    head-part (tree p) c.args.i (plain_head c.nth.result) (ap (λ x. stands_first x c.args.i) (ctor_of-tree p) ∙ sym c.stands_first.ensures ∙ c.if-stands_first.true) c.nth.ensures
