use Rattle.std.proofs.Common.{Some, sym, ◌∙◌}
use Rattle.pattern_arena.specs.Trees.{tree}
use Rattle.decision_tree.proofs.Marks.{off-stays, wild-stays, open-off}
use Rattle.decision_tree.proofs.wild.mark_pattern.Goals as goal

pub returns-then-not-marks-at : goal.returns-then-not-marks-at
returns-then-not-marks-at g c =
    off-stays c.args.at c.args.marks.now (Some (tree c.args.pat.now)) _ c.requires c.if-not-marks-at.true

pub returns-then-is_wild_pat : goal.returns-then-is_wild_pat
returns-then-is_wild_pat g c =
    wild-stays c.args.at c.args.marks.now (Some (tree c.args.pat.now)) (sym c.is_wild_pat.ensures ∙ c.if-is_wild_pat.true)

pub returns : goal.returns
returns g c =
    open-off c.args.at c.args.marks.now (Some (tree c.args.pat.now)) c.requires
    (sym c.is_wild_pat.ensures ∙ c.if-is_wild_pat.false)
