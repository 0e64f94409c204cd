use Rattle.std.proofs.Common.{◌∙◌, ap, sym, List, map, Some, String}
use Rattle.std.specs.Global.{Vec, Global}
use Rattle.explain_report.specs.Arms.{arms_view}
use Rattle.explain_report.proofs.ReadArms.{empty_read, text_read}
use Rattle.explain_report.proofs.arms.read_arms.Goals as goal

pub returns-then-is_empty : goal.returns-then-is_empty
returns-then-is_empty c =
    empty_read c.args.text.now c.is_empty.result c.is_empty.ensures c.if-is_empty.true
    ∙ ap (λ (v : List (Vec (String Global))). Some (map arms_view v)) (sym c.new.ensures.items)

pub returns-else-is_empty : goal.returns-else-is_empty
returns-else-is_empty c =
    text_read c.args.text.now c.is_empty.result c.told_arms.result c.is_empty.ensures c.if-is_empty.false c.told_arms.ensures
