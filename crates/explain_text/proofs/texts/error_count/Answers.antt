use Rattle.std.proofs.Common.{◌∙◌, sym, arith}
use Rattle.explain_text.proofs.Whole.{count_yes, count_no}
use Rattle.explain_text.proofs.texts.error_count.Goals as goal
use Rattle.explain_text.proofs.texts.error_count.Goals.{then-is_error, else-is_error}

pub loop-one-preserved : goal.loop-one-preserved
loop-one-preserved c =
    elim c.if-is_error.branch [
      | then-is_error w ↦ record {
        exact = count_yes c.args.all.now c.loop-one.one-index c.one-item.result c.loop-one.errors c.if-is_error.errors (omega arith) c.one-item.is
            (sym c.is_error.ensures ∙ w.if-is_error.true) c.loop-one.invariant.exact w.errors-is;
        few = omega arith;
      }
      | else-is_error w ↦ record {
        exact = count_no c.args.all.now c.loop-one.one-index c.one-item.result c.loop-one.errors c.if-is_error.errors (omega arith) c.one-item.is
            (sym c.is_error.ensures ∙ w.if-is_error.false) c.loop-one.invariant.exact w.errors-is;
        few = omega arith;
      }
    ]
