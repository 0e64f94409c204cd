use Rattle.usefulness.proofs.Trims.{whole_kept}
use Rattle.usefulness.proofs.cutting.cut_whole.Goals as goal

pub returns : goal.returns
returns g c =
    whole_kept c.args.missing c.args.a.now c.args.spans.now c.args.reached.now.marks c.args.part.now c.in_ok-kept.kept.items c.trim.new.kept.items c.requires.part c.in_ok-kept.ensures c.in_ok-trim.ensures
