use Rattle.range_split.specs.Ranges.{plain_range}
use Rattle.pattern_lints.proofs.HullLaws.{noted-there, noted-widens}
use Rattle.pattern_lints.proofs.hulls.note.Goals as goal

pub returns-clause-widens : goal.returns-clause-widens
returns-clause-widens c =
    let h = c.args.hulls.now in
    noted-widens h (record h { of = c.insert.new.self }) c.args.uid c.widened-all.result c.in_ok-insert.ensures.updates.0 c.widened-all.ensures.first

pub returns-clause-noted : goal.returns-clause-noted
returns-clause-noted c =
    let h = c.args.hulls.now in
    noted-there h (record h { of = c.insert.new.self }) c.args.uid c.widened-all.result (plain_range c.args.numbers) c.in_ok-insert.ensures.updates.0 c.widened-all.ensures.second
