use Rattle.std.proofs.Common.{ap, rules, refl, drop, ◌+◌}
use Rattle.std.proofs.lemmas.List.{drop_all}
use Rattle.range_split.specs.Ranges.{plain_range}
use Rattle.range_split.specs.Splits.{plain_ranges}
use Rattle.range_split.specs.Cuts.{plain_cuts}
use Rattle.range_split.proofs.Steps.{front_of}
use Rattle.range_split.proofs.Gathering.{none_gathered, more_gathered, all_gathered}
use Rattle.range_split.proofs.pieces.sorted_cuts.Goals as goal

pub loop-column-init : goal.loop-column-init
loop-column-init c =
    none_gathered (plain_range c.args.whole.now) (plain_ranges c.args.columns.now) c.in_ok-cuts.cuts.begun (plain_cuts c.in_ok-cuts.cuts.places.items) c.in_ok-cuts.ensures.begun
    (ap plain_cuts c.in_ok-cuts.ensures.places)

pub loop-column-preserved : goal.loop-column-preserved
loop-column-preserved c =
    let columns = c.args.columns.now in
    let i = c.loop-column.column-index in
    more_gathered (plain_range c.args.whole.now) (plain_ranges columns) c.loop-column.cuts.begun c.add.new.self.begun (plain_cuts c.loop-column.cuts.places.items) (plain_cuts c.add.new.self.places.items)
    (plain_range c.column-item.result) (plain_ranges (drop i columns)) (plain_ranges (drop (i + 1) columns)) i
    (ap plain_ranges (front_of columns columns i c.column-item.result refl c.loop-column-test.true c.column-item.is))
    c.in_ok-add.ensures.places c.in_ok-add.ensures.begun c.loop-column.invariant

pub returns : goal.returns
returns c =
    let columns = c.args.columns.now in
    let i = c.loop-column.column-index in
    all_gathered (plain_range c.args.whole.now) (plain_ranges columns) c.loop-column.cuts.begun c.sort.new.self.begun (plain_cuts c.loop-column.cuts.places.items) (plain_cuts c.sort.new.self.places.items)
    (plain_ranges (drop i columns)) i (ap plain_ranges (drop_all i columns c.loop-column-test.false)) (search rules) c.loop-column.invariant
    c.in_ok-sort.ensures.same c.in_ok-sort.ensures.rising c.in_ok-sort.ensures.begun
