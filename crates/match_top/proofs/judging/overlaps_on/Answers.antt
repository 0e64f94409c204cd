use Rattle.pattern_arena.specs.Trees.{plain_match}
use Rattle.match_top.specs.Reporting.{setting_in}
use Rattle.match_top.proofs.Matches.{overlaps_for}
use Rattle.match_top.proofs.judging.overlaps_on.Goals as goal

pub table_overlaps-requires : goal.table_overlaps-requires
table_overlaps-requires c =
    let x = c.args.source.now in
    c.table_match_is_well_typed.ensures x.table.now (setting_in x c.requires.0) c.requires.1 (plain_match c.args.m.now) c.requires.2

pub returns : goal.returns
returns c whole f h = overlaps_for c.overlaps_of_table_match.ensures c.args.source.now whole f (plain_match c.args.m.now) _ h c.table_overlaps.ensures
