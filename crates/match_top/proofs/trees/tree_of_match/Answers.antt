use Rattle.pattern_arena.specs.Trees.{plain_match}
use Rattle.match_top.specs.Reporting.{setting_in}
use Rattle.match_top.proofs.Matches.{tree_on}
use Rattle.match_top.proofs.trees.tree_of_match.Goals as goal

pub lowered-requires-clause-typed : goal.lowered-requires-clause-typed
lowered-requires-clause-typed c =
    let x = c.args.source.now in
    c.table_match_is_well_typed.ensures x.table.now (setting_in x c.requires.shown.0) c.requires.shown.1 (plain_match c.args.m.now) c.requires.shown.2

pub returns : goal.returns
returns c whole f h = tree_on c.tree_of_table_match.ensures c.args.source.now whole f (plain_match c.args.m.now) _ h c.lowered.ensures
