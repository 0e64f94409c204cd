use Rattle.pattern_arena.specs.Trees.{plain_match}
use Rattle.match_top.specs.Reporting.{setting_in}
use Rattle.match_top.proofs.Matches.{verdict_of}
use Rattle.match_top.proofs.judging.verdict_on.Goals as goal

pub judge-requires-clause-typed : goal.judge-requires-clause-typed
judge-requires-clause-typed c =
    let x = c.args.source.now in
    c.table_match_is_well_typed.ensures x.table.now (setting_in x c.requires.shown.0) c.requires.shown.1 (plain_match c.args.m.now) c.requires.shown.2

pub returns : goal.returns
returns c whole f h = verdict_of c.judged_table_match.ensures c.args.source.now whole f (plain_match c.args.m.now) _ h c.judge.ensures
