use Rattle.decl_syntax.specs.Functions.{function_view}
use Rattle.pattern_arena.specs.Trees.{plain_match}
use Rattle.pattern_elaboration.specs.Arms.{IsMatchMade}
use Rattle.pattern_rules.specs.ShownMatches.{IsShownMatch}
use Rattle.type_table.specs.Tables.{table_type}
use Rattle.match_top.specs.Reporting.{setting_in}
use Rattle.match_top.proofs.Matches.{is_match_of, sound_arm}
use Rattle.match_top.proofs.judging.match_of.Goals as goal

pub elaborate-requires : goal.elaborate-requires
elaborate-requires c = (c.requires.fine.0, c.args.source.now.options.width, c.requires.fine.1.sound.table_is)

pub unreachable-requires : goal.unreachable-requires
unreachable-requires c =
    let x = c.args.source.now in
    let whole = c.requires.fine.0 in
    let h = c.requires.fine.1 in
    let arms = sound_arm c.parsed_arms_are_sound.ensures x whole c.args.number (function_view c.args.f.now) h in
    rw c.in-None.is at c.in_ok-m.ensures.shown (setting_in x whole) h.stands.item h.sound.table_is h.stands.there h.stands.is h.fine arms

pub returns : goal.returns
returns c = λ whole h.
    let x = c.args.source.now in
    let f = function_view c.args.f.now in
    let arms = sound_arm c.parsed_arms_are_sound.ensures x whole c.args.number f h in
    let shown : IsShownMatch (table_type x.table.now) (setting_in x whole) f (plain_match c.in-Some.m) =
    rw c.in-Some.is at c.in_ok-m.ensures.shown (setting_in x whole) h.stands.item h.sound.table_is h.stands.there h.stands.is h.fine arms in
    let made : IsMatchMade x.table.now (plain_match c.in-Some.m) = rw c.in-Some.is at c.in_ok-m.ensures.made in
    is_match_of x whole c.args.number f (plain_match c.in-Some.m) h made shown c.matches_are_made.ensures
