use Rattle.match_top.proofs.OneAnswer.{one_entry_of}
use Rattle.match_top.proofs.SomeReport.{some_entry_of, some_arms_of, each_function_stands}
use Rattle.match_top.proofs.laws.one_entry.Goals as goal

pub returns-clause-each : goal.returns-clause-each
returns-clause-each c = each_function_stands

pub returns-clause-some : goal.returns-clause-some
returns-clause-some c = some_entry_of c.walk_tells.ensures c.parsed_functions_are_spelled.ensures c.files_are_sound.ensures c.some_verdict.ensures c.some_overlaps.ensures c.arms_complete_match.ensures

pub returns-clause-armed : goal.returns-clause-armed
returns-clause-armed c = some_arms_of c.walk_tells.ensures c.parsed_functions_are_spelled.ensures c.files_are_sound.ensures c.some_verdict.ensures c.some_overlaps.ensures c.arms_complete_match.ensures

pub returns-clause-one : goal.returns-clause-one
returns-clause-one c = one_entry_of c.answer_is_one.ensures c.verdict_is_one.ensures c.overlap_list_is_one.ensures c.tree_is_one.ensures
