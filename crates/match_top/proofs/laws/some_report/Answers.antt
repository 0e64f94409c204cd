use Rattle.match_top.proofs.SomeReport.{some_entry_of, some_arms_of, some_report_of}
use Rattle.match_top.specs.declared.words.Command.TheVariants.{Check, Arms}
use Rattle.match_top.proofs.laws.some_report.Goals as goal

pub returns-clause-check : goal.returns-clause-check
returns-clause-check c =
    some_report_of Check (some_entry_of c.walk_tells.ensures c.parsed_functions_are_spelled.ensures c.files_are_sound.ensures c.some_verdict.ensures c.some_overlaps.ensures c.arms_complete_match.ensures)

pub returns-clause-arms : goal.returns-clause-arms
returns-clause-arms c =
    some_report_of Arms (some_arms_of c.walk_tells.ensures c.parsed_functions_are_spelled.ensures c.files_are_sound.ensures c.some_verdict.ensures c.some_overlaps.ensures c.arms_complete_match.ensures)
