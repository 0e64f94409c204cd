use Rattle.std.proofs.Common.{◌∙◌, ap}
use Rattle.first_match.specs.Selections.{selection_view}
use Rattle.pattern_arena.specs.Trees.{plain_match}
use Rattle.tree_eval.specs.Views.{plain_value}
use Rattle.verdict_json.specs.Outcomes.{outcome_text}
use Rattle.match_top.proofs.Evaluated.{outcome_told}
use Rattle.match_top.proofs.Told.{are_numbered}
use Rattle.match_top.proofs.evaluating.outcome_of.Goals as goal

pub told-requires-clause-file : goal.told-requires-clause-file
told-requires-clause-file c = (c.requires.ready.0, c.args.source.now.options.width, c.requires.ready.2.match_is.table_is)

pub told-requires-clause-numbered : goal.told-requires-clause-numbered
told-requires-clause-numbered c =
    are_numbered c.args.source.now c.requires.ready.0 c.requires.ready.1 (plain_match c.args.m.now) c.requires.ready.2.match_is

pub returns-clause-answers : goal.returns-clause-answers
returns-clause-answers c = λ whole f ready.
    outcome_told c.args.source.now whole f (plain_match c.args.m.now) (plain_value c.args.value.now) c.args.answers.now
    (selection_view c.in_ok-selection.selection) _ _ ready c.in_ok-selection.ensures
    (c.in_ok-text.ensures ∙ ap outcome_text c.in_ok-shown.ensures)
    c.status_of_ending-status.ensures.status
