use Rattle.std.proofs.Common.{◌≡◌, ◌-◌, length, take, ◌∙◌, arith}
use Rattle.std.proofs.lemmas.Grind.{common_steps}
use Rattle.decl_lexer.specs.Texts.{is_ordinary}
use Rattle.decl_lexer.proofs.TextLemmas.{may_cut, cut_is, cut_shorter}
use Rattle.decl_lexer.proofs.texts.split_run.Goals as goal

pub range-run-requires-clause-end_boundary : goal.range-run-requires-clause-end_boundary
range-run-requires-clause-end_boundary c =
    may_cut (is_ordinary c.args.escapes) c.args.text.now c.skip_run-rest.result.now c.utf8.text c.skip_run-rest.utf8 c.skip_run-rest.ensures.rest

pub returns-clause-run : goal.returns-clause-run
returns-clause-run c =
    let text = c.args.text.now in
    let rest = c.skip_run-rest.result.now in
    let cut : c.range-run.result.now ≡ take (length text - length rest) text = c.range-run.ensures.value ∙ grind (arith, common_steps) in
    cut ∙ cut_is (is_ordinary c.args.escapes) text rest c.utf8.text c.skip_run-rest.utf8 c.skip_run-rest.ensures.rest

pub returns-clause-shorter : goal.returns-clause-shorter
returns-clause-shorter c passes =
    cut_shorter (is_ordinary c.args.escapes) c.args.text.now c.skip_run-rest.result.now c.utf8.text c.skip_run-rest.utf8 c.skip_run-rest.ensures.rest passes
