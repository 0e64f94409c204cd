use Rattle.std.proofs.Common.{◌≡◌, ◌^◌, Some, None, sym}
use Rattle.decl_syntax.specs.Functions.{function_view}
use Rattle.decl_syntax.specs.Items.{file_view}
use Rattle.match_top.specs.Asked.{evaluation_view}
use Rattle.match_top.specs.Outcomes.{function_named, meant_name}
use Rattle.match_top.specs.Reporting.{setting_in}
use Rattle.match_top.specs.Reports.{functions_of}
use Rattle.match_top.specs.Selections.{numbered_view}
use Rattle.match_top.proofs.Evaluated.{found_answer, looked_for}
use Rattle.match_top.proofs.Named.{few_in, few_seen, named_is_item}
use Rattle.match_top.proofs.evaluating.evaluated.Goals as goal

pub evaluated_of-requires-clause-there : goal.evaluated_of-requires-clause-there
evaluated_of-requires-clause-there c =
    let items = file_view c.args.file.now in
    let word = c.args.evaluation.now.function.now in
    let looked =
    looked_for c.args.file.now _ _ _ word _ c.function_named.ensures c.deref.ensures.value c.as_str.ensures.value c.in_ok-name.ensures in
    let found : Some (numbered_view c.in-Some.found) ≡ function_named (functions_of items) (meant_name word) = rw c.in-Some.is at looked in
    (items, c.requires.sound, named_is_item items (meant_name word) (numbered_view c.in-Some.found) (sym found))

pub evaluated_of-requires-clause-few : goal.evaluated_of-requires-clause-few
evaluated_of-requires-clause-few c =
    let items = file_view c.args.file.now in
    let word = c.args.evaluation.now.function.now in
    let looked =
    looked_for c.args.file.now _ _ _ word _ c.function_named.ensures c.deref.ensures.value c.as_str.ensures.value c.in_ok-name.ensures in
    let found : Some (numbered_view c.in-Some.found) ≡ function_named (functions_of items) (meant_name word) = rw c.in-Some.is at looked in
    few_seen c.in-Some.found.function.now.arms.items (2 ^ 32)
    (few_in items c.in-Some.found.number (function_view c.in-Some.found.function.now) (2 ^ 32)
    (named_is_item items (meant_name word) (numbered_view c.in-Some.found) (sym found)) c.requires.few)

pub returns-in-None-clause-answers : goal.returns-in-None-clause-answers
returns-in-None-clause-answers c =
    let items = file_view c.args.file.now in
    let word = c.args.evaluation.now.function.now in
    let looked =
    looked_for c.args.file.now _ _ _ word _ c.function_named.ensures c.deref.ensures.value c.as_str.ensures.value c.in_ok-name.ensures in
    let found : None ≡ function_named (functions_of items) (meant_name word) = rw c.in-None.is at looked in
    found_answer (setting_in c.args.source.now items) _ None (evaluation_view c.args.evaluation.now) _ (sym found) c.refused_at.ensures.answers

pub returns-clause-answers : goal.returns-clause-answers
returns-clause-answers c =
    let items = file_view c.args.file.now in
    let word = c.args.evaluation.now.function.now in
    let looked =
    looked_for c.args.file.now _ _ _ word _ c.function_named.ensures c.deref.ensures.value c.as_str.ensures.value c.in_ok-name.ensures in
    let found : Some (numbered_view c.in-Some.found) ≡ function_named (functions_of items) (meant_name word) = rw c.in-Some.is at looked in
    found_answer (setting_in c.args.source.now items) _ (Some (numbered_view c.in-Some.found)) (evaluation_view c.args.evaluation.now) _ (sym found)
    (c.evaluated_of.ensures.answers items c.requires.sound (named_is_item items (meant_name word) (numbered_view c.in-Some.found) (sym found)))
