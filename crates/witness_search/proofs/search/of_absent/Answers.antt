use Rattle.std.proofs.Common.{◌∙◌, ◌++◌, map, replicate, ap}
use Rattle.match_model.specs.Witness.{AnyOf}
use Rattle.match_model.specs.WitnessList.{wrapped}
use Rattle.pat_context.specs.Views.{plain_ctor}
use Rattle.witnesses.specs.Views.{plain_stack, plain_names}
use Rattle.witness_search.proofs.search.of_absent.Goals as goal

pub returns-in_ok-copies-in-Missing-clause-missing : goal.returns-in_ok-copies-in-Missing-clause-missing
returns-in_ok-copies-in-Missing-clause-missing g c =
    let ctor = plain_ctor c.args.piece.now.ctor in
    let names = plain_names c.args.cut.now.names.items in
    let behind = map plain_stack c.args.cut.now.behind.items in
    λ h. c.in_ok-copies-in-Missing.ensures ∙ ap (λ n. map (wrapped ctor names n) (map (λ w. replicate n AnyOf ++ w) behind)) c.count_parts-count.ensures.value
