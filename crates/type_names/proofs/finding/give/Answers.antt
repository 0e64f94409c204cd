use Rattle.std.proofs.Common.{◌∙◌, ap}
use Rattle.std.proofs.lemmas.Result.{on_ok_weaker}
use Rattle.type_names.specs.Finding.{FoundTree, or_else}
use Rattle.type_names.specs.FindingViews.{found_in, target_view}
use Rattle.type_names.proofs.FindingLemmas.{or_nothing, masked_put}
use Rattle.type_names.proofs.finding.give.Goals as goal

pub returns : goal.returns
returns c = λ q.
    on_ok_weaker c.put.result
    (masked_put or_else or_nothing (found_in c.args.targets.now) c.args.name.now q (target_view c.args.target) (found_in c.put.new.targets q) (target_view c.or_else-first.result)
    (c.or_else-first.ensures ∙ ap (λ (f : FoundTree). or_else f (target_view c.args.target)) c.told.ensures)) (c.put.ensures q)
