use Rattle.std.proofs.Common.{◌∙◌}
use Rattle.decision_tree.specs.KnownViews.{plain_known_heads}
use Rattle.decision_tree.proofs.Longer.{last-longer}
use Rattle.decision_tree.proofs.tells.add_uid.Goals as goal

pub returns-in_ok-push-in-Some-pop : goal.returns-in_ok-push-in-Some-pop
returns-in_ok-push-in-Some-pop c =
    let all = c.args.all.now.items in
    let before = c.pop.new.self.items in
    let last = c.in-Some-pop._last in
    last-longer plain_known_heads all before c.push.new.self.items last c.in-Some.heads c.args.uid c.in-Some-pop.ensures.items
    (c.in-Some.ensures before last (c.deref.ensures.value ∙ c.in-Some-pop.ensures.items)) c.in_ok-push-in-Some-pop.ensures.items
