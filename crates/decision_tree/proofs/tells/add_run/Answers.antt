use Rattle.decision_tree.proofs.KnownHeads.{known-wilds}
use Rattle.decision_tree.proofs.tells.add_run.Goals as goal

pub returns-in_ok-push-in-Wilds : goal.returns-in_ok-push-in-Wilds
returns-in_ok-push-in-Wilds g c =
    known-wilds c.args.all.now.items c.push.new.self.items c.in-Wilds.count c.args.one.now c.in-Wilds.is c.in_ok-push-in-Wilds.ensures.items
