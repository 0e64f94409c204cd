use Rattle.tree_laws.proofs.Matches.{one-match-tree}
use Rattle.tree_laws.proofs.match_tree_is_one.Goals as goal

pub returns : goal.returns
returns g c =
    one-match-tree (g.C.PatCx.is_type c.args.cx.now) (g.C.PatCx.context c.args.cx.now)
    (g.C.PatCx.is_value c.args.cx.now)
