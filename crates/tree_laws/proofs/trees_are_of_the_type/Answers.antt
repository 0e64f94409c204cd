use Rattle.tree_laws.specs.Laws.{ChosenBy}
use Rattle.match_model.specs.FewestBranches.{IsFewest}
use Rattle.tree_laws.proofs.Matches.{tree-of-type}
use Rattle.tree_laws.proofs.trees_are_of_the_type.Goals as goal

pub returns-clause-any : goal.returns-clause-any
returns-clause-any g c =
    λ chooses. tree-of-type (g.C.PatCx.is_type c.args.cx.now) (g.C.PatCx.context c.args.cx.now)
    (g.C.PatCx.is_value c.args.cx.now) (g.met.C.PatCx.parts c.args.cx.now) (g.met.C.PatCx.values c.args.cx.now)
    (ChosenBy chooses)

pub returns-clause-printed : goal.returns-clause-printed
returns-clause-printed g c =
    tree-of-type (g.C.PatCx.is_type c.args.cx.now) (g.C.PatCx.context c.args.cx.now) (g.C.PatCx.is_value c.args.cx.now)
    (g.met.C.PatCx.parts c.args.cx.now) (g.met.C.PatCx.values c.args.cx.now)
    (IsFewest (g.C.PatCx.context c.args.cx.now) (g.C.PatCx.is_value c.args.cx.now))
