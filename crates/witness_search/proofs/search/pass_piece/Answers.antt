use Rattle.std.proofs.Common.{map, arith}
use Rattle.witnesses.specs.Views.{plain_stack}
use Rattle.witness_search.proofs.Turning.{passed}
use Rattle.witness_search.proofs.search.pass_piece.Goals as goal

pub returns-clause-gone : goal.returns-clause-gone
returns-clause-gone g c =
    let cx = c.args.cx.now in
    λ opened gone. passed (g.C.PatCx.is_type cx) (g.C.PatCx.context cx) (g.C.PatCx.is_value cx) opened c.args.walk c.args.piece (map plain_stack c.in_ok-found.found.items) (map plain_stack c.add_stacks.new.all.items)
    c.requires.within c.requires.piece c.requires.absent gone c.in_ok-add_stacks.ensures c.in_ok-found.ensures.missing c.in_ok-found.ensures.empty
