use Rattle.std.proofs.Common.{ℕ, ◌<◌, ◌++◌, [], ◌∷◌, List, false, replicate, sym, subst, ap, ◌∙◌, arith}
use Rattle.std.specs.Global.{Vec}
use Rattle.std.proofs.lemmas.Grind.{common_steps}
use Rattle.std.proofs.lemmas.List.{length-map}
use Rattle.cycle_search.specs.Graphs.{plain_graph}
use Rattle.cycle_search.proofs.Searches.{begins, no_way_back}
use Rattle.cycle_search.proofs.way.is_on_cycle.Goals as goal

pub loop-done-init : goal.loop-done-init
loop-done-init c =
    let n = length-map c.args.edges.now (λ (t : Vec ℕ). t.items) in
    begins (plain_graph c.args.edges.now) c.args.node c.in_ok-reached.reached.items c.push.new.self.items
    (subst (λ k. c.args.node < k) (sym n) c.requires.node)
    (c.in_ok-reached.ensures.items_if_clones_equal (λ y e. e) ∙ ap (λ k. replicate k false) (sym n))
    (c.in_ok-push.ensures.items ∙ ap (λ (xs : List ℕ). xs ++ c.args.node ∷ []) c.new-trail.ensures.items)

pub returns-clause-no : goal.returns-clause-no
returns-clause-no c _ =
    no_way_back (plain_graph c.args.edges.now) c.args.node c.loop-done.reached.items c.loop-done.trail.items c.loop-done.done c.loop-done.invariant (grind (arith, common_steps))
