use Rattle.std.proofs.Common.{ℕ, List, Ok, subst, ap, ◌∙◌, length, refl}
use Rattle.std.specs.Global.{Vec}
use Rattle.std.specs.List.{All}
use Rattle.std.proofs.lemmas.List.{take_all}
use Rattle.std.proofs.lemmas.List.Elements.{All-more}
use Rattle.std.proofs.lemmas.Option.{slice_get_read}
use Rattle.cycle_search.specs.Graphs.{plain_graph}
use Rattle.cycle_search.specs.Groups.{HasNoneOnCycle}
use Rattle.cycle_search.proofs.cycle.first_group_on_cycle.Goals as goal

pub returns-then-branch-clause-found : goal.returns-then-branch-clause-found
returns-then-branch-clause-found c = record {
  group = c.index-groups-i.result;
  is = slice_get_read c.args.groups.now (length c.args.groups.now) c.loop-i.i c.index-groups-i.result refl c.loop-i-test.true c.index-groups-i.is;
  one = c.some_reaches_itself.ensures.yes (c.in_ok-some_reaches_itself.was ∙ ap Ok c.if-branch.true);
  first = c.loop-i.invariant;
}

pub loop-i-preserved : goal.loop-i-preserved
loop-i-preserved c =
    All-more (HasNoneOnCycle (plain_graph c.args.edges.now)) c.args.groups.now c.loop-i.i c.index-groups-i.result c.loop-i-test.true c.loop-i.invariant
    (subst (HasNoneOnCycle (plain_graph c.args.edges.now)) c.index-groups-i.is
    (c.some_reaches_itself.ensures.no (c.in_ok-some_reaches_itself.was ∙ ap Ok c.if-branch.false)))

pub returns-clause-none : goal.returns-clause-none
returns-clause-none c _ =
    subst (λ (gs : List (Vec ℕ)). All (HasNoneOnCycle (plain_graph c.args.edges.now)) gs)
    (take_all c.loop-i.i c.args.groups.now c.loop-i-test.false) c.loop-i.invariant
