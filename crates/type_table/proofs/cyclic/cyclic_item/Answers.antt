use Rattle.std.proofs.Common.{◌∙◌, ap}
use Rattle.cycle_search.specs.Graphs.{plain_graph}
use Rattle.type_table.proofs.EdgeLists.{targets_within}
use Rattle.type_table.proofs.ByValue.{first_item, no_first_item, no_cycle_item, found_first, found_none}
use Rattle.type_table.proofs.cyclic.cyclic_item.Goals as goal

pub first_on_cycle-requires-clause-targets : goal.first_on_cycle-requires-clause-targets
first_on_cycle-requires-clause-targets c = targets_within c.args.nodes.now c.args.items.now c.requires.are c.requires.below c.deref.result.now (ap plain_graph c.deref.ensures.value ∙ c.in_ok-edges.ensures)

pub returns-in_default : goal.returns-in_default
returns-in_default c =
    no_cycle_item c.args._width c.args.nodes.now c.args.items.now c.requires.are c.requires.below
    (found_none c.args._width c.args.nodes.now c.args.items.now c.requires.are c.requires.below c.in_ok-first.field-0 (plain_graph c.deref.result.now) c.in_default.is
    (ap plain_graph c.deref.ensures.value ∙ c.in_ok-edges.ensures) c.in_ok-first.ensures.none)

pub returns-then-first-items : goal.returns-then-first-items
returns-then-first-items c =
    first_item c.args._width c.args.nodes.now c.args.items.now c.requires.are c.requires.below c.in-Some.first c.if-first-items.true
    (found_first c.args._width c.args.nodes.now c.args.items.now c.requires.are c.requires.below c.in_ok-first.field-0 c.in-Some.first (plain_graph c.deref.result.now) c.in-Some.is
    (ap plain_graph c.deref.ensures.value ∙ c.in_ok-edges.ensures) c.in_ok-first.ensures.found)

pub returns : goal.returns
returns c =
    no_first_item c.args._width c.args.nodes.now c.args.items.now c.requires.are c.requires.below c.in-Some.first c.if-first-items.false
    (found_first c.args._width c.args.nodes.now c.args.items.now c.requires.are c.requires.below c.in_ok-first.field-0 c.in-Some.first (plain_graph c.deref.result.now) c.in-Some.is
    (ap plain_graph c.deref.ensures.value ∙ c.in_ok-edges.ensures) c.in_ok-first.ensures.found)
