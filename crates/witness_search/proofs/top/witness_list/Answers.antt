use Rattle.std.proofs.Common.{List, map, sym, subst}
use Rattle.match_model.specs.WitnessList.{IsWitnessList, nothing_to_match}
use Rattle.pattern_arena.specs.Trees.{plain_match}
use Rattle.witnesses.specs.Views.{plain_stack, plain_witness}
use Rattle.witnesses.specs.declared.witness.Witness.{Witness}
use Rattle.witness_search.proofs.Starting.{list_back, stacks_alone}
use Rattle.witness_search.proofs.top.witness_list.Goals as goal

pub only_each-requires : goal.only_each-requires
only_each-requires g c =
    let cx = c.args.cx.now in
    stacks_alone (g.C.PatCx.is_type cx) (g.C.PatCx.is_value cx) (g.C.PatCx.context cx) (g.met.C.PatCx.values cx) (g.met.C.PatCx.parts cx) (plain_match c.args.m.now) c.in_ok-stacks.stacks.items c.in_ok-stacks.ensures

pub returns-in_ok-all : goal.returns-in_ok-all
returns-in_ok-all g c =
    let cx = c.args.cx.now in
    list_back (g.C.PatCx.context cx) (g.C.PatCx.is_value cx) (plain_match c.args.m.now) (c.is_seen.ensures.some c.if-is_seen.true)
    (map plain_stack c.in_ok-stacks.stacks.items) (map plain_witness c.in_ok-all.all.items) c.in_ok-stacks.ensures c.in_ok-all.ensures

pub returns-else-is_seen : goal.returns-else-is_seen
returns-else-is_seen g c =
    let cx = c.args.cx.now in
    subst (λ (ws : List Witness). IsWitnessList (g.C.PatCx.context cx) (g.C.PatCx.is_value cx) (plain_match c.args.m.now) (map plain_witness ws)) (sym c.new.ensures.items)
    (nothing_to_match (c.is_seen.ensures.none c.if-is_seen.false))
