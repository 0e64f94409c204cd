use Rattle.std.proofs.Common.{ap, rules, drop, filter_map, subst, sym, List}
use Rattle.std.proofs.lemmas.List.{drop_all}
use Rattle.match_model.specs.Pieces.{range_of}
use Rattle.range_split.specs.Ranges.{plain_range}
use Rattle.range_split.specs.Cuts.{plain_cuts}
use Rattle.range_split.proofs.Gathering.{none_gathered, all_gathered}
use Rattle.pat_context.specs.Views.{plain_ctor}
use Rattle.pat_context.specs.declared.ctor.Ctor.{Ctor}
use Rattle.constructor_sets.specs.Columns.{plain_ctors}
use Rattle.constructor_sets.specs.Cut.{HasRoom}
use Rattle.constructor_sets.proofs.Walking.{one_head_more}
use Rattle.constructor_sets.proofs.numbers.number_cuts.Goals as goal

pub add_head-requires-clause-room : goal.add_head-requires-clause-room
add_head-requires-clause-room c =
    subst (λ (x : Ctor). HasRoom (plain_range c.args.whole.now) (plain_ctor x)) (sym c.head-item.is) (c.requires c.loop-head.head-index c.head-item.result c.loop-head-test.true)

pub loop-head-init : goal.loop-head-init
loop-head-init c =
    none_gathered (plain_range c.args.whole.now) (filter_map range_of (plain_ctors c.args.heads.now)) c.in_ok-cuts.cuts.begun (plain_cuts c.in_ok-cuts.cuts.places.items) c.in_ok-cuts.ensures.begun
    (ap plain_cuts c.in_ok-cuts.ensures.places)

pub loop-head-preserved : goal.loop-head-preserved
loop-head-preserved c =
    one_head_more (plain_range c.args.whole.now) (filter_map range_of (plain_ctors c.args.heads.now)) c.loop-head.cuts c.add_head.new.cuts c.args.heads.now c.loop-head.head-index c.head-item.result
    c.loop-head-test.true c.head-item.is c.in_ok-add_head.ensures c.loop-head.invariant

pub returns : goal.returns
returns c =
    let heads = c.args.heads.now in
    let i = c.loop-head.head-index in
    all_gathered (plain_range c.args.whole.now) (filter_map range_of (plain_ctors heads)) c.loop-head.cuts.begun c.sort.new.self.begun (plain_cuts c.loop-head.cuts.places.items)
    (plain_cuts c.sort.new.self.places.items) (filter_map range_of (plain_ctors (drop i heads))) i (ap (λ (hs : List Ctor). filter_map range_of (plain_ctors hs)) (drop_all i heads c.loop-head-test.false))
    (search rules) c.loop-head.invariant c.in_ok-sort.ensures.same c.in_ok-sort.ensures.rising c.in_ok-sort.ensures.begun
