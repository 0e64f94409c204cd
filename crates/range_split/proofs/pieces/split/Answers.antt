use Rattle.std.proofs.Common.{◌≡◌, Bool, List, Vec, Global, get_or, sym, subst}
use Rattle.std.specs.Prelude.{IsTrue}
use Rattle.std.proofs.lemmas.List.Elements.{All-map}
use Rattle.std.proofs.lemmas.Result.{IfOk-weaker}
use Rattle.match_model.specs.Numbers.{MRange}
use Rattle.range_split.specs.declared.range.Range.{Range}
use Rattle.range_split.specs.Ends.{ends_ascend}
use Rattle.range_split.specs.Ranges.{plain_range}
use Rattle.range_split.specs.Splits.{plain_ranges, plain_pieces, IsSplit}
use Rattle.range_split.specs.Cuts.{plain_cuts}
use Rattle.range_split.specs.Walks.{pieces_from}
use Rattle.range_split.proofs.Between.{cuts_split}
use Rattle.range_split.proofs.pieces.split.Goals as goal

pub pieces_between-requires : goal.pieces_between-requires
pieces_between-requires c = c.in_ok-cuts.ensures.order

pub returns : goal.returns
returns c =
    let whole = plain_range c.args.whole.now in
    let columns = plain_ranges c.args.columns.now in
    let cuts = c.in_ok-cuts.cuts in
    let all : List (MRange × Bool) = pieces_from whole.low whole.high cuts.begun 0 (plain_cuts cuts.places.items) in
    IfOk-weaker c.pieces_between.result
    (λ (v : Vec (Range × Bool) Global). plain_pieces v.items ≡ all)
    (λ (v : Vec (Range × Bool) Global). IsSplit whole columns (plain_pieces v.items))
    (λ v same.
    subst (IsSplit whole columns) (sym same)
    (cuts_split whole columns cuts.begun (plain_cuts cuts.places.items) c.args.whole.now.ascending
    (All-map (λ (r : MRange). IsTrue (ends_ascend r.low r.high)) plain_range c.args.columns.now (λ k d l. (get_or c.args.columns.now k d).ascending)) c.in_ok-cuts.ensures))
    c.pieces_between.ensures
