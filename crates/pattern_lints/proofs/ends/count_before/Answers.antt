use Rattle.std.proofs.Common.{rules, of_calls}
use Rattle.std.proofs.lemmas.List.Sorted.{IsPartitionPoint-from_clause}
use Rattle.range_split.specs.Numbers.{num_value}
use Rattle.pattern_lints.specs.Ends.{is_before}
use Rattle.pattern_lints.proofs.EndOrder.{before-parted}
use Rattle.pattern_lints.proofs.ends.count_before.Goals as goal

pub returns : goal.returns
returns c =
    let x = num_value c.args.number.now in
    let bound = num_value c.args.bound.now in
    let ends = c.args.ends.now in record {
      bound = c.partition_point.ensures.bound;
      point = IsPartitionPoint-from_clause (is_before c.args.equal c.args.place x bound) ends c.partition_point.result c.partition_point.ensures.partitioned
          (before-parted c.args.equal c.args.place x bound ends c.requires) (λ a r f k. search (rules, of_calls));
    }
