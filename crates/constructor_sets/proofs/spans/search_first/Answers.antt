use Rattle.std.proofs.Common.{rules, of_calls}
use Rattle.std.proofs.lemmas.List.Sorted.{IsPartitionPoint-from_clause}
use Rattle.pat_context.specs.Views.{plain_ctor}
use Rattle.constructor_sets.specs.Spans.{starts_before}
use Rattle.constructor_sets.proofs.Spanning.{starts_parted}
use Rattle.constructor_sets.proofs.spans.search_first.Goals as goal

pub returns : goal.returns
returns c =
    let h = plain_ctor c.args.head.now in
    let pieces = c.args.pieces.now in record {
      bound = c.partition_point.ensures.bound;
      point = IsPartitionPoint-from_clause (λ x. starts_before (plain_ctor x) h) pieces c.partition_point.result c.partition_point.ensures.partitioned (starts_parted h pieces c.requires.rising)
          (λ a r f k. search (rules, of_calls));
    }
