use Rattle.std.proofs.Common.{nat_lt, rules, of_calls}
use Rattle.std.proofs.lemmas.List.Sorted.{IsPartitionPoint-from_clause, IsPartitionedBy-ltb}
use Rattle.explain_places.specs.declared.pieces.Piece.{Piece}
use Rattle.explain_places.proofs.Walking.{past_point}
use Rattle.explain_places.proofs.spans.count_before.Goals as goal

pub returns : goal.returns
returns c =
    let ps = c.args.pieces.now in
    let at = c.args.at in
    let point =
    IsPartitionPoint-from_clause (λ (p : Piece). nat_lt p.from at) ps c.partition_point.result c.partition_point.ensures.partitioned
    (IsPartitionedBy-ltb (λ (p : Piece). p.from) ps at c.requires) (λ a r f k. search (rules, of_calls)) in record {
      exact = past_point at ps c.partition_point.result c.partition_point.ensures.bound point.0 point.1;
      within = c.partition_point.ensures.bound;
    }
