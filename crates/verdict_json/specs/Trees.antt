-- What callers see of a report on a function: its values, without where they lie in memory.
use Rattle.std.specs.Prelude.{ℕ, Bool, List, map, Option, option_map}
use Rattle.match_model.specs.Overlaps.{MOverlap}
use Rattle.range_split.specs.Numbers.{num_value}
use Rattle.tree_text.specs.Trees.{NodeTree, node_view}
use Rattle.verdict_json.specs.declared.report.FnReport.{FnReport}
use Rattle.witness_text.specs.Trees.{WitnessTree, witness_view}
use Rattle.witnesses.specs.declared.judgement.Overlap.{Overlap}
use Rattle.witnesses.specs.declared.judgement.Unreachable.{Unreachable}

-- an arm or alternative to which no value comes: its arm, counted from 0, its place, and whether it is the whole arm
pub record UnreachableTree : Type 0 where
  pub arm : ℕ
  pub at : ℕ
  pub whole : Bool

-- what is reported of a function of this name: whether its match is exhaustive, the ranges that have one number in common,
-- the nodes of its decision tree where it is shown, the arms and alternatives to which no value comes, and what is missing
pub record ReportTree : Type 0 where
  pub name : List ℕ
  pub exhaustive : Bool
  pub overlaps : List MOverlap
  pub tree : Option (List NodeTree)
  pub unreachable : List UnreachableTree
  pub witnesses : List WitnessTree

-- two ranges that have one number in common
abbrev pub overlap_view : Overlap → MOverlap
overlap_view o = record { first = o.first; second = o.second; number = num_value o.value }

-- an arm or alternative to which no value comes; its number in the match is not shown
abbrev pub unreachable_view : Unreachable → UnreachableTree
unreachable_view u = record { arm = u.arm; at = u.at; whole = u.whole }

-- a report on a function
abbrev pub report_view : FnReport → ReportTree
report_view r = record {
  name = r.name.now;
  exhaustive = r.exhaustive;
  overlaps = map overlap_view r.overlaps.items;
  tree = option_map (λ nodes. map node_view nodes.items) r.tree;
  unreachable = map unreachable_view r.unreachable.items;
  witnesses = map witness_view r.witnesses.items;
}
