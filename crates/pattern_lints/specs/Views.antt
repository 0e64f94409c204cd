-- Overlaps as the definitions have them.
use Rattle.std.specs.Prelude.{◌≡◌, ◌<◌, ◌↔◌, ℕ, List, Some, map, slice_get, IsTrue}
use Rattle.std.specs.List.{Contains}
use Rattle.match_model.specs.Overlaps.{MOverlap, overlap_before}
use Rattle.range_split.specs.Numbers.{num_value}
use Rattle.witnesses.specs.declared.judgement.Overlap.{Overlap}

-- the overlap, as the definitions have it
abbrev pub plain_overlap : Overlap → MOverlap
plain_overlap o = record { first = o.first; second = o.second; number = num_value o.value }

-- the overlaps, as the definitions have them
abbrev pub plain_overlaps : List Overlap → List MOverlap
plain_overlaps os = map plain_overlap os

-- the second list has what the first one has, each once, ascending by first offset, second offset and number
pub record IsInOrder (old new : List MOverlap) : Type 0 where
  pub same : (o : MOverlap) → Contains new o ↔ Contains old o
  pub ascending : (i j : ℕ) (o p : MOverlap) → slice_get new i ≡ Some o → slice_get new j ≡ Some p → i < j → IsTrue (overlap_before o p)
