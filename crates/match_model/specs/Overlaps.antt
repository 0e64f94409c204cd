-- Overlapping ranges (the documentation of the lint on overlapping range endpoints; the exact condition is our own choice).
use Rattle.std.specs.Prelude.{◌≡◌, ◌≢◌, ◌<◌, ◌⊎◌, ◌↔◌, ℕ, ℤ, Bool, ◌&&◌, ◌||◌, List, slice_get, Some, IsTrue, nat_eq, nat_lt, int_lt}
use Rattle.std.specs.List.{Contains}
use Rattle.match_model.specs.Values.{MValue, Num, part_at_position}
use Rattle.match_model.specs.Numbers.{MRange, At}
use Rattle.match_model.specs.Ways.{SpanMet}
use Rattle.match_model.specs.Match.{ArmWays}
use Rattle.match_model.specs.Select.{Try, tries_from}

-- the number is the last of one range and the first of the other; so it is their only common one, since another is at most
-- that last one and at least that first one
abbrev pub MeetAt : MRange → MRange → ℤ → Type 0
MeetAt r s x = ((r.high ≡ At x) × (s.low ≡ At x)) ⊎ ((s.high ≡ At x) × (r.low ≡ At x))

-- two different tries of the value met two ranges at one position, the one at the smaller offset first, and there stands
-- their one common number
pub record OverlapIn (arms : List ArmWays) (v : MValue) (first second : ℕ) (x : ℤ) : Type 0 where
  pub first_index : ℕ
  pub second_index : ℕ
  pub first_try : Try
  pub second_try : Try
  pub first_span : SpanMet
  pub second_span : SpanMet
  pub different : first_index ≢ second_index
  pub first_there : slice_get (tries_from 0 arms v) first_index ≡ Some first_try
  pub second_there : slice_get (tries_from 0 arms v) second_index ≡ Some second_try
  pub first_met : Contains first_try.way.spans first_span
  pub second_met : Contains second_try.way.spans second_span
  pub first_at : first_span.at ≡ first
  pub second_at : second_span.at ≡ second
  pub ordered : first < second
  pub same_position : first_span.position ≡ second_span.position
  pub is_number : part_at_position first_span.position v ≡ Some (Num x)
  pub meet : MeetAt first_span.range second_span.range x

-- the ranges at these two offsets overlap at the number, in some value of the domain; arms with guards count
abbrev pub Overlaps : (Domain : MValue → Type 0) → List ArmWays → (first second : ℕ) → ℤ → Type 0
Overlaps Domain arms first second x = (v : MValue) × Domain v × OverlapIn arms v first second x

-- an overlap as it is printed: the offsets of the two ranges, and their common number
pub record MOverlap : Type 0 where
  pub first : ℕ
  pub second : ℕ
  pub number : ℤ

-- the overlap stands before the other one: by its first offset, then its second, then its number
abbrev pub overlap_before : MOverlap → MOverlap → Bool
overlap_before o p =
    nat_lt o.first p.first
    || (nat_eq o.first p.first && (nat_lt o.second p.second || (nat_eq o.second p.second && int_lt o.number p.number)))

-- the list of overlaps: each of them and nothing else, each once, ascending by first offset, second offset and number
pub record IsOverlapList (Domain : MValue → Type 0) (arms : List ArmWays) (os : List MOverlap) : Type 0 where
  pub each : (o : MOverlap) → Contains os o ↔ Overlaps Domain arms o.first o.second o.number
  pub ascending : (i j : ℕ) (o p : MOverlap) → slice_get os i ≡ Some o → slice_get os j ≡ Some p → i < j →
      IsTrue (overlap_before o p)
