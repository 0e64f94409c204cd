-- What a match of an arena means: the definitions of matching, read for the ways of its arms.
use Rattle.std.specs.Prelude.{◌≡◌, ◌↔◌, ℕ, ℤ, Bool, List, []}
use Rattle.match_model.specs.Values.{MValue}
use Rattle.match_model.specs.Contexts.{Context}
use Rattle.match_model.specs.ArenaPatterns.{MDeMatch}
use Rattle.match_model.specs.ArenaWays.{match_arms, InMatchDomain}
use Rattle.match_model.specs.ArenaUnreachable.{IsReadingList}
use Rattle.match_model.specs.Match as matching
use Rattle.match_model.specs.Overlaps as overlaps
use Rattle.match_model.specs.Overlaps.{MOverlap, IsOverlapList}
use Rattle.match_model.specs.Witness.{MWitness}
use Rattle.match_model.specs.ExactCover.{IsExactCover}
use Rattle.match_model.specs.Select as selecting
use Rattle.match_model.specs.Select.{Selected}
use Rattle.match_model.specs.Unreachable.{Entry}
use Rattle.match_model.specs.WellTyped as typing
use Rattle.pattern_arena.specs.declared.matches.CheckedMatch.{CheckedMatch}
use Rattle.pattern_arena.specs.Trees.{plain_match}

-- the match is well typed for a context
abbrev pub IsWellTyped : {T : Type 0} → (IsType : T → Type 0) → Context T → CheckedMatch T → Type 0
IsWellTyped IsType cx m = typing.IsWellTyped IsType cx (plain_match m)

-- every value of the scrutinee's type but a bare unseen one comes to an arm where all guards refuse
abbrev pub IsExhaustive : {T : Type 0} → (IsValue : T → Bool → MValue → Type 0) → CheckedMatch T → Type 0
IsExhaustive IsValue m = matching.IsExhaustive (InMatchDomain IsValue (plain_match m)) (match_arms (plain_match m))

-- some value of the scrutinee's type comes to the arm with the number `j`
abbrev pub IsArmReachable : {T : Type 0} → (IsValue : T → Bool → MValue → Type 0) → CheckedMatch T → (j : ℕ) → Type 0
IsArmReachable IsValue m j = matching.IsArmReachable (InMatchDomain IsValue (plain_match m)) (match_arms (plain_match m)) j

-- some value of the scrutinee's type comes through the alternative `uid` of the arm with the number `j`
abbrev pub IsAlternativeReachable : {T : Type 0} → (IsValue : T → Bool → MValue → Type 0) → CheckedMatch T → (j uid : ℕ) → Type 0
IsAlternativeReachable IsValue m j uid =
    matching.IsAlternativeReachable (InMatchDomain IsValue (plain_match m)) (match_arms (plain_match m)) j uid

-- the entries are what is unreachable, in reading order: by arm and then by offset
abbrev pub IsReadingListOf : {T : Type 0} → (IsValue : T → Bool → MValue → Type 0) → CheckedMatch T → List Entry → Type 0
IsReadingListOf IsValue m entries =
    IsReadingList (InMatchDomain IsValue (plain_match m)) (match_arms (plain_match m)) entries

-- which arm takes the value and which guards are asked, where they give these answers
abbrev pub select : {T : Type 0} → CheckedMatch T → MValue → (answers : List Bool) → Selected
select m v answers = selecting.select (match_arms (plain_match m)) v answers

-- the ranges at these offsets overlap at the number
abbrev pub Overlaps : {T : Type 0} → (IsValue : T → Bool → MValue → Type 0) → CheckedMatch T → (first second : ℕ) → ℤ → Type 0
Overlaps IsValue m first second x =
    overlaps.Overlaps (InMatchDomain IsValue (plain_match m)) (match_arms (plain_match m)) first second x

-- a match has one list of what is unreachable in reading order, whatever values the types have
abbrev pub ReadingListIsOne : {T : Type 0} → (IsValue : T → Bool → MValue → Type 0) → Type 0
ReadingListIsOne {T} IsValue =
    (m : MDeMatch T) (es fs : List Entry) →
    IsReadingList (InMatchDomain IsValue m) (match_arms m) es →
    IsReadingList (InMatchDomain IsValue m) (match_arms m) fs → es ≡ fs

-- a match has one list of overlaps, whatever values the types have
abbrev pub OverlapListIsOne : {T : Type 0} → (IsValue : T → Bool → MValue → Type 0) → Type 0
OverlapListIsOne {T} IsValue =
    (m : MDeMatch T) (os ps : List MOverlap) →
    IsOverlapList (InMatchDomain IsValue m) (match_arms m) os →
    IsOverlapList (InMatchDomain IsValue m) (match_arms m) ps → os ≡ ps

-- a match is exhaustive exactly where an exact cover of what it leaves out is empty, whatever values the types have
abbrev pub ExhaustiveWhereNothingIsLeft : {T : Type 0} → (IsValue : T → Bool → MValue → Type 0) → Type 0
ExhaustiveWhereNothingIsLeft {T} IsValue =
    (m : MDeMatch T) (ws : List MWitness) → IsExactCover (InMatchDomain IsValue m) (match_arms m) ws →
    matching.IsExhaustive (InMatchDomain IsValue m) (match_arms m) ↔ (ws ≡ [])
