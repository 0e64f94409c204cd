-- The pieces between ascending cuts, one after the other.
use Rattle.std.specs.Prelude.{◌≡◌, ◌+◌, ℕ, ◌-ℤ◌, ℤ, pos, ◌^◌, ◌≤◌, Bool, not, cond, List, [], ◌∷◌, ◌++◌, Option, nat_eq, IsTrue}
use Rattle.std.specs.List.{All, count_by}
use Rattle.std.specs.List.Sorted.{IsPermutation}
use Rattle.std.specs.Option.{option_to_list}
use Rattle.match_model.specs.Numbers.{MEnd, At, MRange, is_up_to}
use Rattle.match_model.specs.Pieces.{is_at}
use Rattle.range_split.specs.declared.cut.Cut.{Cut}
use Rattle.range_split.specs.declared.range.Range.{Range}
use Rattle.range_split.specs.declared.walk.Walk.{Walk}
use Rattle.range_split.specs.Ends.{plain_end}
pub use Rattle.range_split.specs.Ranges.{range_of}
use Rattle.range_split.specs.Splits.{plain_pieces}
use Rattle.range_split.specs.Cuts.{cut_number, plain_cut, cuts_of, has_start, Rise}

-- how much one test counts
abbrev pub bit : Bool → ℕ
bit b = cond b 1 0

-- the pieces from a low end on, where so many ranges have begun and so many have ended
abbrev pub pieces_from : (low high : MEnd) → (begun ended : ℕ) → List (ℤ × Bool) → List (MRange × Bool)
pieces_from low high b e [] = (range_of low high, not (nat_eq b e)) ∷ []
pieces_from low high b e (c ∷ cuts) =
    cond (is_at c.0 low)
    (pieces_from low high (b + bit c.1) (e + bit (not c.1)) cuts)
    ((range_of low (At (c.0 -ℤ pos 1)), not (nat_eq b e)) ∷ pieces_from (At c.0) high (b + bit c.1) (e + bit (not c.1)) cuts)

-- a cut is passed: the piece before it, if there is one, and the pieces from there on are the pieces from the old place on
pub record Passes (cut : Cut) (old new : Walk) (piece : Option (Range × Bool)) : Type 0 where
  pub low : plain_end new.low ≡ At (cut_number cut)
  pub begun : new.begun ≡ old.begun + bit cut.begins
  pub ended : new.ended ≡ old.ended + bit (not cut.begins)
  pub goes_on : (high : MEnd) (rest : List (ℤ × Bool)) →
      plain_pieces (option_to_list piece) ++ pieces_from (plain_end new.low) high new.begun new.ended rest ≡ pieces_from (plain_end old.low) high old.begun old.ended (plain_cut cut ∷ rest)

-- cuts in order inside a whole, of which not too many ranges have the first numbers
pub record AreInOrder (whole : MRange) (begun : ℕ) (cuts : List (ℤ × Bool)) : Type 0 where
  pub rising : Rise whole.low cuts
  pub inside : All (λ c. IsTrue (is_up_to whole.high c.0)) cuts
  pub few : begun ≤ 2 ^ 64

-- the cuts of a column inside a whole, in order, and how many of the ranges have its first numbers
pub record AreCuts (whole : MRange) (columns : List MRange) (begun : ℕ) (cuts : List (ℤ × Bool)) : Type 0 where
  pub order : AreInOrder whole begun cuts
  pub same : IsPermutation (cuts_of whole columns) cuts
  pub counted : begun ≡ count_by (has_start whole) columns
