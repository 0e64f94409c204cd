-- What is found of a column of numbers, from cut to cut.
use Rattle.std.specs.Prelude.{◌≡◌, ◌+◌, ℕ, ℤ, Bool, true, false, ◌||◌, List, [], ◌++◌, map, filter_map, ⊤}
use Rattle.std.specs.List.{list_any}
use Rattle.match_model.specs.Numbers.{MRange}
use Rattle.match_model.specs.Constructors.{MCtor, NumbersCtor}
use Rattle.range_split.specs.declared.cuts.Cuts.{Cuts}
use Rattle.range_split.specs.declared.range.Range.{Range}
use Rattle.range_split.specs.Ranges.{plain_range}
use Rattle.range_split.specs.Splits.{plain_pieces, HasRoomBelow, HasRoomAbove}
use Rattle.range_split.specs.Splits as range_split
use Rattle.range_split.specs.Cuts.{plain_cuts, cuts_by, has_start}
use Rattle.range_split.specs.Walks.{bit}
use Rattle.constructor_sets.specs.declared.column.Found.{Found}
use Rattle.constructor_sets.specs.declared.piece.PieceState.{PieceState}
use Rattle.constructor_sets.specs.declared.piece.PieceState.TheVariants.{Present, Missing}
use Rattle.constructor_sets.specs.Columns.{plain_ctors}
use Rattle.constructor_sets.specs.Present.{present_piece, is_missing, gap_of}

-- the cuts that a head makes inside the whole can be held
abbrev pub HasRoom : (whole : MRange) → MCtor → Type 0
HasRoom whole (NumbersCtor r) = HasRoomBelow whole r × HasRoomAbove whole r
HasRoom whole _ = ⊤

-- the cuts that a head makes inside the whole, and how much it counts where it has the first numbers
abbrev pub head_cuts : (whole : MRange) → MCtor → List (ℤ × Bool)
head_cuts whole (NumbersCtor r) = cuts_by whole r
head_cuts whole _ = []

abbrev pub head_begun : (whole : MRange) → MCtor → ℕ
head_begun whole (NumbersCtor r) = bit (has_start whole r)
head_begun whole _ = 0

-- the cuts of a head are added
pub record AddsHead (whole : MRange) (head : MCtor) (old new : Cuts) : Type 0 where
  pub places : plain_cuts new.places.items ≡ plain_cuts old.places.items ++ head_cuts whole head
  pub begun : new.begun ≡ old.begun + head_begun whole head

-- the state of a piece that has a value, by whether a head has it
abbrev pub state_of : Bool → PieceState
state_of true = Present
state_of false = Missing

-- a piece of numbers with its state
abbrev pub number_piece : Range × Bool → MCtor × PieceState
number_piece p = (NumbersCtor (plain_range p.0), state_of p.1)

-- what is found of these pieces is added
pub record AddsPieces (pieces : List (Range × Bool)) (old new : Found) : Type 0 where
  pub present : plain_ctors new.ctors.items ≡ plain_ctors old.ctors.items ++ filter_map present_piece (map number_piece pieces)
  pub some_missing : new.missing ≡ (old.missing || list_any is_missing (map number_piece pieces))
  pub missing_parts : plain_ctors new.gaps.items ≡ plain_ctors old.gaps.items ++ filter_map gap_of (map number_piece pieces)

-- what is found of all of these pieces is added
pub record AddsAll (all : List (MRange × Bool)) (old new : Found) : Type 0 where
  pub pieces : List (Range × Bool)
  pub same : plain_pieces pieces ≡ all
  pub adds : AddsPieces pieces old new

-- what is found of the pieces of a whole by these ranges is added
pub record AddsSplit (whole : MRange) (ranges : List MRange) (old new : Found) : Type 0 where
  pub pieces : List (Range × Bool)
  pub split : range_split.IsSplit whole ranges (plain_pieces pieces)
  pub adds : AddsPieces pieces old new
