-- What a split of lengths is.
use Rattle.std.specs.Prelude.{◌≡◌, ℕ, ◌+◌, ◌<◌, ◌≤◌, Bool, false, ◌||◌, List, map, nat_eq, nat_le, slice_index_or, Option, IsTrue, ⊤}
use Rattle.std.specs.List.{All, AllPairs, list_any}
use Rattle.match_model.specs.Constructors.{MShape, FixedShape, LongerShape, RowCtor, RowSet, covers, shape_has, allows_length, least_length}
use Rattle.match_model.specs.Pieces.{ArePieces}

-- some shape of the column has every length of the piece
abbrev pub some_has : (columns : List MShape) → (piece : MShape) → Bool
some_has columns piece = list_any (λ s. shape_has s piece) columns

-- each length of the first shape is below each of the second
abbrev pub IsShorter : MShape → MShape → Type 0
IsShorter s t = (m n : ℕ) → IsTrue (covers s m) → IsTrue (covers t n) → m < n

-- the shape has all lengths of the piece or none of them
abbrev pub IsOnOneSide : (piece shape : MShape) → Type 0
IsOnOneSide piece s = (m n : ℕ) → IsTrue (covers piece m) → IsTrue (covers piece n) → covers s m ≡ covers s n

-- the items that the shape names at both ends are among those that the piece has there
abbrev pub HasRoomFor : (piece shape : MShape) → Type 0
HasRoomFor (LongerShape front back) (LongerShape f b) = (f ≤ front) × (b ≤ back)
HasRoomFor piece s = ⊤

-- the pieces of a column of shapes with their flags: of all lengths, or of the one length that there is
pub record IsSplit (whole : Option ℕ) (columns : List MShape) (pieces : List (MShape × Bool)) : Type 0 where
  -- the very list, as the definitions have it
  pub listed : ArePieces (RowSet whole) (map RowCtor columns) (map (λ p. RowCtor p.0) pieces)
  -- a piece's flag says whether some shape of the column has the piece
  pub flagged : All (λ p. p.1 ≡ some_has columns p.0) pieces
  -- each length that there is lies in a piece
  pub together : (n : ℕ) → IsTrue (allows_length whole n) → IsTrue (list_any (λ p. covers p.0 n) pieces)
  -- each piece is below all later ones, so no two share a length
  pub ascending : AllPairs (λ p q. IsShorter p.0 q.0) pieces
  -- each shape of the column has all of a piece or nothing of it
  pub on_one_side : All (λ p. All (IsOnOneSide p.0) columns) pieces
  -- a shape that has a piece finds its items at the piece's ends
  pub room : All (λ p. All (λ s. IsTrue (shape_has s p.0) → HasRoomFor p.0 s) columns) pieces

-- the shape is this one length
abbrev pub is_fixed_at : ℕ → MShape → Bool
is_fixed_at n (FixedShape m) = nat_eq m n
is_fixed_at n (LongerShape f b) = false

-- the shape has a rest and the length
abbrev pub is_longer_at : ℕ → MShape → Bool
is_longer_at n (FixedShape m) = false
is_longer_at n (LongerShape f b) = nat_le (f + b) n

-- the marks tell which lengths stand in the column
abbrev pub AreMarks : (marks : List Bool) → (columns : List MShape) → Type 0
AreMarks marks columns = (n : ℕ) → slice_index_or marks n false ≡ list_any (is_fixed_at n) columns

-- the shape's least length is marked, or it is at or beyond `least`
abbrev pub is_marked : (marks : List Bool) → (least : ℕ) → MShape → Bool
is_marked marks least s = slice_index_or marks (least_length s) false || nat_le least (least_length s)
