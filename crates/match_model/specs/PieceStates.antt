-- Which pieces of a column have values, and which of them its constructors have (the documentation of
-- `rustc_pattern_analysis`, constructor splitting: present, missing and empty constructors).
use Rattle.std.specs.Prelude.{◌≡◌, ℕ, Bool, true, false, List, IsTrue}
use Rattle.std.specs.List.{filter_map, list_any, Contains}
use Rattle.match_model.specs.Values.{MValue}
use Rattle.match_model.specs.Constructors.{MCtor, MSet, builds, has_piece}
use Rattle.match_model.specs.Contexts.{Open}
use Rattle.match_model.specs.Pieces.{ArePieces, text_of}

-- the texts that the pieces of a column name
abbrev pub named_in : List MCtor → List (List ℕ)
named_in pieces = filter_map text_of pieces

-- some value of the type, at such a place, is built by the piece
abbrev pub HasValue : {T : Type 0} → (T → Bool → MValue → Type 0) → Open T → (named : List (List ℕ)) → MCtor → Type 0
HasValue IsValue o named piece = (v : MValue) × IsValue o.type o.sure v × IsTrue (builds named piece v)

-- a head of the column has the piece
abbrev pub is_present : (heads : List MCtor) → (piece : MCtor) → Bool
is_present heads piece = list_any (λ h. has_piece h piece) heads

-- the piece has a value there, and a head of the column has it
abbrev pub IsPresentPiece : {T : Type 0} → (T → Bool → MValue → Type 0) → Open T →
    (named : List (List ℕ)) → (heads : List MCtor) → MCtor → Type 0
IsPresentPiece IsValue o named heads piece = HasValue IsValue o named piece × (is_present heads piece ≡ true)

-- the piece has a value there, and no head of the column has it
abbrev pub IsMissingPiece : {T : Type 0} → (T → Bool → MValue → Type 0) → Open T →
    (named : List (List ℕ)) → (heads : List MCtor) → MCtor → Type 0
IsMissingPiece IsValue o named heads piece = HasValue IsValue o named piece × (is_present heads piece ≡ false)

-- the piece has no value there
abbrev pub IsEmptyPiece : {T : Type 0} → (T → Bool → MValue → Type 0) → Open T → (named : List (List ℕ)) → MCtor → Type 0
IsEmptyPiece IsValue o named piece = ¬ HasValue IsValue o named piece

-- the constructor is one of the pieces into which the heads of a column cut the set
abbrev pub IsPieceOf : MSet → (heads : List MCtor) → MCtor → Type 0
IsPieceOf set heads c = (pieces : List MCtor) × ArePieces set heads pieces × Contains pieces c
