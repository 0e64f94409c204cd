-- What the heads of a column have, and what they leave out.
use Rattle.std.specs.Prelude.{◌≡◌, ℕ, Bool, true, false, List, map, Option, Some, None}
use Rattle.std.specs.List.{list_any, filter_map}
use Rattle.match_model.specs.Values.{MValue}
use Rattle.match_model.specs.Constructors.{MCtor, NumbersCtor, RowCtor, MSet, belongs}
use Rattle.match_model.specs.Contexts.{Context, Open}
use Rattle.match_model.specs.WellTyped.{is_written}
use Rattle.pat_context.specs.Views.{plain_ctor}
use Rattle.pat_context.specs.declared.ctor.Ctor.{Ctor}
use Rattle.constructor_sets.specs.declared.piece.Piece.{Piece}
use Rattle.constructor_sets.specs.declared.piece.PieceState.{PieceState}
use Rattle.constructor_sets.specs.declared.piece.PieceState.TheVariants.{Present, Missing}
use Rattle.constructor_sets.specs.Columns.{plain_piece, IsColumnSplit}
use Rattle.constructor_sets.specs.Serving.{AreFoundStates}
use Rattle.constructor_sets.specs.Spans.{AreSpans}
use Rattle.std.specs.Prelude.{◌&&◌}

-- a head of a column of the set that is no wildcard
abbrev pub is_sharp_head : MSet → MCtor → Bool
is_sharp_head set c = belongs set c && is_written c

-- the piece, where it has a value and a head has it
abbrev pub present_piece : MCtor × PieceState → Option MCtor
present_piece (c, Present) = Some c
present_piece (c, _) = None

-- the piece has a value and no head has it
abbrev pub is_missing : MCtor × PieceState → Bool
is_missing (c, Missing) = true
is_missing (c, _) = false

-- the range or length, where it has a value and no head has it
abbrev pub gap_of : MCtor × PieceState → Option MCtor
gap_of (NumbersCtor r, Missing) = Some (NumbersCtor r)
gap_of (RowCtor s, Missing) = Some (RowCtor s)
gap_of _ = None

-- the pieces that heads have, whether some piece is missing, and the missing ranges and lengths are those of the split
-- of the column
pub record AreFound {T : Type 0} (IsValue : T → Bool → MValue → Type 0) (cx : Context T) (o : Open T) (heads ctors : List MCtor) (missing : Bool) (gaps : List MCtor) : Type 0 where
  pub pieces : List (MCtor × PieceState)
  pub split : IsColumnSplit IsValue cx o heads pieces
  pub present : ctors ≡ filter_map present_piece pieces
  pub some_missing : missing ≡ list_any is_missing pieces
  pub missing_parts : gaps ≡ filter_map gap_of pieces

-- what is found of the pieces of a set, each with whether a head has it, and of their states at the open place
pub record AreFoundOf {T : Type 0} (IsValue : T → Bool → MValue → Type 0) (o : Open T) (heads : List MCtor) (flagged : List (Ctor × Bool)) (ctors : List MCtor) (missing : Bool) (gaps : List MCtor) : Type 0 where
  pub pieces : List Piece
  pub same : map (λ p. plain_ctor p.ctor) pieces ≡ map (λ p. plain_ctor p.0) flagged
  pub states : AreFoundStates IsValue o heads pieces
  pub present : ctors ≡ filter_map present_piece (map plain_piece pieces)
  pub some_missing : missing ≡ list_any is_missing (map plain_piece pieces)
  pub missing_parts : gaps ≡ filter_map gap_of (map plain_piece pieces)

-- what is found are some of the pieces, in their order
pub record AreKept (flagged : List (Ctor × Bool)) (ctors : List MCtor) : Type 0 where
  pub pieces : List Piece
  pub same : map (λ p. plain_ctor p.ctor) pieces ≡ map (λ p. plain_ctor p.0) flagged
  pub present : ctors ≡ filter_map present_piece (map plain_piece pieces)

-- the same, and which of the pieces each head has
pub record ArePresent {T : Type 0} (IsValue : T → Bool → MValue → Type 0) (cx : Context T) (o : Open T) (heads ctors : List MCtor) (missing : Bool) (gaps : List MCtor) (spans : List (ℕ × ℕ)) : Type 0 where
  pub found : AreFound IsValue cx o heads ctors missing gaps
  pub each : AreSpans ctors heads spans
