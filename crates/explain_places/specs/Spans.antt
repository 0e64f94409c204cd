-- From where to where a token, a pattern or the name of an item stands that begins at a byte.
use Rattle.std.specs.Prelude.{ℕ, ◌==◌, ◌||◌, ◌&&◌, List, [], ◌∷◌, Bool, true, false, not, nat_lt, nat_le, if◌then◌else◌}
use Rattle.std.specs.List.Sorted.{IsNonDecreasingBy}
use Rattle.explain_places.specs.declared.pieces.Class.{Class}
use Rattle.explain_places.specs.declared.pieces.Class.TheVariants as classes
use Rattle.explain_places.specs.declared.pieces.Piece.{Piece}
use Rattle.explain_places.specs.declared.spans.Span.{Span}
use Rattle.explain_places.specs.declared.spans.Place.{Place}
use Rattle.explain_places.specs.declared.spans.Place.TheVariants as places
use Rattle.explain_places.specs.Bodies.{is_name, span_of}

-- the tokens begin one behind the other
abbrev pub Rise : List Piece → Type 0
Rise ps = IsNonDecreasingBy (λ p. p.from) ps

-- the tokens from the first one on that begins there or later
abbrev pub pieces_past : ℕ → List Piece → List Piece
pieces_past at [] = []
pieces_past at (p ∷ ps) = if nat_lt p.from at then pieces_past at ps else p ∷ ps

-- these tokens where the first one begins there, or none
abbrev pub only_at : ℕ → List Piece → List Piece
only_at at [] = []
only_at at (p ∷ ps) = if p.from == at then p ∷ ps else []

-- the tokens from the one on that begins there; none where none does
abbrev pub pieces_at : ℕ → List Piece → List Piece
pieces_at at ps = only_at at (pieces_past at ps)

-- a token of this class ends a pattern outside all of its brackets; a `|` ends an alternative
abbrev pub ends_class : Bool → Class → Bool
ends_class whole classes.Arrow = true
ends_class whole classes.If = true
ends_class whole classes.Comma = true
ends_class whole classes.Bar = not whole
ends_class whole _ = false

-- a token is behind the pattern or alternative whose first token stands within so many brackets
abbrev pub is_behind : Bool → ℕ → Piece → Bool
is_behind whole depth p = nat_lt p.depth depth || p.depth == depth && ends_class whole p.class

-- where a pattern or alternative ends whose tokens so far end there
abbrev pub end_from : Bool → ℕ → ℕ → List Piece → ℕ
end_from whole depth to [] = to
end_from whole depth to (p ∷ ps) = if is_behind whole depth p then to else end_from whole depth p.to ps

-- the first of these tokens that is a name outside all brackets, or else the given one
abbrev pub name_or : Piece → List Piece → Piece
name_or first [] = first
name_or first (p ∷ ps) = if is_name p.class && p.depth == 0 then p else name_or first ps

-- the first of these tokens that is a name, or else the given one
abbrev pub name_in : Piece → List Piece → Piece
name_in first [] = first
name_in first (p ∷ ps) = if is_name p.class then p else name_in first ps

-- the pattern or alternative that these tokens begin with
abbrev pub pattern_from : Bool → List Piece → Place
pattern_from whole [] = places.Lost
pattern_from whole (p ∷ ps) = places.There (record { from = p.from; to = end_from whole p.depth p.to ps })

-- the token that these begin with
abbrev pub token_from : List Piece → Place
token_from [] = places.Lost
token_from (p ∷ ps) = places.There (span_of p p)

-- the token that these begin with and the next one
abbrev pub pair_from : List Piece → Place
pair_from [] = places.Lost
pair_from (p ∷ []) = places.There (span_of p p)
pair_from (p ∷ q ∷ ps) = places.There (span_of p q)

-- the name of the item that these tokens begin with
abbrev pub name_from : List Piece → Place
name_from [] = places.Lost
name_from (p ∷ ps) = places.There (span_of (name_or p (p ∷ ps)) (name_or p (p ∷ ps)))

-- the name of the binding that these tokens begin with, behind `ref` and `mut`
abbrev pub binding_from : List Piece → Place
binding_from [] = places.Lost
binding_from (p ∷ ps) = places.There (span_of (name_in p (p ∷ ps)) (name_in p (p ∷ ps)))

-- the pattern or alternative that begins at this byte
abbrev pub pattern_at : Bool → ℕ → List Piece → Place
pattern_at whole at ps = pattern_from whole (pieces_at at ps)

-- the token that begins at this byte
abbrev pub token_at : ℕ → List Piece → Place
token_at at ps = token_from (pieces_at at ps)

-- the token that begins at this byte, and the next one
abbrev pub pair_at : ℕ → List Piece → Place
pair_at at ps = pair_from (pieces_at at ps)

-- the name of the item that begins at this byte
abbrev pub name_at : ℕ → List Piece → Place
name_at at ps = name_from (pieces_at at ps)

-- the name of the binding that begins at this byte
abbrev pub binding_at : ℕ → List Piece → Place
binding_at at ps = binding_from (pieces_at at ps)
