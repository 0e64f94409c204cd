-- Where the bodies of functions stand, what they match on, and their arms.
use Rattle.std.specs.Prelude.{ℕ, ◌==◌, ◌&&◌, List, [], ◌∷◌, Bool, true, false, not, nat_le, if◌then◌else◌}
use Rattle.explain_places.specs.declared.pieces.Class.{Class}
use Rattle.explain_places.specs.declared.pieces.Class.TheVariants as classes
use Rattle.explain_places.specs.declared.pieces.Piece.{Piece}
use Rattle.explain_places.specs.Pieces.{closes}
use Rattle.explain_places.specs.declared.spans.Span.{Span}
use Rattle.explain_places.specs.declared.spans.Place.{Place}
use Rattle.explain_places.specs.declared.spans.Place.TheVariants as places
use Rattle.explain_places.specs.declared.bodies.Body.{Body}
use Rattle.explain_places.specs.declared.bodies.End.{End}

-- a token of these classes
abbrev pub is_function : Class → Bool
is_function classes.Function = true
is_function _ = false

abbrev pub is_name : Class → Bool
is_name classes.Name = true
is_name _ = false

abbrev pub is_match : Class → Bool
is_match classes.Match = true
is_match _ = false

abbrev pub is_block : Class → Bool
is_block classes.OpenBlock = true
is_block _ = false

abbrev pub is_arrow : Class → Bool
is_arrow classes.Arrow = true
is_arrow _ = false

-- from the begin of one token to the end of another one
abbrev pub span_of : Piece → Piece → Span
span_of first last = record { from = first.from; to = last.to }

-- `fn` and a name stand there, outside all brackets
abbrev pub begins_header : List Piece → Bool
begins_header [] = false
begins_header (first ∷ []) = false
begins_header (first ∷ second ∷ ps) = is_function first.class && first.depth == 0 && is_name second.class

-- a block begins there, outside all brackets
abbrev pub begins_block : List Piece → Bool
begins_block [] = false
begins_block (first ∷ ps) = is_block first.class && first.depth == 0

-- what stands between `match` and the next `{`, one token or two; else the begin of the body
abbrev pub scrutinee_of : Piece → Piece → Piece → Piece → Span
scrutinee_of opening word first second =
    if is_match word.class then (if is_block second.class then span_of first first else span_of first second) else span_of opening opening

-- the same of the tokens from the begin of the body on
abbrev pub scrutinee_at : Piece → List Piece → Span
scrutinee_at opening [] = span_of opening opening
scrutinee_at opening (word ∷ []) = span_of opening opening
scrutinee_at opening (word ∷ first ∷ []) = span_of opening opening
scrutinee_at opening (word ∷ first ∷ second ∷ ps) = scrutinee_of opening word first second

-- the token closes what is open around it within at most one bracket
abbrev pub ends_match : Piece → Bool
ends_match p = closes p.class && nat_le p.depth 1

-- the place before a bracket that closes a match; none before one that closes a body
abbrev pub end_place : Piece → Place
end_place p = if p.depth == 1 then places.There (record { from = p.from; to = p.from }) else places.Nowhere

-- a comma is to stand behind a token of this class before another arm
abbrev pub wants_comma : Class → Bool
wants_comma classes.Comma = false
wants_comma classes.OpenBlock = false
wants_comma _ = true

-- the end of a match before this bracket, behind a token of this class
abbrev pub end_of : Class → Piece → End
end_of before p = record { place = end_place p; comma = wants_comma before }

-- where the match of a body ends, by the tokens behind one of this class
abbrev pub match_end : Class → List Piece → End
match_end before [] = record { place = places.Nowhere; comma = false }
match_end before (p ∷ ps) = if ends_match p then end_of before p else match_end p.class ps

-- the body that begins with this token
abbrev pub body_at : Piece → List Piece → Body
body_at opening ps = record { at = opening.from; scrutinee = scrutinee_at opening ps; end = match_end opening.class ps }

-- the body of a function begins there, where one is still to come or not
abbrev pub begins_body : Bool → List Piece → Bool
begins_body waits ps = waits && begins_block ps

-- the body of a function is still to come behind the first of these tokens, where it was or not before it
abbrev pub waits_behind : Bool → List Piece → Bool
waits_behind waits ps = if waits then not (begins_block ps) else begins_header ps

-- the bodies of functions: behind `fn` and a name outside all brackets, each begins with the next `{` outside all brackets
unfoldable pub bodies_from : Bool → List Piece → List Body
bodies_from waits [] = []
bodies_from waits (p ∷ ps) =
    if begins_body waits (p ∷ ps) then body_at p ps ∷ bodies_from (waits_behind waits (p ∷ ps)) ps else bodies_from (waits_behind waits (p ∷ ps)) ps

-- the bodies of the functions of a source
abbrev pub bodies_of : List Piece → List Body
bodies_of ps = bodies_from false ps

-- the pattern of an arm ends there
abbrev pub ends_arm : Piece → Bool
ends_arm p = is_arrow p.class && p.depth == 2

-- where the patterns of arms end: `=>` within two brackets
unfoldable pub arrows_of : List Piece → List ℕ
arrows_of [] = []
arrows_of (p ∷ ps) = if ends_arm p then p.from ∷ arrows_of ps else arrows_of ps
