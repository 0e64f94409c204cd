-- Whitespace and comments (the Rust Reference, "Whitespace" and "Comments").
use Rattle.std.specs.Prelude.{◌≡◌, ℕ, false, ◌++◌, ◌+◌, ◌-◌, Bool, ◌&&◌, ◌||◌, not, List, [], ◌∷◌, ◌==◌, nat_le, Option, Some, None, if◌then◌else◌}
use Rattle.std.specs.Option.{option_map_or}
use lib.Chars.{codes}
use Rattle.decl_lexer.specs.Text.{begins_with, is_one_of}
use Rattle.decl_lexer.specs.Begins.{Begins, gap, breaks}

-- the characters with the Unicode property Pattern_White_Space
abbrev pub is_space : ℕ → Bool
is_space c = (nat_le 9 c && nat_le c 13) || c == 0x20 || c == 0x85 || c == 0x200E || c == 0x200F || c == 0x2028 || c == 0x2029

-- a line ends with a line feed
abbrev pub is_within_line : ℕ → Bool
is_within_line c = not (is_one_of (codes "\n") c)

-- what stands behind a block comment in whose inside the text begins, this many comments deep within it
unfoldable pub comment_end : ℕ → List ℕ → Option (List ℕ)
comment_end depth [] = None
comment_end depth (c ∷ []) = None
comment_end depth (c ∷ d ∷ cs) =
    -- `/*` opens a comment within the comment
    if begins_with (codes "/*") (c ∷ d ∷ cs) then comment_end (depth + 1) cs
    -- `*/` closes the innermost comment that is open
    else (if begins_with (codes "*/") (c ∷ d ∷ cs) then (if depth == 0 then Some cs else comment_end (depth - 1) cs)
    else comment_end depth (d ∷ cs))

-- a block comment at the start of the text, which goes on inside the comment as given; rule 3 where it does not end
abbrev pub comment_at : List ℕ → List ℕ → Begins
comment_at text inside = option_map_or gap (comment_end 0 inside) (breaks 3 text)

-- the text is the inside of a block comment up to its own `*/`, and then this
pub data IsInside : List ℕ → List ℕ → Type 0 where
  closes : (cs rest : List ℕ) → cs ≡ codes "*/" ++ rest → IsInside cs rest
  nests : (cs inside outside rest : List ℕ) → cs ≡ codes "/*" ++ inside → IsInside inside outside → IsInside outside rest → IsInside cs rest
  goes_on : (c : ℕ) (cs rest : List ℕ) → begins_with (codes "/*") (c ∷ cs) ≡ false → begins_with (codes "*/") (c ∷ cs) ≡ false → IsInside cs rest → IsInside (c ∷ cs) rest
