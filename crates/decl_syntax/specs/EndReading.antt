-- No meaning: a reading of literals, paths and ranges from left to right, which laws join to the grammar.
use Rattle.std.specs.Prelude.{ℕ, Bool, true, false, List, Option, Some, None, if◌then◌else◌}
use lib.Chars.{codes}
use Rattle.decl_lexer.specs.declared.marks.Mark.TheVariants as marks
use Rattle.decl_lexer.specs.declared.words.Word.TheVariants as words
use Rattle.decl_lexer.specs.Begins.{Lexeme, Named, Keyword, Marked, Integer, Float, Character, Byte, Text, ByteText, CText}
use Rattle.decl_lexer.specs.Lexing.{Placed}
use Rattle.decl_syntax.specs.Units.{behind, is_mark, token_at, first_passes}
use Rattle.decl_syntax.specs.Patterns as trees
use Rattle.decl_syntax.specs.Patterns.{LitTree, PathTree, Shape, Range}
use Rattle.decl_syntax.specs.EndGrammar.{Segment, path_of, begins_end}
use Rattle.decl_syntax.specs.Reading.{◌>>=◌, either, Read, parts_at}

-- a part of a path
abbrev pub segment_of : Lexeme → Option Segment
segment_of (Named text raw) = Some (record { text = text; is_name = true })
segment_of (Keyword words.Crate) = Some (record { text = codes "crate"; is_name = false })
segment_of (Keyword words.SelfValue) = Some (record { text = codes "self"; is_name = false })
segment_of (Keyword words.Super) = Some (record { text = codes "super"; is_name = false })
segment_of (Keyword words.SelfType) = Some (record { text = codes "Self"; is_name = false })
segment_of _ = None

-- the parts of a path
unfoldable pub segments_at : List Placed → Read (List Segment)
segments_at ts = parts_at marks.PathSeparator (token_at segment_of) ts

-- a literal
abbrev pub literal_of : Lexeme → Option LitTree
literal_of (Keyword words.True) = Some (trees.Flag true)
literal_of (Keyword words.False) = Some (trees.Flag false)
literal_of (Character c) = Some (trees.Char c)
literal_of (Byte b) = Some (trees.Byte b)
literal_of (Integer value suffix decimal) = Some (trees.Int false value suffix)
literal_of Float = Some trees.Other
literal_of (Text text) = Some (trees.Str text)
literal_of ByteText = Some trees.Other
literal_of CText = Some trees.Other
literal_of _ = None

-- a literal behind `-`
abbrev pub negated_of : Lexeme → Option LitTree
negated_of (Integer value suffix decimal) = Some (trees.Int true value suffix)
negated_of Float = Some trees.Other
negated_of _ = None

-- the end of a range that is one token
abbrev pub end_of : Lexeme → Option LitTree
end_of (Character c) = Some (trees.Char c)
end_of (Byte b) = Some (trees.Byte b)
end_of (Integer value suffix decimal) = Some (trees.Int false value suffix)
end_of Float = Some trees.Other
end_of _ = None

-- the end of a range
unfoldable pub end_at : List Placed → Read LitTree
end_at ts =
    either (behind (is_mark marks.Minus) ts) (λ us. token_at negated_of us)
    (either (token_at end_of ts) (λ x. Some x) (segments_at ts >>= λ x. Some (trees.Other, x.1)))

-- a mark of ranges, and whether the end is within
abbrev pub range_mark_of : Lexeme → Option Bool
range_mark_of (Marked marks.TwoDots) = Some false
range_mark_of (Marked marks.DotsEqual) = Some true
range_mark_of _ = None

-- behind the mark of a range that has a low end
unfoldable pub range_behind : LitTree → Bool → List Placed → Read Shape
range_behind low closed ts =
    if first_passes begins_end ts then (end_at ts >>= λ high. Some (Range (Some low) (Some high.0) closed, high.1))
    else (if closed then None else Some (Range (Some low) None false, ts))

-- a range
unfoldable pub range_at : List Placed → Read Shape
range_at ts =
    either (token_at range_mark_of ts) (λ m. end_at m.1 >>= λ high. Some (Range None (Some high.0) m.0, high.1))
    (end_at ts >>= λ low. token_at range_mark_of low.1 >>= λ m. range_behind low.0 m.0 m.1)

-- a part of a path, from its text
abbrev pub segment_view : List ℕ → Bool → Segment
segment_view text is_name = record { text = text; is_name = is_name }

-- a path
unfoldable pub path_tree_at : List Placed → Read PathTree
path_tree_at ts = segments_at ts >>= λ x. Some (path_of x.0, x.1)
