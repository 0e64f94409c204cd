-- No meaning: a reading of types from left to right, which laws join to the grammar.
use Rattle.std.specs.Prelude.{ℕ, zero, suc, List, Option, Some, None, option_map}
use Rattle.decl_lexer.specs.declared.marks.Mark.TheVariants as marks
use Rattle.decl_lexer.specs.declared.words.Word.TheVariants as words
use Rattle.decl_lexer.specs.Lexing.{Placed}
use Rattle.decl_syntax.specs.Units.{behind, is_mark, is_word, is_lifetime, flag_at, token_at, name_of, integer_of}
use Rattle.decl_syntax.specs.Types.{TypeTree, Never, Tuple, Point, Slice, Array, Named, none, more, types_from}
use Rattle.decl_syntax.specs.TypeGrammar.{somes}
use Rattle.decl_syntax.specs.Reading.{◌>>=◌, either, Read, list_at}

-- a lifetime or a type
abbrev pub argument_at : (List Placed → Read TypeTree) → List Placed → Read (Option TypeTree)
argument_at inner ts = either (behind is_lifetime ts) (λ rest. Some (None, rest)) (inner ts >>= λ x. Some (Some x.0, x.1))

-- the types among what was read
abbrev pub kept : Read (List (Option TypeTree)) → Read (List TypeTree)
kept read = option_map (λ xs. (somes xs.0, xs.1)) read

-- arguments up to `>`
abbrev pub arguments_at : (List Placed → Read TypeTree) → List Placed → Read (List TypeTree)
arguments_at inner ts = kept (list_at marks.Greater (argument_at inner) ts)

-- a type behind an opening round bracket
abbrev pub round_type : (List Placed → Read TypeTree) → List Placed → Read TypeTree
round_type inner ts =
    either (behind (is_mark marks.CloseRound) ts) (λ rest. Some (Tuple none, rest))
    (inner ts >>= λ x. either (behind (is_mark marks.CloseRound) x.1) (λ rest. Some (x.0, rest))
    (behind (is_mark marks.Comma) x.1 >>= λ us. list_at marks.CloseRound inner us >>= λ xs. Some (Tuple (more x.0 (types_from xs.0)), xs.1)))

-- a type behind an opening square bracket
abbrev pub square_type : (List Placed → Read TypeTree) → List Placed → Read TypeTree
square_type inner ts =
    inner ts >>= λ x. either (behind (is_mark marks.CloseSquare) x.1) (λ rest. Some (Slice x.0, rest))
    (behind (is_mark marks.Semicolon) x.1 >>= λ us. token_at integer_of us >>= λ n. behind (is_mark marks.CloseSquare) n.1
    >>= λ rest. Some (Array x.0 n.0.0 n.0.1, rest))

-- a type behind `&`
abbrev pub point_type : (List Placed → Read TypeTree) → List Placed → Read TypeTree
point_type inner ts =
    let mutable = flag_at (is_word words.Mut) (flag_at is_lifetime ts).1 in
    inner mutable.1 >>= λ x. Some (Point mutable.0 x.0, x.1)

-- a type behind its name
abbrev pub named_type : (List Placed → Read TypeTree) → List ℕ → List Placed → Read TypeTree
named_type inner name ts =
    either (behind (is_mark marks.Less) ts)
    (λ us. arguments_at inner us >>= λ xs. Some (Named name (types_from xs.0), xs.1))
    (Some (Named name none, ts))

-- a type, where its parts are read so
abbrev pub type_form : (List Placed → Read TypeTree) → List Placed → Read TypeTree
type_form inner ts =
    either (behind (is_mark marks.Bang) ts) (λ rest. Some (Never, rest))
    (either (behind (is_mark marks.OpenRound) ts) (λ us. round_type inner us)
    (either (behind (is_mark marks.OpenSquare) ts) (λ us. square_type inner us)
    (either (behind (is_mark marks.Ampersand) ts) (λ us. point_type inner us)
    (token_at name_of ts >>= λ x. named_type inner x.0 x.1))))

-- a type of at most so many levels
unfoldable pub type_at : ℕ → List Placed → Read TypeTree
type_at zero ts = None
type_at (suc n) ts = type_form (type_at n) ts
