-- Worked examples: each form of pattern as the engine gets it, and its ways on one value or two (Rust Reference, Patterns).
use Rattle.std.proofs.Common.{◌≡◌, ℕ, true, false, List, [], ◌∷◌, codes, Some, None, refl, pos}
use Rattle.match_model.specs.declared.Width.TheVariants as w
use Rattle.match_model.specs.declared.Mode.{Mode}
use Rattle.match_model.specs.declared.Mode.TheVariants.{Move, Ref, RefMut}
use Rattle.match_model.specs.declared.IntKind.TheVariants as k
use Rattle.match_model.specs.Types as m
use Rattle.match_model.specs.Numbers.{MRange, closed}
use Rattle.match_model.specs.Values.{MValue, Flag, Num, Text, Node, Point, Row, values_of}
use Rattle.match_model.specs.Patterns.{TextPat}
use Rattle.match_model.specs.Ways.{Way, Binding, SpanMet, bare_way}
use Rattle.match_model.specs.ArenaWays.{arena_ways}
use Rattle.decl_syntax.specs.Types as t
use Rattle.decl_syntax.specs.Patterns as p
use Rattle.decl_syntax.specs.Items as i
use Rattle.type_names.specs.Meanings.{built_in}
use Rattle.pattern_rules.specs.declared.Edition.TheVariants as e
use Rattle.pattern_rules.specs.Settings.{Setting, program}
use Rattle.pattern_rules.specs.Nodes.{offset_of}
use Rattle.pattern_rules.specs.Resolved.{resolved}
use Rattle.pattern_rules.specs.Elaborated.{elaborated, standing_at}
use Rattle.pattern_rules.proofs.Sources.{path, field, variant, item, setting}

-- enum A { A0, A1(u8) } struct S(bool, A); struct T { a: bool, b: u8 } struct U;
abbrev here : Setting
here = setting (
    (item [] (i.Enum (codes "A") ((variant (codes "A0") i.Unit) ∷ (variant (codes "A1") (i.Tuple
    ((field None (t.Named (codes "u8") t.none)) ∷ []))) ∷ []))) ∷
    (item [] (i.Struct (codes "S") (i.Tuple ((field None (t.Named (codes "bool") t.none))
    ∷ (field None (t.Named (codes "A") t.none)) ∷ [])))) ∷
    (item [] (i.Struct (codes "T") (i.Brace ((field (Some (codes "a")) (t.Named (codes "bool") t.none))
    ∷ (field (Some (codes "b")) (t.Named (codes "u8") t.none)) ∷ [])))) ∷
    (item [] (i.Struct (codes "U") i.Unit)) ∷
    []) w.Endless e.E2024

-- the ways of an arm's pattern of this type
abbrev ways_of : m.MType → p.PatternTree → MValue → List Way
ways_of type q v = arena_ways (standing_at (offset_of q) (elaborated (program here) (resolved here type q) type Move)) v

abbrev enum_a : m.MType
enum_a = m.NamedType (m.DeclaredItem 0) m.no_types

abbrev struct_s : m.MType
struct_s = m.NamedType (m.DeclaredItem 1) m.no_types

abbrev struct_t : m.MType
struct_t = m.NamedType (m.DeclaredItem 2) m.no_types

abbrev struct_u : m.MType
struct_u = m.NamedType (m.DeclaredItem 3) m.no_types

abbrev byte : m.MType
byte = m.IntType k.U8

abbrev number : ℕ → p.Shape
number n = p.Literal (p.Int false (Some n) [])

abbrev end : ℕ → p.LitTree
end n = p.Int false (Some n) []

abbrev bound : List ℕ → Mode → MValue → Binding
bound name mode v = record { name = name; mode = mode; value = v }

abbrev met : ℕ → List ℕ → MRange → SpanMet
met at position range = record { at = at; position = position; range = range }

abbrev way : List ℕ → List Binding → List SpanMet → Way
way trace bindings spans = record { trace = trace; bindings = bindings; spans = spans }

-- `_`
wildcard : ways_of m.BoolType (p.At 0 p.Wild) (Flag true) ≡ bare_way ∷ []
unfolding built_in
wildcard = refl

-- `true`
flag : ways_of m.BoolType (p.At 0 (p.Literal (p.Flag true))) (Flag true) ≡ bare_way ∷ []
unfolding built_in
flag = refl

-- `7`, and another number
literal : ways_of byte (p.At 0 (number 7)) (Num (pos 7)) ≡ bare_way ∷ []
unfolding built_in
literal = refl

other_literal : ways_of byte (p.At 0 (number 7)) (Num (pos 8)) ≡ []
unfolding built_in
other_literal = refl

-- `'a'`
character : ways_of m.CharType (p.At 0 (p.Literal (p.Char 97))) (Num (pos 97)) ≡ bare_way ∷ []
unfolding built_in
character = refl

-- `"ab"` at `&str`, whose characters are these
string : arena_ways (elaborated (program here) (TextPat (97 ∷ 98 ∷ [])) (m.PointType false m.StrType) Move)
    (Point false (Text (97 ∷ 98 ∷ [])))
    ≡ bare_way ∷ []
unfolding built_in
string = refl

-- `2..=5`, with its offset
range : ways_of byte (p.At 3 (p.Range (Some (end 2)) (Some (end 5)) true)) (Num (pos 4))
    ≡ way [] [] (met 3 [] (closed (pos 2) (pos 5)) ∷ []) ∷ []
unfolding built_in
range = refl

-- `2..5` leaves its end out
exclusive : ways_of byte (p.At 3 (p.Range (Some (end 2)) (Some (end 5)) false)) (Num (pos 5)) ≡ []
unfolding built_in
exclusive = refl

-- `5..` at `u8`
open_range : ways_of byte (p.At 3 (p.Range (Some (end 5)) None false)) (Num (pos 255))
    ≡ way [] [] (met 3 [] (closed (pos 5) (pos 255)) ∷ []) ∷ []
unfolding built_in
open_range = refl

-- `x`
name : ways_of m.BoolType (p.At 0 (p.Name (codes "x"))) (Flag true)
    ≡ way [] (bound (codes "x") Move (Flag true) ∷ []) [] ∷ []
unfolding built_in
name = refl

-- `ref mut x`
name_by_reference : ways_of m.BoolType (p.At 0 (p.Bind (codes "x") true true)) (Flag true)
    ≡ way [] (bound (codes "x") RefMut (Flag true) ∷ []) [] ∷ []
unfolding built_in
name_by_reference = refl

-- `n @ 1..=2`
name_with_pattern : ways_of byte (p.At 0 (p.BindAs (codes "n") false false
    (p.At 4 (p.Range (Some (end 1)) (Some (end 2)) true)))) (Num (pos 2))
    ≡ way [] (bound (codes "n") Move (Num (pos 2)) ∷ []) (met 4 [] (closed (pos 1) (pos 2)) ∷ []) ∷ []
unfolding built_in
name_with_pattern = refl

-- `U`
unit_struct : ways_of struct_u (p.At 0 (p.Name (codes "U"))) (Node 0 (values_of [])) ≡ bare_way ∷ []
unfolding built_in
unit_struct = refl

-- `A::A0`
unit_variant : ways_of enum_a (p.At 0 (p.Path (path (codes "A" ∷ codes "A0" ∷ []) true))) (Node 0 (values_of []))
    ≡ bare_way ∷ []
unfolding built_in
unit_variant = refl

-- `A::A1(n)`, on that variant and on another
variant_of_parts : ways_of enum_a (p.At 0 (p.TupleForm (path (codes "A" ∷ codes "A1" ∷ []) true) (p.more
    (p.At 6 (p.Name (codes "n"))) p.none))) (Node 1 (values_of (Num (pos 3) ∷ [])))
    ≡ way [] (bound (codes "n") Move (Num (pos 3)) ∷ []) [] ∷ []
unfolding built_in
variant_of_parts = refl

other_variant : ways_of enum_a (p.At 0 (p.TupleForm (path (codes "A" ∷ codes "A1" ∷ []) true) (p.more
    (p.At 6 (p.Name (codes "n"))) p.none))) (Node 0 (values_of []))
    ≡ []
unfolding built_in
other_variant = refl

-- `S(.., A::A0)`
struct_with_rest : ways_of struct_s (p.At 0 (p.TupleForm (path (codes "S" ∷ []) true) (p.more
    (p.At 2 p.Rest) (p.more (p.At 6 (p.Path (path (codes "A" ∷ codes "A0" ∷ []) true))) p.none))))
    (Node 0 (values_of (Flag true ∷ Node 0 (values_of []) ∷ []))) ≡ bare_way ∷ []
unfolding built_in
struct_with_rest = refl

-- `T { b: 1, .. }`, which is not the first field
fields : ways_of struct_t (p.At 0 (p.Brace (path (codes "T" ∷ []) true) (p.and_field (codes "b") false []
    (p.At 7 (number 1)) p.no_field) true))
    (Node 0 (values_of (Flag true ∷ Num (pos 1) ∷ []))) ≡ bare_way ∷ []
unfolding built_in
fields = refl

-- `(.., 7..)`: the number stands in part 2
tuple_with_rest : ways_of (m.TupleType (m.more_types m.BoolType (m.more_types m.BoolType (m.more_types byte m.no_types))))
    (p.At 0 (p.Tuple (p.more (p.At 1 p.Rest) (p.more (p.At 5 (p.Range (Some (end 7)) None false)) p.none))))
    (Node 0 (values_of (Flag true ∷ Flag false ∷ Num (pos 9) ∷ [])))
    ≡ way [] [] (met 5 (2 ∷ []) (closed (pos 7) (pos 255)) ∷ []) ∷ []
unfolding built_in
tuple_with_rest = refl

-- `(true)`
group : ways_of m.BoolType (p.At 0 (p.Group (p.At 1 (p.Literal (p.Flag true))))) (Flag true) ≡ bare_way ∷ []
unfolding built_in
group = refl

-- `[1, ref r @ .., y]`: the name holds the items between
slice : ways_of (m.SliceType byte)
    (p.At 0 (p.Slice (p.more (p.At 1 (number 1)) (p.more (p.At 4 (p.BindAs (codes "r") true false
    (p.At 12 p.Rest))) (p.more (p.At 16 (p.Name (codes "y"))) p.none)))))
    (Row (values_of (Num (pos 1) ∷ Num (pos 2) ∷ Num (pos 3) ∷ Num (pos 4) ∷ [])))
    ≡ way [] (bound (codes "r") Ref (Row
    (values_of (Num (pos 2) ∷ Num (pos 3) ∷ []))) ∷ bound (codes "y") Move (Num (pos 4)) ∷ []) [] ∷ []
unfolding built_in
slice = refl

-- `[x]` at `[bool; 1]`
array : ways_of (m.ArrayType m.BoolType 1) (p.At 0 (p.Slice (p.more (p.At 1 (p.Name (codes "x"))) p.none)))
    (Row (values_of (Flag false ∷ [])))
    ≡ way [] (bound (codes "x") Move (Flag false) ∷ []) [] ∷ []
unfolding built_in
array = refl

-- `&x` at `&bool`
reference : ways_of (m.PointType false m.BoolType) (p.At 0 (p.Point false (p.At 1 (p.Name (codes "x")))))
    (Point false (Flag true))
    ≡ way [] (bound (codes "x") Move (Flag true) ∷ []) [] ∷ []
unfolding built_in
reference = refl

-- `S(x, _)` at `&mut S` and at `&&mut S`: what is bound is bound by reference
through_a_reference : ways_of (m.PointType true struct_s)
    (p.At 0 (p.TupleForm (path (codes "S" ∷ []) true) (p.more (p.At 2 (p.Name (codes "x"))) (p.more
    (p.At 5 p.Wild) p.none))))
    (Point true (Node 0 (values_of (Flag true ∷ Node 0 (values_of []) ∷ []))))
    ≡ way [] (bound (codes "x") RefMut (Flag true) ∷ []) [] ∷ []
unfolding built_in
through_a_reference = refl

through_references : ways_of (m.PointType false (m.PointType true struct_s))
    (p.At 0 (p.TupleForm (path (codes "S" ∷ []) true) (p.more (p.At 2 (p.Name (codes "x"))) (p.more
    (p.At 5 p.Wild) p.none))))
    (Point false (Point true (Node 0 (values_of (Flag true ∷ Node 0 (values_of []) ∷ [])))))
    ≡ way [] (bound (codes "x") Ref (Flag true) ∷ []) [] ∷ []
unfolding built_in
through_references = refl

-- `(1..=2)|2|_`: each alternative by its offset, in order
alternatives : ways_of byte (p.At 0 (p.Or (p.more (p.At 0 (p.Group
    (p.At 1 (p.Range (Some (end 1)) (Some (end 2)) true)))) (p.more (p.At 8 (number 2)) (p.more
    (p.At 10 p.Wild) p.none))))) (Num (pos 2))
    ≡ way (0 ∷ []) [] (met 1 [] (closed (pos 1) (pos 2)) ∷ []) ∷ way (8 ∷ []) [] [] ∷ way (10 ∷ []) [] [] ∷ []
unfolding built_in
alternatives = refl

-- `true|false`
abbrev either : p.PatternTree
either = p.At 7 (p.Or (p.more (p.At 7 (p.Literal (p.Flag true))) (p.more
    (p.At 12 (p.Literal (p.Flag false))) p.none)))

-- `S(x @ (true|false), _)`: alternatives inside a part
alternatives_within : ways_of struct_s
    (p.At 0 (p.TupleForm (path (codes "S" ∷ []) true) (p.more (p.At 2 (p.BindAs (codes "x") false false
    (p.At 6 (p.Group either)))) (p.more (p.At 20 p.Wild) p.none))))
    (Node 0 (values_of (Flag false ∷ Node 0 (values_of []) ∷ [])))
    ≡ way (12 ∷ []) (bound (codes "x") Move (Flag false) ∷ []) [] ∷ []
unfolding built_in
alternatives_within = refl
