-- Worked examples: what a report shows of some witnesses, byte for byte.
use Rattle.std.proofs.Common.{◌≡◌, refl, ℕ, true, false, List, [], ◌∷◌, Some, codes}
use Rattle.std.specs.Prelude.{pos, negsuc}
use Rattle.std.specs.Fmt.{digits}
use Rattle.serde_json.specs.Written.{compact_text}
use Rattle.serde_json.proofs.OnLiterals.{serde_json_on_literals}
use Rattle.match_model.specs.declared.IntKind.TheVariants.{U8, I8, U32, I128, U128, USize, ISize}
use Rattle.match_model.specs.Numbers.{MEnd, Free, At, MRange}
use Rattle.witness_text.specs.Literals.{escaped, string_literal}
use Rattle.witness_text.specs.Trees.{PlainName, VariantName, WitnessTree, Anything, Undeclared, OfFlag, OfInts, OfChars, OfText, OfOthers, OfTuple, OfUnitForm, OfTupleForm, OfBraceForm, OfPoint, OfRow, no_trees, trees_of, fields_of}
use Rattle.witness_text.specs.Texts.{name_text, field_text, pattern_text, arm_text}
use Rattle.witness_text.specs.Reported.{witness_data, overlap_data}

abbrev range : (low high : MEnd) → MRange
range low high = record { low = low; high = high }

abbrev reported : WitnessTree → List ℕ
reported w = compact_text (witness_data w)

-- a variant that is not declared yet, and anything
later : reported Undeclared ≡ codes "{\"text\":\"_\",\"tree\":[\"later\"]}"
unfolding serde_json_on_literals
later = refl

anything : reported Anything ≡ codes "{\"text\":\"_\",\"tree\":[\"any\"]}"
unfolding serde_json_on_literals
anything = refl

-- tuples: of two parts, of one, and of none
two_parts : reported (OfTuple (trees_of (OfFlag false ∷ OfFlag false ∷ []))) ≡ codes "{\"text\":\"(false, false)\",\"tree\":[\"node\",\"\",[[\"flag\",false],[\"flag\",false]]]}"
unfolding serde_json_on_literals
two_parts = refl

one_part : pattern_text (OfTuple (trees_of (Anything ∷ []))) ≡ codes "(_,)"
one_part = refl

no_part : pattern_text (OfTuple no_trees) ≡ codes "()"
no_part = refl

-- forms: a name alone, one that is a keyword, parts, no parts, named fields, no fields
nothing : reported (OfUnitForm (PlainName (codes "None"))) ≡ codes "{\"text\":\"None\",\"tree\":[\"node\",\"None\",[]]}"
unfolding serde_json_on_literals name_text
nothing = refl

keyword : reported (OfUnitForm (VariantName (codes "E") (codes "in"))) ≡ codes "{\"text\":\"E::r#in\",\"tree\":[\"node\",\"E::r#in\",[]]}"
unfolding serde_json_on_literals name_text
keyword = refl

some_flag : reported (OfTupleForm (PlainName (codes "Some")) (trees_of (OfFlag false ∷ []))) ≡ codes "{\"text\":\"Some(false)\",\"tree\":[\"node\",\"Some\",[[\"flag\",false]]]}"
unfolding serde_json_on_literals name_text
some_flag = refl

empty_form : pattern_text (OfTupleForm (PlainName (codes "S")) no_trees) ≡ codes "S()"
unfolding name_text
empty_form = refl

fields : pattern_text (OfBraceForm (VariantName (codes "Fault") (codes "Bad")) (fields_of (record { name = codes "at"; witness = Anything } ∷ record { name = codes "match"; witness = OfUnitForm (PlainName (codes "None")) } ∷ [])))
    ≡ codes "Fault::Bad { at: _, r#match: None }"
unfolding name_text field_text
fields = refl

no_fields_at_all : pattern_text (OfBraceForm (PlainName (codes "S")) (fields_of [])) ≡ codes "S {}"
unfolding name_text
no_fields_at_all = refl

-- ranges: one number, two ends, one end, none, and ends that no literal can be
one_number : reported (OfInts U32 (range (At (pos 4294967295)) (At (pos 4294967295)))) ≡ codes "{\"text\":\"4294967295\",\"tree\":[\"range\",\"4294967295\",\"4294967295\"]}"
unfolding serde_json_on_literals digits
one_number = refl

two_ends : reported (OfInts I8 (range (At (negsuc 127)) (At (pos 0)))) ≡ codes "{\"text\":\"-128..=0\",\"tree\":[\"range\",\"-128\",\"0\"]}"
unfolding serde_json_on_literals digits
two_ends = refl

low_end : reported (OfInts USize (range (At (pos 1)) Free)) ≡ codes "{\"text\":\"1..\",\"tree\":[\"range\",\"1\",null]}"
unfolding serde_json_on_literals digits
low_end = refl

high_end : pattern_text (OfInts ISize (range Free (At (negsuc 0)))) ≡ codes "..=-1"
unfolding digits
high_end = refl

no_end : pattern_text (OfInts ISize (range Free Free)) ≡ codes "_"
no_end = refl

greatest : pattern_text (OfInts USize (range (At (pos 18446744073709551615)) Free)) ≡ codes "18446744073709551615.."
unfolding digits
greatest = refl

above_all : reported (OfInts USize (range (At (pos 18446744073709551616)) Free)) ≡ codes "{\"text\":\"usize::MAX..\",\"tree\":[\"range\",\"18446744073709551616\",null]}"
unfolding serde_json_on_literals digits
above_all = refl

above_signed : pattern_text (OfInts ISize (range (At (pos 9223372036854775808)) Free)) ≡ codes "isize::MAX.."
above_signed = refl

below_all : reported (OfInts ISize (range Free (At (negsuc 9223372036854775808)))) ≡ codes "{\"text\":\"..isize::MIN\",\"tree\":[\"range\",null,\"-9223372036854775809\"]}"
unfolding serde_json_on_literals digits
below_all = refl

least : pattern_text (OfInts ISize (range Free (At (negsuc 9223372036854775807)))) ≡ codes "..=-9223372036854775808"
unfolding digits
least = refl

greatest_of_all : pattern_text (OfInts U128 (range (At (pos 340282366920938463463374607431768211455)) (At (pos 340282366920938463463374607431768211455)))) ≡ codes "340282366920938463463374607431768211455"
unfolding digits
greatest_of_all = refl

-- characters, which a tree tells by their scalar values
characters : reported (OfChars (Some 0) (Some 0xd7ff)) ≡ codes "{\"text\":\"'\\\\u{0}'..='\\\\u{d7ff}'\",\"tree\":[\"range\",\"0\",\"55295\"]}"
unfolding serde_json_on_literals digits escaped
characters = refl

one_character : reported (OfChars (Some 97) (Some 97)) ≡ codes "{\"text\":\"'a'\",\"tree\":[\"range\",\"97\",\"97\"]}"
unfolding serde_json_on_literals digits escaped
one_character = refl

quotes : pattern_text (OfChars (Some 34) (Some 39)) ≡ codes "'\"'..='\\''"
unfolding escaped
quotes = refl

ends_of_plain : pattern_text (OfChars (Some 126) (Some 127)) ≡ codes "'~'..='\\u{7f}'"
unfolding escaped digits
ends_of_plain = refl

-- texts: the scrutinee, behind `&`, behind `&mut`; a quote, a backslash, a line end, an `é`
scrutinee : reported (OfText (codes "a")) ≡ codes "{\"text\":\"*\\\"a\\\"\",\"tree\":[\"text\",\"a\"]}"
unfolding serde_json_on_literals escaped
scrutinee = refl

shared : reported (OfPoint false (OfText (codes "a"))) ≡ codes "{\"text\":\"\\\"a\\\"\",\"tree\":[\"point\",\"&\",[\"text\",\"a\"]]}"
unfolding serde_json_on_literals escaped
shared = refl

exclusive : reported (OfPoint true (OfText (codes "a"))) ≡ codes "{\"text\":\"&mut *\\\"a\\\"\",\"tree\":[\"point\",\"&mut\",[\"text\",\"a\"]]}"
unfolding serde_json_on_literals escaped
exclusive = refl

escapes : string_literal (34 ∷ 39 ∷ 92 ∷ 10 ∷ 233 ∷ []) ≡ codes "\"\\\"'\\\\\\u{a}\\u{e9}\""
unfolding escaped digits
escapes = refl

others : reported (OfPoint false (OfOthers (codes "fn" ∷ codes "let" ∷ []))) ≡ codes "{\"text\":\"&_\",\"tree\":[\"point\",\"&\",[\"else\",[\"fn\",\"let\"]]]}"
unfolding serde_json_on_literals
others = refl

-- references and rows
behind : pattern_text (OfPoint false (OfInts U8 (range (At (pos 0)) (At (pos 5))))) ≡ codes "&0..=5"
unfolding digits
behind = refl

behind_two : pattern_text (OfPoint true (OfPoint false (OfText []))) ≡ codes "&mut \"\""
behind_two = refl

longer_row : reported (OfPoint false (OfRow (trees_of (OfFlag false ∷ [])) true (trees_of (OfFlag true ∷ []))))
    ≡ codes "{\"text\":\"&[false, .., true]\",\"tree\":[\"point\",\"&\",[\"row\",[[\"flag\",false]],true,[[\"flag\",true]]]]}"
unfolding serde_json_on_literals
longer_row = refl

any_row : pattern_text (OfRow no_trees true no_trees) ≡ codes "[..]"
any_row = refl

row_of_two : reported (OfRow (trees_of (Anything ∷ OfFlag true ∷ [])) false no_trees) ≡ codes "{\"text\":\"[_, true]\",\"tree\":[\"row\",[[\"any\"],[\"flag\",true]],false,[]]}"
unfolding serde_json_on_literals
row_of_two = refl

empty_row : pattern_text (OfRow no_trees false no_trees) ≡ codes "[]"
empty_row = refl

-- patterns of arms: one number, several behind a reference, one character, several; and what lies beyond every literal
arm_number : arm_text (OfInts U8 (range (At (pos 7)) (At (pos 7)))) ≡ codes "7"
unfolding digits
arm_number = refl

arm_numbers : arm_text (OfPoint false (OfInts I8 (range (At (negsuc 127)) (At (negsuc 0))))) ≡ codes "&(-128..=-1)"
unfolding digits
arm_numbers = refl

arm_character : arm_text (OfTuple (trees_of (OfChars (Some 97) (Some 97) ∷ []))) ≡ codes "('a',)"
unfolding escaped
arm_character = refl

arm_characters : arm_text (OfChars (Some 97) (Some 122)) ≡ codes "('a'..='z')"
unfolding escaped
arm_characters = refl

arm_above_all : arm_text (OfInts USize (range (At (pos 18446744073709551616)) Free)) ≡ codes "(18446744073709551615..)"
arm_above_all = refl

arm_above_signed : arm_text (OfInts ISize (range (At (pos 9223372036854775808)) Free)) ≡ codes "(9223372036854775807..)"
arm_above_signed = refl

arm_below_all : arm_text (OfInts ISize (range Free (At (negsuc 9223372036854775808)))) ≡ codes "(..=-9223372036854775808)"
arm_below_all = refl

arm_low : arm_text (OfInts I128 (range (At (negsuc 9223372036854775809)) (At (negsuc 9223372036854775808))))
    ≡ codes "(-9223372036854775810..=-9223372036854775809)"
unfolding digits
arm_low = refl

-- an overlap
overlap : compact_text (overlap_data 19 27 (negsuc 4)) ≡ codes "{\"at\":19,\"value\":\"-5\",\"with\":27}"
unfolding serde_json_on_literals digits
overlap = refl
