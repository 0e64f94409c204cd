-- Witnesses as Rust writes patterns (the Rust Reference, "Patterns").
use Rattle.std.specs.Prelude.{ℕ, Bool, true, false, List, [], ◌∷◌, ◌++◌, Option, Some, None, codes}
use Rattle.decl_lexer.specs.Written.{written_name}
use Rattle.witness_text.specs.Literals.{string_literal}
use Rattle.witness_text.specs.declared.named.Style.{Style}
use Rattle.witness_text.specs.declared.named.Style.TheVariants.{Shown, Arm}
use Rattle.witness_text.specs.Arms.{ints_by, chars_by}
use Rattle.witness_text.specs.Trees.{NameTree, PlainName, VariantName, WitnessTree, Anything, Undeclared, OfFlag, OfInts, OfChars, OfText, OfOthers, OfTuple, OfUnitForm, OfTupleForm, OfBraceForm, OfPoint, OfRow, WitnessTrees, no_trees, more_trees, FieldTrees, no_fields, more_fields}

-- the name of a form; a name that is a keyword has `r#`
unfoldable pub name_text : NameTree → List ℕ
name_text (PlainName name) = written_name name
name_text (VariantName owner variant) = written_name owner ++ (codes "::" ++ written_name variant)

-- a truth value
abbrev pub flag_text : Bool → List ℕ
flag_text true = codes "true"
flag_text false = codes "false"

-- the texts with commas between them
abbrev pub joined : List (List ℕ) → List ℕ
joined [] = []
joined (t ∷ []) = t
joined (t ∷ u ∷ ts) = t ++ (codes ", " ++ joined (u ∷ ts))

-- what closes a tuple: behind a lone part stands a comma
abbrev pub tuple_end : List (List ℕ) → List ℕ
tuple_end (t ∷ []) = codes ",)"
tuple_end _ = codes ")"

-- a tuple of parts of these texts
abbrev pub tuple_text : List (List ℕ) → List ℕ
tuple_text ts = codes "(" ++ (joined ts ++ tuple_end ts)

-- parts in the brackets of a form
abbrev pub bracketed : List (List ℕ) → List ℕ
bracketed ts = codes "(" ++ (joined ts ++ codes ")")

-- fields in their braces
abbrev pub braced : List (List ℕ) → List ℕ
braced [] = codes " {}"
braced ts = codes " { " ++ (joined ts ++ codes " }")

-- a field: its name, and what stands for it
unfoldable pub field_text : (name text : List ℕ) → List ℕ
field_text name text = written_name name ++ (codes ": " ++ text)

-- what stands for items that are not shown
abbrev pub rest_texts : (longer : Bool) → List (List ℕ)
rest_texts true = codes ".." ∷ []
rest_texts false = []

-- a row of items of these texts
abbrev pub row_text : (front : List (List ℕ)) → (longer : Bool) → (back : List (List ℕ)) → List ℕ
row_text front longer back = codes "[" ++ (joined (front ++ (rest_texts longer ++ back)) ++ codes "]")

-- the text that a witness is, where it is one
abbrev pub text_of : WitnessTree → Option (List ℕ)
text_of (OfText t) = Some t
text_of _ = None

-- a reference to something of this text: behind `&` a text is its literal alone
abbrev pub point_text : (mutable : Bool) → (literal : Option (List ℕ)) → (text : List ℕ) → List ℕ
point_text true literal text = codes "&mut " ++ text
point_text false (Some t) text = string_literal t
point_text false None text = codes "&" ++ text

abbrev mutual
  -- the witness in the style; a text is what a literal refers to, so `*` stands in front
  pub text_by : Style → WitnessTree → List ℕ
  text_by style Anything = codes "_"
  text_by style Undeclared = codes "_"
  text_by style (OfFlag b) = flag_text b
  text_by style (OfInts kind r) = ints_by style kind r
  text_by style (OfChars low high) = chars_by style low high
  text_by style (OfText t) = codes "*" ++ string_literal t
  text_by style (OfOthers ts) = codes "_"
  text_by style (OfTuple ws) = tuple_text (parts_by style ws)
  text_by style (OfUnitForm name) = name_text name
  text_by style (OfTupleForm name ws) = name_text name ++ bracketed (parts_by style ws)
  text_by style (OfBraceForm name fs) = name_text name ++ braced (fields_by style fs)
  text_by style (OfPoint mutable w) = point_text mutable (text_of w) (text_by style w)
  text_by style (OfRow front longer back) = row_text (parts_by style front) longer (parts_by style back)

  -- the parts, each by itself
  pub parts_by : Style → WitnessTrees → List (List ℕ)
  parts_by style no_trees = []
  parts_by style (more_trees w ws) = text_by style w ∷ parts_by style ws

  -- the fields, each with its name
  pub fields_by : Style → FieldTrees → List (List ℕ)
  fields_by style no_fields = []
  fields_by style (more_fields name w fs) = field_text name (text_by style w) ∷ fields_by style fs

-- the witness as a report shows it
abbrev pub pattern_text : WitnessTree → List ℕ
pattern_text = text_by Shown

-- the pattern of an arm that takes what the witness shows
abbrev pub arm_text : WitnessTree → List ℕ
arm_text = text_by Arm
