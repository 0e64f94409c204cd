-- No meaning: a reading of declarations from left to right, which laws join to the grammar.
use Rattle.std.specs.Prelude.{ℕ, Bool, true, false, List, Option, Some, None, if◌then◌else◌}
use Rattle.decl_lexer.specs.declared.marks.Mark.TheVariants as marks
use Rattle.decl_lexer.specs.declared.words.Word.{Word}
use Rattle.decl_lexer.specs.declared.words.Word.TheVariants as words
use Rattle.decl_lexer.specs.Lexing.{Placed}
use Rattle.decl_syntax.specs.Units.{behind, is_mark, is_word, is_lifetime, token_at, name_of}
use Rattle.decl_syntax.specs.Reading.{◌>>=◌, either, Read, list_at, parts_at}
use Rattle.decl_syntax.specs.RunReading.{attributes_at}
use Rattle.decl_syntax.specs.TypeReading.{type_at}
use Rattle.decl_parser.specs.declared.runs.Until.TheVariants as until
use Rattle.decl_parser.specs.RunReading.{run_at}
use Rattle.decl_parser.specs.DeclarationGrammar.{is_scope, restricts, closing, ends_in_semicolon}
use Rattle.decl_syntax.specs.Items as trees
use Rattle.decl_syntax.specs.Items.{FieldItem, FormTree, Tuple, Brace, VariantTree}

-- a lifetime
abbrev pub lifetime_at : List Placed → Read (Unit {0})
lifetime_at ts = behind is_lifetime ts >>= λ rest. Some (tt, rest)

-- lifetimes with `+` between them
unfoldable pub bounds_at : List Placed → Read (List (Unit {0}))
bounds_at ts = parts_at marks.Plus lifetime_at ts

-- a parameter
unfoldable pub param_at : List Placed → Read (Unit {0})
param_at ts =
    behind is_lifetime ts >>= λ us. either (behind (is_mark marks.Colon) us) (λ vs. bounds_at vs >>= λ x. Some (tt, x.1)) (Some (tt, us))

-- parameters up to `>`
unfoldable pub param_list_at : List Placed → Read (List (Unit {0}))
param_list_at ts = list_at marks.Greater param_at ts

-- parameters, if they are there
unfoldable pub params_at : List Placed → Read Bool
params_at ts = either (behind (is_mark marks.Less) ts) (λ us. param_list_at us >>= λ x. Some (true, x.1)) (Some (false, ts))

-- what stands between the brackets of a visibility and the closing bracket, where `(` comes before it
unfoldable pub scope_at : List Placed → Read Bool
scope_at ts =
    either (behind (is_word words.In) ts) (λ us. run_at until.Bracket us >>= λ vs. behind (is_mark marks.CloseRound) vs >>= λ rest. Some (true, rest))
    (behind is_scope ts >>= λ us. behind (is_mark marks.CloseRound) us >>= λ rest. Some (true, rest))

-- behind `pub`
unfoldable pub restriction_at : List Placed → Read Bool
restriction_at ts =
    if restricts (behind (is_mark marks.OpenRound) ts) then (behind (is_mark marks.OpenRound) ts >>= λ us. scope_at us) else Some (true, ts)

-- a visibility, if it is there
unfoldable pub visibility_at : List Placed → Read Bool
visibility_at ts = either (behind (is_word words.Pub) ts) (λ us. restriction_at us) (Some (false, ts))

-- what stands before the type of a field
unfoldable pub label_at : Bool → List Placed → Read (Option (List ℕ))
label_at braced ts =
    if braced then (token_at name_of ts >>= λ x. behind (is_mark marks.Colon) x.1 >>= λ rest. Some (Some x.0, rest)) else Some (None, ts)

-- a field
unfoldable pub field_at : Bool → List Placed → Read FieldItem
field_at braced ts =
    attributes_at ts >>= λ a. visibility_at a.1 >>= λ v. label_at braced v.1 >>= λ n. type_at 64 n.1 >>= λ t.
    Some (record { name = n.0; attrs = a.0; type = t.0 }, t.1)

-- the fields up to the bracket that closes them
unfoldable pub fields_at : Bool → List Placed → Read (List FieldItem)
fields_at braced ts = list_at (closing braced) (field_at braced) ts

-- the form of a variant or struct
unfoldable pub form_at : List Placed → Read FormTree
form_at ts =
    either (behind (is_mark marks.OpenRound) ts) (λ us. fields_at false us >>= λ x. Some (Tuple x.0, x.1))
    (either (behind (is_mark marks.OpenCurly) ts) (λ us. fields_at true us >>= λ x. Some (Brace x.0, x.1)) (Some (trees.Unit, ts)))

-- the number of a variant, if it is there
unfoldable pub number_at : List Placed → Read Bool
number_at ts = either (behind (is_mark marks.Assign) ts) (λ us. run_at until.Comma us >>= λ rest. Some (true, rest)) (Some (false, ts))

-- a variant
unfoldable pub variant_at : List Placed → Read VariantTree
variant_at ts =
    attributes_at ts >>= λ a. token_at name_of a.1 >>= λ n. form_at n.1 >>= λ f. number_at f.1 >>= λ d.
    Some (record { name = n.0; attrs = a.0; form = f.0 }, d.1)

-- the variants of an enum
unfoldable pub variants_at : List Placed → Read (List VariantTree)
variants_at ts = list_at marks.CloseCurly variant_at ts

-- the form of a struct, with what ends it
unfoldable pub struct_form_at : List Placed → Read FormTree
struct_form_at ts =
    form_at ts >>= λ f.
    if ends_in_semicolon f.0 then (behind (is_mark marks.Semicolon) f.1 >>= λ rest. Some (f.0, rest)) else Some (f.0, f.1)

-- the keyword of an item, its name and its parameters
unfoldable pub head_at : Word → List Placed → Read (List ℕ)
head_at word ts = behind (is_word word) ts >>= λ us. token_at name_of us >>= λ n. params_at n.1 >>= λ p. Some (n.0, p.1)

-- names up to `}`
unfoldable pub name_list_at : List Placed → Read (List (List ℕ))
name_list_at ts = list_at marks.CloseCurly (token_at name_of) ts

-- what an import lists
unfoldable pub names_at : List Placed → Read (Option (List (List ℕ)))
names_at ts =
    either (behind (is_mark marks.Star) ts) (λ rest. Some (None, rest))
    (behind (is_mark marks.OpenCurly) ts >>= λ us. name_list_at us >>= λ x. Some (Some x.0, x.1))
