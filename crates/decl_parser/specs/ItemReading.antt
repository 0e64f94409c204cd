-- No meaning: a reading of items from left to right, which laws join to the grammar.
use Rattle.std.specs.Prelude.{List, Some}
use Rattle.decl_lexer.specs.declared.marks.Mark.TheVariants as marks
use Rattle.decl_lexer.specs.declared.words.Word.TheVariants as words
use Rattle.decl_lexer.specs.Lexing.{Placed}
use Rattle.decl_syntax.specs.Units.{behind, is_mark, is_word, token_at, name_of, from_of}
use Rattle.decl_syntax.specs.Reading.{◌>>=◌, either, Read}
use Rattle.decl_syntax.specs.RunReading.{attributes_at}
use Rattle.decl_syntax.specs.Items as trees
use Rattle.decl_syntax.specs.Items.{KindTree, ItemTree}
use Rattle.decl_parser.specs.DeclarationReading.{visibility_at, variants_at, struct_form_at, head_at, names_at}
use Rattle.decl_parser.specs.FunctionReading.{function_at}

-- an enum
unfoldable pub enum_at : List Placed → Read KindTree
enum_at ts =
    head_at words.Enum ts >>= λ n. behind (is_mark marks.OpenCurly) n.1 >>= λ us. variants_at us >>= λ x. Some (trees.Enum n.0 x.0, x.1)

-- a struct
unfoldable pub struct_at : List Placed → Read KindTree
struct_at ts = head_at words.Struct ts >>= λ n. struct_form_at n.1 >>= λ f. Some (trees.Struct n.0 f.0, f.1)

-- an import
unfoldable pub import_at : List Placed → Read KindTree
import_at ts =
    behind (is_word words.Use) ts >>= λ us. token_at name_of us >>= λ n. behind (is_mark marks.PathSeparator) n.1 >>= λ vs. names_at vs >>= λ x.
    behind (is_mark marks.Semicolon) x.1 >>= λ rest. Some (trees.Import n.0 x.0, rest)

-- a function with its name
unfoldable pub named_function_at : List Placed → Read KindTree
named_function_at ts = head_at words.Fn ts >>= λ n. function_at n.1 >>= λ b. Some (trees.Function n.0 b.0.param b.0.deref b.0.arms, b.1)

-- a kind of item
unfoldable pub kind_at : List Placed → Read KindTree
kind_at ts =
    either (behind (is_word words.Enum) ts) (λ us. enum_at ts)
    (either (behind (is_word words.Struct) ts) (λ us. struct_at ts)
    (either (behind (is_word words.Use) ts) (λ us. import_at ts) (named_function_at ts)))

-- an item
unfoldable pub item_at : List Placed → Read ItemTree
item_at ts =
    attributes_at ts >>= λ a. visibility_at a.1 >>= λ v. kind_at v.1 >>= λ k. Some (record { from = from_of ts; attrs = a.0; kind = k.0 }, k.1)
