-- Tokens and written items whose names are identifiers, as `IsName` says (the Rust Reference, "Identifiers").
use Rattle.std.specs.Prelude.{ℕ, List, Option, Some, None}
use Rattle.decl_lexer.specs.Begins.{Lexeme, Named}
use Rattle.decl_lexer.specs.Lexing.{Placed}
use Rattle.decl_syntax.specs.Items as trees
use Rattle.decl_syntax.specs.Items.{FieldItem, FormTree, Tuple, Brace, VariantTree, KindTree, Enum, Struct, Import}
use Rattle.decl_syntax.specs.Items.{Function, ItemTree}
use Rattle.match_model.specs.Lists.{Every}
use Rattle.value_syntax.specs.Canonical.{IsName}

-- if the token is a name, then its text is one
abbrev pub IsNamed : Lexeme → Type 0
IsNamed (Named text raw) = IsName text
IsNamed _ = Unit {0}

-- the same of a token with its place
abbrev pub IsTokenNamed : Placed → Type 0
IsTokenNamed t = IsNamed t.lexeme

-- there is a name, and it is one
abbrev pub IsGiven : Option (List ℕ) → Type 0
IsGiven (Some name) = IsName name
IsGiven None = ⊥

-- that of a field of a brace form
abbrev pub IsFieldNamed : FieldItem → Type 0
IsFieldNamed f = IsGiven f.name

-- those of the fields of a form; a tuple form has none
abbrev pub IsFormNamed : FormTree → Type 0
IsFormNamed trees.Unit = Unit {0}
IsFormNamed (Tuple fields) = Unit {0}
IsFormNamed (Brace fields) = Every IsFieldNamed fields

-- that of a variant, and those of its fields
abbrev pub IsVariantNamed : VariantTree → Type 0
IsVariantNamed v = IsName v.name × IsFormNamed v.form

-- those that an import lists
abbrev pub AreImportsNamed : Option (List (List ℕ)) → Type 0
AreImportsNamed (Some names) = Every IsName names
AreImportsNamed None = Unit {0}

-- that of an item, and those of its variants and fields; of an import the enum's name, and those that it lists
abbrev pub IsKindNamed : KindTree → Type 0
IsKindNamed (Enum name variants) = IsName name × Every IsVariantNamed variants
IsKindNamed (Struct name form) = IsName name × IsFormNamed form
IsKindNamed (Import owner names) = IsName owner × AreImportsNamed names
IsKindNamed (Function name param deref arms) = IsName name

-- the same, with the item's place
abbrev pub IsItemNamed : ItemTree → Type 0
IsItemNamed i = IsKindNamed i.kind
