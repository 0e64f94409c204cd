-- Rules 10, 11, 12 and 18 on names.
use Rattle.std.specs.Prelude.{ℕ, Bool, true, false, ◌||◌, List, [], ◌∷◌, ◌++◌, map, filter, Option, Some, None, is_none}
use Rattle.std.specs.List.{list_any}
use Rattle.std.specs.Str.{bytes_eq}
use Rattle.match_model.specs.Types.{MOwner}
use Rattle.decl_syntax.specs.Items.{FormTree, Unit, KindTree, Enum, Struct, Import, Function, ItemTree}
use Rattle.decl_syntax.specs.Items as forms
use Rattle.type_names.specs.declared.meanings.FormKind.{FormKind}
use Rattle.type_names.specs.declared.meanings.FormKind.TheVariants as kinds
use Rattle.type_names.specs.Written.{field_name}
use Rattle.type_names.specs.Imports.{enum_of, variant_form, variant_number}

-- the name is one of these
abbrev pub is_among : List ℕ → List (List ℕ) → Bool
is_among name names = list_any (bytes_eq name) names

-- one of the names is among those before it
abbrev pub repeats : (before names : List (List ℕ)) → Bool
repeats before [] = false
repeats before (name ∷ names) = is_among name before || repeats (before ++ name ∷ []) names

-- the names that are listed, if any are
abbrev pub listed : Option (List (List ℕ)) → List (List ℕ)
listed (Some names) = names
listed None = []

-- the names that an enum, a struct or a list of imports takes
abbrev pub taken_names : KindTree → List (List ℕ)
taken_names (Enum name variants) = name ∷ []
taken_names (Struct name form) = name ∷ []
taken_names (Import owner names) = listed names
taken_names (Function name parameter deref arms) = []

-- the name of a function
abbrev pub function_names : KindTree → List (List ℕ)
function_names (Function name parameter deref arms) = name ∷ []
function_names _ = []

-- what has this form stands for a value or a function that makes one
abbrev pub is_value_form : Option FormKind → Bool
is_value_form (Some kinds.Unit) = true
is_value_form (Some kinds.Tuple) = true
is_value_form (Some kinds.Brace) = false
is_value_form None = false

-- the name of a struct of unit or tuple form
abbrev pub struct_value : List ℕ → FormTree → List (List ℕ)
struct_value name Unit = name ∷ []
struct_value name (forms.Tuple fields) = name ∷ []
struct_value name (forms.Brace fields) = []

-- the names of unit and tuple structs and of listed imports of unit and tuple variants
abbrev pub value_names : List ItemTree → KindTree → List (List ℕ)
value_names items (Struct name form) = struct_value name form
value_names items (Import owner (Some names)) = filter (λ n. is_value_form (variant_form items (enum_of items owner) n)) names
value_names items _ = []

-- all names of the items of one kind, in order
abbrev pub all_names : (KindTree → List (List ℕ)) → List ItemTree → List (List ℕ)
all_names names [] = []
all_names names (i ∷ items) = names i.kind ++ all_names names items

-- one of the names is among those
abbrev pub some_among : (names before : List (List ℕ)) → Bool
some_among names before = list_any (λ n. is_among n before) names

-- rule 10 against the names of types, functions and values of earlier items, in three ways: an enum, a struct or a listed import has the name of
-- an earlier one (`types`); a function has the name of an earlier function, or of a unit or tuple struct or a listed unit or tuple variant
-- (`values`); or one of those has the name of an earlier function
abbrev pub is_taken : List ItemTree → (types functions values : List (List ℕ)) → KindTree → Bool
is_taken all types functions values kind =
    repeats types (taken_names kind)
    || (some_among (function_names kind) functions
    || (some_among (function_names kind) values
    || some_among (value_names all kind) functions))

-- rule 10: a name of the item is taken by one before it: as a type, as a function where a function or a value has it, or as a
-- value where a function has it
abbrev pub is_named_twice : (all before : List ItemTree) → KindTree → Bool
is_named_twice all before kind =
    is_taken all (all_names taken_names before) (all_names function_names before) (all_names (value_names all) before) kind

-- rule 11: two variants of an enum have one name
abbrev pub has_variant_twice : KindTree → Bool
has_variant_twice (Enum name variants) = repeats [] (map (λ v. v.name) variants)
has_variant_twice _ = false

-- two fields of a form have one name
abbrev pub form_has_field_twice : FormTree → Bool
form_has_field_twice (forms.Brace fields) = repeats [] (map (λ f. field_name f.name) fields)
form_has_field_twice _ = false

-- rule 12: two fields of a struct or variant have one name
abbrev pub has_field_twice : KindTree → Bool
has_field_twice (Enum name variants) = list_any (λ v. form_has_field_twice v.form) variants
has_field_twice (Struct name form) = form_has_field_twice form
has_field_twice _ = false

-- one of the names is no variant of the enum
abbrev pub some_unlisted : List ItemTree → Option MOwner → Option (List (List ℕ)) → Bool
some_unlisted items None names = true
some_unlisted items (Some o) None = false
some_unlisted items (Some o) (Some names) = list_any (λ n. is_none (variant_number items o n)) names

-- rule 18: the name before `::` is no enum, or a listed name is no variant of it
abbrev pub is_bad_use : List ItemTree → KindTree → Bool
is_bad_use items (Import owner names) = some_unlisted items (enum_of items owner) names
is_bad_use items _ = false
