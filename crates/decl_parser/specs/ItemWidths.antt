-- How many parts the lists of an item have: at most 256 are allowed (our own choice).
use Rattle.std.specs.Prelude.{Bool, false, ◌||◌, List, [], ◌∷◌, length}
use Rattle.decl_syntax.specs.Widths.{are_many, type_is_wide, pattern_is_wide}
use Rattle.decl_syntax.specs.Items as trees
use Rattle.decl_syntax.specs.Items.{FieldItem, FormTree, VariantTree, ArmTree, KindTree, ItemTree}

-- whether some tuple in the type of some field has more than 256 parts
abbrev pub some_field_is_wide : List FieldItem → Bool
some_field_is_wide [] = false
some_field_is_wide (f ∷ fs) = type_is_wide f.type || some_field_is_wide fs

-- more than 256 fields, or such a type among them
abbrev pub fields_are_wide : List FieldItem → Bool
fields_are_wide fields = are_many (length fields) || some_field_is_wide fields

-- the same of a form
abbrev pub form_is_wide : FormTree → Bool
form_is_wide trees.Unit = false
form_is_wide (trees.Tuple fields) = fields_are_wide fields
form_is_wide (trees.Brace fields) = fields_are_wide fields

-- the same of the form of some variant
abbrev pub some_variant_is_wide : List VariantTree → Bool
some_variant_is_wide [] = false
some_variant_is_wide (v ∷ vs) = form_is_wide v.form || some_variant_is_wide vs

-- whether some list in the pattern of some arm has more than 256 items or fields
abbrev pub some_arm_is_wide : List ArmTree → Bool
some_arm_is_wide [] = false
some_arm_is_wide (a ∷ arms) = pattern_is_wide a.pattern || some_arm_is_wide arms

-- whether an item has more than 256 fields in a form, parts in a tuple type, or items or fields in one list of a pattern
abbrev pub kind_is_wide : KindTree → Bool
kind_is_wide (trees.Enum name variants) = some_variant_is_wide variants
kind_is_wide (trees.Struct name form) = form_is_wide form
kind_is_wide (trees.Import owner names) = false
kind_is_wide (trees.Function name param deref arms) = type_is_wide param || some_arm_is_wide arms

-- the same
abbrev pub item_is_wide : ItemTree → Bool
item_is_wide i = kind_is_wide i.kind
