-- Rule 19 on attributes.
use Rattle.std.specs.Prelude.{Bool, false, ◌||◌, List, codes}
use Rattle.std.specs.List.{list_any}
use Rattle.std.specs.Str.{bytes_eq}
use Rattle.decl_syntax.specs.Patterns.{AttrTree, PatternTree, At, Shape, PatternTrees, FieldTrees, no_field, and_field, FieldTree}
use Rattle.decl_syntax.specs.Patterns as patterns
use Rattle.decl_syntax.specs.Items.{FormTree, Unit, VariantTree, ArmTree, KindTree, Enum, Struct, Import, Function, ItemTree}
use Rattle.decl_syntax.specs.Items as forms
use Rattle.type_names.specs.Written.{is_marked_by}

-- the attribute is `cfg` or `cfg_attr`
abbrev pub is_gate : AttrTree → Bool
is_gate a = bytes_eq a.word (codes "cfg") || bytes_eq a.word (codes "cfg_attr")

-- one of the attributes is `cfg` or `cfg_attr`
abbrev pub is_gated : List AttrTree → Bool
is_gated attrs = list_any is_gate attrs

-- the attributes may not stand on anything but an enum
abbrev pub is_unsupported : List AttrTree → Bool
is_unsupported attrs = is_gated attrs || is_marked_by attrs

abbrev mutual
  -- attributes that may not stand there are on a field of a brace pattern within the pattern
  pub pattern_unsupported : PatternTree → Bool
  pattern_unsupported (At from shape) = shape_unsupported shape

  -- the same of the pattern's form
  pub shape_unsupported : Shape → Bool
  shape_unsupported (patterns.BindAs name by_ref mutable p) = pattern_unsupported p
  shape_unsupported (patterns.TupleForm path ps) = some_unsupported ps
  shape_unsupported (patterns.Brace path fs rest) = fields_unsupported fs
  shape_unsupported (patterns.Tuple ps) = some_unsupported ps
  shape_unsupported (patterns.Group p) = pattern_unsupported p
  shape_unsupported (patterns.Slice ps) = some_unsupported ps
  shape_unsupported (patterns.Point mutable p) = pattern_unsupported p
  shape_unsupported (patterns.Or ps) = some_unsupported ps
  shape_unsupported _ = false

  -- in one of these patterns
  pub some_unsupported : PatternTrees → Bool
  some_unsupported patterns.none = false
  some_unsupported (patterns.more p ps) = pattern_unsupported p || some_unsupported ps

  -- on one of these fields, or in the pattern of one
  pub fields_unsupported : FieldTrees → Bool
  fields_unsupported no_field = false
  fields_unsupported (and_field name short attrs p fs) = is_unsupported attrs || (pattern_unsupported p || fields_unsupported fs)

-- such attributes are on a field of the form
abbrev pub form_unsupported : FormTree → Bool
form_unsupported Unit = false
form_unsupported (forms.Tuple fields) = list_any (λ f. is_unsupported f.attrs) fields
form_unsupported (forms.Brace fields) = list_any (λ f. is_unsupported f.attrs) fields

-- such attributes are on the variant or a field of it
abbrev pub variant_unsupported : VariantTree → Bool
variant_unsupported v = is_unsupported v.attrs || form_unsupported v.form

-- such attributes are on the arm or in its pattern
abbrev pub arm_unsupported : ArmTree → Bool
arm_unsupported a = is_unsupported a.attrs || pattern_unsupported a.pattern

-- such attributes are on the field of a brace pattern or in its pattern
abbrev pub field_unsupported : FieldTree → Bool
field_unsupported f = is_unsupported f.attrs || pattern_unsupported f.pattern

-- such attributes are on a part of the item
abbrev pub parts_unsupported : KindTree → Bool
parts_unsupported (Enum name variants) = list_any variant_unsupported variants
parts_unsupported (Struct name form) = form_unsupported form
parts_unsupported (Import owner names) = false
parts_unsupported (Function name parameter deref arms) = list_any arm_unsupported arms

-- the attributes of the item itself may not stand there
abbrev pub own_unsupported : KindTree → List AttrTree → Bool
own_unsupported (Enum name variants) attrs = is_gated attrs
own_unsupported _ attrs = is_unsupported attrs

-- rule 19: `cfg` or `cfg_attr` on the item, its parts or arms, or `non_exhaustive` on anything but an enum
abbrev pub has_unsupported : ItemTree → Bool
has_unsupported i = own_unsupported i.kind i.attrs || parts_unsupported i.kind
