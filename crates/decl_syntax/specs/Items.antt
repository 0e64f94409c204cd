-- Written items, without where they lie in memory (Rust Reference, Items).
use Rattle.std.specs.Prelude.{ℕ, Bool, List, Option, map, option_map}
use Rattle.std.specs.Rc.{rc_str_bytes}
use Rattle.decl_syntax.specs.Types.{TypeTree, type_view}
use Rattle.decl_syntax.specs.Patterns.{AttrTree, attr_view, PatternTree, pattern_view}
use Rattle.decl_syntax.specs.declared.items.File as declared_file
use Rattle.decl_syntax.specs.declared.items.Item as declared_item
use Rattle.decl_syntax.specs.declared.items.Variant as declared_variant
use Rattle.decl_syntax.specs.declared.items.Field as declared_field
use Rattle.decl_syntax.specs.declared.items.Arm as declared_arm
use Rattle.decl_syntax.specs.declared.items.Form.{Form}
use Rattle.decl_syntax.specs.declared.items.Form.TheVariants as forms
use Rattle.decl_syntax.specs.declared.items.ItemKind.{ItemKind}
use Rattle.decl_syntax.specs.declared.items.ItemKind.TheVariants as kinds

-- a field, with a name in a brace form
pub record FieldItem : Type 0 where
  pub name : Option (List ℕ)
  pub attrs : List AttrTree
  pub type : TypeTree

-- the fields of a struct or variant
pub data FormTree : Type 0 where
  Unit : FormTree
  Tuple : List FieldItem → FormTree
  Brace : List FieldItem → FormTree

-- a variant of an enum
pub record VariantTree : Type 0 where
  pub name : List ℕ
  pub attrs : List AttrTree
  pub form : FormTree

-- an arm of a match
pub record ArmTree : Type 0 where
  pub attrs : List AttrTree
  pub pattern : PatternTree
  pub guarded : Bool

-- what an item is: an enum and its variants; a struct and its form; the enum whose variants are imported, with their names or none for all;
-- a function, the type of its parameter, the place of `*` before its scrutinee, and its arms
pub data KindTree : Type 0 where
  Enum : List ℕ → List VariantTree → KindTree
  Struct : List ℕ → FormTree → KindTree
  Import : List ℕ → Option (List (List ℕ)) → KindTree
  Function : List ℕ → TypeTree → Option ℕ → List ArmTree → KindTree

-- an item with its place
pub record ItemTree : Type 0 where
  pub from : ℕ
  pub attrs : List AttrTree
  pub kind : KindTree

-- what a caller sees of each
abbrev pub field_view : declared_field.Field → FieldItem
field_view f = record { name = option_map rc_str_bytes f.name; attrs = map attr_view f.attrs.items; type = type_view f.ty }

abbrev pub form_view : Form → FormTree
form_view forms.Unit = Unit
form_view (forms.Tuple fields) = Tuple (map field_view fields.items)
form_view (forms.Brace fields) = Brace (map field_view fields.items)

abbrev pub variant_view : declared_variant.Variant → VariantTree
variant_view v = record { name = rc_str_bytes v.name; attrs = map attr_view v.attrs.items; form = form_view v.form }

abbrev pub arm_view : declared_arm.Arm → ArmTree
arm_view a = record { attrs = map attr_view a.attrs.items; pattern = pattern_view a.pat; guarded = a.guarded }

abbrev pub kind_view : ItemKind → KindTree
kind_view (kinds.Enum e) = Enum (rc_str_bytes e.name) (map variant_view e.variants.items)
kind_view (kinds.Struct s) = Struct (rc_str_bytes s.name) (form_view s.form)
kind_view (kinds.Import u) = Import (rc_str_bytes u.owner) (option_map (λ names. map rc_str_bytes names.items) u.names)
kind_view (kinds.Function f) = Function (rc_str_bytes f.name) (type_view f.param) f.deref (map arm_view f.arms.items)

abbrev pub item_view : declared_item.Item → ItemTree
item_view i = record { from = i.from; attrs = map attr_view i.attrs.items; kind = kind_view i.kind }

abbrev pub file_view : declared_file.File → List ItemTree
file_view f = map item_view f.items.items
