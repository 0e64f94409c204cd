-- Worked examples of what names and written types mean, and of rules that items break.
use Rattle.std.proofs.Common.{◌≡◌, ℕ, true, false, List, [], ◌∷◌, Some, None, refl}
use Rattle.std.specs.Prelude.{codes}
use Rattle.match_model.specs.declared.IntKind.TheVariants as ints
use Rattle.match_model.specs.Types.{DeclaredItem, OptionOwner, IntType, PointType, StrType, NamedType, no_types, more_types}
use Rattle.decl_syntax.specs.Types.{TypeTree, none, more}
use Rattle.decl_syntax.specs.Types as written
use Rattle.decl_syntax.specs.Items.{Unit, VariantTree, KindTree, Enum, Struct, Import, Function, ItemTree}
use Rattle.type_names.specs.Meanings.{declared_at, means, built_in}
use Rattle.type_names.specs.Written.{type_of, broken_type}
use Rattle.type_names.specs.TypeRules.{some_within, is_unknown, is_sizeless, is_miscounted}
use Rattle.type_names.specs.NameRules.{is_bad_use}
use Rattle.type_names.specs.Rules.{named_twice_at}

variant : List ℕ → VariantTree
variant name = record { name = name; attrs = []; form = Unit }

item : KindTree → ItemTree
item kind = record { from = 0; attrs = []; kind = kind }

named : List ℕ → TypeTree
named name = written.Named name none

-- struct S; enum E { A, B } use E::{A}; fn A(x: S) { match x {} }
items : List ItemTree
items =
    item (Struct (codes "S") Unit) ∷
    item (Enum (codes "E") (variant (codes "A") ∷ variant (codes "B") ∷ [])) ∷
    item (Import (codes "E") (Some (codes "A" ∷ []))) ∷
    item (Function (codes "A") (named (codes "S")) None []) ∷ []

second_is_E : declared_at items (codes "E") ≡ Some 1
unfolding items item variant
second_is_E = refl

S_is_the_struct : type_of (means items) true (named (codes "S")) ≡ NamedType (DeclaredItem 0) no_types
unfolding items item variant named
S_is_the_struct = refl

bytes_are_built_in : type_of (means items) true (written.Named (codes "Option") (more (named (codes "u8")) none)) ≡ NamedType OptionOwner (more_types (IntType ints.U8) no_types)
unfolding items item variant named built_in
bytes_are_built_in = refl

text_behind_a_reference : type_of (means items) true (written.Point false (named (codes "str"))) ≡ PointType false StrType
unfolding items item variant named built_in
text_behind_a_reference = refl

text_alone : (type_of (means items) true (named (codes "str")) ≡ broken_type) × (some_within (means items) (is_sizeless (means items)) true (named (codes "str")) ≡ true)
unfolding items item variant named built_in
text_alone = (refl, refl)

unknown_name : some_within (means items) (is_unknown (means items)) true (written.Tuple (more (named (codes "T")) none)) ≡ true
unfolding items item variant named built_in
unknown_name = refl

argument_missing : some_within (means items) (is_miscounted (means items)) true (named (codes "Box")) ≡ true
unfolding items item variant named built_in
argument_missing = refl

-- the function has the name of an imported unit variant
function_has_a_variants_name : named_twice_at items 3 ≡ true
unfolding items item variant named built_in
function_has_a_variants_name = refl

import_is_fine : named_twice_at items 2 ≡ false
unfolding items item variant named built_in
import_is_fine = refl

no_such_variant : is_bad_use items (Import (codes "E") (Some (codes "C" ∷ []))) ≡ true
unfolding items item variant named built_in
no_such_variant = refl

a_struct_has_no_variants : is_bad_use items (Import (codes "S") None) ≡ true
unfolding items item variant named built_in
a_struct_has_no_variants = refl
