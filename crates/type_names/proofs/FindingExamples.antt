-- Worked examples of what paths find.
use Rattle.std.proofs.Common.{◌≡◌, ℕ, List, [], ◌∷◌, Some, None, refl}
use Rattle.std.specs.Prelude.{codes}
use Rattle.match_model.specs.Types.{DeclaredItem, OptionOwner, ResultOwner}
use Rattle.decl_syntax.specs.Items.{Unit, VariantTree, KindTree, Enum, Struct, Import, ItemTree}
use Rattle.type_names.specs.Meanings.{built_in}
use Rattle.type_names.specs.Finding.{FoundNothing, FoundTwice, FoundStruct, FoundVariant, names_find}

variant : List ℕ → VariantTree
variant name = record { name = name; attrs = []; form = Unit }

item : KindTree → ItemTree
item kind = record { from = 0; attrs = []; kind = kind }

-- struct S; enum E { A, B, None } enum F { B } use E::{A}; use E::*; use F::*; use E::*;
items : List ItemTree
items =
    item (Struct (codes "S") Unit) ∷
    item (Enum (codes "E") (variant (codes "A") ∷ variant (codes "B") ∷ variant (codes "None") ∷ [])) ∷
    item (Enum (codes "F") (variant (codes "B") ∷ [])) ∷
    item (Import (codes "E") (Some (codes "A" ∷ []))) ∷
    item (Import (codes "E") None) ∷
    item (Import (codes "F") None) ∷
    item (Import (codes "E") None) ∷ []

a_struct : names_find items (codes "S" ∷ []) ≡ FoundStruct 0
unfolding items item variant built_in
a_struct = refl

a_listed_variant : names_find items (codes "A" ∷ []) ≡ FoundVariant (DeclaredItem 1) 0
unfolding items item variant built_in
a_listed_variant = refl

a_variant_of_two_globs : names_find items (codes "B" ∷ []) ≡ FoundTwice
unfolding items item variant built_in
a_variant_of_two_globs = refl

a_glob_before_the_prelude : names_find items (codes "None" ∷ []) ≡ FoundVariant (DeclaredItem 1) 2
unfolding items item variant built_in
a_glob_before_the_prelude = refl

the_prelude : names_find items (codes "Err" ∷ []) ≡ FoundVariant ResultOwner 1
unfolding items item variant built_in
the_prelude = refl

nothing : names_find items (codes "C" ∷ []) ≡ FoundNothing
unfolding items item variant built_in
nothing = refl

a_path : names_find items (codes "F" ∷ codes "B" ∷ []) ≡ FoundVariant (DeclaredItem 2) 0
unfolding items item variant built_in
a_path = refl

a_built_in_path : names_find items (codes "Option" ∷ codes "Some" ∷ []) ≡ FoundVariant OptionOwner 1
unfolding items item variant built_in
a_built_in_path = refl

a_struct_has_no_variants : names_find items (codes "S" ∷ codes "A" ∷ []) ≡ FoundNothing
unfolding items item variant built_in
a_struct_has_no_variants = refl
