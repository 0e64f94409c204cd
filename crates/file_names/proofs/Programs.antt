-- The names of what a file declares are those of its items.
use Rattle.std.proofs.Common.{◌≡◌, ℕ, zero, suc, Bool, List, [], ◌∷◌, Option, Some, None, subst}
use Rattle.std.specs.Prelude.{map, slice_get}
use Rattle.decl_syntax.specs.Items as trees
use Rattle.decl_syntax.specs.Items.{FieldItem, FormTree, Tuple, Brace, VariantTree, KindTree, Enum, Struct, Import}
use Rattle.decl_syntax.specs.Items.{Function, ItemTree}
use Rattle.decl_syntax.proofs.Joined.{some_is}
use Rattle.match_model.specs.Declarations.{MItem}
use Rattle.match_model.specs.Lists.{Every}
use Rattle.type_names.specs.Meanings.{Means, means}
use Rattle.type_names.specs.Written.{field_name, field_of, form_of, variant_of, is_marked_by, kind_of, item_of}
use Rattle.value_syntax.specs.Canonical.{IsName}
use Rattle.file_names.specs.Items.{IsGiven, IsFieldNamed, IsFormNamed, IsVariantNamed, IsKindNamed, IsItemNamed}
use Rattle.file_names.specs.Laws.{ProgramNamesAreNames}
use Rattle.file_names.specs.Named.{AreFieldNames, IsNamedForm, AreNamedVariants, IsNamedItem}
use Rattle.file_names.proofs.Declared.{item_names_are_names}

module _ (names : Means) where
  given_name : (o : Option (List ℕ)) → IsGiven o → IsName (field_name o)
  given_name (Some name) h = h
  given_name None h = absurd h

  fields_declared : (fs : List FieldItem) → Every IsFieldNamed fs → AreFieldNames (map (field_of names) fs)
  fields_declared [] h = tt
  fields_declared (f ∷ fs) h = (given_name f.name h.0, fields_declared fs h.1)

  form_declared : (form : FormTree) → IsFormNamed form → IsNamedForm (form_of names form)
  form_declared trees.Unit h = tt
  form_declared (Tuple fields) h = tt
  form_declared (Brace fields) h = fields_declared fields h

  variants_declared : (vs : List VariantTree) → Every IsVariantNamed vs → AreNamedVariants (map (variant_of names) vs)
  variants_declared [] h = tt
  variants_declared (v ∷ vs) h = ((h.0.0, form_declared v.form h.0.1), variants_declared vs h.1)

  kind_declared : (marked : Bool) (kind : KindTree) → IsKindNamed kind → IsNamedItem (kind_of names marked kind)
  kind_declared marked (Enum name variants) h = (h.0, variants_declared variants h.1)
  kind_declared marked (Struct name form) h = (h.0, form_declared form h.1)
  kind_declared marked (Import owner imports) h = tt
  kind_declared marked (Function name param deref arms) h = tt

  item_declared : (xs : List ItemTree) → Every IsItemNamed xs → (i : ℕ) (item : MItem)
      → slice_get (map (item_of names) xs) i ≡ Some item → IsNamedItem item
  item_declared [] h i item e = absurd cc
  item_declared (x ∷ xs) h zero item e =
      subst IsNamedItem (some_is (item_of names x) item e) (kind_declared (is_marked_by x.attrs) x.kind h.0)
  item_declared (x ∷ xs) h (suc i) item e = item_declared xs h.1 i item e

pub program_names_are_names : ProgramNamesAreNames
program_names_are_names bytes tokens items width h f =
    item_declared (means items) items (item_names_are_names bytes tokens items h f)
