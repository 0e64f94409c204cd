-- The form of what a path finds is that of the written item or variant.
use Rattle.std.proofs.Common.{◌≡◌, ℕ, Bool, List, [], ◌∷◌, map, Option, Some, None, refl, ap, ◌∙◌, suc, zero, arith}
use Rattle.std.specs.Prelude.{slice_get, option_map, is_some}
use Rattle.match_model.specs.declared.Width.{Width}
use Rattle.match_model.specs.Types.{MType, MOwner, DeclaredItem, OptionOwner, ResultOwner}
use Rattle.match_model.specs.Declarations.{MField, MVariant}
use Rattle.decl_syntax.specs.Patterns.{PathTree}
use Rattle.decl_syntax.specs.Items.{FormTree, Unit, VariantTree, KindTree, Enum, Struct, Import, Function, ItemTree}
use Rattle.decl_syntax.specs.Items as forms
use Rattle.type_names.specs.declared.meanings.FormKind.{FormKind}
use Rattle.type_names.specs.declared.meanings.FormKind.TheVariants as kinds
use Rattle.type_names.specs.declared.meanings.Owner.{Owner}
use Rattle.type_names.specs.declared.meanings.Owner.TheVariants as owners
use Rattle.type_names.specs.Finding.{FoundTree, FoundStruct, FoundVariant, path_finds, kind_form, struct_form, found_form, is_found}
use Rattle.type_names.specs.Imports.{form_kind, owner_variants, form_at, named_variant, item_variants}
use Rattle.type_names.specs.Meanings.{Means, means}
use Rattle.type_names.specs.Views.{owner_view}
use Rattle.type_names.specs.Written.{form_of, variant_of, kind_of}
use Rattle.type_names.proofs.FormLemmas.{target_has}
use Rattle.type_table.specs.declared.entries.VariantEntry.{VariantEntry}
use Rattle.type_table.specs.declared.entries.Entry.{Entry}
use Rattle.type_table.specs.declared.entries.Entry.TheVariants as entries
use Rattle.type_table.specs.declared.finding.Found.{Found}
use Rattle.type_table.specs.declared.table.TypeTable.{TypeTable}
use Rattle.type_table.specs.Entries.{Told, variant_entry, form_with, entry_told, item_told}
use Rattle.type_table.specs.Paths.{FoundIs, struct_entry_form, enum_entry_form, struct_form_by, variant_form_by, form_by}
use Rattle.type_table.specs.Readers.{type_owner}
use Rattle.type_table.specs.Tables.{IsTableOf, table_types}
use Rattle.type_table.proofs.ByValue.{mapped}
use Rattle.type_table.proofs.PathLemmas.{told_at, told_past}

form_kept : (names : Means) (k : FormKind) (fields : List MField) (form : FormTree) → form_with k fields ≡ form_of names form → k ≡ form_kind form
form_kept names kinds.Unit fields Unit e = refl
form_kept names kinds.Tuple fields (forms.Tuple fs) e = refl
form_kept names kinds.Brace fields (forms.Brace fs) e = refl
form_kept names _ fields _ e = absurd cc

struct_kept : (types : List MType) (names : Means) (marked : Bool) (e : Entry) (k : KindTree) → (entry_told types e).item ≡ kind_of names marked k → struct_entry_form (Some e) ≡ kind_form k
struct_kept types names marked (entries.Struct id v) (Struct name form) e =
    let same : (variant_entry types v).form ≡ form_of names form = cc in
    ap Some (form_kept names v.form _ form same)
struct_kept types names marked (entries.Struct id v) (Enum name vs) e = absurd cc
struct_kept types names marked (entries.Struct id v) (Import owner listed) e = absurd cc
struct_kept types names marked (entries.Struct id v) (Function name parameter deref arms) e = absurd cc
struct_kept types names marked (entries.Enum id n later ws) (Struct name form) e = absurd cc
struct_kept types names marked (entries.Function param d) (Struct name form) e = absurd cc
struct_kept types names marked entries.Import (Struct name form) e = absurd cc
struct_kept types names marked _ _ e = refl

variants_kept : (types : List MType) (names : Means) (ws : List VariantEntry) (vs : List VariantTree) (k : ℕ) → map (variant_entry types) ws ≡ map (variant_of names) vs →
    option_map {U = FormKind} (λ w. w.form) (slice_get ws k) ≡ option_map {U = FormKind} (λ v. v.1) (slice_get (map named_variant vs) k)
variants_kept types names [] [] k e = refl
variants_kept types names (w ∷ ws) (v ∷ vs) zero e =
    let same : variant_entry types w ≡ variant_of names v = cc in
    ap Some (form_kept names w.form _ v.form (ap (λ (x : MVariant). x.form) same))
variants_kept types names (w ∷ ws) (v ∷ vs) (suc k) e =
    let rest : map (variant_entry types) ws ≡ map (variant_of names) vs = cc in
    variants_kept types names ws vs k rest
variants_kept types names _ _ k e = absurd cc

enum_kept : (types : List MType) (names : Means) (marked : Bool) (e : Entry) (x : ItemTree) (kd : KindTree) (k : ℕ) → x.kind ≡ kd → (entry_told types e).item ≡ kind_of names marked kd →
    enum_entry_form (Some e) k ≡ option_map {U = FormKind} (λ v. v.1) (slice_get (map named_variant (item_variants (Some x))) k)
enum_kept types names marked (entries.Struct id v) x (Enum name vs) k is e = absurd cc
enum_kept types names marked (entries.Enum id n later ws) x (Struct name form) k is e = absurd cc
enum_kept types names marked (entries.Enum id n later ws) x (Enum name vs) k is e =
    let same : map (variant_entry types) ws.items ≡ map (variant_of names) vs = cc in
    rw is (variants_kept types names ws.items vs k same)
enum_kept types names marked (entries.Enum id n later ws) x (Import owner listed) k is e = absurd cc
enum_kept types names marked (entries.Enum id n later ws) x (Function name parameter deref arms) k is e = absurd cc
enum_kept types names marked (entries.Function param d) x (Enum name vs) k is e = absurd cc
enum_kept types names marked entries.Import x (Enum name vs) k is e = absurd cc
enum_kept types names marked _ x _ k is e = rw is refl

option_kept : (items : List ItemTree) (es : List Entry) (k : ℕ) → variant_form_by es owners.Option k ≡ form_at (owner_variants items OptionOwner) (Some k)
option_kept items es (suc (suc k)) = grind arith
option_kept items es _ = refl

result_kept : (items : List ItemTree) (es : List Entry) (k : ℕ) → variant_form_by es owners.Result k ≡ form_at (owner_variants items ResultOwner) (Some k)
result_kept items es (suc (suc k)) = grind arith
result_kept items es _ = refl

module _ (items : List ItemTree) (width : Width) (t : TypeTable) (is : IsTableOf items width t) where
  struct_forms : (i : ℕ) → struct_entry_form (slice_get t.items.items i) ≡ struct_form (slice_get items i)
  struct_forms i = by (slice_get items i) refl
    where
      by : (o : Option ItemTree) → slice_get items i ≡ o → struct_entry_form (slice_get t.items.items i) ≡ struct_form o
      by None at = ap struct_entry_form (told_past items width t is i at)
      by (Some x) at =
          let m = mapped (entry_told (table_types t)) t.items.items i (item_told (means items) i x) (ap (λ (ts : List Told). slice_get ts i) is.told ∙ told_at (means items) items i x at) in
          ap struct_entry_form m.1 ∙ struct_kept (table_types t) (means items) _ m.0 x.kind (ap (λ (y : Told). y.item) m.2)

  enum_forms : (i k : ℕ) → enum_entry_form (slice_get t.items.items i) k ≡ form_at (owner_variants items (DeclaredItem i)) (Some k)
  enum_forms i k = by (slice_get items i) refl
    where
      by : (o : Option ItemTree) → slice_get items i ≡ o → enum_entry_form (slice_get t.items.items i) k ≡ option_map {U = FormKind} (λ v. v.1) (slice_get (map named_variant (item_variants o)) k)
      by None at = ap (λ (o : Option Entry). enum_entry_form o k) (told_past items width t is i at)
      by (Some x) at =
          let m = mapped (entry_told (table_types t)) t.items.items i (item_told (means items) i x) (ap (λ (ts : List Told). slice_get ts i) is.told ∙ told_at (means items) items i x at) in
          ap (λ (o : Option Entry). enum_entry_form o k) m.1 ∙ enum_kept (table_types t) (means items) _ m.0 x x.kind k refl (ap (λ (y : Told). y.item) m.2)

  variant_forms : (owner : Owner) (k : ℕ) → variant_form_by t.items.items owner k ≡ form_at (owner_variants items (owner_view owner)) (Some k)
  variant_forms (owners.Item i) k = enum_forms i k
  variant_forms owners.Option k = option_kept items t.items.items k
  variant_forms owners.Result k = result_kept items t.items.items k

  pub form_is : (told : FoundTree) (found : Found) → FoundIs t told found → form_by t found ≡ found_form items told
  form_is (FoundStruct i) found h =
      ap (form_by t) h.1
      ∙ (ap (λ (ty : MType). struct_form_by t.items.items (type_owner ty)) h.3 ∙ struct_forms i)
  form_is (FoundVariant o k) found h =
      ap (form_by t) h.1
      ∙ (variant_forms h.0 k ∙ ap (λ (w : MOwner). form_at (owner_variants items w) (Some k)) h.2)
  form_is _ found h = ap (form_by t) h

  pub form_exact : (path : PathTree) (found : Found) → FoundIs t (path_finds items path) found → is_some (form_by t found) ≡ is_found (path_finds items path)
  form_exact path found h = target_has items path (path_finds items path) (form_by t found) (form_is (path_finds items path) found h) refl
