-- What a path finds is what the table answers.
use Rattle.std.proofs.Common.{◌≡◌, ℕ, ◌+◌, ◌<◌, ◌^◌, Bool, true, cond, List, [], ◌∷◌, map, length, Option, Some, None, refl, sym, ap, subst, ◌∙◌, suc, zero, arith}
use Rattle.std.specs.Prelude.{slice_get, nat_lt, option_map, is_some}
use Rattle.std.specs.List.{enumerate_from}
use Rattle.std.proofs.lemmas.Bool.{ltb-true, and_parts, lt-ltb}
use Rattle.std.proofs.lemmas.List.{length-map}
use Rattle.std.proofs.lemmas.List.Elements.{recursion_from_All}
use Rattle.match_model.specs.declared.Width.{Width}
use Rattle.match_model.specs.Types.{MType, MOwner, DeclaredItem, NamedType, no_types}
use Rattle.match_model.specs.Declarations.{MItem}
use Rattle.decl_syntax.specs.Patterns.{PathTree}
use Rattle.decl_syntax.specs.Items.{KindTree, Enum, Struct, ItemTree}
use Rattle.type_names.specs.declared.meanings.FormKind.{FormKind}
use Rattle.type_names.specs.declared.meanings.Owner.{Owner}
use Rattle.type_names.specs.declared.targets.Target.{Target}
use Rattle.type_names.specs.declared.targets.Target.TheVariants as targets
use Rattle.type_names.specs.Finding.{FoundTree, FoundStruct, FoundVariant, path_finds, kind_form, struct_form}
use Rattle.type_names.specs.FindingViews.{target_view}
use Rattle.type_names.specs.Imports.{owner_variants, item_variants, kind_variants, form_at}
use Rattle.type_names.specs.Meanings.{Means, means}
use Rattle.type_names.specs.Views.{owner_view}
use Rattle.type_names.specs.Written.{kind_of, variant_of, item_of}
use Rattle.type_names.proofs.FormLemmas.{target_has}
use Rattle.type_table.specs.declared.entries.VariantEntry.{VariantEntry}
use Rattle.type_table.specs.declared.entries.Entry.{Entry}
use Rattle.type_table.specs.declared.entries.Entry.TheVariants as entries
use Rattle.type_table.specs.declared.finding.Found.TheVariants as founds
use Rattle.type_table.specs.declared.table.TypeTable.{TypeTable}
use Rattle.type_table.specs.Nodes.{type_at}
use Rattle.type_table.specs.Entries.{Told, entry_told, own_type, item_told, items_told, variant_below, entry_below}
use Rattle.type_table.specs.Paths.{FoundIs, struct_id, found_at, found_variant, answer}
use Rattle.type_table.specs.Known.{IsFew}
use Rattle.type_table.specs.Tables.{IsTableOf, table_types, count_of_item}
use Rattle.type_table.proofs.NodeLemmas.{get_below, map_has}
use Rattle.type_table.proofs.FieldLemmas.{all_at}
use Rattle.type_table.proofs.ByValue.{mapped}
use Rattle.type_table.proofs.SoundTypes.{holds_at}
use Rattle.type_table.proofs.FewParts.{none_few, entry_count_few}

numbered_at : {A : Type 0} (n i : ℕ) (xs : List A) (x : A) → slice_get xs i ≡ Some x → slice_get (enumerate_from n xs) i ≡ Some (n + i, x)
numbered_at n i [] x h = absurd cc
numbered_at {A} n zero (y ∷ ys) x h =
    let same : y ≡ x = cc in
    let none : n ≡ n + 0 = omega arith in
    ap (λ (z : A). Some (n, z)) same ∙ ap (λ (m : ℕ). Some (m, x)) none
numbered_at {A} n (suc i) (y ∷ ys) x h =
    let moved : (n + 1) + i ≡ n + suc i = omega arith in
    numbered_at (n + 1) i ys x h ∙ ap (λ (m : ℕ). Some (m, x)) moved

-- what the item with this number says
pub told_at : (names : Means) (items : List ItemTree) (i : ℕ) (x : ItemTree) → slice_get items i ≡ Some x → slice_get (items_told names items) i ≡ Some (item_told names i x)
told_at names items i x h =
    let none : 0 + i ≡ i = omega arith in
    map_has told (enumerate_from 0 items) i (0 + i, x) (numbered_at 0 i items x h) ∙ ap (λ (m : ℕ). Some (item_told names m x)) none
  where
    told : ℕ × ItemTree → Told
    told p = item_told names p.0 p.1

-- where there is no item there is no entry
pub told_past : (items : List ItemTree) (width : Width) (t : TypeTable) → IsTableOf items width t → (i : ℕ) → slice_get items i ≡ None → slice_get t.items.items i ≡ None
told_past items width t is i none = by (slice_get t.items.items i) refl
  where
    counted : (n : ℕ) (xs : List ItemTree) → length (enumerate_from n xs) ≡ length xs
    counted n [] = refl
    counted n (x ∷ xs) = ap suc (counted (n + 1) xs)

    same : length t.items.items ≡ length items
    same = sym (length-map _ _) ∙ (ap length is.told ∙ (length-map _ _ ∙ counted 0 items))

    by : (o : Option Entry) → slice_get t.items.items i ≡ o → o ≡ None
    by None e = refl
    by (Some e) at =
        let below : i < length t.items.items = get_below t.items.items i e at in
        absurd (past items i none (omega (arith, same)))
      where
        past : {A : Type 0} (xs : List A) (j : ℕ) → slice_get xs j ≡ None → j < length xs → ⊥
        past [] j e lt = absurd (omega arith)
        past (x ∷ xs) zero e lt = absurd cc
        past (x ∷ xs) (suc j) e lt = past xs j e (omega arith)

-- a struct's entry
abbrev StructAt : List MType → ℕ → Entry → Type 0
StructAt types i e = (id : ℕ) × (v : VariantEntry) × (e ≡ entries.Struct id v) × (type_at types id ≡ NamedType (DeclaredItem i) no_types)

struct_entry : (types : List MType) (names : Means) (i : ℕ) (marked : Bool) (k : KindTree) (e : Entry) → is_some (kind_form k) ≡ true →
    (entry_told types e).item ≡ kind_of names marked k → (entry_told types e).own ≡ own_type i k → StructAt types i e
struct_entry types names i marked (Struct name form) (entries.Struct id v) h same own = (id, v, refl, cc)
struct_entry types names i marked _ _ h same own = absurd cc

form_below : (vs : List (List ℕ × FormKind)) (k : ℕ) → is_some (form_at vs (Some k)) ≡ true → k < length vs
form_below vs k h = by (slice_get vs k) refl h
  where
    by : (o : Option (List ℕ × FormKind)) → slice_get vs k ≡ o → is_some (option_map {U = FormKind} (λ v. v.1) o) ≡ true → k < length vs
    by None e g = absurd cc
    by (Some v) e g = get_below vs k v e

-- an item that has few variants declares few
few_declared : (names : Means) (marked : Bool) (k : KindTree) → count_of_item (Some (kind_of names marked k)) < 4294967296 → length (kind_variants k) < 4294967296
few_declared names marked (Enum name variants) h =
    let count : length (map (variant_of names) variants) ≡ length variants = length-map _ _ in
    let lt : length (map (variant_of names) variants) < 4294967296 = h in
    omega (arith, count, lt)
few_declared names marked _ h = none_few

module _ (items : List ItemTree) (width : Width) (t : TypeTable) (is : IsTableOf items width t) (path : PathTree) where
  few_at : (i : ℕ) (o : Option ItemTree) → slice_get items i ≡ o → length (item_variants o) < 4294967296
  few_at i None at = none_few
  few_at i (Some x) at =
      let m = mapped (entry_told (table_types t)) t.items.items i (item_told (means items) i x) (ap (λ (ts : List Told). slice_get ts i) is.told ∙ told_at (means items) items i x at) in
      let few : IsFew m.0 = holds_at IsFew t.items.items (recursion_from_All IsFew t.items.items t.whole.few) i m.0 m.1 in
      let item : (entry_told (table_types t) m.0).item ≡ item_of (means items) x = ap (λ (y : Told). y.item) m.2 in
      few_declared (means items) _ x.kind (subst (λ (y : MItem). count_of_item (Some y) < 4294967296) item (entry_count_few (table_types t) m.0 few))

  -- an enum has few variants, as the table says
  few_variants : (o : MOwner) → length (owner_variants items o) < 4294967296
  few_variants (DeclaredItem i) = subst (λ (n : ℕ). n < 4294967296) (sym (length-map _ _)) (few_at i (slice_get items i) refl)
  few_variants _ = omega arith

  struct_answer : (i : ℕ) → FoundStruct i ≡ path_finds items path → FoundIs t (FoundStruct i) (answer t (targets.Struct i))
  struct_answer i e = by (slice_get items i) refl (target_has items path (FoundStruct i) (struct_form (slice_get items i)) refl e)
    where
      by : (o : Option ItemTree) → slice_get items i ≡ o → is_some (struct_form o) ≡ true → FoundIs t (FoundStruct i) (answer t (targets.Struct i))
      by None at h = absurd cc
      by (Some x) at h =
          let m = mapped (entry_told (table_types t)) t.items.items i (item_told (means items) i x) (ap (λ (ts : List Told). slice_get ts i) is.told ∙ told_at (means items) items i x at) in
          let s = struct_entry (table_types t) (means items) i _ x.kind m.0 h (ap (λ (y : Told). y.item) m.2) (ap (λ (y : Told). y.own) m.2) in
          let there : slice_get t.items.items i ≡ Some (entries.Struct s.0 s.1) = m.1 ∙ ap Some s.2 in
          let below = all_at (entry_below (length t.nodes.keys)) t.items.items i (entries.Struct s.0 s.1) t.whole.below there in (
            record { index = s.0 },
            ap (λ (o : Option Entry). found_at (struct_id o)) there,
            ltb-true s.0 (length t.nodes.keys) (and_parts (nat_lt s.0 (length t.nodes.keys)) (variant_below (length t.nodes.keys) s.1) below).0,
            s.3,
          )

  variant_answer : (owner : Owner) (k : ℕ) → FoundVariant (owner_view owner) k ≡ path_finds items path → FoundIs t (FoundVariant (owner_view owner) k) (found_variant owner k)
  variant_answer owner k e =
      let has = target_has items path (FoundVariant (owner_view owner) k) (form_at (owner_variants items (owner_view owner)) (Some k)) refl e in
      let below : k < length (owner_variants items (owner_view owner)) = form_below (owner_variants items (owner_view owner)) k has in
      let all : length (owner_variants items (owner_view owner)) < 4294967296 = few_variants (owner_view owner) in
      (owner, ap (λ (b : Bool). cond b (founds.Variant owner k) founds.Nothing) (lt-ltb k (2 ^ 32) (omega arith)), refl)

  pub answer_is : (target : Target) → target_view target ≡ path_finds items path → FoundIs t (path_finds items path) (answer t target)
  answer_is targets.Nothing e = subst (λ (f : FoundTree). FoundIs t f founds.Nothing) e refl
  answer_is targets.Twice e = subst (λ (f : FoundTree). FoundIs t f founds.Twice) e refl
  answer_is (targets.Struct i) e = subst (λ (f : FoundTree). FoundIs t f (answer t (targets.Struct i))) e (struct_answer i e)
  answer_is (targets.Variant owner k) e = subst (λ (f : FoundTree). FoundIs t f (found_variant owner k)) e (variant_answer owner k e)
