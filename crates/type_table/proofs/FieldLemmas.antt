-- The fields of types of a table.
use Rattle.std.proofs.Common.{◌≡◌, ℕ, Bool, true, false, cond, List, [], ◌∷◌, map, length, Option, Some, None, refl, sym, ap, ◌∙◌, suc, zero, arith}
use Rattle.std.specs.Prelude.{slice_get, nat_lt, nat_eq, option_map}
use Rattle.std.specs.List.{list_all}
use Rattle.std.proofs.lemmas.Bool.{and_parts}
use Rattle.match_model.specs.declared.IntKind.{IntKind}
use Rattle.match_model.specs.declared.IntKind.TheVariants as ints
use Rattle.match_model.specs.Types.{MType, BoolType, CharType, StrType, NeverType, IntType, TupleType, OptionOwner, ResultOwner, NamedType, no_types, more_types, types_list, types_of}
use Rattle.match_model.specs.Declarations.{MProgram, variant_types, form_types, variants_of}
use Rattle.type_names.specs.declared.meanings.Base.{Base}
use Rattle.type_names.specs.declared.meanings.Base.TheVariants as bases
use Rattle.type_names.specs.declared.meanings.FormKind.{FormKind}
use Rattle.type_names.specs.declared.meanings.FormKind.TheVariants as form_kinds
use Rattle.type_names.specs.Views.{base_view}
use Rattle.type_names.proofs.Variants.{get_map}
use Rattle.type_table.specs.declared.entries.VariantEntry.{VariantEntry}
use Rattle.type_table.specs.declared.entries.FieldEntry.{FieldEntry}
use Rattle.type_table.specs.Nodes.{type_at}
use Rattle.type_table.specs.Entries.{variant_entry, field_entry, form_with}
use Rattle.type_table.specs.Tables.{field_type, fields_of_type, type_variant, variant_name_of, field_name_of, part_of, field_number, number_with}
use Rattle.type_table.specs.Readers.{type_owner, behind}
use Rattle.type_table.specs.Readings.{tuple_part, option_part, result_part, part_type}
use Rattle.type_table.proofs.TypeNodes.{list_back}

-- what holds of each type without arguments
pub base_cases : (P : MType → Type 0) → P BoolType → P CharType → P StrType → P NeverType → ((kind : IntKind) → P (IntType kind)) → (b : Base) → P (base_view b)
base_cases P bool char str never int bases.Bool = bool
base_cases P bool char str never int bases.Char = char
base_cases P bool char str never int bases.Str = str
base_cases P bool char str never int bases.Never = never
base_cases P bool char str never int bases.U8 = int ints.U8
base_cases P bool char str never int bases.U16 = int ints.U16
base_cases P bool char str never int bases.U32 = int ints.U32
base_cases P bool char str never int bases.U64 = int ints.U64
base_cases P bool char str never int bases.U128 = int ints.U128
base_cases P bool char str never int bases.USize = int ints.USize
base_cases P bool char str never int bases.I8 = int ints.I8
base_cases P bool char str never int bases.I16 = int ints.I16
base_cases P bool char str never int bases.I32 = int ints.I32
base_cases P bool char str never int bases.I64 = int ints.I64
base_cases P bool char str never int bases.I128 = int ints.I128
base_cases P bool char str never int bases.ISize = int ints.ISize

pub base_field : (program : MProgram) (b : Base) (k i : ℕ) → None ≡ field_type program (base_view b) k i
base_field program b k i = base_cases (λ t. None ≡ field_type program t k i) refl refl refl refl (λ kind. refl) b

pub no_zero : (k : ℕ) → nat_eq (suc k) 0 ≡ false
no_zero k = grind arith

no_one : (k : ℕ) → nat_eq (suc (suc k)) 1 ≡ false
no_one k = grind arith

not_two : (k : ℕ) → nat_lt (suc (suc k)) 2 ≡ false
not_two k = grind arith

-- what holds of each item holds of one
pub all_at : {A : Type 0} (p : A → Bool) (xs : List A) (i : ℕ) (x : A) → list_all p xs ≡ true → slice_get xs i ≡ Some x → p x ≡ true
all_at p [] i x all at = absurd cc
all_at p (y ∷ ys) zero x all at =
    let same : y ≡ x = cc in
    ap p (sym same) ∙ (and_parts (p y) (list_all p ys) all).0
all_at p (y ∷ ys) (suc i) x all at = all_at p ys i x (and_parts (p y) (list_all p ys) all).1 at

pub tuple_field : (program : MProgram) (parts : List MType) (k i : ℕ) → part_type parts (tuple_part k i) ≡ field_type program (TupleType (types_of parts)) k i
tuple_field program parts zero i = ap (λ (ts : List MType). slice_get ts i) (sym (list_back parts))
tuple_field program parts (suc k) i = rw (no_zero k) refl

pub option_field : (program : MProgram) (parts : List MType) (k i : ℕ) → length parts ≡ 1 → part_type parts (option_part k i) ≡ field_type program (NamedType OptionOwner (types_of parts)) k i
option_field program (t ∷ []) zero i e = refl
option_field program (t ∷ []) (suc zero) zero e = refl
option_field program (t ∷ []) (suc zero) (suc i) e = rw (no_zero i) refl
option_field program (t ∷ []) (suc (suc k)) i e = rw (no_one k) refl
option_field program _ k i e = absurd (omega (arith, e))

pub result_field : (program : MProgram) (parts : List MType) (k i : ℕ) → length parts ≡ 2 → part_type parts (result_part k i) ≡ field_type program (NamedType ResultOwner (types_of parts)) k i
result_field program (t ∷ u ∷ []) zero zero e = refl
result_field program (t ∷ u ∷ []) zero (suc i) e = rw (no_zero i) refl
result_field program (t ∷ u ∷ []) (suc zero) zero e = refl
result_field program (t ∷ u ∷ []) (suc zero) (suc i) e = rw (no_zero i) refl
result_field program (t ∷ u ∷ []) (suc (suc k)) i e = rw (not_two k) refl
result_field program _ k i e = absurd (omega (arith, e))

-- the type of a field of a variant, by its number
pub entry_field : (types : List MType) (v : VariantEntry) (i : ℕ) → option_map (type_at types) (field_number v i) ≡ part_of (variant_types (Some (variant_entry types v))) i
entry_field types v i = by v.form
  where
    twice : (o : Option FieldEntry) → option_map (type_at types) (option_map (λ f. f.ty) o) ≡ option_map {U = MType} (λ f. (field_entry types f).type) o
    twice None = refl
    twice (Some f) = refl

    map_map : (fs : List FieldEntry) → map (λ f. f.type) (map (field_entry types) fs) ≡ map {B = MType} (λ f. (field_entry types f).type) fs
    map_map [] = refl
    map_map (f ∷ fs) = ap (λ ts. type_at types f.ty ∷ ts) (map_map fs)

    listed : option_map (type_at types) (option_map (λ f. f.ty) (slice_get v.fields.items i)) ≡ slice_get (types_list (types_of (map (λ f. f.type) (map (field_entry types) v.fields.items)))) i
    listed =
        twice (slice_get v.fields.items i)
        ∙ (sym (get_map (λ f. (field_entry types f).type) v.fields.items i)
        ∙ (ap (λ (ts : List MType). slice_get ts i) (sym (map_map v.fields.items))
        ∙ ap (λ (ts : List MType). slice_get ts i) (sym (list_back (map (λ f. f.type) (map (field_entry types) v.fields.items))))))

    by : (k : FormKind) → option_map (type_at types) (number_with k (option_map (λ f. f.ty) (slice_get v.fields.items i))) ≡ part_of (Some (form_types (form_with k (map (field_entry types) v.fields.items)))) i
    by form_kinds.Unit = refl
    by _ = listed

pub base_owner : (b : Base) → None ≡ type_owner (base_view b)
base_owner b = base_cases (λ t. None ≡ type_owner t) refl refl refl refl (λ kind. refl) b

pub base_behind : (b : Base) → None ≡ behind (base_view b)
base_behind b = base_cases (λ t. None ≡ behind t) refl refl refl refl (λ kind. refl) b

-- a type that is not named has no variants
pub no_variants : (program : MProgram) (t : MType) → None ≡ type_owner t → [] ≡ variants_of program t
no_variants program (NamedType o args) e = absurd cc
no_variants program _ e = refl

-- the names of the variants of the built-in enums, with their arguments right
pub option_named : (program : MProgram) (parts : List MType) (k : ℕ) (name : Option (List ℕ)) → length parts ≡ 1 →
    ((t : MType) → name ≡ variant_name_of (type_variant program (NamedType OptionOwner (more_types t no_types)) k)) → name ≡ variant_name_of (type_variant program (NamedType OptionOwner (types_of parts)) k)
option_named program (t ∷ []) k name e h = h t
option_named program _ k name e h = absurd (omega (arith, e))

pub result_named : (program : MProgram) (parts : List MType) (k : ℕ) (name : Option (List ℕ)) → length parts ≡ 2 →
    ((t u : MType) → name ≡ variant_name_of (type_variant program (NamedType ResultOwner (more_types t (more_types u no_types))) k)) → name ≡ variant_name_of (type_variant program (NamedType ResultOwner (types_of parts)) k)
result_named program (t ∷ u ∷ []) k name e h = h t u
result_named program _ k name e h = absurd (omega (arith, e))

-- their fields have no names
pub option_unnamed : (program : MProgram) (parts : List MType) (k i : ℕ) → length parts ≡ 1 → None ≡ field_name_of (type_variant program (NamedType OptionOwner (types_of parts)) k) i
option_unnamed program [] k i e = absurd (omega (arith, e))
option_unnamed program (t ∷ u ∷ ts) k i e = absurd (omega (arith, e))
option_unnamed program (t ∷ []) zero i e = refl
option_unnamed program (t ∷ []) (suc zero) i e = refl
option_unnamed program (t ∷ []) (suc (suc k)) i e = refl

pub result_unnamed : (program : MProgram) (parts : List MType) (k i : ℕ) → length parts ≡ 2 → None ≡ field_name_of (type_variant program (NamedType ResultOwner (types_of parts)) k) i
result_unnamed program [] k i e = absurd (omega (arith, e))
result_unnamed program (t ∷ []) k i e = absurd (omega (arith, e))
result_unnamed program (t ∷ u ∷ w ∷ ts) k i e = absurd (omega (arith, e))
result_unnamed program (t ∷ u ∷ []) zero i e = refl
result_unnamed program (t ∷ u ∷ []) (suc zero) i e = refl
result_unnamed program (t ∷ u ∷ []) (suc (suc k)) i e = refl

pub base_fields : (program : MProgram) (b : Base) (k : ℕ) → 0 ≡ fields_of_type program (base_view b) k
base_fields program b k = base_cases (λ t. 0 ≡ fields_of_type program t k) refl refl refl refl (λ kind. refl) b

-- how many fields the variants of tuples and built-in enums have
pub tuple_count : (program : MProgram) (parts : List MType) (k n : ℕ) → n ≡ cond (nat_eq k 0) (length parts) 0 → n ≡ fields_of_type program (TupleType (types_of parts)) k
tuple_count program parts zero n e = e ∙ ap length (sym (list_back parts))
tuple_count program parts (suc k) n e = rw (no_zero k) at e

pub option_count : (program : MProgram) (parts : List MType) (k n : ℕ) → length parts ≡ 1 → n ≡ cond (nat_eq k 1) 1 0 → n ≡ fields_of_type program (NamedType OptionOwner (types_of parts)) k
option_count program (t ∷ []) zero n h e = e
option_count program (t ∷ []) (suc zero) n h e = e
option_count program (t ∷ []) (suc (suc k)) n h e = rw (no_one k) at e
option_count program _ k n h e = absurd (omega (arith, h))

pub result_count : (program : MProgram) (parts : List MType) (k n : ℕ) → length parts ≡ 2 → n ≡ cond (nat_lt k 2) 1 0 → n ≡ fields_of_type program (NamedType ResultOwner (types_of parts)) k
result_count program (t ∷ u ∷ []) zero n h e = e
result_count program (t ∷ u ∷ []) (suc zero) n h e = e
result_count program (t ∷ u ∷ []) (suc (suc k)) n h e = rw (not_two k) at e
result_count program _ k n h e = absurd (omega (arith, h))
