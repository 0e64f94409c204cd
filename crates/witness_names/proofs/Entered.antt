-- The type of the part that a step enters.
use Rattle.std.proofs.Common.{◌≡◌, ◌∙◌, ap, sym, refl, ℕ, zero, suc, ◌<◌, ◌≤◌, Bool, true, false, List, [], ◌∷◌, length, Option, Some, None, slice_get, get_or, drop, ◌+◌, arith, ◌⊎◌, inl, inr}
use Rattle.std.specs.Prelude.{option_map, ◌&&◌, nat_lt, nat_le}
use Rattle.std.proofs.lemmas.Bool.Decides.{nat_tests}
use Rattle.match_model.specs.Types.{DeclaredItem, OptionOwner, ResultOwner, MType, BoolType, CharType, StrType, NeverType, IntType, OpaqueType, TupleType, PointType, SliceType, ArrayType, NamedType, MTypes, types_list}
use Rattle.match_model.specs.Constructors.{LongerShape, MShape, RowCtor, PointCtor, MSet, SingleSet, PointSet, FlagSet, TextSet, OpaqueSet, NothingSet, VariantSet, NumberSet, RowSet, belongs}
use Rattle.match_model.specs.Declarations.{MVariant, MItem, StructItem, EnumItem, OtherItem, MProgram, node_types, variant_types, filled_all, declared, item_variants}
use Rattle.match_model.proofs.Basics.{named_types}
use Rattle.match_model.specs.OfType.{node_ctor, type_at_place}
use Rattle.match_model.specs.Places.{MStep, ThroughStep, FieldStep, FrontStep, BackStep}
use Rattle.match_model.specs.RustTypes.{count_of_types, type_or, part_type, rust_set, item_set, rust_arity, rust_sub, rust_context}
use Rattle.std.proofs.lemmas.List.{drop_all}
use Rattle.std.proofs.Math.Seq.{drop-cons}
use Rattle.pat_context.specs.declared.place.Step.{Step}
use Rattle.pat_context.specs.Views.{plain_place, plain_step}
use Rattle.type_table.specs.Tables.{part_of}
use Rattle.witness_names.specs.Lookups.{behind_step, item_behind, pointed}

-- the thing where the test holds
abbrev gated : {A : Type 0} → Bool → A → Option A
gated b a = elim b [ true ↦ Some a | false ↦ None ]

first_or : (ts : List MType) (t : MType) (i : ℕ) (b : Bool) →
    ((b ≡ true) × (i < length ts)) ⊎ ((b ≡ false) × (length ts ≤ i)) → gated b (type_or t (slice_get ts i)) ≡ slice_get ts i
first_or [] t i true (inl h) = absurd (omega arith)
first_or [] t i true (inr h) = absurd (cc)
first_or [] t i false h = refl
first_or (u ∷ ts) t zero true h = refl
first_or (u ∷ ts) t zero false (inl h) = absurd cc
first_or (u ∷ ts) t zero false (inr h) = absurd (omega arith)
first_or (u ∷ ts) t (suc i) true (inl h) = first_or ts t i true (inl (refl, omega arith))
first_or (u ∷ ts) t (suc i) true (inr h) = absurd cc
first_or (u ∷ ts) t (suc i) false (inl h) = absurd cc
first_or (u ∷ ts) t (suc i) false (inr h) = first_or ts t i false (inr (refl, omega arith))

-- a part is there where the number of parts has it
parts_gate : (b : Bool) (t : MType) (o : Option MTypes) (i : ℕ) → (b ≡ false → o ≡ None) →
    gated (b && nat_lt i (count_of_types o)) (part_type t o i) ≡ part_of o i
parts_gate false t o i h = rw (h refl) refl
parts_gate true t None i h = at (nat_lt i 0) refl
  where
    at : (c : Bool) → nat_lt i 0 ≡ c → gated c t ≡ None
    at true e = absurd (grind (arith, nat_tests))
    at false e = refl
parts_gate true t (Some ts) i h = first_or (types_list ts) t i (nat_lt i (length (types_list ts))) (grind (arith, nat_tests))

none_past : {A : Type 0} (xs : List A) (k : ℕ) → length xs ≤ k → slice_get xs k ≡ None
none_past [] k h = refl
none_past (x ∷ xs) zero h = absurd (omega arith)
none_past (x ∷ xs) (suc k) h = none_past xs k (omega arith)

variants_past : (vs : List MVariant) (k n : ℕ) → length vs ≤ n → nat_lt k n ≡ false → variant_types (slice_get vs k) ≡ None
variants_past vs k n l h =
    let past : n ≤ k = grind (arith, nat_tests) in
    let below : length vs ≤ k = omega arith in
    ap variant_types (none_past vs k below)

-- whether the set has the constructor of the variant with this number
abbrev has_variant : MSet → (variant : ℕ) → Bool
has_variant set k = belongs set (node_ctor set k)

no_part_of_item : (item : Option MItem) (k : ℕ) → has_variant (item_set item) k ≡ false → variant_types (slice_get (item_variants item) k) ≡ None
no_part_of_item None k h = refl
no_part_of_item (Some OtherItem) k h = refl
no_part_of_item (Some (StructItem v)) zero h = absurd cc
no_part_of_item (Some (StructItem v)) (suc k) h = refl
no_part_of_item (Some (EnumItem name false [])) k h = refl
no_part_of_item (Some (EnumItem name true [])) k h = refl
no_part_of_item (Some (EnumItem name marked (v ∷ vs))) k h = variants_past (v ∷ vs) k (suc (length vs)) (omega arith) h

-- a variant that the set lacks has no parts
no_part : (program : MProgram) (t : MType) (k : ℕ) → has_variant (rust_set program t) k ≡ false → node_types program t k ≡ None
no_part program BoolType k h = refl
no_part program CharType k h = refl
no_part program StrType k h = refl
no_part program NeverType k h = refl
no_part program (IntType kind) k h = refl
no_part program (OpaqueType n ts) k h = refl
no_part program (TupleType ts) zero h = absurd cc
no_part program (TupleType ts) (suc k) h = refl
no_part program (PointType mutable t) k h = refl
no_part program (SliceType t) k h = refl
no_part program (ArrayType t n) k h = refl
no_part program (NamedType owner ts) k h =
    named_types program owner ts k ∙ ap (option_map (filled_all ts)) (no_part_of_item (declared program owner) k h)

-- a step to a part of a variant
pub part_entered : (program : MProgram) (t : MType) (k i : ℕ) → behind_step program t (FieldStep k i) ≡ part_of (node_types program t k) i
part_entered program t k i = by (rust_set program t) k (no_part program t k)
  where
    by : (set : MSet) (k : ℕ) → (has_variant set k ≡ false → node_types program t k ≡ None) →
        gated (has_variant set k && nat_lt i (rust_arity program (node_ctor set k) t)) (rust_sub program (node_ctor set k) t i) ≡ part_of (node_types program t k) i
    by SingleSet zero h = parts_gate true t (node_types program t 0) i h
    by SingleSet (suc k) h = parts_gate false t (node_types program t (suc k)) i h
    by (VariantSet count later) k h = parts_gate (nat_lt k count) t (node_types program t k) i h
    by PointSet k h = parts_gate false t (node_types program t k) i h
    by FlagSet k h = parts_gate false t (node_types program t k) i h
    by TextSet k h = parts_gate false t (node_types program t k) i h
    by OpaqueSet k h = parts_gate false t (node_types program t k) i h
    by NothingSet k h = parts_gate false t (node_types program t k) i h
    by (NumberSet first second) k h = parts_gate false t (node_types program t k) i h
    by (RowSet len) k h = parts_gate false t (node_types program t k) i h

-- a set of a declared type has no rows
no_rows : (item : Option MItem) (shape : MShape) → belongs (item_set item) (RowCtor shape) ≡ false
no_rows None shape = refl
no_rows (Some OtherItem) shape = refl
no_rows (Some (StructItem v)) shape = refl
no_rows (Some (EnumItem name false [])) shape = refl
no_rows (Some (EnumItem name true [])) shape = refl
no_rows (Some (EnumItem name marked (v ∷ vs))) shape = refl

gate_closed : {A : Type 0} (b c : Bool) (a : A) → b ≡ false → gated (b && c) a ≡ None
gate_closed b c a e = rw e refl

gate_open : {A : Type 0} (b : Bool) (m n : ℕ) (a : A) → m < n → gated (b && nat_lt m n) a ≡ gated b a
gate_open false m n a h = refl
gate_open true m n a h = let e : nat_lt m n ≡ true = grind (arith, nat_tests) in rw e refl

-- a step to an item from the front
pub front_entered : (program : MProgram) (t : MType) (i : ℕ) → behind_step program t (FrontStep i) ≡ item_behind t i
front_entered program BoolType i = refl
front_entered program CharType i = refl
front_entered program StrType i = refl
front_entered program NeverType i = refl
front_entered program (IntType kind) i = refl
front_entered program (OpaqueType n ts) i = refl
front_entered program (TupleType ts) i = refl
front_entered program (PointType mutable t) i = refl
front_entered program (SliceType t) i = gate_open true i (suc i + 0) t (omega arith)
front_entered program (ArrayType t n) i = gate_open (nat_le (suc i + 0) n) i (suc i + 0) t (omega arith) ∙ ap (λ m. gated (nat_le m n) t) same
  where
    same : suc i + 0 ≡ suc i
    same = omega arith
front_entered program (NamedType (DeclaredItem n) ts) i =
    gate_closed _ (nat_lt i (suc i + 0)) (NamedType (DeclaredItem n) ts) (no_rows (slice_get program.items n) (LongerShape (suc i) 0))
front_entered program (NamedType OptionOwner ts) i = refl
front_entered program (NamedType ResultOwner ts) i = refl

-- a step to an item from the back; the last one is number 1
pub back_entered : (program : MProgram) (t : MType) (i : ℕ) → behind_step program t (BackStep (suc i)) ≡ item_behind t i
back_entered program BoolType i = refl
back_entered program CharType i = refl
back_entered program StrType i = refl
back_entered program NeverType i = refl
back_entered program (IntType kind) i = refl
back_entered program (OpaqueType n ts) i = refl
back_entered program (TupleType ts) i = refl
back_entered program (PointType mutable t) i = refl
back_entered program (SliceType t) i = gate_open true 0 (0 + suc i) t (omega arith)
back_entered program (ArrayType t n) i = gate_open (nat_le (0 + suc i) n) 0 (0 + suc i) t (omega arith) ∙ ap (λ m. gated (nat_le m n) t) same
  where
    same : 0 + suc i ≡ suc i
    same = omega arith
back_entered program (NamedType (DeclaredItem n) ts) i =
    gate_closed _ (nat_lt 0 (0 + suc i)) (NamedType (DeclaredItem n) ts) (no_rows (slice_get program.items n) (LongerShape 0 (suc i)))
back_entered program (NamedType OptionOwner ts) i = refl
back_entered program (NamedType ResultOwner ts) i = refl

-- a step through a reference
pub point_entered : (program : MProgram) (t : MType) → behind_step program t ThroughStep ≡ option_map (λ p. p.1) (pointed t)
point_entered program BoolType = refl
point_entered program CharType = refl
point_entered program StrType = refl
point_entered program NeverType = refl
point_entered program (IntType kind) = refl
point_entered program (OpaqueType n ts) = refl
point_entered program (TupleType ts) = refl
point_entered program (PointType mutable t) = refl
point_entered program (SliceType t) = refl
point_entered program (ArrayType t n) = refl
point_entered program (NamedType (DeclaredItem n) ts) = no_point (slice_get program.items n)
  where
    no_point : (item : Option MItem) → gated (belongs (item_set item) PointCtor && true) (NamedType (DeclaredItem n) ts) ≡ None
    no_point None = refl
    no_point (Some OtherItem) = refl
    no_point (Some (StructItem v)) = refl
    no_point (Some (EnumItem name false [])) = refl
    no_point (Some (EnumItem name true [])) = refl
    no_point (Some (EnumItem name marked (v ∷ vs))) = refl
point_entered program (NamedType OptionOwner ts) = refl
point_entered program (NamedType ResultOwner ts) = refl

-- the first step of a place, and the others
pub first_step : (program : MProgram) (t u : MType) (s : MStep) (steps : List MStep) → behind_step program t s ≡ Some u →
    type_at_place (rust_context program) t (s ∷ steps) ≡ type_at_place (rust_context program) u steps
first_step program t u s steps e = ap (λ o. elim o [ None ↦ None | Some w ↦ type_at_place (rust_context program) w steps ]) e

-- behind a step that enters nothing there is no type
pub no_step : (program : MProgram) (t : MType) (s : MStep) (steps : List MStep) → behind_step program t s ≡ None →
    type_at_place (rust_context program) t (s ∷ steps) ≡ None
no_step program t s steps e = ap (λ o. elim o [ None ↦ None | Some w ↦ type_at_place (rust_context program) w steps ]) e

-- the same where the place is gone along up to a step
pub step_on : (program : MProgram) (t u : MType) (all : Option MType) (steps : List Step) (i : ℕ) (d : Step) → i < length steps →
    Some u ≡ behind_step program t (plain_step (get_or steps i d)) →
    type_at_place (rust_context program) t (plain_place (drop i steps)) ≡ all →
    type_at_place (rust_context program) u (plain_place (drop (i + 1) steps)) ≡ all
step_on program t u all steps i d h e k =
    let next : suc i ≡ i + 1 = omega arith in
    let first : drop i steps ≡ get_or steps i d ∷ drop (suc i) steps = drop-cons steps i d h in
    ap (λ n. type_at_place (rust_context program) u (plain_place (drop n steps))) (sym next)
    ∙ sym (first_step program t u (plain_step (get_or steps i d)) (plain_place (drop (suc i) steps)) (sym e))
    ∙ ap (λ l. type_at_place (rust_context program) t (plain_place l)) (sym first) ∙ k

pub step_off : (program : MProgram) (t : MType) (all : Option MType) (steps : List Step) (i : ℕ) (d : Step) → i < length steps →
    None ≡ behind_step program t (plain_step (get_or steps i d)) →
    type_at_place (rust_context program) t (plain_place (drop i steps)) ≡ all → None ≡ all
step_off program t all steps i d h e k =
    let first : drop i steps ≡ get_or steps i d ∷ drop (suc i) steps = drop-cons steps i d h in
    sym (no_step program t (plain_step (get_or steps i d)) (plain_place (drop (suc i) steps)) (sym e))
    ∙ ap (λ l. type_at_place (rust_context program) t (plain_place l)) (sym first) ∙ k

pub steps_end : (program : MProgram) (t : MType) (all : Option MType) (steps : List Step) (i : ℕ) → length steps ≤ i →
    type_at_place (rust_context program) t (plain_place (drop i steps)) ≡ all → Some t ≡ all
steps_end program t all steps i h k = ap (λ l. type_at_place (rust_context program) t (plain_place l)) (sym (drop_all i steps h)) ∙ k
