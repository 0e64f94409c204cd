-- A type without a value by stable marks has none.
use Rattle.std.proofs.Common.{◌≡◌, ℕ, zero, suc, Bool, true, false, ◌||◌, List, [], ◌∷◌, Some, None, ℤ, nat_eq, length, refl, ap, ◌∙◌, slice_get, not, ◌&&◌}
use Rattle.std.specs.List.{list_any}
use Rattle.match_model.specs.Types.{MType, BoolType, CharType, StrType, NeverType, IntType, OpaqueType, TupleType, PointType, SliceType, ArrayType, NamedType, MTypes, no_types, more_types}
use Rattle.match_model.specs.Declarations.{MVariant, MProgram, form_types, node_types, variant_types, variants_of, is_constructorless}
use Rattle.match_model.specs.Values.{MValue, Flag, Num, Text, Node, Point, Row, Thing, Later, Unseen, MValues, no_values, more_values, values_list}
use Rattle.match_model.specs.Typing.{is_value, are_values, all_are_values, item_type, some_if}
use Rattle.match_model.specs.Emptiness.{has_value, all_have_value, some_variant_has_value}
use Rattle.match_model.proofs.Basics.{both, and_true, or_left, or_right, found, nat_equal}

-- of the variants, one has all its fields
variants_by : (sure : Bool) (marked : MType → Bool) (vs : List MVariant) (k : ℕ) (ts : MTypes) →
    variant_types (slice_get vs k) ≡ Some ts → all_have_value sure marked ts ≡ true →
    list_any (λ v. all_have_value sure marked (form_types v.form)) vs ≡ true
variants_by sure marked [] k ts e h = cc
variants_by sure marked (v ∷ vs) zero ts e h =
    let same : form_types v.form ≡ ts = cc in
    or_left _ _ (ap (all_have_value sure marked) same ∙ h)
variants_by sure marked (v ∷ vs) (suc k) ts e h = or_right _ _ (variants_by sure marked vs k ts e h)

-- no named type is left to mark
abbrev pub Stable : MProgram → (sure : Bool) → (marked : MType → Bool) → Type 0
Stable program sure marked = (t : MType) → some_variant_has_value program sure marked t ≡ true → marked t ≡ true

-- the types of a node's parts, when they all have values
node_by : (program : MProgram) (sure : Bool) (marked : MType → Bool) → Stable program sure marked → (t : MType) (k : ℕ) (ts : MTypes) →
    node_types program t k ≡ Some ts → all_have_value sure marked ts ≡ true → has_value sure marked t ≡ true
node_by program sure marked s (TupleType us) zero ts e h = let same : us ≡ ts = cc in ap (all_have_value sure marked) same ∙ h
node_by program sure marked s (NamedType owner args) k ts e h =
    s (NamedType owner args) (or_right _ _ (or_right _ _ (variants_by sure marked (variants_of program (NamedType owner args)) k ts e h)))
node_by program sure marked s _ _ ts e h = cc

flag_has : (sure : Bool) (marked : MType → Bool) (program : MProgram) (b : Bool) (t : MType) → is_value program sure t (Flag b) ≡ true → has_value sure marked t ≡ true
flag_has sure marked program b BoolType h = refl
flag_has sure marked program b _ h = cc

num_has : (sure : Bool) (marked : MType → Bool) (program : MProgram) (n : ℤ) (t : MType) → is_value program sure t (Num n) ≡ true → has_value sure marked t ≡ true
num_has sure marked program n CharType h = refl
num_has sure marked program n (IntType kind) h = refl
num_has sure marked program n _ h = cc

text_has : (sure : Bool) (marked : MType → Bool) (program : MProgram) (u : List ℕ) (t : MType) → is_value program sure t (Text u) ≡ true → has_value sure marked t ≡ true
text_has sure marked program u StrType h = refl
text_has sure marked program u _ h = cc

point_by : (sure b : Bool) → (sure ≡ false → b ≡ true) → (sure || b) ≡ true
point_by true b f = refl
point_by false b f = f refl

behind_is : (program : MProgram) (sure n m : Bool) (u : MType) (v : MValue) → is_value program sure (PointType n u) (Point m v) ≡ true → is_value program false u v ≡ true
behind_is program sure true true u v h = h
behind_is program sure false false u v h = h
behind_is program sure true false u v h = cc
behind_is program sure false true u v h = cc

no_unseen : (b : Bool) → (b && false) ≡ true → ⊥
no_unseen true h = cc
no_unseen false h = cc

swapped : (a b : Bool) → (a && b) ≡ true → (b && a) ≡ true
swapped true true h = refl
swapped true false h = cc
swapped false b h = cc

thing_has : (sure : Bool) (marked : MType → Bool) (program : MProgram) (t : MType) → is_value program sure t Thing ≡ true → has_value sure marked t ≡ true
thing_has sure marked program (OpaqueType name args) h = refl
thing_has sure marked program _ h = cc

later_has : (sure : Bool) (marked : MType → Bool) (program : MProgram) → Stable program sure marked → (t : MType) → is_value program sure t Later ≡ true → has_value sure marked t ≡ true
later_has sure marked program s (NamedType owner args) h = s (NamedType owner args) (or_left _ _ h)
later_has sure marked program s _ h = cc

pub type_if_is : (b : Bool) (u item : MType) → some_if b u ≡ Some item → (b ≡ true) × (u ≡ item)
type_if_is true u item e = (refl, cc)
type_if_is false u item e = absurd (not_some e)
  where
    not_some : None ≡ Some item → ⊥
    not_some k = cc

-- the items of a row
row_by : (sure : Bool) (marked : MType → Bool) (t item : MType) (n : ℕ) → item_type t n ≡ Some item → (nat_eq n 0 || has_value sure marked item) ≡ true → has_value sure marked t ≡ true
row_by sure marked (SliceType u) item n e h = refl
row_by sure marked (ArrayType u m) item n e h =
    let r = type_if_is (nat_eq n m) u item e in
    rw (r.1, ← nat_equal n m r.0) h
row_by sure marked _ item n e h = cc

module _ (program : MProgram) (sure : Bool) (marked : MType → Bool) (stable : Stable program sure marked) where
  mutual
    pub value_has : (v : MValue) (t : MType) → is_value program sure t v ≡ true → has_value sure marked t ≡ true
    value_has (Flag b) t h = flag_has sure marked program b t h
    value_has (Num n) t h = num_has sure marked program n t h
    value_has (Text u) t h = text_has sure marked program u t h
    value_has (Node k parts) t h =
        let r = found (node_types program t k) (λ ts. are_values program sure ts parts) h in
        node_by program sure marked stable t k r.0 r.1 (values_have parts r.0 r.2)
    value_has (Point m v) (PointType n u) h =
        point_by sure (has_value sure marked u) (λ e. value_has v u (ap (λ b. is_value program b u v) e ∙ behind_is program sure n m u v h))
    value_has (Point m v) _ h = cc
    value_has (Row items) t h =
        let r = found (item_type t (length (values_list items))) (λ u. all_are_values program sure u items) h in
        row_by sure marked t r.0 (length (values_list items)) r.1 (items_have items r.0 r.2)
    value_has Thing t h = thing_has sure marked program t h
    value_has Later t h = later_has sure marked program stable t h
    value_has Unseen NeverType h = (both (not sure) true h).0
    value_has Unseen (NamedType owner args) h =
        stable (NamedType owner args) (or_right _ _ (or_left _ _ (swapped (not sure) (is_constructorless program (NamedType owner args)) h)))
    value_has Unseen _ h = absurd (no_unseen (not sure) h)

    pub values_have : (vs : MValues) (ts : MTypes) → are_values program sure ts vs ≡ true → all_have_value sure marked ts ≡ true
    values_have no_values no_types h = refl
    values_have no_values (more_types t ts) h = cc
    values_have (more_values v vs) no_types h = cc
    values_have (more_values v vs) (more_types t ts) h =
        let b = both (is_value program sure t v) (are_values program sure ts vs) h in
        and_true _ _ (value_has v t b.0) (values_have vs ts b.1)

    items_have : (vs : MValues) (t : MType) → all_are_values program sure t vs ≡ true → (nat_eq (length (values_list vs)) 0 || has_value sure marked t) ≡ true
    items_have no_values t h = refl
    items_have (more_values v vs) t h =
        let b = both (is_value program sure t v) (all_are_values program sure t vs) h in
        or_right _ _ (value_has v t b.0)
