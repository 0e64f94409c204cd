-- The parts of values that patterns meet.
use Rattle.std.proofs.Common.{◌≡◌, ℕ, ◌+◌, ◌-◌, Bool, true, List, [], ◌∷◌, ◌++◌, map, length, take, drop, min, nat_eq, Some, refl, sym, ap, ◌∙◌, arith}
use Rattle.std.proofs.lemmas.List.{drop-map, drop_min, length-map, take-map, take_rest}
use Rattle.match_model.specs.ArenaPatterns.{MiddlePart}
use Rattle.match_model.specs.ArenaWays.{bound_part}
use Rattle.match_model.specs.Constructors.{MShape, LongerShape, SingleCtor, VariantCtor, RowCtor, covers}
use Rattle.match_model.specs.Matching.{middle_of}
use Rattle.match_model.specs.Places.{some_if}
use Rattle.match_model.specs.Values.{MValue, Node, Row, values_of, values_list}
use Rattle.tree_eval.specs.declared.value.Value.{Value}
use Rattle.tree_eval.specs.Views.{plain_value}
use Rattle.first_match.specs.Parts.{values_met, row_met}

listed : (vs : List MValue) → values_list (values_of vs) ≡ vs
listed [] = refl
listed (v ∷ vs) = ap (λ (us : List MValue). v ∷ us) (listed vs)

pub single_met : (k : ℕ) (vs : List MValue) → some_if (nat_eq k 0) vs ≡ values_met SingleCtor (Node k (values_of vs))
single_met k vs = ap (some_if (nat_eq k 0)) (sym (listed vs))

pub variant_met : (j k : ℕ) (vs : List MValue) →
    some_if (nat_eq k j) vs ≡ values_met (VariantCtor j) (Node k (values_of vs))
variant_met j k vs = ap (some_if (nat_eq k j)) (sym (listed vs))

pub items_met : (s : MShape) (vs : List MValue) → row_met s vs ≡ values_met (RowCtor s) (Row (values_of vs))
items_met s vs = ap (row_met s) (sym (listed vs))

-- the items at both ends of a row with a rest
pub ends_met : (items : List Value) (f b n : ℕ) → covers (LongerShape f b) (length items) ≡ true →
    n ≡ length items - (length items - b) →
    Some (map plain_value (take f items) ++ map plain_value (take n (drop (length items - b) items)))
    ≡ row_met (LongerShape f b) (map plain_value items)
ends_met items f b n h e =
    let vs = map plain_value items in
    let long : length vs ≡ length items = length-map items plain_value in
    let back : map plain_value (take n (drop (length items - b) items)) ≡ drop (length vs - b) vs =
    ap (λ (m : ℕ). map plain_value (take m (drop (length items - b) items))) e
    ∙ ap (map plain_value) (take_rest items (length items - b))
    ∙ sym (drop-map plain_value (length items - b) items)
    ∙ ap (λ (m : ℕ). drop (m - b) vs) (sym long) in
    ap (λ (us : List MValue). Some (us ++ map plain_value (take n (drop (length items - b) items)))) (sym (take-map plain_value f items))
    ∙ ap (λ (us : List MValue). Some (take f vs ++ us)) back
    ∙ sym (ap (λ (t : Bool). some_if t (take f vs ++ drop (length vs - b) vs)) (ap (covers (LongerShape f b)) long ∙ h))

-- the items without those at both ends
pub between_ends : (items : List Value) (f b from to n : ℕ) → from ≡ min f (length items) →
    to ≡ length items - min b (length items - from) → n ≡ to - from →
    Row (values_of (map plain_value (take n (drop from items)))) ≡ middle_of f b (map plain_value items)
between_ends items f b from to n e d k =
    let vs = map plain_value items in
    let count : n ≡ length vs - (f + b) = omega (arith, length-map items plain_value) in
    ap (λ (us : List MValue). Row (values_of us))
    (sym (take-map plain_value n (drop from items))
    ∙ ap (λ (m : ℕ). take n (map plain_value (drop m items))) e
    ∙ ap (λ (us : List Value). take n (map plain_value us)) (drop_min f items)
    ∙ ap (take n) (sym (drop-map plain_value f items))
    ∙ ap (λ (m : ℕ). take m (drop f vs)) count)

pub middle_bound : (f b : ℕ) (vs : List MValue) → middle_of f b vs ≡ bound_part (MiddlePart f b) (Row (values_of vs))
middle_bound f b vs = ap (middle_of f b) (sym (listed vs))
