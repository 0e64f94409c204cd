-- The part behind a step, and the steps of a place one after the other.
use Rattle.std.proofs.Common.{◌≡◌, ℕ, suc, ◌+◌, ◌-◌, ◌<◌, ◌≤◌, Bool, true, false, List, [], ◌∷◌, map, length, take, drop, Option, Some, None, slice_get, get_or, refl, sym, ap, ◌∙◌, arith}
use Rattle.std.specs.Prelude.{nat_eq, nat_le}
use Rattle.std.proofs.lemmas.Bool.Decides.{nat_tests}
use Rattle.std.proofs.lemmas.List.{drop_all, length-map, take-map, drop-map}
use Rattle.std.proofs.Math.Seq.{drop-cons}
use Rattle.match_model.specs.Values.{MValue, Node, Row, values_of, values_list}
use Rattle.match_model.specs.Matching.{middle_of}
use Rattle.match_model.specs.Places.{MStep, FieldStep, FrontStep, BackStep, MiddleStep, found_if, some_if, step_into, part_at}
use Rattle.match_model.specs.Trees.{LengthCase, LongerCase, case_has}
use Rattle.pat_context.specs.declared.place.Step.{Step}
use Rattle.pat_context.specs.Views.{plain_step, plain_place}
use Rattle.tree_eval.specs.declared.value.Value.{Value}
use Rattle.tree_eval.specs.Views.{plain_value}
use Rattle.tree_runs.specs.Parts.{row_of, item_from_back, items_between}

listed : (vs : List MValue) → values_list (values_of vs) ≡ vs
listed [] = refl
listed (v ∷ vs) = ap (λ us. v ∷ us) (listed vs)

-- a case of rows has those of its lengths
row_length : (items : List Value) → length (values_list (values_of (map plain_value items))) ≡ length items
row_length items = ap length (listed (map plain_value items)) ∙ length-map items plain_value

pub one_length : (items : List Value) (n : ℕ) → nat_eq n (length items) ≡ case_has (LengthCase n) (row_of items)
one_length items n = ap (nat_eq n) (sym (row_length items))

fits_behind : (f b n : ℕ) → f ≤ n → nat_le b (n - f) ≡ nat_le (f + b) n
fits_behind f b n h = go (nat_le b (n - f)) (nat_le (f + b) n) refl refl
  where
    go : (x y : Bool) → nat_le b (n - f) ≡ x → nat_le (f + b) n ≡ y → x ≡ y
    go true true p q = refl
    go false false p q = refl
    go true false p q = absurd (grind (arith, nat_tests))
    go false true p q = absurd (grind (arith, nat_tests))

fits_not : (f b n : ℕ) → n < f → nat_le f n ≡ nat_le (f + b) n
fits_not f b n h =
    let less : nat_le f n ≡ false = grind (arith, nat_tests) in
    let least : nat_le (f + b) n ≡ false = grind (arith, nat_tests) in
    less ∙ sym least

pub longer_length : (items : List Value) (f b : ℕ) → f ≤ length items →
    nat_le b (length items - f) ≡ case_has (LongerCase f b) (row_of items)
longer_length items f b h = fits_behind f b (length items) h ∙ ap (nat_le (f + b)) (sym (row_length items))

pub too_short : (items : List Value) (f b : ℕ) → length items < f →
    nat_le f (length items) ≡ case_has (LongerCase f b) (row_of items)
too_short items f b h = fits_not f b (length items) h ∙ ap (nat_le (f + b)) (sym (row_length items))

-- a step to a part of a node
pub field_entered : (k j i : ℕ) (vs : List MValue) →
    step_into (FieldStep k i) (Node j (values_of vs)) ≡ found_if (nat_eq k j) (slice_get vs i)
field_entered k j i vs = ap (λ us. found_if (nat_eq k j) (slice_get us i)) (listed vs)

-- steps to items of a row
pub front_entered : (i : ℕ) (vs : List MValue) → step_into (FrontStep i) (Row (values_of vs)) ≡ slice_get vs i
front_entered i vs = ap (λ us. slice_get us i) (listed vs)

pub back_entered : (i : ℕ) (vs : List MValue) → step_into (BackStep i) (Row (values_of vs)) ≡ item_from_back vs i
back_entered i vs = ap (λ us. item_from_back us i) (listed vs)

pub middle_entered : (f b : ℕ) (vs : List MValue) →
    step_into (MiddleStep f b) (Row (values_of vs)) ≡ items_between vs f b
middle_entered f b vs = ap (λ us. items_between us f b) (listed vs)

-- the items between both ends
pub between_there : (items : List Value) (f b n : ℕ) → f + b ≤ length items → n ≡ length items - b →
    Some (row_of (take (n - f) (drop f items))) ≡ items_between (map plain_value items) f b
between_there items f b n h e =
    let long : length (map plain_value items) ≡ length items = length-map items plain_value in
    let few : nat_le (f + b) (length (map plain_value items)) ≡ true = grind (arith, nat_tests) in
    let count : n - f ≡ length (map plain_value items) - (f + b) = omega arith in
    let same : map plain_value (take (n - f) (drop f items))
    ≡ take (length (map plain_value items) - (f + b)) (drop f (map plain_value items)) =
    sym (take-map plain_value (n - f) (drop f items)) ∙ ap (λ us. take (n - f) us) (sym (drop-map plain_value f items))
    ∙ ap (λ m. take m (drop f (map plain_value items))) count in
    ap (λ us. Some (Row (values_of us))) same ∙ sym (ap (λ t. some_if t (middle_of f b (map plain_value items))) few)

-- the first step of a place, and the others
first_step : (v u : MValue) (s : MStep) (steps : List MStep) → step_into s v ≡ Some u →
    part_at (s ∷ steps) v ≡ part_at steps u
first_step v u s steps e = ap (λ o. elim o [ None ↦ None | Some w ↦ part_at steps w ]) e

no_step : (v : MValue) (s : MStep) (steps : List MStep) → step_into s v ≡ None → part_at (s ∷ steps) v ≡ None
no_step v s steps e = ap (λ o. elim o [ None ↦ None | Some w ↦ part_at steps w ]) e

-- the same where the place is gone along up to a step
pub step_on : (v u : MValue) (all : Option MValue) (steps : List Step) (i : ℕ) (d : Step) → i < length steps →
    Some u ≡ step_into (plain_step (get_or steps i d)) v →
    part_at (plain_place (drop i steps)) v ≡ all → part_at (plain_place (drop (i + 1) steps)) u ≡ all
step_on v u all steps i d h e k =
    let next : suc i ≡ i + 1 = omega arith in
    let first : drop i steps ≡ get_or steps i d ∷ drop (suc i) steps = drop-cons steps i d h in
    ap (λ n. part_at (plain_place (drop n steps)) u) (sym next)
    ∙ sym (first_step v u (plain_step (get_or steps i d)) (plain_place (drop (suc i) steps)) (sym e))
    ∙ ap (λ l. part_at (plain_place l) v) (sym first) ∙ k

pub step_off : (v : MValue) (all : Option MValue) (steps : List Step) (i : ℕ) (d : Step) → i < length steps →
    None ≡ step_into (plain_step (get_or steps i d)) v → part_at (plain_place (drop i steps)) v ≡ all → None ≡ all
step_off v all steps i d h e k =
    let first : drop i steps ≡ get_or steps i d ∷ drop (suc i) steps = drop-cons steps i d h in
    sym (no_step v (plain_step (get_or steps i d)) (plain_place (drop (suc i) steps)) (sym e))
    ∙ ap (λ l. part_at (plain_place l) v) (sym first) ∙ k

pub steps_end : (v : MValue) (all : Option MValue) (steps : List Step) (i : ℕ) → length steps ≤ i →
    part_at (plain_place (drop i steps)) v ≡ all → Some v ≡ all
steps_end v all steps i h k = ap (λ l. part_at (plain_place l) v) (sym (drop_all i steps h)) ∙ k
