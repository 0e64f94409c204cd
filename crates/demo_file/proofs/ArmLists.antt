-- The text of arms, from the texts of some of them.
use Rattle.std.proofs.Common.{◌≡◌, ◌∙◌, sym, ap, ℕ, suc, ◌+◌, ◌-◌, ◌<◌, ◌≤◌, ◌%◌, List, [], ◌∷◌, ◌++◌, map, length, codes, append_assoc, append-nil, arith}
use Rattle.std.specs.List.{range_with_len}
use Rattle.std.proofs.lemmas.List.FromFn.{length-map-range_with_len}
use Rattle.demo_file.specs.Generated.{unit_variant, arm_text, arms_from, even_patterns, third_patterns}
use Rattle.demo_file.specs.Generated.{field_patterns, function_head, function_line}

-- of two lists of patterns the second goes on counting
arms_append : (item arm : ℕ) (ps qs : List (List ℕ)) →
    arms_from item arm (ps ++ qs) ≡ arms_from item arm ps ++ arms_from item (arm + length ps) qs
arms_append item arm [] qs =
    let e : arm ≡ arm + 0 = omega arith in ap (λ n. arms_from item n qs) e
arms_append item arm (p ∷ ps) qs =
    let e : arm + 1 + length ps ≡ arm + length (p ∷ ps) = omega arith in
    ap (λ z. arm_text item arm p ++ z)
    (arms_append item (arm + 1) ps qs ∙ ap (λ n. arms_from item (arm + 1) ps ++ arms_from item n qs) e)
    ∙ sym (append_assoc (arm_text item arm p) (arms_from item (arm + 1) ps) (arms_from item (arm + length (p ∷ ps)) qs))

-- one more arm of a unit variant was added
pub unit_arm_added : (item v count : ℕ) (x y whole : List ℕ) → v < count → y ≡ x ++ arm_text item v (unit_variant v)
    → x ++ arms_from item v (map unit_variant (range_with_len v (count - v))) ≡ whole
    → y ++ arms_from item (v + 1) (map unit_variant (range_with_len (v + 1) (count - (v + 1)))) ≡ whole
unit_arm_added item v count x y whole h added is =
    let others = arms_from item (v + 1) (map unit_variant (range_with_len (v + 1) (count - (v + 1)))) in
    let e : count - v ≡ suc (count - (v + 1)) = omega arith in
    ap (λ z. z ++ others) added
    ∙ append_assoc x (arm_text item v (unit_variant v)) others
    ∙ sym (ap (λ n. x ++ arms_from item v (map unit_variant (range_with_len v n))) e)
    ∙ is

-- the arms of all unit variants were added
pub unit_arms_added : (item v count : ℕ) (x whole : List ℕ) → count ≤ v
    → x ++ arms_from item v (map unit_variant (range_with_len v (count - v))) ≡ whole → x ≡ whole
unit_arms_added item v count x whole h is =
    let e : count - v ≡ 0 = omega arith in
    sym (ap (λ n. x ++ arms_from item v (map unit_variant (range_with_len v n))) e ∙ append-nil x) ∙ is

four_joined : (x p q r s : List ℕ) → (((x ++ p) ++ q) ++ r) ++ s ≡ x ++ (p ++ (q ++ (r ++ s)))
four_joined x p q r s = simp append_assoc

four_added : (x0 x1 x2 x3 x4 p q r s : List ℕ) → x1 ≡ x0 ++ p → x2 ≡ x1 ++ q → x3 ≡ x2 ++ r → x4 ≡ x3 ++ s
    → x4 ≡ x0 ++ (p ++ (q ++ (r ++ s)))
four_added x0 x1 x2 x3 x4 p q r s e f g h =
    h ∙ ap (λ z. z ++ s) (g ∙ ap (λ z. z ++ r) (f ∙ ap (λ z. z ++ q) e)) ∙ four_joined x0 p q r s

-- the arms behind those of the unit variants, added one after the other
pub field_arms_added : (item arm next : ℕ) (x0 x1 x2 x3 x4 : List ℕ)
    → x1 ≡ x0 ++ arm_text item arm (codes "W(0..=100, true)")
    → x2 ≡ x1 ++ arm_text item (arm + 1) (codes "W(100..=255, _)")
    → x3 ≡ x2 ++ arms_from item (arm + 2) (even_patterns item)
    → next ≡ arm + 2 + length (even_patterns item)
    → x4 ≡ x3 ++ arms_from item next (third_patterns item)
    → x4 ≡ x0 ++ arms_from item arm (field_patterns item)
field_arms_added item arm next x0 x1 x2 x3 x4 e f g n h =
    let first = arm_text item arm (codes "W(0..=100, true)") in
    let second = arm_text item (arm + 1) (codes "W(100..=255, _)") in
    let evens = arms_from item (arm + 2) (even_patterns item) in
    let thirds = arms_from item next (third_patterns item) in
    let two : arm + 2 ≡ arm + 1 + 1 = omega arith in
    let behind : evens ++ thirds ≡ arms_from item (arm + 1 + 1) (even_patterns item ++ third_patterns item) =
    ap (λ k. evens ++ arms_from item k (third_patterns item)) n
    ∙ sym (arms_append item (arm + 2) (even_patterns item) (third_patterns item))
    ∙ ap (λ k. arms_from item k (even_patterns item ++ third_patterns item)) two in
    four_added x0 x1 x2 x3 x4 first second evens thirds e f g h
    ∙ ap (λ z. x0 ++ (first ++ (second ++ z))) behind

-- the parts of a function's line, added one after the other
pub function_added : (item count : ℕ) (x0 x1 x2 x3 x4 : List ℕ)
    → count ≡ item % 5 + 1
    → x1 ≡ x0 ++ function_head item
    → x2 ≡ x1 ++ arms_from item 0 (map unit_variant (range_with_len 0 count))
    → x3 ≡ x2 ++ arms_from item count (field_patterns item)
    → x4 ≡ x3 ++ codes "} }\n"
    → x4 ≡ x0 ++ function_line item
function_added item count x0 x1 x2 x3 x4 is e f g h =
    let head = function_head item in
    let units = map unit_variant (range_with_len 0 count) in
    let fields = field_patterns item in
    let first = arms_from item 0 units in
    let last = arms_from item count fields in
    let arms = arms_from item 0 (units ++ fields) in
    let end = codes "} }\n" in
    let all : length units ≡ count = length-map-range_with_len unit_variant 0 count in
    let there : 0 + length units ≡ count = omega arith in
    let joined : first ++ last ≡ arms =
    sym (arms_append item 0 units fields ∙ ap (λ n. first ++ arms_from item n fields) there) in
    four_added x0 x1 x2 x3 x4 head first last end e f g h
    ∙ ap (λ z. x0 ++ (head ++ z)) (sym (append_assoc first last end) ∙ ap (λ z. z ++ end) joined)
    ∙ ap (λ z. x0 ++ z) (sym (append_assoc head arms end))
    ∙ ap (λ n. x0 ++ ((head ++ arms_from item 0 (map unit_variant (range_with_len 0 n) ++ fields)) ++ end)) is
