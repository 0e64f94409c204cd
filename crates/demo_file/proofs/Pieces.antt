-- Pieces of a text that stand there by number, added one after the other.
use Rattle.std.proofs.Common.{◌≡◌, ◌∙◌, sym, ap, ℕ, suc, ◌+◌, ◌%◌, ◌-◌, ◌<◌, ◌≤◌, List, ◌++◌, codes, append_assoc, append-nil, arith}
use Rattle.std.specs.List.{flat_map, range_with_len}
use Rattle.demo_file.specs.Generated.{listed_variant, enum_head, enum_line}

-- one more piece was added
pub piece_added : (piece : ℕ → List ℕ) (v count : ℕ) (x y whole : List ℕ) → v < count → y ≡ x ++ piece v
    → x ++ flat_map piece (range_with_len v (count - v)) ≡ whole
    → y ++ flat_map piece (range_with_len (v + 1) (count - (v + 1))) ≡ whole
piece_added piece v count x y whole h added is =
    let others = flat_map piece (range_with_len (v + 1) (count - (v + 1))) in
    let e : count - v ≡ suc (count - (v + 1)) = omega arith in
    ap (λ z. z ++ others) added
    ∙ append_assoc x (piece v) others
    ∙ sym (ap (λ n. x ++ flat_map piece (range_with_len v n)) e)
    ∙ is

-- all pieces were added
pub pieces_added : (piece : ℕ → List ℕ) (v count : ℕ) (x whole : List ℕ) → count ≤ v
    → x ++ flat_map piece (range_with_len v (count - v)) ≡ whole → x ≡ whole
pieces_added piece v count x whole h is =
    let e : count - v ≡ 0 = omega arith in
    sym (ap (λ n. x ++ flat_map piece (range_with_len v n)) e ∙ append-nil x) ∙ is

-- the parts of an enum's line, added one after the other
pub enum_added : (item count : ℕ) (x0 x1 x2 x3 : List ℕ)
    → count ≡ item % 5 + 1
    → x1 ≡ x0 ++ enum_head item
    → x2 ≡ x1 ++ flat_map listed_variant (range_with_len 0 count)
    → x3 ≡ x2 ++ codes "W(u8, bool) }\n"
    → x3 ≡ x0 ++ enum_line item
enum_added item count x0 x1 x2 x3 is e f g =
    let variants = flat_map listed_variant (range_with_len 0 count) in
    let end = codes "W(u8, bool) }\n" in
    g ∙ ap (λ z. z ++ end) (f ∙ ap (λ z. z ++ variants) e)
    ∙ ap (λ z. z ++ end) (append_assoc x0 (enum_head item) variants)
    ∙ append_assoc x0 (enum_head item ++ variants) end
    ∙ ap (λ n. x0 ++ ((enum_head item ++ flat_map listed_variant (range_with_len 0 n)) ++ end)) is
