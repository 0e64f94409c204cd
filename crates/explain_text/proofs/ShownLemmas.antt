-- What is shown of a line.
use Rattle.std.proofs.Common.{◌≡◌, ◌∙◌, ap, sym, ℕ, ◌+◌, ◌-◌, ◌<◌, ◌≤◌, List, [], ◌++◌, length, take, drop, get_or, max, min, Bool, true, false, not, ◌&&◌, nat_lt, nat_eq, arith, codes, ◌⊎◌, inl, inr}
use Rattle.std.proofs.lemmas.Bool.{lt-ltb, le-ltb, cases_lt}
use Rattle.std.proofs.lemmas.List.{length-take-le, length-drop, append-nil, take-take, take_all, length-take}
use Rattle.std.specs.Str.Lossy.{utf8_lossy}
use Rattle.explain_lines.specs.Lines.{spot_at, shown_before, shown_after}
use Rattle.explain_lines.specs.Windows.{IsPart}
use Rattle.explain_lines.specs.declared.spots.Spot.{Spot}
use Rattle.explain_text.specs.Shown.{most, shown_bytes, dots_if, left_part, right_part, marked_part, is_cut_behind}

part_length : (text : List ℕ) (from to : ℕ) (bytes : List ℕ) → IsPart text from to bytes → length bytes ≡ to - from
part_length text from to bytes p =
    let ordered = p.ordered in
    let within = p.within in
    let long : to - from ≤ length (drop from text) = omega (arith, length-drop from text) in
    ap length (sym p.part) ∙ length-take-le (to - from) (drop from text) long

-- where the line begins before what is shown of it
pub left_cut : (text : List ℕ) (from : ℕ) (spot : Spot) (shown part : List ℕ) → spot ≡ spot_at text spot.at → IsPart text from spot.at (shown_before most text spot.at) → spot.start < from →
    shown ≡ utf8_lossy (shown_bytes (take (spot.at - from) (drop from text))) → part ≡ codes "..." ++ shown → part ≡ left_part text spot.at
unfolding left_part
left_cut text from spot shown part right p cut is made =
    let long = part_length text from spot.at (shown_before most text spot.at) p in
    let ordered = p.ordered in
    let begins : from ≡ spot.at - length (shown_before most text spot.at) = omega (arith, long) in
    let test : nat_lt (spot_at text spot.at).start (spot.at - length (shown_before most text spot.at)) ≡ true =
    ap (λ s. nat_lt s (spot.at - length (shown_before most text spot.at))) (sym (ap (λ (s : Spot). s.start) right))
    ∙ ap (nat_lt spot.start) (sym begins) ∙ lt-ltb spot.start from cut in
    made ∙ ap (λ s. codes "..." ++ s) (is ∙ ap (λ b. utf8_lossy (shown_bytes b)) p.part)
    ∙ ap (λ t. dots_if t ++ utf8_lossy (shown_bytes (shown_before most text spot.at))) (sym test)

-- where it does not
pub left_whole : (text : List ℕ) (from : ℕ) (spot : Spot) (shown : List ℕ) → spot ≡ spot_at text spot.at → IsPart text from spot.at (shown_before most text spot.at) → from ≤ spot.start →
    shown ≡ utf8_lossy (shown_bytes (take (spot.at - from) (drop from text))) → shown ≡ left_part text spot.at
unfolding left_part
left_whole text from spot shown right p whole is =
    let long = part_length text from spot.at (shown_before most text spot.at) p in
    let ordered = p.ordered in
    let begins : from ≡ spot.at - length (shown_before most text spot.at) = omega (arith, long) in
    let test : nat_lt (spot_at text spot.at).start (spot.at - length (shown_before most text spot.at)) ≡ false =
    ap (λ s. nat_lt s (spot.at - length (shown_before most text spot.at))) (sym (ap (λ (s : Spot). s.start) right))
    ∙ ap (nat_lt spot.start) (sym begins) ∙ le-ltb spot.start from whole in
    is ∙ ap (λ b. utf8_lossy (shown_bytes b)) p.part
    ∙ ap (λ t. dots_if t ++ utf8_lossy (shown_bytes (shown_before most text spot.at))) (sym test)

ends_at : (text : List ℕ) (at to : ℕ) → IsPart text at to (shown_after most text at) → to ≡ at + length (shown_after most text at)
ends_at text at to p =
    let long = part_length text at to (shown_after most text at) p in
    let ordered = p.ordered in
    omega (arith, long)

-- where the line goes on behind what is shown of it
pub right_cut : (text : List ℕ) (at to : ℕ) (shown part : List ℕ) → IsPart text at to (shown_after most text at) → is_cut_behind text to ≡ true →
    shown ≡ utf8_lossy (shown_bytes (take (to - at) (drop at text))) → part ≡ shown ++ codes "..." → part ≡ right_part text at
unfolding right_part
right_cut text at to shown part p cut is made =
    made ∙ ap (λ s. s ++ codes "...") (is ∙ ap (λ b. utf8_lossy (shown_bytes b)) p.part)
    ∙ ap (λ t. utf8_lossy (shown_bytes (shown_after most text at)) ++ dots_if t) (sym cut ∙ ap (is_cut_behind text) (ends_at text at to p))

-- where it does not
pub right_whole : (text : List ℕ) (at to : ℕ) (shown : List ℕ) → IsPart text at to (shown_after most text at) → is_cut_behind text to ≡ false →
    shown ≡ utf8_lossy (shown_bytes (take (to - at) (drop at text))) → shown ≡ right_part text at
unfolding right_part
right_whole text at to shown p whole is =
    is ∙ ap (λ b. utf8_lossy (shown_bytes b)) p.part ∙ sym (append-nil (utf8_lossy (shown_bytes (shown_after most text at))))
    ∙ ap (λ t. utf8_lossy (shown_bytes (shown_after most text at)) ++ dots_if t) (sym whole ∙ ap (is_cut_behind text) (ends_at text at to p))

-- the first of the first
take_both : (m n : ℕ) (l : List ℕ) → take m (take n l) ≡ take (min m n) l
take_both m n l = go (cases_lt n m)
  where
    go : (n < m) ⊎ (m ≤ n) → take m (take n l) ≡ take (min m n) l
    go (inl lt) =
        let less : n ≡ min m n = omega arith in
        take_all m (take n l) (omega (arith, length-take n l)) ∙ ap (λ k. take k l) less
    go (inr le) =
        let less : m ≡ min m n = omega arith in
        take-take m n l le ∙ ap (λ k. take k l) less

-- what is marked of what is shown
pub marked_is : (text : List ℕ) (at t to end : ℕ) (shown : List ℕ) → IsPart text at t (shown_after most text at) → end ≡ max (min t to) at →
    shown ≡ utf8_lossy (shown_bytes (take (end - at) (drop at text))) → shown ≡ marked_part text at to
unfolding marked_part
marked_is text at t to end shown p e is =
    let ordered = p.ordered in
    let wide : end - at ≡ min (to - at) (t - at) = omega (arith, e, ordered) in
    is ∙ ap (λ n. utf8_lossy (shown_bytes (take n (drop at text)))) wide
    ∙ ap (λ b. utf8_lossy (shown_bytes b)) (sym (take_both (to - at) (t - at) (drop at text)) ∙ ap (take (to - at)) p.part)
