-- Parts of lists of heads.
use Rattle.std.proofs.Common.{◌≡◌, ◌≤◌, ◌+◌, ◌-◌, ℕ, List, ◌++◌, length, take, drop, ap, sym, ◌∙◌, arith, append-nil, drop-drop, take-take, take_all}
use Rattle.std.proofs.lemmas.List.{drop-take, length-take, nil_from_length}
use Rattle.pattern_matrix.specs.declared.rows.Head.{Head}
use Rattle.pattern_matrix.specs.Sparse.{without}
use Rattle.pattern_matrix.specs.Views.{plain_heads}

-- a part has at most as many items as are asked for
pub part_short : {X : Type 0} (n : ℕ) (xs : List X) → length (take n xs) ≤ n
part_short n xs = omega (arith, length-take n xs)

-- a part of a part
pub part_of_part : {X : Type 0} (xs : List X) (first count start many : ℕ) → start + many ≤ length (take count (drop first xs)) →
    take many (drop (first + start) xs) ≡ take many (drop start (take count (drop first xs)))
part_of_part xs first count start many within =
    let ys = drop first xs in
    let rest = count - start in
    let whole : start + rest ≡ count = omega (arith, length-take count ys) in
    ap (take many) (sym (drop-drop start first xs))
    ∙ sym (take-take many rest (drop start ys) (omega (arith, length-take count ys)))
    ∙ ap (take many) (sym (drop-take start rest ys) ∙ ap (λ n. drop start (take n ys)) whole)

-- where nothing stands behind the first head at a column, the heads before it are left
pub front_left : {T : Type 0} (column before : ℕ) (heads : List (Head T)) →
    without column (plain_heads heads) ≡ plain_heads (take before heads) ++ without column (plain_heads (drop (before + 1) heads)) →
    length (drop (before + 1) heads) ≡ 0 → plain_heads (take before heads) ≡ without column (plain_heads heads)
front_left column before heads others none =
    sym (append-nil (plain_heads (take before heads)))
    ∙ sym (ap (λ hs. plain_heads (take before heads) ++ without column (plain_heads hs)) (nil_from_length (drop (before + 1) heads) none))
    ∙ sym others

-- where the first head alone stands at a column, those behind it are left
pub back_left : {T : Type 0} (column : ℕ) (heads rest : List (Head T)) →
    without column (plain_heads heads) ≡ plain_heads (take 0 heads) ++ without column (plain_heads (drop 1 heads)) → rest ≡ drop 1 heads →
    without column (plain_heads rest) ≡ plain_heads rest → plain_heads (take (length rest) (drop 1 heads)) ≡ without column (plain_heads heads)
back_left column heads rest others is free =
    ap (λ hs. plain_heads (take (length rest) hs)) (sym is) ∙ ap plain_heads (take_all (length rest) rest (omega arith)) ∙ sym free
    ∙ ap (λ hs. without column (plain_heads hs)) is ∙ sym others

pub ruleset parts = (part_short, part_of_part)

pub ruleset lefts = (front_left, back_left)
