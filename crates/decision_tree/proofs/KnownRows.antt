-- Known rows, each with its part of the heads.
use Rattle.std.proofs.Common.{◌≡◌, ◌≤◌, ℕ, ◌+◌, List, [], ◌∷◌, ◌++◌, take, drop, length, ap, ◌∙◌, arith, length-drop}
use Rattle.std.proofs.lemmas.List.{take_all, take-append-le}
use Rattle.keyed_matrix.proofs.HeadRuns.{drop-before}
use Rattle.decision_tree.specs.declared.known.KnownHeads.{KnownHeads}
use Rattle.decision_tree.specs.declared.known.KnownRow.{KnownRow}
use Rattle.decision_tree.specs.KnownViews.{plain_known_row, plain_known_rows}

-- how many of the heads the rows have
abbrev pub size_all : List KnownRow → ℕ
size_all [] = 0
size_all (r ∷ rows) = r.size + size_all rows

pub size-more : (rows : List KnownRow) (r : KnownRow) → size_all (rows ++ r ∷ []) ≡ size_all rows + r.size
size-more [] r = omega arith
size-more (x ∷ rows) r = let rest = size-more rows r in omega (arith, rest)

-- one row more, with its heads behind those of the others
pub rows-more : (rows : List KnownRow) (heads more : List KnownHeads) (r : KnownRow) → length heads ≡ size_all rows →
    r.size ≡ length more → plain_known_rows (heads ++ more) (rows ++ r ∷ [])
    ≡ plain_known_rows heads rows ++ plain_known_row more r ∷ []
rows-more [] [] more r e l =
    let long : length more ≤ r.size = omega (arith, l) in
    ap (λ hs. plain_known_row hs r ∷ []) (take_all r.size more long)
rows-more [] (h ∷ heads) more r e l = absurd (omega (arith, e))
rows-more (x ∷ rows) heads more r e l =
    let within : x.size ≤ length heads = omega (arith, e) in
    let left = length-drop x.size heads in
    let here : take x.size (heads ++ more) ≡ take x.size heads = take-append-le x.size heads more within in
    let behind : drop x.size (heads ++ more) ≡ drop x.size heads ++ more = drop-before heads more x.size within in
    let rest : plain_known_rows (drop x.size (heads ++ more)) (rows ++ r ∷ [])
    ≡ plain_known_rows (drop x.size heads) rows ++ plain_known_row more r ∷ [] =
    ap (λ hs. plain_known_rows hs (rows ++ r ∷ [])) behind
    ∙ rows-more rows (drop x.size heads) more r (omega (arith, left, e)) l in
    λ k. plain_known_row (here k) x ∷ rest k
