-- Rows over columns, each with whether it is wanted.
use Rattle.std.proofs.Common.{◌≡◌, ℕ, zero, suc, ◌+◌, ◌<◌, Bool, true, ◌&&◌, List, [], ◌∷◌, ◌++◌, map, length, replicate, refl, sym, ap, ◌∙◌, arith, length-append}
use Rattle.std.specs.List.{All, list_all}
use Rattle.std.specs.Option.{option_to_list}
use Rattle.std.proofs.lemmas.List.{map-append, length-map}
use Rattle.std.proofs.lemmas.List.Elements.{All-head, All-tail}
use Rattle.match_model.specs.ArenaPatterns.{MDePat, MDeArm}
use Rattle.match_model.specs.Rows.{is_wild}
use Rattle.match_model.specs.Matrices.{MRow, first_rows}
use Rattle.pattern_matrix.specs.HeadRows.{all_heads}
use Rattle.pattern_matrix.specs.Counting.{all_wanted, row_behind}
use Rattle.pattern_matrix.specs.Searching.{heads_in}
use Rattle.pattern_matrix.specs.Sparse.{SparseRow, SparseLeaf, bare_row, head_at, heads_at, row_view, row_views, leaves_listed}
use Rattle.pattern_matrix.specs.Opening.{opened_row, opened_rows}
use Rattle.pattern_matrix.specs.Starting.{starting_rows}
use Rattle.pattern_matrix.specs.Wanted.{wanted_views, bare_wanted}
use Rattle.pattern_matrix.specs.ListedSteps.{behind_row, ViewsAreListed}
use Rattle.pattern_matrix.proofs.Having.{got_some}
use Rattle.pattern_matrix.proofs.Starting.{rows_stand}

heads_viewed : {T : Type 0} (columns : List ℕ) (wanted : List Bool) (rows : List (SparseRow T)) → length wanted ≡ length rows →
    heads_in (wanted_views columns wanted rows) ≡ all_heads (row_views columns rows)
heads_viewed columns wanted [] e = refl
heads_viewed columns [] (r ∷ rows) e = absurd (omega (arith, e))
heads_viewed columns (w ∷ wanted) (r ∷ rows) e = ap (λ hss. heads_at r.heads columns ∷ hss) (heads_viewed columns wanted rows (omega (arith, e)))

views_push : {T : Type 0} (columns : List ℕ) (wanted : List Bool) (rows : List (SparseRow T)) (w : Bool) (r : SparseRow T) → length wanted ≡ length rows →
    wanted_views columns (wanted ++ w ∷ []) (rows ++ r ∷ []) ≡ wanted_views columns wanted rows ++ record { row = row_view columns r; wanted = w } ∷ []
views_push columns [] [] w r e = refl
views_push columns (x ∷ wanted) [] w r e = absurd (omega (arith, e))
views_push columns [] (y ∷ rows) w r e = absurd (omega (arith, e))
views_push columns (x ∷ wanted) (y ∷ rows) w r e = ap (λ xs. record { row = row_view columns y; wanted = x } ∷ xs) (views_push columns wanted rows w r (omega (arith, e)))

nothing_at : {T : Type 0} (heads : List (ℕ × MDePat T)) → heads ≡ [] → (columns : List ℕ) → list_all is_wild (heads_at heads columns) ≡ true
nothing_at heads e [] = refl
nothing_at heads e (c ∷ columns) = ap (λ hs. is_wild (head_at hs c) && list_all is_wild (heads_at heads columns)) e ∙ nothing_at heads e columns

opened_long : {T : Type 0} (column first count : ℕ) (rows : List (SparseRow T)) (leaves : List (SparseLeaf T)) → All (λ l. l.row < length rows) leaves →
    length (opened_rows column first count rows leaves) ≡ length leaves
opened_long column first count rows [] h = refl
opened_long column first count rows (l ∷ leaves) h =
    let (r, g) = got_some rows l.row (All-head (λ x. x.row < length rows) l leaves h) in
    ap (λ o. length (map (opened_row column first count l) (option_to_list o) ++ opened_rows column first count rows leaves)) g
    ∙ ap suc (opened_long column first count rows leaves (All-tail (λ x. x.row < length rows) l leaves h))

listed_long : {T : Type 0} (leaves : List (SparseLeaf T)) (numbers : List ℕ) → All (λ k. k < length leaves) numbers →
    length (leaves_listed leaves numbers) ≡ length numbers
listed_long leaves [] h = refl
listed_long leaves (k ∷ numbers) h =
    let (l, g) = got_some leaves k (All-head (λ k. k < length leaves) k numbers h) in
    ap (λ o. length (option_to_list o ++ leaves_listed leaves numbers)) g ∙ ap suc (listed_long leaves numbers (All-tail (λ k. k < length leaves) k numbers h))

-- ---- the first submatrix

bare_wanteds : {T : Type 0} (rows : List (MRow T)) → map bare_wanted (all_wanted rows) ≡ all_wanted (map bare_row rows)
bare_wanteds [] = refl
bare_wanteds (r ∷ rows) = ap (λ xs. record { row = bare_row r; wanted = true } ∷ xs) (bare_wanteds rows)

all_viewed : {T : Type 0} (columns : List ℕ) (n : ℕ) (rows : List (SparseRow T)) → n ≡ length rows →
    wanted_views columns (replicate n true) rows ≡ all_wanted (row_views columns rows)
all_viewed columns n [] e = refl
all_viewed columns zero (r ∷ rows) e = absurd (omega (arith, e))
all_viewed columns (suc n) (r ∷ rows) e = ap (λ xs. record { row = row_view columns r; wanted = true } ∷ xs) (all_viewed columns n rows (omega (arith, e)))

starting_long : {T : Type 0} (j : ℕ) (arms : List (MDeArm T)) → length (starting_rows j arms) ≡ length arms
starting_long j [] = refl
starting_long j (a ∷ arms) = ap suc (starting_long (suc j) arms)

rows_asked : {T : Type 0} (arms : List (MDeArm T)) →
    map bare_wanted (all_wanted (first_rows 0 arms ++ row_behind (length arms) ∷ [])) ≡ wanted_views (0 ∷ []) (replicate (length arms + 1) true) (starting_rows 0 arms ++ behind_row (length arms) ∷ [])
rows_asked {T} arms =
    let last : MRow T = row_behind (length arms) in
    let behind : SparseRow T = behind_row (length arms) in
    bare_wanteds (first_rows 0 arms ++ last ∷ [])
    ∙ ap all_wanted
    (map-append bare_row (first_rows 0 arms) (last ∷ [])
    ∙ ap (λ rs. rs ++ row_view (0 ∷ []) behind ∷ []) (sym (rows_stand 0 arms))
    ∙ sym (map-append (row_view (0 ∷ [])) (starting_rows 0 arms) (behind ∷ [])))
    ∙ sym (all_viewed (0 ∷ []) (length arms + 1) (starting_rows 0 arms ++ behind ∷ []) (let a = length-append (starting_rows 0 arms) (behind ∷ []) in let b = starting_long 0 arms in omega (arith, a, b)))

pub views_listed : {T : Type 0} → ViewsAreListed T
views_listed = record {
  heads = heads_viewed;
  push = views_push;
  long = λ columns r. length-map columns (head_at r.heads);
  bare = λ columns r e. nothing_at r.heads e columns;
  opened = opened_long;
  listed = listed_long;
  first = λ m. ap (λ rs. record { places = record { type = m.type; sure = m.sure } ∷ []; rows = rs }) (rows_asked m.arms);
}
