-- The leaves of rows at a column are the rows with the or-patterns there taken apart.
use Rattle.std.proofs.Common.{◌≡◌, ℕ, zero, suc, ◌+◌, List, [], ◌∷◌, ◌++◌, map, Some, None, refl, ap, sym, ◌∙◌, arith, slice_get}
use Rattle.std.proofs.lemmas.List.{map-append}
use Rattle.std.proofs.lemmas.Grind.{flat_map-append}
use Rattle.match_model.specs.Rows.{Head, Choice, choices_of}
use Rattle.match_model.specs.Steps.{Replacement, expand_head, with_others, replacements_at, row_replaced}
use Rattle.pattern_matrix.specs.Sparse.{SparseLeaf, bare_head, head_at, heads_at}
use Rattle.pattern_matrix.specs.Spreading.{leaf_of, apart, all_apart}
use Rattle.pattern_matrix.proofs.Apart.{bare-bare, bare-heads_at}
use Rattle.pattern_matrix.specs.Counting.{WantedRow}
use Rattle.pattern_matrix.specs.Searching.{apart as taken_apart}
use Rattle.usefulness.specs.Frames.{SparseAsked, asked_view, asked_views, rows_of}
use Rattle.usefulness.specs.Children.{bare_wanted, bare_rows, leaf_wanted, leaves_wanted}

module _ {T : Type 0} (others : List ℕ) (xs : List (SparseAsked T)) (n : ℕ) (x : SparseAsked T) (here : slice_get xs n ≡ Some x) where
  -- the row with this head in front
  abbrev fronted : Head T → WantedRow T
  fronted h = record {
    row = record { heads = h ∷ heads_at x.row.heads others; arm = x.row.arm; guarded = x.row.guarded; chosen = x.row.chosen; caught = [] };
    wanted = x.wanted;
  }

  -- the row with these heads in place of that one
  abbrev replaced : Head T → Replacement T → WantedRow T
  replaced h y = record { row = row_replaced [] (fronted h).row y; wanted = x.wanted }

  -- what stands in place of the head for a choice
  abbrev chosen_heads : Choice T → Replacement T
  chosen_heads c = with_others (heads_at x.row.heads others) (record { heads = Some c.pat ∷ []; chosen = c.chosen; binds = c.binds })

  each_choice : (h : Head T) (cs : List (Choice T)) →
      leaves_wanted others xs (map (leaf_of n []) cs) ≡ bare_rows (map (replaced h) (map (with_others (heads_at x.row.heads others)) (map (λ c. record { heads = Some c.pat ∷ []; chosen = c.chosen; binds = c.binds }) cs)))
  each_choice h [] = refl
  each_choice h (c ∷ cs) =
      rw (here, bare-bare (Some c.pat), bare-heads_at x.row.heads others) (ap (λ ys. record { row = record { heads = bare_head (Some c.pat) ∷ heads_at x.row.heads others; arm = x.row.arm; guarded = x.row.guarded; chosen = x.row.chosen ++ c.chosen; caught = [] }; wanted = x.wanted } ∷ ys) (each_choice h cs))

  row_apart : (h : Head T) → leaves_wanted others xs (apart n h) ≡ bare_rows (map (replaced h) (replacements_at expand_head 0 (h ∷ heads_at x.row.heads others)))
  row_apart None = rw (here, bare-heads_at x.row.heads others) refl
  row_apart (Some p) = each_choice (Some p) (choices_of p)

leaves-append : {T : Type 0} (others : List ℕ) (xs : List (SparseAsked T)) (ls ms : List (SparseLeaf T)) →
    leaves_wanted others xs (ls ++ ms) ≡ leaves_wanted others xs ls ++ leaves_wanted others xs ms
leaves-append others xs ls ms = flat_map-append (leaf_wanted others xs) ls ms

apart_from : {T : Type 0} (column : ℕ) (others : List ℕ) (xs : List (SparseAsked T)) (n : ℕ) (more : List (SparseAsked T)) →
    ((i k : ℕ) → n + i ≡ k → slice_get xs k ≡ slice_get more i) →
    leaves_wanted others xs (all_apart column n (rows_of more)) ≡ bare_rows (taken_apart (asked_views (column ∷ others) more))
apart_from column others xs n [] get = refl
apart_from column others xs n (x ∷ more) get =
    let first = map (λ y. record { row = row_replaced [] (asked_view (column ∷ others) x).row y; wanted = x.wanted }) (replacements_at expand_head 0 (asked_view (column ∷ others) x).row.heads) in
    leaves-append others xs (apart n (head_at x.row.heads column)) (all_apart column (suc n) (rows_of more))
    ∙ ap (λ ys. ys ++ leaves_wanted others xs (all_apart column (suc n) (rows_of more))) (row_apart others xs n x (get zero n (omega arith)) (head_at x.row.heads column))
    ∙ ap (λ ys. bare_rows first ++ ys) (apart_from column others xs (suc n) more (λ i k e. get (suc i) k (omega arith)))
    ∙ sym (map-append bare_wanted first (taken_apart (asked_views (column ∷ others) more)))

-- the leaves of all rows
pub leaves_apart : {T : Type 0} (column : ℕ) (others : List ℕ) (xs : List (SparseAsked T)) →
    leaves_wanted others xs (all_apart column 0 (rows_of xs)) ≡ bare_rows (taken_apart (asked_views (column ∷ others) xs))
leaves_apart column others xs = apart_from column others xs 0 xs (λ i k e. let same : k ≡ i = omega arith in ap (slice_get xs) same)
