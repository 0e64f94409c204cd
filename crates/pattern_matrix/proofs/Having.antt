-- The leaves of a piece, and the rows that they give.
use Rattle.std.proofs.Common.{◌≡◌, ℕ, zero, suc, ◌+◌, ◌<◌, Bool, true, false, cond, List, [], ◌∷◌, ◌++◌, length, filter, map, Option, Some, None, slice_get, slice_index_or, refl, ap, sym, ◌∙◌, arith}
use Rattle.std.specs.List.{All, filter_map}
use Rattle.std.proofs.lemmas.List.Elements.{All-head, All-tail, filter_map-append}
use Rattle.std.specs.Option.{option_to_list}
use Rattle.std.proofs.lemmas.Grind.{flat_map-append}
use Rattle.match_model.specs.Constructors.{MCtor, WildCtor, OrCtor}
use Rattle.match_model.specs.ArenaPatterns.{de_pat}
use Rattle.match_model.specs.Places.{MStep}
use Rattle.match_model.specs.Rows.{Head as MHead, specialised_heads, first_ctor}
use Rattle.match_model.specs.Matrices.{MRow, row_with, first_binds, specialised_rows, column_ctors}
use Rattle.pattern_matrix.specs.Sparse.{SparseRow, SparseLeaf, bare_head, heads_at, leaf_row, leaf_view, leaf_views, leaves_listed, columns_from, head_has}
use Rattle.pattern_matrix.specs.Halving.{span_has, having, leaves_with, leaf_ctors, AreLeafSpans}

-- one leaf more: it is listed where it has the piece
one_more : {T : Type 0} (all : List (SparseLeaf T)) (n : ℕ) (l : SparseLeaf T) (numbers : List ℕ) (found : List (SparseLeaf T)) (b : Bool) →
    slice_get all n ≡ Some l → leaves_listed all numbers ≡ found →
    leaves_listed all (cond b (n ∷ numbers) numbers) ≡ cond b (l ∷ found) found
one_more all n l numbers found true e ih = rw e (ap (λ ls. l ∷ ls) ih)
one_more all n l numbers found false e ih = ih

listed_from : {T : Type 0} (pieces : List MCtor) (i : ℕ) (d : MCtor) → i < length pieces →
    (all : List (SparseLeaf T)) (whole : List (ℕ × ℕ)) (n : ℕ) (leaves : List (SparseLeaf T)) (spans : List (ℕ × ℕ)) →
    ((j k : ℕ) → n + j ≡ k → slice_get all k ≡ slice_get leaves j) → ((j k : ℕ) → n + j ≡ k → slice_get whole k ≡ slice_get spans j) →
    AreLeafSpans pieces leaves spans →
    leaves_listed all (having whole i (columns_from n (length spans))) ≡ filter (λ l. head_has (slice_index_or pieces i d) l.head) leaves
listed_from pieces i d h all whole n [] [] get get_span are = refl
listed_from pieces i d h all whole n (l ∷ leaves) (s ∷ spans) get get_span are =
    let numbers = having whole i (columns_from (suc n) (length spans)) in
    ap (λ b. leaves_listed all (cond b (n ∷ numbers) numbers)) (ap (span_has i) (get_span zero n (omega arith)) ∙ sym (are.0.each i d h))
    ∙ one_more all n l numbers (filter (λ x. head_has (slice_index_or pieces i d) x.head) leaves) (head_has (slice_index_or pieces i d) l.head) (get zero n (omega arith))
    (listed_from pieces i d h all whole (suc n) leaves spans (λ j k e. get (suc j) k (omega arith)) (λ j k e. get_span (suc j) k (omega arith)) are.1)
listed_from pieces i d h all whole n [] (s ∷ spans) get get_span are = absurd are
listed_from pieces i d h all whole n (l ∷ leaves) [] get get_span are = absurd are

-- the leaves that are listed for a piece are those that have it, in order
pub listed-with : {T : Type 0} (pieces : List MCtor) (i : ℕ) (d : MCtor) (leaves : List (SparseLeaf T)) (spans : List (ℕ × ℕ)) → i < length pieces →
    AreLeafSpans pieces leaves spans →
    leaves_listed leaves (leaves_with spans i) ≡ filter (λ l. head_has (slice_index_or pieces i d) l.head) leaves
listed-with pieces i d leaves spans h are =
    listed_from pieces i d h leaves spans 0 leaves spans (λ j k e. let same : k ≡ j = omega arith in ap (slice_get leaves) same) (λ j k e. let same : k ≡ j = omega arith in ap (slice_get spans) same) are

-- a head without the piece gives no row
no_row : {T : Type 0} (piece : MCtor) (n : ℕ) (h : MHead T) (hs : List (MHead T)) → head_has piece h ≡ false → specialised_heads piece n (bare_head h ∷ hs) ≡ []
no_row piece n None hs e = cc
no_row piece n (Some (de_pat WildCtor t uid at subs binds)) hs e = cc
no_row piece n (Some (de_pat OrCtor t uid at subs binds)) hs e = refl
no_row piece n (Some (de_pat c t uid at subs binds)) hs e = rw e refl

module _ {T : Type 0} (place : List MStep) (piece : MCtor) (n : ℕ) (others : List ℕ) (rows : List (SparseRow T)) where
  special-append : (xs ys : List (MRow T)) → specialised_rows place piece n (xs ++ ys) ≡ specialised_rows place piece n xs ++ specialised_rows place piece n ys
  special-append xs ys = flat_map-append (λ r. map (λ heads. row_with r heads [] (first_binds place r.heads)) (specialised_heads piece n r.heads)) xs ys

  no_rows : (l : SparseLeaf T) (o : Option (SparseRow T)) → head_has piece l.head ≡ false →
      specialised_rows place piece n (map (leaf_row others l) (option_to_list o)) ≡ []
  no_rows l None e = refl
  no_rows l (Some r) e = rw (no_row piece n l.head (heads_at r.heads others) e) refl

  one_kept : (l : SparseLeaf T) (leaves : List (SparseLeaf T)) (b : Bool) → head_has piece l.head ≡ b →
      specialised_rows place piece n (leaf_views others rows (filter (λ x. head_has piece x.head) leaves)) ≡ specialised_rows place piece n (leaf_views others rows leaves) →
      specialised_rows place piece n (leaf_views others rows (cond b (l ∷ filter (λ x. head_has piece x.head) leaves) (filter (λ x. head_has piece x.head) leaves)))
      ≡ specialised_rows place piece n (leaf_view others rows l ++ leaf_views others rows leaves)
  one_kept l leaves true e ih =
      special-append (leaf_view others rows l) (leaf_views others rows (filter (λ x. head_has piece x.head) leaves))
      ∙ ap (λ xs. specialised_rows place piece n (leaf_view others rows l) ++ xs) ih
      ∙ sym (special-append (leaf_view others rows l) (leaf_views others rows leaves))
  one_kept l leaves false e ih =
      ih ∙ sym (special-append (leaf_view others rows l) (leaf_views others rows leaves) ∙ ap (λ xs. xs ++ specialised_rows place piece n (leaf_views others rows leaves)) (no_rows l (slice_get rows l.row) e))

  -- the leaves that have the piece give all rows of it
  pub kept_rows : (leaves : List (SparseLeaf T)) →
      specialised_rows place piece n (leaf_views others rows (filter (λ l. head_has piece l.head) leaves)) ≡ specialised_rows place piece n (leaf_views others rows leaves)
  kept_rows [] = refl
  kept_rows (l ∷ leaves) = one_kept l leaves (head_has piece l.head) refl (kept_rows leaves)

-- the constructors of leaves are those of the column of the definitions
pub head_ctor : {T : Type 0} (h : MHead T) (hs : List (MHead T)) → first_ctor (h ∷ hs) ≡ first_ctor (h ∷ [])
head_ctor None hs = refl
head_ctor (Some (de_pat c t uid at subs binds)) hs = refl

pub one_ctor : {X Y : Type 0} (f : X → Option Y) (x : X) (o : Option Y) → f x ≡ o → filter_map f (x ∷ []) ≡ option_to_list o
one_ctor f x None e = rw e refl
one_ctor f x (Some y) e = rw e refl

pub got_some : {X : Type 0} (xs : List X) (i : ℕ) → i < length xs → (x : X) × (slice_get xs i ≡ Some x)
got_some [] i h = absurd (omega arith)
got_some (x ∷ xs) zero h = (x, refl)
got_some (x ∷ xs) (suc i) h = got_some xs i (omega arith)

pub column_is : {T : Type 0} (others : List ℕ) (rows : List (SparseRow T)) (leaves : List (SparseLeaf T)) → All (λ l. l.row < length rows) leaves →
    column_ctors (leaf_views others rows leaves) ≡ leaf_ctors leaves
column_is others rows [] h = refl
column_is {T} others rows (l ∷ leaves) h =
    let some = got_some rows l.row (All-head (λ x. x.row < length rows) l leaves h) in
    let hs = bare_head l.head ∷ heads_at some.0.heads others in
    let more = map (λ (r : MRow T). r.heads) (leaf_views others rows leaves) in
    rw some.1
    (filter_map-append first_ctor (hs ∷ []) more
    ∙ ap (λ cs. cs ++ column_ctors (leaf_views others rows leaves)) (one_ctor first_ctor hs (first_ctor (bare_head l.head ∷ [])) (head_ctor (bare_head l.head) (heads_at some.0.heads others)))
    ∙ ap (λ cs. option_to_list (first_ctor (bare_head l.head ∷ [])) ++ cs) (column_is others rows leaves (All-tail (λ x. x.row < length rows) l leaves h)))
