-- The rows of a piece and the rows without a column, as the definitions have them.
use Rattle.std.proofs.Common.{◌≡◌, ◌≢◌, ℕ, zero, suc, ◌+◌, ◌<◌, ◌≤◌, subst, Bool, not, List, [], ◌∷◌, ◌++◌, map, length, cond, Option, Some, None, refl, ap, sym, ◌∙◌, inl, inr, true, false, arith, append-nil, slice_get, nat_eq, get_or, drop, add-one}
use Rattle.std.proofs.Math.Seq.{drop-cons}
use Rattle.std.specs.List.{All}
use Rattle.std.specs.Option.{option_to_list}
use Rattle.std.proofs.lemmas.Bool.{ne_eqb}
use Rattle.std.proofs.lemmas.Bool.Decides.{eqb_tells}
use Rattle.std.proofs.lemmas.List.{map-append}
use Rattle.std.proofs.lemmas.Grind.{flat_map-append}
use Rattle.std.proofs.lemmas.List.Elements.{All-head, All-tail, All-filter}
use Rattle.match_model.specs.Constructors.{MCtor, WildCtor, OrCtor}
use Rattle.match_model.specs.ArenaPatterns.{MDePat, de_pat}
use Rattle.match_model.specs.Places.{MStep}
use Rattle.match_model.specs.Rows.{Head as MHead, is_wild, specialised_heads, row_rest}
use Rattle.match_model.specs.Matrices.{MRow, row_with, first_binds, first_wild, specialised_rows, default_rows}
use Rattle.match_model.proofs.Basics.{nat_itself}
use Rattle.pattern_matrix.specs.Sparse.{SparseRow, SparseLeaf, bare_head, bare_row, head_at, heads_at, row_view, row_views, leaf_row, leaf_view, leaf_views, columns_from, listed, without, AreHeadsBelow, AreBelow, leaf_parts, head_has, IsLeafOf, AreOthers, Lacks, leaves_listed}
use Rattle.pattern_matrix.specs.Opening.{opened_row, opened_leaf, opened_rows, dropped_row, dropped_leaf, dropped_rows}
use Rattle.pattern_matrix.proofs.Apart.{bare-heads_at}

-- below the columns of all heads stands none, and so above
below_none : {T : Type 0} (heads : List (ℕ × MDePat T)) (n c : ℕ) → AreHeadsBelow n heads → n ≤ c → head_at heads c ≡ None
below_none [] n c h l = refl
below_none (x ∷ heads) n c h l =
    let lower = All-head (λ y. y.0 < n) x heads h in
    rw (ne_eqb x.0 c (λ e. omega arith)) (below_none heads n c (All-tail (λ y. y.0 < n) x heads h) l)

-- a head at another column is passed over
passed : {T : Type 0} (x : ℕ × MDePat T) (heads : List (ℕ × MDePat T)) (c : ℕ) → x.0 ≢ c → head_at (x ∷ heads) c ≡ head_at heads c
passed x heads c ne = rw (ne_eqb x.0 c ne) refl

-- heads that begin behind the column are passed over
listed_passed : {T : Type 0} (first c : ℕ) (hs : List (MHead T)) (rest : List (ℕ × MDePat T)) → c < first → head_at (listed first hs ++ rest) c ≡ head_at rest c
listed_passed first c [] rest l = refl
listed_passed first c (None ∷ hs) rest l = listed_passed (suc first) c hs rest (omega arith)
listed_passed {T} first c (Some p ∷ hs) rest l = go (is_wild (Some p)) (listed_passed (suc first) c hs rest (omega arith))
  where
    go : (b : Bool) → head_at (listed (suc first) hs ++ rest) c ≡ head_at rest c →
        head_at ((cond b [] ((first, p) ∷ []) ++ listed (suc first) hs) ++ rest) c ≡ head_at rest c
    go true e = e
    go false e = passed (first, p) (listed (suc first) hs ++ rest) c (λ same. omega arith) ∙ e

-- a head before the columns is passed over at all of them
columns_passed : {T : Type 0} (x : ℕ × MDePat T) (heads : List (ℕ × MDePat T)) (start n : ℕ) → x.0 < start →
    heads_at (x ∷ heads) (columns_from start n) ≡ heads_at heads (columns_from start n)
columns_passed x heads start zero l = refl
columns_passed x heads start (suc n) l =
    ap (λ h. h ∷ heads_at (x ∷ heads) (columns_from (suc start) n)) (passed x heads start (λ same. omega arith))
    ∙ ap (λ hs. head_at heads start ∷ hs) (columns_passed x heads (suc start) n (omega arith))

pub more_below : {T : Type 0} (n m : ℕ) (heads : List (ℕ × MDePat T)) → n ≤ m → AreHeadsBelow n heads → AreHeadsBelow m heads
more_below n m heads l h = λ k d lt. let b = h k d lt in omega arith

-- so does the first of them, which may be a wildcard
some_stands : {T : Type 0} (first : ℕ) (p : MDePat T) (hs : List (MHead T)) (rest : List (ℕ × MDePat T)) → AreHeadsBelow first rest →
    heads_at (listed (suc first) hs ++ rest) (columns_from (suc first) (length hs)) ≡ map bare_head hs → (b : Bool) → is_wild (Some p) ≡ b →
    heads_at ((cond b [] ((first, p) ∷ []) ++ listed (suc first) hs) ++ rest) (first ∷ columns_from (suc first) (length hs)) ≡ cond b None (Some p) ∷ map bare_head hs
some_stands first p hs rest below tail true e =
    ap (λ h. h ∷ heads_at (listed (suc first) hs ++ rest) (columns_from (suc first) (length hs))) (listed_passed (suc first) first hs rest (omega arith) ∙ below_none rest first first below (omega arith))
    ∙ ap (λ xs. None ∷ xs) tail
some_stands first p hs rest below tail false e =
    ap (λ h. h ∷ heads_at ((first, p) ∷ (listed (suc first) hs ++ rest)) (columns_from (suc first) (length hs))) (rw (nat_itself first, e) refl)
    ∙ ap (λ xs. Some p ∷ xs) (columns_passed (first, p) (listed (suc first) hs ++ rest) (suc first) (length hs) (omega arith) ∙ tail)

-- listed heads stand at their columns
listed_stand : {T : Type 0} (first : ℕ) (hs : List (MHead T)) (rest : List (ℕ × MDePat T)) → AreHeadsBelow first rest →
    heads_at (listed first hs ++ rest) (columns_from first (length hs)) ≡ map bare_head hs
listed_stand first [] rest below = refl
listed_stand first (None ∷ hs) rest below =
    ap (λ h. h ∷ heads_at (listed (suc first) hs ++ rest) (columns_from (suc first) (length hs))) (listed_passed (suc first) first hs rest (omega arith) ∙ below_none rest first first below (omega arith))
    ∙ ap (λ xs. None ∷ xs) (listed_stand (suc first) hs rest (more_below first (suc first) rest (omega arith) below))
listed_stand first (Some p ∷ hs) rest below = some_stands first p hs rest below (listed_stand (suc first) hs rest (more_below first (suc first) rest (omega arith) below)) (is_wild (Some p)) refl

-- without the heads of one column the others stand where they stood
without_stand : {T : Type 0} (column c : ℕ) (heads : List (ℕ × MDePat T)) → c ≢ column → head_at (without column heads) c ≡ head_at heads c
without_stand column c [] ne = refl
without_stand {T} column c (x ∷ heads) ne = elim (eqb_tells x.0 column) [
  | inl same ↦ rw (same.0) (without_stand column c heads ne ∙ sym (passed x heads c (λ e. ne (sym e ∙ same.1))))
  | inr other ↦ rw (other.0) (ap (λ h. cond (nat_eq x.0 c) (bare_head (Some x.1)) h) (without_stand column c heads ne))
]

-- the parts' columns and the others after a piece is entered
others_stand : {T : Type 0} (column first : ℕ) (hs : List (MHead T)) (heads : List (ℕ × MDePat T)) (others : List ℕ) → AreOthers column first others →
    heads_at (listed first hs ++ without column heads) others ≡ heads_at heads others
others_stand column first hs heads [] h = refl
others_stand column first hs heads (c ∷ others) h =
    let here = All-head (λ d. (d < first) × (d ≢ column)) c others h in
    ap (λ x. x ∷ heads_at (listed first hs ++ without column heads) others) (listed_passed first c hs (without column heads) here.0 ∙ without_stand column c heads here.1)
    ∙ ap (λ xs. head_at heads c ∷ xs) (others_stand column first hs heads others (All-tail (λ d. (d < first) × (d ≢ column)) c others h))

-- the heads at the other columns without those of one
left_stand : {T : Type 0} (column : ℕ) (heads : List (ℕ × MDePat T)) (others : List ℕ) → Lacks column others →
    heads_at (without column heads) others ≡ heads_at heads others
left_stand column heads [] h = refl
left_stand column heads (c ∷ others) h =
    ap (λ x. x ∷ heads_at (without column heads) others) (without_stand column c heads (All-head (λ d. d ≢ column) c others h))
    ∙ ap (λ xs. head_at heads c ∷ xs) (left_stand column heads others (All-tail (λ d. d ≢ column) c others h))

-- what is left of heads below a number is below it
pub without_below : {T : Type 0} (column first : ℕ) (heads : List (ℕ × MDePat T)) → AreHeadsBelow first heads → AreHeadsBelow first (without column heads)
without_below column first heads h = All-filter (λ x. not (nat_eq x.0 column)) (λ x. x.0 < first) heads h

-- the one row of a leaf whose head has the piece
pub special_one : {T : Type 0} (piece : MCtor) (n : ℕ) (h : MHead T) (hs : List (MHead T)) → head_has piece h ≡ true →
    specialised_heads piece n (bare_head h ∷ hs) ≡ (leaf_parts n h ++ hs) ∷ []
special_one piece n None hs e = refl
special_one piece n (Some (de_pat WildCtor t uid at subs binds)) hs e = refl
special_one piece n (Some (de_pat OrCtor t uid at subs binds)) hs e = cc
special_one piece n (Some (de_pat c t uid at subs binds)) hs e = rw e refl

-- what holds of each holds of the one that is got
pub at_get : {X : Type 0} (P : X → Type 0) (xs : List X) (i : ℕ) (x : X) → All P xs → slice_get xs i ≡ Some x → P x
at_get P [] i x h e = cc
at_get P (y ∷ ys) zero x h e = let same : y ≡ x = cc in subst P same (All-head P y ys h)
at_get P (y ∷ ys) (suc i) x h e = at_get P ys i x (All-tail P y ys h) e

module _ {T : Type 0} (place : List MStep) (piece : MCtor) (column first count : ℕ) (others : List ℕ) (apart : AreOthers column first others) where
  -- all heads of an opened row
  pub opened_heads : (l : SparseLeaf T) (r : SparseRow T) → length (leaf_parts count l.head) ≡ count → AreHeadsBelow first r.heads →
      heads_at (listed first (leaf_parts count l.head) ++ without column r.heads) (columns_from first count ++ others) ≡ map bare_head (leaf_parts count l.head ++ heads_at r.heads others)
  opened_heads l r many below =
      let rest = without column r.heads in
      let hs = leaf_parts count l.head in
      map-append (head_at (listed first hs ++ rest)) (columns_from first count) others
      ∙ ap (λ xs. xs ++ heads_at (listed first hs ++ rest) others)
      (ap (λ n. heads_at (listed first hs ++ rest) (columns_from first n)) (sym many) ∙ listed_stand first hs rest (without_below column first r.heads below))
      ∙ ap (λ xs. map bare_head hs ++ xs) (others_stand column first hs r.heads others apart ∙ sym (bare-heads_at r.heads others))
      ∙ sym (map-append bare_head hs (heads_at r.heads others))

  -- an opened row is the specialised row
  opened_view : (l : SparseLeaf T) (r : SparseRow T) → IsLeafOf piece count l → AreHeadsBelow first r.heads →
      row_view (columns_from first count ++ others) (opened_row column first count l r) ∷ [] ≡ map bare_row (specialised_rows place piece count (leaf_row others l r ∷ []))
  opened_view l r is below =
      rw (special_one piece count l.head (heads_at r.heads others) is.has, opened_heads l r is.parts below, append-nil (r.chosen ++ l.chosen)) refl

  one_opened : (rows : List (SparseRow T)) (l : SparseLeaf T) (o : Option (SparseRow T)) → ((r : SparseRow T) → o ≡ Some r → AreHeadsBelow first r.heads) →
      IsLeafOf piece count l →
      row_views (columns_from first count ++ others) (map (opened_row column first count l) (option_to_list o)) ≡ map bare_row (specialised_rows place piece count (map (leaf_row others l) (option_to_list o)))
  one_opened rows l None below is = refl
  one_opened rows l (Some r) below is = opened_view l r is (below r refl)

  pub opened_views : (rows : List (SparseRow T)) (leaves : List (SparseLeaf T)) → AreBelow first rows → All (IsLeafOf piece count) leaves →
      row_views (columns_from first count ++ others) (opened_rows column first count rows leaves) ≡ map bare_row (specialised_rows place piece count (leaf_views others rows leaves))
  opened_views rows [] below are = refl
  opened_views rows (l ∷ leaves) below are =
      let view = row_view (columns_from first count ++ others) in
      map-append view (opened_leaf column first count rows l) (opened_rows column first count rows leaves)
      ∙ ap (λ xs. xs ++ map view (opened_rows column first count rows leaves))
      (one_opened rows l (slice_get rows l.row) (λ r e. at_get (λ x. AreHeadsBelow first x.heads) rows l.row r below e) (All-head (IsLeafOf piece count) l leaves are))
      ∙ ap (λ xs. map bare_row (specialised_rows place piece count (leaf_view others rows l)) ++ xs) (opened_views rows leaves below (All-tail (IsLeafOf piece count) l leaves are))
      ∙ sym (map-append bare_row (specialised_rows place piece count (leaf_view others rows l)) (specialised_rows place piece count (leaf_views others rows leaves)))
      ∙ ap (map bare_row) (sym (special-append (leaf_view others rows l) (leaf_views others rows leaves)))
    where
      special-append : (xs ys : List (MRow T)) → specialised_rows place piece count (xs ++ ys) ≡ specialised_rows place piece count xs ++ specialised_rows place piece count ys
      special-append xs ys = flat_map-append (λ r. map (λ heads. row_with r heads [] (first_binds place r.heads)) (specialised_heads piece count r.heads)) xs ys

module _ {T : Type 0} (place : List MStep) (column : ℕ) (others : List ℕ) (apart : Lacks column others) where
  -- the other heads stand where they stood
  pub left_heads : (r : SparseRow T) → heads_at (without column r.heads) others ≡ map bare_head (heads_at r.heads others)
  left_heads r = left_stand column r.heads others apart ∙ sym (bare-heads_at r.heads others)

  one_dropped : (l : SparseLeaf T) (r : SparseRow T) (b : Bool) → is_wild l.head ≡ b →
      row_views others (cond b (dropped_row column l r ∷ []) []) ≡ map bare_row (default_rows place (record (leaf_row others l r) { heads = cond b None l.head ∷ heads_at r.heads others } ∷ []))
  one_dropped l r true e = rw (left_heads r, append-nil (r.chosen ++ l.chosen)) refl
  one_dropped l r false e = rw e refl

  each_dropped : (l : SparseLeaf T) (o : Option (SparseRow T)) →
      row_views others (cond (is_wild l.head) (map (dropped_row column l) (option_to_list o)) []) ≡ map bare_row (default_rows place (map (leaf_row others l) (option_to_list o)))
  each_dropped l None = none (is_wild l.head)
    where
      none : (b : Bool) → row_views others (cond b (map (dropped_row column l) []) []) ≡ []
      none true = refl
      none false = refl
  each_dropped l (Some r) = one_dropped l r (is_wild l.head) refl

  pub dropped_views : (rows : List (SparseRow T)) (leaves : List (SparseLeaf T)) →
      row_views others (dropped_rows column rows leaves) ≡ map bare_row (default_rows place (leaf_views others rows leaves))
  dropped_views rows [] = refl
  dropped_views rows (l ∷ leaves) =
      map-append (row_view others) (dropped_leaf column rows l) (dropped_rows column rows leaves)
      ∙ ap (λ xs. xs ++ row_views others (dropped_rows column rows leaves)) (each_dropped l (slice_get rows l.row))
      ∙ ap (λ xs. map bare_row (default_rows place (leaf_view others rows l)) ++ xs) (dropped_views rows leaves)
      ∙ sym (map-append bare_row (default_rows place (leaf_view others rows l)) (default_rows place (leaf_views others rows leaves)))
      ∙ ap (map bare_row) (sym (default-append (leaf_view others rows l) (leaf_views others rows leaves)))
    where
      default-append : (xs ys : List (MRow T)) → default_rows place (xs ++ ys) ≡ default_rows place xs ++ default_rows place ys
      default-append xs ys = flat_map-append (λ r. cond (first_wild r) (row_with r (row_rest r.heads) [] (first_binds place r.heads) ∷ []) []) xs ys

-- one leaf more is opened
pub opened_more : {T : Type 0} (column first count : ℕ) (rows : List (SparseRow T)) (leaves : List (SparseLeaf T)) (numbers : List ℕ) (i : ℕ) (l : SparseLeaf T) → i < length numbers →
    slice_get leaves (get_or numbers i 0) ≡ Some l →
    opened_rows column first count rows (leaves_listed leaves (drop i numbers)) ≡ opened_leaf column first count rows l ++ opened_rows column first count rows (leaves_listed leaves (drop (i + 1) numbers))
opened_more column first count rows leaves numbers i l h e = rw (add-one, drop-cons numbers i 0, e) refl
