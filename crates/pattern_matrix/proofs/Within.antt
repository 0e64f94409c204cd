-- At which columns the heads stand that the steps list.
use Rattle.std.proofs.Common.{◌≡◌, ◌≢◌, ℕ, zero, suc, ◌+◌, ◌<◌, Bool, true, false, List, [], ◌∷◌, ◌++◌, map, length, cond, Option, Some, None, slice_get, refl, sym, subst, inl, inr, arith}
use Rattle.std.specs.List.{flat_map, All, Contains}
use Rattle.std.specs.Option.{option_to_list}
use Rattle.std.proofs.lemmas.Bool.Decides.{eqb_tells}
use Rattle.std.proofs.lemmas.List.Elements.{All-head, All-tail, All-nil, All-cons, All-append, Contains-append_left, Contains-append_right}
use Rattle.match_model.specs.ArenaPatterns.{MDePat, MDeArm}
use Rattle.match_model.specs.Rows.{Head as MHead, is_wild}
use Rattle.pattern_matrix.specs.Sparse.{SparseRow, SparseLeaf, columns_from, listed, without, AreHeadsBelow, AreBelow, AreHeadsOver, AreOver, leaf_parts, leaves_listed, AreParts}
use Rattle.pattern_matrix.specs.Opening.{opened_row, opened_rows, dropped_row, dropped_leaf, dropped_rows}
use Rattle.pattern_matrix.specs.Starting.{starting_row, starting_rows}
use Rattle.pattern_matrix.proofs.Opened.{at_get, more_below, without_below}

contains_here : (c : ℕ) (cs : List ℕ) → Contains (c ∷ cs) c
contains_here c cs = (zero, omega arith, refl)

pub contains_there : (c d : ℕ) (cs : List ℕ) → Contains cs d → Contains (c ∷ cs) d
contains_there c d cs (k, l, e) = (suc k, omega (arith, l), e)

contains_other : (c d : ℕ) (cs : List ℕ) → Contains (c ∷ cs) d → d ≢ c → Contains cs d
contains_other c d cs (zero, l, e) ne = absurd (ne (sym e))
contains_other c d cs (suc k, l, e) ne = (k, omega (arith, l), e)

-- each element has what follows of what it has
pub all_more : {X : Type 0} (P Q : X → Type 0) (xs : List X) → ((x : X) → P x → Q x) → All P xs → All Q xs
all_more P Q [] f h = All-nil Q
all_more P Q (x ∷ xs) f h = All-cons Q x xs (f x (All-head P x xs h)) (all_more P Q xs f (All-tail P x xs h))

-- ---- heads

pub more_over : {T : Type 0} (cs ds : List ℕ) (heads : List (ℕ × MDePat T)) → ((c : ℕ) → Contains cs c → Contains ds c) → AreHeadsOver cs heads →
    AreHeadsOver ds heads
more_over cs ds heads f h = all_more (λ x. Contains cs x.0 × (is_wild (Some x.1) ≡ false)) (λ x. Contains ds x.0 × (is_wild (Some x.1) ≡ false)) heads (λ x k. (f x.0 k.0, k.1)) h

-- the listed heads stand at the columns from the first on, and are no wildcards
listed_over : {T : Type 0} (first : ℕ) (hs : List (MHead T)) → AreHeadsOver (columns_from first (length hs)) (listed first hs)
listed_over {T} first [] = All-nil (λ (x : ℕ × MDePat T). Contains [] x.0 × (is_wild (Some x.1) ≡ false))
listed_over first (None ∷ hs) = more_over (columns_from (suc first) (length hs)) (first ∷ columns_from (suc first) (length hs)) (listed (suc first) hs) (λ c. contains_there first c (columns_from (suc first) (length hs))) (listed_over (suc first) hs)
listed_over {T} first (Some p ∷ hs) = go (is_wild (Some p)) refl (more_over (columns_from (suc first) (length hs)) (first ∷ columns_from (suc first) (length hs)) (listed (suc first) hs) (λ c. contains_there first c (columns_from (suc first) (length hs))) (listed_over (suc first) hs))
  where
    go : (b : Bool) → is_wild (Some p) ≡ b → AreHeadsOver (first ∷ columns_from (suc first) (length hs)) (listed (suc first) hs) →
        AreHeadsOver (first ∷ columns_from (suc first) (length hs)) (cond b [] ((first, p) ∷ []) ++ listed (suc first) hs)
    go true e h = h
    go false e h = All-cons (λ x. Contains (first ∷ columns_from (suc first) (length hs)) x.0 × (is_wild (Some x.1) ≡ false)) (first, p) (listed (suc first) hs) (contains_here first (columns_from (suc first) (length hs)), e) h

-- the other heads stand at the other columns
pub without_over : {T : Type 0} (column : ℕ) (others : List ℕ) (heads : List (ℕ × MDePat T)) → AreHeadsOver (column ∷ others) heads →
    AreHeadsOver others (without column heads)
without_over {T} column others [] h = All-nil (λ (x : ℕ × MDePat T). Contains others x.0 × (is_wild (Some x.1) ≡ false))
without_over {T} column others (x ∷ heads) h =
    let one = All-head (λ y. Contains (column ∷ others) y.0 × (is_wild (Some y.1) ≡ false)) x heads h in
    let rest = without_over column others heads (All-tail (λ y. Contains (column ∷ others) y.0 × (is_wild (Some y.1) ≡ false)) x heads h) in
    elim (eqb_tells x.0 column) [
      | inl same ↦ rw (same.0) rest
      | inr other ↦ rw (other.0) (All-cons (λ y. Contains others y.0 × (is_wild (Some y.1) ≡ false)) x (without column heads) (contains_other column x.0 others one.0 other.1, one.1) rest)
    ]

listed_below : {T : Type 0} (first : ℕ) (hs : List (MHead T)) → AreHeadsBelow (first + length hs) (listed first hs)
listed_below first [] = All-nil (λ x. x.0 < first + 0)
listed_below first (None ∷ hs) = more_below (suc first + length hs) (first + suc (length hs)) (listed (suc first) hs) (omega arith) (listed_below (suc first) hs)
listed_below {T} first (Some p ∷ hs) = go (is_wild (Some p)) (more_below (suc first + length hs) (first + suc (length hs)) (listed (suc first) hs) (omega arith) (listed_below (suc first) hs))
  where
    go : (b : Bool) → AreHeadsBelow (first + suc (length hs)) (listed (suc first) hs) →
        AreHeadsBelow (first + suc (length hs)) (cond b [] ((first, p) ∷ []) ++ listed (suc first) hs)
    go true h = h
    go false h = All-cons (λ x. x.0 < first + suc (length hs)) (first, p) (listed (suc first) hs) (omega arith) h

-- ---- rows

-- what holds of the rows of each leaf holds of the rows of all
each_leaf : {T : Type 0} (P : SparseRow T → Type 0) (Q : SparseRow T → Type 0) (R : SparseLeaf T → Type 0) (f : SparseLeaf T → SparseRow T → SparseRow T) →
    ((l : SparseLeaf T) (r : SparseRow T) → R l → P r → Q (f l r)) →
    (rows : List (SparseRow T)) (leaves : List (SparseLeaf T)) → All P rows → All R leaves →
    All Q (flat_map (λ l. map (f l) (option_to_list (slice_get rows l.row))) leaves)
each_leaf P Q R f k rows [] h are = All-nil Q
each_leaf {T} P Q R f k rows (l ∷ leaves) h are =
    All-append Q (map (f l) (option_to_list (slice_get rows l.row))) (flat_map (λ x. map (f x) (option_to_list (slice_get rows x.row))) leaves)
    (go (slice_get rows l.row) (λ r e. at_get P rows l.row r h e)) (each_leaf P Q R f k rows leaves h (All-tail R l leaves are))
  where
    go : (o : Option (SparseRow T)) → ((r : SparseRow T) → o ≡ Some r → P r) → All Q (map (f l) (option_to_list o))
    go None g = All-nil Q
    go (Some r) g = All-cons Q (f l r) [] (k l r (All-head R l leaves are) (g r refl)) (All-nil Q)

-- the leaves with these numbers write so many parts
parts_listed : {T : Type 0} (count : ℕ) (leaves : List (SparseLeaf T)) (numbers : List ℕ) → All (AreParts count leaves) numbers →
    All (λ l. length (leaf_parts count l.head) ≡ count) (leaves_listed leaves numbers)
parts_listed {T} count leaves [] h = All-nil (λ (l : SparseLeaf T). length (leaf_parts count l.head) ≡ count)
parts_listed {T} count leaves (k ∷ numbers) h =
    All-append (λ l. length (leaf_parts count l.head) ≡ count) (option_to_list (slice_get leaves k)) (leaves_listed leaves numbers)
    (go (slice_get leaves k) (All-head (AreParts count leaves) k numbers h)) (parts_listed count leaves numbers (All-tail (AreParts count leaves) k numbers h))
  where
    go : (o : Option (SparseLeaf T)) → ((l : SparseLeaf T) → o ≡ Some l → length (leaf_parts count l.head) ≡ count) →
        All (λ l. length (leaf_parts count l.head) ≡ count) (option_to_list o)
    go None f = All-nil (λ (l : SparseLeaf T). length (leaf_parts count l.head) ≡ count)
    go (Some l) f = All-cons (λ (x : SparseLeaf T). length (leaf_parts count x.head) ≡ count) l [] (f l refl) (All-nil (λ (x : SparseLeaf T). length (leaf_parts count x.head) ≡ count))

-- the heads of one row that is opened
pub row_opened_over : {T : Type 0} (column first count : ℕ) (others : List ℕ) (l : SparseLeaf T) (r : SparseRow T) →
    length (leaf_parts count l.head) ≡ count → AreHeadsOver (column ∷ others) r.heads →
    AreHeadsOver (columns_from first count ++ others) (opened_row column first count l r).heads
row_opened_over column first count others l r e h =
    let hs = leaf_parts count l.head in
    let cs = columns_from first count in
    All-append (λ x. Contains (cs ++ others) x.0 × (is_wild (Some x.1) ≡ false)) (listed first hs) (without column r.heads)
    (more_over cs (cs ++ others) (listed first hs) (Contains-append_left cs others) (subst (λ n. AreHeadsOver (columns_from first n) (listed first hs)) e (listed_over first hs)))
    (more_over others (cs ++ others) (without column r.heads) (Contains-append_right cs others) (without_over column others r.heads h))

pub row_opened_below : {T : Type 0} (column first count : ℕ) (l : SparseLeaf T) (r : SparseRow T) → length (leaf_parts count l.head) ≡ count →
    AreHeadsBelow first r.heads →
    AreHeadsBelow (first + count) (opened_row column first count l r).heads
row_opened_below column first count l r e h =
    let hs = leaf_parts count l.head in
    All-append (λ x. x.0 < first + count) (listed first hs) (without column r.heads)
    (subst (λ n. AreHeadsBelow (first + n) (listed first hs)) e (listed_below first hs))
    (more_below first (first + count) (without column r.heads) (omega arith) (without_below column first r.heads h))

pub opened_over : {T : Type 0} (column first count : ℕ) (others : List ℕ) (rows : List (SparseRow T)) (leaves : List (SparseLeaf T)) (numbers : List ℕ) →
    All (AreParts count leaves) numbers →
    AreOver (column ∷ others) rows → AreOver (columns_from first count ++ others) (opened_rows column first count rows (leaves_listed leaves numbers))
opened_over {T} column first count others rows leaves numbers parts over =
    each_leaf (λ r. AreHeadsOver (column ∷ others) r.heads) (λ r. AreHeadsOver (columns_from first count ++ others) r.heads) (λ l. length (leaf_parts count l.head) ≡ count) (opened_row column first count)
    (row_opened_over column first count others) rows (leaves_listed leaves numbers) over (parts_listed count leaves numbers parts)

pub opened_below : {T : Type 0} (column first count : ℕ) (rows : List (SparseRow T)) (leaves : List (SparseLeaf T)) (numbers : List ℕ) →
    All (AreParts count leaves) numbers →
    AreBelow first rows → AreBelow (first + count) (opened_rows column first count rows (leaves_listed leaves numbers))
opened_below {T} column first count rows leaves numbers parts below =
    each_leaf (λ r. AreHeadsBelow first r.heads) (λ r. AreHeadsBelow (first + count) r.heads) (λ l. length (leaf_parts count l.head) ≡ count) (opened_row column first count)
    (row_opened_below column first count) rows (leaves_listed leaves numbers) below (parts_listed count leaves numbers parts)

-- what holds of the rows of each leaf that is a wildcard
each_dropped : {T : Type 0} (P Q : SparseRow T → Type 0) (column : ℕ) → ((l : SparseLeaf T) (r : SparseRow T) → P r → Q (dropped_row column l r)) →
    (rows : List (SparseRow T)) (leaves : List (SparseLeaf T)) → All P rows → All Q (dropped_rows column rows leaves)
each_dropped P Q column k rows [] h = All-nil Q
each_dropped {T} P Q column k rows (l ∷ leaves) h =
    All-append Q (dropped_leaf column rows l) (dropped_rows column rows leaves)
    (go (is_wild l.head) (slice_get rows l.row) (λ r e. at_get P rows l.row r h e)) (each_dropped P Q column k rows leaves h)
  where
    go : (b : Bool) (o : Option (SparseRow T)) → ((r : SparseRow T) → o ≡ Some r → P r) → All Q (cond b (map (dropped_row column l) (option_to_list o)) [])
    go false o g = All-nil Q
    go true None g = All-nil Q
    go true (Some r) g = All-cons Q (dropped_row column l r) [] (k l r (g r refl)) (All-nil Q)

pub dropped_over : {T : Type 0} (column : ℕ) (others : List ℕ) (rows : List (SparseRow T)) (leaves : List (SparseLeaf T)) → AreOver (column ∷ others) rows →
    AreOver others (dropped_rows column rows leaves)
dropped_over column others rows leaves over =
    each_dropped (λ r. AreHeadsOver (column ∷ others) r.heads) (λ r. AreHeadsOver others r.heads) column (λ l r h. without_over column others r.heads h) rows leaves over

pub dropped_below : {T : Type 0} (column n : ℕ) (rows : List (SparseRow T)) (leaves : List (SparseLeaf T)) → AreBelow n rows →
    AreBelow n (dropped_rows column rows leaves)
dropped_below column n rows leaves below =
    each_dropped (λ r. AreHeadsBelow n r.heads) (λ r. AreHeadsBelow n r.heads) column (λ l r h. without_below column n r.heads h) rows leaves below

one_over : {T : Type 0} (p : MDePat T) (b : Bool) → is_wild (Some p) ≡ b → AreHeadsOver (0 ∷ []) (cond b [] ((0, p) ∷ []))
one_over {T} p true e = All-nil (λ (x : ℕ × MDePat T). Contains (0 ∷ []) x.0 × (is_wild (Some x.1) ≡ false))
one_over {T} p false e = All-cons (λ (x : ℕ × MDePat T). Contains (0 ∷ []) x.0 × (is_wild (Some x.1) ≡ false)) (0, p) [] (contains_here 0 [], e) (All-nil (λ (x : ℕ × MDePat T). Contains (0 ∷ []) x.0 × (is_wild (Some x.1) ≡ false)))

pub starting_over : {T : Type 0} (j : ℕ) (arms : List (MDeArm T)) → AreOver (0 ∷ []) (starting_rows j arms)
starting_over {T} j [] = All-nil (λ (r : SparseRow T). AreHeadsOver (0 ∷ []) r.heads)
starting_over {T} j (a ∷ arms) = All-cons (λ (r : SparseRow T). AreHeadsOver (0 ∷ []) r.heads) (starting_row j a) (starting_rows (suc j) arms) (one_over a.pat (is_wild (Some a.pat)) refl) (starting_over (suc j) arms)
