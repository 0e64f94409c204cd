-- Rows list their heads at the open columns.
use Rattle.std.proofs.Common.{◌≡◌, ◌≢◌, inl, inr, ◌<◌, ◌≤◌, ℕ, zero, suc, ◌+◌, Bool, true, false, ◌&&◌, List, [], ◌∷◌, ◌++◌, length, cond, Some, None, refl, ap, sym, subst, arith, slice_get}
use Rattle.std.proofs.lemmas.Bool.Decides.{eqb_tells}
use Rattle.std.proofs.lemmas.List.Elements.{All-nil, All-cons, All-head, All-tail, All-append}
use Rattle.std.specs.List.{All, Contains, list_all}
use Rattle.match_model.specs.ArenaPatterns.{MDePat}
use Rattle.match_model.specs.Rows.{Head, is_wild, starts_wild}
use Rattle.pattern_matrix.specs.Sparse.{SparseLeaf, head_at, columns_from, listed, without, leaf_parts, AreHeadsBelow, AreOthers}
use Rattle.pattern_matrix.specs.Opening.{opened_row, dropped_row}
use Rattle.pattern_matrix.specs.Searching.{heads_in}
use Rattle.pattern_matrix.proofs.HandingOn.{here, there, in_cons}
use Rattle.usefulness.specs.Scope.{Scope, AreKnown}
use Rattle.usefulness.specs.Frames.{SparseAsked, asked_view, asked_views, IsHeadIn, IsRowIn, AreOpen}

-- what holds of each holds of the one that is got
pub at_get : {X : Type 0} (P : X → Type 0) (xs : List X) (i : ℕ) (x : X) → All P xs → slice_get xs i ≡ Some x → P x
at_get P [] i x h e = cc
at_get P (y ∷ ys) zero x h e = let same : y ≡ x = cc in subst P same (All-head P y ys h)
at_get P (y ∷ ys) (suc i) x h e = at_get P ys i x (All-tail P y ys h) e

not_first : (c d : ℕ) (columns : List ℕ) → c ≢ d → Contains (c ∷ columns) d → Contains columns d
not_first c d columns n i = in_cons c d columns (λ z. (c ≢ z) → Contains columns z) (λ k. absurd (k refl)) (λ z j k. j) i n

in_after : (xs ys : List ℕ) (c : ℕ) → Contains ys c → Contains (xs ++ ys) c
in_after [] ys c i = i
in_after (x ∷ xs) ys c i = there x c (xs ++ ys) (in_after xs ys c i)

below_all : (next : ℕ) (columns : List ℕ) (c : ℕ) → All (λ d. d < next) columns → Contains columns c → c < next
below_all next columns c a (k, l, e) = let b = a k c l in subst (λ d. d < next) e b

module _ {T : Type 0} (scope : Scope T) where
  -- heads at the other columns
  others_in : (column : ℕ) (columns : List ℕ) (heads : List (ℕ × MDePat T)) → All (IsHeadIn scope (column ∷ columns)) heads → All (IsHeadIn scope columns) (without column heads)
  others_in column columns [] h = All-nil (IsHeadIn scope columns)
  others_in column columns (x ∷ heads) h = elim (eqb_tells x.0 column) [
    | inl same ↦ rw (same.0) (others_in column columns heads (All-tail (IsHeadIn scope (column ∷ columns)) x heads h))
    | inr other ↦
        let in_all = All-head (IsHeadIn scope (column ∷ columns)) x heads h in
        rw (other.0) (All-cons (IsHeadIn scope columns) x (without column heads) (record { column = not_first column x.0 columns (λ e. other.1 (sym e)) in_all.column; sharp = in_all.sharp; known = in_all.known })
        (others_in column columns heads (All-tail (IsHeadIn scope (column ∷ columns)) x heads h)))
  ]

  more_in : (xs ys : List ℕ) (heads : List (ℕ × MDePat T)) → All (IsHeadIn scope ys) heads → All (IsHeadIn scope (xs ++ ys)) heads
  more_in xs ys [] h = All-nil (IsHeadIn scope (xs ++ ys))
  more_in xs ys (x ∷ heads) h =
      let i = All-head (IsHeadIn scope ys) x heads h in
      All-cons (IsHeadIn scope (xs ++ ys)) x heads (record { column = in_after xs ys x.0 i.column; sharp = i.sharp; known = i.known }) (more_in xs ys heads (All-tail (IsHeadIn scope ys) x heads h))

  one_more : (c : ℕ) (ys : List ℕ) (heads : List (ℕ × MDePat T)) → All (IsHeadIn scope ys) heads → All (IsHeadIn scope (c ∷ ys)) heads
  one_more c ys heads h = more_in (c ∷ []) ys heads h

  -- the heads of parts stand at the parts' columns
  listed_in : (first : ℕ) (hs : List (Head T)) (others : List ℕ) → AreKnown scope hs → All (IsHeadIn scope (columns_from first (length hs) ++ others)) (listed first hs)
  listed_in first [] others k = All-nil (IsHeadIn scope others)
  listed_in first (None ∷ hs) others k = one_more first (columns_from (suc first) (length hs) ++ others) (listed (suc first) hs) (listed_in (suc first) hs others k.1)
  listed_in first (Some p ∷ hs) others k = go (is_wild (Some p)) refl (one_more first (columns_from (suc first) (length hs) ++ others) (listed (suc first) hs) (listed_in (suc first) hs others k.1))
    where
      go : (b : Bool) → is_wild (Some p) ≡ b → All (IsHeadIn scope (first ∷ (columns_from (suc first) (length hs) ++ others))) (listed (suc first) hs) →
          All (IsHeadIn scope (first ∷ (columns_from (suc first) (length hs) ++ others))) (cond b [] ((first, p) ∷ []) ++ listed (suc first) hs)
      go true e h = h
      go false e h = All-cons (IsHeadIn scope (first ∷ (columns_from (suc first) (length hs) ++ others))) (first, p) (listed (suc first) hs) (record { column = here first (columns_from (suc first) (length hs) ++ others); sharp = e; known = k.0 }) h

  -- a row that is left over, and one that is opened
  pub dropped_in : (column : ℕ) (columns : List ℕ) (l : SparseLeaf T) (x : SparseAsked T) → IsRowIn scope (column ∷ columns) x →
      IsRowIn scope columns (record { row = dropped_row column l x.row; wanted = x.wanted })
  dropped_in column columns l x i = record { arm = i.arm; heads = others_in column columns x.row.heads i.heads }

  pub opened_in : (column first count : ℕ) (columns : List ℕ) (w : Bool) (l : SparseLeaf T) (x : SparseAsked T) → length (leaf_parts count l.head) ≡ count → AreKnown scope (leaf_parts count l.head) → IsRowIn scope (column ∷ columns) x →
      IsRowIn scope (columns_from first count ++ columns) (record { row = opened_row column first count l x.row; wanted = w })
  opened_in column first count columns w l x e k i = record {
    arm = i.arm;
    heads = All-append (IsHeadIn scope (columns_from first count ++ columns)) (listed first (leaf_parts count l.head)) (without column x.row.heads)
        (subst (λ n. All (IsHeadIn scope (columns_from first n ++ columns)) (listed first (leaf_parts count l.head))) e (listed_in first (leaf_parts count l.head) columns k))
        (more_in (columns_from first count) columns (without column x.row.heads) (others_in column columns x.row.heads i.heads));
  }

  -- heads at open columns are below the next one
  pub heads_below : (next : ℕ) (columns : List ℕ) (heads : List (ℕ × MDePat T)) → All (λ d. d < next) columns → All (IsHeadIn scope columns) heads → AreHeadsBelow next heads
  heads_below next columns [] a h = All-nil (λ x. x.0 < next)
  heads_below next columns (x ∷ heads) a h =
      All-cons (λ x. x.0 < next) x heads (below_all next columns x.0 a (All-head (IsHeadIn scope columns) x heads h).column) (heads_below next columns heads a (All-tail (IsHeadIn scope columns) x heads h))

  -- a head that is listed is no wildcard
  sharp_at : (columns : List ℕ) (c : ℕ) (heads : List (ℕ × MDePat T)) (h : ℕ × MDePat T) → All (IsHeadIn scope columns) heads → Contains heads h → h.0 ≡ c → is_wild (head_at heads c) ≡ false
  sharp_at columns c [] h a (k, l, e) f = absurd (omega (arith, l))
  sharp_at columns c (x ∷ heads) h a i f = elim (eqb_tells x.0 c) [
    | inl same ↦ let w = (All-head (IsHeadIn scope columns) x heads a).sharp in rw (same.0, w) w
    | inr other ↦ rw (other.0) (sharp_at columns c heads h (All-tail (IsHeadIn scope columns) x heads a) (in_cons x h heads (λ z. (z.0 ≡ c) → Contains heads z) (λ k. absurd (other.1 k)) (λ z j k. j) i f) f)
  ]

  -- where a row lists a head at the column not all rows are wild there
  pub some_sharp : (columns others : List ℕ) (c : ℕ) (xs : List (SparseAsked T)) (x : SparseAsked T) (h : ℕ × MDePat T) → All (IsRowIn scope columns) xs → Contains xs x → Contains x.row.heads h → h.0 ≡ c →
      list_all starts_wild (heads_in (asked_views (c ∷ others) xs)) ≡ false
  some_sharp columns others c [] x h a (k, l, e) j f = absurd (omega (arith, l))
  some_sharp columns others c (y ∷ xs) x h a i j f =
      in_cons y x xs (λ z. Contains z.row.heads h → list_all starts_wild (heads_in (asked_views (c ∷ others) (y ∷ xs))) ≡ false)
      (λ m. ap (λ b. b && list_all starts_wild (heads_in (asked_views (c ∷ others) xs))) (sharp_at columns c y.row.heads h (All-head (IsRowIn scope columns) y xs a).heads m f))
      (λ z k m. last (starts_wild (asked_view (c ∷ others) y).row.heads) (list_all starts_wild (heads_in (asked_views (c ∷ others) xs))) (some_sharp columns others c xs z h (All-tail (IsRowIn scope columns) y xs a) k m f))
      i j
    where
      last : (b d : Bool) → d ≡ false → (b && d) ≡ false
      last true d e = e
      last false d e = refl

wider_open : (next more : ℕ) (columns : List ℕ) → next ≤ more → AreOpen next columns → AreOpen more columns
wider_open next more [] l o = tt
wider_open next more (c ∷ columns) l o = (omega (arith, l, o.0), (λ k d i. let b = o.1 k d i in let m = b.0 in (omega (arith, l, m), b.1)), wider_open next more columns l o.2)

pub numbers_below : (next : ℕ) (columns : List ℕ) → AreOpen next columns → All (λ c. c < next) columns
numbers_below next [] o = All-nil (λ c. c < next)
numbers_below next (c ∷ columns) o = All-cons (λ c. c < next) c columns o.0 (numbers_below next columns o.2)

others_far : (c first count next : ℕ) (others : List ℕ) → c < first → first + count ≤ next → All (λ d. d < c) others → AreOthers c next (columns_from first count ++ others)
others_far c first zero next others l m a = λ k d i. let b = a k d i in (omega (arith, b, l, m), (λ e. omega (arith, b, e)))
others_far c first (suc count) next others l m a =
    All-cons (λ d. (d < next) × (d ≢ c)) first (columns_from (suc first) count ++ others) (omega (arith, m), (λ e. omega (arith, e, l))) (others_far c (suc first) count next others (omega (arith, l)) (omega (arith, m)) a)

-- columns of parts and the others are open
pub parts_open_too : (first count next low : ℕ) (others : List ℕ) → low ≤ first → first + count ≤ next → AreOpen low others → AreOpen next (columns_from first count ++ others)
parts_open_too first zero next low others l m o = wider_open low next others (omega (arith, l, m)) o
parts_open_too first (suc count) next low others l m o =
    let below = numbers_below low others o in
    (omega (arith, m), others_far first (suc first) count next others (omega arith) (omega (arith, m)) (λ k d i. let b = below k d i in omega (arith, b, l)), parts_open_too (suc first) count next low others (omega (arith, l)) (omega (arith, m)) o)

-- rows list their heads below the next column
pub rows_below : {T : Type 0} (scope : Scope T) (next column : ℕ) (others : List ℕ) (xs : List (SparseAsked T)) → column < next → AreOpen next others → All (IsRowIn scope (column ∷ others)) xs →
    (k : ℕ) (x : SparseAsked T) → slice_get xs k ≡ Some x → AreHeadsBelow next x.row.heads
rows_below scope next column others xs l o a k x e =
    heads_below scope next (column ∷ others) x.row.heads (All-cons (λ c. c < next) column others l (numbers_below next others o)) (at_get (IsRowIn scope (column ∷ others)) xs k x a e).heads
