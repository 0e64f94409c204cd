-- Columns that are open stay so.
use Rattle.std.proofs.Common.{◌≡◌, ◌≢◌, ℕ, zero, suc, ◌+◌, ◌<◌, ◌≤◌, Bool, false, List, [], ◌∷◌, ◌++◌, map, length, Some, slice_get, refl, sym, ap, subst, ◌∙◌, arith, append_assoc, length-append}
use Rattle.std.specs.List.{All, Contains}
use Rattle.std.specs.Option.{option_to_list}
use Rattle.std.proofs.lemmas.List.Elements.{All-head, All-tail, All-nil, All-cons, All-append, All-contains}
use Rattle.std.proofs.lemmas.Grind.{flat_map-append}
use Rattle.match_model.specs.Contexts.{Open}
use Rattle.match_model.specs.Rows.{is_wild}
use Rattle.match_model.specs.ArenaPatterns.{MDePat}
use Rattle.pattern_matrix.specs.Counting.{WantedRow}
use Rattle.pattern_matrix.specs.Searching.{moved, put_second}
use Rattle.pattern_matrix.specs.Sparse.{SparseRow, columns_from, head_at, row_view, AreBelow, AreHeadsBelow, AreOver, AreHeadsOver, AreOthers, Lacks}
use Rattle.pattern_matrix.specs.Wanted.{wanted_views}
use Rattle.pattern_matrix.specs.Opens.{places_at, AreDistinct, AreOpen, ColumnsStayOpen}
use Rattle.pattern_matrix.proofs.Having.{got_some}
use Rattle.pattern_matrix.proofs.Within.{all_more, more_over, contains_there}

-- ---- one of a list first

all_second : {A : Type 0} (P : A → Type 0) (x : A) (ys : List A) → P x → All P ys → All P (put_second x ys)
all_second P x [] p h = All-cons P x [] p (All-nil P)
all_second P x (y ∷ ys) p h = All-cons P y (x ∷ ys) (All-head P y ys h) (All-cons P x ys p (All-tail P y ys h))

all_moved : {A : Type 0} (P : A → Type 0) (i : ℕ) (xs : List A) → All P xs → All P (moved i xs)
all_moved P i [] h = All-nil P
all_moved P zero (x ∷ xs) h = h
all_moved P (suc i) (x ∷ xs) h = all_second P x (moved i xs) (All-head P x xs h) (all_moved P i xs (All-tail P x xs h))

second-map : {A B : Type 0} (f : A → B) (x : A) (ys : List A) → put_second (f x) (map f ys) ≡ map f (put_second x ys)
second-map f x [] = refl
second-map f x (y ∷ ys) = refl

moved-map : {A B : Type 0} (f : A → B) (i : ℕ) (xs : List A) → moved i (map f xs) ≡ map f (moved i xs)
moved-map f i [] = refl
moved-map f zero (x ∷ xs) = refl
moved-map f (suc i) (x ∷ xs) = ap (put_second (f x)) (moved-map f i xs) ∙ second-map f x (moved i xs)

in_second : (x c : ℕ) (ys : List ℕ) → Contains (x ∷ ys) c → Contains (put_second x ys) c
in_second x c [] h = h
in_second x c (y ∷ ys) (zero, l, e) = (suc zero, omega arith, e)
in_second x c (y ∷ ys) (suc zero, l, e) = (zero, omega arith, e)
in_second x c (y ∷ ys) (suc (suc k), l, e) = (suc (suc k), omega (arith, l), e)

in_moved : (i : ℕ) (xs : List ℕ) (c : ℕ) → Contains xs c → Contains (moved i xs) c
in_moved i [] c h = h
in_moved zero (x ∷ xs) c h = h
in_moved (suc i) (x ∷ xs) c (zero, l, e) = in_second x c (moved i xs) (zero, omega arith, e)
in_moved (suc i) (x ∷ xs) c (suc k, l, e) = in_second x c (moved i xs) (contains_there x c (moved i xs) (in_moved i xs c (k, omega (arith, l), e)))

-- ---- open columns

others_of : (column end : ℕ) (others : List ℕ) → All (λ c. c < end) others → Lacks column others → AreOthers column end others
others_of column end others below lacks = λ k d l. (below k d l, lacks k d l)

-- the column that is put first, and the others
record IsFirst (end : ℕ) (columns : List ℕ) (column : ℕ) : Type 0 where
  pub i : ℕ
  pub others : List ℕ
  pub is : moved i columns ≡ column ∷ others
  pub are_open : AreOpen end others
  pub lacks : Lacks column others

find_first : (end : ℕ) (columns : List ℕ) (column : ℕ) → AreOpen end columns → Contains columns column → IsFirst end columns column
find_first end [] column o (k, l, e) = absurd (omega (arith, l))
find_first end (x ∷ xs) column o (zero, l, e) = record {
  i = 0;
  others = xs;
  is = ap (λ c. c ∷ xs) e;
  are_open = record { below = All-tail (λ c. c < end) x xs o.below; distinct = o.distinct.1 };
  lacks = subst (λ c. Lacks c xs) e o.distinct.0;
}
find_first end (x ∷ xs) column o (suc k, l, e) =
    let has : Contains xs column = (k, omega (arith, l), e) in
    let f = find_first end xs column (record { below = All-tail (λ c. c < end) x xs o.below; distinct = o.distinct.1 }) has in
    let away : Lacks x (column ∷ f.others) = subst (Lacks x) f.is (all_moved (λ c. c ≢ x) f.i xs o.distinct.0) in
    record {
      i = suc f.i;
      others = x ∷ f.others;
      is = ap (put_second x) f.is;
      are_open = record {
        below = All-cons (λ c. c < end) x f.others (All-head (λ c. c < end) x xs o.below) f.are_open.below;
        distinct = (All-tail (λ c. c ≢ x) column f.others away, f.are_open.distinct);
      };
      lacks = All-cons (λ c. c ≢ column) x f.others (λ same. All-head (λ c. c ≢ x) column f.others away (sym same)) f.lacks;
    }

from_below : (end count : ℕ) (last : ℕ) → end + count ≤ last → All (λ c. c < last) (columns_from end count)
from_below end zero last h = All-nil (λ c. c < last)
from_below end (suc count) last h = All-cons (λ c. c < last) end (columns_from (suc end) count) (omega (arith, h)) (from_below (suc end) count last (omega (arith, h)))

from_above : (end count low : ℕ) → low < end → Lacks low (columns_from end count)
from_above end zero low h = All-nil (λ c. c ≢ low)
from_above end (suc count) low h = All-cons (λ c. c ≢ low) end (columns_from (suc end) count) (λ e. omega (arith, e, h)) (from_above (suc end) count low (omega (arith, h)))

parts_distinct : (end count : ℕ) (others : List ℕ) → All (λ c. c < end) others → AreDistinct others → AreDistinct (columns_from end count ++ others)
parts_distinct end zero others b d = d
parts_distinct end (suc count) others b d = (
  All-append (λ c. c ≢ end) (columns_from (suc end) count) others (from_above (suc end) count end (omega arith)) (all_more (λ c. c < end) (λ c. c ≢ end) others (λ c l e. omega (arith, l, e)) b),
  parts_distinct (suc end) count others (all_more (λ c. c < end) (λ c. c < suc end) others (λ c l. omega (arith, l)) b) d,
)

parts_open : (end count : ℕ) (others : List ℕ) → AreOpen end others → AreOpen (end + count) (columns_from end count ++ others)
parts_open end count others o = record {
  below = All-append (λ c. c < end + count) (columns_from end count) others (from_below end count (end + count) (omega arith)) (all_more (λ c. c < end) (λ c. c < end + count) others (λ c l. omega (arith, l)) o.below);
  distinct = parts_distinct end count others o.below o.distinct;
}

over_below : {T : Type 0} (end : ℕ) (columns : List ℕ) (rows : List (SparseRow T)) → AreOpen end columns → AreOver columns rows → AreBelow end rows
over_below {T} end columns rows o over =
    all_more (λ r. AreHeadsOver columns r.heads) (λ r. AreHeadsBelow end r.heads) rows
    (λ r h. all_more (λ (x : ℕ × MDePat T). Contains columns x.0 × (is_wild (Some x.1) ≡ false)) (λ x. x.0 < end) r.heads (λ x k. All-contains (λ c. c < end) columns x.0 o.below k.0) h) over

over_moved : {T : Type 0} (i : ℕ) (columns : List ℕ) (rows : List (SparseRow T)) → AreOver columns rows → AreOver (moved i columns) rows
over_moved i columns rows over = all_more (λ r. AreHeadsOver columns r.heads) (λ r. AreHeadsOver (moved i columns) r.heads) rows (λ r h. more_over columns (moved i columns) r.heads (in_moved i columns) h) over

-- ---- rows and places

views_moved : {T : Type 0} (i : ℕ) (columns : List ℕ) (wanted : List Bool) (rows : List (SparseRow T)) →
    map (λ (x : WantedRow T). record { row = record x.row { heads = moved i x.row.heads }; wanted = x.wanted }) (wanted_views columns wanted rows) ≡ wanted_views (moved i columns) wanted rows
views_moved i columns wanted [] = refl
views_moved i columns [] (r ∷ rows) = refl
views_moved i columns (w ∷ wanted) (r ∷ rows) =
    ap (λ hs. record { row = record { heads = hs; arm = r.arm; guarded = r.guarded; chosen = r.chosen; caught = [] }; wanted = w } ∷ map (λ x. record { row = record x.row { heads = moved i x.row.heads }; wanted = x.wanted }) (wanted_views columns wanted rows))
    (moved-map (head_at r.heads) i columns)
    ∙ ap (λ xs. record { row = row_view (moved i columns) r; wanted = w } ∷ xs) (views_moved i columns wanted rows)

module _ {T : Type 0} (opens : List (Open T)) where
  one_place : (c : ℕ) (others : List ℕ) (o : Open T) → slice_get opens c ≡ Some o → places_at opens (c ∷ others) ≡ o ∷ places_at opens others
  one_place c others o e = ap (λ x. option_to_list x ++ places_at opens others) e

  second_place : (c : ℕ) (o : Open T) → slice_get opens c ≡ Some o → (ys : List ℕ) → All (λ c. c < length opens) ys →
      places_at opens (put_second c ys) ≡ put_second o (places_at opens ys)
  second_place c o e [] h = one_place c [] o e
  second_place c o e (y ∷ ys) h =
      let (p, g) = got_some opens y (All-head (λ c. c < length opens) y ys h) in
      one_place y (c ∷ ys) p g ∙ ap (λ ps. p ∷ ps) (one_place c ys o e) ∙ ap (put_second o) (sym (one_place y ys p g))

  places_moved : (i : ℕ) (columns : List ℕ) → All (λ c. c < length opens) columns → places_at opens (moved i columns) ≡ moved i (places_at opens columns)
  places_moved i [] h = refl
  places_moved zero (c ∷ columns) h =
      let (o, g) = got_some opens c (All-head (λ c. c < length opens) c columns h) in
      one_place c columns o g ∙ ap (moved 0) (sym (one_place c columns o g))
  places_moved (suc i) (c ∷ columns) h =
      let (o, g) = got_some opens c (All-head (λ c. c < length opens) c columns h) in
      let rest = All-tail (λ c. c < length opens) c columns h in
      second_place c o g (moved i columns) (all_moved (λ c. c < length opens) i columns rest)
      ∙ ap (put_second o) (places_moved i columns rest) ∙ ap (moved (suc i)) (sym (one_place c columns o g))

  places_long : (columns : List ℕ) → All (λ c. c < length opens) columns → length (places_at opens columns) ≡ length columns
  places_long [] h = refl
  places_long (c ∷ columns) h =
      let (o, g) = got_some opens c (All-head (λ c. c < length opens) c columns h) in
      ap length (one_place c columns o g) ∙ ap suc (places_long columns (All-tail (λ c. c < length opens) c columns h))

-- what stands before more stands where it stood, and behind it the others
get_before : {A : Type 0} (xs ys : List A) (k : ℕ) → k < length xs → slice_get (xs ++ ys) k ≡ slice_get xs k
get_before [] ys k l = absurd (omega (arith, l))
get_before (x ∷ xs) ys zero l = refl
get_before (x ∷ xs) ys (suc k) l = get_before xs ys k (omega (arith, l))

get_behind : {A : Type 0} (xs : List A) (y : A) (ys : List A) (k : ℕ) → k ≡ length xs → slice_get (xs ++ y ∷ ys) k ≡ Some y
get_behind [] y ys zero e = refl
get_behind [] y ys (suc k) e = absurd (omega (arith, e))
get_behind (x ∷ xs) y ys zero e = absurd (omega (arith, e))
get_behind (x ∷ xs) y ys (suc k) e = get_behind xs y ys k (omega (arith, e))

old_places : {T : Type 0} (opens parts : List (Open T)) (others : List ℕ) → All (λ c. c < length opens) others →
    places_at (opens ++ parts) others ≡ places_at opens others
old_places opens parts [] h = refl
old_places opens parts (c ∷ others) h =
    ap (λ o. option_to_list o ++ places_at (opens ++ parts) others) (get_before opens parts c (All-head (λ c. c < length opens) c others h))
    ∙ ap (λ ps. option_to_list (slice_get opens c) ++ ps) (old_places opens parts others (All-tail (λ c. c < length opens) c others h))

new_places : {T : Type 0} (before parts : List (Open T)) (n : ℕ) → n ≡ length before → places_at (before ++ parts) (columns_from n (length parts)) ≡ parts
new_places before [] n e = refl
new_places before (p ∷ parts) n e =
    ap (λ o. option_to_list o ++ places_at (before ++ p ∷ parts) (columns_from (suc n) (length parts))) (get_behind before p parts n e)
    ∙ ap (λ opens. p ∷ places_at opens (columns_from (suc n) (length parts))) (sym (append_assoc before (p ∷ []) parts))
    ∙ ap (λ ps. p ∷ ps) (new_places (before ++ p ∷ []) parts (suc n) (let long = length-append before (p ∷ []) in omega (arith, long, e)))

part_places : {T : Type 0} (opens parts : List (Open T)) (others : List ℕ) → All (λ c. c < length opens) others →
    places_at (opens ++ parts) (columns_from (length opens) (length parts) ++ others) ≡ parts ++ places_at opens others
part_places opens parts others h =
    flat_map-append (λ c. option_to_list (slice_get (opens ++ parts) c)) (columns_from (length opens) (length parts)) others
    ∙ ap (λ ps. ps ++ places_at (opens ++ parts) others) (new_places opens parts (length opens) refl)
    ∙ ap (λ ps. parts ++ ps) (old_places opens parts others h)

pub columns_stay : {T : Type 0} → ColumnsStayOpen T
columns_stay = record {
  first = λ end columns column o has.
      let f = find_first end columns column o has in (f.i, f.others, f.is, f.are_open, others_of column end f.others f.are_open.below f.lacks);
  parts = parts_open;
  below = over_below;
  over = over_moved;
  rows = λ i columns places wanted rows. ap (λ rs. record { places = moved i places; rows = rs }) (views_moved i columns wanted rows);
  places = λ i opens columns h. places_moved opens i columns h;
  place = λ opens column others o e. one_place opens column others o e;
  part_places = part_places;
  long = λ opens columns h. places_long opens columns h;
}
