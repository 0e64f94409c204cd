-- A column is taken from the open ones, and stands first.
use Rattle.std.proofs.Common.{◌≡◌, ◌≢◌, inl, inr, ◌<◌, ℕ, zero, suc, Bool, List, [], ◌∷◌, map, refl, ap, sym, subst, ◌∙◌}
use Rattle.std.proofs.lemmas.List.Elements.{All-nil, All-cons, All-head, All-tail}
use Rattle.std.specs.List.{All, Contains}
use Rattle.match_model.specs.Values.{MValue}
use Rattle.match_model.specs.Contexts.{Context, Open}
use Rattle.match_model.specs.ArenaPatterns.{MDePat}
use Rattle.pattern_matrix.specs.Sparse.{head_at, AreOthers}
use Rattle.pattern_matrix.specs.Counting.{Question, WantedRow}
use Rattle.pattern_matrix.specs.Searching.{Submatrix, weight_of, IsFit, IsLookedAt, put_second, moved, moved_first}
use Rattle.pattern_matrix.proofs.HandingOn.{here, there, in_cons}
use Rattle.pattern_matrix.proofs.Moving.{weighs_moved, comes_moved, comes_unmoved}
use Rattle.usefulness.specs.Frames.{SparseAsked, asked_view, asked_views, numbers, places, sub_view, IsHeadIn, IsRowIn, AreOpen}
use Rattle.usefulness.specs.Scope.{Scope}

map_second : {A B : Type 0} (f : A → B) (x : A) (xs : List A) → map f (put_second x xs) ≡ put_second (f x) (map f xs)
map_second f x [] = refl
map_second f x (y ∷ xs) = refl

pub map_moved : {A B : Type 0} (f : A → B) (i : ℕ) (xs : List A) → map f (moved i xs) ≡ moved i (map f xs)
map_moved f i [] = refl
map_moved f zero (x ∷ xs) = refl
map_moved f (suc i) (x ∷ xs) = map_second f x (moved i xs) ∙ ap (put_second (f x)) (map_moved f i xs)

rows_moved : {T : Type 0} (i : ℕ) (columns : List ℕ) (xs : List (SparseAsked T)) →
    map (λ (x : WantedRow T). record { row = record x.row { heads = moved i x.row.heads }; wanted = x.wanted }) (asked_views columns xs) ≡ asked_views (moved i columns) xs
rows_moved i columns [] = refl
rows_moved i columns (x ∷ xs) =
    ap (λ hs. record { row = record (asked_view columns x).row { heads = hs }; wanted = x.wanted } ∷ map (λ y. record { row = record y.row { heads = moved i y.row.heads }; wanted = y.wanted }) (asked_views columns xs)) (sym (map_moved (head_at x.row.heads) i columns))
    ∙ ap (λ ys. asked_view (moved i columns) x ∷ ys) (rows_moved i columns xs)

-- moving a column moves its place
pub view_moved : {T : Type 0} (i : ℕ) (shown : List (ℕ × Open T)) (xs : List (SparseAsked T)) → moved_first i (sub_view shown xs) ≡ sub_view (moved i shown) xs
view_moved i shown xs =
    ap (λ ps. record { places = ps; rows = map (λ x. record { row = record x.row { heads = moved i x.row.heads }; wanted = x.wanted }) (asked_views (numbers shown) xs) }) (sym (map_moved (λ (o : ℕ × Open _). o.1) i shown))
    ∙ ap (λ ys. record { places = places (moved i shown); rows = ys }) (rows_moved i (numbers shown) xs ∙ ap (λ ns. asked_views ns xs) (sym (map_moved (λ (o : ℕ × Open _). o.0) i shown)))

second_in : {A : Type 0} (x z : A) (xs : List A) → Contains (x ∷ xs) z → Contains (put_second x xs) z
second_in x z [] c = c
second_in x z (y ∷ xs) c = in_cons x z (y ∷ xs) (λ w. Contains (y ∷ x ∷ xs) w) (there y x (x ∷ xs) (here x xs)) (λ w d. in_cons y w xs (λ u. Contains (y ∷ x ∷ xs) u) (here y (x ∷ xs)) (λ u e. there y u (x ∷ xs) (there x u xs e)) d) c

moved_in : {A : Type 0} (i : ℕ) (z : A) (xs : List A) → Contains xs z → Contains (moved i xs) z
moved_in i z [] c = c
moved_in zero z (x ∷ xs) c = c
moved_in (suc i) z (x ∷ xs) c = second_in x z (moved i xs) (in_cons x z xs (λ w. Contains (x ∷ moved i xs) w) (here x (moved i xs)) (λ w d. there x w (moved i xs) (moved_in i w xs d)) c)

all_second : {A : Type 0} (P : A → Type 0) (x : A) (xs : List A) → P x → All P xs → All P (put_second x xs)
all_second P x [] p a = All-cons P x [] p a
all_second P x (y ∷ xs) p a = All-cons P y (x ∷ xs) (All-head P y xs a) (All-cons P x xs p (All-tail P y xs a))

all_moved : {A : Type 0} (P : A → Type 0) (i : ℕ) (xs : List A) → All P xs → All P (moved i xs)
all_moved P i [] a = a
all_moved P zero (x ∷ xs) a = a
all_moved P (suc i) (x ∷ xs) a = all_second P x (moved i xs) (All-head P x xs a) (all_moved P i xs (All-tail P x xs a))

open_second : (next c : ℕ) (columns : List ℕ) → c < next → AreOthers c next columns → AreOpen next columns → AreOpen next (put_second c columns)
open_second next c [] l a o = (l, a, tt)
open_second next c (d ∷ columns) l a o =
    let here = All-head (λ (x : ℕ). (x < next) × (x ≢ c)) d columns a in
    (o.0, All-cons (λ (x : ℕ). (x < next) × (x ≢ d)) c columns (l, (λ e. here.1 (sym e))) o.1, (l, All-tail (λ (x : ℕ). (x < next) × (x ≢ c)) d columns a, o.2))

pub open_moved : (next i : ℕ) (columns : List ℕ) → AreOpen next columns → AreOpen next (moved i columns)
open_moved next i [] o = o
open_moved next zero (c ∷ columns) o = o
open_moved next (suc i) (c ∷ columns) o = open_second next c (moved i columns) o.0 (all_moved (λ (x : ℕ). (x < next) × (x ≢ c)) i columns o.1) (open_moved next i columns o.2)

heads_moved : {T : Type 0} (scope : Scope T) (i : ℕ) (columns : List ℕ) (heads : List (ℕ × MDePat T)) → All (IsHeadIn scope columns) heads → All (IsHeadIn scope (moved i columns)) heads
heads_moved scope i columns [] a = All-nil (IsHeadIn scope (moved i columns))
heads_moved scope i columns (h ∷ heads) a =
    let b = All-head (IsHeadIn scope columns) h heads a in
    All-cons (IsHeadIn scope (moved i columns)) h heads (record { column = moved_in i h.0 columns b.column; sharp = b.sharp; known = b.known }) (heads_moved scope i columns heads (All-tail (IsHeadIn scope columns) h heads a))

pub rows_in_moved : {T : Type 0} (scope : Scope T) (i : ℕ) (columns : List ℕ) (xs : List (SparseAsked T)) → All (IsRowIn scope columns) xs → All (IsRowIn scope (moved i columns)) xs
rows_in_moved scope i columns [] a = All-nil (IsRowIn scope (moved i columns))
rows_in_moved scope i columns (x ∷ xs) a =
    let b = All-head (IsRowIn scope columns) x xs a in
    All-cons (IsRowIn scope (moved i columns)) x xs (record { arm = b.arm; heads = heads_moved scope i columns x.row.heads b.heads }) (rows_in_moved scope i columns xs (All-tail (IsRowIn scope columns) x xs a))

module _ {T : Type 0} (IsType : T → Type 0) (IsValue : T → Bool → MValue → Type 0) (cx : Context T) where
  -- looking at it with another place first is looking at it
  pub looked_moved : (old now : Question → Bool) (i : ℕ) (s : Submatrix T) (new : List (Submatrix T)) → IsFit IsType IsValue cx s → IsLookedAt IsType IsValue cx old now (moved_first i s) new →
      IsLookedAt IsType IsValue cx old now s new
  looked_moved old now i s new f l = record {
    grow = l.grow;
    right = λ q m. elim (l.right q m) [ inl o ↦ inl o | inr c ↦ inr (comes_unmoved IsType IsValue cx i s f q c) ];
    fit = l.fit;
    lighter = λ n j. subst (λ w. weight_of n < w) (weighs_moved i s) (l.lighter n j);
    back = λ n j q c. comes_unmoved IsType IsValue cx i s f q (l.back n j q c);
    on = λ q c. l.on q (comes_moved IsType IsValue cx i s f q c);
  }
