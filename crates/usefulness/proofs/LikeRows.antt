-- Rows that differ at most in what they have chosen: what counts in the one counts in the row in its place, where that row has
-- chosen what is asked for.
use Rattle.std.proofs.Common.{◌≡◌, inl, inr, ◌+◌, ℕ, zero, suc, Bool, true, false, not, ◌&&◌, ◌||◌, List, [], ◌∷◌, map, nat_eq, Some, slice_get, refl, ap, sym, ◌∙◌}
use Rattle.match_model.specs.Values.{MValue}
use Rattle.match_model.specs.Weights.{heads_weight, rows_weight}
use Rattle.match_model.proofs.Basics.{untrue, both, either, or_left, or_right, nat_equal}
use Rattle.pattern_matrix.specs.Counting.{Question, WantedRow, has_chosen, heads_pass, row_answers, row_stops, counts}
use Rattle.pattern_matrix.specs.Covering.{row_takes}
use Rattle.usefulness.specs.Frames.{SparseAsked, asked_view, asked_views}

-- a row has what another has, but for what it has chosen
pub record IsLike {T : Type 0} (x y : WantedRow T) : Type 0 where
  pub heads : x.row.heads ≡ y.row.heads
  pub guarded : x.row.guarded ≡ y.row.guarded
  pub wanted : x.wanted ≡ y.wanted
  pub arm : x.wanted ≡ true → x.row.arm ≡ y.row.arm

abbrev pub AreLike : {T : Type 0} → (rows others : List (WantedRow T)) → Type 0
AreLike [] [] = Unit {0}
AreLike [] (y ∷ others) = ⊥
AreLike (x ∷ rows) [] = ⊥
AreLike (x ∷ rows) (y ∷ others) = IsLike x y × AreLike rows others

-- the row with the number is wanted and answers, and no row before it stops the values
abbrev pub CountsAt : {T : Type 0} → Question → List (WantedRow T) → List MValue → ℕ → Type 0
CountsAt q [] vs i = ⊥
CountsAt q (x ∷ rows) vs zero = (x.wanted ≡ true) × (row_answers q x.row vs ≡ true)
CountsAt q (x ∷ rows) vs (suc i) = (row_stops x.row vs ≡ false) × CountsAt q rows vs i

not_so : (b : Bool) → not b ≡ true → b ≡ false
not_so true e = untrue e
not_so false e = refl

-- some row counts
pub counts_at : {T : Type 0} (q : Question) (rows : List (WantedRow T)) (vs : List MValue) → counts q rows vs ≡ true → (i : ℕ) × CountsAt q rows vs i
counts_at q [] vs e = untrue e
counts_at q (x ∷ rows) vs e = elim (either (x.wanted && row_answers q x.row vs) (not (row_stops x.row vs) && counts q rows vs) e) [
  | inl h ↦ (zero, both x.wanted (row_answers q x.row vs) h)
  | inr h ↦
      let (s, k) = both (not (row_stops x.row vs)) (counts q rows vs) h in
      let (i, c) = counts_at q rows vs k in
      (suc i, (not_so (row_stops x.row vs) s, c))
]

pub at_counts : {T : Type 0} (q : Question) (rows : List (WantedRow T)) (vs : List MValue) (i : ℕ) → CountsAt q rows vs i → counts q rows vs ≡ true
at_counts q [] vs i c = absurd c
at_counts q (x ∷ rows) vs zero c = or_left (x.wanted && row_answers q x.row vs) (not (row_stops x.row vs) && counts q rows vs) (ap (λ b. b && row_answers q x.row vs) c.0 ∙ c.1)
at_counts q (x ∷ rows) vs (suc i) c =
    or_right (x.wanted && row_answers q x.row vs) (not (row_stops x.row vs) && counts q rows vs) (ap (λ b. not b && counts q rows vs) c.0 ∙ at_counts q rows vs i c.1)

module _ {T : Type 0} (vs : List MValue) (x y : WantedRow T) (a : IsLike x y) where
  like_stops : row_stops x.row vs ≡ row_stops y.row vs
  like_stops = ap (λ g. not g && row_takes x.row.heads vs) a.guarded ∙ ap (λ hs. not y.row.guarded && row_takes hs vs) a.heads

  module _ (q : Question) where
    passes : heads_pass x.row.guarded q.id x.row.heads vs ≡ heads_pass y.row.guarded q.id y.row.heads vs
    passes = ap (λ g. heads_pass g q.id x.row.heads vs) a.guarded ∙ ap (λ hs. heads_pass y.row.guarded q.id hs vs) a.heads

    one_of : (c d p : Bool) → (c ≡ true → d ≡ true) → (c || p) ≡ true → (d || p) ≡ true
    one_of true d p f e = ap (λ b. b || p) (f refl)
    one_of false true p f e = refl
    one_of false false p f e = e

    like_answers : (has_chosen q x.row.chosen ≡ true → has_chosen q y.row.chosen ≡ true) → (x.wanted ≡ true) × (row_answers q x.row vs ≡ true) → (y.wanted ≡ true) × (row_answers q y.row vs ≡ true)
    like_answers f w =
        let r = both (nat_eq q.arm x.row.arm) (row_takes x.row.heads vs && (has_chosen q x.row.chosen || heads_pass x.row.guarded q.id x.row.heads vs)) w.1 in
        let t = both (row_takes x.row.heads vs) (has_chosen q x.row.chosen || heads_pass x.row.guarded q.id x.row.heads vs) r.1 in
        let c = one_of (has_chosen q x.row.chosen) (has_chosen q y.row.chosen) (heads_pass x.row.guarded q.id x.row.heads vs) f t.1 in (
          sym a.wanted ∙ w.0,
          ap (λ n. nat_eq q.arm n && (row_takes y.row.heads vs && (has_chosen q y.row.chosen || heads_pass y.row.guarded q.id y.row.heads vs))) (sym (a.arm w.0))
              ∙ ap (λ b. b && (row_takes y.row.heads vs && (has_chosen q y.row.chosen || heads_pass y.row.guarded q.id y.row.heads vs))) r.0
              ∙ ap (λ hs. row_takes hs vs && (has_chosen q y.row.chosen || heads_pass y.row.guarded q.id y.row.heads vs)) (sym a.heads)
              ∙ ap (λ b. b && (has_chosen q y.row.chosen || heads_pass y.row.guarded q.id y.row.heads vs)) t.0
              ∙ ap (λ p. has_chosen q y.row.chosen || p) (sym passes)
              ∙ c,
        )

-- where the one row with the number has chosen what is asked for, the other has
abbrev pub HaveChosenToo : {T : Type 0} → Question → (xs ys : List (SparseAsked T)) → ℕ → Type 0
HaveChosenToo {T} q xs ys i = (x y : SparseAsked T) → slice_get xs i ≡ Some x → slice_get ys i ≡ Some y → has_chosen q x.row.chosen ≡ true → has_chosen q y.row.chosen ≡ true

module _ {T : Type 0} (q : Question) (vs : List MValue) (columns others : List ℕ) where
  -- the row in the place of one that counts does
  pub like_counts : (xs ys : List (SparseAsked T)) (i : ℕ) → AreLike (asked_views columns xs) (asked_views others ys) → HaveChosenToo q xs ys i → CountsAt q (asked_views columns xs) vs i → CountsAt q (asked_views others ys) vs i
  like_counts [] ys i a h c = absurd c
  like_counts (x ∷ xs) [] i a h c = absurd a
  like_counts (x ∷ xs) (y ∷ ys) zero a h c = like_answers vs (asked_view columns x) (asked_view others y) a.0 q (h x y refl refl) c
  like_counts (x ∷ xs) (y ∷ ys) (suc i) a h c =
      (sym (like_stops vs (asked_view columns x) (asked_view others y) a.0) ∙ c.0, like_counts xs ys i a.1 (λ u v e f. h u v e f) c.1)

-- a row that counts is there, is wanted, and is of the arm that is asked for
pub counting_row : {T : Type 0} (q : Question) (vs : List MValue) (columns : List ℕ) (xs : List (SparseAsked T)) (i : ℕ) → CountsAt q (asked_views columns xs) vs i →
    (x : SparseAsked T) × (slice_get xs i ≡ Some x) × (x.wanted ≡ true) × (q.arm ≡ x.row.arm)
counting_row q vs columns [] i c = absurd c
counting_row q vs columns (x ∷ xs) zero c =
    let r = both (nat_eq q.arm x.row.arm) (row_takes (asked_view columns x).row.heads vs && (has_chosen q x.row.chosen || heads_pass x.row.guarded q.id (asked_view columns x).row.heads vs)) c.1 in
    (x, refl, c.0, nat_equal q.arm x.row.arm r.0)
counting_row q vs columns (x ∷ xs) (suc i) c = counting_row q vs columns xs i c.1

pub like_weighs : {T : Type 0} (rows others : List (WantedRow T)) → AreLike rows others → rows_weight (map (λ x. x.row) rows) ≡ rows_weight (map (λ x. x.row) others)
like_weighs [] [] a = refl
like_weighs [] (y ∷ others) a = absurd a
like_weighs (x ∷ rows) [] a = absurd a
like_weighs (x ∷ rows) (y ∷ others) a =
    ap (λ hs. heads_weight hs + rows_weight (map (λ x. x.row) rows)) a.0.heads ∙ ap (λ n. heads_weight y.row.heads + n) (like_weighs rows others a.1)
