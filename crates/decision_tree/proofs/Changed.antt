-- Rows of which the first so many were changed already.
use Rattle.std.proofs.Common.{◌≡◌, ◌<◌, ◌≤◌, ℕ, zero, suc, ◌+◌, List, [], ◌∷◌, ◌++◌, map, take, drop, length, get_or, ap, sym, subst, ◌∙◌, arith, slice_set, refl}
use Rattle.std.specs.List.{All}
use Rattle.match_model.specs.Matrices.{MRow}
use Rattle.keyed_matrix.specs.Views.{plain_row, plain_rows}
use Rattle.keyed_matrix.specs.declared.rows.KeyedRow.{KeyedRow}

first-same : {A : Type 0} (x y : A) (xs ys : List A) → x ∷ xs ≡ y ∷ ys → x ≡ y
first-same x y xs ys e = cc

rest-same : {A : Type 0} (x y : A) (xs ys : List A) → x ∷ xs ≡ y ∷ ys → xs ≡ ys
rest-same x y xs ys e = cc

module _ {T : Type 0} (f : MRow T → MRow T) where
  abbrev pub changed : List (MRow T) → ℕ → List (MRow T)
  changed all i = map f (take i all) ++ drop i all

  more-changed : (all : List (MRow T)) (rows : List (KeyedRow T)) (i : ℕ) (d s : KeyedRow T) →
      plain_rows rows ≡ changed all i → i < length all → plain_row s ≡ f (plain_row (get_or rows i d)) →
      plain_rows (slice_set rows i s) ≡ changed all (suc i)
  more-changed [] rows i d s e l q = absurd (omega (arith, l))
  more-changed (x ∷ all) [] zero d s e l q = cc
  more-changed (x ∷ all) [] (suc i) d s e l q = cc
  more-changed (x ∷ all) (r ∷ rows) zero d s e l q =
      λ k. (q ∙ ap f (first-same (plain_row r) x (plain_rows rows) all e)) k
      ∷ rest-same (plain_row r) x (plain_rows rows) all e k
  more-changed (x ∷ all) (r ∷ rows) (suc i) d s e l q =
      λ k. first-same (plain_row r) (f x) (plain_rows rows) (changed all i) e k
      ∷ more-changed all rows i d s (rest-same (plain_row r) (f x) (plain_rows rows) (changed all i) e)
      (omega (arith, l)) q k

  same-there : (all : List (MRow T)) (rows : List (KeyedRow T)) (i : ℕ) (d : KeyedRow T) →
      plain_rows rows ≡ changed all i → i < length all → get_or all i (plain_row d) ≡ plain_row (get_or rows i d)
  same-there [] rows i d e l = absurd (omega (arith, l))
  same-there (x ∷ all) [] zero d e l = cc
  same-there (x ∷ all) [] (suc i) d e l = cc
  same-there (x ∷ all) (r ∷ rows) zero d e l = sym (first-same (plain_row r) x (plain_rows rows) all e)
  same-there (x ∷ all) (r ∷ rows) (suc i) d e l =
      same-there all rows i d (rest-same (plain_row r) (f x) (plain_rows rows) (changed all i) e) (omega (arith, l))

  -- what held of each row holds of the next one
  pub changed-holds : (P : MRow T → Type 0) (all : List (MRow T)) (rows : List (KeyedRow T)) (i : ℕ) (d : KeyedRow T) →
      plain_rows rows ≡ changed all i → i < length all → All P all → P (plain_row (get_or rows i d))
  changed-holds P all rows i d e l h = subst P (same-there all rows i d e l) (h i (plain_row d) l)

  -- one row more
  pub changed-next : (all : List (MRow T)) (rows : List (KeyedRow T)) (i : ℕ) (d s : KeyedRow T) →
      plain_rows rows ≡ changed all i → i < length all → plain_row s ≡ f (plain_row (get_or rows i d)) →
      plain_rows (slice_set rows i s) ≡ changed all (i + 1)
  changed-next all rows i d s e l q =
      let next : suc i ≡ i + 1 = omega arith in
      more-changed all rows i d s e l q ∙ ap (changed all) next

  -- all rows
  pub changed-all : (all : List (MRow T)) (i : ℕ) → length all ≤ i → changed all i ≡ map f all
  changed-all [] zero l = refl
  changed-all [] (suc i) l = refl
  changed-all (x ∷ all) zero l = absurd (omega (arith, l))
  changed-all (x ∷ all) (suc i) l = ap (λ rs. f x ∷ rs) (changed-all all i (omega (arith, l)))
