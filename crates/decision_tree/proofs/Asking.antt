-- Rows whose guards are asked one after the other, and the rows behind them.
use Rattle.std.proofs.Common.{◌≡◌, ◌<◌, ◌≤◌, ◌+◌, ℕ, zero, suc, true, List, [], ◌∷◌, drop, length, get_or, Some, slice_get, inl, inr, sym, ap, ◌∙◌, subst, arith}
use Rattle.std.proofs.lemmas.Bool.{cases_lt}
use Rattle.std.proofs.lemmas.List.{drop-map, drop_more}
use Rattle.match_model.specs.ArenaPatterns.{MDeMatch}
use Rattle.match_model.specs.Contexts.{Context}
use Rattle.match_model.specs.Keys.{Decision}
use Rattle.match_model.specs.Lists.{Every, Ordered}
use Rattle.match_model.specs.Matrices.{MRow}
use Rattle.keyed_rows.specs.Parting.{RowParted}
use Rattle.keyed_steps.specs.Good.{IsGood, IsGoodRow}
use Rattle.keyed_matrix.specs.Views.{plain_columns, plain_row, plain_rows}
use Rattle.keyed_matrix.specs.declared.rows.KeyedRow.{KeyedRow}
use Rattle.decision_tree.specs.declared.frames.Matrix.{Matrix}
use Rattle.decision_tree.specs.Asking.{asks_guard, AreAsked}
use Rattle.decision_tree.specs.Known.{IsHeadOf, IsInScope}
use Rattle.decision_tree.specs.Matrices.{matrix_columns, matrix_rows, IsGoodMatrix}
use Rattle.decision_tree.proofs.Looking.{one-at}
use Rattle.decision_tree.proofs.Reading.{read-map}
use Rattle.decision_tree.proofs.TypedRows.{as-many}

module _ {T : Type 0} (rows : List (KeyedRow T)) (i : ℕ) (x : KeyedRow T) (within : i < length rows)
    (is : x ≡ get_or rows i x) where
  -- one row more
  pub asked-more : asks_guard (plain_row x) ≡ true → AreAsked i (plain_rows rows) → AreAsked (i + 1) (plain_rows rows)
  asked-more w a = λ k r l s.
      elim (cases_lt k i) [
        | inl b ↦ a k r b s
        | inr b ↦ subst (λ q. asks_guard q ≡ true)
            (one-at (plain_rows rows) i (plain_row x) r (read-map plain_row rows i x within is) (here k r b l s)) w
      ]
    where
      here : (k : ℕ) (r : MRow T) → i ≤ k → k < i + 1 → slice_get (plain_rows rows) k ≡ Some r →
          slice_get (plain_rows rows) i ≡ Some r
      here k r b l s = let same : k ≡ i = omega (arith, b, l) in subst (λ j. slice_get (plain_rows rows) j ≡ Some r) same s

  -- what is said of this row among those that are asked
  pub asked-here : (count : ℕ) → i < count → AreAsked count (plain_rows rows) → asks_guard (plain_row x) ≡ true
  asked-here count l a = a i (plain_row x) l (read-map plain_row rows i x within is)

  -- it stands in front of the rows behind it
  pub asked-first : plain_rows (drop i rows) ≡ plain_row x ∷ plain_rows (drop (i + 1) rows)
  asked-first =
      ap plain_rows (drop_more rows i x within) ∙ ap (λ y. plain_row y ∷ plain_rows (drop (i + 1) rows)) (sym is)

every-drop : {A : Type 0} (P : A → Type 0) (n : ℕ) (xs : List A) → Every P xs → Every P (drop n xs)
every-drop P zero xs h = h
every-drop P (suc n) [] h = h
every-drop P (suc n) (x ∷ xs) h = every-drop P n xs h.1

ordered-drop : {A : Type 0} (R : A → A → Type 0) (n : ℕ) (xs : List A) → Ordered R xs → Ordered R (drop n xs)
ordered-drop R zero xs h = h
ordered-drop R (suc n) [] h = h
ordered-drop R (suc n) (x ∷ xs) h = ordered-drop R n xs h.1

row-at : {A : Type 0} (P : A → Type 0) (xs : List A) (i : ℕ) (x : A) → Every P xs → slice_get xs i ≡ Some x → P x
row-at P [] i x a e = cc
row-at P (y ∷ xs) zero x a e = let same : y ≡ x = cc in subst P same a.0
row-at P (y ∷ xs) (suc i) x a e = row-at P xs i x a.1 e

module _ {T : Type 0} (IsType : T → Type 0) (cx : Context T) (decides : ℕ → Decision) (e : Matrix T) where
  -- each row has as many heads as there are columns
  pub all-as-many : IsGoodMatrix IsType cx decides e → (k : ℕ) (r : MRow T) → slice_get (matrix_rows e) k ≡ Some r →
      length (matrix_columns e) ≡ length r.heads
  all-as-many g k r s =
      as-many cx (matrix_columns e) r.heads
      (row-at (IsGoodRow cx decides (matrix_columns e)) (matrix_rows e) k r g.good.rows_are s).typed

  module _ (next : Matrix T) (n : ℕ) (columns : next.columns ≡ e.columns)
      (rows : next.rows.items ≡ drop n e.rows.items) where
    rest : matrix_rows next ≡ drop n (matrix_rows e)
    rest = ap plain_rows rows ∙ sym (drop-map plain_row n e.rows.items)

    over : matrix_columns e ≡ matrix_columns next
    over = ap (λ v. plain_columns v.items) (sym columns)

    -- the rows behind so many
    pub good-behind : IsGoodMatrix IsType cx decides e → IsGoodMatrix IsType cx decides next
    good-behind g = record {
      good =
          subst (λ cs. IsGood IsType cx decides cs (matrix_rows next)) over
          (subst (IsGood IsType cx decides (matrix_columns e)) (sym rest)
          (record {
            columns_are = g.good.columns_are;
            rows_are = every-drop (IsGoodRow cx decides (matrix_columns e)) n (matrix_rows e) g.good.rows_are;
          }));
      parted = subst (Ordered (RowParted decides)) (sym rest) (ordered-drop (RowParted decides) n (matrix_rows e) g.parted);
    }

    pub scope-behind : (m : MDeMatch T) → IsInScope cx m (matrix_columns e) (matrix_rows e) →
        IsInScope cx m (matrix_columns next) (matrix_rows next)
    scope-behind m s =
        subst (λ cs. IsInScope cx m cs (matrix_rows next)) over
        (subst (IsInScope cx m (matrix_columns e)) (sym rest)
        (record {
          columns_are = s.columns_are;
          rows_are = every-drop (λ (r : MRow T). Every (IsHeadOf m.arms) r.heads) n (matrix_rows e) s.rows_are;
        }))
