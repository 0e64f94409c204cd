-- Rows of a list, and rows of which none goes.
use Rattle.std.proofs.Common.{◌≡◌, ◌<◌, inl, inr, ℕ, zero, suc, true, ltb, List, [], ◌∷◌, length, ◌++◌, get_or, ap, sym, arith, subst, append-nil, append_assoc}
use borrow.Author.Tests.{ltb-true}
use Rattle.match_model.specs.Lists.{Among}
use Rattle.match_model.specs.Matrices.{MRow}
use Rattle.keyed_matrix.specs.Views.{plain_row, plain_rows}
use Rattle.keyed_matrix.specs.declared.rows.KeyedRow.{KeyedRow}
use Rattle.decision_tree.specs.Repeated.{AreLeftOf, one_stays}

row-at : {T : Type 0} (rows : List (KeyedRow T)) (k : ℕ) (r : KeyedRow T) → k < length rows → r ≡ get_or rows k r →
    Among (plain_row r) (plain_rows rows)
row-at [] k r l e = absurd (omega (arith, l))
row-at (x ∷ rows) zero r l e = inl (ap plain_row e)
row-at (x ∷ rows) (suc k) r l e = inr (row-at rows k r (omega (arith, l)) e)

pub row-among : {T : Type 0} (rows : List (KeyedRow T)) (k : ℕ) (r : KeyedRow T) → true ≡ ltb k (length rows) →
    r ≡ get_or rows k r → Among (plain_row r) (plain_rows rows)
row-among rows k r l e = row-at rows k r (ltb-true k (length rows) (sym l)) e

module _ {T : Type 0} where
  -- rows of which none goes are left
  pub all-stay : (rows left more : List (MRow T)) → AreLeftOf rows left → AreLeftOf (rows ++ more) (left ++ more)
  all-stay rows left [] a =
      subst (λ xs. AreLeftOf xs (left ++ [])) (sym (append-nil rows)) (subst (AreLeftOf rows) (sym (append-nil left)) a)
  all-stay rows left (r ∷ more) a =
      subst (λ xs. AreLeftOf xs (left ++ r ∷ more)) (append_assoc rows (r ∷ []) more)
      (subst (AreLeftOf ((rows ++ r ∷ []) ++ more)) (append_assoc left (r ∷ []) more)
      (all-stay (rows ++ r ∷ []) (left ++ r ∷ []) more (one_stays rows left r a)))
