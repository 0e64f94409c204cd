-- Rows in order without a column are rows in order, and then without it.
use Rattle.std.proofs.Common.{◌≡◌, ℕ, zero, suc, ◌+◌, true, List, [], ◌∷◌, length, ap, subst}
use Rattle.match_model.specs.Keys.{Decision, Key}
use Rattle.match_model.specs.Lists.{Every, Ordered}
use Rattle.match_model.specs.Matrices.{MRow}
use Rattle.match_model.specs.Places.{MStep}
use Rattle.match_model.specs.RowOrder.{row_key, AreInOrder}
use Rattle.match_model.specs.Rows.{Head, is_wild}
use Rattle.match_model.specs.Steps.{Replacement, rows_at}
use Rattle.keyed_rows.specs.Dividing.{head_count, AreFree, IsReplacement, Divides, GoodAt}
use Rattle.keyed_rows.specs.Parting.{RowParted}
use Rattle.keyed_rows.proofs.Lists.{every-to}
use Rattle.keyed_rows.proofs.Parting.{among-every}
use Rattle.keyed_rows.proofs.RowOrder.{every-among}
use Rattle.keyed_matrix.specs.Turns.{IsOneFirst}
use Rattle.decision_tree.specs.WildColumns.{head_at, left_out, all_left_out, AreWildAt}
use Rattle.decision_tree.proofs.OneFirst.{one-first}
use Rattle.decision_tree.proofs.Shown.{order-unshown}
use Rattle.decision_tree.proofs.WildColumns.{beside, moved, IsAsWide, rows-cut, wild-moved}

module _ {T : Type 0} (decides : ℕ → Decision) where
  abbrev IsFreeOf : MRow T → Type 0
  IsFreeOf r = AreFree decides (row_key decides r) 0 r.heads

  -- of rows one of any two of which comes first
  order-uncut : (place : List MStep) (k : ℕ) (rows next : List (MRow T)) → Ordered (IsOneFirst decides) rows →
      AreInOrder decides (all_left_out place k rows) next →
      (new : List (MRow T)) × (next ≡ all_left_out place k new) × AreInOrder decides rows new
  order-uncut place k rows next o a =
      order-unshown decides (left_out place k) (λ r s e. ap (λ x. x.arm) e) (λ r s e. ap (λ x. x.chosen) e)
      (λ r s h. h) rows next o a

  module _ (Good : Head T → Type 0) (width : ℕ) (f : Head T → List (Replacement T))
      (divides : Divides decides Good width f) where
    wide-at : (k : Key) (low i : ℕ) (hs : List (Head T)) → GoodAt Good i hs → AreFree decides k low hs →
        GoodAt (IsAsWide f width) i hs
    wide-at k low i [] g a = tt
    wide-at k low zero (h ∷ hs) g a =
        every-to (IsReplacement decides a.0 (head_count h + a.0) width) (λ y. length y.heads ≡ width) (f h)
        (λ y w. w.wide) (divides h a.0 g a.2).each
    wide-at k low (suc i) (h ∷ hs) g a = wide-at k (head_count h + a.0) i hs g a.4

    pub all-wide : (i : ℕ) (rows : List (MRow T)) → Every (λ r. GoodAt Good i r.heads) rows → Every IsFreeOf rows →
        Every (λ r. GoodAt (IsAsWide f width) i r.heads) rows
    all-wide i [] g free = tt
    all-wide i (r ∷ rows) g free =
        (wide-at (row_key decides r) 0 i r.heads g.0 free.0, all-wide i rows g.1 free.1)

    module _ (place at : List MStep) (i j : ℕ) (rows : List (MRow T))
        (good : Every (λ r. GoodAt Good (beside i j) r.heads) rows) (free : Every IsFreeOf rows)
        (parted : Ordered (RowParted decides) rows) where
      -- the rows after a step of rows without a column are those of a step of the rows, without it
      pub step-uncut : (next : List (MRow T)) → AreInOrder decides (rows_at f at j (all_left_out place i rows)) next →
          (new : List (MRow T)) × (next ≡ all_left_out place (moved width i j) new)
          × AreInOrder decides (rows_at f at (beside i j) rows) new
      step-uncut next a =
          order-uncut place (moved width i j) (rows_at f at (beside i j) rows) next
          (one-first decides Good width f divides at (beside i j) rows good free parted)
          (subst (λ rs. AreInOrder decides rs next)
          (rows-cut f width place at i j rows (all-wide (beside i j) rows good free)) a)

      -- the column is wild still
      pub step-wild : (new : List (MRow T)) → AreInOrder decides (rows_at f at (beside i j) rows) new → AreWildAt i rows →
          AreWildAt (moved width i j) new
      step-wild new a w =
          every-among IsWildThere new (λ r k. among-every IsWildThere (rows_at f at (beside i j) rows) r
          (wild-moved f width place at i j rows (all-wide (beside i j) rows good free) w) (a.same.back r k))
        where
          IsWildThere : MRow T → Type 0
          IsWildThere r = is_wild (head_at (moved width i j) r.heads) ≡ true
