-- Rows in order as they are shown by what keeps their arms and choices are shown by rows in order.
use Rattle.std.proofs.Common.{◌≡◌, ◌⊎◌, inl, inr, ℕ, List, map, sym, arith, subst}
use Rattle.match_model.specs.Keys.{Decision, key_of, IsBefore}
use Rattle.match_model.specs.Lists.{Ordered, Among}
use Rattle.match_model.specs.Matrices.{MRow}
use Rattle.match_model.specs.RowOrder.{row_key, RowFirst, AreInOrder}
use Rattle.keyed_rows.proofs.Lists.{ordered-map}
use Rattle.keyed_rows.proofs.Parting.{among-map, two-of}
use Rattle.keyed_rows.proofs.Picking.{before-asym}
use Rattle.keyed_rows.proofs.RowOrder.{ordered-among}
use Rattle.keyed_matrix.specs.Turns.{IsOneFirst}
use Rattle.decision_tree.proofs.WildColumns.{shown-by, ordered-unmap, map-in}

module _ {T : Type 0} (decides : ℕ → Decision) where
  -- no row comes before one that decided the same
  not-first : (r s : MRow T) → r.arm ≡ s.arm → r.chosen ≡ s.chosen → RowFirst decides r s → ⊥
  not-first r s e c (inl l) = absurd (omega (arith, l, e))
  not-first r s e c (inr b) =
      let k : IsBefore (row_key decides s) (row_key decides s) =
      subst (λ us. IsBefore (key_of (map decides us)) (row_key decides s)) c b.1 in
      before-asym (row_key decides s) (row_key decides s) k k

  module _ (g : MRow T → MRow T) (arms : (r s : MRow T) → g r ≡ g s → r.arm ≡ s.arm)
      (chosen : (r s : MRow T) → g r ≡ g s → r.chosen ≡ s.chosen) where
    -- rows of which one of any two comes first, where the order of two rows is that of what is shown
    pub order-unshown : ((r s : MRow T) → RowFirst decides (g r) (g s) → RowFirst decides r s) →
        (rows next : List (MRow T)) → Ordered (IsOneFirst decides) rows → AreInOrder decides (map g rows) next →
        (new : List (MRow T)) × (next ≡ map g new) × AreInOrder decides rows new
    order-unshown first rows next o a = (
      shown.0,
      shown.1,
      record {
        same = record { forth = forth; back = shown.2 };
        ordered =
            ordered-among (λ r s. RowFirst decides (g r) (g s)) (RowFirst decides) shown.0 (λ r s i j h. first r s h)
            (ordered-unmap (RowFirst decides) g shown.0 (subst (Ordered (RowFirst decides)) shown.1 a.ordered));
      },
    )
      where
        shown : (new : List (MRow T)) × (next ≡ map g new) × ((r : MRow T) → Among r new → Among r rows)
        shown = shown-by g rows next (λ y i. a.same.back y i)

        one : (r s : MRow T) → g r ≡ g s → (r ≡ s) ⊎ (IsOneFirst decides r s ⊎ IsOneFirst decides s r) → r ≡ s
        one r s e (inl h) = h
        one r s e (inr (inl (inl h))) = absurd (not-first r s (arms r s e) (chosen r s e) h)
        one r s e (inr (inl (inr h))) = absurd (not-first s r (sym (arms r s e)) (sym (chosen r s e)) h)
        one r s e (inr (inr (inl h))) = absurd (not-first s r (sym (arms r s e)) (sym (chosen r s e)) h)
        one r s e (inr (inr (inr h))) = absurd (not-first r s (arms r s e) (chosen r s e) h)

        forth : (r : MRow T) → Among r rows → Among r shown.0
        forth r i =
            let j : Among (g r) (map g shown.0) = subst (Among (g r)) shown.1 (a.same.forth (g r) (map-in g rows r i)) in
            let m = among-map g shown.0 (g r) j in
            subst (λ s. Among s shown.0)
            (sym (one r m.0 m.2 (two-of (IsOneFirst decides) rows r m.0 o i (shown.2 m.0 m.1)))) m.1

    -- rows in order are shown in order
    pub order-shown : ((r s : MRow T) → RowFirst decides r s → RowFirst decides (g r) (g s)) →
        (rows next : List (MRow T)) → AreInOrder decides rows next → AreInOrder decides (map g rows) (map g next)
    order-shown first rows next a = record {
      same = record { forth = members rows next a.same.forth; back = members next rows a.same.back };
      ordered = ordered-map (RowFirst decides) (RowFirst decides) g next first a.ordered;
    }
      where
        members : (xs ys : List (MRow T)) → ((r : MRow T) → Among r xs → Among r ys) → (r : MRow T) →
            Among r (map g xs) → Among r (map g ys)
        members xs ys h r i =
            let m = among-map g xs r i in subst (λ s. Among s (map g ys)) (sym m.2) (map-in g ys m.0 (h m.0 m.1))
