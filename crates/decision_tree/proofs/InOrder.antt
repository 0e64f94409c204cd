-- Rows of which one of any two comes first can be put in order.
use Rattle.std.proofs.Common.{◌≡◌, ◌⊎◌, inl, inr, ℕ, List, [], ◌∷◌, Some, sym, ap, ◌∙◌, arith, subst}
use Rattle.std.proofs.lemmas.Bool.{cases_lt}
use Rattle.match_model.specs.Keys.{Decision, Key, IsBefore}
use Rattle.match_model.specs.Lists.{Every, Ordered, Among}
use Rattle.match_model.specs.Matrices.{MRow}
use Rattle.match_model.specs.RowOrder.{row_key, RowFirst, AreInOrder}
use Rattle.keyed_rows.proofs.Lists.{every-to}
use Rattle.keyed_rows.proofs.Parting.{among-every}
use Rattle.keyed_rows.proofs.Picking.{before-asym}
use Rattle.keyed_rows.proofs.RowOrder.{every-among}
use Rattle.keyed_matrix.specs.Turns.{IsOneFirst}

some-one : (x y : ℕ) → Some x ≡ Some y → x ≡ y
some-one x y e = cc

-- of three keys the first comes before the last
before-trans : (f g h : Key) → IsBefore f g → IsBefore g h → IsBefore f h
before-trans f g h a b = elim (cases_lt a.at b.at) [
  | inl l ↦ record {
    at = a.at;
    one = a.one;
    other = a.other;
    first = a.first;
    second = sym (b.same a.at l) ∙ a.second;
    less = a.less;
    same = λ o p. a.same o p ∙ b.same o (omega (arith, l, p));
  }
  | inr l ↦ (elim (cases_lt b.at a.at) [
    | inl m ↦ record {
      at = b.at;
      one = b.one;
      other = b.other;
      first = a.same b.at m ∙ b.first;
      second = b.second;
      less = b.less;
      same = λ o p. a.same o (omega (arith, m, p)) ∙ b.same o p;
    }
    | inr m ↦ (let e : a.at ≡ b.at = omega (arith, l, m) in
        let middle : a.other ≡ b.one = some-one a.other b.one (sym a.second ∙ (ap g e ∙ b.first)) in
        let less = a.less in
        let more = b.less in record {
          at = a.at;
          one = a.one;
          other = b.other;
          first = a.first;
          second = ap h e ∙ b.second;
          less = omega (arith, less, middle, more);
          same = λ o p. a.same o p ∙ b.same o (omega (arith, e, p));
        })
  ])
]

module _ {T : Type 0} (decides : ℕ → Decision) where
  first-trans : (r s t : MRow T) → RowFirst decides r s → RowFirst decides s t → RowFirst decides r t
  first-trans r s t (inl l) (inl m) = inl (omega (arith, l, m))
  first-trans r s t (inl l) (inr b) = let e : s.arm ≡ t.arm = b.0 in inl (omega (arith, l, e))
  first-trans r s t (inr a) (inl m) = let e : r.arm ≡ s.arm = a.0 in inl (omega (arith, e, m))
  first-trans r s t (inr a) (inr b) =
      inr (a.0 ∙ b.0, before-trans (row_key decides r) (row_key decides s) (row_key decides t) a.1 b.1)

  pub first-asym : (r s : MRow T) → RowFirst decides r s → RowFirst decides s r → ⊥
  first-asym r s (inl l) (inl m) = omega (arith, l, m)
  first-asym r s (inl l) (inr b) = let e : s.arm ≡ r.arm = b.0 in omega (arith, l, e)
  first-asym r s (inr a) (inl m) = let e : r.arm ≡ s.arm = a.0 in omega (arith, m, e)
  first-asym r s (inr a) (inr b) = before-asym (row_key decides r) (row_key decides s) a.1 b.1

  -- rows in order with one more
  abbrev WithOne : MRow T → List (MRow T) → Type 0
  WithOne x ys = (zs : List (MRow T)) × AreInOrder decides (x ∷ ys) zs

  put-in : (x : MRow T) (ys : List (MRow T)) → Every (IsOneFirst decides x) ys → Ordered (RowFirst decides) ys →
      WithOne x ys
  put-in x [] e o = (
    x ∷ [],
    record { same = record { forth = λ r i. i; back = λ r i. i }; ordered = (tt, tt) },
  )
  put-in x (y ∷ ys) e o = go e.0 (put-in x ys e.1 o.1)
    where
      go : IsOneFirst decides x y → WithOne x ys → WithOne x (y ∷ ys)
      go (inl h) m = (
        x ∷ y ∷ ys,
        record {
          same = record { forth = λ r i. i; back = λ r i. i };
          ordered = ((h, every-to (RowFirst decides y) (RowFirst decides x) ys (λ z k. first-trans x y z h k) o.0), o);
        },
      )
      go (inr h) m = (
        y ∷ m.0,
        record {
          same = record { forth = forth; back = λ r i. back r i };
          ordered = (every-among (RowFirst decides y) m.0 (λ z i. behind z (m.1.same.back z i)), m.1.ordered);
        },
      )
        where
          forth : (r : MRow T) → (r ≡ x) ⊎ ((r ≡ y) ⊎ Among r ys) → (r ≡ y) ⊎ Among r m.0
          forth r (inl k) = inr (m.1.same.forth r (inl k))
          forth r (inr (inl k)) = inl k
          forth r (inr (inr k)) = inr (m.1.same.forth r (inr k))

          turn : (r : MRow T) → (r ≡ x) ⊎ Among r ys → (r ≡ x) ⊎ ((r ≡ y) ⊎ Among r ys)
          turn r (inl k) = inl k
          turn r (inr k) = inr (inr k)

          back : (r : MRow T) → (r ≡ y) ⊎ Among r m.0 → (r ≡ x) ⊎ ((r ≡ y) ⊎ Among r ys)
          back r (inl k) = inr (inl k)
          back r (inr k) = turn r (m.1.same.back r k)

          behind : (z : MRow T) → (z ≡ x) ⊎ Among z ys → RowFirst decides y z
          behind z (inl k) = subst (RowFirst decides y) (sym k) h
          behind z (inr k) = among-every (RowFirst decides y) ys z o.0 k

  pub some-order : (rows : List (MRow T)) → Ordered (IsOneFirst decides) rows →
      (new : List (MRow T)) × AreInOrder decides rows new
  some-order [] o = ([], record { same = record { forth = λ r i. i; back = λ r i. i }; ordered = tt })
  some-order (x ∷ rows) o =
      let m = some-order rows o.1 in
      let n = put-in x m.0 (every-among (IsOneFirst decides x) m.0
      (λ y i. among-every (IsOneFirst decides x) rows y o.0 (m.1.same.back y i))) m.1.ordered in (
        n.0,
        record {
          same = record {
            forth = λ r i. n.1.same.forth r (along (λ (i : Among r rows). m.1.same.forth r i) i);
            back = λ r i. along (λ (i : Among r m.0). m.1.same.back r i) (n.1.same.back r i);
          };
          ordered = n.1.ordered;
        },
      )
    where
      along : {A B C : Type 0} → (B → C) → A ⊎ B → A ⊎ C
      along f (inl a) = inl a
      along f (inr b) = inr (f b)
