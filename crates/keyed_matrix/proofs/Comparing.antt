-- Which of two rows comes first by what is compared.
use Rattle.std.proofs.Common.{◌≡◌, ◌<◌, inl, inr, ℕ, List, [], ◌∷◌, map, refl, sym, ap, ◌∙◌, arith}
use Rattle.std.proofs.lemmas.Cmp.{ranked}
use Rattle.std.specs.declared.cmp.Ordering.{Ordering}
use Rattle.std.specs.declared.cmp.Ordering.TheVariants.{Less, Equal, Greater}
use Rattle.std.specs.Ordering.{MatchOrdering, ordering_then, nat_cmp}
use Rattle.std.specs.Cmp.{IsTotalOrder, then_total, on_total, nat_cmp_total}
use Rattle.std.specs.Cmp.Lexicographic.{slice_cmp, lists_total}
use Rattle.match_model.specs.Keys.{Decision, key_of, IsBefore}
use Rattle.match_model.specs.RowOrder.{row_key, RowFirst}
use Rattle.keyed_matrix.specs.declared.keys.Decided.{Decided}
use Rattle.keyed_matrix.specs.declared.order.Turn.{Turn}
use Rattle.keyed_matrix.specs.KeyLists.{IsLess}
use Rattle.keyed_matrix.specs.Deciding.{plain_decision, decided_cmp}
use Rattle.keyed_matrix.specs.Turns.{turn_cmp, HasKey}
use Rattle.keyed_matrix.specs.Views.{plain_row}
use Rattle.keyed_matrix.proofs.KeysInOrder.{less}

less-cmp : (a b : ℕ) → a < b → nat_cmp a b ≡ Less
less-cmp a b l = go (nat_cmp a b) (ranked a b (nat_cmp a b) refl)
  where
    go : (r : Ordering) → MatchOrdering r (a < b) (a ≡ b) (b < a) → r ≡ Less
    go Less m = refl
    go Equal m = absurd (omega (arith, m, l))
    go Greater m = absurd (omega (arith, m, l))

equal-cmp : (a b : ℕ) → a ≡ b → nat_cmp a b ≡ Equal
equal-cmp a b e = go (nat_cmp a b) (ranked a b (nat_cmp a b) refl)
  where
    go : (r : Ordering) → MatchOrdering r (a < b) (a ≡ b) (b < a) → r ≡ Equal
    go Less m = absurd (omega (arith, m, e))
    go Equal m = refl
    go Greater m = absurd (omega (arith, m, e))

-- what is less compares so
list-cmp : (xs ys : List Decided) → IsLess (map plain_decision xs) (map plain_decision ys) →
    slice_cmp decided_cmp xs ys ≡ Less
list-cmp [] [] l = absurd l
list-cmp [] (y ∷ ys) l = refl
list-cmp (x ∷ xs) [] l = absurd l
list-cmp (x ∷ xs) (y ∷ ys) (inl l) =
    ap (λ o. ordering_then (ordering_then o (nat_cmp x.alternative y.alternative)) (slice_cmp decided_cmp xs ys))
    (less-cmp x.number y.number l)
list-cmp (x ∷ xs) (y ∷ ys) (inr (e, inl l)) =
    ap (λ o. ordering_then (ordering_then o (nat_cmp x.alternative y.alternative)) (slice_cmp decided_cmp xs ys))
    (equal-cmp x.number y.number e)
    ∙ ap (λ o. ordering_then o (slice_cmp decided_cmp xs ys)) (less-cmp x.alternative y.alternative l)
list-cmp (x ∷ xs) (y ∷ ys) (inr (e, inr l)) =
    ap (λ o. ordering_then (ordering_then o (nat_cmp x.alternative y.alternative)) (slice_cmp decided_cmp xs ys))
    (equal-cmp x.number y.number e)
    ∙ ap (λ o. ordering_then o (slice_cmp decided_cmp xs ys)) (equal-cmp x.alternative y.alternative l.0)
    ∙ list-cmp xs ys l.1

-- the row that comes first compares as less
pub first-less : {T : Type 0} (decides : ℕ → Decision) (x y : Turn T) → HasKey decides x → HasKey decides y →
    RowFirst decides (plain_row x.row) (plain_row y.row) → turn_cmp x y ≡ Less
first-less decides x y h k (inl l) =
    ap (λ o. ordering_then o (slice_cmp decided_cmp x.key.items y.key.items)) (less-cmp x.row.arm y.row.arm l)
first-less decides x y h k (inr (e, b)) =
    ap (λ o. ordering_then o (slice_cmp decided_cmp x.key.items y.key.items)) (equal-cmp x.row.arm y.row.arm e)
    ∙ list-cmp x.key.items y.key.items (less (map plain_decision x.key.items) (map plain_decision y.key.items)
    h.ascends k.ascends (as-lists b))
  where
    as-lists : IsBefore (row_key decides (plain_row x.row)) (row_key decides (plain_row y.row)) →
        IsBefore (key_of (map plain_decision x.key.items)) (key_of (map plain_decision y.key.items))
    as-lists b = record {
      at = b.at;
      one = b.one;
      other = b.other;
      first = h.same b.at ∙ b.first;
      second = k.same b.at ∙ b.second;
      less = b.less;
      same = λ o l. h.same o ∙ b.same o l ∙ sym (k.same o);
    }

pub turns-total : {T : Type 0} → IsTotalOrder {K = Turn T} turn_cmp
turns-total {T} =
    then_total (on_total (λ (x : Turn T). x.row.arm) nat_cmp_total)
    (on_total (λ (x : Turn T). x.key.items) (lists_total
    (then_total (on_total (λ (d : Decided). d.number) nat_cmp_total)
    (on_total (λ (d : Decided). d.alternative) nat_cmp_total))))
