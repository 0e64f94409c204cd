-- Columns in which every row is wild are left out, one after the other.
use Rattle.std.proofs.Common.{◌≡◌, ◌<◌, ◌≤◌, ◌⊎◌, inl, inr, ℕ, zero, suc, ◌+◌, Bool, true, false, List, [], ◌∷◌, map, length, Some, slice_get, refl, sym, ap, ◌∙◌, arith, subst}
use Rattle.std.specs.List.{All, list_any}
use Rattle.std.proofs.lemmas.Bool.{cases_lt}
use Rattle.std.proofs.lemmas.List.Elements.{All-nil, All-cons}
use Rattle.match_model.specs.Lists.{Every}
use Rattle.match_model.specs.Lowering.{all_wild_at}
use Rattle.match_model.specs.Matrices.{MColumn, MRow, head_binds, bind_at}
use Rattle.match_model.specs.Places.{MStep}
use Rattle.match_model.specs.Steps.{replaced_at}
use Rattle.pattern_arena.specs.declared.pattern.DePat.{DePat, out-DePat}
use Rattle.pattern_arena.specs.Trees.{tree, plain_bound}
use Rattle.pattern_arena.proofs.TreeFacts.{tree_out}
use Rattle.keyed_rows.proofs.Lists.{every-map}
use Rattle.decision_tree.specs.WildColumns.{left_out, all_left_out, unmarked, unmarked_row, AreAsLong, LeavesOut, none_out, one_out, AreLeftOut, AreWildMarks}
use Rattle.decision_tree.proofs.Reading.{there-map}
use Rattle.decision_tree.proofs.Unmarked.{out_from, none-out-from, marked-out, open-stays, get-before, row_from, marked-row, open-row, whole-row, none-marked}
use Rattle.decision_tree.proofs.WildColumns.{beside, wild-cut}

cut-long : {A B : Type 0} (i : ℕ) (xs : List A) (ys : List B) → length xs ≡ length ys →
    length (replaced_at i xs []) ≡ length (replaced_at i ys [])
cut-long i [] [] e = refl
cut-long i [] (y ∷ ys) e = absurd (omega (arith, e))
cut-long i (x ∷ xs) [] e = absurd (omega (arith, e))
cut-long zero (x ∷ xs) (y ∷ ys) e = omega (arith, e)
cut-long (suc i) (x ∷ xs) (y ∷ ys) e = ap suc (cut-long i xs ys (omega (arith, e)))

one-less : {A : Type 0} (i : ℕ) (xs : List A) → i < length xs → length (replaced_at i xs []) + 1 ≡ length xs
one-less i [] l = absurd (omega (arith, l))
one-less zero (x ∷ xs) l = omega arith
one-less (suc i) (x ∷ xs) l = let r = one-less i xs (omega (arith, l)) in omega (arith, r)

beside-behind : (i j : ℕ) → i ≤ j → beside i j ≡ suc j
beside-behind zero j l = refl
beside-behind (suc i) zero l = absurd (omega (arith, l))
beside-behind (suc i) (suc j) l = ap suc (beside-behind i j (omega (arith, l)))

beside-before : (i j : ℕ) → j < i → beside i j ≡ j
beside-before zero j l = absurd (omega (arith, l))
beside-before (suc i) zero l = refl
beside-before (suc i) (suc j) l = ap suc (beside-before i j (omega (arith, l)))

pub every-all : {A : Type 0} (P : A → Type 0) (xs : List A) → Every P xs → All P xs
every-all P [] h = All-nil P
every-all P (x ∷ xs) h = All-cons P x xs h.0 (every-all P xs h.1)

module _ {T : Type 0} where
  -- the columns and rows without column `i`, which is one of them
  record IsWithout (i : ℕ) (columns : List (MColumn T)) (rows : List (MRow T)) (cs : List (MColumn T))
      (rs : List (MRow T)) : Type 0 where
    column : MColumn T
    there : slice_get columns i ≡ Some column
    wild : all_wild_at i rows ≡ true
    columns_are : cs ≡ replaced_at i columns []
    rows_are : rs ≡ all_left_out column.place i rows

  -- the same, where every row is wild in the column, or else they stay as they are
  abbrev IsLeftOutAt : (i : ℕ) → List (MColumn T) → List (MRow T) → List (MColumn T) → List (MRow T) → Type 0
  IsLeftOutAt i columns rows cs rs =
      IsWithout i columns rows cs rs ⊎ ((all_wild_at i rows ≡ false) × (cs ≡ columns) × (rs ≡ rows))

  -- the columns from number `low` on are done
  record ArePartlyOut (low : ℕ) (columns : List (MColumn T)) (rows : List (MRow T)) (cs : List (MColumn T))
      (rs : List (MRow T)) : Type 0 where
    leaves : LeavesOut columns rows cs rs
    as_long : AreAsLong cs rs
    within : low ≤ length cs
    none : (n : ℕ) → low ≤ n → n < length cs → all_wild_at n rs ≡ false
    before : (n : ℕ) → n < low → all_wild_at n rs ≡ all_wild_at n rows

  out-begun : (columns : List (MColumn T)) (rows : List (MRow T)) → AreAsLong columns rows →
      ArePartlyOut (length columns) columns rows columns rows
  out-begun columns rows h = record {
    leaves = none_out;
    as_long = h;
    within = omega arith;
    none = λ n l m. absurd (omega (arith, l, m));
    before = λ n l. refl;
  }

  out-more : (i : ℕ) (columns : List (MColumn T)) (rows : List (MRow T)) (cs : List (MColumn T)) (rs : List (MRow T))
      (cs' : List (MColumn T)) (rs' : List (MRow T)) → ArePartlyOut (i + 1) columns rows cs rs → IsLeftOutAt i cs rs cs' rs' →
      ArePartlyOut i columns rows cs' rs'
  out-more i columns rows cs rs cs' rs' h (inl w) =
      subst (λ q. ArePartlyOut i columns rows q rs') (sym w.columns_are)
      (subst (ArePartlyOut i columns rows (replaced_at i cs [])) (sym w.rows_are) (record {
        leaves = one_out i w.column cs rs w.there w.wild h.leaves;
        as_long =
            every-map (λ r. length r.heads ≡ length cs) (λ r. length r.heads ≡ length (replaced_at i cs []))
            (left_out w.column.place i) rs (λ r e. cut-long i r.heads cs e) h.as_long;
        within = less;
        none = none;
        before = before;
      }))
    where
      shorter : length (replaced_at i cs []) + 1 ≡ length cs
      shorter = let l = h.within in one-less i cs (omega (arith, l))

      less : i ≤ length (replaced_at i cs [])
      less = let l = h.within in omega (arith, l, shorter)

      before : (n : ℕ) → n < i → all_wild_at n (all_left_out w.column.place i rs) ≡ all_wild_at n rows
      before n l =
          wild-cut w.column.place i n rs ∙ ap (λ k. all_wild_at k rs) (beside-before i n l) ∙ h.before n (omega (arith, l))

      none : (n : ℕ) → i ≤ n → n < length (replaced_at i cs []) →
          all_wild_at n (all_left_out w.column.place i rs) ≡ false
      none n l m =
          wild-cut w.column.place i n rs ∙ (ap (λ k. all_wild_at k rs) (beside-behind i n l)
          ∙ h.none (suc n) (omega (arith, l)) (omega (arith, m, shorter)))
  out-more i columns rows cs rs cs' rs' h (inr s) =
      subst (λ q. ArePartlyOut i columns rows q rs') (sym s.1)
      (subst (ArePartlyOut i columns rows cs) (sym s.2) (record {
        leaves = h.leaves;
        as_long = h.as_long;
        within = (let l = h.within in omega (arith, l));
        none = none;
        before = λ n l. h.before n (omega (arith, l));
      }))
    where
      none : (n : ℕ) → i ≤ n → n < length cs → all_wild_at n rs ≡ false
      none n l m = elim (cases_lt i n) [
        | inl k ↦ h.none n (omega (arith, k)) m
        | inr k ↦ (let e : i ≡ n = omega (arith, k, l) in subst (λ z. all_wild_at z rs ≡ false) e s.0)
      ]

  out-done : (columns : List (MColumn T)) (rows : List (MRow T)) (cs : List (MColumn T)) (rs : List (MRow T)) →
      ArePartlyOut 0 columns rows cs rs → AreLeftOut columns rows cs rs
  out-done columns rows cs rs h = record { leaves = h.leaves; none_left = λ n l. h.none n (omega arith) l }

module _ {T : Type 0} (columns : List (MColumn T)) (rows : List (MRow T)) (marks : List Bool)
    (long : AreAsLong columns rows) (are : AreWildMarks (length columns) rows marks) where
  abbrev columns_from : ℕ → List (MColumn T)
  columns_from low = out_from low marks columns

  abbrev rows_from : ℕ → List (MRow T)
  rows_from low = map (row_from low marks columns) rows

  all-whole : (rs : List (MRow T)) → AreAsLong columns rs → rs ≡ map (row_from (length columns) marks columns) rs
  all-whole [] h = refl
  all-whole (r ∷ rs) h =
      let same : length r.heads ≡ length columns = h.0 in
      λ k. whole-row (length columns) marks columns r (omega (arith, same)) k ∷ all-whole rs h.1 k

  marked-rows : (low : ℕ) (c : MColumn T) → slice_get marks low ≡ Some true → slice_get columns low ≡ Some c →
      (rs : List (MRow T)) → map (row_from low marks columns) rs
      ≡ all_left_out c.place low (map (row_from (suc low) marks columns) rs)
  marked-rows low c e f [] = refl
  marked-rows low c e f (r ∷ rs) = λ k. marked-row low marks columns c r e f k ∷ marked-rows low c e f rs k

  open-rows : (low : ℕ) → slice_get marks low ≡ Some false → (rs : List (MRow T)) →
      map (row_from low marks columns) rs ≡ map (row_from (suc low) marks columns) rs
  open-rows low e [] = refl
  open-rows low e (r ∷ rs) = λ k. open-row low marks columns r e k ∷ open-rows low e rs k

  -- one column more, from the last to the first
  out-at : (low : ℕ) → low < length columns →
      ArePartlyOut (suc low) columns rows (columns_from (suc low)) (rows_from (suc low)) → (b : Bool) →
      all_wild_at low rows ≡ b →
      IsLeftOutAt low (columns_from (suc low)) (rows_from (suc low)) (columns_from low) (rows_from low)
  out-at low l h true e =
      let mark : slice_get marks low ≡ Some true = are.are low l ∙ ap Some e in
      let column = there-map (λ c. c) columns low l in
      inl (record {
        column = column.0;
        there = get-before low marks columns ∙ column.1;
        wild = h.before low (omega arith) ∙ e;
        columns_are = marked-out low marks columns mark;
        rows_are = marked-rows low column.0 mark column.1 rows;
      })
  out-at low l h false e =
      let mark : slice_get marks low ≡ Some false = are.are low l ∙ ap Some e in
      inr (h.before low (omega arith) ∙ e, open-stays low marks columns mark, open-rows low mark rows)

  all-from : (d low : ℕ) → low + d ≡ length columns → ArePartlyOut low columns rows (columns_from low) (rows_from low)
  all-from zero low e =
      let end : length columns ≡ low = omega (arith, e) in
      subst (λ n. ArePartlyOut n columns rows (columns_from n) (rows_from n)) end
      (subst (λ cs. ArePartlyOut (length columns) columns rows cs (rows_from (length columns)))
      (none-out-from (length columns) marks columns (omega arith))
      (subst (ArePartlyOut (length columns) columns rows columns) (all-whole rows long) (out-begun columns rows long)))
  all-from (suc d) low e =
      let inside : low < length columns = omega (arith, e) in
      let next : suc low ≡ low + 1 = omega arith in
      let before = all-from d (suc low) (omega (arith, e)) in
      out-more low columns rows (columns_from (suc low)) (rows_from (suc low)) (columns_from low) (rows_from low)
      (subst (λ n. ArePartlyOut n columns rows (columns_from (suc low)) (rows_from (suc low))) next before)
      (out-at low inside before (all_wild_at low rows) refl)

  -- the columns in which every row is wild are out, where they are marked
  pub unmarked-out : AreLeftOut columns rows (unmarked marks columns) (map (unmarked_row marks columns) rows)
  unmarked-out =
      out-done columns rows (unmarked marks columns) (map (unmarked_row marks columns) rows)
      (all-from (length columns) 0 (omega arith))

  pub none-out-at-all : list_any (λ b. b) marks ≡ false → AreLeftOut columns rows columns rows
  none-out-at-all n = record {
    leaves = none_out;
    none_left = λ i l. none-marked marks i (all_wild_at i rows) n (are.are i l);
  }

-- the names of a pattern that is a head
pub pattern-binds : {T : Type 0} (place : List MStep) (p : DePat T) →
    map (bind_at place) (map plain_bound (out-DePat T p).form.now.binds.now) ≡ head_binds place (Some (tree p))
pattern-binds place p = ap (λ q. head_binds place (Some q)) (sym (tree_out p))
