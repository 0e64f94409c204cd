-- The steps of the search keep what lets rows be asked for.
use Rattle.std.proofs.Common.{◌≡◌, ℕ, zero, suc, Bool, true, false, List, [], ◌∷◌, ◌++◌, map, length, cond, Option, Some, None, slice_get, refl, sym, ap, subst, ◌∙◌, IsTrue}
use Rattle.std.specs.List.{All, flat_map}
use Rattle.std.specs.Option.{option_to_list}
use Rattle.std.proofs.lemmas.List.{map-append}
use Rattle.std.proofs.lemmas.List.Elements.{All-cons, All-nil, All-head, All-tail, All-append, All-filter}
use Rattle.match_model.specs.Values.{MValue}
use Rattle.match_model.specs.Constructors.{MCtor, belongs}
use Rattle.match_model.specs.Contexts.{Context, Open}
use Rattle.match_model.specs.ContextLaws.{PartsLaw, ValuesLaw}
use Rattle.match_model.specs.ArenaPatterns.{MDeArm}
use Rattle.match_model.specs.Rows.{is_wild, parts_open}
use Rattle.match_model.specs.Witness.{parts_under}
use Rattle.pat_context.specs.Parts.{AreValues}
use Rattle.pat_context.proofs.Parting.{parts_values}
use Rattle.pattern_matrix.proofs.Places.{values-append}
use Rattle.pattern_matrix.specs.Opening.{opened_row, opened_leaf, opened_rows, dropped_row, dropped_leaf, dropped_rows}
use Rattle.pattern_matrix.specs.Sparse.{SparseRow, SparseLeaf, leaf_parts, head_has, columns_from, leaves_listed, IsLeafOf}
use Rattle.pattern_matrix.specs.Spreading.{all_apart}
use Rattle.usefulness.specs.Covering.{scope_asked}
use Rattle.usefulness.specs.Frames.{rows_of, IsRowIn}
use Rattle.usefulness.specs.Scope.{Scope, IsKnown}
use Rattle.usefulness.proofs.Inside.{parts_known, leaves_known}
use Rattle.usefulness.proofs.RowFacts.{at_get, dropped_in, opened_in}
use Rattle.witness_search.specs.Askable.{unwanted_all, AreRowsOf, AreAskable, AreApartAskable, IsValued}
use Rattle.witness_search.specs.Found.{ArePieceLeaves}

rows_again : {T : Type 0} (rows : List (SparseRow T)) → rows_of (unwanted_all rows) ≡ rows
rows_again [] = refl
rows_again (r ∷ rows) = ap (λ rs. r ∷ rs) (rows_again rows)

unwanted-append : {T : Type 0} (xs ys : List (SparseRow T)) → unwanted_all (xs ++ ys) ≡ unwanted_all xs ++ unwanted_all ys
unwanted-append xs ys = map-append (λ r. record { row = r; wanted = false }) xs ys

unwanted_at : {T : Type 0} (rows : List (SparseRow T)) (k : ℕ) (r : SparseRow T) → slice_get rows k ≡ Some r → slice_get (unwanted_all rows) k ≡ Some (record { row = r; wanted = false })
unwanted_at [] k r e = cc
unwanted_at (x ∷ rows) zero r e = let same : x ≡ r = cc in ap (λ y. Some (record { row = y; wanted = false })) same
unwanted_at (x ∷ rows) (suc k) r e = unwanted_at rows k r e

-- ---- values of the places

fewer_values : {T : Type 0} (IsValue : T → Bool → MValue → Type 0) (o : Open T) (places : List (Open T)) (vs : List MValue) → AreValues IsValue (o ∷ places) vs →
    (ws : List MValue) × AreValues IsValue places ws
fewer_values IsValue o places [] a = absurd a
fewer_values IsValue o places (v ∷ vs) a = (vs, a.1)

module _ {T : Type 0} (arms : List (MDeArm T)) where
  abbrev scope : Scope T
  scope = scope_asked arms

  -- rows of which each is of a leaf
  rows_of_leaves : (numbers : List ℕ) (f : SparseLeaf T → List (SparseRow T)) (leaves : List (SparseLeaf T)) → All (λ l. AreRowsOf arms numbers (f l)) leaves → AreRowsOf arms numbers (flat_map f leaves)
  rows_of_leaves numbers f [] a = All-nil (IsRowIn scope numbers)
  rows_of_leaves numbers f (l ∷ leaves) a =
      subst (All (IsRowIn scope numbers)) (sym (unwanted-append (f l) (flat_map f leaves)))
      (All-append (IsRowIn scope numbers) (unwanted_all (f l)) (unwanted_all (flat_map f leaves)) (All-head (λ x. AreRowsOf arms numbers (f x)) l leaves a)
      (rows_of_leaves numbers f leaves (All-tail (λ x. AreRowsOf arms numbers (f x)) l leaves a)))

  -- ---- rows that are wild at the place

  dropped_one : (column : ℕ) (numbers : List ℕ) (rows : List (SparseRow T)) → AreRowsOf arms (column ∷ numbers) rows → (l : SparseLeaf T) → AreRowsOf arms numbers (dropped_leaf column rows l)
  dropped_one column numbers rows a l = go (is_wild l.head) (slice_get rows l.row) refl
    where
      go : (b : Bool) (o : Option (SparseRow T)) → slice_get rows l.row ≡ o → AreRowsOf arms numbers (cond b (map (dropped_row column l) (option_to_list o)) [])
      go false o e = All-nil (IsRowIn scope numbers)
      go true None e = All-nil (IsRowIn scope numbers)
      go true (Some r) e =
          All-cons (IsRowIn scope numbers) (record { row = dropped_row column l r; wanted = false }) []
          (dropped_in scope column numbers l (record { row = r; wanted = false }) (at_get (IsRowIn scope (column ∷ numbers)) (unwanted_all rows) l.row (record { row = r; wanted = false }) a (unwanted_at rows l.row r e)))
          (All-nil (IsRowIn scope numbers))

  each_dropped : (column : ℕ) (numbers : List ℕ) (rows : List (SparseRow T)) → AreRowsOf arms (column ∷ numbers) rows → (leaves : List (SparseLeaf T)) →
      All (λ l. AreRowsOf arms numbers (dropped_leaf column rows l)) leaves
  each_dropped column numbers rows a [] = All-nil (λ l. AreRowsOf arms numbers (dropped_leaf column rows l))
  each_dropped column numbers rows a (l ∷ leaves) =
      All-cons (λ x. AreRowsOf arms numbers (dropped_leaf column rows x)) l leaves (dropped_one column numbers rows a l) (each_dropped column numbers rows a leaves)

  -- ---- rows of a piece

  opened_one : (column first count : ℕ) (numbers : List ℕ) (rows : List (SparseRow T)) → AreRowsOf arms (column ∷ numbers) rows → (l : SparseLeaf T) → length (leaf_parts count l.head) ≡ count →
      IsKnown scope l.head → AreRowsOf arms (columns_from first count ++ numbers) (opened_leaf column first count rows l)
  opened_one column first count numbers rows a l long known = go (slice_get rows l.row) refl
    where
      go : (o : Option (SparseRow T)) → slice_get rows l.row ≡ o → AreRowsOf arms (columns_from first count ++ numbers) (map (opened_row column first count l) (option_to_list o))
      go None e = All-nil (IsRowIn scope (columns_from first count ++ numbers))
      go (Some r) e =
          All-cons (IsRowIn scope (columns_from first count ++ numbers)) (record { row = opened_row column first count l r; wanted = false }) []
          (opened_in scope column first count numbers false l (record { row = r; wanted = false }) long (parts_known scope count l.head known)
          (at_get (IsRowIn scope (column ∷ numbers)) (unwanted_all rows) l.row (record { row = r; wanted = false }) a (unwanted_at rows l.row r e)))
          (All-nil (IsRowIn scope (columns_from first count ++ numbers)))

  each_opened : (piece : MCtor) (column first count : ℕ) (numbers : List ℕ) (rows : List (SparseRow T)) → AreRowsOf arms (column ∷ numbers) rows → (leaves : List (SparseLeaf T)) →
      All (IsLeafOf piece count) leaves → All (λ l. IsKnown scope l.head) leaves → All (λ l. AreRowsOf arms (columns_from first count ++ numbers) (opened_leaf column first count rows l)) leaves
  each_opened piece column first count numbers rows a [] p k = All-nil (λ l. AreRowsOf arms (columns_from first count ++ numbers) (opened_leaf column first count rows l))
  each_opened piece column first count numbers rows a (l ∷ leaves) p k =
      All-cons (λ x. AreRowsOf arms (columns_from first count ++ numbers) (opened_leaf column first count rows x)) l leaves
      (opened_one column first count numbers rows a l (All-head (IsLeafOf piece count) l leaves p).parts (All-head (λ x. IsKnown scope x.head) l leaves k))
      (each_opened piece column first count numbers rows a leaves (All-tail (IsLeafOf piece count) l leaves p) (All-tail (λ x. IsKnown scope x.head) l leaves k))

  module _ (IsValue : T → Bool → MValue → Type 0) where
    -- ---- rows that are taken apart, and what is left of them

    pub apart_askable : (number : ℕ) (o : Open T) (numbers : List ℕ) (places : List (Open T)) (rows : List (SparseRow T)) (leaves : List (SparseLeaf T)) → leaves ≡ all_apart number 0 rows →
        AreAskable IsValue arms (number ∷ numbers) (o ∷ places) rows → AreApartAskable IsValue arms number numbers places rows leaves
    apart_askable number o numbers places rows leaves e a = record {
      some = fewer_values IsValue o places a.some.0 a.some.1;
      known = a.known;
      stand = subst (All (λ l. IsKnown scope l.head)) (ap (all_apart number 0) (rows_again rows) ∙ sym e) (leaves_known scope (number ∷ numbers) number 0 (unwanted_all rows) a.known);
    }

    pub behind_askable : (number : ℕ) (numbers : List ℕ) (places : List (Open T)) (rows new : List (SparseRow T)) (leaves : List (SparseLeaf T)) → new ≡ dropped_rows number rows leaves →
        AreApartAskable IsValue arms number numbers places rows leaves → AreAskable IsValue arms numbers places new
    behind_askable number numbers places rows new leaves e a = record {
      some = a.some;
      known = subst (AreRowsOf arms numbers) (sym e) (rows_of_leaves numbers (dropped_leaf number rows) leaves (each_dropped number numbers rows a.known leaves));
    }

    pub entered_askable : (IsType : T → Type 0) (cx : Context T) → ValuesLaw IsType IsValue cx → PartsLaw IsType IsValue cx →
        (next number : ℕ) (o : Open T) (numbers : List ℕ) (places : List (Open T)) (piece : MCtor) (rows new : List (SparseRow T)) (leaves : List (SparseLeaf T)) (found : List ℕ) →
        IsType o.type → IsTrue (belongs (cx.set_of o.type) piece) → ArePieceLeaves piece leaves found → All (IsLeafOf piece (cx.arity piece o.type)) (leaves_listed leaves found) →
        new ≡ opened_rows number next (cx.arity piece o.type) rows (leaves_listed leaves found) → IsValued IsValue o piece →
        AreApartAskable IsValue arms number numbers places rows leaves →
        AreAskable IsValue arms (columns_from next (cx.arity piece o.type) ++ numbers) (parts_open cx o piece ++ places) new
    entered_askable IsType cx values law next number o numbers places piece rows new leaves found ty is f fit e (named, (v, k, b)) a =
        let n = cx.arity piece o.type in
        let parts = parts_values IsType IsValue cx values law o piece named v (cx.set_of o.type) ty refl is k b in
        let known = subst (All (λ l. IsKnown scope l.head)) (sym f.listed) (All-filter (λ l. head_has piece l.head) (λ l. IsKnown scope l.head) leaves a.stand) in
        record {
          some = (parts_under piece v ++ a.some.0, values-append IsValue (parts_open cx o piece) places (parts_under piece v) a.some.0 parts.1 a.some.1);
          known = subst (AreRowsOf arms (columns_from next n ++ numbers)) (sym e)
              (rows_of_leaves (columns_from next n ++ numbers) (opened_leaf number next n rows) (leaves_listed leaves found)
              (each_opened piece number next n numbers rows a.known (leaves_listed leaves found) fit known));
        }
