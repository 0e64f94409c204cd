-- Lists without what is marked, and the names that heads bind in marked columns.
use Rattle.std.proofs.Common.{◌≡◌, ◌<◌, ◌≤◌, ℕ, zero, suc, ◌+◌, Bool, true, false, List, [], ◌∷◌, ◌++◌, map, take, drop, length, get_or, replicate, Some, slice_get, refl, sym, ap, ◌∙◌, append_assoc, append-nil, arith, add-one}
use Rattle.std.specs.List.{list_any}
use Rattle.match_model.specs.Matrices.{MColumn, MRow, head_binds}
use Rattle.match_model.specs.Rows.{Head, wildcards}
use Rattle.match_model.specs.Steps.{replaced_at}
use Rattle.match_model.specs.Trees.{MBind}
use Rattle.keyed_matrix.specs.declared.rows.HeadRun.{HeadRun}
use Rattle.keyed_matrix.specs.declared.rows.KeyedColumn.{KeyedColumn}
use Rattle.keyed_matrix.specs.Views.{plain_column, plain_columns, plain_run, plain_heads}
use Rattle.keyed_matrix.proofs.HeadRuns.{runs-until}
use Rattle.decision_tree.specs.WildColumns.{head_at, left_out, unmarked, marked_binds}

same-some : {A : Type 0} (x y : A) → Some x ≡ Some y → x ≡ y
same-some x y e = cc

not-both : {A : Type 0} → Some false ≡ Some true → A
not-both e = cc

not-either : {A : Type 0} → Some true ≡ Some false → A
not-either e = cc

module _ {A : Type 0} where
  pub drop-nothing : (n : ℕ) → drop {A = A} n [] ≡ []
  drop-nothing zero = refl
  drop-nothing (suc n) = refl

  pub unmarked-nothing : (marks : List Bool) → unmarked {A = A} marks [] ≡ []
  unmarked-nothing [] = refl
  unmarked-nothing (m ∷ marks) = refl

  pub unmarked-append : (marks : List Bool) (xs ys : List A) →
      unmarked marks (xs ++ ys) ≡ unmarked marks xs ++ unmarked (drop (length xs) marks) ys
  unmarked-append [] xs ys = ap (λ ms. xs ++ unmarked ms ys) (sym (none (length xs)))
    where
      none : (n : ℕ) → drop {A = Bool} n [] ≡ []
      none zero = refl
      none (suc n) = refl
  unmarked-append (m ∷ marks) [] ys = refl
  unmarked-append (true ∷ marks) (x ∷ xs) ys = unmarked-append marks xs ys
  unmarked-append (false ∷ marks) (x ∷ xs) ys = ap (λ zs. x ∷ zs) (unmarked-append marks xs ys)

  pub unmarked-map : {B : Type 0} (f : A → B) (marks : List Bool) (xs : List A) →
      map f (unmarked marks xs) ≡ unmarked marks (map f xs)
  unmarked-map f [] xs = refl
  unmarked-map f (m ∷ marks) [] = refl
  unmarked-map f (true ∷ marks) (x ∷ xs) = unmarked-map f marks xs
  unmarked-map f (false ∷ marks) (x ∷ xs) = ap (λ ys. f x ∷ ys) (unmarked-map f marks xs)

  -- the same, where marks count from a place on only
  abbrev pub out_from : (low : ℕ) → List Bool → List A → List A
  out_from zero marks xs = unmarked marks xs
  out_from (suc low) marks [] = []
  out_from (suc low) [] (x ∷ xs) = x ∷ xs
  out_from (suc low) (m ∷ marks) (x ∷ xs) = x ∷ out_from low marks xs

  out-nothing : (low : ℕ) (marks : List Bool) → out_from low marks [] ≡ []
  out-nothing zero marks = unmarked-nothing marks
  out-nothing (suc low) marks = refl

  pub marked-out : (low : ℕ) (marks : List Bool) (xs : List A) → slice_get marks low ≡ Some true →
      out_from low marks xs ≡ replaced_at low (out_from (suc low) marks xs) []
  marked-out zero [] xs e = cc
  marked-out zero (m ∷ marks) [] e = refl
  marked-out zero (true ∷ marks) (x ∷ xs) e = refl
  marked-out zero (false ∷ marks) (x ∷ xs) e = not-both e
  marked-out (suc low) [] xs e = cc
  marked-out (suc low) (m ∷ marks) [] e = refl
  marked-out (suc low) (m ∷ marks) (x ∷ xs) e = ap (λ ys. x ∷ ys) (marked-out low marks xs e)

  pub open-stays : (low : ℕ) (marks : List Bool) (xs : List A) → slice_get marks low ≡ Some false →
      out_from low marks xs ≡ out_from (suc low) marks xs
  open-stays zero [] xs e = cc
  open-stays zero (m ∷ marks) [] e = refl
  open-stays zero (true ∷ marks) (x ∷ xs) e = not-either e
  open-stays zero (false ∷ marks) (x ∷ xs) e = refl
  open-stays (suc low) [] xs e = cc
  open-stays (suc low) (m ∷ marks) [] e = refl
  open-stays (suc low) (m ∷ marks) (x ∷ xs) e = ap (λ ys. x ∷ ys) (open-stays low marks xs e)

  pub none-out-from : (low : ℕ) (marks : List Bool) (xs : List A) → length xs ≤ low → xs ≡ out_from low marks xs
  none-out-from low marks [] l = sym (out-nothing low marks)
  none-out-from zero marks (x ∷ xs) l = absurd (omega (arith, l))
  none-out-from (suc low) [] (x ∷ xs) l = refl
  none-out-from (suc low) (m ∷ marks) (x ∷ xs) l = ap (λ ys. x ∷ ys) (none-out-from low marks xs (omega (arith, l)))

  pub get-before : (low : ℕ) (marks : List Bool) (xs : List A) →
      slice_get (out_from (suc low) marks xs) low ≡ slice_get xs low
  get-before low marks [] = refl
  get-before low [] (x ∷ xs) = refl
  get-before zero (m ∷ marks) (x ∷ xs) = refl
  get-before (suc low) (m ∷ marks) (x ∷ xs) = get-before low marks xs

module _ {T : Type 0} where
  head-before : (low : ℕ) (marks : List Bool) (hs : List (Head T)) →
      head_at low (out_from (suc low) marks hs) ≡ head_at low hs
  head-before low marks [] = refl
  head-before low [] (h ∷ hs) = refl
  head-before zero (m ∷ marks) (h ∷ hs) = refl
  head-before (suc low) (m ∷ marks) (h ∷ hs) = head-before low marks hs

  -- the names in marked columns from a place on
  abbrev names_from : (low : ℕ) → List Bool → List (MColumn T) → List (Head T) → List MBind
  names_from zero marks columns hs = marked_binds marks columns hs
  names_from (suc low) [] columns hs = []
  names_from (suc low) (m ∷ marks) [] hs = []
  names_from (suc low) (m ∷ marks) (c ∷ columns) [] = []
  names_from (suc low) (m ∷ marks) (c ∷ columns) (h ∷ hs) = names_from low marks columns hs

  marked-names : (low : ℕ) (marks : List Bool) (columns : List (MColumn T)) (hs : List (Head T)) (c : MColumn T) →
      slice_get marks low ≡ Some true → slice_get columns low ≡ Some c →
      names_from low marks columns hs ≡ head_binds c.place (head_at low hs) ++ names_from (suc low) marks columns hs
  marked-names low [] columns hs c e f = cc
  marked-names low (m ∷ marks) [] hs c e f = cc
  marked-names zero (m ∷ marks) (d ∷ columns) [] c e f = refl
  marked-names (suc low) (m ∷ marks) (d ∷ columns) [] c e f = refl
  marked-names zero (false ∷ marks) (d ∷ columns) (h ∷ hs) c e f = not-both e
  marked-names zero (true ∷ marks) (d ∷ columns) (h ∷ hs) c e f =
      ap (λ (x : MColumn T). head_binds x.place h ++ marked_binds marks columns hs) (same-some d c f)
  marked-names (suc low) (m ∷ marks) (d ∷ columns) (h ∷ hs) c e f = marked-names low marks columns hs c e f

  open-names : (low : ℕ) (marks : List Bool) (columns : List (MColumn T)) (hs : List (Head T)) →
      slice_get marks low ≡ Some false → names_from low marks columns hs ≡ names_from (suc low) marks columns hs
  open-names low [] columns hs e = cc
  open-names zero (m ∷ marks) [] hs e = refl
  open-names (suc low) (m ∷ marks) [] hs e = refl
  open-names zero (m ∷ marks) (c ∷ columns) [] e = refl
  open-names (suc low) (m ∷ marks) (c ∷ columns) [] e = refl
  open-names zero (true ∷ marks) (c ∷ columns) (h ∷ hs) e = not-either e
  open-names zero (false ∷ marks) (c ∷ columns) (h ∷ hs) e = refl
  open-names (suc low) (m ∷ marks) (c ∷ columns) (h ∷ hs) e = open-names low marks columns hs e

  no-names-from : (low : ℕ) (marks : List Bool) (columns : List (MColumn T)) (hs : List (Head T)) → length hs ≤ low →
      [] ≡ names_from low marks columns hs
  no-names-from zero [] columns [] l = refl
  no-names-from zero (m ∷ marks) [] [] l = refl
  no-names-from zero (m ∷ marks) (c ∷ columns) [] l = refl
  no-names-from zero marks columns (h ∷ hs) l = absurd (omega (arith, l))
  no-names-from (suc low) [] columns hs l = refl
  no-names-from (suc low) (m ∷ marks) [] hs l = refl
  no-names-from (suc low) (m ∷ marks) (c ∷ columns) [] l = refl
  no-names-from (suc low) (m ∷ marks) (c ∷ columns) (h ∷ hs) l = no-names-from low marks columns hs (omega (arith, l))

  -- the row without its heads in the columns that are marked from a place on
  abbrev pub row_from : (low : ℕ) → List Bool → List (MColumn T) → MRow T → MRow T
  row_from low marks columns r = record r {
    heads = out_from low marks r.heads;
    caught = names_from low marks columns r.heads ++ r.caught;
  }

  pub marked-row : (low : ℕ) (marks : List Bool) (columns : List (MColumn T)) (c : MColumn T) (r : MRow T) →
      slice_get marks low ≡ Some true → slice_get columns low ≡ Some c →
      row_from low marks columns r ≡ left_out c.place low (row_from (suc low) marks columns r)
  marked-row low marks columns c r e f = λ k. record r {
    heads = marked-out low marks r.heads e k;
    caught = (ap (λ ns. ns ++ r.caught) (marked-names low marks columns r.heads c e f)
        ∙ append_assoc (head_binds c.place (head_at low r.heads)) (names_from (suc low) marks columns r.heads) r.caught
        ∙ ap (λ h. head_binds c.place h ++ (names_from (suc low) marks columns r.heads ++ r.caught))
        (sym (head-before low marks r.heads))) k;
  }

  pub open-row : (low : ℕ) (marks : List Bool) (columns : List (MColumn T)) (r : MRow T) →
      slice_get marks low ≡ Some false → row_from low marks columns r ≡ row_from (suc low) marks columns r
  open-row low marks columns r e = λ k. record r {
    heads = open-stays low marks r.heads e k;
    caught = open-names low marks columns r.heads e k ++ r.caught;
  }

  pub whole-row : (low : ℕ) (marks : List Bool) (columns : List (MColumn T)) (r : MRow T) → length r.heads ≤ low →
      r ≡ row_from low marks columns r
  whole-row low marks columns r l = λ k. record r {
    heads = none-out-from low marks r.heads l k;
    caught = no-names-from low marks columns r.heads l k ++ r.caught;
  }

  -- heads one behind the other
  pub names-append : (marks : List Bool) (columns : List (MColumn T)) (xs ys : List (Head T)) →
      marked_binds marks columns (xs ++ ys)
      ≡ marked_binds marks columns xs ++ marked_binds (drop (length xs) marks) (drop (length xs) columns) ys
  names-append [] columns xs ys =
      ap (λ ms. marked_binds ms (drop (length xs) columns) ys) (sym (drop-nothing (length xs)))
  names-append (m ∷ marks) [] xs ys = none (drop (length xs) (m ∷ marks)) (length xs) ∙ start xs
    where
      none : (ms : List Bool) (n : ℕ) → [] ≡ marked_binds {T = T} ms (drop n []) ys
      none [] n = refl
      none (m ∷ ms) zero = refl
      none (m ∷ ms) (suc n) = refl

      start : (xs : List (Head T)) → marked_binds (drop (length xs) (m ∷ marks)) (drop (length xs) []) ys
          ≡ marked_binds (m ∷ marks) [] xs ++ marked_binds (drop (length xs) (m ∷ marks)) (drop (length xs) []) ys
      start xs = refl
  names-append (m ∷ marks) (c ∷ columns) [] ys = refl
  names-append (true ∷ marks) (c ∷ columns) (x ∷ xs) ys =
      ap (λ ns. head_binds c.place x ++ ns) (names-append marks columns xs ys)
      ∙ sym (append_assoc (head_binds c.place x) (marked_binds marks columns xs)
      (marked_binds (drop (length xs) marks) (drop (length xs) columns) ys))
  names-append (false ∷ marks) (c ∷ columns) (x ∷ xs) ys = names-append marks columns xs ys

  pub nothing-named : (marks : List Bool) (columns : List (MColumn T)) → marked_binds marks columns [] ≡ []
  nothing-named [] columns = refl
  nothing-named (m ∷ marks) [] = refl
  nothing-named (m ∷ marks) (c ∷ columns) = refl

  -- wildcards, and a pattern
  pub wilds-names : (n : ℕ) (marks : List Bool) (columns : List (MColumn T)) →
      marked_binds marks columns (wildcards n) ≡ []
  wilds-names n [] columns = refl
  wilds-names n (m ∷ marks) [] = refl
  wilds-names zero (m ∷ marks) (c ∷ columns) = refl
  wilds-names (suc n) (true ∷ marks) (c ∷ columns) = wilds-names n marks columns
  wilds-names (suc n) (false ∷ marks) (c ∷ columns) = wilds-names n marks columns

pub unmarked-wilds : {A : Type 0} (marks : List Bool) (n : ℕ) (x : A) → n ≤ length marks →
    replicate (length (unmarked (take n marks) (take n marks))) x ≡ unmarked marks (replicate n x)
unmarked-wilds [] zero x l = refl
unmarked-wilds [] (suc n) x l = absurd (omega (arith, l))
unmarked-wilds (m ∷ marks) zero x l = refl
unmarked-wilds (true ∷ marks) (suc n) x l = unmarked-wilds marks n x (omega (arith, l))
unmarked-wilds (false ∷ marks) (suc n) x l = ap (λ xs. x ∷ xs) (unmarked-wilds marks n x (omega (arith, l)))

rest-got : {A : Type 0} (xs : List A) (k : ℕ) (d : A) → k < length xs → drop k xs ≡ get_or xs k d ∷ drop (k + 1) xs
rest-got [] k d l = absurd (omega (arith, l))
rest-got (y ∷ xs) zero d l = refl
rest-got (y ∷ xs) (suc k) d l =
    let next : suc k + 1 ≡ suc (k + 1) = omega arith in
    rest-got xs k d (omega (arith, l)) ∙ ap (λ n. get_or xs k d ∷ drop n (y ∷ xs)) (sym next)

rest-map : {A B : Type 0} (f : A → B) (xs : List A) (k : ℕ) (x : A) → k < length xs → x ≡ get_or xs k x →
    drop k (map f xs) ≡ f x ∷ drop (k + 1) (map f xs)
rest-map f [] k x l e = absurd (omega (arith, l))
rest-map f (y ∷ xs) zero x l e = ap (λ z. f z ∷ map f xs) (sym e)
rest-map f (y ∷ xs) (suc k) x l e =
    let next : suc k + 1 ≡ suc (k + 1) = omega arith in
    rest-map f xs k x (omega (arith, l)) e ∙ ap (λ n. f x ∷ drop n (map f (y ∷ xs))) (sym next)

module _ {A : Type 0} (marks : List Bool) (at : ℕ) (d : Bool) (l : at < length marks) (x : A) where
  pub marked-goes : get_or marks at d ≡ true → [] ≡ unmarked (drop at marks) (x ∷ [])
  marked-goes t =
      sym (ap (λ ms. unmarked ms (x ∷ [])) (rest-got marks at d l ∙ ap (λ m. m ∷ drop (at + 1) marks) t)
      ∙ unmarked-nothing (drop (at + 1) marks))

  pub open-keeps : get_or marks at d ≡ false → x ∷ [] ≡ unmarked (drop at marks) (x ∷ [])
  open-keeps f =
      sym (ap (λ ms. unmarked ms (x ∷ [])) (rest-got marks at d l ∙ ap (λ m. m ∷ drop (at + 1) marks) f)
      ∙ ap (λ xs. x ∷ xs) (unmarked-nothing (drop (at + 1) marks)))

-- one more of a list
module _ {A : Type 0} where
  kept-suc : (marks : List Bool) (xs : List A) (i : ℕ) (d : Bool) → i < length marks → i < length xs →
      get_or marks i d ≡ false → unmarked marks (take i xs) ++ take 1 (drop i xs) ≡ unmarked marks (take (suc i) xs)
  kept-suc [] xs i d l m e = absurd (omega (arith, l))
  kept-suc (b ∷ marks) [] i d l m e = absurd (omega (arith, m))
  kept-suc (true ∷ marks) (x ∷ xs) zero d l m e = cc
  kept-suc (false ∷ marks) (x ∷ xs) zero d l m e = ap (λ ys. x ∷ ys) (sym (unmarked-nothing marks))
  kept-suc (true ∷ marks) (x ∷ xs) (suc i) d l m e = kept-suc marks xs i d (omega (arith, l)) (omega (arith, m)) e
  kept-suc (false ∷ marks) (x ∷ xs) (suc i) d l m e =
      ap (λ ys. x ∷ ys) (kept-suc marks xs i d (omega (arith, l)) (omega (arith, m)) e)

  gone-suc : (marks : List Bool) (xs : List A) (i : ℕ) (d : Bool) → i < length marks → i < length xs →
      get_or marks i d ≡ true → unmarked marks (take i xs) ≡ unmarked marks (take (suc i) xs)
  gone-suc [] xs i d l m e = absurd (omega (arith, l))
  gone-suc (b ∷ marks) [] i d l m e = absurd (omega (arith, m))
  gone-suc (false ∷ marks) (x ∷ xs) zero d l m e = cc
  gone-suc (true ∷ marks) (x ∷ xs) zero d l m e = sym (unmarked-nothing marks)
  gone-suc (true ∷ marks) (x ∷ xs) (suc i) d l m e = gone-suc marks xs i d (omega (arith, l)) (omega (arith, m)) e
  gone-suc (false ∷ marks) (x ∷ xs) (suc i) d l m e =
      ap (λ ys. x ∷ ys) (gone-suc marks xs i d (omega (arith, l)) (omega (arith, m)) e)

  module _ (marks : List Bool) (xs : List A) (i : ℕ) (d : Bool) (l : i < length marks) (m : i < length xs)
      (old new : List A) (o : old ≡ unmarked marks (take i xs)) where
    pub kept-next : (n : ℕ) → n ≡ 1 → get_or marks i d ≡ false → new ≡ old ++ take n (drop i xs) →
        new ≡ unmarked marks (take (i + 1) xs)
    kept-next n one f e =
        e ∙ (λ j. o j ++ take (one j) (drop i xs)) ∙ kept-suc marks xs i d l m f
        ∙ ap (λ k. unmarked marks (take k xs)) (sym (add-one i))

    pub gone-next : get_or marks i d ≡ true → new ≡ old → new ≡ unmarked marks (take (i + 1) xs)
    gone-next t e =
        e ∙ o ∙ gone-suc marks xs i d l m t ∙ ap (λ k. unmarked marks (take k xs)) (sym (add-one i))

pub none-marked : (marks : List Bool) (i : ℕ) (b : Bool) → list_any (λ m. m) marks ≡ false → slice_get marks i ≡ Some b →
    b ≡ false
none-marked [] i b n e = cc
none-marked (true ∷ marks) i b n e = cc
none-marked (false ∷ marks) zero b n e = sym (same-some false b e)
none-marked (false ∷ marks) (suc i) b n e = none-marked marks i b n e

-- heads side by side, one run more
module _ {T : Type 0} (xs : List (HeadRun T)) (k : ℕ) (x : HeadRun T) (l : k < length xs) (e : x ≡ get_or xs k x)
    (marks : List Bool) (at : ℕ) (h : at ≡ length (plain_heads (take k xs))) where
  pub unmarked-next : (old new : List (Head T)) → old ≡ unmarked marks (plain_heads (take k xs)) →
      new ≡ old ++ unmarked (drop at marks) (plain_run x) → new ≡ unmarked marks (plain_heads (take (k + 1) xs))
  unmarked-next old new o n =
      n ∙ (λ j. o j ++ unmarked (drop (h j) marks) (plain_run x))
      ∙ sym (ap (unmarked marks) (runs-until xs k x l e)
      ∙ unmarked-append marks (plain_heads (take k xs)) (plain_run x))

  pub names-next : (columns : List (MColumn T)) (old new : List MBind) →
      old ≡ marked_binds marks columns (plain_heads (take k xs)) →
      new ≡ old ++ marked_binds (drop at marks) (drop at columns) (plain_run x) →
      new ≡ marked_binds marks columns (plain_heads (take (k + 1) xs))
  names-next columns old new o n =
      n ∙ (λ j. o j ++ marked_binds (drop (h j) marks) (drop (h j) columns) (plain_run x))
      ∙ sym (ap (marked_binds marks columns) (runs-until xs k x l e)
      ∙ names-append marks columns (plain_heads (take k xs)) (plain_run x))

-- the names of a pattern in a column
module _ {T : Type 0} (marks : List Bool) (at : ℕ) (d : Bool) (l : at < length marks) (columns : List (KeyedColumn T))
    (h : Head T) where
  pub marked-binds : (c : KeyedColumn T) → length columns ≡ length marks → c ≡ get_or columns at c →
      get_or marks at d ≡ true →
      head_binds (plain_column c).place h ≡ marked_binds (drop at marks) (drop at (plain_columns columns)) (h ∷ [])
  marked-binds c same e t =
      sym ((λ j. marked_binds ((rest-got marks at d l ∙ ap (λ m. m ∷ drop (at + 1) marks) t) j)
      (rest-map plain_column columns at c (omega (arith, l, same)) e j) (h ∷ []))
      ∙ ap (λ ns. head_binds (plain_column c).place h ++ ns)
      (nothing-named (drop (at + 1) marks) (drop (at + 1) (plain_columns columns)))
      ∙ append-nil (head_binds (plain_column c).place h))

  pub open-binds : get_or marks at d ≡ false →
      [] ≡ marked_binds (drop at marks) (drop at (plain_columns columns)) (h ∷ [])
  open-binds f =
      sym (ap (λ ms. marked_binds ms (drop at (plain_columns columns)) (h ∷ []))
      (rest-got marks at d l ∙ ap (λ m. m ∷ drop (at + 1) marks) f) ∙ go (drop (at + 1) marks) (drop at (plain_columns columns)))
    where
      go : (ms : List Bool) (cs : List (MColumn T)) → marked_binds (false ∷ ms) cs (h ∷ []) ≡ []
      go ms [] = refl
      go ms (c ∷ cs) = nothing-named ms cs
