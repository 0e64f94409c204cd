-- What is asked of rows over open places, and what the answer tells.
use Rattle.std.proofs.Common.{◌≡◌, ◌<◌, ◌≤◌, ◌+◌, ◌-◌, ℕ, zero, suc, Bool, false, List, [], ◌∷◌, ◌++◌, map, length, take, drop, get_or, nat_eq, reverse, refl, sym, ap, subst, ◌∙◌, arith, append-nil, append_assoc, drop-cons}
use Rattle.std.specs.List.{All, IsDistinct, flat_map}
use Rattle.std.proofs.lemmas.List.{reverse-append}
use Rattle.std.proofs.lemmas.List.Elements.{All-cons, All-nil, All-head, All-tail}
use Rattle.match_model.specs.Values.{MValue}
use Rattle.match_model.specs.Contexts.{Context, Open}
use Rattle.match_model.specs.ContextLaws.{PartsLaw, ValuesLaw, EmptyLaw, UnsureLaw}
use Rattle.match_model.specs.ArenaPatterns.{MDePat, MDeArm}
use Rattle.match_model.specs.Made.{AreArmsMade}
use Rattle.match_model.specs.WellTyped.{uids_in}
use Rattle.match_model.specs.WitnessList.{Witnesses}
use Rattle.pat_context.specs.Parts.{AreValues}
use Rattle.pattern_matrix.specs.Columns.{plain_column}
use Rattle.pattern_matrix.specs.Covering.{some_takes}
use Rattle.pattern_matrix.specs.HeadRows.{cols, AreTypes, AllTyped, AreMadeRows}
use Rattle.pattern_matrix.specs.Sparse.{SparseRow, heads_at}
use Rattle.pattern_matrix.specs.Views.{plain_row, plain_rows}
use Rattle.pattern_matrix.specs.declared.rows.Row.{Row}
use Rattle.usefulness.specs.Covering.{scope_asked, covered_arms, IsAsking, IsNew, AreAllTaken}
use Rattle.usefulness.specs.Covering as covering
use Rattle.usefulness.specs.Frames.{numbers, places, IsHeadIn, IsRowIn, AreOpen}
use Rattle.witness_search.specs.Askable.{unwanted_all, AreRowsOf, AreAskable}
use Rattle.witness_search.specs.Asks.{shown_of, listed_of, AreAsks}
use Rattle.witness_search.specs.Opened.{places_of, numbers_of}
use Rattle.witness_search.specs.Wells.{heads_over, AreApart, IsWell}
use Rattle.witness_search.specs.declared.asking.Asks.{Asks}
use Rattle.witness_search.specs.declared.opened.Opened.{Opened}
use Rattle.usefulness.proofs.Covering.{new_are_covered}
use Rattle.witness_search.proofs.MadeHeads.{rows_made}
use Rattle.witness_search.proofs.Stepping.{both_apart}
use Rattle.witness_search.proofs.TakingRows.{taking_rows_leave_none}

-- ---- places and rows as they are asked for

shown_numbers : {T : Type 0} (os : List (Opened T)) → numbers (map (λ o. (o.number, plain_column o.column)) os) ≡ map (λ o. o.number) os
shown_numbers [] = refl
shown_numbers (o ∷ os) = ap (λ ns. o.number ∷ ns) (shown_numbers os)

shown_places : {T : Type 0} (os : List (Opened T)) → places (map (λ o. (o.number, plain_column o.column)) os) ≡ map (λ o. plain_column o.column) os
shown_places [] = refl
shown_places (o ∷ os) = ap (λ ps. plain_column o.column ∷ ps) (shown_places os)

heads_same : {T : Type 0} (shown : List (ℕ × Open T)) (rows : List (SparseRow T)) → covering.heads_over shown (listed_of rows) ≡ heads_over (numbers shown) rows
heads_same shown [] = refl
heads_same shown (r ∷ rows) = ap (λ hss. heads_at r.heads (numbers shown) ∷ hss) (heads_same shown rows)

listed_in : {T : Type 0} (arms : List (MDeArm T)) (columns : List ℕ) (rows : List (SparseRow T)) → AreRowsOf arms columns rows → All (λ heads. All (IsHeadIn (scope_asked arms) columns) heads) (listed_of rows)
listed_in arms columns [] a = All-nil (λ heads. All (IsHeadIn (scope_asked arms) columns) heads)
listed_in arms columns (r ∷ rows) a =
    All-cons (λ heads. All (IsHeadIn (scope_asked arms) columns) heads) r.heads (listed_of rows)
    (All-head (IsRowIn (scope_asked arms) columns) (record { row = r; wanted = false }) (unwanted_all rows) a).heads
    (listed_in arms columns rows (All-tail (IsRowIn (scope_asked arms) columns) (record { row = r; wanted = false }) (unwanted_all rows) a))

are_open : (next : ℕ) (columns : List ℕ) → All (λ c. c < next) columns → AreApart columns → AreOpen next columns
are_open next [] b a = tt
are_open next (c ∷ columns) b a =
    let others = All-tail (λ d. d < next) c columns b in
    (All-head (λ d. d < next) c columns b, both_apart c next columns others a.0, are_open next columns others a.1)

-- ---- places and rows are listed one by one

one_more_shown : {T : Type 0} (before : List (Opened T)) (o : Opened T) → shown_of (before ++ o ∷ []) ≡ (o.number, plain_column o.column) ∷ shown_of before
one_more_shown before o = ap (map (λ o. (o.number, plain_column o.column))) (reverse-append before (o ∷ []))

take_more : {A : Type 0} (xs : List A) (k : ℕ) (x : A) → k < length xs → x ≡ get_or xs k x → take (suc k) xs ≡ take k xs ++ x ∷ []
take_more [] k x l e = absurd (omega (arith, l))
take_more (y ∷ xs) zero x l e = ap (λ z. z ∷ []) (sym e)
take_more (y ∷ xs) (suc k) x l e = ap (λ zs. y ∷ zs) (take_more xs k x (omega (arith, l)) e)

take_whole : {A : Type 0} (n : ℕ) (xs : List A) → length xs ≤ n → take n xs ≡ xs
take_whole zero [] l = refl
take_whole (suc n) [] l = refl
take_whole zero (x ∷ xs) l = absurd (omega (arith, l))
take_whole (suc n) (x ∷ xs) l = ap (λ zs. x ∷ zs) (take_whole n xs (omega (arith, l)))

module _ {T : Type 0} (opened : List (Opened T)) where
  -- the places are listed from the end on, and the list has those that are left behind it
  pub none_listed : (listed : List (ℕ × Open T)) → listed ≡ [] → listed ++ shown_of (take (length opened - 0) opened) ≡ shown_of opened
  none_listed listed e = ap (λ os. os ++ shown_of (take (length opened - 0) opened)) e ∙ ap shown_of (take_whole (length opened - 0) opened (omega arith))

  pub one_listed : (i at : ℕ) (o : Opened T) (old new : List (ℕ × Open T)) → at + suc i ≡ length opened → o ≡ get_or opened at o → new ≡ old ++ (o.number, plain_column o.column) ∷ [] →
      old ++ shown_of (take (length opened - i) opened) ≡ shown_of opened → new ++ shown_of (take (length opened - (i + 1)) opened) ≡ shown_of opened
  one_listed i at o old new e is n h =
      let a : length opened - i ≡ suc at = omega (arith, e) in
      let b : length opened - (i + 1) ≡ at = omega (arith, e) in
      let rest = shown_of (take at opened) in
      ap (λ k. new ++ shown_of (take k opened)) b ∙ ap (λ os. os ++ rest) n ∙ append_assoc old ((o.number, plain_column o.column) ∷ []) rest
      ∙ ap (λ os. old ++ os) (sym (ap shown_of (take_more opened at o (omega (arith, e)) is) ∙ one_more_shown (take at opened) o))
      ∙ sym (ap (λ k. old ++ shown_of (take k opened)) a) ∙ h

  pub all_listed : (i : ℕ) (listed : List (ℕ × Open T)) → length opened ≤ i → listed ++ shown_of (take (length opened - i) opened) ≡ shown_of opened → listed ≡ shown_of opened
  all_listed i listed l h =
      let none : length opened - i ≡ 0 = omega (arith, l) in
      sym (append-nil listed) ∙ sym (ap (λ k. listed ++ shown_of (take k opened)) none) ∙ h

-- one row more
pub one_row : {T : Type 0} (rows : List (Row T)) (i : ℕ) (r : Row T) (old new : List (List (ℕ × MDePat T))) (heads : List (ℕ × MDePat T)) → i < length rows → r ≡ get_or rows i r →
    new ≡ old ++ heads ∷ [] → heads ≡ (plain_row r).heads → old ++ listed_of (plain_rows (drop i rows)) ≡ listed_of (plain_rows rows) →
    new ++ listed_of (plain_rows (drop (i + 1) rows)) ≡ listed_of (plain_rows rows)
one_row {T = T} rows i r old new heads l is n e h =
    let next : i + 1 ≡ suc i = omega arith in
    let rest = listed_of (plain_rows (drop (suc i) rows)) in
    ap (λ k. new ++ listed_of (plain_rows (drop k rows))) next ∙ ap (λ hs. hs ++ rest) n ∙ append_assoc old (heads ∷ []) rest ∙ ap (λ x. old ++ x ∷ rest) e
    ∙ sym (ap (λ (rs : List (Row T)). old ++ listed_of (plain_rows rs)) (drop-cons rows i r l ∙ ap (λ (y : Row T). y ∷ drop (suc i) rows) (sym is))) ∙ h

-- ---- what is asked, and what the answer tells

module _ {T : Type 0} (IsType : T → Type 0) (IsValue : T → Bool → MValue → Type 0) (cx : Context T) where
  -- nothing was asked for yet
  pub first_asks : (arms : List (MDeArm T)) (asks : Asks T) → IsNew asks.covered → covered_arms asks.covered ≡ arms → AreArmsMade arms → IsDistinct nat_eq (flat_map (λ a. uids_in a.pat) arms) →
      AreAsks IsType IsValue cx arms asks
  first_asks arms asks new same made uids = record {
    known = new_are_covered IsType IsValue cx asks.covered new (subst (λ xs. IsDistinct nat_eq (flat_map (λ a. uids_in a.pat) xs)) (sym same) uids);
    same = same;
    made = made;
  }

  -- what is asked for
  pub asked_well : (arms : List (MDeArm T)) (next : ℕ) (opened : List (Opened T)) (rows : List (SparseRow T)) → AreArmsMade arms →
      IsWell IsType cx next (numbers_of opened) (places_of opened) rows → AreAskable IsValue arms (numbers_of opened) (places_of opened) rows →
      IsAsking IsType IsValue cx arms next (shown_of opened) (listed_of rows)
  asked_well arms next opened rows made w a =
      let shown = shown_of opened in
      let ns : numbers shown ≡ numbers_of opened = shown_numbers (reverse opened) in
      let ps : places shown ≡ places_of opened = shown_places (reverse opened) in
      let hs : covering.heads_over shown (listed_of rows) ≡ heads_over (numbers_of opened) rows = heads_same shown rows ∙ ap (λ cs. heads_over cs rows) ns in
      record {
        columns = subst (AreOpen next) (sym ns) (are_open next (numbers_of opened) w.numbers_below w.apart);
        heads = subst (λ cs. All (λ heads. All (IsHeadIn (scope_asked arms) cs) heads) (listed_of rows)) (sym ns) (listed_in arms (numbers_of opened) rows a.known);
        types = subst (λ os. AreTypes IsType (cols os)) (sym ps) w.types;
        typed = subst (λ os. AllTyped cx (cols os) (covering.heads_over shown (listed_of rows))) (sym ps) (subst (AllTyped cx (cols (places_of opened))) (sym hs) w.typed);
        made = subst AreMadeRows (sym hs) (rows_made arms made (numbers_of opened) (numbers_of opened) rows a.known);
        some = subst (λ os. (vs : List MValue) × AreValues IsValue os vs) (sym ps) a.some;
      }

  module _ (values : ValuesLaw IsType IsValue cx) (law : PartsLaw IsType IsValue cx) (is_empty : T → Bool) (variant_empty : T → ℕ → Bool)
      (empty : EmptyLaw IsType IsValue cx is_empty variant_empty) (unsure : UnsureLaw IsType IsValue) where
    -- what the answer tells
    pub answered : (arms : List (MDeArm T)) (next : ℕ) (opened : List (Opened T)) (rows : List (SparseRow T)) → AreArmsMade arms →
        IsWell IsType cx next (numbers_of opened) (places_of opened) rows → AreAskable IsValue arms (numbers_of opened) (places_of opened) rows →
        AreAllTaken IsValue (shown_of opened) (listed_of rows) → Witnesses cx IsValue (places_of opened) (heads_over (numbers_of opened) rows) []
    answered arms next opened rows made w a t =
        let shown = shown_of opened in
        let hs : covering.heads_over shown (listed_of rows) ≡ heads_over (numbers_of opened) rows = heads_same shown rows ∙ ap (λ cs. heads_over cs rows) (shown_numbers (reverse opened)) in
        taking_rows_leave_none IsType IsValue cx values law is_empty variant_empty empty unsure (places_of opened) (heads_over (numbers_of opened) rows) w.types w.typed
        (rows_made arms made (numbers_of opened) (numbers_of opened) rows a.known) a.some.0 a.some.1
        (λ vs v. ap (λ hss. some_takes hss vs) (sym hs) ∙ t vs (subst (λ os. AreValues IsValue os vs) (sym (shown_places (reverse opened))) v))
