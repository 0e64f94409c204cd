-- Marks of columns that stay where heads are wild.
use Rattle.std.proofs.Common.{◌≡◌, ◌<◌, ℕ, zero, suc, ◌+◌, Bool, true, false, ◌&&◌, List, [], ◌∷◌, ◌++◌, take, drop, length, get_or, replicate, set, Some, slice_get, refl, sym, ap, ◌∙◌, arith}
use Rattle.std.proofs.lemmas.List.{length-replicate, length-set}
use Rattle.std.proofs.lemmas.List.Folds.{list_all-append}
use Rattle.match_model.specs.Lowering.{all_wild_at}
use Rattle.match_model.specs.Matrices.{MRow}
use Rattle.match_model.specs.Rows.{Head, is_wild, starts_wild, wildcards}
use Rattle.keyed_matrix.specs.declared.rows.HeadRun.{HeadRun}
use Rattle.keyed_matrix.specs.declared.rows.KeyedRow.{KeyedRow}
use Rattle.keyed_matrix.specs.Views.{plain_run, plain_heads, plain_row, plain_rows}
use Rattle.keyed_matrix.proofs.HeadRuns.{runs-until}
use Rattle.decision_tree.specs.WildColumns.{StayWhereWild, AreWildMarks}
use Rattle.decision_tree.proofs.RunTests.{rows-until}

and-true : (b : Bool) → (b && true) ≡ b
and-true true = refl
and-true false = refl

and-false : (b : Bool) → (b && false) ≡ false
and-false true = refl
and-false false = refl

and-assoc : (a b c : Bool) → ((a && b) && c) ≡ (a && (b && c))
and-assoc true b c = refl
and-assoc false b c = refl

same-get : {A : Type 0} (x y : A) → Some x ≡ Some y → x ≡ y
same-get x y e = cc

all-true : (n i : ℕ) → i < n → slice_get (replicate n true) i ≡ Some true
all-true zero i l = absurd (omega (arith, l))
all-true (suc n) zero l = refl
all-true (suc n) (suc i) l = all-true n i (omega (arith, l))

there-off : (at : ℕ) (bs : List Bool) (d : Bool) → at < length bs → get_or bs at d ≡ false → slice_get bs at ≡ Some false
there-off at [] d l e = absurd (omega (arith, l))
there-off zero (x ∷ bs) d l e = ap Some e
there-off (suc at) (x ∷ bs) d l e = there-off at bs d (omega (arith, l)) e

starts-none : (T : Type 0) (i : ℕ) → true ≡ starts_wild {T = T} (drop i [])
starts-none T zero = refl
starts-none T (suc i) = refl

-- wildcards are wild, behind others too
starts-wilds : (T : Type 0) (n i : ℕ) → starts_wild {T = T} (drop i (wildcards n)) ≡ true
starts-wilds T zero i = sym (starts-none T i)
starts-wilds T (suc n) zero = refl
starts-wilds T (suc n) (suc i) = starts-wilds T n i

wilds-behind : (T : Type 0) (at n i : ℕ) → starts_wild {T = T} (drop i (wildcards at ++ wildcards n)) ≡ true
wilds-behind T zero n i = starts-wilds T n i
wilds-behind T (suc at) n zero = refl
wilds-behind T (suc at) n (suc i) = wilds-behind T at n i

module _ {T : Type 0} where
  wild-behind : (at i : ℕ) (h : Head T) → is_wild h ≡ true → starts_wild (drop i (wildcards at ++ h ∷ [])) ≡ true
  wild-behind zero zero h w = w
  wild-behind zero (suc i) h w = sym (starts-none T i)
  wild-behind (suc at) zero h w = refl
  wild-behind (suc at) (suc i) h w = wild-behind at i h w

  -- where all are wild the marks stay
  all-stay : (at : ℕ) (hs : List (Head T)) (bs : List Bool) →
      ((i : ℕ) → starts_wild (drop i (wildcards at ++ hs)) ≡ true) → StayWhereWild at hs bs bs
  all-stay at hs bs w = record {
    long = refl;
    marks = λ i b e. e ∙ ap Some (sym (ap (λ v. b && v) (w i) ∙ and-true b));
  }

  pub wilds-stay : (at n : ℕ) (bs : List Bool) → StayWhereWild {T = T} at (wildcards n) bs bs
  wilds-stay at n bs = all-stay at (wildcards n) bs (wilds-behind T at n)

  pub wild-stays : (at : ℕ) (bs : List Bool) (h : Head T) → is_wild h ≡ true → StayWhereWild at (h ∷ []) bs bs
  wild-stays at bs h w = all-stay at (h ∷ []) bs (λ i. wild-behind at i h w)

  pub none-stay : (bs : List Bool) → StayWhereWild {T = T} 0 [] bs bs
  none-stay bs = all-stay 0 [] bs (λ i. sym (starts-none T i))

  -- another head takes its mark off
  one-off : (at : ℕ) (bs : List Bool) (h : Head T) → at < length bs → is_wild h ≡ false → (i : ℕ) (b : Bool) →
      slice_get bs i ≡ Some b → slice_get (set bs at false) i ≡ Some (b && starts_wild (drop i (wildcards at ++ h ∷ [])))
  one-off at [] h l w i b e = absurd (omega (arith, l))
  one-off zero (x ∷ bs) h l w zero b e = ap Some (sym (ap (λ v. b && v) w ∙ and-false b))
  one-off zero (x ∷ bs) h l w (suc i) b e =
      e ∙ ap Some (sym (and-true b) ∙ ap (λ v. b && v) (starts-none T i))
  one-off (suc at) (x ∷ bs) h l w zero b e = e ∙ ap Some (sym (and-true b))
  one-off (suc at) (x ∷ bs) h l w (suc i) b e = one-off at bs h (omega (arith, l)) w i b e

  pub open-off : (at : ℕ) (bs : List Bool) (h : Head T) → at < length bs → is_wild h ≡ false →
      StayWhereWild at (h ∷ []) bs (set bs at false)
  open-off at bs h l w = record { long = length-set bs at false; marks = one-off at bs h l w }

  one-kept : (at : ℕ) (bs : List Bool) (h : Head T) → at < length bs → slice_get bs at ≡ Some false → (i : ℕ) (b : Bool) →
      slice_get bs i ≡ Some b → slice_get bs i ≡ Some (b && starts_wild (drop i (wildcards at ++ h ∷ [])))
  one-kept at [] h l f i b e = absurd (omega (arith, l))
  one-kept zero (x ∷ bs) h l f zero b e =
      let off : b ≡ false = same-get b false (sym e ∙ f) in
      e ∙ ap Some (off ∙ sym (ap (λ v. v && is_wild h) off))
  one-kept zero (x ∷ bs) h l f (suc i) b e =
      e ∙ ap Some (sym (and-true b) ∙ ap (λ v. b && v) (starts-none T i))
  one-kept (suc at) (x ∷ bs) h l f zero b e = e ∙ ap Some (sym (and-true b))
  one-kept (suc at) (x ∷ bs) h l f (suc i) b e = one-kept at bs h (omega (arith, l)) f i b e

  -- a mark that is off stays
  pub off-stays : (at : ℕ) (bs : List Bool) (h : Head T) (d : Bool) → at < length bs → get_or bs at d ≡ false →
      StayWhereWild at (h ∷ []) bs bs
  off-stays at bs h d l e = record { long = refl; marks = one-kept at bs h l (there-off at bs d l e) }

  -- heads behind others
  behind-others : (xs ys : List (Head T)) (i : ℕ) →
      (starts_wild (drop i xs) && starts_wild (drop i (wildcards (length xs) ++ ys))) ≡ starts_wild (drop i (xs ++ ys))
  behind-others [] ys i = ap (λ v. v && starts_wild (drop i ys)) (sym (starts-none T i))
  behind-others (x ∷ xs) ys zero = and-true (is_wild x)
  behind-others (x ∷ xs) ys (suc i) = behind-others xs ys i

  pub stay-next : (xs : List (HeadRun T)) (k : ℕ) (x : HeadRun T) → k < length xs → x ≡ get_or xs k x →
      (old now new : List Bool) (at : ℕ) → at ≡ length (plain_heads (take k xs)) →
      StayWhereWild 0 (plain_heads (take k xs)) old now → StayWhereWild at (plain_run x) now new →
      StayWhereWild 0 (plain_heads (take (k + 1) xs)) old new
  stay-next xs k x l e old now new at a before here = record {
    long = here.long ∙ before.long;
    marks =
        λ i b m. here.marks i (b && starts_wild (drop i hs)) (before.marks i b m)
        ∙ ap Some (and-assoc b (starts_wild (drop i hs)) (starts_wild (drop i (wildcards at ++ plain_run x)))
        ∙ ap (λ v. b && v)
        (ap (λ n. starts_wild (drop i hs) && starts_wild (drop i (wildcards n ++ plain_run x))) a
        ∙ behind-others hs (plain_run x) i
        ∙ ap (λ ys. starts_wild (drop i ys)) (sym (runs-until xs k x l e))));
  }
    where
      hs : List (Head T)
      hs = plain_heads (take k xs)

  -- the marks of no row, and of one row more
  pub marks-begun : (count : ℕ) → AreWildMarks {T = T} count [] (replicate count true)
  marks-begun count = record { long = length-replicate count true; are = λ i l. all-true count i l }

  pub marks-next : (rows : List (KeyedRow T)) (k : ℕ) (r : KeyedRow T) → k < length rows → r ≡ get_or rows k r →
      (count : ℕ) (now new : List Bool) → AreWildMarks count (plain_rows (take k rows)) now →
      StayWhereWild 0 (plain_row r).heads now new → AreWildMarks count (plain_rows (take (k + 1) rows)) new
  marks-next rows k r l e count now new before here = record {
    long = here.long ∙ before.long;
    are =
        λ i w. here.marks i (all_wild_at i (plain_rows (take k rows))) (before.are i w)
        ∙ ap Some (sym (ap (all_wild_at i) (rows-until rows k r l e)
        ∙ list_all-append (λ (x : MRow T). starts_wild (drop i x.heads)) (plain_rows (take k rows)) (plain_row r ∷ [])
        ∙ ap (λ b. all_wild_at i (plain_rows (take k rows)) && b) (and-true (starts_wild (drop i (plain_row r).heads)))));
  }
