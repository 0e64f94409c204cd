-- Constructors that are added to the lists of wanted columns.
use Rattle.std.proofs.Common.{◌≡◌, ◌<◌, ◌≤◌, ℕ, zero, suc, ◌+◌, Bool, true, false, List, [], ◌∷◌, ◌++◌, map, take, length, get_or, slice_set, refl, ap, sym, ◌∙◌, arith, subst, Some, None, slice_get, append_assoc, append-nil, length-set, Result, Ok, Err, OnOk}
use Rattle.std.specs.Global.{Vec}
use Rattle.std.specs.List.{All, flat_map}
use Rattle.std.proofs.lemmas.List.{length-append, length-map}
use Rattle.std.proofs.lemmas.Option.{slice_get_within, get_or_from_slice_get}
use Rattle.match_model.specs.Constructors.{MCtor}
use Rattle.match_model.specs.Matrices.{MRow}
use Rattle.match_model.specs.Rows.{Head, wildcards}
use Rattle.pat_context.specs.Views.{plain_ctor}
use Rattle.pat_context.specs.declared.ctor.Ctor.{Ctor}
use Rattle.keyed_matrix.specs.InColumns.{ctors_in, head_ctors, ctors_from, HaveMore}
use Rattle.keyed_matrix.specs.Steps.{row_ctors}
use Rattle.keyed_matrix.specs.Views.{plain_run, plain_heads, plain_row, plain_rows}
use Rattle.keyed_matrix.specs.declared.rows.HeadRun.{HeadRun}
use Rattle.keyed_matrix.specs.declared.rows.KeyedRow.{KeyedRow}
use Rattle.keyed_matrix.proofs.HeadRuns.{runs-until}
use Rattle.keyed_matrix.proofs.Replaced.{get-map}
use Rattle.keyed_matrix.proofs.TakenApart.{row-ctors}

after : (k : ℕ) → suc k + 1 ≡ suc (k + 1)
after k = omega arith

there : {A : Type 0} (xs : List A) (i : ℕ) → i < length xs → (x : A) × (slice_get xs i ≡ Some x)
there [] i l = absurd (omega (arith, l))
there (x ∷ xs) zero l = (x, refl)
there (x ∷ xs) (suc i) l = there xs i (omega (arith, l))

-- one list without a constructor more
pub none-more : (lists : List (Vec Ctor)) (new : Vec Ctor) → new.items ≡ [] → ((i : ℕ) → ctors_in lists i ≡ []) →
    (i : ℕ) → ctors_in (lists ++ new ∷ []) i ≡ []
none-more [] new e h zero = ap (map plain_ctor) e
none-more [] new e h (suc i) = refl
none-more (x ∷ lists) new e h zero = h zero
none-more (x ∷ lists) new e h (suc i) = none-more lists new e (λ j. h (suc j)) i

-- wildcards have none
wild-heads : (T : Type 0) (n i : ℕ) → get_or (wildcards {T = T} n) i None ≡ None
wild-heads T zero i = refl
wild-heads T (suc n) zero = refl
wild-heads T (suc n) (suc i) = wild-heads T n i

pub wilds-from : (T : Type 0) (at n i : ℕ) → ctors_from {T = T} at (wildcards n) i ≡ []
wilds-from T zero n i = ap head_ctors (wild-heads T n i)
wilds-from T (suc at) n zero = refl
wilds-from T (suc at) n (suc i) = wilds-from T at n i

pub mark-off : (wanted : List Bool) (at : ℕ) (d : Bool) → at < length wanted → get_or wanted at d ≡ false →
    slice_get wanted at ≡ Some false
mark-off [] at d l e = absurd (omega (arith, l))
mark-off (b ∷ wanted) zero d l e = ap Some e
mark-off (b ∷ wanted) (suc at) d l e = mark-off wanted at d (omega (arith, l)) e

pub none-more-in : (wanted : List Bool) (lists : List (Vec Ctor)) (more : ℕ → List MCtor) →
    ((i : ℕ) → slice_get wanted i ≡ Some true → more i ≡ []) → HaveMore wanted lists lists more
none-more-in wanted lists more none = record {
  long = refl;
  ctors = λ i w. sym (append-nil (ctors_in lists i)) ∙ ap (λ ks. ctors_in lists i ++ ks) (sym (none i w));
}

module _ {T : Type 0} where
  -- heads behind others
  behind-others : (xs ys : List (Head T)) (i : ℕ) →
      ctors_from 0 xs i ++ ctors_from (length xs) ys i ≡ ctors_from 0 (xs ++ ys) i
  behind-others [] ys i = refl
  behind-others (x ∷ xs) ys zero = append-nil (head_ctors x)
  behind-others (x ∷ xs) ys (suc i) = behind-others xs ys i

  -- a list with more constructors in place of one, where its column is wanted
  pub one-list : (lists : List (Vec Ctor)) (at : ℕ) (x y : Vec Ctor) (h : Head T) → at < length lists →
      x ≡ get_or lists at x → map plain_ctor y.items ≡ map plain_ctor x.items ++ head_ctors h →
      (i : ℕ) → ctors_in (slice_set lists at y) i ≡ ctors_in lists i ++ ctors_from at (h ∷ []) i
  one-list [] at x y h l e m i = absurd (omega (arith, l))
  one-list (z ∷ lists) zero x y h l e m zero = m ∙ ap (λ v. map plain_ctor v.items ++ head_ctors h) e
  one-list (z ∷ lists) zero x y h l e m (suc i) = sym (append-nil (ctors_in lists i))
  one-list (z ∷ lists) (suc at) x y h l e m zero = sym (append-nil (map plain_ctor z.items))
  one-list (z ∷ lists) (suc at) x y h l e m (suc i) = one-list lists at x y h (omega (arith, l)) e m i

  -- where its column is not wanted, no wanted column has more
  pub other-lists : (wanted : List Bool) (at i : ℕ) (h : Head T) → slice_get wanted at ≡ Some false →
      slice_get wanted i ≡ Some true → ctors_from at (h ∷ []) i ≡ []
  other-lists [] at i h n w = cc
  other-lists (b ∷ wanted) zero zero h n w = cc
  other-lists (b ∷ wanted) zero (suc i) h n w = refl
  other-lists (b ∷ wanted) (suc at) zero h n w = refl
  other-lists (b ∷ wanted) (suc at) (suc i) h n w = other-lists wanted at i h n w

  pub column-more : {A E : Type 0} (told : Result A E) (wanted : List Bool) (lists : List (Vec Ctor)) (at : ℕ) (x y : Vec Ctor)
      (h : Head T) → at < length lists → x ≡ get_or lists at x →
      OnOk told (map plain_ctor y.items ≡ map plain_ctor x.items ++ head_ctors h) →
      OnOk told (HaveMore wanted lists (slice_set lists at y) (ctors_from at (h ∷ [])))
  column-more (Ok a) wanted lists at x y h l e m = record {
    long = length-set lists at y;
    ctors = λ i w. one-list lists at x y h l e m i;
  }
  column-more (Err e) wanted lists at x y h l is m = tt

  -- the heads of one run more
  module _ (xs : List (HeadRun T)) (k : ℕ) (x : HeadRun T) (l : k < length xs) (e : x ≡ get_or xs k x) where
    pub at-next : (at : ℕ) → at ≡ length (plain_heads (take k xs)) →
        at + length (plain_run x) ≡ length (plain_heads (take (k + 1) xs))
    at-next at h =
        let s = ap length (runs-until xs k x l e) ∙ length-append (plain_heads (take k xs)) (plain_run x) in
        omega (arith, s, h)

    pub more-next : (wanted : List Bool) (old now new : List (Vec Ctor)) (at : ℕ) →
        at ≡ length (plain_heads (take k xs)) → HaveMore wanted old now (ctors_from 0 (plain_heads (take k xs))) →
        HaveMore wanted now new (ctors_from at (plain_run x)) →
        HaveMore wanted old new (ctors_from 0 (plain_heads (take (k + 1) xs)))
    more-next wanted old now new at a before here = record {
      long = here.long ∙ before.long;
      ctors =
          λ i w. here.ctors i w ∙ ap (λ ks. ks ++ ctors_from at (plain_run x) i) (before.ctors i w)
          ∙ append_assoc (ctors_in old i) (ctors_from 0 (plain_heads (take k xs)) i) (ctors_from at (plain_run x) i)
          ∙ ap (λ ks. ctors_in old i ++ ks)
          (ap (λ n. ctors_from 0 (plain_heads (take k xs)) i ++ ctors_from n (plain_run x) i) a
          ∙ behind-others (plain_heads (take k xs)) (plain_run x) i
          ∙ ap (λ hs. ctors_from 0 hs i) (sym (runs-until xs k x l e)));
    }

  pub heads-long : (xs : List (HeadRun T)) (k : ℕ) → length (plain_heads (take k xs)) ≤ length (plain_heads xs)
  heads-long [] zero = omega arith
  heads-long [] (suc k) = omega arith
  heads-long (x ∷ xs) zero = omega arith
  heads-long (x ∷ xs) (suc k) =
      let r = heads-long xs k in
      let a = length-append (plain_run x) (plain_heads (take k xs)) in
      let b = length-append (plain_run x) (plain_heads xs) in
      omega (arith, r, a, b)

  -- the constructors of one row more
  in-row : (r : MRow T) (i : ℕ) → i < length r.heads → ctors_from 0 r.heads i ≡ row_ctors i r
  in-row r i l =
      let x = there r.heads i l in
      ap head_ctors (get_or_from_slice_get r.heads i x.0 None x.1) ∙ sym (row-ctors i r x.0 x.1)

  rows-more : (i : ℕ) (rows : List (KeyedRow T)) (k : ℕ) (r : KeyedRow T) → k < length rows → r ≡ get_or rows k r →
      flat_map (row_ctors i) (plain_rows (take (k + 1) rows))
      ≡ flat_map (row_ctors i) (plain_rows (take k rows)) ++ row_ctors i (plain_row r)
  rows-more i [] k r l e = absurd (omega (arith, l))
  rows-more i (x ∷ rows) zero r l e =
      append-nil (row_ctors i (plain_row x)) ∙ ap (λ y. row_ctors i (plain_row y)) (sym e)
  rows-more i (x ∷ rows) (suc k) r l e =
      ap (λ j. flat_map (row_ctors i) (plain_rows (take j (x ∷ rows)))) (after k)
      ∙ ap (λ ks. row_ctors i (plain_row x) ++ ks) (rows-more i rows k r (omega (arith, l)) e)
      ∙ sym (append_assoc (row_ctors i (plain_row x)) (flat_map (row_ctors i) (plain_rows (take k rows)))
      (row_ctors i (plain_row r)))

  pub lists-next : (wanted : List Bool) (rows : List (KeyedRow T)) (k : ℕ) (r : KeyedRow T) → k < length rows →
      r ≡ get_or rows k r → (now new : List (Vec Ctor)) → length (plain_row r).heads ≡ length wanted →
      ((i : ℕ) → slice_get wanted i ≡ Some true → ctors_in now i ≡ flat_map (row_ctors i) (plain_rows (take k rows))) →
      HaveMore wanted now new (ctors_from 0 (plain_row r).heads) →
      (i : ℕ) → slice_get wanted i ≡ Some true →
      ctors_in new i ≡ flat_map (row_ctors i) (plain_rows (take (k + 1) rows))
  lists-next wanted rows k r l e now new long before here i w =
      let within : i < length wanted = slice_get_within wanted i true w in
      here.ctors i w ∙ ap (λ ks. ks ++ ctors_from 0 (plain_row r).heads i) (before i w)
      ∙ ap (λ ks. flat_map (row_ctors i) (plain_rows (take k rows)) ++ ks)
      (in-row (plain_row r) i (omega (arith, within, long)))
      ∙ sym (rows-more i rows k r l e)

  -- what holds of each row holds of the one that was read
  pub row-has : (P : MRow T → Type 0) (rows : List (KeyedRow T)) (k : ℕ) (r : KeyedRow T) → All P (plain_rows rows) →
      k < length rows → r ≡ get_or rows k r → P (plain_row r)
  row-has P rows k r all l e =
      let long : length (plain_rows rows) ≡ length rows = length-map rows plain_row in
      subst P (get-map plain_row rows k r ∙ ap plain_row (sym e)) (all k (plain_row r) (omega (arith, l, long)))
