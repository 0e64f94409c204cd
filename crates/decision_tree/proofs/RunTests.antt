-- What is asked and made of heads that stand side by side.
use Rattle.std.proofs.Common.{◌≡◌, ◌<◌, ◌≤◌, ℕ, zero, suc, ◌+◌, Bool, true, false, ◌&&◌, ◌||◌, List, [], ◌∷◌, ◌++◌, map, take, drop, length, get_or, replicate, Some, None, refl, sym, ap, ◌∙◌, arith, subst}
use Rattle.std.specs.List.{All, list_all, list_any}
use Rattle.std.proofs.lemmas.List.{length-append, length-map, map-append}
use Rattle.std.proofs.lemmas.List.Folds.{list_all-append, list_any-append}
use Rattle.match_model.specs.Matrices.{MRow}
use Rattle.match_model.specs.Rows.{Head, is_wild, wildcards}
use Rattle.keyed_matrix.specs.declared.rows.HeadRun.{HeadRun}
use Rattle.keyed_matrix.specs.declared.rows.KeyedRow.{KeyedRow}
use Rattle.keyed_matrix.specs.Views.{plain_run, plain_heads, plain_row, plain_rows}
use Rattle.keyed_matrix.proofs.Replaced.{get-map}
use Rattle.keyed_matrix.proofs.HeadRuns.{runs-from, runs-until, none-from}
use Rattle.decision_tree.specs.Asked.{asks}
use Rattle.decision_tree.specs.Cutting.{count_unless, open_count}
use Rattle.decision_tree.specs.Idle.{is_idle}
use Rattle.decision_tree.specs.Known.{head_uid}
use Rattle.decision_tree.specs.Thin.{is_blank_head, thin_head}
use Rattle.decision_tree.proofs.Open.{open-append}

some-is : {A : Type 0} (x y : A) → Some x ≡ Some y → x ≡ y
some-is x y e = cc

pub wilds-wild : (T : Type 0) (n : ℕ) → list_all is_wild (wildcards {T = T} n) ≡ true
wilds-wild T zero = refl
wilds-wild T (suc n) = wilds-wild T n

pub open-wilds : (T : Type 0) (n : ℕ) → open_count (wildcards {T = T} n) ≡ 0
open-wilds T zero = refl
open-wilds T (suc n) = open-wilds T n

pub busy-wilds : (T : Type 0) (n : ℕ) → count_unless is_idle (wildcards {T = T} n) ≡ 0
busy-wilds T zero = refl
busy-wilds T (suc n) = busy-wilds T n

pub wild-uids : (T : Type 0) (n : ℕ) → map head_uid (wildcards {T = T} n) ≡ replicate n None
wild-uids T zero = refl
wild-uids T (suc n) = ap (λ us. None ∷ us) (wild-uids T n)

after : (k : ℕ) → suc k + 1 ≡ suc (k + 1)
after k = omega arith

module _ {T : Type 0} where
  pub thin-wilds : (n : ℕ) → map thin_head (wildcards {T = T} n) ≡ wildcards n
  thin-wilds zero = refl
  thin-wilds (suc n) = ap (λ hs. None ∷ hs) (thin-wilds n)

  module _ (xs : List (HeadRun T)) (k : ℕ) (x : HeadRun T) (l : k < length xs) (e : x ≡ get_or xs k x) where
    wild-from : list_all is_wild (plain_heads (drop k xs))
        ≡ (list_all is_wild (plain_run x) && list_all is_wild (plain_heads (drop (k + 1) xs)))
    wild-from =
        ap (list_all is_wild) (runs-from xs k x l e)
        ∙ list_all-append is_wild (plain_run x) (plain_heads (drop (k + 1) xs))

    pub wild-on : (whole : Bool) → list_all is_wild (plain_heads (drop k xs)) ≡ whole →
        list_all is_wild (plain_run x) ≡ true → list_all is_wild (plain_heads (drop (k + 1) xs)) ≡ whole
    wild-on whole h w =
        sym (ap (λ b. b && list_all is_wild (plain_heads (drop (k + 1) xs))) w) ∙ sym wild-from ∙ h

    pub wild-not : (whole : Bool) → list_all is_wild (plain_heads (drop k xs)) ≡ whole →
        list_all is_wild (plain_run x) ≡ false → false ≡ whole
    wild-not whole h w =
        sym (ap (λ b. b && list_all is_wild (plain_heads (drop (k + 1) xs))) w) ∙ sym wild-from ∙ h

    -- one that passes a test stands among the heads from a place on, or among those behind it
    any-from : (p : Head T → Bool) → list_any p (plain_heads (drop k xs))
        ≡ (list_any p (plain_run x) || list_any p (plain_heads (drop (k + 1) xs)))
    any-from p =
        ap (list_any p) (runs-from xs k x l e) ∙ list_any-append p (plain_run x) (plain_heads (drop (k + 1) xs))

    pub any-on : (p : Head T → Bool) (whole : Bool) → list_any p (plain_heads (drop k xs)) ≡ whole →
        list_any p (plain_run x) ≡ false → list_any p (plain_heads (drop (k + 1) xs)) ≡ whole
    any-on p whole h w =
        sym (ap (λ b. b || list_any p (plain_heads (drop (k + 1) xs))) w) ∙ sym (any-from p) ∙ h

    pub any-found : (p : Head T → Bool) (whole : Bool) → list_any p (plain_heads (drop k xs)) ≡ whole →
        list_any p (plain_run x) ≡ true → true ≡ whole
    any-found p whole h w =
        sym (ap (λ b. b || list_any p (plain_heads (drop (k + 1) xs))) w) ∙ sym (any-from p) ∙ h

    -- how many do not pass a test
    pub open-on : (q : Head T → Bool) (count one whole : ℕ) →
        count + count_unless q (plain_heads (drop k xs)) ≡ whole → one ≡ count_unless q (plain_run x) →
        (count + one) + count_unless q (plain_heads (drop (k + 1) xs)) ≡ whole
    open-on q count one whole h o =
        let s = ap (count_unless q) (runs-from xs k x l e)
        ∙ open-append q (plain_run x) (plain_heads (drop (k + 1) xs)) in
        omega (arith, s, o, h)

    -- what is made of each head
    pub mapped-on : {B : Type 0} (f : Head T → B) (all new : List B) → all ≡ map f (plain_heads (take k xs)) →
        new ≡ all ++ map f (plain_run x) → new ≡ map f (plain_heads (take (k + 1) xs))
    mapped-on f all new h n =
        n ∙ ap (λ us. us ++ map f (plain_run x)) h
        ∙ sym (map-append f (plain_heads (take k xs)) (plain_run x))
        ∙ ap (map f) (sym (runs-until xs k x l e))

    pub at-on : (at : ℕ) → at ≡ length (plain_heads (take k xs)) →
        at + length (plain_run x) ≡ length (plain_heads (take (k + 1) xs))
    at-on at h =
        let s = ap length (runs-until xs k x l e) ∙ length-append (plain_heads (take k xs)) (plain_run x) in
        omega (arith, s, h)

  pub wild-end : (xs : List (HeadRun T)) (k : ℕ) (whole : Bool) → length xs ≤ k →
      list_all is_wild (plain_heads (drop k xs)) ≡ whole → true ≡ whole
  wild-end xs k whole l h = ap (list_all is_wild) (sym (none-from xs k l)) ∙ h

  pub any-end : (p : Head T → Bool) (xs : List (HeadRun T)) (k : ℕ) (whole : Bool) → length xs ≤ k →
      list_any p (plain_heads (drop k xs)) ≡ whole → false ≡ whole
  any-end p xs k whole l h = ap (list_any p) (sym (none-from xs k l)) ∙ h

  pub open-end : (q : Head T → Bool) (xs : List (HeadRun T)) (k count whole : ℕ) → length xs ≤ k →
      count + count_unless q (plain_heads (drop k xs)) ≡ whole → count ≡ whole
  open-end q xs k count whole l h =
      let none : count_unless q (plain_heads (drop k xs)) ≡ 0 = ap (count_unless q) (none-from xs k l) in
      omega (arith, none, h)

  pub part-long : (xs : List (HeadRun T)) (k : ℕ) → length (plain_heads (take k xs)) ≤ length (plain_heads xs)
  part-long [] zero = omega arith
  part-long [] (suc k) = omega arith
  part-long (x ∷ xs) zero = omega arith
  part-long (x ∷ xs) (suc k) =
      let r = part-long xs k in
      let a = length-append (plain_run x) (plain_heads (take k xs)) in
      let b = length-append (plain_run x) (plain_heads xs) in
      omega (arith, r, a, b)

  -- the rows before the next one
  pub rows-until : (rows : List (KeyedRow T)) (k : ℕ) (r : KeyedRow T) → k < length rows → r ≡ get_or rows k r →
      plain_rows (take (k + 1) rows) ≡ plain_rows (take k rows) ++ plain_row r ∷ []
  rows-until [] k r l e = absurd (omega (arith, l))
  rows-until (x ∷ rows) zero r l e = ap (λ y. plain_row y ∷ []) (sym e)
  rows-until (x ∷ rows) (suc k) r l e =
      ap (λ j. plain_rows (take j (x ∷ rows))) (after k)
      ∙ ap (λ rs. plain_row x ∷ rs) (rows-until rows k r (omega (arith, l)) e)

  -- what holds of each row holds of the one that was read
  pub row-all : (P : MRow T → Type 0) (rows : List (KeyedRow T)) (k : ℕ) (r : KeyedRow T) → All P (plain_rows rows) →
      k < length rows → r ≡ get_or rows k r → P (plain_row r)
  row-all P rows k r all l e =
      let long : length (plain_rows rows) ≡ length rows = length-map rows plain_row in
      subst P (get-map plain_row rows k r ∙ ap plain_row (sym e)) (all k (plain_row r) (omega (arith, l, long)))

-- the marks of so many columns in which a row asks nothing
pub quiet-wilds : (T : Type 0) (n : ℕ) → map asks (wildcards {T = T} n) ≡ replicate n false
quiet-wilds T zero = refl
quiet-wilds T (suc n) = ap (λ bs. false ∷ bs) (quiet-wilds T n)

pub one-wild : {T : Type 0} (h : Head T) → list_all is_wild (h ∷ []) ≡ is_wild h
one-wild h = go (is_wild h)
  where
    go : (b : Bool) → (b && true) ≡ b
    go true = refl
    go false = refl

pub blank-wilds : (T : Type 0) (n : ℕ) → list_any is_blank_head (wildcards {T = T} n) ≡ false
blank-wilds T zero = refl
blank-wilds T (suc n) = blank-wilds T n

pub one-blank : {T : Type 0} (h : Head T) → list_any is_blank_head (h ∷ []) ≡ is_blank_head h
one-blank h = go (is_blank_head h)
  where
    go : (b : Bool) → (b || false) ≡ b
    go true = refl
    go false = refl

pub ruleset run_tests = (wilds-wild, one-wild, open-wilds, busy-wilds, wild-uids, thin-wilds, quiet-wilds, blank-wilds, one-blank)
