-- Heads that stand side by side.
use Rattle.std.proofs.Common.{◌≡◌, ◌<◌, ◌≤◌, ℕ, zero, suc, ◌+◌, ◌-◌, List, [], ◌∷◌, ◌++◌, take, drop, length, get_or, replicate, refl, sym, ap, ◌∙◌, arith, Some, None, slice_get, slice_set, slice_index_or, append_assoc, append-nil}
use Rattle.std.specs.List.{swap_remove}
use Rattle.std.proofs.lemmas.List.{length-append, length-drop, take_all, drop_all}
use Rattle.std.proofs.lemmas.Option.{slice_get_within}
use Rattle.match_model.specs.Steps.{replaced_at}
use Rattle.keyed_matrix.proofs.Replaced.{replaced-parts}
use Rattle.match_model.specs.Rows.{Head, wildcards}
use Rattle.keyed_matrix.specs.declared.rows.HeadRun.{HeadRun}
use Rattle.keyed_matrix.specs.declared.rows.HeadRun.TheVariants.{Wilds}
use Rattle.keyed_matrix.specs.Views.{plain_run, plain_heads}

pub length-wilds : {A : Type 0} (n : ℕ) (x : A) → length (replicate n x) ≡ n
length-wilds zero x = refl
length-wilds (suc n) x = ap suc (length-wilds n x)

-- each of so many is one
pub get-wild : {A : Type 0} (n i : ℕ) (x : A) → i < n → slice_get (replicate n x) i ≡ Some x
get-wild zero i x l = absurd (omega (arith, l))
get-wild (suc n) zero x l = refl
get-wild (suc n) (suc i) x l = get-wild n i x (omega (arith, l))

pub take-wilds : {A : Type 0} (n i : ℕ) (x : A) → i < n → take i (replicate n x) ≡ replicate i x
take-wilds zero i x l = absurd (omega (arith, l))
take-wilds (suc n) zero x l = refl
take-wilds (suc n) (suc i) x l = ap (λ xs. x ∷ xs) (take-wilds n i x (omega (arith, l)))

few-wilds : {A : Type 0} (n i : ℕ) (x : A) → i ≤ n → drop i (replicate n x) ≡ replicate (n - i) x
few-wilds zero zero x l = refl
few-wilds zero (suc i) x l = absurd (omega (arith, l))
few-wilds (suc n) zero x l =
    let same : suc n ≡ suc n - 0 = omega arith in
    ap (λ k. replicate k x) same
few-wilds (suc n) (suc i) x l =
    let less : n - i ≡ suc n - suc i = omega arith in
    few-wilds n i x (omega (arith, l)) ∙ ap (λ k. replicate k x) less

pub drop-wilds : {A : Type 0} (n i : ℕ) (x : A) → i < n → drop (i + 1) (replicate n x) ≡ replicate (n - 1 - i) x
drop-wilds n i x l =
    let less : n - (i + 1) ≡ n - 1 - i = omega arith in
    few-wilds n (i + 1) x (omega (arith, l)) ∙ ap (λ k. replicate k x) less

pub both-wilds : {A : Type 0} (m n : ℕ) (x : A) → replicate (m + n) x ≡ replicate m x ++ replicate n x
both-wilds zero n x = ap (λ k. replicate k x) (omega arith)
both-wilds (suc m) n x =
    let e : suc m + n ≡ suc (m + n) = omega arith in
    ap (λ k. replicate k x) e ∙ ap (λ xs. x ∷ xs) (both-wilds m n x)

-- what is read within a list does not depend on what would be read outside
pub same-got : {A : Type 0} (xs : List A) (k : ℕ) (x d : A) → k < length xs → x ≡ get_or xs k x → x ≡ get_or xs k d
same-got [] k x d l e = absurd (omega (arith, l))
same-got (y ∷ xs) zero x d l e = e
same-got (y ∷ xs) (suc k) x d l e = same-got xs k x d (omega (arith, l)) e

some-there : {A : Type 0} (xs : List A) (i : ℕ) → i < length xs → (x : A) × (slice_get xs i ≡ Some x)
some-there [] i l = absurd (omega (arith, l))
some-there (x ∷ xs) zero l = (x, refl)
some-there (x ∷ xs) (suc i) l = some-there xs i (omega (arith, l))

module _ {A : Type 0} where
  -- things of two lists, one behind the other
  pub get-before : (xs ys : List A) (i : ℕ) → i < length xs → slice_get (xs ++ ys) i ≡ slice_get xs i
  get-before [] ys i l = absurd (omega (arith, l))
  get-before (x ∷ xs) ys zero l = refl
  get-before (x ∷ xs) ys (suc i) l = get-before xs ys i (omega (arith, l))

  pub get-behind : (xs ys : List A) (i : ℕ) → length xs ≤ i → slice_get (xs ++ ys) i ≡ slice_get ys (i - length xs)
  get-behind [] ys i l = ap (slice_get ys) (omega arith)
  get-behind (x ∷ xs) ys zero l = absurd (omega (arith, l))
  get-behind (x ∷ xs) ys (suc i) l =
      get-behind xs ys i (omega (arith, l)) ∙ ap (slice_get ys) (omega (arith, l))

  pub take-before : (xs ys : List A) (i : ℕ) → i < length xs → take i (xs ++ ys) ≡ take i xs
  take-before [] ys i l = absurd (omega (arith, l))
  take-before (x ∷ xs) ys zero l = refl
  take-before (x ∷ xs) ys (suc i) l = ap (λ zs. x ∷ zs) (take-before xs ys i (omega (arith, l)))

  pub take-behind : (xs ys : List A) (i : ℕ) → length xs ≤ i → take i (xs ++ ys) ≡ xs ++ take (i - length xs) ys
  take-behind [] ys i l = ap (λ k. take k ys) (omega arith)
  take-behind (x ∷ xs) ys zero l = absurd (omega (arith, l))
  take-behind (x ∷ xs) ys (suc i) l =
      ap (λ zs. x ∷ zs) (take-behind xs ys i (omega (arith, l)) ∙ ap (λ k. xs ++ take k ys) (omega (arith, l)))

  pub drop-before : (xs ys : List A) (i : ℕ) → i ≤ length xs → drop i (xs ++ ys) ≡ drop i xs ++ ys
  drop-before [] ys zero l = refl
  drop-before [] ys (suc i) l = absurd (omega (arith, l))
  drop-before (x ∷ xs) ys zero l = refl
  drop-before (x ∷ xs) ys (suc i) l = drop-before xs ys i (omega (arith, l))

  pub drop-behind : (xs ys : List A) (i : ℕ) → length xs ≤ i → drop i (xs ++ ys) ≡ drop (i - length xs) ys
  drop-behind [] ys i l = ap (λ k. drop k ys) (omega arith)
  drop-behind (x ∷ xs) ys zero l = absurd (omega (arith, l))
  drop-behind (x ∷ xs) ys (suc i) l =
      drop-behind xs ys i (omega (arith, l)) ∙ ap (λ k. drop k ys) (omega (arith, l))

after : (k : ℕ) → suc k + 1 ≡ suc (k + 1)
after k = omega arith

-- the rest of a list
pub rest-of : {A : Type 0} (i : ℕ) (xs : List A) → take (length xs - (i + 1)) (drop (i + 1) xs) ≡ drop (i + 1) xs
rest-of i xs = let l = length-drop (i + 1) xs in take_all (length xs - (i + 1)) (drop (i + 1) xs) (omega (arith, l))

module _ {T : Type 0} where
  pub heads-append : (xs ys : List (HeadRun T)) → plain_heads (xs ++ ys) ≡ plain_heads xs ++ plain_heads ys
  heads-append [] ys = refl
  heads-append (x ∷ xs) ys =
      ap (λ hs. plain_run x ++ hs) (heads-append xs ys)
      ∙ sym (append_assoc (plain_run x) (plain_heads xs) (plain_heads ys))

  pub heads-more : (xs : List (HeadRun T)) (x : HeadRun T) → plain_heads (xs ++ x ∷ []) ≡ plain_heads xs ++ plain_run x
  heads-more xs x = heads-append xs (x ∷ []) ∙ ap (λ hs. plain_heads xs ++ hs) (append-nil (plain_run x))

  -- the heads from a place in the list on
  pub runs-from : (xs : List (HeadRun T)) (k : ℕ) (x : HeadRun T) → k < length xs → x ≡ get_or xs k x →
      plain_heads (drop k xs) ≡ plain_run x ++ plain_heads (drop (k + 1) xs)
  runs-from [] k x l e = absurd (omega (arith, l))
  runs-from (y ∷ xs) zero x l e = ap (λ z. plain_run z ++ plain_heads xs) (sym e)
  runs-from (y ∷ xs) (suc k) x l e =
      runs-from xs k x (omega (arith, l)) e
      ∙ ap (λ j. plain_run x ++ plain_heads (drop j (y ∷ xs))) (sym (after k))

  -- the heads before the next place
  pub runs-until : (xs : List (HeadRun T)) (k : ℕ) (x : HeadRun T) → k < length xs → x ≡ get_or xs k x →
      plain_heads (take (k + 1) xs) ≡ plain_heads (take k xs) ++ plain_run x
  runs-until [] k x l e = absurd (omega (arith, l))
  runs-until (y ∷ xs) zero x l e = append-nil (plain_run y) ∙ ap plain_run (sym e)
  runs-until (y ∷ xs) (suc k) x l e =
      ap (λ j. plain_heads (take j (y ∷ xs))) (after k)
      ∙ ap (λ hs. plain_run y ++ hs) (runs-until xs k x (omega (arith, l)) e)
      ∙ sym (append_assoc (plain_run y) (plain_heads (take k xs)) (plain_run x))

  -- wildcards with so many in place of one of them
  pub wilds-recounted : (one : HeadRun T) (size count left all : ℕ) → one ≡ Wilds size → all ≡ size - 1 + count →
      left < length (plain_run one) →
      plain_run {T = T} (Wilds all) ≡ (take left (plain_run one) ++ wildcards count) ++ drop (left + 1) (plain_run one)
  wilds-recounted one size count left all e a l =
      let none : Head T = None in
      let long : length (plain_run one) ≡ size = ap (λ (r : HeadRun T). length (plain_run r)) e ∙ length-wilds size none in
      let n : left < size = omega (arith, l, long) in
      let parts : all ≡ (left + count) + (size - 1 - left) = omega (arith, a, n) in
      ap (λ m. replicate m none) parts ∙ both-wilds (left + count) (size - 1 - left) none
      ∙ ap (λ xs. xs ++ replicate (size - 1 - left) none) (both-wilds left count none)
      ∙ (λ k. (sym (take-wilds size left none n) k ++ wildcards count) ++ sym (drop-wilds size left none n) k)
      ∙ ap (λ (r : HeadRun T). (take left (plain_run r) ++ wildcards count) ++ drop (left + 1) (plain_run r)) (sym e)

  pub none-from : (xs : List (HeadRun T)) (k : ℕ) → length xs ≤ k → plain_heads (drop k xs) ≡ []
  none-from xs k l = ap plain_heads (drop_all k xs l)

  pub none-added : (xs : List (HeadRun T)) (hs : List (Head T)) → length xs ≡ 0 → hs ≡ hs ++ plain_heads xs
  none-added [] hs e = sym (append-nil hs)
  none-added (x ∷ xs) hs e = absurd (omega (arith, e))

  pub joined : (old : List (Head T)) (xs : List (HeadRun T)) (x : HeadRun T) → 0 < length xs → x ≡ get_or xs 0 x →
      (old ++ plain_run x) ++ plain_heads (drop 1 xs) ≡ old ++ plain_heads xs
  joined old [] x l e = absurd (omega (arith, l))
  joined old (y ∷ xs) x l e =
      append_assoc old (plain_run x) (plain_heads xs) ∙ ap (λ z. old ++ (plain_run z ++ plain_heads xs)) e

  -- the heads in three parts
  parts : (xs : List (HeadRun T)) (k : ℕ) (x : HeadRun T) → k < length xs → x ≡ get_or xs k x →
      plain_heads xs ≡ plain_heads (take k xs) ++ (plain_run x ++ plain_heads (drop (k + 1) xs))
  parts [] k x l e = absurd (omega (arith, l))
  parts (y ∷ xs) zero x l e = ap (λ z. plain_run z ++ plain_heads xs) (sym e)
  parts (y ∷ xs) (suc k) x l e =
      ap (λ hs. plain_run y ++ hs) (parts xs k x (omega (arith, l)) e)
      ∙ sym (append_assoc (plain_run y) (plain_heads (take k xs)) (plain_run x ++ plain_heads (drop (k + 1) xs)))
      ∙ ap (λ n. plain_heads (take (suc k) (y ∷ xs)) ++ (plain_run x ++ plain_heads (drop n (y ∷ xs)))) (sym (after k))

  pub long-until : (xs : List (HeadRun T)) (k : ℕ) (x : HeadRun T) → k < length xs → x ≡ get_or xs k x →
      length (plain_heads (take (k + 1) xs)) ≡ length (plain_heads (take k xs)) + length (plain_run x)
  long-until xs k x l e = ap length (runs-until xs k x l e) ∙ length-append (plain_heads (take k xs)) (plain_run x)

  pub all-until : (xs : List (HeadRun T)) (k : ℕ) → length xs ≤ k → plain_heads (take k xs) ≡ plain_heads xs
  all-until xs k l = ap plain_heads (take_all k xs l)

  -- a head among the heads side by side
  module _ (xs : List (HeadRun T)) (k left i : ℕ) (x : HeadRun T) (l : k < length xs) (e : x ≡ get_or xs k x)
      (s : i ≡ length (plain_heads (take k xs)) + left) (b : left < length (plain_run x)) where
    pub got-there : slice_get (plain_heads xs) i ≡ slice_get (plain_run x) left
    got-there =
        let here : i - length (plain_heads (take k xs)) ≡ left = omega (arith, s) in
        ap (λ hs. slice_get hs i) (parts xs k x l e)
        ∙ get-behind (plain_heads (take k xs)) (plain_run x ++ plain_heads (drop (k + 1) xs)) i (omega (arith, s))
        ∙ ap (slice_get (plain_run x ++ plain_heads (drop (k + 1) xs))) here ∙ get-before (plain_run x) (plain_heads (drop (k + 1) xs)) left b

    pub first-there : take i (plain_heads xs) ≡ plain_heads (take k xs) ++ take left (plain_run x)
    first-there =
        let here : i - length (plain_heads (take k xs)) ≡ left = omega (arith, s) in
        ap (take i) (parts xs k x l e)
        ∙ take-behind (plain_heads (take k xs)) (plain_run x ++ plain_heads (drop (k + 1) xs)) i (omega (arith, s))
        ∙ ap (λ hs. plain_heads (take k xs) ++ hs)
        (ap (λ n. take n (plain_run x ++ plain_heads (drop (k + 1) xs))) here ∙ take-before (plain_run x) (plain_heads (drop (k + 1) xs)) left b)

    pub behind-there : drop (i + 1) (plain_heads xs) ≡ drop (left + 1) (plain_run x) ++ plain_heads (drop (k + 1) xs)
    behind-there =
        let here : (i + 1) - length (plain_heads (take k xs)) ≡ left + 1 = omega (arith, s) in
        ap (drop (i + 1)) (parts xs k x l e)
        ∙ drop-behind (plain_heads (take k xs)) (plain_run x ++ plain_heads (drop (k + 1) xs)) (i + 1) (omega (arith, s))
        ∙ ap (λ n. drop n (plain_run x ++ plain_heads (drop (k + 1) xs))) here
        ∙ drop-before (plain_run x) (plain_heads (drop (k + 1) xs)) (left + 1) (omega (arith, b))

    -- the heads with others in its place
    pub replaced-there : (new : List (Head T)) →
        ((plain_heads (take k xs) ++ take left (plain_run x)) ++ new)
        ++ (drop (left + 1) (plain_run x) ++ plain_heads (drop (k + 1) xs))
        ≡ replaced_at i (plain_heads xs) new
    replaced-there new =
        (λ j. (sym first-there j ++ new) ++ sym behind-there j)
        ∙ replaced-parts i (plain_heads xs) new (slice_get_within (plain_heads xs) i (head-of) got)
      where
        head-of : Head T
        head-of = (some-there (plain_run x) left b).0

        got : slice_get (plain_heads xs) i ≡ Some head-of
        got = got-there ∙ (some-there (plain_run x) left b).1

    -- and with so many wildcards there, in the run where it stands
    pub rewilded-there : (run : HeadRun T) (count : ℕ) →
        plain_run run ≡ (take left (plain_run x) ++ wildcards count) ++ drop (left + 1) (plain_run x) →
        plain_heads (take k xs) ++ (plain_run run ++ plain_heads (drop (k + 1) xs))
        ≡ replaced_at i (plain_heads xs) (wildcards count)
    rewilded-there run count h =
        let front = plain_heads (take k xs) in
        let start = take left (plain_run x) in
        let end = drop (left + 1) (plain_run x) in
        let last = plain_heads (drop (k + 1) xs) in
        ap (λ hs. front ++ (hs ++ last)) h ∙ ap (λ hs. front ++ hs) (append_assoc (start ++ wildcards count) end last)
        ∙ sym (append_assoc front (start ++ wildcards count) (end ++ last))
        ∙ ap (λ hs. hs ++ (end ++ last)) (sym (append_assoc front start (wildcards count)))
        ∙ replaced-there (wildcards count)

module _ {A : Type 0} where
  last-got : (xs : List A) (x d : A) → slice_index_or (xs ++ x ∷ []) (length xs) d ≡ x
  last-got [] x d = refl
  last-got (y ∷ xs) x d = last-got xs x d

  set-before : (xs : List A) (k : ℕ) (x y : A) → k < length xs →
      take (length xs) (slice_set (xs ++ x ∷ []) k y) ≡ take k xs ++ y ∷ drop (k + 1) xs
  set-before [] k x y l = absurd (omega (arith, l))
  set-before (z ∷ xs) zero x y l = ap (λ zs. y ∷ zs) (all-before xs x)
    where
      all-before : (zs : List A) (x : A) → take (length zs) (zs ++ x ∷ []) ≡ zs
      all-before [] x = refl
      all-before (z ∷ zs) x = ap (λ us. z ∷ us) (all-before zs x)
  set-before (z ∷ xs) (suc k) x y l =
      ap (λ zs. z ∷ zs) (set-before xs k x y (omega (arith, l)))
      ∙ ap (λ n. z ∷ take k xs ++ y ∷ drop n (z ∷ xs)) (sym (after k))

  -- a list with another thing in place of one
  pub swapped-in : (xs : List A) (k : ℕ) (x d : A) → k < length xs →
      swap_remove (xs ++ x ∷ []) k d ≡ take k xs ++ x ∷ drop (k + 1) xs
  swapped-in xs k x d l =
      let long : length (xs ++ x ∷ []) - 1 ≡ length xs = (let e = length-append xs (x ∷ []) in omega (arith, e)) in
      ap (λ n. take n (slice_set (xs ++ x ∷ []) k (slice_index_or (xs ++ x ∷ []) n d))) long
      ∙ ap (λ y. take (length xs) (slice_set (xs ++ x ∷ []) k y)) (last-got xs x d) ∙ set-before xs k x x l

pub ruleset head_runs = (heads-more, heads-append, length-wilds, get-wild, take-wilds, drop-wilds, both-wilds, append_assoc, append-nil)
