-- A decision put among ascending ones.
use Rattle.std.proofs.Common.{◌≡◌, ◌<◌, ◌≤◌, ◌+◌, ℕ, zero, suc, Bool, true, false, List, [], ◌∷◌, ◌++◌, map, take, drop, length, get_or, nat_eq, nat_lt, slice_index_or, Option, Some, None, cond, refl, sym, ap, subst, ◌∙◌, arith, drop-cons, add-one}
use Rattle.std.proofs.lemmas.List.{map-append, take-append-drop, take_all, drop_all}
use Rattle.std.proofs.lemmas.Bool.Decides.{nat_tests}
use Rattle.match_model.specs.Lists.{Every}
use Rattle.match_model.specs.Keys.{Decision, key_of, or_else}
use Rattle.keyed_rows.proofs.Lists.{key_of-append}
use Rattle.keyed_matrix.specs.declared.keys.Decided.{Decided}
use Rattle.keyed_matrix.specs.Deciding.{plain_decision}
use Rattle.keyed_matrix.specs.KeyLists.{DoAscend, put_decision}
use Rattle.keyed_matrix.proofs.KeysInOrder.{equal-tests, other-tests, not-decided, below-all}

is-equal : (a b : ℕ) → nat_eq a b ≡ true → a ≡ b
is-equal a b e = grind (arith, nat_tests)

pub is-less : (a b : ℕ) → nat_lt a b ≡ true → a < b
is-less a b e = grind (arith, nat_tests)

is-greater : (a b : ℕ) → nat_eq a b ≡ false → nat_lt b a ≡ false → a < b
is-greater a b e l = grind (arith, nat_tests)

-- what is put is above what all others are above
every-put : (n : ℕ) (d : Decision) (ds : List Decision) → n < d.number → Every (λ e. n < e.number) ds →
    Every (λ e. n < e.number) (put_decision d ds)
every-put n d [] l a = (l, tt)
every-put n d (e ∷ es) l a = go (nat_eq e.number d.number) (nat_lt d.number e.number) (every-put n d es l a.1)
  where
    go : (b c : Bool) → Every (λ x. n < x.number) (put_decision d es) →
        Every (λ x. n < x.number) (cond b (e ∷ es) (cond c (d ∷ e ∷ es) (e ∷ put_decision d es)))
    go true c ih = a
    go false true ih = (l, a)
    go false false ih = (a.0, ih)

pub put-ascends : (d : Decision) (ds : List Decision) → DoAscend ds → DoAscend (put_decision d ds)
put-ascends d [] a = (tt, tt)
put-ascends d (e ∷ es) a =
    go (nat_eq e.number d.number) (nat_lt d.number e.number) refl refl (put-ascends d es a.1)
  where
    go : (b c : Bool) → nat_eq e.number d.number ≡ b → nat_lt d.number e.number ≡ c → DoAscend (put_decision d es) →
        DoAscend (cond b (e ∷ es) (cond c (d ∷ e ∷ es) (e ∷ put_decision d es)))
    go true c p q ih = a
    go false true p q ih = (below-all d.number e es (is-less d.number e.number q) a.0, a)
    go false false p q ih = (every-put e.number d es (is-greater e.number d.number p q) a.0, ih)

pub put-decides : (d : Decision) (ds : List Decision) (o : ℕ) → DoAscend ds →
    key_of (put_decision d ds) o ≡ or_else (key_of ds o) (key_of (d ∷ []) o)
put-decides d [] o a = refl
put-decides d (e ∷ es) o a =
    go (nat_eq e.number d.number) (nat_lt d.number e.number) refl refl (put-decides d es o a.1)
  where
    none : or_else (key_of (e ∷ es) o) None ≡ key_of (e ∷ es) o
    none = end (key_of (e ∷ es) o)
      where
        end : (x : Option ℕ) → or_else x None ≡ x
        end None = refl
        end (Some x) = refl

    same : e.number ≡ d.number → (b : Bool) → nat_eq d.number o ≡ b →
        key_of (e ∷ es) o ≡ or_else (key_of (e ∷ es) o) (cond b (Some d.alternative) None)
    same p true q =
        let h : key_of (e ∷ es) o ≡ Some e.alternative =
        ap (λ x. cond x (Some e.alternative) (key_of es o)) (equal-tests e.number o (p ∙ is-equal d.number o q)) in
        rw h refl
    same p false q = sym none

    less : d.number < e.number → (b : Bool) → nat_eq d.number o ≡ b →
        cond b (Some d.alternative) (key_of (e ∷ es) o) ≡ or_else (key_of (e ∷ es) o) (cond b (Some d.alternative) None)
    less l true q =
        let n : d.number ≡ o = is-equal d.number o q in
        let h : key_of (e ∷ es) o ≡ None =
        not-decided o (e ∷ es) (below-all o e es (omega (arith, n, l)) a.0) in
        rw h refl
    less l false q = sym none

    more : key_of (put_decision d es) o ≡ or_else (key_of es o) (key_of (d ∷ []) o) → (b : Bool) →
        cond b (Some e.alternative) (key_of (put_decision d es) o)
        ≡ or_else (cond b (Some e.alternative) (key_of es o)) (key_of (d ∷ []) o)
    more ih true = refl
    more ih false = ih

    go : (b c : Bool) → nat_eq e.number d.number ≡ b → nat_lt d.number e.number ≡ c →
        key_of (put_decision d es) o ≡ or_else (key_of es o) (key_of (d ∷ []) o) →
        key_of (cond b (e ∷ es) (cond c (d ∷ e ∷ es) (e ∷ put_decision d es))) o
        ≡ or_else (key_of (e ∷ es) o) (key_of (d ∷ []) o)
    go true c p q ih = same (is-equal e.number d.number p) (nat_eq d.number o) refl
    go false true p q ih = less (is-less d.number e.number q) (nat_eq d.number o) refl
    go false false p q ih = more ih (nat_eq e.number o)

module _ (d : Decided) (xs : List Decided) (i : ℕ) (k : put_decision (plain_decision d) (map plain_decision xs)
    ≡ map plain_decision (take i xs) ++ put_decision (plain_decision d) (map plain_decision (drop i xs))) where
  pub put-known : (x : Decided) → i < length xs → x ≡ get_or xs i x → x.number ≡ d.number →
      map plain_decision xs ≡ put_decision (plain_decision d) (map plain_decision xs)
  put-known x l e n =
      sym (k ∙ ap (λ r. map plain_decision (take i xs) ++ r) here
      ∙ sym (map-append plain_decision (take i xs) (drop i xs)) ∙ ap (map plain_decision) (take-append-drop i xs))
    where
      opened : drop i xs ≡ x ∷ drop (suc i) xs
      opened = drop-cons xs i x l ∙ ap (λ r. r ∷ drop (suc i) xs) (sym e)

      rest : List Decision
      rest = map plain_decision (drop (suc i) xs)

      here : put_decision (plain_decision d) (map plain_decision (drop i xs)) ≡ map plain_decision (drop i xs)
      here =
          ap (λ r. put_decision (plain_decision d) (map plain_decision r)) opened
          ∙ ap (λ b. cond b (plain_decision x ∷ rest) (cond (nat_lt d.number x.number)
          (plain_decision d ∷ plain_decision x ∷ rest) (plain_decision x ∷ put_decision (plain_decision d) rest)))
          (equal-tests x.number d.number n)
          ∙ ap (map plain_decision) (sym opened)

  pub put-here : (x : Decided) → i < length xs → x ≡ get_or xs i x → d.number < x.number →
      map plain_decision (take i xs ++ d ∷ drop i xs) ≡ put_decision (plain_decision d) (map plain_decision xs)
  put-here x l e n =
      sym (k ∙ ap (λ r. map plain_decision (take i xs) ++ r) here
      ∙ sym (map-append plain_decision (take i xs) (d ∷ drop i xs)))
    where
      opened : drop i xs ≡ x ∷ drop (suc i) xs
      opened = drop-cons xs i x l ∙ ap (λ r. r ∷ drop (suc i) xs) (sym e)

      rest : List Decision
      rest = map plain_decision (drop (suc i) xs)

      is-under : nat_lt d.number x.number ≡ true
      is-under = grind (arith, nat_tests)

      here : put_decision (plain_decision d) (map plain_decision (drop i xs)) ≡ map plain_decision (d ∷ drop i xs)
      here =
          ap (λ r. put_decision (plain_decision d) (map plain_decision r)) opened
          ∙ ap (λ b. cond b (plain_decision x ∷ rest) (cond (nat_lt d.number x.number)
          (plain_decision d ∷ plain_decision x ∷ rest) (plain_decision x ∷ put_decision (plain_decision d) rest)))
          (other-tests x.number d.number (λ f. absurd (omega (arith, f, n))))
          ∙ ap (λ b. cond b (plain_decision d ∷ plain_decision x ∷ rest)
          (plain_decision x ∷ put_decision (plain_decision d) rest)) is-under
          ∙ ap (λ r. map plain_decision (d ∷ r)) (sym opened)

  pub put-last : length xs ≤ i →
      map plain_decision (xs ++ d ∷ []) ≡ put_decision (plain_decision d) (map plain_decision xs)
  put-last l =
      sym (k ∙ ap (λ r. map plain_decision (take i xs) ++ put_decision (plain_decision d) (map plain_decision r)) (drop_all i xs l)
      ∙ ap (λ r. map plain_decision r ++ plain_decision d ∷ []) (take_all i xs l)
      ∙ sym (map-append plain_decision xs (d ∷ [])))

-- a decision above all others comes last
pub put-behind : (d : Decision) (ds : List Decision) → Every (λ e. e.number < d.number) ds → put_decision d ds ≡ ds ++ d ∷ []
put-behind d [] a = refl
put-behind d (e ∷ es) a =
    let l : e.number < d.number = a.0 in
    let over : nat_lt d.number e.number ≡ false = grind (arith, nat_tests) in
    ap (λ b. cond b (e ∷ es) (cond (nat_lt d.number e.number) (d ∷ e ∷ es) (e ∷ put_decision d es)))
    (other-tests e.number d.number (λ f. absurd (omega (arith, f, l))))
    ∙ ap (λ b. cond b (d ∷ e ∷ es) (e ∷ put_decision d es)) over ∙ ap (λ r. e ∷ r) (put-behind d es a.1)

-- nothing is above none
pub above-none : (xs : List Decided) (n : ℕ) → length xs ≡ 0 → Every (λ d. d.number < n) (map plain_decision xs)
above-none [] n e = tt
above-none (x ∷ xs) n e = absurd (omega (arith, e))

-- what is above the last of ascending ones is above all
pub above-all : (xs : List Decided) (k n : ℕ) (d : Decided) → suc k ≡ length xs → (slice_index_or xs k d).number < n →
    DoAscend (map plain_decision xs) → Every (λ e. e.number < n) (map plain_decision xs)
above-all [] k n d e l a = tt
above-all (y ∷ []) zero n d e l a = (l, tt)
above-all (y ∷ []) (suc k) n d e l a = absurd (omega (arith, e))
above-all (y ∷ z ∷ zs) zero n d e l a = absurd (omega (arith, e))
above-all (y ∷ z ∷ zs) (suc k) n d e l a =
    let rest = above-all (z ∷ zs) k n d (omega (arith, e)) l a.1 in
    let one : y.number < z.number = a.0.0 in
    let two : z.number < n = rest.0 in
    (omega (arith, one, two), rest)

took : {A : Type 0} (xs : List A) (i : ℕ) (d : A) → i < length xs → take (suc i) xs ≡ take i xs ++ get_or xs i d ∷ []
took [] i d l = absurd (omega (arith, l))
took (x ∷ xs) zero d l = refl
took (x ∷ xs) (suc i) d l = ap (λ r. x ∷ r) (took xs i d (omega (arith, l)))

-- what one more alternative decides
pub key-more : (decides : ℕ → Decision) (chosen : List ℕ) (i u : ℕ) (d : Decision) (old new : List Decision) →
    i < length chosen → u ≡ get_or chosen i 0 → d ≡ decides u → new ≡ put_decision d old → DoAscend old →
    ((o : ℕ) → key_of old o ≡ key_of (map decides (take i chosen)) o) →
    DoAscend new × ((o : ℕ) → key_of new o ≡ key_of (map decides (take (i + 1) chosen)) o)
key-more decides chosen i u d old new l at e put a same = (
  subst DoAscend (sym put) (put-ascends d old a),
  λ o. ap (λ ds. key_of ds o) put ∙ put-decides d old o a ∙ ap (λ x. or_else x (key_of (d ∷ []) o)) (same o)
      ∙ sym (key_of-append (map decides (take i chosen)) (d ∷ []) o)
      ∙ ap (λ x. key_of (map decides (take i chosen) ++ x ∷ []) o) (e ∙ ap decides at)
      ∙ ap (λ ds. key_of ds o) (sym (map-append decides (take i chosen) (get_or chosen i 0 ∷ [])))
      ∙ ap (λ ds. key_of (map decides ds) o) (sym (took chosen i 0 l))
      ∙ ap (λ n. key_of (map decides (take n chosen)) o) (sym (add-one i)),
)
