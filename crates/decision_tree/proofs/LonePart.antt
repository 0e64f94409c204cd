-- Rows of which some were emptied already.
use Rattle.std.proofs.Common.{◌≡◌, ◌<◌, ◌≤◌, ℕ, zero, suc, ◌+◌, Bool, true, false, List, [], ◌∷◌, ◌++◌, map, take, drop, length, get_or, refl, sym, ap, ◌∙◌, subst, nat_eq, nat_lt, cond, arith, slice_set}
use Rattle.match_model.specs.Lists.{Every, Ordered}
use Rattle.match_model.specs.Matrices.{MRow}
use Rattle.keyed_matrix.specs.Views.{plain_row, plain_rows}
use Rattle.keyed_matrix.specs.declared.rows.KeyedRow.{KeyedRow}
use Rattle.decision_tree.specs.Lone.{arm_count, is_alone, emptied, lone_row}

first-same : {A : Type 0} (x y : A) (xs ys : List A) → x ∷ xs ≡ y ∷ ys → x ≡ y
first-same x y xs ys e = cc

rest-same : {A : Type 0} (x y : A) (xs ys : List A) → x ∷ xs ≡ y ∷ ys → xs ≡ ys
rest-same x y xs ys e = cc

module _ {T : Type 0} where
  abbrev arms : List (MRow T) → List ℕ
  arms rows = map (λ r. r.arm) rows

  count-arms : (arm : ℕ) (xs ys : List (MRow T)) → arms xs ≡ arms ys → arm_count arm xs ≡ arm_count arm ys
  count-arms arm [] [] e = refl
  count-arms arm [] (y ∷ ys) e = cc
  count-arms arm (x ∷ xs) [] e = cc
  count-arms arm (x ∷ xs) (y ∷ ys) e =
      let here : x.arm ≡ y.arm = first-same x.arm y.arm (arms xs) (arms ys) e in
      let rest : arm_count arm xs ≡ arm_count arm ys = count-arms arm xs ys
      (rest-same x.arm y.arm (arms xs) (arms ys) e) in
      λ k. cond (nat_eq (here k) arm) (suc (rest k)) (rest k)

  abbrev IsByArm : MRow T → MRow T → Type 0
  IsByArm r s = r.arm ≤ s.arm

  every-arms : (P : ℕ → Type 0) (xs ys : List (MRow T)) → arms xs ≡ arms ys → Every (λ r. P r.arm) xs →
      Every (λ r. P r.arm) ys
  every-arms P [] [] e h = tt
  every-arms P [] (y ∷ ys) e h = cc
  every-arms P (x ∷ xs) [] e h = cc
  every-arms P (x ∷ xs) (y ∷ ys) e h = (
    subst P (first-same x.arm y.arm (arms xs) (arms ys) e) h.0,
    every-arms P xs ys (rest-same x.arm y.arm (arms xs) (arms ys) e) h.1,
  )

  order-arms : (xs ys : List (MRow T)) → arms xs ≡ arms ys → Ordered IsByArm xs → Ordered IsByArm ys
  order-arms [] [] e o = tt
  order-arms [] (y ∷ ys) e o = cc
  order-arms (x ∷ xs) [] e o = cc
  order-arms (x ∷ xs) (y ∷ ys) e o =
      let rest : arms xs ≡ arms ys = rest-same x.arm y.arm (arms xs) (arms ys) e in (
        subst (λ a. Every (λ r. a ≤ r.arm) ys) (first-same x.arm y.arm (arms xs) (arms ys) e)
            (every-arms (λ n. x.arm ≤ n) xs ys rest o.0),
        order-arms xs ys rest o.1,
      )

  -- the row with a number, and the rows with another in its place
  split-at : (rows : List (KeyedRow T)) (before behind : List (MRow T)) (x : MRow T) (i : ℕ) (d : KeyedRow T) →
      plain_rows rows ≡ before ++ x ∷ behind → length before ≡ i → plain_row (get_or rows i d) ≡ x
  split-at [] [] behind x i d e l = cc
  split-at [] (y ∷ before) behind x i d e l = cc
  split-at (r ∷ rows) [] behind x zero d e l = first-same (plain_row r) x (plain_rows rows) behind e
  split-at (r ∷ rows) [] behind x (suc i) d e l = absurd (omega (arith, l))
  split-at (r ∷ rows) (y ∷ before) behind x zero d e l = absurd (omega (arith, l))
  split-at (r ∷ rows) (y ∷ before) behind x (suc i) d e l =
      split-at rows before behind x i d (rest-same (plain_row r) y (plain_rows rows) (before ++ x ∷ behind) e)
      (omega (arith, l))

  split-set : (rows : List (KeyedRow T)) (before behind : List (MRow T)) (x : MRow T) (i : ℕ) (s : KeyedRow T) →
      plain_rows rows ≡ before ++ x ∷ behind → length before ≡ i →
      plain_rows (slice_set rows i s) ≡ before ++ plain_row s ∷ behind
  split-set [] [] behind x i s e l = cc
  split-set [] (y ∷ before) behind x i s e l = cc
  split-set (r ∷ rows) [] behind x zero s e l =
      ap (λ l. plain_row s ∷ l) (rest-same (plain_row r) x (plain_rows rows) behind e)
  split-set (r ∷ rows) [] behind x (suc i) s e l = absurd (omega (arith, l))
  split-set (r ∷ rows) (y ∷ before) behind x zero s e l = absurd (omega (arith, l))
  split-set (r ∷ rows) (y ∷ before) behind x (suc i) s e l =
      (λ k. first-same (plain_row r) y (plain_rows rows) (before ++ x ∷ behind) e k ∷ split-set rows before behind x i s
      (rest-same (plain_row r) y (plain_rows rows) (before ++ x ∷ behind) e) (omega (arith, l)) k)

  module _ (all : List (MRow T)) where
    -- the first rows as they shall be, and the others as they are
    abbrev pub part : ℕ → List (MRow T)
    part i = map (lone_row all) (take i all) ++ drop i all

    -- at a number, both
    record Cut (i : ℕ) : Type 0 where
      pub before : List (MRow T)
      pub row : MRow T
      pub behind : List (MRow T)
      pub count : length before ≡ i
      pub now : part i ≡ before ++ row ∷ behind
      pub next : part (i + 1) ≡ before ++ lone_row all row ∷ behind

    cut : (xs : List (MRow T)) (i : ℕ) → i < length xs → (before : List (MRow T)) × (row : MRow T)
        × (behind : List (MRow T)) × (length before ≡ i)
        × (map (lone_row all) (take i xs) ++ drop i xs ≡ before ++ row ∷ behind)
        × (map (lone_row all) (take (suc i) xs) ++ drop (suc i) xs ≡ before ++ lone_row all row ∷ behind)
    cut [] i l = absurd (omega (arith, l))
    cut (x ∷ xs) zero l = ([], x, xs, refl, refl, refl)
    cut (x ∷ xs) (suc i) l =
        let r = cut xs i (omega (arith, l)) in (
          lone_row all x ∷ r.0,
          r.1,
          r.2,
          ap suc r.3,
          ap (λ l. lone_row all x ∷ l) r.4,
          ap (λ l. lone_row all x ∷ l) r.5,
        )

    cut-at : (i : ℕ) → i < length all → Cut i
    cut-at i l =
        let r = cut all i l in
        let next : i + 1 ≡ suc i = omega arith in
        record {
          before = r.0;
          row = r.1;
          behind = r.2;
          count = r.3;
          now = r.4;
          next = ap part next ∙ r.5;
        }

    same-arm : (r : MRow T) → (lone_row all r).arm ≡ r.arm
    same-arm r = go (is_alone r.arm all)
      where
        go : (b : Bool) → (cond b (emptied r) r).arm ≡ r.arm
        go true = refl
        go false = refl

    arms-of : (xs : List (MRow T)) (i : ℕ) → arms (map (lone_row all) (take i xs) ++ drop i xs) ≡ arms xs
    arms-of [] zero = refl
    arms-of [] (suc i) = refl
    arms-of (x ∷ xs) zero = refl
    arms-of (x ∷ xs) (suc i) = λ k. same-arm x k ∷ arms-of xs i k

    pub part-ordered : (rows : List (KeyedRow T)) (i : ℕ) → plain_rows rows ≡ part i → Ordered IsByArm all →
        Ordered IsByArm (plain_rows rows)
    part-ordered rows i e o =
        subst (Ordered IsByArm) (sym e) (order-arms all (part i) (sym (arms-of all i)) o)

    same-alone : (rows : List (KeyedRow T)) (i : ℕ) (r : MRow T) (d : KeyedRow T) → plain_rows rows ≡ part i →
        plain_row (get_or rows i d) ≡ r → is_alone (get_or rows i d).arm (plain_rows rows) ≡ is_alone r.arm all
    same-alone rows i r d e q =
        ap (λ rs. is_alone (get_or rows i d).arm rs) e
        ∙ ap (λ n. nat_lt n 2) (count-arms (get_or rows i d).arm (part i) all (arms-of all i))
        ∙ ap (λ (x : MRow T). is_alone x.arm all) q

    pub part-kept : (rows : List (KeyedRow T)) (i : ℕ) → plain_rows rows ≡ part i → i < length all →
        ((d : KeyedRow T) → is_alone (get_or rows i d).arm (plain_rows rows) ≡ false) → plain_rows rows ≡ part (i + 1)
    part-kept rows i e l h = go rows e h (cut-at i l)
      where
        go : (rows : List (KeyedRow T)) → plain_rows rows ≡ part i →
            ((d : KeyedRow T) → is_alone (get_or rows i d).arm (plain_rows rows) ≡ false) → Cut i →
            plain_rows rows ≡ part (i + 1)
        go [] e h c = none c.before (e ∙ c.now)
          where
            none : {A : Type 0} (xs : List (MRow T)) → [] ≡ xs ++ c.row ∷ c.behind → A
            none [] e = cc
            none (x ∷ xs) e = cc
        go (r ∷ rows) e h c =
            let is : plain_row (get_or (r ∷ rows) i r) ≡ c.row = split-at (r ∷ rows) c.before c.behind c.row i r
            (e ∙ c.now) c.count in
            let alone : is_alone c.row.arm all ≡ false = sym (same-alone (r ∷ rows) i c.row r e is) ∙ h r in
            let same : lone_row all c.row ≡ c.row = ap (λ b. cond b (emptied c.row) c.row) alone in
            e ∙ c.now ∙ ap (λ (x : MRow T). c.before ++ x ∷ c.behind) (sym same) ∙ sym c.next

    pub part-emptied : (rows : List (KeyedRow T)) (i : ℕ) (d s : KeyedRow T) → plain_rows rows ≡ part i →
        i < length all → is_alone (get_or rows i d).arm (plain_rows rows) ≡ true →
        plain_row s ≡ emptied (plain_row (get_or rows i d)) → plain_rows (slice_set rows i s) ≡ part (i + 1)
    part-emptied rows i d s e l h q =
        let c = cut-at i l in
        let is : plain_row (get_or rows i d) ≡ c.row = split-at rows c.before c.behind c.row i d (e ∙ c.now) c.count in
        let alone : is_alone c.row.arm all ≡ true = sym (same-alone rows i c.row d e is) ∙ h in
        let same : lone_row all c.row ≡ emptied c.row = ap (λ b. cond b (emptied c.row) c.row) alone in
        let new : plain_row s ≡ lone_row all c.row = q ∙ ap emptied is ∙ sym same in
        split-set rows c.before c.behind c.row i s (e ∙ c.now) c.count
        ∙ ap (λ (x : MRow T). c.before ++ x ∷ c.behind) new ∙ sym c.next
