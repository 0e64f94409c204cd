-- Of rows that stand by their arms, one is alone in its arm where its neighbours have others.
use Rattle.std.proofs.Common.{◌≡◌, ◌<◌, ◌≤◌, ℕ, zero, suc, ◌+◌, ◌-◌, Bool, true, false, List, [], ◌∷◌, length, get_or, refl, sym, ap, ◌∙◌, subst, nat_eq, nat_lt, cond, arith}
use Rattle.std.proofs.lemmas.Bool.Decides.{nat_tests}
use Rattle.std.proofs.lemmas.List.{get_or_default}
use Rattle.match_model.specs.Lists.{Every, Ordered}
use Rattle.keyed_matrix.specs.Views.{plain_row, plain_rows}
use Rattle.keyed_matrix.specs.declared.rows.KeyedRow.{KeyedRow}
use Rattle.match_model.specs.Matrices.{MRow}
use Rattle.decision_tree.specs.Lone.{arm_count, is_alone}

pub is-eq : (m n : ℕ) → m ≡ n → nat_eq m n ≡ true
is-eq m n e = grind (arith, nat_tests)

not-eq : (m n : ℕ) → ¬ (m ≡ n) → nat_eq m n ≡ false
not-eq m n e = grind (arith, nat_tests)

is-lt : (m n : ℕ) → m < n → nat_lt m n ≡ true
is-lt m n e = grind (arith, nat_tests)

not-lt : (m n : ℕ) → n ≤ m → nat_lt m n ≡ false
not-lt m n e = grind (arith, nat_tests)

module _ {T : Type 0} (d : MRow T) where
  abbrev IsByArm : MRow T → MRow T → Type 0
  IsByArm r s = r.arm ≤ s.arm

  abbrev at : List (MRow T) → ℕ → MRow T
  at rows i = get_or rows i d

  every-at : (P : MRow T → Type 0) (rows : List (MRow T)) (i : ℕ) → Every P rows → i < length rows → P (at rows i)
  every-at P [] i h l = absurd (omega (arith, l))
  every-at P (r ∷ rows) zero h l = h.0
  every-at P (r ∷ rows) (suc i) h l = every-at P rows i h.1 (omega (arith, l))

  next-at : (rows : List (MRow T)) (i : ℕ) → Ordered IsByArm rows → suc i < length rows →
      (at rows i).arm ≤ (at rows (suc i)).arm
  next-at [] i o l = absurd (omega (arith, l))
  next-at (r ∷ rows) zero o l = every-at (IsByArm r) rows zero o.0 (omega (arith, l))
  next-at (r ∷ rows) (suc i) o l = next-at rows i o.1 (omega (arith, l))

  count-here : (r : MRow T) (rows : List (MRow T)) → arm_count r.arm (r ∷ rows) ≡ suc (arm_count r.arm rows)
  count-here r rows = rw (is-eq r.arm r.arm refl) refl

  count-more : (arm : ℕ) (r : MRow T) (rows : List (MRow T)) → arm_count arm rows ≤ arm_count arm (r ∷ rows)
  count-more arm r rows = go (nat_eq r.arm arm)
    where
      go : (b : Bool) → arm_count arm rows ≤ cond b (suc (arm_count arm rows)) (arm_count arm rows)
      go true = omega arith
      go false = omega arith

  count-other : (arm : ℕ) (r : MRow T) (rows : List (MRow T)) → ¬ (r.arm ≡ arm) →
      arm_count arm (r ∷ rows) ≡ arm_count arm rows
  count-other arm r rows n = rw (not-eq r.arm arm n) refl

  -- two neighbours of one arm count
  two-count : (rows : List (MRow T)) (i : ℕ) → suc i < length rows → (at rows i).arm ≡ (at rows (suc i)).arm →
      2 ≤ arm_count (at rows i).arm rows
  two-count [] i l e = absurd (omega (arith, l))
  two-count (r ∷ []) i l e = absurd (omega (arith, l))
  two-count (r ∷ s ∷ rows) zero l e =
      let here : arm_count r.arm (r ∷ s ∷ rows) ≡ suc (arm_count r.arm (s ∷ rows)) = count-here r (s ∷ rows) in
      let next : arm_count r.arm (s ∷ rows) ≡ suc (arm_count r.arm rows) = subst
      (λ arm. arm_count arm (s ∷ rows) ≡ suc (arm_count arm rows)) (sym e) (count-here s rows) in
      omega (arith, here, next)
  two-count (r ∷ s ∷ rows) (suc i) l e =
      let rest : 2 ≤ arm_count (at (s ∷ rows) i).arm (s ∷ rows) = two-count (s ∷ rows) i (omega (arith, l)) e in
      let more : arm_count (at (s ∷ rows) i).arm (s ∷ rows) ≤ arm_count (at (s ∷ rows) i).arm (r ∷ s ∷ rows) =
      count-more (at (s ∷ rows) i).arm r (s ∷ rows) in
      omega (arith, rest, more)

  -- rows of later arms do not
  none-count : (arm : ℕ) (rows : List (MRow T)) → Every (λ s. arm < s.arm) rows → arm_count arm rows ≡ 0
  none-count arm [] h = refl
  none-count arm (s ∷ rows) h =
      let later : arm < s.arm = h.0 in
      count-other arm s rows (λ e. omega (arith, later, e)) ∙ none-count arm rows h.1

  later-all : (arm : ℕ) (s : MRow T) (rows : List (MRow T)) → arm < s.arm → Every (IsByArm s) rows →
      Every (λ x. arm < x.arm) rows
  later-all arm s [] l h = tt
  later-all arm s (x ∷ rows) l h = let m : s.arm ≤ x.arm = h.0 in (omega (arith, l, m), later-all arm s rows l h.1)

  -- a row with other arms beside it is the only one of its arm
  one-count : (rows : List (MRow T)) (i : ℕ) → Ordered IsByArm rows → i < length rows →
      ((j : ℕ) → i ≡ suc j → ¬ ((at rows j).arm ≡ (at rows i).arm)) →
      (suc i < length rows → ¬ ((at rows i).arm ≡ (at rows (suc i)).arm)) → arm_count (at rows i).arm rows < 2
  one-count [] i o l b a = absurd (omega (arith, l))
  one-count (r ∷ []) zero o l b a = let here : arm_count r.arm (r ∷ []) ≡ suc 0 = count-here r [] in omega (arith, here)
  one-count (r ∷ s ∷ rows) zero o l b a =
      let order : r.arm ≤ s.arm = o.0.0 in
      let other : ¬ (r.arm ≡ s.arm) = a (omega arith) in
      let later : r.arm < s.arm = omega (arith, order, other) in
      let here : arm_count r.arm (r ∷ s ∷ rows) ≡ suc (arm_count r.arm (s ∷ rows)) = count-here r (s ∷ rows) in
      let none : arm_count r.arm (s ∷ rows) ≡ 0 = none-count r.arm (s ∷ rows)
      (later, later-all r.arm s rows later o.1.0) in
      omega (arith, here, none)
  one-count (r ∷ rows) (suc i) o l b a =
      let rest : arm_count (at rows i).arm rows < 2 = one-count rows i o.1 (omega (arith, l))
      (λ j e. b (suc j) (ap suc e)) (λ m. a (omega (arith, m))) in
      let same : arm_count (at rows i).arm (r ∷ rows) ≡ arm_count (at rows i).arm rows = count-other (at rows i).arm r
      rows (differs i l b) in
      omega (arith, rest, same)
    where
      differs : (i : ℕ) → suc i < length (r ∷ rows) →
          ((j : ℕ) → suc i ≡ suc j → ¬ ((at (r ∷ rows) j).arm ≡ (at rows i).arm)) → ¬ (r.arm ≡ (at rows i).arm)
      differs zero l b e = b zero refl e
      differs (suc i) l b e =
          let first : r.arm ≤ (at rows i).arm = every-at (IsByArm r) rows i o.0 (omega (arith, l)) in
          let next : (at rows i).arm ≤ (at rows (suc i)).arm = next-at rows i o.1 (omega (arith, l)) in
          b (suc i) refl (omega (arith, first, next, e))

  pub not-alone : (rows : List (MRow T)) (i : ℕ) → suc i < length rows → (at rows i).arm ≡ (at rows (suc i)).arm →
      is_alone (at rows i).arm rows ≡ false
  not-alone rows i l e = not-lt (arm_count (at rows i).arm rows) 2 (two-count rows i l e)

  pub alone : (rows : List (MRow T)) (i : ℕ) → Ordered IsByArm rows → i < length rows →
      ((j : ℕ) → i ≡ suc j → ¬ ((at rows j).arm ≡ (at rows i).arm)) →
      (suc i < length rows → ¬ ((at rows i).arm ≡ (at rows (suc i)).arm)) → is_alone (at rows i).arm rows ≡ true
  alone rows i o l b a = is-lt (arm_count (at rows i).arm rows) 2 (one-count rows i o l b a)

module _ {T : Type 0} where
  any-default : (rows : List (KeyedRow T)) (i : ℕ) (d e : KeyedRow T) → i < length rows →
      (get_or rows i d).arm ≡ (get_or rows i e).arm
  any-default rows i d e l = ap (λ r. r.arm) (get_or_default rows i d e l)

  plain-at : (rows : List (KeyedRow T)) (i : ℕ) (d : KeyedRow T) →
      (get_or (plain_rows rows) i (plain_row d)).arm ≡ (get_or rows i d).arm
  plain-at [] i d = refl
  plain-at (r ∷ rows) zero d = refl
  plain-at (r ∷ rows) (suc i) d = plain-at rows i d

  pub plain-length : (rows : List (KeyedRow T)) → length (plain_rows rows) ≡ length rows
  plain-length [] = refl
  plain-length (r ∷ rows) = ap suc (plain-length rows)

  -- both have others
  pub keyed-alone : (rows : List (KeyedRow T)) (i : ℕ) (h : KeyedRow T) →
      Ordered (λ (r s : MRow T). r.arm ≤ s.arm) (plain_rows rows) → i < length rows →
      ((j : ℕ) → i ≡ suc j → ¬ ((get_or rows j h).arm ≡ (get_or rows i h).arm)) →
      (suc i < length rows → ¬ ((get_or rows i h).arm ≡ (get_or rows (suc i) h).arm)) →
      is_alone (get_or rows i h).arm (plain_rows rows) ≡ true
  keyed-alone rows i h o l b a =
      let n : length (plain_rows rows) ≡ length rows = plain-length rows in
      subst (λ arm. is_alone arm (plain_rows rows) ≡ true) (plain-at rows i h)
      (alone (plain_row h) (plain_rows rows) i o (omega (arith, n, l))
      (λ j e x. b j e (sym (plain-at rows j h) ∙ x ∙ plain-at rows i h))
      (λ m x. a (omega (arith, m, n)) (sym (plain-at rows i h) ∙ x ∙ plain-at rows (suc i) h)))

  keyed-two : (rows : List (KeyedRow T)) (i : ℕ) (h : KeyedRow T) → suc i < length rows →
      (get_or rows i h).arm ≡ (get_or rows (suc i) h).arm → is_alone (get_or rows i h).arm (plain_rows rows) ≡ false
  keyed-two rows i h l x =
      let n : length (plain_rows rows) ≡ length rows = plain-length rows in
      subst (λ arm. is_alone arm (plain_rows rows) ≡ false) (plain-at rows i h)
      (not-alone (plain_row h) (plain_rows rows) i (omega (arith, n, l))
      (plain-at rows i h ∙ x ∙ sym (plain-at rows (suc i) h)))

  -- the row behind has the same arm
  pub same-behind : (rows : List (KeyedRow T)) (i : ℕ) (d e h : KeyedRow T) → i + 1 < length rows →
      (get_or rows (i + 1) d).arm ≡ (get_or rows i e).arm → is_alone (get_or rows i h).arm (plain_rows rows) ≡ false
  same-behind rows i d e h l x =
      let next : i + 1 ≡ suc i = omega arith in
      let within : i < length rows = omega (arith, l) in
      keyed-two rows i h (omega (arith, l))
      (any-default rows i h e within ∙ sym x ∙ any-default rows (i + 1) d h l
      ∙ ap (λ k. (get_or rows k h).arm) next)

  -- the row in front has
  pub same-before : (rows : List (KeyedRow T)) (i : ℕ) (d e h : KeyedRow T) → 0 < i → i < length rows →
      (get_or rows (i - 1) d).arm ≡ (get_or rows i e).arm → is_alone (get_or rows i h).arm (plain_rows rows) ≡ false
  same-before rows i d e h p l x =
      let next : suc (i - 1) ≡ i = omega (arith, p) in
      let front : i - 1 < length rows = omega (arith, l) in
      let same : (get_or rows (i - 1) h).arm ≡ (get_or rows i h).arm = any-default rows (i - 1) h d front ∙ x
      ∙ any-default rows i e h l in
      subst (λ arm. is_alone arm (plain_rows rows) ≡ false) same
      (keyed-two rows (i - 1) h (omega (arith, next, l)) (same ∙ ap (λ k. (get_or rows k h).arm) (sym next)))

  -- the one in front has another
  abbrev pub OtherBefore : List (KeyedRow T) → ℕ → Type 0
  OtherBefore rows i = (j : ℕ) (h : KeyedRow T) → i ≡ suc j → ¬ ((get_or rows j h).arm ≡ (get_or rows i h).arm)

  pub first-before : (rows : List (KeyedRow T)) (i : ℕ) → i ≤ 0 → OtherBefore rows i
  first-before rows i l j h e x = omega (arith, l, e)

  pub other-before : (rows : List (KeyedRow T)) (i : ℕ) (d e : KeyedRow T) → i < length rows →
      ¬ ((get_or rows (i - 1) d).arm ≡ (get_or rows i e).arm) → OtherBefore rows i
  other-before rows i d e l n j h q x =
      let front : i - 1 ≡ j = omega (arith, q) in
      let within : i - 1 < length rows = omega (arith, l) in
      n (any-default rows (i - 1) d h within ∙ ap (λ k. (get_or rows k h).arm) front ∙ x ∙ any-default rows i h e l)

  -- it is the last, or the one behind has another too
  pub last-alone : (rows : List (KeyedRow T)) (i : ℕ) (h : KeyedRow T) →
      Ordered (λ (r s : MRow T). r.arm ≤ s.arm) (plain_rows rows) → i < length rows → OtherBefore rows i →
      i + 1 ≡ length rows → is_alone (get_or rows i h).arm (plain_rows rows) ≡ true
  last-alone rows i h o l b e =
      keyed-alone rows i h o l (λ j q. b j h q) (λ m. absurd (omega (arith, m, e)))

  pub both-alone : (rows : List (KeyedRow T)) (i : ℕ) (d e h : KeyedRow T) →
      Ordered (λ (r s : MRow T). r.arm ≤ s.arm) (plain_rows rows) → i + 1 < length rows → OtherBefore rows i →
      ¬ ((get_or rows (i + 1) d).arm ≡ (get_or rows i e).arm) →
      is_alone (get_or rows i h).arm (plain_rows rows) ≡ true
  both-alone rows i d e h o l b n =
      let next : suc i ≡ i + 1 = omega arith in
      let within : i < length rows = omega (arith, l) in
      keyed-alone rows i h o within (λ j q. b j h q) (λ m x. n (any-default rows (i + 1) d h l
      ∙ ap (λ k. (get_or rows k h).arm) (sym next) ∙ sym x ∙ any-default rows i h e within))

pub equal-so : (m n : ℕ) → nat_eq m n ≡ true → m ≡ n
equal-so m n e = grind (arith, nat_tests)

pub not-equal-so : (m n : ℕ) → nat_eq m n ≡ false → ¬ (m ≡ n)
not-equal-so m n e = grind (arith, nat_tests)
