-- A step keeps the rows of a matrix parted, once they are in order again.
use Rattle.std.proofs.Common.{◌≡◌, ◌⊎◌, inl, inr, ℕ, List, [], ◌∷◌, ◌++◌, map, refl, sym, ap, ◌∙◌, arith, subst}
use Rattle.std.specs.List.{flat_map}
use Rattle.std.proofs.lemmas.List.{map-append}
use Rattle.match_model.specs.Places.{MStep}
use Rattle.match_model.specs.Rows.{Head}
use Rattle.match_model.specs.Matrices.{MRow}
use Rattle.match_model.specs.Keys.{Decision, Key, key_of, both_keys, IsBefore}
use Rattle.match_model.specs.Lists.{Every, Ordered, Among}
use Rattle.match_model.specs.Steps.{Replacement, replacements_at, row_replaced, rows_at}
use Rattle.keyed_rows.specs.Dividing.{AreFree, Divides, GoodAt, replacement_key}
use Rattle.keyed_rows.specs.Parting.{IsParted, RowParted}
use Rattle.match_model.specs.RowOrder.{row_key, RowFirst, AreInOrder}
use Rattle.keyed_rows.proofs.Lists.{key_of-append}
use Rattle.keyed_rows.proofs.Parting.{two-of, among-every, among-map, Left, free-step, StillEither, rows-parted, row-divided}
use Rattle.keyed_rows.proofs.Picking.{before-asym}

pub among-append : {A : Type 0} (xs ys : List A) (x : A) → Among x (xs ++ ys) → Among x xs ⊎ Among x ys
among-append [] ys x i = inr i
among-append (y ∷ xs) ys x (inl e) = inl (inl e)
among-append (y ∷ xs) ys x (inr i) = elim (among-append xs ys x i) [ inl j ↦ inl (inr j) | inr j ↦ inr j ]

pub among-flat : {A B : Type 0} (f : A → List B) (xs : List A) (y : B) → Among y (flat_map f xs) → (x : A) × Among x xs
    × Among y (f x)
among-flat f [] y i = elim i [ ]
among-flat f (x ∷ xs) y i = elim (among-append (f x) (flat_map f xs) y i) [
  | inl j ↦ (x, inl refl, j)
  | inr j ↦ (let r = among-flat f xs y j in (r.0, inr r.1, r.2))
]

pub every-among : {A : Type 0} (P : A → Type 0) (xs : List A) → ((x : A) → Among x xs → P x) → Every P xs
every-among P [] h = tt
every-among P (x ∷ xs) h = (h x (inl refl), every-among P xs (λ y i. h y (inr i)))

-- each pair of things in an order
pub ordered-among : {A : Type 0} (R S : A → A → Type 0) (xs : List A) →
    ((x y : A) → Among x xs → Among y xs → R x y → S x y) → Ordered R xs → Ordered S xs
ordered-among R S [] h o = tt
ordered-among R S (x ∷ xs) h o = (
  every-among (S x) xs (λ y i. h x y (inl refl) (inr i) (among-every (R x) xs y o.0 i)),
  ordered-among R S xs
      (λ y z i j. h y z (inr i) (inr j)) o.1,
)

module _ {T : Type 0} (decides : ℕ → Decision) where
  pub key-of-row : (place : List MStep) (r : MRow T) (y : Replacement T) →
      row_key decides (row_replaced place r y) ≡ both_keys (row_key decides r) (replacement_key decides y)
  key-of-row place r y = λ i. λ o. keys o i
    where
      keys : (o : ℕ) → row_key decides (row_replaced place r y) o ≡ both_keys (row_key decides r)
          (replacement_key decides y) o
      keys o =
          ap (λ l. key_of l o) (map-append decides r.chosen y.chosen)
          ∙ key_of-append (map decides r.chosen) (map decides y.chosen) o

  module _ (Good : Head T → Type 0) (width : ℕ) (f : Head T → List (Replacement T))
      (divides : Divides decides Good width f) (place : List MStep) (i : ℕ) where
    -- a row that a step makes
    record Made (rows : List (MRow T)) (r : MRow T) : Type 0 where
      pub from : MRow T
      pub of : Among from rows
      pub replacement : Replacement T
      pub by : Among replacement (replacements_at f i from.heads)
      pub is : r ≡ row_replaced place from replacement

    made : (rows : List (MRow T)) (r : MRow T) → Among r (rows_at f place i rows) → Made rows r
    made rows r j =
        let a = among-flat (λ x. map (row_replaced place x) (replacements_at f i x.heads)) rows r j in
        let b = among-map (row_replaced place a.0) (replacements_at f i a.0.heads) r a.2 in
        record { from = a.0; of = a.1; replacement = b.0; by = b.1; is = b.2 }

    abbrev IsFree : MRow T → Type 0
    IsFree r = AreFree decides (row_key decides r) 0 r.heads

    -- the rows' numbers stay free
    pub rows-free : (rows : List (MRow T)) → Every IsFree rows → Every (λ r. GoodAt Good i r.heads) rows →
        (r : MRow T) → Among r (rows_at f place i rows) → IsFree r
    rows-free rows free good r j =
        let m = made rows r j in
        let l = among-every (Left decides (row_key decides m.from) 0) (replacements_at f i m.from.heads) m.replacement
        (free-step decides Good width f divides (row_key decides m.from) 0 i m.from.heads
        (among-every (λ x. GoodAt Good i x.heads) rows m.from good m.of) (among-every IsFree rows m.from free m.of))
        m.by in
        subst IsFree (sym m.is) (subst (λ k. AreFree decides k 0 m.replacement.heads)
        (sym (key-of-row place m.from m.replacement)) l.free)

    abbrev MK : (rows : List (MRow T)) (r : MRow T) → Made rows r → Key
    MK rows r m = both_keys (row_key decides m.from) (replacement_key decides m.replacement)

    made-key : (rows : List (MRow T)) (r : MRow T) (m : Made rows r) → row_key decides r ≡ MK rows r m
    made-key rows r m = ap (row_key decides) m.is ∙ key-of-row place m.from m.replacement

    abbrev Target : (rows : List (MRow T)) (r s : MRow T) → Made rows r → Made rows s → Type 0
    Target rows r s m n = IsParted decides (MK rows r m) m.replacement.heads (MK rows s n) n.replacement.heads

    moved : (rows : List (MRow T)) (r s : MRow T) (m : Made rows r) (n : Made rows s) → Target rows r s m n →
        IsParted decides (row_key decides r) r.heads (row_key decides s) s.heads
    moved rows r s m n p =
        let one : IsParted decides (row_key decides r) m.replacement.heads (MK rows s n) n.replacement.heads = subst
        (λ k. IsParted decides k m.replacement.heads (MK rows s n) n.replacement.heads) (sym (made-key rows r m)) p in
        let two : IsParted decides (row_key decides r) m.replacement.heads (row_key decides s) n.replacement.heads = subst
        (λ k. IsParted decides (row_key decides r) m.replacement.heads k n.replacement.heads)
        (sym (made-key rows s n)) one in
        let three : IsParted decides (row_key decides r) r.heads (row_key decides s) n.replacement.heads = subst
        (λ hs. IsParted decides (row_key decides r) hs (row_key decides s) n.replacement.heads)
        (sym (ap (λ x. x.heads) m.is)) two in
        subst (λ hs. IsParted decides (row_key decides r) r.heads (row_key decides s) hs)
        (sym (ap (λ x. x.heads) n.is)) three

    first-moved : (rows : List (MRow T)) (r s : MRow T) (m : Made rows r) (n : Made rows s) →
        IsBefore (row_key decides r) (row_key decides s) → IsBefore (MK rows r m) (MK rows s n)
    first-moved rows r s m n b =
        subst (λ k. IsBefore (MK rows r m) k) (made-key rows s n) (subst (λ k. IsBefore k (row_key decides s))
        (made-key rows r m) b)

    module _ (rows : List (MRow T)) (free : Every IsFree rows) (good : Every (λ r. GoodAt Good i r.heads) rows)
        (o : Ordered (RowParted decides) rows) where
      good-of : (r : MRow T) → Among r rows → GoodAt Good i r.heads
      good-of r j = among-every (λ x. GoodAt Good i x.heads) rows r good j

      free-of : (r : MRow T) → Among r rows → IsFree r
      free-of r j = among-every IsFree rows r free j

      -- of one row
      same-row : (r s : MRow T) (m : Made rows r) (n : Made rows s) → m.from ≡ n.from →
          IsBefore (MK rows r m) (MK rows s n) → Target rows r s m n
      same-row r s m n e b =
          let mine : Among n.replacement (replacements_at f i m.from.heads) = subst
          (λ x. Among n.replacement (replacements_at f i x.heads)) (sym e) n.by in
          let keys : both_keys (row_key decides m.from) (replacement_key decides n.replacement) ≡ MK rows s n = ap
          (λ x. both_keys (row_key decides x) (replacement_key decides n.replacement)) e in
          go keys (two-of (λ y z. IsParted decides (both_keys (row_key decides m.from)
          (replacement_key decides y)) y.heads (both_keys (row_key decides m.from) (replacement_key decides z)) z.heads)
          (replacements_at f i m.from.heads) m.replacement n.replacement (row-divided decides Good width f divides
          (row_key decides m.from) 0 i m.from.heads (good-of m.from m.of) (free-of m.from m.of)) m.by mine)
        where
          P : Replacement T → Replacement T → Type 0
          P y z =
              IsParted decides (both_keys (row_key decides m.from) (replacement_key decides y)) y.heads
              (both_keys (row_key decides m.from) (replacement_key decides z)) z.heads

          go : both_keys (row_key decides m.from) (replacement_key decides n.replacement) ≡ MK rows s n →
              (m.replacement ≡ n.replacement)
              ⊎ (P m.replacement n.replacement ⊎ P n.replacement m.replacement) → Target rows r s m n
          go keys (inl h) =
              let one : MK rows r m ≡ MK rows s n = ap (λ y. both_keys (row_key decides m.from)
              (replacement_key decides y)) h ∙ keys in
              let c : IsBefore (MK rows s n) (MK rows s n) = subst (λ k. IsBefore k (MK rows s n)) one b in
              absurd (before-asym (MK rows s n) (MK rows s n) c c)
          go keys (inr (inl p)) =
              subst (λ k. IsParted decides (MK rows r m) m.replacement.heads k n.replacement.heads) keys p
          go keys (inr (inr p)) =
              let c : IsBefore (MK rows s n) (MK rows r m) = subst (λ k. IsBefore k (MK rows r m)) keys p.before in
              absurd (before-asym (MK rows r m) (MK rows s n) b c)

      arm-of : (r : MRow T) (m : Made rows r) → r.arm ≡ m.from.arm
      arm-of r m = ap (λ x. x.arm) m.is

      -- two rows that a step made, one of which comes first
      pub rows-stay : (r s : MRow T) → Among r (rows_at f place i rows) → Among s (rows_at f place i rows) →
          RowFirst decides r s → RowParted decides r s
      rows-stay r s j k (inl l) = inl l
      rows-stay r s j k (inr b) =
          let m = made rows r j in
          let n = made rows s k in
          let c : IsBefore (MK rows r m) (MK rows s n) = first-moved rows r s m n b.1 in
          inr (b.0, moved rows r s m n (go m n c (two-of (RowParted decides) rows m.from n.from o m.of n.of)))
        where
          go : (m : Made rows r) (n : Made rows s) → IsBefore (MK rows r m) (MK rows s n) → (m.from ≡ n.from)
              ⊎ (RowParted decides m.from n.from ⊎ RowParted decides n.from m.from) → Target rows r s m n
          go m n c (inl e) = same-row r s m n e c
          go m n c (inr (inl (inl l))) =
              let e : m.from.arm ≡ n.from.arm = sym (arm-of r m) ∙ (b.0 ∙ arm-of s n) in absurd (omega (arith, l, e))
          go m n c (inr (inl (inr p))) =
              pickone (rows-parted decides Good width f divides (row_key decides m.from)
              (row_key decides n.from) p.1.before 0 i m.from.heads n.from.heads m.replacement n.replacement
              (good-of m.from m.of)
              (good-of n.from n.of) (free-of m.from m.of) p.1.alike m.by n.by)
            where
              pickone : StillEither decides p.1.before.at (MK rows r m) m.replacement.heads
                  (MK rows s n) n.replacement.heads →
                  Target rows r s m n
              pickone (inl q) = q.parted
              pickone (inr q) = absurd (before-asym (MK rows r m) (MK rows s n) c q.parted.before)
          go m n c (inr (inr (inl l))) =
              let e : m.from.arm ≡ n.from.arm = sym (arm-of r m) ∙ (b.0 ∙ arm-of s n) in absurd (omega (arith, l, e))
          go m n c (inr (inr (inr p))) =
              pickone (rows-parted decides Good width f divides (row_key decides n.from)
              (row_key decides m.from) p.1.before 0 i n.from.heads m.from.heads n.replacement m.replacement
              (good-of n.from n.of)
              (good-of m.from m.of) (free-of n.from n.of) p.1.alike n.by m.by)
            where
              pickone : StillEither decides p.1.before.at (MK rows s n) n.replacement.heads
                  (MK rows r m) m.replacement.heads →
                  Target rows r s m n
              pickone (inl q) = absurd (before-asym (MK rows r m) (MK rows s n) c q.parted.before)
              pickone (inr q) = q.parted

      -- the rows after a step, in order again
      pub sorted-parted : (sorted : List (MRow T)) → AreInOrder decides (rows_at f place i rows) sorted →
          Ordered (RowParted decides) sorted
      sorted-parted sorted a =
          ordered-among (RowFirst decides) (RowParted decides) sorted
          (λ r s j k b. rows-stay r s (a.same.back r j) (a.same.back s k) b) a.ordered

      pub sorted-free : (sorted : List (MRow T)) → AreInOrder decides (rows_at f place i rows) sorted →
          Every IsFree sorted
      sorted-free sorted a = every-among IsFree sorted (λ r j. rows-free rows free good r (a.same.back r j))
