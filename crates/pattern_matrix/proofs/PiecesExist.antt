-- Every column has pieces.
use Rattle.std.proofs.Common.{◌≡◌, ℕ, ℤ, pos, ◌+ℤ◌, ◌-ℤ◌, Bool, true, false, ◌||◌, List, [], ◌∷◌, ◌++◌, map, filter_map, Option, Some, None, refl, sym, ap, ◌∙◌, arith}
use Rattle.std.specs.Prelude.{IsTrue, int_le}
use Rattle.std.specs.Ordering.{int_eq, is_eq, ordering_reverse}
use Rattle.std.specs.List.{list_any, AllByRecursion}
use Rattle.std.specs.List.Sorted.{IsStrictlySortedBy}
use Rattle.std.specs.declared.cmp.Ordering.{Ordering}
use Rattle.std.specs.declared.cmp.Ordering.TheVariants.{Less, Equal, Greater}
use Rattle.std.proofs.lemmas.Int.{ints}
use Rattle.std.proofs.lemmas.Bool.Decides.{Decides-int_eq}
use Rattle.std.proofs.lemmas.Cmp.{nat_list_cmp_total}
use Rattle.std.specs.Cmp.Lexicographic.{texts_ties}
use Rattle.match_model.specs.Texts.{text_eq, compare_texts}
use Rattle.match_model.specs.Numbers.{MEnd, At, MRange, in_range, is_from, is_up_to, is_at, ends_ascend}
use Rattle.match_model.specs.Made.{IsMadeSecond, IsMadeSet}
use Rattle.match_model.specs.Constructors.{MCtor, SingleCtor, PointCtor, FlagCtor, NumbersCtor, TextCtor, OtherTextCtor, MSet, SingleSet, PointSet, FlagSet, VariantSet, NumberSet, TextSet, RowSet, OpaqueSet, NothingSet}
use Rattle.match_model.specs.Pieces.{Follow, last_one, one_more, is_cut_at, IsCut, IsCutToo, AreNamed, ArePieces, range_of, text_of, variant_pieces, slice_pieces, array_piece}
use Rattle.match_model.proofs.Basics.{untrue, text_equal}
use Rattle.range_split.specs.Cuts.{cuts_of}
use Rattle.range_split.proofs.Basics.{both_true, and_true, reflexive}
use Rattle.range_split.proofs.Pairs.{some_number}
use Rattle.range_split.proofs.Sides.{not_its_low}
use Rattle.range_split.proofs.Counts.{cuts_at}
use Rattle.range_split.proofs.Splits.{list_any-map}

-- ---- ranges

abbrev begins : ℤ → List MRange → Bool
begins m ps = list_any (λ p. is_at m p.low) ps

-- what follows a low end begins there
first_begins : {low high : MEnd} {ps : List MRange} → Follow low high ps → (n : ℤ) → low ≡ At n → begins n ps ≡ true
first_begins (last_one low high x h) n e = ap (λ l. is_at n l || false) e ∙ ap (λ b. b || false) ((Decides-int_eq n n).1 refl)
first_begins (one_more low high x rest h f) n e = ap (λ l. is_at n l || begins n rest) e ∙ ap (λ b. b || begins n rest) ((Decides-int_eq n n).1 refl)

before_next : (n : ℤ) → n -ℤ pos 1 +ℤ pos 1 ≡ n
before_next n = omega (arith, ints)

-- ranges cut once more
abbrev CutMore : (low high : MEnd) → List MRange → ℤ → Type 0
CutMore low high ps n = (qs : List MRange) × Follow low high qs × ((m : ℤ) → begins m qs ≡ (begins m ps || int_eq m n))

swap_or : (a b c : Bool) → (a || (b || c)) ≡ ((a || c) || b)
swap_or a b c = grind arith

-- the first range is cut
cut_first : (low high last : MEnd) (n : ℤ) (rest : List MRange) → IsTrue (is_from low (n -ℤ pos 1)) → IsTrue (is_up_to last n) →
    Follow (At (n -ℤ pos 1 +ℤ pos 1)) high (record { low = At (n -ℤ pos 1 +ℤ pos 1); high = last } ∷ rest) → CutMore low high (record { low = low; high = last } ∷ rest) n
cut_first low high last n rest p q f = (
  record { low = low; high = At (n -ℤ pos 1) } ∷ record { low = At (n -ℤ pos 1 +ℤ pos 1); high = last } ∷ rest,
  one_more low high (n -ℤ pos 1) (record { low = At (n -ℤ pos 1 +ℤ pos 1); high = last } ∷ rest) (and_true (is_from low (n -ℤ pos 1)) (int_le (n -ℤ pos 1) (n -ℤ pos 1)) p (reflexive (n -ℤ pos 1))) f,
  λ m. ap (λ k. is_at m low || (int_eq m k || begins m rest)) (before_next n) ∙ swap_or (is_at m low) (int_eq m n) (begins m rest),
)

cut_once : {low high : MEnd} {ps : List MRange} → Follow low high ps → (n : ℤ) → IsTrue (in_range (record { low = low; high = high }) (n -ℤ pos 1)) →
    IsTrue (in_range (record { low = low; high = high }) n) → CutMore low high ps n
cut_once (last_one low high x h) n p q =
    let a = both_true (is_from low (n -ℤ pos 1)) (is_up_to high (n -ℤ pos 1)) p in
    let b = both_true (is_from low n) (is_up_to high n) q in
    cut_first low high high n [] a.0 b.1
    (last_one (At (n -ℤ pos 1 +ℤ pos 1)) high n (and_true (int_le (n -ℤ pos 1 +ℤ pos 1) n) (is_up_to high n) (next_le n) b.1))
  where
    next_le : (n : ℤ) → IsTrue (int_le (n -ℤ pos 1 +ℤ pos 1) n)
    next_le n = grind (arith, ints)
cut_once (one_more low high x rest h f) n p q =
    let a = both_true (is_from low (n -ℤ pos 1)) (is_up_to high (n -ℤ pos 1)) p in
    let b = both_true (is_from low n) (is_up_to high n) q in
    go (int_le n x) refl (int_eq n (x +ℤ pos 1)) refl a b (λ s t. cut_once f n s t)
  where
    short : (n x : ℤ) → int_le n x ≡ true → IsTrue (int_le (n -ℤ pos 1 +ℤ pos 1) x)
    short n x e = grind (arith, ints)

    after : (n x : ℤ) → int_le n x ≡ false → int_eq n (x +ℤ pos 1) ≡ false → IsTrue (int_le (x +ℤ pos 1) (n -ℤ pos 1))
    after n x e d = grind (arith, ints)

    after_too : (n x : ℤ) → int_le n x ≡ false → IsTrue (int_le (x +ℤ pos 1) n)
    after_too n x e = grind (arith, ints)

    assoc : (a b c : Bool) → (a || (b || c)) ≡ ((a || b) || c)
    assoc a b c = grind arith

    there : (a b c : Bool) → (c ≡ true → b ≡ true) → (a || b) ≡ ((a || b) || c)
    there true b c k = refl
    there false true c k = refl
    there false false true k = untrue (k refl)
    there false false false k = refl

    go : (s : Bool) → int_le n x ≡ s → (t : Bool) → int_eq n (x +ℤ pos 1) ≡ t →
        IsTrue (is_from low (n -ℤ pos 1)) × IsTrue (is_up_to high (n -ℤ pos 1)) → IsTrue (is_from low n) × IsTrue (is_up_to high n) →
        (IsTrue (in_range (record { low = At (x +ℤ pos 1); high = high }) (n -ℤ pos 1)) → IsTrue (in_range (record { low = At (x +ℤ pos 1); high = high }) n) → CutMore (At (x +ℤ pos 1)) high rest n) →
        CutMore low high (record { low = low; high = At x } ∷ rest) n
    go true e t d a b k =
        cut_first low high (At x) n rest a.0 e
        (one_more (At (n -ℤ pos 1 +ℤ pos 1)) high x rest (and_true (int_le (n -ℤ pos 1 +ℤ pos 1) x) (int_le x x) (short n x e) (reflexive x)) f)
    go false e true d a b k = (
      record { low = low; high = At x } ∷ rest,
      one_more low high x rest h f,
      λ m. there (is_at m low) (begins m rest) (int_eq m n) (λ c. first_begins f m (ap At (sym ((Decides-int_eq m n).0 c ∙ (Decides-int_eq n (x +ℤ pos 1)).0 d)))),
    )
    go false e false d a b k =
        let r = k (and_true (int_le (x +ℤ pos 1) (n -ℤ pos 1)) (is_up_to high (n -ℤ pos 1)) (after n x e d) a.1) (and_true (int_le (x +ℤ pos 1) n) (is_up_to high n) (after_too n x e) b.1) in (
          record { low = low; high = At x } ∷ r.0,
          one_more low high x r.0 h r.1,
          λ m. ap (λ y. is_at m low || y) (r.2 m) ∙ assoc (is_at m low) (begins m rest) (int_eq m n),
        )

-- a range cut at these numbers, where they lie inside it
abbrev CutAll : MRange → List ℤ → Type 0
CutAll whole ns =
    (ps : List MRange) × Follow whole.low whole.high ps
    × ((m : ℤ) → IsTrue (in_range whole (m -ℤ pos 1)) → IsTrue (in_range whole m) → begins m ps ≡ list_any (int_eq m) ns)

cut_all : (whole : MRange) (x : ℤ) → IsTrue (in_range whole x) → (ns : List ℤ) → CutAll whole ns
cut_all whole x h [] = (
  whole ∷ [],
  last_one whole.low whole.high x h,
  λ m p q. ap (λ b. b || false) (not_its_low whole.low m (both_true (is_from whole.low (m -ℤ pos 1)) (is_up_to whole.high (m -ℤ pos 1)) p).0),
)
cut_all whole x h (n ∷ ns) = go (in_range whole (n -ℤ pos 1)) refl (in_range whole n) refl (cut_all whole x h ns)
  where
    swap : (a b : Bool) → (a || b) ≡ (b || a)
    swap a b = grind arith

    outside : (m : ℤ) (b : Bool) → (int_eq m n ≡ true → ⊥) → b ≡ (int_eq m n || b)
    outside m b f = by (int_eq m n) f
      where
        by : (c : Bool) → (c ≡ true → ⊥) → b ≡ (c || b)
        by true f = absurd (f refl)
        by false f = refl

    go : (s : Bool) → in_range whole (n -ℤ pos 1) ≡ s → (t : Bool) → in_range whole n ≡ t → CutAll whole ns → CutAll whole (n ∷ ns)
    go true e true d (ps, f, k) =
        let r = cut_once f n e d in
        (r.0, r.1, λ m p q. r.2 m ∙ ap (λ b. b || int_eq m n) (k m p q) ∙ swap (list_any (int_eq m) ns) (int_eq m n))
    go false e t d (ps, f, k) = (ps, f, λ m p q. k m p q ∙ outside m (list_any (int_eq m) ns) (λ c. untrue (sym e ∙ ap (λ y. in_range whole (y -ℤ pos 1)) (sym ((Decides-int_eq m n).0 c)) ∙ p)))
    go true e false d (ps, f, k) = (ps, f, λ m p q. k m p q ∙ outside m (list_any (int_eq m) ns) (λ c. untrue (sym d ∙ ap (in_range whole) (sym ((Decides-int_eq m n).0 c)) ∙ q)))

pub cut_exists : (whole : MRange) (heads : List MRange) → IsTrue (ends_ascend whole.low whole.high) → (ps : List MRange) × IsCut whole heads ps
cut_exists whole heads up =
    let x = some_number whole.low whole.high up in
    let r = cut_all whole x.0 x.1 (map (λ c. c.0) (cuts_of whole heads)) in
    let same : (n : ℤ) → IsTrue (in_range whole (n -ℤ pos 1)) → IsTrue (in_range whole n) → begins n r.0 ≡ is_cut_at heads n = λ n p q. r.2 n p q ∙ list_any-map (int_eq n) (λ (c : ℤ × Bool). c.0) (cuts_of whole heads) ∙ cuts_at whole heads n p q in
    (r.0, record { together = r.1; cut = λ n p q. ((λ t. sym (same n p q) ∙ t), (λ t. same n p q ∙ t)) })

-- ---- texts

abbrev Named : List (List ℕ) → Type 0
Named heads = (texts : List (List ℕ)) × AreNamed heads texts

turned : (t u : List ℕ) → compare_texts t u ≡ Greater → compare_texts u t ≡ Less
turned t u e = nat_list_cmp_total.antisymm u t ∙ ap ordering_reverse e

-- a text put into ascending ones
abbrev PutIn : List ℕ → List (List ℕ) → Type 0
PutIn t us =
    (ws : List (List ℕ)) × IsStrictlySortedBy compare_texts ws × ((x : List ℕ) → list_any (text_eq x) ws ≡ (text_eq x t || list_any (text_eq x) us))
    × ((y : List ℕ) → compare_texts y t ≡ Less → AllByRecursion (λ x. compare_texts y x ≡ Less) us → AllByRecursion (λ x. compare_texts y x ≡ Less) ws)

put_text : (t : List ℕ) (us : List (List ℕ)) → IsStrictlySortedBy compare_texts us → PutIn t us
unfolding IsStrictlySortedBy
put_text t [] s = (t ∷ [], (tt, tt), λ x. refl, λ y l a. (l, tt))
put_text t (u ∷ us) s = go (compare_texts t u) refl s (put_text t us s.1)
  where
    all_above : (us : List (List ℕ)) → compare_texts t u ≡ Less → AllByRecursion (λ x. compare_texts u x ≡ Less) us → AllByRecursion (λ x. compare_texts t x ≡ Less) us
    all_above [] l a = tt
    all_above (x ∷ us) l a = (nat_list_cmp_total.trans t u x l a.0, all_above us l a.1)

    assoc : (a b c : Bool) → (b || (a || c)) ≡ (a || (b || c))
    assoc a b c = grind arith

    again : (a c : Bool) → (a || c) ≡ (a || (a || c))
    again a c = grind arith

    go : (o : Ordering) → compare_texts t u ≡ o → AllByRecursion (λ x. compare_texts u x ≡ Less) us × IsStrictlySortedBy compare_texts us → PutIn t us → PutIn t (u ∷ us)
    go Less e s k = (t ∷ u ∷ us, ((e, all_above us e s.0), s), λ x. refl, λ y l a. (l, a))
    go Equal e s k =
        let same : t ≡ u = text_equal t u (texts_ties t u ∙ ap is_eq e) in
        (u ∷ us, s, λ x. again (text_eq x u) (list_any (text_eq x) us) ∙ ap (λ w. text_eq x w || (text_eq x u || list_any (text_eq x) us)) (sym same), λ y l a. a)
    go Greater e s (ws, z, f, g) = (
      u ∷ ws,
      (g u (turned t u e) s.0, z),
      λ x. ap (λ b. text_eq x u || b) (f x) ∙ assoc (text_eq x t) (text_eq x u) (list_any (text_eq x) us),
      λ y l a. (a.0, g y l a.1),
    )

pub named_exists : (heads : List (List ℕ)) → Named heads
unfolding IsStrictlySortedBy
named_exists [] = ([], record { each = λ t. refl; ascending = tt })
named_exists (t ∷ heads) =
    let r = named_exists heads in
    let w = put_text t r.0 r.1.ascending in
    (w.0, record { each = λ x. w.2 x ∙ ap (λ b. text_eq x t || b) (r.1.each x); ascending = w.1 })

-- ---- sets

second_exists : (second : Option MRange) (heads : List MRange) → IsMadeSecond second → (qs : List MRange) × IsCutToo second heads qs
second_exists None heads h = ([], refl)
second_exists (Some whole) heads h = cut_exists whole heads h.up

pub pieces_exist : (set : MSet) (heads : List MCtor) → IsMadeSet set → (pieces : List MCtor) × ArePieces set heads pieces
pieces_exist SingleSet heads h = (SingleCtor ∷ [], refl)
pieces_exist PointSet heads h = (PointCtor ∷ [], refl)
pieces_exist FlagSet heads h = (FlagCtor false ∷ FlagCtor true ∷ [], refl)
pieces_exist (VariantSet count later) heads h = (variant_pieces count later, refl)
pieces_exist (NumberSet first second) heads h =
    let a = cut_exists first (filter_map range_of heads) h.0.up in
    let b = second_exists second (filter_map range_of heads) h.1 in
    (map NumbersCtor (a.0 ++ b.0), (a.0, b.0, a.1, b.1, refl))
pieces_exist TextSet heads h =
    let a = named_exists (filter_map text_of heads) in
    (map TextCtor a.0 ++ OtherTextCtor ∷ [], (a.0, a.1, refl))
pieces_exist (RowSet None) heads h = (slice_pieces heads, refl)
pieces_exist (RowSet (Some n)) heads h = (array_piece n heads ∷ [], refl)
pieces_exist OpaqueSet heads h = ([], refl)
pieces_exist NothingSet heads h = ([], refl)
