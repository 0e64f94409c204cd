-- Rows that two patterns match, by their length; longer ones than those tried add nothing.
use Rattle.std.proofs.Common.{◌≡◌, ◌<◌, ◌≤◌, ◌⊎◌, inl, inr, ℕ, ◌+◌, ◌-◌, max, Bool, true, false, List, length, slice_get, cond, nat_eq, nat_lt, Some, None, IsTrue, refl, sym, ap, ◌∙◌, subst, arith}
use Rattle.std.proofs.lemmas.Bool.{cases_lt}
use Rattle.match_model.specs.Values.{MValue}
use Rattle.match_model.specs.Constructors.{MShape, FixedShape, LongerShape, least_length, MCtor, SingleCtor, PointCtor, LaterCtor, OtherTextCtor, WildCtor, OrCtor, VariantCtor, FlagCtor, NumbersCtor, TextCtor, RowCtor, MSet, SingleSet, PointSet, FlagSet, TextSet, OpaqueSet, NothingSet, VariantSet, NumberSet, RowSet, Elementary, OneLength, elementary_ctor, is_of_set, belongs, has_piece}
use Rattle.match_model.specs.Contexts.{Context}
use Rattle.match_model.specs.ContextLaws.{ValuesLaw, PartsLaw, parts_count}
use Rattle.match_model.specs.ArenaPatterns.{MDePat, ctor_of, subs_of}
use Rattle.match_model.specs.WellTyped.{IsTyped, IsHeadTyped}
use Rattle.match_model.specs.Rows.{Head}
use Rattle.match_model.proofs.Basics.{both, nat_equal, nat_itself, untrue}
use Rattle.pattern_lints.specs.Meeting.{head_matches, head_ctor, IsSharp, Common, head_by, part_head, place_of, front_by, back_by, head_front, head_back, AllMeet, Skipped, Spot, Stands, spot_part, PiecesMeet, RowsMeet}
use Rattle.pattern_lints.specs.Lengths.{is_longer, leaves_room, greatest_alone, slice_lengths, tried_lengths, IsSharpHead, HasSub, IsSpotOf}
use Rattle.pattern_lints.proofs.HeadParts.{lt_true, lt_false, is_lt, not_lt, is_le, le_true}
use Rattle.pattern_lints.proofs.PieceHeads.{SharpTyped, typed_sharp, length_belongs}
use Rattle.pattern_lints.proofs.PartsCommon.{settled}

-- the same item of a longer row: those at the front stay, those at the back move
abbrev shift : (F B n k : ℕ) → ℕ
shift F B n k = cond (nat_lt k F) k (k + (n - (F + B)))

shift_below : (F B n k : ℕ) → F + B ≤ n → k < F + B → shift F B n k < n
shift_below F B n k l h = go (nat_lt k F) refl
  where
    go : (t : Bool) → nat_lt k F ≡ t → cond t k (k + (n - (F + B))) < n
    go true t = omega (arith, l, h)
    go false t = omega (arith, l, h)

longer_same : {T : Type 0} (f b F B n k : ℕ) (ps : List (MDePat T)) → f ≤ F → b ≤ B → F + B ≤ n → k < F + B →
    head_by (RowCtor (LongerShape f b)) ps (F + B) k ≡ head_by (RowCtor (LongerShape f b)) ps n (shift F B n k)
longer_same {T} f b F B n k ps u w l h = go (nat_lt k F) refl
  where
    go : (t : Bool) → nat_lt k F ≡ t →
        head_by (RowCtor (LongerShape f b)) ps (F + B) k ≡ head_by (RowCtor (LongerShape f b)) ps n (cond t k (k + (n - (F + B))))
    go true t =
        let below : k < F = lt_true k F t in
        let first : nat_lt b (F + B - k) ≡ true = is_lt b (F + B - k) (omega (arith, below, w)) in
        let second : nat_lt b (n - k) ≡ true = is_lt b (n - k) (omega (arith, below, w, l)) in
        rw (first, second) refl
    go false t =
        let past : F ≤ k = lt_false k F t in
        let first : nat_lt k f ≡ false = not_lt k f (omega (arith, past, u)) in
        let second : nat_lt (k + (n - (F + B))) f ≡ false = not_lt (k + (n - (F + B))) f (omega (arith, past, u)) in
        let third : n - (k + (n - (F + B))) ≡ F + B - k = omega (arith, l, h) in
        rw (first, second, third) refl

-- where a pattern below stands: so far from the front, or so far from the back
Places : MCtor → (F B i : ℕ) → Type 0
Places c F B i =
    ((x : ℕ) × (x < F) × ((m : ℕ) → F + B ≤ m → place_of c m i ≡ x))
    ⊎ ((x : ℕ) × (0 < x) × (x ≤ B) × ((m : ℕ) → F + B ≤ m → place_of c m i ≡ m - x))

-- the pattern writes at most so many items at the front and so many at the back of a row of any length from their sum on
record EndsOf {T : Type 0} (h : Head T) (F B : ℕ) : Type 0 where
  has : (m : ℕ) → F + B ≤ m → has_piece (head_ctor h) (RowCtor (FixedShape m)) ≡ true
  same : (n k : ℕ) → F + B ≤ n → k < F + B → part_head h (F + B) k ≡ part_head h n (shift F B n k)
  places : (i : ℕ) → HasSub h i → Places (head_ctor h) F B i

ends_none : {T : Type 0} (F B : ℕ) → EndsOf {T = T} None F B
ends_none F B = record { has = λ m l. refl; same = λ n k l h. refl; places = λ i w. absurd w }

ends_longer : {T : Type 0} (p : MDePat T) (f b F B : ℕ) → ctor_of p ≡ RowCtor (LongerShape f b) → length (subs_of p) ≡ f + b → f ≤ F → b ≤ B →
    EndsOf (Some p) F B
unfolding Places
ends_longer {T} p f b F B e count u w = record {
  has = λ m l. subst (λ c. has_piece c (RowCtor (FixedShape m)) ≡ true) (sym e) (is_le (f + b) m (omega (arith, u, w, l)));
  same = λ n k l h. subst (λ c. head_by c (subs_of p) (F + B) k ≡ head_by c (subs_of p) n (shift F B n k)) (sym e) (longer_same f b F B n k (subs_of p) u w l h);
  places = λ i l. go i l (nat_lt i f) refl;
}
  where
    go : (i : ℕ) → i < length (subs_of p) → (t : Bool) → nat_lt i f ≡ t →
        ((x : ℕ) × (x < F) × ((m : ℕ) → F + B ≤ m → place_of (ctor_of p) m i ≡ x))
        ⊎ ((x : ℕ) × (0 < x) × (x ≤ B) × ((m : ℕ) → F + B ≤ m → place_of (ctor_of p) m i ≡ m - x))
    go i l true t = inl (i, (let z : i < f = lt_true i f t in omega (arith, z, u)), λ m o. subst (λ c. place_of c m i ≡ i) (sym e) (rw t refl))
    go i l false t =
        let z : f ≤ i = lt_false i f t in
        inr (f + b - i, omega (arith, z, l, count), omega (arith, z, w), λ m o. subst (λ c. place_of c m i ≡ m - (f + b - i)) (sym e) (rw t refl))

-- two that stand at one item stand at one of the shorter row
stand_shorter : (c d : MCtor) (F B n i j : ℕ) → F + B < n → Places c F B i → Places d F B j → place_of c n i ≡ place_of d n j →
    place_of c (F + B) i ≡ place_of d (F + B) j
unfolding Places
stand_shorter c d F B n i j l (inl x) (inl y) e = x.2 (F + B) (omega arith) ∙ sym (x.2 n (omega (arith, l))) ∙ e ∙ y.2 n (omega (arith, l)) ∙ sym (y.2 (F + B) (omega arith))
stand_shorter c d F B n i j l (inl x) (inr y) e =
    let z : x.0 ≡ n - y.0 = sym (x.2 n (omega (arith, l))) ∙ e ∙ y.3 n (omega (arith, l)) in
    let a : x.0 < F = x.1 in
    let b : y.0 ≤ B = y.2 in
    absurd (omega (arith, z, a, b, l))
stand_shorter c d F B n i j l (inr x) (inl y) e =
    let z : n - x.0 ≡ y.0 = sym (x.3 n (omega (arith, l))) ∙ e ∙ y.2 n (omega (arith, l)) in
    let a : y.0 < F = y.1 in
    let b : x.0 ≤ B = x.2 in
    absurd (omega (arith, z, a, b, l))
stand_shorter c d F B n i j l (inr x) (inr y) e =
    let z : n - x.0 ≡ n - y.0 = sym (x.3 n (omega (arith, l))) ∙ e ∙ y.3 n (omega (arith, l)) in
    let a : y.0 ≤ B = y.2 in
    let b : x.0 ≤ B = x.2 in
    let same : x.0 ≡ y.0 = omega (arith, z, a, b, l) in
    x.3 (F + B) (omega arith) ∙ ap (λ (k : ℕ). F + B - k) same ∙ sym (y.3 (F + B) (omega arith))

-- the same item of a shorter row: those at the front stay, those at the back move
abbrev squeeze : (F B n k : ℕ) → ℕ
squeeze F B n k = cond (nat_lt k F) k (k - (F + B - n))

squeeze_below : (F B n k : ℕ) → F ≤ n → B ≤ n → n ≤ F + B → k < F + B → squeeze F B n k < n
squeeze_below F B n k u w l h = go (nat_lt k F) refl
  where
    go : (t : Bool) → nat_lt k F ≡ t → cond t k (k - (F + B - n)) < n
    go true t = let below : k < F = lt_true k F t in omega (arith, below, u)
    go false t = let past : F ≤ k = lt_false k F t in omega (arith, past, u, w, l, h)

-- a pattern with a rest has none for an item of the longer row, or the one that it has for that of the shorter row
wider_same : {T : Type 0} (f b F B n k : ℕ) (ps : List (MDePat T)) → f ≤ F → b ≤ B → f + b ≤ n → F ≤ n → B ≤ n → n ≤ F + B → k < F + B →
    (head_by (RowCtor (LongerShape f b)) ps (F + B) k ≡ None)
    ⊎ (head_by (RowCtor (LongerShape f b)) ps (F + B) k ≡ head_by (RowCtor (LongerShape f b)) ps n (squeeze F B n k))
wider_same {T} f b F B n k ps u w has x y l h = go (nat_lt k F) (nat_lt k f) (nat_lt b (F + B - k)) refl refl refl
  where
    go : (t s r : Bool) → nat_lt k F ≡ t → nat_lt k f ≡ s → nat_lt b (F + B - k) ≡ r →
        (cond s (slice_get ps k) (cond r None (slice_get ps (f + b - (F + B - k)))) ≡ None)
        ⊎ (cond s (slice_get ps k) (cond r None (slice_get ps (f + b - (F + B - k)))) ≡ head_by (RowCtor (LongerShape f b)) ps n (cond t k (k - (F + B - n))))
    go true true r t s e = inr (rw s refl)
    go t false true t' s e = inl refl
    go true false false t s e =
        let below : k < F = lt_true k F t in
        let few : F + B - k ≤ b = lt_false b (F + B - k) e in
        absurd (omega (arith, below, few, w))
    go false true r t s e =
        let past : F ≤ k = lt_false k F t in
        let below : k < f = lt_true k f s in
        absurd (omega (arith, past, below, u))
    go false false false t s e =
        let past : F ≤ k = lt_false k F t in
        let few : F + B - k ≤ b = lt_false b (F + B - k) e in
        let same : n - (k - (F + B - n)) ≡ F + B - k = omega (arith, past, x, y, l, h) in
        let first : nat_lt (k - (F + B - n)) f ≡ false = not_lt (k - (F + B - n)) f (omega (arith, past, few, has, x, y, l, h)) in
        let second : nat_lt b (F + B - k) ≡ false = e in
        inr (rw (first, same, second) refl)

-- the pattern has rows of the greatest length, and for each item none or what it has for that of the shorter row
record Widens {T : Type 0} (h : Head T) (F B n : ℕ) : Type 0 where
  has : has_piece (head_ctor h) (RowCtor (FixedShape (F + B))) ≡ true
  item : (k : ℕ) → k < F + B → (part_head h (F + B) k ≡ None) ⊎ (part_head h (F + B) k ≡ part_head h n (squeeze F B n k))

widens_none : {T : Type 0} (F B n : ℕ) → Widens {T = T} None F B n
widens_none F B n = record { has = refl; item = λ k l. inl refl }

widens_longer : {T : Type 0} (p : MDePat T) (f b F B n : ℕ) → ctor_of p ≡ RowCtor (LongerShape f b) → f ≤ F → b ≤ B → f + b ≤ n →
    F ≤ n → B ≤ n → n ≤ F + B → Widens (Some p) F B n
widens_longer p f b F B n e u w has x y l = record {
  has = subst (λ c. has_piece c (RowCtor (FixedShape (F + B))) ≡ true) (sym e) (is_le (f + b) (F + B) (omega (arith, u, w)));
  item = λ k h. subst (λ c. (head_by c (subs_of p) (F + B) k ≡ None) ⊎ (head_by c (subs_of p) (F + B) k ≡ head_by c (subs_of p) n (squeeze F B n k))) (sym e)
      (wider_same f b F B n k (subs_of p) u w has x y l h);
}

-- what is left out of the longer row is what is left out of the shorter one
skip_shorter : (c : MCtor) (F B n i k : ℕ) → F + B < n → k < F + B → Places c F B i → shift F B n k ≡ place_of c n i → k ≡ place_of c (F + B) i
unfolding Places
skip_shorter c F B n i k l h p e = go (nat_lt k F) refl e p
  where
    go : (t : Bool) → nat_lt k F ≡ t → cond t k (k + (n - (F + B))) ≡ place_of c n i →
        ((x : ℕ) × (x < F) × ((m : ℕ) → F + B ≤ m → place_of c m i ≡ x))
        ⊎ ((x : ℕ) × (0 < x) × (x ≤ B) × ((m : ℕ) → F + B ≤ m → place_of c m i ≡ m - x)) → k ≡ place_of c (F + B) i
    go true t e (inl x) = e ∙ x.2 n (omega (arith, l)) ∙ sym (x.2 (F + B) (omega arith))
    go true t e (inr x) =
        let z : k ≡ n - x.0 = e ∙ x.3 n (omega (arith, l)) in
        let a : k < F = lt_true k F t in
        let b : x.0 ≤ B = x.2 in
        absurd (omega (arith, z, a, b, l))
    go false t e (inl x) =
        let z : k + (n - (F + B)) ≡ x.0 = e ∙ x.2 n (omega (arith, l)) in
        let a : F ≤ k = lt_false k F t in
        let b : x.0 < F = x.1 in
        absurd (omega (arith, z, a, b))
    go false t e (inr x) =
        let z : k + (n - (F + B)) ≡ n - x.0 = e ∙ x.3 n (omega (arith, l)) in
        let a : 0 < x.0 = x.1 in
        let b : x.0 ≤ B = x.2 in
        let y : k ≡ F + B - x.0 = omega (arith, z, a, b, l, h) in
        y ∙ sym (x.3 (F + B) (omega arith))

-- an elementary constructor that a row has is that of one length
pub only_length : (r : MShape) (e : Elementary) → has_piece (RowCtor r) (elementary_ctor e) ≡ true → (n : ℕ) × (e ≡ OneLength n)
only_length r (OneLength n) h = (n, refl)
only_length r _ h = untrue h

module _ {T : Type 0} (IsType : T → Type 0) (IsValue : T → Bool → MValue → Type 0) (cx : Context T) (values : ValuesLaw IsType IsValue cx) (parts : PartsLaw IsType IsValue cx) where
  pub pieces_of_rows : (t : T) (sure : Bool) (h g : Head T) (spot : Spot) (n : ℕ) → RowsMeet IsValue cx t sure h g spot n → PiecesMeet IsValue cx t sure h g spot
  pieces_of_rows t sure h g spot n m = record {
    piece = RowCtor (FixedShape n);
    count = n;
    had = record { by = OneLength n; is = refl; of_set = m.allowed; count = refl; first = m.first; second = m.second };
    stand = m.stand;
    all = m.all;
  }

  pub rows_of_pieces : (t : T) (sure : Bool) (h g : Head T) (spot : Spot) (r : MShape) → head_ctor h ≡ RowCtor r → PiecesMeet IsValue cx t sure h g spot →
      (n : ℕ) × RowsMeet IsValue cx t sure h g spot n
  rows_of_pieces t sure h g spot r e m =
      let s = settled IsType IsValue cx values parts t sure h g spot m in
      let l = only_length r s.by (subst (λ c. has_piece c (elementary_ctor s.by) ≡ true) e s.first) in
      (l.0, rows s.by l.0 l.1 s.of_set s.first s.second s.stand s.all)
    where
      rows : (by : Elementary) (n : ℕ) → by ≡ OneLength n → IsTrue (is_of_set (cx.set_of t) by) →
          has_piece (head_ctor h) (elementary_ctor by) ≡ true → has_piece (head_ctor g) (elementary_ctor by) ≡ true →
          Stands (head_ctor h) (head_ctor g) (parts_count cx t by) spot →
          AllMeet IsValue cx t sure (elementary_ctor by) (parts_count cx t by) (Skipped (spot_part (head_ctor h) (parts_count cx t by) spot)) h g →
          RowsMeet IsValue cx t sure h g spot n
      rows (OneLength m) n e o f s st a =
          subst (λ (x : ℕ). RowsMeet IsValue cx t sure h g spot x) (same m n e) (record { allowed = o; first = f; second = s; stand = st; all = a })
        where
          same : (m n : ℕ) → OneLength m ≡ OneLength n → m ≡ n
          same m n e = cc
      rows _ n e o f s st a = cc

  slices : (t : T) (n : ℕ) → cx.set_of t ≡ RowSet None → is_of_set (cx.set_of t) (OneLength n) ≡ true
  slices t n e = ap (λ (s : MSet). is_of_set s (OneLength n)) e

  -- rows that are longer than what is written are matched where shorter ones are
  shorter : (t : T) (sure : Bool) (h g : Head T) (spot : Spot) (F B n : ℕ) → IsType t → cx.set_of t ≡ RowSet None → EndsOf h F B → EndsOf g F B →
      IsSpotOf h g spot → F + B < n → RowsMeet IsValue cx t sure h g spot n → RowsMeet IsValue cx t sure h g spot (F + B)
  shorter t sure h g spot F B n d set eh eg within l m = record {
    allowed = slices t (F + B) set;
    first = eh.has (F + B) (omega arith);
    second = eg.has (F + B) (omega arith);
    stand = stand spot within m.stand;
    all = λ k below free. one k below (m.all (shift F B n k) (shift_below F B n k (omega (arith, l)) below) (λ s. free (skip spot within k below s)));
  }
    where
      stand : (spot : Spot) → IsSpotOf h g spot → Stands (head_ctor h) (head_ctor g) n spot → Stands (head_ctor h) (head_ctor g) (F + B) spot
      stand None w s = tt
      stand (Some x) w s = stand_shorter (head_ctor h) (head_ctor g) F B n x.0 x.1 l (eh.places x.0 w.0) (eg.places x.1 w.1) s

      skip : (spot : Spot) → IsSpotOf h g spot → (k : ℕ) → k < F + B → Skipped (spot_part (head_ctor h) n spot) (shift F B n k) →
          Skipped (spot_part (head_ctor h) (F + B) spot) k
      skip None w k below s = absurd s
      skip (Some x) w k below s = skip_shorter (head_ctor h) F B n x.0 k l below (eh.places x.0 w.0) s

      item : (k : ℕ) → cx.sub (RowCtor (FixedShape n)) t (shift F B n k) ≡ cx.sub (RowCtor (FixedShape (F + B))) t k
      item k = parts.items t (FixedShape n) (FixedShape (F + B)) (shift F B n k) k d
          (length_belongs (cx.set_of t) n (slices t n set)) (length_belongs (cx.set_of t) (F + B) (slices t (F + B) set))

      one : (k : ℕ) → k < F + B →
          Common IsValue (cx.sub (RowCtor (FixedShape n)) t (shift F B n k)) sure (part_head h n (shift F B n k)) (part_head g n (shift F B n k)) →
          Common IsValue (cx.sub (RowCtor (FixedShape (F + B))) t k) sure (part_head h (F + B) k) (part_head g (F + B) k)
      one k below c = record {
        value = c.value;
        is = subst (λ u. IsValue u sure c.value) (item k) c.is;
        first = subst (λ (x : Head T). head_matches x c.value ≡ true) (sym (eh.same n k (omega (arith, l)) below)) c.first;
        second = subst (λ (x : Head T). head_matches x c.value ≡ true) (sym (eg.same n k (omega (arith, l)) below)) c.second;
      }

  -- rows of which each item is written by one of the two are matched where shorter ones are, with no two patterns at one part
  wider : (t : T) (sure : Bool) (h g : Head T) (F B n : ℕ) → IsType t → cx.set_of t ≡ RowSet None → Widens h F B n → Widens g F B n →
      F ≤ n → B ≤ n → n ≤ F + B → RowsMeet IsValue cx t sure h g None n → RowsMeet IsValue cx t sure h g None (F + B)
  wider t sure h g F B n d set wh wg x y l m = record {
    allowed = slices t (F + B) set;
    first = wh.has;
    second = wg.has;
    stand = tt;
    all = λ k below free. one k below (m.all (squeeze F B n k) (squeeze_below F B n k x y l below) (λ s. s));
  }
    where
      item : (k : ℕ) → cx.sub (RowCtor (FixedShape n)) t (squeeze F B n k) ≡ cx.sub (RowCtor (FixedShape (F + B))) t k
      item k = parts.items t (FixedShape n) (FixedShape (F + B)) (squeeze F B n k) k d
          (length_belongs (cx.set_of t) n (slices t n set)) (length_belongs (cx.set_of t) (F + B) (slices t (F + B) set))

      free : (e : Head T) (v : MValue) → e ≡ None → head_matches e v ≡ true
      free e v z = subst (λ (x : Head T). head_matches x v ≡ true) (sym z) refl

      part : (e o : Head T) (v : MValue) → (e ≡ None) ⊎ (e ≡ o) → head_matches o v ≡ true → head_matches e v ≡ true
      part e o v (inl z) h = free e v z
      part e o v (inr z) h = subst (λ (x : Head T). head_matches x v ≡ true) (sym z) h

      one : (k : ℕ) → k < F + B →
          Common IsValue (cx.sub (RowCtor (FixedShape n)) t (squeeze F B n k)) sure (part_head h n (squeeze F B n k)) (part_head g n (squeeze F B n k)) →
          Common IsValue (cx.sub (RowCtor (FixedShape (F + B))) t k) sure (part_head h (F + B) k) (part_head g (F + B) k)
      one k below c = record {
        value = c.value;
        is = subst (λ u. IsValue u sure c.value) (item k) c.is;
        first = part (part_head h (F + B) k) (part_head h n (squeeze F B n k)) c.value (wh.item k below) c.first;
        second = part (part_head g (F + B) k) (part_head g n (squeeze F B n k)) c.value (wg.item k below) c.second;
      }

  -- how a pattern has the rows of one length
  data HasRows (p : MDePat T) (n : ℕ) : Type 0 where
    fixed : ctor_of p ≡ RowCtor (FixedShape n) → length (subs_of p) ≡ n → HasRows p n
    longer : (f b : ℕ) → ctor_of p ≡ RowCtor (LongerShape f b) → length (subs_of p) ≡ f + b → f + b ≤ n → HasRows p n

  has_rows : (t : T) (p : MDePat T) (n : ℕ) → IsType t → IsTyped cx t p → IsSharp (ctor_of p) → has_piece (ctor_of p) (RowCtor (FixedShape n)) ≡ true → HasRows p n
  has_rows t p n d h s has = go (ctor_of p) refl
    where
      y : SharpTyped cx t p
      y = typed_sharp cx t p h s

      at : (c : MCtor) → ctor_of p ≡ c → has_piece c (RowCtor (FixedShape n)) ≡ true
      at c e = subst (λ c. has_piece c (RowCtor (FixedShape n)) ≡ true) e has

      count : (r : MShape) → ctor_of p ≡ RowCtor r → length (subs_of p) ≡ least_length r
      count r e = y.count ∙ ap (λ c. cx.arity c t) e ∙ parts.arity t (RowCtor r) d (subst (λ c. IsTrue (belongs (cx.set_of t) c)) e y.belongs)

      go : (c : MCtor) → ctor_of p ≡ c → HasRows p n
      go (RowCtor (FixedShape m)) e =
          let same : m ≡ n = nat_equal m n (at (RowCtor (FixedShape m)) e) in
          fixed (e ∙ ap (λ (x : ℕ). RowCtor (FixedShape x)) same) (count (FixedShape m) e ∙ same)
      go (RowCtor (LongerShape f b)) e = longer f b e (count (LongerShape f b) e) (le_true (f + b) n (at (RowCtor (LongerShape f b)) e))
      go WildCtor e = absurd (subst IsSharp e s)
      go OrCtor e = absurd (subst IsSharp e s)
      go SingleCtor e = untrue (at SingleCtor e)
      go PointCtor e = untrue (at PointCtor e)
      go LaterCtor e = untrue (at LaterCtor e)
      go OtherTextCtor e = untrue (at OtherTextCtor e)
      go (VariantCtor k) e = untrue (at (VariantCtor k) e)
      go (FlagCtor x) e = untrue (at (FlagCtor x) e)
      go (NumbersCtor x) e = untrue (at (NumbersCtor x) e)
      go (TextCtor x) e = untrue (at (TextCtor x) e)

  -- the least length is at most any that the pattern has
  least_within : (t : T) (h : Head T) (n : ℕ) → IsType t → IsHeadTyped cx t h → IsSharpHead h → has_piece (head_ctor h) (RowCtor (FixedShape n)) ≡ true →
      head_front h + head_back h ≤ n
  least_within t None n d h s has = omega arith
  least_within t (Some p) n d h s has = go (has_rows t p n d h s has)
    where
      go : HasRows p n → head_front (Some p) + head_back (Some p) ≤ n
      go (fixed e c) = rw e (omega (arith, c))
      go (longer f b e c l) = rw e l

  -- a pattern that writes less than the row has ends
  ends_of : (t : T) (h : Head T) (F B n : ℕ) → IsType t → IsHeadTyped cx t h → IsSharpHead h → has_piece (head_ctor h) (RowCtor (FixedShape n)) ≡ true →
      head_front h ≤ F → head_back h ≤ B → F + B < n → EndsOf h F B
  ends_of t None F B n d h s has u w l = ends_none F B
  ends_of t (Some p) F B n d h s has u w l = go (has_rows t p n d h s has)
    where
      go : HasRows p n → EndsOf (Some p) F B
      go (fixed e c) =
          let f : length (subs_of p) ≤ F = subst (λ c. front_by c (length (subs_of p)) ≤ F) e u in
          absurd (omega (arith, c, f, l))
      go (longer f b e c x) =
          ends_longer p f b F B e c
          (subst (λ c. front_by c (length (subs_of p)) ≤ F) e u)
          (subst (λ c. back_by c ≤ B) e w)

  -- a pattern that leaves room goes on to longer rows
  widens_of : (t : T) (h : Head T) (F B n : ℕ) → IsType t → IsHeadTyped cx t h → IsSharpHead h → has_piece (head_ctor h) (RowCtor (FixedShape n)) ≡ true →
      leaves_room h ≡ true → head_front h ≤ F → head_back h ≤ B → F ≤ n → B ≤ n → n ≤ F + B → Widens h F B n
  widens_of t None F B n d h s has room u w x y l = widens_none F B n
  widens_of t (Some p) F B n d h s has room u w x y l = go (has_rows t p n d h s has)
    where
      go : HasRows p n → Widens (Some p) F B n
      go (fixed e c) = untrue (subst (λ c. is_longer c ≡ true) e room)
      go (longer f b e c z) =
          widens_longer p f b F B n e
          (subst (λ c. front_by c (length (subs_of p)) ≤ F) e u)
          (subst (λ c. back_by c ≤ B) e w) z x y l

  -- a length that is tried, where rows of it meet
  pub record IsTriedLength (t : T) (sure : Bool) (h g : Head T) (spot : Spot) (low count : ℕ) : Type 0 where
    pub number : ℕ
    pub from_low : low ≤ number
    pub below : number < low + count
    pub meet : RowsMeet IsValue cx t sure h g spot number

  -- where rows of some length meet, rows of one of those tried do
  pub one_is_tried : (t : T) (sure : Bool) (h g : Head T) (spot : Spot) (n : ℕ) → IsType t → IsHeadTyped cx t h → IsHeadTyped cx t g →
      IsSharpHead h → IsSharpHead g → IsSpotOf h g spot → RowsMeet IsValue cx t sure h g spot n →
      IsTriedLength t sure h g spot (tried_lengths (cx.set_of t) spot h g).0 (tried_lengths (cx.set_of t) spot h g).1
  one_is_tried t sure h g spot n d ht gt hs gs within m = go (cx.set_of t) refl
    where
      F : ℕ
      F = max (head_front h) (head_front g)

      B : ℕ
      B = max (head_back h) (head_back g)

      least_h : head_front h + head_back h ≤ n
      least_h = least_within t h n d ht hs m.first

      least_g : head_front g + head_back g ≤ n
      least_g = least_within t g n d gt gs m.second

      past : cx.set_of t ≡ RowSet None → F + B < n → RowsMeet IsValue cx t sure h g spot (F + B)
      past set l =
          shorter t sure h g spot F B n d set (ends_of t h F B n d ht hs m.first (omega arith) (omega arith) l)
          (ends_of t g F B n d gt gs m.second (omega arith) (omega arith) l) within l m

      within_front : F ≤ n
      within_front = omega (arith, least_h, least_g)

      within_back : B ≤ n
      within_back = omega (arith, least_h, least_g)

      greatest : (spot : Spot) → greatest_alone spot h g ≡ true → cx.set_of t ≡ RowSet None → n ≤ F + B → RowsMeet IsValue cx t sure h g spot n →
          RowsMeet IsValue cx t sure h g spot (F + B)
      greatest (Some s) room set l m = untrue room
      greatest None room set l m =
          let r = both (leaves_room h) (leaves_room g) room in
          wider t sure h g F B n d set
          (widens_of t h F B n d ht hs m.first r.0 (omega arith) (omega arith) within_front within_back l)
          (widens_of t g F B n d gt gs m.second r.1 (omega arith) (omega arith) within_front within_back l)
          within_front within_back l m

      slice : cx.set_of t ≡ RowSet None → (alone : Bool) → greatest_alone spot h g ≡ alone →
          IsTriedLength t sure h g spot (slice_lengths alone h g).0 (slice_lengths alone h g).1
      slice set true a = record {
        number = F + B;
        from_low = omega arith;
        below = omega arith;
        meet = elim (cases_lt (F + B) n) [
          | inl l ↦ past set l
          | inr l ↦ greatest spot a set l m
        ];
      }
      slice set false a = elim (cases_lt (F + B) n) [
        | inl l ↦ record { number = F + B; from_low = omega arith; below = omega arith; meet = past set l }
        | inr l ↦ record { number = n; from_low = omega (arith, least_h, least_g); below = omega (arith, l); meet = m }
      ]

      go : (set : MSet) → cx.set_of t ≡ set → IsTriedLength t sure h g spot (tried_lengths set spot h g).0 (tried_lengths set spot h g).1
      go (RowSet None) e = slice e (greatest_alone spot h g) refl
      go (RowSet (Some k)) e =
          let same : k ≡ n = nat_equal k n (subst (λ (s : MSet). is_of_set s (OneLength n) ≡ true) e m.allowed) in
          record { number = n; from_low = omega (arith, same); below = omega (arith, same); meet = m }
      go SingleSet e = untrue (subst (λ (s : MSet). is_of_set s (OneLength n) ≡ true) e m.allowed)
      go PointSet e = untrue (subst (λ (s : MSet). is_of_set s (OneLength n) ≡ true) e m.allowed)
      go FlagSet e = untrue (subst (λ (s : MSet). is_of_set s (OneLength n) ≡ true) e m.allowed)
      go TextSet e = untrue (subst (λ (s : MSet). is_of_set s (OneLength n) ≡ true) e m.allowed)
      go OpaqueSet e = untrue (subst (λ (s : MSet). is_of_set s (OneLength n) ≡ true) e m.allowed)
      go NothingSet e = untrue (subst (λ (s : MSet). is_of_set s (OneLength n) ≡ true) e m.allowed)
      go (VariantSet x y) e = untrue (subst (λ (s : MSet). is_of_set s (OneLength n) ≡ true) e m.allowed)
      go (NumberSet x y) e = untrue (subst (λ (s : MSet). is_of_set s (OneLength n) ≡ true) e m.allowed)

-- each length that is tried is one of the type's
pub tried_allowed : {T : Type 0} (set : MSet) (r : MShape) (spot : Spot) (h g : Head T) (n : ℕ) → belongs set (RowCtor r) ≡ true → (tried_lengths set spot h g).0 ≤ n →
    n < (tried_lengths set spot h g).0 + (tried_lengths set spot h g).1 → is_of_set set (OneLength n) ≡ true
tried_allowed (RowSet None) r spot h g n b l u = refl
tried_allowed (RowSet (Some k)) r spot h g n b l u = let same : k ≡ n = omega (arith, l, u) in subst (λ (x : ℕ). nat_eq k x ≡ true) same (nat_itself k)
tried_allowed SingleSet r spot h g n b l u = untrue b
tried_allowed PointSet r spot h g n b l u = untrue b
tried_allowed FlagSet r spot h g n b l u = untrue b
tried_allowed TextSet r spot h g n b l u = untrue b
tried_allowed OpaqueSet r spot h g n b l u = untrue b
tried_allowed NothingSet r spot h g n b l u = untrue b
tried_allowed (VariantSet x y) r spot h g n b l u = untrue b
tried_allowed (NumberSet x y) r spot h g n b l u = untrue b
