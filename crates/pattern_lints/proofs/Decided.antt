-- Whether two patterns have a common value, and whether they meet along two paths, is decided by the laws of a context.
use Rattle.std.proofs.Common.{◌≡◌, ◌≢◌, ◌<◌, ◌≤◌, ◌⊎◌, inl, inr, ℕ, zero, suc, ◌+◌, ◌-◌, Bool, true, false, List, [], ◌∷◌, length, slice_get, cond, nat_lt, nat_eq, Option, Some, None, refl, sym, ◌∙◌, subst, arith}
use Rattle.std.proofs.lemmas.Bool.Decides.{nat_tests}
use Rattle.match_model.specs.Values.{MValue}
use Rattle.match_model.specs.Numbers.{MRange, is_from, is_up_to, ends_ascend}
use Rattle.match_model.specs.Constructors.{MShape, FixedShape, LongerShape, MCtor, SingleCtor, PointCtor, LaterCtor, OtherTextCtor, WildCtor, OrCtor, VariantCtor, FlagCtor, NumbersCtor, TextCtor, RowCtor, OneLength, is_of_set, has_piece, sure_inside}
use Rattle.match_model.specs.Contexts.{Context}
use Rattle.match_model.specs.ContextLaws.{ValuesLaw, PartsLaw, EmptyLaw, UnsureLaw}
use Rattle.match_model.specs.Made.{IsForward, IsMadePat, AreMadePats}
use Rattle.match_model.specs.ArenaPatterns.{MDePat, de_pat, MDePats, no_de_pats, more_de_pats, de_pats_list, ctor_of, subs_of}
use Rattle.match_model.specs.WellTyped.{is_written, IsTyped, IsHeadTyped}
use Rattle.match_model.specs.Rows.{Head}
use Rattle.match_model.proofs.Basics.{both, nat_equal, nat_itself, untrue}
use Rattle.range_split.specs.Ranges.{Meet}
use Rattle.range_split.proofs.Pairs.{meets_by_ends}
use Rattle.constructor_sets.proofs.Whole.{forward}
use Rattle.pat_context.specs.Parts.{Tells}
use Rattle.pat_context.proofs.Consequences.{part_is_type}
use Rattle.pattern_lints.specs.Along.{Touching, MeetTogether}
use Rattle.pattern_lints.specs.Meeting.{head_ctor, IsSharp, Common, head_by, part_head, PartMeets, AllMeet, Skipped, Spot, Stands, spot_part, place_of, IsPiece, PieceMeets, PiecesMeet, RowsMeet, IsAlike, IsAlikeHead, pattern_size, head_size}
use Rattle.pattern_lints.specs.Lengths.{IsSharpHead, IsSpotOf, tried_lengths}
use Rattle.pattern_lints.proofs.HeadParts.{some_same}
use Rattle.pattern_lints.proofs.PieceHeads.{SharpTyped, typed_sharp, typed_or}
use Rattle.pattern_lints.proofs.PartsCommon.{kind, flipped, or_common, common_or, wild_first, common_forth, common_back, sharp_not_or}
use Rattle.pattern_lints.proofs.RowLengths.{pieces_of_rows, rows_of_pieces, one_is_tried}
use Rattle.pattern_lints.proofs.Leaves.{IsLeaf, ascending, leaves_meet}
use Rattle.pattern_lints.proofs.AlongSteps.{steps_forth, steps_back, end_meets, first_goes_on, second_goes_on, first_or_forth, first_or_back, second_or_forth, second_or_back}
use Rattle.pattern_lints.proofs.Sizes.{sub_smaller, parts_smaller}
use Rattle.pattern_lints.proofs.Told.{wild_second, IsOne, piece_parts, first_typed, second_typed, one_piece, pieces_one, pieces_alike}
use Rattle.pattern_lints.proofs.Touches.{first_step, second_step, touch_first, touch_second, first_sharp, second_sharp, first_goes, second_goes, first_within, second_within, same_part}

abbrev pub Decided : Type 0 → Type 0
Decided P = P ⊎ (P → ⊥)

by_iff : (P Q : Type 0) → (P → Q) → (Q → P) → Decided P → Decided Q
by_iff P Q f g (inl p) = inl (f p)
by_iff P Q f g (inr n) = inr (λ q. n (g q))

both_decided : (P Q : Type 0) → Decided P → Decided Q → Decided (P × Q)
both_decided P Q (inl p) (inl q) = inl (p, q)
both_decided P Q (inl p) (inr n) = inr (λ x. n x.1)
both_decided P Q (inr n) d = inr (λ x. n x.0)

test_decided : (b : Bool) → Decided (b ≡ true)
test_decided true = inl refl
test_decided false = inr (λ e. untrue e)

number_decided : (m n : ℕ) → Decided (m ≡ n)
number_decided m n = go (nat_eq m n) refl
  where
    go : (b : Bool) → nat_eq m n ≡ b → (m ≡ n) ⊎ (m ≡ n → ⊥)
    go true h = inl (nat_equal m n h)
    go false h = inr (λ (e : m ≡ n). let f : false ≡ true = sym h ∙ subst (λ (x : ℕ). nat_eq m x ≡ true) e (nat_itself m) in untrue f)

-- each number below
all_below : (n : ℕ) (P : ℕ → Type 0) → ((k : ℕ) → k < n → Decided (P k)) → Decided ((k : ℕ) → k < n → P k)
all_below zero P d = inl (λ k l. absurd (omega (arith, l)))
all_below (suc n) P d = go (all_below n P (λ k l. d k (omega (arith, l)))) (d n (omega arith))
  where
    go : ((k : ℕ) → k < n → P k) ⊎ (((k : ℕ) → k < n → P k) → ⊥) → P n ⊎ (P n → ⊥) → ((k : ℕ) → k < suc n → P k) ⊎ (((k : ℕ) → k < suc n → P k) → ⊥)
    go (inr no_all) x = inr (λ h. no_all (λ k l. h k (omega (arith, l))))
    go (inl all) (inr no_one) = inr (λ h. no_one (h n (omega arith)))
    go (inl all) (inl one) = inl (λ k l. pick k l (nat_eq k n) refl)
      where
        pick : (k : ℕ) → k < suc n → (b : Bool) → nat_eq k n ≡ b → P k
        pick k l true h = subst P (sym (nat_equal k n h)) one
        pick k l false h = all k (below k l h)
          where
            below : (k : ℕ) → k < suc n → nat_eq k n ≡ false → k < n
            below k l h = grind (arith, nat_tests)

-- some number from one on
some_from : (low count : ℕ) (P : ℕ → Type 0) → ((k : ℕ) → Decided (P k)) → Decided ((k : ℕ) × (low ≤ k) × (k < low + count) × P k)
some_from low zero P d = inr (λ h. let a : low ≤ h.0 = h.1 in let b : h.0 < low + 0 = h.2 in omega (arith, a, b))
some_from low (suc count) P d = go (some_from low count P d) (d (low + count))
  where
    go : ((k : ℕ) × (low ≤ k) × (k < low + count) × P k) ⊎ ((k : ℕ) × (low ≤ k) × (k < low + count) × P k → ⊥) → P (low + count) ⊎ (P (low + count) → ⊥) →
        ((k : ℕ) × (low ≤ k) × (k < low + suc count) × P k) ⊎ ((k : ℕ) × (low ≤ k) × (k < low + suc count) × P k → ⊥)
    go (inl h) x = let b : h.0 < low + count = h.2 in inl (h.0, h.1, omega (arith, b), h.3)
    go (inr none) (inl one) = inl (low + count, omega arith, omega arith, one)
    go (inr none) (inr not_one) = inr (λ h. pick h.0 h.1 h.2 h.3 (nat_eq h.0 (low + count)) refl)
      where
        pick : (k : ℕ) → low ≤ k → k < low + suc count → P k → (b : Bool) → nat_eq k (low + count) ≡ b → ⊥
        pick k l m p true h = not_one (subst P (nat_equal k (low + count) h) p)
        pick k l m p false h = none (k, l, below k m h, p)
          where
            below : (k : ℕ) → k < low + suc count → nat_eq k (low + count) ≡ false → k < low + count
            below k m h = grind (arith, nat_tests)

-- some thing of a list
any_listed : {A : Type 0} (xs : List A) (P : A → Type 0) → ((i : ℕ) (x : A) → slice_get xs i ≡ Some x → Decided (P x)) →
    Decided ((i : ℕ) × (x : A) × (slice_get xs i ≡ Some x) × P x)
any_listed [] P d = inr (λ h. none h.1 h.2)
  where
    none : {A : Type 0} (x : A) → None ≡ Some x → ⊥
    none x e = cc
any_listed {A} (y ∷ ys) P d = go (d 0 y refl) (any_listed ys P (λ i x e. d (suc i) x e))
  where
    go : P y ⊎ (P y → ⊥) → ((i : ℕ) × (x : A) × (slice_get ys i ≡ Some x) × P x) ⊎ ((i : ℕ) × (x : A) × (slice_get ys i ≡ Some x) × P x → ⊥) →
        ((i : ℕ) × (x : A) × (slice_get (y ∷ ys) i ≡ Some x) × P x) ⊎ ((i : ℕ) × (x : A) × (slice_get (y ∷ ys) i ≡ Some x) × P x → ⊥)
    go (inl p) r = inl (0, y, refl, p)
    go (inr n) (inl h) = inl (suc h.0, h.1, h.2, h.3)
    go (inr n) (inr m) = inr (λ h. pick h.0 h.1 h.2 h.3)
      where
        pick : (i : ℕ) (x : A) → slice_get (y ∷ ys) i ≡ Some x → P x → ⊥
        pick zero x e p = n (subst P (sym (some_same y x e)) p)
        pick (suc i) x e p = m (i, x, e, p)

ranges_decided : (r s : MRange) → ends_ascend r.low r.high ≡ true → ends_ascend s.low s.high ≡ true → Decided (Meet r s)
ranges_decided r s a b = go (ends_ascend r.low s.high) (ends_ascend s.low r.high) refl refl
  where
    crossing : (r s : MRange) → Meet r s → ends_ascend r.low s.high ≡ true
    crossing r s m =
        let x = both (is_from r.low m.0) (is_up_to r.high m.0) m.1 in
        let y = both (is_from s.low m.0) (is_up_to s.high m.0) m.2 in
        ascending r.low s.high m.0 x.0 y.1

    turned : Meet r s → Meet s r
    turned m = (m.0, m.2, m.1)

    go : (x y : Bool) → ends_ascend r.low s.high ≡ x → ends_ascend s.low r.high ≡ y → Meet r s ⊎ (Meet r s → ⊥)
    go true true e f = inl ((meets_by_ends r s true true a b (sym e) (sym f) refl).0 refl)
    go false y e f = inr (λ m. untrue (sym e ∙ crossing r s m))
    go true false e f = inr (λ m. untrue (sym f ∙ crossing s r (turned m)))

alike_decided : (c d : MCtor) → IsForward c → IsForward d → Decided (IsAlike c d)
alike_decided (NumbersCtor r) (NumbersCtor s) f g = ranges_decided r s f g
alike_decided (RowCtor r) (RowCtor s) f g = inl tt
alike_decided (NumbersCtor r) d f g = test_decided (has_piece (NumbersCtor r) d)
alike_decided (RowCtor r) d f g = test_decided (has_piece (RowCtor r) d)
alike_decided c d f g = test_decided (has_piece c d)

-- the pattern's ranges do not run backward, where there is one
abbrev pub IsMadeHead : {T : Type 0} → Head T → Type 0
IsMadeHead None = Unit {0}
IsMadeHead (Some p) = IsMadePat p

made_forward : {T : Type 0} (p : MDePat T) → IsMadePat p → IsForward (ctor_of p)
made_forward (de_pat c t uid at subs binds) m = forward c m.0

sub_made : {T : Type 0} (p : MDePat T) (i : ℕ) (q : MDePat T) → slice_get (subs_of p) i ≡ Some q → IsMadePat p → IsMadePat q
sub_made {T} (de_pat c t uid at subs binds) i q e m = go subs i e m.1
  where
    go : (ps : MDePats T) (i : ℕ) → slice_get (de_pats_list ps) i ≡ Some q → AreMadePats ps → IsMadePat q
    go no_de_pats i e m = cc
    go (more_de_pats p ps) zero e m = subst IsMadePat (some_same p q e) m.0
    go (more_de_pats p ps) (suc i) e m = go ps i e m.1

got_made : {T : Type 0} (p : MDePat T) (i : ℕ) → IsMadePat p → IsMadeHead (slice_get (subs_of p) i)
got_made {T} p i m = go (slice_get (subs_of p) i) refl
  where
    go : (h : Head T) → slice_get (subs_of p) i ≡ h → IsMadeHead h
    go None e = tt
    go (Some q) e = sub_made p i q e m

head_by_made : {T : Type 0} (c : MCtor) (p : MDePat T) (n k : ℕ) → IsMadePat p → IsMadeHead (head_by c (subs_of p) n k)
head_by_made {T} (RowCtor (LongerShape f b)) p n k m = go (nat_lt k f) (nat_lt b (n - k))
  where
    go : (t u : Bool) → IsMadeHead {T = T} (cond t (slice_get (subs_of p) k) (cond u None (slice_get (subs_of p) (f + b - (n - k)))))
    go true u = got_made p k m
    go false true = tt
    go false false = got_made p (f + b - (n - k)) m
head_by_made c p n k m = got_made p k m

part_made : {T : Type 0} (h : Head T) (n k : ℕ) → IsMadeHead h → IsMadeHead (part_head h n k)
part_made None n k m = tt
part_made (Some p) n k m = head_by_made (ctor_of p) p n k m

skip_decided : (o : Option ℕ) (k : ℕ) → Decided (Skipped o k)
skip_decided None k = inr (λ h. h)
skip_decided (Some b) k = number_decided k b

stand_decided : (c d : MCtor) (n : ℕ) (spot : Spot) → Decided (Stands c d n spot)
stand_decided c d n None = inl tt
stand_decided c d n (Some s) = number_decided (place_of c n s.0) (place_of d n s.1)

-- what kind of constructor a pattern without or-patterns and wildcards has
data Kind (c : MCtor) : Type 0 where
  a_row : (r : MShape) → c ≡ RowCtor r → Kind c
  a_one : IsOne c → Kind c
  a_leaf : IsLeaf c → Kind c

kind_of : (c : MCtor) → IsSharp c → is_written c ≡ true → Kind c
kind_of SingleCtor s w = a_one tt
kind_of PointCtor s w = a_one tt
kind_of (VariantCtor k) s w = a_one tt
kind_of (FlagCtor b) s w = a_leaf tt
kind_of (NumbersCtor r) s w = a_leaf tt
kind_of (TextCtor t) s w = a_leaf tt
kind_of (RowCtor r) s w = a_row r refl
kind_of LaterCtor s w = untrue w
kind_of OtherTextCtor s w = untrue w
kind_of WildCtor s w = absurd s
kind_of OrCtor s w = absurd s

module _ {T : Type 0} (IsType : T → Type 0) (IsValue : T → Bool → MValue → Type 0) (cx : Context T) (values : ValuesLaw IsType IsValue cx) (parts : PartsLaw IsType IsValue cx)
    (is_empty : T → Bool) (variant_empty : T → ℕ → Bool) (empty : EmptyLaw IsType IsValue cx is_empty variant_empty) (unsure : UnsureLaw IsType IsValue) where
  -- common values of smaller patterns are decided
  abbrev Smaller : ℕ → Type 0
  Smaller n = (t : T) (sure : Bool) (h g : Head T) → IsType t → IsHeadTyped cx t h → IsHeadTyped cx t g → IsMadeHead h → IsMadeHead g →
      head_size h + head_size g < n → Decided (Common IsValue t sure h g)

  parts_decided : (t : T) (sure : Bool) (c : MCtor) (n : ℕ) (o : Option ℕ) (p : MDePat T) (g : Head T) → IsType t → IsTyped cx t p → IsHeadTyped cx t g →
      IsMadePat p → IsMadeHead g → IsPiece cx t c n (Some p) g → Smaller (pattern_size p + head_size g) →
      Decided (AllMeet IsValue cx t sure c n (Skipped o) (Some p) g)
  parts_decided t sure c n o p g d pt gt pm gm m smaller =
      all_below n (PartMeets IsValue cx t sure c n (Skipped o) (Some p) g) (λ k l. part k l (skip_decided o k))
    where
      part : (k : ℕ) → k < n → Decided (Skipped o k) → Decided (PartMeets IsValue cx t sure c n (Skipped o) (Some p) g k)
      part k l (inl s) = inl (λ f. absurd (f s))
      part k l (inr f) =
          let b = piece_parts IsType IsValue cx values parts t c n (Some p) g k d m l in
          by_iff (Common IsValue (cx.sub c t k) (sure_inside c sure) (part_head (Some p) n k) (part_head g n k)) (PartMeets IsValue cx t sure c n (Skipped o) (Some p) g k)
          (λ x free. x) (λ x. x f)
          (smaller (cx.sub c t k) (sure_inside c sure) (part_head (Some p) n k) (part_head g n k)
          (part_is_type IsType IsValue cx parts t c k d b.0 b.1)
          (first_typed IsType IsValue cx values parts t c n (Some p) g k d pt m l) (second_typed IsType IsValue cx values parts t c n (Some p) g k d gt m l)
          (part_made (Some p) n k pm) (part_made g n k gm) (parts_smaller p g n k))

  piece_decided : (t : T) (sure : Bool) (c : MCtor) (n : ℕ) (spot : Spot) (p : MDePat T) (g : Head T) → IsType t → IsTyped cx t p → IsHeadTyped cx t g →
      IsMadePat p → IsMadeHead g → IsPiece cx t c n (Some p) g → Smaller (pattern_size p + head_size g) →
      Decided (PieceMeets IsValue cx t sure c n (Some p) g spot)
  piece_decided t sure c n spot p g d pt gt pm gm m smaller =
      by_iff (Stands (ctor_of p) (head_ctor g) n spot × AllMeet IsValue cx t sure c n (Skipped (spot_part (ctor_of p) n spot)) (Some p) g) (PieceMeets IsValue cx t sure c n (Some p) g spot)
      (λ x. record { stand = x.0; all = x.1 }) (λ x. (x.stand, x.all))
      (both_decided (Stands (ctor_of p) (head_ctor g) n spot) (AllMeet IsValue cx t sure c n (Skipped (spot_part (ctor_of p) n spot)) (Some p) g)
      (stand_decided (ctor_of p) (head_ctor g) n spot)
      (parts_decided t sure c n (spot_part (ctor_of p) n spot) p g d pt gt pm gm m smaller))

  row_decided : (t : T) (sure : Bool) (n : ℕ) (spot : Spot) (p : MDePat T) (g : Head T) → IsType t → IsTyped cx t p → IsHeadTyped cx t g →
      IsMadePat p → IsMadeHead g → Smaller (pattern_size p + head_size g) → Decided (RowsMeet IsValue cx t sure (Some p) g spot n)
  row_decided t sure n spot p g d pt gt pm gm smaller =
      go (test_decided (is_of_set (cx.set_of t) (OneLength n))) (test_decided (has_piece (ctor_of p) (RowCtor (FixedShape n)))) (test_decided (has_piece (head_ctor g) (RowCtor (FixedShape n))))
    where
      go : Decided (is_of_set (cx.set_of t) (OneLength n) ≡ true) → Decided (has_piece (ctor_of p) (RowCtor (FixedShape n)) ≡ true) →
          Decided (has_piece (head_ctor g) (RowCtor (FixedShape n)) ≡ true) → Decided (RowsMeet IsValue cx t sure (Some p) g spot n)
      go (inr a) b c = inr (λ x. a x.allowed)
      go (inl a) (inr b) c = inr (λ x. b x.first)
      go (inl a) (inl b) (inr c) = inr (λ x. c x.second)
      go (inl a) (inl b) (inl c) =
          by_iff (PieceMeets IsValue cx t sure (RowCtor (FixedShape n)) n (Some p) g spot) (RowsMeet IsValue cx t sure (Some p) g spot n)
          (λ x. record { allowed = a; first = b; second = c; stand = x.stand; all = x.all }) (λ x. record { stand = x.stand; all = x.all })
          (piece_decided t sure (RowCtor (FixedShape n)) n spot p g d pt gt pm gm
          (record { by = OneLength n; is = refl; of_set = a; count = refl; first = b; second = c }) smaller)

  pieces_decided : (t : T) (sure : Bool) (spot : Spot) (p : MDePat T) (g : Head T) → IsType t → IsTyped cx t p → IsHeadTyped cx t g → IsSharp (ctor_of p) → IsSharpHead g →
      IsSpotOf (Some p) g spot → IsMadePat p → IsMadeHead g → Smaller (pattern_size p + head_size g) → Decided (PiecesMeet IsValue cx t sure (Some p) g spot)
  pieces_decided t sure spot p g d pt gt s gs within pm gm smaller = alike (alike_head g gm)
    where
      y : SharpTyped cx t p
      y = typed_sharp cx t p pt s

      alike_head : (g : Head T) → IsMadeHead g → Decided (IsAlikeHead (ctor_of p) g)
      alike_head None m = inl tt
      alike_head (Some q) m = alike_decided (ctor_of p) (ctor_of q) (made_forward p pm) (made_forward q m)

      rows : (r : MShape) → ctor_of p ≡ RowCtor r → Decided (PiecesMeet IsValue cx t sure (Some p) g spot)
      rows r e =
          let l = tried_lengths (cx.set_of t) spot (Some p) g in
          by_iff ((n : ℕ) × (l.0 ≤ n) × (n < l.0 + l.1) × RowsMeet IsValue cx t sure (Some p) g spot n) (PiecesMeet IsValue cx t sure (Some p) g spot)
          (λ x. pieces_of_rows IsType IsValue cx values parts t sure (Some p) g spot x.0 x.3)
          (λ x. let z = rows_of_pieces IsType IsValue cx values parts t sure (Some p) g spot r e x in
          let k = one_is_tried IsType IsValue cx values parts t sure (Some p) g spot z.0 d pt gt s gs within z.1 in (k.number, k.from_low, k.below, k.meet))
          (some_from l.0 l.1 (RowsMeet IsValue cx t sure (Some p) g spot) (λ n. row_decided t sure n spot p g d pt gt pm gm smaller))

      by_kind : IsAlikeHead (ctor_of p) g → Kind (ctor_of p) → Decided (PiecesMeet IsValue cx t sure (Some p) g spot)
      by_kind a (a_row r e) = rows r e
      by_kind a (a_leaf l) = inl (leaves_meet IsType IsValue cx values parts is_empty variant_empty empty unsure t sure p g spot d pt gt l s gs (made_forward p pm) a within)
      by_kind a (a_one o) =
          let m = one_piece IsType IsValue cx values parts t p g (length (subs_of p)) d pt o s a refl in
          let x = pieces_one IsType IsValue cx values parts t sure p g spot (length (subs_of p)) d pt o s m in
          by_iff (PieceMeets IsValue cx t sure (ctor_of p) (length (subs_of p)) (Some p) g spot) (PiecesMeet IsValue cx t sure (Some p) g spot) x.0 x.1
          (piece_decided t sure (ctor_of p) (length (subs_of p)) spot p g d pt gt pm gm m smaller)

      alike : Decided (IsAlikeHead (ctor_of p) g) → Decided (PiecesMeet IsValue cx t sure (Some p) g spot)
      alike (inl a) = by_kind a (kind_of (ctor_of p) s y.written)
      alike (inr a) = inr (λ x. a (pieces_alike IsType IsValue cx values parts t sure p g spot s gs x))

  value_decided : (t : T) (sure : Bool) → IsType t → Decided (Common IsValue t sure None None)
  value_decided t false d = let v = unsure t d in inl (record { value = v.0; is = v.1; first = refl; second = refl })
  value_decided t true d = go (is_empty t) refl
    where
      go : (b : Bool) → is_empty t ≡ b → Decided (Common IsValue t true None None)
      go true e = inr (λ m. empty.empty t d e m.value m.is)
      go false e = let v = empty.inhabited t d e in inl (record { value = v.0; is = v.1; first = refl; second = refl })

  -- one step: from smaller patterns to those of one more
  common_step : (fuel : ℕ) → Smaller fuel → Smaller (suc fuel)
  common_step fuel smaller t sure h g d ht gt hm gm l = heads h g ht gt hm gm l
    where
      turn : (h g : Head T) → Decided (Common IsValue t sure h g) → Decided (Common IsValue t sure g h)
      turn h g = by_iff (Common IsValue t sure h g) (Common IsValue t sure g h) (flipped IsValue t sure h g) (flipped IsValue t sure g h)

      pieces : (p : MDePat T) (g : Head T) → IsTyped cx t p → IsHeadTyped cx t g → IsSharp (ctor_of p) → IsSharpHead g → head_ctor g ≢ OrCtor → IsMadePat p → IsMadeHead g →
          pattern_size p + head_size g < suc fuel → Decided (Common IsValue t sure (Some p) g)
      pieces p g pt gt s gs gn pm gm l =
          by_iff (PiecesMeet IsValue cx t sure (Some p) g None) (Common IsValue t sure (Some p) g)
          (common_back IsType IsValue cx values parts t sure (Some p) g d pt gt) (common_forth IsType IsValue cx values parts t sure p g d pt gt s gn)
          (pieces_decided t sure None p g d pt gt s gs tt pm gm
          (λ u sure h g ud ht gt hm gm m. smaller u sure h g ud ht gt hm gm (omega (arith, l, m))))

      any : (p : MDePat T) (g : Head T) → IsTyped cx t p → IsHeadTyped cx t g → ctor_of p ≡ OrCtor → IsMadePat p → IsMadeHead g →
          pattern_size p + head_size g < suc fuel → Decided (Common IsValue t sure (Some p) g)
      any p g pt gt or pm gm l =
          by_iff ((j : ℕ) × (q : MDePat T) × (slice_get (subs_of p) j ≡ Some q) × Common IsValue t sure (Some q) g) (Common IsValue t sure (Some p) g)
          (λ x. common_or IsValue t sure p x.1 x.0 g or x.2 x.3) (or_common IsValue t sure p g or)
          (any_listed (subs_of p) (λ q. Common IsValue t sure (Some q) g)
          (λ j q e. smaller t sure (Some q) g d (typed_or cx t p pt or j q e) gt (sub_made p j q e pm) gm (let m = sub_smaller p j q e in omega (arith, l, m))))

      lone : (p : MDePat T) → IsTyped cx t p → IsMadePat p → pattern_size p < suc fuel → Decided (Common IsValue t sure (Some p) None)
      lone p pt pm l = elim (kind (ctor_of p)) [
        | inl w ↦ (let x = wild_first IsValue t sure p None w in by_iff (Common IsValue t sure None None) (Common IsValue t sure (Some p) None) x.1 x.0 (value_decided t sure d))
        | inr (inl or) ↦ any p None pt tt or pm tt (omega (arith, l))
        | inr (inr s) ↦ pieces p None pt tt s tt (λ e. cc) pm tt (omega (arith, l))
      ]

      pair : (p q : MDePat T) → IsTyped cx t p → IsTyped cx t q → IsSharp (ctor_of p) → IsMadePat p → IsMadePat q → pattern_size p + pattern_size q < suc fuel →
          Decided (Common IsValue t sure (Some p) (Some q))
      pair p q pt qt s pm qm l = elim (kind (ctor_of q)) [
        | inl w ↦ (let x = wild_second IsValue t sure (Some p) q w in by_iff (Common IsValue t sure (Some p) None) (Common IsValue t sure (Some p) (Some q)) x.0 x.1 (lone p pt pm (omega (arith, l))))
        | inr (inl or) ↦ turn (Some q) (Some p) (any q (Some p) qt pt or qm pm (omega (arith, l)))
        | inr (inr r) ↦ pieces p (Some q) pt qt s r (sharp_not_or (ctor_of q) r) pm qm l
      ]

      one : (p : MDePat T) (g : Head T) → IsTyped cx t p → IsHeadTyped cx t g → IsMadePat p → IsMadeHead g → pattern_size p + head_size g < suc fuel →
          Decided (Common IsValue t sure (Some p) g)
      one p None pt gt pm gm l = lone p pt pm (omega (arith, l))
      one p (Some q) pt gt pm gm l = elim (kind (ctor_of p)) [
        | inl w ↦ (let x = wild_first IsValue t sure p (Some q) w in
            by_iff (Common IsValue t sure None (Some q)) (Common IsValue t sure (Some p) (Some q)) x.1 x.0 (turn (Some q) None (lone q gt gm (omega (arith, l)))))
        | inr (inl or) ↦ any p (Some q) pt gt or pm gm l
        | inr (inr s) ↦ pair p q pt gt s pm gm l
      ]

      heads : (h g : Head T) → IsHeadTyped cx t h → IsHeadTyped cx t g → IsMadeHead h → IsMadeHead g → head_size h + head_size g < suc fuel →
          Decided (Common IsValue t sure h g)
      heads None None ht gt hm gm l = value_decided t sure d
      heads None (Some q) ht gt hm gm l = turn (Some q) None (lone q gt gm (omega (arith, l)))
      heads (Some p) g ht gt hm gm l = one p g ht gt hm gm l

  -- whether two patterns have a common value
  pub common_decided : (fuel : ℕ) → Smaller fuel
  common_decided zero t sure h g d ht gt hm gm l = absurd (omega (arith, l))
  common_decided (suc fuel) t sure h g d ht gt hm gm l = common_step fuel (common_decided fuel) t sure h g d ht gt hm gm l

  -- ---- along two paths

  -- meetings along shorter paths are decided
  abbrev Shorter : ℕ → Type 0
  Shorter n = (t : T) (sure : Bool) (p : MDePat T) (path : List ℕ) (q : MDePat T) (other : List ℕ) → IsType t → IsTyped cx t p → IsTyped cx t q →
      IsMadePat p → IsMadePat q → Touching p path q other → length path + length other < n → Decided (MeetTogether IsValue t sure p path q other)

  -- one step: from shorter paths to those of one more
  meet_step : (fuel : ℕ) → Shorter fuel → Shorter (suc fuel)
  meet_step fuel shorter t sure p path q other d pt qt pm qm x l = elim (kind (ctor_of p)) [
    | inl w ↦ absurd (subst IsSharp w (first_sharp cx t p path q other pt x (λ (e : ctor_of p ≡ OrCtor). wild_or (sym w ∙ e))))
    | inr (inl or) ↦ through_first path or x l
    | inr (inr s) ↦ elim (kind (ctor_of q)) [
      | inl w ↦ absurd (subst IsSharp w (second_sharp cx t p path q other qt x (λ (e : ctor_of q ≡ OrCtor). wild_or (sym w ∙ e))))
      | inr (inl or) ↦ through_second other or x l
      | inr (inr r) ↦ both_sharp s r path other x l
    ]
  ]
    where
      wild_or : WildCtor ≡ OrCtor → ⊥
      wild_or e = cc

      through_first : (path : List ℕ) → ctor_of p ≡ OrCtor → Touching p path q other → length path + length other < suc fuel → Decided (MeetTogether IsValue t sure p path q other)
      through_first [] or x l = absurd (first_goes p q other or x)
      through_first (i ∷ rest) or x l =
          let s = first_step p i rest q other x in
          by_iff (MeetTogether IsValue t sure s.sub rest q other) (MeetTogether IsValue t sure p (i ∷ rest) q other)
          (first_or_back IsValue t sure p i rest q other s.sub or s.there) (first_or_forth IsValue t sure p i rest q other s.sub or s.there)
          (shorter t sure s.sub rest q other d (typed_or cx t p pt or i s.sub s.there) qt (sub_made p i s.sub s.there pm) qm
          (touch_first p i rest q other s.sub s.there x) (let m : suc (length rest) + length other < suc fuel = l in omega (arith, m)))

      through_second : (other : List ℕ) → ctor_of q ≡ OrCtor → Touching p path q other → length path + length other < suc fuel → Decided (MeetTogether IsValue t sure p path q other)
      through_second [] or x l = absurd (second_goes p path q or x)
      through_second (j ∷ behind) or x l =
          let s = second_step p path q j behind x in
          by_iff (MeetTogether IsValue t sure p path s.sub behind) (MeetTogether IsValue t sure p path q (j ∷ behind))
          (second_or_back IsValue t sure p path q j behind s.sub or s.there) (second_or_forth IsValue t sure p path q j behind s.sub or s.there)
          (shorter t sure p path s.sub behind d pt (typed_or cx t q qt or j s.sub s.there) pm (sub_made q j s.sub s.there qm)
          (touch_second p path q j behind s.sub s.there x) (let m : length path + suc (length behind) < suc fuel = l in omega (arith, m)))

      both_sharp : IsSharp (ctor_of p) → IsSharp (ctor_of q) → (path other : List ℕ) → Touching p path q other → length path + length other < suc fuel →
          Decided (MeetTogether IsValue t sure p path q other)
      both_sharp s r [] [] x l = inl (end_meets IsType IsValue cx values parts t sure p q d pt qt (made_forward p pm) (made_forward q qm) x)
      both_sharp s r (i ∷ rest) [] x l = inr (λ m. first_goes_on IsType IsValue cx values parts t sure p i rest q d pt s m)
      both_sharp s r [] (j ∷ behind) x l = inr (λ m. second_goes_on IsType IsValue cx values parts t sure p q j behind d qt r m)
      both_sharp s r (i ∷ rest) (j ∷ behind) x l =
          let a = first_step p i rest q (j ∷ behind) x in
          let b = second_step p (i ∷ rest) q j behind x in
          let il = first_within p i rest q (j ∷ behind) x in
          let jl = second_within p (i ∷ rest) q j behind x in
          go a.sub b.sub a.there b.there il jl
          (pieces_decided t sure (Some (i, j)) p (Some q) d pt qt s r (il, jl) pm qm
          (λ u sure h g ud ht gt hm gm m. common_decided (pattern_size p + pattern_size q) u sure h g ud ht gt hm gm m))
        where
          go : (a b : MDePat T) → slice_get (subs_of p) i ≡ Some a → slice_get (subs_of q) j ≡ Some b → i < length (subs_of p) → j < length (subs_of q) →
              Decided (PiecesMeet IsValue cx t sure (Some p) (Some q) (Some (i, j))) → Decided (MeetTogether IsValue t sure p (i ∷ rest) q (j ∷ behind))
          go a b ia jb il jl (inr none) = inr (λ m. none (steps_forth IsType IsValue cx values parts t sure p i rest q j behind a b d pt qt s r ia jb m).pieces)
          go a b ia jb il jl (inl pieces) =
              let y = typed_sharp cx t p pt s in
              let z = typed_sharp cx t q qt r in
              by_iff (MeetTogether IsValue (cx.sub (ctor_of p) t i) (sure_inside (ctor_of p) sure) a rest b behind) (MeetTogether IsValue t sure p (i ∷ rest) q (j ∷ behind))
              (λ m. steps_back IsType IsValue cx values parts t sure p i rest q j behind a b d pt qt s r ia jb (record { pieces = pieces; below = m }))
              (λ m. (steps_forth IsType IsValue cx values parts t sure p i rest q j behind a b d pt qt s r ia jb m).below)
              (shorter (cx.sub (ctor_of p) t i) (sure_inside (ctor_of p) sure) a rest b behind
              (part_is_type IsType IsValue cx parts t (ctor_of p) i d y.belongs (omega (arith, il, y.count)))
              (y.subs i a ia)
              (subst (λ u. IsTyped cx u b) (same_part IsType IsValue cx values parts t sure p q i j d pt qt s r il jl pieces) (z.subs j b jb))
              (sub_made p i a ia pm) (sub_made q j b jb qm)
              (touch_second a rest q j behind b jb (touch_first p i rest q (j ∷ behind) a ia x))
              (let m : suc (length rest) + suc (length behind) < suc fuel = l in omega (arith, m)))

  -- whether two patterns meet along their paths
  pub meet_decided : (fuel : ℕ) → Shorter fuel
  meet_decided zero t sure p path q other d pt qt pm qm x l = absurd (omega (arith, l))
  meet_decided (suc fuel) t sure p path q other d pt qt pm qm x l = meet_step fuel (meet_decided fuel) t sure p path q other d pt qt pm qm x l

  -- the same as an answer
  pub along_decided : (t : T) (sure : Bool) (p : MDePat T) (path : List ℕ) (q : MDePat T) (other : List ℕ) → IsType t → IsTyped cx t p → IsTyped cx t q →
      IsMadePat p → IsMadePat q → Touching p path q other → (b : Bool) × Tells b (MeetTogether IsValue t sure p path q other)
  along_decided t sure p path q other d pt qt pm qm x =
      go (meet_decided (suc (length path + length other)) t sure p path q other d pt qt pm qm x (omega arith))
    where
      go : Decided (MeetTogether IsValue t sure p path q other) → (b : Bool) × Tells b (MeetTogether IsValue t sure p path q other)
      go (inl m) = (true, m)
      go (inr n) = (false, n)
