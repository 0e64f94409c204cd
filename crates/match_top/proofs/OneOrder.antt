-- Witnesses stand in the order of arms in one way.
use Rattle.std.proofs.Common.{◌≡◌, ◌∙◌, inl, inr, ℕ, ◌+◌, ℤ, Bool, true, false, ◌&&◌, List, [], ◌∷◌, length, nat_eq, nat_lt, int_eq, int_lt, refl, sym, ap, subst, arith}
use Rattle.std.proofs.lemmas.Bool.Decides.{nat_tests}
use Rattle.std.proofs.lemmas.Int.{ints}
use Rattle.std.proofs.lemmas.Cmp.{nat_list_cmp_total}
use Rattle.std.specs.Cmp.Lexicographic.{pointwise}
use Rattle.std.specs.Ordering.{ordering_reverse, is_lt}
use Rattle.std.specs.declared.cmp.Ordering.{Ordering}
use Rattle.std.specs.declared.cmp.Ordering.TheVariants.{Less, Equal, Greater}
use mathlib.Core.Bool.{beq}
use Rattle.arm_maker.specs.Order.{is_late, compare_late, compare_arm, compare_parts, compare_items, ArmFirst, AreInArmOrder}
use Rattle.match_model.specs.Declarations.{MProgram, node_types}
use Rattle.match_model.specs.Lists.{Every, Ordered, Among}
use Rattle.match_model.specs.Numbers.{MEnd, Free, At, MRange}
use Rattle.match_model.specs.RustTypes.{inner_type}
use Rattle.match_model.specs.Texts.{text_eq, compare_texts}
use Rattle.match_model.specs.Types.{MType}
use Rattle.match_model.specs.Witness.{MWitness, AnyOf, LaterOf, FlagOf, SpanOf, TextOf, ElseOf, NodeOf, PointOf, RowOf, MWitnesses, no_witnesses, more_witnesses, witnesses_list}
use Rattle.match_model.specs.WitnessOrder.{Compared, Same, Before, NotBefore, and_then, compared, compare_nat, compare_text, compare_low, compare_high, compare_range, compare_shape}
use Rattle.match_model.proofs.Basics.{untrue, both, and_true, flag_equal, flag_itself, int_equal, int_itself, nat_equal, nat_itself, text_equal, text_itself}
use Rattle.witness_names.specs.Named.{types_there}

-- what the other way round says
abbrev IsTurned : Compared → Compared → Type 0
IsTurned Same c = c ≡ Same
IsTurned Before c = c ≡ NotBefore
IsTurned NotBefore c = Unit {0}

turned_then : (a b c d : Compared) → IsTurned a c → (a ≡ Same → IsTurned b d) → IsTurned (and_then a b) (and_then c d)
turned_then Same b c d h k = subst (λ x. IsTurned b (and_then x d)) (sym h) (k refl)
turned_then Before b c d h k = ap (λ x. and_then x d) h
turned_then NotBefore b c d h k = tt

-- a comparison by a test of equality and one of order
turned_by : (same before other back : Bool) → (same ≡ true → other ≡ true) → (same ≡ false → before ≡ true → (other ≡ false) × (back ≡ false)) → IsTurned (compared same before) (compared other back)
turned_by true before other back h k = ap (λ b. compared b back) (h refl)
turned_by false true other back h k =
    let r = k refl refl in
    ap (λ b. compared b back) r.0 ∙ ap (λ b. compared false b) r.1
turned_by false false other back h k = tt

nat_turned : (a b : ℕ) → IsTurned (compare_nat a b) (compare_nat b a)
nat_turned a b = turned_by (nat_eq a b) (nat_lt a b) (nat_eq b a) (nat_lt b a) (λ e. same a b e) (λ e l. (other a b l, back a b l))
  where
    same : (a b : ℕ) → nat_eq a b ≡ true → nat_eq b a ≡ true
    same a b e = grind (arith, nat_tests)

    other : (a b : ℕ) → nat_lt a b ≡ true → nat_eq b a ≡ false
    other a b l = grind (arith, nat_tests)

    back : (a b : ℕ) → nat_lt a b ≡ true → nat_lt b a ≡ false
    back a b l = grind (arith, nat_tests)

int_turned : (a b : ℤ) → IsTurned (compared (int_eq a b) (int_lt a b)) (compared (int_eq b a) (int_lt b a))
int_turned a b = turned_by (int_eq a b) (int_lt a b) (int_eq b a) (int_lt b a) (λ e. same a b e) (λ e l. (other a b l, back a b l))
  where
    same : (a b : ℤ) → int_eq a b ≡ true → int_eq b a ≡ true
    same a b e = subst (λ x. int_eq x a ≡ true) (int_equal a b e) (int_itself a)

    other : (a b : ℤ) → int_lt a b ≡ true → int_eq b a ≡ false
    other a b l = grind (arith, ints)

    back : (a b : ℤ) → int_lt a b ≡ true → int_lt b a ≡ false
    back a b l = grind (arith, ints)

text_turned : (a b : List ℕ) → IsTurned (compare_text a b) (compare_text b a)
text_turned a b =
    turned_by (text_eq a b) (is_lt (compare_texts a b)) (text_eq b a) (is_lt (compare_texts b a)) (λ e. same e)
    (λ e l. (other (text_eq b a) refl e, ap is_lt (nat_list_cmp_total.antisymm b a) ∙ back (compare_texts a b) l))
  where
    same : text_eq a b ≡ true → text_eq b a ≡ true
    same e = subst (λ x. text_eq x a ≡ true) (text_equal a b e) (text_itself a)

    other : (s : Bool) → text_eq b a ≡ s → text_eq a b ≡ false → s ≡ false
    other false e h = refl
    other true e h = untrue (sym h ∙ subst (λ x. text_eq x b ≡ true) (text_equal b a e) (text_itself b))

    back : (o : Ordering) → is_lt o ≡ true → is_lt (ordering_reverse o) ≡ false
    back Less l = refl
    back Equal l = untrue l
    back Greater l = untrue l

low_turned : (a b : MEnd) → IsTurned (compare_low a b) (compare_low b a)
low_turned Free Free = refl
low_turned Free (At b) = refl
low_turned (At a) Free = tt
low_turned (At a) (At b) = int_turned a b

high_turned : (a b : MEnd) → IsTurned (compare_high a b) (compare_high b a)
high_turned Free Free = refl
high_turned Free (At b) = tt
high_turned (At a) Free = refl
high_turned (At a) (At b) = int_turned a b

range_turned : (r s : MRange) → IsTurned (compare_range r s) (compare_range s r)
range_turned r s =
    turned_then (compare_low r.low s.low) (compare_high r.high s.high) (compare_low s.low r.low) (compare_high s.high r.high) (low_turned r.low s.low) (λ e. high_turned r.high s.high)

late_turned : (late later : Bool) (a c : Compared) → IsTurned a c → IsTurned (compare_late late later a) (compare_late later late c)
late_turned false true a c h = refl
late_turned true false a c h = tt
late_turned true true a c h = h
late_turned false false a c h = h

-- shapes of one least length stand in no order
shape_turned : (f : ℕ) (longer : Bool) (b g : ℕ) (wider : Bool) (c : ℕ) → IsTurned (compare_shape f longer b g wider c) (compare_shape g wider c f longer b)
shape_turned f longer b g wider c =
    turned_then (compare_nat (f + b) (g + c)) (compared (nat_eq f g && beq longer wider) false) (compare_nat (g + c) (f + b)) (compared (nat_eq g f && beq wider longer) false) (nat_turned (f + b) (g + c))
    (λ e. turned_by (nat_eq f g && beq longer wider) false (nat_eq g f && beq wider longer) false
    (λ h. let s = both (nat_eq f g) (beq longer wider) h in
    and_true (nat_eq g f) (beq wider longer) (subst (λ x. nat_eq x f ≡ true) (nat_equal f g s.0) (nat_itself f)) (subst (λ x. beq x longer ≡ true) (flag_equal longer wider s.1) (flag_itself longer)))
    (λ h l. untrue l))

texts_turned : (ts us : List (List ℕ)) → pointwise text_eq ts us ≡ true → pointwise text_eq us ts ≡ true
texts_turned [] [] h = refl
texts_turned [] (u ∷ us) h = untrue h
texts_turned (t ∷ ts) [] h = untrue h
texts_turned (t ∷ ts) (u ∷ us) h =
    let s = both (text_eq t u) (pointwise text_eq ts us) h in
    and_true (text_eq u t) (pointwise text_eq us ts) (subst (λ x. text_eq x t ≡ true) (text_equal t u s.0) (text_itself t)) (texts_turned ts us s.1)

-- a variant that is the same
nat_is : (a b : ℕ) → compare_nat a b ≡ Same → a ≡ b
nat_is a b e = by (nat_eq a b) (nat_lt a b) refl e
  where
    by : (same before : Bool) → nat_eq a b ≡ same → compared same before ≡ Same → a ≡ b
    by true before h e = nat_equal a b h
    by false true h e = absurd (differ e)
      where
        differ : Before ≡ Same → ⊥
        differ e = cc
    by false false h e = absurd (differ e)
      where
        differ : NotBefore ≡ Same → ⊥
        differ e = cc

mutual
  arm_turned : (program : MProgram) (t : MType) (w u : MWitness) → IsTurned (compare_arm program t w u) (compare_arm program t u w)
  arm_turned program t AnyOf AnyOf = refl
  arm_turned program t AnyOf _ = tt
  arm_turned program t LaterOf LaterOf = refl
  arm_turned program t LaterOf _ = tt
  arm_turned program t (FlagOf false) (FlagOf true) = refl
  arm_turned program t (FlagOf true) (FlagOf false) = tt
  arm_turned program t (FlagOf false) (FlagOf false) = refl
  arm_turned program t (FlagOf true) (FlagOf true) = refl
  arm_turned program t (FlagOf a) _ = tt
  arm_turned program t (SpanOf r) (SpanOf s) = late_turned (is_late t r) (is_late t s) (compare_range r s) (compare_range s r) (range_turned r s)
  arm_turned program t (SpanOf r) _ = tt
  arm_turned program t (TextOf a) (TextOf b) = text_turned a b
  arm_turned program t (TextOf a) (ElseOf us) = refl
  arm_turned program t (TextOf a) _ = tt
  arm_turned program t (ElseOf ts) (ElseOf us) = turned_by (pointwise text_eq ts us) false (pointwise text_eq us ts) false (texts_turned ts us) (λ h l. untrue l)
  arm_turned program t (ElseOf ts) _ = tt
  arm_turned program t (NodeOf k ws) LaterOf = refl
  arm_turned program t (NodeOf k ws) (NodeOf j us) =
      turned_then (compare_nat k j) (compare_parts program (types_there (node_types program t k)) ws us) (compare_nat j k) (compare_parts program (types_there (node_types program t j)) us ws) (nat_turned k j)
      (λ e. subst (λ (i : ℕ). IsTurned (compare_parts program (types_there (node_types program t k)) ws us) (compare_parts program (types_there (node_types program t i)) us ws)) (nat_is k j e)
      (parts_turned program (types_there (node_types program t k)) ws us))
  arm_turned program t (NodeOf k ws) _ = tt
  arm_turned program t (PointOf w) (PointOf u) = arm_turned program (inner_type t) w u
  arm_turned program t (PointOf w) _ = tt
  arm_turned program t (RowOf f longer b) (RowOf g wider c) =
      turned_then
      (compare_shape (length (witnesses_list f)) longer (length (witnesses_list b)) (length (witnesses_list g)) wider (length (witnesses_list c)))
      (and_then (compare_items program (inner_type t) f g) (compare_items program (inner_type t) b c))
      (compare_shape (length (witnesses_list g)) wider (length (witnesses_list c)) (length (witnesses_list f)) longer (length (witnesses_list b)))
      (and_then (compare_items program (inner_type t) g f) (compare_items program (inner_type t) c b))
      (shape_turned (length (witnesses_list f)) longer (length (witnesses_list b)) (length (witnesses_list g)) wider (length (witnesses_list c)))
      (λ e. turned_then (compare_items program (inner_type t) f g) (compare_items program (inner_type t) b c) (compare_items program (inner_type t) g f) (compare_items program (inner_type t) c b)
      (items_turned program (inner_type t) f g) (λ e. items_turned program (inner_type t) b c))
  arm_turned program t (RowOf f longer b) _ = tt

  parts_turned : (program : MProgram) (ts : List MType) (ws us : MWitnesses) → IsTurned (compare_parts program ts ws us) (compare_parts program ts us ws)
  parts_turned program [] ws us = refl
  parts_turned program (t ∷ ts) no_witnesses no_witnesses = refl
  parts_turned program (t ∷ ts) no_witnesses (more_witnesses u us) = refl
  parts_turned program (t ∷ ts) (more_witnesses w ws) no_witnesses = refl
  parts_turned program (t ∷ ts) (more_witnesses w ws) (more_witnesses u us) =
      turned_then (compare_arm program t w u) (compare_parts program ts ws us) (compare_arm program t u w) (compare_parts program ts us ws) (arm_turned program t w u) (λ e. parts_turned program ts ws us)

  items_turned : (program : MProgram) (t : MType) (ws us : MWitnesses) → IsTurned (compare_items program t ws us) (compare_items program t us ws)
  items_turned program t no_witnesses no_witnesses = refl
  items_turned program t no_witnesses (more_witnesses u us) = refl
  items_turned program t (more_witnesses w ws) no_witnesses = refl
  items_turned program t (more_witnesses w ws) (more_witnesses u us) =
      turned_then (compare_arm program t w u) (compare_items program t ws us) (compare_arm program t u w) (compare_items program t us ws) (arm_turned program t w u) (λ e. items_turned program t ws us)

-- no two witnesses stand before one another
pub never_both : (program : MProgram) (t : MType) (w u : MWitness) → ArmFirst program t w u → ArmFirst program t u w → ⊥
never_both program t w u h k = differ (sym k ∙ subst (λ c. IsTurned c (compare_arm program t u w)) h (arm_turned program t w u))
  where
    differ : Before ≡ NotBefore → ⊥
    differ e = cc

-- ---- lists in a strict order that have the same members are one list

module _ {A : Type 0} (R : A → A → Type 0) (never : (x y : A) → R x y → R y x → ⊥) where
  after : (x y : A) (ys : List A) → Every (R x) ys → Among y ys → R x y
  after x y [] h a = absurd a
  after x y (z ∷ ys) h (inl e) = subst (R x) (sym e) h.0
  after x y (z ∷ ys) h (inr a) = after x y ys h.1 a

  same_first : (x y : A) (xs ys : List A) → Every (R x) xs → Every (R y) ys → Among x (y ∷ ys) → Among y (x ∷ xs) → x ≡ y
  same_first x y xs ys h k (inl e) b = e
  same_first x y xs ys h k (inr a) (inl e) = sym e
  same_first x y xs ys h k (inr a) (inr b) = absurd (never x y (after x y xs h b) (after y x ys k a))

  -- one that stands behind is not the first
  later : (x : A) (xs : List A) (y : A) → Every (R x) xs → Among y xs → y ≡ x → ⊥
  later x xs y h a e = let r = after x y xs h a in never x y r (subst (λ z. R y z) e (subst (λ z. R z y) (sym e) r))

  forth_rest : (x : A) (xs ys : List A) → Every (R x) xs → ((z : A) → Among z (x ∷ xs) → Among z (x ∷ ys)) → (z : A) → Among z xs → Among z ys
  forth_rest x xs ys h forth z a = by (forth z (inr a))
    where
      by : Among z (x ∷ ys) → Among z ys
      by (inl e) = absurd (later x xs z h a e)
      by (inr b) = b

  one_list : (xs ys : List A) → Ordered R xs → Ordered R ys → ((z : A) → Among z xs → Among z ys) → ((z : A) → Among z ys → Among z xs) → xs ≡ ys
  one_list [] [] h k forth back = refl
  one_list [] (y ∷ ys) h k forth back = absurd (back y (inl refl))
  one_list (x ∷ xs) [] h k forth back = absurd (forth x (inl refl))
  one_list (x ∷ xs) (y ∷ ys) h k forth back =
      let same : x ≡ y = same_first x y xs ys h.0 k.0 (forth x (inl refl)) (back y (inl refl)) in
      let there : Every (R x) ys = subst (λ z. Every (R z) ys) (sym same) k.0 in
      let rests : xs ≡ ys =
      one_list xs ys h.1 k.1 (forth_rest x xs ys h.0 (λ z a. subst (λ v. Among z (v ∷ ys)) (sym same) (forth z a)))
      (forth_rest x ys xs there (λ z a. back z (subst (λ v. Among z (v ∷ ys)) same a))) in
      ap (λ v. v ∷ xs) same ∙ ap (λ vs. y ∷ vs) rests

-- witnesses have one order of arms
pub one_order : (program : MProgram) (t : MType) (ws xs ys : List MWitness) → AreInArmOrder program t ws xs → AreInArmOrder program t ws ys → xs ≡ ys
one_order program t ws xs ys a b =
    one_list (ArmFirst program t) (never_both program t) xs ys a.ordered b.ordered (λ w in_xs. b.same.forth w (a.same.back w in_xs)) (λ w in_ys. a.same.forth w (b.same.back w in_ys))
