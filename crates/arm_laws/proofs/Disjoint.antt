-- Two pieces of a column build no value in common, and their witnesses are told apart.
use Rattle.std.proofs.Common.{◌≡◌, ◌<◌, inl, inr, ℕ, ◌+◌, ℤ, Bool, true, false, not, ◌&&◌, ◌||◌, List, [], ◌∷◌}
use Rattle.std.proofs.Common.{◌++◌, map, take, drop, length, nat_eq, nat_lt, Option, Some, None, refl, sym, ap}
use Rattle.std.proofs.Common.{subst, ◌∙◌, arith, length-take-le, length-drop}
use Rattle.std.specs.List.{list_any, filter_map}
use Rattle.std.proofs.lemmas.Int.{ints}
use Rattle.match_model.specs.Types.{MType}
use mathlib.Core.Bool.{beq}
use Rattle.match_model.specs.Declarations.{MProgram, node_types}
use Rattle.std.specs.Prelude.{int_lt}
use Rattle.std.specs.Ordering.{is_lt, int_eq}
use Rattle.match_model.specs.Texts.{text_eq, compare_texts}
use Rattle.match_model.specs.Numbers.{MEnd, Free, At, MRange, in_range, closed}
use Rattle.match_model.specs.Values.{MValue, Flag, Num, Text, Node, Row, values_list}
use Rattle.match_model.specs.Constructors.{FixedShape, LongerShape, MShape, MCtor, LaterCtor, OtherTextCtor}
use Rattle.match_model.specs.Constructors.{VariantCtor, FlagCtor, NumbersCtor, TextCtor, RowCtor, MSet, NumberSet}
use Rattle.match_model.specs.Constructors.{RowSet, OneNumber, OneLength, builds, belongs, in_second, least_length}
use Rattle.match_model.specs.ContextLaws.{RangesAscend}
use Rattle.match_model.specs.Lists.{Among}
use Rattle.match_model.specs.Pieces.{ArePieces, IsCutToo, range_of}
use Rattle.match_model.specs.RustTypes.{inner_type}
use Rattle.match_model.specs.Witness.{MWitness, no_witnesses, witnesses_of, witnesses_list}
use Rattle.match_model.specs.WitnessList.{witness_of, named_in}
use Rattle.match_model.specs.WitnessOrder.{Compared, Same, Before, NotBefore, and_then, compared, compare_nat}
use Rattle.match_model.specs.WitnessOrder.{compare_low, compare_high, compare_range, compare_text, compare_shape}
use Rattle.match_model.proofs.Basics.{untrue, nat_equal, int_equal, int_itself, text_equal, text_itself}
use Rattle.match_model.proofs.Basics.{or_left, or_right, nat_itself}
use Rattle.range_split.proofs.Following.{Follow-together}
use Rattle.constructor_sets.specs.InOrder.{IsEarlier, IsBeforeEach, AreInOrder}
use Rattle.constructor_sets.proofs.Once.{once_by}
use Rattle.witness_names.specs.Named.{types_there}
use Rattle.arm_maker.specs.Order.{is_late, compare_late, compare_arm, compare_items, compare_parts}
use Rattle.arm_laws.specs.Parted.{StandsBefore, first, later}
use Rattle.arm_laws.proofs.Apart.{RowHas, is_proper, not_both, list_back}

-- ---- the pieces stand in order

each_earlier : (p q : MCtor) (rest : List MCtor) → IsBeforeEach p rest → Among q rest → IsEarlier p q
each_earlier p q [] h a = absurd a
each_earlier p q (c ∷ rest) h (inl e) = subst (λ d. IsEarlier p d) (sym e) h.0
each_earlier p q (c ∷ rest) h (inr a) = each_earlier p q rest h.1 a

pub earlier : (p q : MCtor) (pieces : List MCtor) → AreInOrder pieces → StandsBefore p q pieces → IsEarlier p q
earlier p q pieces h (first rest a) = each_earlier p q rest h.0 a
earlier p q pieces h (later c rest s) = earlier p q rest h.1 s

-- both have constructors of pieces
pub both_proper : (p q : MCtor) → IsEarlier p q → (is_proper p ≡ true) × (is_proper q ≡ true)
both_proper (FlagCtor false) (FlagCtor true) h = (refl, refl)
both_proper (VariantCtor j) (VariantCtor k) h = (refl, refl)
both_proper (VariantCtor j) LaterCtor h = (refl, refl)
both_proper (NumbersCtor r) (NumbersCtor s) h = (refl, refl)
both_proper (TextCtor t) (TextCtor u) h = (refl, refl)
both_proper (TextCtor t) OtherTextCtor h = (refl, refl)
both_proper (RowCtor s) (RowCtor r) h = (refl, refl)
both_proper _ _ h = absurd h

first_among : (p q : MCtor) (pieces : List MCtor) → StandsBefore p q pieces → Among p pieces
first_among p q pieces (first rest a) = inl refl
first_among p q pieces (later c rest s) = inr (first_among p q rest s)

-- ---- no value in common

no_flag : (v : MValue) (named : List (List ℕ)) → builds named (FlagCtor false) v ≡ true →
    builds named (FlagCtor true) v ≡ true → ⊥
no_flag (Flag true) named a b = untrue a
no_flag (Flag false) named a b = untrue b
no_flag _ named a b = untrue a

no_variant : (v : MValue) (named : List (List ℕ)) (j k : ℕ) → j < k → builds named (VariantCtor j) v ≡ true →
    builds named (VariantCtor k) v ≡ true → ⊥
no_variant (Node i parts) named j k l a b =
    let e = nat_equal i j a in
    let f = nat_equal i k b in
    omega (arith, e, f, l)
no_variant _ named j k l a b = untrue a

no_later : (v : MValue) (named : List (List ℕ)) (j : ℕ) → builds named (VariantCtor j) v ≡ true →
    builds named LaterCtor v ≡ true → ⊥
no_later (Node i parts) named j a b = untrue b
no_later _ named j a b = untrue a

not_same : Same ≡ Before → ⊥
not_same e = cc

no_text : (v : MValue) (named : List (List ℕ)) (t u : List ℕ) → compare_text t u ≡ Before →
    builds named (TextCtor t) v ≡ true → builds named (TextCtor u) v ≡ true → ⊥
no_text (Text x) named t u l a b =
    let same : t ≡ u = text_equal t x a ∙ sym (text_equal u x b) in
    not_same (sym (ap (λ c. compared c (is_lt (compare_texts t u)))
    (subst (λ z. text_eq t z ≡ true) same (text_itself t))) ∙ l)
no_text _ named t u l a b = untrue a

-- a text of a piece is among the named ones
named_among : (t : List ℕ) (pieces : List MCtor) → Among (TextCtor t) pieces →
    list_any (text_eq t) (named_in pieces) ≡ true
named_among t [] a = absurd a
named_among t (c ∷ pieces) (inl e) =
    subst (λ d. list_any (text_eq t) (named_in (d ∷ pieces)) ≡ true) e
    (or_left (text_eq t t) (list_any (text_eq t) (named_in pieces)) (text_itself t))
named_among t (c ∷ pieces) (inr a) = go c (named_among t pieces a)
  where
    go : (c : MCtor) → list_any (text_eq t) (named_in pieces) ≡ true →
        list_any (text_eq t) (named_in (c ∷ pieces)) ≡ true
    go (TextCtor u) h = or_right (text_eq t u) (list_any (text_eq t) (named_in pieces)) h
    go _ h = h

no_other : (v : MValue) (pieces : List MCtor) (t : List ℕ) → Among (TextCtor t) pieces →
    builds (named_in pieces) (TextCtor t) v ≡ true → builds (named_in pieces) OtherTextCtor v ≡ true → ⊥
no_other (Text x) pieces t h a b =
    untrue (sym (ap not (subst (λ z. list_any (text_eq z) (named_in pieces) ≡ true) (text_equal t x a)
    (named_among t pieces h))) ∙ b)
no_other _ pieces t h a b = untrue a

-- a number of a piece is one of the set
range_among : (r : MRange) (z : ℤ) (ps : List MRange) → Among (NumbersCtor r) (map NumbersCtor ps) →
    in_range r z ≡ true → list_any (λ p. in_range p z) ps ≡ true
range_among r z [] a h = absurd a
range_among r z (p ∷ ps) (inl e) h =
    let same : r ≡ p = cc in
    or_left (in_range p z) (list_any (λ q. in_range q z) ps) (subst (λ q. in_range q z ≡ true) same h)
range_among r z (p ∷ ps) (inr a) h =
    or_right (in_range p z) (list_any (λ q. in_range q z) ps) (range_among r z ps a h)

any_append : (z : ℤ) (ps qs : List MRange) → list_any (λ p. in_range p z) (ps ++ qs) ≡ true →
    (list_any (λ p. in_range p z) ps || list_any (λ p. in_range p z) qs) ≡ true
any_append z [] qs h = h
any_append z (p ∷ ps) qs h = go (in_range p z) h (any_append z ps qs)
  where
    go : (b : Bool) → (b || list_any (λ p. in_range p z) (ps ++ qs)) ≡ true →
        (list_any (λ p. in_range p z) (ps ++ qs) ≡ true → (list_any (λ p. in_range p z) ps || list_any
        (λ p. in_range p z) qs) ≡ true) →
        ((b || list_any (λ p. in_range p z) ps) || list_any (λ p. in_range p z) qs) ≡ true
    go true h f = refl
    go false h f = f h

second_together : (second : Option MRange) (heads qs : List MRange) (z : ℤ) → IsCutToo second heads qs →
    list_any (λ p. in_range p z) qs ≡ in_second second z
second_together None heads qs z e = ap (list_any (λ p. in_range p z)) e
second_together (Some r) heads qs z c = Follow-together c.together z

one_number : (z : ℤ) → in_range (closed z z) z ≡ true
one_number z = grind (arith, ints)

one_length : (n : ℕ) → nat_eq n n ≡ true
one_length n = nat_itself n

no_number : (v : MValue) (set : MSet) (heads pieces : List MCtor) (r s : MRange) → RangesAscend set →
    ArePieces set heads pieces → belongs set (NumbersCtor r) ≡ true →
    StandsBefore (NumbersCtor r) (NumbersCtor s) pieces → builds (named_in pieces) (NumbersCtor r) v ≡ true →
    builds (named_in pieces) (NumbersCtor s) v ≡ true → ⊥
no_number (Num z) (NumberSet f o) heads pieces r s asc (ps, qs, c, d, e) b k x y =
    let among : Among (NumbersCtor r) (map NumbersCtor (ps ++ qs)) =
    subst (λ xs. Among (NumbersCtor r) xs) e (first_among (NumbersCtor r) (NumbersCtor s) pieces k) in
    let of_set : (in_range f z || in_second o z) ≡ true =
    subst (λ t. (t || in_second o z) ≡ true) (Follow-together c.together z)
    (subst (λ t. (list_any (λ p. in_range p z) ps || t) ≡ true) (second_together o (filter_map range_of heads) qs z d)
    (any_append z ps qs (range_among r z (ps ++ qs) among x))) in
    not_both (named_in pieces) (NumbersCtor r) (NumbersCtor s) pieces (Num z) k
    (once_by (NumberSet f o) heads pieces asc (ps, qs, c, d, e) (Num z) (OneNumber z) of_set (one_number z)) x y
no_number (Num z) _ heads pieces r s asc a b k x y = untrue b
no_number _ set heads pieces r s asc a b k x y = untrue x

no_pair : (p q c : MCtor) → StandsBefore p q (c ∷ []) → ⊥
no_pair p q c (first rest a) = a
no_pair p q c (later d rest s) = none s
  where
    none : StandsBefore p q [] → ⊥
    none s = elim s [ ]

no_row : (v : MValue) (set : MSet) (heads pieces : List MCtor) (r s : MShape) → RangesAscend set →
    ArePieces set heads pieces → belongs set (RowCtor r) ≡ true → StandsBefore (RowCtor r) (RowCtor s) pieces →
    builds (named_in pieces) (RowCtor r) v ≡ true → builds (named_in pieces) (RowCtor s) v ≡ true → ⊥
no_row (Row items) (RowSet None) heads pieces r s asc a b k x y =
    let n = length (values_list items) in
    not_both (named_in pieces) (RowCtor r) (RowCtor s) pieces (Row items) k
    (once_by (RowSet None) heads pieces asc a (Row items) (OneLength n) refl (one_length n)) x y
no_row (Row items) (RowSet (Some n)) heads pieces r s asc a b k x y =
    no_pair (RowCtor r) (RowCtor s) _ (subst (λ xs. StandsBefore (RowCtor r) (RowCtor s) xs) a k)
no_row (Row items) _ heads pieces r s asc a b k x y = untrue b
no_row _ set heads pieces r s asc a b k x y = untrue x

-- of two pieces one of which stands before the other none builds what the other builds
pub none_common : (set : MSet) (heads pieces : List MCtor) (p q : MCtor) → RangesAscend set →
    ArePieces set heads pieces → belongs set p ≡ true → StandsBefore p q pieces → IsEarlier p q → (v : MValue) →
    builds (named_in pieces) p v ≡ true → builds (named_in pieces) q v ≡ true → ⊥
none_common set heads pieces (FlagCtor false) (FlagCtor true) asc a b k l v x y = no_flag v (named_in pieces) x y
none_common set heads pieces (VariantCtor i) (VariantCtor j) asc a b k l v x y =
    no_variant v (named_in pieces) i j l x y
none_common set heads pieces (VariantCtor i) LaterCtor asc a b k l v x y = no_later v (named_in pieces) i x y
none_common set heads pieces (NumbersCtor r) (NumbersCtor s) asc a b k l v x y =
    no_number v set heads pieces r s asc a b k x y
none_common set heads pieces (TextCtor t) (TextCtor u) asc a b k l v x y = no_text v (named_in pieces) t u l x y
none_common set heads pieces (TextCtor t) OtherTextCtor asc a b k l v x y =
    no_other v pieces t (first_among (TextCtor t) OtherTextCtor pieces k) x y
none_common set heads pieces (RowCtor r) (RowCtor s) asc a b k l v x y = no_row v set heads pieces r s asc a b k x y
none_common set heads pieces _ _ asc a b k l v x y = absurd l

-- ---- told apart

then_same : (c d : Compared) → and_then c d ≡ Same → c ≡ Same
then_same Same d e = refl
then_same Before d e = absurd cc
then_same NotBefore d e = absurd cc

nat_told : (a b : ℕ) → compare_nat a b ≡ Same → a ≡ b
nat_told a b e = nat_equal a b (go (nat_eq a b) (nat_lt a b) e)
  where
    go : (s p : Bool) → compared s p ≡ Same → s ≡ true
    go true p e = refl
    go false true e = absurd cc
    go false false e = absurd cc

-- rows of different least lengths
shape_told : (f b g c : ℕ) (longer wider : Bool) (rest : Compared) → (f + b ≡ g + c → ⊥) →
    and_then (compare_shape f longer b g wider c) rest ≡ Same → ⊥
shape_told f b g c longer wider rest n e =
    n (nat_told (f + b) (g + c) (then_same (compare_nat (f + b) (g + c))
    (compared (nat_eq f g && beq longer wider) false) (then_same (compare_shape f longer b g wider c) rest e)))

-- how many items a row shows
abbrev shown : MShape → List MWitness → ℕ
shown (FixedShape n) ws = length (witnesses_list (witnesses_of ws)) + 0
shown (LongerShape f b) ws = length (witnesses_list (witnesses_of (take f ws))) + length
    (witnesses_list (witnesses_of (drop f ws)))

shown_is : (s : MShape) (ws : List MWitness) → length ws ≡ least_length s → shown s ws ≡ least_length s
shown_is (FixedShape n) ws l = let e = ap length (list_back ws) in omega (arith, e, l)
shown_is (LongerShape f b) ws l =
    let e = ap length (list_back (take f ws)) in
    let g = length-take-le f ws (omega (arith, l)) in
    let h = ap length (list_back (drop f ws)) in
    let d = length-drop f ws in
    omega (arith, e, g, h, d, l)

module _ (program : MProgram) (t : MType) (named : List (List ℕ)) where
  rows_told : (s r : MShape) (ws us : List MWitness) → length ws ≡ least_length s → length us ≡ least_length r →
      (least_length s ≡ least_length r → ⊥) →
      compare_arm program t (witness_of (RowCtor s) named ws) (witness_of (RowCtor r) named us) ≡ Same → ⊥
  rows_told (FixedShape n) (FixedShape m) ws us l k ne e =
      shape_told (length (witnesses_list (witnesses_of ws))) 0 (length (witnesses_list (witnesses_of us))) 0 false
      false
      (and_then (compare_items program (inner_type t) (witnesses_of ws) (witnesses_of us))
      (compare_items program (inner_type t) no_witnesses no_witnesses))
      (λ h. ne (sym (shown_is (FixedShape n) ws l) ∙ h ∙ shown_is (FixedShape m) us k)) e
  rows_told (FixedShape n) (LongerShape g c) ws us l k ne e =
      shape_told (length (witnesses_list (witnesses_of ws))) 0 (length (witnesses_list (witnesses_of (take g us))))
      (length (witnesses_list (witnesses_of (drop g us)))) false true
      (and_then (compare_items program (inner_type t) (witnesses_of ws) (witnesses_of (take g us)))
      (compare_items program (inner_type t) no_witnesses (witnesses_of (drop g us))))
      (λ h. ne (sym (shown_is (FixedShape n) ws l) ∙ h ∙ shown_is (LongerShape g c) us k)) e
  rows_told (LongerShape f b) (FixedShape m) ws us l k ne e =
      shape_told (length (witnesses_list (witnesses_of (take f ws))))
      (length (witnesses_list (witnesses_of (drop f ws)))) (length (witnesses_list (witnesses_of us))) 0 true false
      (and_then (compare_items program (inner_type t) (witnesses_of (take f ws)) (witnesses_of us))
      (compare_items program (inner_type t) (witnesses_of (drop f ws)) no_witnesses))
      (λ h. ne (sym (shown_is (LongerShape f b) ws l) ∙ h ∙ shown_is (FixedShape m) us k)) e
  rows_told (LongerShape f b) (LongerShape g c) ws us l k ne e =
      shape_told (length (witnesses_list (witnesses_of (take f ws))))
      (length (witnesses_list (witnesses_of (drop f ws)))) (length (witnesses_list (witnesses_of (take g us))))
      (length (witnesses_list (witnesses_of (drop g us)))) true true
      (and_then (compare_items program (inner_type t) (witnesses_of (take f ws)) (witnesses_of (take g us)))
      (compare_items program (inner_type t) (witnesses_of (drop f ws)) (witnesses_of (drop g us))))
      (λ h. ne (sym (shown_is (LongerShape f b) ws l) ∙ h ∙ shown_is (LongerShape g c) us k)) e

  low_told : (r s : MRange) → compare_low r.low s.low ≡ Before → compare_range r s ≡ Before
  low_told r s h = ap (λ c. and_then c (compare_high r.high s.high)) h

  late_told : (a b : Bool) (c : Compared) → compare_late a b c ≡ Same → c ≡ Same
  late_told true true c e = e
  late_told true false c e = absurd cc
  late_told false true c e = absurd cc
  late_told false false c e = e

  -- the witnesses of two pieces, the first of which stands before the second, are told apart
  pub told_forth : (p q : MCtor) → IsEarlier p q → (ws us : List MWitness) → RowHas p (length ws) → RowHas q
      (length us) →
      compare_arm program t (witness_of p named ws) (witness_of q named us) ≡ Same → ⊥
  told_forth (FlagCtor false) (FlagCtor true) h ws us l k e = absurd cc
  told_forth (VariantCtor i) (VariantCtor j) h ws us l k e =
      let s = nat_told i j (then_same (compare_nat i j) (compare_parts program (types_there (node_types program t i))
      (witnesses_of ws) (witnesses_of us)) e) in omega (arith, s, h)
  told_forth (VariantCtor i) LaterCtor h ws us l k e = absurd cc
  told_forth (NumbersCtor r) (NumbersCtor s) h ws us l k e =
      not_same (sym (late_told (is_late t r) (is_late t s) (compare_range r s) e) ∙ low_told r s h)
  told_forth (TextCtor a) (TextCtor b) h ws us l k e = not_same (sym e ∙ h)
  told_forth (TextCtor a) OtherTextCtor h ws us l k e = absurd cc
  told_forth (RowCtor s) (RowCtor r) h ws us l k e = rows_told s r ws us l k (λ n. omega (arith, n, h)) e
  told_forth _ _ h ws us l k e = absurd h

  low_turned : (a b : MEnd) → compare_low a b ≡ Before → compare_low b a ≡ Same → ⊥
  low_turned Free Free h e = absurd cc
  low_turned Free (At b) h e = absurd cc
  low_turned (At a) Free h e = absurd cc
  low_turned (At a) (At b) h e = turned (int_equal b a (is_same (int_eq b a) (int_lt b a) e))
    where
      is_same : (s p : Bool) → compared s p ≡ Same → s ≡ true
      is_same true p e = refl
      is_same false true e = absurd cc
      is_same false false e = absurd cc

      turned : b ≡ a → ⊥
      turned q = not_same (sym (ap (λ s. compared s (int_lt a a)) (int_itself a)) ∙ subst
          (λ z. compare_low (At a) (At z) ≡ Before) q h)

  text_turned : (a b : List ℕ) → compare_text a b ≡ Before → compare_text b a ≡ Same → ⊥
  text_turned a b h e = turned (text_equal b a (is_same (text_eq b a) (is_lt (compare_texts b a)) e))
    where
      is_same : (s p : Bool) → compared s p ≡ Same → s ≡ true
      is_same true p e = refl
      is_same false true e = absurd cc
      is_same false false e = absurd cc

      turned : b ≡ a → ⊥
      turned q = not_same (sym (ap (λ s. compared s (is_lt (compare_texts a a))) (text_itself a)) ∙ subst
          (λ z. compare_text a z ≡ Before) q h)

  -- nor are they one the other way round
  pub told_back : (p q : MCtor) → IsEarlier p q → (ws us : List MWitness) → RowHas p (length ws) → RowHas q
      (length us) →
      compare_arm program t (witness_of q named us) (witness_of p named ws) ≡ Same → ⊥
  told_back (FlagCtor false) (FlagCtor true) h ws us l k e = absurd cc
  told_back (VariantCtor i) (VariantCtor j) h ws us l k e =
      let s = nat_told j i (then_same (compare_nat j i) (compare_parts program (types_there (node_types program t j))
      (witnesses_of us) (witnesses_of ws)) e) in omega (arith, s, h)
  told_back (VariantCtor i) LaterCtor h ws us l k e = absurd cc
  told_back (NumbersCtor r) (NumbersCtor s) h ws us l k e =
      low_turned r.low s.low h
      (then_same (compare_low s.low r.low) (compare_high s.high r.high)
      (late_told (is_late t s) (is_late t r) (compare_range s r) e))
  told_back (TextCtor a) (TextCtor b) h ws us l k e = text_turned a b h e
  told_back (TextCtor a) OtherTextCtor h ws us l k e = absurd cc
  told_back (RowCtor s) (RowCtor r) h ws us l k e = rows_told r s us ws k l (λ n. omega (arith, n, h)) e
  told_back _ _ h ws us l k e = absurd h
