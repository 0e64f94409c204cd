-- How the witnesses of two pieces compare.
use Rattle.std.proofs.Common.{◌≡◌, ◌<◌, ℕ, zero, suc, ◌+◌, Bool, true, false, ◌&&◌, ◌||◌, List, [], ◌∷◌, take, drop, length, nat_eq, nat_lt, refl, sym, ap, ◌∙◌, arith, length-take-le, length-drop}
use Rattle.std.specs.Cmp.Lexicographic.{pointwise}
use Rattle.std.proofs.lemmas.Cmp.{lists_equiv, nat_list_eq_equiv}
use Rattle.std.proofs.lemmas.Bool.Decides.{nat_tests}
use mathlib.Core.Bool.{beq}
use Rattle.match_model.specs.Texts.{text_eq}
use Rattle.match_model.specs.Numbers.{MEnd, Free, At}
use Rattle.match_model.specs.Constructors.{MShape, FixedShape, LongerShape, MCtor, SingleCtor, PointCtor, LaterCtor, OtherTextCtor, VariantCtor, FlagCtor, NumbersCtor, TextCtor, RowCtor, WildCtor, OrCtor, least_length}
use Rattle.match_model.specs.ContextLaws.{ArityIs}
use Rattle.match_model.specs.Rows.{is_wild_ctor, is_or_ctor}
use Rattle.match_model.specs.Witness.{MWitness, no_witnesses, witnesses_of, witnesses_list}
use Rattle.match_model.specs.WitnessList.{witness_of, slice_witness}
use Rattle.match_model.specs.WitnessOrder.{Compared, Same, Before, NotBefore, and_then, compared, compare_nat, compare_low, compare_high, compare_range, compare_text, compare_flag, compare_shape, compare_witness, compare_witnesses}
use Rattle.match_model.proofs.Basics.{untrue, nat_itself, int_itself, text_itself}
use Rattle.constructor_sets.specs.InOrder.{IsEarlier}
use Rattle.pattern_matrix.proofs.Wrapping.{as_list}

-- two stacks
abbrev pub compare_stacks : List MWitness → List MWitness → Compared
compare_stacks w u = compare_witnesses (witnesses_of w) (witnesses_of u)

and_then-assoc : (a b c : Compared) → and_then (and_then a b) c ≡ and_then a (and_then b c)
and_then-assoc Same b c = refl
and_then-assoc Before b c = refl
and_then-assoc NotBefore b c = refl

pub and_then-same : (c : Compared) → and_then c Same ≡ c
and_then-same Same = refl
and_then-same Before = refl
and_then-same NotBefore = refl

pub split_compare : (n : ℕ) (w u : List MWitness) →
    and_then (compare_stacks (take n w) (take n u)) (compare_stacks (drop n w) (drop n u)) ≡ compare_stacks w u
split_compare zero w u = refl
split_compare (suc n) [] u = refl
split_compare (suc n) (x ∷ w) [] = short (drop n w)
  where
    short : (w : List MWitness) → compare_stacks w [] ≡ Same
    short [] = refl
    short (x ∷ w) = refl
split_compare (suc n) (x ∷ w) (y ∷ u) =
    and_then-assoc (compare_witness x y) (compare_stacks (take n w) (take n u)) (compare_stacks (drop n w) (drop n u))
    ∙ ap (and_then (compare_witness x y)) (split_compare n w u)

-- one piece before another, whatever their parts are
abbrev pub IsPieceBefore : (named : List (List ℕ)) → (p : MCtor) → ℕ → (q : MCtor) → ℕ → Type 0
IsPieceBefore named p n q m =
    (ws us : List MWitness) → length ws ≡ n → length us ≡ m → compare_witness (witness_of p named ws) (witness_of q named us) ≡ Before

-- a piece beside itself is told by its parts
abbrev pub IsPieceSame : (named : List (List ℕ)) → (p : MCtor) → ℕ → Type 0
IsPieceSame named p n =
    (ws us : List MWitness) → length ws ≡ n → length us ≡ n → compare_witness (witness_of p named ws) (witness_of p named us) ≡ compare_stacks ws us

-- beside itself

nat_same : (n : ℕ) → compare_nat n n ≡ Same
nat_same n = ap (λ b. compared b (nat_lt n n)) (nat_itself n)

low_same : (e : MEnd) → compare_low e e ≡ Same
low_same Free = refl
low_same (At a) = ap (λ b. compared b (Rattle.std.specs.Prelude.int_lt a a)) (int_itself a)

high_same : (e : MEnd) → compare_high e e ≡ Same
high_same Free = refl
high_same (At a) = ap (λ b. compared b (Rattle.std.specs.Prelude.int_lt a a)) (int_itself a)

flag_same : (b : Bool) → compare_flag b b ≡ Same
flag_same true = refl
flag_same false = refl

-- without parts
leaf : (ws us : List MWitness) (n : ℕ) → n ≡ 0 → length ws ≡ n → length us ≡ n → (c : Compared) → c ≡ Same →
    c ≡ compare_stacks ws us
leaf [] [] n z e f c h = h
leaf [] (u ∷ us) n z e f c h = absurd (omega (arith, z, f))
leaf (w ∷ ws) us n z e f c h = absurd (omega (arith, z, e))

flag_itself : (b : Bool) → beq b b ≡ true
flag_itself true = refl
flag_itself false = refl

shape_same : (f g : ℕ) (longer : Bool) (b c : ℕ) → f ≡ g → b ≡ c → compare_shape f longer b g longer c ≡ Same
shape_same f g longer b c e h =
    ap (λ k. and_then (compare_nat (f + b) (g + k)) (compared (nat_eq f g && beq longer longer) false)) (sym h)
    ∙ ap (λ k. and_then (compare_nat (f + b) (k + b)) (compared (nat_eq f k && beq longer longer) false)) (sym e)
    ∙ ap (λ x. and_then x (compared (nat_eq f f && beq longer longer) false)) (nat_same (f + b))
    ∙ ap (λ y. compared (y && beq longer longer) false) (nat_itself f) ∙ ap (λ y. compared y false) (flag_itself longer)

listed_length : (ws : List MWitness) → length (witnesses_list (witnesses_of ws)) ≡ length ws
listed_length ws = ap length (as_list ws)

row_same : (s : MShape) (ws us : List MWitness) → length ws ≡ least_length s → length us ≡ least_length s →
    compare_witness (slice_witness s ws) (slice_witness s us) ≡ compare_stacks ws us
row_same (FixedShape m) ws us e f =
    ap (λ x. and_then x (and_then (compare_stacks ws us) Same))
    (shape_same (length (witnesses_list (witnesses_of ws))) (length (witnesses_list (witnesses_of us))) false 0 0 (listed_length ws ∙ e ∙ sym f ∙ sym (listed_length us)) refl)
    ∙ and_then-same (compare_stacks ws us)
row_same (LongerShape g c) ws us e f =
    let lw = length-take-le g ws (omega (arith, e)) in
    let lu = length-take-le g us (omega (arith, f)) in
    let dw = length-drop g ws in
    let du = length-drop g us in
    let back : length (drop g ws) ≡ length (drop g us) = omega (arith, dw, du, e, f) in
    ap (λ x. and_then x (and_then (compare_stacks (take g ws) (take g us)) (compare_stacks (drop g ws) (drop g us))))
    (shape_same (length (witnesses_list (witnesses_of (take g ws)))) (length (witnesses_list (witnesses_of (take g us)))) true (length (witnesses_list (witnesses_of (drop g ws)))) (length (witnesses_list (witnesses_of (drop g us))))
    (listed_length (take g ws) ∙ lw ∙ sym lu ∙ sym (listed_length (take g us))) (listed_length (drop g ws) ∙ back ∙ sym (listed_length (drop g us))))
    ∙ split_compare g ws us

pub piece_same : (named : List (List ℕ)) (p : MCtor) (n : ℕ) → (is_wild_ctor p || is_or_ctor p) ≡ false →
    ArityIs p n → IsPieceSame named p n
piece_same named SingleCtor n x a ws us e f = refl
piece_same named (VariantCtor k) n x a ws us e f = ap (λ c. and_then c (compare_stacks ws us)) (nat_same k)
piece_same named PointCtor n x a (w ∷ []) (u ∷ []) e f = sym (and_then-same (compare_witness w u))
piece_same named PointCtor n x a [] us e f = absurd (omega (arith, a, e))
piece_same named PointCtor n x a (w ∷ v ∷ ws) us e f = absurd (omega (arith, a, e))
piece_same named PointCtor n x a (w ∷ []) [] e f = absurd (omega (arith, a, f))
piece_same named PointCtor n x a (w ∷ []) (u ∷ v ∷ us) e f = absurd (omega (arith, a, f))
piece_same named LaterCtor n x a ws us e f = leaf ws us n a e f Same refl
piece_same named (FlagCtor b) n x a ws us e f = leaf ws us n a e f (compare_flag b b) (flag_same b)
piece_same named (NumbersCtor r) n x a ws us e f =
    leaf ws us n a e f (compare_range r r) (ap (λ c. and_then c (compare_high r.high r.high)) (low_same r.low) ∙ high_same r.high)
piece_same named (TextCtor t) n x a ws us e f =
    leaf ws us n a e f (compare_text t t) (ap (λ b. compared b (Rattle.std.specs.Ordering.is_lt (Rattle.match_model.specs.Texts.compare_texts t t))) (text_itself t))
piece_same named OtherTextCtor n x a ws us e f =
    leaf ws us n a e f (compared (pointwise text_eq named named) false) (ap (λ b. compared b false) ((lists_equiv nat_list_eq_equiv).refl named))
piece_same named (RowCtor s) n x a ws us e f = row_same s ws us (e ∙ a) (f ∙ a)
piece_same named WildCtor n x a ws us e f = untrue (sym x)
piece_same named OrCtor n x a ws us e f = untrue (sym x)

-- one before another

nat_before : (a b : ℕ) → a < b → compare_nat a b ≡ Before
nat_before a b l = ap (λ x. compared x (nat_lt a b)) (differ a b l) ∙ ap (compared false) (less a b l)
  where
    differ : (a b : ℕ) → a < b → nat_eq a b ≡ false
    differ a b l = grind (arith, nat_tests)

    less : (a b : ℕ) → a < b → nat_lt a b ≡ true
    less a b l = grind (arith, nat_tests)

shape_before : (f : ℕ) (longer : Bool) (b g : ℕ) (wider : Bool) (c : ℕ) → f + b < g + c → (x : Compared) →
    and_then (compare_shape f longer b g wider c) x ≡ Before
shape_before f longer b g wider c l x =
    ap (λ y. and_then (and_then y (compared (nat_eq f g && beq longer wider) false)) x) (nat_before (f + b) (g + c) l)

row_before : (s r : MShape) → least_length s < least_length r → (ws us : List MWitness) →
    length ws ≡ least_length s → length us ≡ least_length r →
    compare_witness (slice_witness s ws) (slice_witness r us) ≡ Before
row_before (FixedShape m) (FixedShape k) l ws us e f =
    let a = listed_length ws in
    let b = listed_length us in
    shape_before (length (witnesses_list (witnesses_of ws))) false 0 (length (witnesses_list (witnesses_of us))) false 0 (omega (arith, l, a, b, e, f)) (and_then (compare_stacks ws us) Same)
row_before (FixedShape m) (LongerShape g c) l ws us e f =
    let a = listed_length ws in
    let b = listed_length (take g us) in
    let d = listed_length (drop g us) in
    let lu = length-take-le g us (omega (arith, f)) in
    let du = length-drop g us in
    shape_before (length (witnesses_list (witnesses_of ws))) false 0 (length (witnesses_list (witnesses_of (take g us)))) true (length (witnesses_list (witnesses_of (drop g us))))
    (omega (arith, l, a, b, d, lu, du, e, f)) (and_then (compare_stacks ws (take g us)) (compare_witnesses no_witnesses (witnesses_of (drop g us))))
row_before (LongerShape h i) (FixedShape k) l ws us e f =
    let a = listed_length (take h ws) in
    let x = listed_length (drop h ws) in
    let b = listed_length us in
    let lw = length-take-le h ws (omega (arith, e)) in
    let dw = length-drop h ws in
    shape_before (length (witnesses_list (witnesses_of (take h ws)))) true (length (witnesses_list (witnesses_of (drop h ws)))) (length (witnesses_list (witnesses_of us))) false 0
    (omega (arith, l, a, x, b, lw, dw, e, f)) (and_then (compare_stacks (take h ws) us) (compare_witnesses (witnesses_of (drop h ws)) no_witnesses))
row_before (LongerShape h i) (LongerShape g c) l ws us e f =
    let a = listed_length (take h ws) in
    let x = listed_length (drop h ws) in
    let b = listed_length (take g us) in
    let d = listed_length (drop g us) in
    let lw = length-take-le h ws (omega (arith, e)) in
    let dw = length-drop h ws in
    let lu = length-take-le g us (omega (arith, f)) in
    let du = length-drop g us in
    shape_before (length (witnesses_list (witnesses_of (take h ws)))) true (length (witnesses_list (witnesses_of (drop h ws)))) (length (witnesses_list (witnesses_of (take g us)))) true (length (witnesses_list (witnesses_of (drop g us))))
    (omega (arith, l, a, x, b, d, lw, dw, lu, du, e, f)) (and_then (compare_stacks (take h ws) (take g us)) (compare_stacks (drop h ws) (drop g us)))

pub piece_before : (named : List (List ℕ)) (p q : MCtor) (n m : ℕ) → IsEarlier p q → ArityIs p n → ArityIs q m →
    IsPieceBefore named p n q m
piece_before named (FlagCtor false) (FlagCtor true) n m h a b ws us e f = refl
piece_before named (VariantCtor j) (VariantCtor k) n m h a b ws us e f =
    ap (λ c. and_then c (compare_stacks ws us)) (nat_before j k h)
piece_before named (VariantCtor j) LaterCtor n m h a b ws us e f = refl
piece_before named (NumbersCtor r) (NumbersCtor s) n m h a b ws us e f =
    ap (λ c. and_then c (compare_high r.high s.high)) h
piece_before named (TextCtor t) (TextCtor u) n m h a b ws us e f = h
piece_before named (TextCtor t) OtherTextCtor n m h a b ws us e f = refl
piece_before named (RowCtor s) (RowCtor r) n m h a b ws us e f = row_before s r h ws us (e ∙ a) (f ∙ b)
piece_before named _ _ n m h a b ws us e f = absurd h
