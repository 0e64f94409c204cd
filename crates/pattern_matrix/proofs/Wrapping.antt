-- What fits a stack that is wrapped in a piece.
use Rattle.std.proofs.Common.{◌≡◌, ◌≤◌, ℕ, zero, suc, ◌+◌, ◌-◌, Bool, true, false, ◌&&◌, ◌||◌, nat_eq, nat_le, List, [], ◌∷◌, ◌++◌, take, drop, length, refl, sym, ap, ◌∙◌, arith, length-take-le, length-drop}
use Rattle.std.proofs.lemmas.Bool.Decides.{nat_tests}
use Rattle.std.proofs.lemmas.List.{drop_all}
use Rattle.std.proofs.Math.Seq.{take-length}
use Rattle.match_model.specs.Values.{MValue, Flag, Num, Text, Node, Point, Row, Later, values_list, parts_of}
use Rattle.match_model.specs.Constructors.{FixedShape, LongerShape, MCtor, SingleCtor, PointCtor, LaterCtor, OtherTextCtor, VariantCtor, FlagCtor, NumbersCtor, TextCtor, RowCtor, WildCtor, OrCtor, builds}
use Rattle.match_model.specs.ContextLaws.{ArityIs}
use Rattle.match_model.specs.Witness.{MWitness, no_witnesses, witnesses_list, witnesses_of, fits, all_fit, parts_under}
use Rattle.match_model.specs.WitnessList.{first_witness, wrapped}
use Rattle.match_model.specs.Rows.{is_or_ctor, is_wild_ctor}
use Rattle.match_model.proofs.Basics.{untrue, nat_equal}

and-assoc : (a b c : Bool) → ((a && b) && c) ≡ (a && (b && c))
and-assoc true b c = refl
and-assoc false b c = refl

-- witnesses in two parts
pub split_fits : (n : ℕ) (ws : List MWitness) (xs vs : List MValue) → length xs ≡ n →
    (all_fit (witnesses_of (take n ws)) xs && all_fit (witnesses_of (drop n ws)) vs) ≡ all_fit (witnesses_of ws) (xs ++ vs)
split_fits zero ws [] vs e = refl
split_fits zero ws (x ∷ xs) vs e = absurd (omega (arith, e))
split_fits (suc n) ws [] vs e = absurd (omega (arith, e))
split_fits (suc n) [] (x ∷ xs) vs e = refl
split_fits (suc n) (w ∷ ws) (x ∷ xs) vs e =
    and-assoc (fits w x) (all_fit (witnesses_of (take n ws)) xs) (all_fit (witnesses_of (drop n ws)) vs)
    ∙ ap (λ b. fits w x && b) (split_fits n ws xs vs (omega (arith, e)))

pub as_list : (ws : List MWitness) → witnesses_list (witnesses_of ws) ≡ ws
as_list [] = refl
as_list (w ∷ ws) = ap (λ us. w ∷ us) (as_list ws)

-- under a test
under : (b : Bool) (x y : Bool) → (b ≡ true → x ≡ y) → (b && x) ≡ (b && y)
under true x y f = f refl
under false x y f = refl

no_items : (xs : List MValue) → length xs ≡ 0 → xs ≡ []
no_items [] e = refl
no_items (x ∷ xs) e = absurd (omega (arith, e))

-- a constructor without parts
leaf : (b : Bool) (n : ℕ) (ws : List MWitness) (xs vs : List MValue) → n ≡ 0 → (b ≡ true → length xs ≡ n) →
    (b && all_fit (witnesses_of (drop n ws)) vs) ≡ (b && all_fit (witnesses_of ws) (xs ++ vs))
leaf b n ws xs vs e f =
    under b (all_fit (witnesses_of (drop n ws)) vs) (all_fit (witnesses_of ws) (xs ++ vs))
    (λ h. ap (λ k. all_fit (witnesses_of (drop k ws)) vs) e ∙ ap (λ ys. all_fit (witnesses_of ws) (ys ++ vs)) (sym (no_items xs (f h ∙ e))))

-- one with all parts
node : (b a : Bool) (n : ℕ) (ws : List MWitness) (xs vs : List MValue) → a ≡ b → (b ≡ true → length xs ≡ n) →
    ((a && all_fit (witnesses_of (take n ws)) xs) && all_fit (witnesses_of (drop n ws)) vs) ≡ (b && all_fit (witnesses_of ws) (xs ++ vs))
node b a n ws xs vs e f =
    and-assoc a (all_fit (witnesses_of (take n ws)) xs) (all_fit (witnesses_of (drop n ws)) vs)
    ∙ ap (λ c. c && (all_fit (witnesses_of (take n ws)) xs && all_fit (witnesses_of (drop n ws)) vs)) e
    ∙ under b (all_fit (witnesses_of (take n ws)) xs && all_fit (witnesses_of (drop n ws)) vs) (all_fit (witnesses_of ws) (xs ++ vs)) (λ h. split_fits n ws xs vs (f h))

eq-flip : (a b : ℕ) → nat_eq a b ≡ nat_eq b a
eq-flip a b = grind (arith, nat_tests)

at_least : (a b : ℕ) → nat_le a b ≡ true → a ≤ b
at_least a b h = grind (arith, nat_tests)

-- a row of one length
row_fixed : (k m n : ℕ) (ws : List MWitness) (items vs : List MValue) → k ≡ n → n ≡ m →
    ((nat_eq (k + 0) (length items) && (all_fit (witnesses_of (take n ws)) (take k items) && all_fit no_witnesses (drop (length items - 0) items))) && all_fit (witnesses_of (drop n ws)) vs)
    ≡ (nat_eq m (length items) && all_fit (witnesses_of ws) (items ++ vs))
row_fixed k m n ws items vs e a =
    let b = all_fit (witnesses_of (drop n ws)) vs in
    let front = all_fit (witnesses_of (take n ws)) (take k items) in
    let back = all_fit no_witnesses (drop (length items - 0) items) in
    let same : k + 0 ≡ m = omega (arith, e, a) in
    let none : back ≡ true = ap (all_fit no_witnesses) (drop_all (length items - 0) items (omega arith)) in
    and-assoc (nat_eq (k + 0) (length items)) (front && back) b
    ∙ ap (λ i. nat_eq i (length items) && ((front && back) && b)) same
    ∙ under (nat_eq m (length items)) ((front && back) && b) (all_fit (witnesses_of ws) (items ++ vs))
    (λ h. let l : m ≡ length items = nat_equal m (length items) h in
    let kl : k ≡ length items = omega (arith, l, e, a) in
    let nl : length items ≡ n = omega (arith, l, a) in
    ap (λ x. (front && x) && b) none ∙ ap (λ x. x && b) (and_true front)
    ∙ ap (λ xs. all_fit (witnesses_of (take n ws)) xs && b) (ap (λ i. take i items) kl ∙ take-length items)
    ∙ split_fits n ws items vs nl)
  where
    and_true : (x : Bool) → (x && true) ≡ x
    and_true true = refl
    and_true false = refl

-- a row from a length on
row_longer : (k j g c n : ℕ) (ws : List MWitness) (items vs : List MValue) → k ≡ g → j ≡ c →
    (nat_le (g + c) (length items) ≡ true → length (take g items ++ drop (length items - c) items) ≡ n) →
    ((nat_le (k + j) (length items) && (all_fit (witnesses_of (take g (take n ws))) (take k items) && all_fit (witnesses_of (drop g (take n ws))) (drop (length items - j) items))) && all_fit (witnesses_of (drop n ws)) vs)
    ≡ (nat_le (g + c) (length items) && all_fit (witnesses_of ws) ((take g items ++ drop (length items - c) items) ++ vs))
row_longer k j g c n ws items vs e d f =
    let b = all_fit (witnesses_of (drop n ws)) vs in
    let front = λ (i : ℕ). all_fit (witnesses_of (take g (take n ws))) (take i items) in
    let back = λ (i : ℕ). all_fit (witnesses_of (drop g (take n ws))) (drop (length items - i) items) in
    and-assoc (nat_le (k + j) (length items)) (front k && back j) b
    ∙ ap (λ i. nat_le (i + j) (length items) && ((front i && back j) && b)) e
    ∙ ap (λ i. nat_le (g + i) (length items) && ((front g && back i) && b)) d
    ∙ under (nat_le (g + c) (length items)) ((front g && back c) && b) (all_fit (witnesses_of ws) ((take g items ++ drop (length items - c) items) ++ vs))
    (λ h. ap (λ x. x && b) (split_fits g (take n ws) (take g items) (drop (length items - c) items) (length-take-le g items (omega (arith, at_least (g + c) (length items) h))))
    ∙ split_fits n ws (take g items ++ drop (length items - c) items) vs (f h))

-- a stack wrapped in a piece fits where the piece builds the value and the stack fits its parts
pub wrapped_fits : (piece : MCtor) (named : List (List ℕ)) (n : ℕ) (ws : List MWitness) (v : MValue) (vs : List MValue) →
    (is_wild_ctor piece || is_or_ctor piece) ≡ false → ArityIs piece n → n ≤ length ws →
    (builds named piece v ≡ true → length (parts_under piece v) ≡ n) →
    all_fit (witnesses_of (wrapped piece named n ws)) (v ∷ vs) ≡ (builds named piece v && all_fit (witnesses_of ws) (parts_under piece v ++ vs))
wrapped_fits SingleCtor named n ws (Node k parts) vs x a l f =
    node (nat_eq k 0) (nat_eq 0 k) n ws (values_list parts) vs (eq-flip 0 k) f
wrapped_fits SingleCtor named n ws _ vs x a l f = refl
wrapped_fits (VariantCtor j) named n ws (Node k parts) vs x a l f =
    node (nat_eq k j) (nat_eq j k) n ws (values_list parts) vs (eq-flip j k) f
wrapped_fits (VariantCtor j) named n ws _ vs x a l f = refl
wrapped_fits PointCtor named n ws (Point m u) vs x a l f = go n ws a l
  where
    go : (n : ℕ) (ws : List MWitness) → n ≡ 1 → n ≤ length ws →
        (fits (first_witness (take n ws)) u && all_fit (witnesses_of (drop n ws)) vs) ≡ all_fit (witnesses_of ws) (u ∷ vs)
    go zero ws a l = absurd (omega (arith, a))
    go (suc n) [] a l = absurd (omega (arith, l))
    go (suc n) (w ∷ ws) a l = let z : n ≡ 0 = omega (arith, a) in ap (λ k. fits w u && all_fit (witnesses_of (drop k ws)) vs) z
wrapped_fits PointCtor named n ws _ vs x a l f = refl
wrapped_fits LaterCtor named n ws Later vs x a l f = leaf true n ws [] vs a f
wrapped_fits LaterCtor named n ws _ vs x a l f = refl
wrapped_fits OtherTextCtor named n ws v vs x a l f = leaf (builds named OtherTextCtor v) n ws (parts_of v) vs a f
wrapped_fits (FlagCtor y) named n ws (Flag c) vs x a l f = leaf (builds named (FlagCtor y) (Flag c)) n ws [] vs a f
wrapped_fits (FlagCtor y) named n ws _ vs x a l f = refl
wrapped_fits (NumbersCtor r) named n ws (Num c) vs x a l f = leaf (builds named (NumbersCtor r) (Num c)) n ws [] vs a f
wrapped_fits (NumbersCtor r) named n ws _ vs x a l f = refl
wrapped_fits (TextCtor t) named n ws (Text c) vs x a l f = leaf (builds named (TextCtor t) (Text c)) n ws [] vs a f
wrapped_fits (TextCtor t) named n ws _ vs x a l f = refl
wrapped_fits (RowCtor (FixedShape m)) named n ws (Row items) vs x a l f =
    row_fixed (length (witnesses_list (witnesses_of (take n ws)))) m n ws (values_list items) vs (ap length (as_list (take n ws)) ∙ length-take-le n ws l) a
wrapped_fits (RowCtor (LongerShape g c)) named n ws (Row items) vs x a l f =
    let lt : length (take n ws) ≡ n = length-take-le n ws l in
    let ld = length-drop g (take n ws) in
    row_longer (length (witnesses_list (witnesses_of (take g (take n ws))))) (length (witnesses_list (witnesses_of (drop g (take n ws))))) g c n ws (values_list items) vs
    (ap length (as_list (take g (take n ws))) ∙ length-take-le g (take n ws) (omega (arith, lt, a))) (ap length (as_list (drop g (take n ws))) ∙ omega (arith, ld, lt, a)) f
wrapped_fits (RowCtor (FixedShape m)) named n ws _ vs x a l f = refl
wrapped_fits (RowCtor (LongerShape g c)) named n ws _ vs x a l f = refl
wrapped_fits WildCtor named n ws v vs x a l f = untrue (sym x)
wrapped_fits OrCtor named n ws v vs x a l f = untrue (sym x)
