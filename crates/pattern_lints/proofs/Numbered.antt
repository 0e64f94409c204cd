-- The numbered parts of a value: each is the part with its number, and no two that a constructor meets have one number.
use Rattle.std.proofs.Common.{◌≡◌, ◌≤◌, ℕ, zero, suc, ◌+◌, ◌-◌, Bool, true, false, List, [], ◌∷◌, ◌++◌, length, take, drop, slice_get, Some, refl, sym, ap, subst, ◌∙◌, arith, nat_le}
use Rattle.std.specs.Prelude.{⊤}
use Rattle.std.proofs.lemmas.Bool.Decides.{nat_tests}
use Rattle.std.proofs.lemmas.List.Elements.{All-cons, All-nil, All-head, All-tail, All-append, All-take, All-drop}
use Rattle.std.specs.List.{All}
use Rattle.match_model.specs.Values.{MValue, Row, parts_of, values_list}
use Rattle.match_model.specs.Constructors.{MCtor, RowCtor, MShape, FixedShape, LongerShape, builds, parts_met}
use Rattle.match_model.specs.Places.{some_if}
use Rattle.match_model.specs.ArenaWays.{NumberedPart, numbered_from, parts_built}

-- the numbers ascend from `k` on
abbrev pub Ascend : ℕ → List NumberedPart → Type 0
Ascend k [] = ⊤
Ascend k (n ∷ ns) = (k ≤ n.number) × Ascend (suc n.number) ns

-- each is the part of the list that has its number, numbered from `i`
abbrev IsPart : ℕ → List MValue → NumberedPart → Type 0
IsPart i vs n = (k : ℕ) × (n.number ≡ i + k) × (slice_get vs k ≡ Some n.part)

parts-numbered : (i : ℕ) (vs : List MValue) → All (IsPart i vs) (numbered_from i vs)
parts-numbered i [] = All-nil (IsPart i [])
parts-numbered i (v ∷ vs) =
    All-cons (IsPart i (v ∷ vs)) (record { number = i; part = v }) (numbered_from (suc i) vs) (zero, omega arith, refl)
    (λ k d l. let h = parts-numbered (suc i) vs k d l in (suc h.0, omega (arith, h.1), h.2))

ascend-numbered : (i : ℕ) (vs : List MValue) → Ascend i (numbered_from i vs)
ascend-numbered i [] = tt
ascend-numbered i (v ∷ vs) = (omega arith, ascend-numbered (suc i) vs)

weaker : (j k : ℕ) (ns : List NumberedPart) → j ≤ k → Ascend k ns → Ascend j ns
weaker j k [] l h = tt
weaker j k (n ∷ ns) l h = (omega (arith, l, h.0), h.1)

ascend-drop : (m k : ℕ) (ns : List NumberedPart) → Ascend k ns → Ascend k (drop m ns)
ascend-drop zero k ns h = h
ascend-drop (suc m) k [] h = tt
ascend-drop (suc m) k (n ∷ ns) h = ascend-drop m k ns (weaker k (suc n.number) ns (omega (arith, h.0)) h.1)

ascend-ends : (f m k : ℕ) (ns : List NumberedPart) → f ≤ m → Ascend k ns → Ascend k (take f ns ++ drop m ns)
ascend-ends zero m k ns l h = ascend-drop m k ns h
ascend-ends (suc f) zero k ns l h = absurd (omega (arith, l))
ascend-ends (suc f) (suc m) k [] l h = tt
ascend-ends (suc f) (suc m) k (n ∷ ns) l h = (h.0, ascend-ends f m (suc n.number) ns (omega (arith, l)) h.1)

length-numbered : (i : ℕ) (vs : List MValue) → length (numbered_from i vs) ≡ length vs
length-numbered i [] = refl
length-numbered i (v ∷ vs) = ap suc (length-numbered (suc i) vs)

-- what a test gives
pub some-true : {X : Type 0} (b : Bool) (x y : X) → some_if b x ≡ Some y → (b ≡ true) × (x ≡ y)
some-true true x y e = (refl, cc)
some-true false x y e = cc

row-is : (s : MShape) (v : MValue) → builds [] (RowCtor s) v ≡ true → (items : List MValue) × (parts_of v ≡ items) × (builds [] (RowCtor s) v ≡ builds [] (RowCtor s) v)
row-is s v e = (parts_of v, refl, refl)

fits : (f b : ℕ) (v : MValue) → builds [] (RowCtor (LongerShape f b)) v ≡ true → f ≤ length (parts_of v) - b
fits f b (Row items) e = let h : nat_le (f + b) (length (values_list items)) ≡ true = e in grind (arith, nat_tests)
fits f b _ e = cc

-- the parts that a constructor meets of a value that it builds, numbered
pub ascend-met : (c : MCtor) (v : MValue) → builds [] c v ≡ true → Ascend 0 (parts_met c (numbered_from 0 (parts_of v)))
ascend-met (RowCtor (LongerShape f b)) v e =
    let ns = numbered_from 0 (parts_of v) in
    ascend-ends f (length ns - b) 0 ns (subst (λ n. f ≤ n - b) (sym (length-numbered 0 (parts_of v))) (fits f b v e)) (ascend-numbered 0 (parts_of v))
ascend-met (RowCtor (FixedShape n)) v e = ascend-numbered 0 (parts_of v)
ascend-met _ v e = ascend-numbered 0 (parts_of v)

parts-met : (c : MCtor) (v : MValue) → All (IsPart 0 (parts_of v)) (parts_met c (numbered_from 0 (parts_of v)))
parts-met (RowCtor (LongerShape f b)) v =
    let ns = numbered_from 0 (parts_of v) in
    let P : NumberedPart → Type 0 = IsPart 0 (parts_of v) in
    All-append P (take f ns) (drop (length ns - b) ns) (All-take P f ns (parts-numbered 0 (parts_of v))) (All-drop P (length ns - b) ns (parts-numbered 0 (parts_of v)))
parts-met (RowCtor (FixedShape n)) v = parts-numbered 0 (parts_of v)
parts-met _ v = parts-numbered 0 (parts_of v)

got : {X : Type 0} (P : X → Type 0) (xs : List X) (i : ℕ) (x : X) → All P xs → slice_get xs i ≡ Some x → P x
got P [] i x a e = cc
got P (y ∷ ys) zero x a e = let same : y ≡ x = cc in subst P same (All-head P y ys a)
got P (y ∷ ys) (suc i) x a e = got P ys i x (All-tail P y ys a) e

-- a part that is met is the value's part with its number
pub part-there : (c : MCtor) (v : MValue) (parts : List NumberedPart) (i : ℕ) (n : NumberedPart) → parts_built c v ≡ Some parts →
    slice_get parts i ≡ Some n → slice_get (parts_of v) n.number ≡ Some n.part
part-there c v parts i n e g =
    let is = (some-true (builds [] c v) (parts_met c (numbered_from 0 (parts_of v))) parts e).1 in
    let h = got (IsPart 0 (parts_of v)) (parts_met c (numbered_from 0 (parts_of v))) i n (parts-met c v) (ap (λ ps. slice_get ps i) is ∙ g) in
    let same : n.number ≡ h.0 = omega (arith, h.1) in
    ap (slice_get (parts_of v)) same ∙ h.2

-- the numbers of the parts that are met ascend
pub ascend-built : (c : MCtor) (v : MValue) (parts : List NumberedPart) → parts_built c v ≡ Some parts → Ascend 0 parts
ascend-built c v parts e =
    let h = some-true (builds [] c v) (parts_met c (numbered_from 0 (parts_of v))) parts e in
    subst (Ascend 0) h.1 (ascend-met c v h.0)
