-- Two lists of numbers, compared from a place on.
use Rattle.std.proofs.Common.{◌≡◌, ℕ, ◌+◌, ◌-◌, ◌<◌, ◌≤◌, List, [], ◌∷◌, length, drop, get_or, refl, ap, ◌∙◌, arith}
use Rattle.std.proofs.lemmas.List.{drop_all, length-drop}
use Rattle.std.specs.declared.cmp.Ordering.TheVariants.{Less, Equal, Greater}
use Rattle.std.specs.Ordering.{ordering_then, int_cmp}
use Rattle.range_split.specs.declared.num.Num.{Num}
use Rattle.range_split.specs.Numbers.{num_value}
use Rattle.arm_maker.specs.Turns.{key_cmp}
use Rattle.arm_maker.proofs.Rests.{rest_from}

-- the first numbers of both, and the others
pub more_compared : (xs ys : List Num) (i : ℕ) (x y : Num) → i < length xs → i < length ys → x ≡ get_or xs i x → y
    ≡ get_or ys i y →
    key_cmp (drop i xs) (drop i ys) ≡ ordering_then (int_cmp (num_value x) (num_value y))
    (key_cmp (drop (i + 1) xs) (drop (i + 1) ys))
more_compared xs ys i x y l m e f =
    ap (λ zs. key_cmp zs (drop i ys)) (rest_from xs i x l e) ∙ ap (λ zs. key_cmp (x ∷ drop (i + 1) xs) zs)
    (rest_from ys i y m f)

-- a list beside none
longer : (xs : List Num) → 0 < length xs → key_cmp xs [] ≡ Greater
longer [] l = absurd (omega (arith, l))
longer (x ∷ xs) l = refl

shorter : (ys : List Num) → 0 < length ys → key_cmp [] ys ≡ Less
shorter [] l = absurd (omega (arith, l))
shorter (y ∷ ys) l = refl

left : (xs : List Num) (i : ℕ) → i < length xs → 0 < length (drop i xs)
left xs i l = let e : length (drop i xs) ≡ length xs - i = length-drop i xs in omega (arith, e, l)

-- where the second ends, the first, or both
pub second_ended : (xs ys : List Num) (i : ℕ) → i < length xs → length ys ≤ i → key_cmp (drop i xs) (drop i ys)
    ≡ Greater
second_ended xs ys i l m = ap (key_cmp (drop i xs)) (drop_all i ys m) ∙ longer (drop i xs) (left xs i l)

pub first_ended : (xs ys : List Num) (i : ℕ) → length xs ≤ i → i < length ys → key_cmp (drop i xs) (drop i ys) ≡ Less
first_ended xs ys i l m = ap (λ zs. key_cmp zs (drop i ys)) (drop_all i xs l) ∙ shorter (drop i ys) (left ys i m)

pub both_ended : (xs ys : List Num) (i : ℕ) → length xs ≤ i → length ys ≤ i → key_cmp (drop i xs) (drop i ys) ≡ Equal
both_ended xs ys i l m = ap (λ zs. key_cmp zs (drop i ys)) (drop_all i xs l) ∙ ap (key_cmp []) (drop_all i ys m)
