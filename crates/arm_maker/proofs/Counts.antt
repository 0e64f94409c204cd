-- The limits of lists.
use Rattle.std.proofs.Common.{◌≡◌, ◌<◌, ◌+◌, ℕ, suc, Bool, true, false, ◌&&◌, List, [], ◌∷◌, length, nat_le, refl, sym, ap, ◌∙◌, subst, arith}
use Rattle.std.proofs.lemmas.Bool.Decides.{nat_tests}
use Rattle.decl_syntax.specs.Widths.{most_parts}
use Rattle.witness_text.specs.Trees.{OfRow, witnesses_view, fields_view}
use Rattle.witness_text.specs.declared.named.NamedWitness.{NamedWitness}
use Rattle.witness_text.specs.declared.named.NamedField.{NamedField}
use Rattle.arm_maker.specs.Sizes.{tree_count, field_count, rest_count, rest_fits, arm_fits, parts_fit}

-- how many witnesses a list has, and how many fields
pub counted : (ws : List NamedWitness) → tree_count (witnesses_view ws) ≡ length ws
counted [] = refl
counted (w ∷ ws) = ap suc (counted ws)

pub fields_counted : (fs : List NamedField) → field_count (fields_view fs) ≡ length fs
fields_counted [] = refl
fields_counted (f ∷ fs) = ap suc (fields_counted fs)

-- a list with too many parts
pub too_many : (n m : ℕ) (rest : Bool) → n ≡ m → most_parts < m → false ≡ (nat_le n most_parts && rest)
too_many n m rest e l =
    let above : most_parts < n = subst (λ k. most_parts < k) (sym e) l in
    let t : nat_le n most_parts ≡ false = grind (arith, nat_tests) in
    ap (λ z. z && rest) (sym t)

ended_early : (a b rest : Bool) → (a && b) ≡ false → (a && (b && rest)) ≡ false
ended_early true b rest e = ap (λ z. z && rest) e
ended_early false b rest e = refl

left_open : (a b rest : Bool) → (a && b) ≡ true → (a && (b && rest)) ≡ rest
left_open true b rest e = ap (λ z. z && rest) e
left_open false b rest e = absurd cc

-- a row is within the limits but for its items
abbrev pub is_narrow_row : ℕ → (front : List NamedWitness) → (longer : Bool) → (back : List NamedWitness) → Bool
is_narrow_row n front longer back = nat_le (length front + (rest_count longer + length back))
    most_parts && rest_fits n longer

row_counted : (n : ℕ) (front : List NamedWitness) (longer : Bool) (back : List NamedWitness) →
    (nat_le (tree_count (witnesses_view front) + (rest_count longer + tree_count (witnesses_view back)))
    most_parts && rest_fits n longer)
    ≡ is_narrow_row n front longer back
row_counted n front longer back =
    ap (λ k. nat_le (k + (rest_count longer + tree_count (witnesses_view back))) most_parts && rest_fits n longer)
    (counted front)
    ∙ ap (λ k. nat_le (length front + (rest_count longer + k)) most_parts && rest_fits n longer) (counted back)

abbrev items_fit : ℕ → (front back : List NamedWitness) → Bool
items_fit n front back = parts_fit n (witnesses_view front) && parts_fit n (witnesses_view back)

pub row_refused : (n : ℕ) (front : List NamedWitness) (longer : Bool) (back : List NamedWitness) →
    is_narrow_row n front longer back ≡ false → arm_fits (suc n)
    (OfRow (witnesses_view front) longer (witnesses_view back)) ≡ false
row_refused n front longer back e =
    ended_early (nat_le (tree_count (witnesses_view front) + (rest_count longer + tree_count (witnesses_view back)))
    most_parts)
    (rest_fits n longer) (items_fit n front back) (row_counted n front longer back ∙ e)

pub row_items_fit : (n : ℕ) (front : List NamedWitness) (longer : Bool) (back : List NamedWitness) →
    is_narrow_row n front longer back ≡ true → parts_fit n (witnesses_view front) ≡ true →
    arm_fits (suc n) (OfRow (witnesses_view front) longer (witnesses_view back)) ≡ parts_fit n (witnesses_view back)
row_items_fit n front longer back e f =
    left_open (nat_le (tree_count (witnesses_view front) + (rest_count longer + tree_count (witnesses_view back)))
    most_parts)
    (rest_fits n longer) (items_fit n front back) (row_counted n front longer back ∙ e)
    ∙ ap (λ b. b && parts_fit n (witnesses_view back)) f
