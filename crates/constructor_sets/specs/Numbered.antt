-- Variants by their numbers.
use Rattle.std.specs.Prelude.{◌≡◌, ℕ, ◌<◌, Bool, not, ◌&&◌, List, nat_eq, Option, Some, None}
use Rattle.std.specs.List.{AllPairs, list_any}
use Rattle.match_model.specs.Constructors.{MCtor, VariantCtor}
use Rattle.constructor_sets.specs.Columns.{writes}

-- the variant has a value: at an unsure place each has one
abbrev pub is_valued : (empty : ℕ → Bool) → (sure : Bool) → ℕ → Bool
is_valued empty sure k = not (sure && empty k)

-- the number stands in the list
abbrev pub is_listed : List ℕ → ℕ → Bool
is_listed numbers k = list_any (λ j. nat_eq j k) numbers

-- the variant has a value, and its number does not stand in the list
abbrev pub is_left_out : (empty : ℕ → Bool) → (sure : Bool) → (numbers : List ℕ) → ℕ → Bool
is_left_out empty sure numbers k = is_valued empty sure k && not (is_listed numbers k)

-- the number of a head, where it is a variant
abbrev pub variant_of : MCtor → Option ℕ
variant_of (VariantCtor k) = Some k
variant_of _ = None

-- the second list has the numbers of the first, ascending
pub record AreOnce (numbers once : List ℕ) : Type 0 where
  pub each : (k : ℕ) → is_listed once k ≡ is_listed numbers k
  pub ascending : AllPairs (λ j k. j < k) once

-- the numbers of the variants that stand in the column, ascending
pub record AreNumbers (heads : List MCtor) (numbers : List ℕ) : Type 0 where
  pub each : (k : ℕ) → is_listed numbers k ≡ list_any (writes (VariantCtor k)) heads
  pub ascending : AllPairs (λ j k. j < k) numbers
