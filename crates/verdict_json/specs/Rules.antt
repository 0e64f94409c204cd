-- The rules by number and name.
use Rattle.std.specs.Prelude.{ℕ, List, [], ◌∷◌, Option, Some, None, IsSome, codes, if◌then◌else◌}
use Rattle.std.specs.Bool.{nat_eq}

-- a rule's number, and the name under which the output tells it
pub record Rule : Type 0 where
  pub number : ℕ
  pub name : List ℕ

abbrev rule : ℕ → List ℕ → Rule
rule number name = record { number = number; name = name }

-- every rule
abbrev pub rules : List Rule
rules =
    rule 1 (codes "not-utf8")
    ∷ rule 2 (codes "bad-token")
    ∷ rule 3 (codes "open-comment")
    ∷ rule 4 (codes "open-text")
    ∷ rule 5 (codes "bad-escape")
    ∷ rule 6 (codes "syntax")
    ∷ rule 7 (codes "too-long")
    ∷ rule 9 (codes "too-wide")
    ∷ rule 10 (codes "name-twice")
    ∷ rule 11 (codes "variant-twice")
    ∷ rule 12 (codes "field-twice")
    ∷ rule 13 (codes "unknown-type")
    ∷ rule 14 (codes "unsized-place")
    ∷ rule 15 (codes "contains-itself")
    ∷ rule 16 (codes "array-length")
    ∷ rule 17 (codes "type-arguments")
    ∷ rule 18 (codes "bad-use")
    ∷ rule 19 (codes "unsupported-attribute")
    ∷ rule 20 (codes "unknown-name")
    ∷ rule 21 (codes "name-is-no-binding")
    ∷ rule 22 (codes "wrong-type")
    ∷ rule 23 (codes "wrong-count")
    ∷ rule 24 (codes "unknown-field")
    ∷ rule 25 (codes "field-written-twice")
    ∷ rule 26 (codes "field-missing")
    ∷ rule 27 (codes "rest-twice")
    ∷ rule 28 (codes "literal-out-of-range")
    ∷ rule 29 (codes "range-empty")
    ∷ rule 30 (codes "name-bound-twice")
    ∷ rule 31 (codes "alternatives-differ")
    ∷ rule 32 (codes "mode-written")
    ∷ rule 33 (codes "open-range-in-slice")
    ∷ rule 34 (codes "deref-needs-reference")
    ∷ rule 35 (codes "unsupported-pattern")
    ∷ rule 36 (codes "endless-type")
    ∷ rule 40 (codes "value-syntax")
    ∷ rule 41 (codes "value-type")
    ∷ rule 42 (codes "unknown-function")
    ∷ rule 50 (codes "arm-too-large")
    ∷ []

-- the name of the first rule of that number
abbrev pub name_in : List Rule → ℕ → Option (List ℕ)
name_in [] number = None
name_in (r ∷ others) number = if nat_eq number r.number then Some r.name else name_in others number

-- the name of the rule of that number
abbrev pub name_of : ℕ → Option (List ℕ)
name_of number = name_in rules number

-- there is a rule of that number
abbrev pub IsRule : ℕ → Type 0
IsRule number = IsSome (name_of number)
