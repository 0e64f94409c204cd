-- Integer and floating-point literals (the Rust Reference, "Number literals").
use Rattle.std.specs.Prelude.{ℕ, ◌+◌, ◌*◌, ◌^◌, Bool, true, false, ◌&&◌, ◌||◌, not, List, [], ◌∷◌, drop, nat_lt, nat_le, Option, Some, None, if◌then◌else◌, encode_utf8_all}
use Rattle.std.specs.Char.{digit_value, is_digit}
use lib.Chars.{codes}
use Rattle.decl_lexer.specs.Begins.{Begins, Integer, Float, token, breaks, first_case}
use Rattle.decl_lexer.specs.Text.{skip_while, first_passes, begins_with, is_one_of, is_underscore}
use Rattle.decl_lexer.specs.Names.{is_name_start, name_of, behind_name}

-- a digit of the radix, or `_`, which may stand among digits
abbrev pub is_digit_or_underscore : ℕ → ℕ → Bool
is_digit_or_underscore radix c = is_underscore c || is_digit c radix

-- what stands behind the digits and underscores that a text begins with
abbrev pub behind_digits : ℕ → List ℕ → List ℕ
behind_digits radix cs = skip_while (is_digit_or_underscore radix) cs

-- whether one of the digits and underscores that a text begins with is a digit
abbrev pub has_digit : ℕ → List ℕ → Bool
has_digit radix [] = false
has_digit radix (c ∷ cs) = if is_underscore c then has_digit radix cs else is_digit c radix

-- whether one of the digits that a text begins with is none of the base
abbrev pub has_other_digit : ℕ → ℕ → List ℕ → Bool
has_other_digit radix base [] = false
has_other_digit radix base (c ∷ cs) =
    if is_underscore c then has_other_digit radix base cs
    else (if is_digit c radix then nat_le base (digit_value c) || has_other_digit radix base cs
    else false)

-- the number n with the digits that a text begins with behind its own, in this base
abbrev pub number_from : ℕ → ℕ → ℕ → List ℕ → ℕ
number_from radix base n [] = n
number_from radix base n (c ∷ cs) =
    if is_underscore c then number_from radix base n cs
    else (if is_digit c radix then number_from radix base (base * n + digit_value c) cs
    else n)

-- the number, where it has at most 128 bits
abbrev pub in_128_bits : ℕ → Option ℕ
in_128_bits n = if nat_lt n (2 ^ 128) then Some n else None

-- a suffix is an identifier that follows directly
abbrev pub suffix_of : List ℕ → List ℕ
suffix_of cs = if first_passes is_name_start cs then name_of cs else []

-- what stands behind a suffix
abbrev pub behind_suffix : List ℕ → List ℕ
behind_suffix cs = if first_passes is_name_start cs then behind_name cs else cs

-- the letter that begins an exponent
abbrev pub is_exponent_letter : ℕ → Bool
is_exponent_letter c = is_one_of (codes "eE") c

-- a sign
abbrev pub is_sign : ℕ → Bool
is_sign c = is_one_of (codes "+-") c

-- the text behind a sign, if it begins with one
abbrev pub behind_sign : List ℕ → List ℕ
behind_sign cs = if first_passes is_sign cs then drop 1 cs else cs

-- whether a text begins with an exponent: its letter, a sign or none, and digits and underscores with at least one digit
abbrev pub has_exponent : List ℕ → Bool
has_exponent cs = first_passes is_exponent_letter cs && has_digit 10 (behind_sign (drop 1 cs))

-- what stands behind an exponent
abbrev pub behind_exponent : List ℕ → List ℕ
behind_exponent cs = behind_digits 10 (behind_sign (drop 1 cs))

-- an integer, behind whose digits this stands; its suffix does not begin with `e` or `E`
abbrev pub integer_at : List ℕ → Option ℕ → Bool → List ℕ → Begins
integer_at text value decimal behind =
    if first_passes is_exponent_letter behind then breaks 2 text
    else token (Integer value (encode_utf8_all (suffix_of behind)) decimal) (behind_suffix behind)

-- the first of these cases that holds decides on an integer of a base with a prefix, behind which this stands
abbrev pub based_cases : ℕ → ℕ → List ℕ → List ℕ → List (Bool × Begins)
based_cases radix base text inside =
    -- one digit is needed
    (not (has_digit radix inside), breaks 2 text) ∷
    -- a decimal digit that the base lacks
    (has_other_digit radix base inside, breaks 2 text) ∷ []

-- else it is an integer
abbrev pub based_at : ℕ → ℕ → List ℕ → List ℕ → Begins
based_at radix base text inside =
    first_case (based_cases radix base text inside) (integer_at text (in_128_bits (number_from radix base 0 inside)) false (behind_digits radix inside))

-- a float, behind whose digits or exponent this stands, and its suffix
abbrev pub float_at : List ℕ → Begins
float_at behind = token Float (behind_suffix behind)

-- the first of these cases that holds decides on what stands behind the digits behind a `.`
abbrev pub fraction_cases : List ℕ → List ℕ → List (Bool × Begins)
fraction_cases text behind =
    -- an exponent
    (has_exponent behind, float_at (behind_exponent behind)) ∷
    -- without an exponent a suffix does not begin with `e` or `E`
    (first_passes is_exponent_letter behind, breaks 2 text) ∷ []

-- a decimal integer and a `.`, behind which this stands: digits may follow
abbrev pub fraction_at : List ℕ → List ℕ → Begins
fraction_at text inside = first_case (fraction_cases text (behind_digits 10 inside)) (float_at (behind_digits 10 inside))

-- a `.` that no `.`, `_` or identifier follows
abbrev pub is_point : List ℕ → Bool
is_point cs = begins_with (codes ".") cs && not (first_passes (λ c. is_one_of (codes ".") c || is_name_start c) (drop 1 cs))

-- the first of these cases that holds decides on what stands behind a decimal integer
abbrev pub decimal_cases : List ℕ → List ℕ → List (Bool × Begins)
decimal_cases text behind =
    -- a `.`
    (is_point behind, fraction_at text (drop 1 behind)) ∷
    -- an exponent
    (has_exponent behind, float_at (behind_exponent behind)) ∷ []

-- else it is an integer
abbrev pub decimal_at : List ℕ → Begins
decimal_at text =
    first_case (decimal_cases text (behind_digits 10 text)) (integer_at text (in_128_bits (number_from 10 10 0 text)) true (behind_digits 10 text))

-- the first of these cases that holds decides on a number whose first digit is c
abbrev pub number_cases : ℕ → List ℕ → List (Bool × Begins)
number_cases c cs =
    -- a hexadecimal integer
    (begins_with (codes "0x") (c ∷ cs), based_at 16 16 (c ∷ cs) (drop 1 cs)) ∷
    -- an octal integer
    (begins_with (codes "0o") (c ∷ cs), based_at 10 8 (c ∷ cs) (drop 1 cs)) ∷
    -- a binary integer
    (begins_with (codes "0b") (c ∷ cs), based_at 10 2 (c ∷ cs) (drop 1 cs)) ∷ []

-- else it is decimal
abbrev pub number_at : ℕ → List ℕ → Begins
number_at c cs = first_case (number_cases c cs) (decimal_at (c ∷ cs))
