-- What a finding says: its code, its title, and its label at its place.
use Rattle.std.specs.Prelude.{ℕ, ◌-◌, List, [], ◌∷◌, ◌++◌, length, Bool, true, false, if◌then◌else◌, Option, Some, None, codes, decimal, nat_le}
use Rattle.explain_places.specs.declared.spans.Place.{Place}
use Rattle.explain_places.specs.declared.spans.Place.TheVariants.{Nowhere, There, Lost}
use Rattle.rule_texts.specs.Rules.{PhraseTree, IsPlain, IsNamed, label_of, title_of}
use Rattle.explain_text.specs.Findings.{KindTree, OfMissing, OfUnreached, OfOverlap, OfRefused, OfFileRefused}
use Rattle.explain_text.specs.Shown.{marked_part}

-- the finding breaks a build
abbrev pub is_error : KindTree → Bool
is_error (OfMissing function number end witnesses) = true
is_error (OfUnreached function whole) = false
is_error (OfOverlap function other value) = false
is_error (OfRefused function rule name) = true
is_error (OfFileRefused rule name) = true

-- a short name of what is found
abbrev pub code_text : KindTree → List ℕ
code_text (OfMissing function number end witnesses) = codes "non-exhaustive-patterns"
code_text (OfUnreached function whole) = codes "unreachable-pattern"
code_text (OfOverlap function other value) = codes "overlapping-range-endpoints"
code_text (OfRefused function rule name) = name
code_text (OfFileRefused rule name) = name

-- a phrase around a text
unfoldable pub quoted_text : List ℕ → List ℕ → List ℕ → List ℕ
quoted_text front text back = front ++ (text ++ back)

-- a text as code
abbrev pub ticked : List ℕ → List ℕ
ticked text = quoted_text (codes "`") text (codes "`")

-- two cases
unfoldable pub two_cases : List ℕ → List ℕ → List ℕ
two_cases a b = ticked a ++ (codes " and " ++ ticked b)

-- three cases
unfoldable pub three_cases : List ℕ → List ℕ → List ℕ → List ℕ
three_cases a b c = ticked a ++ (codes ", " ++ two_cases b c)

-- so many others
abbrev pub others_text : ℕ → List ℕ
others_text more = codes " and " ++ (decimal more ++ codes " more")

-- three cases, and so many others
unfoldable pub many_cases : List ℕ → List ℕ → List ℕ → ℕ → List ℕ
many_cases a b c more = ticked a ++ (codes ", " ++ (ticked b ++ (codes ", " ++ (ticked c ++ others_text more))))

-- cases, the first three by name
abbrev pub cases_text : List (List ℕ) → List ℕ
cases_text [] = codes "some values"
cases_text (a ∷ []) = ticked a
cases_text (a ∷ b ∷ []) = two_cases a b
cases_text (a ∷ b ∷ c ∷ []) = three_cases a b c
cases_text (a ∷ b ∷ c ∷ d ∷ others) = many_cases a b c (length (d ∷ others))

-- one pattern or several
abbrev pub pattern_word : List (List ℕ) → List ℕ
pattern_word [] = []
pattern_word (a ∷ []) = codes "pattern "
pattern_word (a ∷ b ∷ others) = codes "patterns "

-- which cases are not covered
unfoldable pub uncovered_text : List ℕ → List (List ℕ) → List ℕ
uncovered_text front witnesses = front ++ (cases_text witnesses ++ codes " not covered")

-- what is shown of a part of a text on its first line
abbrev pub part_name : List ℕ → ℕ → ℕ → List ℕ
part_name text at to = if nat_le at (length text) then marked_part text at to else []

-- the same of a place of the file, whose byte order mark has so many bytes
abbrev pub place_name : List ℕ → ℕ → Place → List ℕ
place_name text mark (There s) = part_name text (s.from - mark) (s.to - mark)
place_name text mark Nowhere = []
place_name text mark Lost = []

-- a phrase on what has this name
unfoldable pub named_text : List ℕ → List ℕ → List ℕ → List ℕ
named_text front name back = front ++ (ticked name ++ back)

abbrev pub phrase_text : List ℕ → PhraseTree → List ℕ
phrase_text name (IsPlain words) = words
phrase_text name (IsNamed front back) = named_text front name back

-- the words on what has this name, where there are some
abbrev pub words_or : List ℕ → Option PhraseTree → List ℕ
words_or name (Some phrase) = phrase_text name phrase
words_or name None = codes "no rule has this number"

-- what is found at what has this name
abbrev pub title_text : List ℕ → KindTree → List ℕ
title_text name (OfMissing function number end witnesses) = uncovered_text (codes "non-exhaustive patterns: ") witnesses
title_text name (OfUnreached function whole) = codes "unreachable pattern"
title_text name (OfOverlap function other value) = codes "multiple patterns overlap on their endpoints"
title_text name (OfRefused function rule rule_name) = words_or name (title_of rule)
title_text name (OfFileRefused rule rule_name) = words_or name (title_of rule)

-- what is said at its place
abbrev pub label_text : List ℕ → KindTree → List ℕ
label_text name (OfMissing function number end witnesses) = uncovered_text (pattern_word witnesses) witnesses
label_text name (OfUnreached function whole) = codes "no value can reach this"
label_text name (OfOverlap function other value) = quoted_text (codes "this range overlaps on `") value (codes "`...")
label_text name (OfRefused function rule rule_name) = words_or name (label_of rule)
label_text name (OfFileRefused rule rule_name) = words_or name (label_of rule)
