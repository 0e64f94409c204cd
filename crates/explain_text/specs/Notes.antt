-- The notes on a finding.
use Rattle.std.specs.Prelude.{ℕ, zero, suc, ◌-◌, List, [], ◌∷◌, ◌++◌, length, map, take, Bool, false, if◌then◌else◌, Option, Some, None, slice_get, codes, decimal}
use Rattle.explain_places.specs.declared.bodies.End.{End}
use Rattle.explain_places.specs.declared.spans.Place.{Place}
use Rattle.explain_places.specs.declared.spans.Place.TheVariants.{Nowhere}
use Rattle.explain_text.specs.declared.diagnostics.NoteLevel.{NoteLevel}
use Rattle.explain_text.specs.declared.diagnostics.NoteLevel.TheVariants.{Help}
use Rattle.explain_text.specs.declared.diagnostics.NoteLevel.TheVariants as levels
use Rattle.explain_text.specs.Diagnostics.{NoteTree}
use Rattle.explain_text.specs.Findings.{KindTree, OfMissing, OfUnreached, OfOverlap, OfRefused, OfFileRefused}
use Rattle.explain_text.specs.Messages.{phrase_text, quoted_text}
use Rattle.rule_texts.specs.Rules.{PhraseTree, help_of}

-- how many missing cases, and how many arms to add, are shown
abbrev pub most_cases : ℕ
most_cases = 8

abbrev pub most_arms : ℕ
most_arms = 16

-- words alone
abbrev pub words_note : NoteLevel → List ℕ → NoteTree
words_note level text = record { level = level; text = text; place = Nowhere; comma = false; lines = [] }

-- a missing case
abbrev pub case_note : List ℕ → NoteTree
case_note witness = words_note Help (quoted_text (codes "add an arm for `") witness (codes "`"))

-- how many are not shown
abbrev pub more_notes : ℕ → List NoteTree
more_notes zero = []
more_notes (suc n) = words_note Help (codes "and for " ++ (decimal (suc n) ++ codes " more")) ∷ []

-- missing cases, the first ones by name
abbrev pub case_notes : List (List ℕ) → List NoteTree
case_notes witnesses = map case_note (take most_cases witnesses) ++ more_notes (length witnesses - most_cases)

-- how many there are
unfoldable pub count_text : List ℕ → ℕ → List ℕ
count_text function count = codes "the match of `" ++ (function ++ (codes "` leaves cases out: " ++ decimal count))

abbrev pub count_note : List ℕ → ℕ → NoteTree
count_note function count = words_note levels.Note (count_text function count)

-- what arms to add do, as rustc says it
abbrev pub arms_text : List (List ℕ) → List ℕ
arms_text [] = []
arms_text (a ∷ []) =
    codes "ensure that all possible cases are being handled by adding a match arm with an explicit pattern as shown"
arms_text (a ∷ b ∷ others) =
    codes "ensure that all possible cases are being handled by adding multiple match arms as shown"

-- an arm to add
abbrev pub arm_line : List ℕ → List ℕ
arm_line pattern = pattern ++ codes " => todo!(),"

-- an arm for so many that are not shown
abbrev pub rest_lines : ℕ → List (List ℕ)
rest_lines zero = []
rest_lines (suc n) = (codes "_ => todo!(), // the other cases: " ++ decimal (suc n)) ∷ []

-- arms to add, the first ones by their patterns
abbrev pub arm_lines : List (List ℕ) → List (List ℕ)
arm_lines arms = map arm_line (take most_arms arms) ++ rest_lines (length arms - most_arms)

-- arms to add there
abbrev pub arms_note : End → List (List ℕ) → NoteTree
arms_note end arms = record { level = Help; text = arms_text arms; place = end.place; comma = end.comma; lines = arm_lines arms }

-- what is missing of a match, and the arms to add to it where the report tells them
abbrev pub missing_notes : List ℕ → End → List (List ℕ) → List (List ℕ) → List NoteTree
missing_notes function end witnesses [] = case_notes witnesses ++ count_note function (length witnesses) ∷ []
missing_notes function end witnesses (a ∷ arms) = count_note function (length witnesses) ∷ arms_note end (a ∷ arms) ∷ []

-- the arms of the function of this number
abbrev pub arms_or_none : Option (List (List ℕ)) → List (List ℕ)
arms_or_none (Some arms) = arms
arms_or_none None = []

abbrev pub arms_at : List (List (List ℕ)) → ℕ → List (List ℕ)
arms_at all number = arms_or_none (slice_get all number)

-- what no value reaches
abbrev pub unreached_words : Bool → List ℕ
unreached_words whole = if whole then codes "` reaches this arm" else codes "` reaches this alternative"

-- where the other range stands
abbrev pub range_note : Place → NoteTree
range_note other = record { level = levels.Note; text = codes "... with this range"; place = other; comma = false; lines = [] }

-- that a rule is broken
unfoldable pub rule_words : ℕ → List ℕ → List ℕ
rule_words rule name = codes " breaks rule " ++ (decimal rule ++ quoted_text (codes " (") name (codes ")"))

-- what can be done at what has this name, where there is advice
abbrev pub help_notes : List ℕ → Option PhraseTree → List NoteTree
help_notes name (Some phrase) = words_note Help (phrase_text name phrase) ∷ []
help_notes name None = []

-- that a rule is broken at what has this name, and what can be done
abbrev pub broken_notes : List ℕ → ℕ → List ℕ → List NoteTree
broken_notes text rule name = words_note levels.Note text ∷ help_notes name (help_of rule)

-- the notes on a finding at what has this name, by the arms to add to each function
abbrev pub notes_of : List (List (List ℕ)) → List ℕ → KindTree → List NoteTree
notes_of arms name (OfMissing function number end witnesses) = missing_notes function end witnesses (arms_at arms number)
notes_of arms name (OfUnreached function whole) =
    words_note levels.Note (quoted_text (codes "no value of the match of `") function (unreached_words whole)) ∷ []
notes_of arms name (OfOverlap function other value) =
    range_note other ∷ words_note levels.Note (codes "you likely meant to write mutually exclusive ranges") ∷ []
notes_of arms name (OfRefused function rule rule_name) =
    broken_notes (quoted_text (codes "`") function (codes "`") ++ rule_words rule rule_name) rule name
notes_of arms name (OfFileRefused rule rule_name) = broken_notes (codes "the file" ++ rule_words rule rule_name) rule name
