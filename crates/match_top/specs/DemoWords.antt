-- The words that ask for the counts of a generated file.
use Rattle.std.specs.Prelude.{◌≡◌, ◌<◌, ◌≤◌, List, [], ◌∷◌, ℕ, codes, String, string_bytes}
use Rattle.std.specs.Fmt.{decimal}
use Rattle.std.specs.declared.alloc.Global.{Global}
use Rattle.pattern_rules.specs.declared.Edition.TheVariants.{E2024}
use Rattle.match_model.specs.declared.Width.TheVariants.{Endless}
use Rattle.match_top.specs.OptionWords.{options_with}
use Rattle.match_top.specs.Words.{RequestForm, CountsForm}

-- how many items a generated file has at most (our own choice)
abbrev pub most_items : ℕ
most_items = 200

-- the word is the number of a generated file's items, in decimal: without a sign, and without a 0 in front
abbrev pub IsDemoNumber : (word : List ℕ) → (n : ℕ) → Type 0
IsDemoNumber word n = (word ≡ decimal n) × (0 < n) × (n ≤ most_items)

-- `demo N`
abbrev pub IsDemo : List (String Global) → (n : ℕ) → Type 0
IsDemo (name ∷ number ∷ []) n = (string_bytes name ≡ codes "demo") × IsDemoNumber (string_bytes number) n
IsDemo words n = ⊥

-- what they ask of that file: the counts in its report. There are no options
abbrev pub counts_request : RequestForm
counts_request = record { question = CountsForm; options = options_with Endless E2024 }
