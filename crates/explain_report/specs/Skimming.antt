-- A JSON text without what stands deep in it: a report says nothing there that is asked for.
use Rattle.std.specs.Prelude.{ℕ, ◌+◌, ◌-◌, ◌^◌, ◌==◌, ◌||◌, min, List, [], ◌∷◌, ◌++◌, nat_lt, Bool, if◌then◌else◌, Option, codes}
use Rattle.std.specs.Str.Lossy.{utf8_lossy}
use Rattle.serde_json.specs.Data.{Data}
use Rattle.serde_json.specs.Read.{read}
use Rattle.explain_report.specs.declared.skim.Mode.{Mode}
use Rattle.explain_report.specs.declared.skim.Mode.TheVariants.{Plain, Quoted, Escaped}
use Rattle.explain_report.specs.declared.skim.Skim.{Skim}

-- how many brackets may be open around a bracket that is kept
abbrev pub most_levels : ℕ
most_levels = 8

-- a place of this kind within so many brackets
abbrev pub skim_at : Mode → ℕ → Skim
skim_at mode depth = record { mode = mode; depth = depth }

-- the byte opens a list or an object
abbrev pub opens : ℕ → Bool
opens byte = byte == 91 || byte == 123

-- the byte closes one
abbrev pub closes : ℕ → Bool
closes byte = byte == 93 || byte == 125

-- behind a byte outside all strings
abbrev pub after_plain : ℕ → ℕ → Skim
after_plain depth byte =
    if byte == 34 then skim_at Quoted depth
    else (if opens byte then skim_at Plain (min (depth + 1) (2 ^ 64 - 1))
    else (if closes byte then skim_at Plain (depth - 1)
    else skim_at Plain depth))

-- behind a byte of a string
abbrev pub after_quoted : ℕ → ℕ → Skim
after_quoted depth byte = if byte == 34 then skim_at Plain depth else (if byte == 92 then skim_at Escaped depth else skim_at Quoted depth)

-- behind a byte, by what stands before it
abbrev pub next_by : Mode → ℕ → ℕ → Skim
next_by Plain depth byte = after_plain depth byte
next_by Quoted depth byte = after_quoted depth byte
next_by Escaped depth byte = skim_at Quoted depth

abbrev pub next_skim : Skim → ℕ → Skim
next_skim skim byte = next_by skim.mode skim.depth byte

-- what is left of a byte: nothing within a bracket that is not kept, `null` for such a bracket
abbrev pub kept_byte : Skim → Skim → ℕ → List ℕ
kept_byte before after byte =
    if nat_lt most_levels before.depth then [] else (if nat_lt most_levels after.depth then codes "null" else byte ∷ [])

-- what is left of the rest of a text
unfoldable pub skimmed_from : Skim → List ℕ → List ℕ
skimmed_from skim [] = []
skimmed_from skim (byte ∷ bytes) = kept_byte skim (next_skim skim byte) byte ++ skimmed_from (next_skim skim byte) bytes

-- before every text
abbrev pub outermost : Skim
outermost = skim_at Plain 0

-- a text with `null` for each list and object that stands within so many others
abbrev pub skimmed : List ℕ → List ℕ
skimmed text = skimmed_from outermost text

-- the JSON that a text is but for what stands deep in it
unfoldable pub read_skimmed : List ℕ → Option Data
read_skimmed text = read (utf8_lossy (skimmed text))
