-- The options at the end of a command line: the width of `usize` and `isize`, and the edition.
use Rattle.std.specs.Prelude.{List, [], ◌∷◌, ℕ, Option, Some, None, option_map, codes, if◌then◌else◌, String, string_bytes}
use Rattle.std.specs.Str.{bytes_eq}
use Rattle.std.specs.Option.{option_or}
use Rattle.std.specs.declared.alloc.Global.{Global}
use Rattle.pattern_rules.specs.declared.Edition.{Edition}
use Rattle.pattern_rules.specs.declared.Edition.TheVariants.{E2021, E2024}
use Rattle.match_model.specs.declared.Width.{Width}
use Rattle.match_model.specs.declared.Width.TheVariants.{Endless, Bits16, Bits32, Bits64}
use Rattle.match_top.specs.declared.option_words.Options.{Options}

-- the width that a word names, by its bits
abbrev pub width_of : List ℕ → Option Width
width_of word =
    if bytes_eq word (codes "16") then Some Bits16
    else (if bytes_eq word (codes "32") then Some Bits32
    else (if bytes_eq word (codes "64") then Some Bits64 else None))

-- the edition that a word names, by its year
abbrev pub edition_of : List ℕ → Option Edition
edition_of word =
    if bytes_eq word (codes "2021") then Some E2021
    else (if bytes_eq word (codes "2024") then Some E2024 else None)

-- `--width` and a width
abbrev pub width_option : (name word : List ℕ) → Option Width
width_option name word = if bytes_eq name (codes "--width") then width_of word else None

-- `--edition` and an edition
abbrev pub edition_option : (name word : List ℕ) → Option Edition
edition_option name word = if bytes_eq name (codes "--edition") then edition_of word else None

-- a width and an edition
abbrev pub options_with : Width → Edition → Options
options_with width edition = record { width = width; edition = edition }

-- the width without an edition, or the edition without a width. An edition that is not told is 2024, and a width that is not
-- told is none
abbrev pub either_option : Option Width → Option Edition → Option Options
either_option width edition =
    option_or (option_map (λ w. options_with w E2024) width) (option_map (options_with Endless) edition)

-- both
abbrev pub both_options : Option Width → Option Edition → Option Options
both_options (Some width) (Some edition) = Some (options_with width edition)
both_options None edition = None
both_options width None = None

-- what options say: none, `--width` and a width, `--edition` and an edition, or a width and behind it an edition; no
-- other words are options
abbrev pub options_of : List (String Global) → Option Options
options_of [] = Some (options_with Endless E2024)
options_of (name ∷ word ∷ []) =
    either_option (width_option (string_bytes name) (string_bytes word))
    (edition_option (string_bytes name) (string_bytes word))
options_of (name ∷ word ∷ other ∷ last ∷ []) =
    both_options (width_option (string_bytes name) (string_bytes word))
    (edition_option (string_bytes other) (string_bytes last))
options_of words = None
