-- Colours of a terminal (ECMA-48, "Select graphic rendition"), as rustc takes them.
use Rattle.std.specs.Prelude.{List, ℕ, ◌∷◌, ◌++◌, Bool, if◌then◌else◌, codes}
use Rattle.explain_text.specs.declared.styles.Style.{Style}
use Rattle.explain_text.specs.declared.styles.Style.TheVariants as styles

-- what begins a style: bold, and a colour
abbrev pub style_start : Style → List ℕ
style_start styles.Error = 27 ∷ codes "[1;91m"
style_start styles.Warning = 27 ∷ codes "[1;33m"
style_start styles.Note = 27 ∷ codes "[1;92m"
style_start styles.Help = 27 ∷ codes "[1;96m"
style_start styles.Frame = 27 ∷ codes "[1;94m"
style_start styles.Bold = 27 ∷ codes "[1m"

-- what ends each style
abbrev pub style_end : List ℕ
style_end = 27 ∷ codes "[0m"

-- a text in a style, where colours are wanted
unfoldable pub styled : Bool → Style → List ℕ → List ℕ
styled paint style text = if paint then style_start style ++ (text ++ style_end) else text
