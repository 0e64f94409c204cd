-- The laws of the grammar.
use Rattle.std.specs.Prelude.{◌≡◌, ℕ, true, List, ◌⊎◌}
use Rattle.value_syntax.specs.Trees.{WrittenTree}
use Rattle.value_syntax.specs.Grammar.{IsWritten}
use Rattle.value_syntax.specs.Texts.{written_text}
use Rattle.value_syntax.specs.Canonical.{IsCanonical, value_fits}

-- a text spells at most one value
abbrev pub OneWritten : Type 0
OneWritten = (text : List ℕ) (w u : WrittenTree) → IsWritten text w → IsWritten text u → w ≡ u

-- a text spells a value, or it spells none
abbrev pub WrittenOrNot : Type 0
WrittenOrNot = (text : List ℕ) → ((w : WrittenTree) × IsWritten text w) ⊎ ((w : WrittenTree) → IsWritten text w → ⊥)

-- a canonical value of at most 64 levels is what its text spells
abbrev pub ReadsBack : Type 0
ReadsBack = (w : WrittenTree) → IsCanonical w → value_fits 64 w ≡ true → IsWritten (written_text w) w
