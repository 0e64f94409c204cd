-- When a text spells a pattern and no other (the Rust Reference, "Patterns"; the limits are our own choice).
use Rattle.std.specs.Prelude.{◌≡◌, ℕ, false, List, []}
use Rattle.decl_lexer.specs.Lexing.{Placed, HasTokens}
use Rattle.decl_syntax.specs.Units.{units}
use Rattle.decl_syntax.specs.Patterns.{PatternTree}
use Rattle.decl_syntax.specs.PatternGrammar.{SpellsPattern}
use Rattle.decl_syntax.specs.Widths.{pattern_is_wide}

-- the tokens of the whole text spell the pattern, and no list of it has more than 256 parts
pub record Spells (text : List ℕ) (p : PatternTree) : Type 0 where
  pub tokens : List Placed
  pub lexed : HasTokens text tokens
  pub spelled : SpellsPattern (units tokens) p []
  pub narrow : pattern_is_wide p ≡ false

-- they spell the pattern, and no other
pub record SpellsAlone (text : List ℕ) (p : PatternTree) : Type 0 where
  pub spells : Spells text p
  pub alone : (q : PatternTree) → Spells text q → q ≡ p
