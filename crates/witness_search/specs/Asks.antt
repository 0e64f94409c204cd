-- What is asked of rows, and what is known of those that were asked for.
use Rattle.std.specs.Prelude.{◌≡◌, ℕ, Bool, List, map, reverse}
use Rattle.match_model.specs.Values.{MValue}
use Rattle.match_model.specs.Contexts.{Context, Open}
use Rattle.match_model.specs.ArenaPatterns.{MDePat, MDeArm}
use Rattle.match_model.specs.Made.{AreArmsMade}
use Rattle.pattern_matrix.specs.Columns.{plain_column}
use Rattle.pattern_matrix.specs.Sparse.{SparseRow}
use Rattle.usefulness.specs.Covering.{covered_arms, AreCovered}
use Rattle.witness_search.specs.declared.asking.Asks.{Asks}
use Rattle.witness_search.specs.declared.opened.Opened.{Opened}

-- the open places with their numbers, the one that is looked at first standing first
abbrev pub shown_of : {T : Type 0} → List (Opened T) → List (ℕ × Open T)
shown_of opened = map (λ o. (o.number, plain_column o.column)) (reverse opened)

-- the heads that the rows list
abbrev pub listed_of : {T : Type 0} → List (SparseRow T) → List (List (ℕ × MDePat T))
listed_of rows = map (λ r. r.heads) rows

-- what is known of the rows that were asked for is right; they are of these arms, whose ranges can be held
pub record AreAsks {T : Type 0} (IsType : T → Type 0) (IsValue : T → Bool → MValue → Type 0) (cx : Context T) (arms : List (MDeArm T)) (asks : Asks T) : Type 0 where
  pub known : AreCovered IsType IsValue cx asks.covered
  pub same : covered_arms asks.covered ≡ arms
  pub made : AreArmsMade arms
