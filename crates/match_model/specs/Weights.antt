-- Weights of patterns and rows, by which the steps of a matrix end (our own choice).
use Rattle.std.specs.Prelude.{◌≡◌, ◌≤◌, ◌<◌, ◌⊎◌, ℕ, ◌+◌, ◌*◌, List, [], ◌∷◌, length, false, IsTrue, Some, None}
use Rattle.std.specs.List.{list_any, list_all}
use Rattle.match_model.specs.Constructors.{MCtor, WildCtor, OrCtor}
use Rattle.match_model.specs.ArenaPatterns.{MDePat, de_pat, MDePats, no_de_pats, more_de_pats}
use Rattle.match_model.specs.Rows.{Head}
use Rattle.match_model.specs.Places.{MStep}
use Rattle.match_model.specs.Matrices.{MRow, MMatrix, expand_rows, first_wild, first_or, specialised_rows, default_rows}

-- a wildcard weighs 1; an or-pattern 1 more than its alternatives together; any other pattern 1 more than the product of
-- its parts
abbrev pub weight_by : MCtor → (together product : ℕ) → ℕ
weight_by WildCtor together product = 1
weight_by OrCtor together product = 1 + together
weight_by _ together product = 1 + product

abbrev mutual
  -- the weight of a pattern
  pub weight : {T : Type 0} → MDePat T → ℕ
  weight (de_pat c t uid at subs binds) = weight_by c (weights_together subs) (weights_product subs)

  -- the weights of the patterns together
  pub weights_together : {T : Type 0} → MDePats T → ℕ
  weights_together no_de_pats = 0
  weights_together (more_de_pats p ps) = weight p + weights_together ps

  -- the product of the weights of the patterns
  pub weights_product : {T : Type 0} → MDePats T → ℕ
  weights_product no_de_pats = 1
  weights_product (more_de_pats p ps) = weight p * weights_product ps

-- the weight of a head; one that wrote nothing weighs what a wildcard does
abbrev pub head_weight : {T : Type 0} → Head T → ℕ
head_weight None = 1
head_weight (Some p) = weight p

-- the weight of a row: the product of its heads'
abbrev pub heads_weight : {T : Type 0} → List (Head T) → ℕ
heads_weight [] = 1
heads_weight (h ∷ heads) = head_weight h * heads_weight heads

-- the weight of rows: that of all together
abbrev pub rows_weight : {T : Type 0} → List (MRow T) → ℕ
rows_weight [] = 0
rows_weight (r ∷ rows) = heads_weight r.heads + rows_weight rows

-- the first matrix is smaller: its rows weigh less, or weigh the same and have fewer columns
abbrev pub IsSmaller : {T : Type 0} → MMatrix T → MMatrix T → Type 0
IsSmaller m n =
    (rows_weight m.rows < rows_weight n.rows)
    ⊎ ((rows_weight m.rows ≡ rows_weight n.rows) × (length m.columns < length n.columns))

-- no step of a matrix adds weight. Or-patterns that are expanded, and a constructor by which rows are specialised, take
-- some; where the first column has neither, the default rows have a column less
pub record StepsLowerWeights (T : Type 0) : Type 0 where
  pub expanded : (place : List MStep) (rows : List (MRow T)) → rows_weight (expand_rows place rows) ≤ rows_weight rows
  pub fewer_ors : (place : List MStep) (rows : List (MRow T)) → IsTrue (list_any first_or rows) →
      rows_weight (expand_rows place rows) < rows_weight rows
  pub specialised : (place : List MStep) (piece : MCtor) (n : ℕ) (rows : List (MRow T)) →
      rows_weight (specialised_rows place piece n rows) ≤ rows_weight rows
  pub fewer_ctors : (place : List MStep) (piece : MCtor) (n : ℕ) (rows : List (MRow T)) → list_all first_wild rows ≡ false →
      rows_weight (specialised_rows place piece n rows) < rows_weight rows
  pub default : (place : List MStep) (rows : List (MRow T)) → rows_weight (default_rows place rows) ≤ rows_weight rows
