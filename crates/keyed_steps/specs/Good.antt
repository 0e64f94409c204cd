-- Well-formed keyed matrices.
use Rattle.std.specs.Prelude.{◌≡◌, ⊤, ℕ, true, List, [], ◌∷◌, map, Some, None}
use Rattle.match_model.specs.Contexts.{Context}
use Rattle.match_model.specs.ArenaPatterns.{de_pat}
use Rattle.match_model.specs.Made.{IsMadePat}
use Rattle.match_model.specs.Places.{MStep, ThroughStep, FieldStep, FrontStep, BackStep, MiddleStep}
use Rattle.match_model.specs.Rows.{Head}
use Rattle.match_model.specs.Matrices.{MColumn, MRow}
use Rattle.match_model.specs.WellTyped.{AreHeadsTyped, heads_names_differ}
use Rattle.match_model.specs.Keys.{Decision}
use Rattle.match_model.specs.Lists.{Every}
use Rattle.keyed_rows.specs.Dividing.{AreFree, GoodAt}
use Rattle.match_model.specs.RowOrder.{row_key}
use Rattle.keyed_steps.specs.Fits.{IsPlain}

-- no step of the place goes to middle items
abbrev pub IsStraight : List MStep → Type 0
IsStraight [] = ⊤
IsStraight (ThroughStep ∷ place) = IsStraight place
IsStraight (FieldStep k i ∷ place) = IsStraight place
IsStraight (FrontStep i ∷ place) = IsStraight place
IsStraight (BackStep i ∷ place) = IsStraight place
IsStraight (MiddleStep f b ∷ place) = ⊥

-- the ranges in the head can be held
abbrev pub IsMadeHead : {T : Type 0} → Head T → Type 0
IsMadeHead None = ⊤
IsMadeHead (Some p) = IsMadePat p

-- the head is no or-pattern
abbrev pub IsPlainHead : {T : Type 0} → Head T → Type 0
IsPlainHead None = ⊤
IsPlainHead (Some (de_pat c t uid at subs binds)) = IsPlain c

-- a row: well typed, with names that differ, or-patterns with numbers that are not decided, and constructors that are made
pub record IsGoodRow {T : Type 0} (cx : Context T) (decides : ℕ → Decision) (columns : List (MColumn T))
    (r : MRow T) : Type 0 where
  pub typed : AreHeadsTyped cx columns r.heads
  pub names : heads_names_differ (map (λ b. b.name) r.caught) r.heads ≡ true
  pub free : AreFree decides (row_key decides r) 0 r.heads
  pub made : Every (IsMadeHead) r.heads

-- a column: of a type of the context, at a place without middle items
pub record IsGoodColumn {T : Type 0} (IsType : T → Type 0) (c : MColumn T) : Type 0 where
  pub type : IsType c.type
  pub straight : IsStraight c.place

pub record IsGood {T : Type 0} (IsType : T → Type 0) (cx : Context T) (decides : ℕ → Decision)
    (columns : List (MColumn T)) (rows : List (MRow T)) : Type 0 where
  pub columns_are : Every (IsGoodColumn IsType) columns
  pub rows_are : Every (IsGoodRow cx decides columns) rows

-- the same, and no or-pattern in column `i`
pub record IsReady {T : Type 0} (IsType : T → Type 0) (cx : Context T) (decides : ℕ → Decision) (i : ℕ)
    (columns : List (MColumn T)) (rows : List (MRow T)) : Type 0 where
  pub good : IsGood IsType cx decides columns rows
  pub plain : Every (λ r. GoodAt IsPlainHead i r.heads) rows
