-- What tells a submatrix of a match from the others (our own choice).
use Rattle.std.specs.Prelude.{◌≡◌, ⊤, ◌⊎◌, ℕ, Bool, List, [], ◌∷◌, map, Option, Some, None}
use Rattle.match_model.specs.ArenaPatterns.{MDePat, de_pat, MDePats, no_de_pats, more_de_pats, uid_of, MDeArm, MDeMatch}
use Rattle.match_model.specs.Contexts.{Context}
use Rattle.match_model.specs.Lists.{Every}
use Rattle.match_model.specs.Matrices.{MColumn, MRow}
use Rattle.match_model.specs.OfType.{type_at_place}
use Rattle.match_model.specs.Places.{MStep}
use Rattle.match_model.specs.Rows.{Head}
use Rattle.match_model.specs.Trees.{MBind}

abbrev mutual
  -- the first pattern is the second, or stands inside it
  pub IsInside : {T : Type 0} → MDePat T → MDePat T → Type 0
  IsInside q (de_pat c t uid at subs binds) = (q ≡ de_pat c t uid at subs binds) ⊎ IsInsideOne q subs

  -- it is one of these, or stands inside one
  pub IsInsideOne : {T : Type 0} → MDePat T → MDePats T → Type 0
  IsInsideOne q no_de_pats = ⊥
  IsInsideOne q (more_de_pats p ps) = IsInside q p ⊎ IsInsideOne q ps

-- it is the pattern of an arm, or stands inside it
abbrev pub IsOfArms : {T : Type 0} → List (MDeArm T) → MDePat T → Type 0
IsOfArms [] q = ⊥
IsOfArms (a ∷ arms) q = IsInside q a.pat ⊎ IsOfArms arms q

-- the head is a wildcard that no pattern wrote, or a pattern of the arms
abbrev pub IsHeadOf : {T : Type 0} → List (MDeArm T) → Head T → Type 0
IsHeadOf arms None = ⊤
IsHeadOf arms (Some p) = IsOfArms arms p

-- the column has the type that stands at its place in the scrutinee
abbrev pub IsTypeThere : {T : Type 0} → Context T → (root : T) → MColumn T → Type 0
IsTypeThere cx root c = type_at_place cx root c.place ≡ Some c.type

-- columns and rows of a match
pub record IsInScope {T : Type 0} (cx : Context T) (m : MDeMatch T) (columns : List (MColumn T))
    (rows : List (MRow T)) : Type 0 where
  pub columns_are : Every (IsTypeThere cx m.type) columns
  pub rows_are : Every (λ r. Every (IsHeadOf m.arms) r.heads) rows

-- what tells a column
pub record MKnownColumn : Type 0 where
  pub place : List MStep
  pub sure : Bool

-- what tells a row: a pattern by its uid
pub record MKnownRow : Type 0 where
  pub heads : List (Option ℕ)
  pub arm : ℕ
  pub guarded : Bool
  pub chosen : List ℕ
  pub caught : List MBind

-- what tells a matrix
pub record MKnownMatrix : Type 0 where
  pub columns : List MKnownColumn
  pub rows : List MKnownRow

-- the uid of the head's pattern
abbrev pub head_uid : {T : Type 0} → Head T → Option ℕ
head_uid None = None
head_uid (Some p) = Some (uid_of p)

abbrev pub known_column : {T : Type 0} → MColumn T → MKnownColumn
known_column c = record { place = c.place; sure = c.sure }

abbrev pub known_row : {T : Type 0} → MRow T → MKnownRow
known_row r = record {
  heads = map head_uid r.heads;
  arm = r.arm;
  guarded = r.guarded;
  chosen = r.chosen;
  caught = r.caught;
}

abbrev pub known_matrix : {T : Type 0} → List (MColumn T) → List (MRow T) → MKnownMatrix
known_matrix columns rows = record { columns = map known_column columns; rows = map known_row rows }
