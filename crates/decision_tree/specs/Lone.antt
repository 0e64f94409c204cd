-- Rows without what was decided of an arm that has only one of them (our own choice).
use Rattle.std.specs.Prelude.{ℕ, suc, Bool, List, [], ◌∷◌, map, nat_eq, nat_lt, cond}
use Rattle.match_model.specs.Matrices.{MRow}

-- how many of the rows have the arm
abbrev pub arm_count : {T : Type 0} → ℕ → List (MRow T) → ℕ
arm_count arm [] = 0
arm_count arm (r ∷ rows) = cond (nat_eq r.arm arm) (suc (arm_count arm rows)) (arm_count arm rows)

-- the arm has one row at most
abbrev pub is_alone : {T : Type 0} → ℕ → List (MRow T) → Bool
is_alone arm rows = nat_lt (arm_count arm rows) 2

-- the row without what it has chosen
abbrev pub emptied : {T : Type 0} → MRow T → MRow T
emptied r = record r { chosen = [] }

-- the row without that, where it is alone in its arm
abbrev pub lone_row : {T : Type 0} → List (MRow T) → MRow T → MRow T
lone_row rows r = cond (is_alone r.arm rows) (emptied r) r

-- the rows, each without what it has chosen where it is alone in its arm
abbrev pub lone : {T : Type 0} → List (MRow T) → List (MRow T)
lone rows = map (lone_row rows) rows
