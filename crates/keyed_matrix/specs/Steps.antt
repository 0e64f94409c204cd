-- Steps of rows at a column.
use Rattle.std.specs.Prelude.{ℕ, ◌<◌, Bool, not, List, [], ◌∷◌, map, drop, length, Some}
use Rattle.std.specs.List.{All, list_all}
use Rattle.match_model.specs.Constructors.{MCtor}
use Rattle.match_model.specs.Lowering.{ctors_at}
use Rattle.match_model.specs.Places.{MStep}
use Rattle.match_model.specs.Matrices.{MRow}
use Rattle.match_model.specs.Rows.{Head, Choice, starts_or}
use Rattle.match_model.specs.Steps.{Replacement, expand_head, replacements_at, row_replaced, replaced_at}

-- the row once for each thing that stands in place of its head at the column
abbrev pub row_at : {T : Type 0} → (Head T → List (Replacement T)) → List MStep → (i : ℕ) → MRow T → List (MRow T)
row_at f place i r = map (row_replaced place r) (replacements_at f i r.heads)

-- what stands in place of a head where this was chosen
abbrev pub chosen_one : {T : Type 0} → Choice T → Replacement T
chosen_one c = record { heads = Some c.pat ∷ []; chosen = c.chosen; binds = c.binds }

-- the replacement in place of head `i` of these
abbrev pub put_at : {T : Type 0} → (i : ℕ) → List (Head T) → Replacement T → Replacement T
put_at i heads y = record y { heads = replaced_at i heads y.heads }

-- the row once for each of the choices at the column
abbrev pub chosen_rows : {T : Type 0} → List MStep → (i : ℕ) → MRow T → List (Choice T) → List (MRow T)
chosen_rows place i r cs = map (λ c. row_replaced place r (put_at i r.heads (chosen_one c))) cs

-- each row has more heads than the number says
abbrev pub AreLonger : {T : Type 0} → (i : ℕ) → List (MRow T) → Type 0
AreLonger i rows = All (λ r. i < length r.heads) rows

-- the constructors of the row in the column, once its or-pattern there is taken apart
abbrev pub row_ctors : {T : Type 0} → (i : ℕ) → MRow T → List MCtor
row_ctors i r = ctors_at i (row_at expand_head [] i r)

-- no row has an or-pattern in the column
abbrev pub are_apart : {T : Type 0} → (i : ℕ) → List (MRow T) → Bool
are_apart i rows = list_all (λ r. not (starts_or (drop i r.heads))) rows
