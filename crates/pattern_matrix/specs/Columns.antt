-- Open columns as the definitions have them.
use Rattle.std.specs.Prelude.{List, map}
use Rattle.match_model.specs.Contexts.{Open}
use Rattle.pat_context.specs.Views.{is_sure}
use Rattle.pattern_matrix.specs.declared.rows.Column.{Column}

-- the open place of a column
abbrev pub plain_column : {T : Type 0} → Column T → Open T
plain_column c = record { type = c.ty; sure = is_sure c.validity }

-- the open places of the columns
abbrev pub plain_columns : {T : Type 0} → List (Column T) → List (Open T)
plain_columns columns = map plain_column columns
