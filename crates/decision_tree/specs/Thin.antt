-- Rows without wildcards that bind nothing, which are as wildcards that no pattern wrote (our own choice).
use Rattle.std.specs.Prelude.{Bool, true, false, List, [], map, cond, Some, None}
use Rattle.match_model.specs.ArenaPatterns.{MDePat, de_pat, no_de_pats}
use Rattle.match_model.specs.Constructors.{WildCtor}
use Rattle.match_model.specs.Matrices.{MRow}
use Rattle.match_model.specs.Rows.{Head}

-- the pattern is a wildcard that binds nothing
abbrev pub is_blank : {T : Type 0} → MDePat T → Bool
is_blank (de_pat WildCtor t uid at no_de_pats []) = true
is_blank _ = false

-- the head is such a pattern
abbrev pub is_blank_head : {T : Type 0} → Head T → Bool
is_blank_head None = false
is_blank_head (Some p) = is_blank p

-- the head, or none where it is such a wildcard
abbrev pub thin_head : {T : Type 0} → Head T → Head T
thin_head None = None
thin_head (Some p) = cond (is_blank p) None (Some p)

-- the row with such heads
abbrev pub thin_row : {T : Type 0} → MRow T → MRow T
thin_row r = record r { heads = map thin_head r.heads }

-- the rows
abbrev pub thin_rows : {T : Type 0} → List (MRow T) → List (MRow T)
thin_rows rows = map thin_row rows
