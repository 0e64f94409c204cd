-- The alternatives that were chosen on the way to a row, however they are kept.
use Rattle.std.specs.Prelude.{ℕ, List, [], ◌∷◌}
use Rattle.std.specs.Rc.{rc_slice_items}
use Rattle.pattern_matrix.specs.declared.chosen.Chosen.{Chosen}
use Rattle.pattern_matrix.specs.declared.chosen.Chosen.TheVariants.{Nothing, One, Several}

-- their uids, in order
abbrev pub kept_chosen : Chosen → List ℕ
kept_chosen Nothing = []
kept_chosen (One uid) = uid ∷ []
kept_chosen (Several list) = rc_slice_items list
