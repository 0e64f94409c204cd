-- What tells matrices, and which trees are known, as the definitions have them.
use Rattle.std.specs.Prelude.{ℕ, zero, suc, ◌+◌, Bool, List, [], ◌∷◌, ◌++◌, map, take, drop, replicate, Option, Some, None}
use Rattle.std.specs.List.{flat_map}
use Rattle.match_model.specs.Places.{MStep, FieldStep, FrontStep, MiddleStep}
use Rattle.match_model.specs.Trees.{MBind}
use Rattle.pat_context.specs.Views.{plain_place, is_sure}
use Rattle.decision_tree.specs.declared.known.KnownColumns.{KnownColumns}
use Rattle.decision_tree.specs.declared.known.KnownName.{KnownName}
use Rattle.decision_tree.specs.declared.known.KnownHeads.{KnownHeads}
use Rattle.decision_tree.specs.declared.known.KnownRow.{KnownRow}
use Rattle.decision_tree.specs.declared.known.KnownMatrix.{KnownMatrix}
use Rattle.decision_tree.specs.declared.known.KnownTrees.{KnownTrees}
use Rattle.decision_tree.specs.Known.{MKnownColumn, MKnownRow, MKnownMatrix}

-- the step to the part of the same variant, or to the item from the front, so many after; any other step stays as it is
abbrev pub step_after : MStep → (count : ℕ) → MStep
step_after (FieldStep variant part) n = FieldStep variant (part + n)
step_after (FrontStep item) n = FrontStep (item + n)
step_after step n = step

-- the place whose last step is so many parts or items after that of this one
abbrev pub place_after : List MStep → (count : ℕ) → List MStep
place_after [] n = []
place_after (step ∷ []) n = step_after step n ∷ []
place_after (step ∷ next ∷ steps) n = step ∷ place_after (next ∷ steps) n

-- so many columns, the first so many parts or items after the place, and each one more than that before it
abbrev pub known_columns_from : List MStep → (sure : Bool) → (first count : ℕ) → List MKnownColumn
known_columns_from place sure first zero = []
known_columns_from place sure first (suc n) =
    record { place = place_after place first; sure = sure } ∷ known_columns_from place sure (suc first) n

abbrev pub plain_known_columns : KnownColumns → List MKnownColumn
plain_known_columns c = known_columns_from (plain_place c.place.now) (is_sure c.validity) 0 c.count

-- the place of what a name holds that leaves so many items out at each end, or none
abbrev pub side_place : List MStep → Option (ℕ × ℕ) → List MStep
side_place place None = place
side_place place (Some s) = place ++ MiddleStep s.0 s.1 ∷ []

abbrev pub plain_name : KnownName → MBind
plain_name n = record { name = n.name.now; mode = n.mode; place = side_place (plain_place n.place.now) n.sides }

-- so many uids, each one more than that before it
abbrev pub uids_from : (first count : ℕ) → List (Option ℕ)
uids_from first zero = []
uids_from first (suc n) = Some first ∷ uids_from (suc first) n

-- the uids of so many heads side by side
abbrev pub uids_of : (first : Option ℕ) → (count : ℕ) → List (Option ℕ)
uids_of None n = replicate n None
uids_of (Some first) n = uids_from first n

abbrev pub plain_known_heads : KnownHeads → List (Option ℕ)
plain_known_heads h = uids_of h.first h.count

-- the row that has these heads
abbrev pub plain_known_row : List KnownHeads → KnownRow → MKnownRow
plain_known_row heads r = record {
  heads = flat_map plain_known_heads heads;
  arm = r.arm;
  guarded = r.guarded;
  chosen = r.chosen.items;
  caught = map plain_name r.caught.items;
}

-- the rows, of which each has so many of the heads as it says, behind those of the row before it
abbrev pub plain_known_rows : List KnownHeads → List KnownRow → List MKnownRow
plain_known_rows heads [] = []
plain_known_rows heads (r ∷ rows) = plain_known_row (take r.size heads) r ∷ plain_known_rows (drop r.size heads) rows

abbrev pub plain_known_matrix : KnownMatrix → MKnownMatrix
plain_known_matrix m = record {
  columns = flat_map plain_known_columns m.columns.items;
  rows = plain_known_rows m.heads.items m.rows.items;
}

-- the matrices with the indices of their trees
abbrev pub known_entries : KnownTrees → List (MKnownMatrix × ℕ)
known_entries k = map (λ e. (plain_known_matrix e.0, e.1)) k.of.entries
