-- Parts of values that are lent.
use Rattle.std.specs.Prelude.{ℕ, ◌+◌, ◌-◌, ◌&&◌, List, map, length, nat_lt, nat_le, slice_get, Option}
use Rattle.match_model.specs.Values.{MValue, Row, values_of}
use Rattle.match_model.specs.Matching.{middle_of}
use Rattle.match_model.specs.Places.{some_if, found_if}
use Rattle.tree_eval.specs.declared.value.Value.{Value}
use Rattle.tree_eval.specs.Views.{plain_value}
use Rattle.tree_runs.specs.declared.part.Part.{Part}
use Rattle.tree_runs.specs.declared.part.Part.TheVariants as p

-- the row of these items
abbrev pub row_of : List Value → MValue
row_of items = Row (values_of (map plain_value items))

-- the part, as the definitions have it: a whole value, or the row of items that stand side by side in one
abbrev pub plain_part : Part → MValue
plain_part (p.Whole v) = plain_value v.now
plain_part (p.Items items) = row_of items.now

-- the item with the number from the back, from 1
abbrev pub item_from_back : List MValue → ℕ → Option MValue
item_from_back items i = found_if (nat_lt 0 i && nat_le i (length items)) (slice_get items (length items - i))

-- the row of the items without so many at each end
abbrev pub items_between : List MValue → (front back : ℕ) → Option MValue
items_between items front back = some_if (nat_le (front + back) (length items)) (middle_of front back items)
