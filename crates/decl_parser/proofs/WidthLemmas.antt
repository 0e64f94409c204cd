-- Fields that are too many, by their number.
use Rattle.std.proofs.Common.{◌≡◌, ◌<◌, ◌≤◌, Bool, true, List, length}
use Rattle.decl_syntax.proofs.WidthLemmas.{above, within}
use Rattle.decl_syntax.specs.Items.{FieldItem}
use Rattle.decl_parser.specs.ItemWidths.{fields_are_wide, some_field_is_wide}

pub many_fields : (xs : List FieldItem) → 256 < length xs → true ≡ fields_are_wide xs
many_fields xs l = above (length xs) (some_field_is_wide xs) l

pub few_fields : (xs : List FieldItem) (a : Bool) → length xs ≤ 256 → a ≡ some_field_is_wide xs → a ≡ fields_are_wide xs
few_fields xs a l e = within (length xs) a (some_field_is_wide xs) l e
