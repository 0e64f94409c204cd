-- The heads of a row, however they are kept.
use Rattle.std.specs.Prelude.{List, [], ◌∷◌, take, drop}
use Rattle.std.specs.Rc.{rc_slice_items}
use Rattle.pattern_matrix.specs.declared.rows.Head.{Head}
use Rattle.pattern_matrix.specs.declared.heads.HeadPart.{HeadPart}
use Rattle.pattern_matrix.specs.declared.heads.Heads.{Heads}
use Rattle.pattern_matrix.specs.declared.heads.Heads.TheVariants.{Bare, One, Several}

-- the heads of part of a list
abbrev pub part_heads : {T : Type 0} → HeadPart T → List (Head T)
part_heads p = take p.count (drop p.first (rc_slice_items p.list))

-- the heads, in order
abbrev pub kept_heads : {T : Type 0} → Heads T → List (Head T)
kept_heads Bare = []
kept_heads (One one) = one ∷ []
kept_heads (Several part) = part_heads part
