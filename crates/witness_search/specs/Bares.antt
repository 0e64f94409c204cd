-- Rows of heads without the names that wildcards bind.
use Rattle.std.specs.Prelude.{List, [], ◌∷◌, map, cond}
use Rattle.std.specs.List.{flat_map}
use Rattle.match_model.specs.Rows.{Head, starts_wild, row_rest}
use Rattle.pattern_matrix.specs.Sparse.{bare_head}

-- the heads without these names
abbrev pub bares : {T : Type 0} → List (List (Head T)) → List (List (Head T))
bares rows = map (map bare_head) rows

-- the rows whose first head is a wildcard, without that head
abbrev pub wild_rests : {T : Type 0} → List (List (Head T)) → List (List (Head T))
wild_rests rows = flat_map (λ hs. cond (starts_wild hs) (row_rest hs ∷ []) []) rows
