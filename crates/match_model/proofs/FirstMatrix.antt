-- The first matrix has the ways of the arms.
use Rattle.std.proofs.Common.{◌≡◌, ℕ, suc, Bool, List, [], ◌∷◌, map, refl, ap}
use Rattle.std.specs.List.{flat_map}
use Rattle.match_model.specs.Values.{MValue}
use Rattle.match_model.specs.Ways.{Way}
use Rattle.match_model.specs.Select.{tries_from}
use Rattle.match_model.specs.ArenaPatterns.{MDeArm, MDeMatch}
use Rattle.match_model.specs.ArenaWays.{arena_ways, arena_arm}
use Rattle.match_model.specs.Matrices.{under_all, row_way, row_tries, first_rows, first_matrix, matrix_ways}
use Rattle.match_model.proofs.Joins.{combine_bare_right}

outermost : (ws : List Way) → map (under_all []) ws ≡ ws
outermost [] = refl
outermost (w ∷ ws) = ap (λ l. w ∷ l) (outermost ws)

nothing_chosen : (v : MValue) (ws : List Way) → map (row_way [] [] v) ws ≡ ws
nothing_chosen v [] = refl
nothing_chosen v (w ∷ ws) = ap (λ l. w ∷ l) (nothing_chosen v ws)

rows_from : {T : Type 0} (t : T) (sure : Bool) (j : ℕ) (arms : List (MDeArm T)) (v : MValue) →
    flat_map (row_tries (record { place = []; type = t; sure = sure } ∷ []) v) (first_rows j arms) ≡ tries_from j (map arena_arm arms) v
rows_from t sure j [] v = refl
rows_from t sure j (a ∷ rest) v =
    rw (outermost (arena_ways a.pat v), combine_bare_right (arena_ways a.pat v), nothing_chosen v (arena_ways a.pat v), rows_from t sure (suc j) rest v) refl

pub first_matrix_ways : {T : Type 0} (m : MDeMatch T) (v : MValue) → matrix_ways (first_matrix m) v ≡ tries_from 0 (map arena_arm m.arms) v
first_matrix_ways m v = rows_from m.type m.sure 0 m.arms v
