use Rattle.std.proofs.Common.{◌≡◌, ℕ, map, take}
use Rattle.match_model.specs.Keys.{key_of}
use Rattle.keyed_matrix.specs.KeyLists.{DoAscend}
use Rattle.keyed_matrix.specs.Deciding.{plain_decision, table_decides}
use Rattle.keyed_matrix.proofs.keys.key_of.Given as goal

abbrev pub invariant-loop-uid : goal.invariant-loop-uid
invariant-loop-uid l =
    DoAscend (map plain_decision l.key.items)
    × ((o : ℕ) → key_of (map plain_decision l.key.items) o ≡ key_of (map (table_decides l.decisions) (take l.uid-index l.chosen)) o)
