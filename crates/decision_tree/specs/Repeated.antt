-- Rows of which those that come again in their arm are left out (our own choice).
use Rattle.std.specs.Prelude.{◌≡◌, ℕ, false, List, [], ◌∷◌, ◌++◌, Option, map}
use Rattle.match_model.specs.Lists.{Among}
use Rattle.match_model.specs.Matrices.{MRow}
use Rattle.decision_tree.specs.Known.{head_uid}

-- the uids of the row's heads
abbrev pub row_uids : {T : Type 0} → MRow T → List (Option ℕ)
row_uids r = map head_uid r.heads

-- the row repeats the first: it has the heads of that row of its arm, which has no guard
pub record IsRepeated {T : Type 0} (first r : MRow T) : Type 0 where
  pub unguarded : first.guarded ≡ false
  pub arm : first.arm ≡ r.arm
  pub heads : row_uids first ≡ row_uids r

-- the rows that are left of these: each that is not repeats one that is left and stands before it
pub data AreLeftOf {T : Type 0} : (rows left : List (MRow T)) → Type 0 where
  none_left : AreLeftOf [] []
  one_stays : (rows left : List (MRow T)) (r : MRow T) → AreLeftOf rows left → AreLeftOf (rows ++ r ∷ []) (left ++ r ∷ [])
  one_goes : (rows left : List (MRow T)) (first r : MRow T) → AreLeftOf rows left → Among first left →
      IsRepeated first r → AreLeftOf (rows ++ r ∷ []) left
