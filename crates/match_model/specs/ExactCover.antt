-- When a list of witnesses says exactly what a match leaves out, without saying anything twice (Maranget 2007, what
-- exhaustiveness lacks; exactness and order are our own choice).
use Rattle.std.specs.Prelude.{◌≡◌, ◌≢◌, ◌↔◌, ◌<◌, ℕ, false, List, Some, slice_get, IsTrue}
use Rattle.std.specs.List.{Contains}
use Rattle.match_model.specs.Values.{MValue, Unseen}
use Rattle.match_model.specs.Match.{ArmWays, is_covered}
use Rattle.match_model.specs.Witness.{MWitness, fits}
use Rattle.match_model.specs.WitnessOrder.{compare_witness, Before}

-- the values that no arm covers, but for a bare unseen, are those that fit a witness; each fits one, and each witness is
-- fitted by a value; an earlier one stands before a later one
pub record IsExactCover (Domain : MValue → Type 0) (arms : List ArmWays) (ws : List MWitness) : Type 0 where
  pub each_fitted : (w : MWitness) → Contains ws w → (v : MValue) × Domain v × (v ≢ Unseen) × IsTrue (fits w v)
  pub apart : (i j : ℕ) (w u : MWitness) (v : MValue) → slice_get ws i ≡ Some w → slice_get ws j ≡ Some u → i ≢ j →
      Domain v → IsTrue (fits w v) → IsTrue (fits u v) → ⊥
  pub uncovered : (v : MValue) → Domain v → v ≢ Unseen →
      (is_covered arms v ≡ false) ↔ ((w : MWitness) × Contains ws w × IsTrue (fits w v))
  pub ascending : (i j : ℕ) (w u : MWitness) → slice_get ws i ≡ Some w → slice_get ws j ≡ Some u → i < j →
      compare_witness w u ≡ Before
