-- Rows that take all values of their places leave no witness.
use Rattle.std.proofs.Common.{ℕ, suc, Bool, List, arith}
use Rattle.match_model.specs.Values.{MValue}
use Rattle.match_model.specs.Contexts.{Context, Open}
use Rattle.match_model.specs.ContextLaws.{PartsLaw, ValuesLaw, EmptyLaw, UnsureLaw}
use Rattle.match_model.specs.Rows.{Head}
use Rattle.pattern_matrix.proofs.Lighter.{total}
use Rattle.pattern_matrix.proofs.NoneLeft.{LeaveNone, none_left}

module _ {T : Type 0} (IsType : T → Type 0) (IsValue : T → Bool → MValue → Type 0) (cx : Context T) (values : ValuesLaw IsType IsValue cx) (law : PartsLaw IsType IsValue cx)
    (is_empty : T → Bool) (variant_empty : T → ℕ → Bool) (empty : EmptyLaw IsType IsValue cx is_empty variant_empty) (unsure : UnsureLaw IsType IsValue) where
  pub taking_rows_leave_none : (places : List (Open T)) (hss : List (List (Head T))) → LeaveNone IsType IsValue cx values law is_empty variant_empty empty unsure places hss
  taking_rows_leave_none places hss = none_left IsType IsValue cx values law is_empty variant_empty empty unsure (suc (total hss)) places hss (omega arith)
