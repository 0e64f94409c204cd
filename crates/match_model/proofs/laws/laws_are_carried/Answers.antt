use Rattle.match_model.specs.ContextViews.{Passing, ValuesPassing}
use Rattle.match_model.proofs.Carried.{values_carry, parts_carry, empty_carries, unsure_carries}
use Rattle.match_model.proofs.laws.laws_are_carried.Goals as goal

pub returns : goal.returns
returns g c = record {
  values = λ f is_type_s is_type is_value cy cx. values_carry f (Passing is_type_s) (Passing is_type) (ValuesPassing is_value) cy cx;
  parts = λ f is_type_s is_type is_value cy cx. parts_carry f (Passing is_type_s) (Passing is_type) (ValuesPassing is_value) cy cx;
  empty = λ f is_type_s is_type is_value cy cx is_empty variant_empty w. empty_carries f (Passing is_type_s) (Passing is_type) (ValuesPassing is_value) cy cx w is_empty variant_empty;
  unsure = λ f is_type_s is_type is_value cy cx. unsure_carries f (Passing is_type_s) (Passing is_type) (ValuesPassing is_value) cy cx;
}
