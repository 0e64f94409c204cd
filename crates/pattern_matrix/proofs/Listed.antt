-- The laws of the steps, together.
use Rattle.std.proofs.Common.{ap, Bool, true, false, ◌∷◌, ◌++◌, length}
use Rattle.match_model.specs.Values.{MValue}
use Rattle.match_model.specs.Contexts.{Context}
use Rattle.match_model.specs.ContextLaws.{PartsLaw, ValuesLaw}
use Rattle.match_model.specs.Rows.{parts_open}
use Rattle.pattern_matrix.specs.Searching.{apart, settled}
use Rattle.pattern_matrix.specs.Sparse.{columns_from}
use Rattle.pattern_matrix.specs.Spreading.{all_apart}
use Rattle.pattern_matrix.specs.Wanted.{wanted_views}
use Rattle.pattern_matrix.specs.ListedSteps.{BareSubmatricesAreAlike, AlikeRowsHaveTheWitnesses, LeavesAreTyped, NumbersHaveThePiece, StepsAreListed}
use Rattle.pattern_matrix.proofs.BareCounts.{counts_bare, fit_bare, comes_bare, weighs_bare}
use Rattle.pattern_matrix.proofs.BareSplits.{bare_split_is_look}
use Rattle.pattern_matrix.proofs.BareWitnesses.{alike_witnesses}
use Rattle.pattern_matrix.proofs.LeavesTyped.{leaves_typed, leaves_sharp, leaves_write}
use Rattle.pattern_matrix.proofs.Numbers as numbers
use Rattle.pattern_matrix.proofs.WantedSteps.{wanted_apart, wanted_settled, wanted_enters, wanted_left}
use Rattle.pattern_matrix.proofs.WantedHeads.{ctors_listed, wild_listed, none_listed, some_listed}

pub bare_alike : {T : Type 0} (IsType : T → Type 0) (IsValue : T → Bool → MValue → Type 0) (cx : Context T) → ValuesLaw IsType IsValue cx →
    PartsLaw IsType IsValue cx → BareSubmatricesAreAlike IsType IsValue cx
bare_alike IsType IsValue cx values law = record {
  same_counts = counts_bare;
  fit = fit_bare IsType IsValue cx;
  comes = comes_bare IsType IsValue cx;
  weighs = weighs_bare;
  by_split = bare_split_is_look IsType IsValue cx values law;
}

pub rows_witness : {T : Type 0} (IsValue : T → Bool → MValue → Type 0) (cx : Context T) → AlikeRowsHaveTheWitnesses IsValue cx
rows_witness IsValue cx = λ places xs ys ws w e. alike_witnesses IsValue cx places xs ws w ys e

pub leaves_are_typed : {T : Type 0} (IsType : T → Type 0) (IsValue : T → Bool → MValue → Type 0) (cx : Context T) → PartsLaw IsType IsValue cx →
    LeavesAreTyped IsType cx
leaves_are_typed IsType IsValue cx law = record {
  typed = λ o places column others rows h. leaves_typed cx o places column 0 others rows h;
  sharp = leaves_sharp cx;
  parts = leaves_write IsType IsValue cx law;
}

pub numbers_have : {T : Type 0} → NumbersHaveThePiece T
numbers_have = record {
  found = λ i spans. numbers.found_have i spans (columns_from 0 (length spans));
  below = λ pieces i d h leaves spans are. numbers.below pieces i d h leaves spans are;
  parts = λ pieces i d h leaves spans are count w. numbers.parts pieces i d h leaves spans are count w;
  leaf_of = λ pieces i d h leaves spans are count w. numbers.leaf_of pieces i d h leaves spans are count w;
}

pub steps_listed : {T : Type 0} → StepsAreListed T
steps_listed = record {
  ctors = ctors_listed;
  wild = wild_listed;
  none = none_listed;
  some = some_listed;
  drops = λ places column others wanted rows e lacks.
      ap (λ rs. record { places = places; rows = rs }) (wanted_left column others lacks wanted rows (all_apart column 0 rows) (apart (wanted_views (column ∷ others) wanted rows)) (wanted_apart column others wanted rows e));
  enters = λ cx o places piece column first others wanted rows e lacks below parts.
      ap (λ rs. record { places = parts_open cx o piece ++ places; rows = rs })
      (wanted_enters piece column first (cx.arity piece o.type) others lacks wanted false rows below (all_apart column 0 rows) (apart (wanted_views (column ∷ others) wanted rows)) (wanted_apart column others wanted rows e) parts);
  settles = λ cx o places piece column first others wanted rows e lacks below parts.
      ap (λ rs. record { places = parts_open cx o piece ++ places; rows = rs })
      (wanted_enters piece column first (cx.arity piece o.type) others lacks wanted true rows below (all_apart column 0 rows) (settled (apart (wanted_views (column ∷ others) wanted rows)))
      (wanted_settled others wanted rows (all_apart column 0 rows) (apart (wanted_views (column ∷ others) wanted rows)) (wanted_apart column others wanted rows e)) parts);
}
