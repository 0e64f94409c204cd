use Rattle.std.proofs.Common.{◌≡◌, false, take, slice_index_or}
use Rattle.usefulness.specs.Compact.{used_of}
use Rattle.usefulness.specs.States.{plain_opens}
use Rattle.usefulness.proofs.compact.kept_columns.Given as goal

abbrev pub invariant-loop-column : goal.invariant-loop-column
invariant-loop-column g l = plain_opens l.kept.items ≡ used_of (λ c. slice_index_or l.used c false) (plain_opens (take l.column-index l.columns))
