-- The constructors of several columns, in a list for each.
use Rattle.std.specs.Prelude.{◌≡◌, ℕ, Bool, true, List, [], ◌++◌, map, length, get_or, Some, None, slice_get}
use Rattle.std.specs.Global.{Vec}
use Rattle.match_model.specs.Constructors.{MCtor}
use Rattle.match_model.specs.Rows.{Head, wildcards, choices_of}
use Rattle.pat_context.specs.Views.{plain_ctor}
use Rattle.pat_context.specs.declared.ctor.Ctor.{Ctor}
use Rattle.keyed_matrix.specs.Choosing.{ctors_chosen}

-- the constructors in list `i`
abbrev pub ctors_in : List (Vec Ctor) → (i : ℕ) → List MCtor
ctors_in lists i = get_or (map (λ ctors. map plain_ctor ctors.items) lists) i []

-- those of the head, once it is taken apart
abbrev pub head_ctors : {T : Type 0} → Head T → List MCtor
head_ctors None = []
head_ctors (Some p) = ctors_chosen (choices_of p)

-- those of the head in column `i`, where the first of the heads stands in column `at`; none where no head stands
abbrev pub ctors_from : {T : Type 0} → (at : ℕ) → List (Head T) → (i : ℕ) → List MCtor
ctors_from at heads i = head_ctors (get_or (wildcards at ++ heads) i None)

-- the list of each wanted column has these constructors more, by the number of the column
pub record HaveMore (wanted : List Bool) (old new : List (Vec Ctor)) (more : ℕ → List MCtor) : Type 0 where
  pub long : length new ≡ length old
  pub ctors : (i : ℕ) → slice_get wanted i ≡ Some true → ctors_in new i ≡ ctors_in old i ++ more i
