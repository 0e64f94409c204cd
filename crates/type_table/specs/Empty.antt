-- What it means that a type is empty, or a variant of it, at a place that is sure to hold a valid value (the documentation of
-- `rustc_pattern_analysis`, place validity and empty types).
use Rattle.std.specs.Prelude.{ℕ, Bool, true, false, IsTrue}
use Rattle.match_model.specs.Types.{MType}
use Rattle.match_model.specs.Values.{MValue}
use Rattle.match_model.specs.Declarations.{MProgram}
use Rattle.match_model.specs.Constructors.{OneVariant, builds_one}
use Rattle.match_model.specs.RustTypes.{RustValue}
use Rattle.type_table.specs.Faults.{IsEndless}

-- the type has no value, or has one
abbrev pub TellsEmpty : MProgram → MType → Bool → Type 0
TellsEmpty program t true = (v : MValue) → RustValue program t true v → ⊥
TellsEmpty program t false = (v : MValue) × RustValue program t true v

-- no value of the type is of the variant with this number, or one is; the variant of a tuple and of a struct is 0
abbrev pub TellsVariantEmpty : MProgram → MType → (variant : ℕ) → Bool → Type 0
TellsVariantEmpty program t k true = (v : MValue) → IsTrue (builds_one (OneVariant k) v) → RustValue program t true v → ⊥
TellsVariantEmpty program t k false = (v : MValue) × IsTrue (builds_one (OneVariant k) v) × RustValue program t true v

-- rule 36 is kept: each declared type has a finite value where a place is not sure to hold a valid one
abbrev pub NoneEndless : MProgram → Type 0
NoneEndless program = (i : ℕ) → IsEndless program i → ⊥
