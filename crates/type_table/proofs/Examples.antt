-- Worked examples of types that have others by value.
use Rattle.match_model.specs.Declarations.{MProgram}
use Rattle.type_table.specs.Faults.{HasByValue, as_item}
use Rattle.match_model.specs.Types.{NeverType, ArrayType}

-- an array has its items by value, also where it has none
an_empty_array : (program : MProgram) → HasByValue program (ArrayType NeverType 0) NeverType
an_empty_array program = as_item NeverType 0
