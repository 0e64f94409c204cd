-- Which value of a type a text is read as (which texts stand for values is our own choice).
use Rattle.std.specs.Prelude.{◌≡◌, ℕ, Bool, List, Some, None}
use Rattle.match_model.specs.Declarations.{MProgram}
use Rattle.match_model.specs.Types.{MType}
use Rattle.match_model.specs.Values.{MValue}
use Rattle.value_syntax.specs.Grammar.{IsWritten}
use Rattle.value_syntax.specs.Trees.{WrittenTree}
use Rattle.value_text.specs.declared.reading.ValueFault.{ValueFault}
use Rattle.value_text.specs.declared.reading.ValueFault.TheVariants as faults
use Rattle.value_text.specs.Meanings.{meant}

-- the text writes this value of the type
abbrev pub IsReadValue : MProgram → (sure : Bool) → MType → (text : List ℕ) → MValue → Type 0
IsReadValue program sure t text v = (w : WrittenTree) × IsWritten text w × (meant program sure t w ≡ Some v)

-- the text writes no value of the type: by rule 40 it writes no value, by rule 41 the value that it writes is none of the
-- type there
pub data IsUnreadValue (program : MProgram) (sure : Bool) (t : MType) (text : List ℕ) : (rule : ℕ) → Type 0 where
  is_unwritten : ((w : WrittenTree) → IsWritten text w → ⊥) → IsUnreadValue program sure t text 40
  is_no_value : (w : WrittenTree) → IsWritten text w → meant program sure t w ≡ None → IsUnreadValue program sure t text 41

-- the fault is the one that the text has, or memory ran out
abbrev pub FaultIs : MProgram → (sure : Bool) → MType → (text : List ℕ) → ValueFault → Type 0
FaultIs program sure t text (faults.Rule rule) = IsUnreadValue program sure t text rule
FaultIs program sure t text faults.NoMemory = Unit {0}
