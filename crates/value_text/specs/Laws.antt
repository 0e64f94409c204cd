-- What follows of the definitions.
use Rattle.std.specs.Prelude.{◌≡◌, Bool, List, ℕ, Some, IsTrue}
use Rattle.match_model.specs.Declarations.{MProgram}
use Rattle.match_model.specs.Types.{MType}
use Rattle.match_model.specs.Typing.{is_value}
use Rattle.match_model.specs.Values.{MValue}
use Rattle.value_syntax.specs.Trees.{WrittenTree}
use Rattle.value_text.specs.Meanings.{meant}
use Rattle.value_text.specs.Reading.{IsReadValue}

-- a written value is only ever a value of the type
abbrev pub MeansValues : Type 0
MeansValues =
    (program : MProgram) (sure : Bool) (t : MType) (w : WrittenTree) (v : MValue) → meant program sure t w ≡ Some v →
    IsTrue (is_value program sure t v)

-- a text is read as values of the type only
abbrev pub ReadsValues : Type 0
ReadsValues =
    (program : MProgram) (sure : Bool) (t : MType) (text : List ℕ) (v : MValue) → IsReadValue program sure t text v →
    IsTrue (is_value program sure t v)

-- a text is read as one value of the type at most
abbrev pub ReadsOne : Type 0
ReadsOne =
    (program : MProgram) (sure : Bool) (t : MType) (text : List ℕ) (u v : MValue) → IsReadValue program sure t text u →
    IsReadValue program sure t text v → u ≡ v
