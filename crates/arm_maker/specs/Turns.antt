-- No meaning: witnesses with their numbers, as they are sorted.
use denote.Bor.{Bor}
use Rattle.std.specs.Prelude.{◌≡◌, ℤ, List, map}
use Rattle.std.specs.declared.cmp.Ordering.{Ordering}
use Rattle.std.specs.Ordering.{int_cmp}
use Rattle.std.specs.Cmp.Lexicographic.{slice_cmp}
use Rattle.match_model.specs.Types.{MType}
use Rattle.match_model.specs.Declarations.{MProgram}
use Rattle.match_model.specs.Witness.{MWitness}
use Rattle.range_split.specs.declared.num.Num.{Num}
use Rattle.range_split.specs.Numbers.{num_value}
use Rattle.witnesses.specs.declared.witness.Witness.{Witness}
use Rattle.witnesses.specs.Views.{plain_witness}
use Rattle.arm_maker.specs.Keys.{arm_key}
use Rattle.arm_maker.specs.declared.order.Turn.{Turn}

-- numbers
abbrev pub values : List Num → List ℤ
values ns = map num_value ns

-- which of two keys is first, number by number
abbrev pub key_cmp : List Num → List Num → Ordering
key_cmp xs ys = slice_cmp int_cmp (values xs) (values ys)

-- witnesses behind loans
abbrev pub plain_loans : List (Bor Witness) → List MWitness
plain_loans ws = map (λ w. plain_witness w.now) ws

-- the witness of a turn
abbrev pub turn_witness : Turn → MWitness
turn_witness x = plain_witness x.witness.now

-- the witnesses of turns
abbrev pub turn_witnesses : List Turn → List MWitness
turn_witnesses turns = map turn_witness turns

-- which of two turns is first
abbrev pub turn_cmp : Turn → Turn → Ordering
turn_cmp x y = key_cmp x.key.items y.key.items

-- the key is the one of the witness
abbrev pub HasKey : MProgram → MType → Turn → Type 0
HasKey program t x = values x.key.items ≡ arm_key program t (turn_witness x)
